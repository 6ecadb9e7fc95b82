use Rattle.std.proofs.Common.{Bool, ◌&&◌, sym, ap, ◌∙◌, false, option_copied}
use Rattle.std.specs.Option.{option_map_or}
use Rattle.cluster_types.specs.Evaluation.{peers_contain_pod, defines}
use Rattle.cluster_types.specs.Pod.{PodData, has_address}
use Rattle.policy_order.proofs.Counting.{and_counts, any_address_last}
use Rattle.policy_order.proofs.services.peer_defines.Goals as goal

pub returns-in-Some : goal.returns-in-Some
returns-in-Some c =
    let cluster = c.args.asked.now.cluster.now.cluster in
    let question = c.args.asked.now.question.now in
    let test : PodData → Bool = λ d. peers_contain_pod cluster d c.args.rule.now.peers && defines question c.args.name.now d in
    let stands = c.args.asked.now.stands test (λ p. and_counts cluster c.args.rule.now.peers p (defines question c.args.name.now p)) in
    c.names_port.ensures ∙ sym (any_address_last (λ d. has_address question.peer d) (λ d. peers_contain_pod cluster d c.args.rule.now.peers) (λ d. defines question c.args.name.now d) cluster.pods
    ∙ (stands ∙ ap (λ o. option_map_or test (option_copied o) false) c.in-Some.is))

pub returns-in-None : goal.returns-in-None
returns-in-None c =
    let cluster = c.args.asked.now.cluster.now.cluster in
    let question = c.args.asked.now.question.now in
    let test : PodData → Bool = λ d. peers_contain_pod cluster d c.args.rule.now.peers && defines question c.args.name.now d in
    let stands = c.args.asked.now.stands test (λ p. and_counts cluster c.args.rule.now.peers p (defines question c.args.name.now p)) in
    sym (any_address_last (λ d. has_address question.peer d) (λ d. peers_contain_pod cluster d c.args.rule.now.peers) (λ d. defines question c.args.name.now d) cluster.pods
    ∙ (stands ∙ ap (λ o. option_map_or test (option_copied o) false) c.in-None.is))
