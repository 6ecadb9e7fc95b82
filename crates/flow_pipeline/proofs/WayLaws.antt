-- A packet that a side stops is stopped by what this side said.
use Rattle.std.proofs.Common.{◌≡◌, ◌||◌, Bool, true, false, Option, Some, None, cond, refl}
use Rattle.std.specs.List.{find}
use Rattle.cl_types.specs.Judgement.{Judgement}
use Rattle.cl_types.specs.declared.question.Packet.{Packet}
use Rattle.cl_types.specs.declared.question.Question.{Question}
use Rattle.cl_types.specs.declared.addr.Addr.{Addr}
use Rattle.cl_types.specs.declared.keys.Dir.TheVariants.{Ingress, Egress}
use Rattle.flow_pipeline.specs.Way.{Choice, Ending, stopped, spoofed, no_port, delivered, leaves, WayData, NodeFacts, PodPort, OtherNode, gateway_port, is_gateway, is_within, port_of_source, port_of_destination, choice_of, delivered_or, tunnelled_or, routed, is_spoofed, is_with_gateway, asked, stops, unasked, after_egress, IsStoppedBy, IsStoppedByItsSide, way}

delivered_free : (a b : Option Judgement) (q : Option PodPort) (e : Ending) → IsStoppedBy a b e → IsStoppedBy a b (delivered_or q e)
delivered_free a b None e h = h
delivered_free a b (Some q) e h = tt

tunnelled_free : (a b : Option Judgement) (m : Option OtherNode) (e : Ending) → IsStoppedBy a b e → IsStoppedBy a b (tunnelled_or m e)
tunnelled_free a b None e h = h
tunnelled_free a b (Some m) e h = tt

either_free : (a b : Option Judgement) (test : Bool) (d e : Ending) → IsStoppedBy a b d → IsStoppedBy a b e → IsStoppedBy a b (cond test d e)
either_free a b true d e g h = g
either_free a b false d e g h = h

routed_free : (a b : Option Judgement) (choose : Addr → Choice) (is_marked : Addr → Bool) (n : NodeFacts) (p : Packet) → IsStoppedBy a b (routed choose is_marked n p)
routed_free a b choose is_marked n p =
    let last = cond (is_within n.own p.dst) no_port (leaves (choice_of choose is_marked n p)) in
    let other = find (λ (m : OtherNode). is_within m.blocks p.dst) n.others in
    delivered_free a b (port_of_destination n p) (cond (is_gateway n p.dst) (delivered gateway_port) (tunnelled_or other last))
    (either_free a b (is_gateway n p.dst) (delivered gateway_port) (tunnelled_or other last) tt
    (tunnelled_free a b other last
    (either_free a b (is_within n.own p.dst) no_port (leaves (choice_of choose is_marked n p)) tt tt)))

asked_free : (a b : Option Judgement) (e : Ending) → IsStoppedBy a b e → IsStoppedByItsSide (after_egress a b e)
asked_free a b e h =
    elim (stops a) as (λ s. stops a ≡ s → IsStoppedByItsSide (cond s (record { egress = a; ingress = None; end = stopped Egress }) (cond (stops b) (record { egress = a; ingress = b; end = stopped Ingress }) (record { egress = a; ingress = b; end = e })))) [
      | true ↦ λ is. is
      | false ↦ λ is. elim (stops b) as (λ s. stops b ≡ s → IsStoppedByItsSide (cond s (record { egress = a; ingress = b; end = stopped Ingress }) (record { egress = a; ingress = b; end = e }))) [
        | true ↦ λ so. so
        | false ↦ λ so. h
      ] refl
    ] refl

case_free : (test : Bool) (v w : WayData) → IsStoppedByItsSide v → IsStoppedByItsSide w → IsStoppedByItsSide (cond test v w)
case_free true v w g h = g
case_free false v w g h = h

pub way-stops : (judge : Question → Judgement) (choose : Addr → Choice) (is_marked : Addr → Bool) (n : NodeFacts) (known : Bool) (p : Packet) → IsStoppedByItsSide (way judge choose is_marked n known p)
way-stops judge choose is_marked n known p =
    let egress = asked judge Egress (port_of_source n p) p in
    let ingress = asked judge Ingress (port_of_destination n p) p in
    let end = routed choose is_marked n p in
    case_free (is_spoofed p (port_of_source n p)) (unasked spoofed) (cond (known || is_with_gateway n p) (unasked end) (after_egress egress ingress end)) tt
    (case_free (known || is_with_gateway n p) (unasked end) (after_egress egress ingress end)
    (routed_free None None choose is_marked n p)
    (asked_free egress ingress end (routed_free egress ingress choose is_marked n p)))
