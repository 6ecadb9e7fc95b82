-- What an agent answers of what it holds (this project's own).
use Rattle.std.specs.Prelude.{◌≡◌, ℕ, List, [], ◌∷◌, find, map, Some}
use Rattle.cl_types.specs.Judgement.{Judgement}
use Rattle.cl_types.specs.declared.question.Question.{Question}
use Rattle.cl_types.specs.declared.stream.Rev.{Rev}
use Rattle.run_machine.specs.Machine.{OfStreams, SiteData}
use Rattle.suite_run.specs.World.{has_name}
use Rattle.watch_streams.specs.HeldEvaluation.{held_side}

-- in the order of the streams
abbrev pub numbers_in_order : OfStreams ℕ → List ℕ
numbers_in_order revisions = revisions.policies ∷ revisions.addresses ∷ revisions.applied ∷ []

-- the revisions of the node's maps, and the verdict of what they hold
pub record AnswersOf (node : List ℕ) (q : Question) (sites : List SiteData) (revisions : List Rev) (judgement : Judgement) : Type 0 where
  pub site : SiteData
  pub stands : find (has_name node) sites ≡ Some site
  pub numbers : map (λ (rev : Rev). rev.0) revisions ≡ numbers_in_order site.revisions
  pub judged : judgement ≡ held_side site.maps q
