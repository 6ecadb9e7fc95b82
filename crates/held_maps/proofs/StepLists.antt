-- Steps as they are made and taken, one after another.
use Rattle.std.proofs.Common.{◌≡◌, ℕ, ◌+◌, List, [], ◌∷◌, ◌++◌, Option, refl, sym, ap, ◌∙◌, arith, append_assoc}
use Rattle.std.specs.Option.{option_to_list}
use Rattle.watch_streams.specs.declared.message.StreamObject.{StreamObject}
use Rattle.held_maps.specs.declared.rows.Rows.{Rows}
use Rattle.held_maps.specs.declared.steps.Step.{Step}
use Rattle.watch_streams.specs.Net.{NetPolicyData, NetEgressData}
use Rattle.held_maps.specs.Rows.{HasRows}
use Rattle.held_maps.specs.Steps.{backwards, after_step, after_steps, policies_after, policies_after_steps, egresses_after, egresses_after_steps}

pub fewer : {T : Type 0} (title : T → List ℕ) (more : ℕ) (rows : Rows T) → HasRows title (more + 1) rows → HasRows title more rows
fewer title more rows h = record { titles = h.titles; title_places = omega (arith, h.title_places); object_places = omega (arith, h.object_places) }

-- ---- making steps

pub append_nothing : (steps : List Step) → steps ++ [] ≡ steps
append_nothing [] = refl
append_nothing (st ∷ steps) = ap (λ l. st ∷ l) (append_nothing steps)

module _ {X : Type 0} (f : X → Option Step) where
  last_first : (xs : List X) (x : X) → backwards f (xs ++ x ∷ []) ≡ option_to_list (f x) ++ backwards f xs
  last_first [] x = sym (append_nothing (option_to_list (f x)))
  last_first (y ∷ xs) x = ap (λ l. l ++ option_to_list (f y)) (last_first xs x) ∙ append_assoc (option_to_list (f x)) (backwards f xs) (option_to_list (f y))

  pub with_step : (steps more all : List Step) (xs rest : List X) (x : X) (o : Option Step) → steps ++ backwards f xs ≡ all → xs ≡ rest ++ x ∷ [] → o ≡ f x → more ≡ steps ++ option_to_list o → more ++ backwards f rest ≡ all
  with_step steps more all xs rest x o before split is one =
      ap (λ l. l ++ backwards f rest) (one ∙ ap (λ p. steps ++ option_to_list p) is)
      ∙ append_assoc steps (option_to_list (f x)) (backwards f rest) ∙ ap (λ l. steps ++ l) (sym (last_first rest x)) ∙ ap (λ l. steps ++ backwards f l) (sym split) ∙ before

-- ---- taking steps

pub taken_step : (steps : List Step) (st : Step) (os : List StreamObject) → after_steps (steps ++ st ∷ []) os ≡ after_steps steps (after_step st os)
taken_step [] st os = refl
taken_step (x ∷ steps) st os = ap (after_step x) (taken_step steps st os)

pub taken_policy : (steps : List Step) (st : Step) (ps : List NetPolicyData) → policies_after_steps (steps ++ st ∷ []) ps ≡ policies_after_steps steps (policies_after st ps)
taken_policy [] st ps = refl
taken_policy (x ∷ steps) st ps = ap (policies_after x) (taken_policy steps st ps)

pub taken_egress : (steps : List Step) (st : Step) (es : List NetEgressData) → egresses_after_steps (steps ++ st ∷ []) es ≡ egresses_after_steps steps (egresses_after st es)
taken_egress [] st es = refl
taken_egress (x ∷ steps) st es = ap (egresses_after x) (taken_egress steps st es)
