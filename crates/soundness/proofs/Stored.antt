-- A stored definition gives its function's value.
use Rattle.std.proofs.Common.{◌≡◌, ℕ, ◌-◌, Bool, arith, true, false, List, [], ◌∷◌, refl, sym, ap, ◌∙◌, subst}
use Rattle.std.proofs.lemmas.Bool.Decides.{nat_tests}
use Rattle.std.specs.Prelude.{ℤ, nat_le}
use Rattle.numeric.specs.declared.ty.Ty.{Ty}
use Rattle.tree.specs.declared.value.Value.{Value}
use Rattle.tree.specs.Term.{Term}
use Rattle.tree.specs.Meaning.{value_of, typed}
use Rattle.meaning.specs.Algorithm.{Algorithm, Function, Change}
use Rattle.meaning.specs.Names.{bound}
use Rattle.meaning.specs.Reduction.{size}
use Rattle.meaning.specs.Value.{Calls, calls_of, value_after, value_updated, value_stepped, pure_value}
use Rattle.meaning.specs.Conditions.{names_in}
use Rattle.plan.specs.Semantics.Actions.{Action, Allot, Take, Put, Change as Update, Give, Target}
use Rattle.plan.specs.Semantics.Run.{Around, Source, Input, ByClaim, Unknown}
use Rattle.soundness.specs.Origins.{Given, Plain, answer, source_answer}
use Rattle.soundness.specs.Right.{IsRight, AreRight}
use Rattle.soundness.specs.Stored.{source_name, meant_name, as_calls, IsDefinition, AreDefinitions, KeepsValues, IsOfAlgorithm, AreFetchedRight, DefinitionsAreRight}
use Rattle.soundness.proofs.Renamed.{renamed_value}
use Rattle.soundness.proofs.Updates.{set_right, others_kept}

zero_least : (n : ℕ) → nat_le 0 n ≡ true
zero_least n = grind (arith, nat_tests)

-- after no step a function has its pure value
no_step : (calls : Calls) (f : Function) (before : List ℤ → ℤ) (us : List Change) (p : List ℤ) → value_stepped calls f before us 0 p ≡ before p
no_step calls f before [] p = refl
no_step calls f before (u ∷ us) p =
    ap (λ (v : Bool). (elim v as (λ w. List ℤ → ℤ) [ true ↦ value_after calls f before u 0 | false ↦ value_stepped calls f (value_updated calls f before u) us (0 - size u.ranges) ]) p) (zero_least (size u.ranges))

value_parts : (v : Value) (t : Ty) → v.ty ≡ t → v ≡ typed t v.number
value_parts v t e = λ i. record { ty = e i; number = v.number }

module _ (a : Algorithm) (samples : List ℕ) (put_in : Term → Term) (given : Given) (of : IsOfAlgorithm a samples given) (keeps : KeepsValues a samples put_in) where
  -- a read answers what a call of what it means answers
  source_meant : (from : Source) (name : List ℕ) (p : List ℤ) → source_answer given Plain from name p ≡ calls_of a samples (source_name given from name) p
  source_meant Input name p = of.calls name p
  source_meant (ByClaim c) name p = of.whole (given.outline.claim c).function p
  source_meant Unknown name p = of.calls name p

  pub stored_value : (variables : List ℕ → ℤ) (e d : Term) → as_calls given e ≡ put_in d → value_of variables (answer given Plain) e ≡ value_of variables (calls_of a samples) d
  stored_value variables e d same =
      ap (λ calls. value_of variables calls e) (λ i name p. source_meant (given.outline.source name) name p i)
      ∙ sym (renamed_value variables (calls_of a samples) (meant_name given) e)
      ∙ ap (value_of variables (calls_of a samples)) same
      ∙ keeps.value variables d

  put_right : (around : Around) (b : ℕ) (f : List ℕ) (names : List (List ℕ)) (p : List ℤ) (e : Term) → IsDefinition a put_in given (Put b f names p e) → IsRight around given (Put b f names p e)
  put_right around b f names p e h =
      let g = h.0 in
      let named = h.1 in
      stored_value (bound names p) e g.value h.3
      ∙ ap (λ ns. value_of (bound ns p) (calls_of a samples) g.value) h.2
      ∙ value_parts _ g.ty (keeps.of_type f g (bound g.variables p) named)
      ∙ ap (typed g.ty) (sym (no_step (calls_of a samples) g (pure_value (calls_of a samples) g) g.changes p))
      ∙ sym (of.stepped f g 0 p named)

  change_right : (around : Around) (b : ℕ) (f : List ℕ) (k : ℕ) (names : List (List ℕ)) (at : List Target) (over : List ℤ) (e : Term) →
      IsDefinition a put_in given (Update b f k names at over e) → IsRight around given (Update b f k names at over e)
  change_right around b f k names at over e (g, i, u, named, number, stands_at, variables, left, same) =
      subst (λ ns. IsRight around given (Update b f k ns at over e)) (sym variables)
      (subst (λ j. IsRight around given (Update b f j (names_in g u) at over e)) (sym number) (λ inside.
      let within = of.domain f g i u over named stands_at inside in (
        set_right a samples put_in given of keeps f g named i u stands_at over at e left same within,
        others_kept a samples put_in given of keeps f g named i u stands_at over at e left same within,
      )))

  pub definition_right : (around : Around) (todo : List Action) →
      AreFetchedRight around given todo → AreDefinitions a put_in given todo → AreRight around given todo
  definition_right around [] fetched h = tt
  definition_right around (Allot b rooms ∷ later) fetched h = (tt, definition_right around later fetched.1 h.1)
  definition_right around (Take b f p ∷ later) fetched h = (fetched.0, definition_right around later fetched.1 h.1)
  definition_right around (Put b f names p e ∷ later) fetched h = (put_right around b f names p e h.0, definition_right around later fetched.1 h.1)
  definition_right around (Update b f k names at over e ∷ later) fetched h = (change_right around b f k names at over e h.0, definition_right around later fetched.1 h.1)
  definition_right around (Give c p ∷ later) fetched h = (tt, definition_right around later fetched.1 h.1)

pub definitions_right : DefinitionsAreRight
definitions_right a samples put_in around given todo of keeps fetched h = definition_right a samples put_in given of keeps around todo fetched h
