-- What a plan does inside steps, step by step.
use Rattle.std.proofs.Common.{◌≡◌, Bool, true, false, List, [], ◌∷◌, ◌++◌, refl, sym, ap, ◌∙◌, append-nil}
use Rattle.std.specs.Prelude.{if◌then◌else◌, int_le}
use Rattle.std.specs.List.{flat_map}
use Rattle.std.proofs.lemmas.List.Concat.{flat_map-append}
use Rattle.plan.specs.declared.stmt.Pick.TheVariants.{Min, Max}
use Rattle.plan.specs.Symbols.{bind, form_value, largest, smallest, turns}
use Rattle.plan.specs.Semantics.Actions.{block_actions}
use Rattle.sched.specs.declared.skeleton.Step.TheVariants.{Turns, Named, Tested}
use Rattle.sched.specs.Visits.{arrivals}
use Rattle.sched.specs.Runs.{lines_to, ArrivalsAreRuns}

-- at each turn the same as at each arrival of the turn
flat_twice : {A B C : Type 0} (f : B → List C) (g : A → List B) (h : A → List C) → ((a : A) → h a ≡ flat_map f (g a)) → (xs : List A) → flat_map h xs ≡ flat_map f (flat_map g xs)
flat_twice f g h e [] = refl
flat_twice f g h e (x ∷ xs) = ap (λ l. l ++ flat_map h xs) (e x) ∙ ap (λ l. flat_map f (g x) ++ l) (flat_twice f g h e xs) ∙ sym (flat_map-append f (g x) (flat_map g xs))

pub arrivals_are_runs : ArrivalsAreRuns
arrivals_are_runs setting [] inner s = sym (append-nil (block_actions setting inner s))
arrivals_are_runs setting (Turns i x kind ∷ steps) inner s =
    append-nil (flat_map (λ z. block_actions setting (lines_to steps inner) (bind s i z (int_le z (largest s x.lower)))) (turns s x))
    ∙ flat_twice (block_actions setting inner) (λ z. arrivals steps (bind s i z (int_le z (largest s x.lower))))
    (λ z. block_actions setting (lines_to steps inner) (bind s i z (int_le z (largest s x.lower))))
    (λ z. arrivals_are_runs setting steps inner (bind s i z (int_le z (largest s x.lower)))) (turns s x)
arrivals_are_runs setting (Named i Min forms ∷ steps) inner s = arrivals_are_runs setting steps inner (bind s i (smallest s forms) true)
arrivals_are_runs setting (Named i Max forms ∷ steps) inner s = arrivals_are_runs setting steps inner (bind s i (largest s forms) true)
arrivals_are_runs setting (Tested low high ∷ steps) inner s = of (int_le (form_value low s) (form_value high s)) (arrivals_are_runs setting steps inner s)
  where
    of : (v : Bool) → block_actions setting (lines_to steps inner) s ≡ flat_map (block_actions setting inner) (arrivals steps s) →
        (if v then block_actions setting (lines_to steps inner) s else []) ++ [] ≡ flat_map (block_actions setting inner) (if v then arrivals steps s else [])
    of true e = append-nil (block_actions setting (lines_to steps inner) s) ∙ e
    of false e = refl
