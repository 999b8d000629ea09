-- The rules by bounds fit what is given.
use Rattle.std.proofs.Common.{◌≡◌, ℕ, Bool, true, false, List, [], ◌∷◌, map, Option, Some, None, refl, ap, arith, inl, inr}
use Rattle.std.specs.Prelude.{ℤ, pos, negsuc, ◌&&◌, nat_lt, filter, if◌then◌else◌}
use Rattle.std.proofs.Math.Seq.{take-length}
use Rattle.std.proofs.lemmas.Bool.Decides.{nat_tests}
use Rattle.std.proofs.lemmas.Int.{ints}
use Rattle.meaning.specs.Image.Raster.{is_within}
use Rattle.meaning.specs.Algorithm.{Function}
use Rattle.meaning.specs.Value.{steps_of}
use Rattle.lin.specs.declared.span.Span1.{Span1}
use Rattle.plan.specs.Plan.{Group}
use Rattle.plan.specs.Symbols.{Symbols, points}
use Rattle.plan.specs.Certificate.Cells.{is_in_region, no_symbols, own_region, points_within}
use Rattle.soundness.specs.Claims.{In}
use Rattle.soundness.specs.Given.{function_named, steps_in, all_steps_in}
use Rattle.soundness.specs.Obligations.{LieIn}
use Rattle.soundness.proofs.Forms.{point_lies}
use Rattle.soundness.specs.Binders.View.{grid_span}
use Rattle.rules.specs.Bounding.Called.{update_count}
use Rattle.rules.specs.Bounding.Laws.{RulesAreSuited}
use Rattle.rules.specs.Bounding.Rules.{or_nowhere}
use Rattle.rules.proofs.Intervals.{bounded}
use Rattle.rules.proofs.Scopes.{ordered}

-- a function's last definition comes after all steps
last_steps : (o : Option Function) → steps_in o (update_count o) ≡ all_steps_in o
last_steps None = refl
last_steps (Some f) = ap steps_of (take-length f.changes)

-- a point between the ends lies on the extents
lies_within : (s : Symbols) (extents : List ℕ) (p : List ℤ) → LieIn s (map grid_span extents) p → is_within extents p ≡ true
lies_within s [] [] h = refl
lies_within s [] (z ∷ zs) h = absurd h
lies_within s (e ∷ es) [] h = absurd h
lies_within s (e ∷ es) (pos k ∷ zs) h =
    let high = h.0.1.0 in
    let small : nat_lt k e ≡ true = grind (arith, nat_tests, ints) in
    let rest = lies_within s es zs h.1 in
    λ i. small i && rest i
lies_within s (e ∷ es) (negsuc k ∷ zs) h = let low = h.0.0.0 in absurd (omega (arith, ints, low))

-- what passes a test is of the list
passes : (test : List ℤ → Bool) (p : List ℤ) (ps : List (List ℤ)) → In p (filter test ps) → In p ps
passes test p [] m = absurd m
passes test p (q ∷ qs) m = of (test q) m (passes test p qs)
  where
    of : (v : Bool) → In p (if v then q ∷ filter test qs else filter test qs) → (In p (filter test qs) → In p qs) → In p (q ∷ qs)
    of true (inl same) rest = inl same
    of true (inr k) rest = inr (rest k)
    of false k rest = inr (rest k)

own_lies : (g : Group) (o : Option (List Span1)) (s : Symbols) (p : List ℤ) → In p (points_within g o s) → LieIn s (or_nowhere o) p
own_lies g None s p m = absurd m
own_lies g (Some xs) s p m = point_lies s xs p (passes (is_in_region no_symbols g.region) p (points s xs) m)

pub rules_suited : RulesAreSuited
rules_suited a samples p c n g formed given on at = record {
  whole = λ f. last_steps (function_named a.functions f);
  inside = λ s q h. lies_within s a.input_extents q h;
  owned = λ s q m. own_lies g (own_region c.own n) s q m;
  bounded = λ bs names vars e r s q respects lie. bounded a samples formed given p c n g on bs names vars e r s q respects lie;
  ordered = ordered;
}
