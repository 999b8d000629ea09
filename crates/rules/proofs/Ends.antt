-- Lists of which one ends before the other.
use Rattle.std.proofs.Common.{◌≡◌, ℕ, ◌<◌, ◌≤◌, List, [], ◌∷◌, length, map, true, false, None, refl, arith}
use Rattle.lin.specs.declared.span.Span1.{Span1}
use Rattle.plan.specs.declared.stmt.Places.{Places}
use Rattle.plan.specs.declared.stmt.Coordinate.{Coordinate as CoordinateHeld}
use Rattle.plan.specs.Plan.{Coordinate}
use Rattle.soundness.specs.Obligations.{Binder, Rules}
use Rattle.soundness.specs.Shown.{are_within, are_seated}
use Rattle.soundness.specs.Nests.Nest.{Loop}
use Rattle.soundness.specs.Nests.Tests.{span_at, fold_holds, loops_hold, known_span}
use Rattle.rules.specs.Nests.View.{coordinates_of}

pub no_span : (i : ℕ) (cs : List Coordinate) (xs : List Span1) → length xs < 1 → span_at i cs xs ≡ None
no_span i [] xs h = refl
no_span i (c ∷ cs) [] h = refl
no_span i (c ∷ cs) (x ∷ xs) h = absurd (omega arith)

module _ (rules : Rules) (bs : List Binder) where
  pub too_few_spans : (xs ys : List Span1) → 1 ≤ length xs → length ys < 1 → false ≡ are_within rules bs xs ys
  too_few_spans [] ys h g = absurd (omega arith)
  too_few_spans (x ∷ xs) [] h g = refl
  too_few_spans (x ∷ xs) (y ∷ ys) h g = absurd (omega arith)

  pub too_few_places : (xs : List Span1) (places : List Places) → 1 ≤ length xs → length places < 1 → false ≡ are_seated rules bs xs places
  too_few_places [] places h g = absurd (omega arith)
  too_few_places (x ∷ xs) [] h g = refl
  too_few_places (x ∷ xs) (a ∷ places) h g = absurd (omega arith)

  pub too_few_seats : (cs : List CoordinateHeld) (places : List Places) → 1 ≤ length cs → length places < 1 → false ≡ are_seated rules bs (map known_span (coordinates_of cs)) places
  too_few_seats [] places h g = absurd (omega arith)
  too_few_seats (c ∷ cs) [] h g = refl
  too_few_seats (c ∷ cs) (a ∷ places) h g = absurd (omega arith)

  pub folds_end : (xs : List Span1) (places : List Places) → length places < 1 → true ≡ fold_holds rules bs xs places
  folds_end [] places h = refl
  folds_end (x ∷ xs) [] h = refl
  folds_end (x ∷ xs) (a ∷ places) h = absurd (omega arith)

  pub loops_end : (ls : List Loop) (cs : List Coordinate) (places : List Places) → length places < 1 → true ≡ loops_hold rules bs ls cs places
  loops_end ls [] places h = refl
  loops_end ls (c ∷ cs) [] h = refl
  loops_end ls (c ∷ cs) (a ∷ places) h = absurd (omega arith)
