-- The running sum by its obligations: each holds, whatever the symbols stand for.
use Rattle.std.proofs.Common.{◌≡◌, ℕ, true, List, [], ◌∷◌, map, Some, refl, sym, ap, subst, arith}
use Rattle.std.specs.Prelude.{ℤ, pos, negsuc, ◌-ℤ◌, ◌≤ℤ◌, ◌==◌, IsSome, codes}
use Rattle.std.proofs.lemmas.Int.{ints}
use Rattle.lin.specs.Forms.{number}
use Rattle.lin.specs.declared.span.Span1.{Span1}
use Rattle.plan.specs.declared.stmt.Places.TheVariants.{From}
use Rattle.plan.specs.Symbols.{Symbols, InRegion}
use Rattle.plan.specs.Rooms.{Room, Straight, room, place}
use Rattle.plan.specs.Lines.{body_line}
use Rattle.plan.specs.Certificate.Cells.{grid_symbols}
use Rattle.plan.specs.Semantics.Worked.{constants, symbol, plus, scan_plan}
use Rattle.soundness.specs.Origins.{Given}
use Rattle.soundness.specs.Obligations.{Lies, LieIn, exactly, Ranged, Respects, Rules, AllMeant, obligations}
use Rattle.soundness.specs.Shown.{start}
use Rattle.soundness.specs.Worked.{scan_body, scan_given, scan_grid, BoundScan, ScanIsMeant}
use Rattle.soundness.proofs.Folds.{near_apart, straight_near}
use Rattle.soundness.proofs.Forms.{region_lies}
use Rattle.soundness.proofs.Ongoing.{turn_none, turn_change}
use Rattle.soundness.proofs.Scan.{four}
use Rattle.soundness.proofs.Shown.{meant_is_sound}
use Rattle.soundness.proofs.Turns.{below_has, joined_some}

abbrev region : List Span1
region = constants (pos 0) (pos 3) ∷ []

abbrev rs : List Room
rs = Straight (pos 0) 4 ∷ []

-- of one coordinate
one_seated : (s : Symbols) (x : Span1) → ((z : ℤ) → Lies s x z → (pos 0 ≤ℤ z) × (z ≤ℤ pos 3)) → (p : List ℤ) → LieIn s (x ∷ []) p → IsSome (place (map (room s) (From (number (pos 0)) 4 ∷ [])) p)
one_seated s x h [] l = absurd l
one_seated s x h (z ∷ []) l = let k = h z l.0 in let low = k.0 in let high = k.1 in joined_some _ _ (below_has 4 (z -ℤ pos 0) (omega (arith, ints, low)) (omega (arith, ints, high))) refl
one_seated s x h (z ∷ w ∷ ws) l = absurd l.1

one_inside : (s : Symbols) (x : Span1) → ((z : ℤ) → Lies s x z → (pos 0 ≤ℤ z) × (z ≤ℤ pos 3)) → (p : List ℤ) → LieIn s (x ∷ []) p → LieIn s region p
one_inside s x h [] l = absurd l
one_inside s x h (z ∷ []) l = let k = h z l.0 in (((k.0, tt), (k.1, tt)), tt)
one_inside s x h (z ∷ w ∷ ws) l = absurd l.1

one_met : (s : Symbols) (x : Span1) (p : List ℤ) → LieIn s (x ∷ []) p → LieIn s (record { lower = []; upper = [] } ∷ []) p
one_met s x [] l = absurd l
one_met s x (z ∷ []) l = ((tt, tt), tt)
one_met s x (z ∷ w ∷ ws) l = absurd l.1

at_region : (s : Symbols) (P : List ℤ → Type 0) → ((z : ℤ) → pos 0 ≤ℤ z → z ≤ℤ pos 3 → P (z ∷ [])) → (p : List ℤ) → InRegion s region p → P p
at_region s P h [] i = absurd i
at_region s P h (z ∷ []) i = let k = region_lies s region (z ∷ []) i in h z k.0.0.0 k.0.1.0
at_region s P h (z ∷ w ∷ ws) i = absurd i.1

-- the column, the row of the sum and the one before lie from 0 to 3
column : (s : Symbols) → Respects (Ranged 1 (constants (pos 0) (pos 3)) ∷ scan_grid) s → (z : ℤ) → Lies s (exactly (symbol 1)) z → (pos 0 ≤ℤ z) × (z ≤ℤ pos 3)
column s r z l = let a = r.0.0.0 in let b = r.0.1.0 in let c = l.0.0 in let d = l.1.0 in (omega (arith, ints, a, b, c, d), omega (arith, ints, a, b, c, d))

row : (s : Symbols) → Respects (Ranged 2 (constants (pos 1) (pos 3)) ∷ scan_grid) s → (z : ℤ) → Lies s (exactly (symbol 2)) z → (pos 0 ≤ℤ z) × (z ≤ℤ pos 3)
row s r z l = let a = r.0.0.0 in let b = r.0.1.0 in let c = l.0.0 in let d = l.1.0 in (omega (arith, ints, a, b, c, d), omega (arith, ints, a, b, c, d))

row_before : (s : Symbols) → Respects (Ranged 2 (constants (pos 1) (pos 3)) ∷ scan_grid) s → (z : ℤ) → Lies s (exactly (plus (negsuc 0) (pos 1) 2)) z → (pos 0 ≤ℤ z) × (z ≤ℤ pos 3)
row_before s r z l = let a = r.0.0.0 in let b = r.0.1.0 in let c = l.0.0 in let d = l.1.0 in (omega (arith, ints, a, b, c, d), omega (arith, ints, a, b, c, d))

clear : (z : ℤ) (x : List ℤ) → IsSome (place rs (z ∷ [])) → place rs (z ∷ []) ≡ place rs x → z ∷ [] ≡ x
clear z x h e = near_apart rs (z ∷ []) x (straight_near rs (z ∷ []) x tt) h e

module _ (samples : List ℕ) (rules : Rules) (bound : BoundScan rules) where
  abbrev given : Given
  given = scan_given samples

  seated_by : (s : Symbols) (x y : Span1) → x ≡ y → ((z : ℤ) → Lies s y z → (pos 0 ≤ℤ z) × (z ≤ℤ pos 3)) → (p : List ℤ) → LieIn s (x ∷ []) p → IsSome (place (map (room s) (From (number (pos 0)) 4 ∷ [])) p)
  seated_by s x y e h p l = one_seated s y h p (subst (λ w. LieIn s (w ∷ []) p) e l)

  inside_by : (s : Symbols) (x y : Span1) → x ≡ y → ((z : ℤ) → Lies s y z → (pos 0 ≤ℤ z) × (z ≤ℤ pos 3)) → (p : List ℤ) → LieIn s (x ∷ []) p → LieIn s region p
  inside_by s x y e h p l = one_inside s y h p (subst (λ w. LieIn s (w ∷ []) p) e l)

  all_meant : AllMeant given (obligations given.outline rules (scan_body (pos 1)) (body_line scan_plan 0) (start scan_grid))
  all_meant = (
    (λ s r. refl),
    (
      (λ s r. refl),
      (
        (λ s r. one_seated s (exactly (symbol 1)) (column s r)),
        (
          (λ s r. refl),
          (
            (λ s r p l. subst (λ e. LieIn s e p) (sym bound.extents) (one_inside s _ (λ z k. bound.column s z r k) p l)),
            (
              (λ s r. refl),
              (
                (λ s r. at_region s _ (four _ (refl, λ x n e. clear (pos 0) x refl e) (refl, λ x n e. clear (pos 1) x refl e) (refl, λ x n e. clear (pos 2) x refl e) (refl, λ x n e. clear (pos 3) x refl e))),
                (
                  (λ s r. refl),
                  (
                    (λ s r. seated_by s _ (exactly (symbol 2)) (bound.place _) (row s r)),
                    (
                      (λ s r. refl),
                      (
                        (λ s r. inside_by s _ (exactly (symbol 2)) (bound.place _) (row s r)),
                        (
                          (λ s r. seated_by s _ (exactly (symbol 2)) (bound.place _) (row s r)),
                          (
                            (λ s r. refl),
                            (
                              (λ s r. inside_by s _ (exactly (symbol 2)) (bound.place _) (row s r)),
                              (
                                (λ s r. one_met s _),
                                (
                                  (λ s r. seated_by s _ (exactly (plus (negsuc 0) (pos 1) 2)) (bound.before _) (row_before s r)),
                                  (
                                    (λ s r. refl),
                                    (
                                      (λ s r. inside_by s _ (exactly (plus (negsuc 0) (pos 1) 2)) (bound.before _) (row_before s r)),
                                      (
                                        (λ s r. one_met s _),
                                        (
                                          (λ s r. refl),
                                          (
                                            (λ s r. at_region s _ (four _ (refl, λ x n e. absurd n) (refl, λ x n e. absurd n) (refl, λ x n e. absurd n) (refl, λ x n e. absurd n))),
                                            (
                                              (λ s r. refl),
                                              (
                                                (λ s r. turn_change given _ _ _ _ _ _ _ _ _ refl (λ p m. refl)
                                                    (turn_change given _ _ _ _ _ _ _ _ _ refl (λ p m. rw m refl)
                                                    (turn_change given _ _ _ _ _ _ _ _ _ refl (λ p m. rw m refl)
                                                    (turn_none given _ _ _ _)))),
                                                (
                                                  (λ s r p l. l),
                                                  (
                                                    (λ s r. let one : (1 == rules.last (codes "s")) ≡ true = ap (λ n. 1 == n) bound.last in one),
                                                    ((λ s r p l. subst (λ e. LieIn s e p) bound.own l), tt),
                                                  ),
                                                ),
                                              ),
                                            ),
                                          ),
                                        ),
                                      ),
                                    ),
                                  ),
                                ),
                              ),
                            ),
                          ),
                        ),
                      ),
                    ),
                  ),
                ),
              ),
            ),
          ),
        ),
      ),
    ),
  )

here : Respects scan_grid (grid_symbols (0 ∷ []))
here = (((omega (arith, ints), tt), (omega (arith, ints), tt)), tt)

left_out : (samples : List ℕ) (rules : Rules) → AllMeant (scan_given samples) (obligations (scan_given samples).outline rules (scan_body (pos 2)) (body_line scan_plan 0) (start scan_grid)) → ⊥
left_out samples rules h =
    let turn = h.1.1.1.1.1.1.1.1.1.1.1.1.1.1.1.1.1.1.1.1.1.1.0 (grid_symbols (0 ∷ [])) here [] _ _ _ _ _ refl in
    let none : Some 0 ≡ Some 1 = turn.1 (pos 0 ∷ []) refl in
    cc none

pub scan_is_meant : ScanIsMeant
scan_is_meant = record {
  all = all_meant;
  one_left_out = left_out;
  sound = λ samples rules suited bound. meant_is_sound (scan_given samples) rules (scan_body (pos 1)) (body_line scan_plan 0) scan_grid (grid_symbols (0 ∷ [])) suited refl (all_meant samples rules bound) here;
}
