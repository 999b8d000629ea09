-- A running sum: a pure loop, and an update whose steps come in their order.
use Rattle.std.proofs.Common.{ℕ, zero, suc, List, [], ◌∷◌, Some, refl, inl, inr, arith}
use Rattle.std.specs.Prelude.{ℤ, pos, negsuc, ◌≤ℤ◌}
use Rattle.std.proofs.lemmas.Int.{ints}
use Rattle.lin.specs.declared.span.Span1.{Span1}
use Rattle.plan.specs.Symbols.{Symbols, InRegion}
use Rattle.plan.specs.Rooms.{Room, Straight}
use Rattle.plan.specs.Semantics.Worked.{constants, scan_group, scan_plan, scan_certificate}
use Rattle.plan.specs.Certificate.Cells.{grid_symbols}
use Rattle.soundness.specs.Origins.{Given}
use Rattle.soundness.specs.Given.{given_of, outline_of}
use Rattle.soundness.specs.Worked.{scan_algorithm, ScanIsSound}
use Rattle.soundness.proofs.Folds.{straight_near}
use Rattle.soundness.proofs.Forms.{lies_region, region_lies, point_lies}
use Rattle.soundness.proofs.Windows.{window_made}

abbrev s : Symbols
s = grid_symbols (0 ∷ [])

abbrev region : List Span1
region = constants (pos 0) (pos 3) ∷ []

abbrev rs : List Room
rs = Straight (pos 0) 4 ∷ []

here : (z : ℤ) → pos 0 ≤ℤ z → z ≤ℤ pos 3 → InRegion s region (z ∷ [])
here z l h = lies_region s region (z ∷ []) (((l, tt), (h, tt)), tt)

at_0 : InRegion s region (pos 0 ∷ [])
at_0 = here (pos 0) (omega (arith, ints)) (omega (arith, ints))

at_1 : InRegion s region (pos 1 ∷ [])
at_1 = here (pos 1) (omega (arith, ints)) (omega (arith, ints))

at_2 : InRegion s region (pos 2 ∷ [])
at_2 = here (pos 2) (omega (arith, ints)) (omega (arith, ints))

at_3 : InRegion s region (pos 3 ∷ [])
at_3 = here (pos 3) (omega (arith, ints)) (omega (arith, ints))

at_region : (P : List ℤ → Type 0) → ((z : ℤ) → pos 0 ≤ℤ z → z ≤ℤ pos 3 → P (z ∷ [])) → (p : List ℤ) → InRegion s region p → P p
at_region P h [] i = absurd i
at_region P h (z ∷ []) i = let k = region_lies s region (z ∷ []) i in h z k.0.0.0 k.0.1.0
at_region P h (z ∷ w ∷ ws) i = absurd i.1

-- one of four numbers
pub four : (P : ℤ → Type 0) → P (pos 0) → P (pos 1) → P (pos 2) → P (pos 3) → (z : ℤ) → pos 0 ≤ℤ z → z ≤ℤ pos 3 → P z
four P a b c d (pos zero) l h = a
four P a b c d (pos (suc zero)) l h = b
four P a b c d (pos (suc (suc zero))) l h = c
four P a b c d (pos (suc (suc (suc zero)))) l h = d
four P a b c d (pos (suc (suc (suc (suc n))))) l h = absurd (omega (arith, ints))
four P a b c d (negsuc n) l h = absurd (omega (arith, ints))

module _ (samples : List ℕ) where
  abbrev given : Given
  given = given_of scan_algorithm samples (outline_of scan_plan scan_certificate 0 scan_group)

pub scan_sound : ScanIsSound
scan_sound samples = (
  refl,
  tt,
  (
    (((refl, (refl, ((tt, tt, tt), tt))), tt, tt), (((refl, (refl, ((tt, tt, tt), tt))), tt, tt), (((refl, (refl, ((tt, tt, tt), tt))), tt, tt), (((refl, (refl, ((tt, tt, tt), tt))), tt, tt), tt)))),
    (
      window_made (given samples) 0 _ _ rs refl refl ((λ _. refl), ((λ _. refl), ((λ _. refl), ((λ _. refl), tt))))
          (at_region _ (four _
          (refl, inl (inl refl), λ x n. straight_near rs (pos 0 ∷ []) x tt)
          (refl, inl (inr (inl refl)), λ x n. straight_near rs (pos 1 ∷ []) x tt)
          (refl, inl (inr (inr (inl refl))), λ x n. straight_near rs (pos 2 ∷ []) x tt)
          (refl, inl (inr (inr (inr (inl refl)))), λ x n. straight_near rs (pos 3 ∷ []) x tt))),
      tt,
    ),
    (
      (((refl, inl (refl, refl, at_1, refl), (tt, tt), ((inl (refl, at_1, refl), (tt, tt)), (inl (refl, at_0, refl), ((tt, tt), tt)))), tt, tt), (((refl, inl (refl, refl, at_2, refl), (tt, tt), ((inl (refl, at_2, refl), (tt, tt)), (inl (refl, at_1, refl), ((tt, tt), tt)))), tt, tt), (((refl, inl (refl, refl, at_3, refl), (tt, tt), ((inl (refl, at_3, refl), (tt, tt)), (inl (refl, at_2, refl), ((tt, tt), tt)))), tt, tt), tt))),
      (
        record {
          has_room = refl;
          only = ((λ _. refl), ((λ _. refl), ((λ _. refl), tt)));
          clear = λ p m x n e. absurd n;
          covers = at_region _ (λ z l h. (Some 0, inl (refl, refl, here z l h, refl), refl));
        },
        tt,
      ),
      ((λ p m. inl (refl, lies_region s region p (point_lies s region p m), refl)), tt, tt),
    ),
  ),
)
