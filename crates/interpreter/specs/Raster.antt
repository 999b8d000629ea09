-- A fact on extents that has one proof.
use Rattle.std.specs.Prelude.{ℕ, List, [], ◌∷◌}
use Rattle.std.specs.Coded.{×_prop, le_prop, Coded-set, coded_ℕ}
use mathlib.Core.HLevel.{×₃_prop}
use Rattle.meaning.specs.Image.View.{AreExtents}

-- no two proofs that an image can have the extents differ
pub AreExtents-prop : (es : List ℕ) → IsProp (AreExtents es)
AreExtents-prop [] = λ x y. absurd x
AreExtents-prop (w ∷ []) = ×_prop le_prop le_prop
AreExtents-prop (w ∷ h ∷ []) = ×_prop (×_prop le_prop le_prop) (×_prop le_prop le_prop)
AreExtents-prop (w ∷ h ∷ c ∷ []) = ×₃_prop (×_prop le_prop le_prop) (×_prop le_prop le_prop) (Coded-set coded_ℕ c 3)
AreExtents-prop (w ∷ h ∷ c ∷ d ∷ es) = λ x y. absurd x
