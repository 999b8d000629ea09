-- Places of one coordinate, of two and of three.
use Rattle.std.proofs.Common.{◌≡◌, ℕ, ◌+◌, ◌*◌, ◌<◌, ◌≤◌, List, [], ◌∷◌, length, get_or, Option, Some, None, refl, subst, ap, arith, ℤ}
use Rattle.plan.specs.Rooms.{Room, seat, place, joined}
use Rattle.interpreter.specs.Buffers.Raster.{room_count, LiesAt}
use Rattle.interpreter.proofs.Places.{lies_more}

-- a list of two elements
pub only_two : {A : Type 0} (xs : List A) (d : A) → 2 ≤ length xs → length xs < 3 → xs ≡ get_or xs 0 d ∷ get_or xs 1 d ∷ []
only_two [] d from to = absurd (omega arith)
only_two (x ∷ []) d from to = absurd (omega arith)
only_two (x ∷ y ∷ []) d from to = refl
only_two (x ∷ y ∷ z ∷ zs) d from to = absurd (omega arith)

-- of one coordinate, the place has the number of its part
pub lies_alone : (r : Room) (z : ℤ) (k : ℕ) → seat r z ≡ Some k → LiesAt (r ∷ []) (z ∷ []) k
lies_alone r z k e =
    let same : 0 * room_count r + k ≡ k = omega arith in
    subst (LiesAt (r ∷ []) (z ∷ [])) same (lies_more r [] z [] k 0 e (record { at = []; lies = refl; numbered = refl; counted = omega arith }))

-- no place, for want of one of the first coordinate, or of the later ones
pub none_first : (r : Room) (rs : List Room) (z : ℤ) (zs : List ℤ) → seat r z ≡ None → place (r ∷ rs) (z ∷ zs) ≡ None
none_first r rs z zs e = ap (λ (o : Option ℕ). joined o (place rs zs)) e

pub none_later : (r : Room) (rs : List Room) (z : ℤ) (zs : List ℤ) (k : ℕ) → seat r z ≡ Some k → place rs zs ≡ None → place (r ∷ rs) (z ∷ zs) ≡ None
none_later r rs z zs k e f = λ i. joined (e i) (f i)
