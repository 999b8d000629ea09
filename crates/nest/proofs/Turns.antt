-- The loop that reads coordinates, turn by turn.
use Rattle.std.proofs.Common.{◌≡◌, ℕ, suc, ◌+◌, ◌-◌, ◌≤◌, ◌<◌, true, false, List, [], ◌∷◌, ◌++◌, Bool, ◌&&◌, drop, refl, sym, ap, ◌∙◌, arith}
use Rattle.plan.specs.Plan.{Coordinate}
use Rattle.spelling.specs.Words.Reading.{begins}
use Rattle.nest.specs.Reading.{has_blank, has_coordinate, coordinate_from, coordinates_from}

left_is : (limit i : ℕ) → i < limit → limit - i ≡ suc (limit - (i + 1))
left_is limit i lt = omega arith

none_left : (limit i : ℕ) → limit ≤ i → limit - i ≡ 0
none_left limit i le = omega arith

no_and : (b : Bool) → (b && false) ≡ false
no_and true = refl
no_and false = refl

-- whether a coordinate stands at the front, by what the code looks at
pub no_word_before : (text : List ℕ) → has_blank text ≡ false → has_coordinate text ≡ false
no_word_before text none = ap (λ (b : Bool). b && begins 32 (coordinate_from text).1) none

pub no_blank_behind : (text next : List ℕ) → next ≡ (coordinate_from text).1 → begins 32 next ≡ false → has_coordinate text ≡ false
no_blank_behind text next is none = ap (λ (b : Bool). has_blank text && b) (ap (begins 32) (sym is) ∙ none) ∙ no_and (has_blank text)

pub word_and_blank : (text next : List ℕ) → next ≡ (coordinate_from text).1 → has_blank text ≡ true → begins 32 next ≡ true → has_coordinate text ≡ true
word_and_blank text next is some blank = ap (λ (b : Bool). b && begins 32 (coordinate_from text).1) some ∙ (ap (begins 32) (sym is) ∙ blank)

-- the whole is what is read of the text that is left after i of so many turns
module _ (limit i : ℕ) (found : List Coordinate) (text : List ℕ) (total : List Coordinate × List ℕ) (so_far : coordinates_from (limit - i) found text ≡ total) where
  pub coordinates_end : i < limit → has_coordinate text ≡ false → (found, text) ≡ total
  unfolding coordinates_from
  coordinates_end lt none = let one : coordinates_from (limit - i) found text ≡ (found, text) = rw (left_is limit i lt, none) refl in sym one ∙ so_far

  pub coordinates_go_on : (x : Coordinate) (next : List ℕ) → x ≡ (coordinate_from text).0 → next ≡ (coordinate_from text).1 → i < limit → has_coordinate text ≡ true
      → coordinates_from (limit - (i + 1)) (found ++ x ∷ []) (drop 1 next) ≡ total
  unfolding coordinates_from
  coordinates_go_on x next is rest lt some =
      let one : coordinates_from (limit - i) found text ≡ coordinates_from (limit - (i + 1)) (found ++ (coordinate_from text).0 ∷ []) (drop 1 (coordinate_from text).1) = rw (left_is limit i lt, some) refl in
      rw (is, rest) (sym one ∙ so_far)

  pub coordinates_done : limit ≤ i → (found, text) ≡ total
  unfolding coordinates_from
  coordinates_done le = let one : coordinates_from (limit - i) found text ≡ (found, text) = rw (none_left limit i le) refl in sym one ∙ so_far
