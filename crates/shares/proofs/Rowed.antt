-- Regions of which all coordinates but the first have one number.
use Rattle.std.proofs.Common.{◌≡◌, ℕ, zero, suc, ◌+◌, ◌*◌, ◌<◌, ◌≤◌, List, [], ◌∷◌, length, map, filter, get_or, drop, arith, ap, refl, sym, ◌∙◌, Option, Some, None}
use Rattle.std.specs.Prelude.{ℤ, pos, ◌+ℤ◌, ◌-ℤ◌, ◌≤ℤ◌, IsTrue, IfSome, flat_map}
use Rattle.std.specs.List.{range_with_len, AllByRecursion}
use Rattle.std.specs.Int.{int_max, int_min}
use Rattle.std.proofs.lemmas.Int.{ints, clamps}
use Rattle.std.proofs.lemmas.List.{append-nil}
use Rattle.std.proofs.lemmas.List.Elements.{All-from_recursion}
use Rattle.std.proofs.lemmas.List.FromFn.{length-range_with_len}
use Rattle.std.proofs.Math.Nat.{mul-le-mul_left, mul-add, mul-one}
use Rattle.lin.specs.declared.span.Span1.{Span1}
use Rattle.plan.specs.Symbols.{Symbols, clipped, points}
use Rattle.shares.specs.declared.boxes.Side.{Side}
use Rattle.shares.specs.declared.spaces.Space.{Space}
use Rattle.shares.specs.Boxes.{is_in_box, point_count, side, sides}
use Rattle.shares.specs.Spaces.{HasAll, numbers_in}
use Rattle.shares.specs.Walked.{common, shared_cells}
use Rattle.shares.proofs.Rows.{count_more, part_within, shared_more}
use Rattle.shares.proofs.Shared.{all_filtered, raised_ranks, shared_is, whole_from}

pub if_both : {A : Type 0} (o : Option A) (P Q R : A → Type 0) → ((x : A) → P x → Q x → R x) → IfSome o P → IfSome o Q → IfSome o R
if_both None P Q R on h k = tt
if_both (Some x) P Q R on h k = on x h k

-- what a side that lies in another shares with it is all of it
inner_common : (o r : Side) → r.low ≤ℤ o.low → (o.low +ℤ pos o.count) ≤ℤ (r.low +ℤ pos r.count) → common o r ≡ o
inner_common o r low high =
    let first : int_max o.low r.low ≡ o.low = omega (arith, ints, clamps, low) in
    let end : int_min (o.low +ℤ pos o.count) (r.low +ℤ pos r.count) ≡ o.low +ℤ pos o.count = omega (arith, ints, clamps, high) in
    let long : (o.low +ℤ pos o.count) -ℤ o.low ≡ pos o.count = omega (arith, ints) in
    (λ i. record { low = first i; count = clipped (end i -ℤ first i) }) ∙ ap (λ (z : ℤ). record { low = o.low; count = clipped z }) long

module _ (own region : List Side) (i : ℕ) (d : Side) (first : ℕ) (a : i < length own) (b : i < length region) where
  abbrev o : Side
  o = get_or own i d

  abbrev r : Side
  r = get_or region i d

  -- one number of the later coordinates makes a row of the numbers of this one
  pub row_cells : r.low ≤ℤ o.low → (o.low +ℤ pos o.count) ≤ℤ (r.low +ℤ pos r.count) → shared_cells (drop (i + 1) own) (drop (i + 1) region) ≡ range_with_len first 1 →
      shared_cells (drop i own) (drop i region) ≡ range_with_len (clipped (o.low -ℤ r.low) + r.count * first) o.count
  row_cells low high rest =
      let f : Side → ℕ → List ℕ = λ c m. range_with_len (clipped (c.low -ℤ r.low) + r.count * m) c.count in
      shared_more own region i d a b ∙ (λ t. flat_map (f (inner_common o r low high t)) (rest t)) ∙ append-nil (f o first)

  pub row_count : point_count (drop (i + 1) own) ≡ 1 → point_count (drop i own) ≡ o.count
  row_count one = count_more own i d a ∙ ap (λ (n : ℕ). o.count * n) one ∙ mul-one o.count

  pub row_below : r.low ≤ℤ o.low → (o.low +ℤ pos o.count) ≤ℤ (r.low +ℤ pos r.count) → first + 1 ≤ point_count (drop (i + 1) region) →
      clipped (o.low -ℤ r.low) + r.count * first + o.count ≤ point_count (drop i region)
  row_below low high below =
      let part = part_within o r low high in
      let product : r.count * (first + 1) ≤ r.count * point_count (drop (i + 1) region) = mul-le-mul_left r.count below in
      let split : r.count * (first + 1) ≡ r.count * first + r.count = mul-add r.count first 1 ∙ ap (λ (x : ℕ). r.count * first + x) (mul-one r.count) in
      let whole = count_more region i d b in
      omega (arith, part, product, split, whole)

-- the side of a region at a place
pub side_here : (s : Symbols) (xs : List Span1) (i : ℕ) (x : Span1) (d : Side) → i < length xs → x ≡ get_or xs i x → side s x ≡ get_or (sides s xs) i d
side_here s [] i x d less is = absurd (omega (arith, less))
side_here s (y ∷ ys) zero x d less is = ap (side s) is
side_here s (y ∷ ys) (suc i) x d less is = side_here s ys i x d (omega (arith, less)) is

range_raised : (k a n : ℕ) → map (λ m. k + m) (range_with_len a n) ≡ range_with_len (k + a) n
range_raised k a zero = refl
range_raised k a (suc n) = ap (λ (xs : List ℕ). (k + a) ∷ xs) (range_raised k (a + 1) n ∙ ap (λ (x : ℕ). range_with_len x n) (let e : k + (a + 1) ≡ k + a + 1 = omega arith in e))

module _ (x : Space) (s : Symbols) (region : List Span1) (first count : ℕ) (dims : length region ≡ length x.sides.items) where
  abbrev R : List Side
  R = x.sides.items

  -- a row that a region shares with a space is all of the region where it has as many points
  module _ (cells : shared_cells (sides s region) R ≡ range_with_len first count) (many : point_count (sides s region) ≡ count) where
    row_each : AllByRecursion (λ q. IsTrue (is_in_box R q)) (points s region)
    row_each = whole_from s region R dims (ap length cells ∙ length-range_with_len first count ∙ sym many)

    pub row_whole : HasAll x (points s region)
    row_whole = All-from_recursion (λ (q : List ℤ). IsTrue (is_in_box R q)) (points s region) row_each

    pub row_numbers : range_with_len (x.first + first) count ≡ numbers_in x (points s region)
    row_numbers =
        let kept : filter (is_in_box R) (points s region) ≡ points s region = all_filtered (is_in_box R) (points s region) row_each in
        sym (range_raised x.first first count) ∙ ap (map (λ n. x.first + n)) (sym cells ∙ shared_is s region R dims)
        ∙ raised_ranks x.first R (filter (is_in_box R) (points s region)) ∙ ap (numbers_in x) kept
