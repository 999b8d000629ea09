-- Points of regions by tests and by words, and grid points by their numbers.
use Rattle.std.proofs.Common.{◌≡◌, ℕ, zero, suc, ◌+◌, ◌*◌, ◌<◌, ◌≤◌, Bool, true, List, [], ◌∷◌, map, refl, ap, ◌∙◌, arith}
use Rattle.std.specs.Prelude.{ℤ, pos, ◌+ℤ◌, ◌-ℤ◌, ◌≤ℤ◌, int_le, All, ◌/◌, ◌%◌}
use Rattle.std.specs.List.{list_all}
use Rattle.std.proofs.lemmas.Int.{ints}
use Rattle.std.proofs.Math.Nat.{div-lt_iff_lt-mul, div-add-mod, mod-lt, mod-eq_of_lt, add-mul-mod_self_left, mul-le-mul_left, mul-suc, mul_comm}
use Rattle.std.proofs.lemmas.Nat.{div-mul-add}
use Rattle.std.proofs.lemmas.List.Elements.{All-cons, All-nil}
use Rattle.lin.specs.Forms.{Form, number}
use Rattle.lin.specs.Spans.{IsInSpan, IsInRegion}
use Rattle.lin.specs.declared.span.Span1.{Span1}
use Rattle.plan.specs.Symbols.{Symbols, form_value}
use Rattle.plan.specs.Certificate.Cells.{piece_count, grid_point, grid_rank, is_in_span, is_in_region}
use Rattle.soundness.proofs.Refines.{and_parts}
use Rattle.sched.specs.declared.numbers.Extent.{Extent}
use Rattle.sched.specs.Visits.{IsInExtents, IsInGrid}
use Rattle.sched.specs.Bounded.{whole}

-- ---- tests

at_most : (y z : ℤ) → int_le y z ≡ true → y ≤ℤ z
at_most y z h = grind (arith, ints)

tests : (y z : ℤ) → y ≤ℤ z → int_le y z ≡ true
tests y z h = grind (arith, ints)

module _ (test : Form → Bool) (P : Form → Type 0) (to : (f : Form) → test f ≡ true → P f) (from : (f : Form) → P f → test f ≡ true) where
  all_of : (fs : List Form) → list_all test fs ≡ true → All P fs
  all_of [] h = All-nil P
  all_of (f ∷ fs) h = let parts = and_parts (test f) (list_all test fs) h in All-cons P f fs (to f parts.0) (all_of fs parts.1)

  tests_all : (fs : List Form) → All P fs → list_all test fs ≡ true
  tests_all [] h = refl
  tests_all (f ∷ fs) h = rw (from f (h 0 f (omega arith))) (tests_all fs (λ k d less. h (suc k) d (omega arith)))

pub in_span : (s : Symbols) (x : Span1) (z : ℤ) → is_in_span s x z ≡ true → IsInSpan x s.value z
in_span s x z h =
    let parts = and_parts (list_all (λ l. int_le (form_value l s) z) x.lower) (list_all (λ u. int_le z (form_value u s)) x.upper) h in (
      all_of (λ l. int_le (form_value l s) z) (λ l. form_value l s ≤ℤ z) (λ l. at_most (form_value l s) z) (λ l. tests (form_value l s) z) x.lower parts.0,
      all_of (λ u. int_le z (form_value u s)) (λ u. z ≤ℤ form_value u s) (λ u. at_most z (form_value u s)) (λ u. tests z (form_value u s)) x.upper parts.1,
    )

pub tests_span : (s : Symbols) (x : Span1) (z : ℤ) → IsInSpan x s.value z → is_in_span s x z ≡ true
tests_span s x z h =
    rw (tests_all (λ l. int_le (form_value l s) z) (λ l. form_value l s ≤ℤ z) (λ l. at_most (form_value l s) z) (λ l. tests (form_value l s) z) x.lower h.0)
    (tests_all (λ u. int_le z (form_value u s)) (λ u. z ≤ℤ form_value u s) (λ u. at_most z (form_value u s)) (λ u. tests z (form_value u s)) x.upper h.1)

pub in_region : (s : Symbols) (xs : List Span1) (q : List ℤ) → is_in_region s xs q ≡ true → IsInRegion xs s.value q
in_region s [] [] h = tt
in_region s [] (z ∷ q) h = absurd (cc h)
in_region s (x ∷ xs) [] h = absurd (cc h)
in_region s (x ∷ xs) (z ∷ q) h = let parts = and_parts (is_in_span s x z) (is_in_region s xs q) h in (in_span s x z parts.0, in_region s xs q parts.1)

pub tests_region : (s : Symbols) (xs : List Span1) (q : List ℤ) → IsInRegion xs s.value q → is_in_region s xs q ≡ true
tests_region s [] [] h = refl
tests_region s [] (z ∷ q) h = absurd h
tests_region s (x ∷ xs) [] h = absurd h
tests_region s (x ∷ xs) (z ∷ q) h = rw (tests_span s x z h.0) (tests_region s xs q h.1)

-- ---- the numbers of a region

pub in_extents : (s : Symbols) (es : List Extent) (q : List ℤ) → is_in_region s (map whole es) q ≡ true → IsInExtents es q
in_extents s [] [] h = tt
in_extents s [] (z ∷ q) h = absurd (cc h)
in_extents s (e ∷ es) [] h = absurd (cc h)
in_extents s (e ∷ es) (z ∷ q) h =
    let parts = and_parts (is_in_span s (whole e) z) (is_in_region s (map whole es) q) h in
    let lies = in_span s (whole e) z parts.0 in
    let low : form_value (number e.low) s ≤ℤ z = lies.0 0 (number e.low) (omega arith) in
    let high : z ≤ℤ form_value (number (e.low +ℤ pos e.count -ℤ pos 1)) s = lies.1 0 (number (e.low +ℤ pos e.count -ℤ pos 1)) (omega arith) in
    (omega (arith, ints, low), omega (arith, ints, high), in_extents s es q parts.1)

pub tests_extents : (s : Symbols) (es : List Extent) (q : List ℤ) → IsInExtents es q → is_in_region s (map whole es) q ≡ true
tests_extents s [] [] h = refl
tests_extents s [] (z ∷ q) h = absurd h
tests_extents s (e ∷ es) [] h = absurd h
tests_extents s (e ∷ es) (z ∷ q) h =
    let from = h.0 in
    let to = h.1 in
    let low : form_value (number e.low) s ≤ℤ z = omega (arith, ints, from) in
    let high : z ≤ℤ form_value (number (e.low +ℤ pos e.count -ℤ pos 1)) s = omega (arith, ints, to) in
    rw (tests_span s (whole e) z (
      All-cons (λ f. form_value f s ≤ℤ z) (number e.low) [] low (All-nil (λ f. form_value f s ≤ℤ z)),
      All-cons (λ f. z ≤ℤ form_value f s) (number (e.low +ℤ pos e.count -ℤ pos 1)) [] high (All-nil (λ f. z ≤ℤ form_value f s)),
    )) (tests_extents s es q h.2)

-- ---- grid points

quotient_below : (n w m : ℕ) → 0 < w → n < w * m → n / w < m
quotient_below n w m some h = (div-lt_iff_lt-mul {k = w} {x = n} {y = m} some).1 (omega arith)

some_width : (n w m : ℕ) → n < w * m → 0 < w
some_width n zero m h = absurd (omega arith)
some_width n (suc w) m h = omega arith

pub grid_within : (ms : List ℕ) (n : ℕ) → n < piece_count ms → IsInGrid ms (grid_point ms n)
grid_within [] n h = tt
grid_within (m ∷ ms) n h =
    let some : 0 < m = some_width n m (piece_count ms) h in
    (mod-lt n some, grid_within ms (n / m) (quotient_below n m (piece_count ms) some h))

pub grid_ranked : (ms : List ℕ) (n : ℕ) → n < piece_count ms → grid_rank ms (grid_point ms n) ≡ n
grid_ranked [] n h = omega arith
grid_ranked (m ∷ ms) n h =
    let some : 0 < m = some_width n m (piece_count ms) h in
    let rest = grid_ranked ms (n / m) (quotient_below n m (piece_count ms) some h) in
    let whole = div-add-mod n m in
    let inner = ap (λ x. m * x) rest in
    omega arith

mod_of : (x m r : ℕ) → x < m → (x + m * r) % m ≡ x
mod_of x m r less = add-mul-mod_self_left x m r ∙ mod-eq_of_lt less

div_of : (x m r : ℕ) → x < m → (x + m * r) / m ≡ r
div_of x m r less =
    let swapped : m * r ≡ r * m = mul_comm m r in
    let turned : x + m * r ≡ r * m + x = omega (arith, swapped) in
    ap (λ (n : ℕ). n / m) turned ∙ div-mul-add r m x less

product_below : (x m r c : ℕ) → x < m → r < c → x + m * r < m * c
product_below x m r c less below =
    let most : m * suc r ≤ m * c = mul-le-mul_left m (omega (arith, below)) in
    let more : m * suc r ≡ m * r + m = mul-suc m r in
    omega (arith, most, more, less)

pub record IsPiece (ms x : List ℕ) : Type 0 where
  pub below : grid_rank ms x < piece_count ms
  pub is : grid_point ms (grid_rank ms x) ≡ x

pub grid_piece : (ms x : List ℕ) → IsInGrid ms x → IsPiece ms x
grid_piece [] [] h = record { below = omega arith; is = refl }
grid_piece [] (x ∷ xs) h = absurd h
grid_piece (m ∷ ms) [] h = absurd h
grid_piece (m ∷ ms) (x ∷ xs) h =
    let rest = grid_piece ms xs h.1 in
    let less : x < m = h.0 in
    let below : grid_rank ms xs < piece_count ms = rest.below in
    let first : (x + m * grid_rank ms xs) % m ≡ x = mod_of x m (grid_rank ms xs) less in
    let others : (x + m * grid_rank ms xs) / m ≡ grid_rank ms xs = div_of x m (grid_rank ms xs) less in
    record {
      below = product_below x m (grid_rank ms xs) (piece_count ms) less below;
      is = λ i. first i ∷ (ap (grid_point ms) others ∙ rest.is) i;
    }
