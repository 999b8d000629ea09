-- The numbers of cells along the first coordinate.
use Rattle.std.proofs.Common.{◌≡◌, ℕ, ◌+◌, ◌*◌, ◌≤◌, ◌<◌, Bool, true, false, List, [], ◌∷◌, Option, Some, None, refl, ap, ◌∙◌, arith, inl, inr, ℤ, pos, negsuc}
use Rattle.std.specs.Prelude.{◌+ℤ◌, ◌-ℤ◌, ◌<ℤ◌, ◌≤ℤ◌, ◌&&◌, if◌then◌else◌, int_le, length, get_or, slice_get}
use Rattle.std.specs.List.{list_all}
use Rattle.std.proofs.lemmas.Bool.{cases_lt}
use Rattle.std.proofs.lemmas.Int.{ints}
use Rattle.std.proofs.lemmas.Option.{none-some, same_Some}
use Rattle.lin.specs.declared.span.Span1.{Span1}
use Rattle.plan.specs.Plan.{Group, Plan}
use Rattle.plan.specs.Symbols.{Symbols, clipped, form_value, largest, turns}
use Rattle.plan.specs.Certificate.Cells.{first_cell, is_in_region, is_in_span, no_symbols}
use Rattle.soundness.proofs.Refines.{and_parts}
use Rattle.headline.specs.Numbers.{group_region, has_point, point_rank}
use Rattle.checked_plan.specs.Output.Cells.{number_in}
use Rattle.interpreter.specs.CellRows.{along}
use Rattle.interpreter.proofs.RowVisits.{span_by_ends}

-- a span that has two numbers has those between them
span_between : (s : Symbols) (x : Span1) (a b z : ℤ) → is_in_span s x a ≡ true → is_in_span s x b ≡ true → a ≤ℤ z → z ≤ℤ b → is_in_span s x z ≡ true
span_between s x a b z h g from to =
    let low = and_parts (list_all (λ l. int_le (form_value l s) a) x.lower) (list_all (λ u. int_le a (form_value u s)) x.upper) h in
    let high = and_parts (list_all (λ l. int_le (form_value l s) b) x.lower) (list_all (λ u. int_le b (form_value u s)) x.upper) g in
    span_by_ends s x a b z x.lower x.upper low.0 high.1 from to refl refl

-- ---- numbers that are clipped

clipped_less : (y : ℤ) (m : ℕ) → y <ℤ pos m → 0 < m → clipped y < m
clipped_less (pos n) m lt some = omega (arith, ints, lt)
clipped_less (negsuc n) m lt some = some

-- what is clipped rises by each number where it rises by a greater one
clipped_more : (w : ℤ) (m k : ℕ) → clipped (w +ℤ pos m) ≡ clipped w + m → k ≤ m → clipped (w +ℤ pos k) ≡ clipped w + k
clipped_more (pos a) m k h le = let e : pos a +ℤ pos k ≡ pos (a + k) = omega (arith, ints) in ap clipped e
clipped_more (negsuc a) m k h le = elim (cases_lt 0 m) [ inl some ↦ above some | inr none ↦ same none ]
  where
    above : 0 < m → clipped (negsuc a +ℤ pos k) ≡ 0 + k
    above some =
        let less : (negsuc a +ℤ pos m) <ℤ pos m = omega (arith, ints) in
        let few = clipped_less (negsuc a +ℤ pos m) m less some in
        absurd (omega (arith, few, h))

    same : m ≤ 0 → clipped (negsuc a +ℤ pos k) ≡ 0 + k
    same none =
        let zero_k : k ≡ 0 = omega (arith, le, none) in
        let e : negsuc a +ℤ pos k ≡ negsuc a = omega (arith, ints, zero_k) in
        let z : 0 ≡ 0 + k = omega (arith, zero_k) in
        ap clipped e ∙ z

-- ---- numbers of cells

-- what is told by a test that passed
passed : (b : Bool) (r n : ℕ) → (if b then Some r else None) ≡ Some n → (b ≡ true) × (r ≡ n)
passed true r n h = (refl, same_Some r n h)
passed false r n h = absurd (none-some n h)

-- the number of a point of a region, behind so many
abbrev number_at : ℕ → List Span1 → List ℤ → Option ℕ
number_at first region at = if is_in_region no_symbols region at then Some (first + point_rank no_symbols region at) else None

row_at : (first : ℕ) (region : List Span1) (at : List ℤ) (m n : ℕ) → number_at first region at ≡ Some n → number_at first region (along at m) ≡ Some (n + m) → (k : ℕ) → k ≤ m →
    number_at first region (along at k) ≡ Some (n + k)
row_at first [] [] m n h g k le =
    let here = same_Some (first + 0) n h in
    let there = same_Some (first + 0) (n + m) g in
    let is : first + 0 ≡ n + k = omega (arith, here, there, le) in
    ap (λ (j : ℕ). Some j) is
row_at first [] (z ∷ zs) m n h g k le = absurd (none-some n h)
row_at first (x ∷ xs) [] m n h g k le = absurd (none-some n h)
row_at first (x ∷ xs) (z ∷ zs) m n h g k le =
    let low = largest no_symbols x.lower in
    let inner = length (turns no_symbols x) * point_rank no_symbols xs zs in
    let rest = is_in_region no_symbols xs zs in
    let number : ℤ → ℕ = λ y. first + (clipped (y -ℤ low) + inner) in
    let here = passed (is_in_span no_symbols x z && rest) (number z) n h in
    let there = passed (is_in_span no_symbols x (z +ℤ pos m) && rest) (number (z +ℤ pos m)) (n + m) g in
    let one = and_parts (is_in_span no_symbols x z) rest here.0 in
    let two = and_parts (is_in_span no_symbols x (z +ℤ pos m)) rest there.0 in
    let from : z ≤ℤ (z +ℤ pos k) = omega (arith, ints) in
    let to : (z +ℤ pos k) ≤ℤ (z +ℤ pos m) = omega (arith, ints, le) in
    let inside : is_in_span no_symbols x (z +ℤ pos k) ≡ true = span_between no_symbols x z (z +ℤ pos m) (z +ℤ pos k) one.0 two.0 from to in
    let w = z -ℤ low in
    let moved_m : (z +ℤ pos m) -ℤ low ≡ w +ℤ pos m = omega (arith, ints) in
    let moved_k : (z +ℤ pos k) -ℤ low ≡ w +ℤ pos k = omega (arith, ints) in
    let a = ap clipped moved_m in
    let b = ap clipped moved_k in
    let far : clipped (w +ℤ pos m) ≡ clipped w + m = (let p = here.1 in let q = there.1 in omega (arith, a, p, q)) in
    let near : clipped (w +ℤ pos k) ≡ clipped w + k = clipped_more w m k far le in
    let is : number (z +ℤ pos k) ≡ n + k = (let p = here.1 in omega (arith, b, near, p)) in
    (λ i. if inside i && one.1 i then Some (is i) else None)

abbrev number_of : ℕ → Option Group → List ℤ → Option ℕ
number_of first o at = if has_point o at then Some (first + point_rank no_symbols (group_region o) at) else None

row_of : (first : ℕ) (o : Option Group) (at : List ℤ) (m n : ℕ) → number_of first o at ≡ Some n → number_of first o (along at m) ≡ Some (n + m) → (k : ℕ) → k ≤ m → number_of first o (along at k) ≡ Some (n + k)
row_of first None at m n h g k le = absurd (none-some n h)
row_of first (Some x) at m n h g k le = row_at first x.region at m n h g k le

-- the cells of a group between two that lie in one row have the numbers between theirs
pub row_number : (p : Plan) (group : ℕ) (at : List ℤ) (m n : ℕ) → number_in p group at ≡ Some n → number_in p group (along at m) ≡ Some (n + m) → (k : ℕ) → k ≤ m → number_in p group (along at k) ≡ Some (n + k)
row_number p group at m n h g k le = row_of (first_cell p.groups group) (slice_get p.groups group) at m n h g k le

-- ---- points of two coordinates, and of three

pub two_along : (k : ℕ) (xs : List ℤ) (d a b : ℤ) → 2 ≤ length xs → length xs < 3 → a ≡ get_or xs 0 d +ℤ pos k → b ≡ get_or xs 1 d → (a ∷ b ∷ []) ≡ along xs k
two_along k [] d a b from to e f = absurd (omega (arith, from))
two_along k (x ∷ []) d a b from to e f = absurd (omega (arith, from))
two_along k (x ∷ y ∷ []) d a b from to e f = (λ i. e i ∷ f i ∷ [])
two_along k (x ∷ y ∷ z ∷ zs) d a b from to e f = absurd (omega (arith, to))

pub three_along : (k : ℕ) (xs : List ℤ) (d a b c : ℤ) → 3 ≤ length xs → length xs < 4 → a ≡ get_or xs 0 d +ℤ pos k → b ≡ get_or xs 1 d → c ≡ get_or xs 2 d → (a ∷ b ∷ c ∷ []) ≡ along xs k
three_along k [] d a b c from to e f g = absurd (omega (arith, from))
three_along k (x ∷ []) d a b c from to e f g = absurd (omega (arith, from))
three_along k (x ∷ y ∷ []) d a b c from to e f g = absurd (omega (arith, from))
three_along k (x ∷ y ∷ z ∷ []) d a b c from to e f g = (λ i. e i ∷ f i ∷ g i ∷ [])
three_along k (x ∷ y ∷ z ∷ w ∷ ws) d a b c from to e f g = absurd (omega (arith, to))
