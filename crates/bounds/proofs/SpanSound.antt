-- The spans of results hold the results.
use Rattle.std.proofs.Common.{◌≡◌, ℕ, zero, suc, List, [], ◌∷◌, ◌++◌, Bool, true, false, ◌&&◌, ◌||◌, arith, refl, ap, subst, inl, inr}
use Rattle.std.specs.Prelude.{ℤ, pos, negsuc, ◌+ℤ◌, ◌-ℤ◌, ◌*ℤ◌, ◌≤ℤ◌, map, fold, Option, Some, None, ◌⊎◌, int_le}
use Rattle.std.specs.List.{AllByRecursion}
use Rattle.std.specs.Int.{int_min, int_max}
use Rattle.std.proofs.lemmas.Int.{ints, clamps}
use Rattle.std.proofs.Math.IntN.{*ℤ_comm}
use Rattle.numeric.specs.declared.ty.Ty.{Ty}
use Rattle.numeric.specs.declared.ty.Ty.TheVariants.{U8, U16, U32, I8, I16, I32}
use Rattle.numeric.specs.declared.op.Op.{Op}
use Rattle.numeric.specs.declared.op.Op.TheVariants.{Add, Sub, Mul, Div, Rem, Min, Max}
use Rattle.numeric.specs.Wrap.{IsOf, wrap, least, greatest}
use Rattle.numeric.specs.Apply.{apply, quotient, remainder, Divides}
use Rattle.numeric.proofs.Wraps.{wraps_to, wrap_of_value}
use Rattle.numeric.proofs.Quotients.{divides}
use Rattle.numeric.proofs.Ints.{multiply_order, multiply_order_negative, distribute}
use Rattle.lin.specs.Forms.{Form, number, value_of, plus_multiple}
use Rattle.lin.specs.Spans.{HoldsIn}
use Rattle.lin.specs.Search.{sup, sup_of_difference, smaller, is_empty}
use Rattle.lin.specs.declared.scope.Binding.{Binding}
use Rattle.lin.specs.declared.span.Span1.{Span1}
use Rattle.lin.proofs.TermLemmas.{either_way, all_weaker, value_of-plus_multiple}
use Rattle.lin.proofs.Soundness.{sup-above, difference-above}
use Rattle.bounds.specs.Lists.{checked}
use Rattle.bounds.specs.Spans.{span_of, numbers, range_of, exactly, highest, depth, both_ends, ends_of, are_of, stay, fitted, fitted_if, between, sum_of, difference_of, multiples, multiple_of, smallest_of, largest_of, product_ends, ends_product, product_of, ends_quotient, quotient_of, remainder_of, or_range, or_range_if, joined, minimum_of, maximum_of, choice_of, binary_of}
use Rattle.bounds.specs.declared.ends.Ends.{Ends}
use Rattle.bounds.proofs.ListSound.{AllIn, all-append, kept-all, checked-all, all_combined-all, union-below, union-above}

abbrev pub Low : (ℕ → ℤ) → ℤ → Form → Type 0
Low v z f = value_of f v ≤ℤ z

abbrev pub High : (ℕ → ℤ) → ℤ → Form → Type 0
High v z f = z ≤ℤ value_of f v

-- z lies in the span, part by part
abbrev pub Lies : Span1 → (ℕ → ℤ) → ℤ → Type 0
Lies s v z = AllByRecursion (Low v z) s.lower × AllByRecursion (High v z) s.upper

-- and in the one that is there, if any
abbrev pub LiesIf : Option Span1 → (ℕ → ℤ) → ℤ → Type 0
LiesIf found v z = (s : Span1) → found ≡ Some s → Lies s v z

some_span : (x y : Span1) → Some x ≡ Some y → x ≡ y
some_span x y e = cc

pub lies_some : (s : Span1) (v : ℕ → ℤ) (z : ℤ) → Lies s v z → LiesIf (Some s) v z
lies_some s v z h = λ t e. let P : Span1 → Type 0 = λ u. Lies u v z in subst P (some_span s t e) h

pub span_of-lies : (lower upper : Option (List Form)) (v : ℕ → ℤ) (z : ℤ) → AllIn (Low v z) lower → AllIn (High v z) upper → LiesIf (span_of lower upper) v z
span_of-lies None upper v z a b = λ s e. cc
span_of-lies (Some lower) None v z a b = λ s e. cc
span_of-lies (Some lower) (Some upper) v z a b = lies_some _ v z (a lower refl, b upper refl)

-- ---- numbers and types
number-value : (n : ℤ) (v : ℕ → ℤ) → value_of (number n) v ≡ n
number-value n v = omega (arith, ints)

pub numbers-lies : (low high : ℤ) (v : ℕ → ℤ) (z : ℤ) → low ≤ℤ z → z ≤ℤ high → Lies (numbers low high) v z
numbers-lies low high v z a b = ((omega (arith, ints, a), tt), (omega (arith, ints, b), tt))

pub range-lies : (ty : Ty) (v : ℕ → ℤ) (z : ℤ) → IsOf ty z → Lies (range_of ty) v z
range-lies ty v z h = numbers-lies (least ty) (greatest ty) v z h.from h.to

pub wrap_is : (ty : Ty) (z : ℤ) → IsOf ty (wrap ty z)
wrap_is ty z = (wraps_to ty z).within

pub exactly-lies : (n : ℤ) (v : ℕ → ℤ) → LiesIf (exactly n) v n
exactly-lies n v = span_of-lies _ _ v n
    (kept-all (Low v n) (map checked (number n ∷ [])) (checked-all (Low v n) (number n ∷ []) (omega (arith, ints), tt)))
    (kept-all (High v n) (map checked (number n ∷ [])) (checked-all (High v n) (number n ∷ []) (omega (arith, ints), tt)))

-- ---- the constant ends
abbrev IsAbove : ℤ → Option ℤ → Type 0
IsAbove w found = (m : ℤ) → found ≡ Some m → w ≤ℤ m

smaller-above : (w : ℤ) (a b : Option ℤ) → IsAbove w a → IsAbove w b → IsAbove w (smaller a b)
smaller-above w None b ha hb = hb
smaller-above w (Some x) None ha hb = ha
smaller-above w (Some x) (Some y) ha hb = λ m e. let p : int_min x y ≡ m = cc in omega (arith, ints, clamps, p, ha x refl, hb y refl)

fold-above : (w : ℤ) (P : Form → Type 0) (f : Form → Option ℤ) → ((g : Form) → P g → IsAbove w (f g)) → (a : Option ℤ) (fs : List Form) → IsAbove w a → AllByRecursion P fs → IsAbove w (fold smaller a (map f fs))
fold-above w P f h a [] ha p = ha
fold-above w P f h a (g ∷ gs) ha p = fold-above w P f h (smaller a (f g)) gs (smaller-above w a (f g) ha (h g p.0)) p.1

highest-above : (scope : List Binding) (v : ℕ → ℤ) → HoldsIn scope v → (z : ℤ) (uppers : List Form) → AllByRecursion (High v z) uppers → IsAbove z (highest scope uppers)
highest-above scope v r z uppers a = fold-above z (High v z) (λ f. sup scope f) (λ g h m e. omega (arith, ints, h, sup-above scope v r g m e)) None uppers (λ m e. cc) a

depth-above : (scope : List Binding) (v : ℕ → ℤ) → HoldsIn scope v → (z : ℤ) (lowers : List Form) → AllByRecursion (Low v z) lowers → IsAbove (pos 0 -ℤ z) (depth scope lowers)
depth-above scope v r z lowers a = fold-above (pos 0 -ℤ z) (Low v z) (λ f. sup_of_difference scope (number (pos 0)) f)
    (λ g h m e. omega (arith, ints, h, difference-above scope v r (number (pos 0)) g m e)) None lowers (λ m e. cc) a

-- the value lies between the ends that are found
abbrev Between : Option Ends → ℤ → Type 0
Between found z = (e : Ends) → found ≡ Some e → (e.low ≤ℤ z) × (z ≤ℤ e.high)

some_ends : (x y : Ends) → Some x ≡ Some y → x ≡ y
some_ends x y e = cc

both_ends-between : (below high : Option ℤ) (z : ℤ) → IsAbove (pos 0 -ℤ z) below → IsAbove z high → Between (both_ends below high) z
both_ends-between None high z a b = λ e q. cc
both_ends-between (Some d) None z a b = λ e q. cc
both_ends-between (Some d) (Some h) z a b = λ e q.
    let is = some_ends (record { low = pos 0 -ℤ d; high = h }) e q in
    let P : Ends → Type 0 = λ x. (x.low ≤ℤ z) × (z ≤ℤ x.high) in
    subst P is (omega (arith, ints, a d refl), omega (arith, ints, b h refl))

pub ends-between : (scope : List Binding) (v : ℕ → ℤ) → HoldsIn scope v → (s : Span1) (z : ℤ) → Lies s v z → Between (ends_of scope s) z
ends-between scope v r s z h = both_ends-between (depth scope s.lower) (highest scope s.upper) z (depth-above scope v r z s.lower h.0) (highest-above scope v r z s.upper h.1)

both_true : (a b : Bool) → (a && b) ≡ true → (a ≡ true) × (b ≡ true)
both_true true b h = (refl, h)
both_true false b h = cc

of_ends : (ty : Ty) (e : Ends) (z : ℤ) → are_of ty e ≡ true → e.low ≤ℤ z → z ≤ℤ e.high → IsOf ty z
of_ends ty e z t low high =
    let b = both_true (int_le (least ty) e.low) (int_le e.high (greatest ty)) t in
    record { from = omega (arith, ints, b.0, low); to = omega (arith, ints, b.1, high) }

stay-of : (ty : Ty) (found : Option Ends) (z : ℤ) → stay ty found ≡ true → Between found z → IsOf ty z
stay-of ty None z t h = cc
stay-of ty (Some e) z t h = let b = h e refl in of_ends ty e z t b.0 b.1

pub fitted-lies : (scope : List Binding) (v : ℕ → ℤ) → HoldsIn scope v → (ty : Ty) (s : Span1) (z : ℤ) → Lies s v z → Lies (fitted scope ty s) v (wrap ty z)
fitted-lies scope v r ty s z h = either_way (λ (t : Span1). Lies t v (wrap ty z)) (stay ty (ends_of scope s)) s (range_of ty)
    (λ t. rw (wrap_of_value ty z (stay-of ty (ends_of scope s) z t (ends-between scope v r s z h))) h)
    (λ t. range-lies ty v (wrap ty z) (wrap_is ty z))

pub fitted_if-lies : (scope : List Binding) (v : ℕ → ℤ) → HoldsIn scope v → (ty : Ty) (made : Option Span1) (z : ℤ) → LiesIf made v z → LiesIf (fitted_if scope ty made) v (wrap ty z)
fitted_if-lies scope v r ty None z h = λ s e. cc
fitted_if-lies scope v r ty (Some s) z h = lies_some (fitted scope ty s) v (wrap ty z) (fitted-lies scope v r ty s z (h s refl))

between-lies : (ty : Ty) (e : Ends) (v : ℕ → ℤ) (z : ℤ) → e.low ≤ℤ z → z ≤ℤ e.high → Lies (between ty e) v (wrap ty z)
unfolding between
between-lies ty e v z low high = either_way (λ (t : Span1). Lies t v (wrap ty z)) (are_of ty e) (numbers e.low e.high) (range_of ty)
    (λ t. rw (wrap_of_value ty z (of_ends ty e z t low high)) (numbers-lies e.low e.high v z low high))
    (λ t. range-lies ty v (wrap ty z) (wrap_is ty z))

-- ---- sums, differences and multiples
pub sum-lies : (scope : List Binding) (v : ℕ → ℤ) → HoldsIn scope v → (ty : Ty) (a b : Span1) (x y : ℤ) → Lies a v x → Lies b v y → LiesIf (sum_of scope ty a b) v (wrap ty (x +ℤ y))
sum-lies scope v r ty a b x y ha hb = fitted_if-lies scope v r ty _ (x +ℤ y) (span_of-lies _ _ v (x +ℤ y)
    (kept-all (Low v (x +ℤ y)) _ (all_combined-all (Low v x) (Low v y) (Low v (x +ℤ y)) (pos 1) (λ f g hf hg. omega (arith, ints, hf, hg, value_of-plus_multiple f (pos 1) g v)) a.lower b.lower ha.0 hb.0))
    (kept-all (High v (x +ℤ y)) _ (all_combined-all (High v x) (High v y) (High v (x +ℤ y)) (pos 1) (λ f g hf hg. omega (arith, ints, hf, hg, value_of-plus_multiple f (pos 1) g v)) a.upper b.upper ha.1 hb.1)))

pub difference-lies : (scope : List Binding) (v : ℕ → ℤ) → HoldsIn scope v → (ty : Ty) (a b : Span1) (x y : ℤ) → Lies a v x → Lies b v y → LiesIf (difference_of scope ty a b) v (wrap ty (x -ℤ y))
difference-lies scope v r ty a b x y ha hb = fitted_if-lies scope v r ty _ (x -ℤ y) (span_of-lies _ _ v (x -ℤ y)
    (kept-all (Low v (x -ℤ y)) _ (all_combined-all (Low v x) (High v y) (Low v (x -ℤ y)) (negsuc 0) (λ f g hf hg. omega (arith, ints, hf, hg, value_of-plus_multiple f (negsuc 0) g v)) a.lower b.upper ha.0 hb.1))
    (kept-all (High v (x -ℤ y)) _ (all_combined-all (High v x) (Low v y) (High v (x -ℤ y)) (negsuc 0) (λ f g hf hg. omega (arith, ints, hf, hg, value_of-plus_multiple f (negsuc 0) g v)) a.upper b.lower ha.1 hb.0)))

abbrev IsZero : Form → Type 0
IsZero f = f ≡ number (pos 0)

multiple-below : (k z : ℤ) (v : ℕ → ℤ) (f g : Form) → IsZero f → (k *ℤ value_of g v) ≤ℤ (k *ℤ z) → Low v (k *ℤ z) (plus_multiple f k g)
multiple-below k z v f g e h = let none = ap (λ (form : Form). value_of form v) e in omega (arith, ints, h, none, value_of-plus_multiple f k g v)

multiple-above : (k z : ℤ) (v : ℕ → ℤ) (f g : Form) → IsZero f → (k *ℤ z) ≤ℤ (k *ℤ value_of g v) → High v (k *ℤ z) (plus_multiple f k g)
multiple-above k z v f g e h = let none = ap (λ (form : Form). value_of form v) e in omega (arith, ints, h, none, value_of-plus_multiple f k g v)

multiples-low : (k z : ℤ) (v : ℕ → ℤ) (Q : Form → Type 0) (forms : List Form) → ((g : Form) → Q g → (k *ℤ value_of g v) ≤ℤ (k *ℤ z)) → AllByRecursion Q forms → AllIn (Low v (k *ℤ z)) (multiples k forms)
multiples-low k z v Q forms h a = kept-all (Low v (k *ℤ z)) _ (all_combined-all IsZero Q (Low v (k *ℤ z)) k (λ f g e hg. multiple-below k z v f g e (h g hg)) (number (pos 0) ∷ []) forms (refl, tt) a)

multiples-high : (k z : ℤ) (v : ℕ → ℤ) (Q : Form → Type 0) (forms : List Form) → ((g : Form) → Q g → (k *ℤ z) ≤ℤ (k *ℤ value_of g v)) → AllByRecursion Q forms → AllIn (High v (k *ℤ z)) (multiples k forms)
multiples-high k z v Q forms h a = kept-all (High v (k *ℤ z)) _ (all_combined-all IsZero Q (High v (k *ℤ z)) k (λ f g e hg. multiple-above k z v f g e (h g hg)) (number (pos 0) ∷ []) forms (refl, tt) a)

pub multiple-lies : (scope : List Binding) (v : ℕ → ℤ) → HoldsIn scope v → (ty : Ty) (k : ℤ) (s : Span1) (z : ℤ) → Lies s v z → LiesIf (multiple_of scope ty k s) v (wrap ty (k *ℤ z))
multiple-lies scope v r ty (pos n) s z h = fitted_if-lies scope v r ty _ (pos n *ℤ z) (span_of-lies _ _ v (pos n *ℤ z)
    (multiples-low (pos n) z v (Low v z) s.lower (λ g hg. multiply_order (pos n) _ _ (omega (arith, ints)) hg) h.0)
    (multiples-high (pos n) z v (High v z) s.upper (λ g hg. multiply_order (pos n) _ _ (omega (arith, ints)) hg) h.1))
multiple-lies scope v r ty (negsuc n) s z h = fitted_if-lies scope v r ty _ (negsuc n *ℤ z) (span_of-lies _ _ v (negsuc n *ℤ z)
    (multiples-low (negsuc n) z v (High v z) s.upper (λ g hg. multiply_order_negative (negsuc n) _ _ (omega (arith, ints)) hg) h.1)
    (multiples-high (negsuc n) z v (Low v z) s.lower (λ g hg. multiply_order_negative (negsuc n) _ _ (omega (arith, ints)) hg) h.0))

-- ---- products from the ends
one_side : (c y low high : ℤ) → low ≤ℤ y → y ≤ℤ high → (int_min (c *ℤ low) (c *ℤ high) ≤ℤ (c *ℤ y)) × ((c *ℤ y) ≤ℤ int_max (c *ℤ low) (c *ℤ high))
one_side (pos n) y low high a b =
    let first = multiply_order (pos n) low y (omega (arith, ints)) a in
    let second = multiply_order (pos n) y high (omega (arith, ints)) b in
    (omega (arith, ints, clamps, first, second), omega (arith, ints, clamps, first, second))
one_side (negsuc n) y low high a b =
    let first = multiply_order_negative (negsuc n) low y (omega (arith, ints)) a in
    let second = multiply_order_negative (negsuc n) y high (omega (arith, ints)) b in
    (omega (arith, ints, clamps, first, second), omega (arith, ints, clamps, first, second))

-- the product lies between those of the corners
corners : (p q r s xy ly hy : ℤ) → int_min p q ≤ℤ ly → ly ≤ℤ int_max p q → int_min r s ≤ℤ hy → hy ≤ℤ int_max r s → int_min ly hy ≤ℤ xy → xy ≤ℤ int_max ly hy
    → (smallest_of p q r s ≤ℤ xy) × (xy ≤ℤ largest_of p q r s)
corners p q r s xy ly hy a b c d e f = (omega (arith, ints, clamps, a, c, e), omega (arith, ints, clamps, b, d, f))

product-between : (a b : Ends) (x y : ℤ) → (a.low ≤ℤ x) × (x ≤ℤ a.high) → (b.low ≤ℤ y) × (y ≤ℤ b.high) → ((product_ends a b).low ≤ℤ (x *ℤ y)) × ((x *ℤ y) ≤ℤ (product_ends a b).high)
product-between a b x y hx hy =
    let across = one_side y x a.low a.high hx.0 hx.1 in
    let low = one_side a.low y b.low b.high hy.0 hy.1 in
    let high = one_side a.high y b.low b.high hy.0 hy.1 in
    let e1 : y *ℤ x ≡ x *ℤ y = *ℤ_comm y x in
    let e2 : y *ℤ a.low ≡ a.low *ℤ y = *ℤ_comm y a.low in
    let e3 : y *ℤ a.high ≡ a.high *ℤ y = *ℤ_comm y a.high in
    corners (a.low *ℤ b.low) (a.low *ℤ b.high) (a.high *ℤ b.low) (a.high *ℤ b.high) (x *ℤ y) (a.low *ℤ y) (a.high *ℤ y) low.0 low.1 high.0 high.1
    (rw (e1, e2, e3) at across.0) (rw (e1, e2, e3) at across.1)

ends_product-lies : (ty : Ty) (a b : Option Ends) (v : ℕ → ℤ) (x y : ℤ) → Between a x → Between b y → Lies (ends_product ty a b) v (wrap ty (x *ℤ y))
ends_product-lies ty None b v x y ha hb = range-lies ty v _ (wrap_is ty _)
ends_product-lies ty (Some a) None v x y ha hb = range-lies ty v _ (wrap_is ty _)
ends_product-lies ty (Some a) (Some b) v x y ha hb =
    let p = product-between a b x y (ha a refl) (hb b refl) in
    between-lies ty (product_ends a b) v (x *ℤ y) p.0 p.1

pub product-lies : (scope : List Binding) (v : ℕ → ℤ) → HoldsIn scope v → (ty : Ty) (first second : Option ℤ) (a b : Span1) (x y : ℤ)
    → ((k : ℤ) → first ≡ Some k → x ≡ k) → ((k : ℤ) → second ≡ Some k → y ≡ k) → Lies a v x → Lies b v y → LiesIf (product_of scope ty first second a b) v (wrap ty (x *ℤ y))
product-lies scope v r ty (Some k) second a b x y ex ey ha hb = rw (ex k refl) (multiple-lies scope v r ty k b y hb)
product-lies scope v r ty None (Some k) a b x y ex ey ha hb = rw (ey k refl, *ℤ_comm x k) (multiple-lies scope v r ty k a x ha)
product-lies scope v r ty None None a b x y ex ey ha hb = lies_some _ v _ (ends_product-lies ty (ends_of scope a) (ends_of scope b) v x y (ends-between scope v r a x ha) (ends-between scope v r b y hb))

-- ---- quotients and remainders
-- of two numbers the greater has the greater quotient by a positive divisor
greater_product : (n : ℕ) (p q : ℤ) → (p +ℤ pos 1) ≤ℤ q → (pos (suc n) *ℤ p +ℤ pos (suc n)) ≤ℤ (pos (suc n) *ℤ q)
greater_product n p q h = omega (arith, ints, multiply_order (pos (suc n)) (p +ℤ pos 1) q (omega (arith, ints)) h, distribute (pos (suc n)) p (pos 1))

quotient_order : (n : ℕ) (x y : ℤ) → x ≤ℤ y → quotient x (pos (suc n)) ≤ℤ quotient y (pos (suc n))
quotient_order n x y h =
    let d = divides x (pos (suc n)) (λ e. omega (arith, ints)) in
    let e = divides y (pos (suc n)) (λ e. omega (arith, ints)) in
    by (int_le (quotient x (pos (suc n))) (quotient y (pos (suc n)))) refl d e
  where
    by : (b : Bool) → int_le (quotient x (pos (suc n))) (quotient y (pos (suc n))) ≡ b
        → Divides x (pos (suc n)) (quotient x (pos (suc n))) (remainder x (pos (suc n))) → Divides y (pos (suc n)) (quotient y (pos (suc n))) (remainder y (pos (suc n)))
        → quotient x (pos (suc n)) ≤ℤ quotient y (pos (suc n))
    by true t d e = omega (arith, ints)
    by false t d e =
        let more : (quotient y (pos (suc n)) +ℤ pos 1) ≤ℤ quotient x (pos (suc n)) = omega (arith, ints) in
        let grows = greater_product n (quotient y (pos (suc n))) (quotient x (pos (suc n))) more in
        absurd (omega (arith, ints, grows, h, d.whole, d.from, e.whole, e.below, e.from))

ends_quotient-lies : (ty : Ty) (n : ℕ) (a : Option Ends) (v : ℕ → ℤ) (x : ℤ) → Between a x → Lies (ends_quotient ty (pos (suc n)) a) v (wrap ty (quotient x (pos (suc n))))
ends_quotient-lies ty n None v x h = range-lies ty v _ (wrap_is ty _)
ends_quotient-lies ty n (Some a) v x h =
    let b = h a refl in
    between-lies ty (record { low = quotient a.low (pos (suc n)); high = quotient a.high (pos (suc n)) }) v (quotient x (pos (suc n))) (quotient_order n a.low x b.0) (quotient_order n x a.high b.1)

pub quotient-lies : (scope : List Binding) (v : ℕ → ℤ) → HoldsIn scope v → (ty : Ty) (second : Option ℤ) (a : Span1) (x y : ℤ) → ((k : ℤ) → second ≡ Some k → y ≡ k) → Lies a v x
    → Lies (quotient_of scope ty second a) v (wrap ty (quotient x y))
quotient-lies scope v r ty None a x y e h = range-lies ty v _ (wrap_is ty _)
quotient-lies scope v r ty (Some (negsuc n)) a x y e h = range-lies ty v _ (wrap_is ty _)
quotient-lies scope v r ty (Some (pos zero)) a x y e h = range-lies ty v _ (wrap_is ty _)
quotient-lies scope v r ty (Some (pos (suc n))) a x y e h =
    rw (e (pos (suc n)) refl) (ends_quotient-lies ty n (ends_of scope a) v x (ends-between scope v r a x h))

least_low : (ty : Ty) → least ty ≤ℤ pos 0
least_low U8 = omega (arith, ints)
least_low U16 = omega (arith, ints)
least_low U32 = omega (arith, ints)
least_low I8 = omega (arith, ints)
least_low I16 = omega (arith, ints)
least_low I32 = omega (arith, ints)

pub remainder-lies : (v : ℕ → ℤ) (ty : Ty) (second : Option ℤ) (x y : ℤ) → ((k : ℤ) → second ≡ Some k → y ≡ k) → IsOf ty y → Lies (remainder_of ty second) v (wrap ty (remainder x y))
remainder-lies v ty None x y e h = range-lies ty v _ (wrap_is ty _)
remainder-lies v ty (Some (negsuc n)) x y e h = range-lies ty v _ (wrap_is ty _)
remainder-lies v ty (Some (pos zero)) x y e h = range-lies ty v _ (wrap_is ty _)
remainder-lies v ty (Some (pos (suc n))) x y e h =
    let is : y ≡ pos (suc n) = e (pos (suc n)) refl in
    let d = divides x (pos (suc n)) (λ q. omega (arith, ints)) in
    let top : remainder x (pos (suc n)) ≤ℤ pos n = omega (arith, ints, d.from, d.below) in
    let inside : IsOf ty (remainder x (pos (suc n))) = record { from = omega (arith, ints, d.from, least_low ty); to = omega (arith, ints, top, is, h.to) } in
    rw (is, wrap_of_value ty (remainder x (pos (suc n))) inside) (numbers-lies (pos 0) (pos n) v (remainder x (pos (suc n))) d.from top)

-- ---- choices
or_range-lies : (ty : Ty) (s : Span1) (v : ℕ → ℤ) (z : ℤ) → IsOf ty z → Lies s v z → Lies (or_range ty s) v z
or_range-lies ty s v z i h = either_way (λ (t : Span1). Lies t v z) (is_empty s.lower || is_empty s.upper) (range_of ty) s (λ t. range-lies ty v z i) (λ t. h)

or_range_if-lies : (ty : Ty) (made : Option Span1) (v : ℕ → ℤ) (z : ℤ) → IsOf ty z → LiesIf made v z → LiesIf (or_range_if ty made) v z
or_range_if-lies ty None v z i h = λ s e. cc
or_range_if-lies ty (Some s) v z i h = lies_some (or_range ty s) v z (or_range-lies ty s v z i (h s refl))

min_is : (x y : ℤ) → (int_min x y ≡ x) ⊎ (int_min x y ≡ y)
min_is x y = either_way (λ (z : ℤ). (z ≡ x) ⊎ (z ≡ y)) _ y x (λ t. inr refl) (λ t. inl refl)

max_is : (x y : ℤ) → (int_max x y ≡ x) ⊎ (int_max x y ≡ y)
max_is x y = either_way (λ (z : ℤ). (z ≡ x) ⊎ (z ≡ y)) _ x y (λ t. inl refl) (λ t. inr refl)

lower_all : (v : ℕ → ℤ) (x z : ℤ) → z ≤ℤ x → (fs : List Form) → AllByRecursion (High v x) fs → AllByRecursion (High v z) fs
lower_all v x z l fs a = all_weaker (High v x) (High v z) (λ f h. omega (arith, ints, l, h)) fs a

raise_all : (v : ℕ → ℤ) (x z : ℤ) → x ≤ℤ z → (fs : List Form) → AllByRecursion (Low v x) fs → AllByRecursion (Low v z) fs
raise_all v x z l fs a = all_weaker (Low v x) (Low v z) (λ f h. omega (arith, ints, l, h)) fs a

one_low : (v : ℕ → ℤ) (x y z : ℤ) (as' bs : List Form) → (z ≡ x) ⊎ (z ≡ y) → AllByRecursion (Low v x) as' → AllByRecursion (Low v y) bs → AllByRecursion (Low v z) as' ⊎ AllByRecursion (Low v z) bs
one_low v x y z as' bs (inl e) a b = inl (rw e a)
one_low v x y z as' bs (inr e) a b = inr (rw e b)

one_high : (v : ℕ → ℤ) (x y z : ℤ) (as' bs : List Form) → (z ≡ x) ⊎ (z ≡ y) → AllByRecursion (High v x) as' → AllByRecursion (High v y) bs → AllByRecursion (High v z) as' ⊎ AllByRecursion (High v z) bs
one_high v x y z as' bs (inl e) a b = inl (rw e a)
one_high v x y z as' bs (inr e) a b = inr (rw e b)

pub min-of : (ty : Ty) (x y : ℤ) → IsOf ty x → IsOf ty y → IsOf ty (int_min x y)
min-of ty x y h k = record { from = omega (arith, ints, clamps, h.from, k.from); to = omega (arith, ints, clamps, h.to, k.to) }

pub max-of : (ty : Ty) (x y : ℤ) → IsOf ty x → IsOf ty y → IsOf ty (int_max x y)
max-of ty x y h k = record { from = omega (arith, ints, clamps, h.from, k.from); to = omega (arith, ints, clamps, h.to, k.to) }

joined-low : (v : ℕ → ℤ) (z : ℤ) (as' bs : List Form) → AllByRecursion (Low v z) as' → AllByRecursion (Low v z) bs → AllIn (Low v z) (joined as' bs)
joined-low v z as' bs a b = kept-all (Low v z) _ (checked-all (Low v z) (as' ++ bs) (all-append (Low v z) as' bs a b))

joined-high : (v : ℕ → ℤ) (z : ℤ) (as' bs : List Form) → AllByRecursion (High v z) as' → AllByRecursion (High v z) bs → AllIn (High v z) (joined as' bs)
joined-high v z as' bs a b = kept-all (High v z) _ (checked-all (High v z) (as' ++ bs) (all-append (High v z) as' bs a b))

pub minimum-lies : (scope : List Binding) (v : ℕ → ℤ) → HoldsIn scope v → (ty : Ty) (a b : Span1) (x y : ℤ) → IsOf ty x → IsOf ty y → Lies a v x → Lies b v y → LiesIf (minimum_of scope ty a b) v (int_min x y)
minimum-lies scope v r ty a b x y ix iy ha hb = or_range_if-lies ty _ v (int_min x y) (min-of ty x y ix iy) (span_of-lies _ _ v (int_min x y)
    (union-below scope v r (int_min x y) a.lower b.lower (one_low v x y (int_min x y) a.lower b.lower (min_is x y) ha.0 hb.0))
    (joined-high v (int_min x y) a.upper b.upper (lower_all v x _ (omega (arith, ints, clamps)) a.upper ha.1) (lower_all v y _ (omega (arith, ints, clamps)) b.upper hb.1)))

pub maximum-lies : (scope : List Binding) (v : ℕ → ℤ) → HoldsIn scope v → (ty : Ty) (a b : Span1) (x y : ℤ) → IsOf ty x → IsOf ty y → Lies a v x → Lies b v y → LiesIf (maximum_of scope ty a b) v (int_max x y)
maximum-lies scope v r ty a b x y ix iy ha hb = or_range_if-lies ty _ v (int_max x y) (max-of ty x y ix iy) (span_of-lies _ _ v (int_max x y)
    (joined-low v (int_max x y) a.lower b.lower (raise_all v x _ (omega (arith, ints, clamps)) a.lower ha.0) (raise_all v y _ (omega (arith, ints, clamps)) b.lower hb.0))
    (union-above scope v r (int_max x y) a.upper b.upper (one_high v x y (int_max x y) a.upper b.upper (max_is x y) ha.1 hb.1)))

-- one of two values lies in what both spans give, if it lies in its own
pub either-lies : (scope : List Binding) (v : ℕ → ℤ) → HoldsIn scope v → (ty : Ty) (a b : Span1) (z : ℤ) → IsOf ty z → Lies a v z ⊎ Lies b v z → LiesIf (choice_of scope ty a b) v z
either-lies scope v r ty a b z iz (inl h) = or_range_if-lies ty _ v z iz (span_of-lies _ _ v z (union-below scope v r z a.lower b.lower (inl h.0)) (union-above scope v r z a.upper b.upper (inl h.1)))
either-lies scope v r ty a b z iz (inr h) = or_range_if-lies ty _ v z iz (span_of-lies _ _ v z (union-below scope v r z a.lower b.lower (inr h.0)) (union-above scope v r z a.upper b.upper (inr h.1)))

pub choice-lies : (scope : List Binding) (v : ℕ → ℤ) → HoldsIn scope v → (ty : Ty) (a b : Span1) (x y z : ℤ) → (z ≡ x) ⊎ (z ≡ y) → IsOf ty z → Lies a v x → Lies b v y → LiesIf (choice_of scope ty a b) v z
choice-lies scope v r ty a b x y z which iz ha hb = or_range_if-lies ty _ v z iz (span_of-lies _ _ v z
    (union-below scope v r z a.lower b.lower (one_low v x y z a.lower b.lower which ha.0 hb.0))
    (union-above scope v r z a.upper b.upper (one_high v x y z a.upper b.upper which ha.1 hb.1)))

-- ---- an operator
pub binary-lies : (scope : List Binding) (v : ℕ → ℤ) → HoldsIn scope v → (op : Op) (ty : Ty) (first second : Option ℤ) (a b : Span1) (x y : ℤ)
    → ((k : ℤ) → first ≡ Some k → x ≡ k) → ((k : ℤ) → second ≡ Some k → y ≡ k) → IsOf ty x → IsOf ty y → Lies a v x → Lies b v y
    → LiesIf (binary_of scope op ty first second a b) v (apply op ty x y)
binary-lies scope v r Add ty first second a b x y ex ey ix iy ha hb = sum-lies scope v r ty a b x y ha hb
binary-lies scope v r Sub ty first second a b x y ex ey ix iy ha hb = difference-lies scope v r ty a b x y ha hb
binary-lies scope v r Mul ty first second a b x y ex ey ix iy ha hb = product-lies scope v r ty first second a b x y ex ey ha hb
binary-lies scope v r Div ty first second a b x y ex ey ix iy ha hb = lies_some _ v _ (quotient-lies scope v r ty second a x y ey ha)
binary-lies scope v r Rem ty first second a b x y ex ey ix iy ha hb = lies_some _ v _ (remainder-lies v ty second x y ey iy)
binary-lies scope v r Min ty first second a b x y ex ey ix iy ha hb = rw (wrap_of_value ty (int_min x y) (min-of ty x y ix iy)) (minimum-lies scope v r ty a b x y ix iy ha hb)
binary-lies scope v r Max ty first second a b x y ex ey ix iy ha hb = rw (wrap_of_value ty (int_max x y) (max-of ty x y ix iy)) (maximum-lies scope v r ty a b x y ix iy ha hb)
