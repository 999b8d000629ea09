-- The bound that the search finds is above the form's value, whatever the symbols stand for.
use Rattle.std.proofs.Common.{◌≡◌, ℕ, zero, suc, ◌<◌, ◌^◌, List, [], ◌∷◌, length, get_or, Bool, true, false, arith, inl, inr, refl, sym, subst}
use Rattle.std.specs.Prelude.{option_and_then, ◌-ℤ◌, ◌&&◌, ℤ, pos, negsuc, ◌≤ℤ◌, map, fold, Option, Some, None, slice_get, if◌then◌else◌, IsTrue, IfSome, Any, ◌⊎◌}
use Rattle.std.specs.List.{AllByRecursion}
use Rattle.std.specs.Int.{int_min, int_max}
use Rattle.std.proofs.lemmas.Int.{ints, clamps}
use Rattle.std.proofs.lemmas.List.Elements.{recursion_from_All}
use Rattle.lin.specs.Forms.{Form, sum_of, value_of, factor_of, is_zero, is_within_limits, IsWithin, combined, plus_multiple, without}
use Rattle.lin.specs.Spans.{Holds, HoldsIn}
use Rattle.lin.specs.Search.{candidates, any_may_be, smaller, larger, pick, that_counts, number_of, is_empty, result_at, least, sup, replaced, is_at_most_zero, at_most, sup_of_difference}
use Rattle.lin.specs.declared.form.Multiple.{Multiple}
use Rattle.lin.specs.declared.scope.Binding.{Binding}
use Rattle.lin.specs.declared.scope.Binding.TheVariants.{Loop, LetMin, LetMax}
use Rattle.lin.proofs.TermLemmas.{either_way, sum_of-without, value_of-plus_multiple, all_weaker}
use Rattle.lin.proofs.Limits.{combined-means, within_limits-constant}
use Rattle.numeric.proofs.Ints.{multiply_order, multiply_order_negative}

-- no number that is found is below w
abbrev IsAbove : ℤ → Option ℤ → Type 0
IsAbove w found = (m : ℤ) → found ≡ Some m → w ≤ℤ m

some_is : (x m : ℤ) → Some x ≡ Some m → x ≡ m
some_is x m e = cc

smaller-above : (w : ℤ) (a b : Option ℤ) → IsAbove w a → IsAbove w b → IsAbove w (smaller a b)
smaller-above w None b ha hb = hb
smaller-above w (Some x) None ha hb = ha
smaller-above w (Some x) (Some y) ha hb = λ m e. let p : int_min x y ≡ m = cc in omega (arith, ints, clamps, p, ha x refl, hb y refl)

larger-above : (w : ℤ) (a b : Option ℤ) → IsAbove w a ⊎ IsAbove w b → IsAbove w (larger a b)
larger-above w None b h = λ m e. cc
larger-above w (Some x) None h = λ m e. cc
larger-above w (Some x) (Some y) h = λ m e. let p : int_max x y ≡ m = cc in
    elim h [ inl ha ↦ omega (arith, ints, clamps, p, ha x refl) | inr hb ↦ omega (arith, ints, clamps, p, hb y refl) ]

fold-smaller-above : (w : ℤ) (f : Form → Option ℤ) (a : Option ℤ) (fs : List Form) → IsAbove w a → AllByRecursion (λ g. IsAbove w (f g)) fs → IsAbove w (fold smaller a (map f fs))
fold-smaller-above w f a [] ha h = ha
fold-smaller-above w f a (g ∷ gs) ha h = fold-smaller-above w f (smaller a (f g)) gs (smaller-above w a (f g) ha h.0) h.1

-- one of a list
abbrev OneOf : (Form → Type 0) → List Form → Type 0
OneOf P [] = ⊥
OneOf P (x ∷ xs) = P x ⊎ OneOf P xs

fold-larger-above : (w : ℤ) (f : Form → Option ℤ) (a : Option ℤ) (fs : List Form) → IsAbove w a ⊎ OneOf (λ g. IsAbove w (f g)) fs → IsAbove w (fold larger a (map f fs))
fold-larger-above w f a [] (inl ha) = ha
fold-larger-above w f a [] (inr none) = absurd none
fold-larger-above w f a (g ∷ gs) (inl ha) = fold-larger-above w f (larger a (f g)) gs (inl (larger-above w a (f g) (inl ha)))
fold-larger-above w f a (g ∷ gs) (inr (inl hg)) = fold-larger-above w f (larger a (f g)) gs (inl (larger-above w a (f g) (inr hg)))
fold-larger-above w f a (g ∷ gs) (inr (inr later)) = fold-larger-above w f (larger a (f g)) gs (inr later)

smallest-above : (w : ℤ) (f : Form → Option ℤ) (fs : List Form) → AllByRecursion (λ g. IsAbove w (f g)) fs → IsAbove w (that_counts false (map f fs))
smallest-above w f [] h = λ m e. cc
smallest-above w f (g ∷ gs) h = fold-smaller-above w f (f g) gs h.0 h.1

largest-above : (w : ℤ) (f : Form → Option ℤ) (fs : List Form) → OneOf (λ g. IsAbove w (f g)) fs → IsAbove w (that_counts true (map f fs))
largest-above w f [] h = absurd h
largest-above w f (g ∷ gs) (inl hg) = fold-larger-above w f (f g) gs (inl hg)
largest-above w f (g ∷ gs) (inr later) = fold-larger-above w f (f g) gs (inr later)

-- ---- a replacement
abbrev put : Form → ℕ → ℤ → Form → Form
put form n c other = plus_multiple (without form n) c other

replaced-up : (form other : Form) (n : ℕ) (v : ℕ → ℤ) → pos 0 ≤ℤ factor_of form.terms n → v n ≤ℤ value_of other v → value_of form v ≤ℤ value_of (put form n (factor_of form.terms n) other) v
replaced-up form other n v sign h =
    omega (arith, ints, value_of-plus_multiple (without form n) (factor_of form.terms n) other v, sum_of-without n form.terms v, multiply_order (factor_of form.terms n) (v n) (value_of other v) sign h)

replaced-down : (form other : Form) (n : ℕ) (v : ℕ → ℤ) → factor_of form.terms n ≤ℤ pos 0 → value_of other v ≤ℤ v n → value_of form v ≤ℤ value_of (put form n (factor_of form.terms n) other) v
replaced-down form other n v sign h =
    omega (arith, ints, value_of-plus_multiple (without form n) (factor_of form.terms n) other v, sum_of-without n form.terms v, multiply_order_negative (factor_of form.terms n) (value_of other v) (v n) sign h)

-- ---- the search
empty_sum : (ts : List Multiple) (v : ℕ → ℤ) → is_empty ts ≡ true → sum_of ts v ≡ pos 0
empty_sum [] v h = refl
empty_sum (t ∷ ts) v h = cc

one_of_at : (P Q : Form → Type 0) → ((o : Form) → P o → Q o) → (fs : List Form) (k : ℕ) (x : Form) → k < length fs → get_or fs k x ≡ x → P x → OneOf Q fs
one_of_at P Q f [] k x l e p = absurd (omega arith)
one_of_at P Q f (y ∷ ys) zero x l e p = inl (f y (subst P (sym e) p))
one_of_at P Q f (y ∷ ys) (suc k) x l e p = inr (one_of_at P Q f ys k x (omega arith) e p)

one_of : (P Q : Form → Type 0) → ((o : Form) → P o → Q o) → (fs : List Form) → Any P fs → OneOf Q fs
one_of P Q f fs (k, x, l, e, p) = one_of_at P Q f fs k x l e p

number-above : (form : Form) (v : ℕ → ℤ) → IsAbove (value_of form v) (number_of form)
number-above form v = either_way (λ (r : Option ℤ). IsAbove (value_of form v) r) (is_empty form.terms) _ _
    (λ empty. λ m e. let p : form.constant ≡ m = some_is form.constant m e in let q = empty_sum form.terms v empty in omega (arith, ints, p, q))
    (λ more. λ m e. cc)

counts-above : (w : ℤ) (g : Form → Option ℤ) (binding : Binding) (c z : ℤ) (v : ℕ → ℤ) → Holds binding z v
    → ((other : Form) → pos 0 ≤ℤ c → z ≤ℤ value_of other v → IsAbove w (g other))
    → ((other : Form) → c ≤ℤ pos 0 → value_of other v ≤ℤ z → IsAbove w (g other))
    → IsAbove w (that_counts (any_may_be binding c) (map g (candidates binding c)))
counts-above w g (Loop span) (pos k) z v holds above below =
    smallest-above w g span.upper (all_weaker (λ (o : Form). z ≤ℤ value_of o v) (λ (o : Form). IsAbove w (g o)) (λ o h. above o (omega (arith, ints)) h) _ (recursion_from_All _ _ holds.1))
counts-above w g (Loop span) (negsuc k) z v holds above below =
    smallest-above w g span.lower (all_weaker (λ (o : Form). value_of o v ≤ℤ z) (λ (o : Form). IsAbove w (g o)) (λ o h. below o (omega (arith, ints)) h) _ (recursion_from_All _ _ holds.0))
counts-above w g (LetMin forms) (pos k) z v holds above below =
    smallest-above w g forms (all_weaker (λ (o : Form). z ≤ℤ value_of o v) (λ (o : Form). IsAbove w (g o)) (λ o h. above o (omega (arith, ints)) h) _ (recursion_from_All _ _ holds.0))
counts-above w g (LetMin forms) (negsuc k) z v holds above below =
    largest-above w g forms (one_of (λ (o : Form). value_of o v ≡ z) (λ (o : Form). IsAbove w (g o)) (λ o h. below o (omega (arith, ints)) (omega (arith, ints))) forms holds.1)
counts-above w g (LetMax forms) (pos k) z v holds above below =
    largest-above w g forms (one_of (λ (o : Form). value_of o v ≡ z) (λ (o : Form). IsAbove w (g o)) (λ o h. above o (omega (arith, ints)) (omega (arith, ints))) forms holds.1)
counts-above w g (LetMax forms) (negsuc k) z v holds above below =
    smallest-above w g forms (all_weaker (λ (o : Form). value_of o v ≤ℤ z) (λ (o : Form). IsAbove w (g o)) (λ o h. below o (omega (arith, ints)) h) _ (recursion_from_All _ _ holds.0))

at_binding : (w : ℤ) (g : Form → Option ℤ) (symbols : List Binding) (n : ℕ) (found : Option Binding) (c : ℤ) (v : ℕ → ℤ) → HoldsIn symbols v → slice_get symbols n ≡ found
    → ((other : Form) → pos 0 ≤ℤ c → v n ≤ℤ value_of other v → IsAbove w (g other))
    → ((other : Form) → c ≤ℤ pos 0 → value_of other v ≤ℤ v n → IsAbove w (g other))
    → IsAbove w (result_at found c g)
at_binding w g symbols n None c v r e above below = λ m h. cc
at_binding w g symbols n (Some binding) c v r e above below = counts-above w g binding c (v n) v (r n binding e) above below

within-above : (w : ℤ) (b : Bool) (x : Option ℤ) → IsAbove w x → IsAbove w (if b then x else None)
within-above w true x h = h
within-above w false x h = λ m e. cc

chained-above : (w : ℤ) (b : Bool) (next : Form) (f : Form → Option ℤ) → IsAbove w (f next) → IsAbove w (option_and_then f (if b then Some next else None))
chained-above w true next f h = h
chained-above w false next f h = λ m e. cc

above-more : (w w' : ℤ) (x : Option ℤ) → w ≤ℤ w' → IsAbove w' x → IsAbove w x
above-more w w' x l h = λ m e. omega (arith, ints, h m e)

pub least-above : (symbols : List Binding) (v : ℕ → ℤ) → HoldsIn symbols v → (n : ℕ) (form : Form) → IsAbove (value_of form v) (least symbols n form)
least-above symbols v r zero form = number-above form v
least-above symbols v r (suc n) form =
    either_way (λ (found : Option ℤ). IsAbove (value_of form v) found) (is_zero (factor_of form.terms n)) _ _
    (λ none. least-above symbols v r n form)
    (λ some. at_binding (value_of form v) _ symbols n (slice_get symbols n) (factor_of form.terms n) v r refl
    (λ other sign h. chained-above (value_of form v) _ (put form n (factor_of form.terms n) other) (λ next. least symbols n next) (above-more _ _ _ (replaced-up form other n v sign h) (least-above symbols v r n (put form n (factor_of form.terms n) other))))
    (λ other sign h. chained-above (value_of form v) _ (put form n (factor_of form.terms n) other) (λ next. least symbols n next) (above-more _ _ _ (replaced-down form other n v sign h) (least-above symbols v r n (put form n (factor_of form.terms n) other)))))

pub sup-above : (symbols : List Binding) (v : ℕ → ℤ) → HoldsIn symbols v → (form : Form) (m : ℤ) → sup symbols form ≡ Some m → value_of form v ≤ℤ m
sup-above symbols v r form = within-above (value_of form v) _ _ (least-above symbols v r (length symbols) form)

at_most_zero : (found : Option ℤ) → IsTrue (is_at_most_zero found) → (w : ℤ) → IsAbove w found → w ≤ℤ pos 0
at_most_zero None h w above = cc
at_most_zero (Some (pos zero)) h w above = above (pos 0) refl
at_most_zero (Some (pos (suc n))) h w above = cc
at_most_zero (Some (negsuc n)) h w above = omega (arith, ints, above (negsuc n) refl)

difference-value : (a b : Form) (v : ℕ → ℤ) → value_of (plus_multiple a (negsuc 0) b) v ≡ value_of a v -ℤ value_of b v
difference-value a b v = omega (arith, ints, value_of-plus_multiple a (negsuc 0) b v)

pub difference-above : (symbols : List Binding) (v : ℕ → ℤ) → HoldsIn symbols v → (a b : Form) → IsAbove (value_of a v -ℤ value_of b v) (sup_of_difference symbols a b)
difference-above symbols v r a b =
    chained-above (value_of a v -ℤ value_of b v) _ (plus_multiple a (negsuc 0) b) (λ d. sup symbols d)
    (above-more _ _ _ (omega (arith, ints, difference-value a b v)) (sup-above symbols v r (plus_multiple a (negsuc 0) b)))

pub at_most-holds : (symbols : List Binding) (v : ℕ → ℤ) → HoldsIn symbols v → (a b : Form) → IsTrue (at_most symbols a b) → value_of a v ≤ℤ value_of b v
at_most-holds symbols v r a b h =
    let below = at_most_zero (sup_of_difference symbols a b) h (value_of a v -ℤ value_of b v) (difference-above symbols v r a b) in
    omega (arith, ints, below)

pub sup-above_if : (symbols : List Binding) (form : Form) (found : Option ℤ) → found ≡ sup symbols form → IfSome found (λ m. (v : ℕ → ℤ) → HoldsIn symbols v → value_of form v ≤ℤ m)
sup-above_if symbols form None e = tt
sup-above_if symbols form (Some m) e = λ v r. sup-above symbols v r form m (sym e)

pub difference-above_if : (symbols : List Binding) (a b : Form) (found : Option ℤ) → found ≡ sup_of_difference symbols a b
    → IfSome found (λ m. (v : ℕ → ℤ) → HoldsIn symbols v → (value_of a v -ℤ value_of b v) ≤ℤ m)
difference-above_if symbols a b None e = tt
difference-above_if symbols a b (Some m) e = λ v r. difference-above symbols v r a b m (sym e)

pub at_most-sound : (symbols : List Binding) (a b : Form) (answer : Bool) → answer ≡ at_most symbols a b → IsTrue answer → (v : ℕ → ℤ) → HoldsIn symbols v → value_of a v ≤ℤ value_of b v
at_most-sound symbols a b answer e h = λ v r. at_most-holds symbols v r a b (subst IsTrue e h)

-- ---- the bound that is found is within 2^40
abbrev IsSmall : Option ℤ → Type 0
IsSmall found = (m : ℤ) → found ≡ Some m → IsWithin (2 ^ 40) m

pick-small : (largest : Bool) (a b : Option ℤ) → IsSmall a → IsSmall b → IsSmall (pick largest a b)
pick-small true None b ha hb = λ m e. cc
pick-small true (Some x) None ha hb = λ m e. cc
pick-small true (Some x) (Some y) ha hb = λ m e. let p : int_max x y ≡ m = cc in omega (arith, ints, clamps, p, ha x refl, hb y refl)
pick-small false None b ha hb = hb
pick-small false (Some x) None ha hb = ha
pick-small false (Some x) (Some y) ha hb = λ m e. let p : int_min x y ≡ m = cc in omega (arith, ints, clamps, p, ha x refl, hb y refl)

fold-small : (largest : Bool) (f : Form → Option ℤ) → ((g : Form) → IsSmall (f g)) → (a : Option ℤ) (fs : List Form) → IsSmall a → IsSmall (fold (pick largest) a (map f fs))
fold-small largest f h a [] ha = ha
fold-small largest f h a (g ∷ gs) ha = fold-small largest f h (pick largest a (f g)) gs (pick-small largest a (f g) ha (h g))

counts-small : (largest : Bool) (f : Form → Option ℤ) → ((g : Form) → IsSmall (f g)) → (fs : List Form) → IsSmall (that_counts largest (map f fs))
counts-small largest f h [] = λ m e. cc
counts-small largest f h (g ∷ gs) = fold-small largest f h (f g) gs (h g)

at_binding-small : (found : Option Binding) (c : ℤ) (f : Form → Option ℤ) → ((g : Form) → IsSmall (f g)) → IsSmall (result_at found c f)
at_binding-small None c f h = λ m e. cc
at_binding-small (Some binding) c f h = counts-small (any_may_be binding c) f h (candidates binding c)

chained-small : (made : Option Form) (f : Form → Option ℤ) → ((next : Form) → made ≡ Some next → IsSmall (f next)) → IsSmall (option_and_then f made)
chained-small None f h = λ m e. cc
chained-small (Some next) f h = h next refl

number-small : (form : Form) → IsTrue (is_within_limits form) → IsSmall (number_of form)
number-small form w = either_way (λ (r : Option ℤ). IsSmall r) (is_empty form.terms) _ _
    (λ empty. λ m e. let p : form.constant ≡ m = some_is form.constant m e in let q = within_limits-constant form w in omega (arith, ints, p, q))
    (λ more. λ m e. cc)

least-small : (symbols : List Binding) (n : ℕ) (form : Form) → IsTrue (is_within_limits form) → IsSmall (least symbols n form)
least-small symbols zero form w = number-small form w
least-small symbols (suc n) form w =
    either_way (λ (found : Option ℤ). IsSmall found) (is_zero (factor_of form.terms n)) _ _
    (λ none. least-small symbols n form w)
    (λ some. at_binding-small (slice_get symbols n) (factor_of form.terms n) _
    (λ other. chained-small (replaced form n (factor_of form.terms n) other) (λ next. least symbols n next)
    (λ next e. least-small symbols n next (combined-means (without form n) (factor_of form.terms n) other next e).within)))

within-small : (form : Form) (b c : Bool) (x : Option ℤ) → is_within_limits form ≡ b → (IsTrue (is_within_limits form) → IsSmall x) → IsSmall (if b && c then x else None)
within-small form true true x e h = h e
within-small form true false x e h = λ m q. cc
within-small form false c x e h = λ m q. cc

pub sup-small : (symbols : List Binding) (form : Form) → IsSmall (sup symbols form)
sup-small symbols form = within-small form (is_within_limits form) _ _ refl (least-small symbols (length symbols) form)

pub sup-small_if : (symbols : List Binding) (form : Form) (found : Option ℤ) → found ≡ sup symbols form → IfSome found (λ m. IsWithin (2 ^ 40) m)
sup-small_if symbols form None e = tt
sup-small_if symbols form (Some m) e = sup-small symbols form m (sym e)

pub difference-small_if : (symbols : List Binding) (a b : Form) (found : Option ℤ) → found ≡ sup_of_difference symbols a b → IfSome found (λ m. IsWithin (2 ^ 40) m)
difference-small_if symbols a b None e = tt
difference-small_if symbols a b (Some m) e = chained-small (combined a (negsuc 0) b) (λ d. sup symbols d) (λ d _. sup-small symbols d) m (sym e)

pub difference-small : (symbols : List Binding) (a b : Form) → IsSmall (sup_of_difference symbols a b)
difference-small symbols a b = chained-small (combined a (negsuc 0) b) (λ d. sup symbols d) (λ d _. sup-small symbols d)
