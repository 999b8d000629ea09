-- What the lists of forms bound.
use Rattle.std.proofs.Common.{◌≡◌, ℕ, List, [], ◌∷◌, ◌++◌, length, true, false, not, ◌&&◌, arith, refl, sym, subst, inl, inr}
use Rattle.std.specs.Prelude.{ℤ, pos, negsuc, ◌+ℤ◌, ◌-ℤ◌, ◌≤ℤ◌, map, fold, flat_map, option_map, option_to_list, Option, Some, None, ◌⊎◌, nat_lt}
use Rattle.std.specs.List.{AllByRecursion, list_any}
use Rattle.std.specs.Int.{int_min, int_max}
use Rattle.std.proofs.lemmas.Int.{ints, clamps}
use Rattle.lin.specs.Forms.{Form, number, value_of, is_within_limits, plus_multiple, combined, same_form}
use Rattle.lin.specs.Spans.{HoldsIn}
use Rattle.lin.specs.Search.{sup_of_difference, smaller}
use Rattle.lin.specs.declared.scope.Binding.{Binding}
use Rattle.lin.proofs.TermLemmas.{either_way, all_weaker, value_of-plus_multiple}
use Rattle.lin.proofs.Limits.{combined-means}
use Rattle.lin.proofs.Soundness.{difference-above}
use Rattle.bounds.specs.Lists.{checked, with_new, with_made, kept, all_combined, excess, distance, gap, moved, all_moved, union}

-- ---- what holds of each form that is made holds of those kept
abbrev pub AllIn : (Form → Type 0) → Option (List Form) → Type 0
AllIn P found = (forms : List Form) → found ≡ Some forms → AllByRecursion P forms

abbrev pub Made : (Form → Type 0) → Option Form → Type 0
Made P made = (f : Form) → made ≡ Some f → P f

some_list : (x y : List Form) → Some x ≡ Some y → x ≡ y
some_list x y e = cc

some_form : (x y : Form) → Some x ≡ Some y → x ≡ y
some_form x y e = cc

pub all_in_some : (P : Form → Type 0) (forms : List Form) → AllByRecursion P forms → AllIn P (Some forms)
all_in_some P forms a = λ xs e. let F : List Form → Type 0 = λ ys. AllByRecursion P ys in subst F (some_list forms xs e) a

pub all-append : {X : Type 0} (P : X → Type 0) (xs ys : List X) → AllByRecursion P xs → AllByRecursion P ys → AllByRecursion P (xs ++ ys)
all-append P [] ys a b = b
all-append P (x ∷ xs) ys a b = (a.0, all-append P xs ys a.1 b)

with_new-all : (P : Form → Type 0) (forms : List Form) (form : Form) → AllByRecursion P forms → P form → AllByRecursion P (with_new forms form)
with_new-all P forms form a p = either_way (λ (r : List Form). AllByRecursion P r) (nat_lt (length forms) 4 && not (list_any (λ f. same_form f form) forms)) _ _
    (λ new. all-append P forms (form ∷ []) a (p, tt)) (λ old. a)

with_made-all : (P : Form → Type 0) (known : Option (List Form)) (made : Option Form) → AllIn P known → Made P made → AllIn P (with_made known made)
with_made-all P None made a p = λ forms e. cc
with_made-all P (Some forms) None a p = λ xs e. cc
with_made-all P (Some forms) (Some form) a p = all_in_some P (with_new forms form) (with_new-all P forms form (a forms refl) (p form refl))

fold-all : (P : Form → Type 0) (known : Option (List Form)) (more : List (Option Form)) → AllIn P known → AllByRecursion (λ m. Made P m) more → AllIn P (fold with_made known more)
fold-all P known [] a b = a
fold-all P known (x ∷ xs) a b = fold-all P (with_made known x) xs (with_made-all P known x a b.0) b.1

pub kept-all : (P : Form → Type 0) (made : List (Option Form)) → AllByRecursion (λ m. Made P m) made → AllIn P (kept made)
kept-all P made a = fold-all P (Some []) made (all_in_some P [] tt) a

-- ---- copies
checked-made : (P : Form → Type 0) (f : Form) → P f → Made P (checked f)
checked-made P f p = either_way (λ (m : Option Form). Made P m) (is_within_limits f) (Some f) None
    (λ t. λ g e. subst P (some_form f g e) p) (λ t. λ g e. cc)

pub checked-all : (P : Form → Type 0) (fs : List Form) → AllByRecursion P fs → AllByRecursion (λ m. Made P m) (map checked fs)
checked-all P [] a = tt
checked-all P (f ∷ fs) a = (checked-made P f a.0, checked-all P fs a.1)

-- ---- sums
combined-made : (R : Form → Type 0) (a b : Form) (k : ℤ) → R (plus_multiple a k b) → Made R (combined a k b)
combined-made R a b k r = λ f e. subst R (sym (combined-means a k b f e).is) r

map-all : (Q R : Form → Type 0) (a : Form) (k : ℤ) → ((b : Form) → Q b → R (plus_multiple a k b)) → (bs : List Form) → AllByRecursion Q bs → AllByRecursion (λ m. Made R m) (map (λ b. combined a k b) bs)
map-all Q R a k f [] q = tt
map-all Q R a k f (b ∷ bs) q = (combined-made R a b k (f b q.0), map-all Q R a k f bs q.1)

pub all_combined-all : (P Q R : Form → Type 0) (k : ℤ) → ((a b : Form) → P a → Q b → R (plus_multiple a k b)) → (firsts seconds : List Form)
    → AllByRecursion P firsts → AllByRecursion Q seconds → AllByRecursion (λ m. Made R m) (all_combined firsts k seconds)
all_combined-all P Q R k f [] seconds p q = tt
all_combined-all P Q R k f (a ∷ as') seconds p q =
    all-append (λ m. Made R m) (map (λ b. combined a k b) seconds) _ (map-all Q R a k (λ b h. f a b p.0 h) seconds q) (all_combined-all P Q R k f as' seconds p.1 q)

-- ---- distances
abbrev IsDistance : ℤ → Option ℤ → Type 0
IsDistance w found = (d : ℤ) → found ≡ Some d → (pos 0 ≤ℤ d) × (w ≤ℤ d)

max_of : (x y : ℤ) (found : Option ℤ) → ((m : ℤ) → found ≡ Some m → (x -ℤ y) ≤ℤ m) → (d : ℤ) → option_map (λ m. int_max (pos 0) m) found ≡ Some d
    → (pos 0 ≤ℤ d) × (x ≤ℤ (y +ℤ d))
max_of x y None h d e = cc
max_of x y (Some m) h d e =
    let p : int_max (pos 0) m ≡ d = cc in
    let q = h m refl in
    (omega (arith, ints, clamps, p), omega (arith, ints, clamps, p, q))

excess-is : (scope : List Binding) (v : ℕ → ℤ) → HoldsIn scope v → (a b : Form) (d : ℤ) → excess scope a b ≡ Some d → (pos 0 ≤ℤ d) × (value_of a v ≤ℤ (value_of b v +ℤ d))
excess-is scope v r a b d e = max_of (value_of a v) (value_of b v) (sup_of_difference scope a b) (difference-above scope v r a b) d e

smaller-distance : (w : ℤ) (a b : Option ℤ) → IsDistance w a → IsDistance w b → IsDistance w (smaller a b)
smaller-distance w None b ha hb = hb
smaller-distance w (Some x) None ha hb = ha
smaller-distance w (Some x) (Some y) ha hb = λ d e.
    let p : int_min x y ≡ d = cc in let hx = ha x refl in let hy = hb y refl in
    (omega (arith, ints, clamps, p, hx, hy), omega (arith, ints, clamps, p, hx, hy))

fold-distance : (w : ℤ) (f : Form → Option ℤ) (a : Option ℤ) (ms : List Form) → IsDistance w a → ((m : Form) → IsDistance w (f m)) ⊎ AllByRecursion (λ m. IsDistance w (f m)) ms → IsDistance w (fold smaller a (map f ms))
fold-distance w f a [] ha h = ha
fold-distance w f a (m ∷ ms) ha (inl h) = fold-distance w f (smaller a (f m)) ms (smaller-distance w a (f m) ha (h m)) (inl h)
fold-distance w f a (m ∷ ms) ha (inr h) = fold-distance w f (smaller a (f m)) ms (smaller-distance w a (f m) ha h.0) (inr h.1)

-- the form is a bound itself, or the others are
gap-below : (scope : List Binding) (v : ℕ → ℤ) → HoldsIn scope v → (z : ℤ) (form : Form) (others : List Form)
    → (value_of form v ≤ℤ z) ⊎ AllByRecursion (λ m. value_of m v ≤ℤ z) others → IsDistance (value_of form v -ℤ z) (gap scope false form others)
gap-below scope v r z form others (inl own) =
    fold-distance (value_of form v -ℤ z) (λ m. distance scope false form m) None others (λ d e. cc)
    (inl (λ m d e. let h = excess-is scope v r form m d e in (h.0, omega (arith, ints, h.0, own))))
gap-below scope v r z form others (inr all) =
    fold-distance (value_of form v -ℤ z) (λ m. distance scope false form m) None others (λ d e. cc)
    (inr (all_weaker (λ (m : Form). value_of m v ≤ℤ z) (λ (m : Form). IsDistance (value_of form v -ℤ z) (distance scope false form m))
    (λ m low d e. let h = excess-is scope v r form m d e in (h.0, omega (arith, ints, h.1, low))) others all))

gap-above : (scope : List Binding) (v : ℕ → ℤ) → HoldsIn scope v → (z : ℤ) (form : Form) (others : List Form)
    → (z ≤ℤ value_of form v) ⊎ AllByRecursion (λ m. z ≤ℤ value_of m v) others → IsDistance (z -ℤ value_of form v) (gap scope true form others)
gap-above scope v r z form others (inl own) =
    fold-distance (z -ℤ value_of form v) (λ m. distance scope true form m) None others (λ d e. cc)
    (inl (λ m d e. let h = excess-is scope v r m form d e in (h.0, omega (arith, ints, h.0, own))))
gap-above scope v r z form others (inr all) =
    fold-distance (z -ℤ value_of form v) (λ m. distance scope true form m) None others (λ d e. cc)
    (inr (all_weaker (λ (m : Form). z ≤ℤ value_of m v) (λ (m : Form). IsDistance (z -ℤ value_of form v) (distance scope true form m))
    (λ m high d e. let h = excess-is scope v r m form d e in (h.0, omega (arith, ints, h.1, high))) others all))

moved-below : (v : ℕ → ℤ) (z : ℤ) (form : Form) (found : Option ℤ) → IsDistance (value_of form v -ℤ z) found
    → AllByRecursion (λ m. Made (λ f. value_of f v ≤ℤ z) m) (option_to_list (option_map (moved false form) found))
moved-below v z form None h = tt
moved-below v z form (Some d) h = let p = h d refl in
    (combined-made (λ f. value_of f v ≤ℤ z) form (number d) (negsuc 0) (omega (arith, ints, p.1, value_of-plus_multiple form (negsuc 0) (number d) v)), tt)

moved-above : (v : ℕ → ℤ) (z : ℤ) (form : Form) (found : Option ℤ) → IsDistance (z -ℤ value_of form v) found
    → AllByRecursion (λ m. Made (λ f. z ≤ℤ value_of f v) m) (option_to_list (option_map (moved true form) found))
moved-above v z form None h = tt
moved-above v z form (Some d) h = let p = h d refl in
    (combined-made (λ f. z ≤ℤ value_of f v) form (number d) (pos 1) (omega (arith, ints, p.1, value_of-plus_multiple form (pos 1) (number d) v)), tt)

flat_map-all : (P : Form → Type 0) (R : Option Form → Type 0) (g : Form → List (Option Form)) → ((f : Form) → P f → AllByRecursion R (g f)) → (fs : List Form) → AllByRecursion P fs → AllByRecursion R (flat_map g fs)
flat_map-all P R g h [] a = tt
flat_map-all P R g h (f ∷ fs) a = all-append R (g f) (flat_map g fs) (h f a.0) (flat_map-all P R g h fs a.1)

every : (fs : List Form) → AllByRecursion (λ _. Unit {0}) fs
every [] = tt
every (f ∷ fs) = (tt, every fs)

pub union-below : (scope : List Binding) (v : ℕ → ℤ) → HoldsIn scope v → (z : ℤ) (firsts seconds : List Form)
    → AllByRecursion (λ f. value_of f v ≤ℤ z) firsts ⊎ AllByRecursion (λ f. value_of f v ≤ℤ z) seconds → AllIn (λ f. value_of f v ≤ℤ z) (union scope false firsts seconds)
union-below scope v r z firsts seconds (inl a) = kept-all (λ (f : Form). value_of f v ≤ℤ z) _ (all-append (λ m. Made (λ f. value_of f v ≤ℤ z) m) (all_moved scope false firsts seconds) _
    (flat_map-all (λ (f : Form). value_of f v ≤ℤ z) (λ m. Made (λ f. value_of f v ≤ℤ z) m) _ (λ f own. moved-below v z f _ (gap-below scope v r z f seconds (inl own))) firsts a)
    (flat_map-all (λ (f : Form). Unit {0}) (λ m. Made (λ f. value_of f v ≤ℤ z) m) _ (λ f _. moved-below v z f _ (gap-below scope v r z f firsts (inr a))) seconds (every seconds)))
union-below scope v r z firsts seconds (inr b) = kept-all (λ (f : Form). value_of f v ≤ℤ z) _ (all-append (λ m. Made (λ f. value_of f v ≤ℤ z) m) (all_moved scope false firsts seconds) _
    (flat_map-all (λ (f : Form). Unit {0}) (λ m. Made (λ f. value_of f v ≤ℤ z) m) _ (λ f _. moved-below v z f _ (gap-below scope v r z f seconds (inr b))) firsts (every firsts))
    (flat_map-all (λ (f : Form). value_of f v ≤ℤ z) (λ m. Made (λ f. value_of f v ≤ℤ z) m) _ (λ f own. moved-below v z f _ (gap-below scope v r z f firsts (inl own))) seconds b))

pub union-above : (scope : List Binding) (v : ℕ → ℤ) → HoldsIn scope v → (z : ℤ) (firsts seconds : List Form)
    → AllByRecursion (λ f. z ≤ℤ value_of f v) firsts ⊎ AllByRecursion (λ f. z ≤ℤ value_of f v) seconds → AllIn (λ f. z ≤ℤ value_of f v) (union scope true firsts seconds)
union-above scope v r z firsts seconds (inl a) = kept-all (λ (f : Form). z ≤ℤ value_of f v) _ (all-append (λ m. Made (λ f. z ≤ℤ value_of f v) m) (all_moved scope true firsts seconds) _
    (flat_map-all (λ (f : Form). z ≤ℤ value_of f v) (λ m. Made (λ f. z ≤ℤ value_of f v) m) _ (λ f own. moved-above v z f _ (gap-above scope v r z f seconds (inl own))) firsts a)
    (flat_map-all (λ (f : Form). Unit {0}) (λ m. Made (λ f. z ≤ℤ value_of f v) m) _ (λ f _. moved-above v z f _ (gap-above scope v r z f firsts (inr a))) seconds (every seconds)))
union-above scope v r z firsts seconds (inr b) = kept-all (λ (f : Form). z ≤ℤ value_of f v) _ (all-append (λ m. Made (λ f. z ≤ℤ value_of f v) m) (all_moved scope true firsts seconds) _
    (flat_map-all (λ (f : Form). Unit {0}) (λ m. Made (λ f. z ≤ℤ value_of f v) m) _ (λ f _. moved-above v z f _ (gap-above scope v r z f seconds (inr b))) firsts (every firsts))
    (flat_map-all (λ (f : Form). z ≤ℤ value_of f v) (λ m. Made (λ f. z ≤ℤ value_of f v) m) _ (λ f own. moved-above v z f _ (gap-above scope v r z f firsts (inl own))) seconds b))
