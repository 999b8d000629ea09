-- The value of a moved expression.
use Rattle.std.proofs.Common.{◌≡◌, ℕ, List, [], ◌∷◌, ◌++◌, Bool, true, false, Option, Some, None, IsSome, IsTrue, ℤ, pos, neg_ℤ, ◌+ℤ◌, ◌-ℤ◌, ◌≤ℤ◌, refl, sym, ap, ◌∙◌, subst, arith, ◌&&◌, ◌||◌, not, if◌then◌else◌}
use Rattle.std.specs.Prelude.{map, is_some}
use Rattle.std.specs.List.{AllByRecursion}
use Rattle.std.proofs.lemmas.Int.{ints, clamps}
use Rattle.std.proofs.lemmas.Bool.{false≢true}
use Rattle.std.proofs.lemmas.List.Elements.{recursion_from_All}
use Rattle.numeric.specs.declared.ty.Ty.{Ty}
use Rattle.numeric.specs.declared.ty.Ty.TheVariants.{I32}
use Rattle.numeric.specs.declared.op.Comparison.{Comparison}
use Rattle.numeric.specs.declared.op.Comparison.TheVariants.{Less, AtMost, Greater, AtLeast, Equal, Different}
use Rattle.numeric.specs.Wrap.{IsOf, wrap}
use Rattle.numeric.specs.Apply.{exact, compare}
use Rattle.numeric.proofs.Wraps.{wrap_of_value, wraps_to}
use Rattle.numeric.proofs.Comparisons.{comparisons}
use Rattle.tree.specs.declared.value.Value.{Value}
use Rattle.tree.specs.Term.{Term, Number, Name, Call, Minus, Binary, Clamp, Cast, Choice, Terms, End, More, Test, Compares, Fails, Both, Either}
use Rattle.tree.specs.Meaning.{value_of, holds, numbers_of, typed, applied, clamped, negated}
use Rattle.tree.specs.Names.{AreAsTold, IsIndex, IsValueOf}
use Rattle.tree.specs.Typing.{is_of, type_of, is_typed, are_indices, is_index, shape_type, same_type, common, only_if, answer_type, index_count}
use Rattle.tree.specs.Uses.{Asked, asked, calls_made, calls_made_by_test, calls_made_by_all}
use Rattle.tree.specs.Laws.{CanBeAsked}
use Rattle.tree.proofs.Typed.{both_true, is_of-true, same_type-true, some_only_if, some_operator, some_of, index-is}
use Rattle.tree.proofs.Soundness.{does_as_typed}
use Rattle.crop.specs.declared.cut.Stretch.{Stretch}
use Rattle.bounds.proofs.Fitting.{both_typed, all_typed, shape, one_shape}
use Rattle.crop.specs.Moving.{Move, moved, test_moved, all_moved, constant, shifted, against, moved_point, literal, number_in, plus, clamp_to, negated_moved, clamp_moved, operator_moved, Moving, compare_moved, compare_plain}
use Rattle.crop.proofs.Rings.{equal, same, wrapped, sum, opposite, through, wraps_alike, add_left}
use Rattle.crop.proofs.Operators.{Within, IsIf, Adds, at_none, plus-is, literal-is, number-is, operator-is, clamp-is, either}

all-left : {X : Type 0} (P : X → Type 0) (xs ys : List X) → AllByRecursion P (xs ++ ys) → AllByRecursion P xs
all-left P [] ys a = tt
all-left P (x ∷ xs) ys a = (a.0, all-left P xs ys a.1)

all-right : {X : Type 0} (P : X → Type 0) (xs ys : List X) → AllByRecursion P (xs ++ ys) → AllByRecursion P ys
all-right P [] ys a = a
all-right P (x ∷ xs) ys a = all-right P xs ys a.1

pub bool_same : (p q : Bool) → (p ≡ true → q ≡ true) → (q ≡ true → p ≡ true) → p ≡ q
bool_same true q h k = sym (h refl)
bool_same false true h k = absurd (false≢true (k refl))
bool_same false false h k = refl

pub some_type : (t u : Ty) → Some t ≡ Some u → t ≡ u
some_type t u e = cc

-- ---- comparisons
compare_equal : (x n lo hi : ℤ) → lo ≤ℤ x → x ≤ℤ hi → compare Equal (x +ℤ neg_ℤ lo) (clamp_to (lo -ℤ pos 1) (hi +ℤ pos 1) n -ℤ lo) ≡ compare Equal x n
compare_equal x n lo hi a b =
    let y = x +ℤ neg_ℤ lo in let m = clamp_to (lo -ℤ pos 1) (hi +ℤ pos 1) n -ℤ lo in
    bool_same (compare Equal y m) (compare Equal x n)
    (λ t. let h = (comparisons.equal y m).0 t in (comparisons.equal x n).1 (omega (arith, ints, clamps, a, b, h)))
    (λ t. let h = (comparisons.equal x n).0 t in (comparisons.equal y m).1 (omega (arith, ints, clamps, a, b, h)))

compare_order : (by : Comparison) (x n lo hi : ℤ) → lo ≤ℤ x → x ≤ℤ hi → compare by (x +ℤ neg_ℤ lo) (clamp_to (lo -ℤ pos 1) (hi +ℤ pos 1) n -ℤ lo) ≡ compare by x n
compare_order Less x n lo hi a b =
    let y = x +ℤ neg_ℤ lo in let m = clamp_to (lo -ℤ pos 1) (hi +ℤ pos 1) n -ℤ lo in
    bool_same (compare Less y m) (compare Less x n)
    (λ t. let h = (comparisons.less y m).0 t in (comparisons.less x n).1 (omega (arith, ints, clamps, a, b, h)))
    (λ t. let h = (comparisons.less x n).0 t in (comparisons.less y m).1 (omega (arith, ints, clamps, a, b, h)))
compare_order AtMost x n lo hi a b =
    let y = x +ℤ neg_ℤ lo in let m = clamp_to (lo -ℤ pos 1) (hi +ℤ pos 1) n -ℤ lo in
    bool_same (compare AtMost y m) (compare AtMost x n)
    (λ t. let h = (comparisons.at_most y m).0 t in (comparisons.at_most x n).1 (omega (arith, ints, clamps, a, b, h)))
    (λ t. let h = (comparisons.at_most x n).0 t in (comparisons.at_most y m).1 (omega (arith, ints, clamps, a, b, h)))
compare_order Greater x n lo hi a b =
    let y = x +ℤ neg_ℤ lo in let m = clamp_to (lo -ℤ pos 1) (hi +ℤ pos 1) n -ℤ lo in
    bool_same (compare Greater y m) (compare Greater x n)
    (λ t. let h = (comparisons.greater y m).0 t in (comparisons.greater x n).1 (omega (arith, ints, clamps, a, b, h)))
    (λ t. let h = (comparisons.greater x n).0 t in (comparisons.greater y m).1 (omega (arith, ints, clamps, a, b, h)))
compare_order AtLeast x n lo hi a b =
    let y = x +ℤ neg_ℤ lo in let m = clamp_to (lo -ℤ pos 1) (hi +ℤ pos 1) n -ℤ lo in
    bool_same (compare AtLeast y m) (compare AtLeast x n)
    (λ t. let h = (comparisons.at_least y m).0 t in (comparisons.at_least x n).1 (omega (arith, ints, clamps, a, b, h)))
    (λ t. let h = (comparisons.at_least x n).0 t in (comparisons.at_least y m).1 (omega (arith, ints, clamps, a, b, h)))
compare_order Equal x n lo hi a b = compare_equal x n lo hi a b
compare_order Different x n lo hi a b = ap not (compare_equal x n lo hi a b)

module _ (v : List ℕ → ℤ) (k : List ℕ → List ℤ → Value) where
  -- two expressions that are compared, with numbers of these values
  compare_plain-is : (by : Comparison) (f g : Moving) (x y : Value) → value_of v k (f (pos 0)) ≡ x → value_of v k (g (pos 0)) ≡ y → holds v k (compare_plain by f g) ≡ compare by x.number y.number
  compare_plain-is by f g x y hf hg = λ i. compare by (hf i).number (hg i).number

  compare-is : (by : Comparison) (p : Option ℤ) (r : Option Stretch) (f g : Moving) (x y : Value) → value_of v k (f (pos 0)) ≡ x → value_of v k (g (pos 0)) ≡ y
      → IsIf p y.number → ((n : ℤ) → p ≡ Some n → Adds v k f x.number) → Within r x.number → holds v k (compare_moved by p r f g) ≡ compare by x.number y.number
  compare-is by (Some n) (Some r) f g x y hf hg hp adds hr =
      let inside = hr r refl in
      let low = inside.0 in let high = inside.1 in
      let m = clamp_to (r.low -ℤ pos 1) (r.high +ℤ pos 1) n -ℤ r.low in
      either (λ t. holds v k t ≡ compare by x.number y.number) (is_of I32 (r.high -ℤ r.low +ℤ pos 1) && is_of I32 m) (Compares by (f (against r.low)) (literal m)) (compare_plain by f g)
      (λ fit.
      let t = both_true (is_of I32 (r.high -ℤ r.low +ℤ pos 1)) (is_of I32 m) fit in
      let s = is_of-true I32 (r.high -ℤ r.low +ℤ pos 1) t.0 in
      let to = s.to in
      let im = is_of-true I32 m t.1 in
      let iz : IsOf I32 (x.number +ℤ neg_ℤ r.low) = record { from = omega (arith, ints, low); to = omega (arith, ints, high, to) } in
      let e : wrap I32 (x.number +ℤ against r.low) ≡ x.number +ℤ neg_ℤ r.low =
      wraps_alike (x.number +ℤ against r.low) (x.number +ℤ neg_ℤ r.low) (x.number +ℤ neg_ℤ r.low) (x.number +ℤ neg_ℤ r.low) (sum x.number x.number (against r.low) (neg_ℤ r.low) (same x.number)
      (wrapped (neg_ℤ r.low))) (same (x.number +ℤ neg_ℤ r.low)) refl
      ∙ wrap_of_value I32 (x.number +ℤ neg_ℤ r.low) iz in
      let first = adds n refl (against r.low) ∙ ap (typed I32) e in
      (λ i. compare by (first i).number (literal-is v k m im i).number) ∙ compare_order by x.number n r.low r.high low high ∙ ap (compare by x.number) (sym (hp n refl)))
      (λ none. compare_plain-is by f g x y hf hg)
  compare-is by None r f g x y hf hg hp adds hr = compare_plain-is by f g x y hf hg
  compare-is by (Some n) None f g x y hf hg hp adds hr = compare_plain-is by f g x y hf hg

-- a literal of i32 has that type
literal_type : (functions : List ℕ → Option (Ty × ℕ)) (e : Term) (n : ℤ) → number_in e ≡ Some n → shape_type functions e ≡ I32
literal_type functions (Number I32 m) n h = refl
literal_type functions (Minus (Number I32 m)) n h = refl
literal_type functions e n h = cc

-- A's variables and calls are v and k, those of the cut algorithm w and q
module _ (m : Move) (known : List ℕ → Bool) (v w : List ℕ → ℤ) (k q : List ℕ → List ℤ → Value) (InQ : List ℕ → List ℤ → Type 0)
    (told : AreAsTold known m.functions v k)
    (inside : (name : List ℕ) → IsTrue (known name) → IsOf I32 (w name))
    (moves : (name : List ℕ) → IsTrue (known name) → v name ≡ shifted (m.variables name) (w name))
    (answers : (name : List ℕ) (at : List ℤ) → AllByRecursion IsIndex at → InQ name at → q name (moved_point (map against (m.origins name)) at) ≡ k name at)
    (between : (e : Term) → IsSome (type_of known m.functions e) → Within (m.ends e) (value_of v k e).number) where
  abbrev n : Term → ℤ
  n e = (value_of v k e).number

  abbrev Typed : Term → Type 0
  Typed e = IsSome (type_of known m.functions e)

  abbrev T : Term → Ty
  T e = shape_type m.functions e

  -- each call is of a point at which the callee is moved
  abbrev InsideOf : List Asked → Type 0
  InsideOf cs = AllByRecursion (λ c. InQ c.name c.at) cs

  of : (a : Term) → Typed a → IsValueOf (T a) (value_of v k a)
  of a h = (does_as_typed known m.functions v k told a (T a) (shape known m.functions a h)).value

  -- the value of an expression of this type
  value-is : (a : Term) (t : Ty) → Typed a → T a ≡ t → value_of v k a ≡ typed t (n a)
  value-is a t h e = ap (λ u. typed u (n a)) ((of a h).ty ∙ e)

  number_of : (a : Term) (t : Ty) → Typed a → T a ≡ t → IsOf t (n a)
  number_of a t h e = let P : Ty → Type 0 = λ u. IsOf u (n a) in subst P e (of a h).within

  literal_if : (e : Term) → IsIf (number_in e) (n e)
  literal_if e z h = ap (λ (u : Value). u.number) (number-is v k e z h)

  abbrev Added : Term → Type 0
  Added e = Adds w q (λ c. moved m c e) (n e)

  abbrev Stays : Term → Type 0
  Stays e = value_of w q (moved m (pos 0) e) ≡ value_of v k e

  stays_of : (e : Term) → Typed e → T e ≡ I32 → Added e → Stays e
  stays_of e h t a = at_none w q (λ c. moved m c e) (n e) (number_of e I32 h t) a ∙ sym (value-is e I32 h t)

  -- the second side of two of one type
  second : (a b : Term) → Typed a → Typed b → type_of known m.functions a ≡ type_of known m.functions b → T a ≡ I32 → T b ≡ I32
  second a b ha hb e t = sym (one_shape known m.functions a b ha hb e) ∙ t

  -- not i32: no literal of i32
  no_literal : (e : Term) → same_type (T e) I32 ≡ false → number_in e ≡ None
  no_literal e d = by (number_in e) refl
    where
      by : (o : Option ℤ) → number_in e ≡ o → o ≡ None
      by None h = refl
      by (Some z) h = let t = literal_type m.functions e z h in let f = ap (λ u. same_type u I32) t in let g : true ≡ false = sym f ∙ d in cc

  -- a value to which a number is added, and one that is not
  bare : (e : Term) (c z : ℤ) → IsOf I32 z → value_of w q e ≡ typed I32 z → value_of w q (plus e c) ≡ typed I32 (wrap I32 (z +ℤ c))
  bare e c z i h = plus-is w q e z c (h ∙ ap (typed I32) (sym (wrap_of_value I32 z i)))

  -- a number with a minus before it, and another expression with one
  negated-is : (a : Term) (c : ℤ) (found : Option ℤ) → number_in (Minus a) ≡ found → value_of w q (Minus (moved m (against c) a)) ≡ typed I32 (wrap I32 (n (Minus a) +ℤ c))
      → value_of w q (negated_moved c found (λ d. moved m d a)) ≡ typed I32 (wrap I32 (n (Minus a) +ℤ c))
  negated-is a c (Some z) d h =
      literal-is w q (wrap I32 (z +ℤ c)) (wraps_to I32 (z +ℤ c)).within ∙ ap (λ y. typed I32 (wrap I32 (y +ℤ c))) (sym (literal_if (Minus a) z d))
  negated-is a c None d h = h

  abbrev two_typed : (a b : Term) → IsSome (common (type_of known m.functions a) (type_of known m.functions b)) → Rattle.bounds.proofs.Fitting.BothTyped known m.functions a b
  two_typed a b h = both_typed known m.functions a b h

  -- the value of a call whose indices are moved
  called : (name : List ℕ) (at : Terms) → Typed (Call name at) → InsideOf (calls_made v k (Call name at))
      → numbers_of w q (all_moved m (m.origins name) at) ≡ moved_point (map against (m.origins name)) (numbers_of v k at)
      → value_of w q (Call name (all_moved m (m.origins name) at)) ≡ value_of v k (Call name at)
  called name at h r numbers =
      let this = all-right (λ x. InQ x.name x.at) (calls_made_by_all v k at) (asked name (numbers_of v k at) ∷ []) r in
      let can = (does_as_typed known m.functions v k told (Call name at) (T (Call name at)) (shape known m.functions (Call name at) h)).calls in
      let cr = all-right (CanBeAsked m.functions) (calls_made_by_all v k at) (asked name (numbers_of v k at) ∷ []) (recursion_from_All (CanBeAsked m.functions)
      (calls_made v k (Call name at)) can) in
      let indices = recursion_from_All IsIndex (numbers_of v k at) cr.0.indices in
      ap (q name) numbers ∙ answers name (numbers_of v k at) indices this.0

  -- what the type of a call says of its indices
  indices_typed : (name : List ℕ) (at : Terms) → Typed (Call name at) → are_indices known m.functions at ≡ true
  indices_typed name at h = (some_only_if (are_indices known m.functions at) (answer_type (m.functions name) (index_count at)) h).0

  in_indices : (name : List ℕ) (at : Terms) → InsideOf (calls_made v k (Call name at)) → InsideOf (calls_made_by_all v k at)
  in_indices name at r = all-left (λ x. InQ x.name x.at) (calls_made_by_all v k at) (asked name (numbers_of v k at) ∷ []) r

  -- an expression of i32 or of another type
  stays_from : (e : Term) → Typed e → (T e ≡ I32 → Added e) → (same_type (T e) I32 ≡ false → Stays e) → Stays e
  stays_from e h f g = by (same_type (T e) I32) refl
    where
      by : (d : Bool) → same_type (T e) I32 ≡ d → Stays e
      by true d = let t = same_type-true (T e) I32 d in stays_of e h t (f t)
      by false d = g d

  mutual
    pub added : (e : Term) → Typed e → T e ≡ I32 → InsideOf (calls_made v k e) → Added e
    added (Number t z) h e r c =
        let F : Ty → Term = λ u. elim (same_type u I32) [ true ↦ literal (wrap I32 (wrap I32 z +ℤ c)) | false ↦ Number u z ] in
        ap (λ u. value_of w q (F u)) e ∙ literal-is w q (wrap I32 (wrap I32 z +ℤ c)) (wraps_to I32 (wrap I32 z +ℤ c)).within ∙ ap (typed I32) (add_left z c)
    added (Name name) h e r c =
        let s = some_only_if (known name) (Some I32) h in
        let g = moves name s.0 in
        let o = m.variables name in
        bare (Name name) (wrap I32 (o +ℤ c)) (w name) (inside name s.0) refl
        ∙ ap (typed I32) (wraps_alike (w name +ℤ wrap I32 (o +ℤ c)) (v name +ℤ c) (w name +ℤ (o +ℤ c)) (w name +ℤ o +ℤ c)
        (sum (w name) (w name) (wrap I32 (o +ℤ c)) (o +ℤ c) (same (w name)) (wrapped (o +ℤ c)))
        (sum (v name) (w name +ℤ o) c c (through (v name) (shifted o (w name)) (w name +ℤ o) (equal (v name) (shifted o (w name)) g) (wrapped (w name +ℤ o))) (same c)) (omega (arith, ints)))
    added (Call name at) h e r c = bare (Call name (all_moved m (m.origins name) at)) c (n (Call name at)) (number_of (Call name at) I32 h e)
        (called name at h r (numbered (m.origins name) at (indices_typed name at h) (in_indices name at r)) ∙ value-is (Call name at) I32 h e)
    added (Minus a) h e r c =
        let x = n a in
        let t = value-is a I32 h e in
        let whole : n (Minus a) ≡ wrap I32 (neg_ℤ x) = ap (λ u. (negated u).number) t in
        negated-is a c (number_in (Minus a)) refl (ap negated (added a h e r (against c))
        ∙ ap (typed I32) (wraps_alike (neg_ℤ (wrap I32 (x +ℤ against c))) (wrap I32 (neg_ℤ x) +ℤ c) (neg_ℤ (x +ℤ neg_ℤ c)) (neg_ℤ x +ℤ c)
        (opposite (wrap I32 (x +ℤ against c)) (x +ℤ neg_ℤ c) (through (wrap I32 (x +ℤ against c)) (x +ℤ against c) (x +ℤ neg_ℤ c) (wrapped (x +ℤ against c)) (sum x x (against c) (neg_ℤ c)
        (same x) (wrapped (neg_ℤ c)))))
        (sum (wrap I32 (neg_ℤ x)) (neg_ℤ x) c c (wrapped (neg_ℤ x)) (same c)) (omega (arith, ints)))
        ∙ ap (λ z. typed I32 (wrap I32 (z +ℤ c))) (sym whole))
    added (Binary op a b) h e r c =
        let s = two_typed a b (some_operator op (common (type_of known m.functions a) (type_of known m.functions b)) h) in
        let f = second a b s.first s.second s.same e in
        let ra = all-left (λ x. InQ x.name x.at) (calls_made v k a) (calls_made v k b) r in
        let rb = all-right (λ x. InQ x.name x.at) (calls_made v k a) (calls_made v k b) r in
        let x = n a in let y = n b in
        let F : Bool → Term = λ u. elim u [
          | true ↦ operator_moved op c (number_in a) (number_in b) (m.ends a) (constant m a) (constant m b) a b (λ d. moved m d a)
              (λ d. moved m d b)
          | false ↦ Binary op (moved m (pos 0) a) (moved m (pos 0) b)
        ] in
        let whole : n (Binary op a b) ≡ wrap I32 (exact op x y) = ap (λ u. (applied op u (value_of v k b)).number) (value-is a I32 s.first e) in
        ap (λ t. value_of w q (F (same_type t I32))) e
        ∙ operator-is w q c (λ d. moved m d a) (λ d. moved m d b) x y (number_of a I32 s.first e) (number_of b I32 s.second f) (added a s.first e ra) (added b s.second f rb)
        op a b (number_in a) (number_in b) (m.ends a) (constant m a) (constant m b) (literal_if a) (literal_if b) (between a s.first) (number-is w q a) (number-is w q b)
        ∙ ap (typed I32) (sym (add_left (exact op x y) c)) ∙ ap (λ z. typed I32 (wrap I32 (z +ℤ c))) (sym whole)
    added (Clamp a l u) h e r c =
        let s = all_typed known m.functions a l u h in
        let fl = second a l s.first s.second s.as_second e in
        let fu = second a u s.first s.third s.as_third e in
        let lr = all-left (λ x. InQ x.name x.at) (calls_made v k a ++ calls_made v k l) (calls_made v k u) r in
        let ra = all-left (λ x. InQ x.name x.at) (calls_made v k a) (calls_made v k l) lr in
        let rl = all-right (λ x. InQ x.name x.at) (calls_made v k a) (calls_made v k l) lr in
        let ru = all-right (λ x. InQ x.name x.at) (calls_made v k a ++ calls_made v k l) (calls_made v k u) r in
        clamp-is w q c (λ d. moved m d a) (λ d. moved m d l) (λ d. moved m d u) (n a) (n l) (n u) (number_in l) (number_in u) (m.ends a)
        (number_of a I32 s.first e) (number_of l I32 s.second fl) (number_of u I32 s.third fu) (added a s.first e ra) (added l s.second fl rl) (added u s.third fu ru)
        (literal_if l) (literal_if u) (between a s.first)
    added (Cast t a) h e r c =
        let s = some_only_if (is_some (type_of known m.functions a)) (Some t) h in
        let z = wrap t (n a) in
        let i = number_of (Cast t a) I32 h e in
        bare (Cast t (moved m (pos 0) a)) c z i (ap (λ (x : Value). typed t (wrap t x.number)) ((stays_from a s.0 (λ t. added a s.0 t r) (λ d. other a s.0 d r))) ∙ ap (λ x. typed x z) e)
    added (Choice t a b) h e r c =
        let arms = common (type_of known m.functions a) (type_of known m.functions b) in
        let g = some_only_if (is_typed known m.functions t) arms h in
        let s = two_typed a b (some_of (only_if (is_typed known m.functions t) arms) arms g.1 h) in
        let f = second a b s.first s.second s.same e in
        let tr = all-left (λ x. InQ x.name x.at) (calls_made_by_test v k t ++ calls_made v k a) (calls_made v k b) r in
        let rt = all-left (λ x. InQ x.name x.at) (calls_made_by_test v k t) (calls_made v k a) tr in
        let ra = all-right (λ x. InQ x.name x.at) (calls_made_by_test v k t) (calls_made v k a) tr in
        let rb = all-right (λ x. InQ x.name x.at) (calls_made_by_test v k t ++ calls_made v k a) (calls_made v k b) r in
        (λ i. if tested t g.0 rt i then added a s.first e ra c i else added b s.second f rb c i) ∙ chosen (holds v k t) (value_of v k a) (value_of v k b) c
      where
        chosen : (d : Bool) (x y : Value) (c : ℤ) → (if d then typed I32 (wrap I32 (x.number +ℤ c)) else typed I32 (wrap I32 (y.number +ℤ c))) ≡ typed I32 (wrap I32 ((if d then x else y).number
            +ℤ c))
        chosen true x y c = refl
        chosen false x y c = refl

    -- the indices of a call
    numbered : (os : List ℤ) (at : Terms) → are_indices known m.functions at ≡ true → InsideOf (calls_made_by_all v k at)
        → numbers_of w q (all_moved m os at) ≡ moved_point (map against os) (numbers_of v k at)
    numbered [] End h r = refl
    numbered (o ∷ os) End h r = refl
    numbered [] (More a rest) h r =
        let b = both_true (is_index (type_of known m.functions a)) (are_indices known m.functions rest) h in
        let typed_a = some_of (Some I32) (type_of known m.functions a) (sym (index-is (type_of known m.functions a) b.0)) refl in
        let ra = all-left (λ x. InQ x.name x.at) (calls_made v k a) (calls_made_by_all v k rest) r in
        let rr = all-right (λ x. InQ x.name x.at) (calls_made v k a) (calls_made_by_all v k rest) r in
        λ i. ((stays_from a typed_a (λ t. added a typed_a t ra) (λ d. other a typed_a d ra)) i).number ∷ numbered [] rest b.1 rr i
    numbered (o ∷ os) (More a rest) h r =
        let b = both_true (is_index (type_of known m.functions a)) (are_indices known m.functions rest) h in
        let is = index-is (type_of known m.functions a) b.0 in
        let typed_a = some_of (Some I32) (type_of known m.functions a) (sym is) refl in
        let t : T a ≡ I32 = some_type (T a) I32 (sym (shape known m.functions a typed_a) ∙ is) in
        let ra = all-left (λ x. InQ x.name x.at) (calls_made v k a) (calls_made_by_all v k rest) r in
        let rr = all-right (λ x. InQ x.name x.at) (calls_made v k a) (calls_made_by_all v k rest) r in
        λ i. (added a typed_a t ra (against o) i).number ∷ numbered os rest b.1 rr i

    -- an expression of another type
    pub other : (e : Term) → Typed e → same_type (T e) I32 ≡ false → InsideOf (calls_made v k e) → Stays e
    other (Number t z) h d r = ap (λ u. value_of w q (elim u [ true ↦ literal (wrap I32 (wrap I32 z +ℤ pos 0)) | false ↦ Number t z ])) d
    other (Name name) h d r = cc
    other (Call name at) h d r = called name at h r (numbered (m.origins name) at (indices_typed name at h) (in_indices name at r))
    other (Minus a) h d r = ap (λ o. value_of w q (negated_moved (pos 0) o (λ c. moved m c a))) (no_literal (Minus a) d) ∙ ap negated (other a h d r)
    other (Binary op a b) h d r =
        let s = two_typed a b (some_operator op (common (type_of known m.functions a) (type_of known m.functions b)) h) in
        let ra = all-left (λ x. InQ x.name x.at) (calls_made v k a) (calls_made v k b) r in
        let rb = all-right (λ x. InQ x.name x.at) (calls_made v k a) (calls_made v k b) r in
        let F : Bool → Term = λ u. elim u [
          | true ↦ operator_moved op (pos 0) (number_in a) (number_in b) (m.ends a) (constant m a) (constant m b) a b (λ c. moved m c a)
              (λ c. moved m c b)
          | false ↦ Binary op (moved m (pos 0) a) (moved m (pos 0) b)
        ] in
        ap (λ u. value_of w q (F u)) d ∙ (λ i. applied op ((stays_from a s.first (λ t. added a s.first t ra) (λ d. other a s.first d ra)) i)
        ((stays_from b s.second (λ t. added b s.second t rb) (λ d. other b s.second d rb)) i))
    other (Clamp a l u) h d r =
        let s = all_typed known m.functions a l u h in
        let lr = all-left (λ x. InQ x.name x.at) (calls_made v k a ++ calls_made v k l) (calls_made v k u) r in
        let ra = all-left (λ x. InQ x.name x.at) (calls_made v k a) (calls_made v k l) lr in
        let rl = all-right (λ x. InQ x.name x.at) (calls_made v k a) (calls_made v k l) lr in
        let ru = all-right (λ x. InQ x.name x.at) (calls_made v k a ++ calls_made v k l) (calls_made v k u) r in
        let dl : same_type (T l) I32 ≡ false = ap (λ t. same_type t I32) (sym (one_shape known m.functions a l s.first s.second s.as_second)) ∙ d in
        let none = no_literal l dl in
        ap (λ o. value_of w q (clamp_moved (pos 0) o (number_in u) (m.ends a) (λ c. moved m c a) (λ c. moved m c l) (λ c. moved m c u))) none
        ∙ (λ i. clamped ((stays_from a s.first (λ t. added a s.first t ra) (λ d. other a s.first d ra)) i) ((stays_from l s.second (λ t. added l s.second t rl) (λ d. other l s.second d rl)) i)
        ((stays_from u s.third (λ t. added u s.third t ru) (λ d. other u s.third d ru)) i))
    other (Cast t a) h d r =
        let s = some_only_if (is_some (type_of known m.functions a)) (Some t) h in
        ap (λ (x : Value). typed t (wrap t x.number)) ((stays_from a s.0 (λ t. added a s.0 t r) (λ d. other a s.0 d r)))
    other (Choice t a b) h d r =
        let arms = common (type_of known m.functions a) (type_of known m.functions b) in
        let g = some_only_if (is_typed known m.functions t) arms h in
        let s = two_typed a b (some_of (only_if (is_typed known m.functions t) arms) arms g.1 h) in
        let tr = all-left (λ x. InQ x.name x.at) (calls_made_by_test v k t ++ calls_made v k a) (calls_made v k b) r in
        let rt = all-left (λ x. InQ x.name x.at) (calls_made_by_test v k t) (calls_made v k a) tr in
        let ra = all-right (λ x. InQ x.name x.at) (calls_made_by_test v k t) (calls_made v k a) tr in
        let rb = all-right (λ x. InQ x.name x.at) (calls_made_by_test v k t ++ calls_made v k a) (calls_made v k b) r in
        λ i. if tested t g.0 rt i then (stays_from a s.first (λ t. added a s.first t ra) (λ d. other a s.first d ra)) i else (stays_from b s.second (λ t. added b s.second t rb)
        (λ d. other b s.second d rb)) i

    tested : (t : Test) → IsTrue (is_typed known m.functions t) → InsideOf (calls_made_by_test v k t) → holds w q (test_moved m t) ≡ holds v k t
    tested (Compares by a b) h r =
        let s = two_typed a b h in
        let ra = all-left (λ x. InQ x.name x.at) (calls_made v k a) (calls_made v k b) r in
        let rb = all-right (λ x. InQ x.name x.at) (calls_made v k a) (calls_made v k b) r in
        compare-is w q by (number_in b) (m.ends a) (λ c. moved m c a) (λ c. moved m c b) (value_of v k a) (value_of v k b) ((stays_from a s.first (λ t. added a s.first t ra)
        (λ d. other a s.first d ra))) ((stays_from b s.second (λ t. added b s.second t rb) (λ d. other b s.second d rb))) (literal_if b)
        (λ z l. added a s.first (one_shape known m.functions a b s.first s.second s.same ∙ literal_type m.functions b z l) ra) (between a s.first)
    tested (Fails t) h r = ap not (tested t h r)
    tested (Both t u) h r =
        let b = both_true (is_typed known m.functions t) (is_typed known m.functions u) h in
        let rt = all-left (λ x. InQ x.name x.at) (calls_made_by_test v k t) (calls_made_by_test v k u) r in
        let ru = all-right (λ x. InQ x.name x.at) (calls_made_by_test v k t) (calls_made_by_test v k u) r in
        λ i. tested t b.0 rt i && tested u b.1 ru i
    tested (Either t u) h r =
        let b = both_true (is_typed known m.functions t) (is_typed known m.functions u) h in
        let rt = all-left (λ x. InQ x.name x.at) (calls_made_by_test v k t) (calls_made_by_test v k u) r in
        let ru = all-right (λ x. InQ x.name x.at) (calls_made_by_test v k t) (calls_made_by_test v k u) r in
        λ i. tested t b.0 rt i || tested u b.1 ru i

  pub stays : (e : Term) → Typed e → InsideOf (calls_made v k e) → Stays e
  stays e h r = stays_from e h (λ t. added e h t r) (λ d. other e h d r)

  -- the indices of a left side, or of a call
  pub indices_stay : (os : List ℤ) (at : Terms) → are_indices known m.functions at ≡ true → InsideOf (calls_made_by_all v k at)
      → numbers_of w q (all_moved m os at) ≡ moved_point (map against os) (numbers_of v k at)
  indices_stay os at h r = numbered os at h r
