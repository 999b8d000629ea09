-- The interval of an expression holds its value.
use Rattle.std.proofs.Common.{◌≡◌, ℕ, List, [], ◌∷◌, Bool, true, false, Option, Some, None, IsSome, refl, sym, subst, arith, inl, inr}
use Rattle.std.specs.Prelude.{ℤ, pos, ◌-ℤ◌, neg_ℤ, nat_eq, is_some, map, option_map, if◌then◌else◌, ◌⊎◌}
use Rattle.std.specs.Int.{int_min}
use Rattle.std.specs.Cmp.Lexicographic.{pointwise, same_text}
use Rattle.std.proofs.lemmas.Int.{ints}
use Rattle.std.proofs.lemmas.List.Elements.{recursion_from_All, All-from_recursion}
use Rattle.numeric.specs.declared.ty.Ty.{Ty}
use Rattle.numeric.specs.declared.ty.Ty.TheVariants.{I32}
use Rattle.numeric.specs.Wrap.{IsOf, wrap}
use Rattle.numeric.specs.Apply.{apply}
use Rattle.tree.specs.declared.value.Value.{Value}
use Rattle.tree.specs.Names.{called_type, AreAsTold, IsValueOf}
use Rattle.tree.specs.Term.{Term, Number, Name, Call, Minus, Binary, Clamp, Cast, Choice}
use Rattle.tree.specs.Typing.{common, type_of, is_typed, shape_type}
use Rattle.tree.specs.Meaning.{value_of, holds}
use Rattle.lin.specs.Spans.{HoldsIn, IsInSpan, IsInRegion}
use Rattle.lin.specs.declared.scope.Binding.{Binding}
use Rattle.lin.specs.declared.span.Span1.{Span1}
use Rattle.bounds.specs.Spans.{difference_of}
use Rattle.bounds.specs.Interval.{span_named, coordinate_of, literal_of, both, interval}
use Rattle.bounds.specs.Sound.{Contains}
use Rattle.bounds.proofs.ListSound.{kept-all, checked-all}
use Rattle.bounds.proofs.SpanSound.{Low, High, Lies, LiesIf, lies_some, span_of-lies, range-lies, exactly-lies, fitted-lies, difference-lies, minimum-lies, maximum-lies, choice-lies, binary-lies, min-of}
use Rattle.tree.proofs.Typed.{some_only_if, some_operator, some_of}
use Rattle.tree.proofs.Soundness.{does_as_typed}
use Rattle.bounds.proofs.Fitting.{both_typed, all_typed, shape, one_shape}

span_lies : (s : Span1) (v : ℕ → ℤ) (z : ℤ) → IsInSpan s v z → Lies s v z
span_lies s v z h = (recursion_from_All (Low v z) s.lower h.0, recursion_from_All (High v z) s.upper h.1)

pub lies_span : (s : Span1) (v : ℕ → ℤ) (z : ℤ) → Lies s v z → IsInSpan s v z
lies_span s v z h = (All-from_recursion (Low v z) s.lower h.0, All-from_recursion (High v z) s.upper h.1)

both-lies : (a b : Option Span1) (f : Span1 → Span1 → Option Span1) (v : ℕ → ℤ) (x y z : ℤ) → LiesIf a v x → LiesIf b v y
    → ((s t : Span1) → Lies s v x → Lies t v y → LiesIf (f s t) v z) → LiesIf (both a b f) v z
both-lies None b f v x y z ha hb h = λ s e. cc
both-lies (Some s) None f v x y z ha hb h = λ t e. cc
both-lies (Some s) (Some t) f v x y z ha hb h = h s t (ha s refl) (hb t refl)

map-lies : (a : Option Span1) (f : Span1 → Span1) (v : ℕ → ℤ) (x z : ℤ) → LiesIf a v x → ((s : Span1) → Lies s v x → Lies (f s) v z) → LiesIf (option_map f a) v z
map-lies None f v x z ha h = λ s e. cc
map-lies (Some s) f v x z ha h = lies_some (f s) v z (h s (ha s refl))

-- ---- coordinates
coordinate-lies : (found : Option Span1) (v : ℕ → ℤ) (z : ℤ) → IsOf I32 z → ((s : Span1) → found ≡ Some s → Lies s v z) → LiesIf (coordinate_of found) v z
coordinate-lies None v z i h = lies_some _ v z (range-lies I32 v z i)
coordinate-lies (Some s) v z i h =
    let own = h s refl in
    span_of-lies _ _ v z (kept-all (Low v z) _ (checked-all (Low v z) s.lower own.0)) (kept-all (High v z) _ (checked-all (High v z) s.upper own.1))

some_span : (x y : Span1) → Some x ≡ Some y → x ≡ y
some_span x y e = cc

named-lies : (names : List (List ℕ)) (region : List Span1) (v : ℕ → ℤ) (numbers : List ℕ → ℤ) → IsInRegion region v (map numbers names) → (name : List ℕ) (s : Span1)
    → span_named names region name ≡ Some s → Lies s v (numbers name)
named-lies [] [] v numbers i name s e = cc
named-lies [] (t ∷ ts) v numbers i name s e = cc
named-lies (x ∷ xs) [] v numbers i name s e = cc
named-lies (x ∷ xs) (t ∷ ts) v numbers i name s e = by (pointwise nat_eq x name) refl e (λ q. named-lies xs ts v numbers i.1 name s q)
  where
    by : (b : Bool) → pointwise nat_eq x name ≡ b → (if b then Some t else span_named xs ts name) ≡ Some s → (span_named xs ts name ≡ Some s → Lies s v (numbers name)) → Lies s v (numbers name)
    by true same q rest =
        let is : x ≡ name = same_text x name (sym same) in
        let P : List ℕ → Type 0 = λ n. Lies t v (numbers n) in
        let Q : Span1 → Type 0 = λ u. Lies u v (numbers name) in
        subst Q (some_span t s q) (subst P is (span_lies t v (numbers x) i.0))
    by false other q rest = rest q

-- ---- whole expressions
literal_is : (numbers : List ℕ → ℤ) (answers : List ℕ → List ℤ → Value) (e : Term) (k : ℤ) → literal_of e ≡ Some k → (value_of numbers answers e).number ≡ k
literal_is numbers answers (Number t n) k h = cc
literal_is numbers answers (Name name) k h = cc
literal_is numbers answers (Call name at) k h = cc
literal_is numbers answers (Minus a) k h = cc
literal_is numbers answers (Binary op a b) k h = cc
literal_is numbers answers (Clamp a l t) k h = cc
literal_is numbers answers (Cast t a) k h = cc
literal_is numbers answers (Choice c a b) k h = cc

negation-is : (z : ℤ) → pos 0 -ℤ z ≡ neg_ℤ z
negation-is z = omega (arith, ints)

one_of : (b : Bool) (x y : Value) → ((if b then x else y).number ≡ x.number) ⊎ ((if b then x else y).number ≡ y.number)
one_of true x y = inl refl
one_of false x y = inr refl

of_type : (t u : Ty) (z : ℤ) → t ≡ u → IsOf t z → IsOf u z
of_type t u z e h = let P : Ty → Type 0 = λ x. IsOf x z in subst P e h

module _ (scope : List Binding) (v : ℕ → ℤ) (r : HoldsIn scope v) (known : List ℕ → Bool) (functions : List ℕ → Option (Ty × ℕ)) (names : List (List ℕ)) (region : List Span1)
    (numbers : List ℕ → ℤ) (answers : List ℕ → List ℤ → Value) (told : AreAsTold known functions numbers answers) (inside : IsInRegion region v (map numbers names)) where
  -- the number that an expression stands for
  abbrev n : Term → ℤ
  n a = (value_of numbers answers a).number

  of : (a : Term) → IsSome (type_of known functions a) → IsValueOf (shape_type functions a) (value_of numbers answers a)
  of a h = (does_as_typed known functions numbers answers told a (shape_type functions a) (shape known functions a h)).value

  -- the value of an expression is one of the type of another, which is the same
  of_other : (a b : Term) → IsSome (type_of known functions a) → IsSome (type_of known functions b) → type_of known functions a ≡ type_of known functions b → IsOf (shape_type functions a) (n b)
  of_other a b h k e = of_type _ _ _ (sym (one_shape known functions a b h k e)) (of b k).within

  pub interval-lies : (a : Term) → IsSome (type_of known functions a) → LiesIf (interval scope functions names region a) v (n a)
  interval-lies (Number t k) h = exactly-lies k v
  interval-lies (Name name) h =
      coordinate-lies (span_named names region name) v (numbers name) (told.variables_within name (some_only_if (known name) (Some I32) h).0) (λ s e. named-lies names region v numbers inside name s e)
  interval-lies (Call name at) h = lies_some _ v _ (range-lies (called_type (functions name)) v _ (of (Call name at) h).within)
  interval-lies (Minus a) h =
      let P : Ty → Type 0 = λ t. LiesIf (interval scope functions names region (Minus a)) v (wrap t (neg_ℤ (n a))) in
      subst P (sym (of a h).ty) (both-lies _ _ _ v (pos 0) (n a) _ (exactly-lies (pos 0) v) (interval-lies a h)
      (λ s t hs ht. let Q : ℤ → Type 0 = λ z. LiesIf (difference_of scope (shape_type functions a) s t) v (wrap (shape_type functions a) z) in
      subst Q (negation-is (n a)) (difference-lies scope v r (shape_type functions a) s t (pos 0) (n a) hs ht)))
  interval-lies (Binary op a b) h =
      let s = both_typed known functions a b (some_operator op (common (type_of known functions a) (type_of known functions b)) h) in
      let P : Ty → Type 0 = λ t. LiesIf (interval scope functions names region (Binary op a b)) v (apply op t (n a) (n b)) in
      subst P (sym (of a s.first).ty) (both-lies _ _ _ v (n a) (n b) _ (interval-lies a s.first) (interval-lies b s.second)
      (λ x y hx hy. binary-lies scope v r op (shape_type functions a) (literal_of a) (literal_of b) x y (n a) (n b) (literal_is numbers answers a) (literal_is numbers answers b)
      (of a s.first).within (of_other a b s.first s.second s.same) hx hy))
  interval-lies (Clamp a l u) h =
      let s = all_typed known functions a l u h in
      let il = of_other a l s.first s.second s.as_second in
      let iu = of_other a u s.first s.third s.as_third in
      let ia = (of a s.first).within in
      both-lies _ _ _ v (int_min (n a) (n u)) (n l) _
      (both-lies _ _ _ v (n a) (n u) _ (interval-lies a s.first) (interval-lies u s.third)
      (λ x y hx hy. minimum-lies scope v r (shape_type functions a) x y (n a) (n u) ia iu hx hy))
      (interval-lies l s.second)
      (λ x y hx hy. maximum-lies scope v r (shape_type functions a) x y (int_min (n a) (n u)) (n l) (min-of (shape_type functions a) (n a) (n u) ia iu) il hx hy)
  interval-lies (Cast t a) h = map-lies _ _ v (n a) _ (interval-lies a (some_only_if (is_some (type_of known functions a)) (Some t) h).0) (λ s hs. fitted-lies scope v r t s (n a) hs)
  interval-lies (Choice c a b) h =
      let arms = common (type_of known functions a) (type_of known functions b) in
      let g = some_only_if (is_typed known functions c) arms h in
      let s = both_typed known functions a b (some_of _ arms g.1 h) in
      both-lies _ _ _ v (n a) (n b) _ (interval-lies a s.first) (interval-lies b s.second)
      (λ x y hx hy. choice-lies scope v r (shape_type functions a) x y (n a) (n b) (n (Choice c a b)) (one_of (holds numbers answers c) _ _) (of (Choice c a b) h).within hx hy)

pub contains : (scope : List Binding) (known : List ℕ → Bool) (functions : List ℕ → Option (Ty × ℕ)) (names : List (List ℕ)) (region : List Span1) (a : Term) (s : Span1)
    → interval scope functions names region a ≡ Some s → IsSome (type_of known functions a) → Contains scope known functions names region a s
contains scope known functions names region a s e typed = λ v numbers answers r told inside.
    lies_span s v _ (interval-lies scope v r known functions names region numbers answers told inside a typed s e)
