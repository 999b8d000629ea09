-- What the tests of two regions, and of two spans, show of their points.
use Rattle.std.proofs.Common.{◌≡◌, ℕ, ◌+◌, ◌<◌, List, [], ◌∷◌, length, get_or, drop, drop-cons, add-one, Bool, true, false, arith, refl, subst, ap, ◌∙◌, inl, inr}
use Rattle.std.specs.Prelude.{ℤ, pos, ◌+ℤ◌, ◌≤ℤ◌, ◌&&◌, ◌||◌, ◌⊎◌, Option, Some, None, IsTrue}
use Rattle.std.specs.List.{AllByRecursion, list_all, list_any}
use Rattle.std.specs.Option.{option_map_or}
use Rattle.std.proofs.lemmas.Int.{ints}
use Rattle.std.proofs.lemmas.List.Elements.{recursion_from_All, All-from_recursion}
use Rattle.std.proofs.lemmas.List.Sums.{AllPass-from_list_all}
use Rattle.std.proofs.lemmas.List.Folds.{Any-from_list_any}
use Rattle.lin.specs.Forms.{Form, number, value_of}
use Rattle.lin.specs.Search.{at_most}
use Rattle.lin.specs.Spans.{HoldsIn, IsInSpan, IsInRegion, IsLeast, IsGreatest}
use Rattle.lin.specs.Regions.{span_inside, inside, successor, at_most_successor, successor_at_most, adjacent, IsInside, AreAdjacent}
use Rattle.lin.specs.declared.scope.Binding.{Binding}
use Rattle.lin.specs.declared.span.Span1.{Span1}
use Rattle.lin.proofs.TermLemmas.{value_of-plus_multiple}
use Rattle.lin.proofs.Limits.{both_true, combined-means}
use Rattle.lin.proofs.Soundness.{at_most-holds}

either_true : (a b : Bool) → (a || b) ≡ true → (a ≡ true) ⊎ (b ≡ true)
either_true true b h = inl refl
either_true false b h = inr h

-- ---- a span inside another
below_any : (scope : List Binding) (v : ℕ → ℤ) → HoldsIn scope v → (f : Form) (ms : List Form) (z : ℤ) → list_any (λ m. at_most scope f m) ms ≡ true
    → AllByRecursion (λ m. value_of m v ≤ℤ z) ms → value_of f v ≤ℤ z
below_any scope v r f [] z h a = cc
below_any scope v r f (m ∷ ms) z h a =
    elim (either_true (at_most scope f m) (list_any (λ m. at_most scope f m) ms) h)
    [ inl here ↦ omega (arith, ints, at_most-holds scope v r f m here, a.0) | inr later ↦ below_any scope v r f ms z later a.1 ]

below_all : (scope : List Binding) (v : ℕ → ℤ) → HoldsIn scope v → (fs ms : List Form) (z : ℤ) → list_all (λ f. list_any (λ m. at_most scope f m) ms) fs ≡ true
    → AllByRecursion (λ m. value_of m v ≤ℤ z) ms → AllByRecursion (λ f. value_of f v ≤ℤ z) fs
below_all scope v r [] ms z h a = tt
below_all scope v r (f ∷ fs) ms z h a =
    let p = both_true (list_any (λ m. at_most scope f m) ms) (list_all (λ f. list_any (λ m. at_most scope f m) ms) fs) h in
    (below_any scope v r f ms z p.0 a, below_all scope v r fs ms z p.1 a)

above_any : (scope : List Binding) (v : ℕ → ℤ) → HoldsIn scope v → (f : Form) (ms : List Form) (z : ℤ) → list_any (λ m. at_most scope m f) ms ≡ true
    → AllByRecursion (λ m. z ≤ℤ value_of m v) ms → z ≤ℤ value_of f v
above_any scope v r f [] z h a = cc
above_any scope v r f (m ∷ ms) z h a =
    elim (either_true (at_most scope m f) (list_any (λ m. at_most scope m f) ms) h)
    [ inl here ↦ omega (arith, ints, at_most-holds scope v r m f here, a.0) | inr later ↦ above_any scope v r f ms z later a.1 ]

above_all : (scope : List Binding) (v : ℕ → ℤ) → HoldsIn scope v → (fs ms : List Form) (z : ℤ) → list_all (λ f. list_any (λ m. at_most scope m f) ms) fs ≡ true
    → AllByRecursion (λ m. z ≤ℤ value_of m v) ms → AllByRecursion (λ f. z ≤ℤ value_of f v) fs
above_all scope v r [] ms z h a = tt
above_all scope v r (f ∷ fs) ms z h a =
    let p = both_true (list_any (λ m. at_most scope m f) ms) (list_all (λ f. list_any (λ m. at_most scope m f) ms) fs) h in
    (above_any scope v r f ms z p.0 a, above_all scope v r fs ms z p.1 a)

pub span_inside-means : (scope : List Binding) (a b : Span1) → IsTrue (span_inside scope a b) → (v : ℕ → ℤ) → HoldsIn scope v → (z : ℤ) → IsInSpan a v z → IsInSpan b v z
span_inside-means scope a b h v r z i =
    let p = both_true (list_all (λ f. list_any (λ m. at_most scope f m) a.lower) b.lower) (list_all (λ f. list_any (λ m. at_most scope m f) a.upper) b.upper) h in (
      All-from_recursion (λ (f : Form). value_of f v ≤ℤ z) b.lower (below_all scope v r b.lower a.lower z p.0 (recursion_from_All (λ (m : Form). value_of m v ≤ℤ z) a.lower i.0)),
      All-from_recursion (λ (f : Form). z ≤ℤ value_of f v) b.upper (above_all scope v r b.upper a.upper z p.1 (recursion_from_All (λ (m : Form). z ≤ℤ value_of m v) a.upper i.1)),
    )

inside-holds : (scope : List Binding) (as' bs : List Span1) → IsTrue (inside scope as' bs) → (v : ℕ → ℤ) → HoldsIn scope v → (p : List ℤ) → IsInRegion as' v p → IsInRegion bs v p
inside-holds scope [] [] h v r p i = i
inside-holds scope [] (b ∷ bs) h v r p i = cc
inside-holds scope (a ∷ as') [] h v r p i = cc
inside-holds scope (a ∷ as') (b ∷ bs) h v r [] i = i
inside-holds scope (a ∷ as') (b ∷ bs) h v r (z ∷ zs) i =
    let t = both_true (span_inside scope a b) (inside scope as' bs) h in
    (span_inside-means scope a b t.0 v r z i.0, inside-holds scope as' bs t.1 v r zs i.1)

pub inside-means : (scope : List Binding) (as' bs : List Span1) (answer : Bool) → answer ≡ inside scope as' bs → IsTrue answer → IsInside scope as' bs
inside-means scope as' bs answer e h = λ v p r i. inside-holds scope as' bs (subst IsTrue e h) v r p i

pub inside-unequal : (scope : List Binding) (as' bs : List Span1) → (length as' ≡ length bs → ⊥) → inside scope as' bs ≡ false
inside-unequal scope [] [] h = absurd (h refl)
inside-unequal scope [] (b ∷ bs) h = refl
inside-unequal scope (a ∷ as') [] h = refl
inside-unequal scope (a ∷ as') (b ∷ bs) h =
    let rest = inside-unequal scope as' bs (λ e. h (omega (arith, e))) in
    no_more (span_inside scope a b) (inside scope as' bs) rest
  where
    no_more : (x y : Bool) → y ≡ false → (x && y) ≡ false
    no_more true y e = e
    no_more false y e = refl

pub inside-step : (scope : List Binding) (as' bs : List Span1) (p : ℕ) (x y : Span1) → p < length as' → p < length bs → x ≡ get_or as' p x → y ≡ get_or bs p y
    → inside scope (drop p as') (drop p bs) ≡ (span_inside scope x y && inside scope (drop (p + 1) as') (drop (p + 1) bs))
inside-step scope as' bs p x y la lb ex ey = rw (drop-cons as' p x la, drop-cons bs p y lb, add-one, ← ex, ← ey) refl

-- ---- a span beside another
successor-value : (u next : Form) (v : ℕ → ℤ) → successor u ≡ Some next → value_of next v ≡ value_of u v +ℤ pos 1
successor-value u next v e =
    let made = combined-means u (pos 1) (number (pos 1)) next e in
    ap (λ (f : Form). value_of f v) made.is ∙ omega (arith, ints, value_of-plus_multiple u (pos 1) (number (pos 1)) v)

at_most_successor-by : (scope : List Binding) (v : ℕ → ℤ) → HoldsIn scope v → (f u : Form) (made : Option Form) → successor u ≡ made
    → option_map_or (λ next. at_most scope f next) made false ≡ true → value_of f v ≤ℤ (value_of u v +ℤ pos 1)
at_most_successor-by scope v r f u None e h = cc
at_most_successor-by scope v r f u (Some next) e h = omega (arith, ints, at_most-holds scope v r f next h, successor-value u next v e)

successor_at_most-by : (scope : List Binding) (v : ℕ → ℤ) → HoldsIn scope v → (f u : Form) (made : Option Form) → successor u ≡ made
    → option_map_or (λ next. at_most scope next f) made false ≡ true → (value_of u v +ℤ pos 1) ≤ℤ value_of f v
successor_at_most-by scope v r f u None e h = cc
successor_at_most-by scope v r f u (Some next) e h = omega (arith, ints, at_most-holds scope v r next f h, successor-value u next v e)

-- what is shown of each pair, and of one
abbrev Below : (ℕ → ℤ) → Form → Form → Type 0
Below v f u = value_of f v ≤ℤ (value_of u v +ℤ pos 1)

each_pair : (scope : List Binding) (v : ℕ → ℤ) → HoldsIn scope v → (fs us : List Form) → list_all (λ f. list_all (λ u. at_most_successor scope f u) us) fs ≡ true
    → (i j : ℕ) (d e : Form) → i < length fs → j < length us → Below v (get_or fs i d) (get_or us j e)
each_pair scope v r fs us h i j d e li lj =
    let outer = AllPass-from_list_all (λ f. list_all (λ u. at_most_successor scope f u) us) fs h i d li in
    let inner = AllPass-from_list_all (λ u. at_most_successor scope (get_or fs i d) u) us outer j e lj in
    at_most_successor-by scope v r (get_or fs i d) (get_or us j e) (successor (get_or us j e)) refl inner

pub adjacent-holds : (scope : List Binding) (a b : Span1) → IsTrue (adjacent scope a b) → AreAdjacent scope a b
adjacent-holds scope a b h v r =
    let both = both_true (list_all (λ f. list_all (λ u. at_most_successor scope f u) a.upper) b.lower) (list_any (λ u. list_any (λ f. successor_at_most scope u f) b.lower) a.upper) h in
    let u = Any-from_list_any (λ u. list_any (λ f. successor_at_most scope u f) b.lower) a.upper both.1 in
    let f = Any-from_list_any (λ f. successor_at_most scope u.1 f) b.lower u.4 in
    meets u.0 u.1 u.2 u.3 f.0 f.1 f.2 f.3 (each_pair scope v r b.lower a.upper both.0)
    (successor_at_most-by scope v r f.1 u.1 (successor u.1) refl f.4)
  where
    meets : (k : ℕ) (u : Form) → k < length a.upper → get_or a.upper k u ≡ u → (j : ℕ) (f : Form) → j < length b.lower → get_or b.lower j f ≡ f
        → ((i k : ℕ) (d e : Form) → i < length b.lower → k < length a.upper → Below v (get_or b.lower i d) (get_or a.upper k e))
        → (value_of u v +ℤ pos 1) ≤ℤ value_of f v
        → (e : ℤ) × IsLeast a.upper v e × IsGreatest b.lower v (e +ℤ pos 1)
    meets k u lu eu j f lf ef below reaches =
        let at_u : (i : ℕ) (d : Form) → i < length b.lower → Below v (get_or b.lower i d) u =
        λ i d l. subst (λ (x : Form). Below v (get_or b.lower i d) x) eu (below i k d u l lu) in
        let at_f : (i : ℕ) (d : Form) → i < length a.upper → Below v f (get_or a.upper i d) =
        λ i d l. subst (λ (x : Form). Below v x (get_or a.upper i d)) ef (below j i f d lf l) in
        let here : Below v f u = subst (λ (x : Form). Below v x u) ef (at_u j f lf) in (
          value_of u v,
          ((λ i d l. omega (arith, ints, at_f i d l, reaches)), (k, u, lu, eu, refl)),
          ((λ i d l. at_u i d l), (j, f, lf, ef, omega (arith, ints, here, reaches))),
        )

pub adjacent-means : (scope : List Binding) (a b : Span1) (answer : Bool) → answer ≡ adjacent scope a b → IsTrue answer → AreAdjacent scope a b
adjacent-means scope a b answer e h = adjacent-holds scope a b (subst IsTrue e h)
