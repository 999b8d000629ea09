-- Regions freed of inner symbols, and their unions.
use Rattle.std.proofs.Common.{◌≡◌, ℕ, suc, List, [], ◌∷◌, ◌++◌, length, Bool, true, false, ◌||◌, Option, Some, None, refl, ◌∙◌, subst, arith}
use Rattle.std.specs.Prelude.{ℤ, pos, negsuc, map, filter, fold, option_map, option_to_list, All}
use Rattle.std.specs.List.{AllByRecursion, list_any}
use Rattle.std.proofs.lemmas.Int.{ints}
use Rattle.std.proofs.lemmas.List.Elements.{recursion_from_All, All-from_recursion}
use Rattle.numeric.specs.declared.ty.Ty.{Ty}
use Rattle.numeric.specs.declared.ty.Ty.TheVariants.{I32}
use Rattle.meaning.specs.Names.{same_name}
use Rattle.algo.specs.Scoping.Standing.{Written}
use Rattle.lin.specs.Forms.{Form, number, value_of}
use Rattle.lin.specs.Search.{is_empty}
use Rattle.lin.specs.Spans.{HoldsIn, IsInRegion}
use Rattle.lin.specs.declared.form.Multiple.{Multiple}
use Rattle.lin.specs.declared.scope.Binding.{Binding}
use Rattle.lin.specs.declared.span.Span1.{Span1}
use Rattle.lin.proofs.TermLemmas.{either_way, all_weaker, sum_of-same}
use Rattle.bounds.specs.Lists.{moved, gap, all_moved, union}
use Rattle.bounds.specs.Spans.{span_of, range_of, or_range, or_range_if, choice_of}
use Rattle.bounds.proofs.ListSound.{AllIn, Made, all-append, kept-all}
use Rattle.bounds.proofs.SpanSound.{Low, High}
use Rattle.bounds.specs.Projection.Unions.{in_front, union_of, with_region}
use Rattle.bounds.specs.Projection.Elimination.{is_inner, names_inner}
use Rattle.bounds.specs.Projection.Projection.{projected_span, projected}
use Rattle.bounds.specs.Projection.Sound.{AgreeOutside, IsOuterSpan}
use Rattle.bounds.proofs.Names.{Outer, outer_terms, combined-outer}
use Rattle.bounds.proofs.ProjectionSound.{region-outer, region-holds}
use Rattle.bounds.proofs.UnionHolds.{HoldsIf, HasLength, length_some, in_front-length}
use Rattle.crop.specs.Inference.Regions.{spans_at, freed, regions_of}

-- ---- as many coordinates
projected-length : (scope : List Binding) (inner : List ℕ) (region : List Span1) → HasLength (length region) (projected scope inner region)
projected-length scope inner [] = length_some [] 0 refl
projected-length scope inner (s ∷ ss) = in_front-length (projected_span scope inner s) (projected scope inner ss) (length ss) (suc (length ss)) refl (projected-length scope inner ss)

pub freed-length : (scope : List Binding) (inner : List ℕ) (n : ℕ) (region : Option (List Span1)) → HasLength n region → HasLength n (freed scope inner region)
freed-length scope [] n region h = h
freed-length scope (i ∷ is) n None h = λ r e. cc
freed-length scope (i ∷ is) n (Some region) h = λ r e. projected-length scope (i ∷ is) region r e ∙ h region refl

-- ---- the same points
pub freed-holds : (scope : List Binding) (v : ℕ → ℤ) → HoldsIn scope v → (inner : List ℕ) (q : List ℤ) (region : Option (List Span1)) → HoldsIf v q region → HoldsIf v q (freed scope inner region)
freed-holds scope v r [] q region h = h
freed-holds scope v r (i ∷ is) q None h = λ s e. cc
freed-holds scope v r (i ∷ is) q (Some region) h = λ s e. region-holds scope (i ∷ is) region s e v v q r (λ n out. refl) (h region refl)

-- ---- no inner symbols
unnamed : (ts : List Multiple) → list_any (λ t. is_inner [] t.symbol) ts ≡ false
unnamed [] = refl
unnamed (t ∷ ts) = unnamed ts

unnamed_all : (fs : List Form) → AllByRecursion (Outer []) fs
unnamed_all [] = tt
unnamed_all (f ∷ fs) = (unnamed f.terms, unnamed_all fs)

unnamed_spans : (ss : List Span1) → AllByRecursion (IsOuterSpan []) ss
unnamed_spans [] = tt
unnamed_spans (s ∷ ss) = ((All-from_recursion (Outer []) s.lower (unnamed_all s.lower), All-from_recursion (Outer []) s.upper (unnamed_all s.upper)), unnamed_spans ss)

-- of the region that is there, if any, no form names an inner symbol
abbrev pub OuterIf : List ℕ → Option (List Span1) → Type 0
OuterIf inner found = (r : List Span1) → found ≡ Some r → AllByRecursion (IsOuterSpan inner) r

some_region : (x y : List Span1) → Some x ≡ Some y → x ≡ y
some_region x y e = cc

outer_some : (inner : List ℕ) (x : List Span1) → AllByRecursion (IsOuterSpan inner) x → OuterIf inner (Some x)
outer_some inner x h = λ r e. let P : List Span1 → Type 0 = λ u. AllByRecursion (IsOuterSpan inner) u in subst P (some_region x r e) h

pub none-outer : (inner : List ℕ) → OuterIf inner (Some [])
none-outer inner = outer_some inner [] tt

freed-outer : (scope : List Binding) (inner : List ℕ) (region : Option (List Span1)) → OuterIf inner (freed scope inner region)
freed-outer scope [] region = λ r e. unnamed_spans r
freed-outer scope (i ∷ is) None = λ r e. cc
freed-outer scope (i ∷ is) (Some region) = λ r e. recursion_from_All (IsOuterSpan (i ∷ is)) r (region-outer scope (i ∷ is) region r e)

pub calls-outer : (scope : List Binding) (functions : List ℕ → Option (Ty × ℕ)) (names : List (List ℕ)) (region : List Span1) (inner callee : List ℕ) (calls : List Written)
    → AllByRecursion (OuterIf inner) (regions_of scope functions names region inner callee calls)
calls-outer scope functions names region inner callee calls = by (filter (λ c. same_name c.name callee) calls)
  where
    by : (cs : List Written) → AllByRecursion (OuterIf inner) (map (λ c. freed scope inner (spans_at scope functions names region c.at)) cs)
    by [] = tt
    by (c ∷ cs) = (freed-outer scope inner (spans_at scope functions names region c.at), by cs)

-- ---- their unions
module _ (scope : List Binding) (inner : List ℕ) where
  moved-outer : (upper : Bool) (f : Form) (found : Option ℤ) → Outer inner f → AllByRecursion (λ m. Made (Outer inner) m) (option_to_list (option_map (moved upper f) found))
  moved-outer upper f None h = tt
  moved-outer true f (Some d) h = (combined-outer inner (pos 1) f (number d) h refl, tt)
  moved-outer false f (Some d) h = (combined-outer inner (negsuc 0) f (number d) h refl, tt)

  all_moved-outer : (upper : Bool) (fs others : List Form) → AllByRecursion (Outer inner) fs → AllByRecursion (λ m. Made (Outer inner) m) (all_moved scope upper fs others)
  all_moved-outer upper [] others h = tt
  all_moved-outer upper (f ∷ fs) others h =
      all-append (λ m. Made (Outer inner) m) (option_to_list (option_map (moved upper f) (gap scope upper f others))) (all_moved scope upper fs others)
      (moved-outer upper f (gap scope upper f others) h.0) (all_moved-outer upper fs others h.1)

  forms-outer : (upper : Bool) (a b : List Form) → All (λ f. names_inner inner f ≡ false) a → All (λ f. names_inner inner f ≡ false) b → AllIn (Outer inner) (union scope upper a b)
  forms-outer upper a b ha hb =
      kept-all (Outer inner) (all_moved scope upper a b ++ all_moved scope upper b a)
      (all-append (λ m. Made (Outer inner) m) (all_moved scope upper a b) (all_moved scope upper b a)
      (all_moved-outer upper a b (recursion_from_All (Outer inner) a ha)) (all_moved-outer upper b a (recursion_from_All (Outer inner) b hb)))

  -- the span that is there, if any
  abbrev OuterSpanIf : Option Span1 → Type 0
  OuterSpanIf found = (s : Span1) → found ≡ Some s → IsOuterSpan inner s

  some_span : (x y : Span1) → Some x ≡ Some y → x ≡ y
  some_span x y e = cc

  span_some : (x : Span1) → IsOuterSpan inner x → OuterSpanIf (Some x)
  span_some x h = λ s e. subst (IsOuterSpan inner) (some_span x s e) h

  sides-outer : (lower upper : Option (List Form)) → AllIn (Outer inner) lower → AllIn (Outer inner) upper → OuterSpanIf (span_of lower upper)
  sides-outer None upper a b = λ s e. cc
  sides-outer (Some lower) None a b = λ s e. cc
  sides-outer (Some lower) (Some upper) a b = span_some (record { lower = lower; upper = upper }) (All-from_recursion (Outer inner) lower (a lower refl), All-from_recursion (Outer inner) upper (b upper refl))

  range-outer : (ty : Ty) → IsOuterSpan inner (range_of ty)
  range-outer ty = (All-from_recursion (Outer inner) (range_of ty).lower (refl, tt), All-from_recursion (Outer inner) (range_of ty).upper (refl, tt))

  or_range-outer : (ty : Ty) (made : Option Span1) → OuterSpanIf made → OuterSpanIf (or_range_if ty made)
  or_range-outer ty None h = λ s e. cc
  or_range-outer ty (Some s) h = span_some (or_range ty s) (either_way (IsOuterSpan inner) (is_empty s.lower || is_empty s.upper) (range_of ty) s (λ t. range-outer ty) (λ t. h s refl))

  choice-outer : (ty : Ty) (a b : Span1) → IsOuterSpan inner a → IsOuterSpan inner b → OuterSpanIf (choice_of scope ty a b)
  choice-outer ty a b ha hb = or_range-outer ty _ (sides-outer _ _ (forms-outer false a.lower b.lower ha.0 hb.0) (forms-outer true a.upper b.upper ha.1 hb.1))

  front-outer : (s : Option Span1) (ss : Option (List Span1)) → OuterSpanIf s → OuterIf inner ss → OuterIf inner (in_front s ss)
  front-outer None ss h g = λ r e. cc
  front-outer (Some t) None h g = λ r e. cc
  front-outer (Some t) (Some ts) h g = outer_some inner (t ∷ ts) (h t refl, g ts refl)

  union-outer : (as' bs : List Span1) → AllByRecursion (IsOuterSpan inner) as' → AllByRecursion (IsOuterSpan inner) bs → OuterIf inner (union_of scope as' bs)
  union-outer [] bs a b = none-outer inner
  union-outer (x ∷ xs) [] a b = none-outer inner
  union-outer (x ∷ xs) (y ∷ ys) a b = front-outer (choice_of scope I32 x y) (union_of scope xs ys) (choice-outer I32 x y a.0 b.0) (union-outer xs ys a.1 b.1)

  with_region-outer : (k s : Option (List Span1)) → OuterIf inner k → OuterIf inner s → OuterIf inner (with_region scope k s)
  with_region-outer None s a b = λ r e. cc
  with_region-outer (Some []) s a b = b
  with_region-outer (Some (x ∷ xs)) None a b = λ r e. cc
  with_region-outer (Some (x ∷ xs)) (Some ys) a b = union-outer (x ∷ xs) ys (a (x ∷ xs) refl) (b ys refl)

  pub fold-outer : (k : Option (List Span1)) (ss : List (Option (List Span1))) → OuterIf inner k → AllByRecursion (OuterIf inner) ss → OuterIf inner (fold (with_region scope) k ss)
  fold-outer k [] a h = a
  fold-outer k (s ∷ ss) a h = fold-outer (with_region scope k s) ss (with_region-outer k s a h.0) h.1

-- ---- whatever the inner symbols stand for
module _ (inner : List ℕ) (v w : ℕ → ℤ) (agree : AgreeOutside inner v w) where
  -- a form that names no inner symbol has one value where the others agree
  same_value : (f : Form) → Outer inner f → value_of f v ≡ value_of f w
  same_value f h =
      let same = sum_of-same f.terms v w (all_weaker (λ (t : Multiple). is_inner inner t.symbol ≡ false) (λ (t : Multiple). v t.symbol ≡ w t.symbol) (λ t out. agree t.symbol out) f.terms (outer_terms inner f.terms h)) in
      omega (arith, ints, same)

  carried : (R S : Form → Type 0) → ((f : Form) → value_of f v ≡ value_of f w → R f → S f) → (fs : List Form) → AllByRecursion (Outer inner) fs → AllByRecursion R fs → AllByRecursion S fs
  carried R S g [] o a = tt
  carried R S g (f ∷ fs) o a = (g f (same_value f o.0) a.0, carried R S g fs o.1 a.1)

  carried_all : (R S : Form → Type 0) → ((f : Form) → value_of f v ≡ value_of f w → R f → S f) → (fs : List Form) → All (λ f. names_inner inner f ≡ false) fs → All R fs → All S fs
  carried_all R S g fs o a = All-from_recursion S fs (carried R S g fs (recursion_from_All (Outer inner) fs o) (recursion_from_All R fs a))

  pub lies_outside : (found : List Span1) (q : List ℤ) → AllByRecursion (IsOuterSpan inner) found → IsInRegion found v q → IsInRegion found w q
  lies_outside [] [] o h = tt
  lies_outside [] (z ∷ zs) o h = absurd h
  lies_outside (s ∷ ss) [] o h = absurd h
  lies_outside (s ∷ ss) (z ∷ zs) o h = (
    (
      carried_all (Low v z) (Low w z) (λ f same l. omega (arith, ints, same, l)) s.lower o.0.0 h.0.0,
      carried_all (High v z) (High w z) (λ f same l. omega (arith, ints, same, l)) s.upper o.0.1 h.0.1,
    ),
    lies_outside ss zs o.1 h.1,
  )
