-- What a left index stays within has the same ends around a store whatever the region is: its variables are reduction variables, whose loops run over numbers.
use Rattle.std.proofs.Common.{◌≡◌, ℕ, zero, suc, ◌+◌, ◌<◌, ◌≤◌, Bool, true, false, List, [], ◌∷◌, ◌++◌, length, map, reverse, drop, length-append, Option, Some, None, refl, sym, ap, ◌∙◌}
use Rattle.std.proofs.Common.{append_assoc, append-nil, arith}
use Rattle.std.specs.Prelude.{ℤ, nat_lt, if◌then◌else◌, slice_get}
use Rattle.std.proofs.lemmas.Bool.Decides.{nat_tests}
use Rattle.std.proofs.lemmas.List.{length-map, length-reverse}
use Rattle.numeric.specs.declared.ty.Ty.TheVariants.{I32}
use Rattle.tree.specs.Term.{Term}
use Rattle.tree.specs.Typing.{type_of}
use Rattle.lin.specs.Forms.{Form}
use Rattle.lin.specs.declared.scope.Binding.{Binding}
use Rattle.lin.specs.declared.scope.Binding.TheVariants.{Loop}
use Rattle.lin.specs.declared.span.Span1.{Span1}
use Rattle.bounds.specs.Spans.{numbers, range_of}
use Rattle.bounds.specs.Interval.{span_named, interval}
use Rattle.meaning.specs.Algorithm.{Algorithm}
use Rattle.meaning.specs.Names.{is_among}
use Rattle.meaning.specs.Conditions.{AreDistinct}
use Rattle.sched.specs.declared.nest.Turning.{Turning}
use Rattle.sched.specs.Skeleton.{BodyText, NestText, SkeletonText, variables_at, ranges_at}
use Rattle.sched.specs.Standing.{◌>>=◌, alone}
use Rattle.sched.specs.Called.{called}
use Rattle.sched.specs.Stored.{FormulaText, StoredText, left_at}
use Rattle.sched.specs.Around.{AroundText, exactly, interval_in, form_span, coordinate_span, range_names, ranges_of, head_scope, bind_steps, left_around, around, coordinates_behind}
use Rattle.regions.specs.Regions.{ends_of}
use Rattle.blocks.proofs.Laying.{bound, same}
use Rattle.completeness.proofs.Written.{variables_long}
use Rattle.completeness.proofs.RangeLoops.{HasRanges, alones, somes, loop_of, slice_none}
use Rattle.completeness.proofs.Renumbered.{turned, spanned, spans_of, interval_ren, freed_ends_ren}
use Rattle.completeness.proofs.RangedLefts.{interval_agrees}
use Rattle.completeness.proofs.StoreLists.{last_alone, span_behind}

-- ---- coordinates that are found alike with and without left indices

pub beyond : {A : Type 0} (xs : List A) (i : ℕ) → length xs ≤ i → slice_get xs i ≡ None
beyond [] i le = refl
beyond (x ∷ xs) zero le = absurd (omega (arith, le))
beyond (x ∷ xs) (suc i) le = beyond xs i (omega (arith, le))

module _ (a : Algorithm) (r : AroundText) (f : FormulaText) where
  all_formed : (before cs : List Span1) (d : ℕ) (os : List (Option Form)) → ((i : ℕ) → left_at f (d + i) ≡ None) → coordinates_behind a r f before d os ≡ Some cs → cs ≡ before ++ map form_span os
  all_formed before cs d [] none e = sym (same before cs e) ∙ sym (append-nil before)
  all_formed before cs d (o ∷ os) none e =
      let b = bound (coordinate_span a r o (left_at f d)) (λ s. coordinates_behind a r f (before ++ s ∷ []) (d + 1) os) cs e in
      let zero_on : d ≡ d + 0 = omega arith in
      let here : form_span o ≡ b.value = of o b.value (ap (coordinate_span a r o) (sym (ap (left_at f) zero_on ∙ none 0)) ∙ b.is) in
      let rest = all_formed (before ++ b.value ∷ []) cs (d + 1) os (λ i. let next : (d + 1) + i ≡ d + suc i = omega arith in ap (left_at f) next ∙ none (suc i)) b.comes in
      rest ∙ append_assoc before (b.value ∷ []) (map form_span os) ∙ ap (λ (s : Span1). before ++ s ∷ map form_span os) (sym here)
    where
      of : (o : Option Form) (s : Span1) → coordinate_span a r o None ≡ Some s → form_span o ≡ s
      of (Some g) s q = same (exactly g) s q
      of None s q = same (range_of I32) s q

  pub formed_behind : (n : ℕ) (before cs : List Span1) (d : ℕ) (os : List (Option Form)) → ((i : ℕ) → n ≤ i → left_at f (d + i) ≡ None) → coordinates_behind a r f before d os ≡ Some cs →
      n ≤ length os → (ps : List Span1) × (cs ≡ before ++ ps ++ map form_span (drop n os)) × (length ps ≡ n)
  formed_behind zero before cs d os none e few = ([], all_formed before cs d os (λ i. none i (omega arith)) e ∙ (λ i. sym (append-nil before) i ++ map form_span (whole_list os i)), refl)
    where
      whole_list : (us : List (Option Form)) → us ≡ drop 0 us
      whole_list [] = refl
      whole_list (u ∷ us) = refl
  formed_behind (suc n) before cs d [] none e few = absurd (omega (arith, few))
  formed_behind (suc n) before cs d (o ∷ os) none e few =
      let b = bound (coordinate_span a r o (left_at f d)) (λ s. coordinates_behind a r f (before ++ s ∷ []) (d + 1) os) cs e in
      let rest = formed_behind n (before ++ b.value ∷ []) cs (d + 1) os
      (λ i le. let next : (d + 1) + i ≡ d + suc i = omega arith in ap (left_at f) next ∙ none (suc i) (omega (arith, le))) b.comes (omega (arith, few)) in
      let long = rest.2 in
      (b.value ∷ rest.0, rest.1 ∙ ap (λ (ss : List Span1). ss ++ map form_span (drop n os)) (append_assoc before (b.value ∷ []) rest.0), omega (arith, long))

-- ---- the ends of what an index over reduction variables stays within

-- the loops of a definition's reduction variables alone, and what the variables stay within
abbrev pub scope_alone : BodyText → List Binding
scope_alone b = map loop_of (reverse b.ranges)

abbrev pub spans_alone : BodyText → List Span1
spans_alone b = map exactly (alones 0 (length b.ranges))

module _ (base m far : ℕ) (behind : base + m ≤ far) where
  turned_first : (j : ℕ) → j < m → turned m base far behind j ≡ base + j
  turned_first j less = of (nat_lt j m) refl
    where
      of : (v : Bool) → nat_lt j m ≡ v → (if v then base + j else far + j) ≡ base + j
      of true e = refl
      of false e = absurd (let k : j < m = less in grind (arith, nat_tests, e, k))

  -- the same symbols, from this one on
  spans_turned : (n : ℕ) → n ≤ m → map (spanned m base far behind) (map exactly (alones 0 n)) ≡ map form_span (somes (alones base n))
  spans_turned zero le = refl
  spans_turned (suc n) le =
      let none : 0 + n ≡ n = omega arith in
      let here : turned m base far behind (0 + n) ≡ base + n = ap (turned m base far behind) none ∙ turned_first n (omega (arith, le)) in
      λ i. exactly (alone (here i)) ∷ spans_turned n (omega (arith, le)) i

drop_first : {A : Type 0} (n : ℕ) (xs ys : List A) → length xs ≡ n → drop n (xs ++ ys) ≡ ys
drop_first zero [] [] e = refl
drop_first zero [] (y ∷ ys) e = refl
drop_first zero (x ∷ xs) ys e = absurd (omega (arith, e))
drop_first (suc n) [] ys e = absurd (omega (arith, e))
drop_first (suc n) (x ∷ xs) ys e = drop_first n xs ys (omega (arith, e))

module _ (a : Algorithm) (u : StoredText) (k : SkeletonText) (b : BodyText) (d : ℕ) (f : FormulaText) (w : NestText) (r : AroundText) (has : HasRanges k u.subject.variables b w)
    (stands : around a u (head_scope k) w f d ≡ Some r) (variables : u.variables ≡ u.subject.variables) (few : length f.at ≤ length u.variables)
    (apart : AreDistinct (u.variables ++ range_names (ranges_of u.changes d))) where
  abbrev rn : List (List ℕ)
  rn = range_names (ranges_of u.changes d)

  abbrev scope : List Binding
  scope = bind_steps (head_scope k) w.steps

  abbrev small : List Binding
  small = scope_alone b

  abbrev m : ℕ
  m = length b.ranges

  small_long : length small ≡ m
  small_long = length-map (reverse b.ranges) loop_of ∙ length-reverse b.ranges

  there : (j : ℕ) → j < m → slice_get scope (has.base + j) ≡ slice_get small j
  there j less = of (slice_get small j) refl
    where
      of : (o : Option Binding) → slice_get small j ≡ o → slice_get scope (has.base + j) ≡ slice_get small j
      of (Some x) e = has.there j x e ∙ sym e
      of None e = (let many = slice_none small j e in let long = small_long in absurd (omega (arith, many, long, less)))

  loops : (j : ℕ) (x : Binding) → slice_get small j ≡ Some x → (low : ℤ) × (last : ℤ) × (x ≡ Loop (numbers low last))
  loops j x e = of (reverse b.ranges) j e
    where
      of : (ts : List Turning) (j : ℕ) → slice_get (map loop_of ts) j ≡ Some x → (low : ℤ) × (last : ℤ) × (x ≡ Loop (numbers low last))
      of [] j q = absurd (cc q)
      of (t ∷ ts) zero q = (t.low, t.last, sym (same (loop_of t) x q))
      of (t ∷ ts) (suc j) q = of ts j q

  -- the coordinates of the reduction variables
  behind_are : (cs : List Span1) → coordinates_behind a (left_around u (head_scope k) w d) f [] 0 w.at ≡ Some cs →
      (ps : List Span1) × (cs ≡ ps ++ map (spanned m has.base (length scope) has.fits) (spans_alone b)) × (length u.variables ≡ length ps)
  behind_are cs e =
      let first = variables_at b 0 u.subject.variables has.known in
      let long : length first ≡ length u.variables = variables_long b 0 u.subject.variables has.known ∙ ap length (sym variables) in
      let parts = ap length has.forms in
      let sum = length-append first (ranges_at b.ranges has.known) in
      let y = formed_behind a (left_around u (head_scope k) w d) f (length u.variables) [] cs 0 w.at (λ i le. let zero_on : 0 + i ≡ i = omega arith in
      ap (left_at f) zero_on ∙ ap (λ (o : Option (Option Term)). elim o [ Some t ↦ t | None ↦ None ]) (beyond f.at i (omega (arith, few, le)))) e (omega (arith, long, parts, sum)) in
      let last : drop (length u.variables) w.at ≡ somes (alones has.base m) =
      ap (drop (length u.variables)) has.forms ∙ drop_first (length u.variables) first (ranges_at b.ranges has.known) long ∙ has.alone in
      (y.0, y.1 ∙ ap (λ (os : List (Option Form)). y.0 ++ map form_span os) last ∙ ap (λ (ss : List Span1). y.0 ++ ss) (sym (spans_turned has.base m (length scope) has.fits m (omega arith))), sym y.2)

  -- the ends do not depend on what is around
  pub ends_alike : (e : Term) → type_of (is_among rn) (called a) e ≡ Some I32 →
      (interval_in a r e >>= λ s. ends_of r.scope s) ≡ (interval (scope_alone b) (called a) (range_names (ranges_of u.changes d)) (spans_alone b) e >>= λ s. ends_of (scope_alone b) s)
  ends_alike e typed =
      let left = left_around u (head_scope k) w d in
      let c = bound (coordinates_behind a left f [] 0 w.at) (λ cs. Some (record left { coordinates = cs })) r stands in
      let is : record left { coordinates = c.value } ≡ r = same (record left { coordinates = c.value }) r c.comes in
      let y = behind_are c.value c.is in
      let mine = map (spanned m has.base (length scope) has.fits) (spans_alone b) in
      let agree : (x : List ℕ) → is_among rn x ≡ true → span_named (u.variables ++ rn) c.value x ≡ span_named rn mine x =
      λ x among. ap (λ (ss : List Span1). span_named (u.variables ++ rn) ss x) y.1 ∙ span_behind u.variables rn y.0 mine x y.2 (last_alone u.variables rn apart x among) in
      let one = interval_agrees scope (called a) (u.variables ++ rn) rn c.value mine (is_among rn) agree e I32 typed in
      let two = interval_ren m has.base (length scope) has.fits scope small refl small_long there loops (called a) rn (spans_alone b) e in
      ap (λ (t : AroundText). interval_in a t e >>= λ s. ends_of t.scope s) (sym is) ∙ ap (λ (o : Option Span1). o >>= λ s. ends_of scope s) (one ∙ two)
      ∙ of (interval small (called a) rn (spans_alone b) e)
    where
      of : (o : Option Span1) → (spans_of m has.base (length scope) has.fits o >>= λ s. ends_of scope s) ≡ (o >>= λ s. ends_of small s)
      of None = refl
      of (Some s) = freed_ends_ren m has.base (length scope) has.fits scope small refl small_long there loops s
