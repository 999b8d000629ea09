-- The numbers of a dimension that are fetched have places in the buffer that is made for them, by what the checker knows of the grid.
use Rattle.std.proofs.Common.{◌≡◌, ℕ, zero, suc, ◌+◌, ◌-◌, ◌<◌, ◌≤◌, ◌^◌, Bool, true, false, ◌&&◌, ◌||◌, List, [], ◌∷◌, ◌++◌, length, min}
use Rattle.std.proofs.Common.{Option, Some, None, refl, sym, ap, ◌∙◌, subst, arith, append_assoc}
use Rattle.std.specs.Prelude.{ℤ, pos, negsuc, ◌+ℤ◌, ◌-ℤ◌, ◌*ℤ◌, ◌≤ℤ◌, int_le, int_lt, nat_lt, ◌==◌, if◌then◌else◌, slice_get}
use Rattle.std.specs.List.{AllByRecursion}
use Rattle.std.specs.Int.{saturate_signed, w64}
use Rattle.std.specs.Int.RustNames.{unsigned_abs}
use Rattle.std.proofs.lemmas.Bool.Decides.{nat_tests}
use Rattle.std.proofs.lemmas.Int.{ints}
use Rattle.lin.specs.Forms.{Form, number, combined, plus_term, plus_terms, plus_multiple, is_zero, in_front, IsCanonical}
use Rattle.lin.specs.Regions.{span_inside}
use Rattle.lin.specs.Search.{at_most}
use Rattle.lin.specs.declared.form.Multiple.{Multiple}
use Rattle.lin.specs.declared.scope.Binding.{Binding}
use Rattle.lin.specs.declared.span.Span1.{Span1}
use Rattle.lin.proofs.TermLemmas.{is_zero-other}
use Rattle.lin.proofs.Limits.{combined-means, within_limits-constant}
use Rattle.plan.specs.declared.stmt.Places.TheVariants.{From}
use Rattle.soundness.specs.Obligations.{Binder}
use Rattle.soundness.specs.Shown.{raised}
use Rattle.rules.specs.Bounding.Scopes.{most_symbols, scope_of}
use Rattle.rules.specs.Bounding.Seats.{seats, is_seated_in}
use Rattle.sched.specs.declared.numbers.Extent.{Extent}
use Rattle.sched.specs.Standing.{◌>>=◌}
use Rattle.sched.specs.Around.{grid_scope}
use Rattle.sched.specs.Blocks.{difference}
use Rattle.sched.specs.Bounded.{whole}
use Rattle.lower.specs.Owning.{IsExtent}
use Rattle.sched.specs.Windows.{size_below}
use Rattle.sched.specs.Taken.{SiteText, at_least_one, shorter, shortest_from, shortest, run_of}
use Rattle.regions.specs.Taken.{needed_span, cut, hold_calls}
use Rattle.sched.specs.Taken.{places_count}
use Rattle.regions.specs.Taken.{or_all, is_shown, shown, seated, needed_part, tight, part_of}
use Rattle.blocks.proofs.Laying.{bound, same}
use Rattle.completeness.proofs.Only.{Only, SpanOnly}
use Rattle.completeness.proofs.Sited.{PlaceOnly}
use Rattle.completeness.proofs.Widened.{Below, inside_same}
use Rattle.completeness.proofs.Rising.{Rises, AllRise, LowRises}
use Rattle.completeness.proofs.SelfBounds.{form_self}
use Rattle.completeness.proofs.GridScope.{number_limited, TellsGrid, grid_long, scope_more, scope_agrees}

-- a dimension of what is fetched, with its places
abbrev Given : (A B : Type 0) → (A → Option B) → Type 0
Given A B f = B

abbrev Part : Type 0
Part = Given _ _ (λ s. seated [] [] 0 s)

-- ---- numbers

-- a number is shown to be at most itself
number_self : (scope : List Binding) (z : ℤ) → unsigned_abs z ≤ 2 ^ 40 → at_most scope (number z) (number z) ≡ true
number_self scope z near = form_self scope (number z) (number_limited z near)

low_near : (z : ℤ) → negsuc 2147483647 ≤ℤ z → z ≤ℤ pos 2147483647 → unsigned_abs z ≤ 2 ^ 40
low_near z from to = omega (arith, ints, from, to)

last_near : (z : ℤ) (n : ℕ) → negsuc 2147483647 ≤ℤ z → z ≤ℤ pos 2147483647 → n < 4294967296 → unsigned_abs (z +ℤ pos n -ℤ pos 1) ≤ 2 ^ 40
last_near z n from to few = omega (arith, ints, from, to, few)

-- all of a dimension has places
all_seated : (scope : List Binding) (e : Extent) → IsExtent e → is_seated_in scope (whole e) (From (number e.low) e.count) ≡ true
all_seated scope e h =
    let low = number_self scope e.low (low_near e.low h.from h.to) in
    let last = number_self scope (e.low +ℤ pos e.count -ℤ pos 1) (last_near e.low e.count h.from h.to h.few) in
    let ends : e.low +ℤ pos e.count -ℤ pos 1 ≡ e.low +ℤ (pos e.count -ℤ pos 1) = omega (arith, ints) in
    let high : at_most scope (number (e.low +ℤ pos e.count -ℤ pos 1)) (number (e.low +ℤ (pos e.count -ℤ pos 1))) ≡ true =
    sym (ap (λ (z : ℤ). at_most scope (number (e.low +ℤ pos e.count -ℤ pos 1)) (number z)) ends) ∙ last in
    λ i. ((low i || false) && true) && ((high i || false) && true)

-- ---- a canonical form, and a number more

plus_last : (done : List Multiple) (t : Multiple) → AllByRecursion (λ u. u.symbol < t.symbol) done → is_zero t.factor ≡ false → plus_term done t ≡ done ++ t ∷ []
plus_last [] t h z = ap (λ (b : Bool). if b then [] else t ∷ []) z
plus_last (x ∷ done) t h z =
    let less = h.0 in
    let test : nat_lt x.symbol t.symbol ≡ true = grind (arith, nat_tests) in
    let rest = plus_last done t h.1 z in
    ap (λ (b : Bool). if b then x ∷ plus_term done t else (if x.symbol == t.symbol then in_front (record { symbol = t.symbol; factor = x.factor +ℤ t.factor }) done else in_front t (x ∷ done))) test
    ∙ ap (λ (ts : List Multiple). x ∷ ts) rest

abbrev Before : List Multiple → List Multiple → Type 0
Before done ts = AllByRecursion (λ (u : Multiple). AllByRecursion (λ (v : Multiple). v.symbol < u.symbol) done) ts

later : (done : List Multiple) (t : Multiple) (us : List Multiple) → Before done us → AllByRecursion (λ u. t.symbol < u.symbol) us → Before (done ++ t ∷ []) us
later done t [] h k = tt
later done t (u ∷ us) h k = (more done h.0, later done t us h.1 k.1)
  where
    more : (vs : List Multiple) → AllByRecursion (λ (v : Multiple). v.symbol < u.symbol) vs → AllByRecursion (λ (v : Multiple). v.symbol < u.symbol) (vs ++ t ∷ [])
    more [] g = (k.0, tt)
    more (v ∷ vs) g = (g.0, more vs g.1)

plus_all : (done ts : List Multiple) → Before done ts → IsCanonical ts → plus_terms done (pos 1) ts ≡ done ++ ts
plus_all done [] h c = (none done)
  where
    none : (xs : List Multiple) → xs ≡ xs ++ []
    none [] = refl
    none (x ∷ xs) = ap (λ (ys : List Multiple). x ∷ ys) (none xs)
plus_all done (t ∷ ts) h c =
    let once : pos 1 *ℤ t.factor ≡ t.factor = omega (arith, ints) in
    let is : record { symbol = t.symbol; factor = pos 1 *ℤ t.factor } ≡ t = λ i. record { symbol = t.symbol; factor = once i } in
    let here = plus_last done t h.0 (is_zero-other t.factor c.0) in
    ap (λ (u : Multiple). plus_terms (plus_term done u) (pos 1) ts) is
    ∙ ap (λ (us : List Multiple). plus_terms us (pos 1) ts) here
    ∙ plus_all (done ++ t ∷ []) ts (later done t ts h.1 c.1) c.2
    ∙ append_assoc done (t ∷ []) ts

nothing_before : (ts : List Multiple) → Before [] ts
nothing_before [] = tt
nothing_before (t ∷ ts) = (tt, nothing_before ts)

pub plus_number : (z : ℤ) (f : Form) → Rises f → plus_multiple (number z) (pos 1) f ≡ raised f z
plus_number z f h =
    let sum : z +ℤ pos 1 *ℤ f.constant ≡ f.constant +ℤ z = omega (arith, ints) in
    let terms = plus_all [] f.terms (nothing_before f.terms) h in
    λ i. record { constant = sum i; terms = terms i }

-- ---- how many places

some_numbers : (o : Option ℤ) (n : ℤ) → at_least_one o ≡ Some n → pos 1 ≤ℤ n
some_numbers None n h = absurd (cc h)
some_numbers (Some z) n h = subst (λ (q : ℤ). pos 1 ≤ℤ q) (same (if int_le z (pos 1) then pos 1 else z) n h) (by (int_le z (pos 1)) refl)
  where
    by : (b : Bool) → int_le z (pos 1) ≡ b → pos 1 ≤ℤ (if b then pos 1 else z)
    by true e = omega (arith, ints)
    by false e = omega (arith, ints, e)

abbrev IsMany : Option (ℕ × ℤ) → Type 0
IsMany o = (q : ℕ × ℤ) → o ≡ Some q → pos 1 ≤ℤ q.1

shorter_many : (p : ℕ) (o : Option ℤ) (best : Option (ℕ × ℤ)) → ((n : ℤ) → o ≡ Some n → pos 1 ≤ℤ n) → IsMany best → IsMany (shorter p o best)
shorter_many p None best ho hb = hb
shorter_many p (Some n) None ho hb = λ q e. subst (λ (x : ℕ × ℤ). pos 1 ≤ℤ x.1) (same (p, n) q e) (ho n refl)
shorter_many p (Some n) (Some b) ho hb = by (int_lt n b.1)
  where
    by : (t : Bool) → IsMany (if t then Some (p, n) else Some b)
    by true = λ q e. subst (λ (x : ℕ × ℤ). pos 1 ≤ℤ x.1) (same (p, n) q e) (ho n refl)
    by false = hb

pub shortest_many : (grid : List Binding) (uppers : List Form) (p : ℕ) (fs : List Form) (best : Option (ℕ × ℤ)) → IsMany best → IsMany (shortest_from grid uppers p fs best)
shortest_many grid uppers p [] best h = h
shortest_many grid uppers p (f ∷ fs) best h =
    shortest_many grid uppers (p + 1) fs (shorter p (at_least_one (size_below grid f uppers)) best)
    (shorter_many p (at_least_one (size_below grid f uppers)) best (λ n e. some_numbers (size_below grid f uppers) n e) h)

pub counted_is : (n : ℤ) → pos 1 ≤ℤ n → pos (places_count n) ≡ n
counted_is (pos n) h = refl
counted_is (negsuc n) h = absurd (omega (arith, ints, h))

-- one less, where that is near 0
pub one_less : (n : ℤ) → pos 1 ≤ℤ n → unsigned_abs (difference n (pos 1)) ≤ 2 ^ 40 → difference n (pos 1) ≡ n -ℤ pos 1
one_less n h near = by (n -ℤ pos 1) refl near
  where
    by : (y : ℤ) → n -ℤ pos 1 ≡ y → unsigned_abs (saturate_signed w64 y) ≤ 2 ^ 40 → saturate_signed w64 y ≡ y
    by (pos k) e near = (let few : min k (2 ^ 63 - 1) ≤ 2 ^ 40 = near in let is : min k (2 ^ 63 - 1) ≡ k = omega (arith, few) in ap pos is)
    by (negsuc k) e near = absurd (omega (arith, ints, e, h))

-- ---- a dimension

module _ (grid : List ℕ) (few : length grid ≤ most_symbols) (bs : List Binder) (tells : TellsGrid grid bs) where
  abbrev small : List Binding
  small = grid_scope grid

  abbrev large : List Binding
  large = scope_of bs

  same_inside : (x y : Span1) → SpanOnly (Below (length grid)) x → SpanOnly (Below (length grid)) y → span_inside small x y ≡ span_inside large x y
  same_inside x y h k = inside_same small large (length grid) (grid_long grid) (scope_more grid few bs tells) (scope_agrees grid few bs tells) x y h k

  run_seated : (x s : Span1) (origin : Form) (n : ℤ) → pos 1 ≤ℤ n → Rises origin → Only (Below (length grid)) origin → SpanOnly (Below (length grid)) x → run_of origin n ≡ Some s →
      span_inside small x s ≡ true → is_seated_in large x (From origin (places_count n)) ≡ true
  run_seated x s origin n many rising only over run inside =
      let b = bound (combined (number (difference n (pos 1))) (pos 1) origin) (λ last. Some (record { lower = origin ∷ []; upper = last ∷ [] })) s run in
      let means = combined-means (number (difference n (pos 1))) (pos 1) origin b.value b.is in
      let less = one_less n many (within_limits-constant (number (difference n (pos 1))) means.first) in
      let count : n -ℤ pos 1 ≡ pos (places_count n) -ℤ pos 1 = ap (λ (z : ℤ). z -ℤ pos 1) (sym (counted_is n many)) in
      let last : b.value ≡ raised origin (pos (places_count n) -ℤ pos 1) =
      means.is ∙ plus_number (difference n (pos 1)) origin rising ∙ ap (raised origin) (less ∙ count) in
      let is : s ≡ seats origin (places_count n) =
      sym (same (record { lower = origin ∷ []; upper = b.value ∷ [] }) s b.comes) ∙ ap (λ (f : Form). record { lower = origin ∷ []; upper = f ∷ [] }) last in
      sym (same_inside x (seats origin (places_count n)) over ((only, tt), (only, tt))) ∙ sym (ap (span_inside small x) is) ∙ inside

  -- what is fetched of a dimension has places, where the lower forms of what is needed are canonical
  pub part_seated : (ss : List SiteText) (d : ℕ) (e : Extent) → IsExtent e → SpanOnly (Below (length grid)) (part_of small ss d e).span →
      PlaceOnly (Below (length grid)) (part_of small ss d e).places →
      ((s : Span1) → needed_span small ss d ≡ Some s → LowRises (cut s e)) → is_seated_in large (part_of small ss d e).span (part_of small ss d e).places ≡ true
  part_seated ss d e extent over seated_over rising = of (tight small ss d e) refl over seated_over
    where
      of : (o : Option Part) → tight small ss d e ≡ o → SpanOnly (Below (length grid)) (or_all e o).span → PlaceOnly (Below (length grid)) (or_all e o).places →
          is_seated_in large (or_all e o).span (or_all e o).places ≡ true
      of None q x y = all_seated large e extent
      of (Some p) q x y =
          let b = bound (needed_part small ss d e) (seated small ss d) p q in
          let z = bound (needed_span small ss d) (λ s. Some (cut s e)) b.value b.is in
          let low : LowRises b.value = subst LowRises (same (cut z.value e) b.value z.comes) (rising z.value z.is) in
          let s = b.value in
          let c = bound (shortest small s) (λ b. slice_get s.lower b.0 >>= λ origin. run_of origin b.1 >>= λ seats. shown small ss d s origin b.1 seats) p b.comes in
          let f = bound (slice_get s.lower c.value.0) (λ origin. run_of origin c.value.1 >>= λ seats. shown small ss d s origin c.value.1 seats) p c.comes in
          let w = bound (run_of f.value c.value.1) (λ seats. shown small ss d s f.value c.value.1 seats) p f.comes in
          let many : pos 1 ≤ℤ c.value.1 = shortest_many small s.upper 0 s.lower None (λ r i. absurd (cc i)) c.value c.is in
          by s w.value f.value c.value.1 many (rise_at s.lower c.value.0 f.value low f.is) w.is (is_shown small ss d s w.value) refl w.comes x y
        where
          rise_at : (fs : List Form) (k : ℕ) (f : Form) → AllRise fs → slice_get fs k ≡ Some f → Rises f
          rise_at [] k f a i = absurd (cc i)
          rise_at (g ∷ fs) zero f a i = subst Rises (same g f i) a.0
          rise_at (g ∷ fs) (suc k) f a i = rise_at fs k f a.1 i

          last_test : (s t : Span1) → is_shown small ss d s t ≡ true → span_inside small s t ≡ true
          last_test s t h = two (hold_calls ss d s) (hold_calls ss d t) (span_inside small s t) h
            where
              two : (a b c : Bool) → (if a then (if b then c else false) else false) ≡ true → c ≡ true
              two true true c h = h
              two true false c h = absurd (cc h)
              two false b c h = absurd (cc h)

          by : (s t : Span1) (origin : Form) (n : ℤ) → pos 1 ≤ℤ n → Rises origin → run_of origin n ≡ Some t → (v : Bool) → is_shown small ss d s t ≡ v →
              (if v then Some (record { span = s; places = From origin (places_count n) }) else None) ≡ Some p → SpanOnly (Below (length grid)) p.span → PlaceOnly (Below (length grid)) p.places →
              is_seated_in large p.span p.places ≡ true
          by s t origin n many rising run true right i x y =
              let is = same (record { span = s; places = From origin (places_count n) }) p i in
              let over : SpanOnly (Below (length grid)) s = subst (λ (q : Part). SpanOnly (Below (length grid)) q.span) (sym is) x in
              let only : Only (Below (length grid)) origin = subst (λ (q : Part). PlaceOnly (Below (length grid)) q.places) (sym is) y in
              subst (λ (q : Part). is_seated_in large q.span q.places ≡ true) is (run_seated s t origin n many rising only over run (last_test s t right))
          by s t origin n many rising run false wrong i x y = absurd (cc i)
