-- Where there are numbers of each loop, the ends of what an index stays within are in their order: its value, where each symbol is its loop's first number, is between them.
use Rattle.std.proofs.Common.{◌≡◌, ℕ, zero, suc, ◌≤◌, Bool, true, false, List, [], ◌∷◌, ◌++◌, length, map}
use Rattle.std.proofs.Common.{Option, Some, None, refl, sym, ap, subst, ◌∙◌, inl, inr, arith}
use Rattle.std.proofs.lemmas.Int.{ints}
use Rattle.std.proofs.lemmas.List.Elements.{All-cons, All-nil}
use Rattle.std.specs.List.{All, AllByRecursion}
use Rattle.std.specs.Prelude.{ℤ, pos, negsuc, ◌+ℤ◌, ◌*ℤ◌, ◌≤ℤ◌, int_le, is_some, if◌then◌else◌, slice_get}
use Rattle.std.specs.Int.RustNames.{unsigned_abs}
use Rattle.numeric.specs.declared.ty.Ty.{Ty}
use Rattle.numeric.specs.declared.ty.Ty.TheVariants.{U8, U16, U32, I8, I16, I32}
use Rattle.numeric.specs.Wrap.{IsOf}
use Rattle.tree.specs.declared.value.Value.{Value}
use Rattle.tree.specs.Term.{Terms, End, More}
use Rattle.tree.specs.Names.{IsIndex, called_type}
use Rattle.tree.specs.Typing.{type_of, is_index, are_indices}
use Rattle.lin.specs.Forms.{Form, number, sum_of, value_of as form_value}
use Rattle.lin.specs.declared.form.Multiple.{Multiple}
use Rattle.lin.specs.Spans.{HoldsIn, Holds, IsInSpan, IsInRegion, IsLeast}
use Rattle.lin.specs.declared.scope.Binding.{Binding}
use Rattle.lin.specs.declared.scope.Binding.TheVariants.{Loop, LetMin, LetMax}
use Rattle.lin.specs.declared.span.Span1.{Span1}
use Rattle.bounds.specs.Spans.{numbers}
use Rattle.bounds.specs.Projection.Projection.{projected_span}
use Rattle.bounds.proofs.ProjectionSound.{span-holds}
use Rattle.meaning.specs.Algorithm.{Algorithm}
use Rattle.meaning.specs.Names.{same_name}
use Rattle.meaning.specs.Conditions.{AreDistinct}
use Rattle.meaning.proofs.InliningTyped.{both_true, index-is}
use Rattle.soundness.specs.Obligations.{anything}
use Rattle.soundness.proofs.Refines.{name_refl, name_true}
use Rattle.sched.specs.Called.{called}
use Rattle.lower.specs.Held.{AreTyped}
use Rattle.sched.specs.Around.{exactly}
use Rattle.regions.specs.Regions.{ends_between, ends_of, greater, less, number_of, greatest_number, least_number, are_within}
use Rattle.sched.specs.Regions.{symbols_from}
use Rattle.blocks.proofs.Laying.{bound, same}
use Rattle.lower.proofs.Reached.{none_is}
use Rattle.completeness.proofs.Standing.{Taken}
use Rattle.completeness.proofs.Boxes.{IsCapped, IsLet, IsBox, AreBoxes}

abbrev Ends : Type 0
Ends = Taken _ _ are_within

-- ---- the ends of a span

number_value : (ts : List Multiple) (k c : ℤ) (v : ℕ → ℤ) → (elim ts [ [] ↦ Some k | t ∷ us ↦ None ]) ≡ Some c → form_value (record { constant = k; terms = ts }) v ≡ c
number_value [] k c v h = let is = same k c h in omega (arith, ints, is)
number_value (t ∷ us) k c v h = absurd (no c h)
  where
    no : (q : ℤ) → None ≡ Some q → ⊥
    no q i = cc

number_is : (f : Form) (c : ℤ) (v : ℕ → ℤ) → number_of f ≡ Some c → form_value f v ≡ c
number_is f c v h = number_value f.terms f.constant c v h

under : (o p : Option ℤ) (c z : ℤ) → ((q : ℤ) → o ≡ Some q → q ≤ℤ z) → ((q : ℤ) → p ≡ Some q → q ≤ℤ z) → greater o p ≡ Some c → c ≤ℤ z
under None p c z ho hp h = hp c h
under (Some a) None c z ho hp h = ho c h
under (Some a) (Some b) c z ho hp h = by (int_le b a) h
  where
    by : (t : Bool) → (if t then Some a else Some b) ≡ Some c → c ≤ℤ z
    by true q = ho c q
    by false q = hp c q

above : (o p : Option ℤ) (c z : ℤ) → ((q : ℤ) → o ≡ Some q → z ≤ℤ q) → ((q : ℤ) → p ≡ Some q → z ≤ℤ q) → less o p ≡ Some c → z ≤ℤ c
above None p c z ho hp h = hp c h
above (Some a) None c z ho hp h = ho c h
above (Some a) (Some b) c z ho hp h = by (int_le a b) h
  where
    by : (t : Bool) → (if t then Some a else Some b) ≡ Some c → z ≤ℤ c
    by true q = ho c q
    by false q = hp c q

at_least_lowers : (fs : List Form) (v : ℕ → ℤ) (z c : ℤ) → All (λ f. form_value f v ≤ℤ z) fs → greatest_number fs ≡ Some c → c ≤ℤ z
at_least_lowers [] v z c all h = absurd (none_is c h)
at_least_lowers (f ∷ fs) v z c all h =
    under (number_of f) (greatest_number fs) c z (λ q e. subst (λ (n : ℤ). n ≤ℤ z) (number_is f q v e) (all 0 f (omega arith)))
    (λ q e. at_least_lowers fs v z q (λ k d lt. all (suc k) d (omega (arith, lt))) e) h

at_most_uppers : (fs : List Form) (v : ℕ → ℤ) (z c : ℤ) → All (λ f. z ≤ℤ form_value f v) fs → least_number fs ≡ Some c → z ≤ℤ c
at_most_uppers [] v z c all h = absurd (none_is c h)
at_most_uppers (f ∷ fs) v z c all h =
    above (number_of f) (least_number fs) c z (λ q e. subst (λ (n : ℤ). z ≤ℤ n) (number_is f q v e) (all 0 f (omega arith)))
    (λ q e. at_most_uppers fs v z q (λ k d lt. all (suc k) d (omega (arith, lt))) e) h

between_both : (o p : Option ℤ) (e : Ends) → ends_between o p ≡ Some e → (o ≡ Some e.low) × (p ≡ Some e.high)
between_both None p e h = absurd (cc h)
between_both (Some a) None e h = absurd (cc h)
between_both (Some a) (Some b) e h = (let is = same (record { low = a; high = b }) e h in (ap (λ (q : Ends). Some q.low) is, ap (λ (q : Ends). Some q.high) is))

-- a number of a span lies between its ends
pub ends_hold : (scope : List Binding) (s : Span1) (e : Ends) (v : ℕ → ℤ) (z : ℤ) → ends_of scope s ≡ Some e → HoldsIn scope v → IsInSpan s v z → (e.low ≤ℤ z) × (z ≤ℤ e.high)
ends_hold scope s e v z found fits lies =
    let b = bound (projected_span scope (symbols_from 0 (length scope)) s) (λ p. ends_between (greatest_number p.lower) (least_number p.upper)) e found in
    let ends = between_both (greatest_number b.value.lower) (least_number b.value.upper) e b.comes in
    let in_it : IsInSpan b.value v z = span-holds scope (symbols_from 0 (length scope)) s b.value b.is v v z fits (λ n i. refl) lies in
    (at_least_lowers b.value.lower v z e.low in_it.0 ends.0, at_most_uppers b.value.upper v z e.high in_it.1 ends.1)

-- ---- the first numbers of loops

abbrev pub first_of : Option Binding → ℤ
first_of None = pos 0
first_of (Some (Loop x)) = elim x.lower [ [] ↦ pos 0 | f ∷ fs ↦ f.constant ]
first_of (Some (LetMin fs)) = elim fs [ [] ↦ pos 0 | f ∷ gs ↦ f.constant ]
first_of (Some (LetMax fs)) = pos 0

abbrev pub firsts : List Binding → ℕ → ℤ
firsts scope n = first_of (slice_get scope n)

anything_holds : (v : ℕ → ℤ) (z : ℤ) → IsInSpan anything v z
anything_holds v z = (All-nil (λ f. form_value f v ≤ℤ z), All-nil (λ f. z ≤ℤ form_value f v))

pub between : (low last z : ℤ) (v : ℕ → ℤ) → low ≤ℤ z → z ≤ℤ last → IsInSpan (numbers low last) v z
between low last z v from to = (
  All-cons (λ f. form_value f v ≤ℤ z) (number low) [] (omega (arith, ints, from)) (All-nil (λ f. form_value f v ≤ℤ z)),
  All-cons (λ f. z ≤ℤ form_value f v) (number last) [] (omega (arith, ints, to)) (All-nil (λ f. z ≤ℤ form_value f v)),
)

pub at_form : (f : Form) (v : ℕ → ℤ) → IsInSpan (exactly f) v (form_value f v)
at_form f v =
    let z : ℤ = form_value f v in (
      All-cons (λ g. form_value g v ≤ℤ z) f [] (itself z) (All-nil (λ g. form_value g v ≤ℤ z)),
      All-cons (λ g. z ≤ℤ form_value g v) f [] (itself z) (All-nil (λ g. z ≤ℤ form_value g v)),
    )
  where
    itself : (z : ℤ) → z ≤ℤ z
    itself z = omega (arith, ints)

-- of a loop with a further upper form the other loop's first number is 0
capped_holds : (scope : List Binding) (x : Span1) → IsCapped scope x → IsInSpan x (firsts scope) (pos 0)
capped_holds scope x k =
    let v = firsts scope in
    let zero_there : v k.symbol ≡ pos 0 = ap first_of k.outer in
    let f : Form = record { constant = pos k.most; terms = record { symbol = k.symbol; factor = negsuc k.factor } ∷ [] } in
    let value : form_value f v ≡ pos k.most = (λ j. pos k.most +ℤ (negsuc k.factor *ℤ zero_there j +ℤ pos 0)) ∙ nothing (pos k.most) (negsuc k.factor) in
    let above : pos 0 ≤ℤ form_value f v = subst (λ (z : ℤ). pos 0 ≤ℤ z) (sym value) (omega (arith, ints)) in
    subst (λ (y : Span1). IsInSpan y v (pos 0)) (sym k.is) (
      All-cons (λ g. form_value g v ≤ℤ pos 0) (number (pos 0)) [] (omega (arith, ints)) (All-nil (λ g. form_value g v ≤ℤ pos 0)),
      All-cons (λ g. pos 0 ≤ℤ form_value g v) (number (pos k.last)) (f ∷ []) (omega (arith, ints))
          (All-cons (λ g. pos 0 ≤ℤ form_value g v) f [] above (All-nil (λ g. pos 0 ≤ℤ form_value g v))),
    )
  where
    nothing : (p q : ℤ) → p +ℤ (q *ℤ pos 0 +ℤ pos 0) ≡ p
    nothing p q = omega (arith, ints)

-- of a let the form's first number, over loops whose first number is 0
let_holds : (scope : List Binding) (fs : List Form) (k : IsLet scope fs) → IsLeast (k.form ∷ number k.last ∷ []) (firsts scope) k.form.constant
let_holds scope fs k =
    let v = firsts scope in
    let value : form_value k.form v ≡ k.form.constant = of k.form.terms k.over in
    let least = k.least in (
      All-cons (λ g. k.form.constant ≤ℤ form_value g v) k.form (number k.last ∷ []) (omega (arith, ints, value))
          (All-cons (λ g. k.form.constant ≤ℤ form_value g v) (number k.last) [] (omega (arith, ints, least)) (All-nil (λ g. k.form.constant ≤ℤ form_value g v))),
      (0, k.form, omega arith, refl, value),
    )
  where
    of : (ts : List Multiple) → AllByRecursion (λ (t : Multiple). (x : Span1) × (slice_get scope t.symbol ≡ Some (Loop x)) × (x.lower ≡ number (pos 0) ∷ [])) ts →
        form_value (record { constant = k.form.constant; terms = ts }) (firsts scope) ≡ k.form.constant
    of [] h = none_more k.form.constant
      where
        none_more : (z : ℤ) → z +ℤ pos 0 ≡ z
        none_more z = omega (arith, ints)
    of (t ∷ ts) h =
        let zero_there : firsts scope t.symbol ≡ pos 0 = ap first_of h.0.1 ∙ ap (λ (fs : List Form). elim fs [ [] ↦ pos 0 | f ∷ gs ↦ f.constant ]) h.0.2 in
        let rest = of ts h.1 in
        (λ j. k.form.constant +ℤ (t.factor *ℤ zero_there j +ℤ sum_of ts (firsts scope))) ∙ no_time k.form.constant t.factor (sum_of ts (firsts scope)) ∙ rest
      where
        no_time : (z f y : ℤ) → z +ℤ (f *ℤ pos 0 +ℤ y) ≡ z +ℤ y
        no_time z f y = omega (arith, ints)

first_holds : (scope : List Binding) (b : Binding) → IsBox scope b → Holds b (first_of (Some b)) (firsts scope)
first_holds scope (Loop x) (inl is) =
    subst (λ (y : Span1). IsInSpan y (firsts scope) (first_of (Some (Loop x)))) (sym is) (anything_holds (firsts scope) (first_of (Some (Loop x))))
first_holds scope (Loop x) (inr (inl k)) =
    let low = k.0 in
    let last = k.1 in
    let from : low ≤ℤ low = omega (arith, ints) in
    subst (λ (y : Span1). IsInSpan y (firsts scope) (first_of (Some (Loop y)))) (sym k.2) (between low last low (firsts scope) from k.3)
first_holds scope (Loop x) (inr (inr k)) =
    let zero_first : first_of (Some (Loop x)) ≡ pos 0 = ap (λ (y : Span1). first_of (Some (Loop y))) k.is in
    subst (λ (z : ℤ). IsInSpan x (firsts scope) z) (sym zero_first) (capped_holds scope x k)
first_holds scope (LetMin fs) k = subst (λ (gs : List Form). IsLeast gs (firsts scope) (first_of (Some (LetMin gs)))) (sym k.is) (let_holds scope fs k)
first_holds scope (LetMax fs) box = absurd box

module _ (scope : List Binding) (boxes : AreBoxes scope) where
  pub firsts_hold : HoldsIn scope (firsts scope)
  firsts_hold = λ n b at. subst (λ (o : Option Binding). Holds b (first_of o) (firsts scope)) (sym at) (first_holds scope b (boxes n b at))

-- ---- coordinates

abbrev pub number_at : (ℕ → ℤ) → Option Form → ℤ
number_at v None = pos 0
number_at v (Some f) = form_value f v

pub index_near : (z : ℤ) → unsigned_abs z ≤ 147456 → IsIndex z
index_near z h = record { from = omega (arith, ints, h); to = omega (arith, ints, h) }

pub behind : (ss : List Span1) (zs : List ℤ) (s : Span1) (z : ℤ) (v : ℕ → ℤ) → IsInRegion ss v zs → IsInSpan s v z → IsInRegion (ss ++ s ∷ []) v (zs ++ z ∷ [])
behind [] [] s z v h k = (k, tt)
behind [] (y ∷ zs) s z v h k = absurd h
behind (t ∷ ss) [] s z v h k = absurd h
behind (t ∷ ss) (y ∷ zs) s z v h k = (h.0, behind ss zs s z v h.1 k)

-- ---- by names

abbrev pub named : List (List ℕ) → List ℤ → List ℕ → ℤ
named [] zs x = pos 0
named (y ∷ ys) [] x = pos 0
named (y ∷ ys) (z ∷ zs) x = if same_name y x then z else named ys zs x

pub named_index : (xs : List (List ℕ)) (zs : List ℤ) (x : List ℕ) → AllByRecursion IsIndex zs → IsIndex (named xs zs x)
named_index [] zs x h = index_near (pos 0) (omega arith)
named_index (y ∷ ys) [] x h = index_near (pos 0) (omega arith)
named_index (y ∷ ys) (z ∷ zs) x h = of (same_name y x) (named_index ys zs x h.1)
  where
    of : (b : Bool) → IsIndex (named ys zs x) → IsIndex (if b then z else named ys zs x)
    of true k = h.0
    of false k = k

pub apart_later : (y : List ℕ) (ys : List (List ℕ)) → AreDistinct (y ∷ ys) → AreDistinct ys
apart_later y ys h = λ i j x at there. let e : suc i ≡ suc j = h (suc i) (suc j) x at there in omega (arith, e)

pub named_at : (xs : List (List ℕ)) (zs : List ℤ) (i : ℕ) (x : List ℕ) (z : ℤ) → AreDistinct xs → slice_get xs i ≡ Some x → slice_get zs i ≡ Some z → named xs zs x ≡ z
named_at [] zs i x z apart at there = absurd (cc at)
named_at (y ∷ ys) [] i x z apart at there = absurd (cc there)
named_at (y ∷ ys) (w ∷ zs) zero x z apart at there =
    let is : y ≡ x = same y x at in
    let yes : same_name y x ≡ true = ap (λ (u : List ℕ). same_name u x) is ∙ name_refl x in
    ap (λ (b : Bool). if b then w else named ys zs x) yes ∙ same w z there
named_at (y ∷ ys) (w ∷ zs) (suc i) x z apart at there = of (same_name y x) refl (named_at ys zs i x z (apart_later y ys apart) at there)
  where
    of : (b : Bool) → same_name y x ≡ b → named ys zs x ≡ z → (if b then w else named ys zs x) ≡ z
    of true e rest =
        let first : Some y ≡ Some x = ap (λ (u : List ℕ). Some u) (name_true y x e) in
        let clash : 0 ≡ suc i = apart 0 (suc i) x first at in
        absurd (omega (arith, clash))
    of false e rest = rest

pub same_lists : {A B : Type 0} (g : A → B) (xs : List A) (ys : List B) → length xs ≡ length ys → ((i : ℕ) (x : A) (y : B) → slice_get xs i ≡ Some x → slice_get ys i ≡ Some y → g x ≡ y) →
    map g xs ≡ ys
same_lists g [] [] long h = refl
same_lists g [] (y ∷ ys) long h = absurd (omega (arith, long))
same_lists g (x ∷ xs) [] long h = absurd (omega (arith, long))
same_lists g (x ∷ xs) (y ∷ ys) long h =
    let here = h 0 x y refl refl in
    let rest = same_lists g xs ys (omega (arith, long)) (λ i u w at there. h (suc i) u w at there) in
    λ i. here i ∷ rest i

-- ---- answers

pub zero_is : (t : Ty) → IsOf t (pos 0)
zero_is U8 = record { from = omega (arith, ints); to = omega (arith, ints) }
zero_is U16 = record { from = omega (arith, ints); to = omega (arith, ints) }
zero_is U32 = record { from = omega (arith, ints); to = omega (arith, ints) }
zero_is I8 = record { from = omega (arith, ints); to = omega (arith, ints) }
zero_is I16 = record { from = omega (arith, ints); to = omega (arith, ints) }
zero_is I32 = record { from = omega (arith, ints); to = omega (arith, ints) }

abbrev pub nothing : Algorithm → List ℕ → List ℤ → Value
nothing a name at = record { ty = called_type (called a name); number = pos 0 }

-- ---- the order

pub some_typed : (known : List ℕ → Bool) (functions : List ℕ → Option (Ty × ℕ)) (es : Terms) → are_indices known functions es ≡ true → AreTyped known functions es
some_typed known functions End h = tt
some_typed known functions (More e es) h =
    let k = both_true (is_index (type_of known functions e)) (are_indices known functions es) h in
    (ap is_some (index-is (type_of known functions e) k.0), some_typed known functions es k.1)
