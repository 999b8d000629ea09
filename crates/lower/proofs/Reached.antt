-- The region that is needed of a function holds each point that a later function calls of it.
use Rattle.std.proofs.Common.{◌≡◌, ℕ, zero, suc, ◌+◌, ◌<◌, Bool, true, false, List, [], ◌∷◌, length, map, Option, Some, None, IsSome, refl, sym, ap, subst, ◌∙◌, arith}
use Rattle.std.proofs.lemmas.Bool.{ltb-false}
use Rattle.std.proofs.lemmas.Int.{ints}
use Rattle.std.proofs.lemmas.List.{length-set}
use Rattle.std.proofs.lemmas.List.Elements.{All-cons, All-nil}
use Rattle.std.proofs.lemmas.Option.{slice_get_within}
use Rattle.std.specs.List.{All}
use Rattle.std.specs.Prelude.{ℤ, pos, negsuc, ◌||◌, ◌+ℤ◌, ◌-ℤ◌, ◌≤ℤ◌, int_le, nat_lt, if◌then◌else◌, get_or, slice_set, slice_get}
use Rattle.tree.specs.declared.value.Value.{Value}
use Rattle.tree.specs.Term.{Term, Terms, End, More}
use Rattle.tree.specs.Meaning.{value_of, numbers_of}
use Rattle.tree.specs.Names.{AreAsTold}
use Rattle.tree.specs.Typing.{type_of}
use Rattle.lin.specs.Forms.{Form, number, value_of as form_value}
use Rattle.lin.specs.declared.form.Multiple.{Multiple}
use Rattle.lin.specs.Spans.{HoldsIn, IsInSpan, IsInRegion}
use Rattle.lin.specs.declared.scope.Binding.{Binding}
use Rattle.lin.specs.declared.span.Span1.{Span1}
use Rattle.bounds.specs.Spans as spans
use Rattle.bounds.specs.Projection.Projection.{projected_span}
use Rattle.bounds.proofs.IntervalSound.{contains}
use Rattle.bounds.proofs.ProjectionSound.{span-holds}
use Rattle.meaning.specs.Algorithm.{Algorithm}
use Rattle.meaning.specs.Names.{same_name}
use Rattle.algo.specs.Scoping.Standing.{Written}
use Rattle.sched.specs.declared.numbers.Extent.{Extent}
use Rattle.sched.specs.Skeleton.{NestText, SkeletonText}
use Rattle.sched.specs.Standing.{◌>>=◌}
use Rattle.regions.specs.declared.regions.Ends.{Ends}
use Rattle.sched.specs.Called.{called}
use Rattle.sched.specs.Stored.{FormulaText, StoredText, calls_in, are_calls_of}
use Rattle.regions.specs.Stored.{some_calls}
use Rattle.sched.specs.Around.{AroundText, interval_in, head_scope, around}
use Rattle.sched.specs.Regions.{LaidText, symbols_from, counts, count_of}
use Rattle.regions.specs.Regions.{ends_between, ends_of, greater, less, number_of, greatest_number, least_number, hull, widen, add_index, add_counted, add_call, add_calls, add_place}
use Rattle.regions.specs.Regions.{add_left, add_definition, add_definitions, add_own, add_all_own, are_within, extent_between, may_have, extent_of, region_of, same_region, skeleton_of}
use Rattle.regions.specs.Regions.{over, closed, laid_over, add_laid, add_formulas, add_user, add_users, add_extents, add_output, unreached, reach_of, laid_by, laid_within, laid_functions}
use Rattle.sched.specs.Bounded.{whole}
use Rattle.lower.specs.Held.{AreTyped, CallsAt, OutputHoldsExtents, RegionsHoldCalls}
use Rattle.blocks.proofs.Laying.{bound, same}

-- ---- what is reached, and what is reached after it

-- a number lies between the ends of this place
pub record Reaches (reach : List (Option Ends)) (d : ℕ) (z : ℤ) : Type 0 where
  pub ends : Ends
  pub is : slice_get reach d ≡ Some (Some ends)
  pub low : ends.low ≤ℤ z
  pub high : z ≤ℤ ends.high

-- there are as many places, and what lies in one lies in it later
pub record Grows (xs ys : List (Option Ends)) : Type 0 where
  pub as_many : length xs ≡ length ys
  pub keeps : (d : ℕ) (z : ℤ) → Reaches xs d z → Reaches ys d z

stay : (xs : List (Option Ends)) → Grows xs xs
stay xs = record { as_many = refl; keeps = λ d z h. h }

pub after : (xs ys zs : List (Option Ends)) → Grows xs ys → Grows ys zs → Grows xs zs
after xs ys zs g h = record { as_many = g.as_many ∙ h.as_many; keeps = λ d z r. h.keeps d z (g.keeps d z r) }

pub if_some : (xs ys zs : List (Option Ends)) → Grows xs ys → Some ys ≡ Some zs → Grows xs zs
if_some xs ys zs g e = subst (Grows xs) (same ys zs e) g

first_low : (b : Bool) (x y : ℤ) → int_le x y ≡ b → (if b then x else y) ≤ℤ x
first_low true x y e = omega (arith, ints)
first_low false x y e = omega (arith, ints, e)

second_low : (b : Bool) (x y : ℤ) → int_le x y ≡ b → (if b then x else y) ≤ℤ y
second_low true x y e = omega (arith, ints, e)
second_low false x y e = omega (arith, ints)

first_high : (b : Bool) (x y : ℤ) → int_le y x ≡ b → x ≤ℤ (if b then x else y)
first_high true x y e = omega (arith, ints)
first_high false x y e = omega (arith, ints, e)

second_high : (b : Bool) (x y : ℤ) → int_le y x ≡ b → y ≤ℤ (if b then x else y)
second_high true x y e = omega (arith, ints, e)
second_high false x y e = omega (arith, ints)

at_most : (x y z : ℤ) → x ≤ℤ y → y ≤ℤ z → x ≤ℤ z
at_most x y z h k = omega (arith, ints, h, k)

-- the hull of what is there holds both
hull_old : (x : Option Ends) (e : Ends) (z : ℤ) (ends : Ends) → Some x ≡ Some (Some ends) → ends.low ≤ℤ z → z ≤ℤ ends.high
    → ((hull x e).low ≤ℤ z) × (z ≤ℤ (hull x e).high)
hull_old None e z ends h low high = absurd (not_there (same None (Some ends) h))
  where
    not_there : None ≡ Some ends → ⊥
    not_there q = cc
hull_old (Some k) e z ends h low high =
    let is : k ≡ ends = same k ends (same (Some k) (Some ends) h) in
    let from : k.low ≤ℤ z = subst (λ (q : Ends). q.low ≤ℤ z) (sym is) low in
    let to : z ≤ℤ k.high = subst (λ (q : Ends). z ≤ℤ q.high) (sym is) high in
    (at_most _ _ _ (first_low (int_le k.low e.low) k.low e.low refl) from, at_most _ _ _ to (first_high (int_le e.high k.high) k.high e.high refl))

hull_new : (x : Option Ends) (e : Ends) (z : ℤ) → e.low ≤ℤ z → z ≤ℤ e.high → ((hull x e).low ≤ℤ z) × (z ≤ℤ (hull x e).high)
hull_new None e z low high = (low, high)
hull_new (Some k) e z low high =
    (at_most _ _ _ (second_low (int_le k.low e.low) k.low e.low refl) low, at_most _ _ _ high (second_high (int_le e.high k.high) k.high e.high refl))

set_keeps : (xs : List (Option Ends)) (d : ℕ) (e : Ends) (k : ℕ) (z : ℤ) → Reaches xs k z → Reaches (slice_set xs d (Some (hull (get_or xs d None) e))) k z
set_keeps [] d e k z h = absurd (none_there h.ends h.is)
  where
    none_there : (q : Ends) → None ≡ Some (Some q) → ⊥
    none_there q i = cc
set_keeps (x ∷ xs) zero e zero z h = let both = hull_old x e z h.ends h.is h.low h.high in record { ends = hull x e; is = refl; low = both.0; high = both.1 }
set_keeps (x ∷ xs) zero e (suc k) z h = record { ends = h.ends; is = h.is; low = h.low; high = h.high }
set_keeps (x ∷ xs) (suc d) e zero z h = record { ends = h.ends; is = h.is; low = h.low; high = h.high }
set_keeps (x ∷ xs) (suc d) e (suc k) z h =
    let r = set_keeps xs d e k z (record { ends = h.ends; is = h.is; low = h.low; high = h.high }) in
    record { ends = r.ends; is = r.is; low = r.low; high = r.high }

set_reaches : (xs : List (Option Ends)) (d : ℕ) (e : Ends) (z : ℤ) → d < length xs → e.low ≤ℤ z → z ≤ℤ e.high → Reaches (slice_set xs d (Some (hull (get_or xs d None) e))) d z
set_reaches [] d e z lt low high = absurd (omega (arith, lt))
set_reaches (x ∷ xs) zero e z lt low high = let both = hull_new x e z low high in record { ends = hull x e; is = refl; low = both.0; high = both.1 }
set_reaches (x ∷ xs) (suc d) e z lt low high =
    let r = set_reaches xs d e z (omega (arith, lt)) low high in record { ends = r.ends; is = r.is; low = r.low; high = r.high }

abbrev put_in : Bool → List (Option Ends) → ℕ → Ends → List (Option Ends)
put_in b reach d e = if b then slice_set reach d (Some (hull (get_or reach d None) e)) else reach

put_grows : (b : Bool) (reach : List (Option Ends)) (d : ℕ) (e : Ends) → Grows reach (put_in b reach d e)
put_grows true reach d e = record { as_many = sym (length-set reach d (Some (hull (get_or reach d None) e))); keeps = λ k z h. set_keeps reach d e k z h }
put_grows false reach d e = stay reach

widen_grows : (reach : List (Option Ends)) (d : ℕ) (e : Ends) → Grows reach (widen reach d e)
widen_grows reach d e = put_grows (nat_lt d (length reach)) reach d e

put_reaches : (b : Bool) (reach : List (Option Ends)) (d : ℕ) (e : Ends) (z : ℤ) → nat_lt d (length reach) ≡ b → d < length reach → e.low ≤ℤ z → z ≤ℤ e.high → Reaches (put_in b reach d e) d z
put_reaches true reach d e z is lt low high = set_reaches reach d e z lt low high
put_reaches false reach d e z is lt low high = let past = ltb-false d (length reach) is in absurd (omega (arith, past, lt))

-- ---- the ends of a span

number_value : (ts : List Multiple) (k c : ℤ) (v : ℕ → ℤ) → (elim ts [ [] ↦ Some k | t ∷ us ↦ None ]) ≡ Some c → form_value (record { constant = k; terms = ts }) v ≡ c
number_value [] k c v h = let is = same k c h in omega (arith, ints, is)
number_value (t ∷ us) k c v h = absurd (no c h)
  where
    no : (q : ℤ) → None ≡ Some q → ⊥
    no q i = cc

number_is : (f : Form) (c : ℤ) (v : ℕ → ℤ) → number_of f ≡ Some c → form_value f v ≡ c
number_is f c v h = number_value f.terms f.constant c v h

-- the greater of some numbers that are at most z is at most z
under : (o p : Option ℤ) (c z : ℤ) → ((q : ℤ) → o ≡ Some q → q ≤ℤ z) → ((q : ℤ) → p ≡ Some q → q ≤ℤ z) → greater o p ≡ Some c → c ≤ℤ z
under None p c z ho hp h = hp c h
under (Some a) None c z ho hp h = ho c h
under (Some a) (Some b) c z ho hp h = by (int_le b a) h
  where
    by : (t : Bool) → (if t then Some a else Some b) ≡ Some c → c ≤ℤ z
    by true q = ho c q
    by false q = hp c q

above : (o p : Option ℤ) (c z : ℤ) → ((q : ℤ) → o ≡ Some q → z ≤ℤ q) → ((q : ℤ) → p ≡ Some q → z ≤ℤ q) → less o p ≡ Some c → z ≤ℤ c
above None p c z ho hp h = hp c h
above (Some a) None c z ho hp h = ho c h
above (Some a) (Some b) c z ho hp h = by (int_le a b) h
  where
    by : (t : Bool) → (if t then Some a else Some b) ≡ Some c → z ≤ℤ c
    by true q = ho c q
    by false q = hp c q

pub none_is : (c : ℤ) → None ≡ Some c → ⊥
none_is c h = cc

at_least_lowers : (fs : List Form) (v : ℕ → ℤ) (z c : ℤ) → All (λ f. form_value f v ≤ℤ z) fs → greatest_number fs ≡ Some c → c ≤ℤ z
at_least_lowers [] v z c all h = absurd (none_is c h)
at_least_lowers (f ∷ fs) v z c all h =
    under (number_of f) (greatest_number fs) c z (λ q e. subst (λ (n : ℤ). n ≤ℤ z) (number_is f q v e) (all 0 f (omega arith)))
    (λ q e. at_least_lowers fs v z q (λ k d lt. all (suc k) d (omega (arith, lt))) e) h

at_most_uppers : (fs : List Form) (v : ℕ → ℤ) (z c : ℤ) → All (λ f. z ≤ℤ form_value f v) fs → least_number fs ≡ Some c → z ≤ℤ c
at_most_uppers [] v z c all h = absurd (none_is c h)
at_most_uppers (f ∷ fs) v z c all h =
    above (number_of f) (least_number fs) c z (λ q e. subst (λ (n : ℤ). z ≤ℤ n) (number_is f q v e) (all 0 f (omega arith)))
    (λ q e. at_most_uppers fs v z q (λ k d lt. all (suc k) d (omega (arith, lt))) e) h

between_both : (o p : Option ℤ) (e : Ends) → ends_between o p ≡ Some e → (o ≡ Some e.low) × (p ≡ Some e.high)
between_both None None e h = absurd (no h)
  where
    no : None ≡ Some e → ⊥
    no q = cc
between_both None (Some b) e h = absurd (no h)
  where
    no : None ≡ Some e → ⊥
    no q = cc
between_both (Some a) None e h = absurd (no h)
  where
    no : None ≡ Some e → ⊥
    no q = cc
between_both (Some a) (Some b) e h =
    let is = same (record { low = a; high = b }) e h in (ap (λ (q : Ends). Some q.low) is, ap (λ (q : Ends). Some q.high) is)

-- a number of a span lies between its ends
ends_hold : (scope : List Binding) (s : Span1) (e : Ends) (v : ℕ → ℤ) (z : ℤ) → ends_of scope s ≡ Some e → HoldsIn scope v → IsInSpan s v z → (e.low ≤ℤ z) × (z ≤ℤ e.high)
ends_hold scope s e v z found fits lies =
    let b = bound (projected_span scope (symbols_from 0 (length scope)) s) (λ p. ends_between (greatest_number p.lower) (least_number p.upper)) e found in
    let ends = between_both (greatest_number b.value.lower) (least_number b.value.upper) e b.comes in
    let in_it : IsInSpan b.value v z = span-holds scope (symbols_from 0 (length scope)) s b.value b.is v v z fits (λ n i. refl) lies in
    (at_least_lowers b.value.lower v z e.low in_it.0 ends.0, at_most_uppers b.value.upper v z e.high in_it.1 ends.1)

-- ---- what definitions call

module _ (a : Algorithm) (r : AroundText) where
  grows_index : (d : ℕ) (e : Term) (reach out : List (Option Ends)) → add_index a r d e reach ≡ Some out → Grows reach out
  grows_index d e reach out h =
      let b = bound (interval_in a r e) (λ s. ends_of r.scope s >>= λ ends. Some (widen reach d ends)) out h in
      let c = bound (ends_of r.scope b.value) (λ ends. Some (widen reach d ends)) out b.comes in
      if_some reach (widen reach d c.value) out (widen_grows reach d c.value) c.comes

  grows_if : (b : Bool) (d : ℕ) (e : Term) (reach out : List (Option Ends)) → (if b then add_index a r d e reach else Some reach) ≡ Some out → Grows reach out
  grows_if true d e reach out h = grows_index d e reach out h
  grows_if false d e reach out h = if_some reach reach out (stay reach) h

  grows_call : (own : Option FormulaText) (d : ℕ) (es : Terms) (reach out : List (Option Ends)) → add_call a r own d es reach ≡ Some out → Grows reach out
  grows_call own d End reach out h = if_some reach reach out (stay reach) h
  grows_call own d (More e es) reach out h =
      let b = bound (add_counted a r own d e reach) (add_call a r own (d + 1) es) out h in
      after reach b.value out (grows_if (counts own d) d e reach b.value b.is) (grows_call own (d + 1) es b.value out b.comes)

  grows_named : (b : Bool) (own : Option FormulaText) (es : Terms) (reach out : List (Option Ends)) → (if b then add_call a r own 0 es reach else Some reach) ≡ Some out → Grows reach out
  grows_named true own es reach out h = grows_call own 0 es reach out h
  grows_named false own es reach out h = if_some reach reach out (stay reach) h

  grows_calls : (own : Option FormulaText) (x : List ℕ) (cs : List Written) (reach out : List (Option Ends)) → add_calls a r own x cs reach ≡ Some out → Grows reach out
  grows_calls own x [] reach out h = if_some reach reach out (stay reach) h
  grows_calls own x (c ∷ cs) reach out h =
      let b = bound (if same_name c.name x then add_call a r own 0 c.at reach else Some reach) (add_calls a r own x cs) out h in
      after reach b.value out (grows_named (same_name c.name x) own c.at reach b.value b.is) (grows_calls own x cs b.value out b.comes)

  grows_place : (d : ℕ) (o : Option Term) (reach out : List (Option Ends)) → add_place a r d o reach ≡ Some out → Grows reach out
  grows_place d None reach out h = if_some reach reach out (stay reach) h
  grows_place d (Some e) reach out h = grows_index d e reach out h

  grows_left : (d : ℕ) (os : List (Option Term)) (reach out : List (Option Ends)) → add_left a r d os reach ≡ Some out → Grows reach out
  grows_left d [] reach out h = if_some reach reach out (stay reach) h
  grows_left d (o ∷ os) reach out h =
      let b = bound (add_place a r d o reach) (add_left a r (d + 1) os) out h in
      after reach b.value out (grows_place d o reach b.value b.is) (grows_left (d + 1) os b.value out b.comes)

  module _ (v : ℕ → ℤ) (variables : List ℕ → Bool) (numbers : List ℕ → ℤ) (answers : List ℕ → List ℤ → Value)
      (told : AreAsTold variables (called a) numbers answers) (fits : HoldsIn r.scope v) (within : IsInRegion r.coordinates v (map numbers r.variables)) where
    index_reaches : (d : ℕ) (e : Term) (reach out : List (Option Ends)) → IsSome (type_of variables (called a) e) → d < length reach → add_index a r d e reach ≡ Some out
        → Reaches out d (value_of numbers answers e).number
    index_reaches d e reach out typed lt h =
        let z : ℤ = (value_of numbers answers e).number in
        let b = bound (interval_in a r e) (λ s. ends_of r.scope s >>= λ ends. Some (widen reach d ends)) out h in
        let c = bound (ends_of r.scope b.value) (λ ends. Some (widen reach d ends)) out b.comes in
        let lies : IsInSpan b.value v z = contains r.scope variables (called a) r.variables r.coordinates e b.value b.is typed v numbers answers fits told within in
        let ends = ends_hold r.scope b.value c.value v z c.is fits lies in
        subst (λ (ys : List (Option Ends)). Reaches ys d z) (same (widen reach d c.value) out c.comes)
        (put_reaches (nat_lt d (length reach)) reach d c.value z refl lt ends.0 ends.1)

    call_reaches : (d : ℕ) (es : Terms) (reach out : List (Option Ends)) → AreTyped variables (called a) es → add_call a r None d es reach ≡ Some out
        → (k n : ℕ) (z : ℤ) → slice_get (numbers_of numbers answers es) k ≡ Some z → n ≡ d + k → n < length reach → Reaches out n z
    call_reaches d End reach out typed h k n z at is lt = absurd (none_is z at)
    call_reaches d (More e es) reach out typed h zero n z at is lt =
        let b = bound (add_counted a r None d e reach) (add_call a r None (d + 1) es) out h in
        let here : n ≡ d = omega (arith, is) in
        let first : Reaches b.value d (value_of numbers answers e).number =
        index_reaches d e reach b.value typed.0 (subst (λ (m : ℕ). m < length reach) here lt) b.is in
        let kept : Reaches out d (value_of numbers answers e).number = (grows_call None (d + 1) es b.value out b.comes).keeps d _ first in
        subst (λ (m : ℕ). Reaches out m z) (sym here) (subst (λ (y : ℤ). Reaches out d y) (same (value_of numbers answers e).number z at) kept)
    call_reaches d (More e es) reach out typed h (suc k) n z at is lt =
        let b = bound (add_counted a r None d e reach) (add_call a r None (d + 1) es) out h in
        let many = (grows_index d e reach b.value b.is).as_many in
        call_reaches (d + 1) es b.value out typed.1 b.comes k n z at (omega (arith, is)) (subst (λ (m : ℕ). n < m) many lt)

    calls_reach : (x : List ℕ) (cs : List Written) (reach out : List (Option Ends)) → add_calls a r None x cs reach ≡ Some out
        → (place : ℕ) (c : Written) → slice_get cs place ≡ Some c → same_name c.name x ≡ true → AreTyped variables (called a) c.at
        → (k : ℕ) (z : ℤ) → slice_get (numbers_of numbers answers c.at) k ≡ Some z → k < length reach → Reaches out k z
    calls_reach x [] reach out h place c there named typed k z at lt = absurd (no there)
      where
        no : None ≡ Some c → ⊥
        no q = cc
    calls_reach x (y ∷ cs) reach out h zero c there named typed k z at lt =
        let is : c ≡ y = sym (same y c there) in
        let b = bound (if same_name y.name x then add_call a r None 0 y.at reach else Some reach) (add_calls a r None x cs) out h in
        let yes : same_name y.name x ≡ true = subst (λ (q : Written). same_name q.name x ≡ true) is named in
        let added : add_call a r None 0 y.at reach ≡ Some b.value = sym (ap (λ (t : Bool). if t then add_call a r None 0 y.at reach else Some reach) yes) ∙ b.is in
        let first : Reaches b.value k z = call_reaches 0 y.at reach b.value (subst (λ (q : Written). AreTyped variables (called a) q.at) is typed) added k k z
        (subst (λ (q : Written). slice_get (numbers_of numbers answers q.at) k ≡ Some z) is at) (omega arith) lt in
        (grows_calls None x cs b.value out b.comes).keeps k z first
    calls_reach x (y ∷ cs) reach out h (suc place) c there named typed k z at lt =
        let b = bound (if same_name y.name x then add_call a r None 0 y.at reach else Some reach) (add_calls a r None x cs) out h in
        let many = (grows_named (same_name y.name x) None y.at reach b.value b.is).as_many in
        calls_reach x cs b.value out b.comes place c there named typed k z at (subst (λ (m : ℕ). k < m) many lt)

-- ---- what functions call

module _ (a : Algorithm) (g : StoredText) (outer : List Binding) where
  grows_known : (x : List ℕ) (f : FormulaText) (o : Option AroundText) (reach out : List (Option Ends)) → (o >>= λ r. add_calls a r None x (calls_in f) reach) ≡ Some out → Grows reach out
  grows_known x f o reach out h =
      let b = bound o (λ r. add_calls a r None x (calls_in f) reach) out h in grows_calls a b.value None x (calls_in f) reach out b.comes

  grows_asked : (t : Bool) (x : List ℕ) (f : FormulaText) (o : Option AroundText) (reach out : List (Option Ends))
      → (if t then (o >>= λ r. add_calls a r None x (calls_in f) reach) else Some reach) ≡ Some out → Grows reach out
  grows_asked true x f o reach out h = grows_known x f o reach out h
  grows_asked false x f o reach out h = if_some reach reach out (stay reach) h

  grows_definition : (x : List ℕ) (d : ℕ) (f : FormulaText) (n : NestText) (reach out : List (Option Ends)) → add_definition a g outer x d f n reach ≡ Some out → Grows reach out
  grows_definition x d f n reach out h = grows_asked (are_calls_of x (calls_in f)) x f (around a g outer n f d) reach out h

  grows_definitions : (x : List ℕ) (d : ℕ) (fs : List FormulaText) (ns : List NestText) (reach out : List (Option Ends)) → add_definitions a g outer x d fs ns reach ≡ Some out → Grows reach out
  grows_definitions x d [] ns reach out h = if_some reach reach out (stay reach) h
  grows_definitions x d (f ∷ fs) [] reach out h = absurd (no_reach out h)
    where
      no_reach : (q : List (Option Ends)) → None ≡ Some q → ⊥
      no_reach q i = cc
  grows_definitions x d (f ∷ fs) (n ∷ ns) reach out h =
      let b = bound (add_definition a g outer x d f n reach) (add_definitions a g outer x (d + 1) fs ns) out h in
      after reach b.value out (grows_definition x d f n reach b.value b.is) (grows_definitions x (d + 1) fs ns b.value out b.comes)

  grows_own : (d : ℕ) (f : FormulaText) (n : NestText) (reach out : List (Option Ends)) → add_own a g outer d f n reach ≡ Some out → Grows reach out
  grows_own d f n reach out h =
      let b = bound (around a g outer n f d) (λ r. add_left a r 0 f.at reach >>= add_calls a r (Some f) g.subject.name (calls_in f)) out h in
      let c = bound (add_left a b.value 0 f.at reach) (add_calls a b.value (Some f) g.subject.name (calls_in f)) out b.comes in
      after reach c.value out (grows_left a b.value 0 f.at reach c.value c.is) (grows_calls a b.value (Some f) g.subject.name (calls_in f) c.value out c.comes)

  grows_all_own : (d : ℕ) (fs : List FormulaText) (ns : List NestText) (reach out : List (Option Ends)) → add_all_own a g outer d fs ns reach ≡ Some out → Grows reach out
  grows_all_own d [] ns reach out h = if_some reach reach out (stay reach) h
  grows_all_own d (f ∷ fs) [] reach out h = absurd (no_reach out h)
    where
      no_reach : (q : List (Option Ends)) → None ≡ Some q → ⊥
      no_reach q i = cc
  grows_all_own d (f ∷ fs) (n ∷ ns) reach out h =
      let b = bound (add_own a g outer d f n reach) (add_all_own a g outer (d + 1) fs ns) out h in
      after reach b.value out (grows_own d f n reach b.value b.is) (grows_all_own (d + 1) fs ns b.value out b.comes)

-- a call of the function of this name is among the calls
calls_of_it : (x : List ℕ) (cs : List Written) (place : ℕ) (c : Written) → slice_get cs place ≡ Some c → same_name c.name x ≡ true → are_calls_of x cs ≡ true
calls_of_it x [] place c there named = absurd (no there)
  where
    no : None ≡ Some c → ⊥
    no q = cc
calls_of_it x (y ∷ cs) zero c there named = first (same_name y.name x) (subst (λ (q : Written). same_name q.name x ≡ true) (sym (same y c there)) named)
  where
    first : (b : Bool) → b ≡ true → (b || are_calls_of x cs) ≡ true
    first b i = rw (i) refl
calls_of_it x (y ∷ cs) (suc place) c there named = later (same_name y.name x) (calls_of_it x cs place c there named)
  where
    later : (b : Bool) → are_calls_of x cs ≡ true → (b || are_calls_of x cs) ≡ true
    later true i = refl
    later false i = i

some_of_it : (x : List ℕ) (fs : List FormulaText) (n : ℕ) (f : FormulaText) → slice_get fs n ≡ Some f → are_calls_of x (calls_in f) ≡ true → some_calls x fs ≡ true
some_of_it x [] n f there calls = absurd (no there)
  where
    no : None ≡ Some f → ⊥
    no q = cc
some_of_it x (y ∷ fs) zero f there calls = first (are_calls_of x (calls_in y)) (subst (λ (q : FormulaText). are_calls_of x (calls_in q) ≡ true) (sym (same y f there)) calls)
  where
    first : (b : Bool) → b ≡ true → (b || some_calls x fs) ≡ true
    first b i = rw (i) refl
some_of_it x (y ∷ fs) (suc n) f there calls = later (are_calls_of x (calls_in y)) (some_of_it x fs n f there calls)
  where
    later : (b : Bool) → some_calls x fs ≡ true → (b || some_calls x fs) ≡ true
    later true i = refl
    later false i = i

-- what is called at a store is reached once the definitions are looked at
module _ (a : Algorithm) (u : StoredText) (l : LaidText) (x : List ℕ) (v : ℕ → ℤ) (p : List ℤ) (c : CallsAt a u l x v p) (k : ℕ) (z : ℤ) (at : slice_get p k ≡ Some z) where
  abbrev outer : List Binding
  outer = head_scope l.skeleton

  calls : are_calls_of x (calls_in c.formula) ≡ true
  calls = calls_of_it x (calls_in c.formula) c.place c.call c.there c.named

  definition_reaches : (d : ℕ) (reach out : List (Option Ends)) → d ≡ c.number → add_definition a u outer x d c.formula c.nest reach ≡ Some out → k < length reach → Reaches out k z
  definition_reaches d reach out is h lt =
      let R : Option AroundText → Option (List (Option Ends)) = λ o. o >>= λ r. add_calls a r None x (calls_in c.formula) reach in
      let here : R (around a u outer c.nest c.formula d) ≡ Some out =
      sym (ap (λ (t : Bool). if t then R (around a u outer c.nest c.formula d) else Some reach) calls) ∙ h in
      let known : around a u outer c.nest c.formula d ≡ Some c.standing = subst (λ (n : ℕ). around a u outer c.nest c.formula n ≡ Some c.standing) (sym is) c.stands in
      let added : add_calls a c.standing None x (calls_in c.formula) reach ≡ Some out = sym (ap R known) ∙ here in
      calls_reach a c.standing v c.variables c.numbers c.answers c.told c.fits c.within x (calls_in c.formula) reach out added c.place c.call c.there c.named c.typed k z
      (subst (λ (q : List ℤ). slice_get q k ≡ Some z) c.point at) lt

  definitions_reach : (d m : ℕ) (fs : List FormulaText) (ns : List NestText) (reach out : List (Option Ends)) → d + m ≡ c.number → slice_get fs m ≡ Some c.formula → slice_get ns m ≡ Some c.nest
      → add_definitions a u outer x d fs ns reach ≡ Some out → k < length reach → Reaches out k z
  definitions_reach d m [] ns reach out is formula nest h lt = absurd (no formula)
    where
      no : None ≡ Some c.formula → ⊥
      no q = cc
  definitions_reach d m (f ∷ fs) [] reach out is formula nest h lt = absurd (no nest)
    where
      no : None ≡ Some c.nest → ⊥
      no q = cc
  definitions_reach d zero (f ∷ fs) (n ∷ ns) reach out is formula nest h lt =
      let b = bound (add_definition a u outer x d f n reach) (add_definitions a u outer x (d + 1) fs ns) out h in
      let of_it : add_definition a u outer x d c.formula c.nest reach ≡ Some b.value =
      subst (λ (q : FormulaText). add_definition a u outer x d q c.nest reach ≡ Some b.value) (same f c.formula formula)
      (subst (λ (q : NestText). add_definition a u outer x d f q reach ≡ Some b.value) (same n c.nest nest) b.is) in
      (grows_definitions a u outer x (d + 1) fs ns b.value out b.comes).keeps k z (definition_reaches d reach b.value (omega (arith, is)) of_it lt)
  definitions_reach d (suc m) (f ∷ fs) (n ∷ ns) reach out is formula nest h lt =
      let b = bound (add_definition a u outer x d f n reach) (add_definitions a u outer x (d + 1) fs ns) out h in
      let many = (grows_definition a u outer x d f n reach b.value b.is).as_many in
      definitions_reach (d + 1) m fs ns b.value out (omega (arith, is)) formula nest b.comes (subst (λ (q : ℕ). k < q) many lt)

  formulas_reach : (reach out : List (Option Ends)) → add_formulas a x u (Some c.formulas) (Some l) reach ≡ Some out → k < length reach → Reaches out k z
  formulas_reach reach out h lt =
      let some : some_calls x c.formulas ≡ true = some_of_it x c.formulas c.number c.formula c.is calls in
      let all : add_definitions a u outer x 0 c.formulas l.skeleton.nests reach ≡ Some out =
      sym (ap (λ (t : Bool). if t then add_definitions a u outer x 0 c.formulas l.skeleton.nests reach else Some reach) some) ∙ h in
      definitions_reach 0 c.number c.formulas l.skeleton.nests reach out (omega arith) c.is c.nested all lt

  user_reaches : (reach out : List (Option Ends)) → add_user a x u (Some l) reach ≡ Some out → k < length reach → Reaches out k z
  user_reaches reach out h lt = formulas_reach reach out (sym (ap (λ (o : Option (List FormulaText)). add_formulas a x u o (Some l) reach) c.defined) ∙ h) lt

grows_laid : (a : Algorithm) (x : List ℕ) (g : StoredText) (fs : List FormulaText) (l : Option LaidText) (reach out : List (Option Ends)) → add_laid a x g fs l reach ≡ Some out → Grows reach out
grows_laid a x g fs None reach out h = absurd (no_reach out h)
  where
    no_reach : (q : List (Option Ends)) → None ≡ Some q → ⊥
    no_reach q i = cc
grows_laid a x g fs (Some l) reach out h = grows_definitions a g (head_scope l.skeleton) x 0 fs l.skeleton.nests reach out h

grows_formulas : (a : Algorithm) (x : List ℕ) (g : StoredText) (o : Option (List FormulaText)) (l : Option LaidText) (reach out : List (Option Ends)) → add_formulas a x g o l reach ≡ Some out
    → Grows reach out
grows_formulas a x g None l reach out h = if_some reach reach out (stay reach) h
grows_formulas a x g (Some fs) l reach out h = by (some_calls x fs) h
  where
    by : (b : Bool) → (if b then add_laid a x g fs l reach else Some reach) ≡ Some out → Grows reach out
    by true q = grows_laid a x g fs l reach out q
    by false q = if_some reach reach out (stay reach) q

pub grows_users : (a : Algorithm) (x : List ℕ) (gs : List StoredText) (ls : List (Option LaidText)) (reach out : List (Option Ends)) → add_users a x gs ls reach ≡ Some out → Grows reach out
grows_users a x [] ls reach out h = if_some reach reach out (stay reach) h
grows_users a x (g ∷ gs) [] reach out h = if_some reach reach out (stay reach) h
grows_users a x (g ∷ gs) (l ∷ ls) reach out h =
    let b = bound (add_user a x g l reach) (add_users a x gs ls) out h in
    after reach b.value out (grows_formulas a x g g.formulas l reach b.value b.is) (grows_users a x gs ls b.value out b.comes)

users_reach : (a : Algorithm) (u : StoredText) (l : LaidText) (x : List ℕ) (v : ℕ → ℤ) (p : List ℤ) → CallsAt a u l x v p → (k : ℕ) (z : ℤ) → slice_get p k ≡ Some z
    → (gs : List StoredText) (ls : List (Option LaidText)) (n : ℕ) (reach out : List (Option Ends)) → slice_get gs n ≡ Some u → slice_get ls n ≡ Some (Some l)
    → add_users a x gs ls reach ≡ Some out → k < length reach → Reaches out k z
users_reach a u l x v p c k z at [] ls n reach out is laid h lt = absurd (no is)
  where
    no : None ≡ Some u → ⊥
    no q = cc
users_reach a u l x v p c k z at (g ∷ gs) [] n reach out is laid h lt = absurd (no laid)
  where
    no : None ≡ Some (Some l) → ⊥
    no q = cc
users_reach a u l x v p c k z at (g ∷ gs) (m ∷ ls) zero reach out is laid h lt =
    let b = bound (add_user a x g m reach) (add_users a x gs ls) out h in
    let of_it : add_user a x u (Some l) reach ≡ Some b.value =
    subst (λ (q : StoredText). add_user a x q (Some l) reach ≡ Some b.value) (same g u is)
    (subst (λ (q : Option LaidText). add_user a x g q reach ≡ Some b.value) (same m (Some l) laid) b.is) in
    (grows_users a x gs ls b.value out b.comes).keeps k z (user_reaches a u l x v p c k z at reach b.value of_it lt)
users_reach a u l x v p c k z at (g ∷ gs) (m ∷ ls) (suc n) reach out is laid h lt =
    let b = bound (add_user a x g m reach) (add_users a x gs ls) out h in
    let many = (grows_formulas a x g g.formulas m reach b.value b.is).as_many in
    users_reach a u l x v p c k z at gs ls n b.value out is laid b.comes (subst (λ (q : ℕ). k < q) many lt)

grows_extents : (d : ℕ) (ns : List ℕ) (reach : List (Option Ends)) → Grows reach (add_extents d ns reach)
grows_extents d [] reach = stay reach
grows_extents d (n ∷ ns) reach =
    let e : Ends = record { low = pos 0; high = pos n -ℤ pos 1 } in
    after reach (widen reach d e) (add_extents (d + 1) ns (widen reach d e)) (widen_grows reach d e) (grows_extents (d + 1) ns (widen reach d e))

pub grows_output : (a : Algorithm) (b : Bool) (reach : List (Option Ends)) → Grows reach (add_output a b reach)
grows_output a false reach = stay reach
grows_output a true reach = grows_extents 0 a.output_extents reach

-- ---- the region

-- a region is one of ends that have grown from these
pub record Found (is_root : Bool) (reach : List (Option Ends)) (x : LaidText) : Type 0 where
  pub wide : List (Option Ends)
  pub grown : Grows reach wide
  pub is : region_of is_root wide ≡ Some x.region

module _ (a : Algorithm) (g : StoredText) (fs : List FormulaText) where
  abbrev root : Bool
  root = g.subject.is_root

  alone : (reach : List (Option Ends)) (l x : LaidText) → region_of root reach ≡ Some l.region → Some l ≡ Some x → Found root reach x
  alone reach l x is e = record { wide = reach; grown = stay reach; is = subst (λ (q : LaidText). region_of root reach ≡ Some q.region) (same l x e) is }

  over_region : (region : List Extent) (x : LaidText) → over g fs region ≡ Some x → region ≡ x.region
  over_region region x h =
      let made : SkeletonText → LaidText = λ s. record { region = region; skeleton = s } in
      let b = bound (skeleton_of g fs region) (λ s. Some (made s)) x h in ap (λ (q : LaidText). q.region) (same (made b.value) x b.comes)

  closed_found : (k : ℕ) (reach : List (Option Ends)) (l x : LaidText) → region_of root reach ≡ Some l.region → closed a g fs k reach l ≡ Some x → Found root reach x
  closed_found zero reach l x is h = alone reach l x is h
  closed_found (suc k) reach l x is h =
      let again : List (Option Ends) → List Extent → Option LaidText = λ wider region. over g fs region >>= closed a g fs k wider in
      let step : List (Option Ends) → List Extent → Option LaidText = λ wider region. if same_region l.region region then Some l else again wider region in
      let b = bound (add_all_own a g (head_scope l.skeleton) 0 fs l.skeleton.nests reach) (λ wider. region_of root wider >>= step wider) x h in
      let c = bound (region_of root b.value) (step b.value) x b.comes in
      by b.value c.value (grows_all_own a g (head_scope l.skeleton) 0 fs l.skeleton.nests reach b.value b.is) c.is (same_region l.region c.value) c.comes
      (λ wide y. closed_found k wide y x)
    where
      by : (wide : List (Option Ends)) (region : List Extent) → Grows reach wide → region_of root wide ≡ Some region → (t : Bool)
          → (if t then Some l else (over g fs region >>= closed a g fs k wide)) ≡ Some x
          → ((w : List (Option Ends)) (y : LaidText) → region_of root w ≡ Some y.region → closed a g fs k w y ≡ Some x → Found root w x) → Found root reach x
      by wide region grown found true e again = alone reach l x is e
      by wide region grown found false e again =
          let d = bound (over g fs region) (closed a g fs k wide) x e in
          let r = again wide d.value (subst (λ (q : List Extent). region_of root wide ≡ Some q) (over_region region d.value d.is) found) d.comes in
          record { wide = r.wide; grown = after reach wide r.wide grown r.grown; is = r.is }

  pub laid_found : (reach : List (Option Ends)) (x : LaidText) → laid_over a g fs reach ≡ Some x → Found root reach x
  laid_found reach x h =
      let b = bound (region_of root reach >>= over g fs) (closed a g fs 4 reach) x h in
      let c = bound (region_of root reach) (over g fs) b.value b.is in
      closed_found 4 reach b.value x (subst (λ (q : List Extent). region_of root reach ≡ Some q) (over_region c.value b.value c.comes) c.is) b.comes

-- a number of the ends is one of the extent
length_between : (low high : ℤ) → low ≤ℤ high → low +ℤ pos (count_of (high -ℤ low +ℤ pos 1)) -ℤ pos 1 ≡ high
length_between low high le = by (high -ℤ low +ℤ pos 1) refl
  where
    by : (y : ℤ) → high -ℤ low +ℤ pos 1 ≡ y → low +ℤ pos (count_of y) -ℤ pos 1 ≡ high
    by (pos n) e = omega (arith, ints, e)
    by (negsuc n) e = absurd (omega (arith, ints, e, le))

whole_holds : (low : ℤ) (n : ℕ) (v : ℕ → ℤ) (z : ℤ) → low ≤ℤ z → z ≤ℤ (low +ℤ pos n -ℤ pos 1) → IsInSpan (whole (record { low = low; count = n })) v z
whole_holds low n v z from to = (
  All-cons (λ f. form_value f v ≤ℤ z) (number low) [] (omega (arith, ints, from)) (All-nil (λ f. form_value f v ≤ℤ z)),
  All-cons (λ f. z ≤ℤ form_value f v) (number (low +ℤ pos n -ℤ pos 1)) [] (omega (arith, ints, to)) (All-nil (λ f. z ≤ℤ form_value f v)),
)

no_extent : (e : Extent) → None ≡ Some e → ⊥
no_extent e h = cc

between_holds : (e : Ends) (x : Extent) (v : ℕ → ℤ) (z : ℤ) → extent_between e ≡ Some x → e.low ≤ℤ z → z ≤ℤ e.high → IsInSpan (whole x) v z
between_holds e x v z h low high = by (are_within e) h
  where
    by : (b : Bool) → (if b then Some (record { low = e.low; count = count_of (e.high -ℤ e.low +ℤ pos 1) }) else None) ≡ Some x → IsInSpan (whole x) v z
    by true q =
        let last = length_between e.low e.high (at_most e.low z e.high low high) in
        subst (λ (y : Extent). IsInSpan (whole y) v z) (same (record { low = e.low; count = count_of (e.high -ℤ e.low +ℤ pos 1) }) x q)
        (whole_holds e.low (count_of (e.high -ℤ e.low +ℤ pos 1)) v z low (subst (λ (y : ℤ). z ≤ℤ y) (sym last) high))
    by false q = absurd (no_extent x q)

extent_holds : (is_root : Bool) (o : Option Ends) (e : Ends) (x : Extent) (v : ℕ → ℤ) (z : ℤ) → o ≡ Some e → extent_of is_root o ≡ Some x → e.low ≤ℤ z → z ≤ℤ e.high → IsInSpan (whole x) v z
extent_holds is_root o e x v z is h low high =
    let step : Extent → Option Extent = λ y. if may_have is_root y.count then Some y else None in
    let b = bound (o >>= extent_between) step x h in
    let c = bound o extent_between b.value b.is in
    let same_ends : c.value ≡ e = same c.value e (sym c.is ∙ is) in
    let found : IsInSpan (whole b.value) v z =
    between_holds c.value b.value v z c.comes (subst (λ (q : Ends). q.low ≤ℤ z) (sym same_ends) low) (subst (λ (q : Ends). z ≤ℤ q.high) (sym same_ends) high) in
    by b.value (may_have is_root b.value.count) b.comes found
  where
    by : (y : Extent) (t : Bool) → (if t then Some y else None) ≡ Some x → IsInSpan (whole y) v z → IsInSpan (whole x) v z
    by y true q lies = subst (λ (w : Extent). IsInSpan (whole w) v z) (same y x q) lies
    by y false q lies = absurd (no_extent x q)

pub region_length : (is_root : Bool) (reach : List (Option Ends)) (es : List Extent) → region_of is_root reach ≡ Some es → length es ≡ length reach
region_length is_root [] es h = ap length (sym (same [] es h))
region_length is_root (o ∷ os) es h =
    let b = bound (extent_of is_root o) (λ x. region_of is_root os >>= λ xs. Some (x ∷ xs)) es h in
    let c = bound (region_of is_root os) (λ xs. Some (b.value ∷ xs)) es b.comes in
    ap length (sym (same (b.value ∷ c.value) es c.comes)) ∙ ap suc (region_length is_root os c.value c.is)

region_holds : (is_root : Bool) (reach : List (Option Ends)) (es : List Extent) (v : ℕ → ℤ) → region_of is_root reach ≡ Some es
    → (d : ℕ) (z : ℤ) (e : Extent) → Reaches reach d z → slice_get es d ≡ Some e → IsInSpan (whole e) v z
region_holds is_root [] es v h d z e r at = absurd (none_there r.ends r.is)
  where
    none_there : (q : Ends) → None ≡ Some (Some q) → ⊥
    none_there q i = cc
region_holds is_root (o ∷ os) es v h d z e r at =
    let b = bound (extent_of is_root o) (λ x. region_of is_root os >>= λ xs. Some (x ∷ xs)) es h in
    let c = bound (region_of is_root os) (λ xs. Some (b.value ∷ xs)) es b.comes in
    by b.value c.value b.is c.is d r (subst (λ (q : List Extent). slice_get q d ≡ Some e) (sym (same (b.value ∷ c.value) es c.comes)) at)
    (λ xs rest k q there. region_holds is_root os xs v rest k z e q there)
  where
    by : (x : Extent) (xs : List Extent) → extent_of is_root o ≡ Some x → region_of is_root os ≡ Some xs → (k : ℕ) → Reaches (o ∷ os) k z → slice_get (x ∷ xs) k ≡ Some e
        → ((ys : List Extent) → region_of is_root os ≡ Some ys → (n : ℕ) → Reaches os n z → slice_get ys n ≡ Some e → IsInSpan (whole e) v z) → IsInSpan (whole e) v z
    by x xs first rest zero q there later =
        subst (λ (y : Extent). IsInSpan (whole y) v z) (same x e there) (extent_holds is_root o q.ends x v z (same o (Some q.ends) q.is) first q.low q.high)
    by x xs first rest (suc k) q there later =
        later xs rest k (record { ends = q.ends; is = q.is; low = q.low; high = q.high }) there

-- a point with a number of each extent
all_within : (es : List Extent) (v : ℕ → ℤ) (p : List ℤ) → length p ≡ length es
    → ((d : ℕ) (e : Extent) (z : ℤ) → slice_get es d ≡ Some e → slice_get p d ≡ Some z → IsInSpan (whole e) v z) → IsInRegion (map whole es) v p
all_within [] v [] n h = tt
all_within [] v (z ∷ p) n h = absurd (omega (arith, n))
all_within (e ∷ es) v [] n h = absurd (omega (arith, n))
all_within (e ∷ es) v (z ∷ p) n h = (h 0 e z refl refl, all_within es v p (omega (arith, n)) (λ d x y i j. h (suc d) x y i j))

-- ---- the law

within_region : (a : Algorithm) (g : StoredText) (later : List StoredText) (u : StoredText) (l m : LaidText) (n : ℕ) (v : ℕ → ℤ) (p : List ℤ)
    → laid_within a g later (laid_functions a later) ≡ Some l → slice_get later n ≡ Some u → slice_get (laid_functions a later) n ≡ Some (Some m)
    → CallsAt a u m g.subject.name v p → length p ≡ length l.region → IsInRegion (map whole l.region) v p
within_region a g later u l m n v p h is laid c many = by g.formulas h
  where
    by : (o : Option (List FormulaText)) → laid_by a g o later (laid_functions a later) ≡ Some l → IsInRegion (map whole l.region) v p
    by None q = absurd (no q)
      where
        no : None ≡ Some l → ⊥
        no i = cc
    by (Some fs) q =
        let found = laid_functions a later in
        let blank = unreached (length g.subject.variables) in
        let b = bound (reach_of a g later found) (laid_over a g fs) l q in
        let w = bound (add_users a g.subject.name later found blank) (λ reach. Some (add_output a g.subject.is_output reach)) b.value b.is in
        let f = laid_found a g fs b.value l b.comes in
        let whole_grown : Grows w.value b.value = if_some w.value _ b.value (grows_output a g.subject.is_output w.value) w.comes in
        let grown = after w.value b.value f.wide whole_grown f.grown in
        let begun = grows_users a g.subject.name later found blank w.value w.is in
        let size : length blank ≡ length l.region = begun.as_many ∙ grown.as_many ∙ sym (region_length g.subject.is_root f.wide l.region f.is) in
        all_within l.region v p many (λ d e z there at.
        let lt : d < length blank = subst (λ (y : ℕ). d < y) (sym size) (slice_get_within l.region d e there) in
        let reached = users_reach a u m g.subject.name v p c d z at later found n blank w.value is laid w.is lt in
        region_holds g.subject.is_root f.wide l.region v f.is d z e (grown.keeps d z reached) there)

pub regions_hold : RegionsHoldCalls
regions_hold a [] i j g u l m x y lt v p c n = absurd (no x.is)
  where
    no : None ≡ Some g → ⊥
    no q = cc
regions_hold a (s ∷ later) zero zero g u l m x y lt v p c n = absurd (omega (arith, lt))
regions_hold a (s ∷ later) zero (suc j) g u l m x y lt v p c n =
    let is : s ≡ g = same s g x.is in
    let laid : laid_within a s later (laid_functions a later) ≡ Some l = same (laid_within a s later (laid_functions a later)) (Some l) x.laid in
    within_region a g later u l m j v p (subst (λ (q : StoredText). laid_within a q later (laid_functions a later) ≡ Some l) is laid) y.is y.laid c n
regions_hold a (s ∷ later) (suc i) zero g u l m x y lt v p c n = absurd (omega (arith, lt))
regions_hold a (s ∷ later) (suc i) (suc j) g u l m x y lt v p c n =
    regions_hold a later i j g u l m (record { is = x.is; laid = x.laid }) (record { is = y.is; laid = y.laid }) (omega (arith, lt)) v p c n

-- ---- the output

extents_reach : (d : ℕ) (ns : List ℕ) (reach : List (Option Ends)) (k m n : ℕ) (z : ℤ) → slice_get ns k ≡ Some n → m ≡ d + k → m < length reach → pos 0 ≤ℤ z → z ≤ℤ (pos n -ℤ pos 1)
    → Reaches (add_extents d ns reach) m z
extents_reach d [] reach k m n z at is lt low high = absurd (no at)
  where
    no : None ≡ Some n → ⊥
    no q = cc
extents_reach d (y ∷ ns) reach zero m n z at is lt low high =
    let e : Ends = record { low = pos 0; high = pos y -ℤ pos 1 } in
    let here : m ≡ d = omega (arith, is) in
    let first : Reaches (widen reach d e) d z =
    put_reaches (nat_lt d (length reach)) reach d e z refl (subst (λ (q : ℕ). q < length reach) here lt) low (subst (λ (q : ℕ). z ≤ℤ (pos q -ℤ pos 1)) (sym (same y n at)) high) in
    subst (λ (q : ℕ). Reaches (add_extents (d + 1) ns (widen reach d e)) q z) (sym here) ((grows_extents (d + 1) ns (widen reach d e)).keeps d z first)
extents_reach d (y ∷ ns) reach (suc k) m n z at is lt low high =
    let e : Ends = record { low = pos 0; high = pos y -ℤ pos 1 } in
    extents_reach (d + 1) ns (widen reach d e) k m n z at (omega (arith, is)) (subst (λ (q : ℕ). m < q) (widen_grows reach d e).as_many lt) low high

record InExtent (ns : List ℕ) (k : ℕ) (z : ℤ) : Type 0 where
  n : ℕ
  is : slice_get ns k ≡ Some n
  low : pos 0 ≤ℤ z
  high : z ≤ℤ (pos n -ℤ pos 1)

in_extent : (ns : List ℕ) (v : ℕ → ℤ) (p : List ℤ) (k : ℕ) (z : ℤ) → IsInRegion (map (λ n. spans.numbers (pos 0) (pos n -ℤ pos 1)) ns) v p → slice_get p k ≡ Some z → InExtent ns k z
in_extent ns v [] k z h at = absurd (none_is z at)
in_extent [] v (y ∷ p) k z h at = absurd h
in_extent (n ∷ ns) v (y ∷ p) zero z h at =
    let is : y ≡ z = same y z at in
    let low : form_value (number (pos 0)) v ≤ℤ y = h.0.0 0 (number (pos 0)) (omega arith) in
    let high : y ≤ℤ form_value (number (pos n -ℤ pos 1)) v = h.0.1 0 (number (pos n -ℤ pos 1)) (omega arith) in
    record { n = n; is = refl; low = omega (arith, ints, is, low); high = omega (arith, ints, is, high) }
in_extent (n ∷ ns) v (y ∷ p) (suc k) z h at = let r = in_extent ns v p k z h.1 at in record { n = r.n; is = r.is; low = r.low; high = r.high }

output_within : (a : Algorithm) (g : StoredText) (later : List StoredText) (found : List (Option LaidText)) (l : LaidText) (v : ℕ → ℤ) (p : List ℤ)
    → g.subject.is_output ≡ true → laid_within a g later found ≡ Some l → IsInRegion (map (λ n. spans.numbers (pos 0) (pos n -ℤ pos 1)) a.output_extents) v p
    → length p ≡ length l.region → IsInRegion (map whole l.region) v p
output_within a g later found l v p output h inside many = by g.formulas h
  where
    by : (o : Option (List FormulaText)) → laid_by a g o later found ≡ Some l → IsInRegion (map whole l.region) v p
    by None q = absurd (no q)
      where
        no : None ≡ Some l → ⊥
        no i = cc
    by (Some fs) q =
        let blank = unreached (length g.subject.variables) in
        let b = bound (reach_of a g later found) (laid_over a g fs) l q in
        let w = bound (add_users a g.subject.name later found blank) (λ reach. Some (add_output a g.subject.is_output reach)) b.value b.is in
        let f = laid_found a g fs b.value l b.comes in
        let out : add_extents 0 a.output_extents w.value ≡ b.value =
        sym (ap (λ (t : Bool). add_output a t w.value) output) ∙ same (add_output a g.subject.is_output w.value) b.value w.comes in
        let begun : Grows w.value b.value = subst (Grows w.value) out (grows_extents 0 a.output_extents w.value) in
        let size : length w.value ≡ length l.region = begun.as_many ∙ f.grown.as_many ∙ sym (region_length g.subject.is_root f.wide l.region f.is) in
        all_within l.region v p many (λ d e z there at.
        let lt : d < length w.value = subst (λ (y : ℕ). d < y) (sym size) (slice_get_within l.region d e there) in
        let i = in_extent a.output_extents v p d z inside at in
        let reached : Reaches b.value d z =
        subst (λ (q : List (Option Ends)). Reaches q d z) out (extents_reach 0 a.output_extents w.value d d i.n z i.is (omega arith) lt i.low i.high) in
        region_holds g.subject.is_root f.wide l.region v f.is d z e (f.grown.keeps d z reached) there)

pub output_holds : OutputHoldsExtents
output_holds a [] i g l x o v p inside n = absurd (no x.is)
  where
    no : None ≡ Some g → ⊥
    no q = cc
output_holds a (s ∷ later) zero g l x o v p inside n =
    let laid : laid_within a s later (laid_functions a later) ≡ Some l = same (laid_within a s later (laid_functions a later)) (Some l) x.laid in
    output_within a g later (laid_functions a later) l v p o (subst (λ (q : StoredText). laid_within a q later (laid_functions a later) ≡ Some l) (same s g x.is) laid) inside n
output_holds a (s ∷ later) (suc i) g l x o v p inside n = output_holds a later i g l (record { is = x.is; laid = x.laid }) o v p inside n
