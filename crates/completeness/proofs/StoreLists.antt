-- What is so of the coordinates of a store, and of the indices of a call, one by one.
use Rattle.std.proofs.Common.{◌≡◌, ℕ, zero, suc, ◌+◌, Bool, true, false, ◌&&◌, ◌||◌, List, [], ◌∷◌, ◌++◌, length, map, take, drop, Option, Some, None, refl, sym, ap, ◌∙◌, subst, arith}
use Rattle.std.proofs.Common.{append_assoc, append-nil}
use Rattle.std.specs.Prelude.{pos, ◌-ℤ◌, if◌then◌else◌, slice_get}
use Rattle.std.specs.List.{list_all}
use Rattle.std.proofs.lemmas.Option.{slice_get_within}
use Rattle.numeric.specs.declared.ty.Ty.{Ty}
use Rattle.numeric.specs.declared.ty.Ty.TheVariants.{I32}
use Rattle.tree.specs.Term.{Term, Terms, End, More}
use Rattle.tree.specs.Uses.{EachCall, EachCallOfAll}
use Rattle.tree.specs.Substitution.{with_calls, all_with_calls}
use Rattle.tree.specs.Typing.{type_of, is_index, are_indices}
use Rattle.lin.specs.Forms.{Form}
use Rattle.lin.specs.Regions.{span_inside}
use Rattle.lin.specs.declared.span.Span1.{Span1}
use Rattle.bounds.specs.Spans.{numbers}
use Rattle.bounds.specs.Interval.{span_named}
use Rattle.plan.specs.declared.stmt.Places.{Places}
use Rattle.plan.specs.Plan.{Index, At, Found, Coordinate}
use Rattle.meaning.specs.Algorithm.{Algorithm}
use Rattle.meaning.specs.Names.{same_name, is_among}
use Rattle.meaning.specs.Conditions.{AreDistinct, is_variable, has_variable}
use Rattle.meaning.proofs.InliningTyped.{both_true, index-is}
use Rattle.soundness.specs.Origins.{Outline}
use Rattle.soundness.specs.Obligations.{Binder, Known, Rules, exactly, intervals, index_place, target_span, variable_span}
use Rattle.soundness.specs.Shown.{is_within, are_within, is_seated, are_seated}
use Rattle.algo.proofs.Doubles.{among_stands}
use Rattle.headline.proofs.Lists.{at_left, at_right}
use Rattle.sched.specs.declared.numbers.Numbers.{Numbers}
use Rattle.sched.specs.declared.numbers.Extent.{Extent}
use Rattle.sched.specs.Numbers.{numbers_named}
use Rattle.sched.specs.Standing.{◌>>=◌}
use Rattle.sched.specs.Called.{called}
use Rattle.sched.specs.Stored.{FormulaText, left_at}
use Rattle.sched.specs.Regions.{counts}
use Rattle.sched.specs.Around.{AroundText, interval_in, form_span, coordinate_span, coordinates_behind}
use Rattle.blocks.specs.Bounded.{is_on_input, is_place_bounded, is_in_region}
use Rattle.regions.specs.Taken.{add_spans}
use Rattle.sched.specs.Loading.{Loads, as_load}
use Rattle.sched.specs.Bodies.{first_left, other_lefts}
use Rattle.blocks.specs.Bodies.{IsIndex, AreCoordinates}
use Rattle.lower.proofs.Covering.{NumbersAre}
use Rattle.blocks.proofs.Laying.{bound, same}
use Rattle.completeness.specs.Placed.{index_at}
use Rattle.completeness.proofs.StoreBounds.{AreAt, IsAt}

-- ---- lists

pub taken_got : {A : Type 0} (n : ℕ) (xs : List A) (j : ℕ) (x : A) → slice_get (take n xs) j ≡ Some x → slice_get xs j ≡ Some x
taken_got zero [] j x e = absurd (cc e)
taken_got zero (y ∷ xs) j x e = absurd (cc e)
taken_got (suc n) [] j x e = absurd (cc e)
taken_got (suc n) (y ∷ xs) zero x e = e
taken_got (suc n) (y ∷ xs) (suc j) x e = taken_got n xs j x e

pub all_by : {A B : Type 0} (f : A → B) (p : B → Bool) (xs : List A) → ((j : ℕ) (x : A) → slice_get xs j ≡ Some x → p (f x) ≡ true) → list_all p (map f xs) ≡ true
all_by f p [] h = refl
all_by f p (x ∷ xs) h = (let here = h 0 x refl in let rest = all_by f p xs (λ j y e. h (suc j) y e) in λ i. here i && rest i)

pub seated_by : (R : Rules) (bs : List Binder) (ss : List Span1) (ps : List Places) → length ss ≡ length ps →
    ((j : ℕ) (s : Span1) (p : Places) → slice_get ss j ≡ Some s → slice_get ps j ≡ Some p → is_seated R bs s p ≡ true) → are_seated R bs ss ps ≡ true
seated_by R bs [] [] long h = refl
seated_by R bs [] (p ∷ ps) long h = absurd (omega (arith, long))
seated_by R bs (s ∷ ss) [] long h = absurd (omega (arith, long))
seated_by R bs (s ∷ ss) (p ∷ ps) long h =
    (let here = h 0 s p refl refl in let rest = seated_by R bs ss ps (omega (arith, long)) (λ j x y e q. h (suc j) x y e q) in λ i. here i && rest i)

pub within_by : (R : Rules) (bs : List Binder) (ss ys : List Span1) → length ss ≡ length ys →
    ((j : ℕ) (s y : Span1) → slice_get ss j ≡ Some s → slice_get ys j ≡ Some y → is_within R bs s y ≡ true) → are_within R bs ss ys ≡ true
within_by R bs [] [] long h = refl
within_by R bs [] (y ∷ ys) long h = absurd (omega (arith, long))
within_by R bs (s ∷ ss) [] long h = absurd (omega (arith, long))
within_by R bs (s ∷ ss) (y ∷ ys) long h =
    (let here = h 0 s y refl refl in let rest = within_by R bs ss ys (omega (arith, long)) (λ j x z e q. h (suc j) x z e q) in λ i. here i && rest i)

pub numbers_at : (rs : List Numbers) (xs : List (List ℕ)) (es : List Extent) → NumbersAre rs xs es → (j : ℕ) (x : List ℕ) → slice_get xs j ≡ Some x →
    (e : Extent) × (slice_get es j ≡ Some e) × (numbers_named rs x ≡ record { name = x; low = e.low; count = e.count })
numbers_at rs [] es h j x at = absurd (cc at)
numbers_at rs (y ∷ xs) [] h j x at = absurd h
numbers_at rs (y ∷ xs) (e ∷ es) h zero x at = (e, refl, subst (λ (z : List ℕ). numbers_named rs z ≡ record { name = z; low = e.low; count = e.count }) (same y x at) h.0)
numbers_at rs (y ∷ xs) (e ∷ es) h (suc j) x at = numbers_at rs xs es h.1 j x at

-- the first names, where as many come first
pub prefix_same : (ns ms xs ys : List (List ℕ)) → ns ++ ms ≡ xs ++ ys → length ns ≡ length xs → (ns ≡ xs) × (ms ≡ ys)
prefix_same [] ms [] ys e long = (refl, e)
prefix_same [] ms (x ∷ xs) ys e long = absurd (omega (arith, long))
prefix_same (n ∷ ns) ms [] ys e long = absurd (omega (arith, long))
prefix_same (n ∷ ns) ms (x ∷ xs) ys e long =
    let head : n ≡ x = cc e in
    let tail : ns ++ ms ≡ xs ++ ys = cc e in
    let rest = prefix_same ns ms xs ys tail (omega (arith, long)) in
    (λ i. head i ∷ rest.0 i, rest.1)

-- a name of the last ones is none of the first
pub last_alone : (xs ys : List (List ℕ)) → AreDistinct (xs ++ ys) → (x : List ℕ) → is_among ys x ≡ true → is_among xs x ≡ false
last_alone xs ys distinct x among = of (is_among xs x) refl
  where
    of : (b : Bool) → is_among xs x ≡ b → is_among xs x ≡ false
    of false e = e
    of true e =
        let i = among_stands xs x e in
        let j = among_stands ys x among in
        let less = slice_get_within xs i.0 x i.1 in
        let clash : i.0 ≡ length xs + j.0 = distinct i.0 (length xs + j.0) x (at_left xs ys i.0 x i.1) (at_right xs ys (length xs + j.0) j.0 refl ∙ j.1) in
        absurd (omega (arith, less, clash))

-- the span of a name that is none of the first
pub span_behind : (ns ms : List (List ℕ)) (ss ts : List Span1) (x : List ℕ) → length ns ≡ length ss → is_among ns x ≡ false → span_named (ns ++ ms) (ss ++ ts) x ≡ span_named ms ts x
span_behind [] ms [] ts x long none = refl
span_behind [] ms (s ∷ ss) ts x long none = absurd (omega (arith, long))
span_behind (n ∷ ns) ms [] ts x long none = absurd (omega (arith, long))
span_behind (n ∷ ns) ms (s ∷ ss) ts x long none = of (same_name n x) none (λ e. span_behind ns ms ss ts x (omega (arith, long)) e)
  where
    of : (b : Bool) → (b || is_among ns x) ≡ false → (is_among ns x ≡ false → span_named (ns ++ ms) (ss ++ ts) x ≡ span_named ms ts x) →
        (if b then Some s else span_named (ns ++ ms) (ss ++ ts) x) ≡ span_named ms ts x
    of true e rest = absurd (cc e)
    of false e rest = rest e

-- ---- spans

module _ (O : Outline) (R : Rules) (ms : Loads) where
  at_spans : (os : List (Option Form)) (xs : List (List ℕ)) (lefts : List (Option Term)) (cs : List Coordinate) → AreCoordinates ms xs os lefts cs → AreAt cs →
      map form_span os ≡ map (variable_span O R) cs
  at_spans [] xs lefts [] h k = refl
  at_spans [] xs lefts (c ∷ cs) h k = absurd h
  at_spans (o ∷ os) [] lefts cs h k = absurd h
  at_spans (o ∷ os) (x ∷ xs) lefts [] h k = absurd h
  at_spans (o ∷ os) (x ∷ xs) lefts (c ∷ cs) h k =
      (let here = of o (first_left lefts) c.index h.1 k.0 in let rest = at_spans os xs (other_lefts lefts) cs h.2 k.1 in λ i. here i ∷ rest i)
    where
      of : (o : Option Form) (left : Option Term) (i : Index) → IsIndex ms o left i → IsAt i → form_span o ≡ variable_span O R (record { variable = x; index = i })
      of (Some f) left (At g) q at = ap exactly (sym q)
      of None left (At g) q at = absurd q
      of o left (Found t) q at = absurd at

  -- behind so many coordinates all are forms
  pub split_spans : (n : ℕ) (os : List (Option Form)) (xs : List (List ℕ)) (lefts : List (Option Term)) (cs : List Coordinate) → AreCoordinates ms xs os lefts cs → AreAt (drop n cs) →
      (ps : List Span1) × (map form_span os ≡ ps ++ map (variable_span O R) (drop n cs)) × (length (take n cs) ≡ length ps)
  split_spans zero [] xs lefts [] h k = ([], refl, refl)
  split_spans zero [] xs lefts (c ∷ cs) h k = absurd h
  split_spans zero (o ∷ os) xs lefts [] h k = absurd (none xs h)
    where
      none : (xs : List (List ℕ)) → AreCoordinates ms xs (o ∷ os) lefts [] → ⊥
      none [] q = q
      none (x ∷ xs) q = q
  split_spans zero (o ∷ os) xs lefts (c ∷ cs) h k = ([], at_spans (o ∷ os) xs lefts (c ∷ cs) h k, refl)
  split_spans (suc n) [] xs lefts [] h k = ([], refl, refl)
  split_spans (suc n) [] xs lefts (c ∷ cs) h k = absurd h
  split_spans (suc n) (o ∷ os) [] lefts cs h k = absurd h
  split_spans (suc n) (o ∷ os) (x ∷ xs) lefts [] h k = absurd h
  split_spans (suc n) (o ∷ os) (x ∷ xs) lefts (c ∷ cs) h k =
      let rest = split_spans n os xs (other_lefts lefts) cs h.2 k in
      (form_span o ∷ rest.0, ap (λ (ss : List Span1). form_span o ∷ ss) rest.1, ap suc rest.2)

  -- the spans where the store stores, where those of left indices are bounded so
  module _ (a : Algorithm) (r : AroundText) (u : FormulaText) (known : Known) (names : List (List ℕ)) (left : List Span1)
      (bounds : (j : ℕ) (e : Term) (s : Span1) → left_at u j ≡ Some e → interval_in a r e ≡ Some s → R.interval known.binders names left (with_calls (as_load ms) e) ≡ s) where
    abbrev pub target : Coordinate → Span1
    target c = target_span O R known names left c

    -- the left index at this place
    abbrev pub nth_left : List (Option Term) → ℕ → Option Term
    nth_left lefts i = elim (slice_get lefts i) [ Some o ↦ o | None ↦ None ]

    first_nth : (lefts : List (Option Term)) → nth_left lefts 0 ≡ first_left lefts
    first_nth [] = refl
    first_nth (o ∷ lefts) = refl

    later_nth : (lefts : List (Option Term)) (i : ℕ) → nth_left lefts (suc i) ≡ nth_left (other_lefts lefts) i
    later_nth [] i = refl
    later_nth (o ∷ lefts) i = refl

    pub targets_behind : (before zs : List Span1) (d : ℕ) (os : List (Option Form)) (xs : List (List ℕ)) (lefts : List (Option Term)) (cs : List Coordinate) → AreCoordinates ms xs os lefts cs →
        ((i : ℕ) → left_at u (d + i) ≡ nth_left lefts i) → coordinates_behind a r u before d os ≡ Some zs → zs ≡ before ++ map target cs
    targets_behind before zs d [] xs lefts [] h same_lefts q = sym (same before zs q) ∙ sym (append-nil before)
    targets_behind before zs d [] xs lefts (c ∷ cs) h same_lefts q = absurd h
    targets_behind before zs d (o ∷ os) [] lefts cs h same_lefts q = absurd h
    targets_behind before zs d (o ∷ os) (x ∷ xs) lefts [] h same_lefts q = absurd h
    targets_behind before zs d (o ∷ os) (x ∷ xs) lefts (c ∷ cs) h same_lefts q =
        let b = bound (coordinate_span a r o (left_at u d)) (λ s. coordinates_behind a r u (before ++ s ∷ []) (d + 1) os) zs q in
        let none : d ≡ d + 0 = omega arith in
        let first : left_at u d ≡ first_left lefts = ap (left_at u) none ∙ same_lefts 0 ∙ first_nth lefts in
        let here : b.value ≡ target c = of o (first_left lefts) c.index h.1 b.value first b.is in
        let rest = targets_behind (before ++ b.value ∷ []) zs (d + 1) os xs (other_lefts lefts) cs h.2
        (λ i. let next : (d + 1) + i ≡ d + suc i = omega arith in ap (left_at u) next ∙ same_lefts (suc i) ∙ later_nth lefts i) b.comes in
        rest ∙ append_assoc before (b.value ∷ []) (map target cs) ∙ ap (λ (s : Span1). before ++ s ∷ map target cs) here
      where
        of : (o : Option Form) (left_here : Option Term) (i : Index) → IsIndex ms o left_here i → (s : Span1) → left_at u d ≡ left_here → coordinate_span a r o (left_at u d) ≡ Some s →
            s ≡ index_place O R known names left i
        of (Some f) left_here (At g) k s first e = sym (same (exactly f) s e) ∙ ap exactly (sym k)
        of (Some f) left_here (Found t) k s first e = absurd k
        of None left_here (At g) k s first e = absurd k
        of None None (Found t) k s first e = absurd k
        of None (Some v) (Found t) k s first e =
            let told : interval_in a r v ≡ Some s = ap (coordinate_span a r None) (sym first) ∙ e in
            sym (bounds d v s first told) ∙ ap (R.interval known.binders names left) (sym k)

-- ---- the indices of a call

pub interval_nth : (O : Outline) (R : Rules) (bs : List Binder) (names : List (List ℕ)) (vars : List Span1) (ms : Loads) (es : Terms) (j : ℕ) (s : Span1) →
    slice_get (intervals O R bs names vars (all_with_calls (as_load ms) es)) j ≡ Some s → (t : Term) × (index_at es j ≡ Some t) × (R.interval bs names vars (with_calls (as_load ms) t) ≡ s)
interval_nth O R bs names vars ms End j s e = absurd (cc e)
interval_nth O R bs names vars ms (More t es) zero s e = (t, refl, same (R.interval bs names vars (with_calls (as_load ms) t)) s e)
interval_nth O R bs names vars ms (More t es) (suc j) s e = interval_nth O R bs names vars ms es j s e

pub variable_nth : (v : List ℕ) (j : ℕ) (es : Terms) (t : Term) → has_variable v j es ≡ true → index_at es j ≡ Some t → is_variable v t ≡ true
variable_nth v j End t h e = absurd (cc e)
variable_nth v zero (More u es) t h e = ap (is_variable v) (sym (same u t e)) ∙ h
variable_nth v (suc j) (More u es) t h e = variable_nth v j es t h e

pub each_nth : (P : List ℕ → Terms → Type 0) (es : Terms) (j : ℕ) (t : Term) → EachCallOfAll P es → index_at es j ≡ Some t → EachCall P t
each_nth P End j t h e = absurd (cc e)
each_nth P (More u es) zero t h e = subst (EachCall P) (same u t e) h.0
each_nth P (More u es) (suc j) t h e = each_nth P es j t h.1 e

pub typed_nth : (known : List ℕ → Bool) (functions : List ℕ → Option (Ty × ℕ)) (es : Terms) (j : ℕ) (t : Term) → are_indices known functions es ≡ true → index_at es j ≡ Some t →
    type_of known functions t ≡ Some I32
typed_nth known functions End j t h e = absurd (cc e)
typed_nth known functions (More u es) zero t h e =
    ap (type_of known functions) (sym (same u t e)) ∙ index-is (type_of known functions u) (both_true (is_index (type_of known functions u)) (are_indices known functions es) h).0
typed_nth known functions (More u es) (suc j) t h e = typed_nth known functions es j t (both_true (is_index (type_of known functions u)) (are_indices known functions es) h).1 e

-- an index at a place where the left index is no variable is shown to be in the region
pub region_nth : (a : Algorithm) (r : AroundText) (u : FormulaText) (d : ℕ) (es : Terms) (xs : List Span1) → is_in_region a r u d es xs ≡ Some true → (j : ℕ) (t : Term) (z : Span1) (e : Term) →
    index_at es j ≡ Some t → slice_get xs j ≡ Some z → left_at u (d + j) ≡ Some e → (s : Span1) × (interval_in a r t ≡ Some s) × (span_inside r.scope s z ≡ true)
region_nth a r u d End xs h j t z e at there left = absurd (cc at)
region_nth a r u d (More i es) [] h j t z e at there left = absurd (cc there)
region_nth a r u d (More i es) (x ∷ xs) h j t z e at there left =
    let b = bound (is_place_bounded a r u d i x) (λ is. if is then is_in_region a r u (d + 1) es xs else Some false) true h in
    of b.value b.is b.comes j at there left (λ k q k_at k_there k_left. region_nth a r u (d + 1) es xs q k t z e k_at k_there k_left)
  where
    here : is_place_bounded a r u d i x ≡ Some true → left_at u d ≡ Some e → (s : Span1) × (interval_in a r i ≡ Some s) × (span_inside r.scope s x ≡ true)
    here q l =
        let counted : counts (Some u) d ≡ true = ap (λ (o : Option Term). elim o [ Some e ↦ true | None ↦ false ]) l in
        let told : (interval_in a r i >>= λ s. Some (span_inside r.scope s x)) ≡ Some true =
        sym (ap (λ (b : Bool). if b then (interval_in a r i >>= λ s. Some (span_inside r.scope s x)) else Some true) counted) ∙ q in
        let c = bound (interval_in a r i) (λ s. Some (span_inside r.scope s x)) true told in
        (c.value, c.is, same (span_inside r.scope c.value x) true c.comes)

    of : (v : Bool) → is_place_bounded a r u d i x ≡ Some v → (if v then is_in_region a r u (d + 1) es xs else Some false) ≡ Some true → (j : ℕ) → index_at (More i es) j ≡ Some t →
        slice_get (x ∷ xs) j ≡ Some z → left_at u (d + j) ≡ Some e →
        ((k : ℕ) → is_in_region a r u (d + 1) es xs ≡ Some true → index_at es k ≡ Some t → slice_get xs k ≡ Some z → left_at u ((d + 1) + k) ≡ Some e →
        (s : Span1) × (interval_in a r t ≡ Some s) × (span_inside r.scope s z ≡ true)) → (s : Span1) × (interval_in a r t ≡ Some s) × (span_inside r.scope s z ≡ true)
    of false q k j at there left later = absurd (cc k)
    of true q k zero at there left later =
        let none : d ≡ d + 0 = omega arith in
        let w = here q (ap (left_at u) none ∙ left) in
        (w.0, ap (interval_in a r) (sym (same i t at)) ∙ w.1, ap (span_inside r.scope w.0) (sym (same x z there)) ∙ w.2)
    of true q k (suc j) at there left later = (let next : (d + 1) + j ≡ d + suc j = omega arith in later j k at there (ap (left_at u) next ∙ left))

-- ---- what is known of the own variables does not matter

module _ (a : Algorithm) (r other : AroundText) (scopes : r.scope ≡ other.scope) (known : List ℕ → Bool)
    (agree : (e : Term) (t : Ty) → type_of known (called a) e ≡ Some t → interval_in a r e ≡ interval_in a other e) where
  pub spans_agree : (es : Terms) (before : List Span1) → are_indices known (called a) es ≡ true → add_spans a r es before ≡ add_spans a other es before
  spans_agree End before h = refl
  spans_agree (More e es) before h =
      let parts = both_true (is_index (type_of known (called a) e)) (are_indices known (called a) es) h in
      let here = agree e I32 (index-is (type_of known (called a) e) parts.0) in
      let rest : (s : Span1) → add_spans a r es (before ++ s ∷ []) ≡ add_spans a other es (before ++ s ∷ []) = λ s. spans_agree es (before ++ s ∷ []) parts.1 in
      λ i. here i >>= λ s. rest s i

  pub input_agrees : (es : Terms) (ns : List ℕ) → are_indices known (called a) es ≡ true → is_on_input a r es ns ≡ is_on_input a other es ns
  input_agrees End [] h = refl
  input_agrees End (n ∷ ns) h = refl
  input_agrees (More e es) [] h = refl
  input_agrees (More e es) (n ∷ ns) h =
      let parts = both_true (is_index (type_of known (called a) e)) (are_indices known (called a) es) h in
      let here = agree e I32 (index-is (type_of known (called a) e) parts.0) in
      let rest = input_agrees es ns parts.1 in
      λ i. here i >>= λ s. if span_inside (scopes i) s (numbers (pos 0) (pos n -ℤ pos 1)) then rest i else Some false
