-- A left index that is no variable has the function's reduction variables alone, so that what is known of the function's own variables does not matter to it; and it does not call the function.
use Rattle.std.proofs.Common.{◌≡◌, ℕ, zero, suc, ◌≤◌, Bool, true, false, ◌&&◌, ◌||◌, not, List, [], ◌∷◌, ◌++◌, length, map, Option, Some, None, refl, ap, ◌∙◌, subst, sym, arith}
use Rattle.std.specs.Prelude.{All, IsTrue, if◌then◌else◌, option_map, slice_get, pos, is_some}
use Rattle.std.specs.List.{AllByRecursion}
use Rattle.std.proofs.lemmas.List.Elements.{recursion_from_All}
use Rattle.numeric.specs.declared.ty.Ty.{Ty}
use Rattle.numeric.specs.declared.ty.Ty.TheVariants.{I32}
use Rattle.numeric.specs.Apply.{result_type}
use Rattle.tree.specs.Term.{Term, Number, Name, Call, Minus, Binary, Clamp, Cast, Choice, Terms, End, More, Test, Compares, Fails, Both, Either}
use Rattle.tree.specs.Typing.{only_if, answer_type, index_count, common, cast_type, operator_type, is_index, type_of, is_typed, are_indices, shape_type}
use Rattle.tree.specs.Uses.{variables_of, variables_of_test, variables_of_all, EachCall}
use Rattle.tree.proofs.Uses.{each_call-weaker}
use Rattle.lin.specs.declared.scope.Binding.{Binding}
use Rattle.lin.specs.declared.span.Span1.{Span1}
use Rattle.lin.proofs.TermLemmas.{all_weaker}
use Rattle.bounds.specs.Spans.{exactly, fitted, difference_of, minimum_of, maximum_of, choice_of, binary_of}
use Rattle.bounds.specs.Interval.{span_named, coordinate_of, literal_of, both, interval}
use Rattle.meaning.specs.Algorithm.{Range, Change, Function, Algorithm}
use Rattle.meaning.specs.Names.{same_name, is_among}
use Rattle.meaning.specs.Conditions.{IsAlgorithm, is_variable, has_variable, callable, names_in}
use Rattle.meaning.specs.Functions.{GoesBack}
use Rattle.meaning.specs.Inlining.Laws.{HasType, KeepsItsSide}
use Rattle.meaning.specs.Inlining.PutIn.{put_in}
use Rattle.meaning.proofs.Back.{update_is, left_goes_back}
use Rattle.meaning.proofs.InliningTyped.{only_if-is, common-is, operator-is, some-is}
use Rattle.meaning.proofs.Own.{put_in_keeps_type, sides_keep}
use Rattle.sched.specs.Standing.{◌>>=◌}
use Rattle.sched.specs.Subjects.{is_pure, lacks}
use Rattle.sched.specs.Stored.{FormulaText, left_at}
use Rattle.blocks.specs.Stored.{put, left_put, lefts_put, formulas_put}
use Rattle.sched.specs.Around.{range_names, ranges_of, names_with}
use Rattle.blocks.proofs.Laying.{bound, same}
use Rattle.completeness.proofs.Defined.{put_is, first_put, other_put}
use Rattle.headline.proofs.Lists.{from_map}
use Rattle.std.proofs.lemmas.List.{length-map}
use Rattle.completeness.proofs.Earlier.{put_back}
use Rattle.completeness.proofs.OwnCalls.{back_other}
use Rattle.completeness.proofs.PureNests.{all_get}

split_all : {A : Type 0} (P : A → Type 0) (xs ys : List A) → AllByRecursion P (xs ++ ys) → AllByRecursion P xs × AllByRecursion P ys
split_all P [] ys h = (tt, h)
split_all P (x ∷ xs) ys h = (let r = split_all P xs ys h.1 in ((h.0, r.0), r.1))

-- ---- names that are known alike where they stand give one type

module _ (known other : List ℕ → Bool) (functions : List ℕ → Option (Ty × ℕ)) where
  abbrev Agrees : List ℕ → Type 0
  Agrees x = known x ≡ other x

  abbrev AllAgree : List (List ℕ) → Type 0
  AllAgree xs = AllByRecursion Agrees xs

  mutual
    pub type_agrees : (e : Term) → AllAgree (variables_of e) → type_of known functions e ≡ type_of other functions e
    type_agrees (Number t n) v = refl
    type_agrees (Name x) v = ap (λ (b : Bool). only_if b (Some I32)) v.0
    type_agrees (Call x at) v = ap (λ (b : Bool). only_if b (answer_type (functions x) (index_count at))) (indices_agree at v)
    type_agrees (Minus a) v = type_agrees a v
    type_agrees (Binary op a b) v =
        let p = split_all Agrees (variables_of a) (variables_of b) v in
        let s = type_agrees a p.0 in
        let t = type_agrees b p.1 in
        λ i. operator_type op (common (s i) (t i))
    type_agrees (Clamp a l u) v =
        let p = split_all Agrees (variables_of a ++ variables_of l) (variables_of u) v in
        let q = split_all Agrees (variables_of a) (variables_of l) p.0 in
        let s = type_agrees a q.0 in
        let t = type_agrees l q.1 in
        let w = type_agrees u p.1 in
        λ i. common (s i) (common (t i) (w i))
    type_agrees (Cast t a) v = ap (cast_type t) (type_agrees a v)
    type_agrees (Choice c a b) v =
        let p = split_all Agrees (variables_of_test c ++ variables_of a) (variables_of b) v in
        let q = split_all Agrees (variables_of_test c) (variables_of a) p.0 in
        let s = test_agrees c q.0 in
        let t = type_agrees a q.1 in
        let w = type_agrees b p.1 in
        λ i. only_if (s i) (common (t i) (w i))

    test_agrees : (c : Test) → AllAgree (variables_of_test c) → is_typed known functions c ≡ is_typed other functions c
    test_agrees (Compares by a b) v =
        let p = split_all Agrees (variables_of a) (variables_of b) v in
        let s = type_agrees a p.0 in
        let t = type_agrees b p.1 in
        ap is_some (λ i. common (s i) (t i))
    test_agrees (Fails c) v = test_agrees c v
    test_agrees (Both c d) v =
        let p = split_all Agrees (variables_of_test c) (variables_of_test d) v in
        let s = test_agrees c p.0 in
        let t = test_agrees d p.1 in
        λ i. s i && t i
    test_agrees (Either c d) v =
        let p = split_all Agrees (variables_of_test c) (variables_of_test d) v in
        let s = test_agrees c p.0 in
        let t = test_agrees d p.1 in
        λ i. s i && t i

    indices_agree : (at : Terms) → AllAgree (variables_of_all at) → are_indices known functions at ≡ are_indices other functions at
    indices_agree End v = refl
    indices_agree (More a rest) v =
        let p = split_all Agrees (variables_of a) (variables_of_all rest) v in
        let s = type_agrees a p.0 in
        let t = indices_agree rest p.1 in
        λ i. is_index (s i) && t i

-- ---- spans that are alike for the names that are known give one interval

module _ (scope : List Binding) (functions : List ℕ → Option (Ty × ℕ)) (names again : List (List ℕ)) (firsts others : List Span1) (known : List ℕ → Bool)
    (agree : (x : List ℕ) → known x ≡ true → span_named names firsts x ≡ span_named again others x) where
  pub interval_agrees : (e : Term) (t : Ty) → type_of known functions e ≡ Some t → interval scope functions names firsts e ≡ interval scope functions again others e
  interval_agrees (Number u n) t h = refl
  interval_agrees (Name x) t h = ap coordinate_of (agree x (only_if-is (known x) (Some I32) t h).0)
  interval_agrees (Call x at) t h = refl
  interval_agrees (Minus a) t h =
      let s = interval_agrees a t h in
      λ i. both (exactly (pos 0)) (s i) (λ zero s. difference_of scope (shape_type functions a) zero s)
  interval_agrees (Binary op a b) t h =
      let k = operator-is op (common (type_of known functions a) (type_of known functions b)) t h in
      let m = common-is (type_of known functions a) (type_of known functions b) k.0 k.1 in
      let s = interval_agrees a k.0 m.0 in
      let u = interval_agrees b k.0 m.1 in
      λ i. both (s i) (u i) (λ s u. binary_of scope op (result_type op (shape_type functions a)) (literal_of a) (literal_of b) s u)
  interval_agrees (Clamp a l v) t h =
      let k = common-is (type_of known functions a) (common (type_of known functions l) (type_of known functions v)) t h in
      let m = common-is (type_of known functions l) (type_of known functions v) t k.1 in
      let s = interval_agrees a t k.0 in
      let u = interval_agrees l t m.0 in
      let w = interval_agrees v t m.1 in
      λ i. both (both (s i) (w i) (λ s u. minimum_of scope (shape_type functions a) s u)) (u i) (λ s u. maximum_of scope (shape_type functions a) s u)
  interval_agrees (Cast v a) t h =
      let k = only_if-is _ (Some v) t h in
      let m = some-is (type_of known functions a) k.0 in
      ap (option_map (fitted scope v)) (interval_agrees a m.0 m.1)
  interval_agrees (Choice c a b) t h =
      let k = only_if-is (is_typed known functions c) (common (type_of known functions a) (type_of known functions b)) t h in
      let m = common-is (type_of known functions a) (type_of known functions b) t k.1 in
      let s = interval_agrees a t m.0 in
      let u = interval_agrees b t m.1 in
      λ i. both (s i) (u i) (λ s u. choice_of scope (shape_type functions a) s u)

-- ---- the left indices of an update

among_behind : (xs ys : List (List ℕ)) (x : List ℕ) → is_among xs x ≡ false → is_among (xs ++ ys) x ≡ is_among ys x
among_behind [] ys x none = refl
among_behind (y ∷ xs) ys x none = of (same_name y x) none (λ e. among_behind xs ys x e)
  where
    of : (b : Bool) → (b || is_among xs x) ≡ false → (is_among xs x ≡ false → is_among (xs ++ ys) x ≡ is_among ys x) → (b || is_among (xs ++ ys) x) ≡ is_among ys x
    of true e rest = absurd (cc e)
    of false e rest = rest e

-- the index that the algorithm has there
record IsPut (a : Algorithm) (st : List Bool) (xs : List (List ℕ)) (es : List Term) (j : ℕ) (e : Term) : Type 0 where
  variable : List ℕ
  index : Term
  named : slice_get xs j ≡ Some variable
  at : slice_get es j ≡ Some index
  other : is_variable variable index ≡ false
  put_so : put a st index ≡ Some e

put_at : (a : Algorithm) (st : List Bool) (xs : List (List ℕ)) (es : List Term) (os : List (Option Term)) → lefts_put a st xs es ≡ Some os → (j : ℕ) (e : Term) → slice_get os j ≡ Some (Some e) →
    IsPut a st xs es j e
put_at a st [] es os q j e at = absurd (none (ap (λ (l : List (Option Term)). slice_get l j) (same [] os q) ∙ at))
  where
    none : None ≡ Some (Some e) → ⊥
    none k = cc k
put_at a st (x ∷ xs) [] os q j e at = absurd (none (ap (λ (l : List (Option Term)). slice_get l j) (same [] os q) ∙ at))
  where
    none : None ≡ Some (Some e) → ⊥
    none k = cc k
put_at a st (x ∷ xs) (i ∷ is) os q j e at =
    let b = bound (left_put a st x i) (λ o. lefts_put a st xs is >>= λ rest. Some (o ∷ rest)) os q in
    let c = bound (lefts_put a st xs is) (λ rest. Some (b.value ∷ rest)) os b.comes in
    by b.value c.value b.is j (ap (λ (l : List (Option Term)). slice_get l j) (same (b.value ∷ c.value) os c.comes) ∙ at) (λ k w. put_at a st xs is c.value c.is k e w)
  where
    here : (t : Bool) → is_variable x i ≡ t → (if t then Some None else (put a st i >>= λ u. Some (Some u))) ≡ Some (Some e) → IsPut a st (x ∷ xs) (i ∷ is) 0 e
    here true h k = (let clash : None ≡ Some e = same None (Some e) k in absurd (cc clash))
    here false h k =
        let d = bound (put a st i) (λ u. Some (Some u)) (Some e) k in
        let value : Some d.value ≡ Some e = same (Some d.value) (Some e) d.comes in
        record { variable = x; index = i; named = refl; at = refl; other = h; put_so = d.is ∙ value }

    by : (o : Option Term) (rest : List (Option Term)) → left_put a st x i ≡ Some o → (j : ℕ) → slice_get (o ∷ rest) j ≡ Some (Some e) →
        ((k : ℕ) → slice_get rest k ≡ Some (Some e) → IsPut a st xs is k e) → IsPut a st (x ∷ xs) (i ∷ is) j e
    by o rest made zero w later = here (is_variable x i) refl (made ∙ ap (λ (v : Option Term). Some v) (same o (Some e) w))
    by o rest made (suc k) w later =
        let r = later k w in
        record { variable = r.variable; index = r.index; named = r.named; at = r.at; other = r.other; put_so = r.put_so }

pub left_got : (u : FormulaText) (j : ℕ) (e : Term) → left_at u j ≡ Some e → slice_get u.at j ≡ Some (Some e)
left_got u j e h = of (slice_get u.at j) h
  where
    of : (o : Option (Option Term)) → elim o [ Some i ↦ i | None ↦ None ] ≡ Some e → o ≡ Some (Some e)
    of None q = absurd (cc q)
    of (Some v) q = ap (λ (t : Option Term). Some t) q

-- as many left indices as variables
lefts_long : (a : Algorithm) (st : List Bool) (xs : List (List ℕ)) (es : List Term) (os : List (Option Term)) → lefts_put a st xs es ≡ Some os → length os ≤ length xs
lefts_long a st [] es os q = (let is = ap length (same [] os q) in omega (arith, is))
lefts_long a st (x ∷ xs) [] os q = (let is = ap length (same [] os q) in omega (arith, is))
lefts_long a st (x ∷ xs) (e ∷ es) os q =
    let b = bound (left_put a st x e) (λ o. lefts_put a st xs es >>= λ rest. Some (o ∷ rest)) os q in
    let c = bound (lefts_put a st xs es) (λ rest. Some (b.value ∷ rest)) os b.comes in
    let is = ap length (same (b.value ∷ c.value) os c.comes) in
    let rest = lefts_long a st xs es c.value c.is in
    omega (arith, is, rest)

module _ (a : Algorithm) (well : IsAlgorithm a) (place : ℕ) (f : Function) (at_place : slice_get a.functions place ≡ Some f) (st : List Bool) (fs : List FormulaText)
    (defined : formulas_put a st f.variables f.value f.changes ≡ Some fs) where
  -- what is so of the left index at this place of the update of this number, with the calls put in
  pub record IsRangedLeft (i j : ℕ) (e : Term) : Type 0 where
    pub change : Change
    pub changes : slice_get f.changes i ≡ Some change
    pub variable : List ℕ
    pub named : slice_get f.variables j ≡ Some variable
    pub lacking : lacks variable j change ≡ true
    pub typed : type_of (is_among (range_names change.ranges)) (callable a a.functions) e ≡ Some I32
    pub wide : type_of (is_among (names_in f change)) (callable a a.functions) e ≡ Some I32
    pub others : EachCall (λ name at. name ≡ f.name → ⊥) e

  pub left_ranged : (i : ℕ) (u : FormulaText) → slice_get fs (suc i) ≡ Some u → (j : ℕ) (e : Term) → slice_get u.at j ≡ Some (Some e) → IsRangedLeft i j e
  left_ranged i u there j e at =
      let o = other_put a st f.variables f.value f.changes fs i u defined there in
      let y = o.change in
      let m = bound (lefts_put a st f.variables y.at) (λ at. put a st y.value >>= λ v. Some (record { at = at; value = v })) u o.is in
      let r = bound (put a st y.value) (λ v. Some (record { at = m.value; value = v })) u m.comes in
      let made : FormulaText = record { at = m.value; value = r.value } in
      let is : made ≡ u = same made u r.comes in
      let p = put_at a st f.variables y.at m.value m.is j e (ap (λ (z : FormulaText). slice_get z.at j) is ∙ at) in
      let q = p.index in
      let update = update_is a place f well at_place i y o.at in
      let rn = range_names y.ranges in
      let Told : List ℕ → Terms → Type 0 = λ name at. IsTrue (same_name f.name name) → IsTrue (has_variable p.variable j at) in
      let keeps : All (λ name. is_among f.variables name ≡ false) (variables_of q) =
      subst (λ (b : Bool). elim b as (λ w. Type 0) [ true ↦ EachCall Told y.value | false ↦ All (λ name. is_among f.variables name ≡ false) (variables_of q) ]) p.other
      (update.kept j p.variable q p.named p.at) in
      let sides = sides_keep a [] well place f at_place (λ z. pos 0) st i y o.at in
      let all_typed : AllByRecursion (λ t. HasType a (is_among (names_in f y)) I32 t) y.at =
      all_weaker (KeepsItsSide a st _ (names_in f y) I32) (λ t. HasType a (is_among (names_in f y)) I32 t) (λ t k. k.has_type) y.at (recursion_from_All _ y.at sides.left) in
      let wide : HasType a (is_among (names_in f y)) I32 q = all_get (λ t. HasType a (is_among (names_in f y)) I32 t) y.at j q all_typed p.at in
      let agrees : AllByRecursion (λ x. is_among rn x ≡ is_among (names_in f y) x) (variables_of q) =
      all_weaker (λ name. is_among f.variables name ≡ false) (λ x. is_among rn x ≡ is_among (names_in f y) x) (λ x none. sym (among_behind f.variables rn x none)) (variables_of q)
      (recursion_from_All _ (variables_of q) keeps) in
      let narrow : HasType a (is_among rn) I32 q = type_agrees (is_among rn) (is_among (names_in f y)) (callable a a.functions) q agrees ∙ wide in
      let put_is_e : put_in a st q ≡ e = (put_is a st q e p.put_so).1 in
      let typed : HasType a (is_among rn) I32 e = ap (type_of (is_among rn) (callable a a.functions)) (sym put_is_e) ∙ put_in_keeps_type a well st (is_among rn) I32 q narrow in
      let backs : AllByRecursion (EachCall (λ name at. GoesBack a place name)) y.at = recursion_from_All _ y.at (left_goes_back a place f well at_place i y o.at) in
      let back = put_back a well place st q (all_get (EachCall (λ name at. GoesBack a place name)) y.at j q backs p.at) in
      record {
        change = y;
        changes = o.at;
        variable = p.variable;
        named = p.named;
        lacking = ap (λ (t : Option Term). not (is_pure p.variable t)) p.at ∙ ap not p.other;
        typed = typed;
        wide = ap (type_of (is_among (names_in f y)) (callable a a.functions)) (sym put_is_e) ∙ put_in_keeps_type a well st (is_among (names_in f y)) I32 q wide;
        others = each_call-weaker (λ name at. GoesBack a place name) (λ name at. name ≡ f.name → ⊥) (λ name at h. back_other a well place f at_place (λ terms. ⊥) name h) e
            (subst (EachCall (λ name at. GoesBack a place name)) put_is_e back);
      }

  -- a left index that is no variable is one of an update
  pub left_of_update : (d : ℕ) (u : FormulaText) → slice_get fs d ≡ Some u → (j : ℕ) (e : Term) → slice_get u.at j ≡ Some (Some e) → (i : ℕ) × (d ≡ suc i) × IsRangedLeft i j e
  left_of_update zero u there j e stands =
      let put_first = first_put a st f.variables f.value f.changes fs u defined there in
      let r = bound (put a st f.value) (λ v. Some (record { at = map (λ x. None) f.variables; value = v })) u put_first in
      let nothing : List ℕ → Option Term = λ x. None in
      let pure : u.at ≡ map nothing f.variables = sym (ap (λ (y : FormulaText). y.at) (same (record { at = map (λ x. None) f.variables; value = r.value }) u r.comes)) in
      let none = from_map nothing f.variables j (Some e) (ap (λ (os : List (Option Term)). slice_get os j) (sym pure) ∙ stands) in
      absurd (cc (none.2))
  left_of_update (suc i) u there j e stands = (i, refl, left_ranged i u there j e stands)

  -- it is an i32 over the reduction variables, and over all names of the update
  pub left_typed : (d : ℕ) (u : FormulaText) → slice_get fs d ≡ Some u → (j : ℕ) (e : Term) → slice_get u.at j ≡ Some (Some e) →
      (type_of (is_among (range_names (ranges_of f.changes d))) (callable a a.functions) e ≡ Some I32)
      × (type_of (is_among (names_with f.variables f.changes d)) (callable a a.functions) e ≡ Some I32)
  left_typed d u there j e stands =
      let x = left_of_update d u there j e stands in
      let r = x.2 in
      let changes : ranges_of f.changes d ≡ r.change.ranges = ap (ranges_of f.changes) x.1 ∙ ap (λ (o : Option Change). elim o [ Some y ↦ y.ranges | None ↦ [] ]) r.changes in (
        subst (λ (ds : List Range). type_of (is_among (range_names ds)) (callable a a.functions) e ≡ Some I32) (sym changes) r.typed,
        subst (λ (ds : List Range). type_of (is_among (f.variables ++ range_names ds)) (callable a a.functions) e ≡ Some I32) (sym changes) r.wide,
      )

  -- as many left indices as variables
  pub lefts_few : (d : ℕ) (u : FormulaText) → slice_get fs d ≡ Some u → length u.at ≤ length f.variables
  lefts_few zero u there =
      let put_first = first_put a st f.variables f.value f.changes fs u defined there in
      let r = bound (put a st f.value) (λ v. Some (record { at = map (λ x. None) f.variables; value = v })) u put_first in
      let nothing : List ℕ → Option Term = λ x. None in
      let pure : u.at ≡ map nothing f.variables = sym (ap (λ (y : FormulaText). y.at) (same (record { at = map (λ x. None) f.variables; value = r.value }) u r.comes)) in
      let long = ap length pure ∙ length-map f.variables nothing in
      omega (arith, long)
  lefts_few (suc i) u there =
      let o = other_put a st f.variables f.value f.changes fs i u defined there in
      let m = bound (lefts_put a st f.variables o.change.at) (λ at. put a st o.change.value >>= λ v. Some (record { at = at; value = v })) u o.is in
      let r = bound (put a st o.change.value) (λ v. Some (record { at = m.value; value = v })) u m.comes in
      let long = lefts_long a st f.variables o.change.at m.value m.is in
      let is = ap (λ (z : FormulaText). length z.at) (same (record { at = m.value; value = r.value }) u r.comes) in
      omega (arith, long, is)
