-- Definitions over the indices of a call, read at the list of a `Vec`.
use Rattle.std.proofs.Common.{◌≡◌, ℕ, ◌+◌, ◌≤◌, subst, List, [], ◌∷◌, length, map, Bool, Option, ℤ, refl, sym, ap, ◌∙◌, arith}
use Rattle.std.specs.Prelude.{string_bytes, ◌&&◌, is_some, ◌++◌, All}
use Rattle.std.specs.List.{list_all}
use Rattle.std.specs.Global.{Vec}
use Rattle.numeric.specs.declared.ty.Ty.{Ty}
use Rattle.numeric.specs.declared.ty.Ty.TheVariants.{U8, U16, U32, I8, I16, I32}
use Rattle.tree.specs.declared.token.span.Span.{Span}
use Rattle.std.proofs.lemmas.List.Elements.{All-nil, All-cons, All-push}
use Rattle.std.proofs.lemmas.List.{take_more, take_more_set, map-append, append_assoc}
use Rattle.std.proofs.Common.{take, drop, drop-cons, set, get_or, ◌<◌, true, false, Some, None, slice_get}
use Rattle.tree.proofs.Places.{first_in_front}
use Rattle.tree.specs.Term.{term_of, terms_of, list_terms, indices, More, Call as CallTerm}
use Rattle.tree.specs.Typing.{type_of, are_indices, are_typed, index_count, is_index, only_if, answer_type, CanEvaluate, AreEvaluable, shape_type}
use Rattle.tree.specs.Names.{TakesCall, IsIndex}
use Rattle.tree.specs.Meaning.{value_of, numbers_of}
use Rattle.tree.specs.Place.{spans_of, spans_of_all, list_spans, misfit, misfits, misfits_of_all, list_misfits}
use Rattle.tree.specs.declared.value.Value.{Value}
use Rattle.tree.specs.declared.expr.Cond.TheViews.{Call}
use Rattle.tree.specs.declared.expr.Cond.TheBlock.{hidden-the_row-Expr-0}
use Rattle.tree.specs.declared.expr.Expr.{Expr, Row_of-Expr, end_of-Expr, more_of-Expr, items-the_row-Expr, items_hidden-the_row-Expr-0}

terms_of-row : (n : _) (k : Row_of-Expr n) → terms_of k ≡ indices (list_terms (items-the_row-Expr n k))
terms_of-row n end_of-Expr = refl
terms_of-row n (more_of-Expr a rest) = ap (More (term_of a)) (terms_of-row _ rest)

-- a call's term, by the list of its indices
pub term_of-call : (name : _) (at : _) (s : Span) → term_of (Call name at s) ≡ CallTerm (string_bytes name) (indices (list_terms at.items))
term_of-call name at s = ap (CallTerm (string_bytes name)) (terms_of-row _ (hidden-the_row-Expr-0 at) ∙ ap (λ l. indices (list_terms l)) (items_hidden-the_row-Expr-0 at))

spans_of-row : (n : _) (k : Row_of-Expr n) → spans_of_all k ≡ list_spans (items-the_row-Expr n k)
spans_of-row n end_of-Expr = refl
spans_of-row n (more_of-Expr a rest) = ap (λ l. spans_of a ++ l) (spans_of-row _ rest)

-- a call's places, by the list of its indices
pub spans_of-call : (name : _) (at : _) (s : Span) → spans_of (Call name at s) ≡ s ∷ list_spans at.items
spans_of-call name at s = ap (λ l. s ∷ l) (spans_of-row _ (hidden-the_row-Expr-0 at) ∙ ap list_spans (items_hidden-the_row-Expr-0 at))

pub list_spans-append : (xs ys : List Expr) → list_spans (xs ++ ys) ≡ list_spans xs ++ list_spans ys
list_spans-append [] ys = refl
list_spans-append (x ∷ xs) ys = ap (λ l. spans_of x ++ l) (list_spans-append xs ys) ∙ sym (append_assoc (spans_of x) (list_spans xs) (list_spans ys))

pub index_count-indices : (at : List Expr) → index_count (indices (list_terms at)) ≡ length at
index_count-indices [] = refl
index_count-indices (a ∷ rest) = omega (arith, index_count-indices rest)

module _ (vs : List ℕ → Bool) (fs : List ℕ → Option (Ty × ℕ)) where
  are_indices-list : (at : List Expr) → are_indices vs fs (indices (list_terms at)) ≡ list_all (λ a. is_index (type_of vs fs (term_of a))) at
  are_indices-list [] = refl
  are_indices-list (a ∷ rest) = ap (λ b. is_index (type_of vs fs (term_of a)) && b) (are_indices-list rest)

  are_typed-list : (at : List Expr) → are_typed vs fs (indices (list_terms at)) ≡ list_all (λ a. is_some (type_of vs fs (term_of a))) at
  are_typed-list [] = refl
  are_typed-list (a ∷ rest) = ap (λ b. is_some (type_of vs fs (term_of a)) && b) (are_typed-list rest)

  -- a call's type, by the list of its indices
  pub type_of-call : (name : _) (at : _) (s : Span) → type_of vs fs (term_of (Call name at s)) ≡ only_if (list_all (λ a. is_index (type_of vs fs (term_of a))) at.items) (answer_type (fs (string_bytes name)) (length at.items))
  type_of-call name at s =
      ap (type_of vs fs) (term_of-call name at s)
      ∙ (λ i. only_if (are_indices-list at.items i) (answer_type (fs (string_bytes name)) (index_count-indices at.items i)))

  misfits-row : (n : _) (k : Row_of-Expr n) → misfits_of_all vs fs k ≡ list_misfits vs fs (items-the_row-Expr n k)
  misfits-row n end_of-Expr = refl
  misfits-row n (more_of-Expr a rest) = ap (λ l. misfits vs fs a ++ l) (misfits-row _ rest)

  -- a call's misfits, by the list of its indices
  pub misfits-call : (name : _) (at : _) (s : Span) → misfits vs fs (Call name at s) ≡ list_misfits vs fs at.items ++ misfit (list_all (λ a. is_some (type_of vs fs (term_of a))) at.items) (only_if (list_all (λ a. is_index (type_of vs fs (term_of a))) at.items) (answer_type (fs (string_bytes name)) (length at.items))) s
  misfits-call name at s =
      let k = hidden-the_row-Expr-0 at in
      let terms = terms_of-row _ k ∙ ap (λ l. indices (list_terms l)) (items_hidden-the_row-Expr-0 at) in
      let parts = misfits-row _ k ∙ ap (list_misfits vs fs) (items_hidden-the_row-Expr-0 at) in
      let some = ap (are_typed vs fs) terms ∙ are_typed-list at.items in
      λ i. parts i ++ misfit (some i) (type_of-call name at s i) s

  untyped_by : (o : Option Ty) (b c : Bool) → (false ≡ b → c ≡ false) → false ≡ (is_some o && b) → (is_index o && c) ≡ false
  untyped_by None b c f e = refl
  untyped_by (Some U8) b c f e = refl
  untyped_by (Some U16) b c f e = refl
  untyped_by (Some U32) b c f e = refl
  untyped_by (Some I8) b c f e = refl
  untyped_by (Some I16) b c f e = refl
  untyped_by (Some I32) b c f e = f e

  untyped_indices : (xs : List Expr) → false ≡ list_all (λ a. is_some (type_of vs fs (term_of a))) xs → list_all (λ a. is_index (type_of vs fs (term_of a))) xs ≡ false
  untyped_indices [] h = sym h
  untyped_indices (x ∷ xs) h =
      untyped_by (type_of vs fs (term_of x)) (list_all (λ a. is_some (type_of vs fs (term_of a))) xs) (list_all (λ a. is_index (type_of vs fs (term_of a))) xs) (untyped_indices xs) h

  -- a call of which some index has no type has none
  pub type_of-untyped_call : (name : _) (at : Vec Expr) (s : Span) (l : List Expr) → l ≡ at.items → false ≡ list_all (λ a. is_some (type_of vs fs (term_of a))) l
      → type_of vs fs (term_of (Call name at s)) ≡ None
  type_of-untyped_call name at s l same untyped =
      type_of-call name at s
      ∙ ap (λ b. only_if b (answer_type (fs (string_bytes name)) (length at.items))) (untyped_indices at.items (subst (λ xs. false ≡ list_all (λ a. is_some (type_of vs fs (term_of a))) xs) same untyped))

  pub first_misfit-call : (name : _) (at : Vec Expr) (s : Span) (l : List Expr) (p : Span) → l ≡ at.items → slice_get (list_misfits vs fs l) 0 ≡ Some p
      → slice_get (misfits vs fs (Call name at s)) 0 ≡ Some p
  first_misfit-call name at s l p same h =
      ap (λ ps. slice_get ps 0) (misfits-call name at s)
      ∙ first_in_front (list_misfits vs fs at.items) _ p (subst (λ xs. slice_get (list_misfits vs fs xs) 0 ≡ Some p) same h)

  pub type_of-typed_call : (name : _) (at : Vec Expr) (s : Span) (l : List Expr) (fit : Bool) (f : Option (Ty × ℕ)) (n : List ℕ) (count : ℕ) → l ≡ at.items
      → fit ≡ list_all (λ a. is_index (type_of vs fs (term_of a))) l → f ≡ fs n → n ≡ string_bytes name → count ≡ length l
      → only_if fit (answer_type f count) ≡ type_of vs fs (term_of (Call name at s))
  type_of-typed_call name at s l fit f n count same index takes is long =
      (λ i. only_if (index i) (answer_type (takes i) (long i)))
      ∙ (λ i. only_if (list_all (λ a. is_index (type_of vs fs (term_of a))) (same i)) (answer_type (fs (is i)) (length (same i))))
      ∙ sym (type_of-call name at s)

  pub misfits-typed_call : (name : _) (at : Vec Expr) (s : Span) (l : List Expr) (o : Option Ty) → l ≡ at.items → o ≡ type_of vs fs (term_of (Call name at s))
      → list_misfits vs fs l ≡ [] → true ≡ list_all (λ a. is_some (type_of vs fs (term_of a))) l → misfits vs fs (Call name at s) ≡ misfit true o s
  misfits-typed_call name at s l o same ty none typed =
      misfits-call name at s
      ∙ (λ i. list_misfits vs fs (sym same i) ++ misfit (list_all (λ a. is_some (type_of vs fs (term_of a))) (sym same i)) (sym (ty ∙ type_of-call name at s) i) s)
      ∙ (λ i. none i ++ misfit (sym typed i) o s)

  -- the first misfit of what is left of a list is that of the list
  pub first_misfit-rest : (at : List Expr) (i : ℕ) (x : Expr) (p : Span) → i < length at → x ≡ get_or at i x → slice_get (misfits vs fs x) 0 ≡ Some p
      → list_misfits vs fs (drop i at) ≡ list_misfits vs fs at → slice_get (list_misfits vs fs at) 0 ≡ Some p
  first_misfit-rest at i x p lt is h rest =
      ap (λ ps. slice_get ps 0) (sym rest ∙ ap (list_misfits vs fs) (drop-cons at i x lt))
      ∙ first_in_front (misfits vs fs (get_or at i x)) _ p (subst (λ e. slice_get (misfits vs fs e) 0 ≡ Some p) is h)

  pub list_misfits-append : (xs ys : List Expr) → list_misfits vs fs (xs ++ ys) ≡ list_misfits vs fs xs ++ list_misfits vs fs ys
  list_misfits-append [] ys = refl
  list_misfits-append (x ∷ xs) ys = ap (λ l. misfits vs fs x ++ l) (list_misfits-append xs ys) ∙ sym (append_assoc (misfits vs fs x) (list_misfits vs fs xs) (list_misfits vs fs ys))

  pub record IndicesReady (at : List Expr) : Type 0 where
    pub typed : All (λ a. CanEvaluate vs fs (term_of a)) at
    pub indices : All (λ a. shape_type fs (term_of a) ≡ I32) at

  evaluable-list : (at : List Expr) → AreEvaluable vs fs (indices (list_terms at)) → IndicesReady at
  evaluable-list [] h = record { typed = All-nil (λ a. CanEvaluate vs fs (term_of a)); indices = All-nil (λ a. shape_type fs (term_of a) ≡ I32) }
  evaluable-list (a ∷ rest) h =
      let r = evaluable-list rest h.2 in
      record { typed = All-cons (λ b. CanEvaluate vs fs (term_of b)) a _ h.0 r.typed; indices = All-cons (λ b. shape_type fs (term_of b) ≡ I32) a _ h.1 r.indices }

  pub record CallReady (name : List ℕ) (at : List Expr) : Type 0 where
    pub known : TakesCall (fs name) (length at)
    pub few : length at ≤ 4
    pub ready : IndicesReady at

  -- what a call that can be evaluated gives
  pub call_ready : (name : _) (at : _) (s : Span) → CanEvaluate vs fs (term_of (Call name at s)) → CallReady (string_bytes name) at.items
  call_ready name at s h =
      let g = subst (CanEvaluate vs fs) (term_of-call name at s) h in
      let count = index_count-indices at.items in
      record {
        known = subst (TakesCall (fs (string_bytes name))) count g.0;
        few = subst (λ n. n ≤ 4) count g.1;
        ready = evaluable-list at.items g.2;
      }

module _ (vs : List ℕ → ℤ) (calls : List ℕ → List ℤ → Value) where
  numbers_of-list : (at : List Expr) → numbers_of vs calls (indices (list_terms at)) ≡ map (λ a. (value_of vs calls (term_of a)).number) at
  numbers_of-list [] = refl
  numbers_of-list (a ∷ rest) = ap (λ zs. (value_of vs calls (term_of a)).number ∷ zs) (numbers_of-list rest)

  -- a call's value, by the list of its indices
  pub value_of-call : (name : _) (at : _) (s : Span) → value_of vs calls (term_of (Call name at s)) ≡ calls (string_bytes name) (map (λ a. (value_of vs calls (term_of a)).number) at.items)
  value_of-call name at s = ap (value_of vs calls) (term_of-call name at s) ∙ ap (calls (string_bytes name)) (numbers_of-list at.items)

-- one more number of a call's indices
pub more_numbers : (f : Expr → ℤ) (xs : List ℤ) (at : List Expr) (i : ℕ) (v : ℤ) (e : Expr) → i < length xs → i < length at → e ≡ get_or at i e → v ≡ f e
    → take i xs ≡ map f (take i at) → take (i + 1) (set xs i v) ≡ map f (take (i + 1) at)
more_numbers f xs at i v e h k is same so_far =
    take_more_set xs i v h ∙ (λ j. so_far j ++ same j ∷ []) ∙ (λ j. map f (take i at) ++ f (is j) ∷ [])
    ∙ sym (map-append f (take i at) (get_or at i e ∷ [])) ∙ ap (map f) (sym (take_more at i e k))

pub more_within : (xs : List ℤ) (i : ℕ) (v : ℤ) → i < length xs → All IsIndex (take i xs) → IsIndex v → All IsIndex (take (i + 1) (set xs i v))
more_within xs i v h so_far is = subst (All IsIndex) (sym (take_more_set xs i v h)) (All-push IsIndex (take i xs) v so_far is)

-- one more of a list that is copied
pub more_terms : (made at : List Expr) (i : ℕ) (e x : Expr) → i < length at → x ≡ get_or at i x → term_of e ≡ term_of x
    → list_terms made ≡ list_terms (take i at) → list_terms (made ++ e ∷ []) ≡ list_terms (take (i + 1) at)
more_terms made at i e x lt is same so_far =
    map-append term_of made (e ∷ []) ∙ (λ j. so_far j ++ same j ∷ []) ∙ (λ j. list_terms (take i at) ++ term_of (is j) ∷ [])
    ∙ sym (map-append term_of (take i at) (get_or at i x ∷ [])) ∙ ap list_terms (sym (take_more at i x lt))

pub more_spans : (made at : List Expr) (i : ℕ) (e x : Expr) → i < length at → x ≡ get_or at i x → spans_of e ≡ spans_of x
    → list_spans made ≡ list_spans (take i at) → list_spans (made ++ e ∷ []) ≡ list_spans (take (i + 1) at)
more_spans made at i e x lt is same so_far =
    list_spans-append made (e ∷ []) ∙ (λ j. so_far j ++ (same j ++ [])) ∙ (λ j. list_spans (take i at) ++ (spans_of (is j) ++ []))
    ∙ sym (list_spans-append (take i at) (get_or at i x ∷ [])) ∙ ap list_spans (sym (take_more at i x lt))
