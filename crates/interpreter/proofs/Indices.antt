-- What is found of the indices of a call, read at a list.
use Rattle.std.proofs.Common.{◌≡◌, ℕ, suc, ◌+◌, ◌<◌, ◌≤◌, List, [], ◌∷◌, ◌++◌, length, take, drop, get_or, drop-cons, add-one, refl, sym, ap, ◌∙◌, ℤ, Option, Some, None}
use Rattle.std.proofs.Math.Seq.{take-append_seam}
use Rattle.std.specs.Prelude.{string_bytes}
use Rattle.std.proofs.lemmas.List.{take_more, take-append-drop, drop_all}
use Rattle.plan.specs.Semantics.Found.{found, all_found, with}
use Rattle.tree.specs.declared.token.span.Span.{Span}
use Rattle.tree.specs.Term.{term_of, list_terms, indices}
use Rattle.tree.specs.declared.value.Value.{Value}
use Rattle.tree.specs.declared.expr.Expr.{Expr}
use Rattle.tree.specs.declared.expr.Cond.TheViews.{Call}
use Rattle.tree.proofs.Rows.{term_of-call}
use Rattle.interpreter.specs.Evaluation.Indices.{indices_in, indices_in_all}
use Rattle.interpreter.specs.Rows.{Listed}

-- one index and the others
abbrev joined : Option Value → Option (List ℤ) → Option (List ℤ)
joined o p = with o (λ x. with p (λ zs. Some (x.number ∷ zs)))

-- the indices of two parts
abbrev both : Option (List ℤ) → Option (List ℤ) → Option (List ℤ)
both p q = with p (λ xs. with q (λ ys. Some (xs ++ ys)))

both-none : (p : Option (List ℤ)) → both p None ≡ None
both-none None = refl
both-none (Some xs) = refl

none_before : (q : Option (List ℤ)) → q ≡ both (Some []) q
none_before None = refl
none_before (Some ys) = refl

joined-both : (o : Option Value) (p q : Option (List ℤ)) → joined o (both p q) ≡ both (joined o p) q
joined-both None p q = refl
joined-both (Some x) None q = refl
joined-both (Some x) (Some xs) None = refl
joined-both (Some x) (Some xs) (Some ys) = refl

-- ---- room for the indices of a call

-- how many indices the calls have in the indices of a call from the i-th on, and those
pub left : List Expr → ℕ → ℕ
left at i = indices_in_all (indices (list_terms (drop i at)))

pub left_all : (at : List Expr) → left at 0 ≡ indices_in_all (indices (list_terms at))
unfolding left
left_all at = refl

pub left_none : (at : List Expr) (i : ℕ) → length at ≤ i → left at i ≡ 0
unfolding left
left_none at i le = ap (λ (l : List Expr). indices_in_all (indices (list_terms l))) (drop_all i at le)

pub left_more : (at : List Expr) (i : ℕ) (e : Expr) → i < length at → e ≡ get_or at i e → left at i ≡ indices_in (term_of e) + left at (i + 1) + 1
unfolding left
left_more at i e lt is =
    ap (λ (l : List Expr). indices_in_all (indices (list_terms l))) (drop-cons at i e lt ∙ ap (λ (x : Expr). x ∷ drop (suc i) at) (sym is))
    ∙ ap (λ (n : ℕ). indices_in (term_of e) + indices_in_all (indices (list_terms (drop n at))) + 1) (sym (add-one i))

pub room-call : (name : _) (at : _) (s : Span) → indices_in (term_of (Call name at s)) ≡ indices_in_all (indices (list_terms at.items))
room-call name at s = ap indices_in (term_of-call name at s)

-- behind what the list held, the numbers stand that were found
pub record Behind (old new : Listed) (o : Option (List ℤ)) : Type 0 where
  pub more : List ℤ
  pub items : new.items ≡ old.items ++ more
  pub room : new.room ≡ old.room
  pub found : o ≡ Some more

pub drop-append_seam : {A : Type 0} (xs ys : List A) → drop (length xs) (xs ++ ys) ≡ ys
drop-append_seam [] ys = refl
drop-append_seam (x ∷ xs) ys = drop-append_seam xs ys

pub behind_front : (old new : Listed) (o : Option (List ℤ)) → Behind old new o → take (length old.items) new.items ≡ old.items
behind_front old new o h = ap (take (length old.items)) h.items ∙ take-append_seam old.items h.more

pub behind_back : (old new : Listed) (o : Option (List ℤ)) → Behind old new o → o ≡ Some (drop (length old.items) new.items)
behind_back old new o h = h.found ∙ ap Some (sym (ap (drop (length old.items)) h.items ∙ drop-append_seam old.items h.more))

module _ (variables : List ℕ → ℤ) (look : List ℕ → List ℤ → Option Value) where
  abbrev FoundOf : List Expr → Option (List ℤ)
  FoundOf at = all_found variables look (indices (list_terms at))

  -- a call's value, by the list of its indices
  pub found-call : (name : _) (at : _) (s : Span) → found variables look (term_of (Call name at s)) ≡ with (FoundOf at.items) (λ zs. look (string_bytes name) zs)
  found-call name at s = ap (found variables look) (term_of-call name at s)

  found-append : (xs ys : List Expr) → FoundOf (xs ++ ys) ≡ both (FoundOf xs) (FoundOf ys)
  found-append [] ys = none_before (FoundOf ys)
  found-append (x ∷ xs) ys = ap (joined (found variables look (term_of x))) (found-append xs ys) ∙ joined-both (found variables look (term_of x)) (FoundOf xs) (FoundOf ys)

  -- an index that has no value
  pub missing : (at : List Expr) (i : ℕ) (e : Expr) → i < length at → e ≡ get_or at i e → found variables look (term_of e) ≡ None → FoundOf at ≡ None
  missing at i e lt is h =
      let before = take i at in
      let after = drop (suc i) at in
      ap FoundOf (sym (take-append-drop i at) ∙ ap (λ l. before ++ l) (drop-cons at i e lt) ∙ ap (λ x. before ++ x ∷ after) (sym is))
      ∙ found-append before (e ∷ after) ∙ ap (λ o. both (FoundOf before) (joined o (FoundOf after))) h ∙ both-none (FoundOf before)

  -- one more index that has a value
  pub one_more : (at : List Expr) (i : ℕ) (e : Expr) (zs made : List ℤ) (v : Value) (n : ℤ) → i < length at → e ≡ get_or at i e → FoundOf (take i at) ≡ Some zs
      → found variables look (term_of e) ≡ Some v → made ≡ zs ++ n ∷ [] → n ≡ v.number → FoundOf (take (i + 1) at) ≡ Some made
  one_more at i e zs made v n lt is so_far here pushed same =
      ap FoundOf (take_more at i e lt ∙ ap (λ x. take i at ++ x ∷ []) (sym is))
      ∙ found-append (take i at) (e ∷ []) ∙ (λ j. both (so_far j) (joined (here j) (Some []))) ∙ ap (λ m. Some (zs ++ m ∷ [])) (sym same) ∙ ap Some (sym pushed)
