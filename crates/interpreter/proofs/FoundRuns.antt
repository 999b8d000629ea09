-- What an expression finds, by what its parts find.
use Rattle.std.proofs.Common.{◌≡◌, ℕ, List, Option, Some, None, ap, ◌∙◌, ℤ}
use Rattle.std.specs.Prelude.{IfSome, string_bytes, Bool, not, ◌&&◌, ◌||◌, if◌then◌else◌}
use Rattle.numeric.specs.declared.op.Op.{Op}
use Rattle.numeric.specs.declared.op.Comparison.{Comparison}
use Rattle.numeric.specs.Apply.{compare}
use Rattle.numeric.specs.declared.ty.Ty.{Ty}
use Rattle.numeric.specs.Wrap.{wrap}
use Rattle.tree.specs.declared.value.Value.{Value}
use Rattle.tree.specs.declared.expr.Cond.TheViews.{Call}
use Rattle.tree.specs.declared.token.span.Span.{Span}
use Rattle.tree.proofs.Rows.{term_of-call}
use Rattle.tree.specs.Term.{term_of, indices, list_terms, Term, Minus, Binary, Clamp, Cast, Choice, Test, Compares, Fails, Both, Either}
use Rattle.tree.specs.Meaning.{typed, negated, applied, clamped}
use Rattle.plan.specs.Semantics.Found.{with, found, test_found, all_found}

module _ (vs : List ℕ → ℤ) (look : List ℕ → List ℤ → Option Value) where
  pub found_minus : (a : Term) (x : Value) → found vs look a ≡ Some x → found vs look (Minus a) ≡ Some (negated x)
  found_minus a x h = ap (λ (o : Option Value). with o (λ y. Some (negated y))) h

  pub found_cast : (t : Ty) (a : Term) (x : Value) → found vs look a ≡ Some x → found vs look (Cast t a) ≡ Some (typed t (wrap t x.number))
  found_cast t a x h = ap (λ (o : Option Value). with o (λ y. Some (typed t (wrap t y.number)))) h

  pub found_binary : (op : Op) (a b : Term) (x y : Value) → found vs look a ≡ Some x → found vs look b ≡ Some y → found vs look (Binary op a b) ≡ Some (applied op x y)
  found_binary op a b x y h k =
      ap (λ (o : Option Value). with o (λ u. with (found vs look b) (λ w. Some (applied op u w)))) h ∙ ap (λ (o : Option Value). with o (λ w. Some (applied op x w))) k

  pub found_clamp : (a b c : Term) (x y z : Value) → found vs look a ≡ Some x → found vs look b ≡ Some y → found vs look c ≡ Some z → found vs look (Clamp a b c) ≡ Some (clamped x y z)
  found_clamp a b c x y z h k l =
      ap (λ (o : Option Value). with o (λ u. with (found vs look b) (λ v. with (found vs look c) (λ w. Some (clamped u v w))))) h
      ∙ ap (λ (o : Option Value). with o (λ v. with (found vs look c) (λ w. Some (clamped x v w)))) k
      ∙ ap (λ (o : Option Value). with o (λ w. Some (clamped x y w))) l

  pub found_choice : (c : Test) (a b : Term) (s : Bool) (x y : Value) → test_found vs look c ≡ Some s → found vs look a ≡ Some x → found vs look b ≡ Some y → found vs look (Choice c a b) ≡ Some (if s then x else y)
  found_choice c a b s x y h k l =
      ap (λ (o : Option Bool). with o (λ t. with (found vs look a) (λ u. with (found vs look b) (λ v. Some (if t then u else v))))) h
      ∙ ap (λ (o : Option Value). with o (λ u. with (found vs look b) (λ v. Some (if s then u else v)))) k
      ∙ ap (λ (o : Option Value). with o (λ v. Some (if s then x else v))) l

  pub found_compares : (by : Comparison) (a b : Term) (x y : Value) → found vs look a ≡ Some x → found vs look b ≡ Some y → test_found vs look (Compares by a b) ≡ Some (compare by x.number y.number)
  found_compares by a b x y h k =
      ap (λ (o : Option Value). with o (λ u. with (found vs look b) (λ w. Some (compare by u.number w.number)))) h ∙ ap (λ (o : Option Value). with o (λ w. Some (compare by x.number w.number))) k

  pub found_fails : (c : Test) (s : Bool) → test_found vs look c ≡ Some s → test_found vs look (Fails c) ≡ Some (not s)
  found_fails c s h = ap (λ (o : Option Bool). with o (λ t. Some (not t))) h

  pub found_both : (c d : Test) (s t : Bool) → test_found vs look c ≡ Some s → test_found vs look d ≡ Some t → test_found vs look (Both c d) ≡ Some (s && t)
  found_both c d s t h k =
      ap (λ (o : Option Bool). with o (λ u. with (test_found vs look d) (λ w. Some (u && w)))) h ∙ ap (λ (o : Option Bool). with o (λ w. Some (s && w))) k

  pub found_either : (c d : Test) (s t : Bool) → test_found vs look c ≡ Some s → test_found vs look d ≡ Some t → test_found vs look (Either c d) ≡ Some (s || t)
  found_either c d s t h k =
      ap (λ (o : Option Bool). with o (λ u. with (test_found vs look d) (λ w. Some (u || w)))) h ∙ ap (λ (o : Option Bool). with o (λ w. Some (s || w))) k

  -- a call's value, by the list of its indices
  pub found_call : (name : _) (at : _) (s : Span) → found vs look (term_of (Call name at s)) ≡ with (all_found vs look (indices (list_terms at.items))) (λ zs. look (string_bytes name) zs)
  found_call name at s = ap (found vs look) (term_of-call name at s)

-- what is there is something else too
pub if_some : {A : Type 0} (o : Option A) (P Q : A → Type 0) → ((x : A) → P x → Q x) → IfSome o P → IfSome o Q
if_some None P Q f h = h
if_some (Some x) P Q f h = f x h
