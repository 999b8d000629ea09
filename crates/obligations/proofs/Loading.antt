-- Loads of an update's own function, and the spans of indices.
use Rattle.std.proofs.Common.{◌≡◌, ℕ, ◌+◌, ◌<◌, suc, zero, Bool, true, false, List, [], ◌∷◌, ◌++◌, length, map, take, get_or, refl, sym, ap, ◌∙◌}
use Rattle.std.specs.Prelude.{◌==◌, ◌&&◌, if◌then◌else◌}
use Rattle.std.specs.List.{list_any}
use Rattle.std.proofs.lemmas.List.{take_more}
use Rattle.lin.specs.declared.span.Span1.{Span1}
use Rattle.tree.specs.declared.expr.Expr.{Expr}
use Rattle.tree.specs.Term.{term_of, indices, list_terms}
use Rattle.meaning.specs.Names.{same_name}
use Rattle.soundness.specs.Claims.{is_update}
use Rattle.soundness.specs.Origins.{Outline}
use Rattle.soundness.specs.Obligations.{Binder, Known, Rules, serves, is_usable, may_load, met, index_met, intervals}
use Rattle.plan.specs.Plan.{Coordinate}

module _ (outline : Outline) (rules : Rules) where
  pub may_own : (known : Known) (b : ℕ) (f : List ℕ) (n c : ℕ) → (is_update n && same_name (outline.claim c).function f) ≡ true →
      may_load outline rules known b f n c ≡ list_any (λ u. (u.before == c) && serves outline rules b f n u) known.updating
  may_own known b f zero c h = absurd (cc h)
  may_own known b f (suc k) c h =
      ap (λ (t : Bool). if t then list_any (λ u. (u.before == c) && serves outline rules b f (suc k) u) known.updating else is_usable outline rules known c) h

  pub met_own : (f : List ℕ) (n : ℕ) (at : List Coordinate) (c : ℕ) → (is_update n && same_name (outline.claim c).function f) ≡ true →
      met outline rules f n at c ≡ map (λ x. index_met outline rules x.index) at ∷ []
  met_own f zero at c h = absurd (cc h)
  met_own f (suc k) at c h = ap (λ (t : Bool). if t then map (λ x. index_met outline rules x.index) at ∷ [] else []) h

  pub met_other : (f : List ℕ) (n : ℕ) (at : List Coordinate) (c : ℕ) → (is_update n && same_name (outline.claim c).function f) ≡ false → met outline rules f n at c ≡ []
  met_other f zero at c h = refl
  met_other f (suc k) at c h = ap (λ (t : Bool). if t then map (λ x. index_met outline rules x.index) at ∷ [] else []) h

  intervals_pushed : (bs : List Binder) (names : List (List ℕ)) (vars : List Span1) (xs : List Expr) (x : Expr) →
      intervals outline rules bs names vars (indices (list_terms (xs ++ x ∷ []))) ≡ intervals outline rules bs names vars (indices (list_terms xs)) ++ rules.interval bs names vars (term_of x) ∷ []
  intervals_pushed bs names vars [] x = refl
  intervals_pushed bs names vars (y ∷ ys) x = ap (λ (l : List Span1). rules.interval bs names vars (term_of y) ∷ l) (intervals_pushed bs names vars ys x)

  pub intervals_more : (bs : List Binder) (names : List (List ℕ)) (vars : List Span1) (xs : List Expr) (i : ℕ) (x : Expr) → i < length xs → x ≡ get_or xs i x →
      intervals outline rules bs names vars (indices (list_terms (take (i + 1) xs))) ≡ intervals outline rules bs names vars (indices (list_terms (take i xs))) ++ rules.interval bs names vars (term_of x) ∷ []
  intervals_more bs names vars xs i x lt is =
      ap (λ (l : List Expr). intervals outline rules bs names vars (indices (list_terms l))) (take_more xs i x lt ∙ ap (λ (y : Expr). take i xs ++ y ∷ []) (sym is))
      ∙ intervals_pushed bs names vars (take i xs) x
