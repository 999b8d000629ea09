-- What the first refused variable, and the first refused call, tell of the expression.
use Rattle.std.proofs.Common.{ℕ, List, Bool, IsTrue, IsNone, All, refl, sym, subst, ◌∙◌}
use Rattle.std.specs.Prelude.{IfSome, ◌↔◌}
use Rattle.tree.specs.declared.token.span.Span.{Span}
use Rattle.tree.specs.declared.expr.Expr.{Expr}
use Rattle.tree.specs.Term.{Terms, term_of}
use Rattle.tree.specs.Uses.{variables_of, EachCall}
use Rattle.algo.specs.Scoping.Standing.{Written, placed_variables, placed_calls, first_refused, refused_variable, refused_call, RefusedVariableAt, RefusedCallAt, accepts, call_place}
use Rattle.algo.proofs.Listed.{names_of, calls_at, all_listed, each_listed}
use Rattle.algo.proofs.Standing.{IsRefusedIn, is_some-option_map, each_passes, none_refused, first_is_refused, answer_is}

module _ (accepted : List ℕ → Bool) (e : Expr) where
  pub variable-none : IsNone (refused_variable accepted e) ↔ All (λ name. IsTrue (accepted name)) (variables_of (term_of e))
  variable-none =
      let P : List ℕ → Type 0 = λ name. IsTrue (accepted name) in
      let places = placed_variables e in
      let same = is_some-option_map (λ (p : List ℕ × Span). p.1) (first_refused accepted places) in
      (λ h. subst (All P) (names_of e) (each_passes accepted places (sym same ∙ h)), λ h. same ∙ none_refused accepted places (subst (All P) (sym (names_of e)) h))

  pub variable-some : IfSome (refused_variable accepted e) (RefusedVariableAt accepted e)
  variable-some =
      let places = placed_variables e in
      answer_is (λ (p : List ℕ × Span). p.1) (IsRefusedIn accepted places) (RefusedVariableAt accepted e)
      (λ p h. record { name = p.0; stands = h.0; refused = h.1 }) (first_refused accepted places) (first_is_refused accepted places)

module _ (accepted : List ℕ → Terms → Bool) (e : Expr) where
  abbrev Passes : List ℕ → Terms → Type 0
  Passes name at = IsTrue (accepted name at)

  pub call-none : IsNone (refused_call accepted e) ↔ EachCall (λ name at. IsTrue (accepted name at)) (term_of e)
  call-none =
      let P : Written → Type 0 = λ c. IsTrue (accepts accepted c) in
      let places = placed_calls e in
      let same = is_some-option_map call_place (first_refused (accepts accepted) places) in (
        λ h. each_listed Passes (term_of e) (subst (All P) (calls_at e) (each_passes (accepts accepted) places (sym same ∙ h))),
        λ h. same ∙ none_refused (accepts accepted) places (subst (All P) (sym (calls_at e)) (all_listed Passes (term_of e) h)),
      )

  pub call-some : IfSome (refused_call accepted e) (RefusedCallAt accepted e)
  call-some =
      let places = placed_calls e in
      answer_is call_place (IsRefusedIn (accepts accepted) places) (RefusedCallAt accepted e)
      (λ p h. record { name = p.0.name; at = p.0.at; stands = h.0; named = refl; refused = h.1 }) (first_refused (accepts accepted) places) (first_is_refused (accepts accepted) places)
