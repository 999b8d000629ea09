-- A later call is told by the place of its name.
use Rattle.std.proofs.Common.{◌≡◌, ℕ, inl, inr, List, [], ◌∷◌, ◌++◌, map, take, Some, All, Bool, ap, subst, ◌∙◌}
use Rattle.std.specs.Prelude.{slice_get, Contains}
use Rattle.std.proofs.lemmas.Option.{get_or_from_slice_get, slice_get_within}
use Rattle.std.proofs.lemmas.List.Elements.{All-contains, All-contains_itself, All-head}
use Rattle.tree.specs.declared.token.span.Span.{Span}
use Rattle.tree.specs.Token.Lexical.{slice}
use Rattle.tree.specs.declared.expr.Expr.{Expr}
use Rattle.tree.specs.Term.{Terms}
use Rattle.tree.proofs.Uses.{All-left, All-right}
use Rattle.meaning.specs.Algorithm.{Algorithm, Function}
use Rattle.meaning.specs.Conditions.{callable}
use Rattle.algo.specs.Scoping.Expressions.{is_known}
use Rattle.algo.specs.Scoping.Standing.{name_place, placed_calls, written}
use Rattle.expr.specs.declared.statements.error.FormError.{FormError}
use Rattle.expr.specs.declared.statements.error.FormError.TheVariants as form
use Rattle.expr.specs.declared.statements.statement.UpdateStatement.{UpdateStatement}
use Rattle.expr.specs.declared.statements.statement.Statement.{Statement}
use Rattle.expr.specs.declared.statements.statement.Statement.TheVariants as statement
use Rattle.expr.specs.declared.statements.statement.File.{File}
use Rattle.expr.specs.Statements.View.{file_text, input_text, statement_text}
use Rattle.algo.specs.declared.error.Code.TheVariants.{LaterCall}
use Rattle.algo.specs.declared.error.AlgoError.TheVariants.{Refused}
use Rattle.algo.specs.Saying.{functions_said, input_said, names_declared}
use Rattle.algo.specs.Faults.{CalledAt, InUpdateAt, StatementFaultAt, TellsOfFile}
use Rattle.algo.specs.Refusal.{form_error}
use Rattle.algo.specs.Calls.{CallStands, CallsStandIn, CallsStand, expressions, NamedCallAt, LaterCallAt}
use Rattle.algo.specs.Laws.{LaterCallsAreNamed}

all_at : {X : Type 0} (P : X → Type 0) (xs : List X) (k : ℕ) (x : X) → slice_get xs k ≡ Some x → All P xs → P x
all_at P xs k x stands all = subst P (get_or_from_slice_get xs k x x stands) (all k x (slice_get_within xs k x stands))

module _ (text : List ℕ) where
  named_call : (accepted : List ℕ → Terms → Bool) (es : List Expr) (e : Expr) (at : Span) → All (CallsStandIn text) es → Contains es e → CalledAt accepted e at → NamedCallAt text accepted es at
  named_call accepted es e at all among h =
      let call = h.refused in
      let stands : slice text (name_place call.name h.call.call) ≡ call.name =
      All-contains (CallStands text) (placed_calls e) (written call.name call.at, h.call.call) (All-contains (CallsStandIn text) es e all among) call.stands in
      record { expr = e; among = among; called = h; bytes = ap (slice text) (h.place ∙ call.named) ∙ stands }

  update_named : (accepted : List ℕ → Terms → Bool) (s : UpdateStatement) (at : Span) → All (CallsStandIn text) (s.at.items ++ s.value ∷ []) → InUpdateAt (CalledAt accepted) s at
      → NamedCallAt text accepted (s.at.items ++ s.value ∷ []) at
  update_named accepted s at all (inl h) =
      let es = s.at.items ++ s.value ∷ [] in
      let among = all_at (Contains es) s.at.items h.k h.expr h.stands (All-left (Contains es) s.at.items (s.value ∷ []) (All-contains_itself es)) in
      named_call accepted es h.expr at all among h.broken
  update_named accepted s at all (inr h) =
      let es = s.at.items ++ s.value ∷ [] in
      let among = All-head (Contains es) s.value [] (All-right (Contains es) s.at.items (s.value ∷ []) (All-contains_itself es)) in
      named_call accepted es s.value at all among h

  statement_named : (a : Algorithm) (declared : List (List ℕ)) (fs : List Function) (s : Statement) (at : Span) → All (CallsStandIn text) (expressions s) → StatementFaultAt a declared fs s LaterCall at
      → NamedCallAt text (is_known (callable a fs)) (expressions s) at
  statement_named a declared fs (statement.Function s) at all h =
      named_call (is_known (callable a fs)) (s.value ∷ []) s.value at all (All-head (Contains (s.value ∷ [])) s.value [] (All-contains_itself (s.value ∷ []))) h
  statement_named a declared fs (statement.Update s) at all (inl h) = absurd (let is = h.1 in cc)
  statement_named a declared fs (statement.Update s) at all (inr h) = update_named (is_known (callable a fs)) s at all h.3

  file_named : (file : File) (at : Span) → CallsStand text file → TellsOfFile file (Refused LaterCall at) → LaterCallAt text file at
  file_named file at all (inl h) = absurd h
  file_named file at all (inr (inl h)) = record {
    k = h.k;
    statement = h.statement;
    stands = h.stands;
    call = statement_named (input_said (input_text file.input)) (names_declared (file_text file)) (functions_said (map statement_text (take h.k file.statements.items))) h.statement at (all_at (λ s. All (CallsStandIn text) (expressions s)) file.statements.items h.k h.statement h.stands all) h.fault;
  }
  file_named file at all (inr (inr h)) = absurd h

no_form : (fault : FormError) (at : Span) → ¬ (Refused LaterCall at ≡ form_error fault)
no_form form.Memory at e = cc
no_form (form.BadToken s) at e = cc
no_form (form.BadForm s) at e = cc
no_form (form.TooLarge s) at e = cc

pub later_calls_named : LaterCallsAreNamed
later_calls_named text at (inl h) = absurd (no_form h.fault at h.is)
later_calls_named text at (inr h) = (h.file, h.found, file_named text h.file at h.called h.fault)
