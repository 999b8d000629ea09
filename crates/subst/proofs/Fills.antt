-- Calls of a definition with indices put in.
use Rattle.std.proofs.Common.{◌≡◌, ℕ, ◌+◌, ◌<◌, ◌≤◌, List, [], ◌∷◌, ◌++◌, length, take, Option, Result, Ok, Err, refl, sym, ap, ◌∙◌, subst, arith, get_or}
use Rattle.std.specs.Prelude.{string_bytes}
use Rattle.std.specs.declared.string.String.{String}
use Rattle.std.specs.Global.{Global, Vec}
use Rattle.tree.specs.declared.token.span.Span.{Span}
use Rattle.tree.specs.declared.expr.Expr.{Expr}
use Rattle.tree.specs.declared.expr.Cond.TheViews.{Call}
use Rattle.tree.specs.Term.{Term, Terms, Clamp, Call as CallTerm, term_of, list_terms, indices}
use Rattle.tree.specs.Substitution.{substituted, all_substituted}
use Rattle.tree.specs.Tree.{node_count, node_counts, depth, depths}
use Rattle.subst.specs.declared.error.SubstError.{SubstError}
use Rattle.subst.specs.declared.built.Built.{Built}
use Rattle.subst.specs.declared.built.Row.{Row}
use Rattle.subst.specs.Limits.{IsRefused, AreRefused}
use Rattle.subst.specs.Built.{Makes, MakesRow}
use Rattle.subst.specs.Filled.{AreHeld, index_in, Fills, FillsRow}
use Rattle.subst.proofs.Parts.{size_refused, call_is, whole_row, row_more, index_refused, first_refused}

module _ (names : List (String Global)) (at : List (Option Built)) where
  pub fills_call : (e : Expr) (name : String Global) (by : Vec Expr) (s : Span) (xs : List Expr) (n : List ℕ) (row : Row) (r : Result Built SubstError) → e ≡ Call name by s → n ≡ string_bytes name → xs ≡ by.items
      → FillsRow names at (indices (list_terms xs)) (Ok row) → Makes (CallTerm n (indices (list_terms row.at.items))) r → Fills names at (term_of e) r
  fills_call e name by s xs n row r is named same rows whole = record {
    made = λ held h. subst (λ (t : Term). Makes t r) ((λ i. CallTerm (named i) (rows.made held h i)) ∙ sym (ap (substituted (index_in names at held)) (call_is e name by s xs is same))) whole;
  }

  pub refused_call : (e : Expr) (name : String Global) (by : Vec Expr) (s : Span) (xs : List Expr) (error : SubstError) → e ≡ Call name by s → xs ≡ by.items
      → FillsRow names at (indices (list_terms xs)) (Err error) → Fills names at (term_of e) (Err error)
  refused_call e name by s xs error is same rows = record {
    made = λ held h.
        let m = index_in names at held in
        let part : AreRefused error (all_substituted m (indices (list_terms xs))) = rows.made held h in
        subst (λ (t : Term). IsRefused error t) (sym (ap (substituted m) (call_is e name by s xs is same)))
        (size_refused error (node_counts (all_substituted m (indices (list_terms xs)))) (node_counts (all_substituted m (indices (list_terms xs))) + 1)
        (depths (all_substituted m (indices (list_terms xs)))) (depths (all_substituted m (indices (list_terms xs))) + 1) (omega arith) (omega arith) part);
  }

  pub refused_high : (a l u : Term) (error : SubstError) → Fills names at u (Err error) → Fills names at (Clamp a l u) (Err error)
  refused_high a l u error high = record {
    made = λ held h.
        let m = index_in names at held in
        let part : IsRefused error (substituted m u) = high.made held h in
        size_refused error (node_count (substituted m u)) (node_count (substituted m (Clamp a l u))) (depth (substituted m u)) (depth (substituted m (Clamp a l u))) (omega arith) (omega arith) part;
  }

  -- the indices made so far
  pub record FilledSoFar (by : List Expr) (k : ℕ) (row : List Expr) : Type 0 where
    pub made : (held : Terms) → AreHeld held at → indices (list_terms row) ≡ all_substituted (index_in names at held) (indices (list_terms (take k by)))

  pub filled_none : (by row : List Expr) → row ≡ [] → FilledSoFar by 0 row
  filled_none by row none = record { made = λ held h. ap (λ (l : List Expr). indices (list_terms l)) none }

  pub filled_more : (by row : List Expr) (k : ℕ) (x : Expr) (e : Built) (now : Row) → k < length by → x ≡ get_or by k x → Fills names at (term_of x) (Ok e) → FilledSoFar by k row
      → MakesRow (indices (list_terms (row ++ e.expr ∷ []))) (Ok now) → FilledSoFar by (k + 1) now.at.items
  filled_more by row k x e now lt is one before whole = record {
    made = λ held h.
        let m = index_in names at held in
        whole ∙ row_more (substituted m) (all_substituted m) refl (λ a rest. refl) row by k x e.expr lt is (one.made held h) (before.made held h);
  }

  pub filled_all : (by : List Expr) (k : ℕ) (row : Row) → length by ≤ k → FilledSoFar by k row.at.items → FillsRow names at (indices (list_terms by)) (Ok row)
  filled_all by k row le before = record { made = λ held h. before.made held h ∙ ap (all_substituted (index_in names at held)) (whole_row by k le) }

  pub refused_index : (by : List Expr) (k : ℕ) (x : Expr) (error : SubstError) → k < length by → x ≡ get_or by k x → Fills names at (term_of x) (Err error) → FillsRow names at (indices (list_terms by)) (Err error)
  refused_index by k x error lt is one = record {
    made = λ held h. let m = index_in names at held in index_refused (substituted m) (all_substituted m) refl (λ a rest. refl) error by k x lt is (one.made held h);
  }

  pub refused_row : (by row : List Expr) (k : ℕ) (x : Expr) (e : Built) (error : SubstError) → k < length by → x ≡ get_or by k x → Fills names at (term_of x) (Ok e) → FilledSoFar by k row
      → MakesRow (indices (list_terms (row ++ e.expr ∷ []))) (Err error) → FillsRow names at (indices (list_terms by)) (Err error)
  refused_row by row k x e error lt is one before whole = record {
    made = λ held h.
        let m = index_in names at held in
        first_refused (substituted m) (all_substituted m) refl (λ a rest. refl) error row by k x e.expr lt is (one.made held h) (before.made held h) whole;
  }
