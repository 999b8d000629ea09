-- A call, by whether it stays or is put in.
use Rattle.std.proofs.Common.{◌≡◌, ℕ, ◌+◌, ◌<◌, ◌≤◌, List, [], ◌∷◌, ◌++◌, length, take, reverse, Bool, false, Option, Some, None, Result, Ok, Err, refl, sym, ap, ◌∙◌, subst, arith, get_or}
use Rattle.std.specs.Prelude.{string_bytes, ◌||◌, max}
use Rattle.std.specs.declared.string.String.{String}
use Rattle.std.specs.Global.{Global, Vec}
use Rattle.tree.specs.declared.token.span.Span.{Span}
use Rattle.tree.specs.declared.expr.Expr.{Expr}
use Rattle.tree.specs.declared.expr.Cond.TheViews.{Call}
use Rattle.tree.specs.Term.{Term, Terms, Clamp, Call as CallTerm, term_of, list_terms, indices}
use Rattle.tree.specs.Substitution.{with_calls, all_with_calls}
use Rattle.tree.specs.Tree.{node_count, node_counts, depth, depths}
use Rattle.meaning.specs.Inlining.PutIn.{calls_some, all_call_some}
use Rattle.subst.specs.declared.error.SubstError.{SubstError}
use Rattle.subst.specs.declared.built.Built.{Built}
use Rattle.subst.specs.declared.built.Row.{Row}
use Rattle.subst.specs.declared.bodies.Body.{Body}
use Rattle.subst.specs.Limits.{IsRefused, AreRefused, IsMemory}
use Rattle.subst.specs.Built.{Makes, MakesRow, Holds}
use Rattle.subst.specs.Filled.{AreHeld}
use Rattle.subst.specs.Table.{found, stands, AreBodies, FillsBody}
use Rattle.subst.proofs.Parts.{size_refused, call_is, whole_row, row_more, each_more, index_refused, first_refused}
use Rattle.subst.proofs.Tables.{some_body, no_body, memory_refused}

-- the mark of a call whose name has none is that of its indices
pub marks_call : (mark : List ℕ → Bool) (e : Expr) (name : String Global) (at : Vec Expr) (s : Span) (xs : List Expr) (n : List ℕ) (own : Bool) (inner : Bool) → e ≡ Call name at s → n ≡ string_bytes name → xs ≡ at.items
    → own ≡ mark n → own ≡ false → inner ≡ all_call_some mark (indices (list_terms xs)) → inner ≡ calls_some mark (term_of e)
marks_call mark e name at s xs n own inner is named same marked none rest =
    let name_none : false ≡ mark (string_bytes name) = sym none ∙ marked ∙ ap mark named in
    rest ∙ (λ i. name_none i || all_call_some mark (indices (list_terms xs))) ∙ sym (ap (calls_some mark) (call_is e name at s xs is same))

module _ (bodies : List Body) where
  -- a call that stays
  pub puts_call : (e : Expr) (name : String Global) (at : Vec Expr) (s : Span) (xs : List Expr) (n m : List ℕ) (row : Row) (r : Result Built SubstError) → e ≡ Call name at s → n ≡ string_bytes name → m ≡ string_bytes name → xs ≡ at.items → found bodies n ≡ None
      → indices (list_terms row.at.items) ≡ all_with_calls (stands bodies) (indices (list_terms xs)) → Makes (CallTerm m (indices (list_terms row.at.items))) r → Makes (with_calls (stands bodies) (term_of e)) r
  puts_call e name at s xs n m row r is named also same none rows whole =
      let one : m ≡ n = also ∙ sym named in
      let at' = all_with_calls (stands bodies) (indices (list_terms xs)) in
      subst (λ (t : Term). Makes t r)
      ((λ i. CallTerm (one i) (rows i)) ∙ sym ((no_body (reverse bodies) n none).stands at') ∙ ap (λ (m : List ℕ). stands bodies m at') named ∙ sym (ap (with_calls (stands bodies)) (call_is e name at s xs is same))) whole

  pub refused_call : (e : Expr) (name : String Global) (at : Vec Expr) (s : Span) (xs : List Expr) (n : List ℕ) (error : SubstError) → e ≡ Call name at s → n ≡ string_bytes name → xs ≡ at.items → found bodies n ≡ None
      → AreRefused error (all_with_calls (stands bodies) (indices (list_terms xs))) → Makes (with_calls (stands bodies) (term_of e)) (Err error)
  refused_call e name at s xs n error is named same none part =
      let at' = all_with_calls (stands bodies) (indices (list_terms xs)) in
      subst (λ (t : Term). IsRefused error t)
      (sym ((no_body (reverse bodies) n none).stands at') ∙ ap (λ (m : List ℕ). stands bodies m at') named ∙ sym (ap (with_calls (stands bodies)) (call_is e name at s xs is same)))
      (size_refused error (node_counts at') (node_counts at' + 1) (depths at') (depths at' + 1) (omega arith) (omega arith) part)

  -- a call that is put in
  pub puts_body : (e : Expr) (name : String Global) (at : Vec Expr) (s : Span) (xs : List Expr) (n : List ℕ) (b : Body) (os : List (Option Built)) (r : Result Built SubstError) → e ≡ Call name at s → n ≡ string_bytes name → xs ≡ at.items
      → AreBodies bodies → found bodies n ≡ Some b → AreHeld (all_with_calls (stands bodies) (indices (list_terms xs))) os → FillsBody b os r → Makes (with_calls (stands bodies) (term_of e)) r
  puts_body e name at s xs n b os r is named same kept some held fills =
      let at' = all_with_calls (stands bodies) (indices (list_terms xs)) in
      let body = some_body (reverse bodies) n b kept some in
      subst (λ (t : Term). Makes t r)
      (sym (body.stands at') ∙ ap (λ (m : List ℕ). stands bodies m at') named ∙ sym (ap (with_calls (stands bodies)) (call_is e name at s xs is same)))
      (fills.made body.definition at' body.holds held)

  pub refused_high : (a l u : Term) (error : SubstError) → IsRefused error (with_calls (stands bodies) u) → IsRefused error (with_calls (stands bodies) (Clamp a l u))
  refused_high a l u error part =
      let put = with_calls (stands bodies) in
      size_refused error (node_count (put u)) (node_count (put a) + node_count (put l) + node_count (put u) + 1) (depth (put u)) (max (depth (put a)) (max (depth (put l)) (depth (put u))) + 1) (omega arith) (omega arith) part

  pub no_memory : (t : Term) (error : SubstError) → IsMemory error → Makes t (Err error)
  no_memory t error h = memory_refused error (node_count t) (depth t) h

  -- the indices put in so far, of a call that stays
  pub row_so_far : (by row : List Expr) (k : ℕ) (x : Expr) (e : Built) (now : Row) → k < length by → x ≡ get_or by k x → term_of e.expr ≡ with_calls (stands bodies) (term_of x)
      → indices (list_terms row) ≡ all_with_calls (stands bodies) (indices (list_terms (take k by))) → MakesRow (indices (list_terms (row ++ e.expr ∷ []))) (Ok now)
      → indices (list_terms now.at.items) ≡ all_with_calls (stands bodies) (indices (list_terms (take (k + 1) by)))
  row_so_far by row k x e now lt is one before whole = whole ∙ row_more (with_calls (stands bodies)) (all_with_calls (stands bodies)) refl (λ a rest. refl) row by k x e.expr lt is one before

  pub row_whole : (by row : List Expr) (k : ℕ) → length by ≤ k → indices (list_terms row) ≡ all_with_calls (stands bodies) (indices (list_terms (take k by))) → indices (list_terms row) ≡ all_with_calls (stands bodies) (indices (list_terms by))
  row_whole by row k le before = before ∙ ap (all_with_calls (stands bodies)) (whole_row by k le)

  pub refused_index : (by : List Expr) (k : ℕ) (x : Expr) (error : SubstError) → k < length by → x ≡ get_or by k x → IsRefused error (with_calls (stands bodies) (term_of x)) → AreRefused error (all_with_calls (stands bodies) (indices (list_terms by)))
  refused_index by k x error lt is one = index_refused (with_calls (stands bodies)) (all_with_calls (stands bodies)) refl (λ a rest. refl) error by k x lt is one

  pub refused_row : (by row : List Expr) (k : ℕ) (x : Expr) (e : Built) (error : SubstError) → k < length by → x ≡ get_or by k x → term_of e.expr ≡ with_calls (stands bodies) (term_of x)
      → indices (list_terms row) ≡ all_with_calls (stands bodies) (indices (list_terms (take k by))) → AreRefused error (indices (list_terms (row ++ e.expr ∷ []))) → AreRefused error (all_with_calls (stands bodies) (indices (list_terms by)))
  refused_row by row k x e error lt is one before whole =
      first_refused (with_calls (stands bodies)) (all_with_calls (stands bodies)) refl (λ a rest. refl) error row by k x e.expr lt is one before whole

  -- the indices held so far, of a call that is put in
  pub held_so_far : (os : List (Option Built)) (by : List Expr) (k : ℕ) (x : Expr) (o : Option Built) → k < length by → x ≡ get_or by k x → Holds (with_calls (stands bodies) (term_of x)) o
      → AreHeld (all_with_calls (stands bodies) (indices (list_terms (take k by)))) os → AreHeld (all_with_calls (stands bodies) (indices (list_terms (take (k + 1) by)))) (os ++ o ∷ [])
  held_so_far os by k x o lt is holds before = each_more (with_calls (stands bodies)) (all_with_calls (stands bodies)) refl (λ a rest. refl) os by k x o lt is holds before

  pub held_whole : (os : List (Option Built)) (by : List Expr) (k : ℕ) → length by ≤ k → AreHeld (all_with_calls (stands bodies) (indices (list_terms (take k by)))) os → AreHeld (all_with_calls (stands bodies) (indices (list_terms by))) os
  held_whole os by k le before = subst (λ (at : Terms). AreHeld (all_with_calls (stands bodies) at) os) (whole_row by k le) before
