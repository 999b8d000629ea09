-- Loops that move and copy, one element on.
use Rattle.std.proofs.Common.{◌≡◌, ◌<◌, ◌≤◌, ◌+◌, ℕ, ℤ, zero, suc, List, [], ◌∷◌, ◌++◌, length, map, take, get_or, add-one, refl, sym, ap, ◌∙◌, arith}
use Rattle.std.proofs.lemmas.List.{map-append, take_more}
use Rattle.tree.specs.declared.expr.Expr.{Expr}
use Rattle.tree.specs.Term.{Term, term_of, list_terms, indices, More, Call}
use Rattle.tree.specs.Tree.{node_count, node_counts}
use Rattle.std.specs.Global.{Vec, Global}
use Rattle.std.specs.declared.string.String.{String}
use Rattle.tree.specs.declared.token.span.Span.{Span}
use Rattle.tree.specs.declared.expr.Cond.TheViews.{Call as CallNode}
use Rattle.tree.proofs.Rows.{term_of-call}
use Rattle.lin.specs.declared.span.Span1.{Span1}
use Rattle.bounds.specs.Spans.{numbers}
use Rattle.meaning.specs.Algorithm.{Algorithm}
use Rattle.crop.specs.declared.cut.Stretch.{Stretch}
use Rattle.crop.specs.Moving.{Move, plus, moved, all_moved}
use Rattle.crop.specs.Cutting.{Cut, spans_of, lefts_moved}
use Rattle.crop.specs.Plan.{coordinate_against, each_moved}

-- one element more of a list that is made from another
pub more_mapped : {A B C : Type 0} (f : A → C) (g : B → C) (made : List A) (xs : List B) (i : ℕ) (y : A) (x : B) → i < length xs → x ≡ get_or xs i x → f y ≡ g x
    → map f made ≡ map g (take i xs) → map f (made ++ y ∷ []) ≡ map g (take (i + 1) xs)
more_mapped f g made xs i y x lt is same so_far =
    map-append f made (y ∷ []) ∙ (λ j. so_far j ++ same j ∷ []) ∙ (λ j. map g (take i xs) ++ g (is j) ∷ [])
    ∙ sym (map-append g (take i xs) (get_or xs i x ∷ [])) ∙ ap (map g) (sym (take_more xs i x lt))

-- the same where the other list is mapped twice
pub more_twice : {A B C D : Type 0} (f : A → C) (h : D → C) (g : B → D) (made : List A) (xs : List B) (i : ℕ) (y : A) (x : B) → i < length xs → x ≡ get_or xs i x → f y ≡ h (g x)
    → map f made ≡ map h (map g (take i xs)) → map f (made ++ y ∷ []) ≡ map h (map g (take (i + 1) xs))
more_twice f h g made xs i y x lt is same so_far =
    map-append f made (y ∷ []) ∙ (λ j. so_far j ++ same j ∷ []) ∙ (λ j. map h (map g (take i xs)) ++ h (g (is j)) ∷ [])
    ∙ sym (map-append h (map g (take i xs)) (g (get_or xs i x) ∷ [])) ∙ ap (map h) (sym (map-append g (take i xs) (get_or xs i x ∷ [])))
    ∙ ap (λ l. map h (map g l)) (sym (take_more xs i x lt))

-- one stretch more
pub more_spans : (made : List Span1) (es : List Stretch) (i : ℕ) (x : Stretch) (span : Span1) → i < length es → x ≡ get_or es i x → span ≡ numbers x.low x.high
    → made ≡ spans_of (take i es) → made ++ span ∷ [] ≡ spans_of (take (i + 1) es)
more_spans made es i x span lt is same so_far =
    (λ j. so_far j ++ same j ∷ []) ∙ (λ j. spans_of (take i es) ++ numbers (is j).low (is j).high ∷ [])
    ∙ sym (map-append (λ (e : Stretch). numbers e.low e.high) (take i es) (get_or es i x ∷ [])) ∙ ap spans_of (sym (take_more es i x lt))

-- a call is one node more than its indices
pub call_nodes : (name : String Global) (at : Vec Expr) (s : Span) (es : List Expr) (e : Expr) → e ≡ CallNode name at s → es ≡ at.items
    → node_count (term_of e) ≡ node_counts (indices (list_terms es)) + 1
call_nodes name at s es e is own =
    ap (λ (x : Expr). node_count (term_of x)) is ∙ ap node_count (term_of-call name at s) ∙ ap (λ (l : List Expr). node_counts (indices (list_terms l)) + 1) (sym own)

module _ (m : Move) where
  next_moved : (os : List ℤ) (es : List Expr) (i : ℕ) (x : Expr) → i < length es → x ≡ get_or es i x
      → each_moved m os (list_terms (take (suc i) es)) ≡ each_moved m os (list_terms (take i es)) ++ moved m (coordinate_against os i) (term_of x) ∷ []
  next_moved os [] i x lt is = absurd (omega arith)
  next_moved [] (e ∷ es) zero x lt is = ap (λ y. moved m (coordinate_against [] zero) (term_of y) ∷ []) (sym is)
  next_moved (o ∷ os) (e ∷ es) zero x lt is = ap (λ y. moved m (coordinate_against (o ∷ os) zero) (term_of y) ∷ []) (sym is)
  next_moved [] (e ∷ es) (suc i) x lt is = ap (λ l. moved m (coordinate_against [] zero) (term_of e) ∷ l) (next_moved [] es i x (omega arith) is)
  next_moved (o ∷ os) (e ∷ es) (suc i) x lt is = ap (λ l. moved m (coordinate_against (o ∷ os) zero) (term_of e) ∷ l) (next_moved os es i x (omega arith) is)

  -- one expression more
  pub more_moved : (os : List ℤ) (made es : List Expr) (i : ℕ) (y x : Expr) (c : ℤ) → i < length es → x ≡ get_or es i x → c ≡ coordinate_against os (length made)
      → term_of y ≡ moved m c (term_of x) → length made ≡ i → list_terms made ≡ each_moved m os (list_terms (take i es))
      → list_terms (made ++ y ∷ []) ≡ each_moved m os (list_terms (take (i + 1) es))
  more_moved os made es i y x c lt is number same count so_far =
      map-append term_of made (y ∷ []) ∙ (λ j. so_far j ++ same j ∷ [])
      ∙ (λ j. each_moved m os (list_terms (take i es)) ++ moved m ((number ∙ ap (coordinate_against os) count) j) (term_of x) ∷ [])
      ∙ sym (next_moved os es i x lt is) ∙ ap (λ n. each_moved m os (list_terms (take n es))) (sym (add-one i))

  -- the expressions as the indices of a call
  pub indices_moved : (os : List ℤ) (ts : List Term) → indices (each_moved m os ts) ≡ all_moved m os (indices ts)
  indices_moved [] [] = refl
  indices_moved (o ∷ os) [] = refl
  indices_moved [] (t ∷ ts) = ap (More (moved m (coordinate_against [] zero) t)) (indices_moved [] ts)
  indices_moved (o ∷ os) (t ∷ ts) = ap (More (moved m (coordinate_against (o ∷ os) zero) t)) (indices_moved os ts)

  -- the expressions as the left side of an update
  pub lefts_each : (a : Algorithm) (cut : Cut) (os : List ℤ) (ts : List Term) → each_moved m os ts ≡ lefts_moved a cut m os ts
  lefts_each a cut [] [] = refl
  lefts_each a cut (o ∷ os) [] = refl
  lefts_each a cut [] (t ∷ ts) = ap (λ l. moved m (coordinate_against [] zero) t ∷ l) (lefts_each a cut [] ts)
  lefts_each a cut (o ∷ os) (t ∷ ts) = ap (λ l. moved m (coordinate_against (o ∷ os) zero) t ∷ l) (lefts_each a cut os ts)

  -- a call that is made of moved indices
  pub call_made : (n : List ℕ) (ts : List Term) (os : List ℤ) (at : List Term) (e : Term) (c : ℤ) → e ≡ Call n (indices at) → at ≡ each_moved m os ts → os ≡ m.origins n
      → plus e c ≡ moved m c (Call n (indices ts))
  call_made n ts os at e c made each own =
      ap (λ x. plus x c) (made ∙ ap (λ l. Call n (indices l)) each ∙ ap (Call n) (indices_moved os ts) ∙ ap (λ o. Call n (all_moved m o (indices ts))) own)

  -- the indices are fewer nodes than all
  pub index_within : (es : List Expr) (i : ℕ) (x : Expr) → i < length es → x ≡ get_or es i x → node_count (term_of x) ≤ node_counts (indices (list_terms es))
  index_within [] i x lt is = absurd (omega arith)
  index_within (e ∷ es) zero x lt is = let same : node_count (term_of x) ≡ node_count (term_of e) = ap (λ y. node_count (term_of y)) is in omega arith
  index_within (e ∷ es) (suc i) x lt is = let rest = index_within es i x (omega arith) is in omega arith
