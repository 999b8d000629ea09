-- What is made of the indices of a call, one by one, and what is refused in a part.
use Rattle.std.proofs.Common.{◌≡◌, ℕ, zero, suc, ◌+◌, ◌<◌, ◌≤◌, List, [], ◌∷◌, ◌++◌, length, take, Option, refl, sym, ap, ◌∙◌, subst, arith, add-one, get_or}
use Rattle.std.specs.Prelude.{string_bytes}
use Rattle.std.specs.declared.string.String.{String}
use Rattle.std.specs.Global.{Global, Vec}
use Rattle.tree.specs.declared.token.span.Span.{Span}
use Rattle.tree.specs.declared.expr.Expr.{Expr}
use Rattle.tree.specs.declared.expr.Cond.TheViews.{Call}
use Rattle.tree.specs.Term.{Term, Terms, End, More, Call as CallTerm, term_of, list_terms, indices}
use Rattle.tree.specs.Tree.{node_count, node_counts, depth, depths}
use Rattle.tree.proofs.Rows.{term_of-call}
use Rattle.subst.specs.declared.error.SubstError.{SubstError}
use Rattle.subst.specs.declared.error.SubstError.TheVariants.{Memory, Updates, TooLarge}
use Rattle.subst.specs.declared.built.Built.{Built}
use Rattle.subst.specs.Limits.{IsSizeRefused, IsRefused, AreRefused}
use Rattle.subst.specs.Built.{Holds}
use Rattle.subst.specs.Filled.{AreHeld}

-- what is refused in a part is refused in the whole
pub size_refused : (e : SubstError) (n m k l : ℕ) → n ≤ m → k ≤ l → IsSizeRefused e n k → IsSizeRefused e m l
size_refused Memory n m k l few flat h = h
size_refused Updates n m k l few flat h = h
size_refused TooLarge n m k l few flat h = λ w. h (omega (arith, few, w.0), omega (arith, flat, w.1))

-- one more at the end
abbrev pub snoc : Terms → Term → Terms
snoc End t = More t End
snoc (More a rest) t = More a (snoc rest t)

pub snoc_made : (xs : List Expr) (e : Expr) → indices (list_terms (xs ++ e ∷ [])) ≡ snoc (indices (list_terms xs)) (term_of e)
snoc_made [] e = refl
snoc_made (x ∷ xs) e = ap (More (term_of x)) (snoc_made xs e)

snoc_suc : (by : List Expr) (i : ℕ) (x : Expr) → i < length by → x ≡ get_or by i x → indices (list_terms (take (suc i) by)) ≡ snoc (indices (list_terms (take i by))) (term_of x)
snoc_suc [] i x lt is = absurd (omega (arith, lt))
snoc_suc (b ∷ by) zero x lt is = ap (λ (t : Expr). More (term_of t) End) (sym is)
snoc_suc (b ∷ by) (suc i) x lt is = ap (More (term_of b)) (snoc_suc by i x (omega (arith, lt)) is)

pub snoc_taken : (by : List Expr) (i : ℕ) (x : Expr) → i < length by → x ≡ get_or by i x → indices (list_terms (take (i + 1) by)) ≡ snoc (indices (list_terms (take i by))) (term_of x)
snoc_taken by i x lt is = subst (λ n. indices (list_terms (take n by)) ≡ snoc (indices (list_terms (take i by))) (term_of x)) (sym (add-one i)) (snoc_suc by i x lt is)

pub whole_row : (by : List Expr) (k : ℕ) → length by ≤ k → indices (list_terms (take k by)) ≡ indices (list_terms by)
whole_row [] zero le = refl
whole_row [] (suc k) le = refl
whole_row (b ∷ by) zero le = absurd (omega (arith, le))
whole_row (b ∷ by) (suc k) le = ap (More (term_of b)) (whole_row by k (omega (arith, le)))

-- one more index that is held
pub held_more : (at : Terms) (os : List (Option Built)) (t : Term) (o : Option Built) → AreHeld at os → Holds t o → AreHeld (snoc at t) (os ++ o ∷ [])
held_more End [] t o h k = (k, tt)
held_more End (p ∷ os) t o h k = absurd h
held_more (More a rest) [] t o h k = absurd h
held_more (More a rest) (p ∷ os) t o h k = (h.0, held_more rest os t o h.1 k)

-- what is made of each index, and of all of them
module _ (one : Term → Term) (all : Terms → Terms) (none : all End ≡ End) (more : (a : Term) (rest : Terms) → all (More a rest) ≡ More (one a) (all rest)) where
  snoc_all : (at : Terms) (t : Term) → all (snoc at t) ≡ snoc (all at) (one t)
  snoc_all End t = more t End ∙ ap (More (one t)) none ∙ sym (ap (λ (s : Terms). snoc s (one t)) none)
  snoc_all (More a rest) t = more a (snoc rest t) ∙ ap (More (one a)) (snoc_all rest t) ∙ sym (ap (λ (s : Terms). snoc s (one t)) (more a rest))

  pub row_more : (made by : List Expr) (i : ℕ) (x e : Expr) → i < length by → x ≡ get_or by i x → term_of e ≡ one (term_of x) → indices (list_terms made) ≡ all (indices (list_terms (take i by)))
      → indices (list_terms (made ++ e ∷ [])) ≡ all (indices (list_terms (take (i + 1) by)))
  row_more made by i x e lt is same before =
      snoc_made made e ∙ (λ j. snoc (before j) (same j)) ∙ sym (snoc_all (indices (list_terms (take i by))) (term_of x)) ∙ ap all (sym (snoc_taken by i x lt is))

  pub each_more : (os : List (Option Built)) (by : List Expr) (i : ℕ) (x : Expr) (o : Option Built) → i < length by → x ≡ get_or by i x → Holds (one (term_of x)) o → AreHeld (all (indices (list_terms (take i by)))) os
      → AreHeld (all (indices (list_terms (take (i + 1) by)))) (os ++ o ∷ [])
  each_more os by i x o lt is holds before =
      subst (λ (at : Terms). AreHeld at (os ++ o ∷ [])) (sym (snoc_all (indices (list_terms (take i by))) (term_of x)) ∙ ap all (sym (snoc_taken by i x lt is)))
      (held_more (all (indices (list_terms (take i by)))) os (one (term_of x)) o before holds)

  taken_counts : (by : List Expr) (k : ℕ) → node_counts (all (indices (list_terms (take k by)))) ≤ node_counts (all (indices (list_terms by)))
  taken_counts [] zero = omega arith
  taken_counts [] (suc k) = omega arith
  taken_counts (b ∷ by) zero = omega (arith, ap node_counts none)
  taken_counts (b ∷ by) (suc k) =
      let left = ap node_counts (more (term_of b) (indices (list_terms (take k by)))) in
      let right = ap node_counts (more (term_of b) (indices (list_terms by))) in
      omega (arith, left, right, taken_counts by k)

  taken_depths : (by : List Expr) (k : ℕ) → depths (all (indices (list_terms (take k by)))) ≤ depths (all (indices (list_terms by)))
  taken_depths [] zero = omega arith
  taken_depths [] (suc k) = omega arith
  taken_depths (b ∷ by) zero = omega (arith, ap depths none)
  taken_depths (b ∷ by) (suc k) =
      let left = ap depths (more (term_of b) (indices (list_terms (take k by)))) in
      let right = ap depths (more (term_of b) (indices (list_terms by))) in
      omega (arith, left, right, taken_depths by k)

  one_count : (by : List Expr) (i : ℕ) (x : Expr) → i < length by → x ≡ get_or by i x → node_count (one (term_of x)) ≤ node_counts (all (indices (list_terms by)))
  one_count [] i x lt is = absurd (omega (arith, lt))
  one_count (b ∷ by) zero x lt is = omega (arith, ap node_counts (more (term_of b) (indices (list_terms by))), ap (λ (e : Expr). node_count (one (term_of e))) is)
  one_count (b ∷ by) (suc i) x lt is = omega (arith, ap node_counts (more (term_of b) (indices (list_terms by))), one_count by i x (omega (arith, lt)) is)

  one_depth : (by : List Expr) (i : ℕ) (x : Expr) → i < length by → x ≡ get_or by i x → depth (one (term_of x)) ≤ depths (all (indices (list_terms by)))
  one_depth [] i x lt is = absurd (omega (arith, lt))
  one_depth (b ∷ by) zero x lt is = omega (arith, ap depths (more (term_of b) (indices (list_terms by))), ap (λ (e : Expr). depth (one (term_of e))) is)
  one_depth (b ∷ by) (suc i) x lt is = omega (arith, ap depths (more (term_of b) (indices (list_terms by))), one_depth by i x (omega (arith, lt)) is)

  -- an index is refused, or a row of the first ones
  pub index_refused : (error : SubstError) (by : List Expr) (i : ℕ) (x : Expr) → i < length by → x ≡ get_or by i x → IsRefused error (one (term_of x)) → AreRefused error (all (indices (list_terms by)))
  index_refused error by i x lt is h = size_refused error _ _ _ _ (one_count by i x lt is) (one_depth by i x lt is) h

  pub first_refused : (error : SubstError) (made by : List Expr) (i : ℕ) (x e : Expr) → i < length by → x ≡ get_or by i x → term_of e ≡ one (term_of x) → indices (list_terms made) ≡ all (indices (list_terms (take i by)))
      → AreRefused error (indices (list_terms (made ++ e ∷ []))) → AreRefused error (all (indices (list_terms by)))
  first_refused error made by i x e lt is same before h =
      size_refused error _ _ _ _ (taken_counts by (i + 1)) (taken_depths by (i + 1)) (subst (λ (at : Terms). AreRefused error at) (row_more made by i x e lt is same before) h)

-- the term of a call, by what stands in it
pub call_is : (e : Expr) (name : String Global) (by : Vec Expr) (s : Span) (xs : List Expr) → e ≡ Call name by s → xs ≡ by.items → term_of e ≡ CallTerm (string_bytes name) (indices (list_terms xs))
call_is e name by s xs is same = ap term_of is ∙ term_of-call name by s ∙ ap (λ (l : List Expr). CallTerm (string_bytes name) (indices (list_terms l))) (sym same)
