-- Binders with one more, and lines told.
use Rattle.std.proofs.Common.{Result, IfOk, add_assoc, Option, ◌<◌, sym, ◌∙◌, get_or, take, drop, Bool, true, false, map, ◌&&◌, ◌≡◌, ℕ, ◌+◌, ◌-◌, ◌^◌, min, List, [], ◌∷◌, ◌++◌, length, refl, ap, arith}
use Rattle.std.specs.List.{list_all}
use Rattle.std.specs.Option.{is_some}
use Rattle.plan.specs.declared.stmt.Coordinate.{Coordinate as CodeCoordinate}
use Rattle.plan.specs.Plan.{Index}
use Rattle.plan.specs.View.{coordinate_of, index_of}
use Rattle.soundness.specs.declared.binders.binder.Binder.{Binder as BinderHeld}
use Rattle.soundness.specs.Binders.View.{binder_of, binders_of}
use Rattle.std.proofs.lemmas.List.{map-append, take_more, append_assoc, take-append-drop}
use Rattle.plan.specs.declared.stmt.Stmt.{Stmt}
use Rattle.plan.specs.Lines.{lines, block_lines}
use Rattle.plan.specs.Lists.{list_statements}
use Rattle.plan.specs.Plan.{Statement, Statements, Empty, Then, block}
use Rattle.plan.specs.View.{statement_of}
use Rattle.soundness.specs.Obligations.{Binder, Rules}
use Rattle.rules.specs.Widths.Widths.{told, first_told, binders_after, wide_lines, block_wide_lines}
use Rattle.rules.proofs.Blocks.{rest_from}

pub more_binders : (bs : List BinderHeld) (b : BinderHeld) → binders_of (bs ++ b ∷ []) ≡ binder_of b ∷ binders_of bs
more_binders [] b = refl
more_binders (x ∷ bs) b = ap (λ l. l ++ binder_of x ∷ []) (more_binders bs b)

pub later_told : (line n a k : ℕ) → line ≡ told n → a ≡ told k → min (line + a) (2 ^ 32 - 1) ≡ told (n + k)
later_told line n a k e f = omega arith

pub all_indices : (test : Index → Bool) (cs : List CodeCoordinate) → list_all (λ c. test (index_of c.index)) cs ≡ list_all (λ c. test c.index) (map coordinate_of cs)
all_indices test [] = refl
all_indices test (c ∷ cs) = ap (λ b. test (index_of c.index) && b) (all_indices test cs)

pub skip_ok : {E : Type 0} (r : Result (Option ℕ) E) (xs ys : List ℕ) → xs ≡ [] → IfOk r (λ o. o ≡ first_told ys) → IfOk r (λ o. o ≡ first_told (xs ++ ys))
skip_ok r [] ys e h = h
skip_ok r (x ∷ xs) ys e h = absurd (cc e)

pub first_found : (xs ys : List ℕ) (o : Option ℕ) → o ≡ first_told xs → true ≡ is_some o → o ≡ first_told (xs ++ ys)
first_found [] ys o e h = absurd (cc (e, h))
first_found (x ∷ xs) ys o e h = e

pub found_none : (xs : List ℕ) (o : Option ℕ) → o ≡ first_told xs → false ≡ is_some o → xs ≡ []
found_none [] o e h = refl
found_none (x ∷ xs) o e h = absurd (cc (e, h))

more_block : (xs ys : List Statement) → block_lines (block (xs ++ ys)) ≡ block_lines (block xs) + block_lines (block ys)
more_block [] ys = omega arith
more_block (x ∷ xs) ys = ap (λ n. lines x + n) (more_block xs ys) ∙ sym (add_assoc (lines x) _ _)

pub lines_more : (xs : List Stmt) (i : ℕ) (x : Stmt) → i < length xs → x ≡ get_or xs i x →
    block_lines (block (list_statements (take (i + 1) xs))) ≡ block_lines (block (list_statements (take i xs))) + lines (statement_of x)
lines_more xs i x h is =
    ap (λ l. block_lines (block (list_statements l))) (take_more xs i x h ∙ ap (λ y. take i xs ++ y ∷ []) (sym is))
    ∙ ap (λ l. block_lines (block l)) (map-append statement_of (take i xs) (x ∷ []))
    ∙ more_block (list_statements (take i xs)) (statement_of x ∷ [])
    ∙ omega arith

take_drop_more : (xs : List Stmt) (i : ℕ) (x : Stmt) → i < length xs → x ≡ get_or xs i x → xs ≡ take i xs ++ x ∷ drop (i + 1) xs
take_drop_more xs i x h is =
    sym (take-append-drop (i + 1) xs) ∙ ap (λ l. l ++ drop (i + 1) xs) (take_more xs i x h ∙ ap (λ y. take i xs ++ y ∷ []) (sym is))
    ∙ append_assoc (take i xs) (x ∷ []) (drop (i + 1) xs)

-- of each statement the lines that count, and of a block those of its statements
module _ (of_one : ℕ → Statement → List ℕ) (of_block : ℕ → Statements → List ℕ) (of_none : (n : ℕ) → of_block n Empty ≡ [])
    (of_more : (n : ℕ) (x : Statement) (rest : Statements) → of_block n (Then x rest) ≡ of_one n x ++ of_block (n + lines x) rest) where
  append_lines : (n : ℕ) (xs ys : List Statement) → of_block n (block (xs ++ ys)) ≡ of_block n (block xs) ++ of_block (n + block_lines (block xs)) (block ys)
  append_lines n [] ys = ap (λ k. of_block k (block ys)) (omega arith) ∙ ap (λ l. l ++ of_block (n + 0) (block ys)) (sym (of_none n))
  append_lines n (x ∷ xs) ys =
      of_more n x (block (xs ++ ys))
      ∙ ap (λ l. of_one n x ++ l) (append_lines (n + lines x) xs ys)
      ∙ sym (append_assoc (of_one n x) (of_block (n + lines x) (block xs)) _)
      ∙ ap (λ k. (of_one n x ++ of_block (n + lines x) (block xs)) ++ of_block k (block ys)) (omega arith)
      ∙ ap (λ l. l ++ of_block (n + block_lines (block (x ∷ xs))) (block ys)) (sym (of_more n x (block xs)))

  -- the lines of a block up to one of its statements, and from it on
  pub split_lines : (n : ℕ) (xs : List Stmt) (i : ℕ) (x : Stmt) → i < length xs → x ≡ get_or xs i x → of_block n (block (list_statements (take i xs))) ≡ [] →
      of_block n (block (list_statements xs))
      ≡ of_one (n + block_lines (block (list_statements (take i xs)))) (statement_of x)
      ++ of_block (n + block_lines (block (list_statements (take i xs))) + lines (statement_of x)) (block (list_statements (drop (i + 1) xs)))
  split_lines n xs i x h is e =
      ap (λ l. of_block n (block (list_statements l))) (take_drop_more xs i x h is)
      ∙ ap (λ l. of_block n (block l)) (map-append statement_of (take i xs) (x ∷ drop (i + 1) xs))
      ∙ append_lines n (list_statements (take i xs)) (statement_of x ∷ list_statements (drop (i + 1) xs))
      ∙ ap (λ l. l ++ of_block (n + block_lines (block (list_statements (take i xs)))) (block (statement_of x ∷ list_statements (drop (i + 1) xs)))) e
      ∙ of_more (n + block_lines (block (list_statements (take i xs)))) (statement_of x) (block (list_statements (drop (i + 1) xs)))

  -- and up to the next
  pub next_lines : (n : ℕ) (xs : List Stmt) (i : ℕ) (x : Stmt) → i < length xs → x ≡ get_or xs i x → of_block n (block (list_statements (take i xs))) ≡ [] →
      of_one (n + block_lines (block (list_statements (take i xs)))) (statement_of x) ≡ [] →
      of_block n (block (list_statements (take (i + 1) xs))) ≡ []
  next_lines n xs i x h is e f =
      let k = n + block_lines (block (list_statements (take i xs))) in
      ap (λ l. of_block n (block (list_statements l))) (take_more xs i x h ∙ ap (λ y. take i xs ++ y ∷ []) (sym is))
      ∙ ap (λ l. of_block n (block l)) (map-append statement_of (take i xs) (x ∷ []))
      ∙ append_lines n (list_statements (take i xs)) (statement_of x ∷ [])
      ∙ ap (λ l. l ++ of_block k (block (statement_of x ∷ []))) e
      ∙ of_more k (statement_of x) Empty
      ∙ ap (λ l. l ++ of_block (k + lines (statement_of x)) Empty) f
      ∙ of_none (k + lines (statement_of x))

  -- a statement of a block whose first line that counts is found
  pub found_at : (n : ℕ) (xs : List Stmt) (i : ℕ) (x : Stmt) (o : Option ℕ) → i < length xs → x ≡ get_or xs i x → of_block n (block (list_statements (take i xs))) ≡ [] →
      o ≡ first_told (of_one (n + block_lines (block (list_statements (take i xs)))) (statement_of x)) → true ≡ is_some o →
      o ≡ first_told (of_block n (block (list_statements xs)))
  found_at n xs i x o h is e first some =
      first_found (of_one (n + block_lines (block (list_statements (take i xs)))) (statement_of x)) _ o first some ∙ ap first_told (sym (split_lines n xs i x h is e))

  -- what holds of the next statement of a block: at which line it begins, and that no line before it counts
  pub gone_on : (n next : ℕ) (xs : List Stmt) (i : ℕ) (x : Stmt) (count after : ℕ) (o : Option ℕ) → i < length xs → x ≡ get_or xs i x →
      next ≡ told (n + block_lines (block (list_statements (take i xs)))) → of_block n (block (list_statements (take i xs))) ≡ [] →
      o ≡ first_told (of_one (n + block_lines (block (list_statements (take i xs)))) (statement_of x)) → false ≡ is_some o →
      count ≡ told (lines (statement_of x)) → after ≡ min (next + count) (2 ^ 32 - 1) →
      (after ≡ told (n + block_lines (block (list_statements (take (i + 1) xs))))) × (of_block n (block (list_statements (take (i + 1) xs))) ≡ [])
  gone_on n next xs i x count after o h is begins e first none counted later =
      let k = n + block_lines (block (list_statements (take i xs))) in
      let more = lines_more xs i x h is in (
        later ∙ later_told next k count (lines (statement_of x)) begins counted ∙ ap told (omega (arith, more)),
        next_lines n xs i x h is e (found_none (of_one k (statement_of x)) o first none),
      )

-- the lines of a block from one of its statements on, after the binders there
module _ (R : Rules) where
  wide_from : (bs : List Binder) (n : ℕ) (xs : List Stmt) (i : ℕ) (x : Stmt) → i < length xs → x ≡ get_or xs i x →
      block_wide_lines R bs n (block (list_statements (drop i xs)))
      ≡ wide_lines R bs n (statement_of x) ++ block_wide_lines R (binders_after (statement_of x) bs) (n + lines (statement_of x)) (block (list_statements (drop (i + 1) xs)))
  wide_from bs n xs i x h is = ap (λ (l : List Stmt). block_wide_lines R bs n (block (list_statements l))) (rest_from xs i x h is)

  -- that statement has the first
  pub wide_here : (bs : List Binder) (n : ℕ) (xs : List Stmt) (i : ℕ) (x : Stmt) (o : Option ℕ) (all : List ℕ) → i < length xs → x ≡ get_or xs i x →
      all ≡ block_wide_lines R bs n (block (list_statements (drop i xs))) → o ≡ first_told (wide_lines R bs n (statement_of x)) → true ≡ is_some o →
      o ≡ first_told all
  wide_here bs n xs i x o all h is e first some =
      first_found (wide_lines R bs n (statement_of x)) _ o first some ∙ ap first_told (sym (e ∙ wide_from bs n xs i x h is))

  -- it has none
  pub wide_later : (bs after : List Binder) (n : ℕ) (xs : List Stmt) (i : ℕ) (x : Stmt) (o : Option ℕ) (all : List ℕ) → i < length xs → x ≡ get_or xs i x →
      all ≡ block_wide_lines R bs n (block (list_statements (drop i xs))) → o ≡ first_told (wide_lines R bs n (statement_of x)) → false ≡ is_some o →
      after ≡ binders_after (statement_of x) bs →
      all ≡ block_wide_lines R after (n + lines (statement_of x)) (block (list_statements (drop (i + 1) xs)))
  wide_later bs after n xs i x o all h is e first none same =
      let rest = block (list_statements (drop (i + 1) xs)) in
      e ∙ wide_from bs n xs i x h is
      ∙ ap (λ (l : List ℕ). l ++ block_wide_lines R (binders_after (statement_of x) bs) (n + lines (statement_of x)) rest) (found_none (wide_lines R bs n (statement_of x)) o first none)
      ∙ ap (λ (b : List Binder). block_wide_lines R b (n + lines (statement_of x)) rest) (sym same)
