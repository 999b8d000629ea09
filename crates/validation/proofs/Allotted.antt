-- Counts over the statements of a block, and over the numbers of a grid.
use Rattle.std.proofs.Common.{◌≡◌, ℕ, zero, suc, ◌+◌, ◌*◌, ◌-◌, ◌^◌, ◌≤◌, ◌<◌, List, [], ◌∷◌, ◌++◌, length, drop, take, get_or, refl, sym, ap, ◌∙◌, arith}
use Rattle.std.proofs.lemmas.List.{take_more}
use Rattle.plan.specs.declared.stmt.Stmt.{Stmt}
use Rattle.plan.specs.Plan.{Statements, Empty, Then, block}
use Rattle.plan.specs.Lists.{list_statements}
use Rattle.plan.specs.Certificate.Cells.{piece_count}
use Rattle.validation.specs.Groups.Sizes.{more, block_allotted, block_bound_in, block_held_in}

-- nothing is left behind the end of a list
pub drop_end : {A : Type 0} (xs : List A) (i : ℕ) → length xs ≤ i → drop i xs ≡ []
drop_end [] zero h = refl
drop_end [] (suc i) h = refl
drop_end (x ∷ xs) zero h = absurd (omega (arith, h))
drop_end (x ∷ xs) (suc i) h = drop_end xs i (omega (arith, h))

-- counts of a block's statements that are counted to the end of a u64
module _ (count : Statements → ℕ) (empty : count Empty ≡ 0) (small : (s : Statements) → count s ≤ 2 ^ 64 - 1) where
  count_all : (xs : List Stmt) (i total : ℕ) → length xs ≤ i → total ≤ 2 ^ 64 - 1
      → more total (count (block (list_statements (drop i xs)))) ≡ more 0 (count (block (list_statements xs)))
      → total ≡ count (block (list_statements xs))
  count_all xs i total h few sum =
      let at_end : count (block (list_statements (drop i xs))) ≡ 0 = ap (λ (l : List Stmt). count (block (list_statements l))) (drop_end xs i h) ∙ empty in
      let all = small (block (list_statements xs)) in
      omega (arith, at_end, few, sum, all)

bound_small : (s : Statements) → block_bound_in s ≤ 2 ^ 64 - 1
bound_small Empty = omega arith
bound_small (Then a rest) = omega arith

held_small : (s : Statements) → block_held_in s ≤ 2 ^ 64 - 1
held_small Empty = omega arith
held_small (Then a rest) = omega arith

pub bound_all : (xs : List Stmt) (i total : ℕ) → length xs ≤ i → total ≤ 2 ^ 64 - 1
    → more total (block_bound_in (block (list_statements (drop i xs)))) ≡ more 0 (block_bound_in (block (list_statements xs)))
    → total ≡ block_bound_in (block (list_statements xs))
bound_all xs i total h few sum = count_all block_bound_in refl bound_small xs i total h few sum

pub held_all : (xs : List Stmt) (i total : ℕ) → length xs ≤ i → total ≤ 2 ^ 64 - 1
    → more total (block_held_in (block (list_statements (drop i xs)))) ≡ more 0 (block_held_in (block (list_statements xs)))
    → total ≡ block_held_in (block (list_statements xs))
held_all xs i total h few sum = count_all block_held_in refl held_small xs i total h few sum

more_none : (s : Statements) → more 0 (block_allotted s) ≡ block_allotted s
more_none Empty = omega arith
more_none (Then a rest) = omega arith

-- all is counted at the end
pub allotted_all : (xs : List Stmt) (i total : ℕ) → length xs ≤ i → total ≤ 2 ^ 64 - 1
    → more total (block_allotted (block (list_statements (drop i xs)))) ≡ more 0 (block_allotted (block (list_statements xs)))
    → total ≡ block_allotted (block (list_statements xs))
allotted_all xs i total h small sum =
    let none : more total 0 ≡ total = omega (arith, small) in
    sym none ∙ sym (ap (λ (l : List Stmt). more total (block_allotted (block (list_statements l)))) (drop_end xs i h)) ∙ sum ∙ more_none (block (list_statements xs))

pieces-more : (xs : List ℕ) (n : ℕ) → piece_count (xs ++ n ∷ []) ≡ piece_count xs * n
pieces-more [] n = omega arith
pieces-more (x ∷ xs) n = ap (λ v. x * v) (pieces-more xs n) ∙ mul_three x (piece_count xs) n
  where
    mul_three : (a b c : ℕ) → a * (b * c) ≡ a * b * c
    mul_three a b c = grind arith

-- one number of a grid more
pub pieces_next : (xs : List ℕ) (i : ℕ) → i < length xs → piece_count (take (i + 1) xs) ≡ piece_count (take i xs) * get_or xs i 0
pieces_next xs i h = ap piece_count (take_more xs i 0 h) ∙ pieces-more (take i xs) (get_or xs i 0)
