-- How the words read after one of them is written.
use Rattle.std.proofs.Common.{◌≡◌, ◌≢◌, ℕ, ◌+◌, ◌<◌, List, length, set, arith, get_or-set_same, get_or-set_other}
use Rattle.board.specs.Layout.{Layout, pieces_of}
use Rattle.board.specs.Words.{word_count, counter, flag, cell}

module _ (plan : Layout) (words : List ℕ) (size : length words ≡ word_count plan) (n : ℕ) where
  -- a write of the counter
  pub counter-draw : counter (set words 0 n) ≡ n
  counter-draw = get_or-set_same words 0 n 0 (omega arith)

  pub flag-draw : (j : ℕ) → flag (set words 0 n) j ≡ flag words j
  flag-draw j = get_or-set_other words 0 (1 + j) n 0 (λ e. omega arith)

  pub cell-draw : (c : ℕ) → cell plan (set words 0 n) c ≡ cell plan words c
  cell-draw c = get_or-set_other words 0 (1 + pieces_of plan + c) n 0 (λ e. omega arith)

  -- a write of a flag
  pub counter-finish : (k : ℕ) → counter (set words (1 + k) n) ≡ counter words
  counter-finish k = get_or-set_other words (1 + k) 0 n 0 (λ e. omega arith)

  pub flag-finish : (k : ℕ) → k < pieces_of plan → flag (set words (1 + k) n) k ≡ n
  flag-finish k in_range = get_or-set_same words (1 + k) n 0 (omega arith)

  pub flag-finish_other : (k j : ℕ) → j ≢ k → flag (set words (1 + k) n) j ≡ flag words j
  flag-finish_other k j apart = get_or-set_other words (1 + k) (1 + j) n 0 (λ e. apart (omega arith))

  pub cell-finish : (k c : ℕ) → k < pieces_of plan → cell plan (set words (1 + k) n) c ≡ cell plan words c
  cell-finish k c in_range = get_or-set_other words (1 + k) (1 + pieces_of plan + c) n 0 (λ e. omega arith)

  -- a write of a cell
  pub counter-put : (d : ℕ) → counter (set words (1 + pieces_of plan + d) n) ≡ counter words
  counter-put d = get_or-set_other words (1 + pieces_of plan + d) 0 n 0 (λ e. omega arith)

  pub flag-put : (d j : ℕ) → j < pieces_of plan → flag (set words (1 + pieces_of plan + d) n) j ≡ flag words j
  flag-put d j in_range = get_or-set_other words (1 + pieces_of plan + d) (1 + j) n 0 (λ e. omega arith)

  pub cell-put : (d : ℕ) → d < plan.cells → cell plan (set words (1 + pieces_of plan + d) n) d ≡ n
  cell-put d in_range = get_or-set_same words (1 + pieces_of plan + d) n 0 (omega arith)

  pub cell-put_other : (d c : ℕ) → c ≢ d → cell plan (set words (1 + pieces_of plan + d) n) c ≡ cell plan words c
  cell-put_other d c apart = get_or-set_other words (1 + pieces_of plan + d) (1 + pieces_of plan + c) n 0 (λ e. apart (omega arith))
