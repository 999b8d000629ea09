-- How often the lines of a statement count: stores into some buffers, and cells fetched of some groups.
use Rattle.std.specs.Prelude.{ℕ, ◌+◌, ◌||◌, Bool, false, if◌then◌else◌, length, sum_by, int_le}
use Rattle.plan.specs.Plan.{Statement, Seq, For, Let, First, Guard, Alloc, Fetch, Store, Publish, Statements, Empty, Then}
use Rattle.plan.specs.Symbols.{Symbols, bind, form_value, largest, points, turns}
use Rattle.plan.specs.Semantics.Actions.{after}

-- whether a store into a buffer counts, whether a cell of a group does, and how many are enough: there counting may stop
pub record Counted : Type 0 where
  pub buffer : ℕ → Bool
  pub group : ℕ → Bool
  pub enough : ℕ

module _ (x : Counted) where
  abbrev mutual
    pub tally : Statement → Symbols → ℕ
    tally (Seq all) s = block_tally all s
    tally (For i span kind body) s = sum_by (λ z. tally body (bind s i z (int_le z (largest s span.lower)))) (turns s span)
    tally (Let i pick forms) s = 0
    tally (First i a b) s = if s.first i then tally a s else tally b s
    tally (Guard low high body) s = if int_le (form_value low s) (form_value high s) then tally body s else 0
    tally (Alloc b f places) s = 0
    tally (Fetch b g region) s = if x.group g then length (points s region) else 0
    tally (Store b k at e) s = if x.buffer b then 1 else 0
    tally (Publish c) s = 0

    pub block_tally : Statements → Symbols → ℕ
    block_tally Empty s = 0
    block_tally (Then a rest) s = tally a s + block_tally rest (after a s)

  -- whether some line of a statement counts
  abbrev mutual
    pub some_counts : Statement → Bool
    some_counts (Seq all) = block_counts all
    some_counts (For i span kind body) = some_counts body
    some_counts (Let i pick forms) = false
    some_counts (First i a b) = some_counts a || some_counts b
    some_counts (Guard low high body) = some_counts body
    some_counts (Alloc b f places) = false
    some_counts (Fetch b g region) = x.group g
    some_counts (Store b k at e) = x.buffer b
    some_counts (Publish c) = false

    pub block_counts : Statements → Bool
    block_counts Empty = false
    block_counts (Then a rest) = some_counts a || block_counts rest
