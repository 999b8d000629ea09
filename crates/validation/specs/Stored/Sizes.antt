-- How large an expression is.
use Rattle.std.specs.Prelude.{ℕ, ◌-◌, ◌^◌, ◌&&◌, nat_le, min, Bool}
use Rattle.tree.specs.Term.{Term}
use Rattle.tree.specs.Tree.{node_count, depth}

-- a number as it is counted: numbers past 2^64 - 1 count as that
abbrev pub counted : ℕ → ℕ
counted n = min n (2 ^ 64 - 1)

-- at most 4096 nodes, and at most 256 on a way down
abbrev pub is_small : Term → Bool
is_small e = nat_le (node_count e) 4096 && nat_le (depth e) 256
