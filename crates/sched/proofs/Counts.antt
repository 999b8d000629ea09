-- Loops over loops and splits, turn by turn.
use Rattle.std.proofs.Common.{◌≡◌, ℕ, ◌+◌, ◌-◌, ◌/◌, ◌<◌, ◌≤◌, true, false, List, [], ◌∷◌, ◌++◌, length, drop, drop-cons, add-one, get_or, refl}
use Rattle.std.proofs.Math.Nat.{div-le_self}
use Rattle.sched.specs.declared.schedule.Split.{Split}
use Rattle.sched.specs.declared.placing.Loop.{Loop}
use Rattle.sched.specs.declared.numbers.Extent.{Extent}
use Rattle.sched.specs.declared.numbers.Numbers.{Numbers}
use Rattle.sched.specs.Placing.{is_parallel}
use Rattle.sched.specs.Numbers.{numbers_named, whole_numbers, halves, cut_numbers, parallel_loops, grid_counts}

-- no more blocks than numbers
pub few_blocks : (c n : ℕ) → c / n ≤ c
few_blocks c n = div-le_self c n

-- the next variable runs over the next dimension
pub whole_next : (xs : List (List ℕ)) (next others : List Extent) (i : ℕ) (d : List ℕ) (e : Extent) → i < length xs → next ≡ e ∷ others → whole_numbers (drop i xs) next ≡ record { name = get_or xs i d; low = e.low; count = e.count } ∷ whole_numbers (drop (i + 1) xs) others
whole_next xs next others i d e lt is = rw (is, drop-cons xs i d lt, add-one) refl

pub whole_ends : (xs : List (List ℕ)) (next : List Extent) (i : ℕ) (d : List ℕ) → i < length xs → next ≡ [] → whole_numbers (drop i xs) next ≡ []
whole_ends xs next i d lt is = rw (is, drop-cons xs i d lt) refl

-- the next split adds its loops
pub cut_next : (cs : List Split) (rs : List Numbers) (i : ℕ) (d : Split) → i < length cs → cut_numbers (drop i cs) rs ≡ cut_numbers (drop (i + 1) cs) (rs ++ halves (get_or cs i d) (numbers_named rs (get_or cs i d).whole).count)
cut_next cs rs i d lt = rw (drop-cons cs i d lt, add-one) refl

-- a parallel loop is counted
pub parallel_next : (rs : List Numbers) (ls : List Loop) (i : ℕ) (d : Loop) → i < length ls → is_parallel (get_or ls i d) ≡ true → grid_counts rs (parallel_loops (drop i ls)) ≡ (numbers_named rs (get_or ls i d).name).count ∷ grid_counts rs (parallel_loops (drop (i + 1) ls))
parallel_next rs ls i d lt h = rw (drop-cons ls i d lt, add-one, h) refl

-- another is not
pub parallel_not : (rs : List Numbers) (ls : List Loop) (i : ℕ) (d : Loop) → i < length ls → is_parallel (get_or ls i d) ≡ false → grid_counts rs (parallel_loops (drop i ls)) ≡ grid_counts rs (parallel_loops (drop (i + 1) ls))
parallel_not rs ls i d lt h = rw (drop-cons ls i d lt, add-one, h) refl
