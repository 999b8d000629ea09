-- How a function of the parser stands above those that it calls at the same place.
use Rattle.std.proofs.Common.{ℕ, ◌+◌, ◌*◌}

abbrev pub rank : ℕ → ℕ → ℕ
rank below step = 16 * below + step
