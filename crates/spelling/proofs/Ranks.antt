-- How a function of the reader stands above those that it calls where as many brackets may be open.
use Rattle.std.proofs.Common.{ℕ, ◌+◌, ◌*◌}

abbrev pub rank : ℕ → ℕ → ℕ
rank below step = 16 * below + step
