-- The lines of a certificate's canonical text, where its line `cert` is given.
use Rattle.std.specs.Prelude.{ℕ, ◌+◌, length}
use Rattle.plan.specs.Certificate.Certificate.{Certificate}

-- all own regions come first, then the needed regions, the claims and the windows, then `end`
abbrev pub own_line : ℕ → ℕ → ℕ
own_line line i = line + 1 + i

abbrev pub need_line : Certificate → ℕ → ℕ → ℕ
need_line c line i = line + 1 + length c.own + i

abbrev pub claim_line : Certificate → ℕ → ℕ → ℕ
claim_line c line i = line + 1 + length c.own + length c.needs + i

abbrev pub window_line : Certificate → ℕ → ℕ → ℕ
window_line c line i = line + 1 + length c.own + length c.needs + length c.claims + i

abbrev pub end_line : Certificate → ℕ → ℕ
end_line c line = window_line c line (length c.windows)
