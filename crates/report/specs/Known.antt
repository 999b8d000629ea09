-- What is known of symbols.
use Rattle.std.specs.Prelude.{◌≡◌, ℕ, ◌==◌, Bool, true, false, not, if◌then◌else◌, List, fold, ℤ, pos, ◌≤ℤ◌}
use Rattle.plan.specs.Symbols.{Symbols}
use Rattle.report.specs.declared.known.Binding.{Binding}

-- a symbol to which nothing was bound is 0
abbrev pub unbound : ℕ → Binding
unbound i = record { symbol = i; low = pos 0; high = pos 0; first = false; later = true }

-- what the last binding of a symbol says
abbrev pub known_of : List Binding → ℕ → Binding
known_of known i = fold (λ found b. if b.symbol == i then b else found) (unbound i) known

-- a symbol may have this value, in a first turn or not
pub record Allows (b : Binding) (z : ℤ) (turn : Bool) : Type 0 where
  pub low : b.low ≤ℤ z
  pub high : z ≤ℤ b.high
  pub first : turn ≡ true → b.first ≡ true
  pub later : turn ≡ false → b.later ≡ true

-- the symbols may have these values
abbrev pub AllowsAll : List Binding → Symbols → Type 0
AllowsAll known s = (i : ℕ) → Allows (known_of known i) (s.value i) (s.first i)

-- a symbol can have but one value
pub record IsSettled (b : Binding) : Type 0 where
  pub value : b.low ≡ b.high
  pub turn : b.later ≡ not b.first

abbrev pub AllSettled : List Binding → Type 0
AllSettled known = (i : ℕ) → IsSettled (known_of known i)
