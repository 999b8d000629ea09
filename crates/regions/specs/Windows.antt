-- How many numbers a window has, and which folds have places for them.
-- What crates below need of it stands there: `sched`.
use Rattle.std.specs.Prelude.{◌&&◌, Bool, false, ℕ, List, [], ◌∷◌, Option, Some, None, ℤ, pos, int_le}
use Rattle.std.specs.List.{list_all}
use Rattle.lin.specs.Forms.{Form}
use Rattle.lin.specs.declared.scope.Binding.{Binding}
use Rattle.lin.specs.declared.span.Span1.{Span1}
use Rattle.meaning.specs.Names.{same_name}
use Rattle.sched.specs.declared.schedule.Fold.{Fold}
use Rattle.sched.specs.Windows.{fewer, size_below}

abbrev pub size_within : List Binding → List Form → List Form → Option ℤ
size_within scope [] highs = None
size_within scope (low ∷ lows) highs = fewer (size_below scope low highs) (size_within scope lows highs)

-- the smallest over all pairs of a lower and an upper form
abbrev pub window_size : List Binding → Span1 → Option ℤ
window_size scope x = size_within scope x.lower x.upper

-- so many places hold the window
abbrev pub holds_window : Option ℤ → ℕ → Bool
holds_window None n = false
holds_window (Some size) n = int_le size (pos n)

-- the fold is one of the variable along which the function slides, with places for the window
abbrev pub fits : List ℕ → Option ℤ → Fold → Bool
fits variable size f = same_name f.dimension variable && holds_window size f.factor

-- each of them is
abbrev pub all_fit : List ℕ → Option ℤ → List Fold → Bool
all_fit variable size fs = list_all (fits variable size) fs
