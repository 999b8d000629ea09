-- When memory is enough for the pieces of a group.
use Rattle.std.specs.Prelude.{◌≡◌, ℕ, ◌+◌, ◌≤◌, ◌<◌, List, ◌++◌, length, All, Option, None, Some, MatchOption, Result, Ok, Err, ℤ, ⊤, slice_get}
use Rattle.plan.specs.Plan.{Group}
use Rattle.plan.specs.Certificate.Certificate.{Certificate}
use Rattle.plan.specs.Certificate.Cells.{no_symbols}
use Rattle.plan.specs.Semantics.Setting.{allocated, dimensions_in}
use Rattle.interpreter.specs.declared.evaluation.stop.Stop.{Stop}
use Rattle.interpreter.specs.declared.evaluation.stop.Stop.TheVariants.{Fault, Full}
use Rattle.interpreter.specs.Buffers.Blocks.{limits_of, HasMemoryFor}
use Rattle.interpreter.specs.States.{space_of}
use Rattle.interpreter.specs.declared.state.State.{State}
use Rattle.interpreter.specs.declared.buffers.limit.Limit.{Limit}
use Rattle.interpreter.specs.Bindings.{Bindings, symbols_of}
use Rattle.interpreter.specs.Needs.{allotments, call_indices, coordinate_count, own_count, symbol_count, Space, StatementFits, StatementIsShort}
use Rattle.interpreter.specs.LineCodes.{codes_at}
use Rattle.interpreter.specs.Sizes.{size_in, sizes_at}
use Rattle.interpreter.specs.declared.line_codes.LineCode.{LineCode}
use Rattle.interpreter.specs.declared.needs.Needs.{Needs}
use Rattle.interpreter.specs.declared.scratch.Scratch.{Scratch}
use Rattle.interpreter.specs.declared.sizes.Size.{Size}

-- more was noted: these buffers, so many symbols, coordinates of points and indices of calls, and a fact
pub record IsNoted (old new : Needs) (more : List Limit) (s c i : ℕ) (P : Type 0) : Type 0 where
  pub limits : new.limits.items ≡ old.limits.items ++ more
  pub symbols : new.symbols ≡ old.symbols + s
  pub coordinates : new.coordinates ≡ old.coordinates + c
  pub indices : new.indices ≡ old.indices + i
  pub fact : P

-- of the pieces of a group of this number too: the points that they own, and its statements
pub record IsNotedFor (c : Certificate) (number : ℕ) (g : Group) (old new : Needs) : Type 0 where
  pub limits : new.limits.items ≡ old.limits.items ++ allotments g.body
  pub symbols : new.symbols ≡ old.symbols + symbol_count g.body
  pub coordinates : new.coordinates ≡ old.coordinates + (own_count c number + coordinate_count g.body)
  pub indices : new.indices ≡ old.indices + call_indices g.body
  pub short : StatementIsShort g.body

-- a state with all the memory that was noted, and for so many numbers
pub record IsMadeFor (needs : Needs) (most : ℕ) (x : State) : Type 0 where
  pub limits : All (λ l. HasMemoryFor (limits_of x.memory) l.buffer l.places) needs.limits.items
  pub given : most ≤ x.given.room
  pub numbers : x.numbers.room ≡ needs.coordinates
  pub point : x.point.room ≡ needs.coordinates
  pub stack : x.stack.room ≡ needs.indices

-- the sizes of the group's buffers, the codes of its lines, no symbol, and memory for the run of any piece of the group
pub record Suffices (known : List Size) (codes : List LineCode) (none symbols : Bindings) (space : Space) (c : Certificate) (number : ℕ) (g : Group) : Type 0 where
  pub sizes : (b : ℕ) → size_in known b ≡ dimensions_in (allocated g.body b)
  pub constants : symbols_of none ≡ no_symbols
  pub grid : length g.grid ≤ symbols.grid_room
  pub fits : StatementFits (record { count = own_count c number; codes = codes }) space symbols.room g.body 0

-- the scratch has all the memory that a run of a piece of the group takes
abbrev pub IsScratchFor : Scratch → Certificate → ℕ → Group → Type 0
IsScratchFor x c number g = Suffices (sizes_at x.sizes.items number) (codes_at x.codes.items number) x.constants x.symbols (space_of x.state) c number g

-- for each of these groups
abbrev pub IsScratchForAll : Scratch → Certificate → List Group → Type 0
IsScratchForAll x c gs = (n : ℕ) (g : Group) → slice_get gs n ≡ Some g → IsScratchFor x c n g

-- for how many numbers it has room
abbrev pub room_of : Scratch → ℕ
room_of x = x.state.given.room

-- a scratch after a run: it suffices for what it did before
pub record IsAgain (old new : Scratch) : Type 0 where
  pub sizes : new.sizes.items ≡ old.sizes.items
  pub codes : new.codes.items ≡ old.codes.items
  pub constants : new.constants ≡ old.constants
  pub grid : new.symbols.grid_room ≡ old.symbols.grid_room
  pub symbols : new.symbols.room ≡ old.symbols.room
  pub space : space_of new.state ≡ space_of old.state
  pub given : new.state.given.room ≡ old.state.given.room

-- How the run of a piece ends in memory for so many numbers: it gives these, or has a fault, or gives more.
abbrev pub GivesIn : {A : Type 0} → ℕ → Result A Stop → List ℤ → Option (List ℤ) → Type 0
GivesIn room (Ok a) given whole = whole ≡ Some given
GivesIn room (Err Fault) given whole = whole ≡ None
GivesIn room (Err Full) given whole = MatchOption whole ⊤ (λ v. room < length v)
