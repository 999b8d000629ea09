-- Values of symbols, kept as those of a grid point and what was bound since.
use Rattle.std.specs.Prelude.{◌≡◌, ℕ, List, [], ◌∷◌, ◌++◌, ℤ}
use Rattle.lin.specs.Forms.{Form}
use Rattle.plan.specs.declared.stmt.Pick.{Pick}
use Rattle.plan.specs.declared.stmt.Pick.TheVariants.{Min, Max}
use Rattle.plan.specs.Symbols.{Symbols, bind, largest, smallest}
use Rattle.plan.specs.Certificate.Cells.{grid_symbols}
use Rattle.interpreter.specs.declared.symbols.Binding.{Binding}

-- a grid point, what was bound since, the newest last, how many coordinates a grid point may have, and how many symbols can be bound
pub record Bindings : Type 0 where
  pub grid : List ℕ
  pub bound : List Binding
  pub grid_room : ℕ
  pub room : ℕ

abbrev pub bind_all : Symbols → List Binding → Symbols
bind_all s [] = s
bind_all s (b ∷ bs) = bind_all (bind s b.symbol b.value b.first) bs

-- the values that the symbols have
abbrev pub symbols_of : Bindings → Symbols
symbols_of x = bind_all (grid_symbols x.grid) x.bound

-- one more symbol bound
abbrev pub also : Bindings → Binding → Bindings
also x b = record { grid = x.grid; bound = x.bound ++ b ∷ []; grid_room = x.grid_room; room = x.room }

-- more symbols are bound behind the others
pub record Extends (old new : Bindings) : Type 0 where
  pub grid : new.grid ≡ old.grid
  pub more : List Binding
  pub bound : new.bound ≡ old.bound ++ more
  pub grid_room : new.grid_room ≡ old.grid_room
  pub room : new.room ≡ old.room

-- the number that a `let` line names
abbrev pub named_value : Pick → Symbols → List Form → ℤ
named_value Min s ls = smallest s ls
named_value Max s ls = largest s ls
