-- What a run in memory has come to.
use Rattle.std.specs.Prelude.{◌≡◌, ℕ, ◌<◌, List, length, ℤ, Result, Ok, Err, Option, Some, None, ⊤}
use Rattle.tree.specs.declared.value.Value.{Value}
use Rattle.plan.specs.Semantics.Found.{with}
use Rattle.plan.specs.Semantics.Memory.{write}
use Rattle.interpreter.specs.declared.evaluation.stop.Stop.TheVariants.{Fault, Full}
use Rattle.interpreter.specs.declared.evaluation.stop.Stop.{Stop}
use Rattle.interpreter.specs.Buffers.Blocks.{limits_of, memory_of}
use Rattle.interpreter.specs.Needs.{Space}
use Rattle.interpreter.specs.Steps.{Progress}
use Rattle.interpreter.specs.declared.state.State.{State}

abbrev pub progress_of : State → Progress
progress_of x = record { memory = memory_of x.memory; given = x.given.items }

-- the run gives more numbers than there is room for
abbrev pub Overflows : ℕ → Option Progress → Type 0
Overflows room None = ⊤
Overflows room (Some x) = room < length x.given

-- An answer says this progress, a fault that there is none. Where there is room for so many numbers, it is full only in a run
-- that gives more.
abbrev pub EndsIn : {A : Type 0} → ℕ → (A → Progress) → Result A Stop → Option Progress → Type 0
EndsIn room says (Ok a) whole = whole ≡ Some (says a)
EndsIn room says (Err Fault) whole = whole ≡ None
EndsIn room says (Err Full) whole = Overflows room whole

-- the memory of a state
abbrev pub space_of : State → Space
space_of x = record { limits = limits_of x.memory; numbers = x.numbers.room; point = x.point.room; stack = x.stack.room }

-- the memory is as much, and for as many numbers that are given
pub record IsAsLarge (old new : State) : Type 0 where
  pub space : space_of new ≡ space_of old
  pub given : new.given.room ≡ old.given.room

-- the place of a point is set, and nothing else; a fault where it has none
abbrev pub SetsOrFaults : {A : Type 0} → Result A Stop → State → State → ℕ → List ℤ → Value → Type 0
SetsOrFaults r old new b p v = EndsIn old.given.room (λ _. progress_of new) r (with (write (memory_of old.memory) b p v) (λ m. Some (record { memory = m; given = old.given.items })))
