-- What is told of what a function makes: it, or that there is none within the limits; of want of memory nothing.
use Rattle.std.specs.Prelude.{◌≡◌, Bool, true, false, Option, Some, None, Result, Ok, Err}
use Rattle.sched.specs.declared.stop.Stop.{Stop}
use Rattle.sched.specs.declared.stop.Stop.TheVariants.{Memory, Limit}

abbrev pub Tells : {X A : Type 0} → Result X Stop → A → Option A → Type 0
Tells (Ok x) made told = told ≡ Some made
Tells (Err Memory) made told = Unit {0}
Tells (Err Limit) made told = told ≡ None

-- the same of what is answered, as it is seen
abbrev pub Gives : {X A : Type 0} → Result X Stop → (X → A) → Option A → Type 0
Gives (Ok x) seen told = told ≡ Some (seen x)
Gives (Err Memory) seen told = Unit {0}
Gives (Err Limit) seen told = told ≡ None

-- it is made where this holds, and there is none within the limits where it does not
abbrev pub TellsIf : {X : Type 0} → Result X Stop → Bool → Type 0
TellsIf (Ok x) is = is ≡ true
TellsIf (Err Memory) is = Unit {0}
TellsIf (Err Limit) is = is ≡ false
