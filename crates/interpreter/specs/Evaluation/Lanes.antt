-- What an expression comes to at the turns of a run.
use Rattle.std.specs.Prelude.{◌≡◌, ℕ, ◌<◌, ◌≤◌, ◌^◌, List, [], ◌∷◌, drop, Bool, Option, Some, None, ℤ, pos, ◌+ℤ◌, ◌≤ℤ◌, slice_index_or}
use Rattle.std.specs.Int.{int_max, int_min}
use Rattle.numeric.specs.declared.ty.Ty.{Ty}
use Rattle.numeric.specs.Wrap.{greatest, least, wrap}
use Rattle.tree.specs.declared.value.Value.{Value}
use Rattle.tree.specs.Meaning.{typed}
use Rattle.plan.specs.Semantics.Found.{with}
use Rattle.interpreter.specs.declared.evaluation.lanes.Number.{Number}
use Rattle.interpreter.specs.declared.evaluation.lanes.ClampedRamp.{ClampedRamp}
use Rattle.interpreter.specs.declared.evaluation.lanes.Lanes.{Lanes}
use Rattle.interpreter.specs.declared.evaluation.lanes.Lanes.TheVariants.{Broadcast, Ramp, Clamped, Vector}
use Rattle.interpreter.specs.Evaluation.Words.{mask_at, word_at}

-- the number of a list for a turn
abbrev pub number_at : List Number → ℕ → ℤ
number_at zs k = (slice_index_or zs k (record { value = pos 0 })).value

abbrev pub type_of : Lanes → Ty
type_of (Broadcast t z) = t
type_of (Ramp t z) = t
type_of (Clamped t r) = t
type_of (Vector t) = t

-- the number of a clamped ramp at a turn
abbrev pub clamped_number : ClampedRamp → ℕ → ℤ
clamped_number r k = int_max (int_min (r.first.value +ℤ pos k) r.high.value) r.low.value

-- the number at a turn, where the register holds these words
abbrev pub lane_number : Lanes → List ℕ → ℕ → ℤ
lane_number (Broadcast t z) ws k = z.value
lane_number (Ramp t z) ws k = z.value +ℤ pos k
lane_number (Clamped t r) ws k = clamped_number r k
lane_number (Vector t) ws k = word_at t ws k

abbrev pub lane : Lanes → List ℕ → ℕ → Value
lane x ws k = typed (type_of x) (lane_number x ws k)

-- there are not too many numbers, and those that rise by one from the first one on are of 64 bits
pub record IsShortRamp (n : ℕ) (first : ℤ) : Type 0 where
  pub count : n ≤ 2 ^ 60
  pub last : (first +ℤ pos n) ≤ℤ pos (2 ^ 62)

-- numbers of the value's type rise by one from it on
pub record IsRamp (n : ℕ) (first : Value) : Type 0 where
  pub least : least first.ty ≤ℤ first.number
  pub greatest : (first.number +ℤ pos n) ≤ℤ greatest first.ty
  pub short : IsShortRamp n first.number

-- at so many turns, all numbers are of 64 bits
abbrev pub IsNarrowFor : ℕ → Lanes → Type 0
IsNarrowFor n (Broadcast t z) = Unit {0}
IsNarrowFor n (Ramp t z) = IsShortRamp n z.value
IsNarrowFor n (Clamped t r) = IsShortRamp n r.first.value
IsNarrowFor n (Vector t) = Unit {0}

-- at each of so many turns, this is found
abbrev pub FindsRun : ℕ → Lanes → List ℕ → (ℕ → Option Value) → Type 0
FindsRun n x ws f = (k : ℕ) → k < n → f k ≡ Some (lane x ws k)

-- the numbers of some indices at a turn, each of which has a register of so many words, one behind the other
abbrev pub lanes_at : ℕ → List Lanes → List ℕ → ℕ → List ℤ
lanes_at n [] ws k = []
lanes_at n (x ∷ xs) ws k = lane_number x ws k ∷ lanes_at n xs (drop n ws) k

-- a value, wrapped to the type if there is one
abbrev pub taken_as : Option Ty → Value → Value
taken_as None v = v
taken_as (Some t) v = typed t (wrap t v.number)

-- what is found, wrapped to the type if there is one
abbrev pub found_as : Option Ty → Option Value → Option Value
found_as None o = o
found_as (Some t) o = with o (λ v. Some (typed t (wrap t v.number)))

-- at each of so many turns, the condition is found to be what the mask says
abbrev pub FindsMask : ℕ → List ℕ → (ℕ → Option Bool) → Type 0
FindsMask n ws f = (k : ℕ) → k < n → f k ≡ Some (mask_at ws k)
