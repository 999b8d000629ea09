-- What the algorithm, the fetched cells and the stored expressions have to be for a private run to give right values.
use Rattle.std.specs.Prelude.{◌≡◌, ℕ, ◌+◌, true, List, [], ◌∷◌, Some, None, ℤ, IsTrue}
use Rattle.tree.specs.declared.value.Value.{Value}
use Rattle.tree.specs.Meaning.{value_of}
use Rattle.meaning.specs.Names.{bound}
use Rattle.plan.specs.Plan.{Statement}
use Rattle.plan.specs.Symbols.{Symbols}
use Rattle.plan.specs.Semantics.Actions.{Action, Allot, Take, Put, Change, Give, actions}
use Rattle.plan.specs.Semantics.Memory.{nothing}
use Rattle.plan.specs.Semantics.Run.{Around, Input, outcome}
use Rattle.soundness.specs.Origins.{Given, Plain, Within, matches, origin, origin_for, answer, left_point, right_variables}
use Rattle.soundness.specs.Claims.{Scope, IsSound}

module _ (around : Around) (given : Given) where
  -- what is around the piece is what the algorithm and the certificate say
  pub record Suits : Type 0 where
    pub sources : (name : List ℕ) → around.source name ≡ given.outline.source name
    pub buffers : (c : ℕ) → around.claim_buffer c ≡ (given.outline.claim c).buffer
    pub samples : (name : List ℕ) (p : List ℤ) → given.outline.source name ≡ Input → IsTrue (given.in_input p) → around.sample p ≡ Some (given.calls name p)

  -- a fetched cell has its value; a stored expression is its function's value at its point; a step of an update gives the
  -- point of its left side the right side's value, and leaves every other point with the known coordinates as it was
  abbrev pub IsRight : Action → Type 0
  IsRight (Allot b rooms) = Unit {0}
  IsRight (Take b f p) = around.cell f p ≡ given.value_at (origin f (given.all_steps f) p)
  IsRight (Put b f names p e) = value_of (bound names p) (answer given Plain) e ≡ given.value_at (origin f 0 p)
  IsRight (Change b f k names at over e) =
      let n = given.step_at f k over in
      let r = Within f n in
      let l = left_point given names at over r in
      IsTrue (given.in_domain f k over) →
      (value_of (right_variables given names at over r) (answer given r) e ≡ given.value_at (origin f (n + 1) l))
      × ((q : List ℤ) → matches at q ≡ true → (q ≡ l → ⊥) → given.value_at (origin f (n + 1) q) ≡ given.value_at (origin f n q))
  IsRight (Give c p) = Unit {0}

  abbrev pub AreRight : List Action → Type 0
  AreRight [] = Unit {0}
  AreRight (a ∷ later) = IsRight a × AreRight later

-- a piece's beginning: the grid's symbols, no buffer and no claim
abbrev pub at_start : Symbols → Scope
at_start s = record { symbols = s; rooms = λ b. None; facts = [] }

-- the values that the actions have to give
abbrev pub right_outcome : Given → List Action → List Value
right_outcome given [] = []
right_outcome given (Give c p ∷ later) = given.value_at (origin_for given Plain c p) ∷ right_outcome given later
right_outcome given (_ ∷ later) = right_outcome given later

-- the private run of a sound statement makes no fault, and what it gives is right: the value of each claim's function after
-- all its steps
abbrev pub PrivateRunsAreRight : Type 0
PrivateRunsAreRight =
    (around : Around) (given : Given) (body : Statement) (line : ℕ) (s : Symbols) →
    Suits around given → AreRight around given (actions given.outline.setting body s) → IsSound given body line (at_start s) →
    outcome around (actions given.outline.setting body s) nothing ≡ Some (right_outcome given (actions given.outline.setting body s))
