-- What one turn of a loop hands on to the next.
use Rattle.std.specs.Prelude.{◌≡◌, ℕ, ◌+◌, ◌-◌, true, if◌then◌else◌, List, [], map, Some, ℤ, pos, ◌+ℤ◌, ◌⊎◌}
use Rattle.plan.specs.Lines.{lines}
use Rattle.plan.specs.declared.stmt.Places.{Places}
use Rattle.plan.specs.Plan.{Statement, Seq, Statements, Empty, Then}
use Rattle.plan.specs.Rooms.{room}
use Rattle.plan.specs.Symbols.{Symbols}
use Rattle.plan.specs.Semantics.Actions.{actions}
use Rattle.soundness.specs.Origins.{Outline, Given, windowed}
use Rattle.soundness.specs.Claims.{In, Fact, Scope, IsMade, WritesOnly, new_fact, onward, left, handed_on, turn_symbols, in_turn}
use Rattle.soundness.specs.Around.{Binder, inside, AreTurns}
use Rattle.soundness.specs.Sliding.{IsTurnBefore, IsSliding}
use Rattle.soundness.specs.Obligations.{Rules, is_member, more_binders, stands_alone}

-- ---- what is known where the claim's statement begins

-- it is the first turn of the loop, or what the turn before left of the claim is known
abbrev pub IsHandedOn : Given → ℕ → List Binder → ℕ → Scope → Type 0
IsHandedOn given i inner c sc =
    (sc.symbols.first i ≡ true) ⊎ ((before : Symbols) × IsTurnBefore i inner before sc.symbols × In (new_fact given before c) sc.facts)

-- ---- what is carried from turn to turn

-- where the turn of this number begins: it is the first, or the facts have the claim's with the symbols of the turn before; the loop's
-- other symbols stand for what they do round it
abbrev pub IsCarried : Given → ℕ → List Binder → ℕ → Symbols → ℤ → ℤ → List Fact → Type 0
IsCarried given i inner c s low z facts =
    (z ≡ low) ⊎ ((before : Symbols) × (before.value i +ℤ pos 1 ≡ z) × AreTurns i inner s before × In (new_fact given before c) facts)

-- ---- the statement of the claim

-- what is bound round that statement
abbrev pub binders_there : Outline → Rules → ℕ → Statements → ℕ → List Binder → List Binder
binders_there outline rules c Empty line bs = bs
binders_there outline rules c (Then a rest) line bs =
    if is_member c (outline.named (line + lines a - 1)) then bs else binders_there outline rules c rest (line + lines a) (more_binders outline rules a bs)

-- and what is known there
abbrev pub scope_there : Given → ℕ → Statements → ℕ → Scope → Scope
scope_there given c Empty line sc = sc
scope_there given c (Then a rest) line sc =
    if is_member c (given.outline.named (line + lines a - 1)) then sc else scope_there given c rest (line + lines a) (onward given a line sc)

-- ---- what is promised

-- in a turn of a loop in whose body the claim's statement stands: what was carried to the turn is known there, and what the turn hands
-- on carries the claim to the next
pub record IsHanded (given : Given) (rules : Rules) (i c : ℕ) (row : Statements) (line : ℕ) (bs : List Binder) (sc : Scope) (low z : ℤ)
    (carried : List Fact) : Type 0 where
  pub known : IsHandedOn given i (inside i (binders_there given.outline rules c row line bs)) c
      (scope_there given c row line (in_turn given (turn_symbols given sc.symbols i low z) (Seq row) sc carried))
  pub next : IsCarried given i (inside i (binders_there given.outline rules c row line bs)) c sc.symbols low (z +ℤ pos 1)
      (handed_on given i (Seq row) (left given (Seq row) line (in_turn given (turn_symbols given sc.symbols i low z) (Seq row) sc carried)))

abbrev pub TurnsHandOn : Type 0
TurnsHandOn =
    (given : Given) (rules : Rules) (i c : ℕ) (row : Statements) (line : ℕ) (bs : List Binder) (sc : Scope) (low z : ℤ) (carried : List Fact) →
    windowed given.outline i c ≡ true → stands_alone given.outline i c row line ≡ true → inside i bs ≡ [] →
    IsCarried given i (inside i (binders_there given.outline rules c row line bs)) c sc.symbols low z carried →
    IsHanded given rules i c row line bs sc low z carried

-- what a statement does that slides makes its claim, with what the turn before left, if any
abbrev pub SlidingIsMade : Type 0
SlidingIsMade =
    (given : Given) (i : ℕ) (inner : List Binder) (c : ℕ) (places : List Places) (a : Statement) (sc : Scope) →
    IsSliding given i inner c places a sc.symbols → IsHandedOn given i inner c sc →
    sc.rooms (given.outline.claim c).buffer ≡ Some (map (room sc.symbols) places) →
    WritesOnly (given.outline.claim c).buffer (given.outline.claim c).function (actions given.outline.setting a sc.symbols) →
    IsMade given c (actions given.outline.setting a sc.symbols) sc
