-- What a statement does that makes a claim along a window, whatever its loop's turn is.
use Rattle.std.specs.Prelude.{◌≡◌, ℕ, true, List, Option, Some, None, map, ℤ, pos, ◌+ℤ◌, ◌⊎◌}
use Rattle.plan.specs.declared.stmt.Places.{Places}
use Rattle.plan.specs.Plan.{Statement}
use Rattle.plan.specs.Rooms.{room}
use Rattle.plan.specs.Symbols.{Symbols, InRegion}
use Rattle.plan.specs.Semantics.Actions.{actions}
use Rattle.soundness.specs.Origins.{Given}
use Rattle.soundness.specs.Claims.{written, ClearOf, status_after}
use Rattle.soundness.specs.Around.{Binder, AreTurns}

-- the values of the turn before
pub record IsTurnBefore (i : ℕ) (inner : List Binder) (before now : Symbols) : Type 0 where
  pub next : before.value i +ℤ pos 1 ≡ now.value i
  pub same : AreTurns i inner before now

-- the statement leaves so many steps done of the point, where so many, if any, were done before
abbrev pub Leaves : Given → ℕ → Statement → Symbols → Option ℕ → List ℤ → Type 0
Leaves given c a s before p =
    let made = given.outline.claim c in
    status_after given made.buffer p (actions given.outline.setting a s) before ≡ Some (given.steps made.function made.definition)

-- in a loop's first turn the statement makes the claim's definition at each point of the region; in a later one at each that was no point
-- of the region in the turn before, and the others it leaves as they were; and nothing is written where a point of the region lies
pub record IsSliding (given : Given) (i : ℕ) (inner : List Binder) (c : ℕ) (places : List Places) (a : Statement) (s : Symbols) : Type 0 where
  pub first : s.first i ≡ true → (p : List ℤ) → InRegion s (given.outline.claim c).region p → Leaves given c a s None p
  pub later : (before : Symbols) → IsTurnBefore i inner before s → (p : List ℤ) → InRegion s (given.outline.claim c).region p →
      Leaves given c a s None p
      ⊎ (InRegion before (given.outline.claim c).region p
      × Leaves given c a s (Some (given.steps (given.outline.claim c).function (given.outline.claim c).definition)) p)
  pub clear : (p : List ℤ) → InRegion s (given.outline.claim c).region p →
      ClearOf (Some (map (room s) places)) p (written (given.outline.claim c).buffer (actions given.outline.setting a s))
