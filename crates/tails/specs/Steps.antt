-- The way down from a statement to the one line in it that changes a buffer, and what values its symbols may have.
use Rattle.std.specs.Prelude.{◌≡◌, ℕ, ◌==◌, false, if◌then◌else◌, List, [], ◌∷◌, Option, Some, None, map, reverse}
use Rattle.std.specs.List.{list_any}
use Rattle.lin.specs.Forms.{Form}
use Rattle.lin.specs.declared.span.Span1.{Span1}
use Rattle.plan.specs.declared.stmt.Kind.{Kind}
use Rattle.plan.specs.declared.stmt.Pick.{Pick}
use Rattle.plan.specs.Plan.{Statement, Seq, For, Let, First, Guard, Alloc, Fetch, Store, Publish, Statements, Empty, Then}
use Rattle.plan.specs.Symbols.{Symbols}
use Rattle.soundness.specs.Around.{Binder, Ranged, Picked, Passed, Respects}
use Rattle.soundness.specs.Claims.{changes, block_changes}
pub use Rattle.soundness.specs.Around.{binds}

pub data Step : Type 0 where
  -- the turns of a loop
  Turns : (symbol : ℕ) (span : Span1) (kind : Kind) → Step
  -- a symbol for the smallest or largest of some forms
  Named : (symbol : ℕ) (pick : Pick) (forms : List Form) → Step
  -- a guard: the one form is at most the other
  Tested : (low high : Form) → Step

-- a line and the steps down to it, the outermost first
pub record Spine : Type 0 where
  pub steps : List Step
  pub line : Statement

abbrev pub beyond : Step → Option Spine → Option Spine
beyond step None = None
beyond step (Some spine) = Some (record { steps = step ∷ spine.steps; line = spine.line })

-- what a statement of a block adds to the way to a later one: a `let` its symbol, any other nothing
abbrev pub past : Statement → Option Spine → Option Spine
past (Let i pick ls) later = beyond (Named i pick ls) later
past _ later = later

-- the only line that changes the buffer, where it is a fetch or a store, and the loops, guards and earlier lets round it
abbrev mutual
  pub spine_of : Statement → ℕ → Option Spine
  spine_of (Seq all) b = block_spine all b
  spine_of (For i x kind body) b = beyond (Turns i x kind) (spine_of body b)
  spine_of (Let i pick ls) b = None
  spine_of (First i a c) b = None
  spine_of (Guard low high body) b = beyond (Tested low high) (spine_of body b)
  spine_of (Alloc c f places) b = None
  spine_of (Fetch c g region) b = if c == b then Some (record { steps = []; line = Fetch c g region }) else None
  spine_of (Store c k at e) b = if c == b then Some (record { steps = []; line = Store c k at e }) else None
  spine_of (Publish c) b = None

  pub block_spine : Statements → ℕ → Option Spine
  block_spine Empty b = None
  block_spine (Then a rest) b =
      if changes a b then (if block_changes rest b then None else spine_of a b)
      else past a (block_spine rest b)

-- ---- what the steps allow

abbrev pub binder : Step → Binder
binder (Turns i x kind) = Ranged i x
binder (Named i pick ls) = Picked i pick ls
binder (Tested low high) = Passed low high

-- what is bound along the way, the innermost first
abbrev pub along : List Step → List Binder
along steps = reverse (map binder steps)

-- each loop is in one of its turns, each let has its number, and each guard holds
abbrev pub Allows : List Step → Symbols → Type 0
Allows steps s = Respects (along steps) s

-- the second values are the first but for symbols that these bind
abbrev pub Keeps : List Binder → Symbols → Symbols → Type 0
Keeps bs s t = (i : ℕ) → list_any (binds i) bs ≡ false → t.value i ≡ s.value i
