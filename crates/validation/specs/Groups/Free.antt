-- Definitions that come to no updates of functions that are not stored.
use Rattle.std.specs.Prelude.{ℕ, zero, suc, Bool, List, All, Option, Some, None, MatchOption, slice_get}
use Rattle.meaning.specs.Algorithm.{Function, Algorithm}
use Rattle.plan.specs.Plan.{Statement, Seq, For, Let, First, Guard, Alloc, Fetch, Store, Publish, Statements, Empty, Then}
use Rattle.plan.specs.Semantics.Actions.{Setting}
use Rattle.soundness.specs.Given.{function_named}
use Rattle.meaning.specs.Inlining.Laws.{TakesNoUpdates}

-- what stands in a definition of the function comes to no function that has updates and is not stored: definition 0 is the
-- pure one
abbrev pub DefinitionIsFree : Algorithm → List Bool → Option Function → ℕ → Type 0
DefinitionIsFree a stored None k = Unit {0}
DefinitionIsFree a stored (Some f) zero = TakesNoUpdates a stored f.value
DefinitionIsFree a stored (Some f) (suc i) = MatchOption (slice_get f.changes i) (Unit {0}) (λ u. TakesNoUpdates a stored u.value × All (TakesNoUpdates a stored) u.at)

module _ (a : Algorithm) (stored : List Bool) (setting : Setting) where
  -- nor does what stands in a definition that some line of the statement stores
  abbrev mutual
    pub IsFree : Statement → Type 0
    IsFree (Seq all) = IsFreeBlock all
    IsFree (For i x kind body) = IsFree body
    IsFree (Let i pick forms) = Unit {0}
    IsFree (First i b c) = IsFree b × IsFree c
    IsFree (Guard low high body) = IsFree body
    IsFree (Alloc b f places) = Unit {0}
    IsFree (Fetch b g region) = Unit {0}
    IsFree (Store b k at e) = DefinitionIsFree a stored (function_named a.functions (setting.buffer_function b)) k
    IsFree (Publish c) = Unit {0}

    pub IsFreeBlock : Statements → Type 0
    IsFreeBlock Empty = Unit {0}
    IsFreeBlock (Then b rest) = IsFree b × IsFreeBlock rest
