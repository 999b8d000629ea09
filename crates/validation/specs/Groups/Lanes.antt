-- Vector loops, whose turns are lanes: around one store, which one guard may admit.
use Rattle.std.specs.Prelude.{ℕ, ◌==◌, ◌&&◌, if◌then◌else◌, not, Bool, true, false, List, [], drop, length, Option, Some, None, pos, int_le}
use Rattle.std.specs.List.{list_any}
use Rattle.lin.specs.Forms.{Form, factor_of}
use Rattle.meaning.specs.Algorithm.{Algorithm}
use Rattle.plan.specs.declared.stmt.Kind.{Kind}
use Rattle.plan.specs.declared.stmt.Kind.TheVariants.{Vector}
use Rattle.plan.specs.Plan.{Coordinate, Index, At, Found, Statement, Seq, For, Let, First, Guard, Alloc, Fetch, Store, Publish, Statements, Empty, Then}
use Rattle.plan.specs.Semantics.Actions.{Setting}
use Rattle.soundness.specs.Obligations.{form_has}
use Rattle.validation.specs.Stored.Definitions.{parts_named, Definition, definition_in, function_in}
use Rattle.validation.specs.Stored.Stored.{has_names}

-- the one line of a statement, in however many blocks it stands
abbrev mutual
  pub only : Statement → Option Statement
  only (Seq all) = only_in all
  only (For i x kind body) = Some (For i x kind body)
  only (Let i pick ls) = Some (Let i pick ls)
  only (First i a b) = Some (First i a b)
  only (Guard low high body) = Some (Guard low high body)
  only (Alloc b f places) = Some (Alloc b f places)
  only (Fetch b g region) = Some (Fetch b g region)
  only (Store b k at e) = Some (Store b k at e)
  only (Publish c) = Some (Publish c)

  pub only_in : Statements → Option Statement
  only_in Empty = None
  only_in (Then a Empty) = only a
  only_in (Then a (Then b rest)) = None

-- the coordinate is a form with the lane
abbrev pub goes_by : ℕ → Index → Bool
goes_by lane (At l) = form_has lane l
goes_by lane (Found e) = false

-- the left side alone has the lane, with a positive factor
abbrev pub admits_lanes : ℕ → Form → Form → Bool
admits_lanes lane low high = int_le (pos 1) (factor_of low.terms lane) && not (form_has lane high)

-- the coordinates of a definition's reduction variables, behind those of so many variables; none where the coordinates are not the definition's
abbrev pub reductions_in : Option Definition → ℕ → List Coordinate → List Coordinate
reductions_in None n at = []
reductions_in (Some m) n at = if has_names m at && (n == length (function_in m).variables) then drop n at else []

module _ (a : Algorithm) (setting : Setting) where
  -- the same of the definition that is stored
  abbrev pub reductions : ℕ → ℕ → List Coordinate → List Coordinate
  reductions b k at = reductions_in (definition_in (parts_named a (setting.buffer_function b)) k) (setting.dimensions b) at

  -- a store, of which no reduction variable goes by the lane
  abbrev pub stores_lanes : ℕ → Option Statement → Bool
  stores_lanes lane (Some (Store b k at e)) = not (list_any (λ c. goes_by lane c.index) (reductions b k at))
  stores_lanes lane _ = false

  abbrev pub takes_lanes : ℕ → Option Statement → Bool
  takes_lanes lane (Some (Guard low high body)) = admits_lanes lane low high && stores_lanes lane (only body)
  takes_lanes lane s = stores_lanes lane s

  -- a loop that is marked as a vector is around such a store, or around one guard around it
  abbrev pub fits_mark : ℕ → Kind → Statement → Bool
  fits_mark lane Vector body = takes_lanes lane (only body)
  fits_mark lane _ body = true
