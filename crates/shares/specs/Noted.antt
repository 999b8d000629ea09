-- Fetch lines as code has them.
use Rattle.std.specs.Prelude.{◌≡◌, ℕ, List, [], length, map, Some, slice_get}
use Rattle.plan.specs.Plan.{Group, Plan}
use Rattle.plan.specs.Lines.{body_line}
use Rattle.soundness.specs.Outline.Flaws.{line_told}
use Rattle.shares.specs.declared.counts.FetchLine.{FetchLine as LineHeld}
use Rattle.shares.specs.FetchLines.{FetchLine, fetch_lines}
use Rattle.shares.specs.Lets.{namings_of}

-- a line as code has it, and a line as it is told
abbrev pub line_of : LineHeld → FetchLine
line_of x = record { line = x.line; group = x.group; lets = namings_of x.lets.items; fetched = x.fetched; region = x.region.now }

abbrev pub lines_noted : List LineHeld → List FetchLine
lines_noted xs = map line_of xs

abbrev pub told_line : FetchLine → FetchLine
told_line x = record x { line = line_told x.line }

-- the fetch lines of each of so many groups of a plan, as they are told
pub record AreNotedBy (p : Plan) (groups : ℕ) (lists : List (List LineHeld)) : Type 0 where
  pub count : length lists ≡ groups
  pub each : (n : ℕ) (ls : List LineHeld) → slice_get lists n ≡ Some ls → (g : Group) → slice_get p.groups n ≡ Some g → lines_noted ls ≡ map told_line (fetch_lines n [] g.body (body_line p n))
