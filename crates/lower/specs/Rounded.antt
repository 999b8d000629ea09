-- Functions with updates in blocks that run past the end of what is needed: what is named before their nests, over what these go then, and of what their claims speak. An
-- update that calls its own function may read what its blocks make past the end, so that what they make is told: blocks begin at one form, where each turn has as many of
-- them, or lets count them.
-- What crates below need of it stands there: `blocks`.
use Rattle.std.specs.Prelude.{Bool, if◌then◌else◌, List, map, Option, Some, None}
use Rattle.lin.specs.declared.scope.Binding.{Binding}
use Rattle.lin.specs.declared.span.Span1.{Span1}
use Rattle.meaning.specs.Algorithm.{Algorithm}
use Rattle.sched.specs.Skeleton.{NestText, nest_seen}
use Rattle.sched.specs.Standing.{◌>>=◌}
use Rattle.blocks.specs.declared.rounded.Lain.{Lain}
use Rattle.sched.specs.Around.{bind_steps}
use Rattle.sched.specs.Stored.{FormulaText, StoredText}
use Rattle.lower.specs.Parted.{nests_over, parted_nests}
use Rattle.blocks.specs.Rounded.{BegunText, unnamed, named_over, calls_itself, is_plain, is_allowed, begun_seen}

-- ---- nests, with what is named before them

pub record LainText : Type 0 where
  pub begun : BegunText
  pub nests : List NestText

abbrev pub lain_plainly : StoredText → List FormulaText → List Binding → List Span1 → List Span1 → Option LainText
lain_plainly g fs scope region kept = nests_over g fs scope region kept >>= λ ns. Some (record { begun = unnamed region; nests = ns })

abbrev pub or_lain : Option LainText → Option LainText → Option LainText
or_lain other None = other
or_lain other (Some l) = Some l

abbrev pub lain_if : BegunText → List NestText → Bool → Option LainText
lain_if b ns is = if is then Some (record { begun = b; nests = ns }) else None

module _ (a : Algorithm) (g : StoredText) (fs : List FormulaText) (scope : List Binding) (region kept : List Span1) where
  -- None where a form leaves the limits; Some None where an index would leave what there is
  abbrev pub lain_behind : BegunText → Option (Option LainText)
  lain_behind b =
      parted_nests g fs (bind_steps scope b.lets) b.region kept b.blocks >>= λ ns.
      is_allowed a g fs (bind_steps scope b.lets) region b ns >>= λ is. Some (lain_if b ns is)

  abbrev pub lain_named : Option BegunText → Option LainText
  lain_named None = lain_plainly g fs scope region kept
  lain_named (Some b) = lain_behind b >>= or_lain (lain_plainly g fs scope region kept)

  abbrev pub lain_rounded : Option LainText
  lain_rounded = if calls_itself g fs then lain_named (named_over g scope region) else lain_plainly g fs scope region kept

  -- the nests of a function over a region, of which this is kept
  abbrev pub lain_over : Option LainText
  lain_over = if is_plain g fs then lain_plainly g fs scope region kept else lain_rounded

-- if it is told what is kept
abbrev pub lain_kept : Algorithm → StoredText → List FormulaText → List Binding → List Span1 → Option (List Span1) → Option LainText
lain_kept a g fs scope region o = o >>= λ kept. lain_over a g fs scope region kept

abbrev pub lain_seen : Lain → LainText
lain_seen l = record { begun = begun_seen l.begun; nests = map nest_seen l.nests.items }
