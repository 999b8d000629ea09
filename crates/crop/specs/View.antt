-- What the program's cuts and movers say.
use Rattle.std.specs.Prelude.{ℕ, List, [], map, Bool, false, Option, Some, None, option_map, take, slice_get}
use Rattle.numeric.specs.declared.ty.Ty.{Ty}
use Rattle.tree.specs.Term.{Term}
use Rattle.lin.specs.declared.span.Span1.{Span1}
use Rattle.bounds.specs.Interval.{interval}
use Rattle.meaning.specs.Algorithm.{Function}
use Rattle.meaning.specs.Names.{same_name}
use Rattle.meaning.specs.Conditions.{callable}
use Rattle.algo.specs.Parts.{names_of}
use Rattle.algo.specs.View.{algorithm_of}
use Rattle.crop.specs.declared.callees.Callees.{Callees}
use Rattle.crop.specs.declared.cut.Kept.{Kept as ProgramKept}
use Rattle.crop.specs.declared.cut.Cut.{Cut as ProgramCut}
use Rattle.crop.specs.declared.moving.Mover.{Mover}
use Rattle.crop.specs.Moving.{Move}
use Rattle.crop.specs.Cutting.{Kept, Cut, move_over}

abbrev pub kept_of : ProgramKept → Kept
kept_of kept = record { region = kept.region.items; origin = kept.origin.items }

abbrev pub cut_of : ProgramCut → Cut
cut_of cut = record { kept = map (option_map kept_of) cut.kept.items; asked = cut.asked.items; part = cut.part.items; tile = cut.tile.items }

-- whether the function of a number has a name
abbrev pub is_named_at : List Function → ℕ → List ℕ → Bool
is_named_at fs k name = elim (slice_get fs k) [ Some f ↦ same_name f.name name | None ↦ false ]

-- what may be called
abbrev pub called_by : Callees → List ℕ → Option (Ty × ℕ)
called_by c = callable (algorithm_of c.algo.now) (take c.count (algorithm_of c.algo.now).functions)

abbrev pub move_of : Mover → Move
move_of m =
    move_over (algorithm_of m.names.algo.now) (cut_of m.cut.now) (called_by m.names) (names_of m.variables.now) m.origin.now (map (λ x. x.now) m.names.variables.now) m.region.now

-- the span of an expression's value over the region
abbrev pub span_in : Mover → Term → Option Span1
span_in m e = interval [] (called_by m.names) (map (λ x. x.now) m.names.variables.now) m.region.now e
