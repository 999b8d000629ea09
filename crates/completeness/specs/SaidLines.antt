-- What the lines of a plan's text ask: of names and expressions, and of numbers.
use Rattle.std.specs.Prelude.{◌≡◌, Bool, true, ◌&&◌, nat_lt, length}
use Rattle.std.specs.List.{list_all}
use Rattle.plan.specs.Plan.{Index, At, Found, Coordinate, Plan}
use Rattle.plan.specs.Certificate.Certificate.{Certificate}
use Rattle.spelling.specs.Words.Fitting.{fits_count, fits_form, fits_region, is_name}
use Rattle.spelling.specs.Sizes.Sizes.{fits_size, fits_sizes}
use Rattle.spelling.specs.Terms.Fitting.{fits_term}
use Rattle.nest.specs.Blocks.Line.{Line, PlanLine, InputLine, OutputLine, GroupLine, ForLine, LetLine, FirstLine, ElseLine, GuardLine, EndLine, AllocLine, FetchLine, StoreLine, PublishLine}
use Rattle.nest.specs.Blocks.Flat.{plan_lines}
use Rattle.nest.specs.Fitting.{fits_place, fits_line}
use Rattle.nest.specs.Notation.{fits_plan}
use Rattle.completeness.specs.Fitting.{IsShaped}
use Rattle.completeness.specs.Said.{IsPlanSaid}

-- ---- names and expressions

abbrev pub is_index_said : Index → Bool
is_index_said (At form) = true
is_index_said (Found e) = fits_term e

abbrev pub is_coordinate_said : Coordinate → Bool
is_coordinate_said c = is_name c.variable && is_index_said c.index

abbrev pub is_line_said : Line → Bool
is_line_said (PlanLine name) = is_name name
is_line_said (InputLine d) = is_name d.name
is_line_said (OutputLine d) = is_name d.name
is_line_said (GroupLine n f region grid) = is_name f
is_line_said (ForLine i span k) = true
is_line_said (LetLine i p forms) = true
is_line_said (FirstLine i) = true
is_line_said ElseLine = true
is_line_said (GuardLine low high) = true
is_line_said EndLine = true
is_line_said (AllocLine b f all) = is_name f
is_line_said (FetchLine b g region) = true
is_line_said (StoreLine b k at e) = list_all is_coordinate_said at && fits_term e
is_line_said (PublishLine c) = true

-- ---- numbers

abbrev pub has_index_numbers : Coordinate → Bool
has_index_numbers c = elim c.index [ At form ↦ fits_form form | Found e ↦ true ]

abbrev pub has_line_numbers : Line → Bool
has_line_numbers (PlanLine name) = true
has_line_numbers (InputLine d) = fits_sizes d.extents
has_line_numbers (OutputLine d) = fits_sizes d.extents
has_line_numbers (GroupLine n f region grid) = fits_count n && fits_region region && nat_lt 0 (length grid) && fits_sizes grid
has_line_numbers (AllocLine b f all) = fits_size b && list_all fits_place all
has_line_numbers (StoreLine b k at e) = fits_size b && fits_size k && list_all has_index_numbers at
has_line_numbers (ForLine i span k) = fits_line (ForLine i span k)
has_line_numbers (LetLine i p forms) = fits_line (LetLine i p forms)
has_line_numbers (FirstLine i) = fits_line (FirstLine i)
has_line_numbers ElseLine = true
has_line_numbers (GuardLine low high) = fits_line (GuardLine low high)
has_line_numbers EndLine = true
has_line_numbers (FetchLine b g region) = fits_line (FetchLine b g region)
has_line_numbers (PublishLine c) = fits_line (PublishLine c)

-- ---- plans

-- a plan of the shape of those with a text, whose names and expressions a text can say, fits its text where the numbers in its lines do
abbrev pub PlansFitByNumbers : Type 0
PlansFitByNumbers = (p : Plan) (c : Certificate) → IsShaped p → IsPlanSaid p c → list_all has_line_numbers (plan_lines p) ≡ true → fits_plan p ≡ true
