-- Which lines have a text that is read as that line.
use Rattle.std.specs.Prelude.{Bool, true, ◌&&◌, nat_lt, length}
use Rattle.std.specs.List.{list_all}
use Rattle.plan.specs.declared.stmt.Places.{Places}
use Rattle.plan.specs.declared.stmt.Places.TheVariants as places
use Rattle.plan.specs.Plan.{Declaration, Index, At, Found, Coordinate}
use Rattle.spelling.specs.Words.Fitting.{fits_count, fits_symbol, fits_form, fits_forms, fits_span, fits_region, is_name}
use Rattle.spelling.specs.Sizes.Sizes.{fits_size, fits_sizes}
use Rattle.spelling.specs.Terms.Fitting as terms
use Rattle.nest.specs.Blocks.Line.{Line, PlanLine, InputLine, OutputLine, GroupLine, ForLine, LetLine, FirstLine, ElseLine, GuardLine, EndLine, AllocLine, FetchLine, StoreLine, PublishLine}

abbrev pub fits_declaration : Declaration → Bool
fits_declaration d = is_name d.name && fits_sizes d.extents

abbrev pub fits_place : Places → Bool
fits_place (places.From origin count) = fits_form origin && fits_size count
fits_place (places.Folded count) = fits_size count

abbrev pub fits_index : Index → Bool
fits_index (At form) = fits_form form
fits_index (Found term) = terms.fits_term term

abbrev pub fits_coordinate : Coordinate → Bool
fits_coordinate c = is_name c.variable && fits_index c.index

-- names are names, numbers keep their bounds, forms and lists of bounds are canonical, and a grid has a size
abbrev pub fits_line : Line → Bool
fits_line (PlanLine name) = is_name name
fits_line (InputLine d) = fits_declaration d
fits_line (OutputLine d) = fits_declaration d
fits_line (GroupLine n f region grid) = fits_count n && is_name f && fits_region region && nat_lt 0 (length grid) && fits_sizes grid
fits_line (ForLine i span k) = fits_symbol i && fits_span span
fits_line (LetLine i p forms) = fits_symbol i && fits_forms forms
fits_line (FirstLine i) = fits_symbol i
fits_line ElseLine = true
fits_line (GuardLine low high) = fits_form low && fits_form high
fits_line EndLine = true
fits_line (AllocLine b f all) = fits_size b && is_name f && list_all fits_place all
fits_line (FetchLine b g region) = fits_size b && fits_size g && fits_region region
fits_line (StoreLine b k at e) = fits_size b && fits_size k && list_all fits_coordinate at && terms.fits_term e
fits_line (PublishLine c) = fits_size c
