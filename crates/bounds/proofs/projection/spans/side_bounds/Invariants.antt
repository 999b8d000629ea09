use Rattle.std.proofs.Common.{◌≡◌, drop}
use Rattle.std.specs.Prelude.{map, fold, false}
use Rattle.bounds.specs.Projection.Elimination.{both}
use Rattle.bounds.specs.Projection.Projection.{form_bounds, side_bounds}
use Rattle.bounds.proofs.projection.spans.side_bounds.Given as goal

abbrev pub invariant-loop-form : goal.invariant-loop-form
invariant-loop-form l = side_bounds l.scope l.inner l.upper l.forms ≡ fold (both l.scope false) l.found (map (form_bounds l.scope l.inner l.upper) (drop l.form-index l.forms))
