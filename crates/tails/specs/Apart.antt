-- What has nothing to do with steps, and what a coordinate is.
use Rattle.std.specs.Prelude.{◌&&◌, Bool, not, List, pos}
use Rattle.std.specs.List.{list_any, list_all}
use Rattle.lin.specs.Forms.{Form, number}
use Rattle.plan.specs.declared.stmt.Places.{Places}
use Rattle.plan.specs.declared.stmt.Places.TheVariants.{From, Folded}
use Rattle.plan.specs.Plan.{Index, At, Found, Coordinate}
use Rattle.soundness.specs.Obligations.{Binder, Ranged, Picked, Passed}
use Rattle.tails.specs.Steps.{binds}
use Rattle.tails.specs.Moves.{is_outer}

-- what a coordinate is, where it is a form
abbrev pub index_form : Index → Form
index_form (At l) = l
index_form (Found e) = number (pos 0)

abbrev pub form_of : Coordinate → Form
form_of c = index_form c.index

-- what is bound has none of the steps' symbols
abbrev pub is_apart : List Binder → Binder → Bool
is_apart steps (Ranged i x) = not (list_any (binds i) steps) && (list_all (is_outer steps) x.lower && list_all (is_outer steps) x.upper)
is_apart steps (Picked i pick ls) = not (list_any (binds i) steps) && list_all (is_outer steps) ls
is_apart steps (Passed low high) = is_outer steps low && is_outer steps high

-- where the places begin has none either; folded ones begin nowhere, and are taken or not
abbrev pub is_steady : (folded : Bool) → List Binder → Places → Bool
is_steady folded steps (From l n) = is_outer steps l
is_steady folded steps (Folded n) = folded
