-- What a split map in memory is.
use Rattle.std.specs.Prelude.{◌≡◌, true, List, map}
use Rattle.std.specs.List.{list_all}
use Rattle.lin.specs.Forms.{Form}
use Rattle.plan.specs.Plan.{Coordinate}
use Rattle.soundness.specs.Obligations.{is_form}
use Rattle.tails.specs.Steps.{Step}
use Rattle.tails.specs.Apart.{form_of}
use Rattle.tails.specs.Stored.{Stored}
use Rattle.tails.specs.View.{step_of}
use Rattle.tails.specs.declared.maps.SplitMap.{SplitMap}

-- the steps, the outermost first, and what the coordinates are
abbrev pub steps_of : SplitMap → List Step
steps_of m = map step_of m.steps.items

abbrev pub forms_of : SplitMap → List Form
forms_of m = map (λ f. f.now) m.forms.items

abbrev pub stored_of : SplitMap → Stored
stored_of m = record { steps = steps_of m; forms = forms_of m }

-- all coordinates are forms, and they are these
abbrev pub FormsAre : List Coordinate → List Form → Type 0
FormsAre cs fs = (list_all is_form cs ≡ true) × (map form_of cs ≡ fs)
