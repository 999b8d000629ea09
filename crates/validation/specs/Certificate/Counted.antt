-- Groups with their lines counted, as such.
use Rattle.plan.specs.Plan.{Group}
use Rattle.soundness.specs.Outline.View.{group_in}
use Rattle.validation.specs.declared.certificate.counted.CountedOutline.{CountedOutline}

abbrev pub group_counted : CountedOutline → Group
group_counted x = group_in x.outlined
