-- What follows where nothing is told.
use Rattle.std.specs.Prelude.{◌≡◌, ◌↔◌, true, false, List, None, Some}
use Rattle.soundness.specs.Outline.Refusals.Codes.{is_before}
use Rattle.soundness.specs.declared.outline.refusals.code.Flaw.{Flaw}
use Rattle.soundness.specs.Obligations.{Rules, Obligation}
use Rattle.soundness.specs.Shown.{Nests, all_shown}
use Rattle.obligations.specs.declared.context.judge.Part.{Part}
use Rattle.obligations.specs.declared.context.judge.Part.TheVariants.{Lines, Claims, Before}
use Rattle.obligations.specs.Asked.{first_unmet, is_asked, of_part}

-- where nothing is told of either part, all obligations are shown
abbrev pub NothingToldIsShown : Type 0
NothingToldIsShown =
    (rules : Rules) (nests : Nests) (os : List Obligation) → first_unmet rules nests Lines os ≡ None → first_unmet rules nests Claims os ≡ None → all_shown rules nests os ≡ true

-- and the other way round
abbrev pub ShownIsNothingTold : Type 0
ShownIsNothingTold =
    (rules : Rules) (nests : Nests) (part : Part) (os : List Obligation) → all_shown rules nests os ≡ true → first_unmet rules nests part os ≡ None

-- nothing is told of some of the obligations exactly where these are all shown: of those that are told before a flaw, too
abbrev pub PartIsShown : Type 0
PartIsShown =
    (rules : Rules) (nests : Nests) (part : Part) (os : List Obligation) → (first_unmet rules nests part os ≡ None) ↔ (all_shown rules nests (of_part part os) ≡ true)

-- where nothing is told before a flaw, nothing is told before one that does not stand after it
abbrev pub LaterIsSilent : Type 0
LaterIsSilent =
    (rules : Rules) (nests : Nests) (f g : Flaw) (os : List Obligation) → first_unmet rules nests (Before g) os ≡ None → is_before g f ≡ false → first_unmet rules nests (Before f) os ≡ None

-- what is told is one of those that are asked after: what is told before a flaw stands before it
abbrev pub ToldIsAsked : Type 0
ToldIsAsked = (rules : Rules) (nests : Nests) (part : Part) (f : Flaw) (os : List Obligation) → first_unmet rules nests part os ≡ Some f → is_asked part f ≡ true
