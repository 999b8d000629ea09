-- What follows where the lines of a plan's groups have no flaw.
use Rattle.std.specs.Prelude.{◌≡◌, ℕ, List, [], Some, true, slice_get}
use Rattle.meaning.specs.Algorithm.{Algorithm}
use Rattle.plan.specs.Plan.{Group, Plan}
use Rattle.plan.specs.Symbols.{Symbols}
use Rattle.plan.specs.Certificate.Certificate.{Certificate}
use Rattle.plan.specs.Semantics.Actions.{actions}
use Rattle.plan.specs.Semantics.Setting.{setting_of}
use Rattle.soundness.specs.Given.{outline_of, given_of}
use Rattle.soundness.specs.Obligations.{is_covered}
use Rattle.soundness.specs.Stored.{AreDefinitions}
use Rattle.soundness.specs.Outline.Flaws.{first_of}
use Rattle.meaning.specs.Inlining.PutIn.{put_in}
use Rattle.headline.specs.Sound.{IsPublished}
use Rattle.validation.specs.Stored.Definitions.{stored_in}
use Rattle.validation.specs.Groups.Free.{IsFree}
use Rattle.validation.specs.Certificate.Clear.{EachHasOwn}
use Rattle.validation.specs.Groups.Lines.{flaws_of_groups}
use Rattle.validation.specs.Groups.Wrong.{IsNotDefinitionAt, IsUnknownAt, IsWideAt, PassesLimitAt}
use Rattle.validation.specs.Told.{IsTold}

-- each group has a region with ends, and its last line publishes its own cells, where these are told in symbols of its grid
abbrev pub GroupsArePublished : Type 0
GroupsArePublished =
    (a : Algorithm) (p : Plan) (c : Certificate) → flaws_of_groups a p c ≡ [] → EachHasOwn p c → (n : ℕ) (g : Group) → slice_get p.groups n ≡ Some g → IsPublished p c n g

-- stores of pure definitions have forms alone
abbrev pub BodiesAreCovered : Type 0
BodiesAreCovered =
    (a : Algorithm) (p : Plan) (c : Certificate) → flaws_of_groups a p c ≡ [] → (n : ℕ) (g : Group) → slice_get p.groups n ≡ Some g → is_covered (setting_of p c n g) g.body ≡ true

-- stores are of the algorithm's definitions, with the calls of unstored functions put in
abbrev pub StoresAreDefinitions : Type 0
StoresAreDefinitions =
    (a : Algorithm) (p : Plan) (c : Certificate) → flaws_of_groups a p c ≡ [] → (n : ℕ) (g : Group) → slice_get p.groups n ≡ Some g → (samples : List ℕ) (s : Symbols) →
    AreDefinitions a (put_in a (stored_in a p)) (given_of a samples (outline_of p c n g)) (actions (setting_of p c n g) g.body s)

-- what is stored comes to no updates of functions that are not stored
abbrev pub StoresAreFree : Type 0
StoresAreFree =
    (a : Algorithm) (p : Plan) (c : Certificate) → flaws_of_groups a p c ≡ [] → (n : ℕ) (g : Group) → slice_get p.groups n ≡ Some g → IsFree a (stored_in a p) (setting_of p c n g) g.body

-- what is told of definitions: K12 stands at lines that store something else, and no such line is passed over
abbrev pub OtherDefinitionsAreTold : Type 0
OtherDefinitionsAreTold = (a : Algorithm) (p : Plan) (c : Certificate) → IsTold 12 (IsNotDefinitionAt a p c) (first_of (flaws_of_groups a p c))

-- what is told of forms: K3 stands at lines with one out of its limits, and no such line is passed over
abbrev pub WideFormsAreTold : Type 0
WideFormsAreTold = (a : Algorithm) (p : Plan) (c : Certificate) → IsTold 3 (IsWideAt p) (first_of (flaws_of_groups a p c))

-- what is told of limits: K14 stands at lines that pass one, and no such line is passed over
abbrev pub LimitsAreTold : Type 0
LimitsAreTold = (a : Algorithm) (p : Plan) (c : Certificate) → IsTold 14 (PassesLimitAt p) (first_of (flaws_of_groups a p c))

-- what is told of names: K2 stands at lines with one that is unknown or out of scope, and no such line is passed over
abbrev pub UnknownNamesAreTold : Type 0
UnknownNamesAreTold = (a : Algorithm) (p : Plan) (c : Certificate) → IsTold 2 (IsUnknownAt a p c) (first_of (flaws_of_groups a p c))
