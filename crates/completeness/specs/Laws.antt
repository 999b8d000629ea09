-- What the checker asks of a plan, and that the plans that `lower` makes have it: of the pieces' shares and the certificate's lines by themselves, and of what the
-- lines of groups name and store.
use Rattle.std.specs.Prelude.{◌≡◌, ◌⊎◌, ℕ, true, false, List, [], take, Some, None, slice_get}
use Rattle.std.specs.List.{AllByRecursion, list_any}
use Rattle.meaning.specs.Algorithm.{Function, Algorithm}
use Rattle.meaning.specs.Conditions.{IsAlgorithm}
use Rattle.plan.specs.Plan.{Statement, For, Let, First, Guard, Alloc, Fetch, Store, Publish, Group, Plan}
use Rattle.plan.specs.declared.certificate.cert.Own.{Own}
use Rattle.plan.specs.declared.certificate.cert.Need.{Need}
use Rattle.plan.specs.Claimed.{claim_of as claim_named}
use Rattle.plan.specs.View.{plan_of}
use Rattle.plan.specs.Lines.{certificate_line}
use Rattle.plan.specs.Certificate.Certificate.{Claim, Certificate, certificate_of}
use Rattle.plan.specs.Semantics.Actions.{Setting}
use Rattle.plan.specs.Semantics.Setting.{setting_of}
use Rattle.soundness.specs.Given.{outline_of}
use Rattle.soundness.specs.Outline.Flaws.{Flaw as TextFlaw, first_of, line_told}
use Rattle.soundness.specs.declared.outline.refusals.code.Flaw.{Flaw}
use Rattle.soundness.specs.declared.outline.refusals.code.K.TheVariants.{K14}
use Rattle.sched.specs.declared.schedule.Split.{Split}
use Rattle.sched.specs.Schedule.{Schedule}
use Rattle.sched.specs.Standing.{is_half}
use Rattle.sched.specs.Legal.{IsLegal}
use Rattle.headline.specs.Head.{FailsHead}
use Rattle.shares.specs.declared.answer.SharesError.TheVariants.{Flaw as Told}
use Rattle.shares.specs.Made.{ErrorMeans}
use Rattle.validation.specs.Certificate.Certificate.{is_owned, is_region_of, need_is_known, claim_is_known, cert_flaws, flaws_of_certificate}
use Rattle.validation.specs.Wide.{RegionIsWide}
use Rattle.validation.specs.Groups.Inside.{Begins, StandsIn}
use Rattle.validation.specs.Groups.Lanes.{fits_mark}
use Rattle.validation.specs.Groups.Lines.{flaws_of_groups}
use Rattle.validation.specs.Groups.Wrong.{GroupNamesUnknown, NamesUnknown, IsUnknownAt, HasWide, IsWideAt, IsNotDefinitionAt}
use Rattle.lower.specs.declared.lowering.Lowered.{Lowered}
use Rattle.lower.specs.Stored.{stored_functions}
use Rattle.regions.specs.Faults.{are_whole}
use Rattle.lower.specs.Refused.{AreSmall, AreRegionsKept}
use Rattle.lower.specs.Groups.{AreGroupsMade}
use Rattle.completeness.specs.Parted.{HasOwnHead, ArePartedCells, AreServed, HasWholeOutput, InnersAreKept}

-- each group has a line of what its pieces own, so of the certificate as a whole (K10 at its first line) nothing is told; and each such line is of a group of the
-- plan, of which no earlier one is (K2)
pub record HasOwnLines (p : Plan) (c : Certificate) : Type 0 where
  pub each : cert_flaws p c ≡ []
  pub once : (i : ℕ) (o : Own) → slice_get c.own i ≡ Some o → is_owned (take i c.own) o.group ≡ false
  pub known : (i : ℕ) (o : Own) → slice_get c.own i ≡ Some o → (g : Group) × (slice_get p.groups o.group ≡ Some g)

-- no name of the algorithm reads as a load by a claim, `@` and a number
pub record NamesNoLoad (a : Algorithm) : Type 0 where
  pub input : claim_named a.input ≡ None
  pub functions : (k : ℕ) (f : Function) → slice_get a.functions k ≡ Some f → claim_named f.name ≡ None

-- in the checker's words: what own and needed regions and claims name is known, and there are no windows
pub record LinesAreKnown (a : Algorithm) (p : Plan) (c : Certificate) : Type 0 where
  pub own_lines : HasOwnLines p c
  pub own : (i : ℕ) (o : Own) → slice_get c.own i ≡ Some o → is_region_of (slice_get p.groups o.group) o.region ≡ true
  pub needs : (i : ℕ) (n : Need) → slice_get c.needs i ≡ Some n → need_is_known p.groups n ≡ true
  pub claims : (i : ℕ) (k : Claim) → slice_get c.claims i ≡ Some k → claim_is_known a.functions p.groups k ≡ true
  pub windows : c.windows ≡ []

-- but for limits, what the checker asks of the head, of shares, and of what the certificate's lines name: the head is the algorithm's, what the lines name is known,
-- the pieces part the cells, each is served by earlier ones, and the output's group has each point of the output
pub record Stands (a : Algorithm) (p : Plan) (c : Certificate) : Type 0 where
  pub head : HasOwnHead a p
  pub lines : LinesAreKnown a p c
  pub parted : ArePartedCells p c
  pub served : AreServed p c
  pub output : HasWholeOutput a p

-- so it is of the plan that is made of a schedule under which each stored function is a root function that is computed at no loop, and no inner loop of a split is
-- parallel or split again
abbrev pub WholeStands : Algorithm → Schedule → Lowered → Type 0
WholeStands a s l = are_whole (stored_functions a s) ≡ true → InnersAreKept a s → Stands a (plan_of l.plan) (certificate_of l.certificate)

-- whatever the schedule is, by what `lower` says of its plan
abbrev pub WholePlansAreShared : Type 0
WholePlansAreShared =
    (a : Algorithm) (s : Schedule) (l : Lowered) → IsAlgorithm a → IsLegal a s → AreSmall a s → AreRegionsKept a s → AreGroupsMade a s l → WholeStands a s l

-- where they stand, what is told of the pieces' shares is a limit
abbrev pub OnlyLimitsAreTold : Type 0
OnlyLimitsAreTold = (a : Algorithm) (p : Plan) (c : Certificate) (f : Flaw) → Stands a p c → ErrorMeans p c (Told f) → f.code ≡ K14

-- and what is told of the certificate's lines by themselves is a limit of forms (K3), or one of their number or of claims (K14)
abbrev pub OnlyLimitsAreToldOfLines : Type 0
OnlyLimitsAreToldOfLines = (a : Algorithm) (p : Plan) (c : Certificate) → Stands a p c → AllByRecursion (λ f. (f.code ≡ 3) ⊎ (f.code ≡ 14)) (flaws_of_certificate a p c)

-- nor is the head what it should not be
abbrev pub HeadsDoNotFail : Type 0
HeadsDoNotFail = (a : Algorithm) (p : Plan) (c : Certificate) (line : ℕ) → Stands a p c → ¬ FailsHead a p line

-- so it is of the plan that is made of whatever schedule
abbrev pub OwnLinesStand : Type 0
OwnLinesStand = (a : Algorithm) (s : Schedule) (l : Lowered) → AreGroupsMade a s l → HasOwnLines (plan_of l.plan) (certificate_of l.certificate)

-- of the plan that is made of a schedule under which each stored function is a root function that is computed at no loop, whatever the loops: where no name reads as a
-- load, no line stores something else than its definition (K12)
abbrev pub DefinitionsAreStored : Type 0
DefinitionsAreStored =
    (a : Algorithm) (s : Schedule) (l : Lowered) → IsAlgorithm a → IsLegal a s → AreSmall a s → AreRegionsKept a s → AreGroupsMade a s l → NamesNoLoad a
    → are_whole (stored_functions a s) ≡ true → (line : ℕ) → ¬ IsNotDefinitionAt a (plan_of l.plan) (certificate_of l.certificate) line

-- nor does a line `group` name what is unknown: each is of a function of its own, with a span of numbers for each variable
abbrev pub GroupLinesAreKnown : Type 0
GroupLinesAreKnown =
    (a : Algorithm) (s : Schedule) (l : Lowered) → IsAlgorithm a → IsLegal a s → AreSmall a s → AreRegionsKept a s → AreGroupsMade a s l
    → are_whole (stored_functions a s) ≡ true → (line : ℕ) → ¬ Begins (plan_of l.plan) (GroupNamesUnknown a (plan_of l.plan)) line

-- the line is one of `for`, `let`, `first` or `guard`
abbrev pub IsStep : Statement → Type 0
IsStep (For i x kind body) = Unit {0}
IsStep (Let i pick forms) = Unit {0}
IsStep (First i b d) = Unit {0}
IsStep (Guard low high body) = Unit {0}
IsStep _ = ⊥

-- at this line of the plan, one of these inside a group, a symbol is bound that is in scope, or what is named is unknown or out of scope
abbrev pub IsUnknownInside : (Statement → Type 0) → Algorithm → Plan → Certificate → ℕ → Type 0
IsUnknownInside IsOne a p c line = StandsIn p (λ n g t here. IsOne t × NamesUnknown a p c g (outline_of p c n g) t here) line

-- so it is of the plan that is made of a schedule under which each stored function is a root function that is computed at no loop, whatever the loops
abbrev pub OfWholeFunctions : (Algorithm → Plan → Certificate → Type 0) → Type 0
OfWholeFunctions IsSo =
    (a : Algorithm) (s : Schedule) (l : Lowered) → IsAlgorithm a → IsLegal a s → AreSmall a s → AreRegionsKept a s → AreGroupsMade a s l
    → are_whole (stored_functions a s) ≡ true → IsSo a (plan_of l.plan) (certificate_of l.certificate)

-- no line of these inside a group names what is unknown or out of scope, or binds a symbol that is in scope
abbrev pub InnerLinesAreKnown : (Statement → Type 0) → Type 0
InnerLinesAreKnown IsOne = OfWholeFunctions (λ a p c. (line : ℕ) → ¬ IsUnknownInside IsOne a p c line)

-- nor does a loop, a let, a choice or a guard inside a group: each binds a symbol that is not in scope, and its forms name symbols that are
abbrev pub StepLinesAreKnown : Type 0
StepLinesAreKnown = InnerLinesAreKnown IsStep

-- the line is one of `fetch`
abbrev pub IsFetch : Statement → Type 0
IsFetch (Fetch b h region) = Unit {0}
IsFetch _ = ⊥

-- nor does a fetch: its buffer is in scope and of the group's function, which is known, and its region has a span over the grid for each variable of that
abbrev pub FetchLinesAreKnown : Type 0
FetchLinesAreKnown = InnerLinesAreKnown IsFetch

-- the line is one of `alloc`
abbrev pub IsAlloc : Statement → Type 0
IsAlloc (Alloc b f places) = Unit {0}
IsAlloc _ = ⊥

-- nor does an allocation: its function is known, and it has places for each variable of that, whose origins are told by symbols in scope
abbrev pub AllocLinesAreKnown : Type 0
AllocLinesAreKnown = InnerLinesAreKnown IsAlloc

-- no line of the plan is past the greatest number by which one is told
abbrev pub AreLinesTold : Plan → Type 0
AreLinesTold p = line_told (certificate_line p) ≡ certificate_line p

-- the line is one of `publish`
abbrev pub IsPublish : Statement → Type 0
IsPublish (Publish k) = Unit {0}
IsPublish _ = ⊥

-- nor does a line `publish`, where all lines can be told: its claim is known, stands at a line of the group, and is of the group's function
abbrev pub PublishLinesAreKnown : Type 0
PublishLinesAreKnown = OfWholeFunctions (λ a p c. AreLinesTold p → (line : ℕ) → ¬ IsUnknownInside IsPublish a p c line)

-- the line is one of `store`
abbrev pub IsStore : Statement → Type 0
IsStore (Store b k at e) = Unit {0}
IsStore _ = ⊥

-- nor does a store, where all lines can be told and no name reads as a load: its buffer is in scope, with a place for each variable of its function; its definition is known, and has
-- a coordinate for each of its variables; the symbols of their forms are in scope; and its expressions have those variables, and call the input and by claims of the group
abbrev pub StoreLinesAreKnown : Type 0
StoreLinesAreKnown = OfWholeFunctions (λ a p c. NamesNoLoad a → AreLinesTold p → (line : ℕ) → ¬ IsUnknownInside IsStore a p c line)

-- so no line of a group names what is unknown or out of scope, or binds what is in scope (K2)
abbrev pub GroupsNameKnown : Type 0
GroupsNameKnown = OfWholeFunctions (λ a p c. NamesNoLoad a → AreLinesTold p → (line : ℕ) → ¬ IsUnknownAt a p c line)

-- none of these splits is of a loop that one of them makes
abbrev pub AreSplitOnce : List Split → Type 0
AreSplitOnce cs = AllByRecursion (λ c. list_any (λ d. is_half d c.whole) cs ≡ false) cs

-- the line is a loop that is marked as a vector, around something else than a store, or than one guard around that, which the loop's lanes pass in order
abbrev pub IsNoVector : Algorithm → Setting → Statement → Type 0
IsNoVector a setting (For i x kind body) = fits_mark a setting i kind body ≡ false
IsNoVector a setting _ = ⊥

-- at the line such a loop stands inside a group (K13)
abbrev pub IsNoVectorAt : Algorithm → Plan → Certificate → ℕ → Type 0
IsNoVectorAt a p c line = StandsIn p (λ n g t here. IsNoVector a (setting_of p c n g) t) line

-- of the plan that is made of a schedule under which each stored function is a root function that is computed at no loop, and no loop that a split makes is split again:
-- no vector loop is wrong
abbrev pub VectorsFit : Type 0
VectorsFit =
    (a : Algorithm) (s : Schedule) (l : Lowered) → IsAlgorithm a → IsLegal a s → AreSmall a s → AreRegionsKept a s → AreGroupsMade a s l
    → are_whole (stored_functions a s) ≡ true → AllByRecursion (λ g. AreSplitOnce g.placed.cuts) (stored_functions a s) → (line : ℕ)
    → ¬ IsNoVectorAt a (plan_of l.plan) (certificate_of l.certificate) line

-- no form of a line `group` is out of the limits of forms (K3)
abbrev pub GroupFormsAreWithin : Type 0
GroupFormsAreWithin = OfWholeFunctions (λ a p c. (line : ℕ) → ¬ Begins p (λ n g. RegionIsWide g.region) line)

-- at this line of the plan, one of these inside a group, a form is out of the limits of forms
abbrev pub IsWideInside : (Statement → Type 0) → Plan → ℕ → Type 0
IsWideInside IsOne p line = StandsIn p (λ n g t here. IsOne t × HasWide t) line

-- the line is one of `for`, `let`, `first`, `guard` or `store`
abbrev pub IsNestLine : Statement → Type 0
IsNestLine s = IsStep s ⊎ IsStore s

-- nor is one of a loop, a let, a guard or a store
abbrev pub NestFormsAreWithin : Type 0
NestFormsAreWithin = OfWholeFunctions (λ a p c. (line : ℕ) → ¬ IsWideInside IsNestLine p line)

-- nor is one of a line `fetch`
abbrev pub FetchFormsAreWithin : Type 0
FetchFormsAreWithin = OfWholeFunctions (λ a p c. (line : ℕ) → ¬ IsWideInside IsFetch p line)

-- nor is one of a line `alloc`
abbrev pub AllocFormsAreWithin : Type 0
AllocFormsAreWithin = OfWholeFunctions (λ a p c. (line : ℕ) → ¬ IsWideInside IsAlloc p line)

-- so no form of a line of a group is (K3)
abbrev pub FormsAreWithin : Type 0
FormsAreWithin = OfWholeFunctions (λ a p c. (line : ℕ) → ¬ IsWideAt p line)

-- so of the lines of groups what the checker tells first is a limit of numbers (K14)
abbrev pub OnlyLimitsAreToldOfGroups : Type 0
OnlyLimitsAreToldOfGroups =
    (a : Algorithm) (s : Schedule) (l : Lowered) → IsAlgorithm a → IsLegal a s → AreSmall a s → AreRegionsKept a s → AreGroupsMade a s l
    → are_whole (stored_functions a s) ≡ true → NamesNoLoad a → AreLinesTold (plan_of l.plan) → AllByRecursion (λ g. AreSplitOnce g.placed.cuts) (stored_functions a s)
    → (f : TextFlaw) → first_of (flaws_of_groups a (plan_of l.plan) (certificate_of l.certificate)) ≡ Some f → f.code ≡ 14
