-- What the checker asks of heads, names and stores, and that the plans that `lower` makes of whatever schedule have it: functions may be computed inside loops.
use Rattle.std.specs.Prelude.{◌≡◌, ◌⊎◌, ℕ, ◌^◌, ◌<◌, true, length, Some, slice_get}
use Rattle.std.specs.List.{Any}
use Rattle.lin.specs.Forms.{Form}
use Rattle.meaning.specs.Algorithm.{Function, Algorithm}
use Rattle.meaning.specs.Conditions.{IsAlgorithm}
use Rattle.plan.specs.Plan.{Statement, For, Let, First, Guard, Plan}
use Rattle.plan.specs.View.{plan_of}
use Rattle.plan.specs.Certificate.Certificate.{Certificate, certificate_of}
use Rattle.sched.specs.Schedule.{Schedule}
use Rattle.sched.specs.Legal.{IsLegal}
use Rattle.sched.specs.Subjects.{subject_said}
use Rattle.headline.specs.Head.{FailsHead}
use Rattle.validation.specs.Groups.Inside.{Begins, StandsIn}
use Rattle.validation.specs.Groups.Wrong.{GroupNamesUnknown, IsNotDefinitionAt}
use Rattle.validation.specs.Stored.Definitions.{is_stored}
use Rattle.lower.specs.declared.lowering.Lowered.{Lowered}
use Rattle.lower.specs.Groups.{AreGroupsMade}
use Rattle.completeness.specs.Laws.{NamesNoLoad, IsUnknownInside, AreLinesTold, IsPublish}

-- of the plan that is made of whatever schedule
abbrev pub OfEachSchedule : (Algorithm → Schedule → Plan → Certificate → Type 0) → Type 0
OfEachSchedule IsSo = (a : Algorithm) (s : Schedule) (l : Lowered) → IsAlgorithm a → IsLegal a s → AreGroupsMade a s l → IsSo a s (plan_of l.plan) (certificate_of l.certificate)

-- its name, its input and its output are the algorithm's, and some group is the output's (no K1)
abbrev pub HeadsStand : Type 0
HeadsStand = OfEachSchedule (λ a s p c. (line : ℕ) → ¬ FailsHead a p line)

-- each function that the schedule stores is stored in the plan: a group is of it, or a line `alloc`
abbrev pub AreAllStored : Algorithm → Schedule → Plan → Type 0
AreAllStored a s p = (k : ℕ) (f : Function) → slice_get a.functions k ≡ Some f → (subject_said a s f).is_stored ≡ true → is_stored f.name p ≡ true

-- where each function that the schedule stores is stored in the plan, no name reads as a load, and there are fewer than 2^64 claims, no line stores something else than its
-- definition (no K12)
abbrev pub AllDefinitionsAreStored : Type 0
AllDefinitionsAreStored = OfEachSchedule (λ a s p c. NamesNoLoad a → AreAllStored a s p → length c.claims < 2 ^ 64 → (line : ℕ) → ¬ IsNotDefinitionAt a p c line)

-- ---- names

-- the line is one of `for`, `let` or `guard`
abbrev pub IsBinding : Statement → Type 0
IsBinding (For i x kind body) = Unit {0}
IsBinding (Let i pick forms) = Unit {0}
IsBinding (Guard low high body) = Unit {0}
IsBinding _ = ⊥

-- the form names this symbol
abbrev pub HasSymbol : ℕ → Form → Type 0
HasSymbol i f = Any (λ t. t.symbol ≡ i) f.terms

-- the line binds a symbol that its own forms name
abbrev pub NamesItself : Statement → Type 0
NamesItself (For i x kind body) = Any (HasSymbol i) x.lower ⊎ Any (HasSymbol i) x.upper
NamesItself (Let i pick forms) = Any (HasSymbol i) forms
NamesItself _ = ⊥

-- so does this line inside a group
abbrev pub NamesItselfAt : Plan → ℕ → Type 0
NamesItselfAt p line = StandsIn p (λ n g s here. NamesItself s) line

-- a line `for`, `let` or `guard` inside a group that binds no symbol which its own forms name binds none that is in scope, and its forms name symbols that are (no K2)
abbrev pub BindingLinesAreKnown : Type 0
BindingLinesAreKnown = OfEachSchedule (λ a s p c. (line : ℕ) → ¬ NamesItselfAt p line → ¬ IsUnknownInside IsBinding a p c line)

-- nor does a line `publish` name what is unknown, where all lines can be told: its claim is known, stands at a line of the group, and is of the group's function (no K2)
abbrev pub LastLinesAreKnown : Type 0
LastLinesAreKnown = OfEachSchedule (λ a s p c. AreLinesTold p → (line : ℕ) → ¬ IsUnknownInside IsPublish a p c line)

-- the line is one of `first`
abbrev pub IsFirst : Statement → Type 0
IsFirst (First i b d) = Unit {0}
IsFirst _ = ⊥

-- nor does a line `first`: its symbol is that of a loop around it (no K2)
abbrev pub ChoiceLinesAreKnown : Type 0
ChoiceLinesAreKnown = OfEachSchedule (λ a s p c. (line : ℕ) → ¬ IsUnknownInside IsFirst a p c line)

-- nor does a line `group`: each is of a function of its own, with a span of numbers for each variable (no K2)
abbrev pub AllGroupLinesAreKnown : Type 0
AllGroupLinesAreKnown =
    (a : Algorithm) (s : Schedule) (l : Lowered) → IsAlgorithm a → IsLegal a s → AreGroupsMade a s l → (line : ℕ) → ¬ Begins (plan_of l.plan) (GroupNamesUnknown a (plan_of l.plan)) line
