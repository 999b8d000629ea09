-- When a schedule keeps the rules of one directive after another and of functions with updates, and what a refusal says.
use Rattle.std.specs.Prelude.{◌≡◌, ◌⊎◌, ℕ, ◌<◌, false, if◌then◌else◌, List, [], ◌∷◌, map, take, Any, Option, Some, None, slice_get}
use Rattle.std.specs.List.{flat_map}
use Rattle.meaning.specs.Algorithm.{Function, Algorithm}
use Rattle.meaning.specs.Names.{same_name}
use Rattle.sched.specs.declared.error.Rule.{Rule}
use Rattle.sched.specs.declared.error.Rule.TheVariants as rule
use Rattle.sched.specs.declared.error.SchedError.{SchedError}
use Rattle.sched.specs.declared.error.SchedError.TheVariants as error
use Rattle.sched.specs.Schedule.{DirectiveText, ScheduledText, Schedule}
use Rattle.sched.specs.Placing.{PlacedText}
use Rattle.sched.specs.Subjects.{has_names}
use Rattle.sched.specs.Rules.{steps_of, made, IsNoFunction, StepBreaks, EndBreaks, IsLowest}

-- ---- the text, word by word

-- what a text says next: that it speaks of the function of this name, or a step of that function
pub data Saying : Type 0 where
  speaks : List ℕ → Saying
  does : List ℕ → DirectiveText → Saying

abbrev pub said_of : ScheduledText → List Saying
said_of t = speaks t.function ∷ map (does t.function) (flat_map steps_of t.directives)

-- all that it says, in its order
abbrev pub said : Schedule → List Saying
said s = flat_map said_of s

abbrev pub name_of : Saying → List ℕ
name_of (speaks x) = x
name_of (does x d) = x

abbrev pub step_of : List ℕ → Saying → List DirectiveText
step_of x (speaks y) = []
step_of x (does y d) = if same_name y x then d ∷ [] else []

-- the steps of the function of this name
abbrev pub steps_named : List ℕ → List Saying → List DirectiveText
steps_named x es = flat_map (step_of x) es

-- what all that was said so far makes of a function's loops
abbrev pub loops_after : List Saying → Function → PlacedText
loops_after es f = made f (steps_named f.name es)

-- ---- what is broken

-- what is said next breaks the rule, behind what was said before: a name of no function, or a step of a function
abbrev pub Breaks : Algorithm → Schedule → List Saying → Saying → Rule → Type 0
Breaks a s before (speaks x) r = (r ≡ rule.UnknownName) × IsNoFunction a x
Breaks a s before (does x d) r = Any (λ f. (f.name ≡ x) × IsLowest (StepBreaks a s f (loops_after before f) d) r) a.functions

-- the k-th thing that is said breaks the rule
abbrev pub BreaksAt : Algorithm → Schedule → ℕ → Saying → Rule → Type 0
BreaksAt a s k e r = (slice_get (said s) k ≡ Some e) × Breaks a s (take k (said s)) e r

-- nothing that the text says breaks one of L1 to L5
abbrev pub IsFollowed : Algorithm → Schedule → Type 0
IsFollowed a s = (k : ℕ) (e : Saying) (r : Rule) → ¬ BreaksAt a s k e r

-- the function breaks the rule behind the last directive
abbrev pub Spoils : Algorithm → Schedule → Function → Rule → Type 0
Spoils a s f r = EndBreaks a s f (loops_after (said s)) r

-- the first thing said that breaks one of L1 to L5 breaks this one, and it is said of the function of this name
pub record IsBrokenNow (a : Algorithm) (s : Schedule) (r : Rule) (x : List ℕ) : Type 0 where
  pub place : ℕ
  pub saying : Saying
  pub broken : BreaksAt a s place saying r
  pub first : (k : ℕ) (e : Saying) (q : Rule) → k < place → ¬ BreaksAt a s k e q
  pub named : name_of saying ≡ x

-- nothing does; and this is the rule of the lowest number that the first function, in the order of declaration, breaks that breaks one
pub record IsBrokenBehind (a : Algorithm) (s : Schedule) (r : Rule) (x : List ℕ) : Type 0 where
  pub followed : IsFollowed a s
  pub number : ℕ
  pub function : Function
  pub declared : slice_get a.functions number ≡ Some function
  pub broken : IsLowest (Spoils a s function) r
  pub first : (k : ℕ) (f : Function) (q : Rule) → k < number → slice_get a.functions k ≡ Some f → ¬ Spoils a s f q
  pub named : function.name ≡ x

-- ---- what is told

-- neither a directive nor the whole breaks a rule
pub record IsLegal (a : Algorithm) (s : Schedule) : Type 0 where
  pub followed : IsFollowed a s
  pub whole : (k : ℕ) (f : Function) (q : Rule) → slice_get a.functions k ≡ Some f → ¬ Spoils a s f q

-- no function breaks a rule behind the last directive; or this is the first that does, and the rule
abbrev pub IsFault : Algorithm → Schedule → Option (Rule × List ℕ) → Type 0
IsFault a s None = IsLegal a s
IsFault a s (Some e) = IsBrokenBehind a s e.0 e.1

-- the loops of all functions behind the last directive
abbrev pub loops_of : Algorithm → Schedule → List PlacedText
loops_of a s = map (loops_after (said s)) a.functions

-- of rules only one that a directive breaks
abbrev pub IsUnfollowed : Algorithm → Schedule → SchedError → Type 0
IsUnfollowed a s (error.Broken r x) = IsBrokenNow a s r x
IsUnfollowed a s error.UnfitNames = has_names a ≡ false
IsUnfollowed a s error.Memory = Unit {0}
IsUnfollowed a s (error.BadToken span) = ⊥
IsUnfollowed a s (error.BadForm span) = ⊥
IsUnfollowed a s (error.TooLarge span) = ⊥

abbrev pub IsRefused : Algorithm → Schedule → SchedError → Type 0
IsRefused a s (error.Broken r x) = IsBrokenNow a s r x ⊎ IsBrokenBehind a s r x
IsRefused a s error.UnfitNames = has_names a ≡ false
IsRefused a s error.Memory = Unit {0}
IsRefused a s (error.BadToken span) = ⊥
IsRefused a s (error.BadForm span) = ⊥
IsRefused a s (error.TooLarge span) = ⊥
