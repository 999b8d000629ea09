-- What a nest comes to in which positions are told to be at most last numbers: all that the nest itself comes to where they are, and nothing past them.
use Rattle.std.specs.Prelude.{◌≡◌, ◌≢◌, ℕ, ◌+◌, ◌==◌, ◌≤◌, ℤ, ◌≤ℤ◌, true, false, List, [], ◌∷◌, length, map, Option, Some, None, Contains}
use Rattle.std.specs.List.{AllByRecursion}
use Rattle.std.specs.Option.{option_map}
use Rattle.lin.specs.Forms.{Form}
use Rattle.lin.specs.declared.scope.Binding.{Binding}
use Rattle.lin.specs.declared.span.Span1.{Span1}
use Rattle.plan.specs.Symbols.{Symbols, form_value}
use Rattle.sched.specs.declared.schedule.Split.{Split}
use Rattle.sched.specs.declared.numbers.Numbers.{Numbers}
use Rattle.sched.specs.declared.skeleton.Step.{Step}
use Rattle.sched.specs.declared.skeleton.Step.TheVariants.{Turns, Named, Tested}
use Rattle.sched.specs.Order.{Good}
use Rattle.sched.specs.Skeleton.{NestText}
use Rattle.sched.specs.Standing.{StandingText, form_named}
use Rattle.sched.specs.Visits.{arrivals}
use Rattle.sched.specs.declared.ends.Reach.{Reach}
use Rattle.sched.specs.declared.ends.Run.{Run}
use Rattle.sched.specs.Stored.{StoredText}
use Rattle.sched.specs.Around.{bind_steps}
use Rattle.regions.specs.Guarded.{is_joined, last_number, told_nest}
use Rattle.sched.specs.Parted.{begun}
use Rattle.sched.specs.Settled.{is_guarded, reach_named, turn_all}

-- ---- nests

-- each step binds a symbol behind those of the steps before it, from this one on
abbrev pub AreRising : ℕ → List Step → Type 0
AreRising n [] = Unit {0}
AreRising n (Turns i x kind ∷ ss) = (n ≤ i) × AreRising (i + 1) ss
AreRising n (Named i pick fs ∷ ss) = (n ≤ i) × AreRising (i + 1) ss
AreRising n (Tested low high ∷ ss) = AreRising n ss

abbrev pub IsOver : ℕ → Option Form → Type 0
IsOver n None = Unit {0}
IsOver n (Some f) = Good n f

-- a nest of a function over a region, inside of these symbols: its own rise behind them, its coordinates are forms of all of them, and the region's ends of those around it
pub record IsNested (scope : List Binding) (region : List Span1) (n : NestText) : Type 0 where
  pub rising : AreRising (length scope) n.steps
  pub coordinates : AllByRecursion (IsOver (length (bind_steps scope n.steps))) n.at
  pub ends : AllByRecursion (λ x. AllByRecursion (Good (length scope)) x.upper) region

-- ---- what they come to

-- the number of a coordinate that has a form
abbrev pub coordinate : Symbols → Option Form → Option ℤ
coordinate s o = option_map (λ f. form_value f s) o

abbrev pub IsAtMost : Symbols → Option Form → Option Form → Type 0
IsAtMost s None last = Unit {0}
IsAtMost s (Some f) None = Unit {0}
IsAtMost s (Some f) (Some last) = form_value f s ≤ℤ form_value last s

-- of the dimensions from this one on, each of which a last number is told is at most that
abbrev pub AreAtMost : StoredText → List Binding → List Span1 → Symbols → ℕ → List (Option Form) → Type 0
AreAtMost g scope region s d [] = Unit {0}
AreAtMost g scope region s d (o ∷ os) = IsAtMost s o (last_number g scope region d) × AreAtMost g scope region s (d + 1) os

-- the nest comes, in some turns, to a store with these coordinates
pub record ComesTo (n : NestText) (s : Symbols) (zs : List (Option ℤ)) : Type 0 where
  pub symbols : Symbols
  pub arrives : Contains (arrivals n.steps s) symbols
  pub at : map (coordinate symbols) n.at ≡ zs

-- wherever a nest comes with numbers that are at most the last ones, as splits with `guard` keep them, the nest in which that is told comes too: nothing that is needed is
-- left out where it is told
abbrev pub ToldNestsComeToAll : Type 0
ToldNestsComeToAll =
    (g : StoredText) (scope : List Binding) (region : List Span1) (from : ℕ) (n m : NestText) → told_nest g scope region from n ≡ Some m → IsNested scope region n
    → (s u : Symbols) → Contains (arrivals n.steps s) u → AreAtMost g scope region u 0 n.at → ComesTo m s (map (coordinate u) n.at)

-- each loop has a last number
abbrev pub HasEnd : List Form → Type 0
HasEnd [] = ⊥
HasEnd (f ∷ fs) = Unit {0}

abbrev pub AreEnded : List Step → Type 0
AreEnded [] = Unit {0}
AreEnded (Turns i x kind ∷ ss) = HasEnd x.upper × AreEnded ss
AreEnded (Named i pick fs ∷ ss) = AreEnded ss
AreEnded (Tested low high ∷ ss) = AreEnded ss

-- what a position that is told has become is at most the last number
abbrev pub IsKept : ℕ → Symbols → Option Form → Option Form → Option Form → Type 0
IsKept from s None last told = Unit {0}
IsKept from s (Some f) None told = Unit {0}
IsKept from s (Some f) (Some last) None = Unit {0}
IsKept from s (Some f) (Some last) (Some h) = is_joined from f ≡ true → form_value h s ≤ℤ form_value last s

-- of the dimensions from this one on
abbrev pub AreKept : StoredText → List Binding → List Span1 → ℕ → Symbols → ℕ → List (Option Form) → List (Option Form) → Type 0
AreKept g scope region from s d [] told = Unit {0}
AreKept g scope region from s d (o ∷ os) [] = ⊥
AreKept g scope region from s d (o ∷ os) (h ∷ told) = IsKept from s o (last_number g scope region d) h × AreKept g scope region from s (d + 1) os told

-- wherever the nest comes in which that is told, each position that has several symbols, of which one stands inside of the place, is at most the last number
abbrev pub ToldNumbersAreKept : Type 0
ToldNumbersAreKept =
    (g : StoredText) (scope : List Binding) (region : List Span1) (from : ℕ) (n m : NestText) → told_nest g scope region from n ≡ Some m → IsNested scope region n → AreEnded n.steps
    → (s u : Symbols) → Contains (arrivals m.steps s) u → AreKept g scope region from u 0 n.at m.at

-- ---- nests whose loops are split

-- lets name the symbols from this one on
abbrev pub AreLets : ℕ → List Step → Type 0
AreLets n [] = Unit {0}
AreLets n (Named i pick fs ∷ ss) = (i ≡ n) × AreLets (n + 1) ss
AreLets n (Turns i x kind ∷ ss) = ⊥
AreLets n (Tested low high ∷ ss) = ⊥

-- of these splits each of the loop of this name is a guarded one whose blocks may go past the last number, and no block of it is one number
abbrev pub AreGuarded : List Numbers → List Split → List ℕ → Reach → List Split → Type 0
AreGuarded ns all x r [] = Unit {0}
AreGuarded ns all x r (c ∷ cs) = (c.whole ≡ x → (is_guarded ns all c r ≡ true) × ((c.factor == 1) ≡ false)) × AreGuarded ns all x r cs

-- a loop of this name, which these splits take and none of these loops is, from and up to forms of the symbols before n; as are those of the other splits
pub record IsGuardedLoop (ns : List Numbers) (hs : List Reach) (all : List Split) (rs : List Run) (n : ℕ) (x : List ℕ) (r : Reach) : Type 0 where
  pub reached : reach_named hs x ≡ Some r
  pub guarded : AreGuarded ns all x r all
  pub ends : AllByRecursion (λ h. Good n h.low × Good n h.last) hs
  pub taken : AllByRecursion (λ q. q.name ≢ x) rs
  pub ended : AllByRecursion (λ q. HasEnd q.span.upper) rs

-- wherever the loops, lets and guards come of a nest whose loops are split, the position in a loop that is split with `guard`, so that its blocks may go past the last
-- number, is at most that number, where the first one is
abbrev pub GuardedPositionsAreKept : Type 0
GuardedPositionsAreKept =
    (ns : List Numbers) (hs : List Reach) (all : List Split) (rs : List Run) (n : ℕ) (lets : List Step) (st : StandingText) → turn_all ns hs all rs (begun n lets) ≡ Some st
    → AreLets n lets → (x : List ℕ) (r : Reach) → IsGuardedLoop ns hs all rs (n + length lets) x r → (f : Form) → form_named st.known x ≡ Some f
    → (s u : Symbols) → Contains (arrivals st.steps s) u → form_value r.low u ≤ℤ form_value r.last u → form_value f u ≤ℤ form_value r.last u
