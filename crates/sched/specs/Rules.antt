-- The rules of schedules in their own words: which one a directive breaks, and which one the whole text, of a function of an algorithm.
use Rattle.std.specs.Prelude.{◌≡◌, ◌≢◌, ◌⊎◌, ℕ, ◌<◌, ◌≤◌, List, [], ◌∷◌, ◌++◌, length, drop, fold, Some, slice_get, All, Contains, Any}
use Rattle.tree.specs.Term.{Name}
use Rattle.meaning.specs.Algorithm.{Change, Function, Algorithm}
use Rattle.sched.specs.declared.schedule.Home.{Home}
use Rattle.sched.specs.declared.schedule.Tail.TheVariants as tails
use Rattle.sched.specs.declared.placing.Loop.{Loop}
use Rattle.sched.specs.declared.placing.Mark.{Mark}
use Rattle.sched.specs.declared.placing.Mark.TheVariants as mark
use Rattle.sched.specs.declared.error.Rule.{Rule}
use Rattle.sched.specs.declared.error.Rule.TheVariants as rule
use Rattle.sched.specs.Schedule.{DirectiveText, compute_root, compute_at, store_at, fold as fold_to, split, tile, reorder, unroll, vectorize, parallel, Schedule}
use Rattle.sched.specs.Placing.{PlacedText, x_split, y_split, cut, filled, loops_named, marked, starting}
use Rattle.sched.specs.Subjects.{reductions_of}

-- ---- what is said of a function

-- the text has this directive of the function of this name
abbrev pub Says : Schedule → List ℕ → (DirectiveText → Type 0) → Type 0
Says s x P = Any (λ t. (t.function ≡ x) × Any P t.directives) s

-- the output, or a function with a compute_root, wherever that stands
abbrev pub IsRoot : Algorithm → Schedule → Function → Type 0
IsRoot a s f = (a.output ≡ f.name) ⊎ Says s f.name (λ d. d ≡ compute_root)

abbrev pub IsComputeAt : DirectiveText → Type 0
IsComputeAt (compute_at h) = Unit {0}
IsComputeAt d = ⊥

-- a root function, or one that is computed at a loop
abbrev pub IsStored : Algorithm → Schedule → Function → Type 0
IsStored a s f = IsRoot a s f ⊎ Says s f.name IsComputeAt

-- a reduction variable of one of its updates
abbrev pub IsReduction : Function → List ℕ → Type 0
IsReduction f x = Any (λ u. Any (λ d. d.variable ≡ x) u.ranges) f.changes

-- the update's left index in this dimension, whose variable is x, is not x alone
abbrev pub Scatters : List ℕ → ℕ → Change → Type 0
Scatters x n u = slice_get u.at n ≢ Some (Name x)

-- some update has no pure variable for this dimension
abbrev pub IsScattered : Function → ℕ → Type 0
IsScattered f n = (x : List ℕ) × (slice_get f.variables n ≡ Some x) × Any (Scatters x n) f.changes

abbrev pub HasUpdates : Function → Type 0
HasUpdates f = 0 < length f.changes

-- ---- loops

-- a tile is both its splits, and then its reorder
abbrev pub steps_of : DirectiveText → List DirectiveText
steps_of (tile t) = split (x_split t) ∷ split (y_split t) ∷ reorder (t.x_inner ∷ t.y_inner ∷ t.x_outer ∷ t.y_outer ∷ []) ∷ []
steps_of d = d ∷ []

-- what a step makes of a function's loops
abbrev pub after : PlacedText → DirectiveText → PlacedText
after p (split s) = cut s p
after p (compute_at h) = record p { homes = p.homes ++ h ∷ [] }
after p (store_at h) = record p { stores = p.stores ++ h ∷ [] }
after p (fold_to d) = record p { folds = p.folds ++ d ∷ [] }
after p (reorder xs) = record p { loops = filled xs (loops_named p.loops xs) p.loops }
after p (unroll x) = marked mark.Unrolled x p
after p (vectorize x) = marked mark.Vectorized x p
after p (parallel x) = marked mark.Parallel x p
after p d = p

-- a function's variables are its first loops, the first innermost; these and the reduction variables are used up
abbrev pub first_loops : Function → PlacedText
first_loops f = record { loops = starting 0 f.variables; cuts = []; used = f.variables ++ reductions_of f.changes; homes = []; stores = []; folds = [] }

-- what these steps make of them, one after another
abbrev pub made : Function → List DirectiveText → PlacedText
made f ds = fold after (first_loops f) ds

abbrev pub IsMarked : Loop → Type 0
IsMarked l = (m : Mark) × (l.mark ≡ Some m)

-- the inner loop of a split with factor at most 64
abbrev pub IsShort : Loop → Type 0
IsShort l = (n : ℕ) × (l.within ≡ Some n) × (n ≤ 64)

-- a loop has this name, and so much is so of it
abbrev pub SomeLoop : PlacedText → List ℕ → (Loop → Type 0) → Type 0
SomeLoop p x P = Any (λ l. (l.name ≡ x) × P l) p.loops

-- neither a loop of the function now nor one of its reduction variables has this name
abbrev pub IsNoLoop : Function → PlacedText → List ℕ → Type 0
IsNoLoop f p x = (¬ Any (λ l. l.name ≡ x) p.loops) × (¬ IsReduction f x)

-- ---- what a step breaks

-- no function has this name
abbrev pub IsNoFunction : Algorithm → List ℕ → Type 0
IsNoFunction a x = All (λ f. f.name ≢ x) a.functions

-- L1: a name of no loop; of a fold, of no dimension; of the loop at which the function is computed or stored, of no function
abbrev pub NamesNothing : Algorithm → Function → PlacedText → DirectiveText → Type 0
NamesNothing a f p (compute_at h) = IsNoFunction a h.function
NamesNothing a f p (store_at h) = IsNoFunction a h.function
NamesNothing a f p (fold_to d) = ¬ Contains f.variables d.dimension
NamesNothing a f p (split s) = IsNoLoop f p s.whole
NamesNothing a f p (reorder xs) = Any (IsNoLoop f p) xs
NamesNothing a f p (unroll x) = IsNoLoop f p x
NamesNothing a f p (vectorize x) = IsNoLoop f p x
NamesNothing a f p (parallel x) = IsNoLoop f p x
NamesNothing a f p d = ⊥

-- L2: a split of a reduction variable, a new name already used in the function, the other new name among them, or a factor out of 1 to 1024
abbrev pub IsBadSplit : Function → PlacedText → DirectiveText → Type 0
IsBadSplit f p (split s) = IsReduction f s.whole ⊎ Contains p.used s.outer ⊎ Contains p.used s.inner ⊎ (s.outer ≡ s.inner) ⊎ (s.factor ≡ 0) ⊎ (1024 < s.factor)
IsBadSplit f p d = ⊥

-- a name stands at two places
abbrev pub IsTwice : List (List ℕ) → Type 0
IsTwice xs = (i j : ℕ) × (x : List ℕ) × (i < j) × (slice_get xs i ≡ Some x) × (slice_get xs j ≡ Some x)

-- L3: a reorder that names a loop twice or a reduction variable
abbrev pub IsBadReorder : Function → PlacedText → DirectiveText → Type 0
IsBadReorder f p (reorder xs) = Any (IsReduction f) xs ⊎ IsTwice xs
IsBadReorder f p d = ⊥

-- a reduction variable, a loop already marked, or one that is not the inner loop of a split with factor at most 64
abbrev pub IsBadLanes : Function → PlacedText → List ℕ → Type 0
IsBadLanes f p x = IsReduction f x ⊎ SomeLoop p x (λ l. IsMarked l ⊎ ¬ IsShort l)

-- L4: vectorize or unroll of such a one
abbrev pub IsBadMark : Function → PlacedText → DirectiveText → Type 0
IsBadMark f p (unroll x) = IsBadLanes f p x
IsBadMark f p (vectorize x) = IsBadLanes f p x
IsBadMark f p d = ⊥

-- L5: parallel on a reduction variable, in a function that is not root, on a marked loop, or on a loop of a dimension for which some update has no pure variable
abbrev pub IsBadParallel : Algorithm → Schedule → Function → PlacedText → DirectiveText → Type 0
IsBadParallel a s f p (parallel x) = IsReduction f x ⊎ (¬ IsRoot a s f) ⊎ SomeLoop p x (λ l. IsMarked l ⊎ IsScattered f l.dimension)
IsBadParallel a s f p d = ⊥

-- the step breaks the rule, where these are the loops of the function before it
abbrev pub StepBreaks : Algorithm → Schedule → Function → PlacedText → DirectiveText → Rule → Type 0
StepBreaks a s f p d rule.UnknownName = NamesNothing a f p d
StepBreaks a s f p d rule.BadSplit = IsBadSplit f p d
StepBreaks a s f p d rule.BadReorder = IsBadReorder f p d
StepBreaks a s f p d rule.BadMark = IsBadMark f p d
StepBreaks a s f p d rule.BadParallel = IsBadParallel a s f p d
StepBreaks a s f p d rule.BadHome = ⊥
StepBreaks a s f p d rule.BadStorage = ⊥
StepBreaks a s f p d rule.BadShift = ⊥
StepBreaks a s f p d rule.BadFold = ⊥
StepBreaks a s f p d rule.InlineUpdates = ⊥

-- ---- what the whole text breaks

abbrev pub IsVectorized : Loop → Type 0
IsVectorized l = l.mark ≡ Some mark.Vectorized

abbrev pub IsParallel : Loop → Type 0
IsParallel l = l.mark ≡ Some mark.Parallel

-- L4: a vectorised loop that is not innermost
abbrev pub IsVectorizedOutside : PlacedText → Type 0
IsVectorizedOutside p = Any IsVectorized (drop 1 p.loops)

-- L5: parallel loops that are not the outermost ones: one that is not stands outside one that is
abbrev pub IsParallelInside : PlacedText → Type 0
IsParallelInside p = (i j : ℕ) × (l m : Loop) × (i < j) × (slice_get p.loops i ≡ Some l) × (slice_get p.loops j ≡ Some m) × IsParallel l × ¬ IsParallel m

-- a loop is so, and no loop inside it is parallel
abbrev pub StandsClear : (Loop → Type 0) → List Loop → Type 0
StandsClear P ls = (i : ℕ) × (l : Loop) × (slice_get ls i ≡ Some l) × P l × ((j : ℕ) (m : Loop) → j < i → slice_get ls j ≡ Some m → ¬ IsParallel m)

-- unrolled or vectorised
abbrev pub IsFlat : Loop → Type 0
IsFlat l = (l.mark ≡ Some mark.Unrolled) ⊎ (l.mark ≡ Some mark.Vectorized)

-- v is a loop of these, neither vectorised nor unrolled, and without a parallel loop inside it
abbrev pub IsHomeLoop : List ℕ → List Loop → Type 0
IsHomeLoop v ls = StandsClear (λ l. (l.name ≡ v) × ¬ IsFlat l) ls

-- the loop at which f is computed is one of another function, which is stored
abbrev pub HasHome : Algorithm → Schedule → Function → (Function → PlacedText) → Home → Type 0
HasHome a s f loops h = Any (λ g. ((g.name ≡ h.function) × IsStored a s g) × ((¬ (g.name ≡ f.name)) × IsHomeLoop h.turn (loops g).loops)) a.functions

-- L6: compute_at beside compute_root or on the output, or twice, or at what is no such loop
abbrev pub IsBadHome : Algorithm → Schedule → Function → (Function → PlacedText) → Type 0
IsBadHome a s f loops = (IsRoot a s f × (0 < length (loops f).homes)) ⊎ (1 < length (loops f).homes) ⊎ Any (λ h. ¬ HasHome a s f loops h) (loops f).homes

-- w stands outside v, and no loop inside w is parallel
abbrev pub IsOutside : List ℕ → List ℕ → List Loop → Type 0
IsOutside v w ls = (i j : ℕ) × (l m : Loop) × (i < j) × (slice_get ls i ≡ Some l) × (slice_get ls j ≡ Some m) × (l.name ≡ v) × (m.name ≡ w) × ((k : ℕ) (n : Loop) → k < j → slice_get ls k ≡ Some n → ¬ IsParallel n)

-- f is computed at a loop of the same function, which has the other loop outside of that one
abbrev pub HasStorage : Algorithm → Function → (Function → PlacedText) → Home → Type 0
HasStorage a f loops w = Any (λ h. (w.function ≡ h.function) × Any (λ g. (g.name ≡ h.function) × IsOutside h.turn w.turn (loops g).loops) a.functions) (loops f).homes

-- L7: store_at twice, or without compute_at, on another function than that, not outside its loop, or with a parallel loop inside it
abbrev pub IsBadStorage : Algorithm → Function → (Function → PlacedText) → Type 0
IsBadStorage a f loops = (1 < length (loops f).stores) ⊎ Any (λ w. ¬ HasStorage a f loops w) (loops f).stores

-- L9, as far as no region is asked: fold without store_at, so without sliding, or to no places
abbrev pub IsBadFold : PlacedText → Type 0
IsBadFold p = ((0 < length p.folds) × (length p.stores ≡ 0)) ⊎ Any (λ d. d.factor ≡ 0) p.folds

-- L8: a split with shift of a function with updates
abbrev pub IsShiftedUpdate : Function → PlacedText → Type 0
IsShiftedUpdate f p = HasUpdates f × Any (λ c. c.tail ≡ tails.Shift) p.cuts

-- L10: a function with updates that is left inline
abbrev pub IsInlineUpdate : Algorithm → Schedule → Function → Type 0
IsInlineUpdate a s f = HasUpdates f × ¬ IsStored a s f

-- the function breaks the rule, where these are the loops of all functions behind the last directive
abbrev pub EndBreaks : Algorithm → Schedule → Function → (Function → PlacedText) → Rule → Type 0
EndBreaks a s f loops rule.UnknownName = ⊥
EndBreaks a s f loops rule.BadSplit = ⊥
EndBreaks a s f loops rule.BadReorder = ⊥
EndBreaks a s f loops rule.BadMark = IsVectorizedOutside (loops f)
EndBreaks a s f loops rule.BadParallel = IsParallelInside (loops f)
EndBreaks a s f loops rule.BadHome = IsBadHome a s f loops
EndBreaks a s f loops rule.BadStorage = IsBadStorage a f loops
EndBreaks a s f loops rule.BadShift = IsShiftedUpdate f (loops f)
EndBreaks a s f loops rule.BadFold = IsBadFold (loops f)
EndBreaks a s f loops rule.InlineUpdates = IsInlineUpdate a s f

-- ---- the lowest number

abbrev pub number_of : Rule → ℕ
number_of rule.UnknownName = 1
number_of rule.BadSplit = 2
number_of rule.BadReorder = 3
number_of rule.BadMark = 4
number_of rule.BadParallel = 5
number_of rule.BadHome = 6
number_of rule.BadStorage = 7
number_of rule.BadShift = 8
number_of rule.BadFold = 9
number_of rule.InlineUpdates = 10

-- of the rules that are broken, this has the lowest number
abbrev pub IsLowest : (Rule → Type 0) → Rule → Type 0
IsLowest Broken r = Broken r × ((q : Rule) → number_of q < number_of r → ¬ Broken q)
