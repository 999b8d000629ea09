-- The evaluations of one function: what each stage of one evaluates, comes to, and costs.
use Rattle.std.specs.Prelude.{◌<◌, ℕ, zero, suc, ◌+◌, List, ◌++◌, fold, take, length, true, false, ℤ, ⊤}
use Rattle.tree.specs.Term.{Terms, End, More, indices}
use Rattle.meaning.specs.Algorithm.{Range, Function, Algorithm}
use Rattle.meaning.specs.Names.{same_point}
use Rattle.meaning.specs.Reduction.{size, point}
use Rattle.meaning.specs.Conditions.{names_in}
use Rattle.meaning.specs.Value.{Calls, with_name, left_side, right_side, pure_value, value_after, input_calls, calls_before}
use Rattle.meaning.specs.Count.{Costs, with_cost, Counted, pure_count, right_cost, count_after, counted_updated, with_priced}
use Rattle.plain.specs.declared.frame.Stage.{Stage}
use Rattle.plain.specs.declared.frame.Stage.TheVariants.{Pure, Before, Left, Right}
use Rattle.plain.specs.Works.{Work, open_cost}
use Rattle.plain.specs.Scopes.{function_at, change_at}

-- what calls cost where only the first k functions are defined
abbrev pub costs_before : Algorithm → List ℕ → ℕ → Costs
costs_before a samples k = (fold with_priced (record { calls = input_calls a samples; costs = λ called at. 0 }) (take k a.functions)).costs

-- how many points the update has that comes before the i-th, and 0 before the first
abbrev pub size_before : Function → ℕ → ℕ
size_before f zero = 0
size_before f (suc i) = size (change_at f i).ranges

-- all updates and all points of the last
abbrev pub finished_level : Function → ℕ × ℕ
finished_level f = (length f.changes, size_before f (length f.changes))

-- the names that a stage's expressions may use
abbrev pub names_at : Function → Stage → List (List ℕ)
names_at f (Left i n) = names_in f (change_at f i)
names_at f (Right i n) = names_in f (change_at f i)
names_at f _ = f.variables

-- what they stand for at the point p
abbrev pub numbers_at : Function → Stage → List ℤ → List ℤ
numbers_at f (Left i n) p = p ++ point (change_at f i).ranges n
numbers_at f (Right i n) p = p ++ point (change_at f i).ranges n
numbers_at f _ p = p

-- the expressions of a stage
abbrev pub terms_at : Function → Stage → Terms
terms_at f Pure = More f.value End
terms_at f (Before i) = End
terms_at f (Left i n) = indices (change_at f i).at
terms_at f (Right i n) = More (change_at f i).value End

-- the stage at which a value starts that counts the first d updates, the last of them up to its n-th point
abbrev pub stage_of : ℕ → ℕ → Stage
stage_of zero n = Pure
stage_of (suc i) zero = Before i
stage_of (suc i) (suc n) = Left i n

-- the evaluations of the k-th function
module _ (a : Algorithm) (samples : List ℕ) (k : ℕ) where
  abbrev pub own : Function
  own = function_at a k

  abbrev pub calls : Calls
  calls = calls_before a samples k

  abbrev pub costs : Costs
  costs = costs_before a samples k

  -- after the first d updates
  abbrev pub through : ℕ → Counted
  through d = fold (counted_updated calls costs own) (record { values = pure_value calls own; counts = pure_count calls costs own }) (take d own.changes)

  -- after the first n points of the i-th update, counted from 0
  abbrev pub after : ℕ → ℕ → Counted
  after i n = record {
    values = value_after calls own (through i).values (change_at own i) n;
    counts = count_after calls costs own (through i) (change_at own i) n;
  }

  -- the pure definition, or after the first n points of the last of the first d updates
  abbrev pub level : ℕ → ℕ → Counted
  level zero n = through 0
  level (suc i) n = after i n

  -- the n-th reduction point of the i-th update
  abbrev pub point_of : ℕ → ℕ → List ℤ
  point_of i n = point (change_at own i).ranges n

  -- what calls answer at a stage
  abbrev pub calls_at : Stage → Calls
  calls_at (Right i n) = with_name calls own.name own.ty (after i n).values
  calls_at _ = calls

  -- what they cost
  abbrev pub costs_at : Stage → Costs
  costs_at (Right i n) = with_cost costs own.name (after i n).counts
  costs_at _ = costs

  -- what a stage evaluates for the point p
  abbrev pub work : Stage → List ℤ → Work
  work s p = record { names = names_at own s; numbers = numbers_at own s p; terms = terms_at own s; calls = calls_at s; costs = costs_at s }

  -- the value that the evaluation comes to
  abbrev pub outcome : Stage → List ℤ → ℤ
  outcome Pure p = (through 0).values p
  outcome (Before i) p = (through i).values p
  outcome (Left i n) p = (after i (suc n)).values p
  outcome (Right i n) p = right_side calls own (after i n).values (change_at own i) p (point_of i n)

  -- the evaluations that follow once the stage's expressions are evaluated
  abbrev pub later : Stage → List ℤ → ℕ
  later Pure p = 0
  later (Before i) p = (through i).counts p
  later (Left i n) p = elim (same_point (left_side calls own (change_at own i) p (point_of i n)) p) [
    | true ↦ right_cost calls costs own (after i n).values (after i n).counts (change_at own i) (p ++ point_of i n)
    | false ↦ (after i n).counts p
  ]
  later (Right i n) p = 0

  -- the evaluations that follow once n calls of the stage's expressions are answered
  abbrev pub open_count : Stage → List ℤ → ℕ → ℕ
  open_count s p n = open_cost a.input (work s p) n + later s p

-- the stage is one of the function's
abbrev pub IsStage : Function → Stage → Type 0
IsStage f Pure = ⊤
IsStage f (Before i) = i < length f.changes
IsStage f (Left i n) = i < length f.changes
IsStage f (Right i n) = i < length f.changes

-- how many functions a stage of the k-th function may call
abbrev pub callees_at : Stage → ℕ → ℕ
callees_at (Right i n) k = k + 1
callees_at _ k = k

-- an evaluation that compares its left side goes on to its right side
abbrev pub stage_weight : Stage → ℕ
stage_weight (Left i n) = 1
stage_weight _ = 0

abbrev pub range_name : Range → List ℕ
range_name d = d.variable
