-- What a piece of a whole function does: the lets over the grid, its buffer, what it fetches, then for each definition the loops, lets and
-- guards of the skeleton down to its store, of the definition's value with each call as a load; and its claims.
-- What crates below need of it stands there: `sched`.
use Rattle.std.specs.Prelude.{◌≡◌, ℕ, ◌+◌, ◌-◌, List, [], ◌∷◌, ◌++◌, Option, Some, None, IsSomeAnd, slice_get}
use Rattle.tree.specs.Term.{Term}
use Rattle.tree.specs.Substitution.{with_calls}
use Rattle.lin.specs.Forms.{Form}
use Rattle.lin.specs.declared.span.Span1.{Span1}
use Rattle.plan.specs.declared.stmt.Places.{Places}
use Rattle.plan.specs.declared.certificate.cert.Claim.{Claim}
use Rattle.plan.specs.Plan.{Index, At, Found, Coordinate, Statement, Seq, For, Let, Guard, Alloc, Store, Publish, Statements, Empty, Then, block}
use Rattle.plan.specs.Lines.{block_lines}
use Rattle.sched.specs.declared.skeleton.Step.{Step}
use Rattle.sched.specs.declared.skeleton.Step.TheVariants.{Turns, Named, Tested}
use Rattle.sched.specs.Runs.{lines_to}
use Rattle.sched.specs.Skeleton.{NestText, SkeletonText}
use Rattle.sched.specs.Stored.{FormulaText, StoredText}
use Rattle.sched.specs.Loading.{Loads, as_load}
use Rattle.sched.specs.Around.{names_with}
use Rattle.blocks.specs.Fetches.{FetchText, Claims, with_fetches}
use Rattle.sched.specs.Bodies.{first_left, other_lefts}

-- by these loads the coordinate is the skeleton's form, or where it has none the left index, with each call as a load
abbrev pub IsIndex : Loads → Option Form → Option Term → Index → Type 0
IsIndex ls (Some f) a (At g) = g ≡ f
IsIndex ls (Some f) a (Found e) = ⊥
IsIndex ls None a (At g) = ⊥
IsIndex ls None None (Found e) = ⊥
IsIndex ls None (Some a) (Found e) = e ≡ with_calls (as_load ls) a

-- of each variable
abbrev pub AreCoordinates : Loads → List (List ℕ) → List (Option Form) → List (Option Term) → List Coordinate → Type 0
AreCoordinates ls xs [] lefts [] = Unit {0}
AreCoordinates ls xs [] lefts (c ∷ cs) = ⊥
AreCoordinates ls [] (o ∷ os) lefts cs = ⊥
AreCoordinates ls (x ∷ xs) (o ∷ os) lefts [] = ⊥
AreCoordinates ls (x ∷ xs) (o ∷ os) lefts (c ∷ cs) = (c.variable ≡ x) × IsIndex ls o (first_left lefts) c.index × AreCoordinates ls xs os (other_lefts lefts) cs

-- by these loads this is what a definition stores: its value, with each call as a load, at the coordinates of its nest
pub record IsStored (ls : Loads) (xs : List (List ℕ)) (n : NestText) (cs : List Coordinate) (e : Term) (f : FormulaText) : Type 0 where
  pub at : AreCoordinates ls xs n.at f.at cs
  pub value : e ≡ with_calls (as_load ls) f.value

-- the definition of this number is stored in the piece's own buffer
abbrev pub IsStore : StoredText → List FormulaText → Loads → ℕ → NestText → Statement → Type 0
IsStore g fs ls d n (Store b k cs e) = (b ≡ 0) × (k ≡ d) × IsSomeAnd (slice_get fs d) (IsStored ls (names_with g.variables g.changes d) n cs e)
IsStore g fs ls d n _ = ⊥

-- ---- nests

-- how many lines a step takes: a loop and a guard have an `end`
abbrev pub own_lines : Step → ℕ
own_lines (Turns i x kind) = 2
own_lines (Named i pick forms) = 1
own_lines (Tested low high) = 2

abbrev pub step_lines : List Step → ℕ
step_lines [] = 0
step_lines (s ∷ steps) = own_lines s + step_lines steps

-- a loop or a guard around what follows, or a let in front of it
abbrev pub with_step : Step → Statements → Statements
with_step (Turns i x kind) inner = Then (For i x kind (Seq inner)) Empty
with_step (Named i pick forms) inner = Then (Let i pick forms) inner
with_step (Tested low high) inner = Then (Guard low high (Seq inner)) Empty

-- the steps of its nest come down to the store of the definition of this number
pub record IsNest (g : StoredText) (fs : List FormulaText) (ls : Loads) (d : ℕ) (n : NestText) (xs : List Statement) : Type 0 where
  pub store : Statement
  pub stores : IsStore g fs ls d n store
  pub comes : block xs ≡ lines_to n.steps (Then store Empty)

-- first some, then others, which are told how many lines the first take
pub record AreBoth (P : List Statement → Type 0) (Q : ℕ → List Statement → Type 0) (xs : List Statement) : Type 0 where
  pub first : List Statement
  pub others : List Statement
  pub are : xs ≡ first ++ others
  pub here : P first
  pub behind : Q (block_lines (block first)) others

-- the last line of these statements, whose first has this one
abbrev pub last_line : ℕ → List Statement → ℕ
last_line line xs = (line + block_lines (block xs)) - 1

-- the nest of a definition, and its claim, from after the nest on: the piece's own buffer has it, over this region
pub record IsClaimedNest (g : StoredText) (fs : List FormulaText) (r : List Span1) (ls : Loads) (line d : ℕ) (n : NestText) (claim : Claim) (xs : List Statement) : Type 0 where
  pub nest : IsNest g fs ls d n xs
  pub claims : Claims (last_line line xs) 0 g.subject.name d r claim

-- those of the definitions from this number on, one behind another, from this line on; their claims are numbered from c on, and behind its nest the function
-- itself is loaded by the claim
abbrev pub AreNests : StoredText → List FormulaText → List Span1 → Loads → ℕ → ℕ → ℕ → List NestText → List Statement → List Claim → Type 0
AreNests g fs r ls c line d [] xs claims = (xs ≡ []) × (claims ≡ [])
AreNests g fs r ls c line d (n ∷ ns) xs [] = ⊥
AreNests g fs r ls c line d (n ∷ ns) xs (claim ∷ claims) = AreBoth (IsClaimedNest g fs r ls line d n claim)
    (λ m ys. AreNests g fs r (ls ++ (g.subject.name, c) ∷ []) (c + 1) (line + m) (d + 1) ns ys claims) xs

-- ---- the body

-- the lets over the grid, the piece's own buffer with these places, what it fetches, the nests, and by which claim it publishes
pub record IsBodyWith (g : StoredText) (k : SkeletonText) (places : List Places) (fetches : List FetchText) (nests : List Statement) (claim : ℕ) (body : Statement) : Type 0 where
  pub is : body ≡ Seq (lines_to k.head (block (Alloc 0 g.subject.name places ∷ with_fetches fetches (nests ++ Publish claim ∷ []))))

-- how many lines the lets over the grid and the piece's own buffer take, with the line `group`
abbrev pub first_lines : SkeletonText → ℕ
first_lines k = step_lines k.head + 2

abbrev pub body : List Statement → Statement
body xs = Seq (block xs)
