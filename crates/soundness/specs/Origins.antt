-- What each place holds, told by the function, the updates done and the point that its value is of, and not by the value.
use Rattle.std.specs.Prelude.{◌≡◌, ℕ, ◌+◌, ◌==◌, ◌&&◌, Bool, true, false, if◌then◌else◌, List, [], ◌∷◌, ◌++◌, map, Option, Some, None, ℤ, IsSome, IsTrue}
use Rattle.std.specs.List.{list_any}
use Rattle.std.specs.Ordering.{int_eq}
use Rattle.tree.specs.declared.value.Value.{Value}
use Rattle.tree.specs.Meaning.{value_of}
use Rattle.meaning.specs.Names.{same_name, bound}
use Rattle.plan.specs.declared.certificate.cert.Window.{Window}
use Rattle.plan.specs.Certificate.Certificate.{Claim}
use Rattle.plan.specs.Semantics.Actions.{Setting, Action, Allot, Take, Put, Change, Give, Target, Fixed, Open, fixed}
use Rattle.plan.specs.Semantics.Memory.{Memory, read, write, allot, place_in}
use Rattle.plan.specs.Semantics.Found.{EachRead}
use Rattle.plan.specs.Semantics.Run.{Source, Input, ByClaim, Unknown}

-- a place holds the value of this function at this point after so many steps of its updates, counted through all of them
pub record Origin : Type 0 where
  pub function : List ℕ
  pub done : ℕ
  pub point : List ℤ

-- what the plan and the certificate give
pub record Outline : Type 0 where
  -- what a group's lines refer to, and what a name in a stored expression means
  pub setting : Setting
  pub source : List ℕ → Source
  -- the claims by number, the claims of the statement that ends at a line, and the windows
  pub claim : ℕ → Claim
  pub named : ℕ → List ℕ
  pub windows : List Window

-- whether a window names the loop and the claim
abbrev pub windowed : Outline → ℕ → ℕ → Bool
windowed outline i c = list_any (λ w. (w.symbol == i) && (w.claim == c)) outline.windows

-- what the plan, the certificate and the algorithm give
pub record Given : Type 0 where
  pub outline : Outline
  -- the input's extents, and what calls of the input and of all functions answer
  pub in_input : List ℤ → Bool
  pub calls : List ℕ → List ℤ → Value
  -- the steps of a function's updates up to a definition, counted from 0, and up to its last definition
  pub steps : List ℕ → ℕ → ℕ
  pub all_steps : List ℕ → ℕ
  -- the points of a definition's reduction domain, and the steps before such a point
  pub in_domain : List ℕ → ℕ → List ℤ → Bool
  pub step_at : List ℕ → ℕ → List ℤ → ℕ
  -- the value of a function at a point after so many steps
  pub value_at : Origin → Value

-- the point has the known coordinates
abbrev pub matches : List Target → List ℤ → Bool
matches [] [] = true
matches [] (z ∷ zs) = false
matches (t ∷ ts) [] = false
matches (Fixed y ∷ ts) (z ∷ zs) = int_eq y z && matches ts zs
matches (Open e ∷ ts) (z ∷ zs) = matches ts zs

abbrev pub or_same : {A : Type 0} → Option A → A → A
or_same None a = a
or_same (Some b) a = b

abbrev pub origin : List ℕ → ℕ → List ℤ → Origin
origin f d p = record { function = f; done = d; point = p }

-- what a place holds after a step of an update: each point with the known coordinates that was before the step is after it
abbrev pub stepped : List ℕ → ℕ → List Target → Option Origin → Option Origin
stepped f n at None = None
stepped f n at (Some o) = Some (if same_name o.function f && (o.done == n) && matches at o.point then origin f (n + 1) o.point else o)

-- whose values the reads are: of the step before, for a function's calls of itself in its update
pub data Reader : Type 0 where
  Plain : Reader
  Within : (function : List ℕ) (done : ℕ) → Reader

module _ (given : Given) where
  -- what is known after an action
  abbrev pub learn : Action → Memory Origin → Memory Origin
  learn (Allot b rooms) t = allot t b rooms
  learn (Take b f p) t = or_same (write t b p (origin f (given.all_steps f) p)) t
  learn (Put b f names p e) t = or_same (write t b p (origin f 0 p)) t
  learn (Change b f k names at over e) t = record {
    rooms = t.rooms;
    held = λ c q. if c == b then stepped f (given.step_at f k over) at (t.held c q) else t.held c q;
  }
  learn (Give c p) t = t

  abbrev pub learn_all : List Action → Memory Origin → Memory Origin
  learn_all [] t = t
  learn_all (a ∷ later) t = learn_all later (learn a t)

  -- the steps done of what is read by a claim: all, but for an update's calls of its own function
  abbrev pub done_for : Reader → ℕ → ℕ
  done_for Plain c = given.all_steps (given.outline.claim c).function
  done_for (Within f n) c = if same_name (given.outline.claim c).function f then n else given.all_steps (given.outline.claim c).function

  abbrev pub origin_for : Reader → ℕ → List ℤ → Origin
  origin_for r c p = origin (given.outline.claim c).function (done_for r c) p

  -- what a call by name answers, where a function's calls of itself in its update find the step before
  abbrev pub called : Reader → List ℕ → List ℤ → Value
  called Plain name p = given.calls name p
  called (Within f n) name p = elim (same_name f name) [ true ↦ given.value_at (origin f n p) | false ↦ given.calls name p ]

  -- the answer that a read has to find
  abbrev pub source_answer : Reader → Source → List ℕ → List ℤ → Value
  source_answer r Input name p = given.calls name p
  source_answer r (ByClaim c) name p = given.value_at (origin_for r c p)
  source_answer r Unknown name p = called r name p

  abbrev pub answer : Reader → List ℕ → List ℤ → Value
  answer r name p = source_answer r (given.outline.source name) name p

  -- the input is read within its extents, and a claim's buffer is known to hold what is read
  abbrev pub SourceMayRead : Memory Origin → Reader → Source → List ℤ → Type 0
  SourceMayRead t r Input p = IsTrue (given.in_input p)
  SourceMayRead t r (ByClaim c) p = read t (given.outline.claim c).buffer p ≡ Some (origin_for r c p)
  SourceMayRead t r Unknown p = ⊥

  abbrev pub MayRead : Memory Origin → Reader → List ℕ → List ℤ → Type 0
  MayRead t r name p = SourceMayRead t r (given.outline.source name) p

  -- the point of an update's left side
  abbrev pub target_point : (List ℕ → ℤ) → List Target → Reader → List ℤ
  target_point variables [] r = []
  target_point variables (Fixed z ∷ ts) r = z ∷ target_point variables ts r
  target_point variables (Open e ∷ ts) r = (value_of variables (answer r) e).number ∷ target_point variables ts r

  -- the fact holds of every read of a left side
  abbrev pub EachTargetRead : (List ℕ → ℤ) → List Target → Reader → (List ℕ → List ℤ → Type 0) → Type 0
  EachTargetRead variables [] r P = Unit {0}
  EachTargetRead variables (Fixed z ∷ ts) r P = EachTargetRead variables ts r P
  EachTargetRead variables (Open e ∷ ts) r P = EachRead variables (answer r) P e × EachTargetRead variables ts r P

  -- the variables of a left side, whose coordinates are not known yet, and those of a right side
  abbrev pub left_variables : List (List ℕ) → List Target → List ℤ → List ℕ → ℤ
  left_variables names at over = bound names (map fixed at ++ over)

  abbrev pub left_point : List (List ℕ) → List Target → List ℤ → Reader → List ℤ
  left_point names at over r = target_point (left_variables names at over) at r

  abbrev pub right_variables : List (List ℕ) → List Target → List ℤ → Reader → List ℕ → ℤ
  right_variables names at over r = bound names (left_point names at over r ++ over)

  -- the action reads only what is known, and writes inside its buffer; a step of an update is one of its domain and comes
  -- where its turn is
  abbrev pub IsFine : Action → Memory Origin → Type 0
  IsFine (Allot b rooms) t = Unit {0}
  IsFine (Take b f p) t = IsSome (place_in (t.rooms b) p)
  IsFine (Put b f names p e) t = IsSome (place_in (t.rooms b) p) × EachRead (bound names p) (answer Plain) (MayRead t Plain) e
  IsFine (Change b f k names at over e) t =
      let n = given.step_at f k over in
      let r = Within f n in
      IsTrue (given.in_domain f k over)
      × (read t b (left_point names at over r) ≡ Some (origin f n (left_point names at over r)))
      × EachTargetRead (left_variables names at over) at r (MayRead t r)
      × EachRead (right_variables names at over r) (answer r) (MayRead t r) e
  IsFine (Give c p) t = SourceMayRead t Plain (ByClaim c) p

  abbrev pub AreFine : List Action → Memory Origin → Type 0
  AreFine [] t = Unit {0}
  AreFine (a ∷ later) t = IsFine a t × AreFine later (learn a t)
