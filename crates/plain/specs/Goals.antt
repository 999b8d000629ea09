-- Evaluations that are asked for, under way, and waiting.
use Rattle.std.specs.Prelude.{◌≡◌, ◌<◌, ◌≤◌, ℕ, ◌+◌, List, [], ◌∷◌, ◌++◌, map, length, take, sum_by, Some, slice_get, ℤ, nat_eq, true, false}
use Rattle.tree.specs.Uses.{Asked}
use Rattle.meaning.specs.Algorithm.{Algorithm}
use Rattle.meaning.specs.Functions.{IsPoint}
use Rattle.plain.specs.declared.frame.Stage.{Stage}
use Rattle.plain.specs.declared.frame.Stage.TheVariants.{Right}
use Rattle.plain.specs.declared.frame.Goal.{Goal}
use Rattle.plain.specs.declared.frame.Frame.{Frame}
use Rattle.plain.specs.declared.frame.Step.{Step}
use Rattle.plain.specs.declared.frame.Step.TheVariants.{Gives, Asks, Falls, Turns}
use Rattle.plain.specs.Sites.{Site, site_of, sites_of_all}
use Rattle.plain.specs.Works.{Work, asked_list, true_entry, entry_of, bound_name, bound_number}
use Rattle.plain.specs.Scopes.{function_at}
use Rattle.plain.specs.Stages.{level, work, outcome, open_count, IsStage, stage_weight, names_at, numbers_at, terms_at, finished_level}

-- a point of the k-th function
pub record IsPlace (a : Algorithm) (k : ℕ) (p : List ℤ) : Type 0 where
  pub below : k < length a.functions
  pub indices : IsPoint p
  pub dimensions : length p ≡ length (function_at a k).variables

-- a point of a function, and how many of its updates count
pub record IsGoal (a : Algorithm) (k d : ℕ) (p : List ℤ) : Type 0 where
  pub place : IsPlace a k p
  pub updates : d ≤ length (function_at a k).changes

-- the frame is at the start of a stage of the k-th function at p: it holds the names and the calls, and no answers
pub record Opens (a : Algorithm) (k : ℕ) (s : Stage) (p : List ℤ) (f : Frame) : Type 0 where
  pub function : f.function ≡ k
  pub stage : f.stage ≡ s
  pub at : f.at.items ≡ p
  pub names : map bound_name f.bindings.items ≡ names_at (function_at a k) s
  pub numbers : map bound_number f.bindings.items ≡ numbers_at (function_at a k) s p
  pub sites : map site_of f.calls.items ≡ sites_of_all a.input (terms_at (function_at a k) s)
  pub answers : f.answers.items ≡ []

-- how far the value counts that a stage of the k-th function asks for by a call of the j-th
abbrev pub level_asked : Algorithm → ℕ → Stage → ℕ → ℕ × ℕ
level_asked a k (Right i n) j = elim (nat_eq j k) [ true ↦ (i + 1, n) | false ↦ finished_level (function_at a j) ]
level_asked a k _ j = finished_level (function_at a j)

-- over an algorithm and its input's samples
module _ (a : Algorithm) (samples : List ℕ) where
  -- what is evaluated in a frame
  abbrev pub frame_work : Frame → Work
  frame_work f = work a samples f.function f.stage f.at.items

  abbrev pub frame_outcome : Frame → ℤ
  frame_outcome f = outcome a samples f.function f.stage f.at.items

  -- the evaluations that a frame still starts
  abbrev pub frame_count : Frame → ℕ
  frame_count f = open_count a samples f.function f.stage f.at.items (length f.answers.items)

  -- the evaluations that a frame still starts once the call is answered that it waits for
  abbrev pub frame_later : Frame → ℕ
  frame_later f = open_count a samples f.function f.stage f.at.items (length f.answers.items + 1)

  -- a frame holds the names, the calls and the true answers to the first calls of its work
  pub record IsFrame (f : Frame) : Type 0 where
    pub place : IsPlace a f.function f.at.items
    pub stage : IsStage (function_at a f.function) f.stage
    pub names : map bound_name f.bindings.items ≡ (frame_work f).names
    pub numbers : map bound_number f.bindings.items ≡ (frame_work f).numbers
    pub sites : map site_of f.calls.items ≡ sites_of_all a.input (frame_work f).terms
    pub answers : map entry_of f.answers.items ≡ map (true_entry (frame_work f)) (take (length f.answers.items) (asked_list a.input (frame_work f)))
    pub few : length f.answers.items ≤ length (asked_list a.input (frame_work f))

  -- a frame waits for the call at p, which is answered by v and takes n evaluations
  pub record WaitsFor (f : Frame) (p : List ℤ) (v : ℤ) (n : ℕ) : Type 0 where
    pub call : Asked
    pub next : slice_get (asked_list a.input (frame_work f)) (length f.answers.items) ≡ Some call
    pub at : call.at ≡ p
    pub answer : ((frame_work f).calls call.name call.at).number ≡ v
    pub cost : (frame_work f).costs call.name call.at ≡ n

  -- what follows in a frame
  abbrev pub Follows : Frame → Step → Type 0
  Follows f (Gives v) = (frame_outcome f ≡ v) × (frame_count f ≡ 0)
  Follows f (Asks g) =
      IsGoal a g.function g.updates g.at.items
      × WaitsFor f g.at.items ((level a samples g.function g.updates g.points).values g.at.items) ((level a samples g.function g.updates g.points).counts g.at.items)
  Follows f (Falls d n) =
      (d ≤ length (function_at a f.function).changes)
      × (frame_outcome f ≡ (level a samples f.function d n).values f.at.items)
      × (frame_count f ≡ (level a samples f.function d n).counts f.at.items)
  Follows f (Turns s) =
      IsStage (function_at a f.function) s
      × (frame_outcome f ≡ outcome a samples f.function s f.at.items)
      × (frame_count f ≡ open_count a samples f.function s f.at.items 0)
      × (stage_weight s < stage_weight f.stage)

  -- frames that wait, the one that was started first in front: the first comes to v at p, each waits for the next, and the last for w at q
  abbrev pub Wait : List Frame → List ℤ → ℤ → List ℤ → ℤ → Type 0
  Wait [] p v q w = (p ≡ q) × (v ≡ w)
  Wait (f ∷ rest) p v q w = IsFrame f × (f.at.items ≡ p) × (frame_outcome f ≡ v)
      × (r : List ℤ) × (u : ℤ) × (n : ℕ) × WaitsFor f r u n × Wait rest r u q w

  -- the evaluations that follow in them
  abbrev pub waiting_count : List Frame → ℕ
  waiting_count = sum_by frame_later

-- what a frame asks for by a call of the j-th function at p: its own value so far, or the finished value
pub record IsGoalOf (a : Algorithm) (f : Frame) (j : ℕ) (p : List ℤ) (g : Goal) : Type 0 where
  pub function : g.function ≡ j
  pub at : g.at.items ≡ p
  pub level : (g.updates, g.points) ≡ level_asked a f.function f.stage j

-- the frame with one more answer, to the call that it waits for
pub record Resumes (below : Frame) (p : List ℤ) (v : ℤ) (f : Frame) : Type 0 where
  pub function : f.function ≡ below.function
  pub stage : f.stage ≡ below.stage
  pub at : f.at ≡ below.at
  pub bindings : f.bindings ≡ below.bindings
  pub calls : f.calls ≡ below.calls
  pub site : Site
  pub next : slice_get (map site_of below.calls.items) (length below.answers.items) ≡ Some site
  pub answers : map entry_of f.answers.items ≡ map entry_of below.answers.items ++ record { name = site.name; at = p; number = v } ∷ []
