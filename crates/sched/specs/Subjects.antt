-- What an algorithm says of its functions, as far as a schedule has to know it.
use Rattle.std.specs.Prelude.{◌≡◌, ℕ, ◌+◌, Bool, true, false, not, ◌&&◌, ◌||◌, nat_le, nat_lt, if◌then◌else◌, List, [], ◌∷◌, length, map, Option, Some, None, Result, Ok, Err, slice_get}
use Rattle.std.specs.List.{flat_map, list_any, list_all}
use Rattle.tree.specs.Term.{Term}
use Rattle.meaning.specs.Algorithm.{Range, Change, Function, Algorithm}
use Rattle.meaning.specs.Names.{same_name}
use Rattle.meaning.specs.Conditions.{is_variable}
use Rattle.sched.specs.Schedule.{DirectiveText, compute_at, Schedule}
use Rattle.sched.specs.declared.error.SchedError.{SchedError}
use Rattle.sched.specs.declared.subject.Placement.{Placement}
use Rattle.sched.specs.Placing.{SubjectText, Outcome, Arranges, subject_of, placed_of, following, first_fault, has_root}

-- ---- updates

abbrev pub range_names : List Range → List (List ℕ)
range_names ds = map (λ d. d.variable) ds

-- the reduction variables of its updates, update by update
abbrev pub reductions_of : List Change → List (List ℕ)
reductions_of us = flat_map (λ u. range_names u.ranges) us

abbrev pub is_pure : List ℕ → Option Term → Bool
is_pure x (Some e) = is_variable x e
is_pure x None = false

-- the update's left index for this dimension is not the variable alone
abbrev pub lacks : List ℕ → ℕ → Change → Bool
lacks x d u = not (is_pure x (slice_get u.at d))

-- the dimensions for which some update has no pure variable; the first variable is that of this dimension
abbrev pub scattered_from : List Change → ℕ → List (List ℕ) → List ℕ
scattered_from us d [] = []
scattered_from us d (x ∷ xs) = if list_any (lacks x d) us then d ∷ scattered_from us (d + 1) xs else scattered_from us (d + 1) xs

-- ---- functions

abbrev pub is_output : Algorithm → List ℕ → Bool
is_output a x = same_name a.output x

-- it is computed wholly before its consumers: the output, and whatever the text says so of
abbrev pub is_root : Algorithm → Schedule → List ℕ → Bool
is_root a s x = is_output a x || has_root s x

abbrev pub is_home_directive : DirectiveText → Bool
is_home_directive (compute_at h) = true
is_home_directive d = false

-- the text has a compute_at of this function
abbrev pub has_home : Schedule → List ℕ → Bool
has_home schedule x = list_any (λ s. same_name s.function x && list_any is_home_directive s.directives) schedule

-- what a schedule has to know of the function
abbrev pub subject_said : Algorithm → Schedule → Function → SubjectText
subject_said a s f = record {
  functions = map (λ g. g.name) a.functions;
  name = f.name;
  variables = f.variables;
  reductions = reductions_of f.changes;
  scattered = scattered_from f.changes 0 f.variables;
  updates = length f.changes;
  is_output = is_output a f.name;
  is_root = is_root a s f.name;
  is_stored = is_root a s f.name || has_home s f.name;
}

-- what a schedule's directives make of an algorithm's functions, or the rule of L1 to L5 that one of them breaks, and of which function
abbrev pub places : Algorithm → Schedule → Outcome
places a s = following (map (subject_said a s) a.functions) s

-- what is told of all functions, unless memory ran out: what the directives make of them, and the first that breaks a rule behind these
abbrev pub Follows : Algorithm → Schedule → Result Placement SchedError → Type 0
Follows a s (Ok p) = (places a s ≡ Ok (map placed_of p.functions.items)) × (p.fault ≡ first_fault (map (subject_said a s) a.functions) (map placed_of p.functions.items)) × (map subject_of p.subjects.items ≡ map (subject_said a s) a.functions)
Follows a s (Err e) = Arranges {X = ℕ} (Err e) [] (places a s)

-- ---- names

-- at most 16 bytes of ASCII
abbrev pub is_name : List ℕ → Bool
is_name text = nat_le (length text) 16 && list_all (λ b. nat_lt b 128) text

abbrev pub has_range_names : Change → Bool
has_range_names u = list_all is_name (range_names u.ranges)

abbrev pub has_own_names : Function → Bool
has_own_names f = is_name f.name && list_all is_name f.variables && list_all has_range_names f.changes

-- the functions, their variables and their reduction variables have names that a schedule's text could give
abbrev pub has_names : Algorithm → Bool
has_names a = list_all has_own_names a.functions
