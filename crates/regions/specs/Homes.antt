-- Where functions that are computed inside a group's loops are computed and stored: at which places of which nests.
use Rattle.std.specs.Prelude.{ℕ, zero, suc, ◌+◌, Bool, true, false, not, ◌&&◌, if◌then◌else◌, List, [], ◌∷◌, ◌++◌, map, Option, Some, None, slice_get}
use Rattle.std.specs.List.{list_any}
use Rattle.meaning.specs.Names.{same_name}
use Rattle.sched.specs.declared.placing.Loop.{Loop}
use Rattle.sched.specs.declared.schedule.Home.{Home}
use Rattle.sched.specs.declared.skeleton.Step.{Step}
use Rattle.sched.specs.declared.skeleton.Step.TheVariants.{Turns}
use Rattle.sched.specs.Placing.{is_parallel, is_vectorized}
use Rattle.sched.specs.Skeleton.{NestText, nest_seen}
use Rattle.sched.specs.Standing.{◌>>=◌}
use Rattle.sched.specs.declared.hosts.Host.{Host}
use Rattle.sched.specs.declared.hosts.Host.TheVariants.{Own, Inner as Inside, Later as Anew}
use Rattle.sched.specs.declared.hosts.Spot.{Spot}
use Rattle.regions.specs.declared.spots.Hosted.{Hosted}
use Rattle.sched.specs.Stored.{FormulaText, StoredText, formula_of, stored_of}
use Rattle.sched.specs.Regions.{counts}
use Rattle.sched.specs.Fetches.{Entry}
use Rattle.regions.specs.Uses.{first_home}
use Rattle.sched.specs.Placed.{PlacedText, spot, over_grid_of}

-- ---- whose nests

-- a function with its definitions, and nests of it that stand in a group
pub record HostText : Type 0 where
  pub function : StoredText
  pub formulas : List FormulaText
  pub nests : List NestText

abbrev pub with_nests : PlacedText → List NestText → HostText
with_nests i ns = record { function = i.function; formulas = i.formulas; nests = ns }

abbrev pub inner_host : List PlacedText → ℕ → Option HostText
inner_host is n = slice_get is n >>= λ i. Some (with_nests i i.nests)

abbrev pub later_host : List PlacedText → ℕ → Option HostText
later_host is n = slice_get is n >>= λ i. i.later >>= λ l. Some (with_nests i l.nests)

-- the group's own function, one that is computed inside, or that one over what is new
abbrev pub host_at : Entry → List PlacedText → Host → Option HostText
host_at e is Own = Some (record { function = e.0; formulas = e.2; nests = e.1.skeleton.nests })
host_at e is (Inside n) = inner_host is n
host_at e is (Anew n) = later_host is n

-- the hosts of one that is computed inside, by its number
abbrev pub inner_hosts : ℕ → PlacedText → List Host
inner_hosts n i = Inside n ∷ elim i.later [ None ↦ [] | Some l ↦ Anew n ∷ [] ]

-- those of this name, from this number on
abbrev pub hosts_from : ℕ → List ℕ → List PlacedText → List Host
hosts_from n x [] = []
hosts_from n x (i ∷ is) = if same_name i.function.subject.name x then inner_hosts n i ++ hosts_from (n + 1) x is else hosts_from (n + 1) x is

abbrev pub hosts_named : Entry → List PlacedText → List ℕ → List Host
hosts_named e is x = if same_name e.0.subject.name x then Own ∷ hosts_from 0 x is else hosts_from 0 x is

-- ---- the place of a loop

-- the loop stands in the nest of the definition, as one that is neither of the grid nor vectorised
abbrev pub is_turned : FormulaText → Loop → Bool
is_turned f l = not (is_parallel l) && (not (is_vectorized l) && not (counts (Some f) l.dimension))

abbrev pub turned_count : FormulaText → List Loop → ℕ
turned_count f [] = 0
turned_count f (l ∷ ls) = if is_turned f l then turned_count f ls + 1 else turned_count f ls

-- of these loops, the innermost first, how many of the nest stand outside the one of this name; None where it is not one of them
abbrev pub turn_number : FormulaText → List ℕ → List Loop → Option ℕ
turn_number f x [] = None
turn_number f x (l ∷ ls) = if is_turned f l && same_name l.name x then Some (turned_count f ls) else turn_number f x ls

abbrev pub is_turns : Step → Bool
is_turns (Turns i x kind) = true
is_turns _ = false

-- how many steps stand around what stands inside so many loops, behind the lets and guards of the last
abbrev pub depth_inside : ℕ → List Step → ℕ
depth_inside k [] = 0
depth_inside k (s ∷ steps) = if is_turns s then (elim k [ zero ↦ 0 | suc j ↦ depth_inside j steps + 1 ]) else depth_inside k steps + 1

abbrev pub is_over_grid : List Loop → List ℕ → Bool
is_over_grid ls x = list_any (λ l. is_parallel l && same_name l.name x) ls

-- inside the loop of this name in the nest of the definition of this number
abbrev pub spot_inside : Host → HostText → ℕ → List ℕ → Option Spot
spot_inside h t d x =
    slice_get t.formulas d >>= λ f. slice_get t.nests d >>= λ n. turn_number f x t.function.placed.loops >>= λ k. Some (spot h d (depth_inside (k + 1) n.steps))

-- before all nests where the loop is of the grid; None where there is no such loop
abbrev pub spot_in : Host → HostText → ℕ → List ℕ → Option Spot
spot_in h t d x = if is_over_grid t.function.placed.loops x then Some (over_grid_of h) else spot_inside h t d x

-- ---- where buffers stand

abbrev pub or_home : Spot → Option Spot → Spot
or_home home None = home
or_home home (Some s) = s

abbrev pub stored_by : HostText → Option Home → Option ℕ → Spot → Spot
stored_by t (Some s) (Some d) home = or_home home (spot_in home.host t d s.turn)
stored_by t (Some s) None home = home
stored_by t None d home = home

-- at the loop of the first of these, in the nest in which the function is computed; or else where it is computed
abbrev pub store_spot : HostText → List Home → Spot → Spot
store_spot t stores home = stored_by t (first_home stores) home.definition home

abbrev pub host_seen : Hosted → HostText
host_seen h = record { function = stored_of h.root.stored.now; formulas = map formula_of h.root.formulas.now; nests = map nest_seen h.nests.now }
