-- What directives make of the loops of a function, and which rule they break.
use Rattle.std.specs.Prelude.{◌≡◌, ℕ, Bool, true, false, not, ◌&&◌, ◌||◌, ◌==◌, nat_le, nat_lt, if◌then◌else◌, List, [], ◌∷◌, ◌++◌, ◌+◌, length, map, drop, find, position, slice_get, slice_set, Option, Some, None, Result, Ok, Err}
use Rattle.std.specs.List.{flat_map, list_any, list_all}
use Rattle.meaning.specs.Names.{same_name, is_among}
use Rattle.sched.specs.declared.schedule.Home.{Home}
use Rattle.sched.specs.declared.schedule.Fold.{Fold}
use Rattle.sched.specs.declared.schedule.Split.{Split}
use Rattle.sched.specs.declared.schedule.Tile.{Tile}
use Rattle.sched.specs.declared.schedule.Tail.TheVariants as tails
use Rattle.sched.specs.declared.placing.Mark.{Mark}
use Rattle.sched.specs.declared.placing.Mark.TheVariants as mark
use Rattle.sched.specs.declared.placing.Loop.{Loop}
use Rattle.sched.specs.declared.placing.Subject.{Subject}
use Rattle.sched.specs.declared.placing.Placed.{Placed}
use Rattle.sched.specs.declared.error.Rule.{Rule}
use Rattle.sched.specs.declared.error.Rule.TheVariants as rule
use Rattle.sched.specs.declared.placing.Halt.{Halt}
use Rattle.sched.specs.declared.placing.Halt.TheVariants as halt
use Rattle.sched.specs.declared.error.SchedError.{SchedError}
use Rattle.sched.specs.declared.error.SchedError.TheVariants as error
use Rattle.std.specs.declared.vec.Vec.{Vec}
use Rattle.std.specs.Global.{Global}
use Rattle.sched.specs.Schedule.{ScheduledText, Schedule, DirectiveText, compute_root, compute_at, store_at, fold, split, tile, reorder, unroll, vectorize, parallel}

-- what a schedule has to know of a function: the names of all functions, its name, its variables, the reduction variables of its updates, the dimensions for
-- which some update has no pure variable, how many updates it has, and whether it is the output, a root function, and stored
pub record SubjectText : Type 0 where
  pub functions : List (List ℕ)
  pub name : List ℕ
  pub variables : List (List ℕ)
  pub reductions : List (List ℕ)
  pub scattered : List ℕ
  pub updates : ℕ
  pub is_output : Bool
  pub is_root : Bool
  pub is_stored : Bool

-- what directives have made of a function: its loops, the innermost first, its splits in the order of the text, and the names that are used up; the loops at which
-- it is computed and stored, and what its storage is folded to, in the order of the text
pub record PlacedText : Type 0 where
  pub loops : List Loop
  pub cuts : List Split
  pub used : List (List ℕ)
  pub homes : List Home
  pub stores : List Home
  pub folds : List Fold

abbrev pub subject_of : Subject → SubjectText
subject_of s = record { functions = s.functions.items; name = s.name; variables = s.variables.items; reductions = s.reductions.items; scattered = s.scattered.items; updates = s.updates; is_output = s.is_output; is_root = s.is_root; is_stored = s.is_stored }

abbrev pub placed_of : Placed → PlacedText
placed_of p = record { loops = p.loops.items; cuts = p.cuts.items; used = p.used.items; homes = p.homes.items; stores = p.stores.items; folds = p.folds.items }

-- ---- names

abbrev pub has_loop : List Loop → List ℕ → Bool
has_loop loops x = list_any (λ l. same_name l.name x) loops

-- the name is that of a loop or of a reduction variable
abbrev pub is_known : SubjectText → List Loop → List ℕ → Bool
is_known f loops x = has_loop loops x || is_among f.reductions x

-- ---- splits

-- a reduction variable, a name that is used already, or a factor out of 1 to 1024
abbrev pub breaks_split : SubjectText → PlacedText → Split → Bool
breaks_split f p s = is_among f.reductions s.whole || is_among p.used s.outer || is_among p.used s.inner || same_name s.outer s.inner || s.factor == 0 || nat_lt 1024 s.factor

-- the inner loop takes the place of the loop, and the outer one stands directly outside it
abbrev pub cut_loop : Split → Loop → List Loop
cut_loop s l =
    if same_name l.name s.whole
    then record { name = s.inner; dimension = l.dimension; within = Some s.factor; mark = None } ∷ record { name = s.outer; dimension = l.dimension; within = None; mark = None } ∷ []
    else l ∷ []

-- a name that is used up stays used
abbrev pub cut : Split → PlacedText → PlacedText
cut s p = record p { loops = flat_map (cut_loop s) p.loops; cuts = p.cuts ++ s ∷ []; used = p.used ++ s.outer ∷ s.inner ∷ [] }

abbrev pub split_in : SubjectText → Split → PlacedText → Result PlacedText Rule
split_in f s p =
    if not (is_known f p.loops s.whole) then Err rule.UnknownName
    else (if breaks_split f p s then Err rule.BadSplit else Ok (cut s p))

-- ---- reorder

-- some name stands twice
abbrev pub has_double : List (List ℕ) → Bool
has_double [] = false
has_double (x ∷ xs) = is_among xs x || has_double xs

abbrev pub loop_named : List Loop → List ℕ → Option Loop
loop_named loops x = find (λ l. same_name l.name x) loops

abbrev pub with_next : Option Loop → List Loop → List Loop
with_next (Some l) ls = l ∷ ls
with_next None ls = ls

-- the loops of these names, in their order
abbrev pub loops_named : List Loop → List (List ℕ) → List Loop
loops_named loops [] = []
loops_named loops (x ∷ xs) = with_next (loop_named loops x) (loops_named loops xs)

abbrev pub or_next : Loop → List Loop → (List Loop → List Loop) → List Loop
or_next l [] more = l ∷ more []
or_next l (next ∷ others) more = next ∷ more others

-- the places of the loops of these names are filled by the next ones in turn
abbrev pub filled : List (List ℕ) → List Loop → List Loop → List Loop
filled names next [] = []
filled names next (l ∷ ls) = if is_among names l.name then or_next l next (λ others. filled names others ls) else l ∷ filled names next ls

abbrev pub all_known : SubjectText → List Loop → List (List ℕ) → Bool
all_known f loops names = list_all (is_known f loops) names

abbrev pub any_reduction : SubjectText → List (List ℕ) → Bool
any_reduction f names = list_any (is_among f.reductions) names

abbrev pub reorder_in : SubjectText → List (List ℕ) → PlacedText → Result PlacedText Rule
reorder_in f names p =
    if not (all_known f p.loops names) then Err rule.UnknownName
    else (if any_reduction f names || has_double names then Err rule.BadReorder
    else Ok (record p { loops = filled names (loops_named p.loops names) p.loops }))

-- ---- marks

abbrev pub is_marked : Loop → Bool
is_marked l = elim l.mark [ Some m ↦ true | None ↦ false ]

-- the inner loop of a split with factor at most 64
abbrev pub is_short : Loop → Bool
is_short l = elim l.within [ Some n ↦ nat_le n 64 | None ↦ false ]

-- some loop of this name is marked, or is not the inner loop of a split with factor at most 64
abbrev pub breaks_mark : List Loop → List ℕ → Bool
breaks_mark loops x = list_any (λ l. same_name l.name x && (is_marked l || not (is_short l))) loops

abbrev pub is_scattered : SubjectText → Loop → Bool
is_scattered f l = list_any (λ d. d == l.dimension) f.scattered

-- some loop of this name is marked, or walks a dimension for which some update has no pure variable
abbrev pub breaks_parallel : SubjectText → List Loop → List ℕ → Bool
breaks_parallel f loops x = list_any (λ l. same_name l.name x && (is_marked l || is_scattered f l)) loops

abbrev pub mark_loop : Mark → List ℕ → Loop → Loop
mark_loop m x l = if same_name l.name x then record { name = l.name; dimension = l.dimension; within = l.within; mark = Some m } else l

abbrev pub marked : Mark → List ℕ → PlacedText → PlacedText
marked m x p = record p { loops = map (mark_loop m x) p.loops }

-- unroll and vectorize
abbrev pub mark_in : SubjectText → Mark → List ℕ → PlacedText → Result PlacedText Rule
mark_in f m x p =
    if not (is_known f p.loops x) then Err rule.UnknownName
    else (if is_among f.reductions x || breaks_mark p.loops x then Err rule.BadMark else Ok (marked m x p))

abbrev pub parallel_in : SubjectText → List ℕ → PlacedText → Result PlacedText Rule
parallel_in f x p =
    if not (is_known f p.loops x) then Err rule.UnknownName
    else (if is_among f.reductions x || not f.is_root || breaks_parallel f p.loops x then Err rule.BadParallel else Ok (marked mark.Parallel x p))

-- ---- directives, one after another

abbrev pub and_next : Result PlacedText Rule → (PlacedText → Result PlacedText Rule) → Result PlacedText Rule
and_next (Ok p) f = f p
and_next (Err r) f = Err r

abbrev pub x_split : Tile → Split
x_split t = record { whole = t.x; outer = t.x_outer; inner = t.x_inner; factor = t.x_factor; tail = t.tail }

abbrev pub y_split : Tile → Split
y_split t = record { whole = t.y; outer = t.y_outer; inner = t.y_inner; factor = t.y_factor; tail = t.tail }

-- both splits, and then the inner loops inside the outer ones
abbrev pub tile_in : SubjectText → Tile → PlacedText → Result PlacedText Rule
tile_in f t p = and_next (and_next (split_in f (x_split t) p) (split_in f (y_split t))) (reorder_in f (t.x_inner ∷ t.y_inner ∷ t.x_outer ∷ t.y_outer ∷ []))

-- the loop at which a function is computed or stored is one of a function; which one is asked of the whole text
abbrev pub home_in : SubjectText → Home → PlacedText → Result PlacedText Rule
home_in f h p = if is_among f.functions h.function then Ok (record p { homes = p.homes ++ h ∷ [] }) else Err rule.UnknownName

abbrev pub store_in : SubjectText → Home → PlacedText → Result PlacedText Rule
store_in f h p = if is_among f.functions h.function then Ok (record p { stores = p.stores ++ h ∷ [] }) else Err rule.UnknownName

abbrev pub fold_in : SubjectText → Fold → PlacedText → Result PlacedText Rule
fold_in f d p = if is_among f.variables d.dimension then Ok (record p { folds = p.folds ++ d ∷ [] }) else Err rule.UnknownName

-- What one directive makes of a function. Where a function is computed and stored changes none of its loops.
abbrev pub applied : SubjectText → DirectiveText → PlacedText → Result PlacedText Rule
applied f compute_root p = Ok p
applied f (compute_at h) p = home_in f h p
applied f (store_at h) p = store_in f h p
applied f (fold d) p = fold_in f d p
applied f (split s) p = split_in f s p
applied f (tile t) p = tile_in f t p
applied f (reorder names) p = reorder_in f names p
applied f (unroll x) p = mark_in f mark.Unrolled x p
applied f (vectorize x) p = mark_in f mark.Vectorized x p
applied f (parallel x) p = parallel_in f x p

-- the variables as loops, of which the first walks this dimension
abbrev pub starting : ℕ → List (List ℕ) → List Loop
starting d [] = []
starting d (x ∷ xs) = record { name = x; dimension = d; within = None; mark = None } ∷ starting (d + 1) xs

-- before the first directive
abbrev pub start : SubjectText → PlacedText
start f = record { loops = starting 0 f.variables; cuts = []; used = f.variables ++ f.reductions; homes = []; stores = []; folds = [] }

-- in the order of the text, up to the first that breaks a rule
abbrev pub all_in : SubjectText → List DirectiveText → PlacedText → Result PlacedText Rule
all_in f [] p = Ok p
all_in f (d ∷ ds) p = and_next (applied f d p) (all_in f ds)

-- ---- what is asked of the loops behind the last directive

abbrev pub is_vectorized : Loop → Bool
is_vectorized l = elim l.mark [ Some mark.Vectorized ↦ true | _ ↦ false ]

abbrev pub is_parallel : Loop → Bool
is_parallel l = elim l.mark [ Some mark.Parallel ↦ true | _ ↦ false ]

-- some loop outside of a parallel one is not parallel
abbrev pub has_parallel_inside : List Loop → Bool
has_parallel_inside [] = false
has_parallel_inside (l ∷ ls) = is_parallel l && not (list_all is_parallel ls) || has_parallel_inside ls

-- some vectorised loop is not the innermost
abbrev pub has_vectorized_outside : List Loop → Bool
has_vectorized_outside loops = list_any is_vectorized (drop 1 loops)

abbrev pub is_shifted : Split → Bool
is_shifted s = elim s.tail [ tails.Shift ↦ true | tails.Guard ↦ false | tails.Roundup ↦ false ]

abbrev pub has_updates : SubjectText → Bool
has_updates f = nat_lt 0 f.updates

-- ---- where a function is computed and stored

-- unrolled or vectorised
abbrev pub is_flat : Loop → Bool
is_flat l = elim l.mark [ Some mark.Unrolled ↦ true | Some mark.Vectorized ↦ true | _ ↦ false ]

-- the loop has this name, and its turns are done one after another or are pieces of their own
abbrev pub is_open : List ℕ → Loop → Bool
is_open x l = same_name l.name x && not (is_flat l)

-- such a loop is among them, and none inside it is parallel
abbrev pub stands_open : List ℕ → List Loop → Bool
stands_open x [] = false
stands_open x (l ∷ ls) = is_open x l || (not (is_parallel l) && stands_open x ls)

-- a loop of this name is among them, and none inside it is parallel
abbrev pub stands_clear : List ℕ → List Loop → Bool
stands_clear x [] = false
stands_clear x (l ∷ ls) = same_name l.name x || (not (is_parallel l) && stands_clear x ls)

-- the same of the second name, outside a loop of the first
abbrev pub stands_outside : List ℕ → List ℕ → List Loop → Bool
stands_outside x y [] = false
stands_outside x y (l ∷ ls) = not (is_parallel l) && ((same_name l.name x && stands_clear y ls) || stands_outside x y ls)

-- the stored function g, which is not f, has the loop
abbrev pub is_home : SubjectText → Home → SubjectText → PlacedText → Bool
is_home f h g p = (same_name g.name h.function && g.is_stored) && (not (same_name g.name f.name) && stands_open h.turn p.loops)

-- some function has
abbrev pub has_home_in : SubjectText → Home → List SubjectText → List PlacedText → Bool
has_home_in f h [] ps = false
has_home_in f h (g ∷ gs) [] = false
has_home_in f h (g ∷ gs) (p ∷ ps) = is_home f h g p || has_home_in f h gs ps

abbrev pub breaks_home : List SubjectText → List PlacedText → SubjectText → PlacedText → Bool
breaks_home fs ps f p = (f.is_root && nat_lt 0 (length p.homes)) || (nat_lt 1 (length p.homes) || list_any (λ h. not (has_home_in f h fs ps)) p.homes)

-- the function in which f is computed has the loop w outside of that
abbrev pub is_outside : Home → Home → SubjectText → PlacedText → Bool
is_outside h w g p = same_name g.name h.function && stands_outside h.turn w.turn p.loops

-- some function has
abbrev pub has_outside : Home → Home → List SubjectText → List PlacedText → Bool
has_outside h w [] ps = false
has_outside h w (g ∷ gs) [] = false
has_outside h w (g ∷ gs) (p ∷ ps) = is_outside h w g p || has_outside h w gs ps

-- f is computed inside the loop
abbrev pub has_storage : List SubjectText → List PlacedText → PlacedText → Home → Bool
has_storage fs ps p w = list_any (λ h. same_name w.function h.function && has_outside h w fs ps) p.homes

abbrev pub breaks_storage : List SubjectText → List PlacedText → PlacedText → Bool
breaks_storage fs ps p = nat_lt 1 (length p.stores) || list_any (λ w. not (has_storage fs ps p w)) p.stores

abbrev pub breaks_fold : PlacedText → Bool
breaks_fold p = (nat_lt 0 (length p.folds) && length p.stores == 0) || list_any (λ d. d.factor == 0) p.folds

-- The rule of the lowest number that the whole breaks: L4 and L5 by its marks, L6, L7 and L9 by where it is computed and stored, L8 by a shift in spite of updates, L10 by
-- updates that are not stored.
abbrev pub end_fault : List SubjectText → List PlacedText → SubjectText → PlacedText → Option Rule
end_fault fs ps f p =
    if has_vectorized_outside p.loops then Some rule.BadMark
    else (if has_parallel_inside p.loops then Some rule.BadParallel
    else (if breaks_home fs ps f p then Some rule.BadHome
    else (if breaks_storage fs ps p then Some rule.BadStorage
    else (if has_updates f && list_any is_shifted p.cuts then Some rule.BadShift
    else (if breaks_fold p then Some rule.BadFold
    else (if has_updates f && not f.is_stored then Some rule.InlineUpdates else None))))))

-- ---- what a function that applies directives answers

-- what is told, unless memory ran out
abbrev pub Places : {X : Type 0} → Result X Halt → PlacedText → Result PlacedText Rule → Type 0
Places (Ok x) new told = told ≡ Ok new
Places (Err halt.Memory) new told = Unit {0}
Places (Err (halt.Broken r)) new told = told ≡ Err r

-- ---- a whole schedule

-- what becomes of all functions, or the rule that is broken and the name of the function
abbrev pub Outcome : Type 0
Outcome = Result (List PlacedText) (Rule × List ℕ)

-- what becomes of the function of this number
abbrev pub with_placed : List PlacedText → ℕ → List ℕ → Result PlacedText Rule → Outcome
with_placed ps i x (Ok q) = Ok (slice_set ps i q)
with_placed ps i x (Err r) = Err (r, x)

abbrev pub placed_at : List PlacedText → ℕ → ScheduledText → Option SubjectText → Option PlacedText → Outcome
placed_at ps i s (Some f) (Some p) = with_placed ps i s.function (all_in f s.directives p)
placed_at ps i s _ _ = Err (rule.UnknownName, s.function)

abbrev pub numbered : List SubjectText → ScheduledText → List PlacedText → Option ℕ → Outcome
numbered fs s ps None = Err (rule.UnknownName, s.function)
numbered fs s ps (Some i) = placed_at ps i s (slice_get fs i) (slice_get ps i)

-- the directives are those of the function of this name
abbrev pub scheduled_in : List SubjectText → ScheduledText → List PlacedText → Outcome
scheduled_in fs s ps = numbered fs s ps (position (λ f. same_name f.name s.function) fs)

abbrev pub and_then : Outcome → (List PlacedText → Outcome) → Outcome
and_then (Ok ps) f = f ps
and_then (Err e) f = Err e

-- in the order of the text, up to the first directive that breaks a rule
abbrev pub schedule_in : List SubjectText → Schedule → List PlacedText → Outcome
schedule_in fs [] ps = Ok ps
schedule_in fs (s ∷ ss) ps = and_then (scheduled_in fs s ps) (schedule_in fs ss)

abbrev pub or_later : Option Rule → List ℕ → Option (Rule × List ℕ) → Option (Rule × List ℕ)
or_later (Some r) x later = Some (r, x)
or_later None x later = later

-- the first function of these, which are some of all, of which the whole breaks a rule
abbrev pub fault_among : List SubjectText → List PlacedText → List SubjectText → List PlacedText → Option (Rule × List ℕ)
fault_among gs qs [] ps = None
fault_among gs qs (f ∷ fs) [] = None
fault_among gs qs (f ∷ fs) (p ∷ ps) = or_later (end_fault gs qs f p) f.name (fault_among gs qs fs ps)

-- the first function, in the order of declaration, of which the whole breaks a rule
abbrev pub first_fault : List SubjectText → List PlacedText → Option (Rule × List ℕ)
first_fault fs ps = fault_among fs ps fs ps

abbrev pub unless_fault : Option (Rule × List ℕ) → List PlacedText → Outcome
unless_fault None ps = Ok ps
unless_fault (Some e) ps = Err e

-- what the directives of a schedule make of these functions
abbrev pub following : List SubjectText → Schedule → Outcome
following fs schedule = schedule_in fs schedule (map start fs)

-- the same where the whole breaks no rule either
abbrev pub placing : List SubjectText → Schedule → Outcome
placing fs schedule = and_then (following fs schedule) (λ ps. unless_fault (first_fault fs ps) ps)

-- the text has a compute_root of this function
abbrev pub is_root_directive : DirectiveText → Bool
is_root_directive compute_root = true
is_root_directive d = false

abbrev pub has_root : Schedule → List ℕ → Bool
has_root schedule x = list_any (λ s. same_name s.function x && list_any is_root_directive s.directives) schedule

-- what is told of all functions, unless memory ran out
abbrev pub Arranges : {X : Type 0} → Result X SchedError → List PlacedText → Outcome → Type 0
Arranges (Ok x) new told = told ≡ Ok new
Arranges (Err error.Memory) new told = Unit {0}
Arranges (Err (error.Broken r x)) new told = told ≡ Err (r, x)
Arranges (Err (error.BadToken span)) new told = ⊥
Arranges (Err (error.BadForm span)) new told = ⊥
Arranges (Err (error.TooLarge span)) new told = ⊥
Arranges (Err error.UnfitNames) new told = ⊥

-- the same where all functions are the value
abbrev pub Arranged : Result (Vec Placed Global) SchedError → Outcome → Type 0
Arranged (Ok v) told = told ≡ Ok (map placed_of v.items)
Arranged (Err e) told = Arranges {X = ℕ} (Err e) [] told
