-- Where a function that is computed at a loop is used: inside that loop, or outside of it.
use Rattle.std.specs.Prelude.{◌≡◌, ◌≢◌, ◌⊎◌, ℕ, zero, suc, ◌<◌, Bool, false, not, ◌&&◌, ◌||◌, if◌then◌else◌, List, [], ◌∷◌, ◌++◌, length, find, slice_get, Any, Option, Some, None}
use Rattle.std.specs.Option.{IsSomeAnd}
use Rattle.std.specs.List.{list_any}
use Rattle.meaning.specs.Names.{same_name}
use Rattle.sched.specs.declared.schedule.Home.{Home}
use Rattle.sched.specs.declared.placing.Loop.{Loop}
use Rattle.sched.specs.Stored.{FormulaText, StoredText, calls_in, are_calls_of, left_at}
use Rattle.regions.specs.Stored.{some_calls}
use Rattle.sched.specs.Regions.{counts}

-- ---- loops

-- the first of these, which are in the order of the text
abbrev pub first_home : List Home → Option Home
first_home [] = None
first_home (h ∷ hs) = Some h

-- the loop at which a function is computed; a root function is computed at none
abbrev pub home_of : StoredText → Option Home
home_of g = if g.subject.is_root then None else first_home g.placed.homes

-- the first stored function of this name
abbrev pub stored_named : List StoredText → List ℕ → Option StoredText
stored_named gs x = find (λ g. same_name g.subject.name x) gs

-- a definition has the loop of this name: it leaves the index of the loop's dimension the variable alone
abbrev pub HasLoop : List Loop → FormulaText → List ℕ → Type 0
HasLoop ls f v = Any (λ l. (l.name ≡ v) × (left_at f l.dimension ≡ None)) ls

-- of these loops, the innermost first, x is v or stands inside v: there is x, and v does not stand inside x
abbrev pub IsWithin : List ℕ → List ℕ → List Loop → Type 0
IsWithin x v ls = (i : ℕ) × (l : Loop) × (slice_get ls i ≡ Some l) × (l.name ≡ x) × ((j : ℕ) (m : Loop) → j < i → slice_get ls j ≡ Some m → m.name ≢ v)

-- a value that passes
abbrev pub passes : {X : Type 0} → (X → Bool) → Option X → Bool
passes test (Some x) = test x
passes test None = false

-- a function that is computed in loops, of which a definition calls one of these
abbrev pub is_user : List (List ℕ) → StoredText → Bool
is_user xs g = not g.subject.is_root && passes (λ fs. list_any (λ y. some_calls y fs) xs) g.formulas

abbrev pub with_user : List (List ℕ) → StoredText → List (List ℕ)
with_user xs g = if is_user xs g then xs ++ g.subject.name ∷ [] else xs

-- these, and the functions that lead to one of them: those of the others, in the order of declaration, that are computed in loops and call one that does
abbrev pub leading : List StoredText → List (List ℕ) → List (List ℕ)
leading [] xs = xs
leading (g ∷ gs) xs = leading gs (with_user xs g)

-- the definition calls the function of this name
abbrev pub Uses : FormulaText → List ℕ → Type 0
Uses f x = Any (λ c. c.name ≡ x) (calls_in f)

-- x is computed in the nest of this definition of the function o, which uses it, itself or through other functions that are computed there, and the nest lacks the loop v
abbrev pub MissesLoop : List StoredText → List ℕ → List ℕ → List ℕ → List Loop → FormulaText → Type 0
MissesLoop gs o x v ls f = (¬ HasLoop ls f v) × Any (λ y. (y ≢ o) × Uses f y) (leading gs (x ∷ []))

-- What is computed at the loop of h, which is the function x, is computed at the loop of v or inside of it, by at most so many homes: both are loops of one
-- function, of which that of h is that of v or stands inside of it, in each definition in whose nest x is computed; or the function that has the loop of h is
-- computed at a loop of which the same is so by one home less.
abbrev pub LeadsInside : List StoredText → ℕ → List ℕ → Home → Home → Type 0
LeadsInside gs zero x h v = ⊥
LeadsInside gs (suc n) x h v =
    IsSomeAnd (stored_named gs h.function) (λ g.
    ((h.function ≡ v.function) × (IsWithin h.turn v.turn g.placed.loops × ¬ IsSomeAnd g.formulas (λ fs. Any (MissesLoop gs g.subject.name x v.turn g.placed.loops) fs)))
    ⊎ ((h.function ≢ v.function) × IsSomeAnd (home_of g) (λ k. LeadsInside gs n g.subject.name k v)))

-- ---- uses

-- A definition of u stands inside the loop of v: u has the loop, and so has this definition of it; or u is, by at most as many homes as there are
-- stored functions, computed at that loop or inside of it.
abbrev pub StandsInside : List StoredText → Home → StoredText → FormulaText → Type 0
StandsInside gs v u f =
    ((u.subject.name ≡ v.function) × HasLoop u.placed.loops f v.turn)
    ⊎ ((u.subject.name ≢ v.function) × IsSomeAnd (home_of u) (λ h. LeadsInside gs (length gs) u.subject.name h v))

-- u is another function than x, and has a definition, with the calls of functions that are not stored put in, that uses x and does not stand inside the
-- loop of v; where one of its definitions passes the limits, none is known
abbrev pub UsesOutside : List StoredText → List ℕ → Home → StoredText → Type 0
UsesOutside gs x v u = (u.subject.name ≢ x) × IsSomeAnd u.formulas (λ fs. Any (λ f. Uses f x × ¬ StandsInside gs v u f) fs)

-- L6 of a use: g is computed at a loop, and some stored function uses it outside of that loop, or in a definition that lacks it
abbrev pub IsUsedOutside : List StoredText → StoredText → Type 0
IsUsedOutside gs g = IsSomeAnd (first_home g.placed.homes) (λ v. Any (UsesOutside gs g.subject.name v) gs)

-- ---- the same as tests

abbrev pub is_loop_of : FormulaText → List ℕ → Loop → Bool
is_loop_of f v l = same_name l.name v && not (counts (Some f) l.dimension)

abbrev pub has_loop_of : List Loop → FormulaText → List ℕ → Bool
has_loop_of ls f v = list_any (is_loop_of f v) ls

abbrev pub is_within : List ℕ → List ℕ → List Loop → Bool
is_within x v [] = false
is_within x v (l ∷ ls) = same_name l.name x || (not (same_name l.name v) && is_within x v ls)

abbrev pub misses_loop : List StoredText → List ℕ → List ℕ → List ℕ → List Loop → FormulaText → Bool
misses_loop gs o x v ls f = not (has_loop_of ls f v) && list_any (λ y. not (same_name y o) && are_calls_of y (calls_in f)) (leading gs (x ∷ []))

-- in the nest of some definition
abbrev pub some_misses : List StoredText → List ℕ → List ℕ → StoredText → Bool
some_misses gs x v g = passes (list_any (misses_loop gs g.subject.name x v g.placed.loops)) g.formulas

-- by one home for each of these functions
abbrev pub leads_inside : List StoredText → List StoredText → List ℕ → Home → Home → Bool
leads_inside gs [] x h v = false
leads_inside gs (b ∷ bs) x h v =
    passes (λ g. if same_name h.function v.function then is_within h.turn v.turn g.placed.loops && not (some_misses gs x v.turn g)
    else passes (λ k. leads_inside gs bs g.subject.name k v) (home_of g))
    (stored_named gs h.function)

abbrev pub stands_inside : List StoredText → Home → StoredText → FormulaText → Bool
stands_inside gs v u f =
    if same_name u.subject.name v.function then has_loop_of u.placed.loops f v.turn else passes (λ h. leads_inside gs gs u.subject.name h v) (home_of u)

abbrev pub is_outside : List StoredText → List ℕ → Home → StoredText → FormulaText → Bool
is_outside gs x v u f = are_calls_of x (calls_in f) && not (stands_inside gs v u f)

abbrev pub uses_outside : List StoredText → List ℕ → Home → StoredText → Bool
uses_outside gs x v u = not (same_name u.subject.name x) && passes (list_any (is_outside gs x v u)) u.formulas

abbrev pub is_used_outside : List StoredText → StoredText → Bool
is_used_outside gs g = passes (λ v. list_any (uses_outside gs g.subject.name v) gs) (first_home g.placed.homes)
