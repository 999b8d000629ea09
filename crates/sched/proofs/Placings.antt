-- Loops over the loops of a function, turn by turn.
use Rattle.std.proofs.Common.{◌≡◌, ℕ, zero, suc, ◌+◌, ◌<◌, ◌≤◌, Bool, true, false, ◌&&◌, ◌||◌, List, [], ◌∷◌, length, map, drop, drop-cons, add-one, get_or, Some, None, Result, Ok, Err, refl, sym, ap, ◌∙◌, arith}
use Rattle.std.specs.Prelude.{slice_get, slice_set, position}
use Rattle.std.specs.List.{list_any, position_or_len}
use Rattle.meaning.specs.Names.{is_among, same_name}
use Rattle.sched.specs.declared.schedule.Directive.{Directive}
use Rattle.sched.specs.declared.error.Rule.{Rule}
use Rattle.sched.specs.declared.placing.Loop.{Loop}
use Rattle.sched.specs.declared.placing.Subject.{Subject}
use Rattle.sched.specs.declared.placing.Placed.{Placed}
use Rattle.sched.specs.declared.schedule.Scheduled.{Scheduled}
use Rattle.sched.specs.Schedule.{ScheduledText}
use Rattle.sched.specs.View.{directive_of, scheduled_of}
use Rattle.sched.specs.Subjects.{is_home_directive, has_home}
use Rattle.sched.specs.Placing.{SubjectText, PlacedText, Outcome, subject_of, placed_of, with_placed, is_root_directive, has_root, and_then, scheduled_in, schedule_in, loop_named, loops_named, filled, and_next, applied, all_in}

-- the loop of the next name comes next
pub named_next : (loops : List Loop) (names : List (List ℕ)) (i : ℕ) (d : List ℕ) (l : Loop) → i < length names → loop_named loops (get_or names i d) ≡ Some l → loops_named loops (drop i names) ≡ l ∷ loops_named loops (drop (i + 1) names)
named_next loops names i d l lt h = rw (drop-cons names i d lt, add-one, h) refl

pub named_none : (loops : List Loop) (names : List (List ℕ)) (i : ℕ) (d : List ℕ) → i < length names → loop_named loops (get_or names i d) ≡ None → loops_named loops (drop i names) ≡ loops_named loops (drop (i + 1) names)
named_none loops names i d lt h = rw (drop-cons names i d lt, add-one, h) refl

-- the next loop of the queue takes the place
pub filled_takes : (names : List (List ℕ)) (next others ls : List Loop) (i : ℕ) (d n : Loop) → i < length ls → next ≡ n ∷ others → is_among names (get_or ls i d).name ≡ true → filled names next (drop i ls) ≡ n ∷ filled names others (drop (i + 1) ls)
filled_takes names next others ls i d n lt is h = rw (is, drop-cons ls i d lt, add-one, h) refl

-- or the loop stays
pub filled_keeps : (names : List (List ℕ)) (next ls : List Loop) (i : ℕ) (d : Loop) → i < length ls → is_among names (get_or ls i d).name ≡ false → filled names next (drop i ls) ≡ get_or ls i d ∷ filled names next (drop (i + 1) ls)
filled_keeps names next ls i d lt h = rw (drop-cons ls i d lt, add-one, h) refl

stays : (names : List (List ℕ)) (l : Loop) (ls : List Loop) (b : Bool) → is_among names l.name ≡ b → filled names [] (l ∷ ls) ≡ l ∷ filled names [] ls
stays names l ls true h = rw h refl
stays names l ls false h = rw h refl

pub filled_ends : (names : List (List ℕ)) (next ls : List Loop) (i : ℕ) (d : Loop) → i < length ls → next ≡ [] → filled names next (drop i ls) ≡ get_or ls i d ∷ filled names next (drop (i + 1) ls)
filled_ends names next ls i d lt is = rw (is, drop-cons ls i d lt, add-one) (stays names (get_or ls i d) (drop (suc i) ls) (is_among names (get_or ls i d).name) refl)

-- the next directive is applied
pub all_next : (f : SubjectText) (ds : List Directive) (i : ℕ) (d : Directive) (p : PlacedText) → i < length ds → all_in f (map directive_of (drop i ds)) p ≡ and_next (applied f (directive_of (get_or ds i d)) p) (all_in f (map directive_of (drop (i + 1) ds)))
all_next f ds i d p lt = rw (drop-cons ds i d lt, add-one) refl

-- the directives of the next function are applied
pub schedule_next : (fs : List SubjectText) (ss : List Scheduled) (i : ℕ) (d : Scheduled) (ps : List PlacedText) → i < length ss → schedule_in fs (map scheduled_of (drop i ss)) ps ≡ and_then (scheduled_in fs (scheduled_of (get_or ss i d)) ps) (schedule_in fs (map scheduled_of (drop (i + 1) ss)))
schedule_next fs ss i d ps lt = rw (drop-cons ss i d lt, add-one) refl

-- ---- what was made of the functions so far, by number

get_placed : (xs : List Placed) (i : ℕ) (p : Placed) → i < length xs → p ≡ get_or xs i p → slice_get (map placed_of xs) i ≡ Some (placed_of p)
get_placed [] i p lt is = absurd (omega (arith, lt))
get_placed (x ∷ xs) zero p lt is = ap (λ (y : Placed). Some (placed_of y)) (sym is)
get_placed (x ∷ xs) (suc i) p lt is = get_placed xs i p (omega (arith, lt)) is

get_subject : (fs : List Subject) (i : ℕ) (f : Subject) → i < length fs → f ≡ get_or fs i f → slice_get (map subject_of fs) i ≡ Some (subject_of f)
get_subject [] i f lt is = absurd (omega (arith, lt))
get_subject (x ∷ xs) zero f lt is = ap (λ (y : Subject). Some (subject_of y)) (sym is)
get_subject (x ∷ xs) (suc i) f lt is = get_subject xs i f (omega (arith, lt)) is

pub none_subject : (xs : List Subject) (i : ℕ) → length xs ≤ i → slice_get (map subject_of xs) i ≡ None
none_subject [] zero le = refl
none_subject [] (suc i) le = refl
none_subject (x ∷ xs) zero le = absurd (omega (arith, le))
none_subject (x ∷ xs) (suc i) le = none_subject xs i (omega (arith, le))

pub none_placed : (xs : List Placed) (i : ℕ) → length xs ≤ i → slice_get (map placed_of xs) i ≡ None
none_placed [] zero le = refl
none_placed [] (suc i) le = refl
none_placed (x ∷ xs) zero le = absurd (omega (arith, le))
none_placed (x ∷ xs) (suc i) le = none_placed xs i (omega (arith, le))

set_placed : (xs : List Placed) (i : ℕ) (y : Placed) → slice_set (map placed_of xs) i (placed_of y) ≡ map placed_of (slice_set xs i y)
set_placed [] zero y = refl
set_placed [] (suc i) y = refl
set_placed (x ∷ xs) zero y = refl
set_placed (x ∷ xs) (suc i) y = ap (λ (v : List PlacedText). placed_of x ∷ v) (set_placed xs i y)

abbrev done : List PlacedText → Outcome
done ps = Ok ps

-- the number of a function is that of what is known of it
seen_before : (fs : List Subject) (x : List ℕ) → position_or_len (λ f. same_name f.name x) (map subject_of fs) ≡ position_or_len (λ f. same_name f.name x) fs
seen_before [] x = refl
seen_before (f ∷ fs) x = rw (seen_before fs x) refl

as_many : (fs : List Subject) → length (map subject_of fs) ≡ length fs
as_many [] = refl
as_many (f ∷ fs) = rw (as_many fs) refl

pub position_seen : (fs : List Subject) (x : List ℕ) → position (λ f. same_name f.name x) (map subject_of fs) ≡ position (λ f. same_name f.name x) fs
position_seen fs x = rw (seen_before fs x, as_many fs) refl

-- what becomes of the function of the number at which the name stands
module _ (fs : List Subject) (s : ScheduledText) (xs : List Placed) (i : ℕ) (f : Subject) (p : Placed) (named : Some i ≡ position (λ g. same_name g.name s.function) (map subject_of fs))
    (few : i < length fs) (is : f ≡ get_or fs i f) (within : i < length xs) (was : p ≡ get_or xs i p) where
  told : (r : Result PlacedText Rule) → all_in (subject_of f) s.directives (placed_of p) ≡ r → scheduled_in (map subject_of fs) s (map placed_of xs) ≡ with_placed (map placed_of xs) i s.function r
  told r h = rw (sym named, get_subject fs i f few is, get_placed xs i p within was, h) refl

  pub placed_so : (q : Placed) → all_in (subject_of f) s.directives (placed_of p) ≡ Ok (placed_of q) → scheduled_in (map subject_of fs) s (map placed_of xs) ≡ Ok (map placed_of (slice_set xs i q))
  placed_so q h = told (Ok (placed_of q)) h ∙ ap done (set_placed xs i q)

  pub refused_so : (r : Rule) → all_in (subject_of f) s.directives (placed_of p) ≡ Err r → scheduled_in (map subject_of fs) s (map placed_of xs) ≡ Err (r, s.function)
  refused_so r h = told (Err r) h

-- ---- compute_root

root_among : (ds : List Directive) → list_any is_root_directive (map directive_of ds) ≡ list_any (λ d. is_root_directive (directive_of d)) ds
root_among [] = refl
root_among (d ∷ ds) = ap (λ (b : Bool). is_root_directive (directive_of d) || b) (root_among ds)

pub root_told : (ss : List Scheduled) (x : List ℕ) → has_root (map scheduled_of ss) x ≡ list_any (λ s. same_name s.function x && list_any (λ d. is_root_directive (directive_of d)) s.directives.items) ss
root_told [] x = refl
root_told (s ∷ ss) x = rw (root_among s.directives.items, root_told ss x) refl

-- ---- compute_at

home_among : (ds : List Directive) → list_any is_home_directive (map directive_of ds) ≡ list_any (λ d. is_home_directive (directive_of d)) ds
home_among [] = refl
home_among (d ∷ ds) = ap (λ (b : Bool). is_home_directive (directive_of d) || b) (home_among ds)

pub home_told : (ss : List Scheduled) (x : List ℕ) → has_home (map scheduled_of ss) x ≡ list_any (λ s. same_name s.function x && list_any (λ d. is_home_directive (directive_of d)) s.directives.items) ss
home_told [] x = refl
home_told (s ∷ ss) x = rw (home_among s.directives.items, home_told ss x) refl
