-- What a whole schedule says.
use Rattle.std.proofs.Common.{◌≡◌, ◌≢◌, ◌⊎◌, inl, inr, ⊎_elim, ℕ, zero, suc, ◌+◌, ◌<◌, Bool, true, false, cond, ltb, List, [], ◌∷◌, ◌++◌, length, map, take, get_or, Option, Some, None, Result, Ok, Err, refl, sym, ap, subst, ◌∙◌, arith, append_assoc, append-nil, one-add, ltb-true, lt-ltb, ltb-false, le-ltb}
use Rattle.std.specs.Prelude.{fold, slice_get, slice_set, position, nat_lt}
use Rattle.std.specs.List.{flat_map, position_or_len}
use Rattle.std.specs.Option.{option_map}
use Rattle.std.proofs.lemmas.Bool.{false≢true}
use Rattle.std.proofs.lemmas.List.Concat.{flat_map-append}
use Rattle.std.proofs.lemmas.List.Sums.{fold-append}
use Rattle.std.proofs.lemmas.List.{length-map}
use Rattle.std.proofs.lemmas.Option.{slice_get-map, slice_get_read, slice_get_within, get_or_from_slice_get}
use Rattle.meaning.specs.Algorithm.{Function, Algorithm}
use Rattle.meaning.specs.Names.{same_name}
use Rattle.meaning.specs.Conditions.{AreDistinct}
use Rattle.meaning.proofs.Cases.{name_same, same_name_is, name_differs}
use Rattle.sched.specs.declared.error.Rule.{Rule}
use Rattle.sched.specs.Schedule.{DirectiveText, tile, reorder, ScheduledText, Schedule}
use Rattle.sched.specs.Placing.{SubjectText, PlacedText, Outcome, x_split, y_split, split_in, reorder_in, and_next, applied, all_in, with_placed, placed_at, numbered, scheduled_in, and_then, schedule_in}
use Rattle.sched.specs.Subjects.{subject_said}
use Rattle.sched.specs.Rules.{steps_of, after, first_loops, StepBreaks, IsLowest}
use Rattle.sched.specs.Legal.{Saying, speaks, does, said_of, said, name_of, step_of, steps_named, loops_after, Breaks, IsFollowed, IsBrokenNow}
use Rattle.sched.proofs.Following.{Answers, IsStep, step_told}

some_is : (f g : Function) → Some f ≡ Some g → f ≡ g
some_is f g e = cc

saying_is : (x y : Saying) → Some x ≡ Some y → x ≡ y
saying_is x y e = cc

-- ---- tiles as steps

abbrev AreSteps : List DirectiveText → Type 0
AreSteps [] = Unit {0}
AreSteps (d ∷ ds) = IsStep d × AreSteps ds

steps_join : (ds es : List DirectiveText) → AreSteps ds → AreSteps es → AreSteps (ds ++ es)
steps_join [] es h k = k
steps_join (d ∷ ds) es h k = (h.0, steps_join ds es h.1 k)

one_is : (d : DirectiveText) → AreSteps (steps_of d)
one_is (tile t) = (tt, (tt, (tt, tt)))
one_is d = (tt, tt)

steps_are : (ds : List DirectiveText) → AreSteps (flat_map steps_of ds)
steps_are [] = tt
steps_are (d ∷ ds) = steps_join (steps_of d) (flat_map steps_of ds) (one_is d) (steps_are ds)

next_next : (r : Result PlacedText Rule) (f g : PlacedText → Result PlacedText Rule) → and_next (and_next r f) g ≡ and_next r (λ p. and_next (f p) g)
next_next (Ok p) f g = refl
next_next (Err r) f g = refl

next_same : (r : Result PlacedText Rule) (f g : PlacedText → Result PlacedText Rule) → ((p : PlacedText) → f p ≡ g p) → and_next r f ≡ and_next r g
next_same (Ok p) f g h = h p
next_same (Err r) f g h = refl

module _ (F : SubjectText) where
  abbrev ends : PlacedText → Result PlacedText Rule
  ends p = Ok p

  next_ends : (r : Result PlacedText Rule) → and_next r (all_in F []) ≡ r
  next_ends (Ok p) = refl
  next_ends (Err r) = refl

  one_told : (d : DirectiveText) (p : PlacedText) → all_in F (steps_of d) p ≡ applied F d p
  one_told (tile t) p =
      let x = x_split t in
      let y = y_split t in
      let order = t.x_inner ∷ t.y_inner ∷ t.x_outer ∷ t.y_outer ∷ [] in
      let last : (q : PlacedText) → and_next (split_in F y q) (all_in F (reorder order ∷ [])) ≡ and_next (split_in F y q) (reorder_in F order) = λ q. next_same (split_in F y q) _ _ (λ p. next_ends (reorder_in F order p)) in
      next_same (split_in F x p) _ _ last ∙ sym (next_next (split_in F x p) (split_in F y) (reorder_in F order))
  one_told d p = next_ends (applied F d p)

  all_joined : (ds es : List DirectiveText) (p : PlacedText) → all_in F (ds ++ es) p ≡ and_next (all_in F ds p) (all_in F es)
  all_joined [] es p = refl
  all_joined (d ∷ ds) es p = next_same (applied F d p) _ _ (all_joined ds es) ∙ sym (next_next (applied F d p) (all_in F ds) (all_in F es))

  all_steps : (ds : List DirectiveText) (p : PlacedText) → all_in F ds p ≡ all_in F (flat_map steps_of ds) p
  all_steps [] p = refl
  all_steps (d ∷ ds) p =
      next_same (applied F d p) _ _ (all_steps ds) ∙ ap (λ (r : Result PlacedText Rule). and_next r (all_in F (flat_map steps_of ds))) (sym (one_told d p)) ∙ sym (all_joined (steps_of d) (flat_map steps_of ds) p)

-- ---- the place of a name

past : (n m : ℕ) → ltb (1 + n) (suc m) ≡ false → ltb n m ≡ false
past n m e = le-ltb n m (omega (arith, ltb-false (1 + n) (suc m) e))

abbrev Found : {X : Type 0} → (X → Bool) → List X → ℕ → Type 0
Found {X} p xs i = (x : X) × (slice_get xs i ≡ Some x) × (p x ≡ true)

-- where the first element that passes stands, or that none does
abbrev PlaceOf : {X : Type 0} → (X → Bool) → List X → Option ℕ → Type 0
PlaceOf p xs (Some i) = Found p xs i
PlaceOf {X} p xs None = (k : ℕ) (d : X) → k < length xs → p (get_or xs k d) ≡ false

module _ {X : Type 0} (p : X → Bool) where
  found_by : (x : X) (xs : List X) (b : Bool) → p x ≡ b → (nat_lt (position_or_len p xs) (length xs) ≡ true → Found p xs (position_or_len p xs)) → nat_lt (position_or_len p (x ∷ xs)) (length (x ∷ xs)) ≡ true → Found p (x ∷ xs) (position_or_len p (x ∷ xs))
  found_by x xs true h more e = rw h (x, refl, h)
  found_by x xs false h more e =
      let at : nat_lt (1 + position_or_len p xs) (suc (length xs)) ≡ true = rw h at e in
      let less : position_or_len p xs < length xs = omega (arith, ltb-true (1 + position_or_len p xs) (suc (length xs)) at) in
      let y = more (lt-ltb (position_or_len p xs) (length xs) less) in
      rw (h, one-add) y

  found : (xs : List X) → nat_lt (position_or_len p xs) (length xs) ≡ true → Found p xs (position_or_len p xs)
  found [] e = absurd (false≢true e)
  found (x ∷ xs) e = found_by x xs (p x) refl (found xs) e

  missed_by : (x : X) (xs : List X) (b : Bool) → p x ≡ b → (nat_lt (position_or_len p xs) (length xs) ≡ false → (k : ℕ) (d : X) → k < length xs → p (get_or xs k d) ≡ false) → nat_lt (position_or_len p (x ∷ xs)) (length (x ∷ xs)) ≡ false → (k : ℕ) (d : X) → k < length (x ∷ xs) → p (get_or (x ∷ xs) k d) ≡ false
  missed_by x xs true h more e k d lt = let at : nat_lt 0 (suc (length xs)) ≡ false = rw h at e in absurd (omega (arith, ltb-false 0 (suc (length xs)) at))
  missed_by x xs false h more e zero d lt = h
  missed_by x xs false h more e (suc k) d lt =
      let at : nat_lt (1 + position_or_len p xs) (suc (length xs)) ≡ false = rw h at e in
      more (past (position_or_len p xs) (length xs) at) k d (omega (arith, lt))

  missed : (xs : List X) → nat_lt (position_or_len p xs) (length xs) ≡ false → (k : ℕ) (d : X) → k < length xs → p (get_or xs k d) ≡ false
  missed [] e k d lt = absurd (omega (arith, lt))
  missed (x ∷ xs) e k d lt = missed_by x xs (p x) refl (missed xs) e k d lt

  placed_by : (xs : List X) (b : Bool) (o : Option ℕ) → nat_lt (position_or_len p xs) (length xs) ≡ b → cond b (Some (position_or_len p xs)) None ≡ o → PlaceOf p xs o
  placed_by xs true o h is = subst (PlaceOf p xs) is (found xs h)
  placed_by xs false o h is = subst (PlaceOf p xs) is (missed xs h)

  place_told : (xs : List X) (o : Option ℕ) → position p xs ≡ o → PlaceOf p xs o
  place_told xs o is = placed_by xs (nat_lt (position_or_len p xs) (length xs)) o refl is

module _ {X Y : Type 0} (p : Y → Bool) (v : X → Y) where
  before_on : (xs : List X) → position_or_len p (map v xs) ≡ position_or_len (λ x. p (v x)) xs
  before_on [] = refl
  before_on (x ∷ xs) = rw (before_on xs) refl

  position_on : (xs : List X) → position p (map v xs) ≡ position (λ x. p (v x)) xs
  position_on xs = rw (before_on xs, length-map xs v) refl

maps_on : {X Y : Type 0} (v w : X → Y) (xs : List X) → ((k : ℕ) (x : X) → slice_get xs k ≡ Some x → v x ≡ w x) → map v xs ≡ map w xs
maps_on v w [] h = refl
maps_on v w (x ∷ xs) h = rw (h 0 x refl, maps_on v w xs (λ k y at. h (suc k) y at)) refl

-- a list made anew but for one place
set_on : {X Y : Type 0} (v w : X → Y) (xs : List X) (i : ℕ) (q : Y) → ((k : ℕ) (x : X) → slice_get xs k ≡ Some x → k ≢ i → v x ≡ w x) → ((x : X) → slice_get xs i ≡ Some x → q ≡ w x) → slice_set (map v xs) i q ≡ map w xs
set_on v w [] zero q others here = refl
set_on v w [] (suc i) q others here = refl
set_on v w (x ∷ xs) zero q others here = rw (here x refl, maps_on v w xs (λ k y at. others (suc k) y at (λ e. omega (arith, e)))) refl
set_on v w (x ∷ xs) (suc i) q others here = rw (others 0 x refl (λ e. omega (arith, e)), set_on v w xs i q (λ k y at never. others (suc k) y at (λ e. never (omega (arith, e)))) here) refl

-- ---- the steps of one function

steps_joined : (x : List ℕ) (es fs : List Saying) → steps_named x (es ++ fs) ≡ steps_named x es ++ steps_named x fs
steps_joined x es fs = flat_map-append (step_of x) es fs

own_steps : (x : List ℕ) (ds : List DirectiveText) → steps_named x (map (does x) ds) ≡ ds
own_steps x [] = refl
own_steps x (d ∷ ds) =
    let same : same_name x x ≡ true = name_same x x refl in
    let more = ap (λ (es : List DirectiveText). d ∷ es) (own_steps x ds) in
    rw same more

other_steps : (x y : List ℕ) → same_name x y ≡ false → (ds : List DirectiveText) → steps_named y (map (does x) ds) ≡ []
other_steps x y never [] = refl
other_steps x y never (d ∷ ds) = rw never (other_steps x y never ds)

loops_joined : (es fs : List Saying) (g : Function) → loops_after (es ++ fs) g ≡ fold after (loops_after es g) (steps_named g.name fs)
loops_joined es fs g = ap (λ (ds : List DirectiveText). fold after (first_loops g) ds) (steps_joined g.name es fs) ∙ fold-append after (first_loops g) (steps_named g.name es) (steps_named g.name fs)

-- ---- step by step

module _ (a : Algorithm) (s : Schedule) where
  abbrev Passes : Function → PlacedText → List DirectiveText → Type 0
  Passes f p [] = Unit {0}
  Passes f p (d ∷ ds) = ((r : Rule) → ¬ StepBreaks a s f p d r) × Passes f (after p d) ds

  abbrev Stops : Function → PlacedText → List DirectiveText → Rule → Type 0
  Stops f p [] r = ⊥
  Stops f p (d ∷ ds) r = IsLowest (StepBreaks a s f p d) r ⊎ (((q : Rule) → ¬ StepBreaks a s f p d q) × Stops f (after p d) ds r)

  abbrev Run : Function → PlacedText → List DirectiveText → Result PlacedText Rule → Type 0
  Run f p ds (Ok q) = (q ≡ fold after p ds) × Passes f p ds
  Run f p ds (Err r) = Stops f p ds r

  run_on : (f : Function) (p : PlacedText) (d : DirectiveText) (ds : List DirectiveText) (r : Result PlacedText Rule) → ((q : Rule) → ¬ StepBreaks a s f p d q) → Run f (after p d) ds r → Run f p (d ∷ ds) r
  run_on f p d ds (Ok q) never more = (more.0, (never, more.1))
  run_on f p d ds (Err r) never more = inr (never, more)

  run_next : (f : Function) (p : PlacedText) (d : DirectiveText) (ds : List DirectiveText) (r : Result PlacedText Rule) → Answers (StepBreaks a s f p d) (after p d) r → Run f (after p d) ds (all_in (subject_said a s f) ds (after p d)) → Run f p (d ∷ ds) (and_next r (all_in (subject_said a s f) ds))
  run_next f p d ds (Ok q) told more =
      subst (λ (q : PlacedText). Run f p (d ∷ ds) (all_in (subject_said a s f) ds q)) (sym told.0) (run_on f p d ds _ told.1 more)
  run_next f p d ds (Err r) told more = inl told

  run : (f : Function) (p : PlacedText) (ds : List DirectiveText) → AreSteps ds → Run f p ds (all_in (subject_said a s f) ds p)
  run f p [] k = (refl, tt)
  run f p (d ∷ ds) k = run_next f p d ds (applied (subject_said a s f) d p) (step_told a s f p d k.0) (run f (after p d) ds k.1)

  -- ---- saying by saying

  abbrev pub Quiet : List Saying → List Saying → Type 0
  Quiet before [] = Unit {0}
  Quiet before (e ∷ es) = ((r : Rule) → ¬ Breaks a s before e r) × Quiet (before ++ e ∷ []) es

  abbrev pub Loud : List Saying → List Saying → Rule → List ℕ → Type 0
  Loud before [] r x = ⊥
  Loud before (e ∷ es) r x = (Breaks a s before e r × (name_of e ≡ x)) ⊎ (((q : Rule) → ¬ Breaks a s before e q) × Loud (before ++ e ∷ []) es r x)

  quiet_join : (before es fs : List Saying) → Quiet before es → Quiet (before ++ es) fs → Quiet before (es ++ fs)
  quiet_join before [] fs q h = subst (λ (b : List Saying). Quiet b fs) (append-nil before) h
  quiet_join before (e ∷ es) fs q h = (q.0, quiet_join (before ++ e ∷ []) es fs q.1 (subst (λ (b : List Saying). Quiet b fs) (sym (append_assoc before (e ∷ []) es)) h))

  loud_first : (before es fs : List Saying) (r : Rule) (x : List ℕ) → Loud before es r x → Loud before (es ++ fs) r x
  loud_first before [] fs r x h = absurd h
  loud_first before (e ∷ es) fs r x h = ⊎_elim (λ now. inl now) (λ later. inr (later.0, loud_first (before ++ e ∷ []) es fs r x later.1)) h

  loud_later : (before es fs : List Saying) (r : Rule) (x : List ℕ) → Quiet before es → Loud (before ++ es) fs r x → Loud before (es ++ fs) r x
  loud_later before [] fs r x q h = subst (λ (b : List Saying). Loud b fs r x) (append-nil before) h
  loud_later before (e ∷ es) fs r x q h = inr (q.0, loud_later (before ++ e ∷ []) es fs r x q.1 (subst (λ (b : List Saying). Loud b fs r x) (sym (append_assoc before (e ∷ []) es)) h))

  -- what is made of all functions, and nothing is broken; or the first thing that is
  abbrev pub Told : List Saying → List Saying → Outcome → Type 0
  Told before es (Ok ps) = (ps ≡ map (loops_after (before ++ es)) a.functions) × Quiet before es
  Told before es (Err e) = Loud before es e.0 e.1

  told_later : (before es fs : List Saying) (o : Outcome) → Quiet before es → Told (before ++ es) fs o → Told before (es ++ fs) o
  told_later before es fs (Ok ps) q h = (h.0 ∙ ap (λ (b : List Saying). map (loops_after b) a.functions) (append_assoc before es fs), quiet_join before es fs q h.1)
  told_later before es fs (Err e) q h = loud_later before es fs e.0 e.1 q h

  told_join : (before es fs : List Saying) (o : Outcome) (next : List PlacedText → Outcome) → Told before es o → ((ps : List PlacedText) → ps ≡ map (loops_after (before ++ es)) a.functions → Told (before ++ es) fs (next ps)) → Told before (es ++ fs) (and_then o next)
  told_join before es fs (Ok ps) next h more = told_later before es fs (next ps) h.1 (more ps h.0)
  told_join before es fs (Err e) next h more = loud_first before es fs e.0 e.1 h

  -- ---- a statement

  module _ (distinct : AreDistinct (a.input ∷ map (λ f. f.name) a.functions)) (i : ℕ) (f : Function) (at : slice_get a.functions i ≡ Some f) where
    name_at : (k : ℕ) (g : Function) → slice_get a.functions k ≡ Some g → slice_get (map (λ f. Function.name f) a.functions) k ≡ Some g.name
    name_at k g is = slice_get-map (λ f. Function.name f) a.functions k ∙ ap (option_map (λ f. Function.name f)) is

    same_place : (k : ℕ) (g : Function) → slice_get a.functions k ≡ Some g → g.name ≡ f.name → k ≡ i
    same_place k g is named =
        let e : suc k ≡ suc i = distinct (suc k) (suc i) f.name (name_at k g is ∙ ap (λ (x : List ℕ). Some x) named) (name_at i f at) in
        omega (arith, e)

    same_function : (k : ℕ) (g : Function) → slice_get a.functions k ≡ Some g → g.name ≡ f.name → g ≡ f
    same_function k g is named =
        let there : slice_get a.functions i ≡ Some g = ap (slice_get a.functions) (sym (same_place k g is named)) ∙ is in
        let both : Some g ≡ Some f = sym there ∙ at in
        some_is g f both

    -- a rule that is broken of the function of this name is one that this function breaks
    own_broken : (before : List Saying) (d : DirectiveText) (r : Rule) → Breaks a s before (does f.name d) r → IsLowest (StepBreaks a s f (loops_after before f) d) r
    own_broken before d r h =
        let is = slice_get_read a.functions (length a.functions) h.0 h.1 refl h.2 (sym h.3) in
        subst (λ (g : Function). IsLowest (StepBreaks a s g (loops_after before g) d) r) (same_function h.0 h.1 is h.4.0) h.4.1

    broken_own : (before : List Saying) (d : DirectiveText) (r : Rule) → IsLowest (StepBreaks a s f (loops_after before f) d) r → Breaks a s before (does f.name d) r
    broken_own before d r h = (i, f, slice_get_within a.functions i f at, get_or_from_slice_get a.functions i f f at, (refl, h))

    after_one : (before : List Saying) (p : PlacedText) (d : DirectiveText) → p ≡ loops_after before f → after p d ≡ loops_after (before ++ does f.name d ∷ []) f
    after_one before p d is =
        let steps : fold after (loops_after before f) (steps_named f.name (map (does f.name) (d ∷ []))) ≡ after (loops_after before f) d = ap (λ (ds : List DirectiveText). fold after (loops_after before f) ds) (own_steps f.name (d ∷ [])) in
        ap (λ (p : PlacedText). after p d) is ∙ sym (loops_joined before (does f.name d ∷ []) f ∙ steps)

    quiet_steps : (before : List Saying) (p : PlacedText) (ds : List DirectiveText) → p ≡ loops_after before f → Passes f p ds → Quiet before (map (does f.name) ds)
    quiet_steps before p [] is h = tt
    quiet_steps before p (d ∷ ds) is h =
        (λ r broken. h.0 r (subst (λ (p : PlacedText). StepBreaks a s f p d r) (sym is) (own_broken before d r broken).0), quiet_steps (before ++ does f.name d ∷ []) (after p d) ds (after_one before p d is) h.1)

    loud_steps : (before : List Saying) (p : PlacedText) (ds : List DirectiveText) (r : Rule) → p ≡ loops_after before f → Stops f p ds r → Loud before (map (does f.name) ds) r f.name
    loud_steps before p [] r is h = absurd h
    loud_steps before p (d ∷ ds) r is h = ⊎_elim
        (λ now. inl (broken_own before d r (subst (λ (p : PlacedText). IsLowest (StepBreaks a s f p d) r) is now), refl))
        (λ later. inr (λ q broken. later.0 q (subst (λ (p : PlacedText). StepBreaks a s f p d q) (sym is) (own_broken before d q broken).0), loud_steps (before ++ does f.name d ∷ []) (after p d) ds r (after_one before p d is) later.1))
        h

    known : (before : List Saying) (r : Rule) → ¬ Breaks a s before (speaks f.name) r
    known before r h = h.1 i f (slice_get_within a.functions i f at) (ap (λ g. Function.name g) (get_or_from_slice_get a.functions i f f at))

    -- the function's loops behind the statement
    own_all : (before : List Saying) (ds : List DirectiveText) → fold after (loops_after before f) ds ≡ loops_after (before ++ speaks f.name ∷ map (does f.name) ds) f
    own_all before ds = sym (loops_joined before (speaks f.name ∷ map (does f.name) ds) f ∙ ap (λ (es : List DirectiveText). fold after (loops_after before f) es) (own_steps f.name ds))

    other_all : (before : List Saying) (ds : List DirectiveText) (k : ℕ) (g : Function) → slice_get a.functions k ≡ Some g → k ≢ i → loops_after before g ≡ loops_after (before ++ speaks f.name ∷ map (does f.name) ds) g
    other_all before ds k g is never =
        let differs : same_name f.name g.name ≡ false = name_differs f.name g.name (λ e. never (same_place k g is (sym e))) in
        sym (loops_joined before (speaks f.name ∷ map (does f.name) ds) g ∙ ap (λ (es : List DirectiveText). fold after (loops_after before g) es) (other_steps f.name g.name differs ds))

    loops_set : (before : List Saying) (ds : List DirectiveText) (q : PlacedText) → q ≡ fold after (loops_after before f) ds → slice_set (map (loops_after before) a.functions) i q ≡ map (loops_after (before ++ speaks f.name ∷ map (does f.name) ds)) a.functions
    loops_set before ds q is = set_on (loops_after before) (loops_after (before ++ speaks f.name ∷ map (does f.name) ds)) a.functions i q (other_all before ds)
        (λ g there. let same : f ≡ g = some_is f g (sym at ∙ there) in
        subst (λ (h : Function). q ≡ loops_after (before ++ speaks f.name ∷ map (does f.name) ds) h) same (is ∙ own_all before ds))

    silent : (before : List Saying) → loops_after before f ≡ loops_after (before ++ speaks f.name ∷ []) f
    silent before = own_all before []

    spoken : (before : List Saying) (ds : List DirectiveText) (r : Result PlacedText Rule) → Run f (loops_after before f) ds r → Told before (speaks f.name ∷ map (does f.name) ds) (with_placed (map (loops_after before) a.functions) i f.name r)
    spoken before ds (Ok q) h = (loops_set before ds q h.0, (known before, quiet_steps (before ++ speaks f.name ∷ []) (loops_after before f) ds (silent before) h.1))
    spoken before ds (Err r) h = inr (known before, loud_steps (before ++ speaks f.name ∷ []) (loops_after before f) ds r (silent before) h)

  abbrev subjects : List SubjectText
  subjects = map (subject_said a s) a.functions

  statement_by : AreDistinct (a.input ∷ map (λ f. f.name) a.functions) → (t : ScheduledText) (before : List Saying) (o : Option ℕ) → PlaceOf (λ f. same_name (Function.name f) t.function) a.functions o → Told before (said_of t) (numbered subjects t (map (loops_after before) a.functions) o)
  statement_by distinct t before None h =
      inl ((refl, λ k d lt e. false≢true (sym (h k d lt) ∙ name_same _ t.function e)), refl)
  statement_by distinct t before (Some i) h =
      let f = h.0 in
      let named = same_name_is f.name t.function h.2 in
      let steps = flat_map steps_of t.directives in
      let p = loops_after before f in
      let ps = map (loops_after before) a.functions in
      let subject : slice_get subjects i ≡ Some (subject_said a s f) = slice_get-map (subject_said a s) a.functions i ∙ ap (option_map (subject_said a s)) h.1 in
      let loops : slice_get ps i ≡ Some p = slice_get-map (loops_after before) a.functions i ∙ ap (option_map (loops_after before)) h.1 in
      let ran : Run f p steps (all_in (subject_said a s f) t.directives p) = subst (λ (r : Result PlacedText Rule). Run f p steps r) (sym (all_steps (subject_said a s f) t.directives p)) (run f p steps (steps_are t.directives)) in
      let all = spoken distinct i f h.1 before steps (all_in (subject_said a s f) t.directives p) ran in
      let of_name = subst (λ (x : List ℕ). Told before (speaks x ∷ map (does x) steps) (with_placed ps i x (all_in (subject_said a s f) t.directives p))) named all in
      subst (λ (o : Option SubjectText). Told before (said_of t) (placed_at ps i t o (slice_get ps i))) (sym subject)
      (subst (λ (o : Option PlacedText). Told before (said_of t) (placed_at ps i t (Some (subject_said a s f)) o)) (sym loops) of_name)

  statement : AreDistinct (a.input ∷ map (λ f. f.name) a.functions) → (t : ScheduledText) (before : List Saying) (ps : List PlacedText) → ps ≡ map (loops_after before) a.functions → Told before (said_of t) (scheduled_in subjects t ps)
  statement distinct t before ps is =
      let at = position_on (λ g. same_name (SubjectText.name g) t.function) (subject_said a s) a.functions in
      let place = place_told (λ f. same_name (Function.name f) t.function) a.functions _ (sym at) in
      subst (λ (ps : List PlacedText). Told before (said_of t) (scheduled_in subjects t ps)) (sym is) (statement_by distinct t before _ place)

  pub text_told : AreDistinct (a.input ∷ map (λ f. f.name) a.functions) → (ss : Schedule) (before : List Saying) (ps : List PlacedText) → ps ≡ map (loops_after before) a.functions → Told before (said ss) (schedule_in subjects ss ps)
  text_told distinct [] before ps is = (is ∙ ap (λ (b : List Saying). map (loops_after b) a.functions) (sym (append-nil before)), tt)
  text_told distinct (t ∷ ts) before ps is = told_join before (said_of t) (said ts) (scheduled_in subjects t ps) (schedule_in subjects ts) (statement distinct t before ps is) (λ qs made. text_told distinct ts (before ++ said_of t) qs made)

  -- ---- in the words of the whole text

  quiet_at : (before es : List Saying) → Quiet before es → (k : ℕ) (e : Saying) (r : Rule) → slice_get es k ≡ Some e → ¬ Breaks a s (before ++ take k es) e r
  quiet_at before [] q k e r at = absurd (cc)
  quiet_at before (x ∷ es) q zero e r at =
      let same : x ≡ e = saying_is x e at in
      λ h. q.0 r (subst (λ (y : Saying). Breaks a s before y r) (sym same) (subst (λ (b : List Saying). Breaks a s b e r) (append-nil before) h))
  quiet_at before (x ∷ es) q (suc k) e r at =
      λ h. quiet_at (before ++ x ∷ []) es q.1 k e r at (subst (λ (b : List Saying). Breaks a s b e r) (sym (append_assoc before (x ∷ []) (take k es))) h)

  pub followed : Quiet [] (said s) → IsFollowed a s
  followed q k e r h = quiet_at [] (said s) q k e r h.0 h.1

  record Heard (before es : List Saying) (r : Rule) (x : List ℕ) : Type 0 where
    place : ℕ
    saying : Saying
    there : slice_get es place ≡ Some saying
    broken : Breaks a s (before ++ take place es) saying r
    first : (k : ℕ) (e : Saying) (q : Rule) → k < place → slice_get es k ≡ Some e → ¬ Breaks a s (before ++ take k es) e q
    named : name_of saying ≡ x

  earlier : (before : List Saying) (y : Saying) (es : List Saying) (n : ℕ) → ((q : Rule) → ¬ Breaks a s before y q) → ((k : ℕ) (e : Saying) (q : Rule) → k < n → slice_get es k ≡ Some e → ¬ Breaks a s ((before ++ y ∷ []) ++ take k es) e q) → (k : ℕ) (e : Saying) (q : Rule) → k < suc n → slice_get (y ∷ es) k ≡ Some e → ¬ Breaks a s (before ++ take k (y ∷ es)) e q
  earlier before y es n never first zero e q lt at h =
      let same : y ≡ e = saying_is y e at in
      never q (subst (λ (z : Saying). Breaks a s before z q) (sym same) (subst (λ (b : List Saying). Breaks a s b e q) (append-nil before) h))
  earlier before y es n never first (suc k) e q lt at h = first k e q (omega (arith, lt)) at (subst (λ (b : List Saying). Breaks a s b e q) (sym (append_assoc before (y ∷ []) (take k es))) h)

  heard_later : (before : List Saying) (y : Saying) (es : List Saying) (r : Rule) (x : List ℕ) → ((q : Rule) → ¬ Breaks a s before y q) → Heard (before ++ y ∷ []) es r x → Heard before (y ∷ es) r x
  heard_later before y es r x never h = record {
    place = suc h.place;
    saying = h.saying;
    there = h.there;
    broken = subst (λ (b : List Saying). Breaks a s b h.saying r) (append_assoc before (y ∷ []) (take h.place es)) h.broken;
    first = earlier before y es h.place never h.first;
    named = h.named;
  }

  heard : (before es : List Saying) (r : Rule) (x : List ℕ) → Loud before es r x → Heard before es r x
  heard before [] r x h = absurd h
  heard before (y ∷ es) r x h = ⊎_elim
      (λ now. record {
        place = 0;
        saying = y;
        there = refl;
        broken = subst (λ (b : List Saying). Breaks a s b y r) (sym (append-nil before)) now.0;
        first = λ k e q lt at broken. absurd (omega (arith, lt));
        named = now.1;
      })
      (λ later. heard_later before y es r x later.0 (heard (before ++ y ∷ []) es r x later.1))
      h

  pub broken_now : (r : Rule) (x : List ℕ) → Loud [] (said s) r x → IsBrokenNow a s r x
  broken_now r x h = let w = heard [] (said s) r x h in record {
    place = w.place;
    saying = w.saying;
    broken = (w.there, w.broken);
    first = λ k e q lt broken. w.first k e q lt broken.0 broken.1;
    named = w.named;
  }
