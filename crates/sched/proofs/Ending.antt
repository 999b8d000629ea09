-- What a schedule breaks behind its last directive, and what is told of it.
use Rattle.std.proofs.Common.{◌≡◌, ◌∙◌, ◌⊎◌, inl, inr, ℕ, zero, suc, ◌<◌, Bool, true, false, List, [], ◌∷◌, map, Option, Some, None, Result, Ok, Err, refl, sym, ap, subst, arith}
use Rattle.std.specs.Prelude.{Decides, slice_get, if◌then◌else◌, IfOk, IfErr, ◌&&◌, not}
use Rattle.std.specs.List.{list_any}
use Rattle.std.proofs.lemmas.Bool.{false≢true}
use Rattle.meaning.specs.Algorithm.{Function, Algorithm}
use Rattle.meaning.specs.Conditions.{AreDistinct}
use Rattle.sched.specs.declared.error.Rule.{Rule}
use Rattle.sched.specs.declared.error.Rule.TheVariants as rule
use Rattle.sched.specs.declared.error.SchedError.{SchedError}
use Rattle.sched.specs.declared.error.SchedError.TheVariants as error
use Rattle.sched.specs.declared.subject.Placement.{Placement}
use Rattle.sched.specs.Schedule.{Schedule}
use Rattle.sched.specs.Placing.{SubjectText, PlacedText, has_vectorized_outside, has_parallel_inside, has_updates, is_shifted, start, subject_of, placed_of, breaks_home, breaks_storage, breaks_fold, end_fault, or_later, fault_among, first_fault}
use Rattle.sched.specs.Subjects.{subject_said, places, Follows}
use Rattle.sched.specs.Rules.{EndBreaks, IsLowest, number_of, IsVectorizedOutside, IsParallelInside, IsShiftedUpdate, IsInlineUpdate, IsBadHome, IsBadStorage, IsBadFold}
use Rattle.sched.specs.Legal.{said, loops_after, IsBrokenBehind, IsFault, IsLegal, IsRefused, IsUnfollowed, loops_of}
use Rattle.sched.proofs.Deciding.{vectorized_outside_decides, inside_decides, bad_home_decides, bad_storage_decides, shifted_update_decides, bad_fold_decides, inline_update_decides}
use Rattle.sched.proofs.Telling.{Told, text_told, followed, broken_now}

module _ (a : Algorithm) (s : Schedule) where
  -- ---- of one function

  module _ (loops : Function → PlacedText) (f : Function) where
    -- the rule of the lowest number that is broken, if any is
    abbrev pub End : Option Rule → Type 0
    End (Some r) = IsLowest (EndBreaks a s f loops) r
    End None = (r : Rule) → ¬ EndBreaks a s f loops r

    below : (r : Rule) → (4 < number_of r → ¬ IsVectorizedOutside (loops f)) → (5 < number_of r → ¬ IsParallelInside (loops f)) → (6 < number_of r → ¬ IsBadHome a s f loops) → (7 < number_of r → ¬ IsBadStorage a f loops) → (8 < number_of r → ¬ IsShiftedUpdate f (loops f)) → (9 < number_of r → ¬ IsBadFold (loops f)) → (10 < number_of r → ¬ IsInlineUpdate a s f) → (q : Rule) → number_of q < number_of r → ¬ EndBreaks a s f loops q
    below r v i m o u d l rule.UnknownName lt h = h
    below r v i m o u d l rule.BadSplit lt h = h
    below r v i m o u d l rule.BadReorder lt h = h
    below r v i m o u d l rule.BadMark lt h = v lt h
    below r v i m o u d l rule.BadParallel lt h = i lt h
    below r v i m o u d l rule.BadHome lt h = m lt h
    below r v i m o u d l rule.BadStorage lt h = o lt h
    below r v i m o u d l rule.BadShift lt h = u lt h
    below r v i m o u d l rule.BadFold lt h = d lt h
    below r v i m o u d l rule.InlineUpdates lt h = l lt h

    none : ¬ IsVectorizedOutside (loops f) → ¬ IsParallelInside (loops f) → ¬ IsBadHome a s f loops → ¬ IsBadStorage a f loops → ¬ IsShiftedUpdate f (loops f) → ¬ IsBadFold (loops f) → ¬ IsInlineUpdate a s f → (q : Rule) → ¬ EndBreaks a s f loops q
    none v i m o u d l rule.UnknownName h = h
    none v i m o u d l rule.BadSplit h = h
    none v i m o u d l rule.BadReorder h = h
    none v i m o u d l rule.BadMark h = v h
    none v i m o u d l rule.BadParallel h = i h
    none v i m o u d l rule.BadHome h = m h
    none v i m o u d l rule.BadStorage h = o h
    none v i m o u d l rule.BadShift h = u h
    none v i m o u d l rule.BadFold h = d h
    none v i m o u d l rule.InlineUpdates h = l h

    by_tests : (b1 b2 b3 b4 b5 b6 b7 : Bool) → Decides b1 (IsVectorizedOutside (loops f)) → Decides b2 (IsParallelInside (loops f)) → Decides b3 (IsBadHome a s f loops) → Decides b4 (IsBadStorage a f loops) → Decides b5 (IsShiftedUpdate f (loops f)) → Decides b6 (IsBadFold (loops f)) → Decides b7 (IsInlineUpdate a s f) →
        End (if b1 then Some rule.BadMark else (if b2 then Some rule.BadParallel else (if b3 then Some rule.BadHome else (if b4 then Some rule.BadStorage else (if b5 then Some rule.BadShift else (if b6 then Some rule.BadFold else (if b7 then Some rule.InlineUpdates else None)))))))
    by_tests true b2 b3 b4 b5 b6 b7 v i m o u d l = (v.0 refl, below rule.BadMark (λ lt. absurd (omega (arith, lt))) (λ lt. absurd (omega (arith, lt))) (λ lt. absurd (omega (arith, lt))) (λ lt. absurd (omega (arith, lt))) (λ lt. absurd (omega (arith, lt))) (λ lt. absurd (omega (arith, lt))) (λ lt. absurd (omega (arith, lt))))
    by_tests false true b3 b4 b5 b6 b7 v i m o u d l = (i.0 refl, below rule.BadParallel (λ lt h. false≢true (v.1 h)) (λ lt. absurd (omega (arith, lt))) (λ lt. absurd (omega (arith, lt))) (λ lt. absurd (omega (arith, lt))) (λ lt. absurd (omega (arith, lt))) (λ lt. absurd (omega (arith, lt))) (λ lt. absurd (omega (arith, lt))))
    by_tests false false true b4 b5 b6 b7 v i m o u d l = (m.0 refl, below rule.BadHome (λ lt h. false≢true (v.1 h)) (λ lt h. false≢true (i.1 h)) (λ lt. absurd (omega (arith, lt))) (λ lt. absurd (omega (arith, lt))) (λ lt. absurd (omega (arith, lt))) (λ lt. absurd (omega (arith, lt))) (λ lt. absurd (omega (arith, lt))))
    by_tests false false false true b5 b6 b7 v i m o u d l = (o.0 refl, below rule.BadStorage (λ lt h. false≢true (v.1 h)) (λ lt h. false≢true (i.1 h)) (λ lt h. false≢true (m.1 h)) (λ lt. absurd (omega (arith, lt))) (λ lt. absurd (omega (arith, lt))) (λ lt. absurd (omega (arith, lt))) (λ lt. absurd (omega (arith, lt))))
    by_tests false false false false true b6 b7 v i m o u d l = (u.0 refl, below rule.BadShift (λ lt h. false≢true (v.1 h)) (λ lt h. false≢true (i.1 h)) (λ lt h. false≢true (m.1 h)) (λ lt h. false≢true (o.1 h)) (λ lt. absurd (omega (arith, lt))) (λ lt. absurd (omega (arith, lt))) (λ lt. absurd (omega (arith, lt))))
    by_tests false false false false false true b7 v i m o u d l = (d.0 refl, below rule.BadFold (λ lt h. false≢true (v.1 h)) (λ lt h. false≢true (i.1 h)) (λ lt h. false≢true (m.1 h)) (λ lt h. false≢true (o.1 h)) (λ lt h. false≢true (u.1 h)) (λ lt. absurd (omega (arith, lt))) (λ lt. absurd (omega (arith, lt))))
    by_tests false false false false false false true v i m o u d l = (l.0 refl, below rule.InlineUpdates (λ lt h. false≢true (v.1 h)) (λ lt h. false≢true (i.1 h)) (λ lt h. false≢true (m.1 h)) (λ lt h. false≢true (o.1 h)) (λ lt h. false≢true (u.1 h)) (λ lt h. false≢true (d.1 h)) (λ lt. absurd (omega (arith, lt))))
    by_tests false false false false false false false v i m o u d l = none (λ h. false≢true (v.1 h)) (λ h. false≢true (i.1 h)) (λ h. false≢true (m.1 h)) (λ h. false≢true (o.1 h)) (λ h. false≢true (u.1 h)) (λ h. false≢true (d.1 h)) (λ h. false≢true (l.1 h))

    end_told : End (end_fault (map (subject_said a s) a.functions) (map loops a.functions) (subject_said a s f) (loops f))
    end_told =
        let subject = subject_said a s f in
        let subjects = map (subject_said a s) a.functions in
        let placed = map loops a.functions in
        by_tests (has_vectorized_outside (loops f).loops) (has_parallel_inside (loops f).loops) (breaks_home subjects placed subject (loops f)) (breaks_storage subjects placed (loops f))
        (has_updates subject && list_any is_shifted (loops f).cuts) (breaks_fold (loops f)) (has_updates subject && not subject.is_stored)
        (vectorized_outside_decides a s f (loops f)) (inside_decides (loops f)) (bad_home_decides a s f loops) (bad_storage_decides a s f loops) (shifted_update_decides a s f (loops f)) (bad_fold_decides (loops f)) (inline_update_decides a s f)

  -- ---- of the first function that breaks one

  module _ (loops : Function → PlacedText) where
    abbrev Faults : List Function → Option (Rule × List ℕ) → Type 0
    Faults fs None = (k : ℕ) (g : Function) (q : Rule) → slice_get fs k ≡ Some g → ¬ EndBreaks a s g loops q
    Faults fs (Some e) = (k : ℕ) × (g : Function) × (slice_get fs k ≡ Some g) × IsLowest (EndBreaks a s g loops) e.0 × ((j : ℕ) (h : Function) (q : Rule) → j < k → slice_get fs j ≡ Some h → ¬ EndBreaks a s h loops q) × (g.name ≡ e.1)

    some_is : (f g : Function) → Some f ≡ Some g → f ≡ g
    some_is f g e = cc

    none_first : (f : Function) (fs : List Function) (n : ℕ) → ((r : Rule) → ¬ EndBreaks a s f loops r) → ((j : ℕ) (h : Function) (q : Rule) → j < n → slice_get fs j ≡ Some h → ¬ EndBreaks a s h loops q) → (j : ℕ) (h : Function) (q : Rule) → j < suc n → slice_get (f ∷ fs) j ≡ Some h → ¬ EndBreaks a s h loops q
    none_first f fs n never more zero h q lt at broken = never q (subst (λ (g : Function). EndBreaks a s g loops q) (sym (some_is f h at)) broken)
    none_first f fs n never more (suc j) h q lt at broken = more j h q (omega (arith, lt)) at broken

    none_ever : (f : Function) (fs : List Function) → ((r : Rule) → ¬ EndBreaks a s f loops r) → ((j : ℕ) (h : Function) (q : Rule) → slice_get fs j ≡ Some h → ¬ EndBreaks a s h loops q) → (j : ℕ) (h : Function) (q : Rule) → slice_get (f ∷ fs) j ≡ Some h → ¬ EndBreaks a s h loops q
    none_ever f fs never more zero h q at broken = never q (subst (λ (g : Function). EndBreaks a s g loops q) (sym (some_is f h at)) broken)
    none_ever f fs never more (suc j) h q at broken = more j h q at broken

    faults_next : (f : Function) (fs : List Function) (o : Option Rule) (later : Option (Rule × List ℕ)) → End loops f o → Faults fs later → Faults (f ∷ fs) (or_later o f.name later)
    faults_next f fs (Some r) later told more = (0, f, refl, told, λ j h q lt at broken. absurd (omega (arith, lt)), refl)
    faults_next f fs None None told more = none_ever f fs told more
    faults_next f fs None (Some e) told more = (suc more.0, more.1, more.2, more.3, none_first f fs more.0 told more.4, more.5)

    faults_among : (fs : List Function) → Faults fs (fault_among (map (subject_said a s) a.functions) (map loops a.functions) (map (subject_said a s) fs) (map loops fs))
    faults_among [] = λ k g q at. absurd (cc)
    faults_among (f ∷ fs) = faults_next f fs (end_fault (map (subject_said a s) a.functions) (map loops a.functions) (subject_said a s f) (loops f))
        (fault_among (map (subject_said a s) a.functions) (map loops a.functions) (map (subject_said a s) fs) (map loops fs)) (end_told loops f) (faults_among fs)

    faults : Faults a.functions (first_fault (map (subject_said a s) a.functions) (map loops a.functions))
    faults = faults_among a.functions

  -- ---- of the whole

  abbrev subjects : List SubjectText
  subjects = map (subject_said a s) a.functions

  started : (fs : List Function) → map start (map (subject_said a s) fs) ≡ map (loops_after []) fs
  started [] = refl
  started (f ∷ fs) = ap (λ (ps : List PlacedText). loops_after [] f ∷ ps) (started fs)

  behind : Told a s [] (said s) (Ok (loops_of a s)) → (o : Option (Rule × List ℕ)) → Faults (loops_after (said s)) a.functions o → IsFault a s o
  behind told None h = record { followed = followed a s told.1; whole = h }
  behind told (Some e) h = record {
    followed = followed a s told.1;
    number = h.0;
    function = h.1;
    declared = h.2;
    broken = h.3;
    first = h.4;
    named = h.5;
  }

  places_told : AreDistinct (a.input ∷ map (λ f. f.name) a.functions) → Told a s [] (said s) (places a s)
  places_told distinct = text_told a s distinct s [] (map start subjects) (started a.functions)

  fault_told : (ps : List PlacedText) (o : Option (Rule × List ℕ)) → Told a s [] (said s) (Ok ps) → o ≡ first_fault subjects ps → IsFault a s o × (ps ≡ loops_of a s)
  fault_told ps o told is =
      let same : o ≡ first_fault subjects (loops_of a s) = is ∙ ap (first_fault subjects) told.0 in
      (subst (IsFault a s) (sym same) (behind (refl, told.1) (first_fault subjects (loops_of a s)) (faults (loops_after (said s)))), told.0)

  pub followed_told : AreDistinct (a.input ∷ map (λ f. f.name) a.functions) → (r : Result Placement SchedError) → Follows a s r →
      IfOk r (λ p. IsFault a s p.fault) × IfOk r (λ p. map placed_of p.functions.items ≡ loops_of a s) × IfOk r (λ p. map subject_of p.subjects.items ≡ map (subject_said a s) a.functions) × IfErr r (IsRefused a s) × IfErr r (IsUnfollowed a s)
  followed_told distinct (Ok p) made =
      let told = fault_told (map placed_of p.functions.items) p.fault (subst (Told a s [] (said s)) made.0 (places_told distinct)) made.1 in
      (told.0, told.1, made.2, tt, tt)
  followed_told distinct (Err error.Memory) made = (tt, tt, tt, tt, tt)
  followed_told distinct (Err (error.Broken r x)) made =
      let now = broken_now a s r x (subst (Told a s [] (said s)) made (places_told distinct)) in
      (tt, tt, tt, inl now, now)
  followed_told distinct (Err (error.BadToken span)) made = absurd made
  followed_told distinct (Err (error.BadForm span)) made = absurd made
  followed_told distinct (Err (error.TooLarge span)) made = absurd made
  followed_told distinct (Err error.UnfitNames) made = absurd made

-- a rule that is broken behind the last directive
pub fault_refused : (a : Algorithm) (s : Schedule) (o : Option (Rule × List ℕ)) (r : Rule) (x : List ℕ) → IsFault a s o → o ≡ Some (r, x) → IsRefused a s (error.Broken r x)
fault_refused a s o r x h is = inr (subst (IsFault a s) is h)

pub fault_legal : (a : Algorithm) (s : Schedule) (o : Option (Rule × List ℕ)) → IsFault a s o → o ≡ None → IsLegal a s
fault_legal a s o h is = subst (IsFault a s) is h
