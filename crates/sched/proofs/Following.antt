-- What a schedule says, step by step.
use Rattle.std.proofs.Common.{◌≡◌, ◌≢◌, ◌⊎◌, inl, inr, ⊎_elim, ℕ, ◌≤◌, Bool, true, false, not, ◌||◌, List, Result, Ok, Err, refl, sym, ap, subst, ◌∙◌, arith}
use Rattle.std.specs.Prelude.{Decides, if◌then◌else◌}
use Rattle.std.proofs.lemmas.Bool.{false≢true}
use Rattle.meaning.specs.Algorithm.{Function, Algorithm}
use Rattle.meaning.specs.Names.{is_among}
use Rattle.sched.specs.declared.schedule.Home.{Home}
use Rattle.sched.specs.declared.schedule.Fold.{Fold}
use Rattle.sched.specs.declared.schedule.Split.{Split}
use Rattle.sched.specs.declared.error.Rule.{Rule}
use Rattle.sched.specs.declared.error.Rule.TheVariants as rule
use Rattle.sched.specs.Schedule.{DirectiveText, compute_root, compute_at, store_at, fold as fold_to, split, tile, reorder, unroll, vectorize, parallel, Schedule}
use Rattle.sched.specs.Placing.{SubjectText, PlacedText, is_known, all_known, any_reduction, breaks_split, has_double, breaks_mark, breaks_parallel, cut, applied}
use Rattle.sched.specs.Subjects.{subject_said}
use Rattle.sched.specs.Rules.{after, StepBreaks, IsLowest, number_of}
use Rattle.sched.proofs.Deciding.{among_decides, function_decides, known_decides, all_known_decides, bad_split_decides, bad_reorder_decides, bad_lanes_decides, bad_parallel_decides}

-- ---- one step

least : (r : Rule) → 1 ≤ number_of r
least rule.UnknownName = omega arith
least rule.BadSplit = omega arith
least rule.BadReorder = omega arith
least rule.BadMark = omega arith
least rule.BadParallel = omega arith
least rule.BadHome = omega arith
least rule.BadStorage = omega arith
least rule.BadShift = omega arith
least rule.BadFold = omega arith
least rule.InlineUpdates = omega arith

-- a step makes q, and no rule is broken; or this is the lowest that is
abbrev pub Answers : (Rule → Type 0) → PlacedText → Result PlacedText Rule → Type 0
Answers Broken q (Ok p) = (p ≡ q) × ((r : Rule) → ¬ Broken r)
Answers Broken q (Err r) = IsLowest Broken r

first_is_lowest : (Broken : Rule → Type 0) → Broken rule.UnknownName → IsLowest Broken rule.UnknownName
first_is_lowest Broken h = (h, λ r lt broken. absurd (omega (arith, least r, lt)))

-- two rules alone can be broken, L1 and another
two_tests : (Broken : Rule → Type 0) (q : PlacedText) (other : Rule) (b c : Bool) → Decides b (Broken rule.UnknownName) → Decides c (Broken other) → ((r : Rule) → Broken r → (r ≡ rule.UnknownName) ⊎ (r ≡ other)) → Answers Broken q (if b then Err rule.UnknownName else (if c then Err other else Ok q))
two_tests Broken q other true c d e only = first_is_lowest Broken (d.0 refl)
two_tests Broken q other false true d e only = (
  e.0 refl,
  λ r lt broken. ⊎_elim
      (λ is. false≢true (d.1 (subst Broken is broken)))
      (λ is. let same : number_of r ≡ number_of other = ap number_of is in absurd (omega (arith, same, lt)))
      (only r broken),
)
two_tests Broken q other false false d e only =
    (refl, λ r broken. ⊎_elim (λ is. false≢true (d.1 (subst Broken is broken))) (λ is. false≢true (e.1 (subst Broken is broken))) (only r broken))

-- L1 alone can be broken
one_test : (Broken : Rule → Type 0) (q : PlacedText) (known : Bool) → (known ≡ true → ¬ Broken rule.UnknownName) → (known ≡ false → Broken rule.UnknownName) → ((r : Rule) → Broken r → r ≡ rule.UnknownName) → Answers Broken q (if known then Ok q else Err rule.UnknownName)
one_test Broken q true keeps breaks only = (refl, λ r broken. keeps refl (subst Broken (only r broken) broken))
one_test Broken q false keeps breaks only = first_is_lowest Broken (breaks refl)

-- a tile is no step of its own
abbrev pub IsStep : DirectiveText → Type 0
IsStep (tile t) = ⊥
IsStep d = Unit {0}

module _ (a : Algorithm) (s : Schedule) (f : Function) where
  abbrev F : SubjectText
  F = subject_said a s f

  only_fold : (p : PlacedText) (d : Fold) (r : Rule) → StepBreaks a s f p (fold_to d) r → r ≡ rule.UnknownName
  only_fold p d rule.UnknownName h = refl
  only_fold p d r h = absurd h

  only_split : (p : PlacedText) (c : Split) (r : Rule) → StepBreaks a s f p (split c) r → (r ≡ rule.UnknownName) ⊎ (r ≡ rule.BadSplit)
  only_split p c rule.UnknownName h = inl refl
  only_split p c rule.BadSplit h = inr refl
  only_split p c r h = absurd h

  only_reorder : (p : PlacedText) (xs : List (List ℕ)) (r : Rule) → StepBreaks a s f p (reorder xs) r → (r ≡ rule.UnknownName) ⊎ (r ≡ rule.BadReorder)
  only_reorder p xs rule.UnknownName h = inl refl
  only_reorder p xs rule.BadReorder h = inr refl
  only_reorder p xs r h = absurd h

  only_unroll : (p : PlacedText) (x : List ℕ) (r : Rule) → StepBreaks a s f p (unroll x) r → (r ≡ rule.UnknownName) ⊎ (r ≡ rule.BadMark)
  only_unroll p x rule.UnknownName h = inl refl
  only_unroll p x rule.BadMark h = inr refl
  only_unroll p x r h = absurd h

  only_vectorize : (p : PlacedText) (x : List ℕ) (r : Rule) → StepBreaks a s f p (vectorize x) r → (r ≡ rule.UnknownName) ⊎ (r ≡ rule.BadMark)
  only_vectorize p x rule.UnknownName h = inl refl
  only_vectorize p x rule.BadMark h = inr refl
  only_vectorize p x r h = absurd h

  only_parallel : (p : PlacedText) (x : List ℕ) (r : Rule) → StepBreaks a s f p (parallel x) r → (r ≡ rule.UnknownName) ⊎ (r ≡ rule.BadParallel)
  only_parallel p x rule.UnknownName h = inl refl
  only_parallel p x rule.BadParallel h = inr refl
  only_parallel p x r h = absurd h

  no_root : (p : PlacedText) (r : Rule) → ¬ StepBreaks a s f p compute_root r
  no_root p rule.UnknownName h = h
  no_root p r h = h

  only_at : (p : PlacedText) (h : Home) (r : Rule) → StepBreaks a s f p (compute_at h) r → r ≡ rule.UnknownName
  only_at p h rule.UnknownName b = refl
  only_at p h r b = absurd b

  only_store : (p : PlacedText) (h : Home) (r : Rule) → StepBreaks a s f p (store_at h) r → r ≡ rule.UnknownName
  only_store p h rule.UnknownName b = refl
  only_store p h r b = absurd b

  pub step_told : (p : PlacedText) (d : DirectiveText) → IsStep d → Answers (StepBreaks a s f p d) (after p d) (applied F d p)
  step_told p compute_root k = (refl, no_root p)
  step_told p (compute_at h) k =
      let known = function_decides a h.function in
      one_test (StepBreaks a s f p (compute_at h)) (after p (compute_at h)) (is_among F.functions h.function) known.0 known.1 (only_at p h)
  step_told p (store_at h) k =
      let known = function_decides a h.function in
      one_test (StepBreaks a s f p (store_at h)) (after p (store_at h)) (is_among F.functions h.function) known.0 known.1 (only_store p h)
  step_told p (fold_to d) k =
      let known = among_decides f.variables d.dimension in
      one_test (StepBreaks a s f p (fold_to d)) (after p (fold_to d)) (is_among f.variables d.dimension) (λ e no. no (known.0 e)) (λ e h. false≢true (sym e ∙ known.1 h)) (only_fold p d)
  step_told p (split c) k = two_tests (StepBreaks a s f p (split c)) (cut c p) rule.BadSplit (not (is_known F p.loops c.whole)) (breaks_split F p c) (known_decides a s f p c.whole) (bad_split_decides a s f p c) (only_split p c)
  step_told p (tile t) k = absurd k
  step_told p (reorder xs) k = two_tests (StepBreaks a s f p (reorder xs)) (after p (reorder xs)) rule.BadReorder (not (all_known F p.loops xs)) (any_reduction F xs || has_double xs) (all_known_decides a s f p xs) (bad_reorder_decides a s f xs) (only_reorder p xs)
  step_told p (unroll x) k = two_tests (StepBreaks a s f p (unroll x)) (after p (unroll x)) rule.BadMark (not (is_known F p.loops x)) (is_among F.reductions x || breaks_mark p.loops x) (known_decides a s f p x) (bad_lanes_decides a s f p x) (only_unroll p x)
  step_told p (vectorize x) k = two_tests (StepBreaks a s f p (vectorize x)) (after p (vectorize x)) rule.BadMark (not (is_known F p.loops x)) (is_among F.reductions x || breaks_mark p.loops x) (known_decides a s f p x) (bad_lanes_decides a s f p x) (only_vectorize p x)
  step_told p (parallel x) k = two_tests (StepBreaks a s f p (parallel x)) (after p (parallel x)) rule.BadParallel (not (is_known F p.loops x)) (is_among F.reductions x || not F.is_root || breaks_parallel F p.loops x) (known_decides a s f p x) (bad_parallel_decides a s f p x) (only_parallel p x)
