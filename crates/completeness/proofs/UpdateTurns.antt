-- The nest of an update of a function whose loops are neither split nor parallel: the loops of the variables that it has, and those of its reduction variables, one for
-- each range, by its name, over its numbers. Each name stands once.
use Rattle.std.proofs.Common.{◌≡◌, ℕ, zero, suc, ◌+◌, ◌≤◌, Bool, true, false, List, [], ◌∷◌, ◌++◌, length, map, drop, Option, Some, None, refl, sym, ap, ◌∙◌, subst}
use Rattle.std.proofs.Common.{arith}
use Rattle.std.specs.Prelude.{if◌then◌else◌, filter, slice_get}
use Rattle.std.specs.List.{AllByRecursion}
use Rattle.std.proofs.lemmas.List.Elements.{recursion_from_All}
use Rattle.meaning.specs.Algorithm.{Range, Change, Function, Algorithm}
use Rattle.meaning.specs.Names.{same_name}
use Rattle.meaning.specs.Conditions.{AreDistinct, IsRange, IsAlgorithm}
use Rattle.meaning.proofs.Back.{update_is}
use Rattle.soundness.specs.Given.{function_named, update_in}
use Rattle.soundness.specs.Nests.Laws.{ranges_in, domains_of}
use Rattle.sched.specs.Schedule.{Schedule}
use Rattle.sched.specs.Subjects.{reductions_of}
use Rattle.sched.specs.declared.placing.Loop.{Loop}
use Rattle.sched.specs.declared.nest.Turning.{Turning}
use Rattle.sched.specs.Skeleton.{BodyText, range_turning}
use Rattle.sched.specs.Stored.{FormulaText, StoredText}
use Rattle.blocks.specs.Stored.{flags}
use Rattle.lower.specs.Stored.{stored_functions}
use Rattle.sched.specs.Around.{range_names, ranges_of}
use Rattle.regions.specs.Regions.{turnings, bodies_from}
use Rattle.completeness.proofs.Laid.{subjects, found}
use Rattle.completeness.proofs.Defined.{other_put}
use Rattle.completeness.proofs.Written.{first_ranges, behind_first, gone, later, ranges_here}
use Rattle.completeness.proofs.ClaimLines.{named_here}
use Rattle.completeness.proofs.PublishShown.{named_alike}
use Rattle.completeness.proofs.PlainTurns.{one_if, hits, itself}
use Rattle.completeness.proofs.PureNests.{loop_name}

-- ---- an update of a stored function

pub record IsKnownUpdate (a : Algorithm) (g : StoredText) (i : ℕ) : Type 0 where
  pub change : Change
  pub ranges : ranges_of g.changes (suc i) ≡ change.ranges
  pub reductions : g.subject.reductions ≡ reductions_of g.changes
  pub names : AreDistinct (g.subject.variables ++ range_names change.ranges)
  pub within : AllByRecursion IsRange change.ranges
  pub domain : domains_of a g.subject.name (suc i) ≡ Some change.ranges

pub known_update : (a : Algorithm) (s : Schedule) → IsAlgorithm a → (n : ℕ) (g : StoredText) → slice_get (stored_functions a s) n ≡ Some g → (fs : List FormulaText) → g.formulas ≡ Some fs →
    (i : ℕ) (u : FormulaText) → slice_get fs (suc i) ≡ Some u → IsKnownUpdate a g i
known_update a s well n g at fs defined i u there =
    let w = found a s (flags (subjects a s)) g a.functions n at in
    let f = w.function in
    let o = other_put a (flags (subjects a s)) f.variables f.value f.changes fs i u (ap (λ (v : StoredText). v.formulas) (sym w.is) ∙ defined) there in
    let is = update_is a w.place f well w.at i o.change o.at in
    let named : function_named a.functions f.name ≡ Some f = named_alike a.functions f.name ∙ named_here a well w.place f w.at in
    subst (λ (v : StoredText). IsKnownUpdate a v i) (sym w.is) (record {
      change = o.change;
      ranges = ap (λ (c : Option Change). elim c [ Some u ↦ u.ranges | None ↦ [] ]) o.at;
      reductions = refl;
      names = is.names;
      within = recursion_from_All IsRange o.change.ranges is.domain.ranges;
      domain = ap (λ (v : Option Function). ranges_in (update_in v (suc i))) named ∙ ap ranges_in o.at;
    })

-- ---- the loops of reduction variables

turnings_are : (rs : List Range) (others : List (List ℕ)) → turnings rs (range_names rs ++ others) ≡ map range_turning rs
turnings_are [] others = refl
turnings_are (r ∷ rs) others = ap (λ (ts : List Turning). range_turning r ∷ ts) (turnings_are rs others)

first_turned : (us : List Change) → turnings (first_ranges us) (reductions_of us) ≡ map range_turning (first_ranges us)
first_turned [] = refl
first_turned (u ∷ us) = turnings_are u.ranges (reductions_of us)

some_body : (c d : BodyText) → Some c ≡ Some d → c ≡ d
some_body c d q = cc q

module _ (every : List Change) where
  ranges_are : (us : List Change) (i k : ℕ) → k ≡ suc i → ((j : ℕ) → slice_get every (i + j) ≡ slice_get us j) → (fs : List FormulaText) (d : ℕ) (b : BodyText) →
      slice_get (bodies_from every k (reductions_of us) fs) d ≡ Some b → b.ranges ≡ map range_turning (ranges_of every (k + d))
  ranges_are us i k e stands [] d b at = absurd (cc at)
  ranges_are us i k e stands (f ∷ fs) zero b at =
      let none : i + 0 ≡ i = omega arith in
      let here = ranges_here every us i k e (ap (slice_get every) (sym none) ∙ stands 0) in
      let same : k ≡ k + 0 = omega arith in
      ap (λ (c : BodyText). c.ranges) (sym (some_body _ b at)) ∙ ap (λ (rs : List Range). turnings rs (reductions_of us)) here ∙ first_turned us ∙ ap (map range_turning) (sym here)
      ∙ ap (λ (m : ℕ). map range_turning (ranges_of every m)) same
  ranges_are us i k e stands (f ∷ fs) (suc d) b at =
      let none : i + 0 ≡ i = omega arith in
      let here = ranges_here every us i k e (ap (slice_get every) (sym none) ∙ stands 0) in
      let rest : drop (length (ranges_of every k)) (reductions_of us) ≡ reductions_of (behind_first us) = ap (λ (rs : List Range). drop (length rs) (reductions_of us)) here ∙ gone us in
      let next : (k + 1) + d ≡ k + suc d = omega arith in
      ranges_are (behind_first us) (i + 1) (k + 1) (omega (arith, e)) (λ j. let after : (i + 1) + j ≡ i + suc j = omega arith in ap (slice_get every) after ∙ stands (suc j) ∙ later us j) fs d b
      (ap (λ (xs : List (List ℕ)). slice_get (bodies_from every (k + 1) xs fs) d) (sym rest) ∙ at) ∙ ap (λ (m : ℕ). map range_turning (ranges_of every m)) next

pub ranges_turned : (us : List Change) (fs : List FormulaText) (d : ℕ) (b : BodyText) → slice_get (bodies_from us 0 (reductions_of us) fs) d ≡ Some b → b.ranges ≡ map range_turning (ranges_of us d)
ranges_turned us [] d b at = absurd (cc at)
ranges_turned us (f ∷ fs) zero b at = ap (λ (c : BodyText). c.ranges) (sym (some_body _ b at))
ranges_turned us (f ∷ fs) (suc d) b at =
    let next : 1 + d ≡ suc d = omega arith in
    ranges_are us us 0 1 refl (λ j. let none : 0 + j ≡ j = omega arith in ap (slice_get us) none) fs d b at ∙ ap (λ (m : ℕ). map range_turning (ranges_of us m)) next

-- ---- names of coordinates: none, where an expression finds it

abbrev pub range_name : Range → Option (List ℕ)
range_name d = Some d.variable

abbrev pub hits_in : List ℕ → List (Option (List ℕ)) → ℕ
hits_in y [] = 0
hits_in y (None ∷ os) = hits_in y os
hits_in y (Some x ∷ os) = one_if (same_name x y) + hits_in y os

pub ranges_hits : (y : List ℕ) (ds : List Range) → hits_in y (map range_name ds) ≡ hits itself y (range_names ds)
ranges_hits y [] = refl
ranges_hits y (d ∷ ds) = (let rest = ranges_hits y ds in omega (arith, rest))

-- ---- names of loops

module _ (f : Loop → Bool) where
  pub hits_fewer : (y : List ℕ) (ls : List Loop) → hits loop_name y (filter f ls) ≤ hits loop_name y ls
  hits_fewer y [] = omega arith
  hits_fewer y (o ∷ ls) = of (f o) (hits_fewer y ls)
    where
      of : (t : Bool) → hits loop_name y (filter f ls) ≤ hits loop_name y ls →
          hits loop_name y (if t then o ∷ filter f ls else filter f ls) ≤ one_if (same_name o.name y) + hits loop_name y ls
      of true h = omega (arith, h)
      of false h = omega (arith, h)

-- ---- lists

pub all_filtered : {A : Type 0} (f : A → Bool) (P Q : A → Type 0) → ((x : A) → f x ≡ true → P x → Q x) → (xs : List A) → AllByRecursion P xs → AllByRecursion Q (filter f xs)
all_filtered f P Q g [] h = tt
all_filtered f P Q g (x ∷ xs) h = of (f x) refl (all_filtered f P Q g xs h.1)
  where
    of : (t : Bool) → f x ≡ t → AllByRecursion Q (filter f xs) → AllByRecursion Q (if t then x ∷ filter f xs else filter f xs)
    of true e rest = (g x e h.0, rest)
    of false e rest = rest

pub all_mapped : {A B : Type 0} (g : A → B) (Q : B → Type 0) (xs : List A) → AllByRecursion (λ x. Q (g x)) xs → AllByRecursion Q (map g xs)
all_mapped g Q [] h = tt
all_mapped g Q (x ∷ xs) h = (h.0, all_mapped g Q xs h.1)
