-- The schedule that is written out is a core schedule, by computation.
use Rattle.std.proofs.Common.{◌≡◌, ℕ, zero, suc, List, [], ◌∷◌, Option, Some, None, map, refl, sym, ap, ◌∙◌, subst}
use Rattle.std.specs.Prelude.{slice_get}
use Rattle.meaning.specs.Algorithm.{Function}
use Rattle.sched.specs.Subjects.{subject_said}
use Rattle.sched.specs.Legal.{said, loops_after}
use Rattle.sched.specs.Stored.{FormulaText, StoredText}
use Rattle.blocks.specs.Stored.{stored_by, flags}
use Rattle.lower.specs.Stored.{stored_functions}
use Rattle.sched.specs.Regions.{LaidText}
use Rattle.regions.specs.Regions.{laid_functions}
use Rattle.blocks.specs.Bodies.{step_lines}
use Rattle.completeness.specs.Fitting.{IsSplitOnce}
use Rattle.completeness.specs.Simple.{SimpleIndices}
use Rattle.completeness.specs.Worked.{reader, caller, two_functions, both_split, SplitsFill}
use Rattle.completeness.proofs.Owned.{some_same}

abbrev gs : List StoredText
gs = stored_functions two_functions both_split

-- ---- what is stored

abbrev stored_as : Function → StoredText
stored_as f =
    stored_by two_functions (flags (map (subject_said two_functions both_split) two_functions.functions)) f.variables f.value f.changes (subject_said two_functions both_split f)
    (loops_after (said both_split) f)

abbrev first : StoredText
first = stored_as reader

abbrev second : StoredText
second = stored_as caller

first_is : (u : StoredText) → slice_get gs 0 ≡ Some u → first ≡ u
first_is u at = some_same first u at

second_is : (u : StoredText) → slice_get gs 1 ≡ Some u → second ≡ u
second_is u at = some_same second u at

first_once : IsSplitOnce first
first_once = record { once = (refl, (refl, tt)); inners = (refl, refl, (refl, refl, tt)) }

second_once : IsSplitOnce second
second_once = record { once = (refl, (refl, tt)); inners = (refl, refl, (refl, refl, tt)) }

once : (n : ℕ) (u : StoredText) → slice_get gs n ≡ Some u → IsSplitOnce u
once zero u at = subst IsSplitOnce (first_is u at) first_once
once (suc zero) u at = subst IsSplitOnce (second_is u at) second_once
once (suc (suc n)) u at = absurd (no_more u at)
  where
    no_more : (u : StoredText) → None ≡ Some u → ⊥
    no_more u q = cc q

formulas_in : Option (List FormulaText) → List FormulaText
formulas_in (Some fs) = fs
formulas_in None = []

laid_in : Option (Option LaidText) → LaidText
laid_in (Some (Some l)) = l
laid_in _ = record { region = []; skeleton = record { grid = []; head = []; nests = []; known = []; starts = [] } }

abbrev laid_first : LaidText
laid_first = laid_in (slice_get (laid_functions two_functions gs) 0)

abbrev laid_second : LaidText
laid_second = laid_in (slice_get (laid_functions two_functions gs) 1)

as_found : (g u : StoredText) (fs : List FormulaText) → g ≡ u → u.formulas ≡ Some fs → formulas_in g.formulas ≡ fs
unfolding formulas_in
as_found g u fs is e = ap (λ (v : StoredText). formulas_in v.formulas) is ∙ ap formulas_in e

as_laid : (n : ℕ) (r : LaidText) → slice_get (laid_functions two_functions gs) n ≡ Some (Some r) → laid_in (slice_get (laid_functions two_functions gs) n) ≡ r
unfolding laid_in
as_laid n r at = ap laid_in at

-- the indices of both are simple
first_simple : SimpleIndices (formulas_in first.formulas)
unfolding formulas_in
first_simple = (refl, (refl, tt))

second_simple : SimpleIndices (formulas_in second.formulas)
unfolding formulas_in
second_simple = (refl, tt)

simple : (n : ℕ) (u : StoredText) → slice_get gs n ≡ Some u → (fs : List FormulaText) → u.formulas ≡ Some fs → SimpleIndices fs
simple zero u at fs e = subst SimpleIndices (as_found first u fs (first_is u at) e) first_simple
simple (suc zero) u at fs e = subst SimpleIndices (as_found second u fs (second_is u at) e) second_simple
simple (suc (suc n)) u at fs e = absurd (no_more u at)
  where
    no_more : (u : StoredText) → None ≡ Some u → ⊥
    no_more u q = cc q

-- how many lines there are over the grid, and in each nest before its store
head_lines : step_lines laid_second.skeleton.head ≡ 1
unfolding laid_in
head_lines = refl

abbrev nest_lines : LaidText → List ℕ
nest_lines r = map (λ w. step_lines w.steps) r.skeleton.nests

first_lines : nest_lines laid_first ≡ 11 ∷ 9 ∷ []
unfolding laid_in
first_lines = refl

second_lines : nest_lines laid_second ≡ 7 ∷ []
unfolding laid_in
second_lines = refl

pub splits_are_plain : SplitsFill
splits_are_plain = record {
  core = record { once = record { whole = refl; once = once }; simple = simple };
  head = λ r e. ap (λ (y : LaidText). step_lines y.skeleton.head) (sym (as_laid 1 r e)) ∙ head_lines;
  first = λ r e. ap nest_lines (sym (as_laid 0 r e)) ∙ first_lines;
  second = λ r e. ap nest_lines (sym (as_laid 1 r e)) ∙ second_lines;
}
