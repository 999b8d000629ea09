-- The schedule that is written out with shifted blocks and with guards of their own lines splits loops once, by computation.
use Rattle.std.proofs.Common.{◌≡◌, ℕ, ◌≤◌, zero, suc, List, [], Option, Some, None, map, refl, sym, ap, ◌∙◌, subst, arith}
use Rattle.std.specs.Prelude.{slice_get}
use Rattle.std.specs.List.{AllByRecursion}
use Rattle.meaning.specs.Algorithm.{Function}
use Rattle.sched.specs.Subjects.{subject_said}
use Rattle.sched.specs.Legal.{said, loops_after}
use Rattle.sched.specs.Regions.{LaidText}
use Rattle.regions.specs.Regions.{laid_functions}
use Rattle.blocks.specs.Bodies.{step_lines}
use Rattle.sched.specs.Stored.{FormulaText, StoredText}
use Rattle.blocks.specs.Stored.{stored_by, flags}
use Rattle.lower.specs.Stored.{stored_functions}
use Rattle.completeness.specs.Fitting.{IsSplitOnce, SplitsOnce}
use Rattle.completeness.specs.OfPlans.{formula_nodes, AreFormulasSmall}
use Rattle.completeness.specs.Worked.{reader, caller, two_functions, shifted_split, SplitsOnceFill}
use Rattle.completeness.proofs.Owned.{some_same}

abbrev gs : List StoredText
gs = stored_functions two_functions shifted_split

abbrev stored_as : Function → StoredText
stored_as f =
    stored_by two_functions (flags (map (subject_said two_functions shifted_split) two_functions.functions)) f.variables f.value f.changes
    (subject_said two_functions shifted_split f) (loops_after (said shifted_split) f)

abbrev first : StoredText
first = stored_as reader

abbrev second : StoredText
second = stored_as caller

-- what is so of both is so of each stored function
each : (P : StoredText → Type 0) → P first → P second → (n : ℕ) (u : StoredText) → slice_get gs n ≡ Some u → P u
each P one two zero u at = subst P (some_same first u at) one
each P one two (suc zero) u at = subst P (some_same second u at) two
each P one two (suc (suc n)) u at = absurd (no_more u at)
  where
    no_more : (u : StoredText) → None ≡ Some u → ⊥
    no_more u q = cc q

first_once : IsSplitOnce first
first_once = record { once = (refl, tt); inners = (refl, refl, tt) }

second_once : IsSplitOnce second
second_once = record { once = (refl, (refl, tt)); inners = (refl, refl, (refl, refl, tt)) }

once : SplitsOnce two_functions shifted_split
once = record { whole = refl; once = each IsSplitOnce first_once second_once }

formulas_in : Option (List FormulaText) → List FormulaText
formulas_in (Some fs) = fs
formulas_in None = []

abbrev AreFew : List FormulaText → Type 0
AreFew fs = AllByRecursion (λ f. formula_nodes f ≤ 3500) fs

first_few : AreFew (formulas_in first.formulas)
unfolding formulas_in
first_few = (omega arith, (omega arith, tt))

second_few : AreFew (formulas_in second.formulas)
unfolding formulas_in
second_few = (omega arith, tt)

as_found : (u : StoredText) (fs : List FormulaText) → u.formulas ≡ Some fs → formulas_in u.formulas ≡ fs
unfolding formulas_in
as_found u fs e = ap formulas_in e

small : AreFormulasSmall two_functions shifted_split
small n u at fs e = subst AreFew (as_found u fs e) (each (λ (v : StoredText). AreFew (formulas_in v.formulas)) first_few second_few n u at)

-- ---- lines

laid_in : Option (Option LaidText) → LaidText
laid_in (Some (Some l)) = l
laid_in _ = record { region = []; skeleton = record { grid = []; head = []; nests = []; known = []; starts = [] } }

as_laid : (o : Option (Option LaidText)) (r : LaidText) → o ≡ Some (Some r) → laid_in o ≡ r
unfolding laid_in
as_laid o r e = ap laid_in e

abbrev laid_at : ℕ → Option (Option LaidText)
laid_at n = slice_get (laid_functions two_functions gs) n

abbrev HasNine : LaidText → Type 0
HasNine r = AllByRecursion (λ w. step_lines w.steps ≡ 9) r.skeleton.nests

head_is : step_lines (laid_in (laid_at 1)).skeleton.head ≡ 1
unfolding laid_in
head_is = refl

first_nine : HasNine (laid_in (laid_at 0))
unfolding laid_in
first_nine = (refl, (refl, tt))

second_nine : HasNine (laid_in (laid_at 1))
unfolding laid_in
second_nine = (refl, tt)

nine : (n : ℕ) (r : LaidText) → laid_at n ≡ Some (Some r) → HasNine r
nine zero r e = subst HasNine (as_laid (laid_at 0) r e) first_nine
nine (suc zero) r e = subst HasNine (as_laid (laid_at 1) r e) second_nine
nine (suc (suc n)) r e = absurd (no_more r e)
  where
    no_more : (r : LaidText) → None ≡ Some (Some r) → ⊥
    no_more r q = cc q

pub splits_are_once : SplitsOnceFill
splits_are_once = record { once = once; small = small; head = λ r e. ap (λ (y : LaidText). step_lines y.skeleton.head) (sym (as_laid (laid_at 1) r e)) ∙ head_is; nests = nine }
