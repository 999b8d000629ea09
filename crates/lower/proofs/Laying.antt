-- The loops of a region that was found are those of the skeleton over it.
-- What crates below need of it stands there: `blocks`.
use Rattle.std.proofs.Common.{◌≡◌, ℕ, zero, suc, Bool, true, false, List, [], ◌∷◌, Option, Some, None, refl, sym, ap, subst, ◌∙◌}
use Rattle.std.specs.Prelude.{if◌then◌else◌}
use Rattle.meaning.specs.Algorithm.{Algorithm}
use Rattle.sched.specs.declared.numbers.Extent.{Extent}
use Rattle.sched.specs.Skeleton.{SkeletonText}
use Rattle.sched.specs.Standing.{◌>>=◌}
use Rattle.regions.specs.declared.regions.Ends.{Ends}
use Rattle.sched.specs.Stored.{FormulaText, StoredText}
use Rattle.sched.specs.Around.{head_scope}
use Rattle.sched.specs.Regions.{LaidText}
use Rattle.regions.specs.Regions.{add_all_own, region_of, same_region, skeleton_of, over, closed, reach_of, laid_over, laid_by, laid_within, laid_functions}
use Rattle.lower.specs.Groups.{IsOverRegion, AreOverRegions}
use Rattle.blocks.proofs.Laying.{bound, same}

abbrev pub IsLaidOver : StoredText → List FormulaText → LaidText → Type 0
IsLaidOver g fs x = skeleton_of g fs x.region ≡ Some x.skeleton

over_it : (g : StoredText) (fs : List FormulaText) (region : List Extent) (x : LaidText) → over g fs region ≡ Some x → IsLaidOver g fs x
over_it g fs region x h =
    let made : SkeletonText → LaidText = λ s. record { region = region; skeleton = s } in
    let b = bound (skeleton_of g fs region) (λ s. Some (made s)) x h in
    subst (IsLaidOver g fs) (same (made b.value) x b.comes) b.is

module _ (a : Algorithm) (g : StoredText) (fs : List FormulaText) where
  if_same : (b : Bool) (l x : LaidText) (o : Option LaidText) → IsLaidOver g fs l → (o ≡ Some x → IsLaidOver g fs x) → (if b then Some l else o) ≡ Some x → IsLaidOver g fs x
  if_same true l x o is f h = subst (IsLaidOver g fs) (same l x h) is
  if_same false l x o is f h = f h

  closed_it : (k : ℕ) (reach : List (Option Ends)) (l x : LaidText) → IsLaidOver g fs l → closed a g fs k reach l ≡ Some x → IsLaidOver g fs x
  closed_it zero reach l x is h = subst (IsLaidOver g fs) (same l x h) is
  closed_it (suc k) reach l x is h =
      let again : List (Option Ends) → List Extent → Option LaidText = λ wider region. over g fs region >>= closed a g fs k wider in
      let step : List (Option Ends) → List Extent → Option LaidText = λ wider region. if same_region l.region region then Some l else again wider region in
      let b = bound (add_all_own a g (head_scope l.skeleton) 0 fs l.skeleton.nests reach) (λ wider. region_of g.subject.is_root wider >>= step wider) x h in
      let c = bound (region_of g.subject.is_root b.value) (step b.value) x b.comes in
      if_same (same_region l.region c.value) l x (again b.value c.value) is
      (λ e. let d = bound (over g fs c.value) (closed a g fs k b.value) x e in closed_it k b.value d.value x (over_it g fs c.value d.value d.is) d.comes) c.comes

  pub laid_it : (reach : List (Option Ends)) (x : LaidText) → laid_over a g fs reach ≡ Some x → IsLaidOver g fs x
  laid_it reach x h =
      let b = bound (region_of g.subject.is_root reach >>= over g fs) (closed a g fs 4 reach) x h in
      let c = bound (region_of g.subject.is_root reach) (over g fs) b.value b.is in
      closed_it 4 reach b.value x (over_it g fs c.value b.value c.comes) b.comes

pub laid_over_it : (a : Algorithm) (g : StoredText) (later : List StoredText) (found : List (Option LaidText)) (fs : List FormulaText) (x : LaidText)
    → g.formulas ≡ Some fs → laid_within a g later found ≡ Some x → IsLaidOver g fs x
laid_over_it a g later found fs x e h =
    let is : laid_by a g (Some fs) later found ≡ Some x = ap (λ o. laid_by a g o later found) (sym e) ∙ h in
    let b = bound (reach_of a g later found) (laid_over a g fs) x is in
    laid_it a g fs b.value x b.comes

each_over : (a : Algorithm) (g : StoredText) (gs : List StoredText) (o : Option LaidText) (p : Option (List FormulaText)) → g.formulas ≡ p → laid_within a g gs (laid_functions a gs) ≡ o
    → IsOverRegion g o p
each_over a g gs None p e h = tt
each_over a g gs (Some l) None e h = tt
each_over a g gs (Some l) (Some fs) e h = laid_over_it a g gs (laid_functions a gs) fs l e h

all_over : (a : Algorithm) (gs : List StoredText) → AreOverRegions gs (laid_functions a gs)
all_over a [] = tt
all_over a (g ∷ gs) = (each_over a g gs (laid_within a g gs (laid_functions a gs)) g.formulas refl refl, all_over a gs)

pub needed_over : (a : Algorithm) (gs : List StoredText) (ls : List (Option LaidText)) → ls ≡ laid_functions a gs → AreOverRegions gs ls
needed_over a gs ls h = subst (AreOverRegions gs) (sym h) (all_over a gs)
