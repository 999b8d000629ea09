-- The first function that breaks a rule, as it is found one function after another.
use Rattle.std.proofs.Common.{◌≡◌, true, false, map, Option, Some, None, sym, ap, ◌∙◌}
use Rattle.std.specs.Prelude.{if◌then◌else◌}
use Rattle.std.specs.Global.{Vec}
use Rattle.sched.specs.declared.definitions.Formula.{Formula}
use Rattle.sched.specs.declared.definitions.Stored.{Stored}
use Rattle.blocks.specs.declared.legality.Totals.{Totals}
use Rattle.blocks.specs.Broken.{totals_of}
use Rattle.blocks.specs.Faults.{totals_by, totals_with}
use Rattle.sched.specs.Regions.{LaidText}
use Rattle.sched.specs.Stored.{StoredText, formula_of, stored_of}
use Rattle.blocks.proofs.First.{totals_found, totals_large}

-- ---- what counts

module _ (t : Totals) where
  pub of_other : (g : StoredText) (l : Option LaidText) → g.subject.is_root ≡ false → t ≡ totals_of t g l
  of_other g l e = ap (λ b. if b then totals_with t g l else t) (sym e)

  of_root : (g : StoredText) (l : Option LaidText) (u : Totals) → g.subject.is_root ≡ true → u ≡ totals_with t g l → u ≡ totals_of t g l
  of_root g l u e h = h ∙ ap (λ b. if b then totals_with t g l else t) (sym e)

  pub of_large : (s : Stored) (l : Option LaidText) → (stored_of s).subject.is_root ≡ true → s.formulas ≡ None → t ≡ totals_of t (stored_of s) l
  of_large s l e h = of_root (stored_of s) l t e (sym (totals_large t s l h))

  pub of_found : (s : Stored) (v : Vec Formula) (l : Option LaidText) (u : Totals) → (stored_of s).subject.is_root ≡ true → s.formulas ≡ Some v
      → u ≡ totals_by t (Some (map formula_of v.items)) l → u ≡ totals_of t (stored_of s) l
  of_found s v l u e h is = of_root (stored_of s) l u e (is ∙ sym (totals_found t s v l h))
