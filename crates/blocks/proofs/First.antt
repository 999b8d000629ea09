-- The first function that breaks a rule by its region, where each is a whole function.
use Rattle.std.proofs.Common.{◌≡◌, map, Option, Some, None, ap}
use Rattle.std.specs.Option.{option_map}
use Rattle.std.specs.Global.{Vec}
use Rattle.blocks.specs.declared.legality.Totals.{Totals}
use Rattle.sched.specs.declared.definitions.Formula.{Formula}
use Rattle.sched.specs.declared.definitions.Stored.{Stored}
use Rattle.sched.specs.Stored.{formula_of, stored_of}
use Rattle.sched.specs.Regions.{LaidText}
use Rattle.blocks.specs.Faults.{totals_by, totals_with}

-- ---- the definitions of a stored function

pub formulas_at : (s : Stored) (v : Vec Formula) → s.formulas ≡ Some v → (stored_of s).formulas ≡ Some (map formula_of v.items)
formulas_at s v e = ap (option_map (λ (w : Vec Formula). map formula_of w.items)) e

pub no_formulas : (s : Stored) → s.formulas ≡ None → (stored_of s).formulas ≡ None
no_formulas s e = ap (option_map (λ (w : Vec Formula). map formula_of w.items)) e

pub totals_found : (t : Totals) (s : Stored) (v : Vec Formula) (l : Option LaidText) → s.formulas ≡ Some v → totals_with t (stored_of s) l ≡ totals_by t (Some (map formula_of v.items)) l
totals_found t s v l e = ap (λ o. totals_by t o l) (formulas_at s v e)

pub totals_large : (t : Totals) (s : Stored) (l : Option LaidText) → s.formulas ≡ None → totals_with t (stored_of s) l ≡ t
totals_large t s l e = ap (λ o. totals_by t o l) (no_formulas s e)
