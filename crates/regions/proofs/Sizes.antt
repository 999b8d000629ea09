-- The first function of which a rule is told, as far as it goes by the sizes of definitions.
use Rattle.std.proofs.Common.{◌≡◌, Bool, true, false, Option, Some, None, ap}
use Rattle.std.specs.Prelude.{map}
use Rattle.std.specs.Option.{option_map}
use Rattle.std.specs.Global.{Vec}
use Rattle.sched.specs.declared.definitions.Formula.{Formula}
use Rattle.sched.specs.declared.definitions.Stored.{Stored}
use Rattle.regions.specs.Stored.{is_large}
use Rattle.sched.specs.Stored.{formula_of, stored_of}

-- ---- one function

abbrev large_with : Stored → Option (Vec Formula) → Bool
large_with s o = is_large (record (stored_of s) { formulas = option_map (λ v. map formula_of v.items) o })

pub small_at : (s : Stored) (v : Vec Formula) → s.formulas ≡ Some v → is_large (stored_of s) ≡ false
small_at s v e = ap (large_with s) e

pub large_at : (s : Stored) → s.formulas ≡ None → is_large (stored_of s) ≡ true
large_at s e = ap (large_with s) e
