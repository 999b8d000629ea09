use Rattle.std.proofs.Common.{sym, subst, map, w64, rules}
use Rattle.numeric.specs.Wrap.{IsOf}
use Rattle.numeric.specs.declared.ty.Ty.TheVariants.{I32}
use Rattle.std.proofs.lemmas.Int.{to_z-of_z}
use Rattle.meaning.proofs.Types.{bound_is}
use Rattle.plain.specs.Works.{bound_name, bound_number}
use Rattle.plain.proofs.scope.ScopeEnv.value.Goals as goal

pub returns-clause-within : goal.returns-clause-within
returns-clause-within c =
    let s = c.args.self.now in
    subst (IsOf I32) (sym (to_z-of_z w64 c.bound.result (search rules))) (subst (IsOf I32) (sym c.bound.ensures) (bound_is (map bound_name s.bindings.now) (map bound_number s.bindings.now) c.args.name.now s.indices))
