use Rattle.std.proofs.Common.{◌^◌, lit<}
use Rattle.lin.specs.Forms.{AreWithin, IsWithin}
use Rattle.std.proofs.lemmas.Int.{to_z-of_z}
use Rattle.lin.proofs.TermLemmas.{factor_of-within}
use Rattle.lin.proofs.Limits.{within_limits-terms}
use Rattle.lin.proofs.Machine.{within_fits}
use Rattle.lin.proofs.form.Lin.factor.Goals as goal
use mir.Val.{SFits}
use mir.Syntax.{w64}

pub returns-clause-small : goal.returns-clause-small
returns-clause-small c = λ h.
    let terms : AreWithin (2 ^ 20) c.terms.result.now = rw c.terms.ensures.value (within_limits-terms c.args.self.now h) in
    let bound : IsWithin (2 ^ 20) c.factor_in.result = rw c.factor_in.ensures (factor_of-within (2 ^ 20) c.terms.result.now c.args.symbol c.terms.ensures.canonical terms) in
    let fits : SFits w64 c.factor_in.result = within_fits (2 ^ 20) c.factor_in.result bound (lit< tt) in
    rw to_z-of_z bound
