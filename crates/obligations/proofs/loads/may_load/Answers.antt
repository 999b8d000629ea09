use Rattle.std.proofs.Common.{◌≡◌, true, sym, ◌∙◌, rules}
use Rattle.std.specs.Prelude.{◌==◌, ◌&&◌}
use Rattle.soundness.specs.Obligations.{Updating, serves}
use Rattle.soundness.specs.Outline.View.{outline_in}
use Rattle.obligations.specs.Loads.{is_own, known_in}
use Rattle.obligations.proofs.Bound.{any_nests}
use Rattle.obligations.proofs.Loading.{may_own}
use Rattle.obligations.proofs.loads.may_load.Goals as goal

pub returns-then-is_own : goal.returns-then-is_own
returns-then-is_own g c =
    let O = outline_in c.args.judge.now.outlined.now in
    let R = g.B.Bounds.rules c.args.judge.now.bounds.now in
    let r = c.args.reads.now in
    let own : is_own O r c.args.claim ≡ true = first_of (cc, search rules) in
    c.is_served.ensures
    ∙ sym (any_nests (λ (u : Updating). (u.before == c.args.claim) && serves O R r.buffer r.function.now r.definition u) r.updating.now)
    ∙ sym (may_own O R (known_in r) r.buffer r.function.now r.definition c.args.claim own)
