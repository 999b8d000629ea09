use Rattle.std.proofs.Common.{◌≡◌, ◌∙◌, ℕ, length, arith, ap, refl, sym}
use Rattle.std.specs.Prelude.{IsTrue, ◌↔◌}
use Rattle.std.proofs.lemmas.Bool.{false≢true}
use Rattle.plan.specs.Plan.{Plan}
use Rattle.plan.specs.View.{plan_of}
use Rattle.plan.specs.Certificate.Certificate.{Certificate, certificate_of}
use Rattle.lin.proofs.Limits.{if_ok}
use Rattle.shares.specs.declared.stop.Stop.TheVariants.{Memory}
use Rattle.shares.specs.Layout.{fetched_list}
use Rattle.shares.specs.Owned.{IsLeftAlone}
use Rattle.shares.proofs.Alone.{served_alone, stopped_alone}
use Rattle.shares.proofs.Owning.{of_group, not_of_group}
use Rattle.shares.proofs.own.is_left_alone.Goals as goal

pub returns-then-index-group : goal.returns-then-index-group
returns-then-index-group c =
    let x = c.args.layout.now in
    let p : Plan = plan_of x.plan.now in
    let cert : Certificate = certificate_of x.cert.now in
    let n = c.args.group in
    ((λ e. absurd (false≢true e)), (λ left. absurd (not_of_group x c.requires.layout c.args.piece c.index.result.now c.requires.piece c.index.ensures n c.if-index-group.true left.0)))

pub returns-in-Ok : goal.returns-in-Ok
returns-in-Ok c =
    let x = c.args.layout.now in
    let p : Plan = plan_of x.plan.now in
    let cert : Certificate = certificate_of x.cert.now in
    let n = c.args.group in
    let few = c.in-Ok.ensures.few in
    let list = ap length c.in-Ok.ensures.list in
    let none : length (fetched_list p c.args.piece) ≡ 0 = omega (arith, few, list) in
    ((λ e. absurd (false≢true e)), (λ left. absurd (left.1 (served_alone p cert n c.requires.alone c.args.piece left.0 c.in-Ok.ensures.known none))))

pub returns : goal.returns
returns c =
    let x = c.args.layout.now in
    let p : Plan = plan_of x.plan.now in
    let cert : Certificate = certificate_of x.cert.now in
    let n = c.args.group in
    let is = of_group x c.requires.layout c.args.piece c.index.result.now c.requires.piece c.index.ensures n c.if-index-group.false in
    if_ok c.is_told.result (λ told. IsTrue told × ¬ (c.in-Err.stop ≡ Memory)) (λ told. IsTrue told ↔ IsLeftAlone p cert n c.args.piece)
    (λ told k. ((λ _. (is, stopped_alone p cert n c.requires.alone c.args.piece is c.in-Err.stop c.in-Err.ensures.stop k.1)), (λ _. k.0))) c.is_told.ensures
