use Rattle.std.proofs.Common.{◌+◌, ◌∙◌, ap, sym, Bool, drop}
use Rattle.std.specs.Prelude.{◌||◌}
use Rattle.plan.specs.View.{plan_of}
use Rattle.plan.specs.Certificate.Certificate.{certificate_of}
use Rattle.validation.specs.Certificate.Certificate.{groups_keep}
use Rattle.validation.proofs.Windows.{kept_next}
use Rattle.validation.proofs.certificate.window_lines.is_kept.Goals as goal

pub returns-then-branch : goal.returns-then-branch
returns-then-branch c =
    let p = plan_of c.args.plan.now in
    let s = certificate_of c.args.cert.now in
    let w = c.args.window.now in
    let n = c.loop-number.number in
    let o = c.in_ok-outlined.outlined in
    let e = c.in_ok-outlined.ensures in
    let kept = c.in_ok-is_kept_in.field-0 in
    let next = kept_next p s w o p.groups n kept e.plan e.certificate e.number e.group c.in_ok-is_kept_in.ensures in
    sym (c.loop-number.invariant ∙ next ∙ ap (λ (b : Bool). b || groups_keep p s w (n + 1) (drop (n + 1) p.groups)) c.if-branch.true)

pub loop-number-preserved : goal.loop-number-preserved
loop-number-preserved c =
    let p = plan_of c.args.plan.now in
    let s = certificate_of c.args.cert.now in
    let w = c.args.window.now in
    let n = c.loop-number.number in
    let o = c.in_ok-outlined.outlined in
    let e = c.in_ok-outlined.ensures in
    let kept = c.in_ok-is_kept_in.field-0 in
    let next = kept_next p s w o p.groups n kept e.plan e.certificate e.number e.group c.in_ok-is_kept_in.ensures in
    c.loop-number.invariant ∙ next ∙ ap (λ (b : Bool). b || groups_keep p s w (n + 1) (drop (n + 1) p.groups)) c.if-branch.false
