use Rattle.std.proofs.Common.{◌≡◌, ◌∙◌, ap}
use Rattle.plan.specs.Lists.{list_groups}
use Rattle.soundness.specs.Outline.Forms.{spans_are_within_limits, have_ends}
use Rattle.soundness.specs.Outline.Flaws.{first_of}
use Rattle.validation.specs.Certificate.Lines.{line_flaws}
use Rattle.validation.specs.Certificate.Certificate.{is_need_of, need_is_known}
use Rattle.validation.proofs.certificate.need_lines.need_code.Goals as goal

pub returns : goal.returns
returns c =
    let known : c.in_ok-known.known ≡ need_is_known (list_groups c.args.groups.now) c.args.need.now =
    c.in_ok-known.ensures ∙ (λ k. is_need_of (c.group_at-group.ensures k) (c.group_at-needed.ensures k) (c.as_slice-region.ensures k)) in
    let small : c.spans_are_within_limits.result ≡ spans_are_within_limits c.args.need.now.region = c.spans_are_within_limits.ensures ∙ ap spans_are_within_limits c.as_slice-region.ensures in
    let listed : c.have_ends.result ≡ have_ends c.args.need.now.region = c.have_ends.ensures ∙ ap have_ends c.as_slice-region.ensures in
    λ line. c.line_code.ensures line ∙ (λ k. first_of (line_flaws (known k) (small k) (listed k) line))
