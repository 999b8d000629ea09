use Rattle.std.proofs.Common.{◌≡◌, ◌∙◌, ap}
use Rattle.std.specs.Prelude.{Bool, not, ◌&&◌, slice_get}
use Rattle.plan.specs.Lists.{list_groups}
use Rattle.soundness.specs.Outline.Forms.{spans_are_within_limits, have_ends}
use Rattle.soundness.specs.Outline.Flaws.{first_of}
use Rattle.validation.specs.Certificate.Lines.{line_flaws}
use Rattle.validation.specs.Certificate.Certificate.{is_region_of, own_is_known}
use Rattle.validation.proofs.certificate.own_lines.own_code.Goals as goal
use Rattle.validation.proofs.certificate.own_lines.own_code.Goals.{then-not-is_owned, else-not-is_owned}

pub returns : goal.returns
returns c =
    let fits : c.in_ok-fits.fits ≡ is_region_of (slice_get (list_groups c.args.groups.now) c.args.own.now.group) c.args.own.now.region =
    c.in_ok-fits.ensures ∙ (λ k. is_region_of (c.group_at-group.ensures k) (c.as_slice-region.ensures k)) in
    let known : c.if-not-is_owned.known ≡ own_is_known (list_groups c.args.groups.now) c.args.earlier.now c.args.own.now =
    elim c.if-not-is_owned.branch [
      | then-not-is_owned w ↦ w.known-is ∙ fits ∙ ap (λ (t : Bool). not t && is_region_of (slice_get (list_groups c.args.groups.now) c.args.own.now.group) c.args.own.now.region) w.if-not-is_owned.ensures
      | else-not-is_owned w ↦ w.known-is ∙ ap not w.if-not-is_owned.false ∙ ap (λ (t : Bool). not t && is_region_of (slice_get (list_groups c.args.groups.now) c.args.own.now.group) c.args.own.now.region) w.if-not-is_owned.ensures
    ] in
    let small : c.spans_are_within_limits.result ≡ spans_are_within_limits c.args.own.now.region = c.spans_are_within_limits.ensures ∙ ap spans_are_within_limits c.as_slice-region.ensures in
    let listed : c.have_ends.result ≡ have_ends c.args.own.now.region = c.have_ends.ensures ∙ ap have_ends c.as_slice-region.ensures in
    λ line. c.line_code.ensures line ∙ (λ k. first_of (line_flaws (known k) (small k) (listed k) line))
