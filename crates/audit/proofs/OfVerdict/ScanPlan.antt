-- The plan of a running sum is accepted by the checker's own rules, and altered ones have their faults.
use Rattle.std.proofs.Common.{◌≡◌, [], ◌∷◌, refl, inl, inr}
use Rattle.std.specs.Prelude.{pos}
use Rattle.plan.specs.Lines.{body_line}
use Rattle.plan.specs.Semantics.Worked.{constants, scan_group, scan_plan, scan_certificate}
use Rattle.soundness.specs.Binders.View.{grid_binders}
use Rattle.soundness.specs.Worked.{scan_algorithm}
use Rattle.tails.specs.Windows.Shown.{IsShown}
use Rattle.rules.specs.Bounding.Rules.{rules_of}
use Rattle.rules.specs.Widths.Widths.{wide_lines}
use Rattle.obligations.specs.declared.context.judge.Part.TheVariants.{Lines, Claims}
use Rattle.obligations.specs.Asked.{first_unmet}
use Rattle.audit.proofs.OfVerdict.Behind.{narrow_by}
use Rattle.audit.specs.Verdict.Accepted.{IsAccepted}
use Rattle.audit.specs.Verdict.Faults.{IsFault}
use Rattle.audit.specs.Verdict.Examples.Scan.{r, before_r, sums_group, sums_plan, sum_by, claimed_to, ScanIsAccepted}
use Rattle.audit.proofs.OfVerdict.Tested.{of_one, whole_has, shares_of}

accepted : IsAccepted scan_algorithm scan_plan scan_certificate
accepted = record {
  head = record { name = refl; input = record { name = refl; ty = refl; extents = refl }; output = record { name = refl; ty = refl; extents = refl } };
  groups = refl;
  widths = λ n g e. of_one (λ n g. wide_lines (rules_of scan_algorithm scan_plan scan_certificate n) (grid_binders g.grid) (body_line scan_plan n) g.body ≡ []) scan_group refl n g e;
  shown = λ n g e. of_one (λ n g. IsShown (rules_of scan_algorithm scan_plan scan_certificate n) scan_algorithm scan_plan scan_certificate n g) scan_group refl n g e;
  certificate = refl;
  shares = shares_of scan_plan scan_certificate (record { plain = refl; inside = refl; fetches = refl; needs = refl; own = refl; served = refl; few_fetched = refl; few_needed = refl });
  output = record { number = 0; group = scan_group; stands = refl; function = refl; inside = λ at h. whole_has (3 ∷ []) at h };
}

-- ---- altered

early : IsFault scan_algorithm (sums_plan (constants (pos 1) (pos 3)) (sum_by 1 r before_r)) scan_certificate 5 10
unfolding first_unmet
early = inr (inr (inr (inl (record {
  number = 0;
  group = sums_group (constants (pos 1) (pos 3)) (sum_by 1 r before_r);
  stands = refl;
  part = Lines;
  first = refl;
  before = inl (narrow_by
      scan_algorithm (sums_plan (constants (pos 1) (pos 3)) (sum_by 1 r before_r)) scan_certificate 10 refl);
}))))

wide : IsFault scan_algorithm scan_plan (claimed_to (pos 4)) 6 16
unfolding first_unmet
wide = inr (inr (inr (inl (record { number = 0; group = scan_group; stands = refl; part = Claims; first = refl; before = inl (narrow_by scan_algorithm scan_plan (claimed_to (pos 4)) 16 refl) }))))

left_out : IsFault scan_algorithm (sums_plan (constants (pos 2) (pos 3)) (sum_by 0 r before_r)) scan_certificate 7 10
unfolding first_unmet
left_out = inr (inr (inr (inl (record {
  number = 0;
  group = sums_group (constants (pos 2) (pos 3)) (sum_by 0 r before_r);
  stands = refl;
  part = Lines;
  first = refl;
  before = inl (narrow_by
      scan_algorithm (sums_plan (constants (pos 2) (pos 3)) (sum_by 0 r before_r)) scan_certificate 10 refl);
}))))

other : IsFault scan_algorithm (sums_plan (constants (pos 1) (pos 3)) (sum_by 0 r r)) scan_certificate 12 10
other = inr (inl refl)

pub scan_accepted : ScanIsAccepted
scan_accepted = record { accepted = accepted; early = early; wide = wide; left_out = left_out; other = other }
