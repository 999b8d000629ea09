-- The plan whose pieces read their neighbours is accepted by the checker's own rules, and altered ones have their faults.
use Rattle.std.proofs.Common.{◌≡◌, [], ◌∷◌, refl, inl, inr, arith}
use Rattle.plan.specs.Lines.{body_line}
use Rattle.soundness.specs.Binders.View.{grid_binders}
use Rattle.tails.specs.Windows.Shown.{IsShown}
use Rattle.rules.specs.Bounding.Rules.{rules_of}
use Rattle.rules.specs.Widths.Widths.{wide_lines}
use Rattle.soundness.specs.declared.outline.refusals.code.Flaw.{Flaw}
use Rattle.soundness.specs.declared.outline.refusals.code.K.TheVariants.{K11}
use Rattle.obligations.specs.declared.context.judge.Part.TheVariants.{Lines}
use Rattle.obligations.specs.Asked.{first_unmet}
use Rattle.audit.proofs.OfVerdict.Behind.{narrow_by}
use Rattle.audit.specs.Verdict.Accepted.{IsAccepted}
use Rattle.audit.specs.Verdict.Faults.{IsFault}
use Rattle.audit.specs.Verdict.Examples.Near.{near, to_the_left, here, with_left, f_group, out_group, sum_of_two, x, with_value, near_plan, with_regions, near_certificate, NearIsAccepted}
use Rattle.audit.proofs.OfVerdict.Tested.{of_two, whole_has, shares_of, none_own, unserved_of}

accepted : IsAccepted near near_plan near_certificate
accepted = record {
  head = record { name = refl; input = record { name = refl; ty = refl; extents = refl }; output = record { name = refl; ty = refl; extents = refl } };
  groups = refl;
  widths = λ n g e. of_two (λ n g. wide_lines (rules_of near near_plan near_certificate n) (grid_binders g.grid) (body_line near_plan n) g.body ≡ []) f_group (out_group (sum_of_two
      to_the_left x)) refl refl n g e;
  shown = λ n g e. of_two (λ n g. IsShown (rules_of near near_plan near_certificate n) near near_plan near_certificate n g) f_group (out_group (sum_of_two to_the_left x)) refl refl n g e;
  certificate = refl;
  shares = shares_of near_plan near_certificate (record { plain = refl; inside = refl; fetches = refl; needs = refl; own = refl; served = refl; few_fetched = refl; few_needed = refl });
  output = record { number = 1; group = out_group (sum_of_two to_the_left x); stands = refl; function = refl; inside = λ at h. whole_has (3 ∷ []) at h };
}

-- ---- altered

abbrev eleven : Flaw
eleven = record { code = K11; line = 21 }

-- piece 5 fetches the cells 0 and 1, and needs piece 1 alone
unserved : IsFault near near_plan (with_regions here with_left) 11 21
unserved = inr (inr (inr (inr (inr (inl (record {
  flaw = eleven;
  code_is = refl;
  line_is = refl;
  means = inl (
    inl (1, (5, refl, unserved_of near_plan (with_regions here with_left) 5 0 (0, omega arith, refl) refl), refl),
    λ g own. absurd (none_own near_plan (with_regions here with_left) (record { inside = refl; fetches = refl; needs = refl; own = refl; served = refl }) own.0 g.code own.2),
  );
}))))))

other : IsFault near (with_value (sum_of_two x x)) near_certificate 12 15
other = inr (inl refl)

outside : IsFault near near_plan (with_regions with_left here) 5 15
unfolding first_unmet
outside = inr (inr (inr (inl (record {
  number = 1;
  group = out_group (sum_of_two to_the_left x);
  stands = refl;
  part = Lines;
  first = refl;
  before = inl (narrow_by near near_plan
      (with_regions with_left here) 15 refl);
}))))

pub near_accepted : NearIsAccepted
near_accepted = record { accepted = accepted; unserved = unserved; other = other; outside = outside }
