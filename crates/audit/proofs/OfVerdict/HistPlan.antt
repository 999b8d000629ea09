-- The plan of a histogram is accepted by the checker's own rules, and altered ones have their faults.
use Rattle.std.proofs.Common.{◌≡◌, [], ◌∷◌, refl, inl, inr}
use Rattle.plan.specs.Lines.{body_line}
use Rattle.plan.specs.Plan.{Group}
use Rattle.soundness.specs.Binders.View.{grid_binders}
use Rattle.soundness.specs.Worked.{hist_group}
use Rattle.tails.specs.Windows.Shown.{IsShown}
use Rattle.rules.specs.Bounding.Rules.{rules_of}
use Rattle.rules.specs.Widths.Widths.{wide_lines}
use Rattle.obligations.specs.declared.context.judge.Part.TheVariants.{Lines}
use Rattle.obligations.specs.Asked.{first_unmet}
use Rattle.audit.proofs.OfVerdict.Behind.{narrow_by}
use Rattle.audit.specs.Verdict.Accepted.{IsAccepted}
use Rattle.audit.specs.Verdict.Faults.{IsFault}
use Rattle.audit.specs.Verdict.Examples.Hist.{hist, whole_plan, whole_certificate, by_rows, by_columns, counts_group, counts_plan, HistIsAccepted}
use Rattle.audit.proofs.OfVerdict.Tested.{of_one, whole_has, shares_of}

abbrev group : Group
group = hist_group 255 1

accepted : IsAccepted hist whole_plan whole_certificate
accepted = record {
  head = record { name = refl; input = record { name = refl; ty = refl; extents = refl }; output = record { name = refl; ty = refl; extents = refl } };
  groups = refl;
  widths = λ n g e. of_one (λ n g. wide_lines (rules_of hist whole_plan whole_certificate n) (grid_binders g.grid) (body_line whole_plan n) g.body ≡ []) group refl n g e;
  shown = λ n g e. of_one (λ n g. IsShown (rules_of hist whole_plan whole_certificate n) hist whole_plan whole_certificate n g) group refl n g e;
  certificate = refl;
  shares = shares_of whole_plan whole_certificate (record { plain = refl; inside = refl; fetches = refl; needs = refl; own = refl; served = refl; few_fetched = refl; few_needed = refl });
  output = record { number = 0; group = group; stands = refl; function = refl; inside = λ at h. whole_has (255 ∷ []) at h };
}

-- ---- altered

narrow : IsFault hist (counts_plan 255 (by_rows 1)) whole_certificate 4 7
unfolding first_unmet
narrow = inr (inr (inr (inl (record {
  number = 0;
  group = counts_group 255 (by_rows 1);
  stands = refl;
  part = Lines;
  first = refl;
  before = inl (narrow_by hist (counts_plan 255 (by_rows 1))
      whole_certificate 7 refl);
}))))

turned : IsFault hist (counts_plan 256 by_columns) whole_certificate 7 11
unfolding first_unmet
turned = inr (inr (inr (inl (record {
  number = 0;
  group = counts_group 256 by_columns;
  stands = refl;
  part = Lines;
  first = refl;
  before = inl (narrow_by hist (counts_plan 256 by_columns)
      whole_certificate 11 refl);
}))))

other : IsFault hist (counts_plan 256 (by_rows 2)) whole_certificate 12 11
other = inr (inl refl)

pub hist_accepted : HistIsAccepted
hist_accepted = record { accepted = accepted; narrow = narrow; turned = turned; other = other }
