-- The plan whose buffer slides is accepted by the checker's own rules, and altered ones have their faults.
use Rattle.std.proofs.Common.{◌≡◌, [], ◌∷◌, refl, inl, inr}
use Rattle.std.specs.Prelude.{pos}
use Rattle.plan.specs.Lines.{body_line}
use Rattle.soundness.specs.Binders.View.{grid_binders}
use Rattle.tails.specs.Windows.Shown.{IsShown}
use Rattle.rules.specs.Bounding.Rules.{rules_of}
use Rattle.rules.specs.Widths.Widths.{wide_lines}
use Rattle.obligations.specs.declared.context.judge.Part.TheVariants.{Lines, Claims}
use Rattle.obligations.specs.Asked.{first_unmet}
use Rattle.audit.proofs.OfVerdict.Behind.{narrow_by}
use Rattle.audit.specs.Verdict.Accepted.{IsAccepted}
use Rattle.audit.specs.Verdict.Faults.{IsFault}
use Rattle.audit.specs.Verdict.Examples.Slide.{slide, group_of, plan_of, certificate_with, window, slides, SlideIsAccepted}
use Rattle.audit.proofs.OfVerdict.Tested.{of_one, whole_has, shares_of}

accepted : IsAccepted slide (plan_of 3 (pos 1)) (slides 3)
accepted = record {
  head = record { name = refl; input = record { name = refl; ty = refl; extents = refl }; output = record { name = refl; ty = refl; extents = refl } };
  groups = refl;
  widths = λ n g e. of_one (λ n g. wide_lines (rules_of slide (plan_of 3 (pos 1)) (slides 3) n) (grid_binders g.grid) (body_line (plan_of 3 (pos 1)) n) g.body ≡ []) (group_of 3 (pos 1)) refl n g e;
  shown = λ n g e. of_one (λ n g. IsShown (rules_of slide (plan_of 3 (pos 1)) (slides 3) n) slide (plan_of 3 (pos 1)) (slides 3) n g) (group_of 3 (pos 1)) refl n g e;
  certificate = refl;
  shares = shares_of (plan_of 3 (pos 1)) (slides 3) (record { plain = refl; inside = refl; fetches = refl; needs = refl; own = refl; served = refl; few_fetched = refl; few_needed = refl });
  output = record { number = 0; group = group_of 3 (pos 1); stands = refl; function = refl; inside = λ at h. whole_has (3 ∷ 7 ∷ []) at h };
}

larger : IsAccepted slide (plan_of 7 (pos 1)) (slides 7)
larger = record {
  head = record { name = refl; input = record { name = refl; ty = refl; extents = refl }; output = record { name = refl; ty = refl; extents = refl } };
  groups = refl;
  widths = λ n g e. of_one (λ n g. wide_lines (rules_of slide (plan_of 7 (pos 1)) (slides 7) n) (grid_binders g.grid) (body_line (plan_of 7 (pos 1)) n) g.body ≡ []) (group_of 7 (pos 1)) refl n g e;
  shown = λ n g e. of_one (λ n g. IsShown (rules_of slide (plan_of 7 (pos 1)) (slides 7) n) slide (plan_of 7 (pos 1)) (slides 7) n g) (group_of 7 (pos 1)) refl n g e;
  certificate = refl;
  shares = shares_of (plan_of 7 (pos 1)) (slides 7) (record { plain = refl; inside = refl; fetches = refl; needs = refl; own = refl; served = refl; few_fetched = refl; few_needed = refl });
  output = record { number = 0; group = group_of 7 (pos 1); stands = refl; function = refl; inside = λ at h. whole_has (3 ∷ 7 ∷ []) at h };
}

-- ---- altered

too_small : IsFault slide (plan_of 2 (pos 1)) (slides 2) 8 31
unfolding first_unmet
too_small = inr (inr (inr (inl (record { number = 0; group = group_of 2 (pos 1); stands = refl; part = Lines; first = refl; before = inl (narrow_by slide (plan_of 2 (pos 1)) (slides 2) 31 refl) }))))

other_fold : IsFault slide (plan_of 3 (pos 1)) (slides 7) 8 31
unfolding first_unmet
other_fold = inr (inr (inr (inl (record { number = 0; group = group_of 3 (pos 1); stands = refl; part = Lines; first = refl; before = inl (narrow_by slide (plan_of 3 (pos 1)) (slides 7) 31 refl) }))))

too_late : IsFault slide (plan_of 3 (pos 2)) (slides 3) 6 29
unfolding first_unmet
too_late = inr (inr (inr (inl (record { number = 0; group = group_of 3 (pos 2); stands = refl; part = Claims; first = refl; before = inl (narrow_by slide (plan_of 3 (pos 2)) (slides 3) 29 refl) }))))

alone : IsFault slide (plan_of 3 (pos 1)) (certificate_with []) 6 29
unfolding first_unmet
alone = inr (inr (inr (inl (record {
  number = 0;
  group = group_of 3 (pos 1);
  stands = refl;
  part = Claims;
  first = refl;
  before = inl (narrow_by slide (plan_of 3 (pos 1)) (certificate_with
      []) 29 refl);
}))))

twice : IsFault slide (plan_of 3 (pos 1)) (certificate_with (window 3 ∷ window 3 ∷ [])) 8 32
twice = inr (inr (inr (inr (inl refl))))

pub slide_accepted : SlideIsAccepted
slide_accepted = record {
  accepted = accepted;
  larger = larger;
  too_small = too_small;
  other_fold = other_fold;
  too_late = too_late;
  alone = alone;
  twice = twice;
}
