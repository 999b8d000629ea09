-- The plan of one more than each pixel is accepted by the checker's own rules, and altered ones have their faults.
use Rattle.std.proofs.Common.{◌≡◌, [], ◌∷◌, length, refl, inl, inr, arith}
use Rattle.plan.specs.Lines.{body_line}
use Rattle.plan.specs.Semantics.Worked.{inc_group, inc_plan, inc_certificate}
use Rattle.soundness.specs.Binders.View.{grid_binders}
use Rattle.tails.specs.Windows.Shown.{IsShown}
use Rattle.rules.specs.Bounding.Rules.{rules_of}
use Rattle.rules.specs.Widths.Widths.{wide_lines}
use Rattle.soundness.specs.declared.outline.refusals.code.Flaw.{Flaw}
use Rattle.soundness.specs.declared.outline.refusals.code.K.TheVariants.{K9, K10}
use Rattle.obligations.specs.declared.context.judge.Part.TheVariants.{Lines}
use Rattle.obligations.specs.Asked.{first_unmet}
use Rattle.shares.specs.Layout.{own_list}
use Rattle.shares.specs.Made.{Overlaps}
use Rattle.shares.proofs.Firsts.{from_nine}
use Rattle.audit.proofs.OfVerdict.Behind.{narrow_by}
use Rattle.audit.specs.Verdict.Accepted.{IsAccepted}
use Rattle.audit.specs.Verdict.Faults.{IsFault}
use Rattle.audit.specs.Verdict.Examples.Inc.{inc, twice_plan, twice_certificate, gap_plan, gap_certificate, other_plan, more_owned, IncIsAccepted}
use Rattle.audit.proofs.OfVerdict.Tested.{of_one, whole_has, shares_of, none_overlaps, not_owned, from_ten, first_own}

accepted : IsAccepted inc inc_plan inc_certificate
accepted = record {
  head = record { name = refl; input = record { name = refl; ty = refl; extents = refl }; output = record { name = refl; ty = refl; extents = refl } };
  groups = refl;
  widths = λ n g e. of_one (λ n g. wide_lines (rules_of inc inc_plan inc_certificate n) (grid_binders g.grid) (body_line inc_plan n) g.body ≡ []) inc_group refl n g e;
  shown = λ n g e. of_one (λ n g. IsShown (rules_of inc inc_plan inc_certificate n) inc inc_plan inc_certificate n g) inc_group refl n g e;
  certificate = refl;
  shares = shares_of inc_plan inc_certificate (record { plain = refl; inside = refl; fetches = refl; needs = refl; own = refl; served = refl; few_fetched = refl; few_needed = refl });
  output = record { number = 0; group = inc_group; stands = refl; function = refl; inside = λ at h. whole_has (1 ∷ 9 ∷ []) at h };
}

-- ---- altered

abbrev nine : Flaw
nine = record { code = K9; line = 13 }

-- cell 8 stands behind 8 others of piece 0, and is the first of piece 1
overlaps : Overlaps twice_plan twice_certificate 0
overlaps = (
  0,
  refl,
  λ apart.
      let first_long : length (own_list twice_plan twice_certificate 0) ≡ 10 = refl in
      let second_long : length (own_list twice_plan twice_certificate 1) ≡ 12 = refl in
      let same : 0 ≡ 1 = (apart 1 8 0 (omega arith) (omega (arith, first_long)) (omega (arith, second_long)) refl).0 in
      omega (arith, same),
)

twice : IsFault inc twice_plan twice_certificate 9 13
twice = inr (inr (inr (inr (inr (inl (record {
  flaw = nine;
  code_is = refl;
  line_is = refl;
  means = inl (inl (0, overlaps, refl), first_own twice_plan twice_certificate 1 nine refl (omega arith) (from_nine twice_plan twice_certificate));
}))))))

abbrev ten : Flaw
ten = record { code = K10; line = 13 }

gap : IsFault inc gap_plan gap_certificate 10 13
gap = inr (inr (inr (inr (inr (inl (record {
  flaw = ten;
  code_is = refl;
  line_is = refl;
  means = inl (
    inl (0, inr (8, omega arith, omega arith, not_owned gap_plan gap_certificate 8 refl), refl),
    first_own gap_plan gap_certificate 1 ten refl (omega arith) (λ n k code. from_ten gap_plan gap_certificate n k (none_overlaps gap_plan gap_certificate refl n) code),
  );
}))))))

other : IsFault inc other_plan inc_certificate 12 8
other = inr (inl refl)

unclaimed : IsFault inc inc_plan more_owned 5 11
unfolding first_unmet
unclaimed = inr (inr (inr (inl (record { number = 0; group = inc_group; stands = refl; part = Lines; first = refl; before = inl (narrow_by inc inc_plan more_owned 11 refl) }))))

pub inc_accepted : IncIsAccepted
inc_accepted = record { accepted = accepted; twice = twice; gap = gap; other = other; unclaimed = unclaimed }
