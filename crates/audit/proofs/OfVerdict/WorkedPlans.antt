-- The plan of two groups is accepted by the checker's own rules, and altered ones have their faults.
use Rattle.std.proofs.Common.{◌≡◌, [], length, refl, inl, inr, arith}
use Rattle.plan.specs.Lines.{body_line}
use Rattle.soundness.specs.Binders.View.{grid_binders}
use Rattle.tails.specs.Windows.Shown.{IsShown}
use Rattle.rules.specs.Bounding.Rules.{rules_of}
use Rattle.rules.specs.Widths.Widths.{wide_lines}
use Rattle.soundness.specs.declared.outline.refusals.code.Flaw.{Flaw}
use Rattle.soundness.specs.declared.outline.refusals.code.K.TheVariants.{K9, K10, K11}
use Rattle.obligations.specs.declared.context.judge.Part.TheVariants.{Lines}
use Rattle.obligations.specs.Asked.{first_unmet}
use Rattle.shares.specs.Layout.{own_list}
use Rattle.shares.specs.Made.{Overlaps}
use Rattle.shares.proofs.Firsts.{from_nine}
use Rattle.audit.proofs.OfVerdict.Behind.{narrow_by}
use Rattle.audit.specs.Verdict.Accepted.{IsAccepted}
use Rattle.audit.specs.Verdict.Faults.{IsFault}
use Rattle.audit.specs.Verdict.Shown.Worked.{two, f_group, out_group, both, two_plan, two_certificate}
use Rattle.audit.specs.Verdict.Worked.{twice_owned, not_owned, less_needed, less_claimed, other_plan, WorkedPlansAreAccepted}
use Rattle.audit.proofs.OfVerdict.Two.{head, output}
use Rattle.audit.proofs.OfVerdict.Tested.{of_two, shares_of, none_overlaps, not_owned as owned_by_none, from_ten, first_own, none_own, unserved_of}

accepted : IsAccepted two two_plan two_certificate
accepted = record {
  head = head;
  groups = refl;
  widths = λ n g e. of_two (λ n g. wide_lines (rules_of two two_plan two_certificate n) (grid_binders g.grid) (body_line two_plan n) g.body ≡ []) f_group (out_group both) refl refl n g e;
  shown = λ n g e. of_two (λ n g. IsShown (rules_of two two_plan two_certificate n) two two_plan two_certificate n g) f_group (out_group both) refl refl n g e;
  certificate = refl;
  shares = shares_of two_plan two_certificate (record { plain = refl; inside = refl; fetches = refl; needs = refl; own = refl; served = refl; few_fetched = refl; few_needed = refl });
  output = output;
}

-- ---- a cell owned twice: cell 0, the first of both pieces

abbrev nine : Flaw
nine = record { code = K9; line = 19 }

overlaps : Overlaps two_plan twice_owned 0
overlaps = (
  0,
  refl,
  λ apart.
      let zero_long : length (own_list two_plan twice_owned 0) ≡ 1 = refl in
      let one_long : length (own_list two_plan twice_owned 1) ≡ 2 = refl in
      let same : 0 ≡ 1 = (apart 1 0 0 (omega arith) (omega (arith, zero_long)) (omega (arith, one_long)) refl).0 in
      omega (arith, same),
)

twice : IsFault two two_plan twice_owned 9 19
twice = inr (inr (inr (inr (inr (inl (record {
  flaw = nine;
  code_is = refl;
  line_is = refl;
  means = inl (inl (0, overlaps, refl), first_own two_plan twice_owned 2 nine refl (omega arith) (from_nine two_plan twice_owned));
}))))))

-- ---- a cell without an owner: cell 1

abbrev ten : Flaw
ten = record { code = K10; line = 19 }

gap : IsFault two two_plan not_owned 10 19
gap = inr (inr (inr (inr (inr (inl (record {
  flaw = ten;
  code_is = refl;
  line_is = refl;
  means = inl (
    inl (0, inr (1, omega arith, omega arith, owned_by_none two_plan not_owned 1 refl), refl),
    first_own two_plan not_owned 2 ten refl (omega arith) (λ n k code. from_ten two_plan not_owned n k (none_overlaps two_plan not_owned refl n) code),
  );
}))))))

-- ---- a fetched cell that no needed piece owns: piece 2 fetches cell 1, and needs piece 0 alone

abbrev eleven : Flaw
eleven = record { code = K11; line = 21 }

unserved : IsFault two two_plan less_needed 11 21
unserved = inr (inr (inr (inr (inr (inl (record {
  flaw = eleven;
  code_is = refl;
  line_is = refl;
  means = inl (
    inl (1, (2, refl, unserved_of two_plan less_needed 2 1 (1, omega arith, refl) refl), refl),
    λ g own. absurd (none_own two_plan less_needed (record { inside = refl; fetches = refl; needs = refl; own = refl; served = refl }) own.0 g.code own.2),
  );
}))))))

-- ---- another definition, and a load outside its claim

other : IsFault two other_plan two_certificate 12 15
other = inr (inl refl)

outside : IsFault two two_plan less_claimed 5 15
unfolding first_unmet
outside = inr (inr (inr (inl (record { number = 1; group = out_group both; stands = refl; part = Lines; first = refl; before = inl (narrow_by two two_plan less_claimed 15 refl) }))))

pub worked_accepted : WorkedPlansAreAccepted
worked_accepted = record { accepted = accepted; twice = twice; gap = gap; unserved = unserved; other = other; outside = outside }
