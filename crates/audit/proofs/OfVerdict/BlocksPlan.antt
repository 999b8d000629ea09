-- Plans in blocks are accepted by the checker's own rules, and altered ones have their faults.
use Rattle.std.proofs.Common.{◌≡◌, [], ◌∷◌, refl, inl, inr}
use Rattle.std.specs.Prelude.{pos}
use Rattle.plan.specs.Lines.{body_line}
use Rattle.plan.specs.Plan.{Group, Plan}
use Rattle.plan.specs.declared.stmt.Pick.TheVariants.{Min, Max}
use Rattle.soundness.specs.Binders.View.{grid_binders}
use Rattle.tails.specs.Windows.Shown.{IsShown}
use Rattle.rules.specs.Bounding.Rules.{rules_of}
use Rattle.rules.specs.Widths.Widths.{wide_lines}
use Rattle.obligations.specs.declared.context.judge.Part.TheVariants.{Lines, Claims}
use Rattle.obligations.specs.Asked.{first_unmet}
use Rattle.audit.proofs.OfVerdict.Behind.{narrow_by}
use Rattle.audit.specs.Verdict.Accepted.{IsAccepted}
use Rattle.audit.specs.Verdict.Faults.{IsFault}
use Rattle.audit.specs.Verdict.Examples.Blocks.{ten, ten_plan, moved_group, moved_certificate, guarded_group, guarded_certificate, BlocksAreAccepted}
use Rattle.audit.proofs.OfVerdict.Tested.{of_one, whole_has, shares_of}

abbrev last_moved : Group
last_moved = moved_group Min (pos 6) (pos 3)

abbrev moved_back : Plan
moved_back = ten_plan last_moved

moved : IsAccepted ten (ten_plan (moved_group Min (pos 6) (pos 3))) moved_certificate
moved = record {
  head = record { name = refl; input = record { name = refl; ty = refl; extents = refl }; output = record { name = refl; ty = refl; extents = refl } };
  groups = refl;
  widths = λ n g e. of_one (λ n g. wide_lines (rules_of ten moved_back moved_certificate n) (grid_binders g.grid) (body_line moved_back n) g.body ≡ []) last_moved refl n g e;
  shown = λ n g e. of_one (λ n g. IsShown (rules_of ten moved_back moved_certificate n) ten moved_back moved_certificate n g) last_moved refl n g e;
  certificate = refl;
  shares = shares_of moved_back moved_certificate (record { plain = refl; inside = refl; fetches = refl; needs = refl; own = refl; served = refl; few_fetched = refl; few_needed = refl });
  output = record { number = 0; group = last_moved; stands = refl; function = refl; inside = λ at h. whole_has (9 ∷ []) at h };
}

too_far : IsFault ten (ten_plan (moved_group Min (pos 5) (pos 3))) moved_certificate 6 13
unfolding first_unmet
too_far = inr (inr (inr (inl (record {
  number = 0;
  group = moved_group Min (pos 5) (pos 3);
  stands = refl;
  part = Claims;
  first = refl;
  before = inl (narrow_by ten (ten_plan (moved_group
      Min (pos 5) (pos 3))) moved_certificate 13 refl);
}))))

largest : IsFault ten (ten_plan (moved_group Max (pos 6) (pos 3))) moved_certificate 4 8
unfolding first_unmet
largest = inr (inr (inr (inl (record {
  number = 0;
  group = moved_group Max (pos 6) (pos 3);
  stands = refl;
  part = Lines;
  first = refl;
  before = inl (narrow_by ten (ten_plan (moved_group Max
      (pos 6) (pos 3))) moved_certificate 8 refl);
}))))

too_many : IsFault ten (ten_plan (moved_group Min (pos 6) (pos 64))) moved_certificate 14 7
too_many = inr (inr (inl (record { number = 0; group = moved_group Min (pos 6) (pos 64); stands = refl; code_is = refl; first = refl })))

abbrev last_cut : Group
last_cut = guarded_group (pos 9)

abbrev cut_off : Plan
cut_off = ten_plan last_cut

guarded : IsAccepted ten (ten_plan (guarded_group (pos 9))) guarded_certificate
guarded = record {
  head = record { name = refl; input = record { name = refl; ty = refl; extents = refl }; output = record { name = refl; ty = refl; extents = refl } };
  groups = refl;
  widths = λ n g e. of_one (λ n g. wide_lines (rules_of ten cut_off guarded_certificate n) (grid_binders g.grid) (body_line cut_off n) g.body ≡ []) last_cut refl n g e;
  shown = λ n g e. of_one (λ n g. IsShown (rules_of ten cut_off guarded_certificate n) ten cut_off guarded_certificate n g) last_cut refl n g e;
  certificate = refl;
  shares = shares_of cut_off guarded_certificate (record { plain = refl; inside = refl; fetches = refl; needs = refl; own = refl; served = refl; few_fetched = refl; few_needed = refl });
  output = record { number = 0; group = last_cut; stands = refl; function = refl; inside = λ at h. whole_has (9 ∷ []) at h };
}

too_small : IsFault ten (ten_plan (guarded_group (pos 8))) guarded_certificate 6 17
unfolding first_unmet
too_small = inr (inr (inr (inl (record {
  number = 0;
  group = guarded_group (pos 8);
  stands = refl;
  part = Claims;
  first = refl;
  before = inl (narrow_by ten (ten_plan (guarded_group (pos
      8))) guarded_certificate 17 refl);
}))))

pub blocks_accepted : BlocksAreAccepted
blocks_accepted = record { moved = moved; too_far = too_far; largest = largest; too_many = too_many; guarded = guarded; too_small = too_small }
