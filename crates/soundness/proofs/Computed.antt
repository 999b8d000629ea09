-- The tests of nests, and what is asked for of a window's claim, computed.
use Rattle.std.proofs.Common.{refl}
use Rattle.soundness.specs.Nests.Worked.{NestsAreTested}
use Rattle.soundness.specs.Windowed.{ClaimsAreAsked}

pub nests_are_tested : NestsAreTested
nests_are_tested = record {
  scan = record { filled = refl; in_turn = refl; updated = refl; too_wide = refl; one_left_out = refl; twice = refl };
  hist = record { filled = refl; in_turn = refl; updated = refl; other_order = refl };
  inc = record { alone = refl; with_another = refl; folded = refl; fold_too_small = refl; two_lines = refl };
}

pub claims_are_asked : ClaimsAreAsked
claims_are_asked = record {
  slides = λ rules. refl;
  no_window = λ rules. refl;
  other_loop = λ rules. refl;
  not_alone = λ rules. refl;
  update = λ rules. refl;
  first_counts = λ rules. refl;
}
