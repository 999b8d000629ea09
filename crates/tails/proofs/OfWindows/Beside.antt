-- The tests of folded buffers and of windows beside those of nests.
use Rattle.std.proofs.Common.{◌≡◌, ℕ, true, false, List, Option, Some, None, inl, inr}
use Rattle.plan.specs.declared.stmt.Places.{Places}
use Rattle.plan.specs.Plan.{Statement}
use Rattle.plan.specs.Symbols.{Symbols}
use Rattle.soundness.specs.Origins.{Given}
use Rattle.soundness.specs.Obligations.{Binder, Respects, Rules, Suited, Made, MeantAt}
use Rattle.soundness.proofs.Sound.{or_cases}
use Rattle.tails.specs.Nests.{split_nests, SplitNestsAreRight}
use Rattle.tails.specs.Windows.Nests.{folded_by, SlidNestsAreRight}
use Rattle.tails.proofs.OfWindows.Sliding.{folded_meant, slid_is_meant}

-- a claim from nothing in a folded buffer
by_fold : (given : Given) (rules : Rules) (suited : Suited given rules) (none : (f : List ℕ) → given.steps f 0 ≡ 0) (bs : List Binder) (c : ℕ) (from : Option ℕ) (places : List Places)
    (a : Statement) (s : Symbols) → Respects bs s → folded_by given.outline.setting rules bs (given.outline.claim c) from places a ≡ true → MeantAt given (Made c from places a) s
by_fold given rules suited none bs c None places a s r k = folded_meant given rules suited none bs c places s r a k
by_fold given rules suited none bs c (Some j) places a s r k = absurd (cc k)

pub slid_nests_right : SplitNestsAreRight → SlidNestsAreRight
slid_nests_right split given rules domain suited counts = record {
  made = λ bs c from places a s h r.
      elim (or_cases ((split_nests given.outline rules domain).is_made bs c from places a) _ h) [
        | inl k ↦ (split given rules domain suited counts).made bs c from places a s k r
        | inr k ↦ by_fold given rules suited counts.none bs c from places a s r k
      ];
  in_turn = (split given rules domain suited counts).in_turn;
  slides = λ bs w c places a s h k r. slid_is_meant given rules bs c w places a s suited counts.none h k r;
}
