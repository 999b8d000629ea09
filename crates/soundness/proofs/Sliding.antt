-- A statement that slides makes its claim.
use Rattle.std.proofs.Common.{List, Option, Some, None, refl, sym, subst, inl, inr}
use Rattle.plan.specs.Rooms.{Room}
use Rattle.plan.specs.Semantics.Actions.{actions}
use Rattle.soundness.specs.Claims.{ClearOf, new_fact, written}
use Rattle.soundness.specs.Handed.{SlidingIsMade}
use Rattle.soundness.proofs.Windows.{earlier_of}

pub sliding_is_made : SlidingIsMade
sliding_is_made given i inner c places a sc sliding handed space only = record {
  has_room = rw space refl;
  only = only;
  clear = λ p m. subst (λ (o : Option (List Room)). ClearOf o p (written (given.outline.claim c).buffer (actions given.outline.setting a sc.symbols))) (sym space) (sliding.clear p m);
  covers = λ p m. elim handed [
    | inl first ↦ (None, tt, sliding.first first p m)
    | inr h ↦ elim (sliding.later h.0 h.1 p m) [
      | inl new ↦ (None, tt, new)
      | inr old ↦ (
        Some (given.steps (given.outline.claim c).function (given.outline.claim c).definition),
        earlier_of given sc.facts (new_fact given h.0 c) p (given.steps (given.outline.claim c).function (given.outline.claim c).definition) h.2 old.0 refl,
        old.1,
      )
    ]
  ];
}
