-- A sound piece gives no point that it does not set.
use Rattle.std.proofs.Common.{◌≡◌, ℕ, ◌+◌, Bool, true, false, List, [], ◌∷◌, Option, Some, None, refl, subst}
use Rattle.std.specs.Prelude.{◌==◌, ◌&&◌, if◌then◌else◌}
use Rattle.std.specs.List.{AllByRecursion}
use Rattle.meaning.specs.Functions.{IsPoint}
use Rattle.meaning.specs.Names.{same_name}
use Rattle.plan.specs.Rooms.{same_place}
use Rattle.plan.specs.Semantics.Actions.{Action, Allot, Take, Put, Change, Give, Target, actions}
use Rattle.plan.specs.Semantics.Memory.{Memory, held_at, nothing, place_in, set_at}
use Rattle.soundness.specs.Origins.{Given, Origin, AreFine, learn, matches, or_same, origin, stepped}
use Rattle.soundness.specs.Right.{at_start}
use Rattle.soundness.proofs.Sound.{sound}
use Rattle.audit.specs.Verdict.Indices.{GivenAreIndices, GivesIndices, SetsIndices}

-- all that memory is known to hold is of points of i32 coordinates
abbrev AreHeld : Memory Origin → Type 0
AreHeld t = (b : ℕ) (q : List ℕ) (o : Origin) → t.held b q ≡ Some o → IsPoint o.point

held_either : (v : Bool) (x : Option Origin) (o k : Origin) → IsPoint o.point → ((k : Origin) → x ≡ Some k → IsPoint k.point) → (if v then Some o else x) ≡ Some k → IsPoint k.point
held_either true x o k is rest e = let same : o ≡ k = cc in subst (λ (y : Origin). IsPoint y.point) same is
held_either false x o k is rest e = rest k e

held_unless : (v : Bool) (x : Option Origin) (k : Origin) → ((k : Origin) → x ≡ Some k → IsPoint k.point) → (if v then None else x) ≡ Some k → IsPoint k.point
held_unless true x k rest e = absurd (cc e)
held_unless false x k rest e = rest k e

held_step : (v : Bool) (f : List ℕ) (n : ℕ) (at : List Target) (x : Option Origin) (k : Origin) → ((k : Origin) → x ≡ Some k → IsPoint k.point) →
    (if v then stepped f n at x else x) ≡ Some k → IsPoint k.point
held_step false f n at x k rest e = rest k e
held_step true f n at None k rest e = absurd (cc e)
held_step true f n at (Some o) k rest e = of (same_name o.function f && (o.done == n) && matches at o.point) (rest o refl) e
  where
    of : (w : Bool) → IsPoint o.point → Some (if w then origin f (n + 1) o.point else o) ≡ Some k → IsPoint k.point
    of true is g = let same : origin f (n + 1) o.point ≡ k = cc in subst (λ (y : Origin). IsPoint y.point) same is
    of false is g = let same : o ≡ k = cc in subst (λ (y : Origin). IsPoint y.point) same is

held_written : (t : Memory Origin) (b : ℕ) (at : Option (List ℕ)) (o : Origin) → IsPoint o.point → AreHeld t → AreHeld (or_same (set_at t b at o) t)
held_written t b None o is held c r k e = held c r k e
held_written t b (Some q) o is held c r k e = held_either ((c == b) && same_place r q) (t.held c r) o k is (held c r) e

module _ (given : Given) where
  held_after : (a : Action) (t : Memory Origin) → SetsIndices a → AreHeld t → AreHeld (learn given a t)
  held_after (Allot b rooms) t sets held = λ c q k e. held_unless (c == b) (t.held c q) k (held c q) e
  held_after (Take b f p) t sets held = held_written t b (place_in (t.rooms b) p) (origin f (given.all_steps f) p) sets held
  held_after (Put b f names p e) t sets held = held_written t b (place_in (t.rooms b) p) (origin f 0 p) sets held
  held_after (Change b f n names at over e) t sets held = λ c q k same. held_step (c == b) f (given.step_at f n over) at (t.held c q) k (held c q) same
  held_after (Give c p) t sets held = held

  read_held : (t : Memory Origin) (b : ℕ) (at : Option (List ℕ)) (o : Origin) → AreHeld t → held_at (t.held b) at ≡ Some o → IsPoint o.point
  read_held t b None o held e = absurd (cc e)
  read_held t b (Some q) o held e = held b q o e

  gives : (a : Action) (t : Memory Origin) → AreFine given (a ∷ []) t → AreHeld t → GivesIndices a
  gives (Allot b rooms) t fine held = tt
  gives (Take b f p) t fine held = tt
  gives (Put b f names p e) t fine held = tt
  gives (Change b f n names at over e) t fine held = tt
  gives (Give c p) t fine held =
      let claim = given.outline.claim c in
      read_held t claim.buffer (place_in (t.rooms claim.buffer) p) (origin claim.function (given.all_steps claim.function) p) held fine.0

  given_held : (todo : List Action) (t : Memory Origin) → AreFine given todo t → AreHeld t → AllByRecursion SetsIndices todo → AllByRecursion GivesIndices todo
  given_held [] t fine held sets = tt
  given_held (a ∷ later) t fine held sets = (gives a t (fine.0, tt) held, given_held later (learn given a t) fine.1 (held_after a t sets.0 held) sets.1)

pub given_indices : GivenAreIndices
given_indices given body line s is sets =
    let t : Memory Origin = nothing in
    let runs = sound given body line (at_start s) t is (record { has = λ b rs e. absurd (cc e); hold = tt }) in
    given_held given (actions given.outline.setting body s) t runs.fine (λ b q o e. absurd (cc e)) sets
