-- A nest of split loops that the test takes makes its claim.
use Rattle.std.proofs.Common.{◌≡◌, ℕ, Bool, true, List, [], ◌∷◌, map, Option, Some, None, refl, sym, ap, ◌∙◌, subst, inl, inr}
use Rattle.std.specs.Prelude.{ℤ, ◌||◌, IsSome, false}
use Rattle.std.specs.List.{list_all}
use Rattle.std.specs.Option.{option_map}
use Rattle.lin.specs.Forms.{Form}
use Rattle.plan.specs.declared.stmt.Places.{Places}
use Rattle.plan.specs.declared.stmt.Places.TheVariants.{From, Folded}
use Rattle.plan.specs.Plan.{Statement}
use Rattle.plan.specs.Symbols.{Symbols, InRegion}
use Rattle.plan.specs.Rooms.{room, place}
use Rattle.plan.specs.Semantics.Actions.{Setting, Action, actions}
use Rattle.plan.specs.Certificate.Certificate.{Claim}
use Rattle.soundness.specs.Origins.{Given}
use Rattle.soundness.specs.Claims.{In, written, ClearOf, status_after}
use Rattle.soundness.specs.Obligations.{Binder, Respects, Rules, Suited, Made, MeantAt}
use Rattle.soundness.specs.Nests.Laws.{PlainNestsAreRight}
use Rattle.soundness.specs.Nests.Tests.{plain_nests}
use Rattle.soundness.proofs.Folds.{AreStraight, straight_near, near_apart}
use Rattle.soundness.proofs.Forms.{region_lies}
use Rattle.soundness.proofs.Refines.{and_parts}
use Rattle.soundness.proofs.Sound.{or_cases}
use Rattle.soundness.proofs.Windows.{fills_make}
use Rattle.tails.specs.Steps.{Spine, spine_of, binder, along, binds, Keeps}
use Rattle.tails.specs.Moves.{is_outer}
use Rattle.tails.specs.Maps.{is_scoped, covers}
use Rattle.tails.specs.Apart.{is_steady}
use Rattle.tails.specs.Stored.{Stored, forms_at, stored_by, has_places}
use Rattle.tails.specs.Nests.{makes_split, makes_by, SplitNestsAreRight, PlainNestsAreTaken}
use Rattle.tails.proofs.Advanced.{spine_turn, update_made}
use Rattle.tails.proofs.Walk.{respects_back, any_forward}
use Rattle.tails.proofs.Distinct.{walked}
use Rattle.tails.proofs.Covering.{covers_is_visited}
use Rattle.tails.proofs.Spines.{IsWay, IsWayOf, way}
use Rattle.tails.proofs.Storing.{IsStoring, line_pure, line_stores, fixed_parts, turn_respects, turn_seats}

rooms_straight : (cs : List Binder) (s : Symbols) (places : List Places) → list_all (is_steady false cs) places ≡ true → AreStraight (map (room s) places)
rooms_straight cs s [] h = tt
rooms_straight cs s (From l n ∷ places) h = rooms_straight cs s places (and_parts (is_outer cs l) (list_all (is_steady false cs) places) h).1
rooms_straight cs s (Folded n ∷ places) h = absurd (cc h)

-- ---- the claim

module _ (given : Given) (rules : Rules) (suited : Suited given rules) (none : (f : List ℕ) → given.steps f 0 ≡ 0) (bs : List Binder) (s : Symbols) (r : Respects bs s) (claim : Claim) where
  abbrev S : Setting
  S = given.outline.setting

  abbrev IsMadeOf : List Action → List Places → List ℤ → Type 0
  IsMadeOf todo places p =
      (status_after given claim.buffer p todo None ≡ Some (given.steps claim.function claim.definition)) × ClearOf (Some (map (room s) places)) p (written claim.buffer todo)

  store_made : (places : List Places) (n : Spine) (fs : List Form) (todo : Symbols → List Action) → IsWay S claim.buffer claim.function n todo → claim.definition ≡ 0 → IsStoring S claim n.line fs →
      makes_split rules bs claim places (Some (record { steps = n.steps; forms = fs })) ≡ true → (p : List ℤ) → InRegion s claim.region p → IsMadeOf (todo s) places p
  store_made places n fs todo w pure line h p inside =
      let b = claim.buffer in
      let f = claim.function in
      let cs = along n.steps in
      let st : Stored = record { steps = n.steps; forms = fs } in
      let h1 = and_parts (has_places false rules bs st places) (covers rules bs n.steps fs claim.region) h in
      let visit = covers_is_visited rules bs n.steps fs claim.region s p (λ x y k. suited.ordered bs x y s k r) r h1.1 (region_lies s claim.region p inside) in
      let has : In p (written b (todo s)) = w.writes fs line.writes s p visit in
      let scoped = (and_parts (is_scoped (map binder n.steps)) _ h1.1).0 in
      let met = walked n.steps fs s p scoped visit in
      let t = met.0 in
      let keeps : Keeps cs s t = λ i k. met.2 i (any_forward (binds i) (map binder n.steps) k) in
      let within = turn_respects given rules suited bs s r false places st h1.0 t keeps (respects_back (map binder n.steps) t met.1) in
      let seat = subst (λ q. IsSome (place (map (room s) places) q)) met.3 (turn_seats given rules suited bs s r false places st h1.0 t keeps within) in
      let steady = (fixed_parts given rules suited bs s r false places st h1.0).1 in (
        fills_make given b f p (todo s) None (w.fills line.fills s) has ∙ ap Some (sym (ap (given.steps f) pure ∙ none f)),
        λ x m same. near_apart (map (room s) places) p x (straight_near (map (room s) places) p x (rooms_straight cs s places steady)) seat same,
      )

  split_made : (places : List Places) (o : Option Spine) (todo : Symbols → List Action) → IsWayOf S claim.buffer claim.function o todo →
      makes_split rules bs claim places (stored_by S claim o) ≡ true →
      (p : List ℤ) → InRegion s claim.region p → IsMadeOf (todo s) places p
  split_made places None todo w h = absurd (cc h)
  split_made places (Some n) todo w h = of (forms_at S claim n.line) refl h
    where
      of : (fs : Option (List Form)) → forms_at S claim n.line ≡ fs → makes_split rules bs claim places (option_map (λ gs. record { steps = n.steps; forms = gs }) fs) ≡ true →
          (p : List ℤ) → InRegion s claim.region p → IsMadeOf (todo s) places p
      of None e k = absurd (cc k)
      of (Some fs) e k =
          let line = line_pure S claim n.line fs e in
          store_made places n fs todo w line.pure (line_stores S claim n.line fs w.own line) k

pub split_nests_right : PlainNestsAreRight → SplitNestsAreRight
split_nests_right plain given rules domain suited counts = record {
  made = λ bs c from places a s h r.
      elim (or_cases ((plain_nests given.outline rules domain).is_made bs c from places a) _ h) [
        | inl k ↦ (plain given rules domain suited counts).made bs c from places a s k r
        | inr k ↦ by_split bs c from places a s r k
      ];
  in_turn = λ bs c a s h r.
      elim (or_cases ((plain_nests given.outline rules domain).is_in_turn bs c a) _ h) [
        | inl k ↦ (plain given rules domain suited counts).in_turn bs c a s k r
        | inr k ↦ (let claim = given.outline.claim c in
            spine_turn given rules domain suited counts bs s r claim (spine_of a claim.buffer) (actions given.outline.setting a) (way given.outline.setting claim.buffer claim.function a) k)
      ];
  slides = (plain given rules domain suited counts).slides;
}
  where
    by_split : (bs : List Binder) (c : ℕ) (from : Option ℕ) (places : List Places) (a : Statement) (s : Symbols) → Respects bs s →
        makes_by given.outline.setting rules domain bs (given.outline.claim c) from places (spine_of a (given.outline.claim c).buffer) ≡ true → MeantAt given (Made c from places a) s
    by_split bs c None places a s r k =
        let claim = given.outline.claim c in
        split_made given rules suited counts.none bs s r claim places (spine_of a claim.buffer) (actions given.outline.setting a) (way given.outline.setting claim.buffer claim.function a) k
    by_split bs c (Some j) places a s r k =
        let claim = given.outline.claim c in
        update_made given rules domain suited counts bs s r claim j places (spine_of a claim.buffer) (actions given.outline.setting a) (way given.outline.setting claim.buffer claim.function a) k

pub plain_nests_taken : PlainNestsAreTaken
plain_nests_taken outline rules domain = record {
  made = λ bs c from places a h. left_true ((plain_nests outline rules domain).is_made bs c from places a) _ h;
  in_turn = λ bs c a h. left_true ((plain_nests outline rules domain).is_in_turn bs c a) _ h;
}
  where
    left_true : (v w : Bool) → v ≡ true → (v || w) ≡ true
    left_true true w e = refl
    left_true false w e = absurd (cc e)
