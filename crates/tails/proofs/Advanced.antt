-- A nest of split loops that the test takes does an update's steps in turn, and makes its claim from the definition before.
use Rattle.std.proofs.Common.{◌≡◌, ℕ, zero, suc, ◌+◌, ◌-◌, true, List, [], ◌∷◌, map, length, Option, Some, None, refl, sym, ap, ◌∙◌, subst, arith}
use Rattle.std.specs.Prelude.{ℤ, ◌≤ℤ◌, ◌==◌, ◌&&◌}
use Rattle.std.specs.List.{list_all}
use Rattle.lin.specs.Forms.{Form}
use Rattle.tree.specs.Term.{Term}
use Rattle.meaning.specs.Algorithm.{Range}
use Rattle.meaning.specs.Names.{same_name}
use Rattle.meaning.specs.Reduction.{size}
use Rattle.plan.specs.declared.stmt.Places.{Places}
use Rattle.plan.specs.Plan.{Coordinate, Statement, Seq, For, Let, First, Guard, Alloc, Fetch, Store, Publish}
use Rattle.plan.specs.Symbols.{Symbols, form_value, InRegion}
use Rattle.plan.specs.Rooms.{room}
use Rattle.plan.specs.Semantics.Actions.{Setting, Action, Change, fixed, target, actions}
use Rattle.plan.specs.Certificate.Certificate.{Claim}
use Rattle.soundness.specs.Origins.{Given}
use Rattle.soundness.specs.Claims.{In, written, ClearOf, status_after}
use Rattle.soundness.specs.Obligations.{Binder, Respects, Rules, Suited, AreInTurn, begun, is_next}
use Rattle.soundness.specs.Nests.Laws.{Counts}
use Rattle.soundness.specs.Nests.Tests.{is_reduced, left_of, over_of}
use Rattle.soundness.proofs.Forms.{region_lies}
use Rattle.soundness.proofs.Refines.{and_parts, eq_true, name_true}
use Rattle.tails.specs.Steps.{Step, Spine, binder}
use Rattle.tails.specs.Moves.{is_outer}
use Rattle.tails.specs.Maps.{visited, is_beyond, is_scoped, is_once, covers}
use Rattle.tails.specs.Turns.{done_at}
use Rattle.tails.specs.Apart.{is_apart}
use Rattle.tails.specs.Updates.{loops_in, reducing, pure_steps, forms_in, at_forms, is_parted, is_stepped, is_spread, makes_update, is_in_steps}
use Rattle.tails.proofs.Counting.{Takes, Like, takes_end, takes_unwritten, takes_in_turn}
use Rattle.tails.proofs.Covering.{covers_is_visited}
use Rattle.tails.proofs.Reducing.{never, lie_at, lie_length}
use Rattle.tails.proofs.Spines.{Owns, IsWay, IsWayOf}
use Rattle.tails.proofs.Stepping.{IsUpdate, AreParted, takes_all, takes_some}

module _ (given : Given) (rules : Rules) (domain : List ℕ → ℕ → Option (List Range)) (suited : Suited given rules) (counts : Counts given domain) (bs : List Binder) (s : Symbols) (r : Respects bs s) (claim : Claim) where
  abbrev S : Setting
  S = given.outline.setting

  abbrev b : ℕ
  b = claim.buffer

  abbrev f : List ℕ
  f = claim.function

  ordered : (x y : Form) → rules.at_most bs x y ≡ true → form_value x s ≤ℤ form_value y s
  ordered x y k = suited.ordered bs x y s k r

  -- what is tested of the steps round an update's store
  record Update (c k : ℕ) (at : List Coordinate) (e : Term) (steps : List Step) : Type 0 where
    pub ds : List Range
    pub counted : domain f (suc k) ≡ Some ds
    pub definition : claim.definition ≡ suc k
    pub update : IsUpdate given b c f k ds (map (λ x. x.variable) at) (left_of S c at) (over_of S c at) e (actions S (Store c (suc k) at e))
    pub parted : (p : List ℤ) → AreParted given b c f k ds (map (λ x. x.variable) at) (left_of S c at) (over_of S c at) e (actions S (Store c (suc k) at e)) update rules bs s ordered steps p

  update_of : (c k : ℕ) (at : List Coordinate) (e : Term) (steps : List Step) → (c == b) ≡ true → is_stepped S rules domain bs claim steps (Store c (suc k) at e) ≡ true → Update c k at e steps
  update_of c k at e steps own h = of (domain f (suc k)) refl h3.0
    where
      left : List Coordinate
      left = left_of S c at

      over : List Coordinate
      over = over_of S c at

      apart_from : List Binder
      apart_from = map binder (reducing over steps)

      h1 : ((claim.definition == suc k) ≡ true) × ((same_name (S.buffer_function c) f && (is_reduced rules bs (domain f (suc k)) over (loops_in steps) && (is_scoped (map binder steps) && (is_parted over steps (forms_in left) && is_once (pure_steps over steps) (forms_in left))))) ≡ true)
      h1 = and_parts (claim.definition == suc k) _ h

      h2 : (same_name (S.buffer_function c) f ≡ true) × ((is_reduced rules bs (domain f (suc k)) over (loops_in steps) && (is_scoped (map binder steps) && (is_parted over steps (forms_in left) && is_once (pure_steps over steps) (forms_in left)))) ≡ true)
      h2 = and_parts (same_name (S.buffer_function c) f) _ h1.1

      h3 : (is_reduced rules bs (domain f (suc k)) over (loops_in steps) ≡ true) × ((is_scoped (map binder steps) && (is_parted over steps (forms_in left) && is_once (pure_steps over steps) (forms_in left))) ≡ true)
      h3 = and_parts (is_reduced rules bs (domain f (suc k)) over (loops_in steps)) _ h2.1

      h4 : (is_scoped (map binder steps) ≡ true) × ((is_parted over steps (forms_in left) && is_once (pure_steps over steps) (forms_in left)) ≡ true)
      h4 = and_parts (is_scoped (map binder steps)) _ h3.1

      h5 : (is_parted over steps (forms_in left) ≡ true) × (is_once (pure_steps over steps) (forms_in left) ≡ true)
      h5 = and_parts (is_parted over steps (forms_in left)) (is_once (pure_steps over steps) (forms_in left)) h4.1

      h6 : (list_all (is_beyond (map binder steps)) apart_from ≡ true) × ((list_all (is_apart apart_from) (map binder (pure_steps over steps)) && list_all (is_outer apart_from) (forms_in left)) ≡ true)
      h6 = and_parts (list_all (is_beyond (map binder steps)) apart_from) _ h5.0

      h7 : (list_all (is_apart apart_from) (map binder (pure_steps over steps)) ≡ true) × (list_all (is_outer apart_from) (forms_in left) ≡ true)
      h7 = and_parts (list_all (is_apart apart_from) (map binder (pure_steps over steps))) (list_all (is_outer apart_from) (forms_in left)) h6.1

      of : (o : Option (List Range)) → domain f (suc k) ≡ o → is_reduced rules bs o over (loops_in steps) ≡ true → Update c k at e steps
      of None d w = never w
      of (Some ds) d w = record {
        ds = ds;
        counted = d;
        definition = eq_true claim.definition (suc k) h1.0;
        update = record {
          own = own;
          turn = λ u. ap (λ g. Change c g (suc k) (map (λ x. x.variable) at) (map (target u) left) (map (λ x. fixed (target u x)) over) e ∷ []) (name_true (S.buffer_function c) f h2.0);
          ranges = counts.ranges f k ds d;
          inside = λ z i. counts.inside f k ds z d i;
          step = λ z i. counts.step f k ds z d i;
        };
        parted = λ p. record { scoped = h4.0; beyond = h6.0; apart = h7.0; outer = h7.1; once = h5.1; whole = w };
      }

  -- the line's actions among all
  among : (n : Spine) (todo : Symbols → List Action) → IsWay S b f n todo → (line : Statement) → n.line ≡ line → (p : List ℤ) → Like given b p (todo s) (done_at (actions S line) n.steps s)
  among n todo w line is p = subst (λ a. Like given b p (todo s) (done_at (actions S a) n.steps s)) is (w.takes given p s)

  -- ---- in turn

  abbrev AreTurns : List Action → Type 0
  AreTurns todo = AreInTurn given b f claim.definition (λ p. begun given f (Some (claim.definition - 1))) todo

  line_turn : (n : Spine) (todo : Symbols → List Action) → IsWay S b f n todo → (line : Statement) → n.line ≡ line → is_stepped S rules domain bs claim n.steps line ≡ true → Owns S b f line → AreTurns (todo s)
  line_turn n todo w (Store c zero at e) is h own = never h
  line_turn n todo w (Store c (suc k) at e) is h own =
      let u = update_of c k at e n.steps own h in
      let names = map (λ (x : Coordinate). x.variable) at in
      let steps : AreInTurn given b f (suc k) (λ p. Some (given.steps f k)) (todo s) =
      takes_in_turn given b f (suc k) (given.steps f k) (todo s)
      (λ p.
      let some = takes_some given b c f k u.ds names (left_of S c at) (over_of S c at) e (actions S (Store c (suc k) at e)) u.update rules bs s ordered n.steps p (u.parted p) in
      (some.0, among n todo w (Store c (suc k) at e) is p (given.steps f k) some.0 some.1)) in
      subst (λ n. AreInTurn given b f n (λ p. Some (given.steps f (n - 1))) (todo s)) (sym u.definition)
      (let back : k ≡ suc k - 1 = omega arith in subst (λ n. AreInTurn given b f (suc k) (λ p. Some (given.steps f n)) (todo s)) back steps)
  line_turn n todo w (Fetch c g region) is h own = never h
  line_turn n todo w (Seq all) is h own = absurd own
  line_turn n todo w (For i x kind body) is h own = absurd own
  line_turn n todo w (Let i pick fs) is h own = absurd own
  line_turn n todo w (First i a c) is h own = absurd own
  line_turn n todo w (Guard low high body) is h own = absurd own
  line_turn n todo w (Alloc c g places) is h own = absurd own
  line_turn n todo w (Publish c) is h own = absurd own

  pub spine_turn : (o : Option Spine) (todo : Symbols → List Action) → IsWayOf S b f o todo → is_in_steps S rules domain bs claim o ≡ true → AreTurns (todo s)
  spine_turn None todo w h = never h
  spine_turn (Some n) todo w h = line_turn n todo w n.line refl h w.own

  -- ---- made

  abbrev IsMadeFrom : ℕ → List Action → List Places → List ℤ → Type 0
  IsMadeFrom k todo places p =
      (status_after given b p todo (begun given f (Some k)) ≡ Some (given.steps f claim.definition)) × ClearOf (Some (map (room s) places)) p (written b todo)

  next_is : (k d j : ℕ) → is_next k d ≡ true → d ≡ suc j → k ≡ j
  next_is k zero j h e = never h
  next_is k (suc d) j h e = let same : d ≡ j = omega (arith, e) in sym (eq_true d k h) ∙ same

  line_made : (k : ℕ) (places : List Places) (n : Spine) (todo : Symbols → List Action) → IsWay S b f n todo → (line : Statement) → n.line ≡ line → is_next k claim.definition ≡ true → is_stepped S rules domain bs claim n.steps line ≡ true → is_spread S rules bs claim n.steps line ≡ true →
      Owns S b f line → (p : List ℤ) → InRegion s claim.region p → IsMadeFrom k (todo s) places p
  line_made k places n todo w (Store c zero at e) is next h spread own p inside = never h
  line_made k places n todo w (Store c (suc j) at e) is next h spread own p inside =
      let left = left_of S c at in
      let over = over_of S c at in
      let names = map (λ (x : Coordinate). x.variable) at in
      let u = update_of c j at e n.steps own h in
      let before : k ≡ j = next_is k claim.definition j next u.definition in
      let spread_parts = and_parts (length left == length claim.region) (covers rules bs (pure_steps over n.steps) (forms_in left) (at_forms left claim.region)) spread in
      let lie = region_lies s claim.region p inside in
      let many : length left ≡ length p = eq_true (length left) (length claim.region) spread_parts.0 ∙ lie_length s claim.region p lie in
      let visit : In (at_forms left p) (visited (pure_steps over n.steps) (forms_in left) s) =
      covers_is_visited rules bs (pure_steps over n.steps) (forms_in left) (at_forms left claim.region) s (at_forms left p) ordered r spread_parts.1 (lie_at s left claim.region p lie) in
      let takes : Takes given b p (given.steps f j) (todo s) (given.steps f j + size u.ds) =
      among n todo w (Store c (suc j) at e) is p (given.steps f j) (given.steps f j + size u.ds)
      (takes_all given b c f j u.ds names left over e (actions S (Store c (suc j) at e)) u.update rules bs s ordered n.steps p (u.parted p) many visit) in
      let unwritten : written b (todo s) ≡ [] = takes_unwritten given b p (given.steps f j) (given.steps f j + size u.ds) (todo s) takes in (
        ap (λ n. status_after given b p (todo s) (Some (given.steps f n))) before
            ∙ takes_end given b p (given.steps f j) (given.steps f j + size u.ds) (todo s) takes
            ∙ ap Some (sym (counts.next f j u.ds u.counted) ∙ ap (given.steps f) (sym u.definition)),
        λ x m same. absurd (subst (In x) unwritten m),
      )
  line_made k places n todo w (Fetch c g region) is next h spread own p inside = never h
  line_made k places n todo w (Seq all) is next h spread own p inside = absurd own
  line_made k places n todo w (For i x kind body) is next h spread own p inside = absurd own
  line_made k places n todo w (Let i pick fs) is next h spread own p inside = absurd own
  line_made k places n todo w (First i a c) is next h spread own p inside = absurd own
  line_made k places n todo w (Guard low high body) is next h spread own p inside = absurd own
  line_made k places n todo w (Alloc c g rs) is next h spread own p inside = absurd own
  line_made k places n todo w (Publish c) is next h spread own p inside = absurd own

  pub update_made : (k : ℕ) (places : List Places) (o : Option Spine) (todo : Symbols → List Action) → IsWayOf S b f o todo → makes_update S rules domain bs claim k o ≡ true → (p : List ℤ) → InRegion s claim.region p → IsMadeFrom k (todo s) places p
  update_made k places None todo w h = never h
  update_made k places (Some n) todo w h =
      let a = and_parts (is_next k claim.definition) (is_stepped S rules domain bs claim n.steps n.line && is_spread S rules bs claim n.steps n.line) h in
      let c = and_parts (is_stepped S rules domain bs claim n.steps n.line) (is_spread S rules bs claim n.steps n.line) a.1 in
      line_made k places n todo w n.line refl a.0 c.0 c.1 w.own
