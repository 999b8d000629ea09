-- What the tests of nests say yes to is so.
use Rattle.std.proofs.Common.{◌≡◌, ℕ, zero, suc, ◌+◌, ◌-◌, Bool, true, false, List, [], ◌∷◌, ◌++◌, map, length, Option, Some, None, refl, sym, ap, ◌∙◌, subst, inl, inr, arith}
use Rattle.std.specs.Prelude.{ℤ, ◌==◌, ◌||◌, if◌then◌else◌, filter, reverse}
use Rattle.std.specs.List.{list_all}
use Rattle.tree.specs.Term.{Term}
use Rattle.meaning.specs.Algorithm.{Range}
use Rattle.meaning.specs.Names.{same_name}
use Rattle.meaning.specs.Reduction.{size}
use Rattle.plan.specs.declared.stmt.Places.{Places}
use Rattle.plan.specs.Plan.{Coordinate, Statement, Seq, For, Let, First, Guard, Alloc, Fetch, Store, Publish}
use Rattle.plan.specs.Symbols.{Symbols, InRegion}
use Rattle.plan.specs.Rooms.{room}
use Rattle.plan.specs.Semantics.Actions.{Setting, Action, Change, fixed, target, actions}
use Rattle.plan.specs.Certificate.Certificate.{Claim}
use Rattle.soundness.specs.Origins.{Given}
use Rattle.soundness.specs.Claims.{In, written, ClearOf, status_after}
use Rattle.soundness.specs.Obligations.{Binder, Respects, Rules, Suited, AreInTurn, begun, is_form, is_next}
use Rattle.soundness.proofs.Forms.{region_lies}
use Rattle.soundness.proofs.Refines.{eq_true, and_parts, name_true}
use Rattle.soundness.proofs.Sound.{or_cases}
use Rattle.soundness.specs.Nests.Nest.{Loop, Nest, nest_of}
use Rattle.soundness.specs.Nests.Tests.{is_among, are_whole, is_reduced, are_matched, runs_over, left_of, over_of, is_filled, is_fetched, is_ordered, is_advanced, makes, is_in_order}
use Rattle.soundness.specs.Nests.Laws.{Counts, PlainNestsAreRight}
use Rattle.soundness.proofs.Coordinates.{never, all_in, coordinate, run_lies, lie_length}
use Rattle.soundness.proofs.Fetched.{fetched_made}
use Rattle.soundness.proofs.Filled.{Matched, matched, filled_made}
use Rattle.soundness.proofs.Ordered.{Fits, fits_span, IsUpdate, takes_all, takes_some}
use Rattle.soundness.proofs.Steps.{takes_end, takes_in_turn, takes_unwritten}
use Rattle.soundness.proofs.Touched.{touched, written_touched, status_touched, in_turn_touched}
use Rattle.soundness.proofs.Visits.{spin_of, visits, AreFree, visit, IsOfBuffer, AreVisits, nest_visits}

module _ (given : Given) (rules : Rules) (domain : List ℕ → ℕ → Option (List Range)) (suited : Suited given rules) (counts : Counts given domain) (bs : List Binder) (s : Symbols) (r : Respects bs s) (claim : Claim) where
  abbrev S : Setting
  S = given.outline.setting

  abbrev b : ℕ
  b = claim.buffer

  -- the store of an update at a visit
  change_visit : (c k : ℕ) (at : List Coordinate) (e : Term) → (c == b) ≡ true → (t : Symbols) →
      visit S b (Store c (suc k) at e) t ≡ Change c (S.buffer_function c) (suc k) (map (λ x. x.variable) at) (map (target t) (left_of S c at)) (map (λ x. fixed (target t x)) (over_of S c at)) e ∷ []
  change_visit c k at e own t = ap (λ v. if v then Change c (S.buffer_function c) (suc k) (map (λ x. x.variable) at) (map (target t) (left_of S c at)) (map (λ x. fixed (target t x)) (over_of S c at)) e ∷ [] else []) own

  -- what is tested of an update's nest
  record Update (c k : ℕ) (at : List Coordinate) (e : Term) (ls : List Loop) : Type 0 where
    pub ds : List Range
    pub counted : domain claim.function (suc k) ≡ Some ds
    pub definition : claim.definition ≡ suc k
    pub matched : Matched ls (left_of S c at ++ over_of S c at)
    pub whole : are_whole rules bs (filter (is_among (over_of S c at)) ls) (reverse (over_of S c at)) (reverse ds) ≡ true
    pub update : IsUpdate given rules suited bs s r b c claim.function k ds (map (λ x. x.variable) at) (left_of S c at) (over_of S c at) e (visit S b (Store c (suc k) at e))

  update_of : (c k : ℕ) (at : List Coordinate) (e : Term) (ls : List Loop) → (c == b) ≡ true → is_ordered S rules domain bs claim ls (Store c (suc k) at e) ≡ true → Update c k at e ls
  update_of c k at e ls own h =
      let h1 = and_parts (claim.definition == suc k) _ h in
      let h2 = and_parts (same_name (S.buffer_function c) claim.function) _ h1.1 in
      let h3 = and_parts (list_all is_form (over_of S c at)) _ h2.1 in
      let h4 = and_parts (are_matched ls (left_of S c at ++ over_of S c at)) (is_reduced rules bs (domain claim.function (suc k)) (over_of S c at) ls) h3.1 in
      of (domain claim.function (suc k)) refl h4.1 (eq_true claim.definition (suc k) h1.0) (matched ls (left_of S c at ++ over_of S c at) h4.0) (name_true (S.buffer_function c) claim.function h2.0)
    where
      of : (o : Option (List Range)) → domain claim.function (suc k) ≡ o → is_reduced rules bs o (over_of S c at) ls ≡ true → claim.definition ≡ suc k → Matched ls (left_of S c at ++ over_of S c at) → S.buffer_function c ≡ claim.function → Update c k at e ls
      of None d w n m name = never w
      of (Some ds) d w n m name = record {
        ds = ds;
        counted = d;
        definition = n;
        matched = m;
        whole = w;
        update = record {
          own = eq_true c b own;
          visit = λ t. change_visit c k at e own t ∙ ap (λ f. Change c f (suc k) (map (λ x. x.variable) at) (map (target t) (left_of S c at)) (map (λ x. fixed (target t x)) (over_of S c at)) e ∷ []) name;
          ranges = counts.ranges claim.function k ds d;
          inside = λ z i. counts.inside claim.function k ds z d i;
          step = λ z i. counts.step claim.function k ds z d i;
        };
      }

  -- ---- in turn

  ordered_turn : (ls : List Loop) (line : Statement) (todo : List Action) → IsOfBuffer S b line → is_ordered S rules domain bs claim ls line ≡ true → (AreFree ls → touched b todo ≡ visits (visit S b line) (map (spin_of s) ls) s) →
      AreInTurn given b claim.function claim.definition (λ p. begun given claim.function (Some (claim.definition - 1))) todo
  ordered_turn ls (Store c zero at e) todo own h same = never h
  ordered_turn ls (Store c (suc k) at e) todo own h same =
      let u = update_of c k at e ls own h in
      let steps : AreInTurn given b claim.function (suc k) (λ p. Some (given.steps claim.function k)) todo =
      in_turn_touched given b claim.function (suc k) (λ p. Some (given.steps claim.function k)) todo
      (subst (AreInTurn given b claim.function (suc k) (λ p. Some (given.steps claim.function k))) (sym (same u.matched.free))
      (takes_in_turn given b claim.function (suc k) (given.steps claim.function k) (visits (visit S b (Store c (suc k) at e)) (map (spin_of s) ls) s)
      (λ p. takes_some given rules suited bs s r b c claim.function k u.ds (map (λ x. x.variable) at) (left_of S c at) (over_of S c at) e (visit S b (Store c (suc k) at e)) u.update ls u.matched p u.whole))) in
      subst (λ n. AreInTurn given b claim.function n (λ p. Some (given.steps claim.function (n - 1))) todo) (sym u.definition)
      (let back : k ≡ suc k - 1 = omega arith in subst (λ n. AreInTurn given b claim.function (suc k) (λ p. Some (given.steps claim.function n)) todo) back steps)
  ordered_turn ls (Fetch c g region) todo own h same = never h
  ordered_turn ls (Seq all) todo own h same = never h
  ordered_turn ls (For i x kind body) todo own h same = never h
  ordered_turn ls (Let i pick fs) todo own h same = never h
  ordered_turn ls (First i a c) todo own h same = never h
  ordered_turn ls (Guard low high body) todo own h same = never h
  ordered_turn ls (Alloc c f places) todo own h same = never h
  ordered_turn ls (Publish c) todo own h same = never h

  nest_turn : (o : Option Nest) (todo : Symbols → List Action) → AreVisits S b o todo → is_in_order S rules domain bs claim o ≡ true →
      AreInTurn given b claim.function claim.definition (λ p. begun given claim.function (Some (claim.definition - 1))) (todo s)
  nest_turn None todo v h = never h
  nest_turn (Some n) todo v h = ordered_turn n.loops n.line (todo s) v.0 h (v.1 s)

  -- ---- made

  abbrev IsMadeOf : List Action → Option ℕ → List Places → List ℤ → Type 0
  IsMadeOf todo from places p =
      (status_after given b p todo (begun given claim.function from) ≡ Some (given.steps claim.function claim.definition)) × ClearOf (Some (map (room s) places)) p (written b todo)

  line_filled : (places : List Places) (ls : List Loop) (line : Statement) (todo : List Action) → IsOfBuffer S b line → is_filled S rules bs claim places ls line ≡ true → (AreFree ls → touched b todo ≡ visits (visit S b line) (map (spin_of s) ls) s) →
      (p : List ℤ) → InRegion s claim.region p → IsMadeOf todo None places p
  line_filled places ls (Store c k at e) todo own h same p inside = filled_made given rules suited counts.none bs s r claim places ls c k at e todo own h same p inside
  line_filled places ls (Fetch c g region) todo own h same p inside = never h
  line_filled places ls (Seq all) todo own h same p inside = never h
  line_filled places ls (For i x kind body) todo own h same p inside = never h
  line_filled places ls (Let i pick fs) todo own h same p inside = never h
  line_filled places ls (First i a c) todo own h same p inside = never h
  line_filled places ls (Guard low high body) todo own h same p inside = never h
  line_filled places ls (Alloc c f rs) todo own h same p inside = never h
  line_filled places ls (Publish c) todo own h same p inside = never h

  line_fetched : (places : List Places) (ls : List Loop) (line : Statement) (todo : List Action) → IsOfBuffer S b line → is_fetched S rules bs claim places ls line ≡ true → (AreFree ls → touched b todo ≡ visits (visit S b line) (map (spin_of s) ls) s) →
      (p : List ℤ) → InRegion s claim.region p → IsMadeOf todo None places p
  line_fetched places [] (Fetch c g region) todo own h same p inside = fetched_made given rules suited bs s r claim places c g region todo own h (same (λ l m i j. absurd i)) p inside
  line_fetched places (l ∷ ls) (Fetch c g region) todo own h same p inside = never h
  line_fetched places ls (Store c k at e) todo own h same p inside = none ls h
    where
      none : (ms : List Loop) → is_fetched S rules bs claim places ms (Store c k at e) ≡ true → IsMadeOf todo None places p
      none [] g = never g
      none (m ∷ ms) g = never g
  line_fetched places ls (Seq all) todo own h same p inside = absurd own
  line_fetched places ls (For i x kind body) todo own h same p inside = absurd own
  line_fetched places ls (Let i pick fs) todo own h same p inside = absurd own
  line_fetched places ls (First i a c) todo own h same p inside = absurd own
  line_fetched places ls (Guard low high body) todo own h same p inside = absurd own
  line_fetched places ls (Alloc c f rs) todo own h same p inside = absurd own
  line_fetched places ls (Publish c) todo own h same p inside = absurd own

  advanced_made : (k : ℕ) (places : List Places) (ls : List Loop) (line : Statement) (todo : List Action) → IsOfBuffer S b line → is_next k claim.definition ≡ true → is_advanced S rules domain bs claim ls line ≡ true →
      (AreFree ls → touched b todo ≡ visits (visit S b line) (map (spin_of s) ls) s) → (p : List ℤ) → InRegion s claim.region p → IsMadeOf todo (Some k) places p
  advanced_made k places ls (Store c zero at e) todo own next h same p inside = never h
  advanced_made k places ls (Store c (suc j) at e) todo own next h same p inside =
      let f = claim.function in
      let left = left_of S c at in
      let over = over_of S c at in
      let h1 = and_parts (is_ordered S rules domain bs claim ls (Store c (suc j) at e)) _ h in
      let h2 = and_parts (length left == length claim.region) (list_all (λ l. is_among over l || runs_over rules bs left claim.region l) ls) h1.1 in
      let u = update_of c j at e ls own h1.0 in
      let before : k ≡ j = next_is k claim.definition j next u.definition in
      let lie = region_lies s claim.region p inside in
      let many : length left ≡ length p = eq_true (length left) (length claim.region) h2.0 ∙ lie_length s claim.region p lie in
      let act = visit S b (Store c (suc j) at e) in
      let fit : (l : Loop) → In l ls → is_among over l ≡ false → Fits s (λ i. coordinate i left p) l =
      λ l m e. fits_span s (λ i. coordinate i left p) l (u.matched.ends l m)
      (run_lies given rules suited bs s r l.symbol left claim.region p l.span (either (is_among over l) (runs_over rules bs left claim.region l) e (all_in (λ l. is_among over l || runs_over rules bs left claim.region l) ls h2.1 l m)) lie) in
      let takes = takes_all given rules suited bs s r b c f j u.ds (map (λ x. x.variable) at) left over e act u.update ls u.matched p many fit u.whole in
      let nest = visits act (map (spin_of s) ls) s in
      let unwritten : written b todo ≡ [] = written_touched b todo ∙ ap (written b) (same u.matched.free) ∙ takes_unwritten given b f (suc j) p (given.steps f j) (given.steps f j + size u.ds) nest takes in (
        ap (λ n. status_after given b p todo (Some (given.steps f n))) before
            ∙ status_touched given b p todo (Some (given.steps f j)) ∙ ap (λ xs. status_after given b p xs (Some (given.steps f j))) (same u.matched.free)
            ∙ takes_end given b f (suc j) p (given.steps f j) (given.steps f j + size u.ds) nest takes
            ∙ ap Some (sym (counts.next f j u.ds u.counted) ∙ ap (given.steps f) (sym u.definition)),
        λ x m e. absurd (subst (In x) unwritten m),
      )
    where
      either : (v w : Bool) → v ≡ false → (v || w) ≡ true → w ≡ true
      either true w e h = never (sym e)
      either false w e h = h

      next_is : (k d j : ℕ) → is_next k d ≡ true → d ≡ suc j → k ≡ j
      next_is k zero j h e = never h
      next_is k (suc d) j h e = let same : d ≡ j = omega (arith, e) in sym (eq_true d k h) ∙ same
  advanced_made k places ls (Fetch c g region) todo own next h same p inside = never h
  advanced_made k places ls (Seq all) todo own next h same p inside = never h
  advanced_made k places ls (For i x kind body) todo own next h same p inside = never h
  advanced_made k places ls (Let i pick fs) todo own next h same p inside = never h
  advanced_made k places ls (First i a c) todo own next h same p inside = never h
  advanced_made k places ls (Guard low high body) todo own next h same p inside = never h
  advanced_made k places ls (Alloc c f rs) todo own next h same p inside = never h
  advanced_made k places ls (Publish c) todo own next h same p inside = never h

  nest_made : (o : Option Nest) (from : Option ℕ) (places : List Places) (todo : Symbols → List Action) → AreVisits S b o todo → makes S rules domain bs claim from places o ≡ true → (p : List ℤ) → InRegion s claim.region p → IsMadeOf (todo s) from places p
  nest_made None from places todo v h = never h
  nest_made (Some n) None places todo v h = λ p inside.
      elim (or_cases (is_filled S rules bs claim places n.loops n.line) (is_fetched S rules bs claim places n.loops n.line) h) [
        | inl k ↦ line_filled places n.loops n.line (todo s) v.0 k (v.1 s) p inside
        | inr k ↦ line_fetched places n.loops n.line (todo s) v.0 k (v.1 s) p inside
      ]
  nest_made (Some n) (Some k) places todo v h =
      let g = and_parts (is_next k claim.definition) (is_advanced S rules domain bs claim n.loops n.line) h in
      advanced_made k places n.loops n.line (todo s) v.0 g.0 g.1 (v.1 s)

pub plain_nests_right : PlainNestsAreRight
plain_nests_right given rules domain suited counts = record {
  made = λ bs c from places a s h r. nest_made given rules domain suited counts bs s r (given.outline.claim c) (nest_of a (given.outline.claim c).buffer) from places (actions given.outline.setting a) (nest_visits given.outline.setting (given.outline.claim c).buffer a) h;
  in_turn = λ bs c a s h r. nest_turn given rules domain suited counts bs s r (given.outline.claim c) (nest_of a (given.outline.claim c).buffer) (actions given.outline.setting a) (nest_visits given.outline.setting (given.outline.claim c).buffer a) h;
  slides = λ bs w c places a s h k r. let no : false ≡ true = h in absurd (cc no);
}
