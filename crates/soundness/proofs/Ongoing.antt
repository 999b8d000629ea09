-- An update's nest that is under way: what is known of each point while its steps are done.
use Rattle.std.proofs.Common.{◌≡◌, ℕ, zero, suc, ◌+◌, ◌-◌, Bool, true, false, List, [], ◌∷◌, ◌++◌, map, Option, Some, None, refl, sym, ap, ◌∙◌, subst, inl, inr, append_assoc, arith}
use Rattle.std.proofs.lemmas.Int.{ints}
use Rattle.std.specs.Prelude.{ℤ, pos, ◌+ℤ◌, ◌≤ℤ◌, ◌<ℤ◌, IsSome, IsTrue, ◌==◌, ◌&&◌, if◌then◌else◌, int_le, flat_map}
use Rattle.meaning.specs.Names.{same_name}
use Rattle.tree.specs.Term.{Term}
use Rattle.plan.specs.Plan.{Statement, Seq, For, Let, First, Guard, Alloc, Fetch, Store, Publish, Statements, Empty, Then}
use Rattle.plan.specs.Symbols.{Symbols, rising, form_value, turns, points}
use Rattle.plan.specs.Rooms.{Room, room}
use Rattle.plan.specs.Lines.{lines}
use Rattle.plan.specs.Semantics.Actions.{Setting, Action, Allot, Take, Put, Change, Give, Target, action_for, actions, block_actions, after}
use Rattle.soundness.specs.Origins.{Given, matches}
use Rattle.soundness.specs.Claims.{In, changes, is_update, updates, block_updates, writes, block_writes, written, is_clear, Fact, Scope, choose_facts, buffer_of, function_of, InForce, EachTurn, status_one, status_after, stable, is_written, advanced, keep, new_fact, more_rooms, onward, block_left, left}
use Rattle.soundness.specs.Obligations.{AreInTurn}
use Rattle.soundness.proofs.Refines.{and_parts}
use Rattle.soundness.proofs.Learned.{Spares}
use Rattle.soundness.proofs.Sound.{leaves}

and_join : (a b : Bool) → a ≡ true → b ≡ true → (a && b) ≡ true
and_join true b h k = k
and_join false b h k = absurd (cc h)

else_not : (v : Bool) → (if v then false else true) ≡ true → v ≡ false
else_not true h = absurd (cc h)
else_not false h = refl

-- ---- actions that do nothing to a buffer but steps of updates

abbrev pub OnlySteps : ℕ → List Action → Type 0
OnlySteps b [] = Unit {0}
OnlySteps b (Allot c rooms ∷ later) = (c == b) ≡ false × OnlySteps b later
OnlySteps b (Take c f p ∷ later) = (c == b) ≡ false × OnlySteps b later
OnlySteps b (Put c f names p e ∷ later) = (c == b) ≡ false × OnlySteps b later
OnlySteps b (Change c f k names at over e ∷ later) = OnlySteps b later
OnlySteps b (Give c p ∷ later) = OnlySteps b later

steps_append : (b : ℕ) (xs ys : List Action) → OnlySteps b xs → OnlySteps b ys → OnlySteps b (xs ++ ys)
steps_append b [] ys p q = q
steps_append b (Allot c rooms ∷ later) ys p q = (p.0, steps_append b later ys p.1 q)
steps_append b (Take c f x ∷ later) ys p q = (p.0, steps_append b later ys p.1 q)
steps_append b (Put c f names x e ∷ later) ys p q = (p.0, steps_append b later ys p.1 q)
steps_append b (Change c f k names at over e ∷ later) ys p q = steps_append b later ys p q
steps_append b (Give c x ∷ later) ys p q = steps_append b later ys p q

steps_all : {A : Type 0} (b : ℕ) (g : A → List Action) → ((a : A) → OnlySteps b (g a)) → (xs : List A) → OnlySteps b (flat_map g xs)
steps_all b g h [] = tt
steps_all b g h (x ∷ xs) = steps_append b (g x) (flat_map g xs) (h x) (steps_all b g h xs)

steps_takes : (b c : ℕ) (f : List ℕ) → (c == b) ≡ false → (ps : List (List ℤ)) → OnlySteps b (map (Take c f) ps)
steps_takes b c f h [] = tt
steps_takes b c f h (p ∷ ps) = (h, steps_takes b c f h ps)

steps_gives : (b c : ℕ) (ps : List (List ℤ)) → OnlySteps b (map (Give c) ps)
steps_gives b c [] = tt
steps_gives b c (p ∷ ps) = steps_gives b c ps

steps_store : (v : Bool) (b c : ℕ) (f : List ℕ) (k : ℕ) (names : List (List ℕ)) (at : List Target) (over : List ℤ) (e : Term) → (v ≡ true → (c == b) ≡ false) → OnlySteps b (action_for v c f k names at over e ∷ [])
steps_store true b c f k names at over e h = (h refl, tt)
steps_store false b c f k names at over e h = tt

not_pure : (v w : Bool) → (if v then w && false else true) ≡ true → v ≡ false
not_pure true true h = absurd (cc h)
not_pure true false h = absurd (cc h)
not_pure false w h = refl

module _ (setting : Setting) where
  mutual
    pub only_steps : (a : Statement) (s : Symbols) (b : ℕ) (f : List ℕ) → updates setting a b f ≡ true → OnlySteps b (actions setting a s)
    only_steps (Seq all) s b f h = block_only_steps all s b f h
    only_steps (For i x kind body) s b f h = steps_all b _ (λ z. only_steps body _ b f h) (turns s x)
    only_steps (Let i pick ls) s b f h = tt
    only_steps (First i a c) s b f h =
        let k = and_parts (updates setting a b f) (updates setting c b f) h in
        elim (s.first i) as (λ v. OnlySteps b (if v then actions setting a s else actions setting c s)) [ true ↦ only_steps a s b f k.0 | false ↦ only_steps c s b f k.1 ]
    only_steps (Guard low high body) s b f h =
        elim (int_le (form_value low s) (form_value high s)) as (λ v. OnlySteps b (if v then actions setting body s else [])) [ true ↦ only_steps body s b f h | false ↦ tt ]
    only_steps (Alloc c g places) s b f h = (else_not (c == b) h, tt)
    only_steps (Fetch c g region) s b f h = steps_takes b c (setting.group_function g) (else_not (c == b) h) (points s region)
    only_steps (Store c zero at e) s b f h = steps_store _ b c (setting.buffer_function c) zero _ _ _ e (λ v. not_pure (c == b) (same_name (setting.buffer_function c) f) h)
    only_steps (Store c (suc k) at e) s b f h = tt
    only_steps (Publish c) s b f h = steps_gives b c (setting.own s)

    pub block_only_steps : (row : Statements) → (s : Symbols) (b : ℕ) (f : List ℕ) → block_updates setting row b f ≡ true → OnlySteps b (block_actions setting row s)
    block_only_steps Empty s b f h = tt
    block_only_steps (Then a rest) s b f h =
        let k = and_parts (updates setting a b f) (block_updates setting rest b f) h in
        steps_append b (actions setting a s) (block_actions setting rest (after a s)) (only_steps a s b f k.0) (block_only_steps rest (after a s) b f k.1)

  fetch_writes : (v w : Bool) → (if v then false else true) ≡ true → (if v then w else true) ≡ true
  fetch_writes true w h = absurd (cc h)
  fetch_writes false w h = refl

  store_writes : (v w u : Bool) → (if v then w && u else true) ≡ true → (if v then w else true) ≡ true
  store_writes true w u h = (and_parts w u h).0
  store_writes false w u h = refl

  mutual
    updates_writes : (a : Statement) (b : ℕ) (f : List ℕ) → updates setting a b f ≡ true → writes setting a b f ≡ true
    updates_writes (Seq all) b f h = block_updates_writes all b f h
    updates_writes (For i x kind body) b f h = updates_writes body b f h
    updates_writes (Let i pick ls) b f h = refl
    updates_writes (First i a c) b f h =
        let k = and_parts (updates setting a b f) (updates setting c b f) h in
        and_join (writes setting a b f) (writes setting c b f) (updates_writes a b f k.0) (updates_writes c b f k.1)
    updates_writes (Guard low high body) b f h = updates_writes body b f h
    updates_writes (Alloc c g places) b f h = h
    updates_writes (Fetch c g region) b f h = fetch_writes (c == b) (same_name (setting.group_function g) f) h
    updates_writes (Store c k at e) b f h = store_writes (c == b) (same_name (setting.buffer_function c) f) (is_update k) h
    updates_writes (Publish c) b f h = refl

    block_updates_writes : (row : Statements) → (b : ℕ) (f : List ℕ) → block_updates setting row b f ≡ true → block_writes setting row b f ≡ true
    block_updates_writes Empty b f h = refl
    block_updates_writes (Then a rest) b f h =
        let k = and_parts (updates setting a b f) (block_updates setting rest b f) h in
        and_join (writes setting a b f) (block_writes setting rest b f) (updates_writes a b f k.0) (block_updates_writes rest b f k.1)

steps_unwritten : (b : ℕ) (xs : List Action) → OnlySteps b xs → written b xs ≡ []
steps_unwritten b [] h = refl
steps_unwritten b (Allot c rooms ∷ later) h = steps_unwritten b later h.1
steps_unwritten b (Take c f x ∷ later) h = rw h.0 (steps_unwritten b later h.1)
steps_unwritten b (Put c f names x e ∷ later) h = rw h.0 (steps_unwritten b later h.1)
steps_unwritten b (Change c f k names at over e ∷ later) h = steps_unwritten b later h
steps_unwritten b (Give c x ∷ later) h = steps_unwritten b later h

module _ (given : Given) where
  -- ---- the steps done of a point

  pub status_append : (b : ℕ) (p : List ℤ) (xs ys : List Action) (st : Option ℕ) → status_after given b p (xs ++ ys) st ≡ status_after given b p ys (status_after given b p xs st)
  status_append b p [] ys st = refl
  status_append b p (x ∷ xs) ys st = status_append b p xs ys (status_one given b p x st)

  same_none : (v : Bool) → let none : Option ℕ = None in (if v then none else none) ≡ none
  same_none true = refl
  same_none false = refl

  steps_none : (b : ℕ) (p : List ℤ) (xs : List Action) → OnlySteps b xs → status_after given b p xs None ≡ None
  steps_none b p [] h = refl
  steps_none b p (Allot c rooms ∷ later) h = rw h.0 (steps_none b p later h.1)
  steps_none b p (Take c f x ∷ later) h = rw h.0 (steps_none b p later h.1)
  steps_none b p (Put c f names x e ∷ later) h = rw h.0 (steps_none b p later h.1)
  steps_none b p (Change c f k names at over e ∷ later) h = ap (status_after given b p later) (same_none (c == b)) ∙ steps_none b p later h
  steps_none b p (Give c x ∷ later) h = steps_none b p later h

  steps_some : (b : ℕ) (p : List ℤ) (xs : List Action) (n : ℕ) → OnlySteps b xs → (m : ℕ) × (status_after given b p xs (Some n) ≡ Some m)
  steps_some b p [] n h = (n, refl)
  steps_some b p (Allot c rooms ∷ later) n h = rw h.0 (steps_some b p later n h.1)
  steps_some b p (Take c f x ∷ later) n h = rw h.0 (steps_some b p later n h.1)
  steps_some b p (Put c f names x e ∷ later) n h = rw h.0 (steps_some b p later n h.1)
  steps_some b p (Change c f k names at over e ∷ later) n h = of (c == b) (λ m. steps_some b p later m h)
    where
      of : (v : Bool) → ((m : ℕ) → (r : ℕ) × (status_after given b p later (Some m) ≡ Some r)) →
          (r : ℕ) × (status_after given b p later (if v then Some (if (n == given.step_at f k over) && matches at p then given.step_at f k over + 1 else n) else Some n) ≡ Some r)
      of true rest = rest _
      of false rest = rest n
  steps_some b p (Give c x ∷ later) n h = steps_some b p later n h

  pub status_spared : (b : ℕ) (p : List ℤ) (xs : List Action) (st : Option ℕ) → Spares b xs → status_after given b p xs st ≡ st
  status_spared b p [] st h = refl
  status_spared b p (Allot c rooms ∷ later) st h = rw h.0 (status_spared b p later st h.1)
  status_spared b p (Take c f x ∷ later) st h = rw h.0 (status_spared b p later st h.1)
  status_spared b p (Put c f names x e ∷ later) st h = rw h.0 (status_spared b p later st h.1)
  status_spared b p (Change c f k names at over e ∷ later) st h = rw h.0 (status_spared b p later st h.1)
  status_spared b p (Give c x ∷ later) st h = status_spared b p later st h

  -- ---- steps in their turn

  pub turn_first : (b : ℕ) (f : List ℕ) (k : ℕ) (done : List ℤ → Option ℕ) (xs ys : List Action) → AreInTurn given b f k done (xs ++ ys) → AreInTurn given b f k done xs
  turn_first b f k done xs ys h ws zs names at over e same =
      h ws (zs ++ ys) names at over e (ap (λ t. t ++ ys) same ∙ append_assoc ws (Change b f k names at over e ∷ zs) ys)

  pub turn_rest : (b : ℕ) (f : List ℕ) (k : ℕ) (done : List ℤ → Option ℕ) (xs ys : List Action) → AreInTurn given b f k done (xs ++ ys) → AreInTurn given b f k (λ p. status_after given b p xs (done p)) ys
  turn_rest b f k done xs ys h ws zs names at over e same =
      let r = h (xs ++ ws) zs names at over e (ap (λ t. xs ++ t) same ∙ sym (append_assoc xs ws (Change b f k names at over e ∷ zs))) in
      (r.0, λ p m. sym (status_append b p xs ws (done p)) ∙ r.1 p m)

  pub turn_none : (b : ℕ) (f : List ℕ) (k : ℕ) (done : List ℤ → Option ℕ) → AreInTurn given b f k done []
  turn_none b f k done [] ys names at over e same = absurd (cc same)
  turn_none b f k done (x ∷ xs) ys names at over e same = absurd (cc same)

  -- a step, and those after it
  pub turn_change : (b : ℕ) (f : List ℕ) (k : ℕ) (done : List ℤ → Option ℕ) (names : List (List ℕ)) (at : List Target) (over : List ℤ) (e : Term) (later : List Action) → IsTrue (given.in_domain f k over) →
      ((p : List ℤ) → matches at p ≡ true → done p ≡ Some (given.step_at f k over)) → AreInTurn given b f k (λ p. status_one given b p (Change b f k names at over e) (done p)) later →
      AreInTurn given b f k done (Change b f k names at over e ∷ later)
  turn_change b f k done names at over e later inside now h [] ys names' at' over' e' same =
      let o : over ≡ over' = cc in
      let a : at ≡ at' = cc in
      (subst (λ x. IsTrue (given.in_domain f k x)) o inside, λ p m. now p (ap (λ x. matches x p) a ∙ m) ∙ ap (λ x. Some (given.step_at f k x)) o)
  turn_change b f k done names at over e later inside now h (x ∷ xs) ys names' at' over' e' same =
      let first : Change b f k names at over e ≡ x = cc in
      let rest : later ≡ xs ++ Change b f k names' at' over' e' ∷ ys = cc in
      let r = h xs ys names' at' over' e' rest in
      (r.0, λ p m. ap (λ y. status_after given b p xs (status_one given b p y (done p))) (sym first) ∙ r.1 p m)

  turn_same : (b : ℕ) (f : List ℕ) (k : ℕ) (done start : List ℤ → Option ℕ) (xs : List Action) → ((p : List ℤ) → done p ≡ start p) → AreInTurn given b f k done xs → AreInTurn given b f k start xs
  turn_same b f k done start xs e h ws zs names at over v same =
      let r = h ws zs names at over v same in
      (r.0, λ p m. ap (status_after given b p ws) (sym (e p)) ∙ r.1 p m)

  -- one list of steps after another
  pub turn_append : (b : ℕ) (f : List ℕ) (k : ℕ) (done : List ℤ → Option ℕ) (xs ys : List Action) → AreInTurn given b f k done xs → AreInTurn given b f k (λ p. status_after given b p xs (done p)) ys → AreInTurn given b f k done (xs ++ ys)
  turn_append b f k done [] ys h g ws zs names at over e same = g ws zs names at over e same
  turn_append b f k done (x ∷ xs) ys h g [] zs names at over e same =
      let first : x ≡ Change b f k names at over e = cc in
      h [] xs names at over e (ap (λ y. y ∷ xs) first)
  turn_append b f k done (x ∷ xs) ys h g (w ∷ ws) zs names at over e same =
      let first : x ≡ w = cc in
      let rest : xs ++ ys ≡ ws ++ Change b f k names at over e ∷ zs = cc in
      let r = turn_append b f k (λ p. status_one given b p x (done p)) xs ys (turn_rest b f k done (x ∷ []) xs h) g ws zs names at over e rest in
      (r.0, λ p m. ap (λ y. status_after given b p ws (status_one given b p y (done p))) (sym first) ∙ r.1 p m)

  -- The turns of a loop, pure or of the reduction: where each turn's steps are in turn from what is done before it, and leave
  -- what is done before the next turn, all of them are in turn, and leave what is done after the last. Nests use it inside
  -- itself.
  pub turns_in_turn : (b : ℕ) (f : List ℕ) (k : ℕ) (g : ℤ → List Action) (before : ℤ → List ℤ → Option ℕ) (n : ℕ) (low : ℤ) →
      ((z : ℤ) → low ≤ℤ z → z <ℤ (low +ℤ pos n) → AreInTurn given b f k (before z) (g z) × ((p : List ℤ) → status_after given b p (g z) (before z p) ≡ before (z +ℤ pos 1) p)) →
      AreInTurn given b f k (before low) (flat_map g (rising low n)) × ((p : List ℤ) → status_after given b p (flat_map g (rising low n)) (before low p) ≡ before (low +ℤ pos n) p)
  turns_in_turn b f k g before zero low h = (turn_none b f k (before low), λ p. ap (λ z. before z p) (let none : low ≡ low +ℤ pos 0 = omega (arith, ints) in none))
  turns_in_turn b f k g before (suc n) low h =
      let now = h low (omega (arith, ints)) (omega (arith, ints)) in
      let later = turns_in_turn b f k g before n (low +ℤ pos 1) (λ z l u. h z (omega (arith, ints)) (omega (arith, ints))) in
      let last : (low +ℤ pos 1) +ℤ pos n ≡ low +ℤ pos (suc n) = omega (arith, ints) in (
        turn_append b f k (before low) (g low) (flat_map g (rising (low +ℤ pos 1) n)) now.0
            (turn_same b f k (before (low +ℤ pos 1)) (λ p. status_after given b p (g low) (before low p)) (flat_map g (rising (low +ℤ pos 1) n)) (λ p. sym (now.1 p)) later.0),
        (λ p. status_append b p (g low) (flat_map g (rising (low +ℤ pos 1) n)) (before low p) ∙ ap (status_after given b p (flat_map g (rising (low +ℤ pos 1) n))) (now.1 p) ∙ later.1 p ∙ ap (λ z. before z p) last),
      )

  -- ---- claims in force

  pub force_right : (c : ℕ) (p : List ℤ) (d : ℕ) (xs ys : List Fact) → InForce given ys c p d → InForce given (xs ++ ys) c p d
  force_right c p d [] ys m = m
  force_right c p d (x ∷ xs) ys m = inr (force_right c p d xs ys m)

  pub force_before : (c : ℕ) (p : List ℤ) (d : ℕ) (xs ys : List Fact) → InForce given xs c p d → InForce given (xs ++ ys) c p d
  force_before c p d [] ys m = absurd m
  force_before c p d (x ∷ xs) ys (inl m) = inl m
  force_before c p d (x ∷ xs) ys (inr m) = inr (force_before c p d xs ys m)

  chosen_here : (v : Bool) (h : Fact) (hs : List Fact) (c : ℕ) (p : List ℤ) (d : ℕ) → v ≡ true → InForce given (h ∷ []) c p d → InForce given (if v then h ∷ hs else hs) c p d
  chosen_here true h hs c p d e (inl m) = inl m
  chosen_here true h hs c p d e (inr m) = absurd m
  chosen_here false h hs c p d e m = absurd (cc e)

  chosen_later : (v : Bool) (h : Fact) (hs : List Fact) (c : ℕ) (p : List ℤ) (d : ℕ) → InForce given hs c p d → InForce given (if v then h ∷ hs else hs) c p d
  chosen_later true h hs c p d m = inr m
  chosen_later false h hs c p d m = m

  pub force_chosen : (test : Fact → Bool) (c : ℕ) (p : List ℤ) (d : ℕ) (hs : List Fact) → ((h : Fact) → h.claim ≡ c → test h ≡ true) → InForce given hs c p d → InForce given (choose_facts test hs) c p d
  force_chosen test c p d [] k m = absurd m
  force_chosen test c p d (h ∷ hs) k (inl m) = chosen_here (test h) h (choose_facts test hs) c p d (k h m.0) (inl m)
  force_chosen test c p d (h ∷ hs) k (inr m) = chosen_later (test h) h (choose_facts test hs) c p d (force_chosen test c p d hs k m)

  pub force_stable : (a : Statement) (c : ℕ) (p : List ℤ) (d : ℕ) (hs : List Fact) → changes a (given.outline.claim c).buffer ≡ false → InForce given hs c p d → InForce given (stable given a hs) c p d
  force_stable a c p d hs e m =
      force_chosen (λ h. if changes a (buffer_of given h) then false else true) c p d hs
      (λ h same. ap (λ v. if v then false else true) (ap (λ n. changes a (given.outline.claim n).buffer) same ∙ e)) m

  clear_none : (o : Option (List Room)) (p : List ℤ) → IsSome o → is_clear o p [] ≡ true
  clear_none None p h = absurd (cc h)
  clear_none (Some rs) p h = refl

  advanced_done : (todo : List Action) (rooms : ℕ → Option (List Room)) (h : Fact) (b : ℕ) (p : List ℤ) (m n : ℕ) → buffer_of given h ≡ b → is_clear (rooms b) p (written b todo) ≡ true → h.done p ≡ Some m →
      status_after given b p todo (Some m) ≡ Some n → (advanced given todo rooms h).done p ≡ Some n
  advanced_done todo rooms h b p m n eb clear now later =
      let F : ℕ → Option ℕ → Option ℕ = λ c st. if is_clear (rooms c) p (written c todo) then status_after given c p todo st else None in
      ap (λ c. F c (h.done p)) eb ∙ ap (F b) now ∙ ap (λ v. if v then status_after given b p todo (Some m) else None) clear ∙ later

  module _ (todo : List Action) (rooms : ℕ → Option (List Room)) (d b : ℕ) (p : List ℤ) (m n : ℕ) (eb : (given.outline.claim d).buffer ≡ b) (clear : is_clear (rooms b) p (written b todo) ≡ true) (on : status_after given b p todo (Some m) ≡ Some n) where
    force_advanced : (hs : List Fact) → InForce given hs d p m → InForce given (map (advanced given todo rooms) hs) d p n
    force_advanced [] k = absurd k
    force_advanced (h ∷ hs) (inl k) = inl (k.0, k.1, advanced_done todo rooms h b p m n (ap (λ c. (given.outline.claim c).buffer) k.0 ∙ eb) clear k.2 on)
    force_advanced (h ∷ hs) (inr k) = inr (force_advanced hs k)

  -- a claim whose buffer a statement only updates goes on, with the steps that it does
  module _ (d b : ℕ) (f : List ℕ) (eb : (given.outline.claim d).buffer ≡ b) (ef : (given.outline.claim d).function ≡ f) where
    pub force_keep : (a : Statement) (s : Symbols) (rooms : ℕ → Option (List Room)) (hs : List Fact) (p : List ℤ) (m n : ℕ) → updates given.outline.setting a b f ≡ true → IsSome (rooms b) → InForce given hs d p m →
        status_after given b p (actions given.outline.setting a s) (Some m) ≡ Some n → InForce given (keep given a (actions given.outline.setting a s) rooms hs) d p n
    force_keep a s rooms hs p m n only has k on = of (changes a b) refl
      where
        todo : List Action
        todo = actions given.outline.setting a s

        of : (v : Bool) → changes a b ≡ v → InForce given (keep given a (actions given.outline.setting a s) rooms hs) d p n
        of true e =
            let unwritten : written b todo ≡ [] = steps_unwritten b todo (only_steps given.outline.setting a s b f only) in
            let clear : is_clear (rooms b) p (written b todo) ≡ true = ap (is_clear (rooms b) p) unwritten ∙ clear_none (rooms b) p has in
            force_before d p n (map (advanced given todo rooms) (choose_facts (is_written given a) hs)) (stable given a hs)
            (force_advanced todo rooms d b p m n eb clear on (choose_facts (is_written given a) hs)
            (force_chosen (is_written given a) d p m hs (λ h same.
            and_join (changes a (buffer_of given h)) (writes given.outline.setting a (buffer_of given h) (function_of given h))
            (ap (λ c. changes a (given.outline.claim c).buffer) same ∙ ap (changes a) eb ∙ e)
            (ap (λ c. writes given.outline.setting a (given.outline.claim c).buffer (given.outline.claim c).function) same
            ∙ ap (λ c. writes given.outline.setting a c (given.outline.claim d).function) eb
            ∙ ap (writes given.outline.setting a b) ef
            ∙ updates_writes given.outline.setting a b f only)) k))
        of false e =
            let same : Some m ≡ Some n = sym (status_spared b p todo (Some m) (leaves given.outline.setting a s b e)) ∙ on in
            let number : m ≡ n = cc in
            force_right d p n (map (advanced given todo rooms) (choose_facts (is_written given a) hs)) (stable given a hs)
            (force_stable a d p n hs (ap (changes a) eb ∙ e) (subst (InForce given hs d p) number k))

    pub rooms_stay : (a : Statement) (sc : Scope) → IsSome (sc.rooms b) → IsSome (more_rooms given a sc b)
    rooms_stay (Alloc c g places) sc h = of (b == c)
      where
        of : (v : Bool) → IsSome (if v then Some (map (room sc.symbols) places) else sc.rooms b)
        of true = refl
        of false = h
    rooms_stay _ sc h = h

    mutual
      pub force_left : (a : Statement) (line : ℕ) (sc : Scope) (p : List ℤ) (m n : ℕ) → updates given.outline.setting a b f ≡ true → IsSome (sc.rooms b) → InForce given sc.facts d p m →
          status_after given b p (actions given.outline.setting a sc.symbols) (Some m) ≡ Some n → InForce given (left given a line sc) d p n
      force_left (Seq all) line sc p m n only has k on = force_block_left all line sc p m n only has k on
      force_left (For i x kind body) line sc p m n only has k on = force_keep (For i x kind body) sc.symbols sc.rooms sc.facts p m n only has k on
      force_left (Let i pick ls) line sc p m n only has k on = force_keep (Let i pick ls) sc.symbols sc.rooms sc.facts p m n only has k on
      force_left (First i a c) line sc p m n only has k on = force_keep (First i a c) sc.symbols sc.rooms sc.facts p m n only has k on
      force_left (Guard low high body) line sc p m n only has k on = force_keep (Guard low high body) sc.symbols sc.rooms sc.facts p m n only has k on
      force_left (Alloc c g places) line sc p m n only has k on = force_keep (Alloc c g places) sc.symbols sc.rooms sc.facts p m n only has k on
      force_left (Fetch c g region) line sc p m n only has k on = force_keep (Fetch c g region) sc.symbols sc.rooms sc.facts p m n only has k on
      force_left (Store c j at e) line sc p m n only has k on = force_keep (Store c j at e) sc.symbols sc.rooms sc.facts p m n only has k on
      force_left (Publish c) line sc p m n only has k on = force_keep (Publish c) sc.symbols sc.rooms sc.facts p m n only has k on

      pub force_block_left : (row : Statements) → (line : ℕ) (sc : Scope) (p : List ℤ) (m n : ℕ) → block_updates given.outline.setting row b f ≡ true → IsSome (sc.rooms b) → InForce given sc.facts d p m →
          status_after given b p (block_actions given.outline.setting row sc.symbols) (Some m) ≡ Some n → InForce given (block_left given row line sc) d p n
      force_block_left Empty line sc p m n only has k on = let number : m ≡ n = cc in subst (InForce given sc.facts d p) number k
      force_block_left (Then a rest) line sc p m n only has k on =
          let both = and_parts (updates given.outline.setting a b f) (block_updates given.outline.setting rest b f) only in
          let todo = actions given.outline.setting a sc.symbols in
          let now = steps_some b p todo m (only_steps given.outline.setting a sc.symbols b f both.0) in
          force_block_left rest (line + lines a) (onward given a line sc) p now.0 n both.1 (rooms_stay a sc has)
          (force_right d p now.0 (map (new_fact given sc.symbols) (given.outline.named (line + lines a - 1))) (keep given a todo sc.rooms sc.facts)
          (force_keep a sc.symbols sc.rooms sc.facts p m now.0 both.0 has k now.1))
          (ap (status_after given b p (block_actions given.outline.setting rest (after a sc.symbols))) (sym now.1)
          ∙ sym (status_append b p todo (block_actions given.outline.setting rest (after a sc.symbols)) (Some m))
          ∙ on)

  -- the steps before, of a point that is known after
  pub some_before : (b : ℕ) (p : List ℤ) (xs : List Action) (st : Option ℕ) (n : ℕ) → OnlySteps b xs → status_after given b p xs st ≡ Some n → (m : ℕ) × (st ≡ Some m) × (status_after given b p xs (Some m) ≡ Some n)
  some_before b p xs None n h on = let none = steps_none b p xs h in absurd (cc (none, on))
  some_before b p xs (Some m) n h on = (m, refl, on)

-- turns one after another, where an invariant speaks of what is carried and of the turns to come
pub turns_with : (P : ℤ → List Fact → Type 0) (next : ℤ → List Fact → List Fact) (I : List Fact → List ℤ → Type 0) (zs : List ℤ) (carried : List Fact) → I carried zs →
    ((z : ℤ) → In z zs → (rest : List ℤ) (c : List Fact) → I c (z ∷ rest) → P z c × I (next z c) rest) → EachTurn P next carried zs
turns_with P next I [] carried h step = tt
turns_with P next I (z ∷ zs) carried h step =
    let now = step z (inl refl) zs carried h in
    (now.0, turns_with P next I zs (next z carried) now.1 (λ y m. step y (inr m)))
