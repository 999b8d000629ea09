-- What is known of a run's memory is so: a run whose actions are fine by what is known makes no fault, and each place
-- that is known to hold a function's value holds it.
use Rattle.std.proofs.Common.{◌≡◌, ℕ, ◌+◌, Bool, true, false, List, [], ◌∷◌, Option, Some, None, refl, sym, ap, ◌∙◌, arith, inl, inr}
use Rattle.std.specs.Prelude.{ℤ, IsSome, ◌==◌, ◌&&◌, if◌then◌else◌, ◌⊎◌, nat_eq}
use Rattle.std.specs.Ordering.{int_eq}
use Rattle.std.proofs.lemmas.Bool.Decides.{nat_tests}
use Rattle.std.proofs.lemmas.Int.{ints}
use Rattle.tree.specs.declared.value.Value.{Value}
use Rattle.tree.specs.Term.{Term, Number, Name, Call, Minus, Binary, Clamp, Cast, Choice, Terms, End, More, Test, Compares, Fails, Both, Either}
use Rattle.tree.specs.Meaning.{value_of, numbers_of, holds}
use Rattle.meaning.specs.Names.{same_name, bound}
use Rattle.plan.specs.Rooms.{Room, same_place}
use Rattle.plan.specs.Semantics.Actions.{Action, Allot, Take, Put, Change, Give, Target, Fixed, Open}
use Rattle.plan.specs.Semantics.Memory.{Memory, read, write, allot, place_in, held_at, set_at, set_place}
use Rattle.plan.specs.Semantics.Found.{with, found, test_found, all_found, EachRead, EachTestRead, EachReadOfAll}
use Rattle.plan.specs.Semantics.Run.{Source, Input, ByClaim, Unknown, Around, look_at, look, found_target, act, outcome}
use Rattle.soundness.specs.Origins.{Origin, origin, Given, Reader, Plain, Within, matches, stepped, learn, or_same, source_answer, answer, SourceMayRead, MayRead, target_point, left_variables, left_point, right_variables, EachTargetRead, IsFine, AreFine, origin_for}
use Rattle.soundness.specs.Right.{Suits, IsRight, AreRight, right_outcome}

-- an expression whose calls all find what they have to has its value
module _ (variables : List ℕ → ℤ) (answers : List ℕ → List ℤ → Value) (look : List ℕ → List ℤ → Option Value) (P : List ℕ → List ℤ → Type 0) (h : (name : List ℕ) (p : List ℤ) → P name p → look name p ≡ Some (answers name p)) where
  mutual
    pub found_value : (e : Term) → EachRead variables answers P e → found variables look e ≡ Some (value_of variables answers e)
    found_value (Number t n) r = refl
    found_value (Name name) r = refl
    found_value (Call name at) r = rw (found_numbers at r.1) (h name (numbers_of variables answers at) r.0)
    found_value (Minus a) r = rw (found_value a r) refl
    found_value (Binary op a b) r = rw (found_value a r.0) (rw (found_value b r.1) refl)
    found_value (Clamp a l u) r = rw (found_value a r.0) (rw (found_value l r.1) (rw (found_value u r.2) refl))
    found_value (Cast t a) r = rw (found_value a r) refl
    found_value (Choice c a b) r = rw (found_test c r.0) (rw (found_value a r.1) (rw (found_value b r.2) (chosen (holds variables answers c))))
      where
        chosen : (v : Bool) → Some (if v then value_of variables answers a else value_of variables answers b) ≡ Some (if v then value_of variables answers a else value_of variables answers b)
        chosen v = refl

    pub found_test : (c : Test) → EachTestRead variables answers P c → test_found variables look c ≡ Some (holds variables answers c)
    found_test (Compares by a b) r = rw (found_value a r.0) (rw (found_value b r.1) refl)
    found_test (Fails c) r = rw (found_test c r) refl
    found_test (Both c d) r = rw (found_test c r.0) (rw (found_test d r.1) refl)
    found_test (Either c d) r = rw (found_test c r.0) (rw (found_test d r.1) refl)

    pub found_numbers : (at : Terms) → EachReadOfAll variables answers P at → all_found variables look at ≡ Some (numbers_of variables answers at)
    found_numbers End r = refl
    found_numbers (More a rest) r = rw (found_value a r.0) (rw (found_numbers rest r.1) refl)

pub eq_refl : (n : ℕ) → (n == n) ≡ true
eq_refl n = grind (arith, nat_tests)

pub eq_true : (m n : ℕ) → (m == n) ≡ true → m ≡ n
eq_true m n h = grind (arith, nat_tests)

pub same_refl : (q : List ℕ) → same_place q q ≡ true
same_refl [] = refl
same_refl (k ∷ ks) = rw eq_refl (same_refl ks)

pub and_parts : (a b : Bool) → (a && b) ≡ true → (a ≡ true) × (b ≡ true)
and_parts true b h = (refl, h)
and_parts false b h = absurd (cc h)

pub same_true : (q r : List ℕ) → same_place q r ≡ true → q ≡ r
same_true [] [] h = refl
same_true [] (k ∷ ks) h = cc
same_true (j ∷ js) [] h = cc
same_true (j ∷ js) (k ∷ ks) h =
    let parts = and_parts (j == k) (same_place js ks) h in
    let e : j ≡ k = eq_true j k parts.0 in
    let f : js ≡ ks = same_true js ks parts.1 in
    cc

number_eq : (y z : ℤ) → y ≡ z → int_eq y z ≡ true
number_eq y z h = grind (arith, ints)

pub number_refl : (z : ℤ) → int_eq z z ≡ true
number_refl z = number_eq z z refl

pub number_true : (y z : ℤ) → int_eq y z ≡ true → y ≡ z
number_true y z h = grind (arith, ints)

pub name_refl : (n : List ℕ) → same_name n n ≡ true
name_refl [] = refl
name_refl (k ∷ ks) = rw (eq_refl k) (name_refl ks)

pub name_true : (m n : List ℕ) → same_name m n ≡ true → m ≡ n
name_true [] [] h = refl
name_true [] (k ∷ ks) h = cc
name_true (j ∷ js) [] h = cc
name_true (j ∷ js) (k ∷ ks) h =
    let parts = and_parts (nat_eq j k) (same_name js ks) h in
    let e : j ≡ k = eq_true j k parts.0 in
    let f : js ≡ ks = name_true js ks parts.1 in
    cc

module _ (around : Around) (given : Given) where
  -- each place that is known holds its value, and is the place of its point
  pub record Agrees (m : Memory Value) (t : Memory Origin) : Type 0 where
    pub rooms : (b : ℕ) → m.rooms b ≡ t.rooms b
    pub held : (b : ℕ) (q : List ℕ) (o : Origin) → t.held b q ≡ Some o → m.held b q ≡ Some (given.value_at o)
    pub placed : (b : ℕ) (q : List ℕ) (o : Origin) → t.held b q ≡ Some o → place_in (t.rooms b) o.point ≡ Some q

  pub agrees_read : (m : Memory Value) (t : Memory Origin) (b : ℕ) (p : List ℤ) (o : Origin) → Agrees m t → read t b p ≡ Some o → read m b p ≡ Some (given.value_at o)
  agrees_read m t b p o h e =
      let same : held_at (m.held b) (place_in (m.rooms b) p) ≡ held_at (m.held b) (place_in (t.rooms b) p) = ap (λ rs. held_at (m.held b) (place_in rs p)) (h.rooms b) in
      same ∙ at (place_in (t.rooms b) p) e
    where
      at : (q : Option (List ℕ)) → held_at (t.held b) q ≡ Some o → held_at (m.held b) q ≡ Some (given.value_at o)
      at None e = absurd (cc e)
      at (Some q) e = h.held b q o e

  module _ (suits : Suits around given) where
    source_looks : (m : Memory Value) (t : Memory Origin) (r : Reader) → Agrees m t → (from : Source) (name : List ℕ) (p : List ℤ) → given.outline.source name ≡ from → SourceMayRead given t r from p → look_at around m from p ≡ Some (source_answer given r from name p)
    source_looks m t r h Input name p is k = suits.samples name p is k
    source_looks m t r h (ByClaim c) name p is k = ap (λ b. read m b p) (suits.buffers c) ∙ agrees_read m t (given.outline.claim c).buffer p _ h k
    source_looks m t r h Unknown name p is k = absurd k

    looks : (m : Memory Value) (t : Memory Origin) (r : Reader) → Agrees m t → (name : List ℕ) (p : List ℤ) → MayRead given t r name p → look around m name p ≡ Some (answer given r name p)
    looks m t r h name p k = ap (λ from. look_at around m from p) (suits.sources name) ∙ source_looks m t r h (given.outline.source name) name p refl k

    same_pick : (b c : Bool) (v : Option Value) (w : Option Origin) (x : Value) (o p : Origin) → x ≡ given.value_at p → ((o : Origin) → w ≡ Some o → v ≡ Some (given.value_at o)) → (if b && c then Some p else w) ≡ Some o → (if b && c then Some x else v) ≡ Some (given.value_at o)
    same_pick true true v w x o p e h k = let f : p ≡ o = cc in ap Some (e ∙ ap given.value_at f)
    same_pick true false v w x o p e h k = h o k
    same_pick false c v w x o p e h k = h o k

    placed_pick : (c b : ℕ) (r q : List ℕ) (t : Memory Origin) (o p : Origin) → place_in (t.rooms b) p.point ≡ Some q → (t.held c r ≡ Some o → place_in (t.rooms c) o.point ≡ Some r) → (if (c == b) && same_place r q then Some p else t.held c r) ≡ Some o → place_in (t.rooms c) o.point ≡ Some r
    placed_pick c b r q t o p e h = at (c == b) (same_place r q) refl refl
      where
        at : (x y : Bool) → (c == b) ≡ x → same_place r q ≡ y → (if x && y then Some p else t.held c r) ≡ Some o → place_in (t.rooms c) o.point ≡ Some r
        at true true i j k =
            let cb : c ≡ b = eq_true c b i in
            let rq : r ≡ q = same_true r q j in
            let po : p ≡ o = cc in
            ap (λ d. place_in (t.rooms d) o.point) cb ∙ ap (λ u. place_in (t.rooms b) u.point) (sym po) ∙ e ∙ ap Some (sym rq)
        at true false i j k = h k
        at false y i j k = h k

    -- one cell of both memories set
    written : (m : Memory Value) (t : Memory Origin) (b : ℕ) (x : Value) (o : Origin) → Agrees m t → x ≡ given.value_at o → IsSome (place_in (t.rooms b) o.point) → (m' : Memory Value) × (write m b o.point x ≡ Some m') × Agrees m' (or_same (write t b o.point o) t)
    written m t b x o h e some = at (place_in (t.rooms b) o.point) refl (ap (λ rs. place_in rs o.point) (h.rooms b)) some
      where
        at : (q : Option (List ℕ)) → place_in (t.rooms b) o.point ≡ q → place_in (m.rooms b) o.point ≡ q → IsSome q → (m' : Memory Value) × (write m b o.point x ≡ Some m') × Agrees m' (or_same (set_at t b q o) t)
        at None there same some = absurd (cc some)
        at (Some q) there same some = (
          set_place m b q x,
          ap (λ r. set_at m b r x) same,
          record {
            rooms = h.rooms;
            held = λ c r u k. same_pick (c == b) (same_place r q) (m.held c r) (t.held c r) x u o e (h.held c r) k;
            placed = λ c r u k. placed_pick c b r q t u o there (h.placed c r u) k;
          },
        )

    allotted : (m : Memory Value) (t : Memory Origin) (b : ℕ) (rooms : List Room) → Agrees m t → Agrees (allot m b rooms) (allot t b rooms)
    allotted m t b rooms h = record {
      rooms = λ c. ap (λ rs. if c == b then Some rooms else rs) (h.rooms c);
      held = λ c q o k. at (c == b) c q o k;
      placed = λ c q o k. put (c == b) c q o k;
    }
      where
        at : (same : Bool) (c : ℕ) (q : List ℕ) (o : Origin) → (if same then None else t.held c q) ≡ Some o → (if same then None else m.held c q) ≡ Some (given.value_at o)
        at true c q o k = absurd (cc k)
        at false c q o k = h.held c q o k

        put : (same : Bool) (c : ℕ) (q : List ℕ) (o : Origin) → (if same then None else t.held c q) ≡ Some o → place_in (if same then Some rooms else t.rooms c) o.point ≡ Some q
        put true c q o k = absurd (cc k)
        put false c q o k = h.placed c q o k

    found_point : (variables : List ℕ → ℤ) (at : List Target) (m : Memory Value) (t : Memory Origin) (r : Reader) → Agrees m t → EachTargetRead given variables at r (MayRead given t r) → found_target around variables at m ≡ Some (target_point given variables at r)
    found_point variables [] m t r h e = refl
    found_point variables (Fixed z ∷ ts) m t r h e = rw (found_point variables ts m t r h e) refl
    found_point variables (Open x ∷ ts) m t r h e =
        rw (found_value variables (answer given r) (look around m) (MayRead given t r) (looks m t r h) x e.0) (rw (found_point variables ts m t r h e.1) refl)

    matches_target : (variables : List ℕ → ℤ) (at : List Target) (r : Reader) → matches at (target_point given variables at r) ≡ true
    matches_target variables [] r = refl
    matches_target variables (Fixed z ∷ ts) r = rw (number_refl z) (matches_target variables ts r)
    matches_target variables (Open x ∷ ts) r = matches_target variables ts r

    -- what a place held before a step
    stepped_cases : (f : List ℕ) (n : ℕ) (at : List Target) (w : Option Origin) (o : Origin) → stepped f n at w ≡ Some o →
        (w ≡ Some o) ⊎ ((w ≡ Some (origin f n o.point)) × (matches at o.point ≡ true) × (o ≡ origin f (n + 1) o.point))
    stepped_cases f n at None o e = absurd (cc e)
    stepped_cases f n at (Some u) o e = by (same_name u.function f && (u.done == n) && matches at u.point) refl e
      where
        by : (v : Bool) → (same_name u.function f && (u.done == n) && matches at u.point) ≡ v → Some (if v then origin f (n + 1) u.point else u) ≡ Some o →
            (Some u ≡ Some o) ⊎ ((Some u ≡ Some (origin f n o.point)) × (matches at o.point ≡ true) × (o ≡ origin f (n + 1) o.point))
        by false c k = inl k
        by true c k =
            let p = and_parts (same_name u.function f && (u.done == n)) (matches at u.point) c in
            let q = and_parts (same_name u.function f) (u.done == n) p.0 in
            let ff : u.function ≡ f = name_true u.function f q.0 in
            let nn : u.done ≡ n = eq_true u.done n q.1 in
            let after : origin f (n + 1) u.point ≡ o = cc in
            let point : u.point ≡ o.point = ap (λ (x : Origin). x.point) after in
            inr (
              ap Some (ap (λ g. origin g u.done u.point) ff ∙ ap (λ g. origin f g u.point) nn ∙ ap (λ g. origin f n g) point),
              ap (matches at) (sym point) ∙ p.1,
              sym after ∙ ap (λ g. origin f (n + 1) g) point,
            )

    read_place : (w : List ℕ → Option Origin) (o : Option (List ℕ)) (x : Origin) → held_at w o ≡ Some x → (q : List ℕ) × (o ≡ Some q) × (w q ≡ Some x)
    read_place w None x e = absurd (cc e)
    read_place w (Some q) x e = (q, refl, e)

    changed : (m : Memory Value) (t : Memory Origin) (b : ℕ) (f : List ℕ) (k : ℕ) (names : List (List ℕ)) (at : List Target) (over : List ℤ) (e : Term) → IsFine given (Change b f k names at over e) t → IsRight around given (Change b f k names at over e) → Agrees m t → (m' : Memory Value) × (act around (Change b f k names at over e) m ≡ Some m') × Agrees m' (learn given (Change b f k names at over e) t)
    changed m t b f k names at over e fine is_right h = (
      set_place m b q v,
      rw (found_point (left_variables given names at over) at m t r h fine.2)
          (rw (found_value (right_variables given names at over r) (answer given r) (look around m) (MayRead given t r) (looks m t r h) e fine.3)
          (ap (λ rs. set_at m b (place_in rs l) v) (h.rooms b) ∙ ap (λ x. set_at m b x v) there.1)),
      record {
        rooms = h.rooms;
        held = λ c r o i. new_held c r o (c == b) (same_place r q) refl refl i;
        placed = λ c r o i. new_placed c r o (c == b) i;
      },
    )
      where
        n : ℕ
        n = given.step_at f k over

        r : Reader
        r = Within f (given.step_at f k over)

        l : List ℤ
        l = left_point given names at over (Within f (given.step_at f k over))

        v : Value
        v = value_of (right_variables given names at over (Within f (given.step_at f k over))) (answer given (Within f (given.step_at f k over))) e

        right : (value_of (right_variables given names at over (Within f (given.step_at f k over))) (answer given (Within f (given.step_at f k over))) e ≡ given.value_at (origin f (given.step_at f k over + 1) (left_point given names at over (Within f (given.step_at f k over)))))
            × ((p : List ℤ) → matches at p ≡ true → (p ≡ left_point given names at over (Within f (given.step_at f k over)) → ⊥) → given.value_at (origin f (given.step_at f k over + 1) p) ≡ given.value_at (origin f (given.step_at f k over) p))
        right = is_right fine.0

        there : (q : List ℕ) × (place_in (t.rooms b) l ≡ Some q) × (t.held b q ≡ Some (origin f (given.step_at f k over) l))
        there = read_place (t.held b) (place_in (t.rooms b) l) _ fine.1

        q : List ℕ
        q = there.0

        new_held : (c : ℕ) (p : List ℕ) (o : Origin) (x y : Bool) → (c == b) ≡ x → same_place p q ≡ y → (if x then stepped f n at (t.held c p) else t.held c p) ≡ Some o → (if x && y then Some v else m.held c p) ≡ Some (given.value_at o)
        new_held c p o false y i j k = h.held c p o k
        new_held c p o true true i j s =
            let cb : c ≡ b = eq_true c b i in
            let pq : p ≡ q = same_true p q j in
            let was : t.held c p ≡ Some (origin f n l) = ap (λ d. t.held d p) cb ∙ ap (t.held b) pq ∙ there.2 in
            let is : Some (origin f (n + 1) l) ≡ Some o =
            sym (rw was (rw (name_refl f) (rw (eq_refl n) (rw (matches_target (left_variables given names at over) at r) refl)))) ∙ s in
            let same : origin f (n + 1) l ≡ o = cc in
            ap Some (right.0 ∙ ap given.value_at same)
        new_held c p o true false i j s = at_other (stepped_cases f n at (t.held c p) o s)
          where
            at_other : ((t.held c p ≡ Some o) ⊎ ((t.held c p ≡ Some (origin f n o.point)) × (matches at o.point ≡ true) × (o ≡ origin f (n + 1) o.point))) → m.held c p ≡ Some (given.value_at o)
            at_other (inl k) = h.held c p o k
            at_other (inr k) =
                let other : o.point ≡ l → ⊥ = λ e.
                let cb : c ≡ b = eq_true c b i in
                let here : place_in (t.rooms c) o.point ≡ Some p = h.placed c p _ k.0 in
                let same : Some p ≡ Some q = sym here ∙ ap (λ d. place_in (t.rooms d) o.point) cb ∙ ap (place_in (t.rooms b)) e ∙ there.1 in
                let pq : p ≡ q = cc in
                let yes : same_place p q ≡ true = ap (λ x. same_place x q) pq ∙ same_refl q in
                absurd (cc (yes, j)) in
                h.held c p _ k.0 ∙ ap Some (sym (right.1 o.point k.1 other)) ∙ ap (λ x. Some (given.value_at x)) (sym k.2)

        new_placed : (c : ℕ) (p : List ℕ) (o : Origin) (x : Bool) → (if x then stepped f n at (t.held c p) else t.held c p) ≡ Some o → place_in (t.rooms c) o.point ≡ Some p
        new_placed c p o false s = h.placed c p o s
        new_placed c p o true s = at_step (stepped_cases f n at (t.held c p) o s)
          where
            at_step : ((t.held c p ≡ Some o) ⊎ ((t.held c p ≡ Some (origin f n o.point)) × (matches at o.point ≡ true) × (o ≡ origin f (n + 1) o.point))) → place_in (t.rooms c) o.point ≡ Some p
            at_step (inl k) = h.placed c p o k
            at_step (inr k) = h.placed c p _ k.0

    -- one action
    pub step : (a : Action) (m : Memory Value) (t : Memory Origin) → IsFine given a t → IsRight around given a → Agrees m t → (m' : Memory Value) × (act around a m ≡ Some m') × Agrees m' (learn given a t)
    step (Allot b rooms) m t fine right h = (allot m b rooms, refl, allotted m t b rooms h)
    step (Take b f p) m t fine right h = written m t b (around.cell f p) (origin f (given.all_steps f) p) h right fine
    step (Put b f names p e) m t fine right h =
        let v = found_value (bound names p) (answer given Plain) (look around m) (MayRead given t Plain) (looks m t Plain h) e fine.1 in
        let w = written m t b (value_of (bound names p) (answer given Plain) e) (origin f 0 p) h right fine.0 in
        (w.0, ap (λ o. with o (λ v. write m b p v)) v ∙ w.1, w.2)
    step (Change b f k names at over e) m t fine right h = changed m t b f k names at over e fine right h
    step (Give c p) m t fine right h =
        (m, ap (λ b. with (read m b p) (λ v. Some m)) (suits.buffers c) ∙ ap (λ o. with o (λ v. Some m)) (agrees_read m t (given.outline.claim c).buffer p _ h fine), h)

    -- all of them
    pub steps : (todo : List Action) (m : Memory Value) (t : Memory Origin) → AreFine given todo t → AreRight around given todo → Agrees m t → outcome around todo m ≡ Some (right_outcome given todo)
    steps [] m t fine right h = refl
    steps (Allot b rooms ∷ later) m t fine right h = steps later (allot m b rooms) (allot t b rooms) fine.1 right.1 (allotted m t b rooms h)
    steps (Take b f p ∷ later) m t fine right h =
        let first = step (Take b f p) m t fine.0 right.0 h in
        ap (λ o. with o (outcome around later)) first.1 ∙ steps later first.0 (learn given (Take b f p) t) fine.1 right.1 first.2
    steps (Put b f names p e ∷ later) m t fine right h =
        let first = step (Put b f names p e) m t fine.0 right.0 h in
        ap (λ o. with o (outcome around later)) first.1 ∙ steps later first.0 (learn given (Put b f names p e) t) fine.1 right.1 first.2
    steps (Change b f k names at over e ∷ later) m t fine right h =
        let first = step (Change b f k names at over e) m t fine.0 right.0 h in
        ap (λ o. with o (outcome around later)) first.1 ∙ steps later first.0 (learn given (Change b f k names at over e) t) fine.1 right.1 first.2
    steps (Give c p ∷ later) m t fine right h =
        let found : read m (around.claim_buffer c) p ≡ Some (given.value_at (origin_for given Plain c p)) =
        ap (λ b. read m b p) (suits.buffers c) ∙ agrees_read m t (given.outline.claim c).buffer p _ h fine.0 in
        ap (λ o. with o (λ v. with (outcome around later m) (λ vs. Some (v ∷ vs)))) found
        ∙ ap (λ o. with o (λ vs. Some (given.value_at (origin_for given Plain c p) ∷ vs))) (steps later m t fine.1 right.1 h)
