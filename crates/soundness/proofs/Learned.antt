-- What is known after actions: of buffers that they leave alone, and of the points that they write or update.
use Rattle.std.proofs.Common.{◌≡◌, ℕ, ◌+◌, Bool, true, false, List, [], ◌∷◌, ◌++◌, Option, Some, None, refl, sym, ap, ◌∙◌, subst, inl, inr, arith}
use Rattle.std.specs.Prelude.{ℤ, IsSome, ◌==◌, ◌&&◌, if◌then◌else◌}
use Rattle.std.specs.Ordering.{int_eq}
use Rattle.std.proofs.lemmas.Bool.Decides.{nat_tests}
use Rattle.meaning.specs.Names.{same_point}
use Rattle.plan.specs.Rooms.{Room, same_place}
use Rattle.plan.specs.Semantics.Actions.{Action, Allot, Take, Put, Change, Give, Target}
use Rattle.plan.specs.Semantics.Memory.{Memory, read, write, allot, place_in, held_at, set_at}
use Rattle.soundness.specs.Origins.{Origin, origin, Given, matches, stepped, learn, learn_all, or_same, AreFine}
use Rattle.soundness.specs.Claims.{written, WritesOnly, ClearOf, stepped_status, status_after}
use Rattle.soundness.proofs.Refines.{eq_refl, eq_true, same_refl, same_true, and_parts, number_refl, number_true, name_refl}

-- no action is on the buffer
abbrev pub Spares : ℕ → List Action → Type 0
Spares b [] = Unit {0}
Spares b (Allot c rooms ∷ later) = (c == b) ≡ false × Spares b later
Spares b (Take c f p ∷ later) = (c == b) ≡ false × Spares b later
Spares b (Put c f names p e ∷ later) = (c == b) ≡ false × Spares b later
Spares b (Change c f k names at over e ∷ later) = (c == b) ≡ false × Spares b later
Spares b (Give c p ∷ later) = Spares b later

pub spares_append : (b : ℕ) (xs ys : List Action) → Spares b xs → Spares b ys → Spares b (xs ++ ys)
spares_append b [] ys p q = q
spares_append b (Allot c rooms ∷ later) ys p q = (p.0, spares_append b later ys p.1 q)
spares_append b (Take c f x ∷ later) ys p q = (p.0, spares_append b later ys p.1 q)
spares_append b (Put c f names x e ∷ later) ys p q = (p.0, spares_append b later ys p.1 q)
spares_append b (Change c f k names at over e ∷ later) ys p q = (p.0, spares_append b later ys p.1 q)
spares_append b (Give c x ∷ later) ys p q = spares_append b later ys p q

-- what is known of a buffer
pub record IsSame (b : ℕ) (t u : Memory Origin) : Type 0 where
  pub rooms : t.rooms b ≡ u.rooms b
  pub held : (q : List ℕ) → t.held b q ≡ u.held b q

pub same_self : (b : ℕ) (t : Memory Origin) → IsSame b t t
same_self b t = record { rooms = refl; held = λ q. refl }

pub same_on : (b : ℕ) (t u v : Memory Origin) → IsSame b t u → IsSame b u v → IsSame b t v
same_on b t u v h k = record { rooms = h.rooms ∙ k.rooms; held = λ q. h.held q ∙ k.held q }

pub same_read : (b : ℕ) (t u : Memory Origin) (p : List ℤ) → IsSame b t u → read t b p ≡ read u b p
same_read b t u p h = ap (λ rs. held_at (t.held b) (place_in rs p)) h.rooms ∙ at (place_in (u.rooms b) p)
  where
    at : (q : Option (List ℕ)) → held_at (t.held b) q ≡ held_at (u.held b) q
    at None = refl
    at (Some q) = h.held q

eq_sym : (b c : ℕ) → (c == b) ≡ false → (b == c) ≡ false
eq_sym b c h = grind (arith, nat_tests)

-- a write to another buffer
write_other : (b c : ℕ) (t : Memory Origin) (p : List ℤ) (o : Origin) → (c == b) ≡ false → IsSame b (or_same (write t c p o) t) t
write_other b c t p o h = at (place_in (t.rooms c) p)
  where
    at : (q : Option (List ℕ)) → IsSame b (or_same (set_at t c q o) t) t
    at None = same_self b t
    at (Some q) = record { rooms = refl; held = λ r. ap (λ x. if x && same_place r q then Some o else t.held b r) (eq_sym b c h) }

allot_other : (b c : ℕ) (t : Memory Origin) (rooms : List Room) → (c == b) ≡ false → IsSame b (allot t c rooms) t
allot_other b c t rooms h = record {
  rooms = ap (λ x. if x then Some rooms else t.rooms b) (eq_sym b c h);
  held = λ q. ap (λ x. if x then None else t.held b q) (eq_sym b c h);
}

pub spared : (given : Given) (b : ℕ) (todo : List Action) (t : Memory Origin) → Spares b todo → IsSame b (learn_all given todo t) t
spared given b [] t h = same_self b t
spared given b (Allot c rooms ∷ later) t h = same_on b _ _ _ (spared given b later (allot t c rooms) h.1) (allot_other b c t rooms h.0)
spared given b (Take c f p ∷ later) t h = same_on b _ _ _ (spared given b later _ h.1) (write_other b c t p _ h.0)
spared given b (Put c f names p e ∷ later) t h = same_on b _ _ _ (spared given b later _ h.1) (write_other b c t p _ h.0)
spared given b (Change c f k names at over e ∷ later) t h =
    same_on b _ _ _ (spared given b later _ h.1) (record {
      rooms = refl;
      held = λ q. ap (λ x. if x then stepped f (given.step_at f k over) at (t.held b q) else t.held b q) (eq_sym b c h.0);
    })
spared given b (Give c p ∷ later) t h = spared given b later t h

-- a write leaves the places where they are
pub write_rooms : (b c : ℕ) (t : Memory Origin) (p : List ℤ) (o : Origin) → (or_same (write t c p o) t).rooms b ≡ t.rooms b
write_rooms b c t p o = at (place_in (t.rooms c) p)
  where
    at : (q : Option (List ℕ)) → (or_same (set_at t c q o) t).rooms b ≡ t.rooms b
    at None = refl
    at (Some q) = refl

-- a point that was written is known
write_here : (b : ℕ) (t : Memory Origin) (p : List ℤ) (o : Origin) → IsSome (place_in (t.rooms b) p) → read (or_same (write t b p o) t) b p ≡ Some o
write_here b t p o h = at (place_in (t.rooms b) p) refl h
  where
    at : (q : Option (List ℕ)) → place_in (t.rooms b) p ≡ q → IsSome q → read (or_same (set_at t b q o) t) b p ≡ Some o
    at None e some = absurd (cc some)
    at (Some q) e some = rw e (rw eq_refl (rw same_refl refl))

-- a point that was known stays so where the same is written, or at another place
write_near : (b : ℕ) (t : Memory Origin) (p x : List ℤ) (o : Origin) → (place_in (t.rooms b) p ≡ place_in (t.rooms b) x → Some o ≡ read t b p) → read (or_same (write t b x o) t) b p ≡ read t b p
write_near b t p x o h = at (place_in (t.rooms b) x) (place_in (t.rooms b) p) refl refl
  where
    choice : (q r : List ℕ) → (same_place r q ≡ true → Some o ≡ t.held b r) → (s : Bool) → same_place r q ≡ s → (if s then Some o else t.held b r) ≡ t.held b r
    choice q r k true e = k e
    choice q r k false e = refl

    at : (q r : Option (List ℕ)) → place_in (t.rooms b) x ≡ q → place_in (t.rooms b) p ≡ r → read (or_same (set_at t b q o) t) b p ≡ read t b p
    at None r e f = refl
    at (Some q) None e f = rw f refl
    at (Some q) (Some r) e f =
        let known : read t b p ≡ t.held b r = ap (held_at (t.held b)) f in
        rw f (rw eq_refl (choice q r (λ s. h (f ∙ ap Some (same_true r q s) ∙ sym e) ∙ known) (same_place r q) refl))

-- a point is known with so many steps done, or nothing is said
abbrev pub IsKnown : Memory Origin → ℕ → List ℕ → List ℤ → Option ℕ → Type 0
IsKnown t b f p None = Unit {0}
IsKnown t b f p (Some d) = read t b p ≡ Some (origin f d p)

known_same : (t u : Memory Origin) (b : ℕ) (f : List ℕ) (p : List ℤ) (st : Option ℕ) → read u b p ≡ read t b p → IsKnown t b f p st → IsKnown u b f p st
known_same t u b f p None e k = tt
known_same t u b f p (Some d) e k = e ∙ k

pub point_refl : (p : List ℤ) → same_point p p ≡ true
point_refl [] = refl
point_refl (z ∷ zs) = rw (number_refl z) (point_refl zs)

pub point_true : (p q : List ℤ) → same_point p q ≡ true → p ≡ q
point_true [] [] h = refl
point_true [] (z ∷ zs) h = absurd (cc h)
point_true (y ∷ ys) [] h = absurd (cc h)
point_true (y ∷ ys) (z ∷ zs) h =
    let parts = and_parts (int_eq y z) (same_point ys zs) h in
    let e : y ≡ z = number_true y z parts.0 in
    let f : ys ≡ zs = point_true ys zs parts.1 in
    cc

-- the write of a function's point, seen at a point that it is or that lies apart origin it
known_write : (b c : ℕ) (f g : List ℕ) (n : ℕ) (t : Memory Origin) (p x : List ℤ) (xs : List (List ℤ)) (st : Option ℕ) → ((c == b) ≡ true → g ≡ f) → ClearOf (t.rooms b) p (if c == b then x ∷ xs else xs) → IsSome (place_in (t.rooms c) x) → IsKnown t b f p st → IsKnown (or_same (write t c x (origin g n x)) t) b f p (if (c == b) && same_point x p then Some n else st)
known_write b c f g n t p x xs st only clear inside known = at (c == b) (same_point x p) refl refl clear
  where
    at : (u v : Bool) → (c == b) ≡ u → same_point x p ≡ v → ClearOf (t.rooms b) p (if u then x ∷ xs else xs) → IsKnown (or_same (write t c x (origin g n x)) t) b f p (if u && v then Some n else st)
    at true true i j clear =
        let cb : c ≡ b = eq_true c b i in
        let xp : x ≡ p = point_true x p j in
        let here : read (or_same (write t c x (origin g n x)) t) c x ≡ Some (origin g n x) = write_here c t x (origin g n x) inside in
        let there : read (or_same (write t c x (origin g n x)) t) b x ≡ Some (origin g n x) = subst (λ d. read (or_same (write t c x (origin g n x)) t) d x ≡ Some (origin g n x)) cb here in
        let point : read (or_same (write t c x (origin g n x)) t) b p ≡ Some (origin g n p) = subst (λ y. read (or_same (write t c x (origin g n x)) t) b y ≡ Some (origin g n y)) xp there in
        point ∙ ap (λ h. Some (origin h n p)) (only i)
    at true false i j clear =
        let cb : c ≡ b = eq_true c b i in
        let apart : (place_in (t.rooms b) p ≡ place_in (t.rooms b) x) → ⊥ = λ e.
        let px : p ≡ x = clear x (inl refl) e in
        let yes : same_point x p ≡ true = ap (same_point x) px ∙ point_refl x in
        cc (yes, j) in
        let near : read (or_same (write t b x (origin g n x)) t) b p ≡ read t b p = write_near b t p x (origin g n x) (λ e. absurd (apart e)) in
        known_same t (or_same (write t c x (origin g n x)) t) b f p st (subst (λ d. read (or_same (write t d x (origin g n x)) t) b p ≡ read t b p) (sym cb) near) known
    at false v i j clear = known_same t (or_same (write t c x (origin g n x)) t) b f p st (same_read b _ t p (write_other b c t x (origin g n x) i)) known

-- a step of an update
known_step : (given : Given) (b c : ℕ) (f g : List ℕ) (n : ℕ) (at : List Target) (t : Memory Origin) (p : List ℤ) (st : Option ℕ) (held : ℕ → List ℕ → Option Origin) → ((q : List ℕ) → held b q ≡ (if b == c then stepped g n at (t.held b q) else t.held b q)) → ((c == b) ≡ true → g ≡ f) → IsKnown t b f p st → IsKnown (record { rooms = t.rooms; held = held }) b f p (if c == b then stepped_status n (matches at p) st else st)
known_step given b c f g n at t p None held new only known = to (c == b)
  where
    to : (u : Bool) → IsKnown (record { rooms = t.rooms; held = held }) b f p (if u then stepped_status n (matches at p) None else None)
    to true = tt
    to false = tt
known_step given b c f g n at t p (Some d) held new only known = to (c == b) refl
  where
    place : Option (List ℕ)
    place = place_in (t.rooms b) p

    across : (u : Bool) (o : Option (List ℕ)) → (b == c) ≡ u → held_at (held b) o ≡ held_at (λ q. if u then stepped g n at (t.held b q) else t.held b q) o
    across u None e = refl
    across u (Some q) e = new q ∙ ap (λ v. if v then stepped g n at (t.held b q) else t.held b q) e

    stays_same : (o : Option (List ℕ)) → held_at (λ q. if false then stepped g n at (t.held b q) else t.held b q) o ≡ held_at (t.held b) o
    stays_same None = refl
    stays_same (Some q) = refl

    goes : (o : Option (List ℕ)) → held_at (t.held b) o ≡ Some (origin f d p) → held_at (λ q. if true then stepped g n at (t.held b q) else t.held b q) o ≡ stepped g n at (Some (origin f d p))
    goes None e = absurd (cc e)
    goes (Some q) e = ap (stepped g n at) e

    pick : (v : Bool) → Some (if v then origin f (n + 1) p else origin f d p) ≡ Some (origin f (if v then n + 1 else d) p)
    pick true = refl
    pick false = refl

    result : g ≡ f → stepped g n at (Some (origin f d p)) ≡ Some (origin f (if (d == n) && matches at p then n + 1 else d) p)
    result gf =
        let base : stepped f n at (Some (origin f d p)) ≡ Some (origin f (if (d == n) && matches at p then n + 1 else d) p) = rw (name_refl f) (pick ((d == n) && matches at p)) in
        subst (λ h. stepped h n at (Some (origin f d p)) ≡ Some (origin f (if (d == n) && matches at p then n + 1 else d) p)) (sym gf) base

    to : (u : Bool) → (c == b) ≡ u → IsKnown (record { rooms = t.rooms; held = held }) b f p (if u then stepped_status n (matches at p) (Some d) else Some d)
    to true i =
        let bc : (b == c) ≡ true = ap (λ e. b == e) (eq_true c b i) ∙ eq_refl b in
        across true place bc ∙ goes place known ∙ result (only i)
    to false i = across false place (eq_sym b c i) ∙ stays_same place ∙ known

clear_later : (c : Bool) (rooms : Option (List Room)) (p x : List ℤ) (xs : List (List ℤ)) → ClearOf rooms p (if c then x ∷ xs else xs) → ClearOf rooms p xs
clear_later true rooms p x xs h = λ y m. h y (inr m)
clear_later false rooms p x xs h = h

-- what is known of a point after actions
module _ (given : Given) where
  pub tracked : (todo : List Action) (b : ℕ) (f : List ℕ) (p : List ℤ) (t : Memory Origin) (st : Option ℕ) → IsKnown t b f p st → AreFine given todo t → WritesOnly b f todo → ClearOf (t.rooms b) p (written b todo) → IsKnown (learn_all given todo t) b f p (status_after given b p todo st)
  tracked [] b f p t st known fine only clear = known
  tracked (Allot c rooms ∷ later) b f p t st known fine only clear =
      let u = allot t c rooms in
      let same : IsSame b u t = allot_other b c t rooms only.0 in
      let one : IsKnown u b f p (if c == b then None else st) = subst (λ v. IsKnown u b f p (if v then None else st)) (sym only.0) (known_same t u b f p st (same_read b u t p same) known) in
      tracked later b f p u (if c == b then None else st) one fine.1 only.1 (subst (λ rs. ClearOf rs p (written b later)) (sym same.rooms) clear)
  tracked (Take c g x ∷ later) b f p t st known fine only clear =
      tracked later b f p (or_same (write t c x (origin g (given.all_steps g) x)) t) _
      (known_write b c f g (given.all_steps g) t p x (written b later) st only.0 clear fine.0 known) fine.1 only.1
      (subst (λ rs. ClearOf rs p (written b later)) (sym (write_rooms b c t x (origin g (given.all_steps g) x))) (clear_later (c == b) (t.rooms b) p x (written b later) clear))
  tracked (Put c g names x e ∷ later) b f p t st known fine only clear =
      tracked later b f p (or_same (write t c x (origin g 0 x)) t) _
      (known_write b c f g 0 t p x (written b later) st only.0 clear fine.0.0 known) fine.1 only.1
      (subst (λ rs. ClearOf rs p (written b later)) (sym (write_rooms b c t x (origin g 0 x))) (clear_later (c == b) (t.rooms b) p x (written b later) clear))
  tracked (Change c g k names at over e ∷ later) b f p t st known fine only clear =
      tracked later b f p (learn given (Change c g k names at over e) t) _
      (known_step given b c f g (given.step_at g k over) at t p st (learn given (Change c g k names at over e) t).held (λ q. refl) only.0 known) fine.1 only.1 clear
  tracked (Give c x ∷ later) b f p t st known fine only clear = tracked later b f p t st known fine.1 only clear
