-- The actions that touch a buffer: all that counts for its points.
use Rattle.std.proofs.Common.{◌≡◌, ℕ, Bool, true, false, List, [], ◌∷◌, ◌++◌, Option, Some, None, refl, sym, ap, ◌∙◌}
use Rattle.std.specs.Prelude.{ℤ, ◌==◌, ◌&&◌, if◌then◌else◌, flat_map}
use Rattle.meaning.specs.Names.{same_point}
use Rattle.tree.specs.Term.{Term}
use Rattle.plan.specs.Semantics.Actions.{Action, Allot, Take, Put, Change, Give, Target}
use Rattle.soundness.specs.Origins.{Given, matches}
use Rattle.soundness.specs.Claims.{written, stepped_status, status_after}
use Rattle.soundness.specs.Obligations.{AreInTurn}
use Rattle.soundness.proofs.Learned.{Spares}
use Rattle.soundness.proofs.Refines.{eq_refl}

-- the actions that touch the buffer
abbrev pub touched : ℕ → List Action → List Action
touched b [] = []
touched b (Allot c rooms ∷ later) = if c == b then Allot c rooms ∷ touched b later else touched b later
touched b (Take c f p ∷ later) = if c == b then Take c f p ∷ touched b later else touched b later
touched b (Put c f names p e ∷ later) = if c == b then Put c f names p e ∷ touched b later else touched b later
touched b (Change c f k names at over e ∷ later) = if c == b then Change c f k names at over e ∷ touched b later else touched b later
touched b (Give c p ∷ later) = touched b later

front : {A : Type 0} (v : Bool) (x : A) (xs ys : List A) → (if v then x ∷ (xs ++ ys) else (xs ++ ys)) ≡ (if v then x ∷ xs else xs) ++ ys
front true x xs ys = refl
front false x xs ys = refl

pub touched_append : (b : ℕ) (xs ys : List Action) → touched b (xs ++ ys) ≡ touched b xs ++ touched b ys
touched_append b [] ys = refl
touched_append b (Allot c rooms ∷ xs) ys = ap (λ zs. if c == b then Allot c rooms ∷ zs else zs) (touched_append b xs ys) ∙ front (c == b) _ (touched b xs) (touched b ys)
touched_append b (Take c f p ∷ xs) ys = ap (λ zs. if c == b then Take c f p ∷ zs else zs) (touched_append b xs ys) ∙ front (c == b) _ (touched b xs) (touched b ys)
touched_append b (Put c f names p e ∷ xs) ys = ap (λ zs. if c == b then Put c f names p e ∷ zs else zs) (touched_append b xs ys) ∙ front (c == b) _ (touched b xs) (touched b ys)
touched_append b (Change c f k names at over e ∷ xs) ys = ap (λ zs. if c == b then Change c f k names at over e ∷ zs else zs) (touched_append b xs ys) ∙ front (c == b) _ (touched b xs) (touched b ys)
touched_append b (Give c p ∷ xs) ys = touched_append b xs ys

pub touched_turns : {A : Type 0} (b : ℕ) (g : A → List Action) (zs : List A) → touched b (flat_map g zs) ≡ flat_map (λ z. touched b (g z)) zs
touched_turns b g [] = refl
touched_turns b g (z ∷ zs) = touched_append b (g z) (flat_map g zs) ∙ ap (λ t. touched b (g z) ++ t) (touched_turns b g zs)

-- where the buffer is left alone nothing touches it
pub touched_none : (b : ℕ) (xs : List Action) → Spares b xs → touched b xs ≡ []
touched_none b [] h = refl
touched_none b (Allot c rooms ∷ later) h = rw h.0 (touched_none b later h.1)
touched_none b (Take c f x ∷ later) h = rw h.0 (touched_none b later h.1)
touched_none b (Put c f names x e ∷ later) h = rw h.0 (touched_none b later h.1)
touched_none b (Change c f k names at over e ∷ later) h = rw h.0 (touched_none b later h.1)
touched_none b (Give c x ∷ later) h = touched_none b later h

-- what is written in a buffer is written by what touches it
pub written_touched : (b : ℕ) (xs : List Action) → written b xs ≡ written b (touched b xs)
written_touched b [] = refl
written_touched b (Allot c rooms ∷ xs) = written_touched b xs ∙ of (c == b)
  where
    of : (v : Bool) → written b (touched b xs) ≡ written b (if v then Allot c rooms ∷ touched b xs else touched b xs)
    of true = refl
    of false = refl
written_touched b (Take c f p ∷ xs) = ap (λ ys. if c == b then p ∷ ys else ys) (written_touched b xs) ∙ of (c == b) refl
  where
    of : (v : Bool) → (c == b) ≡ v → (if v then p ∷ written b (touched b xs) else written b (touched b xs)) ≡ written b (if v then Take c f p ∷ touched b xs else touched b xs)
    of true e = rw e refl
    of false e = refl
written_touched b (Put c f names p e ∷ xs) = ap (λ ys. if c == b then p ∷ ys else ys) (written_touched b xs) ∙ of (c == b) refl
  where
    of : (v : Bool) → (c == b) ≡ v → (if v then p ∷ written b (touched b xs) else written b (touched b xs)) ≡ written b (if v then Put c f names p e ∷ touched b xs else touched b xs)
    of true h = rw h refl
    of false h = refl
written_touched b (Change c f k names at over e ∷ xs) = written_touched b xs ∙ of (c == b)
  where
    of : (v : Bool) → written b (touched b xs) ≡ written b (if v then Change c f k names at over e ∷ touched b xs else touched b xs)
    of true = refl
    of false = refl
written_touched b (Give c p ∷ xs) = written_touched b xs

module _ (given : Given) (b : ℕ) (p : List ℤ) where
  -- and so are the steps done of its points
  pub status_touched : (xs : List Action) (st : Option ℕ) → status_after given b p xs st ≡ status_after given b p (touched b xs) st
  status_touched [] st = refl
  status_touched (Allot c rooms ∷ xs) st = of (c == b) refl (status_touched xs)
    where
      of : (v : Bool) → (c == b) ≡ v → ((su : Option ℕ) → status_after given b p xs su ≡ status_after given b p (touched b xs) su) → status_after given b p xs (if v then None else st) ≡ status_after given b p (if v then Allot c rooms ∷ touched b xs else touched b xs) st
      of true e rest = rest _ ∙ sym (ap (λ w. status_after given b p (touched b xs) (if w then None else st)) e)
      of false e rest = rest st
  status_touched (Take c f x ∷ xs) st = of (c == b) refl (status_touched xs)
    where
      of : (v : Bool) → (c == b) ≡ v → ((su : Option ℕ) → status_after given b p xs su ≡ status_after given b p (touched b xs) su) → status_after given b p xs (if v && same_point x p then Some (given.all_steps f) else st) ≡ status_after given b p (if v then Take c f x ∷ touched b xs else touched b xs) st
      of true e rest = rest _ ∙ sym (ap (λ w. status_after given b p (touched b xs) (if w && same_point x p then Some (given.all_steps f) else st)) e)
      of false e rest = rest st
  status_touched (Put c f names x e ∷ xs) st = of (c == b) refl (status_touched xs)
    where
      of : (v : Bool) → (c == b) ≡ v → ((su : Option ℕ) → status_after given b p xs su ≡ status_after given b p (touched b xs) su) → status_after given b p xs (if v && same_point x p then Some 0 else st) ≡ status_after given b p (if v then Put c f names x e ∷ touched b xs else touched b xs) st
      of true h rest = rest _ ∙ sym (ap (λ w. status_after given b p (touched b xs) (if w && same_point x p then Some 0 else st)) h)
      of false h rest = rest st
  status_touched (Change c f k names at over e ∷ xs) st = of (c == b) refl (status_touched xs)
    where
      of : (v : Bool) → (c == b) ≡ v → ((su : Option ℕ) → status_after given b p xs su ≡ status_after given b p (touched b xs) su) → status_after given b p xs (if v then stepped_status (given.step_at f k over) (matches at p) st else st) ≡ status_after given b p (if v then Change c f k names at over e ∷ touched b xs else touched b xs) st
      of true h rest = rest _ ∙ sym (ap (λ w. status_after given b p (touched b xs) (if w then stepped_status (given.step_at f k over) (matches at p) st else st)) h)
      of false h rest = rest st
  status_touched (Give c x ∷ xs) st = status_touched xs st

touched_change : (b : ℕ) (f : List ℕ) (k : ℕ) (names : List (List ℕ)) (at : List Target) (over : List ℤ) (e : Term) (ys : List Action) → touched b (Change b f k names at over e ∷ ys) ≡ Change b f k names at over e ∷ touched b ys
touched_change b f k names at over e ys = let same : (b == b) ≡ true = eq_refl b in rw same refl

-- steps are in turn where those that touch the buffer are
pub in_turn_touched : (given : Given) (b : ℕ) (f : List ℕ) (k : ℕ) (done : List ℤ → Option ℕ) (todo : List Action) → AreInTurn given b f k done (touched b todo) → AreInTurn given b f k done todo
in_turn_touched given b f k done todo h xs ys names at over e same =
    let r = h (touched b xs) (touched b ys) names at over e (ap (touched b) same ∙ touched_append b xs (Change b f k names at over e ∷ ys) ∙ ap (λ t. touched b xs ++ t) (touched_change b f k names at over e ys)) in
    (r.0, λ p m. status_touched given b p xs (done p) ∙ r.1 p m)
