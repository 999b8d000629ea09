-- Buffers of places, each of which holds something or is unset.
use Rattle.std.specs.Prelude.{ℕ, ◌==◌, ◌&&◌, if◌then◌else◌, List, Option, Some, None, ℤ}
use Rattle.plan.specs.Rooms.{Room, place, same_place}

-- what each buffer has places for, and what each place holds
pub record Memory (V : Type 0) : Type 0 where
  pub rooms : ℕ → Option (List Room)
  pub held : ℕ → List ℕ → Option V

-- where a point lies in a buffer, unless there is no such buffer or the point is outside it
abbrev pub place_in : Option (List Room) → List ℤ → Option (List ℕ)
place_in None p = None
place_in (Some rs) p = place rs p

abbrev pub held_at : {V : Type 0} → (List ℕ → Option V) → Option (List ℕ) → Option V
held_at h None = None
held_at h (Some q) = h q

-- what is held at a point
abbrev pub read : {V : Type 0} → Memory V → ℕ → List ℤ → Option V
read m b p = held_at (m.held b) (place_in (m.rooms b) p)

-- a buffer of unset places
abbrev pub allot : {V : Type 0} → Memory V → ℕ → List Room → Memory V
allot m b rs = record {
  rooms = λ c. if c == b then Some rs else m.rooms c;
  held = λ c q. if c == b then None else m.held c q;
}

-- one place set
abbrev pub set_place : {V : Type 0} → Memory V → ℕ → List ℕ → V → Memory V
set_place m b q v = record {
  rooms = m.rooms;
  held = λ c r. if (c == b) && same_place r q then Some v else m.held c r;
}

abbrev pub set_at : {V : Type 0} → Memory V → ℕ → Option (List ℕ) → V → Option (Memory V)
set_at m b None v = None
set_at m b (Some q) v = Some (set_place m b q v)

-- one point's place set, unless it is outside
abbrev pub write : {V : Type 0} → Memory V → ℕ → List ℤ → V → Option (Memory V)
write m b p v = set_at m b (place_in (m.rooms b) p) v

-- no buffer yet
abbrev pub nothing : {V : Type 0} → Memory V
nothing = record { rooms = λ b. None; held = λ b q. None }
