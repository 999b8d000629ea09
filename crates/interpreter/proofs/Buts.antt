-- Memories that differ in one buffer at most.
use Rattle.std.proofs.Common.{◌≡◌, ◌≢◌, ℕ, List, Option, Some, None, refl, subst, ◌∙◌, arith, false, ℤ}
use Rattle.std.specs.Prelude.{◌==◌, ◌&&◌, if◌then◌else◌}
use Rattle.std.proofs.lemmas.Bool.Decides.{nat_tests}
use Rattle.tree.specs.declared.value.Value.{Value}
use Rattle.plan.specs.Rooms.{same_place}
use Rattle.plan.specs.Semantics.Memory.{Memory, read, write, set_place, set_at, held_at, place_in}
use Rattle.interpreter.specs.Runs.{IsBut}

different : (m n : ℕ) → m ≢ n → (m == n) ≡ false
different m n h = grind (arith, nat_tests)

pub but_itself : (b : ℕ) (m : Memory Value) → IsBut b m m
but_itself b m = record { rooms = λ c h. refl; held = λ c h. refl }

pub but_set : (b : ℕ) (m n : Memory Value) (q : List ℕ) (v : Value) → IsBut b m n → IsBut b m (set_place n b q v)
but_set b m n q v h = record {
  rooms = λ c other. h.rooms c other;
  held = λ c other. (λ i r. if different c b other i && same_place r q then Some v else n.held c r) ∙ h.held c other;
}

pub but_written : (b : ℕ) (m n k : Memory Value) (p : List ℤ) (v : Value) → IsBut b m n → write n b p v ≡ Some k → IsBut b m k
but_written b m n k p v h = by (place_in (n.rooms b) p)
  where
    by : (o : Option (List ℕ)) → set_at n b o v ≡ Some k → IsBut b m k
    by None e = absurd (cc)
    by (Some q) e = let is : set_place n b q v ≡ k = cc in subst (λ (x : Memory Value). IsBut b m x) is (but_set b m n q v h)

pub read_but : (b c : ℕ) (m n : Memory Value) (p : List ℤ) → IsBut b m n → c ≢ b → read n c p ≡ read m c p
read_but b c m n p h other = λ i. held_at (h.held c other i) (place_in (h.rooms c other i) p)
