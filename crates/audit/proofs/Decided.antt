-- What an answer that decides a statement gives.
use Rattle.std.proofs.Common.{◌≡◌, ◌↔◌, Bool, true, false, IsTrue}

pub refuted : {A : Type 0} (answer : Bool) → (IsTrue answer ↔ A) → answer ≡ false → A → ⊥
refuted answer decides fails a = let right = decides.1 a in absurd (cc (fails, right))

pub met : {A : Type 0} (answer : Bool) → (IsTrue answer ↔ A) → answer ≡ true → A
met answer decides holds = decides.0 holds
