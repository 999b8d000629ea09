-- Stores at several turns of a loop, one after another.
use Rattle.std.proofs.Common.{◌≡◌, ℕ, zero, suc, ◌+◌, ◌-◌, ◌<◌, ◌≤◌, List, ◌∷◌, ◌++◌, map, take, length, true, Option, Some, None, sym, ap, subst, ◌∙◌, arith, ℤ, pos, negsuc, ◌+ℤ◌, ◌-ℤ◌, ◌≤ℤ◌, ◌<ℤ◌}
use Rattle.std.specs.Prelude.{flat_map, int_le, IfSome}
use Rattle.std.proofs.lemmas.Int.{ints}
use Rattle.std.proofs.lemmas.List.{take-map, get_or-take, get_or_append_left}
use Rattle.std.proofs.lemmas.Grind.{flat_map-append}
use Rattle.tree.specs.declared.value.Value.{Value}
use Rattle.tree.specs.Meaning.{typed}
use Rattle.tree.specs.Term.{Term}
use Rattle.numeric.specs.declared.ty.Ty.{Ty}
use Rattle.plan.specs.declared.stmt.Coordinate.{Coordinate}
use Rattle.plan.specs.Symbols.{Symbols, bind, rising, clipped}
use Rattle.plan.specs.Semantics.Actions.{Action}
use Rattle.plan.specs.Semantics.Found.{with}
use Rattle.plan.specs.Semantics.Memory.{Memory, write}
use Rattle.plan.specs.Semantics.Run.{Around}
use Rattle.interpreter.specs.Evaluation.Words.{bits_at, word_at}
use Rattle.interpreter.specs.Pieces.{around, setting}
use Rattle.interpreter.specs.Runs.{are_forms, store_at, FindsTurns, IsBut}
use Rattle.interpreter.specs.Steps.{Progress, steps}
use Rattle.interpreter.specs.Targets.{known_number}
use Rattle.interpreter.specs.Visits.{between}
use Rattle.interpreter.specs.declared.piece.Piece.{Piece}
use Rattle.interpreter.proofs.Running.{Comes}
use Rattle.interpreter.proofs.Steps.{steps-append}
use Rattle.interpreter.proofs.Storing.{sets}
use Rattle.interpreter.proofs.StoreTurns.{turn_stores, rising_next}
use lib.IntN.{nat_abs}

-- the first of some turns, and then the others
pub first_turn : (A : Around) (f : ℤ → List Action) (z : ℤ) (n i : ℕ) (p : Progress) (whole : Option Progress) → i < n → Comes A whole (flat_map f (rising (z +ℤ pos i) (n - i))) p →
    whole ≡ with (steps A (f (z +ℤ pos i)) p) (steps A (flat_map f (rising (z +ℤ pos (i + 1)) (n - (i + 1)))))
first_turn A f z n i p whole lt h =
    h ∙ ap (λ (l : List ℤ). steps A (flat_map f l) p) (rising_next z n i lt) ∙ steps-append A (f (z +ℤ pos i)) (flat_map f (rising (z +ℤ pos (i + 1)) (n - (i + 1)))) p

-- where the value at each turn is found before, the first turn sets it
pub first_set : (x : Piece) (cell : List ℕ → List ℤ → Value) (b d n i size : ℕ) (cs : List Coordinate) (e : Term) (s : Symbols) (j : ℕ) (begin low : ℤ) (memory : Memory Value) (t : Ty) (zs : List ℕ)
    (p : Progress) (whole : Option Progress) →
    are_forms cs ≡ true → size ≡ (setting x).dimensions b → FindsTurns x b cs e s j begin low memory n t zs → IsBut b memory p.memory → i < n →
    Comes (around x cell) whole (flat_map (store_at x b cs e s j begin d) (rising (low +ℤ pos i) (n - i))) p →
    whole ≡ with (sets b p (map (known_number (bind s j (low +ℤ pos i) (int_le (low +ℤ pos i) begin))) (take size cs)) (typed t (word_at t zs i)))
    (steps (around x cell) (flat_map (store_at x b cs e s j begin d) (rising (low +ℤ pos (i + 1)) (n - (i + 1)))))
first_set x cell b d n i size cs e s j begin low memory t zs p whole forms is finds but lt h =
    let A = around x cell in
    let f = store_at x b cs e s j begin d in
    let z = low +ℤ pos i in
    let now = bind s j z (int_le z begin) in
    let v = typed t (word_at t zs i) in
    let go : Progress → Option Progress = steps A (flat_map f (rising (low +ℤ pos (i + 1)) (n - (i + 1)))) in
    first_turn A f low n i p whole lt h
    ∙ ap (λ (o : Option Progress). with o go) (turn_stores x cell b d size cs e now p v forms is (finds p.memory but i lt))
    ∙ ap (λ (q : List ℤ). with (sets b p q v) go) (take-map (known_number now) size cs)

-- the place is set
pub set_there : (b : ℕ) (p : Progress) (q : List ℤ) (v : Value) (m : Memory Value) → write p.memory b q v ≡ Some m → sets b p q v ≡ Some (record { memory = m; given = p.given })
set_there b p q v m h = ap (λ (o : Option (Memory Value)). with o (λ n. Some (record { memory = n; given = p.given }))) h

-- or there is none
pub set_nowhere : (b : ℕ) (p : Progress) (q : List ℤ) (v : Value) → write p.memory b q v ≡ None → sets b p q v ≡ None
set_nowhere b p q v h = ap (λ (o : Option (Memory Value)). with o (λ n. Some (record { memory = n; given = p.given }))) h

pub rising_append : (z : ℤ) (m n : ℕ) → rising z (m + n) ≡ rising z m ++ rising (z +ℤ pos m) n
rising_append z zero n =
    let e : z ≡ z +ℤ pos 0 = omega (arith, ints) in
    let g : 0 + n ≡ n = omega arith in
    λ i. rising (e i) (g i)
rising_append z (suc m) n =
    let e : (z +ℤ pos 1) +ℤ pos m ≡ z +ℤ pos (suc m) = omega (arith, ints) in
    let g : suc m + n ≡ suc (m + n) = omega arith in
    ap (rising z) g ∙ ap (λ (l : List ℤ). z ∷ l) (rising_append (z +ℤ pos 1) m n ∙ ap (λ (y : ℤ). rising (z +ℤ pos 1) m ++ rising y n) e)

-- the first so many turns of a loop, and then the others
pub between_parts : (low high : ℤ) (n : ℕ) → (low +ℤ pos n) ≤ℤ (high +ℤ pos 1) → between low high ≡ rising low n ++ between (low +ℤ pos n) high
between_parts low high n h =
    let k : ℕ = nat_abs ((high +ℤ pos 1) -ℤ (low +ℤ pos n)) in
    let e : (high +ℤ pos 1) -ℤ low ≡ pos (n + k) = omega (arith, ints) in
    let f : (high +ℤ pos 1) -ℤ (low +ℤ pos n) ≡ pos k = omega (arith, ints) in
    ap (λ (d : ℤ). rising low (clipped d)) e ∙ rising_append low n k ∙ ap (λ (d : ℤ). rising low n ++ rising (low +ℤ pos n) (clipped d)) (sym f)

pub parts_next : (A : Around) (f : ℤ → List Action) (low high : ℤ) (n : ℕ) (p : Progress) (whole : Option Progress) → (low +ℤ pos n) ≤ℤ (high +ℤ pos 1) → Comes A whole (flat_map f (between low high)) p →
    whole ≡ with (steps A (flat_map f (rising low n)) p) (steps A (flat_map f (between (low +ℤ pos n) high)))
parts_next A f low high n p whole le h =
    h ∙ ap (λ (l : List ℤ). steps A (flat_map f l) p) (between_parts low high n le)
    ∙ ap (λ (l : List Action). steps A l p) (flat_map-append f (rising low n) (between (low +ℤ pos n) high))
    ∙ steps-append A (flat_map f (rising low n)) (flat_map f (between (low +ℤ pos n) high)) p

-- before the first turn, and behind the last
pub turns_begin : (A : Around) (f : ℤ → List Action) (low : ℤ) (n : ℕ) (p : Progress) → Comes A (steps A (flat_map f (rising low n)) p) (flat_map f (rising (low +ℤ pos 0) (n - 0))) p
turns_begin A f low n p =
    let e : low ≡ low +ℤ pos 0 = omega (arith, ints) in
    let g : n ≡ n - 0 = omega arith in
    λ i. steps A (flat_map f (rising (e i) (g i))) p

pub turns_done : (A : Around) (f : ℤ → List Action) (low : ℤ) (n i : ℕ) (p : Progress) (whole : Option Progress) → n ≤ i → Comes A whole (flat_map f (rising (low +ℤ pos i) (n - i))) p → whole ≡ Some p
turns_done A f low n i p whole le h =
    let none : n - i ≡ 0 = omega arith in
    h ∙ ap (λ (k : ℕ). steps A (flat_map f (rising (low +ℤ pos i) k)) p) none

clipped_most : (d : ℤ) (k : ℕ) → d ≤ℤ pos k → clipped d ≤ k
clipped_most (pos n) k h = omega (arith, ints)
clipped_most (negsuc n) k h = omega arith

-- fewer turns are left from a later one on
pub fewer_left : (high low next : ℤ) → low ≤ℤ high → low <ℤ next → clipped ((high +ℤ pos 1) -ℤ next) < clipped ((high +ℤ pos 1) -ℤ low)
fewer_left high low next le lt =
    let k : ℕ = nat_abs (high -ℤ low) in
    let e : (high +ℤ pos 1) -ℤ low ≡ pos (suc k) = omega (arith, ints) in
    let most : clipped ((high +ℤ pos 1) -ℤ next) ≤ k = clipped_most ((high +ℤ pos 1) -ℤ next) k (omega (arith, ints)) in
    subst (λ (d : ℤ). clipped ((high +ℤ pos 1) -ℤ next) < clipped d) (sym e) (omega (arith, most))

-- a word of a register that was written back
pub written_back : (n : ℕ) (new rest : List ℕ) (k : ℕ) → k < n → k < length new → bits_at (take n (new ++ rest)) k ≡ bits_at new k
written_back n new rest k lt inside = get_or-take n (new ++ rest) k 0 lt ∙ get_or_append_left new rest 0 k inside

-- what two facts say of something that may be there
pub both_some : {X : Type 0} (o : Option X) (P Q R : X → Type 0) → ((x : X) → P x → Q x → R x) → IfSome o P → IfSome o Q → IfSome o R
both_some None P Q R f p q = p
both_some (Some x) P Q R f p q = f x p q
