-- The stores of a run whose values were found before, set one after another.
use Rattle.std.proofs.Common.{◌≡◌, ℕ, zero, suc, ◌+◌, ◌-◌, ◌≤◌, List, [], ◌∷◌, length, take, Option, Some, None, true, refl, sym, subst, ap, ◌∙◌, arith, ℤ, pos}
use Rattle.std.specs.Prelude.{◌+ℤ◌, flat_map}
use Rattle.std.proofs.lemmas.List.{get_or-take}
use Rattle.std.proofs.lemmas.Option.{none-some}
use Rattle.tree.specs.declared.value.Value.{Value}
use Rattle.tree.specs.Meaning.{typed}
use Rattle.tree.specs.Term.{Term}
use Rattle.numeric.specs.declared.ty.Ty.{Ty}
use Rattle.numeric.specs.Wrap.{wrap}
use Rattle.plan.specs.declared.stmt.Coordinate.{Coordinate}
use Rattle.plan.specs.Symbols.{Symbols, rising}
use Rattle.plan.specs.Semantics.Actions.{Action}
use Rattle.plan.specs.Semantics.Found.{with}
use Rattle.plan.specs.Semantics.Memory.{Memory, write}
use Rattle.interpreter.specs.Buffers.Spots.{set_all}
use Rattle.interpreter.specs.Evaluation.Words.{word_at}
use Rattle.interpreter.specs.Pieces.{around, setting}
use Rattle.interpreter.specs.Runs.{are_forms, numbers_of, store_at, FindsTurns, IsBut}
use Rattle.interpreter.specs.Steps.{Progress, steps}
use Rattle.interpreter.specs.declared.piece.Piece.{Piece}
use Rattle.interpreter.proofs.Buts.{but_itself, but_written}
use Rattle.interpreter.proofs.Ending.{goes_on}
use Rattle.interpreter.proofs.Running.{Comes}
use Rattle.interpreter.proofs.Storing.{sets}
use Rattle.interpreter.proofs.StoreRuns.{first_set, set_there, turns_begin, turns_done}

module _ (x : Piece) (cell : List ℕ → List ℤ → Value) (b d n size : ℕ) (cs : List Coordinate) (e : Term) (s : Symbols) (j : ℕ) (begin low : ℤ)
    (memory : Memory Value) (given : List ℤ) (t : Ty) (zs : List ℕ) where
  abbrev actions_at : ℤ → List Action
  actions_at = store_at x b cs e s j begin d

  abbrev points : ℕ → List ℤ
  points k = numbers_of (take size cs) s j begin (low +ℤ pos k)

  abbrev values : ℕ → Value
  values k = typed t (word_at t zs k)

  abbrev now : Memory Value → Progress
  now m = record { memory = m; given = given }

  abbrev whole : Option Progress
  whole = steps (around x cell) (flat_map actions_at (rising low n)) (now memory)

  record IsBefore (k : ℕ) (m : Memory Value) : Type 0 where
    comes : Comes (around x cell) whole (flat_map actions_at (rising (low +ℤ pos k) (n - k))) (now m)
    but : IsBut b memory m

  before : are_forms cs ≡ true → size ≡ (setting x).dimensions b → FindsTurns x b cs e s j begin low memory n t zs → (k : ℕ) (m : Memory Value) → k ≤ n →
      set_all memory b points values k ≡ Some m → IsBefore k m
  before forms is finds zero m le h =
      let same : memory ≡ m = cc in
      subst (IsBefore 0) same (record { comes = turns_begin (around x cell) actions_at low n (now memory); but = but_itself b memory })
  before forms is finds (suc k) m le h = by (set_all memory b points values k) (λ y f. before forms is finds k y (omega arith) f) refl h
    where
      by : (o : Option (Memory Value)) → ((y : Memory Value) → set_all memory b points values k ≡ Some y → IsBefore k y) → set_all memory b points values k ≡ o →
          with o (λ y. write y b (points k) (values k)) ≡ Some m → IsBefore (suc k) m
      by None earlier f g = absurd (none-some m g)
      by (Some y) earlier f g =
          let r = earlier y f in
          let go : Progress → Option Progress = steps (around x cell) (flat_map actions_at (rising (low +ℤ pos (k + 1)) (n - (k + 1)))) in
          let next = first_set x cell b d n k size cs e s j begin low memory t zs (now y) whole forms is finds r.but (omega arith) r.comes in
          let more : k + 1 ≡ suc k = omega arith in
          subst (λ (i : ℕ). IsBefore i m) more (record {
            comes = goes_on (sets b (now y) (points k) (values k)) (now m) go whole next (set_there b (now y) (points k) (values k) m g);
            but = but_written b memory y m (points k) (values k) r.but g;
          })

  -- what the values set one after another come to is what the turns of the loop come to
  pub run_set : are_forms cs ≡ true → size ≡ (setting x).dimensions b → FindsTurns x b cs e s j begin low memory n t zs → (m : Memory Value) → set_all memory b points values n ≡ Some m →
      whole ≡ Some (now m)
  run_set forms is finds m h = turns_done (around x cell) actions_at low n n (now m) whole (omega arith) (before forms is finds n m (omega arith) h).comes

-- the numbers of the first so many places of a register are those of the register
pub finds_taken : (x : Piece) (b n : ℕ) (cs : List Coordinate) (e : Term) (s : Symbols) (j : ℕ) (begin low : ℤ) (memory : Memory Value) (t : Ty) (zs : List ℕ) →
    FindsTurns x b cs e s j begin low memory n t zs → FindsTurns x b cs e s j begin low memory n t (take n zs)
finds_taken x b n cs e s j begin low memory t zs finds = λ m but k lt.
    finds m but k lt ∙ ap (λ (w : ℕ). Some (typed t (wrap t (pos w)))) (sym (get_or-take n zs k 0 lt))

pub take_few : {A : Type 0} (n : ℕ) (xs : List A) → length (take n xs) ≤ n
take_few zero xs = omega arith
take_few (suc n) [] = omega arith
take_few (suc n) (x ∷ xs) = let few = take_few n xs in omega (arith, few)

pub length_taken : {A : Type 0} (n : ℕ) (xs : List A) → n ≤ length xs → length (take n xs) ≡ n
length_taken zero xs h = refl
length_taken (suc n) [] h = absurd (omega arith)
length_taken (suc n) (x ∷ xs) h = let same = length_taken n xs (omega (arith, h)) in omega (arith, same)
