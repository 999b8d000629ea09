-- An update's turns over what the places of one buffer hold: they are its turns in memory, and those of its loop.
use Rattle.std.proofs.Common.{◌≡◌, ℕ, zero, suc, ◌+◌, ◌-◌, ◌<◌, ◌≤◌, inl, inr, List, length, drop, get_or, set, Option, Some, None, option_map, refl, sym, subst, ap, ◌∙◌, arith, ℤ, pos}
use Rattle.std.specs.Prelude.{◌+ℤ◌, flat_map, slice_get, slice_set, IfSome}
use Rattle.std.proofs.lemmas.Bool.{cases_lt}
use Rattle.std.proofs.lemmas.List.{get_or-set_same, length-set, set-get_or, set-set}
use Rattle.std.proofs.lemmas.Option.{get_or_from_slice_get, none-some, slice_get-get_or, slice_get_within}
use Rattle.numeric.specs.declared.ty.Ty.{Ty}
use Rattle.tree.specs.declared.value.Value.{Value}
use Rattle.tree.specs.Meaning.{applied}
use Rattle.tree.specs.Term.{Term}
use Rattle.plan.specs.declared.stmt.Coordinate.{Coordinate}
use Rattle.plan.specs.Symbols.{Symbols, rising}
use Rattle.plan.specs.Semantics.Actions.{Action}
use Rattle.plan.specs.Semantics.Found.{with}
use Rattle.plan.specs.Semantics.Memory.{Memory, write}
use Rattle.interpreter.specs.Buffers.Blocks.{Block, block_of, memory_of, IsSetAt}
use Rattle.interpreter.specs.Buffers.Raster.{place_count, LiesAt}
use Rattle.interpreter.specs.HeldTurns.{held_operand, held_operation, on_known, on_own, turned, updated, with_places}
use Rattle.interpreter.specs.PlaceNumbers.{place_at, OperandStands, OperationStands, StandsAt, UpdateStands}
use Rattle.interpreter.specs.Pieces.{around, setting}
use Rattle.interpreter.specs.Runs.{store_at, IsBut}
use Rattle.interpreter.specs.Steps.{Progress, steps}
use Rattle.interpreter.specs.Updates.{columns_at, operand_at, operation_at, FindsUpdate}
use Rattle.interpreter.specs.declared.evaluation.lanes.Number.{Number}
use Rattle.interpreter.specs.declared.piece.Piece.{Piece}
use Rattle.interpreter.specs.declared.updates.Operand.{Operand}
use Rattle.interpreter.specs.declared.updates.Operand.TheVariants.{Known, Own}
use Rattle.interpreter.specs.declared.updates.Operation.{Operation}
use Rattle.interpreter.specs.declared.updates.Update.{Update}
use Rattle.interpreter.proofs.Blocks.{found_block, memory_read, memory_written, placed_at, set_at_number, used_found}
use Rattle.interpreter.proofs.Buts.{but_itself, but_written}
use Rattle.interpreter.proofs.PlaceNumbers.{held_lies, update_kept}
use Rattle.interpreter.proofs.Running.{Comes}
use Rattle.interpreter.proofs.Spots.{place_kept, spot_kept}
use Rattle.interpreter.proofs.StoreRuns.{turns_begin, turns_done}
use Rattle.interpreter.proofs.Updating.{first_update}

-- ---- over places

module _ (o : Operation) (zs behind : List Number) (points lefts rights : List ℕ) (h : List (Option Value)) where
  abbrev after_turns : ℕ → Option (List (Option Value))
  after_turns k = turned o zs behind points lefts rights h k

  abbrev one_turn : ℕ → List (Option Value) → Option (List (Option Value))
  one_turn k g = with (held_operation o zs behind lefts rights g k) (λ v. Some (slice_set g (place_at points k) (Some v)))

  -- one turn more
  pub turned_next : (k : ℕ) (g : List (Option Value)) (r : Option (List (Option Value))) → after_turns k ≡ Some g → one_turn k g ≡ r → after_turns (k + 1) ≡ r
  turned_next k g r e f =
      let more : k + 1 ≡ suc k = omega arith in
      ap after_turns more ∙ ap (λ (x : Option (List (Option Value))). with x (one_turn k)) e ∙ f

  -- where a turn has a fault, the later ones do nothing
  pub turned_stops : (k n : ℕ) → k ≤ n → after_turns k ≡ None → after_turns n ≡ None
  turned_stops k zero le e = let none : k ≡ 0 = omega arith in ap after_turns (sym none) ∙ e
  turned_stops k (suc n) le e =
      elim (cases_lt k (suc n)) [
        | inl less ↦ ap (λ (x : Option (List (Option Value))). with x (one_turn n)) (turned_stops k n (omega (arith, less)) e)
        | inr past ↦ (let same : k ≡ suc n = omega (arith, past, le) in ap after_turns (sym same) ∙ e)
      ]

  -- there are as many places
  pub turned_length : (k : ℕ) (g : List (Option Value)) → after_turns k ≡ Some g → length g ≡ length h
  turned_length zero g e = let same : h ≡ g = cc in ap (λ (l : List (Option Value)). length l) (sym same)
  turned_length (suc k) g e = by (after_turns k) (turned_length k) refl e
    where
      set_one : (y : List (Option Value)) (v : Option Value) → length y ≡ length h → with v (λ w. Some (slice_set y (place_at points k) (Some w))) ≡ Some g → length g ≡ length h
      set_one y None same f = absurd (none-some g f)
      set_one y (Some w) same f =
          let is : slice_set y (place_at points k) (Some w) ≡ g = cc in
          ap (λ (l : List (Option Value)). length l) (sym is) ∙ length-set y (place_at points k) (Some w) ∙ same

      by : (x : Option (List (Option Value))) → ((y : List (Option Value)) → after_turns k ≡ Some y → length y ≡ length h) → after_turns k ≡ x → with x (one_turn k) ≡ Some g → length g ≡ length h
      by None all is f = absurd (none-some g f)
      by (Some y) all is f = set_one y (held_operation o zs behind lefts rights y k) (all y is) f

-- ---- kinds of operands

-- an operation on an own place and what is known
pub known_kind : (o : Operation) (w : ℕ) (t : Ty) → o.left ≡ Own w → o.right ≡ Known t → o ≡ on_known o.op w t o.width
known_kind o w t e f = λ i. record { op = o.op; left = e i; right = f i; width = o.width }

-- and on two own places
pub own_kind : (o : Operation) (v w : ℕ) → o.left ≡ Own v → o.right ≡ Own w → o ≡ on_own o.op v w o.width
own_kind o v w e f = λ i. record { op = o.op; left = e i; right = f i; width = o.width }

-- ---- in memory

-- what an operand has in a buffer at this position
operand_is : (bs : List Block) (x : Block) (b n i k : ℕ) (o : Operand) (zs : List Number) (ns : List ℕ) → slice_get bs i ≡ Some x → OperandStands bs b n i o zs ns k →
    operand_at n o zs (memory_of bs) b k ≡ held_operand o zs ns x.places k
operand_is bs x b n i k (Known t) zs ns there s = refl
operand_is bs x b n i k (Own w) zs ns there s =
    let p = columns_at n w zs k in
    let m = place_at ns k in
    let both : Some s.spot.block ≡ Some x = sym s.spot.there ∙ there in
    let same : s.spot.block ≡ x = cc in
    let none : m + 0 ≡ m = omega arith in
    let lies : LiesAt x.rooms p m = subst (LiesAt x.rooms p) none (subst (λ (y : Block). LiesAt y.rooms p (m + 0)) same s.spot.lies) in
    memory_read bs b x p (found_block bs b i x s.spot.first ∙ ap Some (get_or_from_slice_get bs i x x there)) ∙ held_lies x p m lies

operation_is : (bs : List Block) (x : Block) (b n i k : ℕ) (o : Operation) (zs : List Number) (lefts rights : List ℕ) → slice_get bs i ≡ Some x → OperationStands bs b n i o zs lefts rights k →
    operation_at n o zs (memory_of bs) b k ≡ held_operation o zs (drop o.width zs) lefts rights x.places k
operation_is bs x b n i k o zs lefts rights there s =
    let left = operand_is bs x b n i k o.left zs lefts there s.left in
    let right = operand_is bs x b n i k o.right (drop o.width zs) rights there s.right in
    λ t. with (left t) (λ a. with (right t) (λ c. Some (applied o.op a c)))

-- a point's place is set in the buffer at this position
pub set_is : (bs : List Block) (x : Block) (b i m : ℕ) (p : List ℤ) (v : Value) → slice_get bs i ≡ Some x → length x.places ≡ place_count x.rooms → StandsAt bs b p i m →
    write (memory_of bs) b p v ≡ Some (memory_of (set bs i (with_places x (slice_set x.places m (Some v)))))
set_is bs x b i m p v there counts s =
    let both : Some s.spot.block ≡ Some x = sym s.spot.there ∙ there in
    let same : s.spot.block ≡ x = cc in
    let none : m + 0 ≡ m = omega arith in
    let lies : LiesAt x.rooms p m = subst (LiesAt x.rooms p) none (subst (λ (y : Block). LiesAt y.rooms p (m + 0)) same s.spot.lies) in
    let is : get_or bs i x ≡ x = get_or_from_slice_get bs i x x there in
    let new : Block = with_places x (slice_set x.places m (Some v)) in
    let is_set : IsSetAt x new p v = set_at_number x.number x.limit x.used x.rooms x.places p m v counts lies in
    let found : block_of bs b ≡ Some x = found_block bs b i x s.spot.first ∙ ap Some is in
    let was = used_found bs b i x s.spot.first in
    memory_written bs (set bs i new) b x new p v is_set found
    (placed_at bs b i x new s.spot.first (ap (λ (y : Block). y.used) (sym is) ∙ was.0) (ap (λ (y : Block). y.number) (sym is) ∙ was.1))

-- a value that is written, if there is one
with_written : (o : Option Value) (w : Value → Option (Memory Value)) (f : List (Option Value) → Memory Value) (g : Value → List (Option Value)) → ((v : Value) → w v ≡ Some (f (g v))) →
    with o w ≡ option_map f (with o (λ v. Some (g v)))
with_written None w f g h = refl
with_written (Some v) w f g h = h v

module _ (blocks : List Block) (b size n i : ℕ) (block : Block) (u : Update) (zs : List Number) (points lefts rights : List ℕ) where
  abbrev now : List (Option Value) → List Block
  now h = set blocks i (with_places block h)

  abbrev numbers : List Number
  numbers = drop u.start zs

  abbrev behind : List Number
  behind = drop u.operation.width (drop u.start zs)

  abbrev held_after : ℕ → Option (List (Option Value))
  held_after k = turned u.operation numbers behind points lefts rights block.places k

  abbrev held_turn : ℕ → List (Option Value) → Option (List (Option Value))
  held_turn k g = with (held_operation u.operation numbers behind lefts rights g k) (λ v. Some (slice_set g (place_at points k) (Some v)))

  abbrev memory_turn : ℕ → Memory Value → Option (Memory Value)
  memory_turn k x = with (operation_at n u.operation numbers x b k) (λ v. write x b (columns_at n size zs k) v)

  abbrev shown : List (Option Value) → Memory Value
  shown h = memory_of (now h)

  there_after : slice_get blocks i ≡ Some block → (x : Block) → slice_get (set blocks i x) i ≡ Some x
  there_after there x =
      let less : i < length blocks = slice_get_within blocks i block there in
      let long = length-set blocks i x in
      slice_get-get_or (set blocks i x) i x (omega (arith, less, long)) ∙ ap Some (get_or-set_same blocks i x x less)

  one_turn_is : slice_get blocks i ≡ Some block → length block.places ≡ place_count block.rooms → (k : ℕ) (g : List (Option Value)) → length g ≡ length block.places →
      UpdateStands blocks b size n i u zs points lefts rights k → memory_turn k (shown g) ≡ option_map shown (held_turn k g)
  one_turn_is there counts k g long stands =
      let x : Block = with_places block g in
      let bs : List Block = now g in
      let here : slice_get bs i ≡ Some x = there_after there x in
      let is : block ≡ get_or blocks i block = sym (get_or_from_slice_get blocks i block block there) in
      let rooms = ap (λ (y : Block). y.rooms) is in
      let count = long ∙ ap (λ (y : Block). length y.places) is in
      let s = update_kept blocks bs b size n i u zs points lefts rights k (place_kept blocks i x block rooms count)
      (spot_kept blocks i x block (ap (λ (y : Block). y.number) is) (ap (λ (y : Block). y.used) is) rooms count) stands in
      let p = columns_at n size zs k in
      ap (λ (o : Option Value). with o (λ v. write (memory_of bs) b p v)) (operation_is bs x b n i k u.operation numbers lefts rights here s.operation)
      ∙ with_written (held_operation u.operation numbers behind lefts rights g k) (λ v. write (memory_of bs) b p v) shown (λ v. slice_set g (place_at points k) (Some v))
      (λ v. set_is bs x b i (place_at points k) p v here (long ∙ counts) s.point
      ∙ ap (λ (l : List Block). Some (memory_of l)) (set-set blocks i x (with_places block (slice_set g (place_at points k) (Some v)))))

  -- the turns in memory are those over the buffer's places
  pub turns_are : slice_get blocks i ≡ Some block → length block.places ≡ place_count block.rooms → ((k : ℕ) → k < n → UpdateStands blocks b size n i u zs points lefts rights k) →
      (k : ℕ) → k ≤ n → updated n size b u zs (memory_of blocks) k ≡ option_map shown (held_after k)
  turns_are there counts stands zero le =
      let is : get_or blocks i block ≡ block = get_or_from_slice_get blocks i block block there in
      let same : set blocks i block ≡ blocks = ap (set blocks i) (sym is) ∙ set-get_or blocks i block in
      ap (λ (l : List Block). Some (memory_of l)) (sym same)
  turns_are there counts stands (suc k) le = by (held_after k) (turned_length u.operation numbers behind points lefts rights block.places k) refl (turns_are there counts stands k (omega arith))
    where
      by : (o : Option (List (Option Value))) → ((g : List (Option Value)) → held_after k ≡ Some g → length g ≡ length block.places) → held_after k ≡ o →
          updated n size b u zs (memory_of blocks) k ≡ option_map shown (held_after k) →
          with (updated n size b u zs (memory_of blocks) k) (memory_turn k) ≡ option_map shown (with (held_after k) (held_turn k))
      by None long e h =
          ap (λ (o : Option (Memory Value)). with o (memory_turn k)) (h ∙ ap (option_map shown) e)
          ∙ sym (ap (λ (o : Option (List (Option Value))). option_map shown (with o (held_turn k))) e)
      by (Some g) long e h =
          ap (λ (o : Option (Memory Value)). with o (memory_turn k)) (h ∙ ap (option_map shown) e)
          ∙ one_turn_is there counts k g (long g e) (stands k (omega (arith, le)))
          ∙ sym (ap (λ (o : Option (List (Option Value))). option_map shown (with o (held_turn k))) e)

-- a function of what there may be, twice
pub map_twice : {A B C : Type 0} (f : B → C) (g : A → B) (o : Option A) → option_map f (option_map g o) ≡ option_map (λ x. f (g x)) o
map_twice f g None = refl
map_twice f g (Some x) = refl

-- a buffer keeps its number and its limit where its places alone change
pub same_buffer : {A : Type 0} (new old : Block) (r : Option A) (o : Option (List (Option Value))) → option_map (λ _. new) r ≡ option_map (with_places old) o →
    IfSome r (λ _. (new.number ≡ old.number) × (new.limit ≡ old.limit))
same_buffer new old None o e = tt
same_buffer new old (Some a) None e = absurd (none-some new (sym e))
same_buffer new old (Some a) (Some h) e = let is : new ≡ with_places old h = cc in (ap (λ (b : Block). b.number) is, ap (λ (b : Block). b.limit) is)

-- ---- the turns of the loop

-- an action and then others
with_now : (o : Option Value) (w : Value → Option (Memory Value)) (now : Memory Value → Progress) (go : Progress → Option Progress) →
    with (with o (λ v. with (w v) (λ m. Some (now m)))) go ≡ with (with o w) (λ m. go (now m))
with_now None w now go = refl
with_now (Some v) w now go = by (w v)
  where
    by : (m : Option (Memory Value)) → with (with m (λ y. Some (now y))) go ≡ with m (λ y. go (now y))
    by None = refl
    by (Some m) = refl

module _ (x : Piece) (cell : List ℕ → List ℤ → Value) (b d n size : ℕ) (cs : List Coordinate) (e : Term) (s : Symbols) (j : ℕ) (begin low : ℤ)
    (memory : Memory Value) (given : List ℤ) (u : Update) (zs : List Number) where
  abbrev actions_at : ℤ → List Action
  actions_at = store_at x b cs e s j begin d

  abbrev progress : Memory Value → Progress
  progress m = record { memory = m; given = given }

  abbrev whole : Option Progress
  whole = steps (around x cell) (flat_map actions_at (rising low n)) (progress memory)

  abbrev rest : ℕ → Progress → Option Progress
  rest k = steps (around x cell) (flat_map actions_at (rising (low +ℤ pos k) (n - k)))

  abbrev turn : ℕ → Memory Value → Option (Memory Value)
  turn k m = with (operation_at n u.operation (drop u.start zs) m b k) (λ v. write m b (columns_at n size zs k) v)

  abbrev after_first : ℕ → Option (Memory Value)
  after_first k = updated n size b u zs memory k

  record IsBefore (k : ℕ) (m : Memory Value) : Type 0 where
    comes : Comes (around x cell) whole (flat_map actions_at (rising (low +ℤ pos k) (n - k))) (progress m)
    but : IsBut b memory m

  next : size ≡ (setting x).dimensions b → FindsUpdate x b size cs e s j begin low memory n u zs → (k : ℕ) (m : Memory Value) → k < n → IsBefore k m →
      whole ≡ with (turn k m) (λ y. rest (k + 1) (progress y))
  next is finds k m lt h =
      first_update x cell b d n k size cs e s j begin low memory u zs (progress m) whole is finds h.but lt h.comes
      ∙ with_now (operation_at n u.operation (drop u.start zs) m b k) (λ v. write m b (columns_at n size zs k) v) progress (rest (k + 1))

  but_after : (k : ℕ) (m y : Memory Value) → IsBut b memory m → turn k m ≡ Some y → IsBut b memory y
  but_after k m y h f = by (operation_at n u.operation (drop u.start zs) m b k) f
    where
      by : (o : Option Value) → with o (λ v. write m b (columns_at n size zs k) v) ≡ Some y → IsBut b memory y
      by None g = absurd (none-some y g)
      by (Some v) g = but_written b memory m y (columns_at n size zs k) v h g

  before : size ≡ (setting x).dimensions b → FindsUpdate x b size cs e s j begin low memory n u zs → (k : ℕ) (m : Memory Value) → k ≤ n → after_first k ≡ Some m → IsBefore k m
  before is finds zero m le h =
      let same : memory ≡ m = cc in
      subst (IsBefore 0) same (record { comes = turns_begin (around x cell) actions_at low n (progress memory); but = but_itself b memory })
  before is finds (suc k) m le h = by (after_first k) (λ y f. before is finds k y (omega arith) f) refl h
    where
      by : (o : Option (Memory Value)) → ((y : Memory Value) → after_first k ≡ Some y → IsBefore k y) → after_first k ≡ o → with o (turn k) ≡ Some m → IsBefore (suc k) m
      by None earlier f g = absurd (none-some m g)
      by (Some y) earlier f g =
          let r = earlier y f in
          let more : k + 1 ≡ suc k = omega arith in
          subst (λ (i : ℕ). IsBefore i m) more (record {
            comes = next is finds k y (omega (arith, le)) r ∙ ap (λ (o : Option (Memory Value)). with o (λ z. rest (k + 1) (progress z))) g;
            but = but_after k y m r.but g;
          })

  stops : size ≡ (setting x).dimensions b → FindsUpdate x b size cs e s j begin low memory n u zs → (k : ℕ) → k ≤ n → after_first k ≡ None → whole ≡ None
  stops is finds zero le h = absurd (none-some memory (sym h))
  stops is finds (suc k) le h = by (after_first k) (λ y f. before is finds k y (omega arith) f) (stops is finds k (omega arith)) refl h
    where
      by : (o : Option (Memory Value)) → ((y : Memory Value) → after_first k ≡ Some y → IsBefore k y) → (after_first k ≡ None → whole ≡ None) → after_first k ≡ o →
          with o (turn k) ≡ None → whole ≡ None
      by None earlier none f g = none f
      by (Some y) earlier none f g = next is finds k y (omega (arith, le)) (earlier y f) ∙ ap (λ (o : Option (Memory Value)). with o (λ z. rest (k + 1) (progress z))) g

  -- what the turns come to in memory is what the turns of the loop come to
  pub run_updated : size ≡ (setting x).dimensions b → FindsUpdate x b size cs e s j begin low memory n u zs → (o : Option (Memory Value)) → after_first n ≡ o →
      whole ≡ with o (λ m. Some (progress m))
  run_updated is finds None h = stops is finds n (omega arith) h
  run_updated is finds (Some m) h = turns_done (around x cell) actions_at low n n (progress m) whole (omega arith) (before is finds n m (omega arith) h).comes
