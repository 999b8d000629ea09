-- What buffers show after one of them was made or changed.
use Rattle.std.proofs.Common.{◌≡◌, ℕ, zero, suc, ◌<◌, ◌≤◌, refl, sym, subst, ap, ◌∙◌, inl, inr, arith, Bool, true, false, cond, ◌&&◌, List, [], ◌∷◌, ◌++◌, Option, Some, None, ℤ, length, get_or, set, replicate, take, ◌+◌, position, option_map, find}
use Rattle.std.specs.Prelude.{All, IsFalse, ◌==◌, ◌||◌, slice_get, nat_lt}
use Rattle.std.specs.List.{position_or_len, list_any, AllByRecursion}
use Rattle.std.specs.Bool.{OnTrue}
use Rattle.std.proofs.lemmas.Bool.{cases_eq, cases_lt, cases_Bool, eqb-true, eq-eqb, ne_eqb, cond-true, cond-false, both_ways, lt-ltb, and_parts, and_from}
use Rattle.std.proofs.lemmas.List.{take_more, take_more_set, get_or-set_same, get_or-set_other, get_or_past, get_or-replicate, length-replicate}
use Rattle.std.proofs.lemmas.List.Folds.{find_at, find-set, find_past}
use Rattle.std.proofs.lemmas.List.Quantifiers.{position-Some}
use Rattle.std.proofs.lemmas.Option.{none-some, cond_some, slice_get-get_or, slice_get_past}
use Rattle.std.proofs.lemmas.List.Elements.{All-from_recursion, All-push, recursion_from_All}
use mathlib.Core.Path.{fun_ext}
use Rattle.tree.specs.declared.value.Value.{Value}
use Rattle.plan.specs.Rooms.{Room, place, same_place}
use Rattle.plan.specs.Semantics.Memory.{Memory, place_in, held_at, read, write, allot, nothing, set_at, set_place}
use Rattle.interpreter.specs.Buffers.Raster.{place_count, place_number, LiesAt}
use Rattle.interpreter.specs.declared.buffers.limit.Limit.{Limit}
use Rattle.interpreter.specs.Buffers.Blocks.{Block, held_by_number, held_in, held_in_some, block_of, limits_of, memory_of, AreNumbered, IsMadeFor, IsNumbered, IsSetAt, HasMemoryFor}
use Rattle.interpreter.proofs.Places.{same_number}

-- ---- one buffer

same_refl : (q : List ℕ) → same_place q q ≡ true
same_refl [] = refl
same_refl (k ∷ ks) = and_from (k == k) (same_place ks ks) (eq-eqb k k refl) (same_refl ks)

same_true : (q at : List ℕ) → same_place q at ≡ true → q ≡ at
same_true [] [] h = refl
same_true [] (j ∷ js) h = cc
same_true (k ∷ ks) [] h = cc
same_true (k ∷ ks) (j ∷ js) h =
    let parts = and_parts (k == j) (same_place ks js) h in
    let e = eqb-true k j parts.0 in
    let f = same_true ks js parts.1 in
    cc

-- a write to one number is seen at no other
other_number : (places : List (Option Value)) (n : ℕ) (v : Value) (o : Option ℕ) → (o ≡ Some n → ⊥) → held_by_number (set places n (Some v)) o ≡ held_by_number places o
other_number places n v None ne = refl
other_number places n v (Some m) ne = get_or-set_other places n m (Some v) None (λ e. ne (ap Some e))

held_set : (rs : List Room) (places : List (Option Value)) (n : ℕ) (at q : List ℕ) (v : Value) → place_number rs at ≡ Some n → n < length places → held_by_number (set places n (Some v)) (place_number rs q) ≡ cond (same_place q at) (Some v) (held_by_number places (place_number rs q))
held_set rs places n at q v numbered less =
    elim (cases_Bool (same_place q at)) [
      | inl same ↦ (let e : place_number rs q ≡ Some n = ap (place_number rs) (same_true q at same) ∙ numbered in
          ap (held_by_number (set places n (Some v))) e ∙ get_or-set_same places n (Some v) None less ∙ sym (cond-true (same_place q at) (Some v) (held_by_number places (place_number rs q)) same))
      | inr other ↦ other_number places n v (place_number rs q)
          (λ e. both_ways (same_place q at) other (subst (λ r. same_place q r ≡ true) (same_number rs q at n e numbered) (same_refl q)))
          ∙ sym (cond-false (same_place q at) (Some v) (held_by_number places (place_number rs q)) other)
    ]

-- a place that is written is a point's that is set
pub set_at_number : (number limit : ℕ) (used : Bool) (rs : List Room) (places : List (Option Value)) (p : List ℤ) (n : ℕ) (v : Value) → length places ≡ place_count rs → LiesAt rs p n
    → IsSetAt (record { number = number; limit = limit; used = used; rooms = rs; places = places }) (record { number = number; limit = limit; used = used; rooms = rs; places = set places n (Some v) }) p v
set_at_number number limit used rs places p n v counts lies =
    let counted = lies.counted in
    record {
      number = refl;
      limit = refl;
      used = refl;
      rooms = refl;
      at = lies.at;
      lies = lies.lies;
      held = λ q. held_set rs places n lies.at q v lies.numbered (omega arith);
    }

-- ---- the first buffer of a number that is in use

abbrev is_of : ℕ → Block → Bool
is_of b block = block.used && (b == block.number)

-- where a buffer of the number is found, it is the first
pub found_block : (blocks : List Block) (b i : ℕ) (d : Block) → position (is_of b) blocks ≡ Some i → block_of blocks b ≡ Some (get_or blocks i d)
found_block blocks b i d e =
    let at = cond_some (nat_lt (position_or_len (is_of b) blocks) (length blocks)) (position_or_len (is_of b) blocks) i e in
    let found = position-Some (is_of b) blocks i d e in
    find_at (is_of b) blocks ∙ ap (slice_get blocks) at.1 ∙ slice_get-get_or blocks i d found.0

pub used_found : (blocks : List Block) (b i : ℕ) (d : Block) → position (is_of b) blocks ≡ Some i → ((get_or blocks i d).used ≡ true) × ((get_or blocks i d).number ≡ b)
used_found blocks b i d e =
    let found = position-Some (is_of b) blocks i d e in
    let parts = and_parts (get_or blocks i d).used (b == (get_or blocks i d).number) found.1 in
    (parts.0, sym (eqb-true b (get_or blocks i d).number parts.1))

pub no_block : (blocks : List Block) (b : ℕ) → position (is_of b) blocks ≡ None → block_of blocks b ≡ None
no_block blocks b e =
    let n : ℕ = position_or_len (is_of b) blocks in
    elim (cases_lt n (length blocks)) [
      | inl less ↦ absurd (none-some n (sym e ∙ cond-true (nat_lt n (length blocks)) (Some n) None (lt-ltb n (length blocks) less)))
      | inr past ↦ find_at (is_of b) blocks ∙ slice_get_past blocks n past
    ]

-- the buffers are those before, but for this one of its number
pub record IsPlaced (blocks later : List Block) (b : ℕ) (new : Block) : Type 0 where
  pub found : (c : ℕ) → block_of later c ≡ cond (c == b) (Some new) (block_of blocks c)

-- a buffer of another number is not the one
not_of : (u t : Bool) → t ≡ false → (u && t) ≡ false
not_of true t e = e
not_of false t e = refl

is_other : (c : ℕ) (block : Block) (b : ℕ) → block.number ≡ b → ¬ (c ≡ b) → is_of c block ≡ false
is_other c block b e ne = not_of block.used (c == block.number) (ne_eqb c block.number (λ f. ne (f ∙ e)))

is_this : (b : ℕ) (block : Block) → block.used ≡ true → block.number ≡ b → is_of b block ≡ true
is_this b block u e = and_from block.used (b == block.number) u (eq-eqb b block.number (sym e))

-- a buffer of the number is put in place of one of the number, and is then the one
placed : (blocks : List Block) (b i : ℕ) (d new : Block) → (get_or blocks i d).number ≡ b → new.number ≡ b → block_of (set blocks i new) b ≡ Some new → IsPlaced blocks (set blocks i new) b new
placed blocks b i d new old same here = record {
  found = λ c. elim (cases_eq c b) [
    | inl is ↦ ap (block_of (set blocks i new)) is ∙ here ∙ sym (cond-true (c == b) (Some new) (block_of blocks c) (eq-eqb c b is))
    | inr ne ↦ find_past (is_of c) blocks i new d (is_other c (get_or blocks i d) b old ne) (is_other c new b same ne)
        ∙ sym (cond-false (c == b) (Some new) (block_of blocks c) (ne_eqb c b ne))
  ];
}

pub placed_at : (blocks : List Block) (b i : ℕ) (d new : Block) → position (is_of b) blocks ≡ Some i → new.used ≡ true → new.number ≡ b → IsPlaced blocks (set blocks i new) b new
placed_at blocks b i d new e used same =
    let at = cond_some (nat_lt (position_or_len (is_of b) blocks) (length blocks)) (position_or_len (is_of b) blocks) i e in
    let known = position-Some (is_of b) blocks i d e in
    placed blocks b i d new (used_found blocks b i d e).1 same (find-set (is_of b) blocks i new (sym at.1) known.0 (is_this b new used same))

-- where none is found, one that is put there is the first
find_new : (p : Block → Bool) (blocks : List Block) (i : ℕ) (new : Block) → i < length blocks → find p blocks ≡ None → p new ≡ true → find p (set blocks i new) ≡ Some new
find_new p [] i new lt none ok = absurd (omega arith)
find_new p (x ∷ xs) zero new lt none ok = ap (λ b. cond b (Some new) (find p xs)) ok
find_new p (x ∷ xs) (suc i) new lt none ok = by (p x) none (λ k. find_new p xs i new (omega arith) k ok)
  where
    by : (b : Bool) → cond b (Some x) (find p xs) ≡ None → (find p xs ≡ None → find p (set xs i new) ≡ Some new) → cond b (Some x) (find p (set xs i new)) ≡ Some new
    by true e rest = absurd (none-some x (sym e))
    by false e rest = rest e

-- a buffer that was not in use is put into use
pub placed_new : (blocks : List Block) (b i : ℕ) (d new : Block) → position (is_of b) blocks ≡ None → position (λ block. b == block.number) blocks ≡ Some i → new.used ≡ true → new.number ≡ b → IsPlaced blocks (set blocks i new) b new
placed_new blocks b i d new none e used same =
    let known = position-Some (λ (block : Block). b == block.number) blocks i d e in
    placed blocks b i d new (sym (eqb-true b (get_or blocks i d).number known.1)) same (find_new (is_of b) blocks i new known.0 (no_block blocks b none) (is_this b new used same))

pub number_found : (blocks : List Block) (b i : ℕ) (d : Block) → position (λ block. b == block.number) blocks ≡ Some i → (get_or blocks i d).number ≡ b
number_found blocks b i d e = let found = position-Some (λ (block : Block). b == block.number) blocks i d e in sym (eqb-true b (get_or blocks i d).number found.1)

-- ---- the memory

same_memory : (rooms rooms' : ℕ → Option (List Room)) (held held' : ℕ → List ℕ → Option Value) → ((c : ℕ) → rooms c ≡ rooms' c) → ((c : ℕ) (q : List ℕ) → held c q ≡ held' c q) → ◌≡◌ {A = Memory Value} (record { rooms = rooms; held = held }) (record { rooms = rooms'; held = held' })
same_memory rooms rooms' held held' e f =
    let P : (ℕ → Option (List Room)) → Memory Value = λ r. record { rooms = r; held = held } in
    let Q : (ℕ → List ℕ → Option Value) → Memory Value = λ h. record { rooms = rooms'; held = h } in
    ap P (fun_ext e) ∙ ap Q (fun_ext (λ c. fun_ext (f c)))

abbrev rooms_in : Option Block → Option (List Room)
rooms_in o = option_map (λ block. block.rooms) o

unset : (n i : ℕ) → get_or (replicate n None) i None ≡ (let none : Option Value = None in none)
unset n i = elim (cases_lt i n) [
  | inl less ↦ get_or-replicate n i None None less
  | inr past ↦ get_or_past (replicate n None) i None (let none : Option Value = None in let long = length-replicate n none in omega arith)
]

unset_number : (n : ℕ) (o : Option ℕ) → held_by_number (replicate n None) o ≡ None
unset_number n None = refl
unset_number n (Some i) = unset n i

allot_rooms : (b : Bool) (new : Block) (o : Option Block) → rooms_in (cond b (Some new) o) ≡ cond b (Some new.rooms) (rooms_in o)
allot_rooms true new o = refl
allot_rooms false new o = refl

allot_held : (b : Bool) (new : Block) (o : Option Block) (q : List ℕ) → held_in new q ≡ None → held_in_some (cond b (Some new) o) q ≡ cond b None (held_in_some o q)
allot_held true new o q e = e
allot_held false new o q e = refl

-- a buffer of unset places was made
pub memory_allotted : (blocks later : List Block) (b : ℕ) (rs : List Room) (new : Block) → new.rooms ≡ rs → new.places ≡ replicate (place_count rs) None → IsPlaced blocks later b new → memory_of later ≡ allot (memory_of blocks) b rs
memory_allotted blocks later b rs new is_rooms e placed =
    let is_unset : (q : List ℕ) → held_in new q ≡ None = λ q. (λ i. held_by_number (e i) (place_number (is_rooms i) q)) ∙ unset_number (place_count rs) (place_number rs q) in
    same_memory _ _ _ _
    (λ c. ap rooms_in (placed.found c) ∙ allot_rooms (c == b) new (block_of blocks c) ∙ ap (λ r. cond (c == b) (Some r) (rooms_in (block_of blocks c))) is_rooms)
    (λ c q. ap (λ o. held_in_some o q) (placed.found c) ∙ allot_held (c == b) new (block_of blocks c) q (is_unset q))

abbrev read_in : Option Block → List ℤ → Option Value
read_in o p = held_at (held_in_some o) (place_in (rooms_in o) p)

pub memory_read : (blocks : List Block) (b : ℕ) (block : Block) (p : List ℤ) → block_of blocks b ≡ Some block → read (memory_of blocks) b p ≡ held_at (held_in block) (place block.rooms p)
memory_read blocks b block p e = ap (λ o. read_in o p) e

pub memory_unread : (blocks : List Block) (b : ℕ) (p : List ℤ) → block_of blocks b ≡ None → read (memory_of blocks) b p ≡ None
memory_unread blocks b p e = ap (λ o. read_in o p) e

-- a place was set
set_held : (b s : Bool) (new : Block) (o : Option Block) (q : List ℕ) (v : Value) → (b ≡ true → held_in new q ≡ cond s (Some v) (held_in_some o q)) → held_in_some (cond b (Some new) o) q ≡ cond (b && s) (Some v) (held_in_some o q)
set_held true s new o q v e = e refl
set_held false s new o q v e = refl

set_rooms : (b : Bool) (new : Block) (o : Option Block) → (b ≡ true → Some new.rooms ≡ rooms_in o) → rooms_in (cond b (Some new) o) ≡ rooms_in o
set_rooms true new o e = e refl
set_rooms false new o e = refl

memory_set : (blocks later : List Block) (b : ℕ) (old new : Block) (p : List ℤ) (v : Value) (is_set : IsSetAt old new p v) → block_of blocks b ≡ Some old → IsPlaced blocks later b new → memory_of later ≡ set_place (memory_of blocks) b is_set.at v
memory_set blocks later b old new p v is_set was placed =
    let here : (c : ℕ) → (c == b) ≡ true → block_of blocks c ≡ Some old = λ c e. ap (block_of blocks) (eqb-true c b e) ∙ was in
    same_memory _ _ _ _
    (λ c. ap rooms_in (placed.found c) ∙ set_rooms (c == b) new (block_of blocks c) (λ e. ap Some is_set.rooms ∙ sym (ap rooms_in (here c e))))
    (λ c q. ap (λ o. held_in_some o q) (placed.found c) ∙ set_held (c == b) (same_place q is_set.at) new (block_of blocks c) q v
    (λ e. is_set.held q ∙ ap (λ o. cond (same_place q is_set.at) (Some v) (held_in_some o q)) (sym (here c e))))

abbrev place_of : Option Block → List ℤ → Option (List ℕ)
place_of o p = place_in (rooms_in o) p

pub memory_written : (blocks later : List Block) (b : ℕ) (old new : Block) (p : List ℤ) (v : Value) → IsSetAt old new p v → block_of blocks b ≡ Some old → IsPlaced blocks later b new → write (memory_of blocks) b p v ≡ Some (memory_of later)
memory_written blocks later b old new p v is_set was placed =
    ap (λ o. set_at (memory_of blocks) b (place_of o p) v) was
    ∙ ap (λ o. set_at (memory_of blocks) b o v) is_set.lies
    ∙ ap Some (sym (memory_set blocks later b old new p v is_set was placed))

-- a point without a place
pub memory_outside : (blocks : List Block) (b : ℕ) (old : Block) (p : List ℤ) (v : Value) → block_of blocks b ≡ Some old → place old.rooms p ≡ None → write (memory_of blocks) b p v ≡ None
memory_outside blocks b old p v was e =
    ap (λ o. set_at (memory_of blocks) b (place_of o p) v) was ∙ ap (λ o. set_at (memory_of blocks) b o v) e

pub memory_unwritten : (blocks : List Block) (b : ℕ) (p : List ℤ) (v : Value) → block_of blocks b ≡ None → write (memory_of blocks) b p v ≡ None
memory_unwritten blocks b p v e = ap (λ o. set_at (memory_of blocks) b (place_of o p) v) e

-- no buffer is in use
pub none_used : (blocks : List Block) → AllByRecursion (λ (block : Block). block.used ≡ false) blocks → (b : ℕ) → block_of blocks b ≡ None
none_used [] h b = refl
none_used (x ∷ xs) h b = cond-false (is_of b x) (Some x) (block_of xs b) (ap (λ (u : Bool). u && (b == x.number)) h.0) ∙ none_used xs h.1 b

pub nothing_used : (blocks : List Block) → AllByRecursion (λ (block : Block). block.used ≡ false) blocks → memory_of blocks ≡ nothing
nothing_used blocks h = same_memory _ _ _ _ (λ c. ap rooms_in (none_used blocks h c)) (λ c q. ap (λ o. held_in_some o q) (none_used blocks h c))

-- ---- limits

pub same_limits : (blocks : List Block) (i : ℕ) (d new : Block) → new.number ≡ (get_or blocks i d).number → new.limit ≡ (get_or blocks i d).limit → limits_of (set blocks i new) ≡ limits_of blocks
same_limits [] i d new e f = refl
same_limits (x ∷ xs) zero d new e f = λ k. record { buffer = e k; places = f k } ∷ limits_of xs
same_limits (x ∷ xs) (suc i) d new e f = ap (λ ls. record { buffer = x.number; places = x.limit } ∷ ls) (same_limits xs i d new e f)

-- the limit of a buffer of the number
pub limit_at : (blocks : List Block) (b n i : ℕ) (d : Block) → HasMemoryFor (limits_of blocks) b n → i < length blocks → (get_or blocks i d).number ≡ b → n ≤ (get_or blocks i d).limit
limit_at blocks b n i d h lt e = of blocks i (recursion_from_All (λ (x : Limit). x.buffer ≡ b → n ≤ x.places) (limits_of blocks) h.each) lt e
  where
    of : (xs : List Block) (k : ℕ) → AllByRecursion (λ (x : Limit). x.buffer ≡ b → n ≤ x.places) (limits_of xs) → k < length xs → (get_or xs k d).number ≡ b → n ≤ (get_or xs k d).limit
    of [] k h l e = absurd (omega arith)
    of (x ∷ xs) zero h l e = h.0 e
    of (x ∷ xs) (suc k) h l e = of xs k h.1 (omega arith) e

any_there : (b : ℕ) (xs : List Block) → list_any (λ (x : Limit). b == x.buffer) (limits_of xs) ≡ true → find (λ (block : Block). b == block.number) xs ≡ None → ⊥
any_there b [] t f = cc
any_there b (x ∷ xs) t f = one (b == x.number) t f (any_there b xs)
  where
    one : (u : Bool) → (u || list_any (λ (y : Limit). b == y.buffer) (limits_of xs)) ≡ true → cond u (Some x) (find (λ (block : Block). b == block.number) xs) ≡ None
        → (list_any (λ (y : Limit). b == y.buffer) (limits_of xs) ≡ true → find (λ (block : Block). b == block.number) xs ≡ None → ⊥) → ⊥
    one true t f rest = none-some x (sym f)
    one false t f rest = rest t f

-- there is a buffer of the number
pub number_there : (blocks : List Block) (b n : ℕ) → HasMemoryFor (limits_of blocks) b n → position (λ block. b == block.number) blocks ≡ None → ⊥
number_there blocks b n h e =
    let at : ℕ = position_or_len (λ (block : Block). b == block.number) blocks in
    any_there b blocks h.there (elim (cases_lt at (length blocks)) [
      | inl less ↦ absurd (none-some at (sym e ∙ cond-true (nat_lt at (length blocks)) (Some at) None (lt-ltb at (length blocks) less)))
      | inr past ↦ find_at (λ (block : Block). b == block.number) blocks ∙ slice_get_past blocks at past
    ])

or_true : (u t : Bool) → t ≡ true → (u || t) ≡ true
or_true true t e = refl
or_true false t e = e

true_or : (u t : Bool) → u ≡ true → (u || t) ≡ true
true_or true t e = refl
true_or false t e = cc

pub made_more : (limits : List Limit) (blocks : List Block) (new : Block) → IsMadeFor limits blocks → new.used ≡ false → All (λ (x : Limit). x.buffer ≡ new.number → x.places ≤ new.limit) limits → IsMadeFor limits (blocks ++ new ∷ [])
made_more limits blocks new h u m = record { unused = of (λ (block : Block). block.used ≡ false) blocks h.unused u; most = of (λ (block : Block). All (λ (x : Limit). x.buffer ≡ block.number → x.places ≤ block.limit) limits) blocks h.most m }
  where
    of : (P : Block → Type 0) (xs : List Block) → AllByRecursion P xs → P new → AllByRecursion P (xs ++ new ∷ [])
    of P [] h p = (p, tt)
    of P (x ∷ xs) h p = (h.0, of P xs h.1 p)

-- there is a buffer of a number where its limit has it
pub any_number : (b : ℕ) (blocks : List Block) → list_any (λ (block : Block). b == block.number) blocks ≡ list_any (λ (l : Limit). b == l.buffer) (limits_of blocks)
any_number b [] = refl
any_number b (x ∷ xs) = ap (λ u. (b == x.number) || u) (any_number b xs)

pub any_before : (b : ℕ) (xs : List Block) (new : Block) → IsNumbered xs b → IsNumbered (xs ++ new ∷ []) b
any_before b [] new e = cc
any_before b (x ∷ xs) new e = of (b == x.number) e (any_before b xs new)
  where
    of : (u : Bool) → (u || list_any (λ (l : Limit). b == l.buffer) (limits_of xs)) ≡ true → (IsNumbered xs b → IsNumbered (xs ++ new ∷ []) b)
        → (u || list_any (λ (l : Limit). b == l.buffer) (limits_of (xs ++ new ∷ []))) ≡ true
    of true k more = refl
    of false k more = more k

pub any_last : (b : ℕ) (xs : List Block) (new : Block) → b ≡ new.number → IsNumbered (xs ++ new ∷ []) b
any_last b [] new e = true_or (b == new.number) false (eq-eqb b new.number e)
any_last b (x ∷ xs) new e = or_true (b == x.number) (list_any (λ (l : Limit). b == l.buffer) (limits_of (xs ++ new ∷ []))) (any_last b xs new e)

-- one limit more, of whose number there is a buffer
pub numbered_more : (limits : List Limit) (old new : List Block) (i : ℕ) (d : Limit) → i < length limits → ((b : ℕ) → IsNumbered old b → IsNumbered new b) → IsNumbered new (get_or limits i d).buffer
    → AreNumbered (take i limits) old → AreNumbered (take (i + 1) limits) new
numbered_more limits old new i d lt kept there h =
    let Q : Limit → Type 0 = λ x. IsNumbered new x.buffer in
    subst (All Q) (sym (take_more limits i d lt)) (All-push Q (take i limits) (get_or limits i d) (λ k x l. kept (get_or (take i limits) k x).buffer (h k x l)) there)

pub made_all : (limits : List Limit) (blocks : List Block) → AreNumbered limits blocks → IsMadeFor limits blocks → All (λ (x : Limit). HasMemoryFor (limits_of blocks) x.buffer x.places) limits
made_all limits blocks numbered h = λ k d lt.
    let x = get_or limits k d in
    record {
      there = numbered k d lt;
      each = All-from_recursion (λ (l : Limit). l.buffer ≡ x.buffer → x.places ≤ l.places) (limits_of blocks) (of x (λ b n is m. m k d lt is) blocks h.most);
    }
  where
    of : (x : Limit) → ((b n : ℕ) → x.buffer ≡ b → All (λ (y : Limit). y.buffer ≡ b → y.places ≤ n) limits → x.places ≤ n) → (xs : List Block)
        → AllByRecursion (λ (block : Block). All (λ (y : Limit). y.buffer ≡ block.number → y.places ≤ block.limit) limits) xs
        → AllByRecursion (λ (l : Limit). l.buffer ≡ x.buffer → x.places ≤ l.places) (limits_of xs)
    of x at [] h = tt
    of x at (y ∷ ys) h = (λ e. at y.number y.limit (sym e) h.0, of x at ys h.1)

pub record IsKept (old new : Block) : Type 0 where
  pub number : new.number ≡ old.number
  pub limit : new.limit ≡ old.limit

-- a write keeps the limit, whether it is one or not
pub kept : (b : Bool) (old new : Block) (p : List ℤ) (v : Value) → OnTrue b (IsSetAt old new p v) → (IsFalse b → new ≡ old) → IsKept old new
kept true old new p v h k = record { number = h.number; limit = h.limit }
kept false old new p v h k = let e = k refl in record { number = ap (λ block. Block.number block) e; limit = ap (λ block. Block.limit block) e }

-- ---- the most places

pub most_more : (limits : List Limit) (b i n m : ℕ) (d : Limit) → i < length limits → All (λ (y : Limit). y.buffer ≡ b → y.places ≤ n) (take i limits) → n ≤ m → ((get_or limits i d).buffer ≡ b → (get_or limits i d).places ≤ m)
    → All (λ (y : Limit). y.buffer ≡ b → y.places ≤ m) (take (i + 1) limits)
most_more limits b i n m d lt h le new =
    let Q : Limit → Type 0 = λ y. y.buffer ≡ b → y.places ≤ m in
    subst (All Q) (sym (take_more limits i d lt))
    (All-push Q (take i limits) (get_or limits i d) (λ k x l e. let g = h k x l e in omega arith) new)

-- one buffer more is out of use
pub unused_more : (blocks : List Block) (i : ℕ) (new : Block) → i < length blocks → AllByRecursion (λ (block : Block). block.used ≡ false) (take i blocks) → new.used ≡ false
    → AllByRecursion (λ (block : Block). block.used ≡ false) (take (i + 1) (set blocks i new))
unused_more blocks i new lt h u =
    let P : Block → Type 0 = λ block. block.used ≡ false in
    subst (AllByRecursion P) (sym (take_more_set blocks i new lt)) (recursion_from_All P (take i blocks ++ new ∷ []) (All-push P (take i blocks) new (All-from_recursion P (take i blocks) h) u))
