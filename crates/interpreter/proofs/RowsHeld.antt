-- Places of a row set one after another: memory has the values at the points that lie there.
use Rattle.std.proofs.Common.{◌≡◌, ℕ, zero, suc, ◌+◌, ◌<◌, ◌≤◌, List, length, get_or, set, Option, Some, refl, sym, subst, ap, ◌∙◌, arith, ℤ}
use Rattle.std.specs.Prelude.{slice_get}
use Rattle.std.proofs.lemmas.List.{get_or-set_same, length-set, set-get_or, set-set}
use Rattle.std.proofs.lemmas.Option.{get_or_from_slice_get, slice_get-get_or, slice_get_within}
use Rattle.tree.specs.declared.value.Value.{Value}
use Rattle.plan.specs.Semantics.Found.{with}
use Rattle.plan.specs.Semantics.Memory.{Memory, write}
use Rattle.interpreter.specs.Buffers.Blocks.{Block, memory_of}
use Rattle.interpreter.specs.Buffers.Marks.{row_held}
use Rattle.interpreter.specs.Buffers.Raster.{place_count, LiesAt}
use Rattle.interpreter.specs.Buffers.Spots.{set_all, HasPlace, IsSpot}
use Rattle.interpreter.specs.HeldTurns.{with_places}
use Rattle.interpreter.specs.PlaceNumbers.{StandsAt}
use Rattle.interpreter.specs.declared.buffers.spot.Spot.{Spot}
use Rattle.interpreter.proofs.HeldTurns.{set_is}
use Rattle.interpreter.proofs.PlaceNumbers.{stands_kept}
use Rattle.interpreter.proofs.Spots.{place_kept, spot_kept}

-- a point that lies behind a spot stands at the place of its number
stands_behind : (blocks : List Block) (b : ℕ) (p : List ℤ) (s : Spot) (k : ℕ) → IsSpot blocks b p s k → HasPlace blocks s.buffer (s.place + k) → StandsAt blocks b p s.buffer (s.place + k)
stands_behind blocks b p s k spot inside =
    let none : s.place + k ≡ (s.place + k) + 0 = omega arith in
    record {
      spot = record { first = spot.first; block = spot.block; there = spot.there; lies = subst (LiesAt spot.block.rooms p) none spot.lies };
      inside = inside;
    }

module _ (blocks : List Block) (b : ℕ) (points : ℕ → List ℤ) (s : Spot) (block : Block) (values : ℕ → Value) where
  abbrev row : ℕ → List (Option Value)
  row k = row_held values s.place block.places k

  abbrev now : ℕ → List Block
  now k = set blocks s.buffer (with_places block (row k))

  row_length : (k : ℕ) → length (row k) ≡ length block.places
  row_length zero = refl
  row_length (suc k) = length-set (row k) (s.place + k) (Some (values k)) ∙ row_length k

  there_after : slice_get blocks s.buffer ≡ Some block → (x : Block) → slice_get (set blocks s.buffer x) s.buffer ≡ Some x
  there_after there x =
      let less : s.buffer < length blocks = slice_get_within blocks s.buffer block there in
      let long = length-set blocks s.buffer x in
      slice_get-get_or (set blocks s.buffer x) s.buffer x (omega (arith, less, long)) ∙ ap (λ (y : Block). Some y) (get_or-set_same blocks s.buffer x x less)

  one_more : slice_get blocks s.buffer ≡ Some block → length block.places ≡ place_count block.rooms → (k : ℕ) → IsSpot blocks b (points k) s k → HasPlace blocks s.buffer (s.place + k) →
      write (memory_of (now k)) b (points k) (values k) ≡ Some (memory_of (now (suc k)))
  one_more there counts k spot inside =
      let x : Block = with_places block (row k) in
      let is : block ≡ get_or blocks s.buffer block = sym (get_or_from_slice_get blocks s.buffer block block there) in
      let rooms = ap (λ (y : Block). y.rooms) is in
      let count = row_length k ∙ ap (λ (y : Block). length y.places) is in
      let stands = stands_kept blocks (now k) b s.buffer (s.place + k) (points k) (place_kept blocks s.buffer x block rooms count)
      (spot_kept blocks s.buffer x block (ap (λ (y : Block). y.number) is) (ap (λ (y : Block). y.used) is) rooms count) (stands_behind blocks b (points k) s k spot inside) in
      set_is (now k) x b s.buffer (s.place + k) (points k) (values k) (there_after there x) (row_length k ∙ counts) stands
      ∙ ap (λ (l : List Block). Some (memory_of l)) (set-set blocks s.buffer x (with_places block (row (suc k))))

  -- so many places of the row are set
  pub row_set : slice_get blocks s.buffer ≡ Some block → length block.places ≡ place_count block.rooms → (n : ℕ) → ((k : ℕ) → k < n → IsSpot blocks b (points k) s k) →
      ((k : ℕ) → k < n → HasPlace blocks s.buffer (s.place + k)) → (k : ℕ) → k ≤ n → set_all (memory_of blocks) b points values k ≡ Some (memory_of (now k))
  row_set there counts n spots inside zero le =
      let is : get_or blocks s.buffer block ≡ block = get_or_from_slice_get blocks s.buffer block block there in
      let same : set blocks s.buffer block ≡ blocks = ap (set blocks s.buffer) (sym is) ∙ set-get_or blocks s.buffer block in
      ap (λ (l : List Block). Some (memory_of l)) (sym same)
  row_set there counts n spots inside (suc k) le =
      ap (λ (o : Option (Memory Value)). with o (λ m. write m b (points k) (values k))) (row_set there counts n spots inside k (omega arith))
      ∙ one_more there counts k (spots k (omega (arith, le))) (inside k (omega (arith, le)))
