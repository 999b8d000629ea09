-- A need line names each piece that owns a point of what is fetched: by the block in which the point's number falls.
use Rattle.std.proofs.Common.{◌≡◌, ℕ, zero, suc, ◌<◌, Bool, true, false, ◌&&◌, List, [], ◌∷◌, ◌++◌, map, slice_get, Option, Some, None, refl, sym, ap, ◌∙◌, subst, arith, ℤ, pos, negsuc}
use Rattle.std.proofs.Common.{◌≤ℤ◌}
use Rattle.std.specs.Prelude.{◌+ℤ◌, ◌-ℤ◌, ◌*ℤ◌, int_le, if◌then◌else◌}
use Rattle.std.specs.List.{AllByRecursion}
use Rattle.std.proofs.lemmas.Int.{ints}
use Rattle.std.proofs.lemmas.Bool.Decides.{Decides-int_eq}
use Rattle.numeric.specs.Apply.{quotient, remainder}
use Rattle.numeric.proofs.Ints.{distribute, multiple_assoc}
use Rattle.lin.specs.Forms.{Form, number, combined, plus_multiple, sum_of, value_of}
use Rattle.lin.specs.Spans.{IsInSpan, IsInRegion}
use Rattle.lin.specs.declared.form.Multiple.{Multiple}
use Rattle.lin.specs.declared.span.Span1.{Span1}
use Rattle.lin.proofs.TermLemmas.{value_of-plus_multiple, all_weaker, filter-all}
use Rattle.bounds.specs.Spans.{numbers as numbers_from}
use Rattle.meaning.specs.Names.{same_name}
use Rattle.meaning.proofs.Cases.{same_name_is}
use Rattle.sched.specs.declared.schedule.Split.{Split}
use Rattle.sched.specs.declared.placing.Loop.{Loop}
use Rattle.sched.specs.declared.numbers.Extent.{Extent}
use Rattle.sched.specs.declared.numbers.Numbers.{Numbers}
use Rattle.sched.specs.Placing.{is_parallel}
use Rattle.sched.specs.Numbers.{numbers_named, loop_numbers, parallel_loops, grid_counts, or_one}
use Rattle.sched.specs.Standing.{◌>>=◌, alone}
use Rattle.sched.specs.Skeleton.{SkeletonText}
use Rattle.sched.specs.Visits.{IsInGrid}
use Rattle.sched.proofs.Closing.{IsApart}
use Rattle.sched.proofs.Rooting.{AreApart}
use Rattle.sched.proofs.Arranging.{IsGone}
use Rattle.sched.specs.Blocks.{difference, factor_of}
use Rattle.blocks.specs.Blocks.{raised}
use Rattle.sched.specs.Stored.{StoredText}
use Rattle.regions.specs.Needs.{is_multiple, plus_part, plus_parts, divided, block_at, add_blocks, blocks_over, split_length, length_of, first_count, other_counts, or_all_turns}
use Rattle.regions.specs.Needs.{turns_found, turns_needed, loops_needed, or_one_piece, pieces_needed}
use Rattle.lower.specs.Owning.{turn_named, IsTurn, block_of, place_of, EitherBy, Belongs, has_scattered, IsOwned, IsLaidBy, NeedsNameOwners}
use Rattle.lower.proofs.Dividing.{Falls, falls, falls_only, first_below, below_first, nearest, nearest_of_small}
use Rattle.lower.proofs.Blocking.{number_value, multiple_value, one_time, IsSmall, CutFits}
use Rattle.lower.proofs.Directed.{IsLeaf}
use Rattle.blocks.proofs.Laying.{bound}
use Rattle.blocks.proofs.Origins.{combined_is}
use Rattle.lower.proofs.Covering.{in_span, of_span, in_numbers, NumbersAre, AllBelong, all_two, Zipped, zipped}
use Rattle.lower.proofs.Owners.{arranged, cuts, numbers, small, leaves, head, single, in_grid, belong}

-- ---- forms by a divisor

alone_value : (s : ℕ) (v : ℕ → ℤ) → value_of (alone s) v ≡ v s
alone_value s v = let k = one_time (v s) in omega (arith, ints, k)

module _ (n : ℕ) (above : 0 < n) (v : ℕ → ℤ) where
  part_value : (f g : Form) (t : Multiple) → is_multiple (pos n) t ≡ true → plus_part (pos n) f t ≡ Some g → pos n *ℤ value_of g v ≡ pos n *ℤ value_of f v +ℤ t.factor *ℤ v t.symbol
  part_value f g t e h =
      let q = quotient t.factor (pos n) in
      let none : remainder t.factor (pos n) ≡ pos 0 = (Decides-int_eq (remainder t.factor (pos n)) (pos 0)).0 e in
      let whole = (falls n t.factor above).whole in
      let is : pos n *ℤ q ≡ t.factor = omega (arith, ints, whole, none) in
      let made : g ≡ plus_multiple f q (alone t.symbol) = combined_is f (alone t.symbol) g q h in
      let sum : value_of g v ≡ value_of f v +ℤ q *ℤ v t.symbol =
      ap (λ (x : Form). value_of x v) made ∙ (value_of-plus_multiple f q (alone t.symbol) v ∙ ap (λ z. value_of f v +ℤ q *ℤ z) (alone_value t.symbol v)) in
      ap (λ z. pos n *ℤ z) sum ∙ (distribute (pos n) (value_of f v) (q *ℤ v t.symbol)
      ∙ (ap (λ z. pos n *ℤ value_of f v +ℤ z) (multiple_assoc (pos n) q (v t.symbol)) ∙ ap (λ z. pos n *ℤ value_of f v +ℤ z *ℤ v t.symbol) is))

  some_form : (a b : Form) → Some a ≡ Some b → a ≡ b
  some_form a b e = cc

  parts_value : (f : Form) (ts : List Multiple) (b : Form) → plus_parts (pos n) f ts ≡ Some b → pos n *ℤ value_of b v ≡ pos n *ℤ value_of f v +ℤ sum_of ts v
  parts_value f [] b e = (let same = ap (λ (g : Form). pos n *ℤ value_of g v) (some_form f b e) in omega (arith, ints, same))
  parts_value f (t ∷ ts) b e = of (is_multiple (pos n) t) refl e (λ g k. parts_value g ts b k)
    where
      of : (w : Bool) → is_multiple (pos n) t ≡ w → (if w then (plus_part (pos n) f t >>= λ g. plus_parts (pos n) g ts) else None) ≡ Some b →
          ((g : Form) → plus_parts (pos n) g ts ≡ Some b → pos n *ℤ value_of b v ≡ pos n *ℤ value_of g v +ℤ sum_of ts v) →
          pos n *ℤ value_of b v ≡ pos n *ℤ value_of f v +ℤ (t.factor *ℤ v t.symbol +ℤ sum_of ts v)
      of true w k rest =
          let next = bound (plus_part (pos n) f t) (λ g. plus_parts (pos n) g ts) b k in
          let all = rest next.value next.comes in
          let one = part_value f next.value t w next.is in
          omega (arith, ints, all, one)
      of false w k rest = absurd (cc k)

  -- the form's number by the divisor, rounded down
  divided_value : (f b : Form) → divided (pos n) f ≡ Some b → value_of b v ≡ quotient (value_of f v) (pos n)
  divided_value f b e = of (int_le (pos n) (pos 0)) e
    where
      of : (w : Bool) → (if w then None else plus_parts (pos n) (number (quotient f.constant (pos n))) f.terms) ≡ Some b → value_of b v ≡ quotient (value_of f v) (pos n)
      of true k = absurd (cc k)
      of false k =
          let q = quotient f.constant (pos n) in
          let all = parts_value (number q) f.terms b k in
          let first : pos n *ℤ value_of (number q) v ≡ pos n *ℤ q = ap (λ z. pos n *ℤ z) (number_value q v) in
          let c = falls n f.constant above in
          let whole = c.whole in
          (falls_only n (value_of f v) (value_of b v) (remainder f.constant (pos n)) above (record { whole = omega (arith, ints, all, first, whole); from = c.from; below = c.below })).0

  pub block_value : (low : ℤ) → negsuc 2147483647 ≤ℤ low → low ≤ℤ pos 2147483647 → (f b : Form) → block_at low (pos n) f ≡ Some b → value_of b v ≡ quotient (value_of f v -ℤ low) (pos n)
  block_value low from to f b e =
      let less : nearest (pos 0 -ℤ low) ≡ pos 0 -ℤ low = nearest_of_small (pos 0 -ℤ low) (omega (arith, ints, to)) (omega (arith, ints, from)) in
      let moved = multiple_value (nearest (pos 0 -ℤ low)) 1 f v in
      let once = one_time (value_of f v) in
      let next = bound (combined (number (difference (pos 0) low)) (pos 1) f) (divided (pos n)) b e in
      let made : next.value ≡ raised f (difference (pos 0) low) = combined_is (number (difference (pos 0) low)) f next.value (pos 1) next.is in
      let first = ap (λ (x : Form). value_of x v) made in
      let is : value_of next.value v ≡ value_of f v -ℤ low = omega (arith, ints, first, moved, less, once) in
      divided_value next.value b next.comes ∙ ap (λ z. quotient z (pos n)) is

  pub quotient_order : (a b : ℤ) → a ≤ℤ b → quotient a (pos n) ≤ℤ quotient b (pos n)
  quotient_order a b h =
      let f = falls n a above in
      let first = first_below n a (quotient a (pos n)) (remainder a (pos n)) f (quotient a (pos n)) (omega (arith, ints)) in
      below_first n b (quotient b (pos n)) (remainder b (pos n)) (falls n b above) (quotient a (pos n)) (omega (arith, ints, first, h))

  -- what is so of each form's block is so of all blocks
  blocks_all : (P : Form → Type 0) (low : ℤ) (before fs bs : List Form) → add_blocks low (pos n) before fs ≡ Some bs → AllByRecursion P before →
      AllByRecursion (λ f. (b : Form) → block_at low (pos n) f ≡ Some b → P b) fs → AllByRecursion P bs
  blocks_all P low before [] bs e a h = (let same : before ≡ bs = cc e in subst (AllByRecursion P) same a)
  blocks_all P low before (f ∷ fs) bs e a h = of (block_at low (pos n) f) refl e (λ b k m. blocks_all P low (before ++ b ∷ []) fs bs k m h.1)
    where
      last : (xs : List Form) (x : Form) → AllByRecursion P xs → P x → AllByRecursion P (xs ++ x ∷ [])
      last [] x q p = (p, tt)
      last (y ∷ xs) x q p = (q.0, last xs x q.1 p)

      of : (o : Option Form) → block_at low (pos n) f ≡ o → (o >>= λ b. add_blocks low (pos n) (before ++ b ∷ []) fs) ≡ Some bs →
          ((b : Form) → add_blocks low (pos n) (before ++ b ∷ []) fs ≡ Some bs → AllByRecursion P (before ++ b ∷ []) → AllByRecursion P bs) → AllByRecursion P bs
      of (Some b) is k rest = rest b k (last before b a (h.0 b is))
      of None is k rest = absurd (cc k)

  bind_some : {A B : Type 0} (o : Option A) (f : A → Option B) (b : B) → (o >>= f) ≡ Some b → (a : A) × (o ≡ Some a) × (f a ≡ Some b)
  bind_some (Some a) f b e = (a, refl, e)
  bind_some None f b e = absurd (cc e)

  -- the block of a span's number is in the span of its blocks
  block_inside : (low : ℤ) → negsuc 2147483647 ≤ℤ low → low ≤ℤ pos 2147483647 → (s t : Span1) (z : ℤ) → blocks_over low (pos n) s ≡ Some t → IsInSpan s v z → IsInSpan t v (quotient (z -ℤ low) (pos n))
  block_inside low from to s t z e h =
      let first = bind_some (add_blocks low (pos n) [] s.lower) (λ ls. add_blocks low (pos n) [] s.upper >>= λ us. Some (record { lower = ls; upper = us })) t e in
      let second = bind_some (add_blocks low (pos n) [] s.upper) (λ us. Some (record { lower = first.0; upper = us })) t first.2 in
      let parts = of_span s v z h in
      let m = quotient (z -ℤ low) (pos n) in
      let lower : AllByRecursion (λ b. value_of b v ≤ℤ m) first.0 =
      blocks_all (λ b. value_of b v ≤ℤ m) low [] s.lower first.0 first.1 tt
      (all_weaker (λ f. value_of f v ≤ℤ z) (λ f. (b : Form) → block_at low (pos n) f ≡ Some b → value_of b v ≤ℤ m) (λ f k b is.
      let same = block_value low from to f b is in
      let order = quotient_order (value_of f v -ℤ low) (z -ℤ low) (omega (arith, ints, k)) in
      omega (arith, ints, same, order)) s.lower parts.0) in
      let upper : AllByRecursion (λ b. m ≤ℤ value_of b v) second.0 =
      blocks_all (λ b. m ≤ℤ value_of b v) low [] s.upper second.0 second.1 tt
      (all_weaker (λ f. z ≤ℤ value_of f v) (λ f. (b : Form) → block_at low (pos n) f ≡ Some b → m ≤ℤ value_of b v) (λ f k b is.
      let same = block_value low from to f b is in
      let order = quotient_order (z -ℤ low) (value_of f v -ℤ low) (omega (arith, ints, k)) in
      omega (arith, ints, same, order)) s.upper parts.1) in
      let same : record { lower = first.0; upper = second.0 } ≡ t = cc second.2 in
      subst (λ u. IsInSpan u v m) same (in_span (record { lower = first.0; upper = second.0 }) v m lower upper)

-- ---- the turn of a number that belongs to a piece

-- no split is of this loop
abbrev pub IsUncut : List Split → List ℕ → Type 0
IsUncut cs y = AllByRecursion (λ c. c.whole ≡ y → ⊥) cs

module _ (rs : List Numbers) (turn : List ℕ → Option ℕ) where
  uncut_turn : (cs : List Split) (y : List ℕ) (z : ℤ) → IsUncut cs y → Belongs rs turn cs y z → IsTurn (numbers_named rs y) (turn y) z
  uncut_turn [] y z a h = h
  uncut_turn (c ∷ cs) y z a h = of (same_name c.whole y) refl h (λ k. uncut_turn cs y z a.1 k)
    where
      of : (b : Bool) → same_name c.whole y ≡ b →
          EitherBy b (Belongs rs turn cs c.outer (block_of c (numbers_named rs c.whole) z) × Belongs rs turn cs c.inner (place_of c (numbers_named rs c.whole) z)) (Belongs rs turn cs y z) →
          (Belongs rs turn cs y z → IsTurn (numbers_named rs y) (turn y) z) → IsTurn (numbers_named rs y) (turn y) z
      of true e k rest = absurd (a.0 (same_name_is c.whole y e))
      of false e k rest = rest k

  turn_number : (r : Numbers) (o : Option ℕ) (m : ℕ) (z : ℤ) → o ≡ Some m → IsTurn r o z → z ≡ r.low +ℤ pos m
  turn_number r (Some n) m z e h = (let same : n ≡ m = cc e in subst (λ i. z ≡ r.low +ℤ pos i) same h)
  turn_number r None m z e h = absurd (cc e)

  none_length : (cs : List Split) (x y : List ℕ) → AllByRecursion (λ c. x ≡ c.whole → ⊥) cs → split_length x y cs ≡ None
  none_length [] x y a = refl
  none_length (c ∷ cs) x y a = of (same_name c.outer y) (same_name c.whole x) refl (none_length cs x y a.1)
    where
      of : (b d : Bool) → same_name c.whole x ≡ d → split_length x y cs ≡ None → (if b && d then Some (factor_of c) else split_length x y cs) ≡ None
      of true true e k = absurd (a.0 (sym (same_name_is c.whole x e)))
      of true false e k = k
      of false d e k = k

  -- a turn has so many numbers, one block of them
  pub record IsBlockTurn (x : List ℕ) (z len : ℤ) (m : ℕ) : Type 0 where
    pub count : ℕ
    pub some : 0 < count
    pub is : len ≡ pos count
    pub turn_is : pos m ≡ quotient (z -ℤ (numbers_named rs x).low) (pos count)

  split_turn : (cs : List Split) (x y : List ℕ) (z len : ℤ) (m : ℕ) → AreApart cs → AllByRecursion (CutFits rs) cs → IsUncut cs y → Belongs rs turn cs x z → split_length x y cs ≡ Some len →
      turn y ≡ Some m → IsBlockTurn x z len m
  split_turn [] x y z len m apart cut un h e t = absurd (cc e)
  split_turn (c ∷ cs) x y z len m apart cut un h e t =
      of (same_name c.outer y) (same_name c.whole x) refl refl h e (λ k i. split_turn cs x y z len m apart.3 cut.1 un.1 k i t)
    where
      others : same_name c.whole x ≡ true → split_length x y cs ≡ None
      others i =
          none_length cs x y
          (all_weaker (λ d. IsApart d c) (λ d. x ≡ d.whole → ⊥) (λ d k same. k.whole (same_name_is c.whole x i ∙ same)) cs apart.2)

      here : same_name c.outer y ≡ true → same_name c.whole x ≡ true → Belongs rs turn cs c.outer (block_of c (numbers_named rs c.whole) z) → IsBlockTurn x z (pos c.factor) m
      here o w k =
          let fits = cut.0 in
          let named = same_name_is c.outer y o in
          let block = block_of c (numbers_named rs c.whole) z in
          let own : IsTurn (numbers_named rs y) (turn y) block = uncut_turn cs y block un.1 (subst (λ n. Belongs rs turn cs n block) named k) in
          let number = turn_number (numbers_named rs y) (turn y) m block t own in
          let low : (numbers_named rs y).low ≡ pos 0 = ap (λ n. (numbers_named rs n).low) (sym named) ∙ ap (λ (r : Numbers). r.low) fits.outer in
          let same : (numbers_named rs c.whole).low ≡ (numbers_named rs x).low = ap (λ n. (numbers_named rs n).low) (same_name_is c.whole x w) in
          let there : block ≡ quotient (z -ℤ (numbers_named rs x).low) (pos c.factor) = ap (λ l. quotient (z -ℤ l) (pos c.factor)) same in
          record { count = c.factor; some = fits.some; is = refl; turn_is = omega (arith, ints, number, low, there) }

      of : (b d : Bool) → same_name c.outer y ≡ b → same_name c.whole x ≡ d →
          EitherBy d (Belongs rs turn cs c.outer (block_of c (numbers_named rs c.whole) z) × Belongs rs turn cs c.inner (place_of c (numbers_named rs c.whole) z)) (Belongs rs turn cs x z) →
          (if b && d then Some (factor_of c) else split_length x y cs) ≡ Some len → (Belongs rs turn cs x z → split_length x y cs ≡ Some len → IsBlockTurn x z len m) → IsBlockTurn x z len m
      of true true o w k i rest = (let same : pos c.factor ≡ len = cc i in subst (λ n. IsBlockTurn x z n m) same (here o w k.0))
      of true false o w k i rest = rest k i
      of false true o w k i rest = absurd (let clash : None ≡ Some len = sym (others w) ∙ i in cc clash)
      of false false o w k i rest = rest k i

  pub length_turn : (cs : List Split) (x y : List ℕ) (z len : ℤ) (m : ℕ) → AreApart cs → AllByRecursion (CutFits rs) cs → IsUncut cs y → Belongs rs turn cs x z → length_of x y cs ≡ Some len →
      turn y ≡ Some m → IsBlockTurn x z len m
  length_turn cs x y z len m apart cut un h e t = of (same_name y x) refl e
    where
      of : (b : Bool) → same_name y x ≡ b → (if b then Some (pos 1) else split_length x y cs) ≡ Some len → IsBlockTurn x z len m
      of false i k = split_turn cs x y z len m apart cut un h k t
      of true i k =
          let named = same_name_is y x i in
          let own = uncut_turn cs y z un (subst (λ n. Belongs rs turn cs n z) (sym named) h) in
          let number = turn_number (numbers_named rs y) (turn y) m z t own in
          let same : (numbers_named rs y).low ≡ (numbers_named rs x).low = ap (λ n. (numbers_named rs n).low) named in
          let once = one_time (pos m) in
          let there : Falls 1 (z -ℤ (numbers_named rs x).low) (pos m) (pos 0) =
          record { whole = omega (arith, ints, number, same, once); from = omega (arith, ints); below = omega (arith, ints) } in
          let is : pos 1 ≡ len = cc k in
          record { count = 1; some = omega arith; is = sym is; turn_is = (falls_only 1 (z -ℤ (numbers_named rs x).low) (pos m) (pos 0) (omega arith) there).0 }

-- ---- at a dimension

-- what is so of a point at the dimension of a variable
record AtVariable (rs : List Numbers) (turn : List ℕ → Option ℕ) (cs : List Split) (region : List Extent) (taken : List Span1) (v : ℕ → ℤ) (d : ℕ) (x : List ℕ) : Type 0 where
  z : ℤ
  extent : Extent
  span : Span1
  belongs : Belongs rs turn cs x z
  small : IsSmall (numbers_named rs x)
  low : extent.low ≡ (numbers_named rs x).low
  extent_is : slice_get region d ≡ Some extent
  span_is : slice_get taken d ≡ Some span
  inside : IsInSpan span v z

at_variable : (rs : List Numbers) (turn : List ℕ → Option ℕ) (cs : List Split) (v : ℕ → ℤ) (xs : List (List ℕ)) (es : List Extent) (ts : List Span1) (q : List ℤ) → NumbersAre rs xs es →
    AllByRecursion (λ x. IsSmall (numbers_named rs x)) xs → AllBelong rs turn cs xs q → IsInRegion ts v q → (d : ℕ) (x : List ℕ) → slice_get xs d ≡ Some x → AtVariable rs turn cs es ts v d x
at_variable rs turn cs v [] es ts q n s b t d x e = absurd (cc e)
at_variable rs turn cs v (w ∷ xs) [] ts q n s b t d x e = absurd n
at_variable rs turn cs v (w ∷ xs) (y ∷ es) ts [] n s b t d x e = absurd b
at_variable rs turn cs v (w ∷ xs) (y ∷ es) [] (z ∷ q) n s b t d x e = absurd t
at_variable rs turn cs v (w ∷ xs) (y ∷ es) (u ∷ ts) (z ∷ q) n s b t zero x e =
    let same : w ≡ x = cc e in
    subst (λ a. AtVariable rs turn cs (y ∷ es) (u ∷ ts) v 0 a) same (record {
      z = z;
      extent = y;
      span = u;
      belongs = b.0;
      small = s.0;
      low = ap (λ (r : Numbers). r.low) (sym n.0);
      extent_is = refl;
      span_is = refl;
      inside = t.0;
    })
at_variable rs turn cs v (w ∷ xs) (y ∷ es) (u ∷ ts) (z ∷ q) n s b t (suc d) x e =
    let k = at_variable rs turn cs v xs es ts q n.1 s.1 b.1 t.1 d x e in
    record { z = k.z; extent = k.extent; span = k.span; belongs = k.belongs; small = k.small; low = k.low; extent_is = k.extent_is; span_is = k.span_is; inside = k.inside }

-- ---- loops

transposed : (ls : List Loop) (cs : List Split) → AllByRecursion (IsGone ls) cs → AllByRecursion (λ l. IsUncut cs l.name) ls
transposed [] cs a = tt
transposed (l ∷ ls) cs a =
    (all_weaker (IsGone (l ∷ ls)) (λ c. c.whole ≡ l.name → ⊥) (λ c k. k.0) cs a, transposed ls cs (all_weaker (IsGone (l ∷ ls)) (IsGone ls) (λ c k. k.1) cs a))

module _ (g : StoredText) (region : List Extent) (taken : List Span1) (v : ℕ → ℤ) where
  -- its turn is one of those that are named
  abbrev TurnNamed : Loop → ℕ → Type 0
  TurnNamed l n = (count : ℕ) → n < count → IsInSpan (turns_needed g region taken l count) v (pos n)

  found_or_all : (count n : ℕ) (o : Option Span1) → n < count → ((s : Span1) → o ≡ Some s → IsInSpan s v (pos n)) → IsInSpan (or_all_turns count o) v (pos n)
  found_or_all count n None lt h = in_numbers (pos 0) (pos count -ℤ pos 1) v (pos n) (omega (arith, ints)) (omega (arith, ints, lt))
  found_or_all count n (Some s) lt h = h s refl

  loops_named : (rs : List Numbers) (ls : List Loop) (ns : List ℕ) → IsInGrid (grid_counts rs (parallel_loops ls)) ns → Zipped TurnNamed (parallel_loops ls) ns →
      IsInRegion (loops_needed g region taken ls (grid_counts rs (parallel_loops ls))) v (map pos ns)
  loops_named rs [] [] h z = tt
  loops_named rs [] (n ∷ ns) h z = absurd h
  loops_named rs (l ∷ ls) ns h z = of (is_parallel l) ns h z (λ ms k m. loops_named rs ls ms k m)
    where
      of : (b : Bool) (ms : List ℕ) → IsInGrid (grid_counts rs (if b then l ∷ parallel_loops ls else parallel_loops ls)) ms →
          Zipped TurnNamed (if b then l ∷ parallel_loops ls else parallel_loops ls) ms →
          ((ms : List ℕ) → IsInGrid (grid_counts rs (parallel_loops ls)) ms → Zipped TurnNamed (parallel_loops ls) ms →
          IsInRegion (loops_needed g region taken ls (grid_counts rs (parallel_loops ls))) v (map pos ms)) →
          IsInRegion (if b then turns_needed g region taken l (first_count (grid_counts rs (if b then l ∷ parallel_loops ls else parallel_loops ls)))
          ∷ loops_needed g region taken ls (other_counts (grid_counts rs (if b then l ∷ parallel_loops ls else parallel_loops ls)))
          else loops_needed g region taken ls (grid_counts rs (if b then l ∷ parallel_loops ls else parallel_loops ls))) v (map pos ms)
      of true [] k m rest = absurd k
      of true (n ∷ ms) k m rest = (m.0 (numbers_named rs l.name).count k.0, rest ms k.1 m.1)
      of false ms k m rest = rest ms k m

  none_needed : (ls : List Loop) (ns : List ℕ) → [] ≡ parallel_loops ls → loops_needed g region taken ls ns ≡ []
  none_needed [] ns e = refl
  none_needed (l ∷ ls) ns e = of (is_parallel l) e (λ k. none_needed ls ns k)
    where
      of : (b : Bool) → [] ≡ (if b then l ∷ parallel_loops ls else parallel_loops ls) → ([] ≡ parallel_loops ls → loops_needed g region taken ls ns ≡ []) →
          (if b then turns_needed g region taken l (first_count ns) ∷ loops_needed g region taken ls (other_counts ns) else loops_needed g region taken ls ns) ≡ []
      of true k rest = absurd (cc k)
      of false k rest = rest k

  one_named : (o : List Span1) (n : ℕ) (ns : List ℕ) → IsInRegion o v (map pos (n ∷ ns)) → IsInRegion (or_one_piece o) v (map pos (n ∷ ns))
  one_named [] n ns h = absurd h
  one_named (s ∷ ss) n ns h = h

  only_named : (piece : List ℕ) → IsInGrid (1 ∷ []) piece → IsInRegion (numbers_from (pos 0) (pos 0) ∷ []) v (map pos piece)
  only_named [] h = absurd h
  only_named (n ∷ []) h = let lt = h.0 in (in_numbers (pos 0) (pos 0) v (pos n) (omega (arith, ints)) (omega (arith, ints, lt)), tt)
  only_named (n ∷ m ∷ ns) h = absurd h.1

  pieces_named : (rs : List Numbers) (ls all : List Loop) (counts piece : List ℕ) → ls ≡ parallel_loops all → counts ≡ or_one (grid_counts rs ls) → IsInGrid (or_one (grid_counts rs ls)) piece →
      (IsInGrid (grid_counts rs ls) piece → Zipped TurnNamed ls piece) → IsInRegion (or_one_piece (loops_needed g region taken all counts)) v (map pos piece)
  pieces_named rs [] all counts piece e c h z =
      subst (λ o. IsInRegion (or_one_piece o) v (map pos piece)) (sym (none_needed all counts e)) (only_named piece h)
  pieces_named rs (l ∷ ls) all counts [] e c h z = absurd h
  pieces_named rs (l ∷ ls) all counts (n ∷ ns) e c h z =
      let here = subst (λ (ms : List Loop). IsInGrid (grid_counts rs ms) (n ∷ ns)) e h in
      let named = loops_named rs all (n ∷ ns) here (subst (λ (ms : List Loop). Zipped TurnNamed ms (n ∷ ns)) e (z h)) in
      let same : counts ≡ grid_counts rs (parallel_loops all) = c ∙ ap (grid_counts rs) e in
      one_named (loops_needed g region taken all counts) n ns (subst (λ ms. IsInRegion (loops_needed g region taken all ms) v (map pos (n ∷ ns))) (sym same) named)

module _ (g : StoredText) (region : List Extent) (k : SkeletonText) (h : IsLaidBy g region k) (blocks : has_scattered g region k ≡ false) (taken : List Span1) (v : ℕ → ℤ) (q : List ℤ)
    (piece : List ℕ) (inside : IsInRegion taken v q) (grid : IsInGrid k.grid piece) (owned : IsOwned g region k piece q) where
  abbrev names : List (List ℕ)
  names = g.subject.variables

  abbrev splits : List Split
  splits = g.placed.cuts

  abbrev all_numbers : List Numbers
  all_numbers = loop_numbers g.subject.variables g.placed.cuts region

  abbrev loops : List Loop
  loops = parallel_loops g.placed.loops

  module _ (l : Loop) (leaf : IsLeaf names splits l) (uncut : IsUncut splits l.name) (n : ℕ) (is : turn_named loops piece l.name ≡ Some n) where
    at : AtVariable all_numbers (turn_named loops piece) splits region taken v l.dimension leaf.variable
    at = at_variable all_numbers (turn_named loops piece) splits v names region taken q (numbers g region k h) (small g region k h) (belong g region k h piece grid q blocks owned) inside l.dimension
        leaf.variable leaf.of

    by_length : (len : ℤ) (s : Span1) → length_of leaf.variable l.name splits ≡ Some len → blocks_over at.extent.low len at.span ≡ Some s → IsInSpan s v (pos n)
    by_length len s e found =
        let here = arranged g region k h in
        let there = at in
        let t = length_turn all_numbers (turn_named loops piece) splits leaf.variable l.name there.z len n here.apart (cuts g region k h) uncut there.belongs e is in
        let from = there.small.from in
        let to = there.small.to in
        let low = there.low in
        let blocks_are = subst (λ m. blocks_over there.extent.low m there.span ≡ Some s) t.is found in
        let there_is = block_inside t.count t.some v there.extent.low (omega (arith, ints, from, low)) (omega (arith, ints, to, low)) there.span s there.z blocks_are there.inside in
        let same : quotient (there.z -ℤ there.extent.low) (pos t.count) ≡ pos n = ap (λ m. quotient (there.z -ℤ m) (pos t.count)) low ∙ sym t.turn_is in
        subst (λ m. IsInSpan s v m) same there_is

    by_found : (s : Span1) → turns_found g region taken l ≡ Some s → IsInSpan s v (pos n)
    by_found s found =
        let there = at in
        let y = l.name in
        let at_length : ℤ → Option Span1 = λ len. (slice_get region l.dimension >>= λ e. Some e.low) >>= λ low. slice_get taken l.dimension >>= λ t. blocks_over low len t in
        let first : (length_of leaf.variable y splits >>= at_length) ≡ Some s = ap (λ (o : Option (List ℕ)). (o >>= λ x. length_of x y splits) >>= at_length) (sym leaf.of) ∙ found in
        let second = some_of (length_of leaf.variable y splits) at_length s first in
        let third : (slice_get taken l.dimension >>= λ t. blocks_over there.extent.low second.0 t) ≡ Some s =
        ap (λ (o : Option Extent). (o >>= λ e. Some e.low) >>= λ low. slice_get taken l.dimension >>= λ t. blocks_over low second.0 t) (sym there.extent_is) ∙ second.2 in
        let last : blocks_over there.extent.low second.0 there.span ≡ Some s = ap (λ (o : Option Span1). o >>= λ t. blocks_over there.extent.low second.0 t) (sym there.span_is) ∙ third in
        by_length second.0 s second.1 last
      where
        some_of : {A B : Type 0} (o : Option A) (f : A → Option B) (b : B) → (o >>= f) ≡ Some b → (a : A) × (o ≡ Some a) × (f a ≡ Some b)
        some_of (Some a) f b e = (a, refl, e)
        some_of None f b e = absurd (cc e)

    turn_named_so : (count : ℕ) → n < count → IsInSpan (turns_needed g region taken l count) v (pos n)
    turn_named_so count lt = found_or_all g region taken v count n (turns_found g region taken l) lt by_found

  uncuts : AllByRecursion (λ l. IsUncut splits l.name) loops
  uncuts = let here = arranged g region k h in filter-all (λ l. IsUncut splits l.name) is_parallel g.placed.loops (transposed g.placed.loops splits here.gone)

  named : IsInRegion (pieces_needed g region k.grid taken) v (map pos piece)
  named =
      let there = head g region k h in
      pieces_named g region taken v all_numbers loops g.placed.loops k.grid piece refl there.grid (in_grid g region k h piece grid)
      (λ inside. zipped (TurnNamed g region taken v) all_numbers loops piece inside (single g region k h)
      (all_two (IsLeaf names splits) (λ l. IsUncut splits l.name) (λ l. (n : ℕ) → turn_named loops piece l.name ≡ Some n → TurnNamed g region taken v l n)
      (λ l leaf uncut n is. turn_named_so l leaf uncut n is) loops (leaves g region k h) uncuts))

pub needs_name : NeedsNameOwners
needs_name g region k h blocks taken v q piece inside grid owned = named g region k h blocks taken v q piece inside grid owned
