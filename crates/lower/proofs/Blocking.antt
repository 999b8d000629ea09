-- What belongs to a piece of a loop's numbers is the run of them that its block says: by the block and the place of each number, split by split.
use Rattle.std.proofs.Common.{◌≡◌, ℕ, ◌+◌, ◌-◌, ◌*◌, ◌/◌, ◌%◌, ◌<◌, ◌≤◌, Bool, true, false, not, List, [], ◌∷◌, ◌++◌, map, Option, Some, None, refl, sym, ap, ◌∙◌, subst, arith, ℤ, pos}
use Rattle.std.proofs.Common.{negsuc, ◌≤ℤ◌}
use Rattle.std.specs.Prelude.{◌+ℤ◌, ◌-ℤ◌, ◌*ℤ◌, ◌==◌, ◌||◌, if◌then◌else◌}
use Rattle.std.specs.List.{AllByRecursion}
use Rattle.std.specs.Ordering.{int_eq}
use Rattle.std.proofs.lemmas.Int.{ints}
use Rattle.std.proofs.Math.Nat.{div-le_self}
use Rattle.std.proofs.lemmas.Bool.Decides.{Decides-int_eq, nat_tests}
use Rattle.numeric.proofs.Ints.{distribute, multiply_order}
use Rattle.lin.specs.Forms.{Form, number, value_of, plus_multiple}
use Rattle.lin.proofs.TermLemmas.{value_of-plus_multiple, all_weaker}
use Rattle.meaning.specs.Names.{same_name}
use Rattle.meaning.proofs.Cases.{same_name_is}
use Rattle.plan.specs.Symbols.{clipped}
use Rattle.sched.specs.declared.schedule.Split.{Split}
use Rattle.sched.specs.declared.schedule.Tail.TheVariants.{Guard}
use Rattle.sched.specs.declared.numbers.Numbers.{Numbers}
use Rattle.sched.specs.Numbers.{blocks, numbers_named, last_number}
use Rattle.sched.specs.Standing.{form_named, has_rest}
use Rattle.sched.proofs.Numbering.{in_block, whole_blocks, pos_clipped}
use Rattle.sched.specs.Blocks.{factor_of}
use Rattle.blocks.specs.Blocks.{multiple_from, block_end, BlockText, PartText, Whole, Run, Scattered, LayText, all_ends, own_last, with_last, alone_by, blocks_by, within_by, joined}
use Rattle.blocks.specs.Blocks.{uncut, part_of, is_parallel_named}
use Rattle.lower.specs.Owning.{IsTurn, block_of, place_of, EitherBy, Belongs}
use Rattle.lower.proofs.Dividing.{Falls, falls, falls_only, next_times, first_below, below_first, last_above, above_last, nearest, nearest_of_small, nearest_order, nearest_below}

or_parts : (a b : Bool) → (a || b) ≡ false → (a ≡ false) × (b ≡ false)
or_parts true b e = absurd (cc e)
or_parts false b e = (refl, e)

-- ---- lists

map_all : {A B : Type 0} (P : B → Type 0) (f : A → B) (xs : List A) → AllByRecursion (λ x. P (f x)) xs → AllByRecursion P (map f xs)
map_all P f [] a = tt
map_all P f (x ∷ xs) a = (a.0, map_all P f xs a.1)

all_map : {A B : Type 0} (P : B → Type 0) (f : A → B) (xs : List A) → AllByRecursion P (map f xs) → AllByRecursion (λ x. P (f x)) xs
all_map P f [] a = tt
all_map P f (x ∷ xs) a = (a.0, all_map P f xs a.1)

both_all : {A : Type 0} (P : A → Type 0) (xs ys : List A) → AllByRecursion P xs → AllByRecursion P ys → AllByRecursion P (xs ++ ys)
both_all P [] ys a b = b
both_all P (x ∷ xs) ys a b = (a.0, both_all P xs ys a.1 b)

all_both : {A : Type 0} (P : A → Type 0) (xs ys : List A) → AllByRecursion P (xs ++ ys) → AllByRecursion P xs × AllByRecursion P ys
all_both P [] ys a = (tt, a)
all_both P (x ∷ xs) ys a = let k = all_both P xs ys a.1 in ((a.0, k.0), k.1)

-- ---- values of forms

pub zero_times : (n : ℕ) → pos n *ℤ pos 0 ≡ pos 0
zero_times n = omega (arith, ints)

pub one_time : (z : ℤ) → pos 1 *ℤ z ≡ z
one_time z = omega (arith, ints)

pub number_value : (z : ℤ) (v : ℕ → ℤ) → value_of (number z) v ≡ z
number_value z v = omega (arith, ints)

pub multiple_value : (low : ℤ) (n : ℕ) (f : Form) (v : ℕ → ℤ) → value_of (multiple_from low (pos n) f) v ≡ low +ℤ pos n *ℤ value_of f v
multiple_value low n f v = value_of-plus_multiple (number low) (pos n) f v ∙ ap (λ z. z +ℤ pos n *ℤ value_of f v) (number_value low v)

sum_value : (a b : Form) (v : ℕ → ℤ) → value_of (plus_multiple a (pos 1) b) v ≡ value_of a v +ℤ value_of b v
sum_value a b v = value_of-plus_multiple a (pos 1) b v ∙ ap (λ z. value_of a v +ℤ z) (one_time (value_of b v))

-- ---- runs

-- the number is one of the run
pub record InRun (b : BlockText) (v : ℕ → ℤ) (z : ℤ) : Type 0 where
  pub low : value_of b.start v ≤ℤ z
  pub high : z ≤ℤ (value_of b.start v +ℤ b.length -ℤ pos 1)
  pub limits : AllByRecursion (λ f. z ≤ℤ value_of f v) b.own_limits

-- the run's numbers are those of the loop of which so much is so
pub record RunFits (v : ℕ → ℤ) (r : Numbers) (O : ℤ → Type 0) (b : BlockText) : Type 0 where
  pub begins : r.low ≤ℤ value_of b.start v
  pub some : pos 1 ≤ℤ b.length
  pub inside : (z : ℤ) → InRun b v z → z ≤ℤ last_number r
  pub owned : (z : ℤ) → InRun b v z → O z
  pub holds : (z : ℤ) → r.low ≤ℤ z → z ≤ℤ last_number r → O z → InRun b v z

abbrev pub PartFits : (ℕ → ℤ) → Numbers → (ℤ → Type 0) → PartText → Type 0
PartFits v r O Whole = (z : ℤ) → O z
PartFits v r O (Run b) = RunFits v r O b
PartFits v r O Scattered = Unit {0}

-- numbers of 32 bits
pub record IsSmall (r : Numbers) : Type 0 where
  pub from : negsuc 2147483647 ≤ℤ r.low
  pub to : r.low ≤ℤ pos 2147483647
  pub few : r.count < 4294967296

-- the split's loops have the numbers of its blocks and of a block
pub record CutFits (rs : List Numbers) (c : Split) : Type 0 where
  pub some : 0 < c.factor
  pub few : c.factor ≤ 1024
  pub outer : numbers_named rs c.outer ≡ record { name = c.outer; low = pos 0; count = blocks (numbers_named rs c.whole).count c.factor }
  pub inner : numbers_named rs c.inner ≡ record { name = c.inner; low = pos 0; count = c.factor }

-- ---- a split

module _ (c : Split) (r : Numbers) (some : 0 < c.factor) where
  pub fall : (z : ℤ) → Falls c.factor (z -ℤ r.low) (block_of c r z) (place_of c r z)
  fall z = falls c.factor (z -ℤ r.low) some

  -- a number of the loop falls in a block of it
  pub block_first : (z : ℤ) → r.low ≤ℤ z → pos 0 ≤ℤ block_of c r z
  block_first z low = let none = zero_times c.factor in below_first c.factor (z -ℤ r.low) (block_of c r z) (place_of c r z) (fall z) (pos 0) (omega (arith, ints, low, none))

  pub block_last : (z : ℤ) → r.low ≤ℤ z → z ≤ℤ last_number r → block_of c r z ≤ℤ (pos (blocks r.count c.factor) -ℤ pos 1)
  block_last z low last =
      let k = in_block r c.factor some z low last Guard in
      let first = k.low in
      let end = k.high in
      let below = k.below in
      let there : Falls c.factor (z -ℤ r.low) (pos k.block) (z -ℤ r.low -ℤ pos c.factor *ℤ pos k.block) =
      record { whole = omega (arith, ints); from = omega (arith, ints, first); below = omega (arith, ints, end) } in
      let same = (falls_only c.factor (z -ℤ r.low) (pos k.block) (z -ℤ r.low -ℤ pos c.factor *ℤ pos k.block) some there).0 in
      omega (arith, ints, same, below)

module _ (v : ℕ → ℤ) (c : Split) (r : Numbers) (small : IsSmall r) (some : 0 < c.factor) (short : c.factor ≤ 1024) where
  abbrev outer_numbers : Numbers
  outer_numbers = record { name = c.outer; low = pos 0; count = blocks r.count c.factor }

  abbrev inner_numbers : Numbers
  inner_numbers = record { name = c.inner; low = pos 0; count = c.factor }

  end_is : block_end r.low c ≡ r.low +ℤ pos c.factor -ℤ pos 1
  end_is =
      let from = small.from in
      let to = small.to in
      let full : nearest (pos c.factor -ℤ pos 1) ≡ pos c.factor -ℤ pos 1 =
      nearest_of_small (pos c.factor -ℤ pos 1) (omega (arith, ints, some)) (omega (arith, ints, short)) in
      let all : nearest (r.low +ℤ (pos c.factor -ℤ pos 1)) ≡ r.low +ℤ (pos c.factor -ℤ pos 1) =
      nearest_of_small (r.low +ℤ (pos c.factor -ℤ pos 1)) (omega (arith, ints, some, from)) (omega (arith, ints, short, to)) in
      ap (λ z. nearest (r.low +ℤ z)) full ∙ (all ∙ omega (arith, ints))

  block_here : (z : ℤ) → r.low ≤ℤ z → z ≤ℤ last_number r → block_of c r z ≤ℤ last_number outer_numbers
  block_here z low last = let k = block_last c r some z low last in omega (arith, ints, k)

  -- a number in a block is one of the loop, where all blocks are full
  full_last : (z : ℤ) → pos 0 ≤ℤ block_of c r z → block_of c r z ≤ℤ last_number outer_numbers → has_rest c r.count ≡ false → z ≤ℤ last_number r
  full_last z low last e =
      let k = clipped (block_of c r z) in
      let is : pos k ≡ block_of c r z = pos_clipped (block_of c r z) low in
      let tests = or_parts (c.factor == 0) (not (r.count % c.factor == 0)) e in
      let even = not_true (r.count % c.factor == 0) tests.1 in
      let rest : r.count % c.factor ≡ 0 = grind (arith, nat_tests, even) in
      let most = whole_blocks r.count c.factor k some (omega (arith, ints, is, last)) rest in
      let times : pos c.factor *ℤ pos k ≡ pos (k * c.factor) = times_is c.factor k in
      let by : pos c.factor *ℤ block_of c r z ≡ pos c.factor *ℤ pos k = ap (λ t. pos c.factor *ℤ t) (sym is) in
      let f = fall c r some z in
      let whole = f.whole in
      let below = f.below in
      omega (arith, ints, whole, below, by, times, most)
    where
      not_true : (b : Bool) → not b ≡ false → b ≡ true
      not_true true h = refl
      not_true false h = absurd (cc h)

      times_is : (n k : ℕ) → pos n *ℤ pos k ≡ pos (k * n)
      times_is n k = omega (arith, ints)

  -- the last number counts where the last block is not full
  cut_last : (z : ℤ) (fs : List Form) → pos 0 ≤ℤ block_of c r z → block_of c r z ≤ℤ last_number outer_numbers →
      AllByRecursion (λ f. z ≤ℤ value_of f v) (with_last fs (own_last c r)) → AllByRecursion (λ f. z ≤ℤ value_of f v) fs × (z ≤ℤ last_number r)
  cut_last z fs low last a = of (has_rest c r.count) refl a
    where
      of : (b : Bool) → has_rest c r.count ≡ b → AllByRecursion (λ f. z ≤ℤ value_of f v) (with_last fs (if b then Some (last_number r) else None)) →
          AllByRecursion (λ f. z ≤ℤ value_of f v) fs × (z ≤ℤ last_number r)
      of true e a =
          let k = all_both (λ f. z ≤ℤ value_of f v) fs (number (last_number r) ∷ []) a in
          let most = k.1.0 in
          let is = number_value (last_number r) v in
          (k.0, omega (arith, ints, most, is))
      of false e a = (a, full_last z low last e)

  uncut_last : (z : ℤ) (fs : List Form) → AllByRecursion (λ f. z ≤ℤ value_of f v) fs → z ≤ℤ last_number r → AllByRecursion (λ f. z ≤ℤ value_of f v) (with_last fs (own_last c r))
  uncut_last z fs a last = of (has_rest c r.count)
    where
      of : (b : Bool) → AllByRecursion (λ f. z ≤ℤ value_of f v) (with_last fs (if b then Some (last_number r) else None))
      of true = let is = number_value (last_number r) v in both_all (λ f. z ≤ℤ value_of f v) fs (number (last_number r) ∷ []) a (omega (arith, ints, last, is), tt)
      of false = a

  -- the ends of blocks
  ends_hold : (z : ℤ) (fs : List Form) → AllByRecursion (λ f. block_of c r z ≤ℤ value_of f v) fs → AllByRecursion (λ f. z ≤ℤ value_of f v) (all_ends c r fs)
  ends_hold z fs a =
      map_all (λ f. z ≤ℤ value_of f v) (multiple_from (block_end r.low c) (factor_of c)) fs
      (all_weaker (λ f. block_of c r z ≤ℤ value_of f v) (λ f. z ≤ℤ value_of (multiple_from (block_end r.low c) (factor_of c) f) v) (λ f h. one f h) fs a)
    where
      one : (f : Form) → block_of c r z ≤ℤ value_of f v → z ≤ℤ value_of (multiple_from (block_end r.low c) (factor_of c) f) v
      one f h =
          let is = multiple_value (block_end r.low c) c.factor f v in
          let k = last_above c.factor (z -ℤ r.low) (block_of c r z) (place_of c r z) (fall c r some z) (value_of f v) h in
          let end = end_is in
          omega (arith, ints, is, k, end)

  ends_held : (z : ℤ) (fs : List Form) → AllByRecursion (λ f. z ≤ℤ value_of f v) (all_ends c r fs) → AllByRecursion (λ f. block_of c r z ≤ℤ value_of f v) fs
  ends_held z fs a =
      all_weaker (λ f. z ≤ℤ value_of (multiple_from (block_end r.low c) (factor_of c) f) v) (λ f. block_of c r z ≤ℤ value_of f v) (λ f h. one f h) fs
      (all_map (λ f. z ≤ℤ value_of f v) (multiple_from (block_end r.low c) (factor_of c)) fs a)
    where
      one : (f : Form) → z ≤ℤ value_of (multiple_from (block_end r.low c) (factor_of c) f) v → block_of c r z ≤ℤ value_of f v
      one f h =
          let is = multiple_value (block_end r.low c) c.factor f v in
          let end = end_is in
          above_last c.factor (z -ℤ r.low) (block_of c r z) (place_of c r z) (fall c r some z) (value_of f v) (omega (arith, ints, is, h, end))

  module _ (l : LayText) (cs : List Split) (O I : ℤ → Type 0) (o : BlockText) (fits : RunFits v outer_numbers O o) where
    -- the run's last block, by its first
    ends_by : pos c.factor *ℤ (value_of o.start v +ℤ o.length -ℤ pos 1) +ℤ pos c.factor ≡ pos c.factor *ℤ value_of o.start v +ℤ pos c.factor *ℤ o.length
    ends_by =
        let q = value_of o.start v +ℤ o.length -ℤ pos 1 in
        let next : q +ℤ pos 1 ≡ value_of o.start v +ℤ o.length = omega (arith, ints) in
        sym (next_times c.factor q) ∙ (ap (λ z. pos c.factor *ℤ z) next ∙ distribute (pos c.factor) (value_of o.start v) o.length)

    begins_by : pos 0 ≤ℤ (pos c.factor *ℤ value_of o.start v)
    begins_by =
        let k = multiply_order (pos c.factor) (pos 0) (value_of o.start v) (omega (arith, ints)) fits.begins in
        let none = zero_times c.factor in
        omega (arith, ints, k, none)

    -- ---- whole blocks

    abbrev all : BlockText
    all = blocks_by l c cs o r

    all_start : value_of all.start v ≡ r.low +ℤ pos c.factor *ℤ value_of o.start v
    all_start = multiple_value r.low c.factor o.start v

    many : pos 1 ≤ℤ (pos c.factor *ℤ o.length)
    many =
        let k = multiply_order (pos c.factor) (pos 1) o.length (omega (arith, ints)) fits.some in
        let once : pos c.factor *ℤ pos 1 ≡ pos c.factor = omega (arith, ints) in
        omega (arith, ints, k, once, some)

    all_outer : (z : ℤ) → InRun all v z → InRun o v (block_of c r z)
    all_outer z h =
        let low = h.low in
        let high = h.high in
        let start = all_start in
        let most = nearest_below (pos c.factor *ℤ o.length) (omega (arith, ints, many)) in
        let ends = ends_by in
        let limits = of (has_rest c r.count) h.limits in
        record {
          low = below_first c.factor (z -ℤ r.low) (block_of c r z) (place_of c r z) (fall c r some z) (value_of o.start v) (omega (arith, ints, low, start));
          high = above_last c.factor (z -ℤ r.low) (block_of c r z) (place_of c r z) (fall c r some z) (value_of o.start v +ℤ o.length -ℤ pos 1)
              (omega (arith, ints, high, start, most, ends));
          limits = ends_held z o.own_limits limits;
        }
      where
        of : (b : Bool) → AllByRecursion (λ f. z ≤ℤ value_of f v) (with_last (all_ends c r o.own_limits) (if b then Some (last_number r) else None)) →
            AllByRecursion (λ f. z ≤ℤ value_of f v) (all_ends c r o.own_limits)
        of true a = (all_both (λ f. z ≤ℤ value_of f v) (all_ends c r o.own_limits) (number (last_number r) ∷ []) a).0
        of false a = a

    all_back : (z : ℤ) → r.low ≤ℤ z → z ≤ℤ last_number r → InRun o v (block_of c r z) → InRun all v z
    all_back z low last h =
        let start = all_start in
        let first = first_below c.factor (z -ℤ r.low) (block_of c r z) (place_of c r z) (fall c r some z) (value_of o.start v) h.low in
        let far = last_above c.factor (z -ℤ r.low) (block_of c r z) (place_of c r z) (fall c r some z) (value_of o.start v +ℤ o.length -ℤ pos 1) h.high in
        let ends = ends_by in
        let begins = begins_by in
        let few = small.few in
        let y = z -ℤ r.low -ℤ pos c.factor *ℤ value_of o.start v +ℤ pos 1 in
        let near : nearest y ≡ y = nearest_of_small y (omega (arith, ints, first)) (omega (arith, ints, last, begins, few)) in
        let order : nearest y ≤ℤ nearest (pos c.factor *ℤ o.length) = nearest_order y (pos c.factor *ℤ o.length) (omega (arith, ints, far, ends)) in
        record {
          low = omega (arith, ints, start, first);
          high = omega (arith, ints, start, near, order);
          limits = uncut_last z (all_ends c r o.own_limits) (ends_hold z o.own_limits h.limits) last;
        }

    pub all_fit : ((z : ℤ) → I z) → RunFits v r (λ z. O (block_of c r z) × I (place_of c r z)) all
    all_fit whole = record {
      begins = let start = all_start in let begins = begins_by in omega (arith, ints, start, begins);
      some =
          (let one : nearest (pos 1) ≤ℤ nearest (pos c.factor *ℤ o.length) = nearest_order (pos 1) (pos c.factor *ℤ o.length) many in
          let is : nearest (pos 1) ≡ pos 1 = nearest_of_small (pos 1) (omega (arith, ints)) (omega (arith, ints)) in
          omega (arith, ints, one, is));
      inside = (λ z h.
          let k = all_outer z h in
          let first = k.low in
          let begins = fits.begins in
          (cut_last z (all_ends c r o.own_limits) (omega (arith, ints, first, begins)) (fits.inside (block_of c r z) k) h.limits).1);
      owned = (λ z h. (fits.owned (block_of c r z) (all_outer z h), whole (place_of c r z)));
      holds = (λ z low last is. all_back z low last (fits.holds (block_of c r z) (block_first c r some z low) (block_here z low last) is.0));
    }

    -- ---- a part of one block

    module _ (i : BlockText) (inner : RunFits v inner_numbers I i) (one : o.length ≡ pos 1) where
      abbrev base : Form
      base = multiple_from r.low (factor_of c) o.start

      abbrev within : BlockText
      within = within_by l c cs o i r

      base_value : value_of base v ≡ r.low +ℤ pos c.factor *ℤ value_of o.start v
      base_value = multiple_value r.low c.factor o.start v

      start_value : value_of within.start v ≡ value_of base v +ℤ value_of i.start v
      start_value = sum_value base i.start v

      moved_held : (z : ℤ) (fs : List Form) → AllByRecursion (λ f. z ≤ℤ value_of f v) (map (plus_multiple base (pos 1)) fs) → AllByRecursion (λ f. (z -ℤ value_of base v) ≤ℤ value_of f v) fs
      moved_held z fs a =
          all_weaker (λ f. z ≤ℤ value_of (plus_multiple base (pos 1) f) v) (λ f. (z -ℤ value_of base v) ≤ℤ value_of f v)
          (λ f h. let is = sum_value base f v in omega (arith, ints, is, h)) fs (all_map (λ f. z ≤ℤ value_of f v) (plus_multiple base (pos 1)) fs a)

      moved_holds : (z : ℤ) (fs : List Form) → AllByRecursion (λ f. (z -ℤ value_of base v) ≤ℤ value_of f v) fs → AllByRecursion (λ f. z ≤ℤ value_of f v) (map (plus_multiple base (pos 1)) fs)
      moved_holds z fs a =
          map_all (λ f. z ≤ℤ value_of f v) (plus_multiple base (pos 1)) fs
          (all_weaker (λ f. (z -ℤ value_of base v) ≤ℤ value_of f v) (λ f. z ≤ℤ value_of (plus_multiple base (pos 1) f) v)
          (λ f h. let is = sum_value base f v in omega (arith, ints, is, h)) fs a)

      abbrev first_limits : List Form
      first_limits = map (plus_multiple base (pos 1)) i.own_limits

      -- the limits but the last number
      all_limits : (z : ℤ) → InRun within v z → AllByRecursion (λ f. z ≤ℤ value_of f v) (first_limits ++ all_ends c r o.own_limits)
      all_limits z h = of (has_rest c r.count) h.limits
        where
          of : (b : Bool) → AllByRecursion (λ f. z ≤ℤ value_of f v) (with_last (first_limits ++ all_ends c r o.own_limits) (if b then Some (last_number r) else None)) →
              AllByRecursion (λ f. z ≤ℤ value_of f v) (first_limits ++ all_ends c r o.own_limits)
          of true a = (all_both (λ f. z ≤ℤ value_of f v) (first_limits ++ all_ends c r o.own_limits) (number (last_number r) ∷ []) a).0
          of false a = a

      in_inner : (z : ℤ) → InRun within v z → InRun i v (z -ℤ value_of base v)
      in_inner z h =
          let start = start_value in
          let low = h.low in
          let high = h.high in
          let limits = (all_both (λ f. z ≤ℤ value_of f v) first_limits (all_ends c r o.own_limits) (all_limits z h)).0 in
          record { low = omega (arith, ints, start, low); high = omega (arith, ints, start, high); limits = moved_held z i.own_limits limits }

      falls_so : (z : ℤ) → InRun within v z → (value_of o.start v ≡ block_of c r z) × ((z -ℤ value_of base v) ≡ place_of c r z)
      falls_so z h =
          let k = in_inner z h in
          let low = k.low in
          let first = inner.begins in
          let last = inner.inside (z -ℤ value_of base v) k in
          let is = base_value in
          falls_only c.factor (z -ℤ r.low) (value_of o.start v) (z -ℤ value_of base v) some
          (record { whole = omega (arith, ints, is); from = omega (arith, ints, low, first); below = omega (arith, ints, last) })

      in_outer : (z : ℤ) → InRun within v z → InRun o v (block_of c r z)
      in_outer z h =
          let same = (falls_so z h).0 in
          let limits = (all_both (λ f. z ≤ℤ value_of f v) first_limits (all_ends c r o.own_limits) (all_limits z h)).1 in
          record { low = omega (arith, ints, same); high = omega (arith, ints, same, one); limits = ends_held z o.own_limits limits }

      within_back : (z : ℤ) → r.low ≤ℤ z → z ≤ℤ last_number r → InRun o v (block_of c r z) → InRun i v (place_of c r z) → InRun within v z
      within_back z low last h k =
          let start = start_value in
          let is = base_value in
          let first = h.low in
          let end = h.high in
          let same : value_of o.start v ≡ block_of c r z = omega (arith, ints, first, end, one) in
          let times : pos c.factor *ℤ value_of o.start v ≡ pos c.factor *ℤ block_of c r z = ap (λ t. pos c.factor *ℤ t) same in
          let f = fall c r some z in
          let whole = f.whole in
          let place : place_of c r z ≡ z -ℤ value_of base v = omega (arith, ints, whole, times, is) in
          let from = k.low in
          let to = k.high in
          let limits = subst (λ m. AllByRecursion (λ f. m ≤ℤ value_of f v) i.own_limits) place k.limits in
          record {
            low = omega (arith, ints, start, place, from);
            high = omega (arith, ints, start, place, to);
            limits = uncut_last z (first_limits ++ all_ends c r o.own_limits)
                (both_all (λ f. z ≤ℤ value_of f v) first_limits (all_ends c r o.own_limits) (moved_holds z i.own_limits limits) (ends_hold z o.own_limits h.limits)) last;
          }

      pub within_fits : RunFits v r (λ z. O (block_of c r z) × I (place_of c r z)) within
      within_fits = record {
        begins = (let start = start_value in let is = base_value in let begins = begins_by in let first = inner.begins in omega (arith, ints, start, is, begins, first));
        some = inner.some;
        inside = (λ z h.
            let k = in_outer z h in
            let first = k.low in
            let begins = fits.begins in
            (cut_last z (first_limits ++ all_ends c r o.own_limits) (omega (arith, ints, first, begins)) (fits.inside (block_of c r z) k) h.limits).1);
        owned = (λ z h. (fits.owned (block_of c r z) (in_outer z h), subst I (falls_so z h).1 (inner.owned (z -ℤ value_of base v) (in_inner z h))));
        holds = (λ z low last is.
            let f = fall c r some z in
            let below = f.below in
            within_back z low last (fits.holds (block_of c r z) (block_first c r some z low) (block_here z low last) is.0)
            (inner.holds (place_of c r z) f.from (omega (arith, ints, below)) is.1));
      }

-- ---- a loop, by its splits

pub few_numbers : (n k : ℕ) → n < 4294967296 → blocks n k < 4294967296
few_numbers n k few = of ((n == 0) || (k == 0))
  where
    of : (b : Bool) → (if b then 0 else (n - 1) / k + 1) < 4294967296
    of true = omega arith
    of false = let most = div-le_self (n - 1) k in omega (arith, most, few)

module _ (l : LayText) (v : ℕ → ℤ) (turn : List ℕ → Option ℕ) where
  module _ (c : Split) (cs : List Split) (cut : CutFits l.numbers c) (small : IsSmall (numbers_named l.numbers c.whole)) (O I : ℤ → Type 0) where
    abbrev own : Numbers
    own = numbers_named l.numbers c.whole

    joined_fits : (a b : PartText) → PartFits v (outer_numbers v c own small cut.some cut.few) O a → PartFits v (inner_numbers v c own small cut.some cut.few) I b →
        PartFits v own (λ z. O (block_of c own z) × I (place_of c own z)) (joined l c cs a b)
    joined_fits Whole Whole h k = λ z. (h (block_of c own z), k (place_of c own z))
    joined_fits Whole (Run i) h k = tt
    joined_fits Whole Scattered h k = tt
    joined_fits (Run o) Whole h k = all_fit v c own small cut.some cut.few l cs O I o h k
    joined_fits (Run o) (Run i) h k = of (int_eq o.length (pos 1)) refl
      where
        of : (b : Bool) → int_eq o.length (pos 1) ≡ b → PartFits v own (λ z. O (block_of c own z) × I (place_of c own z)) (if b then Run (within_by l c cs o i own) else Scattered)
        of true e = within_fits v c own small cut.some cut.few l cs O I o h i k ((Decides-int_eq o.length (pos 1)).0 e)
        of false e = tt
    joined_fits (Run o) Scattered h k = tt
    joined_fits Scattered b h k = tt

  -- a loop that is not split is parallel, with a turn for its form's number, or it is not
  pub data Turns (x : List ℕ) : Type 0 where
    still : is_parallel_named l x ≡ false → turn x ≡ None → Turns x
    turned : (f : Form) (n : ℕ) → is_parallel_named l x ≡ true → form_named l.known x ≡ Some f → turn x ≡ Some n → value_of f v ≡ (numbers_named l.numbers x).low +ℤ pos n
        → n < (numbers_named l.numbers x).count → Turns x

  alone_fits : (r : Numbers) (f : Form) (n : ℕ) (o : Option ℕ) → o ≡ Some n → value_of f v ≡ r.low +ℤ pos n → n < r.count → PartFits v r (IsTurn r o) (alone_by (Some f))
  alone_fits r f n o e is below = subst (λ q. PartFits v r (IsTurn r q) (alone_by (Some f))) (sym e) (record {
    begins = omega (arith, ints, is);
    some = omega (arith, ints);
    inside = (λ z h. let high = h.high in omega (arith, ints, high, is, below));
    owned = (λ z h. let low = h.low in let high = h.high in omega (arith, ints, high, low, is));
    holds = (λ z low last same. record { low = omega (arith, ints, same, is); high = omega (arith, ints, same, is); limits = tt });
  })

  uncut_fits : (x : List ℕ) → Turns x → PartFits v (numbers_named l.numbers x) (IsTurn (numbers_named l.numbers x) (turn x)) (uncut l x)
  uncut_fits x (still e none) = subst (λ b. PartFits v (numbers_named l.numbers x) (IsTurn (numbers_named l.numbers x) (turn x)) (if b then alone_by (form_named l.known x) else Whole)) (sym e)
      (subst (λ q. (z : ℤ) → IsTurn (numbers_named l.numbers x) q z) (sym none) (λ z. tt))
  uncut_fits x (turned f n e found is value below) =
      subst (λ b. PartFits v (numbers_named l.numbers x) (IsTurn (numbers_named l.numbers x) (turn x)) (if b then alone_by (form_named l.known x) else Whole)) (sym e)
      (subst (λ q. PartFits v (numbers_named l.numbers x) (IsTurn (numbers_named l.numbers x) (turn x)) (alone_by q)) (sym found)
      (alone_fits (numbers_named l.numbers x) f n (turn x) is value below))

  pub part_fits : ((x : List ℕ) → Turns x) → (cs : List Split) → AllByRecursion (CutFits l.numbers) cs → (x : List ℕ) → IsSmall (numbers_named l.numbers x) →
      PartFits v (numbers_named l.numbers x) (Belongs l.numbers turn cs x) (part_of l x cs)
  part_fits turns [] a x small = uncut_fits x (turns x)
  part_fits turns (c ∷ cs) a x small = of (same_name c.whole x) refl (λ y s. part_fits turns cs a.1 y s)
    where
      of : (b : Bool) → same_name c.whole x ≡ b →
          ((y : List ℕ) → IsSmall (numbers_named l.numbers y) → PartFits v (numbers_named l.numbers y) (Belongs l.numbers turn cs y) (part_of l y cs)) → PartFits v (numbers_named l.numbers x)
          (λ z. EitherBy b (Belongs l.numbers turn cs c.outer (block_of c (numbers_named l.numbers c.whole) z) × Belongs l.numbers turn cs c.inner (place_of c (numbers_named l.numbers c.whole) z))
          (Belongs l.numbers turn cs x z))
          (if b then joined l c cs (part_of l c.outer cs) (part_of l c.inner cs) else part_of l x cs)
      of false e rest = rest x small
      of true e rest =
          let cut = a.0 in
          let same : numbers_named l.numbers c.whole ≡ numbers_named l.numbers x = ap (numbers_named l.numbers) (same_name_is c.whole x e) in
          let few = small.few in
          let here : IsSmall (numbers_named l.numbers c.whole) = subst IsSmall (sym same) small in
          let few_here = here.few in
          let outer : IsSmall (numbers_named l.numbers c.outer) = subst IsSmall (sym cut.outer) (record {
            from = omega (arith, ints);
            to = omega (arith, ints);
            few = few_numbers (numbers_named l.numbers c.whole).count c.factor few_here;
          }) in
          let short = cut.few in
          let inner : IsSmall (numbers_named l.numbers c.inner) = subst IsSmall (sym cut.inner) (record { from = omega (arith, ints); to = omega (arith, ints); few = omega (arith, short) }) in
          let O = Belongs l.numbers turn cs c.outer in
          let I = Belongs l.numbers turn cs c.inner in
          let first = subst (λ r. PartFits v r O (part_of l c.outer cs)) cut.outer (rest c.outer outer) in
          let second = subst (λ r. PartFits v r I (part_of l c.inner cs)) cut.inner (rest c.inner inner) in
          let P : ℤ → Type 0 = λ z. O (block_of c (numbers_named l.numbers c.whole) z) × I (place_of c (numbers_named l.numbers c.whole) z) in
          subst (λ r. PartFits v r P (joined l c cs (part_of l c.outer cs) (part_of l c.inner cs))) same (joined_fits c cs cut here O I (part_of l c.outer cs) (part_of l c.inner cs) first second)
