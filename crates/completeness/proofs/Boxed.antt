-- The pieces that a need line names are pieces of the needed group.
use Rattle.std.proofs.Common.{◌≡◌, ℕ, zero, suc, ◌+◌, ◌-◌, ◌<◌, ◌≤◌, Bool, true, false, ◌&&◌, ◌||◌, List, [], ◌∷◌, ◌++◌, length, get_or, Option, Some, None, refl, sym, ap, ◌∙◌, subst, arith}
use Rattle.std.specs.Prelude.{ℤ, pos, negsuc, ◌+ℤ◌, ◌-ℤ◌, ◌*ℤ◌, ◌≤ℤ◌, ◌<ℤ◌, ◌/◌, ◌%◌, ◌==◌, int_le, if◌then◌else◌, slice_get}
use Rattle.std.specs.List.{AllByRecursion}
use Rattle.std.proofs.lemmas.Int.{ints}
use Rattle.std.proofs.lemmas.Bool.Decides.{nat_tests}
use Rattle.std.proofs.Math.Nat.{div-add-mod, mod-lt}
use Rattle.std.proofs.lemmas.Option.{get_or_from_slice_get, slice_get_within}
use Rattle.numeric.specs.Apply.{quotient}
use Rattle.lin.specs.Forms.{Form, number, value_of}
use Rattle.lin.specs.Spans.{IsInSpan, IsInRegion}
use Rattle.lin.specs.declared.span.Span1.{Span1}
use Rattle.bounds.specs.Spans.{numbers}
use Rattle.soundness.proofs.Refines.{name_true}
use Rattle.meaning.specs.Names.{same_name}
use Rattle.sched.specs.declared.schedule.Split.{Split}
use Rattle.sched.specs.declared.placing.Loop.{Loop}
use Rattle.sched.specs.declared.numbers.Extent.{Extent}
use Rattle.sched.specs.declared.numbers.Numbers.{Numbers}
use Rattle.sched.specs.Placing.{is_parallel}
use Rattle.sched.specs.Numbers.{blocks, numbers_named, loop_numbers, parallel_loops, grid_counts, or_one}
use Rattle.sched.specs.Skeleton.{SkeletonText}
use Rattle.sched.specs.Standing.{◌>>=◌}
use Rattle.shares.specs.Boxes.{grid_sides, is_in_side, is_in_box}
use Rattle.sched.specs.Stored.{StoredText}
use Rattle.sched.specs.Blocks.{factor_of}
use Rattle.regions.specs.Needs.{block_at, add_blocks, blocks_over, split_length, length_of, first_count, other_counts, or_all_turns, length_at, low_at, turns_over, turns_found}
use Rattle.regions.specs.Needs.{turns_needed, loops_needed, or_one_piece, pieces_needed}
use Rattle.lower.specs.Owning.{IsExtent, IsLaidBy}
use Rattle.headline.proofs.Members.{got}
use Rattle.blocks.proofs.Laying.{bound, same}
use Rattle.lower.proofs.Dividing.{falls_only}
use Rattle.lower.proofs.Blocking.{one_time, CutFits}
use Rattle.lower.proofs.Directed.{IsLeaf}
use Rattle.lower.proofs.Covering.{NumbersAre}
use Rattle.lower.proofs.Needed.{block_value, quotient_order}
use Rattle.lower.proofs.Owners as owners
use Rattle.lower.proofs.Gridded.{IsBetween, AreBetween}

-- ---- boxes

-- each coordinate is a number of its side
abbrev pub IsInBox : List ℕ → List ℤ → Type 0
IsInBox [] [] = Unit {0}
IsInBox [] (z ∷ zs) = ⊥
IsInBox (n ∷ ns) [] = ⊥
IsInBox (n ∷ ns) (z ∷ zs) = (pos 0 ≤ℤ z) × (z <ℤ pos n) × IsInBox ns zs

at_most : (y z : ℤ) → y ≤ℤ z → int_le y z ≡ true
at_most y z h = grind (arith, ints)

pub tests_box : (ns : List ℕ) (zs : List ℤ) → IsInBox ns zs → is_in_box (grid_sides ns) zs ≡ true
tests_box [] [] h = refl
tests_box [] (z ∷ zs) h = absurd h
tests_box (n ∷ ns) [] h = absurd h
tests_box (n ∷ ns) (z ∷ zs) h =
    let from = h.0 in
    let to = h.1 in
    let low : int_le (pos 0) z ≡ true = at_most (pos 0) z from in
    let high : int_le (z +ℤ pos 1) (pos 0 +ℤ pos n) ≡ true = at_most (z +ℤ pos 1) (pos 0 +ℤ pos n) (omega (arith, ints, to)) in
    let both : is_in_side (record { low = pos 0; count = n }) z ≡ true = rw low high in
    rw both (tests_box ns zs h.2)

-- ---- how many turns a loop has

record IsCounted (count_x count_y : ℕ) (len : ℤ) : Type 0 where
  n : ℕ
  some : 0 < n
  is : len ≡ pos n
  fits : (z : ℤ) → z ≤ℤ quotient (pos count_x -ℤ pos 1) (pos n) → z <ℤ pos count_y

blocks_are : (c n : ℕ) → 0 < c → 0 < n → blocks c n ≡ (c - 1) / n + 1
blocks_are c n some above =
    let one : (c == 0) ≡ false = grind (arith, nat_tests) in
    let two : (n == 0) ≡ false = grind (arith, nat_tests) in
    ap (λ (b : Bool). if b then 0 else (c - 1) / n + 1) ((λ i. one i || two i))

quotient_is : (m n : ℕ) → 0 < n → quotient (pos m) (pos n) ≡ pos (m / n)
quotient_is m n above =
    let whole = div-add-mod m n in
    let below = mod-lt m above in
    let times : pos n *ℤ pos (m / n) +ℤ pos (m % n) ≡ pos m = ap pos whole in
    sym (falls_only n (pos m) (pos (m / n)) (pos (m % n)) above (record { whole = sym times; from = omega (arith, ints); below = omega (arith, ints, below) })).0

module _ (rs : List Numbers) (x y : List ℕ) (some_x : 0 < (numbers_named rs x).count) where
  split_counted : (cs : List Split) (len : ℤ) → AllByRecursion (CutFits rs) cs → split_length x y cs ≡ Some len → IsCounted (numbers_named rs x).count (numbers_named rs y).count len
  split_counted [] len a e = absurd (cc e)
  split_counted (c ∷ cs) len a e = of (same_name c.outer y) (same_name c.whole x) refl refl e (split_counted cs len a.1)
    where
      here : same_name c.outer y ≡ true → same_name c.whole x ≡ true → IsCounted (numbers_named rs x).count (numbers_named rs y).count (pos c.factor)
      here o w =
          let fits = a.0 in
          let outer = name_true c.outer y o in
          let inner = name_true c.whole x w in
          let count : (numbers_named rs y).count ≡ blocks (numbers_named rs x).count c.factor =
          ap (λ (z : List ℕ). (numbers_named rs z).count) (sym outer) ∙ ap (λ (r : Numbers). r.count) fits.outer ∙ ap (λ (z : List ℕ). blocks (numbers_named rs z).count c.factor) inner in
          let is = count ∙ blocks_are (numbers_named rs x).count c.factor some_x fits.some in
          let m = (numbers_named rs x).count - 1 in
          let last : pos (numbers_named rs x).count -ℤ pos 1 ≡ pos m = omega (arith, ints, some_x) in
          let divided = ap (λ (z : ℤ). quotient z (pos c.factor)) last ∙ quotient_is m c.factor fits.some in
          record { n = c.factor; some = fits.some; is = refl; fits = λ z le. omega (arith, ints, le, divided, is) }

      of : (b d : Bool) → same_name c.outer y ≡ b → same_name c.whole x ≡ d → (if b && d then Some (factor_of c) else split_length x y cs) ≡ Some len →
          (split_length x y cs ≡ Some len → IsCounted (numbers_named rs x).count (numbers_named rs y).count len) → IsCounted (numbers_named rs x).count (numbers_named rs y).count len
      of true true o w k rest = (let one : pos c.factor ≡ len = cc k in subst (IsCounted (numbers_named rs x).count (numbers_named rs y).count) one (here o w))
      of true false o w k rest = rest k
      of false d o w k rest = rest k

  turns_counted : (cs : List Split) (len : ℤ) → AllByRecursion (CutFits rs) cs → length_of x y cs ≡ Some len → IsCounted (numbers_named rs x).count (numbers_named rs y).count len
  turns_counted cs len a e = of (same_name y x) refl e
    where
      of : (b : Bool) → same_name y x ≡ b → (if b then Some (pos 1) else split_length x y cs) ≡ Some len → IsCounted (numbers_named rs x).count (numbers_named rs y).count len
      of true i k =
          let one : pos 1 ≡ len = cc k in
          let count : (numbers_named rs y).count ≡ (numbers_named rs x).count = ap (λ (z : List ℕ). (numbers_named rs z).count) (name_true y x i) in
          let last = pos (numbers_named rs x).count -ℤ pos 1 in
          let once = one_time last in
          let alone : last ≡ quotient last (pos 1) =
          (falls_only 1 last last (pos 0) (omega arith) (record { whole = omega (arith, ints, once); from = omega (arith, ints); below = omega (arith, ints) })).0 in
          record { n = 1; some = omega arith; is = sym one; fits = λ z le. omega (arith, ints, le, alone, count) }
      of false i k = split_counted cs len a k

-- ---- blocks of forms

record HasBlock (low n : ℤ) (f : Form) (bs : List Form) : Type 0 where
  block : Form
  place : ℕ
  is : block_at low n f ≡ Some block
  at : slice_get bs place ≡ Some block

-- blocks stay where others are added
record Keeps (before bs : List Form) : Type 0 where
  keeps : (i : ℕ) (b : Form) → slice_get before i ≡ Some b → slice_get bs i ≡ Some b

longer : (xs ys : List Form) (i : ℕ) (b : Form) → slice_get xs i ≡ Some b → slice_get (xs ++ ys) i ≡ Some b
longer [] ys i b e = absurd (cc e)
longer (x ∷ xs) ys zero b e = e
longer (x ∷ xs) ys (suc i) b e = longer xs ys i b e

last_of : (xs : List Form) (b : Form) → slice_get (xs ++ b ∷ []) (length xs) ≡ Some b
last_of [] b = refl
last_of (x ∷ xs) b = last_of xs b

module _ (low n : ℤ) where
  added_keep : (before fs bs : List Form) → add_blocks low n before fs ≡ Some bs → Keeps before bs
  added_keep before [] bs e = subst (Keeps before) (same before bs e) (record { keeps = λ i b h. h })
  added_keep before (f ∷ fs) bs e =
      let b = bound (block_at low n f) (λ b. add_blocks low n (before ++ b ∷ []) fs) bs e in
      let rest = added_keep (before ++ b.value ∷ []) fs bs b.comes in
      record { keeps = λ i c h. rest.keeps i c (longer before (b.value ∷ []) i c h) }

  block_there : (before fs bs : List Form) → add_blocks low n before fs ≡ Some bs → (i : ℕ) (f : Form) → slice_get fs i ≡ Some f → HasBlock low n f bs
  block_there before [] bs e i f at = absurd (cc at)
  block_there before (g ∷ fs) bs e zero f at =
      let b = bound (block_at low n g) (λ b. add_blocks low n (before ++ b ∷ []) fs) bs e in
      let rest = added_keep (before ++ b.value ∷ []) fs bs b.comes in
      let one : g ≡ f = cc at in
      record { block = b.value; place = length before; is = ap (block_at low n) (sym one) ∙ b.is; at = rest.keeps (length before) b.value (last_of before b.value) }
  block_there before (g ∷ fs) bs e (suc i) f at =
      let b = bound (block_at low n g) (λ b. add_blocks low n (before ++ b ∷ []) fs) bs e in
      block_there (before ++ b.value ∷ []) fs bs b.comes i f at

got_all : (P : Form → Type 0) (fs : List Form) (i : ℕ) (f : Form) → ((k : ℕ) (d : Form) → k < length fs → P (get_or fs k d)) → slice_get fs i ≡ Some f → P f
got_all P fs i f h e = subst P (get_or_from_slice_get fs i f f e) (h i f (slice_get_within fs i f e))

-- ---- a loop

module _ (n : ℕ) (above : 0 < n) (v : ℕ → ℤ) (low : ℤ) (from : negsuc 2147483647 ≤ℤ low) (to : low ≤ℤ pos 2147483647) where
  number_block : (z : ℤ) (bs : List Form) (h : HasBlock low (pos n) (number z) bs) → value_of h.block v ≡ quotient (z -ℤ low) (pos n)
  number_block z bs h =
      let value : value_of (number z) v ≡ z = omega (arith, ints) in
      block_value n above v low from to (number z) h.block h.is ∙ ap (λ (y : ℤ). quotient (y -ℤ low) (pos n)) value

  none_falls : pos 0 ≡ quotient (pos 0) (pos n)
  none_falls = (falls_only n (pos 0) (pos 0) (pos 0) above (record { whole = omega (arith, ints); from = omega (arith, ints); below = omega (arith, ints, above) })).0

  within_blocks : (e : Extent) (t s : Span1) (z : ℤ) → e.low ≡ low → IsBetween e t → blocks_over low (pos n) t ≡ Some s → IsInSpan s v z →
      (pos 0 ≤ℤ z) × (z ≤ℤ quotient (pos e.count -ℤ pos 1) (pos n))
  within_blocks e t s z same_low between over lies =
      let b = bound (add_blocks low (pos n) [] t.lower) (λ ls. add_blocks low (pos n) [] t.upper >>= λ us. Some (record { lower = ls; upper = us })) s over in
      let c = bound (add_blocks low (pos n) [] t.upper) (λ us. Some (record { lower = b.value; upper = us })) s b.comes in
      let made : record { lower = b.value; upper = c.value } ≡ s = same (record { lower = b.value; upper = c.value }) s c.comes in
      let inside : IsInSpan (record { lower = b.value; upper = c.value }) v z = subst (λ (u : Span1). IsInSpan u v z) (sym made) lies in
      let one = block_there low (pos n) [] t.lower b.value b.is between.from.place (number between.low) between.from.at in
      let two = block_there low (pos n) [] t.upper c.value c.is between.to.place (number between.high) between.to.at in
      let first : value_of one.block v ≤ℤ z = got_all (λ f. value_of f v ≤ℤ z) b.value one.place one.block inside.0 one.at in
      let last : z ≤ℤ value_of two.block v = got_all (λ f. z ≤ℤ value_of f v) c.value two.place two.block inside.1 two.at in
      let first_is = number_block between.low b.value one in
      let last_is = number_block between.high c.value two in
      let up = between.above in
      let down = between.below in
      let none = none_falls in
      let least = quotient_order n above v (pos 0) (between.low -ℤ low) (omega (arith, ints, up, same_low)) in
      let most = quotient_order n above v (between.high -ℤ low) (pos e.count -ℤ pos 1) (omega (arith, ints, down, same_low)) in
      (omega (arith, ints, first, first_is, least, none), omega (arith, ints, last, last_is, most))

-- ---- all loops

record AtDimension (rs : List Numbers) (es : List Extent) (ts : List Span1) (d : ℕ) (x : List ℕ) (e : Extent) (t : Span1) : Type 0 where
  numbers_are : numbers_named rs x ≡ record { name = x; low = e.low; count = e.count }
  between : IsBetween e t

at_dimension : (rs : List Numbers) (xs : List (List ℕ)) (es : List Extent) (ts : List Span1) → NumbersAre rs xs es → AreBetween es ts → (d : ℕ) (x : List ℕ) (e : Extent) (t : Span1) →
    slice_get xs d ≡ Some x → slice_get es d ≡ Some e → slice_get ts d ≡ Some t → AtDimension rs es ts d x e t
at_dimension rs [] es ts n b d x e t p q r = absurd (cc p)
at_dimension rs (w ∷ xs) [] ts n b d x e t p q r = absurd (cc q)
at_dimension rs (w ∷ xs) (g ∷ es) [] n b d x e t p q r = absurd (cc r)
at_dimension rs (w ∷ xs) (g ∷ es) (u ∷ ts) n b zero x e t p q r =
    let one : w ≡ x = cc p in
    let two : g ≡ e = cc q in
    let three : u ≡ t = cc r in
    record {
      numbers_are = ap (numbers_named rs) (sym one) ∙ n.0 ∙ (λ i. record { name = one i; low = (two i).low; count = (two i).count });
      between = subst (λ (s : Span1). IsBetween e s) three (subst (λ (f : Extent). IsBetween f u) two b.0);
    }
at_dimension rs (w ∷ xs) (g ∷ es) (u ∷ ts) n b (suc d) x e t p q r =
    let k = at_dimension rs xs es ts n.1 b.1 d x e t p q r in
    record { numbers_are = k.numbers_are; between = k.between }

module _ (g : StoredText) (region : List Extent) (k : SkeletonText) (h : IsLaidBy g region k) (taken : List Span1) (between : AreBetween region taken) (v : ℕ → ℤ) where
  abbrev rs : List Numbers
  rs = loop_numbers g.subject.variables g.placed.cuts region

  turn_found : (l : Loop) → IsLeaf g.subject.variables g.placed.cuts l → (s : Span1) (z : ℤ) → turns_found g region taken l ≡ Some s → IsInSpan s v z →
      (pos 0 ≤ℤ z) × (z <ℤ pos (numbers_named rs l.name).count)
  turn_found l leaf s z found lies =
      let b = bound (length_at g l) (λ n. low_at region l >>= λ low. turns_over taken l.dimension low n) s found in
      let c = bound (low_at region l) (λ low. turns_over taken l.dimension low b.value) s b.comes in
      let d = bound (slice_get taken l.dimension) (λ t. blocks_over c.value b.value t) s c.comes in
      let e = bound (slice_get region l.dimension) (λ e. Some e.low) c.value c.is in
      let f = bound (slice_get g.subject.variables l.dimension) (λ x. length_of x l.name g.placed.cuts) b.value b.is in
      let x = f.value in
      let at = at_dimension rs g.subject.variables region taken (owners.numbers g region k h) between l.dimension x e.value d.value f.is e.is d.is in
      let low_is : e.value.low ≡ c.value = same e.value.low c.value e.comes in
      let extent = got IsExtent region l.dimension e.value h.extents e.is in
      let count_x : (numbers_named rs x).count ≡ e.value.count = ap (λ (r : Numbers). r.count) at.numbers_are in
      let some_x : 0 < (numbers_named rs x).count = (let some = extent.some in omega (arith, count_x, some)) in
      let counted = turns_counted rs x l.name some_x g.placed.cuts b.value (owners.cuts g region k h) f.comes in
      let over : blocks_over c.value (pos counted.n) d.value ≡ Some s = ap (λ (n : ℤ). blocks_over c.value n d.value) (sym counted.is) ∙ d.comes in
      let from = extent.from in
      let to = extent.to in
      let inside = within_blocks counted.n counted.some v c.value (omega (arith, ints, from, low_is)) (omega (arith, ints, to, low_is)) e.value d.value s z low_is at.between over lies in
      let most : z ≤ℤ quotient (pos (numbers_named rs x).count -ℤ pos 1) (pos counted.n) = subst (λ (n : ℕ). z ≤ℤ quotient (pos n -ℤ pos 1) (pos counted.n)) (sym count_x) inside.1 in
      (inside.0, counted.fits z most)

  turn_needed : (l : Loop) → IsLeaf g.subject.variables g.placed.cuts l → (z : ℤ) → IsInSpan (turns_needed g region taken l (numbers_named rs l.name).count) v z →
      (pos 0 ≤ℤ z) × (z <ℤ pos (numbers_named rs l.name).count)
  turn_needed l leaf z lies = of (turns_found g region taken l) refl lies
    where
      of : (o : Option Span1) → turns_found g region taken l ≡ o → IsInSpan (or_all_turns (numbers_named rs l.name).count o) v z → (pos 0 ≤ℤ z) × (z <ℤ pos (numbers_named rs l.name).count)
      of None e q =
          let first : value_of (number (pos 0)) v ≤ℤ z = q.0 0 (number (pos 0)) (omega arith) in
          let last : z ≤ℤ value_of (number (pos (numbers_named rs l.name).count -ℤ pos 1)) v = q.1 0 (number (pos (numbers_named rs l.name).count -ℤ pos 1)) (omega arith) in
          (omega (arith, ints, first), omega (arith, ints, last))
      of (Some s) e q = turn_found l leaf s z e q

  abbrev behind : Loop → List Loop → Bool → List Loop
  behind l ls b = if b then l ∷ parallel_loops ls else parallel_loops ls

  loops_boxed : (ls : List Loop) → AllByRecursion (IsLeaf g.subject.variables g.placed.cuts) (parallel_loops ls) → (zs : List ℤ) →
      IsInRegion (loops_needed g region taken ls (grid_counts rs (parallel_loops ls))) v zs → IsInBox (grid_counts rs (parallel_loops ls)) zs
  loops_boxed [] a [] q = tt
  loops_boxed [] a (z ∷ zs) q = absurd q
  loops_boxed (l ∷ ls) a zs q = of (is_parallel l) a zs q (loops_boxed ls)
    where
      of : (b : Bool) → AllByRecursion (IsLeaf g.subject.variables g.placed.cuts) (behind l ls b) → (zs : List ℤ) →
          IsInRegion (if b then turns_needed g region taken l (first_count (grid_counts rs (behind l ls b))) ∷ loops_needed g region taken ls (other_counts (grid_counts rs (behind l ls b)))
          else loops_needed g region taken ls (grid_counts rs (behind l ls b))) v zs →
          (AllByRecursion (IsLeaf g.subject.variables g.placed.cuts) (parallel_loops ls) → (zs : List ℤ) → IsInRegion (loops_needed g region taken ls (grid_counts rs (parallel_loops ls))) v zs →
          IsInBox (grid_counts rs (parallel_loops ls)) zs) → IsInBox (grid_counts rs (behind l ls b)) zs
      of true a [] q rest = absurd q
      of true a (z ∷ zs) q rest = let t = turn_needed l a.0 z q.0 in (t.0, t.1, rest a.1 zs q.1)
      of false a zs q rest = rest a zs q

  none_needed : (ls : List Loop) (ns : List ℕ) → [] ≡ parallel_loops ls → loops_needed g region taken ls ns ≡ []
  none_needed [] ns e = refl
  none_needed (l ∷ ls) ns e = of (is_parallel l) e (none_needed ls ns)
    where
      of : (b : Bool) → [] ≡ (if b then l ∷ parallel_loops ls else parallel_loops ls) → ([] ≡ parallel_loops ls → loops_needed g region taken ls ns ≡ []) →
          (if b then turns_needed g region taken l (first_count ns) ∷ loops_needed g region taken ls (other_counts ns) else loops_needed g region taken ls ns) ≡ []
      of true q rest = absurd (cc q)
      of false q rest = rest q

  one_boxed : (zs : List ℤ) → IsInRegion (numbers (pos 0) (pos 0) ∷ []) v zs → IsInBox (1 ∷ []) zs
  one_boxed [] q = absurd q
  one_boxed (z ∷ []) q =
      let first : value_of (number (pos 0)) v ≤ℤ z = q.0.0 0 (number (pos 0)) (omega arith) in
      let last : z ≤ℤ value_of (number (pos 0)) v = q.0.1 0 (number (pos 0)) (omega arith) in
      (omega (arith, ints, first), omega (arith, ints, last), tt)
  one_boxed (z ∷ y ∷ zs) q = absurd q.1

  pub needs_boxed : (zs : List ℤ) → IsInRegion (pieces_needed g region k.grid taken) v zs → IsInBox k.grid zs
  needs_boxed zs q = of (parallel_loops g.placed.loops) refl
    where
      leaves : AllByRecursion (IsLeaf g.subject.variables g.placed.cuts) (parallel_loops g.placed.loops)
      leaves = owners.leaves g region k h

      grid : k.grid ≡ or_one (grid_counts rs (parallel_loops g.placed.loops))
      grid = (owners.head g region k h).grid

      here : IsInRegion (or_one_piece (loops_needed g region taken g.placed.loops (or_one (grid_counts rs (parallel_loops g.placed.loops))))) v zs
      here = subst (λ (ns : List ℕ). IsInRegion (or_one_piece (loops_needed g region taken g.placed.loops ns)) v zs) grid q

      some : (o : List Span1) (ns : List ℕ) → (IsInRegion o v zs → IsInBox ns zs) → 1 ≤ length ns → IsInRegion (or_one_piece o) v zs → (o ≡ [] → ⊥) → IsInBox ns zs
      some [] ns f le r not = absurd (not refl)
      some (s ∷ ss) ns f le r not = f r

      of : (ls : List Loop) → parallel_loops g.placed.loops ≡ ls → IsInBox k.grid zs
      of [] e =
          let alone : loops_needed g region taken g.placed.loops (or_one (grid_counts rs (parallel_loops g.placed.loops))) ≡ [] =
          none_needed g.placed.loops (or_one (grid_counts rs (parallel_loops g.placed.loops))) (sym e) in
          let boxed : IsInBox (1 ∷ []) zs = one_boxed zs (subst (λ (o : List Span1). IsInRegion (or_one_piece o) v zs) alone here) in
          let one : k.grid ≡ 1 ∷ [] = grid ∙ ap (λ (ls : List Loop). or_one (grid_counts rs ls)) e in
          subst (λ (ns : List ℕ). IsInBox ns zs) (sym one) boxed
      of (l ∷ ls) e =
          let counts : or_one (grid_counts rs (parallel_loops g.placed.loops)) ≡ grid_counts rs (parallel_loops g.placed.loops) =
          ap (λ (ls : List Loop). or_one (grid_counts rs ls)) e ∙ sym (ap (λ (ls : List Loop). grid_counts rs ls) e) in
          let there : IsInRegion (or_one_piece (loops_needed g region taken g.placed.loops (grid_counts rs (parallel_loops g.placed.loops)))) v zs =
          subst (λ (ns : List ℕ). IsInRegion (or_one_piece (loops_needed g region taken g.placed.loops ns)) v zs) counts here in
          let boxed = some (loops_needed g region taken g.placed.loops (grid_counts rs (parallel_loops g.placed.loops))) (grid_counts rs (parallel_loops g.placed.loops))
          (loops_boxed g.placed.loops leaves zs) (longest e) there (some_needed g.placed.loops (grid_counts rs (parallel_loops g.placed.loops)) e) in
          subst (λ (ns : List ℕ). IsInBox ns zs) (sym (grid ∙ counts)) boxed
        where
          longest : parallel_loops g.placed.loops ≡ l ∷ ls → 1 ≤ length (grid_counts rs (parallel_loops g.placed.loops))
          longest q = subst (λ (ms : List Loop). 1 ≤ length (grid_counts rs ms)) (sym q) (omega arith)

          some_needed : (ms : List Loop) (ns : List ℕ) → parallel_loops ms ≡ l ∷ ls → loops_needed g region taken ms ns ≡ [] → ⊥
          some_needed [] ns q r = cc q
          some_needed (m ∷ ms) ns q r = case (is_parallel m) q r (some_needed ms ns)
            where
              case : (b : Bool) → (if b then m ∷ parallel_loops ms else parallel_loops ms) ≡ l ∷ ls →
                  (if b then turns_needed g region taken m (first_count ns) ∷ loops_needed g region taken ms (other_counts ns) else loops_needed g region taken ms ns) ≡ [] →
                  (parallel_loops ms ≡ l ∷ ls → loops_needed g region taken ms ns ≡ [] → ⊥) → ⊥
              case true u w rest = cc w
              case false u w rest = rest u w
