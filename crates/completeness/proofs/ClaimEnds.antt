-- Where claims speak of all of a loop's numbers, they go at least as far as the loop.
use Rattle.std.proofs.Common.{◌≡◌, ℕ, ◌+◌, ◌-◌, ◌<◌, ◌≤◌, Bool, true, false, List, [], ◌∷◌, refl, sym, ap, subst, arith}
use Rattle.std.specs.Prelude.{ℤ, pos, ◌+ℤ◌, ◌-ℤ◌, ◌*ℤ◌, ◌≤ℤ◌, ◌/◌, ◌==◌, ◌||◌, if◌then◌else◌}
use Rattle.std.specs.List.{AllByRecursion}
use Rattle.std.proofs.lemmas.Bool.Decides.{nat_tests}
use Rattle.std.proofs.lemmas.Int.{ints}
use Rattle.meaning.specs.Names.{same_name}
use Rattle.soundness.proofs.Refines.{name_true}
use Rattle.sched.specs.declared.schedule.Split.{Split}
use Rattle.sched.specs.declared.schedule.Tail.{Tail}
use Rattle.sched.specs.declared.schedule.Tail.TheVariants.{Guard, Roundup, Shift}
use Rattle.sched.specs.declared.numbers.Numbers.{Numbers}
use Rattle.sched.specs.Numbers.{blocks, numbers_named, last_number}
use Rattle.blocks.specs.Blocks.{sum, product, stepped, split_claim_end, claim_end_of}
use Rattle.sched.specs.Blocks.{difference, factor_of}
use Rattle.lower.specs.Owning.{block_of, place_of}
use Rattle.lower.proofs.Dividing.{last_above, nearest, nearest_of_small, nearest_order}
use Rattle.lower.proofs.Blocking.{IsSmall, CutFits, fall, block_last, few_numbers}

-- some numbers of 32 bits
pub record AreSome (r : Numbers) : Type 0 where
  pub small : IsSmall r
  pub some : 0 < r.count

module _ (c : Split) (r : Numbers) (are : AreSome r) (some : 0 < c.factor) (short : c.factor ≤ 1024) where
  -- the blocks that the outer loop visits reach the last number
  reach : (outer inner : ℤ) → (pos (blocks r.count c.factor) -ℤ pos 1) ≤ℤ outer → (pos c.factor -ℤ pos 1) ≤ℤ inner → last_number r ≤ℤ sum (stepped r.low (factor_of c) outer) inner
  reach outer inner ho hi =
      let from = are.small.from in
      let to = are.small.to in
      let few = are.small.few in
      let count = are.some in
      let last = last_number r in
      let low : r.low ≤ℤ last = omega (arith, ints, count) in
      let block = block_last c r some last low (omega (arith, ints)) in
      let above = last_above c.factor (last -ℤ r.low) (block_of c r last) (place_of c r last) (fall c r some last) outer (omega (arith, ints, block, ho)) in
      let y : ℤ = pos r.count -ℤ pos c.factor in
      let times : y ≤ℤ (pos c.factor *ℤ outer) = omega (arith, ints, above) in
      let one : nearest y ≤ℤ product (factor_of c) outer = nearest_order y (pos c.factor *ℤ outer) times in
      let one_is : nearest y ≡ y = nearest_of_small y (omega (arith, ints, short)) (omega (arith, ints, few)) in
      let z : ℤ = r.low +ℤ y in
      let two : nearest z ≤ℤ stepped r.low (factor_of c) outer = nearest_order z (r.low +ℤ product (factor_of c) outer) (omega (arith, ints, one, one_is)) in
      let two_is : nearest z ≡ z = nearest_of_small z (omega (arith, ints, short, from)) (omega (arith, ints, few, to)) in
      let three : nearest last ≤ℤ sum (stepped r.low (factor_of c) outer) inner =
      nearest_order last (stepped r.low (factor_of c) outer +ℤ inner) (omega (arith, ints, two, two_is, hi)) in
      let three_is : nearest last ≡ last = nearest_of_small last (omega (arith, ints, from)) (omega (arith, ints, few, to)) in
      omega (arith, ints, three, three_is)

  full : difference (factor_of c) (pos 1) ≡ pos c.factor -ℤ pos 1
  full = nearest_of_small (pos c.factor -ℤ pos 1) (omega (arith, ints, some)) (omega (arith, ints, short))

  claim_reaches : (outer : ℤ) → (pos (blocks r.count c.factor) -ℤ pos 1) ≤ℤ outer → last_number r ≤ℤ split_claim_end c r outer
  unfolding split_claim_end
  claim_reaches outer ho = of c.tail
    where
      of : (t : Tail) → last_number r ≤ℤ (elim t [
        | Guard ↦ last_number r
        | Roundup ↦ sum (stepped r.low (factor_of c) outer) (difference (factor_of c) (pos 1))
        | Shift ↦ last_number r
      ])
      of Guard = omega (arith, ints)
      of Roundup = (let whole = full in reach outer (difference (factor_of c) (pos 1)) ho (omega (arith, ints, whole)))
      of Shift = omega (arith, ints)

some_blocks : (n k : ℕ) → 0 < n → 0 < k → 0 < blocks n k
some_blocks n k some above =
    let one : (n == 0) ≡ false = grind (arith, nat_tests) in
    let two : (k == 0) ≡ false = grind (arith, nat_tests) in
    subst (λ (b : Bool). 0 < (if b then 0 else (n - 1) / k + 1)) (sym (λ i. one i || two i)) (omega arith)

module _ (rs : List Numbers) where
  abbrev last_named : List ℕ → ℤ
  last_named x = last_number (numbers_named rs x)

  -- the outer loop of a split
  outer_are : (c : Split) → CutFits rs c → AreSome (numbers_named rs c.whole) → AreSome (numbers_named rs c.outer)
  outer_are c cut are =
      let few = are.small.few in
      subst AreSome (sym cut.outer) (record {
        small = record { from = omega (arith, ints); to = omega (arith, ints); few = few_numbers (numbers_named rs c.whole).count c.factor few };
        some = some_blocks (numbers_named rs c.whole).count c.factor are.some cut.some;
      })

  outer_last : (c : Split) → CutFits rs c → (z : ℤ) → last_named c.outer ≤ℤ z → (pos (blocks (numbers_named rs c.whole).count c.factor) -ℤ pos 1) ≤ℤ z
  outer_last c cut z h =
      let is : last_named c.outer ≡ pos 0 +ℤ pos (blocks (numbers_named rs c.whole).count c.factor) -ℤ pos 1 = ap last_number cut.outer in
      omega (arith, ints, h, is)

  pub claim_end_least : (cs : List Split) → AllByRecursion (CutFits rs) cs → (x : List ℕ) → AreSome (numbers_named rs x) → last_named x ≤ℤ claim_end_of rs x cs
  claim_end_least [] a x are = omega (arith, ints)
  claim_end_least (c ∷ cs) a x are = of (same_name c.whole x) refl (λ y some. claim_end_least cs a.1 y some)
    where
      of : (b : Bool) → same_name c.whole x ≡ b → ((y : List ℕ) → AreSome (numbers_named rs y) → last_named y ≤ℤ claim_end_of rs y cs) →
          last_named x ≤ℤ (if b then split_claim_end c (numbers_named rs x) (claim_end_of rs c.outer cs) else claim_end_of rs x cs)
      of true e rest =
          let cut = a.0 in
          let name = name_true c.whole x e in
          let here : AreSome (numbers_named rs c.whole) = subst (λ (y : List ℕ). AreSome (numbers_named rs y)) (sym name) are in
          let outer = outer_last c cut (claim_end_of rs c.outer cs) (rest c.outer (outer_are c cut here)) in
          subst (λ (y : List ℕ). last_named y ≤ℤ split_claim_end c (numbers_named rs y) (claim_end_of rs c.outer cs)) name
          (claim_reaches c (numbers_named rs c.whole) here cut.some cut.few (claim_end_of rs c.outer cs) outer)
      of false e rest = rest x are
