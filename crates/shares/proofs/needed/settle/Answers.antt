use Rattle.std.proofs.Common.{ℕ, List, sym, subst}
use Rattle.std.specs.Prelude.{Contains}
use Rattle.std.specs.List.Sorted.{IsStrictlyIncreasing}
use Rattle.std.proofs.lemmas.List.Filters.{dedup_is}
use Rattle.std.proofs.lemmas.List.Kept.{Contains-dedup_nat, Contains-from_dedup}
use Rattle.std.proofs.lemmas.List.Sorted.{Contains-permutation, IsPermutation-sym}
use Rattle.std.proofs.lemmas.Map.Keys.{IsStrictlyIncreasing-dedup}
use Rattle.shares.proofs.needed.settle.Goals as goal
use lib.Dec.{eqb}

pub returns-clause-rises : goal.returns-clause-rises
returns-clause-rises c =
    let S = c.sort.new.self.items in
    let is = dedup_is eqb S c.dedup.new.self.items c.dedup.ensures.filtered in
    subst IsStrictlyIncreasing (sym is) (IsStrictlyIncreasing-dedup S c.in_ok-sort.ensures.sorted)

pub returns-clause-members : goal.returns-clause-members
returns-clause-members c i =
    let P = c.args.numbers.now.items in
    let S = c.sort.new.self.items in
    let Has : List ℕ → Type 0 = λ xs. Contains xs i in
    let is = dedup_is eqb S c.dedup.new.self.items c.dedup.ensures.filtered in (
      (λ m. Contains-permutation S P i (IsPermutation-sym P S c.in_ok-sort.ensures.permutation) (Contains-from_dedup eqb S i (subst Has is m))),
      (λ m. subst Has (sym is) (Contains-dedup_nat S i (Contains-permutation P S i c.in_ok-sort.ensures.permutation m))),
    )
