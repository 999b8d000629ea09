-- What holds of each group where the own cells of all pieces are apart and each cell is one.
use Rattle.std.proofs.Common.{ℕ, ◌+◌, ◌<◌, length, arith}
use Rattle.std.specs.Prelude.{IsTrue}
use Rattle.plan.specs.Plan.{Plan}
use Rattle.plan.specs.Certificate.Certificate.{Certificate}
use Rattle.plan.specs.Certificate.Cells.{cells}
use Rattle.shares.specs.declared.owners.Owned.{Owned}
use Rattle.shares.specs.Made.{HasGap, Leaves, Overlaps}
use Rattle.shares.specs.Owned.{AreOwners, IsParted}
use Rattle.shares.proofs.Having.{cells_within}
use Rattle.shares.proofs.Owning.{piece_below}

module _ (p : Plan) (c : Certificate) (x : Owned) (of : AreOwners p c x) where
  all_apart : (n : ℕ) → ¬ Overlaps p c n
  all_apart n h = h.2 (λ j a b less a_in b_in same. of.parted.1 h.0 j a b (piece_below p n h.0 h.1) less a_in b_in same)

  all_inside : IsTrue x.inside → (n : ℕ) → ¬ Leaves p c n
  all_inside stay n h = h.2 (of.inside stay h.0 (piece_below p n h.0 h.1))

  all_whole : IsTrue x.whole → (n : ℕ) → ¬ HasGap p c n
  all_whole full n gap =
      let high = gap.2 in
      let most = cells_within 0 p.groups (n + 1) in
      let below : gap.0 < length (cells p) = omega (arith, high, most) in
      let owner = of.whole full gap.0 below in
      gap.3 owner.0 owner.1 owner.2

  -- each group is parted where the own regions stay inside and each cell is some piece's own
  pub each_is_parted : IsTrue x.inside → IsTrue x.whole → (n : ℕ) → IsParted p c n
  each_is_parted stay full n = record { apart = all_apart n; inside = all_inside stay n; whole = all_whole full n }
