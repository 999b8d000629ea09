-- Lines of a plan that are told as they are, and that those of a group lie within its own.
use Rattle.std.proofs.Common.{◌≡◌, ℕ, zero, suc, ◌+◌, ◌-◌, ◌^◌, ◌<◌, ◌≤◌, List, [], ◌∷◌, take, Some, ap, inl, inr, arith}
use Rattle.std.specs.Prelude.{slice_get}
use Rattle.std.proofs.Math.Nat.{min-le_left, min-le_right, min-eq_left}
use Rattle.plan.specs.Plan.{Group, Plan}
use Rattle.plan.specs.Lines.{group_lines, groups_lines, group_line, certificate_line}
use Rattle.soundness.specs.Outline.Flaws.{line_told}
use Rattle.validation.specs.Groups.Lines.{lines_from}
use Rattle.validation.specs.Groups.Wrong.{IsOutside}
use Rattle.completeness.specs.Laws.{AreLinesTold}

-- the lines of a group are some of all groups'
among_all : (gs : List Group) (n : ℕ) (g : Group) → slice_get gs n ≡ Some g → groups_lines (take n gs) + group_lines g ≤ groups_lines gs
among_all [] n g at = absurd (cc at)
among_all (h ∷ gs) zero g at = (let same : h ≡ g = cc at in let count : group_lines h ≡ group_lines g = ap group_lines same in omega (arith, count))
among_all (h ∷ gs) (suc n) g at = (let rest = among_all gs n g at in omega (arith, rest))

module _ (p : Plan) (n : ℕ) (g : Group) (at : slice_get p.groups n ≡ Some g) (told : AreLinesTold p) where
  as_is : (line : ℕ) → line ≤ certificate_line p → line_told line ≡ line
  as_is line le = min-eq_left {n = line} {m = 2 ^ 32 - 1} (most (certificate_line p) line (2 ^ 32 - 1) (line_told (certificate_line p)) (min-le_right (certificate_line p) (2 ^ 32 - 1)) told le)
    where
      most : (x y greatest told : ℕ) → told ≤ greatest → told ≡ x → y ≤ x → y ≤ greatest
      most x y greatest told le is less = omega (arith, le, is, less)

  -- a line behind the line `group` and before the next group is not outside of it
  pub not_outside : (line : ℕ) → group_line p n < line → line < group_line p n + group_lines g → IsOutside (lines_from (line_told (group_line p n)) g) line → ⊥
  not_outside line low high (inl h) = (let least = min-le_left (group_line p n) (2 ^ 32 - 1) in omega (arith, h, low, least))
  not_outside line low high (inr h) =
      let all = among_all p.groups n g at in
      let first = as_is (group_line p n) (omega (arith, all)) in
      let behind = as_is (line_told (group_line p n) + group_lines g) (omega (arith, all, first)) in
      omega (arith, h, high, first, behind)
