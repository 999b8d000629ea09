-- What holds at each place of the raster holds at each point of the output.
use Rattle.std.proofs.Common.{◌≡◌, ℕ, ◌-◌, ◌<◌, ◌≤◌, ◌+◌, List, length, get_or, All, Any, sym, ◌∙◌, subst, arith}
use Rattle.std.specs.List.{range_with_len}
use Rattle.rayon.specs.NumberLaws.{nat_range-IsRange, run-length}
use Rattle.meaning.proofs.Places.{raster_is_order}
use Rattle.meaning.specs.Image.Raster.{place, raster_point, sample_count}
use Rattle.meaning.specs.Algorithm.{Algorithm}
use Rattle.meaning.specs.Conditions.{IsAlgorithm}
use Rattle.meaning.specs.Count.{output_count}
use Rattle.plain.specs.Picture.{AllWithin, SomeAbove, count_at}
use Rattle.plain.proofs.Outputs.{has_raster}

-- the k-th number from 0 up
nth : (n k d : ℕ) → k < n → get_or (range_with_len 0 n) k d ≡ k
nth n k d h =
    let whole : n - 0 ≡ n = omega arith in
    let inside : k < n - 0 = omega (arith, h) in
    let first : 0 + k ≡ k = omega arith in
    subst (λ m. get_or (range_with_len 0 m) k d ≡ k) whole (nat_range-IsRange.nth 0 n k d inside ∙ first)

module _ (a : Algorithm) (w : IsAlgorithm a) (samples : List ℕ) (budget n : ℕ) (all : n ≡ sample_count a.output_extents) where
  pub all_within : All (λ k. count_at a samples k ≤ budget) (range_with_len 0 n) → AllWithin a samples budget
  all_within h p within =
      let shape = has_raster a.output_extents w.output_extents in
      let k = place a.output_extents p in
      let below : k < n = subst (λ m. k < m) (sym all) (raster_is_order.in_raster a.output_extents p shape within) in
      let inside : k < length (range_with_len 0 n) = subst (λ m. k < m) (sym (run-length 0 n)) below in
      let is = nth n k 0 below in
      let point = raster_is_order.point_of_place a.output_extents p shape within in
      subst (λ q. output_count a samples q ≤ budget) point (subst (λ m. count_at a samples m ≤ budget) is (h k 0 inside))

  pub some_above : Any (λ k. budget < count_at a samples k) (range_with_len 0 n) → SomeAbove a samples budget
  some_above h =
      let shape = has_raster a.output_extents w.output_extents in
      let k = h.0 in
      let below : k < n = subst (λ m. k < m) (run-length 0 n) h.2 in
      let is : h.1 ≡ k = sym h.3 ∙ nth n k h.1 below in
      let inside : h.1 < sample_count a.output_extents = subst (λ m. m < sample_count a.output_extents) (sym is) (subst (λ m. k < m) all below) in
      record { at = raster_point a.output_extents h.1; within = raster_is_order.on_extents a.output_extents h.1 shape inside; above = h.4 }
