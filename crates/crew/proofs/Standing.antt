-- The cells of a picture whose points are counted like its extents stand in planes.
use Rattle.std.proofs.Common.{◌≡◌, ℕ, zero, suc, ◌+◌, ◌*◌, ◌/◌, ◌%◌, ◌<◌, ◌≤◌, List, [], ◌∷◌, refl, ◌∙◌, arith}
use Rattle.std.proofs.Math.Nat.{mul-le-mul_right}
use Rattle.std.proofs.lemmas.Nat.{div-add-mod', div-mul-add, mod-mul-add}
use Rattle.meaning.specs.Image.Raster.{raster_point, sample_count}
use Rattle.meaning.specs.Image.View.{AreExtents}
use Rattle.board.specs.declared.source.Planes.{Planes}
use Rattle.board.specs.Shown.{StandInPlanes}
use Rattle.checked_plan.specs.declared.checked.Checked.{Checked}
use Rattle.checked_plan.specs.View.{algorithm_checked, plan_checked}
use Rattle.checked_plan.specs.Output.Cells.{points_before, OutputFollows}
use Rattle.crew.specs.Opening.Layouts.{layout_of}
use Rattle.crew.specs.Opening.Planes.{planes_from}
use Rattle.crew.proofs.Layouts.{on_output}

-- how many samples there are
pub count_is : (first : ℕ) (es : List ℕ) → AreExtents es → sample_count es ≡ (planes_from first es).pixels * (planes_from first es).colours
count_is first [] h = absurd h
count_is first (w ∷ []) h = refl
count_is first (w ∷ v ∷ []) h = omega arith
count_is first (w ∷ v ∷ c ∷ []) h = omega arith
count_is first (w ∷ v ∷ c ∷ d ∷ es) h = absurd h

-- a colour of a pixel is one of the samples
pub sample_below : (k c pixels colours : ℕ) → k < pixels → c < colours → k * colours + c < pixels * colours
sample_below k c n m h g = let far : suc k * m ≤ n * m = mul-le-mul_right m (omega arith) in omega arith

-- how many points come before the point of a pixel's colour: the whole planes before, and the pixels
pub before_is : (first : ℕ) (es : List ℕ) (k c : ℕ) → AreExtents es → c < (planes_from first es).colours →
    points_before es (raster_point es (k * (planes_from first es).colours + c)) ≡ c * (planes_from first es).pixels + k
before_is first [] k c h g = absurd h
before_is first (w ∷ []) k zero h g = omega arith
before_is first (w ∷ []) k (suc c) h g = absurd (omega (arith, g))
before_is first (w ∷ v ∷ []) k zero h g = row (k * 1 + 0) (omega arith)
  where
    row : (n : ℕ) → n ≡ k → n % w + w * (n / w + v * 0) ≡ 0 * (w * v) + k
    row n e = let whole : n / w * w + n % w ≡ n = div-add-mod' n w in omega (arith, whole, e)
before_is first (w ∷ v ∷ []) k (suc c) h g = absurd (omega (arith, g))
before_is first (w ∷ v ∷ m ∷ []) k c h g =
    (λ i. div-mul-add k m c g i % w + w * (div-mul-add k m c g i / w + v * (mod-mul-add k m c g i + m * 0)))
    ∙ (let whole : k / w * w + k % w ≡ k = div-add-mod' k w in omega (arith, whole))
before_is first (w ∷ v ∷ m ∷ d ∷ es) k c h g = absurd h

-- the planes count from the number given
first_is : (first : ℕ) (es : List ℕ) → (planes_from first es).first ≡ first
first_is first [] = refl
first_is first (w ∷ []) = refl
first_is first (w ∷ v ∷ []) = refl
first_is first (w ∷ v ∷ c ∷ []) = refl
first_is first (w ∷ v ∷ c ∷ d ∷ es) = refl

-- where the cells of the output's points follow each other, the cells of its samples stand in planes
pub stand : (x : Checked) (first : ℕ) → OutputFollows (algorithm_checked x) (plan_checked x) first →
    StandInPlanes (layout_of x) (planes_from first (algorithm_checked x).output_extents)
stand x first follow =
    let es : List ℕ = (algorithm_checked x).output_extents in
    let formed = x.algo.now.well_formed in
    let planes : Planes = planes_from first es in
    let count = count_is first es formed.output_extents in
    record {
      all = count;
      cell = λ k c in_plane a_colour.
          let n : ℕ = k * planes.colours + c in
          let below = sample_below k c planes.pixels planes.colours in_plane a_colour in
          let here = follow (raster_point es n) (on_output (algorithm_checked x) n formed (omega (arith, below, count))) in
          let before = before_is first es k c formed.output_extents a_colour in
          let from = first_is first es in
          omega (arith, here, before, from);
    }
