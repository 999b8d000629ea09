-- Why an algorithm is not read, or not cut.
use Rattle.std.proofs.Common.{◌≡◌, ap, ℕ, ◌<◌, ◌&&◌, Bool, true, false, cond, List, [], ◌∷◌, None, Some, inl, inr, refl, arith}
use Rattle.meaning.specs.Algorithm.{Algorithm}
use Rattle.algo.specs.declared.error.AlgoError.TheVariants as no_text
use Rattle.crop.specs.declared.cropping.Rect.{Rect}
use Rattle.crop.specs.declared.error.CropError.{CropError}
use Rattle.crop.specs.declared.error.CropError.TheVariants.{Memory, Outside, Limit}
use Rattle.crop.specs.declared.scene_error.SceneError.{SceneError}
use Rattle.crop.specs.declared.scene_error.SceneError.TheVariants.{Text, Reduction}
use Rattle.crop.specs.declared.tiling.Tiling.{Tiling}
use Rattle.crop.specs.Inside.{IsInside}
use Rattle.crop.specs.Scene.{IsNoScene, IsRefusedScene}
use Rattle.crop.specs.Tiling.{IsPartition, fits_side, rect_at, tiling_in, tiling_of}
use Rattle.crop.specs.Tiling as tiles
use Rattle.commands.specs.declared.pipeline.fault.Fault.{Fault}
use Rattle.commands.specs.Asked.{AskedCrop}
use Rattle.commands.specs.Crops.{IsCropped, IsDone, IsPastLimit, IsRefused, IsSceneFile, IsSceneRefused, IsTileFile, IsTilePut, IsTileUnput, IsUncut}
use Rattle.commands.specs.Files.{Contents, SameFiles}
use Rattle.commands.specs.Pipeline.Faults.{crop_fault, scene_fault}
use Rattle.commands.proofs.Kept.{others_then, same_then}

-- each error of the text is the program's refusal
pub scene_refused : (text : List ℕ) (e : SceneError) → IsRefusedScene text e → IsNoScene text e → IsSceneRefused text (scene_fault e)
scene_refused text (Text no_text.Memory) h none = tt
scene_refused text (Text (no_text.Refused code span)) h none = (h, none)
scene_refused text (Reduction name) h none = (h, none)

-- each error of the crop is a reason
pub uncut_of : (a : Algorithm) (rect : Rect) (e : CropError) → (e ≡ Outside → IsInside a.output_extents rect → ⊥) → IsUncut a rect (crop_fault e)
uncut_of a rect Memory h = inl tt
uncut_of a rect Outside h = inr (refl, h refl)
uncut_of a rect (Limit name) h = inl tt

-- in the output it is a limit
pub past_limit : (a : Algorithm) (rect : Rect) (fault : Fault) → IsInside a.output_extents rect → IsUncut a rect fault → IsPastLimit fault
past_limit a rect fault inside (inl h) = h
past_limit a rect fault inside (inr h) = absurd (h.1 inside)

-- ---- the files stay as they are until the text is put

module _ (old : Contents) (a : AskedCrop) (x : Algorithm) (file : IsSceneFile old a.algorithm x) (mid : Contents) (same : SameFiles old mid) where
  cropped : (bytes : List ℕ) → IsTileFile x a.rect bytes → IsCropped old a bytes
  cropped bytes h = record { algorithm = x; part = h.0; file = file; tile = h.1 }

  pub tile_refused : (new : Contents) (fault : Fault) → IsTileUnput mid new a x fault → IsRefused old new a fault
  tile_refused new fault (inl (kept, inl device)) = inl (same_then old mid new same kept, inl device)
  tile_refused new fault (inl (kept, inr uncut)) = inl (same_then old mid new same kept, inr (inr (record { algorithm = x; file = file; refused = uncut })))
  tile_refused new fault (inr h) = inr (h.0, others_then old mid new a.output same h.1, (h.2.0, cropped h.2.0 h.2.1))

  pub tile_put : (new : Contents) → IsTilePut mid new a x → IsDone old new a
  tile_put new h = (h.0, cropped h.0 h.1, (h.2.0, others_then old mid new a.output same h.2.1))

-- ---- tiles lie in the output

made_of : (known : Bool) (s t : Tiling) → cond known (Some s) None ≡ Some t → s ≡ t
made_of true s t is = cc is
made_of false s t is = absurd (cc is)

in_row : (w tile_width tile_height : ℕ) (t : Tiling) (rect : Rect) → tiling_in w 1 tile_width tile_height ≡ Some t → tiles.IsInside t rect → IsInside (w ∷ []) rect
in_row w tile_width tile_height t rect is h =
    let made = made_of (fits_side w tile_width && fits_side 1 tile_height) _ t is in
    let width : w ≡ t.width = ap (λ x. x.width) made in
    let height : 1 ≡ t.height = ap (λ x. x.height) made in
    ((omega (arith, h.wide), omega (arith, h.right, width)), omega (arith, h.high, h.below, height), omega (arith, h.high, h.below, height))

in_rows : (w r : ℕ) (more : List ℕ) (tile_width tile_height : ℕ) (t : Tiling) (rect : Rect) → tiling_in w r tile_width tile_height ≡ Some t → tiles.IsInside t rect
    → IsInside (w ∷ r ∷ more) rect
in_rows w r more tile_width tile_height t rect is h =
    let made = made_of (fits_side w tile_width && fits_side r tile_height) _ t is in
    let width : w ≡ t.width = ap (λ x. x.width) made in
    let height : r ≡ t.height = ap (λ x. x.height) made in
    ((omega (arith, h.wide), omega (arith, h.right, width)), (omega (arith, h.high), omega (arith, h.below, height)))

pub all_inside : (extents : List ℕ) (tile_width tile_height : ℕ) (t : Tiling) → tiling_of extents tile_width tile_height ≡ Some t → IsPartition t
    → (number : ℕ) → number < tiles.tile_count t → IsInside extents (rect_at t number)
all_inside [] tile_width tile_height t is p number known = absurd (cc is)
all_inside (w ∷ []) tile_width tile_height t is p number known = in_row w tile_width tile_height t (rect_at t number) is (p.inside number known)
all_inside (w ∷ r ∷ more) tile_width tile_height t is p number known = in_rows w r more tile_width tile_height t (rect_at t number) is (p.inside number known)
