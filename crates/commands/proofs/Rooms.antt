-- How many bytes an image file takes at most.
use Rattle.std.proofs.Common.{◌≡◌, ◌≤◌, ◌<◌, ◌*◌, ◌+◌, ◌++◌, ◌^◌, ℕ, Bool, true, false, List, [], ◌∷◌, length, decimal, arith, refl, ap, subst, sym, inl, inr}
use Rattle.std.specs.List.{flat_map}
use Rattle.std.proofs.lemmas.Fmt.{length-decimal-le}
use Rattle.std.proofs.lemmas.List.{length-append}
use Rattle.std.proofs.lemmas.List.Concat.{flat_map-cons}
use Rattle.std.proofs.lemmas.List.FromFn.{length-map-range_with_len}
use Rattle.numeric.specs.declared.ty.Ty.{Ty}
use Rattle.numeric.specs.declared.ty.Ty.TheVariants.{U8}
use Rattle.meaning.specs.Algorithm.{Algorithm}
use Rattle.meaning.specs.Image.Raster.{natural, raster_point, sample_count}
use Rattle.meaning.specs.Image.View.{AreExtents, Frame, IsShape, Picture, max_sample}
use Rattle.meaning.specs.Value.{output_value}
use Rattle.algo.specs.Parts.{output_frame}
use Rattle.algo.specs.View.{picture_said}
use Rattle.pnm.specs.Reading.{has_colours, height_of, width_of}
use Rattle.pnm.specs.Text.{magic, numbers, sample_bytes, text_of}
use Rattle.commands.specs.Rooms.{sample_length, HasRoom, HasRoomFor, SufficesFor}

-- ---- the header

bytes_of_magic : (b : Bool) → length (magic b) ≡ 3
bytes_of_magic true = refl
bytes_of_magic false = refl

small_max : (ty : Ty) → max_sample ty < 10 ^ 5
small_max U8 = omega arith
small_max _ = omega arith

small_extents : (es : List ℕ) → AreExtents es → (width_of es < 10 ^ 4) × (height_of es < 10 ^ 4)
small_extents (w ∷ []) h = (omega (arith, h.1), omega arith)
small_extents (w ∷ v ∷ []) h = (omega (arith, h.0.1), omega (arith, h.1.1))
small_extents (w ∷ v ∷ c ∷ []) h = (omega (arith, h.0.1), omega (arith, h.1.1))
small_extents _ h = absurd h

short : (k n : ℕ) → 0 < k → n < 10 ^ k → n < 10 ^ 5 → length (decimal n) ≤ k
short k n some small below = length-decimal-le k n some small (omega (arith, below))

bytes_of_numbers : (ty : Ty) (es : List ℕ) → AreExtents es → length (numbers ty es) ≤ 20
bytes_of_numbers ty es h =
    let small = small_extents es h in
    let width = decimal (width_of es) ++ 32 ∷ [] in
    let height = decimal (height_of es) ++ 10 ∷ [] in
    let max = decimal (max_sample ty) ++ 10 ∷ [] in
    omega (
      arith,
      length-append (width ++ height) max,
      length-append width height,
      length-append (decimal (width_of es)) (32 ∷ []),
      length-append (decimal (height_of es)) (10 ∷ []),
      length-append (decimal (max_sample ty)) (10 ∷ []),
      short 4 (width_of es) (omega arith) small.0 (omega (arith, small.0)),
      short 4 (height_of es) (omega arith) small.1 (omega (arith, small.1)),
      short 5 (max_sample ty) (omega arith) (small_max ty) (small_max ty),
    )

-- ---- the raster

bytes_of_sample : (ty : Ty) (n : ℕ) → length (sample_bytes ty n) ≡ sample_length ty
bytes_of_sample U8 n = refl
bytes_of_sample _ n = refl

more : (k n : ℕ) → (1 + n) * k ≡ k + n * k
more k n = omega arith

bytes_of_raster : (ty : Ty) (xs : List ℕ) → length (flat_map (sample_bytes ty) xs) ≡ length xs * sample_length ty
bytes_of_raster ty [] = omega arith
bytes_of_raster ty (x ∷ xs) = omega (
  arith,
  ap length (flat_map-cons (sample_bytes ty) x xs),
  length-append (sample_bytes ty x) (flat_map (sample_bytes ty) xs),
  bytes_of_sample ty x,
  bytes_of_raster ty xs,
  more (sample_length ty) (length xs),
)

-- ---- the whole

pub bytes_of_text : (p : Picture) → AreExtents p.extents → length (text_of p) ≤ 32 + length p.samples * sample_length p.ty
bytes_of_text p h =
    let start = magic (has_colours p.extents) in
    let header = numbers p.ty p.extents in
    let raster = flat_map (sample_bytes p.ty) p.samples in
    omega (
      arith,
      length-append (start ++ header) raster,
      length-append start header,
      bytes_of_magic (has_colours p.extents),
      bytes_of_numbers p.ty p.extents h,
      bytes_of_raster p.ty p.samples,
    )

pub text_fits : (f : Frame) → IsShape f → (p : Picture) → p.ty ≡ f.ty → p.extents ≡ f.extents → length p.samples ≡ sample_count f.extents
    → length (text_of p) ≤ 32 + sample_count f.extents * sample_length f.ty
text_fits f h p ty extents count =
    let fits = bytes_of_text p (subst AreExtents (sym extents) h.extents) in
    rw (sym count, sym ty) fits

-- the picture that an algorithm says is of the output's shape
said_fits : (a : Algorithm) (samples : List ℕ) (n : ℕ) → SufficesFor (output_frame a) n → length (text_of (picture_said a samples)) ≤ n
said_fits a samples n room =
    room (picture_said a samples) refl refl (length-map-range_with_len (λ k. natural (output_value a samples (raster_point a.output_extents k))) 0 (sample_count a.output_extents))

pub said_has_room : (a : Algorithm) (samples : List ℕ) (own other : ℕ) → HasRoom (output_frame a) own other → HasRoomFor (picture_said a samples) own other
said_has_room a samples own other (inl room) = inl (said_fits a samples own room)
said_has_room a samples own other (inr room) = inr (said_fits a samples other room)

suffices_more : (f : Frame) (n m : ℕ) → n ≤ m → SufficesFor f n → SufficesFor f m
suffices_more f n m le room p ty extents count = let fits = room p ty extents count in omega (arith, fits, le)

-- the memory that is there suffices, or what is taken beside it
pub room_there : (f : Frame) (most own other : ℕ) → SufficesFor f most → most ≤ other → HasRoom f own other
room_there f most own other room le = inr (suffices_more f most other le room)

pub room_taken : (f : Frame) (most own other : ℕ) → SufficesFor f most → own ≡ most → HasRoom f own other
room_taken f most own other room e = inl (suffices_more f most own (omega (arith, e)) room)
