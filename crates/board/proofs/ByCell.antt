-- The samples of cells that stand in planes.
use Rattle.std.proofs.Common.{◌≡◌, ℕ, zero, suc, ◌+◌, ◌*◌, ◌/◌, ◌%◌, ◌-◌, ◌^◌, ◌<◌, ◌≤◌, ℤ, List, length, get_or, set, inl, inr, refl, sym, ap, subst, ◌∙◌, arith}
use Rattle.std.specs.Prelude.{slice_index}
use Rattle.std.proofs.Math.Nat.{div-lt_iff_lt-mul, mod-lt, mul_comm}
use Rattle.std.proofs.lemmas.Nat.{div-add-mod', div-mul-add, mod-mul-add}
use Rattle.std.proofs.lemmas.Bool.{cases_lt}
use Rattle.std.proofs.lemmas.List.{get_or_append_left, get_or-append_right, get_or_past, length-append, set-append_left}
use Rattle.std.proofs.lemmas.List.FromFn.{get_or-map-range_with_len, length-map-range_with_len}
use Rattle.numeric.specs.declared.ty.Ty.{Ty}
use Rattle.numeric.specs.declared.ty.Ty.TheVariants.{U8}
use Rattle.numeric.specs.Wrap.{IsOf}
use Rattle.board.specs.Kept.{all_bits, by_cell, in_planes, planes_of, sample_place, AreSamples, Keeps}
use Rattle.board.specs.Layout.{Layout, samples_in, shown_cell, value_at, ShowsSamples}
use Rattle.board.specs.Shown.{StandInPlanes}
use Rattle.board.specs.Words.{bits_of}
use Rattle.board.specs.declared.kept.Kept.{Kept}
use Rattle.board.specs.declared.kept.Kept.TheVariants.{AsBits, AsSamples}
use Rattle.board.specs.declared.source.Planes.{Planes}
use Rattle.board.proofs.Colours.{by_colours, place_below, same_colour, same_pixel}
use Rattle.board.proofs.Samples.{byte_bits}

positive : (n m d : ℕ) → d < n * m → 0 < n
positive zero m d h = absurd (omega arith)
positive (suc n) m d h = omega arith

-- the pixel and the colour of the d-th cell in planes
record Stands (x : Planes) (d : ℕ) : Type 0 where
  pixel : d % x.pixels < x.pixels
  colour : d / x.pixels < x.colours

stands : (x : Planes) (d : ℕ) → d < in_planes x → Stands x d
stands x d lt =
    let some : 0 < x.pixels = positive x.pixels x.colours d lt in
    let turned : x.pixels * x.colours ≡ x.colours * x.pixels = mul_comm x.pixels x.colours in
    record { pixel = mod-lt d some; colour = (div-lt_iff_lt-mul some).1 (omega (arith, lt, turned)) }

-- the sample of a cell is one of the samples
pub place_inside : (x : Planes) (d : ℕ) → d < in_planes x → sample_place x d < in_planes x
place_inside x d lt = let at = stands x d lt in place_below (d % x.pixels) (d / x.pixels) x.pixels x.colours at.pixel at.colour

-- where the place is told by the pixel and the colour
pub place_told : (x : Planes) (pixel colour : ℕ) → pixel < x.pixels → sample_place x (colour * x.pixels + pixel) ≡ pixel * x.colours + colour
place_told x pixel colour lt = λ i. mod-mul-add colour x.pixels pixel lt i * x.colours + div-mul-add colour x.pixels pixel lt i

-- so told it lies inside too
pub row_inside : (x : Planes) (d pixel colour : ℕ) → d < in_planes x → d ≡ colour * x.pixels + pixel → pixel < x.pixels → pixel * x.colours + colour < in_planes x
row_inside x d pixel colour lt is in_plane = subst (λ n. n < in_planes x) (ap (sample_place x) is ∙ place_told x pixel colour in_plane) (place_inside x d lt)

-- at one place one cell's sample stands
pub one_cell : (x : Planes) (d e : ℕ) → d < in_planes x → e < in_planes x → sample_place x d ≡ sample_place x e → d ≡ e
one_cell x d e d_lt e_lt is =
    let d_at = stands x d d_lt in
    let e_at = stands x e e_lt in
    let pixel = same_pixel (d % x.pixels) (e % x.pixels) (d / x.pixels) (e / x.pixels) x.colours d_at.colour e_at.colour is in
    let colour = same_colour (d % x.pixels) (e % x.pixels) (d / x.pixels) (e / x.pixels) x.colours d_at.colour e_at.colour is in
    sym (div-add-mod' d x.pixels) ∙ (λ i. colour i * x.pixels + pixel i) ∙ div-add-mod' e x.pixels

module _ (x : Planes) where
  pub length_by_cell : (samples : List ℕ) → length (by_cell x samples) ≡ in_planes x
  length_by_cell samples = length-map-range_with_len (λ d. slice_index samples (sample_place x d)) 0 (in_planes x)

  get_by_cell : (samples : List ℕ) (d : ℕ) → d < in_planes x → get_or (by_cell x samples) d 0 ≡ get_or samples (sample_place x d) 0
  get_by_cell samples d lt = get_or-map-range_with_len (λ e. slice_index samples (sample_place x e)) 0 (in_planes x) d d 0 lt (omega arith)

  module _ (bits samples : List ℕ) where
    pub length_all : length (all_bits x bits samples) ≡ length bits + in_planes x
    length_all = length-append bits (by_cell x samples) ∙ ap (λ n. length bits + n) (length_by_cell samples)

    pub get_bits : (c : ℕ) → c < length bits → get_or (all_bits x bits samples) c 0 ≡ get_or bits c 0
    get_bits c lt = get_or_append_left bits (by_cell x samples) 0 c lt

    pub get_sample : (c : ℕ) → length bits ≤ c → c < length bits + in_planes x → get_or (all_bits x bits samples) c 0 ≡ get_or samples (sample_place x (c - length bits)) 0
    get_sample c from to = get_or-append_right bits (by_cell x samples) (length bits) c 0 refl from ∙ get_by_cell samples (c - length bits) (omega arith)

    pub set_bit : (c v : ℕ) → c < length bits → all_bits x (set bits c v) samples ≡ set (all_bits x bits samples) c v
    set_bit c v lt = sym (set-append_left bits (by_cell x samples) c v lt)

  -- the bits of a cell are the same beside other samples where its own is the same
  pub same_beside : (bits old new : List ℕ) (c : ℕ) → (length bits ≤ c → c < length bits + in_planes x →
      get_or new (sample_place x (c - length bits)) 0 ≡ get_or old (sample_place x (c - length bits)) 0) → get_or (all_bits x bits new) c 0 ≡ get_or (all_bits x bits old) c 0
  same_beside bits old new c same = elim (cases_lt c (length bits)) [
    | inl before ↦ get_bits bits new c before ∙ sym (get_bits bits old c before)
    | inr past ↦ elim (cases_lt c (length bits + in_planes x)) [
      | inl inside ↦ get_sample bits new c past inside ∙ same past inside ∙ sym (get_sample bits old c past inside)
      | inr beyond ↦
          let long = length_all bits new in
          let before = length_all bits old in
          get_or_past (all_bits x bits new) c 0 (omega (arith, beyond, long)) ∙ sym (get_or_past (all_bits x bits old) c 0 (omega (arith, beyond, before)))
    ]
  ]

module _ (plan : Layout) (values : List ℤ) (x : Planes) (stand : StandInPlanes plan x) where
  -- the values of the cells in planes are samples
  pub samples_small : plan.frame.ty ≡ U8 → ShowsSamples plan values → AreSamples values x.first (x.first + in_planes x)
  samples_small byte right c from to =
      let d : ℕ = c - x.first in
      let lt : d < in_planes x = omega (arith, from, to) in
      let at = stands x d lt in
      let n : ℕ = sample_place x d in
      let inside = place_inside x d lt in
      let count = stand.all in
      let n_lt : n < samples_in plan = omega (arith, inside, count) in
      let parts = div-add-mod' d x.pixels in
      let here = stand.cell (d % x.pixels) (d / x.pixels) at.pixel at.colour in
      let is : shown_cell plan n ≡ c = omega (arith, here, parts, from) in
      let value : ℤ = value_at values (shown_cell plan n) in
      subst (λ (k : ℕ). bits_of (value_at values k) < 2 ^ 8) is (byte_bits value (subst (λ (t : Ty). IsOf t value) byte (right n n_lt)))

  -- a sample is the bits of the cell that it shows
  pub sample_shows : (bits samples : List ℕ) → length bits ≡ x.first → (n : ℕ) → n < samples_in plan → get_or samples n 0 ≡ get_or (all_bits x bits samples) (shown_cell plan n) 0
  sample_shows bits samples long n n_lt =
      by_colours (λ k. get_or samples k 0 ≡ get_or (all_bits x bits samples) (shown_cell plan k) 0) x.pixels x.colours n each (subst (λ k. n < k) stand.all n_lt)
    where
      each : (pixel colour : ℕ) → pixel < x.pixels → colour < x.colours →
          get_or samples (pixel * x.colours + colour) 0 ≡ get_or (all_bits x bits samples) (shown_cell plan (pixel * x.colours + colour)) 0
      each pixel colour in_plane a_colour =
          let d : ℕ = colour * x.pixels + pixel in
          let here = stand.cell pixel colour in_plane a_colour in
          let c : ℕ = x.first + colour * x.pixels + pixel in
          let lt : d < in_planes x = (let below = place_below colour pixel x.colours x.pixels a_colour in_plane in let turned = mul_comm x.pixels x.colours in omega (arith, below, turned)) in
          let back : c - length bits ≡ d = omega (arith, long) in
          sym (ap (λ (k : ℕ). get_or samples k 0) (ap (sample_place x) back ∙ place_told x pixel colour in_plane))
          ∙ sym (get_sample x bits samples c (omega (arith, long)) (omega (arith, long, lt)))
          ∙ ap (λ (k : ℕ). get_or (all_bits x bits samples) k 0) (sym here)

module _ (plan : Layout) where
  -- what is kept are all cells
  pub all_kept : (k : Kept) (n : ℕ) → Keeps plan k n → n + in_planes (planes_of k) ≡ plan.cells
  all_kept (AsSamples x) n held = let count = held.0.stand.all in let first = held.1 in let rest = held.0.last in omega (arith, count, first, rest)
  all_kept (AsBits v words) n held = let all = held.1 in omega (arith, all)

  -- the values of the cells in planes are samples
  pub all_small : (values : List ℤ) (k : Kept) (n : ℕ) → Keeps plan k n → ShowsSamples plan values → AreSamples values n (n + in_planes (planes_of k))
  all_small values (AsSamples x) n held right =
      subst (λ (m : ℕ). AreSamples values m (m + in_planes x)) (sym held.1) (samples_small plan values x held.0.stand held.0.byte right)
  all_small values (AsBits v words) n held right = λ c from to. absurd (omega (arith, from, to))
