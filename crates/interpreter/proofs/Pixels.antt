-- Rows of images of three dimensions, in which the colours of a pixel stand side by side.
use Rattle.std.proofs.Common.{◌≡◌, ℕ, ◌+◌, ◌*◌, ◌<◌, List, [], ◌∷◌, length, take, drop, Option, Some, Bool, true, refl, sym, ap, ◌∙◌, arith, ℤ, pos, negsuc}
use Rattle.std.specs.Prelude.{◌&&◌, nat_lt, option_map, slice_get, slice_index}
use Rattle.std.proofs.Math.Nat.{add-mul, mul_assoc, lt_of_mul-lt-mul_right}
use Rattle.std.proofs.lemmas.Bool.{lt-ltb, and_from}
use Rattle.std.proofs.lemmas.Option.{none-some, slice_get-get_or}
use Rattle.numeric.specs.declared.ty.Ty.{Ty}
use Rattle.tree.specs.Meaning.{typed}
use Rattle.interpreter.specs.Scanlines.{input_at, pixel_along}
use Rattle.interpreter.proofs.Windows.{sample_there, within_both}
use lib.IntN.{nat_abs}

-- a place of a row of so many pixels is one of a pixel
pixel_less : (x w c z : ℕ) → x * c + z < w * c → x < w
pixel_less x w c z h = lt_of_mul-lt-mul_right c (omega (arith, h))

-- the samples of a colour in a row
pub later_pixel : (t : Ty) (w h c y z : ℕ) (samples : List ℕ) (x n : ℤ) → y < h → z < c → pixel_along c z (take (w * c) (drop (y * (w * c)) samples)) x ≡ Some n →
    input_at t (w ∷ h ∷ c ∷ []) samples (x ∷ pos y ∷ pos z ∷ []) ≡ Some (typed t n)
later_pixel t w h c y z samples (negsuc k) n lt also g = absurd (none-some n g)
later_pixel t w h c y z samples (pos k) n lt also g =
    let s = sample_there (w * c) (y * (w * c)) samples (pos (k * c + z)) n g in
    let at : k * c + z ≡ s.at = ap nat_abs s.is in
    let less : k < w = pixel_less k w c z (omega (arith, s.less, at)) in
    let b : Bool = nat_lt k w && (nat_lt y h && (nat_lt z c && true)) in
    let within : b ≡ true = and_from (nat_lt k w) (nat_lt y h && (nat_lt z c && true)) (lt-ltb k w less) (and_from (nat_lt y h) (nat_lt z c && true) (lt-ltb y h lt) (and_from (nat_lt z c) true (lt-ltb z c also) refl)) in
    let place : (y * w + k) * c + z ≡ y * (w * c) + s.at = (let e = add-mul (y * w) k c in let f = mul_assoc y w c in omega (arith, e, f, at)) in
    within_both t b (pos (slice_index samples ((y * w + k) * c + z))) within
    ∙ ap (λ (i : ℕ). Some (typed t (pos (slice_index samples i)))) place ∙ ap (λ (m : ℤ). Some (typed t m)) s.number

-- a word that is a sample of a colour
pub pixel_word : (samples : List ℕ) (first k colours colour start w : ℕ) → start ≡ first * colours + colour → start + k * colours < length samples →
    w ≡ slice_index samples (start + k * colours) → pixel_along colours colour samples (pos (first + k)) ≡ Some (pos w)
pixel_word samples first k colours colour start w from there is =
    let place : (first + k) * colours + colour ≡ start + k * colours = (let e = add-mul first k colours in omega (arith, e, from)) in
    ap (λ (o : Option ℕ). option_map (λ n. pos n) o) (ap (slice_get samples) place ∙ slice_get-get_or samples (start + k * colours) 0 there)
    ∙ ap (λ (n : ℕ). Some (pos n)) (sym is)
