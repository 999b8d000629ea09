-- The written form of an image is a file of it.
use Rattle.std.proofs.Common.{◌≡◌, ℕ, suc, ◌+◌, ◌-◌, ◌*◌, ◌/◌, ◌%◌, ◌^◌, ◌<◌, ◌≤◌, List, [], ◌∷◌, ◌++◌, length, Bool, true, false, refl, sym, ap, ◌∙◌, subst, arith, append_assoc, decimal}
use Rattle.std.specs.Prelude.{All}
use Rattle.std.specs.List.{flat_map}
use Rattle.std.proofs.lemmas.Bool.{le-leb}
use Rattle.std.proofs.lemmas.Fmt.{decimal_by_steps}
use Rattle.std.proofs.lemmas.Grind.{fold-append}
use Rattle.std.proofs.lemmas.Nat.{div-add-mod'}
use Rattle.std.proofs.Math.Nat.{mod-lt, mod-eq_of_lt, mul-le-mul_left}
use Rattle.numeric.specs.declared.ty.Ty.{Ty}
use Rattle.numeric.specs.declared.ty.Ty.TheVariants.{U8, U16, U32, I8, I16, I32}
use Rattle.meaning.specs.Image.Raster.{sample_count}
use Rattle.meaning.specs.Image.View.{IsSampleType, AreExtents, max_sample}
use Rattle.pnm.specs.declared.state.Form.TheVariants.{Raw}
use Rattle.pnm.specs.Bytes.{is_space, is_digit}
use Rattle.pnm.specs.Reading.{wanted_of, width_of, height_of, has_colours}
use Rattle.pnm.specs.Grammar.{Each, IsNumber, none, space, IsGap, raw_bytes, UpTo, second_byte, IsFile}
use Rattle.pnm.specs.Text.{magic, numbers, sample_bytes, text_of}
use Rattle.pnm.specs.Laws.{FilesAreRead, TextsAreFiles, WrittenIsRead}
use Rattle.pnm.proofs.FilesRead.{file_read}

pub Each-append : (p : ℕ → Bool) (xs ys : List ℕ) → Each p xs → Each p ys → Each p (xs ++ ys)
Each-append p [] ys h g = g
Each-append p (x ∷ xs) ys h g = (h.0, Each-append p xs ys h.1 g)

pub length_one_more : (xs : List ℕ) (x : ℕ) → 0 < length (xs ++ x ∷ [])
length_one_more [] x = omega arith
length_one_more (y ∷ xs) x = omega arith

digit_of : (d : ℕ) → d < 10 → is_digit (48 + d) ≡ true
digit_of d h = let a = le-leb 48 (48 + d) (omega arith) in let z = le-leb (48 + d) 57 (omega arith) in rw (a, z) refl

one_digit : (n : ℕ) → n < 10 → IsNumber n ((48 + n) ∷ [])
one_digit n h = record { some = omega arith; each = (digit_of n h, tt); value = omega arith }

one_digit_more : (n : ℕ) (ds : List ℕ) → 10 ≤ n → IsNumber (n / 10) ds → IsNumber n (ds ++ ((48 + n % 10) ∷ []))
one_digit_more n ds h g =
    let low : n % 10 < 10 = mod-lt n (omega arith) in
    let front = g.value in
    record {
      some = length_one_more ds (48 + n % 10);
      each = Each-append is_digit ds ((48 + n % 10) ∷ []) g.each (digit_of (n % 10) low, tt);
      value = fold-append (λ m b. m * 10 + (b - 48)) 0 ds ((48 + n % 10) ∷ []) ∙ (ap (λ m. m * 10 + (48 + n % 10 - 48)) front ∙ (ap (λ d. n / 10 * 10 + d) (back (n % 10)) ∙ div-add-mod' n 10));
    }
  where
    back : (d : ℕ) → 48 + d - 48 ≡ d
    back d = omega arith

decimal_is_number : (n : ℕ) → n < 2 ^ 64 → IsNumber n (decimal n)
decimal_is_number n h = decimal_by_steps IsNumber one_digit one_digit_more n h

up_to : (m : ℕ) (samples : List ℕ) → All (λ s. s ≤ m) samples → UpTo m samples
up_to m [] h = tt
up_to m (x ∷ xs) h = (h 0 x (omega arith), up_to m xs (λ k d l. h (suc k) d (omega arith)))

-- the bytes of a sample are those of the grammar
same_bytes : (t : Ty) (n : ℕ) → IsSampleType t → n ≤ max_sample t → sample_bytes t n ≡ raw_bytes (max_sample t) n
same_bytes U8 n h l = let small : n < 256 = omega arith in ap (λ m. m ∷ []) (mod-eq_of_lt small)
same_bytes U16 n h l = refl
same_bytes U32 n h l = absurd h
same_bytes I8 n h l = absurd h
same_bytes I16 n h l = absurd h
same_bytes I32 n h l = absurd h

same_raster : (t : Ty) (samples : List ℕ) → IsSampleType t → UpTo (max_sample t) samples → flat_map (sample_bytes t) samples ≡ flat_map (raw_bytes (max_sample t)) samples
same_raster t [] h g = refl
same_raster t (n ∷ samples) h g = (λ i. same_bytes t n h g.0 i ++ same_raster t samples h g.1 i)

magic_is : (c : Bool) (xs ys : List ℕ) → magic c ++ xs ++ ys ≡ 80 ∷ second_byte c Raw ∷ ((10 ∷ []) ++ (xs ++ ys))
magic_is true xs ys = refl
magic_is false xs ys = refl

joined : (a b c d : List ℕ) → (a ++ 32 ∷ []) ++ (b ++ 10 ∷ []) ++ (c ++ 10 ∷ []) ++ d ≡ a ++ ((32 ∷ []) ++ (b ++ ((10 ∷ []) ++ (c ++ 10 ∷ d))))
joined a b c d =
    append_assoc ((a ++ 32 ∷ []) ++ (b ++ 10 ∷ [])) (c ++ 10 ∷ []) d
    ∙ (append_assoc (a ++ 32 ∷ []) (b ++ 10 ∷ []) ((c ++ 10 ∷ []) ++ d)
    ∙ (append_assoc a (32 ∷ []) ((b ++ 10 ∷ []) ++ ((c ++ 10 ∷ []) ++ d))
    ∙ ap (λ r. a ++ 32 ∷ r) (append_assoc b (10 ∷ []) ((c ++ 10 ∷ []) ++ d) ∙ ap (λ r. b ++ 10 ∷ r) (append_assoc c (10 ∷ []) d))))

gap_of : (b : ℕ) → is_space b ≡ true → IsGap (b ∷ [])
gap_of b h = record { some = omega arith; items = space h none }

-- the bounds of an image's numbers
some_product : (a b : ℕ) → 1 ≤ a → 0 < b → 0 < a * b
some_product a b h g = let far = mul-le-mul_left a g in omega arith

pub record Bounds (extents : List ℕ) : Type 0 where
  pub count : 0 < sample_count extents
  pub width : width_of extents ≤ 8192
  pub height : height_of extents ≤ 8192

pub bounds : (extents : List ℕ) → AreExtents extents → Bounds extents
bounds [] h = absurd h
bounds (w ∷ []) h = record { count = omega (arith, h.0); width = h.1; height = omega arith }
bounds (w ∷ v ∷ []) h = record { count = some_product w (v * 1) h.0.0 (some_product v 1 h.1.0 (omega arith)); width = h.0.1; height = h.1.1 }
bounds (w ∷ v ∷ c ∷ []) h = record { count = some_product w (v * (c * 1)) h.0.0 (some_product v (c * 1) h.1.0 (omega (arith, h.2))); width = h.0.1; height = h.1.1 }
bounds (w ∷ v ∷ c ∷ d ∷ es) h = absurd h

least_max : (t : Ty) → IsSampleType t → (1 ≤ max_sample t) × (max_sample t ≤ 65535)
least_max U8 h = (omega arith, omega arith)
least_max U16 h = (omega arith, omega arith)
least_max U32 h = absurd h
least_max I8 h = absurd h
least_max I16 h = absurd h
least_max I32 h = absurd h

text_is_file : (t : Ty) (extents samples : List ℕ) → IsSampleType t → AreExtents extents → length samples ≡ sample_count extents → UpTo (max_sample t) samples
    → IsFile (wanted_of (record { ty = t; extents = extents })) (text_of (record { ty = t; extents = extents; samples = samples })) samples
text_is_file t extents samples ht he count range =
    let b = bounds extents he in
    let m = least_max t ht in
    let wide = b.width in
    let high = b.height in
    record {
      form = Raw;
      max = max_sample t;
      before_width = 10 ∷ [];
      width = decimal (width_of extents);
      before_height = 32 ∷ [];
      height = decimal (height_of extents);
      before_max = 10 ∷ [];
      greatest = decimal (max_sample t);
      space = 10;
      raster = flat_map (sample_bytes t) samples;
      whole = magic_is (has_colours extents) (numbers t extents) (flat_map (sample_bytes t) samples)
          ∙ ap (λ r. 80 ∷ second_byte (has_colours extents) Raw ∷ ((10 ∷ []) ++ r)) (joined (decimal (width_of extents)) (decimal (height_of extents)) (decimal (max_sample t)) (flat_map (sample_bytes t) samples));
      first_gap = gap_of 10 refl;
      second_gap = gap_of 32 refl;
      third_gap = gap_of 10 refl;
      is_width = decimal_is_number (width_of extents) (omega arith);
      is_height = decimal_is_number (height_of extents) (omega arith);
      is_max = decimal_is_number (max_sample t) (omega (arith, m.1));
      least = m.0;
      most = m.1;
      in_type = omega arith;
      after_max = refl;
      is_raster = (range, same_raster t samples ht range);
      count = count;
    }

pub texts_are_files : TextsAreFiles
texts_are_files f p shape image =
    let same : text_of (record { ty = f.ty; extents = f.extents; samples = p.samples }) ≡ text_of p =
    (λ i. text_of (record { ty = sym image.ty i; extents = sym image.extents i; samples = p.samples })) in
    subst (λ bytes. IsFile (wanted_of f) bytes p.samples) same (text_is_file f.ty f.extents p.samples shape.ty shape.extents image.count (up_to (max_sample f.ty) p.samples image.range))

pub files_are_read : FilesAreRead
files_are_read f bytes samples shape file =
    let b = bounds f.extents shape.extents in
    let wide = b.width in
    let high = b.height in
    file_read (wanted_of f) bytes samples b.count (omega arith) (omega arith) file

pub written_is_read : WrittenIsRead
written_is_read f p shape image = files_are_read f (text_of p) p.samples shape (texts_are_files f p shape image)
