-- The grammar of image files.
use Rattle.std.specs.Prelude.{◌≡◌, ℕ, ◌+◌, ◌-◌, ◌*◌, ◌/◌, ◌%◌, ◌<◌, ◌≤◌, List, [], ◌∷◌, ◌++◌, fold, length, Bool, true, false, not, nat_lt, if◌then◌else◌}
use Rattle.std.specs.List.{flat_map}
use Rattle.pnm.specs.declared.state.Form.{Form}
use Rattle.pnm.specs.declared.state.Form.TheVariants.{Raw, Plain}
use Rattle.pnm.specs.declared.state.Wanted.{Wanted}
use Rattle.pnm.specs.Bytes.{is_space, ends_comment, is_digit}

-- each of the bytes passes the test
abbrev pub Each : (ℕ → Bool) → List ℕ → Type 0
Each p [] = Unit {0}
Each p (b ∷ bytes) = (p b ≡ true) × Each p bytes

-- the number that digits write, leading zeros among them
abbrev pub number_of : List ℕ → ℕ
number_of digits = fold (λ n b. n * 10 + (b - 48)) 0 digits

-- one digit or more, which write n
pub record IsNumber (n : ℕ) (digits : List ℕ) : Type 0 where
  pub some : 0 < length digits
  pub each : Each is_digit digits
  pub value : number_of digits ≡ n

-- white space and comments; a comment runs from # to the next CR or LF, which belongs to it
pub data Items : List ℕ → Type 0 where
  none : Items []
  space : {b : ℕ} {rest : List ℕ} → is_space b ≡ true → Items rest → Items (b ∷ rest)
  comment : (text : List ℕ) (b : ℕ) (rest : List ℕ) → Each (λ c. not (ends_comment c)) text → ends_comment b ≡ true → Items rest → Items (35 ∷ (text ++ b ∷ rest))

-- one item or more
pub record IsGap (bytes : List ℕ) : Type 0 where
  pub some : 0 < length bytes
  pub items : Items bytes

-- a sample of a raw raster: one byte where the greatest sample is below 256, else two, the more significant first
abbrev pub raw_bytes : ℕ → ℕ → List ℕ
raw_bytes max n = if nat_lt max 256 then n ∷ [] else n / 256 ∷ n % 256 ∷ []

abbrev pub UpTo : ℕ → List ℕ → Type 0
UpTo max [] = Unit {0}
UpTo max (n ∷ samples) = (n ≤ max) × UpTo max samples

-- a plain raster: numbers with white space between them, and any around them
pub data PlainRaster : ℕ → List ℕ → List ℕ → Type 0 where
  last : {max n : ℕ} (before digits after : List ℕ) → Each is_space before → IsNumber n digits → n ≤ max → Each is_space after → PlainRaster max (n ∷ []) (before ++ (digits ++ after))
  more : {max n : ℕ} {samples : List ℕ} (before digits : List ℕ) (b : ℕ) (rest : List ℕ) → Each is_space before → IsNumber n digits → n ≤ max → is_space b ≡ true → PlainRaster max samples rest → PlainRaster max (n ∷ samples) (before ++ (digits ++ b ∷ rest))

abbrev pub IsRaster : Form → ℕ → List ℕ → List ℕ → Type 0
IsRaster Raw max samples bytes = UpTo max samples × (bytes ≡ flat_map (raw_bytes max) samples)
IsRaster Plain max samples bytes = PlainRaster max samples bytes

-- the second byte of the magic: P5 and P6 are raw, P2 and P3 plain; P6 and P3 have colours
abbrev pub second_byte : Bool → Form → ℕ
second_byte true Raw = 54
second_byte true Plain = 51
second_byte false Raw = 53
second_byte false Plain = 50

-- the bytes are the file of a wanted image with these samples:
-- magic, gap, width, gap, height, gap, the greatest sample, a white space byte, raster
pub record IsFile (w : Wanted) (bytes samples : List ℕ) : Type 0 where
  pub form : Form
  pub max : ℕ
  pub before_width : List ℕ
  pub width : List ℕ
  pub before_height : List ℕ
  pub height : List ℕ
  pub before_max : List ℕ
  pub greatest : List ℕ
  pub space : ℕ
  pub raster : List ℕ
  pub whole : bytes ≡ 80 ∷ second_byte w.has_colours form ∷ (before_width ++ (width ++ (before_height ++ (height ++ (before_max ++ (greatest ++ space ∷ raster))))))
  pub first_gap : IsGap before_width
  pub second_gap : IsGap before_height
  pub third_gap : IsGap before_max
  pub is_width : IsNumber w.width width
  pub is_height : IsNumber w.height height
  pub is_max : IsNumber max greatest
  pub least : 1 ≤ max
  pub most : max ≤ 65535
  pub in_type : max ≤ w.max_sample
  pub after_max : is_space space ≡ true
  pub is_raster : IsRaster form max samples raster
  pub count : length samples ≡ w.count
