-- The codes of refusals are texts of two or three bytes below 128.
use Rattle.std.proofs.Common.{◌≡◌, ℕ, ◌&&◌, ◌||◌, Bool, List, [], ◌∷◌, true, false, sym, subst, refl, nat_lt}
use Rattle.std.proofs.lemmas.Bool.{and_parts, ltb-true}
use Rattle.std.proofs.lemmas.Slice.Eq.{bytes_eq-Decides}
use Rattle.std.proofs.lemmas.Str.{IsUtf8-from_ascii}
use Rattle.std.proofs.lemmas.Str.Ascii.{IsAscii-cons, IsAscii-nil}
use Rattle.std.specs.List.{list_all}
use Rattle.std.specs.Str.{IsAscii, IsUtf8, bytes_eq}
use Rattle.report.specs.Codes.Codes.{is_among, is_code, of_algorithms, of_images, of_plans, of_schedules, of_tiles}

-- whether a text is of two or three bytes below 128
abbrev is_short : List ℕ → Bool
is_short [] = false
is_short (a ∷ []) = false
is_short (a ∷ b ∷ []) = nat_lt a 128 && nat_lt b 128
is_short (a ∷ b ∷ c ∷ []) = nat_lt a 128 && (nat_lt b 128 && nat_lt c 128)
is_short (a ∷ b ∷ c ∷ d ∷ rest) = false

either : {P : Type 0} (b c : Bool) → (b || c) ≡ true → (b ≡ true → P) → (c ≡ true → P) → P
either true c h f g = f refl
either false c h f g = g h

among : (known : List (List ℕ)) (code : List ℕ) → list_all is_short known ≡ true → is_among known code ≡ true → is_short code ≡ true
among [] code all h = absurd (cc h)
among (k ∷ known) code all h =
    let both = and_parts (is_short k) (list_all is_short known) all in
    either (bytes_eq code k) (is_among known code) h
    (λ e. subst (λ x. is_short x ≡ true) (sym ((bytes_eq-Decides code k).0 e)) both.0)
    (λ e. among known code both.1 e)

short_code : (code : List ℕ) → is_code code ≡ true → is_short code ≡ true
short_code code h =
    either (is_among of_algorithms code) (is_among of_schedules code || (is_among of_plans code || (is_among of_tiles code || is_among of_images code))) h
    (among of_algorithms code refl)
    (λ h. either (is_among of_schedules code) (is_among of_plans code || (is_among of_tiles code || is_among of_images code)) h
    (among of_schedules code refl)
    (λ h. either (is_among of_plans code) (is_among of_tiles code || is_among of_images code) h
    (among of_plans code refl)
    (λ h. either (is_among of_tiles code) (is_among of_images code) h (among of_tiles code refl) (among of_images code refl))))

not_so : (b : Bool) → (b ≡ true → false ≡ b) → false ≡ b
not_so true f = f refl
not_so false f = refl

ascii : (code : List ℕ) → is_short code ≡ true → IsAscii code
ascii [] h = absurd (cc h)
ascii (a ∷ []) h = absurd (cc h)
ascii (a ∷ b ∷ []) h =
    let both = and_parts (nat_lt a 128) (nat_lt b 128) h in
    IsAscii-cons a (b ∷ []) (ltb-true a 128 both.0) (IsAscii-cons b [] (ltb-true b 128 both.1) IsAscii-nil)
ascii (a ∷ b ∷ c ∷ []) h =
    let both = and_parts (nat_lt a 128) (nat_lt b 128 && nat_lt c 128) h in
    let rest = and_parts (nat_lt b 128) (nat_lt c 128) both.1 in
    IsAscii-cons a (b ∷ c ∷ []) (ltb-true a 128 both.0) (IsAscii-cons b (c ∷ []) (ltb-true b 128 rest.0) (IsAscii-cons c [] (ltb-true c 128 rest.1) IsAscii-nil))
ascii (a ∷ b ∷ c ∷ d ∷ rest) h = absurd (cc h)

-- what is no text is no code
pub no_text : (code : List ℕ) → ¬ (IsUtf8 code) → false ≡ is_code code
no_text code other = not_so (is_code code) (λ h. absurd (other (IsUtf8-from_ascii code (ascii code (short_code code h)))))
