-- Names are ASCII.
use Rattle.std.proofs.Common.{◌≡◌, ℕ, ◌<◌, ◌≤◌, Bool, true, false, List, length, get_or, refl, arith}
use Rattle.std.specs.Prelude.{nat_lt}
use Rattle.std.specs.List.{AllPass}
use Rattle.std.specs.Str.{IsUtf8}
use Rattle.std.proofs.lemmas.Bool.Decides.{nat_tests}
use Rattle.std.proofs.lemmas.List.{get_or_past}
use Rattle.std.proofs.lemmas.Str.{IsUtf8-from_ascii}
use Rattle.spelling.specs.Terms.Reading.{is_name_byte}

name_byte_is_ascii : (b : ℕ) → is_name_byte b ≡ true → b < 128
name_byte_is_ascii b h = grind (arith, nat_tests)

ascii_at : (text : List ℕ) (i : ℕ) (b : Bool) → AllPass is_name_byte text → nat_lt i (length text) ≡ b → get_or text i 0 < 128
ascii_at text i true h e = let lt : i < length text = grind (arith, nat_tests) in name_byte_is_ascii (get_or text i 0) (h i 0 lt)
ascii_at text i false h e = let le : length text ≤ i = grind (arith, nat_tests) in omega (arith, get_or_past text i 0 le)

pub name_is_utf8 : (text : List ℕ) → AllPass is_name_byte text → IsUtf8 text
name_is_utf8 text h = IsUtf8-from_ascii text (λ i. ascii_at text i (nat_lt i (length text)) h refl)
