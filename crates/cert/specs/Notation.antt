-- The texts of certificates.
use Rattle.std.specs.Prelude.{◌≡◌, ◌⊎◌, ℕ, Bool, true, not, ◌&&◌, ◌||◌, false, nat_lt, nat_le, List, [], ◌∷◌, length, map, if◌then◌else◌}
use Rattle.std.specs.List.{list_any}
use Rattle.std.specs.Str.{bytes_eq}
use Rattle.lin.specs.declared.span.Span1.{Span1}
use Rattle.spelling.specs.Words.Reading.{has_large_number}
use Rattle.spelling.specs.Lines.Lines.{lines_text, is_within}
use Rattle.spelling.specs.Lines.Texts.{Notation}
use Rattle.spelling.specs.declared.lines.error.TextError.{TextError}
use Rattle.spelling.specs.declared.lines.error.TextError.TheVariants as error
use Rattle.plan.specs.Certificate.Certificate.{Certificate}
use Rattle.cert.specs.declared.line.Mark.{Mark}
use Rattle.cert.specs.declared.line.Mark.TheVariants as mark
use Rattle.cert.specs.Lines.{Line, OwnLine, NeedLine, ClaimLine, WindowLine, mark_of, lines_of}
use Rattle.cert.specs.Spelling.{line_text}
use Rattle.cert.specs.Reading.{line_from}
use Rattle.cert.specs.Order.{may_precede_claim, may_stand, IsNext}

abbrev pub text_of : List Line → List ℕ
text_of lines = lines_text (map line_text lines)

abbrev pub certificate_lines : Certificate → List (List ℕ)
certificate_lines c = map line_text (lines_of c)

abbrev pub fits_certificate : Certificate → Bool
fits_certificate c = may_stand mark.Start (lines_of c)

-- a list has more than 4 bounds
abbrev pub has_long_side : Span1 → Bool
has_long_side span = nat_lt 4 (length span.lower) || nat_lt 4 (length span.upper)

-- the line has such a list
abbrev pub has_long_list : Line → Bool
has_long_list (OwnLine o) = list_any has_long_side o.region
has_long_list (NeedLine n) = list_any has_long_side n.region
has_long_list (ClaimLine k c) = list_any has_long_side c.region
has_long_list (WindowLine w) = has_long_side w.span
has_long_list _ = false

-- the line is that of the next claim behind one of that mark, and there are 4096 before it
abbrev pub is_one_too_many : Mark → Line → Bool
is_one_too_many last (ClaimLine k c) = may_precede_claim last k && nat_le 4096 k
is_one_too_many last _ = false

-- the bytes are spelled as a line with too many bounds, or as that of one claim too many
abbrev pub is_past : Mark → List ℕ → Bool
is_past last bytes = bytes_eq (line_text (line_from bytes)) bytes && (has_long_list (line_from bytes) || is_one_too_many last (line_from bytes))

-- a number takes more than 64 bits, or there are too many claims or bounds
abbrev pub is_large : Mark → List ℕ → Bool
is_large last bytes = has_large_number bytes || is_past last bytes

-- the mark of the last line
abbrev pub mark_behind : Mark → List (List ℕ) → Mark
mark_behind last [] = last
mark_behind last (bytes ∷ more) = mark_behind (mark_of (line_from bytes)) more

abbrev pub certificate_notation : Notation Certificate
certificate_notation = record { lines = certificate_lines; fits = fits_certificate; is_large = λ front line. is_large (mark_behind mark.Start front) line }

-- the code and the number of a line that is not as it has to be behind one of that mark
abbrev pub refusal : Mark → ℕ → List ℕ → TextError
refusal last number line = if not (is_within number line) || is_large last line then error.Limit number else error.Form number

-- the line is within the limits of a file and may stand behind one of that mark
pub record IsLine (last : Mark) (number : ℕ) (bytes : List ℕ) (line : Line) : Type 0 where
  pub within : is_within number bytes ≡ true
  pub next : IsNext last bytes line

-- memory ran out, or there is no such line, and the code is that of its refusal
abbrev pub IsWrong : Mark → ℕ → List ℕ → TextError → Type 0
IsWrong last number bytes e = (e ≡ error.Memory) ⊎ (e ≡ refusal last number bytes) × ((line : Line) → IsLine last number bytes line → ⊥)
