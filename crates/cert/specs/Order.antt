-- Which lines have a text, and which may follow which.
use Rattle.std.specs.Prelude.{◌≡◌, ℕ, ◌+◌, Bool, true, false, ◌&&◌, ◌==◌, nat_lt, List, [], ◌∷◌}
use Rattle.std.specs.Str.{bytes_eq}
use Rattle.spelling.specs.Words.Fitting.{fits_symbol, fits_span, fits_region, is_name}
use Rattle.spelling.specs.Sizes.Sizes.{fits_size}
use Rattle.cert.specs.declared.line.Mark.{Mark}
use Rattle.cert.specs.declared.line.Mark.TheVariants as mark
use Rattle.cert.specs.Lines.{Line, Head, OwnLine, NeedLine, ClaimLine, WindowLine, End, mark_of}
use Rattle.cert.specs.Spelling.{line_text}

-- The parts of the line have a text, and there are at most 4096 claims.
abbrev pub fits_line : Line → Bool
fits_line Head = true
fits_line (OwnLine o) = fits_size o.group && fits_region o.region
fits_line (NeedLine n) = fits_size n.group && fits_size n.needed && fits_region n.region
fits_line (ClaimLine k c) = nat_lt k 4096 && fits_size c.line && fits_size c.buffer && is_name c.function && fits_size c.definition && fits_region c.region
fits_line (WindowLine w) = fits_size w.claim && fits_symbol w.symbol && fits_size w.dimension && fits_size w.fold && fits_span w.span
fits_line End = true

-- the line `cert` comes first
abbrev pub is_start : Mark → Bool
is_start mark.Start = true
is_start _ = false

-- own regions come by rising group behind the line `cert`
abbrev pub may_precede_own : Mark → ℕ → Bool
may_precede_own mark.Head g = true
may_precede_own (mark.Own last) g = nat_lt last g
may_precede_own _ g = false

-- then the needed regions
abbrev pub may_precede_need : Mark → Bool
may_precede_need mark.Head = true
may_precede_need (mark.Own g) = true
may_precede_need mark.Need = true
may_precede_need _ = false

-- then the claims by their numbers, from 0 on
abbrev pub may_precede_claim : Mark → ℕ → Bool
may_precede_claim (mark.Claim last) k = k == last + 1
may_precede_claim last k = k == 0 && may_precede_need last

-- then the windows, and `end`
abbrev pub is_inside : Mark → Bool
is_inside mark.Start = false
is_inside mark.End = false
is_inside _ = true

abbrev pub may_follow : Mark → Mark → Bool
may_follow last mark.Start = false
may_follow last mark.Head = is_start last
may_follow last (mark.Own g) = may_precede_own last g
may_follow last mark.Need = may_precede_need last
may_follow last (mark.Claim k) = may_precede_claim last k
may_follow last mark.Window = is_inside last
may_follow last mark.End = is_inside last

-- lines that may stand behind one of that mark, in this order
abbrev pub may_stand : Mark → List Line → Bool
may_stand last [] = true
may_stand last (l ∷ ls) = may_follow last (mark_of l) && fits_line l && may_stand (mark_of l) ls

-- whether the bytes are those of a line that may stand behind one of that mark
abbrev pub is_next : Mark → List ℕ → Line → Bool
is_next last bytes line = fits_line line && may_follow last (mark_of line) && bytes_eq (line_text line) bytes

abbrev pub IsNext : Mark → List ℕ → Line → Type 0
IsNext last bytes line = is_next last bytes line ≡ true
