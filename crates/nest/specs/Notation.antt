-- How plans are written.
use Rattle.std.specs.Prelude.{◌≡◌, ℕ, ◌+◌, Bool, false, ◌&&◌, ◌||◌, not, nat_le, List, [], ◌∷◌, length, map}
use Rattle.std.specs.List.{list_all, list_any}
use Rattle.std.specs.Str.{bytes_eq}
use Rattle.lin.specs.Forms.{Form}
use Rattle.lin.specs.declared.span.Span1.{Span1}
use Rattle.plan.specs.Plan.{Plan}
use Rattle.plan.specs.Lines.{certificate_line}
use Rattle.spelling.specs.Lines.Texts.{Notation}
use Rattle.spelling.specs.Words.Reading.{has_large_number}
use Rattle.spelling.specs.Terms.Fitting.{has_deep_brackets}
use Rattle.nest.specs.Blocks.Line.{Line, GroupLine, ForLine, LetLine, FetchLine}
use Rattle.nest.specs.Blocks.Flat.{plan_lines}
use Rattle.nest.specs.Blocks.Shape.{is_canonical}
use Rattle.nest.specs.Blocks.Form.{is_in_form}
use Rattle.nest.specs.Blocks.Stages.{may_stand}
use Rattle.nest.specs.Blocks.Numbers.{Count, start, has_room, is_next, after, are_numbered}
use Rattle.nest.specs.Spelling.{line_text}
use Rattle.nest.specs.Fitting.{fits_line}
use Rattle.nest.specs.Reading.{line_from}

-- each body is a block, each group has the form of groups, symbols and buffers are numbered in order within their limits, and each line can be read
abbrev pub fits_plan : Plan → Bool
fits_plan p = is_canonical p && is_in_form p && are_numbered start (plan_lines p) && list_all fits_line (plan_lines p)

-- ---- limits

abbrev pub is_long : List Form → Bool
is_long forms = not (nat_le (length forms) 4)

abbrev pub has_long_side : Span1 → Bool
has_long_side span = is_long span.lower || is_long span.upper

abbrev pub any_has_long_side : List Span1 → Bool
any_has_long_side spans = list_any has_long_side spans

-- some list of bounds has more than four
abbrev pub has_long_list : Line → Bool
has_long_list (GroupLine n f region grid) = any_has_long_side region
has_long_list (ForLine i span kind) = has_long_side span
has_long_list (LetLine i pick forms) = is_long forms
has_long_list (FetchLine b g region) = any_has_long_side region
has_long_list _ = false

-- the line may stand where so much has been counted, with the number that is next, but there is no room for it
abbrev pub is_one_too_many : Line → Count → Bool
is_one_too_many l c = may_stand l c.stage && is_next l c && not (has_room l c)

-- the text is a line's, which has too long a list or is one too many
abbrev pub is_past : Count → List ℕ → Bool
is_past c line = bytes_eq (line_text (line_from line)) line && (has_long_list (line_from line) || is_one_too_many (line_from line) c)

-- a number is none of 64 bits, or brackets stand too deep, or the line is past a limit of lists, symbols, buffers or blocks
abbrev pub is_large_at : Count → List ℕ → Bool
is_large_at c line = has_large_number line || has_deep_brackets line || is_past c line

-- what lines count
abbrev pub counted : Count → List (List ℕ) → Count
counted c [] = c
counted c (l ∷ ls) = counted (after (line_from l) c) ls

abbrev pub plan_notation : Notation Plan
plan_notation = record { lines = λ p. map line_text (plan_lines p); fits = fits_plan; is_large = λ front line. is_large_at (counted start front) line }

-- a plan's lines are counted as the line `cert` behind them is
abbrev pub LinesAreCounted : Type 0
LinesAreCounted = (p : Plan) → length (plan_notation.lines p) + 1 ≡ certificate_line p
