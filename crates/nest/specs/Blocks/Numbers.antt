-- The numbers that a plan's lines give to groups, symbols and buffers, and where in their group they stand.
use Rattle.std.specs.Prelude.{ℕ, ◌+◌, Bool, true, ◌&&◌, ◌==◌, nat_lt, nat_le, List, [], ◌∷◌, length}
use Rattle.nest.specs.Blocks.Line.{Line, GroupLine, ForLine, LetLine, AllocLine}
use Rattle.nest.specs.Blocks.Stages.{Stage, outside, has_depth, stage_after}

-- the next group, and the next symbol and the next buffer of the last one, and where in it the next line stands
pub record Count : Type 0 where
  pub groups : ℕ
  pub symbols : ℕ
  pub buffers : ℕ
  pub stage : Stage

abbrev pub start : Count
start = record { groups = 0; symbols = 0; buffers = 0; stage = outside }

abbrev pub most_symbols : ℕ
most_symbols = 256

abbrev pub most_buffers : ℕ
most_buffers = 256

-- whether the numbers of the line's symbols, or of its buffer, are within the limits
abbrev pub has_small_number : Line → Bool
has_small_number (GroupLine g f region grid) = nat_le (length grid) most_symbols
has_small_number (ForLine i x kind) = nat_lt i most_symbols
has_small_number (LetLine i pick forms) = nat_lt i most_symbols
has_small_number (AllocLine b f places) = nat_lt b most_buffers
has_small_number _ = true

-- whether the line passes no limit where so much has been counted
abbrev pub has_room : Line → Count → Bool
has_room l c = has_small_number l && has_depth l c.stage

-- whether what the line numbers has the next number
abbrev pub is_next : Line → Count → Bool
is_next (GroupLine n f region grid) c = n == c.groups
is_next (ForLine i x kind) c = i == c.symbols
is_next (LetLine i pick forms) c = i == c.symbols
is_next (AllocLine b f places) c = b == c.buffers
is_next _ c = true

-- how many groups, symbols and buffers there are behind the line: a group's grid has its first symbols
abbrev pub groups_after : Line → Count → ℕ
groups_after (GroupLine n f region grid) c = c.groups + 1
groups_after _ c = c.groups

abbrev pub symbols_after : Line → Count → ℕ
symbols_after (GroupLine n f region grid) c = length grid
symbols_after (ForLine i x kind) c = c.symbols + 1
symbols_after (LetLine i pick forms) c = c.symbols + 1
symbols_after _ c = c.symbols

abbrev pub buffers_after : Line → Count → ℕ
buffers_after (GroupLine n f region grid) c = 0
buffers_after (AllocLine b f places) c = c.buffers + 1
buffers_after _ c = c.buffers

-- what has been counted behind the line
abbrev pub after : Line → Count → Count
after l c = record { groups = groups_after l c; symbols = symbols_after l c; buffers = buffers_after l c; stage = stage_after l c.stage }

-- groups are numbered from 0, and symbols and buffers in each group, by the lines that define them, within the limits
abbrev pub are_numbered : Count → List Line → Bool
are_numbered c [] = true
are_numbered c (l ∷ ls) = has_room l c && is_next l c && are_numbered (after l c) ls
