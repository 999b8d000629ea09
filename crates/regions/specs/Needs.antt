-- Which pieces of another function a need line names: of each of its parallel loops the turns whose blocks have a number of what is fetched, where these are told by
-- forms, and else all turns.
use Rattle.std.specs.Prelude.{ℕ, ℤ, pos, ◌-ℤ◌, int_le, Bool, ◌&&◌, if◌then◌else◌, List, [], ◌∷◌, ◌++◌, Option, Some, None, slice_get}
use Rattle.std.specs.Ordering.{int_eq}
use Rattle.numeric.specs.Apply.{quotient, remainder}
use Rattle.lin.specs.Forms.{Form, number, combined}
use Rattle.lin.specs.declared.form.Multiple.{Multiple}
use Rattle.lin.specs.declared.span.Span1.{Span1}
use Rattle.bounds.specs.Spans.{numbers}
use Rattle.meaning.specs.Names.{same_name}
use Rattle.sched.specs.declared.schedule.Split.{Split}
use Rattle.sched.specs.declared.placing.Loop.{Loop}
use Rattle.sched.specs.declared.numbers.Extent.{Extent}
use Rattle.sched.specs.Placing.{is_parallel}
use Rattle.sched.specs.Standing.{◌>>=◌, alone}
use Rattle.sched.specs.Blocks.{difference, factor_of}
use Rattle.sched.specs.Stored.{StoredText}

-- ---- forms by a divisor

abbrev pub is_multiple : ℤ → Multiple → Bool
is_multiple n t = int_eq (remainder t.factor n) (pos 0)

-- a form, and one term more, whose factor is divided; None outside the limits of forms
abbrev pub plus_part : ℤ → Form → Multiple → Option Form
plus_part n f t = combined f (quotient t.factor n) (alone t.symbol)

-- a form, and terms more, whose factors are divided; None where one is no multiple of the divisor, too
abbrev pub plus_parts : ℤ → Form → List Multiple → Option Form
plus_parts n f [] = Some f
plus_parts n f (t ∷ ts) = if is_multiple n t then (plus_part n f t >>= λ g. plus_parts n g ts) else None

-- the form by a positive divisor, rounded down
abbrev pub divided : ℤ → Form → Option Form
divided n f = if int_le n (pos 0) then None else plus_parts n (number (quotient f.constant n)) f.terms

-- ---- blocks

-- the number of the block that a form's number falls in, where blocks have n numbers and the first begins at low
abbrev pub block_at : ℤ → ℤ → Form → Option Form
block_at low n f = combined (number (difference (pos 0) low)) (pos 1) f >>= divided n

abbrev pub add_blocks : ℤ → ℤ → List Form → List Form → Option (List Form)
add_blocks low n before [] = Some before
add_blocks low n before (f ∷ fs) = block_at low n f >>= λ b. add_blocks low n (before ++ b ∷ []) fs

-- those of the numbers of a span; None where a form does not fall on the blocks' ends
abbrev pub blocks_over : ℤ → ℤ → Span1 → Option Span1
blocks_over low n s = add_blocks low n [] s.lower >>= λ ls. add_blocks low n [] s.upper >>= λ us. Some (record { lower = ls; upper = us })

-- ---- the turns of a loop

-- how many numbers of this variable a turn of the loop of this name has, where it is the outer loop of a split of the variable
abbrev pub split_length : List ℕ → List ℕ → List Split → Option ℤ
split_length v x [] = None
split_length v x (c ∷ cs) = if same_name c.outer x && same_name c.whole v then Some (factor_of c) else split_length v x cs

-- the same, or 1 where the loop is the variable's own
abbrev pub length_of : List ℕ → List ℕ → List Split → Option ℤ
length_of v x cs = if same_name x v then Some (pos 1) else split_length v x cs

-- all turns of a loop that has so many
abbrev pub all_turns : ℕ → Span1
all_turns count = numbers (pos 0) (pos count -ℤ pos 1)

abbrev pub or_all_turns : ℕ → Option Span1 → Span1
or_all_turns count None = all_turns count
or_all_turns count (Some s) = s

-- how many turns the next parallel loop has, and those of the ones behind it
abbrev pub first_count : List ℕ → ℕ
first_count [] = 1
first_count (n ∷ ns) = n

abbrev pub other_counts : List ℕ → List ℕ
other_counts [] = []
other_counts (n ∷ ns) = ns

-- how many numbers of its dimension a turn of the loop has, where they are a block
abbrev pub length_at : StoredText → Loop → Option ℤ
length_at g l = slice_get g.subject.variables l.dimension >>= λ v. length_of v l.name g.placed.cuts

-- the first number of its dimension
abbrev pub low_at : List Extent → Loop → Option ℤ
low_at region l = slice_get region l.dimension >>= λ e. Some e.low

-- the blocks of the numbers that are taken in a dimension
abbrev pub turns_over : List Span1 → ℕ → ℤ → ℤ → Option Span1
turns_over taken d low n = slice_get taken d >>= λ s. blocks_over low n s

module _ (g : StoredText) (region : List Extent) (taken : List Span1) where
  -- the turns whose blocks have a number of what is taken
  abbrev pub turns_found : Loop → Option Span1
  turns_found l = length_at g l >>= λ n. low_at region l >>= λ low. turns_over taken l.dimension low n

  -- those, or all
  abbrev pub turns_needed : Loop → ℕ → Span1
  turns_needed l count = or_all_turns count (turns_found l)

  -- of each parallel loop among these
  abbrev pub loops_needed : List Loop → List ℕ → List Span1
  loops_needed [] counts = []
  loops_needed (l ∷ ls) counts =
      if is_parallel l then turns_needed l (first_count counts) ∷ loops_needed ls (other_counts counts) else loops_needed ls counts

-- the one piece, where no loop is parallel
abbrev pub or_one_piece : List Span1 → List Span1
or_one_piece [] = numbers (pos 0) (pos 0) ∷ []
or_one_piece (s ∷ ss) = s ∷ ss

-- the pieces of a function over a region, where its parallel loops have so many turns, that own what is taken of it
abbrev pub pieces_needed : StoredText → List Extent → List ℕ → List Span1 → List Span1
pieces_needed g region counts taken = or_one_piece (loops_needed g region taken g.placed.loops counts)
