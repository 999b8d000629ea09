-- The numbers that stores' coordinates may have, those of the symbols that other forms name, and the turns of marked loops.
use Rattle.std.specs.Prelude.{ℕ, ◌+◌, ◌-◌, ◌^◌, ◌&&◌, ◌||◌, min, Bool, true, false, not, if◌then◌else◌, List, [], ◌∷◌, ◌++◌, Option, Some, None, ℤ, pos, neg_ℤ}
use Rattle.std.specs.List.{list_all}
use Rattle.lin.specs.Forms.{Form, number}
use Rattle.lin.specs.declared.span.Span1.{Span1}
use Rattle.plan.specs.declared.stmt.Kind.{Kind}
use Rattle.plan.specs.declared.stmt.Kind.TheVariants.{Serial, Unroll, Vector}
use Rattle.plan.specs.declared.stmt.Places.{Places}
use Rattle.plan.specs.declared.stmt.Places.TheVariants.{From, Folded}
use Rattle.plan.specs.Plan.{Index, At, Found, Statement, Seq, For, Let, First, Guard, Alloc, Fetch, Store, Publish, Statements, Empty, Then}
use Rattle.plan.specs.Lines.{lines}
use Rattle.soundness.specs.Obligations.{Binder, Ranged, Picked, Passed, Rules, exactly}
use Rattle.soundness.specs.Shown.{is_within}
use Rattle.soundness.specs.Nests.Tests.{is_short}

-- from one number to another
abbrev pub from_to : ℤ → ℤ → Span1
from_to a b = record { lower = number a ∷ []; upper = number b ∷ [] }

-- the numbers of a symbol that is near: not farther than 2^39 from 0, so that forms over such symbols are 64-bit numbers
abbrev pub symbol_span : Span1
symbol_span = from_to (neg_ℤ (pos (2 ^ 39))) (pos (2 ^ 39))

-- the numbers of a store's coordinate: those of an i32
abbrev pub coordinate_span : Span1
coordinate_span = from_to (neg_ℤ (pos (2 ^ 31))) (pos (2 ^ 31 - 1))

-- the form that is the symbol alone
abbrev pub alone : ℕ → Form
alone i = record { constant = pos 0; terms = record { symbol = i; factor = pos 1 } ∷ [] }

-- the binders behind a statement of a block
abbrev pub binders_after : Statement → List Binder → List Binder
binders_after (Let i pick ls) bs = Picked i pick ls ∷ bs
binders_after _ bs = bs

-- the loop is marked: its turns are written out, or are lanes
abbrev pub is_marked : Kind → Bool
is_marked Serial = false
is_marked Unroll = true
is_marked Vector = true

-- the line, unless the test holds
abbrev pub line_unless : Bool → ℕ → List ℕ
line_unless true line = []
line_unless false line = line ∷ []

-- these lines, or where there are none the line before them
abbrev pub or_line : ℕ → List ℕ → List ℕ
or_line line [] = line ∷ []
or_line line (n ∷ ns) = n ∷ ns

-- the lines of the stores of a statement that begins at the line
abbrev mutual
  pub store_lines : ℕ → Statement → List ℕ
  store_lines line (Seq all) = block_store_lines line all
  store_lines line (For i x kind body) = store_lines (line + 1) body
  store_lines line (Let i pick ls) = []
  store_lines line (First i a b) = store_lines (line + 1) a ++ store_lines (line + 2 + lines a) b
  store_lines line (Guard low high body) = store_lines (line + 1) body
  store_lines line (Alloc b f places) = []
  store_lines line (Fetch b g region) = []
  store_lines line (Store b k at e) = line ∷ []
  store_lines line (Publish c) = []

  pub block_store_lines : ℕ → Statements → List ℕ
  block_store_lines line Empty = []
  block_store_lines line (Then a rest) = store_lines line a ++ block_store_lines (line + lines a) rest

module _ (rules : Rules) where
  -- the symbol is shown to be near
  abbrev pub is_near : List Binder → ℕ → Bool
  is_near bs i = is_within rules bs (exactly (alone i)) symbol_span

  -- each symbol of the form, of the span, of the places is
  abbrev pub is_near_form : List Binder → Form → Bool
  is_near_form bs f = list_all (λ t. is_near bs t.symbol) f.terms

  abbrev pub is_near_span : List Binder → Span1 → Bool
  is_near_span bs x = list_all (is_near_form bs) x.lower && list_all (is_near_form bs) x.upper

  abbrev pub are_near_places : List Binder → Places → Bool
  are_near_places bs (From l n) = is_near_form bs l
  are_near_places bs (Folded n) = true

  -- a coordinate that is a form is shown to be an i32
  abbrev pub is_i32 : List Binder → Index → Bool
  is_i32 bs (At l) = is_within rules bs (exactly l) coordinate_span
  is_i32 bs (Found e) = true

  -- a marked loop is shown to have 64 turns at most
  abbrev pub has_few_turns : List Binder → Span1 → Kind → Bool
  has_few_turns bs x kind = not (is_marked kind) || is_short rules bs x 64

  abbrev mutual
    -- of a statement that begins at the line, the lines with a number that is not shown to be small: stores with a coordinate
    -- that is not shown to be an i32, lines with a symbol that is not shown to be near, and marked loops that are not shown to
    -- have few turns; a loop or a guard over such symbols is told at the stores inside it, which are all that is asked there, or
    -- by itself where it has none
    pub wide_lines : List Binder → ℕ → Statement → List ℕ
    wide_lines bs line (Seq all) = block_wide_lines bs line all
    wide_lines bs line (For i x kind body) =
        if is_near_span bs x then line_unless (has_few_turns bs x kind) line ++ wide_lines (Ranged i x ∷ bs) (line + 1) body
        else or_line line (store_lines (line + 1) body)
    wide_lines bs line (Let i pick ls) = line_unless (list_all (is_near_form bs) ls) line
    wide_lines bs line (First i a b) = wide_lines bs (line + 1) a ++ wide_lines bs (line + 2 + lines a) b
    wide_lines bs line (Guard low high body) =
        if is_near_form bs low && is_near_form bs high then wide_lines (Passed low high ∷ bs) (line + 1) body
        else or_line line (store_lines (line + 1) body)
    wide_lines bs line (Alloc b f places) = line_unless (list_all (are_near_places bs) places) line
    wide_lines bs line (Fetch b g region) = line_unless (list_all (is_near_span bs) region) line
    wide_lines bs line (Store b k at e) = line_unless (list_all (λ c. is_i32 bs c.index) at) line
    wide_lines bs line (Publish c) = []

    pub block_wide_lines : List Binder → ℕ → Statements → List ℕ
    block_wide_lines bs line Empty = []
    block_wide_lines bs line (Then a rest) = wide_lines bs line a ++ block_wide_lines (binders_after a bs) (line + lines a) rest

-- lines past 2^32 - 1 are told as that
abbrev pub told : ℕ → ℕ
told line = min line (2 ^ 32 - 1)

-- the first of the lines
abbrev pub first_told : List ℕ → Option ℕ
first_told [] = None
first_told (n ∷ ns) = Some (told n)
