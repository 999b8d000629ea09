-- The parts of a histogram's piece, and the first turns of its loops.
use Rattle.std.proofs.Common.{◌≡◌, ℕ, suc, ◌+◌, Bool, true, false, List, [], ◌∷◌, subst, inl, inr, arith}
use Rattle.std.specs.Prelude.{ℤ, pos, ◌≤ℤ◌, ◌⊎◌, codes, if◌then◌else◌, slice_index}
use Rattle.std.proofs.lemmas.Int.{ints}
use Rattle.meaning.specs.Image.Raster.{is_within, sample, place as raster_place}
use Rattle.numeric.specs.declared.ty.Ty.TheVariants.{I32, U16}
use Rattle.numeric.specs.Wrap.{wrap}
use Rattle.numeric.proofs.Wraps.{wrap_of_value}
use Rattle.numeric.specs.declared.op.Op.TheVariants.{Add}
use Rattle.tree.specs.Term.{Number, Call, Binary, End, More}
use Rattle.meaning.specs.Algorithm.{Range, Change, Function}
use Rattle.lin.specs.Forms.{number}
use Rattle.lin.specs.declared.span.Span1.{Span1}
use Rattle.plan.specs.declared.stmt.Kind.{Kind}
use Rattle.plan.specs.declared.stmt.Places.TheVariants.{From}
use Rattle.plan.specs.Plan.{Statement, For, Alloc, Store}
use Rattle.plan.specs.Symbols.{Symbols, turns, largest}
use Rattle.plan.specs.Certificate.Cells.{grid_symbols}
use Rattle.plan.specs.Semantics.Worked.{constants, symbol, is, loop}
use Rattle.soundness.specs.Origins.{Given}
use Rattle.soundness.specs.Right.{at_start}
use Rattle.soundness.specs.Given.{given_of, outline_of}
use Rattle.soundness.specs.Claims.{EachTurn, Fact, Scope, IsSound, choose_facts, is_updated, in_turn, turn_symbols, handed_on, left, onward}
use Rattle.soundness.specs.Worked.{hist_algorithm, sampled}
use Rattle.audit.specs.Verdict.Plans.Counts.{counts_group, counts_plan, counts_certificate}

first_of : (P : ℤ → List Fact → Type 0) (next : ℤ → List Fact → List Fact) (carried : List Fact) (zs ys : List ℤ) (z : ℤ) → zs ≡ z ∷ ys → EachTurn P next carried zs → P z carried
first_of P next carried zs ys z e h = (subst (λ ws. EachTurn P next carried ws) e h).0

second_of : (P : ℤ → List Fact → Type 0) (next : ℤ → List Fact → List Fact) (carried : List Fact) (zs ys : List ℤ) (y z : ℤ) → zs ≡ y ∷ z ∷ ys → EachTurn P next carried zs → P z (next y carried)
second_of P next carried zs ys y z e h = (subst (λ ws. EachTurn P next carried ws) e h).1.0

-- what is known in a turn of a loop, and what its first turn begins with
abbrev pub turn_scope : Given → ℕ → Span1 → Statement → Scope → ℤ → List Fact → Scope
turn_scope given i x body sc z carried = in_turn given (turn_symbols given sc.symbols i (largest sc.symbols x.lower) z) body sc carried

abbrev pub begun : Given → Statement → Scope → List Fact
begun given body sc = choose_facts (is_updated given body) sc.facts

-- the first turn of a loop that has one
pub first_turn : (given : Given) (i : ℕ) (x : Span1) (kind : Kind) (body : Statement) (line : ℕ) (sc : Scope) (z : ℤ) (ys : List ℤ) → turns sc.symbols x ≡ z ∷ ys → IsSound given (For i x kind body) line sc →
    IsSound given body (line + 1) (turn_scope given i x body sc z (begun given body sc))
first_turn given i x kind body line sc z ys e h =
    first_of (λ w c. IsSound given body (line + 1) (turn_scope given i x body sc w c)) (λ w c. handed_on given i body (left given body (line + 1) (turn_scope given i x body sc w c)))
    (begun given body sc) (turns sc.symbols x) ys z e h

-- the second turn of a loop that has two
pub second_turn : (given : Given) (i : ℕ) (x : Span1) (kind : Kind) (body : Statement) (line : ℕ) (sc : Scope) (y z : ℤ) (ys : List ℤ) → turns sc.symbols x ≡ y ∷ z ∷ ys → IsSound given (For i x kind body) line sc →
    IsSound given body (line + 1) (turn_scope given i x body sc z (handed_on given i body (left given body (line + 1) (turn_scope given i x body sc y (begun given body sc)))))
second_turn given i x kind body line sc y z ys e h =
    second_of (λ w c. IsSound given body (line + 1) (turn_scope given i x body sc w c)) (λ w c. handed_on given i body (left given body (line + 1) (turn_scope given i x body sc w c)))
    (begun given body sc) (turns sc.symbols x) ys y z e h

pub one_only : {A : Type 0} → A ⊎ ⊥ → A
one_only (inl a) = a
one_only (inr b) = absurd b

pub sample_from : (extents samples : List ℕ) (p : List ℤ) → pos 0 ≤ℤ sample extents samples p
sample_from extents samples p = of (is_within extents p) (slice_index samples (raster_place extents p))
  where
    of : (v : Bool) (n : ℕ) → pos 0 ≤ℤ (if v then pos n else pos 0)
    of true n = omega (arith, ints)
    of false n = omega (arith, ints)

-- a sample of a u8 is one of an i32
pub stays : (z : ℤ) → pos 0 ≤ℤ z → z ≤ℤ pos 255 → wrap I32 z ≡ z
stays z l h = wrap_of_value I32 z (record { from = omega (arith, ints); to = omega (arith, ints) })

-- ---- the algorithm's one function, with the rows 0 to `rows`

abbrev pub ranges_of : ℕ → List Range
ranges_of rows = record { variable = codes "rx"; low = pos 0; high = pos 2 } ∷ record { variable = codes "ry"; low = pos 0; high = pos rows } ∷ []

abbrev pub change : ℕ → Change
change rows = record { ranges = ranges_of rows; at = sampled ∷ []; value = Binary Add (Call (codes "h") (More sampled End)) (Number U16 (pos 1)) }

abbrev pub counting : ℕ → Function
counting rows = record { name = codes "h"; ty = U16; variables = codes "i" ∷ []; value = Number U16 (pos 0); changes = change rows ∷ [] }

-- ---- the plan's lines

abbrev pub s : Symbols
s = grid_symbols (0 ∷ [])

abbrev pub region : ℕ → List Span1
region last = constants (pos 0) (pos last) ∷ []

abbrev pub room_line : ℕ → Statement
room_line last = Alloc 0 (codes "h") (From (number (pos 0)) (suc last) ∷ [])

abbrev pub store : Statement
store = Store 0 0 (is (codes "i") (symbol 1) ∷ []) (Number U16 (pos 0))

abbrev pub fill : ℕ → Statement
fill last = loop 1 (constants (pos 0) (pos last)) (store ∷ [])

module _ (samples : List ℕ) (last rows claimed : ℕ) (update : Statement) where
  abbrev pub given_at : Given
  given_at = given_of (hist_algorithm last rows) samples (outline_of (counts_plan last rows update) (counts_certificate last claimed) 0 (counts_group last update))

  -- what is known where the update begins
  abbrev pub before : Scope
  before = onward given_at (fill last) 6 (onward given_at (room_line last) 5 (at_start s))
