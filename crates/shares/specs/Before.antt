-- What is wrong at fetch lines, and at own lines before a line that is broken.
use Rattle.std.specs.Prelude.{◌≡◌, ℕ, ◌+◌, ◌<◌, ◌≤◌, ◌^◌, ◌==◌, ◌||◌, nat_lt, false, if◌then◌else◌, ◌⊎◌, List, length, map, Option, Some, None, MatchOption, All, slice_get}
use Rattle.std.specs.List.{range_with_len}
use Rattle.lin.specs.declared.span.Span1.{Span1}
use Rattle.plan.specs.Plan.{Group, Plan}
use Rattle.plan.specs.Lines.{certificate_line}
use Rattle.plan.specs.declared.certificate.cert.Own.{Own}
use Rattle.plan.specs.declared.certificate.cert.Need.{Need}
use Rattle.plan.specs.Certificate.Certificate.{Certificate}
use Rattle.plan.specs.Certificate.Cells.{no_symbols, own_region, cells, pieces}
use Rattle.plan.specs.Certificate.Lines.{own_line}
use Rattle.headline.specs.Numbers.{HaveEnds, group_region}
use Rattle.soundness.specs.declared.outline.refusals.code.Flaw.{Flaw}
use Rattle.soundness.specs.declared.outline.refusals.code.K.TheVariants.{K14}
use Rattle.soundness.specs.Outline.Flaws.{line_told}
use Rattle.soundness.specs.Outline.Refusals.Codes.{number_of}
use Rattle.shares.specs.Boxes.{IsLimited, sides}
use Rattle.shares.specs.Shared.{AreShared, IsLike, LineIsShared}
use Rattle.shares.specs.Counts.{FetchIsRefused}
use Rattle.shares.specs.Made.{IsOwnFlaw, LineMeans, need_place, own_place, owns_line}

-- ---- what is asked

-- of a group, as the shares of pieces rest on it, but for its own region
pub record GroupIsDrawn (p : Plan) (g : Group) : Type 0 where
  pub ends : HaveEnds g.region
  pub limits : IsLimited g.region
  pub extents : All (λ x. x.count ≤ 8192) (sides no_symbols g.region)
  pub grid : All (λ m. 1 ≤ m) g.grid → All (λ m. m ≤ 2 ^ 20) g.grid
  pub body : LineIsShared p g.body

-- of a plan, whatever its certificate
pub record IsDrawn (p : Plan) : Type 0 where
  pub groups : (n : ℕ) (g : Group) → slice_get p.groups n ≡ Some g → GroupIsDrawn p g
  pub cells : length (cells p) ≤ 2 ^ 24
  pub pieces : length (pieces p) ≤ 2 ^ 20

-- a group's own line, as it is told, stands before this line
abbrev pub OwnIsBefore : Plan → Certificate → ℕ → ℕ → Type 0
OwnIsBefore p c line n = line_told (owns_line p c n) < line

-- the own regions whose lines stand before this line have as many spans as their groups, in forms within the limits
abbrev pub AreLikeBefore : Plan → Certificate → ℕ → Type 0
AreLikeBefore p c line = (n : ℕ) (g : Group) → slice_get p.groups n ≡ Some g → OwnIsBefore p c line n → MatchOption (own_region c.own n) ⊥ (λ xs. IsLike xs (length g.region))

-- ---- what is told

-- nothing is wrong at the own lines before this line
abbrev pub OwnLinesStand : Plan → Certificate → ℕ → Type 0
OwnLinesStand p c line = (f : Flaw) → IsOwnFlaw p c (length p.groups) f → ¬ (f.line < line)

-- a flaw is the first of fetch lines and own lines, or that of a fetch line
abbrev pub LineIsTold : Plan → Certificate → Flaw → Type 0
LineIsTold p c f = LineMeans p c f ⊎ ((f.code ≡ K14) × FetchIsRefused p c f.line)

-- the flaw, if it is of a fetch line or stands before this line
abbrev pub told_before : Flaw → ℕ → Option Flaw
told_before f line = if number_of f.code == 14 || nat_lt f.line line then Some f else None

-- ---- the certificate that is looked at in place of one with a broken line

-- so many own lines stand before this line
pub record StandsBefore (p : Plan) (c : Certificate) (line count : ℕ) : Type 0 where
  pub some : count ≤ length c.own
  pub before : (i : ℕ) → i < count → line_told (own_line (certificate_line p) i) < line
  pub after : (i : ℕ) → count ≤ i → i < length c.own → line ≤ line_told (own_line (certificate_line p) i)

-- the whole region of the group of this number as an own region, and those of all groups
abbrev pub whole : List Group → ℕ → Own
whole gs n = record { group = n; region = group_region (slice_get gs n) }

abbrev pub wholes : List Group → List Own
wholes gs = map (whole gs) (range_with_len 0 (length gs))

-- lines of the same groups, with another region of the first group
abbrev pub blank_needs : List Span1 → List Need → List Need
blank_needs region ns = map (λ n. record { group = n.group; needed = 0; region = region }) ns

-- one of which no line is broken: groups whose own lines stand before this line have them at their places, those of others stand
-- behind these, and the same groups have need lines
pub record IsCut (p : Plan) (c : Certificate) (line : ℕ) (d : Certificate) : Type 0 where
  pub shared : AreShared p d
  pub places : (n : ℕ) (g : Group) → slice_get p.groups n ≡ Some g → OwnIsBefore p c line n → own_place d.own n ≡ own_place c.own n
  pub regions : (n : ℕ) (g : Group) → slice_get p.groups n ≡ Some g → OwnIsBefore p c line n → own_region d.own n ≡ own_region c.own n
  pub others : (n : ℕ) (g : Group) → slice_get p.groups n ≡ Some g → ¬ OwnIsBefore p c line n → ¬ OwnIsBefore p d line n
  pub needs : (n : ℕ) → need_place d.needs n ≡ need_place c.needs n
