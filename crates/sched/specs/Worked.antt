-- Schedules written out: the loops of the functions that they place.
use Rattle.std.specs.Prelude.{◌≡◌, ℕ, true, List, [], ◌∷◌, map, Option, Some, None, Result, Ok, Err, ℤ, pos, negsuc, codes}
use Rattle.std.specs.Option.{option_map}
use Rattle.numeric.specs.declared.ty.Ty.TheVariants.{U8, I32}
use Rattle.tree.specs.Term.{Term, Number, Name}
use Rattle.lin.specs.Forms.{Form, number}
use Rattle.lin.specs.declared.span.Span1.{Span1}
use Rattle.plan.specs.declared.stmt.Kind.TheVariants.{Serial, Vector}
use Rattle.plan.specs.declared.stmt.Pick.TheVariants.{Min}
use Rattle.meaning.specs.Algorithm.{Range, Change, Function}
use Rattle.sched.specs.declared.schedule.Split.{Split}
use Rattle.sched.specs.declared.schedule.Tile.{Tile}
use Rattle.sched.specs.declared.schedule.Tail.{Tail}
use Rattle.sched.specs.declared.schedule.Tail.TheVariants.{Guard, Roundup, Shift}
use Rattle.sched.specs.declared.error.Rule.{Rule}
use Rattle.sched.specs.declared.error.Rule.TheVariants as rule
use Rattle.sched.specs.declared.skeleton.Step.{Step}
use Rattle.sched.specs.declared.skeleton.Step.TheVariants.{Turns, Named, Tested}
use Rattle.sched.specs.declared.skeleton.Known.{Known}
use Rattle.sched.specs.declared.numbers.Extent.{Extent}
use Rattle.sched.specs.Schedule.{DirectiveText, split, tile, reorder, vectorize, parallel}
use Rattle.sched.specs.Placing.{SubjectText, PlacedText, start, all_in}
use Rattle.sched.specs.Subjects.{reductions_of, scattered_from}
use Rattle.sched.specs.Skeleton.{SkeletonText, NestText, skeleton}

-- ---- functions and directives

abbrev pub x : List ℕ
x = codes "x"

abbrev pub y : List ℕ
y = codes "y"

abbrev pub xo : List ℕ
xo = codes "xo"

abbrev pub xi : List ℕ
xi = codes "xi"

abbrev pub yo : List ℕ
yo = codes "yo"

abbrev pub yi : List ℕ
yi = codes "yi"

abbrev pub function_over : List (List ℕ) → List Change → Function
function_over variables changes = record { name = codes "out"; ty = U8; variables = variables; value = Number U8 (pos 0); changes = changes }

-- the output
abbrev pub subject_over : Function → SubjectText
subject_over f = record {
  functions = f.name ∷ [];
  name = f.name;
  variables = f.variables;
  reductions = reductions_of f.changes;
  scattered = scattered_from f.changes 0 f.variables;
  updates = 1;
  is_output = true;
  is_root = true;
  is_stored = true;
}

abbrev pub skeleton_of : Function → List Extent → Result PlacedText Rule → Option SkeletonText
skeleton_of f region (Ok p) = skeleton f p region
skeleton_of f region (Err r) = None

-- what the directives make of the loops over the region
abbrev pub skeleton_made : Function → List Extent → List DirectiveText → Option SkeletonText
skeleton_made f region ds = skeleton_of f region (all_in (subject_over f) ds (start (subject_over f)))

-- of that the grid of its pieces, the lets over the grid, and the nests
pub record Shape : Type 0 where
  pub grid : List ℕ
  pub head : List Step
  pub nests : List NestText

abbrev pub made : Function → List Extent → List DirectiveText → Option Shape
made f region ds = option_map (λ s. record { grid = s.grid; head = s.head; nests = s.nests }) (skeleton_made f region ds)

-- and what stands over the grid: the forms of loops and of the first numbers of blocks
pub record Ground : Type 0 where
  pub known : List Known
  pub starts : List Known

abbrev pub stood : Function → List Extent → List DirectiveText → Option Ground
stood f region ds = option_map (λ s. record { known = s.known; starts = s.starts }) (skeleton_made f region ds)

abbrev pub from_zero : ℕ → Extent
from_zero count = record { low = pos 0; count = count }

abbrev pub halved : List ℕ → List ℕ → List ℕ → ℕ → Tail → DirectiveText
halved v vo vi n t = split (record { whole = v; outer = vo; inner = vi; factor = n; tail = t })

abbrev pub tiled : Tail → DirectiveText
tiled t = tile (record { x = x; y = y; x_outer = xo; y_outer = yo; x_inner = xi; y_inner = yi; x_factor = 4; y_factor = 2; tail = t })

-- ---- forms and steps

abbrev pub plus : ℤ → ℤ → ℕ → Form
plus c k i = record { constant = c; terms = record { symbol = i; factor = k } ∷ [] }

abbrev pub sum : ℤ → ℤ → ℕ → ℤ → ℕ → Form
sum c k i n j = record { constant = c; terms = record { symbol = i; factor = k } ∷ record { symbol = j; factor = n } ∷ [] }

abbrev pub counted : ℕ → Form
counted i = plus (pos 0) (pos 1) i

abbrev pub turns : ℕ → ℕ → List Form → Step
turns i last limits = Turns i (record { lower = number (pos 0) ∷ []; upper = number (pos last) ∷ limits }) Serial

abbrev pub nest : List Step → List Form → NestText
nest steps at = record { steps = steps; at = map Some at }

abbrev pub is : List ℕ → Form → Known
is v form = record { name = v; form = form }

abbrev pub whole : List ℕ → List Step → List NestText → Option Shape
whole grid head nests = Some (record { grid = grid; head = head; nests = nests })

-- ---- row by row

abbrev pub plane : Function
plane = function_over (x ∷ y ∷ []) []

abbrev pub narrow : List Extent
narrow = from_zero 2 ∷ from_zero 10 ∷ []

-- two by ten points
pub record RowsStand : Type 0 where
  pub in_order : made plane narrow [] ≡ whole (1 ∷ []) [] (nest (turns 1 9 [] ∷ turns 2 1 [] ∷ []) (counted 2 ∷ counted 1 ∷ []) ∷ [])
  pub parallel_rows : made plane narrow (parallel y ∷ []) ≡ whole (10 ∷ []) [] (nest (turns 1 1 [] ∷ []) (counted 1 ∷ counted 0 ∷ []) ∷ [])
  pub columns : made plane narrow (reorder (y ∷ x ∷ []) ∷ []) ≡ whole (1 ∷ []) [] (nest (turns 1 1 [] ∷ turns 2 9 [] ∷ []) (counted 1 ∷ counted 2 ∷ []) ∷ [])

-- ---- tiles

abbrev pub wide : List Extent
wide = from_zero 6 ∷ from_zero 5 ∷ []

abbrev pub in_pieces : Tail → List DirectiveText
in_pieces t = tiled t ∷ parallel yo ∷ parallel xo ∷ []

-- 6 by 5 points in tiles of 4 by 2
pub record TilesStand : Type 0 where
  pub guard : made plane wide (in_pieces Guard) ≡ whole (2 ∷ 3 ∷ []) []
      (nest (turns 2 1 (plus (pos 4) (negsuc 1) 1 ∷ []) ∷ turns 3 3 (plus (pos 5) (negsuc 3) 0 ∷ []) ∷ []) (sum (pos 0) (pos 4) 0 (pos 1) 3 ∷ sum (pos 0) (pos 2) 1 (pos 1) 2 ∷ []) ∷ [])
  pub roundup : made plane wide (in_pieces Roundup) ≡ whole (2 ∷ 3 ∷ []) []
      (nest (turns 2 1 [] ∷ turns 3 3 [] ∷ []) (sum (pos 0) (pos 4) 0 (pos 1) 3 ∷ sum (pos 0) (pos 2) 1 (pos 1) 2 ∷ []) ∷ [])
  pub shift : made plane wide (in_pieces Shift) ≡ whole (2 ∷ 3 ∷ [])
      (Named 2 Min (plus (pos 0) (pos 4) 0 ∷ number (pos 2) ∷ []) ∷ Named 3 Min (plus (pos 0) (pos 2) 1 ∷ number (pos 3) ∷ []) ∷ [])
      (nest (turns 4 1 [] ∷ turns 5 3 [] ∷ []) (sum (pos 0) (pos 1) 2 (pos 1) 5 ∷ sum (pos 0) (pos 1) 3 (pos 1) 4 ∷ []) ∷ [])
  pub one_piece : made plane wide (tiled Guard ∷ []) ≡ whole (1 ∷ []) []
      (nest (turns 1 2 [] ∷ turns 2 1 [] ∷ turns 3 1 (plus (pos 4) (negsuc 1) 1 ∷ []) ∷ turns 4 3 (plus (pos 5) (negsuc 3) 2 ∷ []) ∷ [])
      (sum (pos 0) (pos 4) 2 (pos 1) 4 ∷ sum (pos 0) (pos 2) 1 (pos 1) 3 ∷ []) ∷ [])
  pub guard_blocks : stood plane wide (in_pieces Guard) ≡ Some (record {
    known = is xo (counted 0) ∷ is yo (counted 1) ∷ [];
    starts = is x (plus (pos 0) (pos 4) 0) ∷ is y (plus (pos 0) (pos 2) 1) ∷ [];
  })
  pub shift_blocks : stood plane wide (in_pieces Shift) ≡ Some (record { known = is xo (counted 0) ∷ is yo (counted 1) ∷ []; starts = is x (counted 2) ∷ is y (counted 3) ∷ [] })

-- ---- the inner loop outside

abbrev pub line : Function
line = function_over (x ∷ []) []

-- ten points split by four, the inner loop outside
pub record OutsideStands : Type 0 where
  pub guard : made line (from_zero 10 ∷ []) (halved x xo xi 4 Guard ∷ reorder (xo ∷ xi ∷ []) ∷ []) ≡ whole (1 ∷ []) []
      (nest (turns 1 3 [] ∷ turns 2 2 [] ∷ Tested (sum (pos 0) (pos 1) 1 (pos 4) 2) (number (pos 9)) ∷ Named 3 Min (sum (pos 0) (pos 1) 1 (pos 4) 2 ∷ number (pos 9) ∷ []) ∷ [])
      (counted 3 ∷ []) ∷ [])
  pub shift : made line (from_zero 10 ∷ []) (halved x xo xi 4 Shift ∷ reorder (xo ∷ xi ∷ []) ∷ []) ≡ whole (1 ∷ []) []
      (nest (turns 1 3 [] ∷ turns 2 2 [] ∷ Named 3 Min (plus (pos 0) (pos 4) 2 ∷ number (pos 6) ∷ []) ∷ []) (sum (pos 0) (pos 1) 1 (pos 1) 3 ∷ []) ∷ [])

-- ---- vectorised loops

abbrev pub lanes : ℕ → ℕ → List Form → Step
lanes i last limits = Turns i (record { lower = number (pos 0) ∷ []; upper = number (pos last) ∷ limits }) Vector

abbrev pub in_lanes : Tail → List DirectiveText
in_lanes t = halved x xo xi 4 t ∷ vectorize xi ∷ []

-- the outer loop of a split is split again, and its inner loop vectorised: a guard without a let stands in that
abbrev pub a : List ℕ
a = codes "a"

abbrev pub b : List ℕ
b = codes "b"

abbrev pub blocks_in_lanes : List DirectiveText
blocks_in_lanes = halved x xo xi 3 Guard ∷ halved xo a b 2 Roundup ∷ reorder (b ∷ xi ∷ a ∷ []) ∷ vectorize b ∷ []

abbrev pub position : Form
position = record { constant = pos 0; terms = record { symbol = 1; factor = pos 6 } ∷ record { symbol = 2; factor = pos 1 } ∷ record { symbol = 3; factor = pos 3 } ∷ [] }

-- ten points
pub record LanesStand : Type 0 where
  pub guard : made line (from_zero 10 ∷ []) (in_lanes Guard) ≡ whole (1 ∷ []) []
      (nest (turns 1 2 [] ∷ lanes 2 3 (plus (pos 9) (negsuc 3) 1 ∷ []) ∷ []) (sum (pos 0) (pos 4) 1 (pos 1) 2 ∷ []) ∷ [])
  pub roundup : made line (from_zero 10 ∷ []) (in_lanes Roundup) ≡ whole (1 ∷ []) []
      (nest (turns 1 2 [] ∷ lanes 2 3 [] ∷ []) (sum (pos 0) (pos 4) 1 (pos 1) 2 ∷ []) ∷ [])
  pub shift : made line (from_zero 10 ∷ []) (in_lanes Shift) ≡ whole (1 ∷ []) []
      (nest (turns 1 2 [] ∷ Named 2 Min (plus (pos 0) (pos 4) 1 ∷ number (pos 6) ∷ []) ∷ lanes 3 3 [] ∷ []) (sum (pos 0) (pos 1) 2 (pos 1) 3 ∷ []) ∷ [])
  pub outer_blocks : made line (from_zero 10 ∷ []) blocks_in_lanes ≡ whole (1 ∷ []) []
      (nest (turns 1 1 [] ∷ turns 2 2 [] ∷ lanes 3 1 [] ∷ Tested position (number (pos 9)) ∷ []) (position ∷ []) ∷ [])

-- ---- updates

abbrev pub r : List ℕ
r = codes "r"

abbrev pub over_three : List Term → Change
over_three at = record { ranges = record { variable = r; low = pos 0; high = pos 2 } ∷ []; at = at; value = Number U8 (pos 0) }

abbrev pub in_threes : List DirectiveText
in_threes = halved x xo xi 3 Guard ∷ parallel xo ∷ []

-- an update has its reduction loop inside its pure ones, and no loop of a dimension that it finds by an expression
pub record UpdatesStand : Type 0 where
  pub pure : made (function_over (x ∷ []) (over_three (Name x ∷ []) ∷ [])) (from_zero 4 ∷ []) in_threes ≡ whole (2 ∷ []) []
      (nest (turns 1 2 (plus (pos 3) (negsuc 2) 0 ∷ []) ∷ []) (sum (pos 0) (pos 3) 0 (pos 1) 1 ∷ [])
      ∷ nest (turns 2 2 (plus (pos 3) (negsuc 2) 0 ∷ []) ∷ turns 3 2 [] ∷ []) (sum (pos 0) (pos 3) 0 (pos 1) 2 ∷ counted 3 ∷ []) ∷ [])
  pub scattered : made (function_over (x ∷ []) (over_three (Name r ∷ []) ∷ [])) (from_zero 4 ∷ []) (halved x xo xi 3 Guard ∷ []) ≡ whole (1 ∷ []) []
      (nest (turns 1 1 [] ∷ turns 2 2 (plus (pos 3) (negsuc 2) 1 ∷ []) ∷ []) (sum (pos 0) (pos 3) 1 (pos 1) 2 ∷ [])
      ∷ record { steps = turns 3 2 [] ∷ []; at = None ∷ Some (counted 3) ∷ [] } ∷ [])
  pub lanes_inside : made (function_over (x ∷ []) (over_three (Name x ∷ []) ∷ [])) (from_zero 4 ∷ []) (in_lanes Guard) ≡ whole (1 ∷ []) []
      (nest (turns 1 0 [] ∷ lanes 2 3 [] ∷ []) (sum (pos 0) (pos 4) 1 (pos 1) 2 ∷ [])
      ∷ nest (turns 3 0 [] ∷ turns 4 2 [] ∷ lanes 5 3 [] ∷ []) (sum (pos 0) (pos 4) 3 (pos 1) 5 ∷ counted 4 ∷ []) ∷ [])
  pub parallel_refused : all_in (subject_over (function_over (x ∷ []) (over_three (Name r ∷ []) ∷ []))) (parallel x ∷ []) (start (subject_over (function_over (x ∷ []) (over_three (Name r ∷ []) ∷ [])))) ≡ Err rule.BadParallel

-- ---- blocks that are split again

abbrev pub xoo : List ℕ
xoo = codes "xoo"

abbrev pub xoi : List ℕ
xoi = codes "xoi"

-- ten points in blocks of two, and the five blocks in pairs; where the pairs are rounded up, there is a sixth block to guard from
pub record BlocksStand : Type 0 where
  pub guard : made line (from_zero 10 ∷ []) (halved x xo xi 2 Guard ∷ halved xo xoo xoi 2 Guard ∷ []) ≡ whole (1 ∷ []) []
      (nest (turns 1 2 [] ∷ turns 2 1 (plus (pos 4) (negsuc 1) 1 ∷ []) ∷ turns 3 1 [] ∷ [])
      (record { constant = pos 0; terms = record { symbol = 1; factor = pos 4 } ∷ record { symbol = 2; factor = pos 2 } ∷ record { symbol = 3; factor = pos 1 } ∷ [] } ∷ []) ∷ [])
  pub shift : made line (from_zero 10 ∷ []) (halved x xo xi 2 Guard ∷ halved xo xoo xoi 2 Shift ∷ []) ≡ whole (1 ∷ []) []
      (nest (turns 1 2 [] ∷ Named 2 Min (plus (pos 0) (pos 2) 1 ∷ number (pos 3) ∷ []) ∷ turns 3 1 [] ∷ turns 4 1 [] ∷ [])
      (record { constant = pos 0; terms = record { symbol = 2; factor = pos 2 } ∷ record { symbol = 3; factor = pos 2 } ∷ record { symbol = 4; factor = pos 1 } ∷ [] } ∷ []) ∷ [])
  pub roundup : made line (from_zero 10 ∷ []) (halved x xo xi 2 Guard ∷ halved xo xoo xoi 2 Roundup ∷ []) ≡ whole (1 ∷ []) []
      (nest (turns 1 2 [] ∷ turns 2 1 [] ∷ turns 3 1 (sum (pos 9) (negsuc 3) 1 (negsuc 1) 2 ∷ []) ∷ [])
      (record { constant = pos 0; terms = record { symbol = 1; factor = pos 4 } ∷ record { symbol = 2; factor = pos 2 } ∷ record { symbol = 3; factor = pos 1 } ∷ [] } ∷ []) ∷ [])
  pub blocks_of_pairs : stood line (from_zero 10 ∷ []) (halved x xo xi 2 Guard ∷ halved xo xoo xoi 2 Roundup ∷ parallel xoi ∷ parallel xoo ∷ []) ≡ Some (record {
    known = is xoi (counted 0) ∷ is xoo (counted 1) ∷ is xo (sum (pos 0) (pos 1) 0 (pos 2) 1) ∷ [];
    starts = is xo (plus (pos 0) (pos 2) 1) ∷ is x (sum (pos 0) (pos 2) 0 (pos 4) 1) ∷ [];
  })
