-- What is wrong with the lines of a plan's groups by names, limits and stored expressions.
use Rattle.std.specs.Prelude.{ℕ, ◌+◌, ◌^◌, ◌==◌, ◌&&◌, ◌||◌, not, nat_le, nat_lt, Bool, true, false, List, [], ◌∷◌, ◌++◌, take, length, Option, Some, None, slice_get}
use Rattle.std.specs.List.{list_all, list_any}
use Rattle.tree.specs.Term.{Term}
use Rattle.lin.specs.Forms.{is_within_limits}
use Rattle.lin.specs.declared.span.Span1.{Span1}
use Rattle.meaning.specs.Algorithm.{Algorithm}
use Rattle.meaning.specs.Names.{same_name}
use Rattle.plan.specs.declared.stmt.Kind.{Kind}
use Rattle.plan.specs.declared.stmt.Places.{Places}
use Rattle.plan.specs.declared.stmt.Places.TheVariants.{From, Folded}
use Rattle.plan.specs.Plan.{Coordinate, Statement, Seq, For, Let, First, Guard, Alloc, Fetch, Store, Publish, Statements, Empty, Then, Group, Plan}
use Rattle.plan.specs.Lines.{lines, group_line, group_lines}
use Rattle.plan.specs.Certificate.Certificate.{Claim, Certificate}
use Rattle.plan.specs.Certificate.Cells.{piece_count}
use Rattle.soundness.specs.Origins.{Outline}
use Rattle.soundness.specs.Given.{outline_of}
use Rattle.headline.specs.Sound.{publishes}
use Rattle.soundness.specs.Outline.Forms.{is_over, are_over, spans_are_over, are_within_limits, spans_are_within_limits, is_listed, have_ends, grid_symbols}
use Rattle.soundness.specs.Outline.Flaws.{Flaw, unless, line_told}
use Rattle.validation.specs.Groups.Lanes.{fits_mark}
use Rattle.validation.specs.Groups.Sizes.{more, places_count, allotted, bound_in, held_in, cell_count, is_extent}
use Rattle.validation.specs.Stored.Sizes.{counted, is_small}
use Rattle.validation.specs.Stored.Definitions.{parts_named, Definition, definition_in, function_in, has_variables}
use Rattle.validation.specs.Stored.Stored.{has_names, is_named, is_known, index_is_over, index_is_within, index_is_small, index_is_known, has_line, is_call, is_defined}
use Rattle.validation.specs.declared.stored.lines.GroupLines.{GroupLines}

-- the flaws of a line, the lowest code first: names (K2), forms (K3), the definition (K12), limits (K14)
abbrev pub line_flaws : ℕ → Bool → Bool → Bool → Bool → List Flaw
line_flaws line named within defined limited = unless named 2 line ++ (unless within 3 line ++ (unless defined 12 line ++ unless limited 14 line))

-- where a statement stands: the lines of its group, its line, the symbols in scope, those of them that loops around it have, the
-- buffers in scope, the places of buffers of earlier lines, how many symbols the grid and earlier lines bind and how many buffers
-- those allocate, whether lines `fetch` may still come, and whether it is the last of its group
pub record Here : Type 0 where
  pub group : GroupLines
  pub line : ℕ
  pub symbols : List ℕ
  pub loops : List ℕ
  pub buffers : List ℕ
  pub used : ℕ
  pub bound : ℕ
  pub held : ℕ
  pub fetching : Bool
  pub last : Bool

-- a line so many lines on
abbrev pub on : ℕ → ℕ → ℕ
on line n = line_told (line + n)

-- inside a loop over the symbol
abbrev pub in_loop : ℕ → Here → Here
in_loop i here = record {
  group = here.group;
  line = on here.line 1;
  symbols = here.symbols ++ i ∷ [];
  loops = here.loops ++ i ∷ [];
  buffers = here.buffers;
  used = here.used;
  bound = more here.bound 1;
  held = here.held;
  fetching = false;
  last = false;
}

-- inside a guard, or the part for a first turn
abbrev pub inside : Here → Here
inside here = record {
  group = here.group;
  line = on here.line 1;
  symbols = here.symbols;
  loops = here.loops;
  buffers = here.buffers;
  used = here.used;
  bound = here.bound;
  held = here.held;
  fetching = false;
  last = false;
}

-- inside the part for other turns, behind that for the first
abbrev pub in_later : Statement → Here → Here
in_later a here = record {
  group = here.group;
  line = on here.line (lines a + 2);
  symbols = here.symbols;
  loops = here.loops;
  buffers = here.buffers;
  used = more here.used (allotted a);
  bound = more here.bound (bound_in a);
  held = more here.held (held_in a);
  fetching = false;
  last = false;
}

-- at a statement of a block with others behind it
abbrev pub is_empty : Statements → Bool
is_empty Empty = true
is_empty (Then a rest) = false

abbrev pub before : Bool → Here → Here
before none_behind here = record {
  group = here.group;
  line = here.line;
  symbols = here.symbols;
  loops = here.loops;
  buffers = here.buffers;
  used = here.used;
  bound = here.bound;
  held = here.held;
  fetching = here.fetching;
  last = here.last && none_behind;
}

-- the symbols in scope behind a statement
abbrev pub symbols_after : Statement → List ℕ → List ℕ
symbols_after (Let i pick ls) symbols = symbols ++ i ∷ []
symbols_after _ symbols = symbols

-- the buffers in scope behind a statement
abbrev pub buffers_after : Statement → List ℕ → List ℕ
buffers_after (Alloc b f places) bs = bs ++ b ∷ []
buffers_after _ bs = bs

-- lines `fetch` may come behind the statement
abbrev mutual
  pub may_precede : Statement → Bool
  may_precede (Seq all) = may_all_precede all
  may_precede (For i x kind body) = false
  may_precede (Let i pick ls) = true
  may_precede (First i a b) = false
  may_precede (Guard low high body) = false
  may_precede (Alloc b f places) = true
  may_precede (Fetch b g region) = true
  may_precede (Store b k at e) = false
  may_precede (Publish c) = true

  pub may_all_precede : Statements → Bool
  may_all_precede Empty = true
  may_all_precede (Then a rest) = may_precede a && may_all_precede rest

-- behind a statement
abbrev pub after : Statement → Here → Here
after a here = record {
  group = here.group;
  line = on here.line (lines a);
  symbols = symbols_after a here.symbols;
  loops = here.loops;
  buffers = buffers_after a here.buffers;
  used = more here.used (allotted a);
  bound = more here.bound (bound_in a);
  held = more here.held (held_in a);
  fetching = here.fetching && may_precede a;
  last = here.last;
}

-- the symbol is one of these, or none of them
abbrev pub is_one_of : List ℕ → ℕ → Bool
is_one_of symbols i = list_any (λ s. s == i) symbols

abbrev pub is_new : List ℕ → ℕ → Bool
is_new symbols i = not (is_one_of symbols i)

-- places of one coordinate: the origin's symbols, its limits, and that they are folded by one or more
abbrev pub place_is_over : List ℕ → Places → Bool
place_is_over symbols (From l n) = is_over symbols l
place_is_over symbols (Folded n) = true

abbrev pub place_is_within : Places → Bool
place_is_within (From l n) = is_within_limits l
place_is_within (Folded n) = true

abbrev pub is_foldable : Places → Bool
is_foldable (From l n) = true
is_foldable (Folded n) = nat_le 1 n

-- a line `fetch` stands before loops, choices, guards and stores, and its region has ends
abbrev pub fetch_is_taken : Here → List Span1 → Bool
fetch_is_taken here region = here.fetching && have_ends region

-- a claim of this number is of the group with these lines, and of the function
abbrev pub is_claim_of : GroupLines → Option Claim → List ℕ → Bool
is_claim_of group None name = false
is_claim_of group (Some c) name = has_line group c.line && same_name c.function name

module _ (a : Algorithm) (p : Plan) (c : Certificate) (g : Group) (outline : Outline) where
  -- the flaws of a line `for`, the lowest code first: names (K2), forms (K3), a vector's body (K13), limits (K14)
  abbrev pub loop_flaws : Here → ℕ → Span1 → Kind → Statement → List Flaw
  loop_flaws here i x kind body =
      unless (is_new here.symbols i && (are_over here.symbols x.lower && are_over here.symbols x.upper)) 2 here.line
      ++ (unless (are_within_limits x.lower && are_within_limits x.upper) 3 here.line
      ++ (unless (fits_mark a outline.setting i kind body) 13 here.line
      ++ unless ((is_listed x.lower && is_listed x.upper) && nat_lt here.bound 256) 14 here.line))

  abbrev pub alloc_flaws : Here → List ℕ → List Places → List Flaw
  alloc_flaws here f places =
      line_flaws here.line
      (has_variables (parts_named a f) (length places) && list_all (place_is_over here.symbols) places)
      (list_all place_is_within places)
      true
      (list_all is_foldable places && (nat_le (more here.used (places_count places)) (2 ^ 22) && nat_lt here.held 256))

  -- a known group of the buffer's function, and its region
  abbrev pub fetch_is_named : Here → ℕ → ℕ → List Span1 → Bool
  fetch_is_named here b h region =
      list_any (λ x. x == b) here.buffers && (nat_lt h (length p.groups)
      && (same_name (outline.setting.group_function h) (outline.setting.buffer_function b)
      && (has_variables (parts_named a (outline.setting.group_function h)) (length region) && spans_are_over here.symbols region)))

  abbrev pub fetch_flaws : Here → ℕ → ℕ → List Span1 → List Flaw
  fetch_flaws here b h region = line_flaws here.line (fetch_is_named here b h region) (spans_are_within_limits region) true (fetch_is_taken here region)

  -- the definition is known, and the store's variables, symbols and calls are
  abbrev pub definition_is_named : Option Definition → Here → ℕ → List Coordinate → Term → Bool
  definition_is_named None here b at e = false
  definition_is_named (Some m) here b at e =
      has_names m at && (outline.setting.dimensions b == length (function_in m).variables
      && (list_all (λ x. index_is_over here.symbols x.index) at
      && (list_all (λ x. index_is_known (is_named at) (is_call a p here.group outline) x.index) at
      && is_known (is_named at) (is_call a p here.group outline) e)))

  abbrev pub definition_is_stored : Option Definition → List Coordinate → Term → Bool
  definition_is_stored None at e = true
  definition_is_stored (Some m) at e = is_defined a p outline m at e

  -- the definition that is stored
  abbrev pub definition_of : ℕ → ℕ → Option Definition
  definition_of b k = definition_in (parts_named a (outline.setting.buffer_function b)) k

  abbrev pub store_is_small : List Coordinate → Term → Bool
  store_is_small at e = is_small e && list_all (λ x. index_is_small x.index) at

  -- whether the definition is stored is asked of small expressions
  abbrev pub store_flaws : Here → ℕ → ℕ → List Coordinate → Term → List Flaw
  store_flaws here b k at e =
      line_flaws here.line
      (list_any (λ x. x == b) here.buffers && definition_is_named (definition_of b k) here b at e)
      (list_all (λ x. index_is_within x.index) at)
      (not (store_is_small at e) || definition_is_stored (definition_of b k) at e)
      (store_is_small at e)

  abbrev pub publish_flaws : Here → ℕ → List Flaw
  publish_flaws here k = line_flaws here.line (is_claim_of here.group (slice_get c.claims k) g.function) true true here.last

  abbrev mutual
    -- the flaws of a statement's lines
    pub flaws : Statement → Here → List Flaw
    flaws (Seq all) here = block_flaws all here
    flaws (For i x kind body) here = loop_flaws here i x kind body ++ flaws body (in_loop i here)
    flaws (Let i pick ls) here = line_flaws here.line (is_new here.symbols i && are_over here.symbols ls) (are_within_limits ls) true (is_listed ls && nat_lt here.bound 256)
    flaws (First i a b) here = line_flaws here.line (is_one_of here.loops i) true true true ++ (flaws a (inside here) ++ flaws b (in_later a here))
    flaws (Guard low high body) here =
        line_flaws here.line (is_over here.symbols low && is_over here.symbols high) (is_within_limits low && is_within_limits high) true true ++ flaws body (inside here)
    flaws (Alloc b f places) here = alloc_flaws here f places
    flaws (Fetch b h region) here = fetch_flaws here b h region
    flaws (Store b k at e) here = store_flaws here b k at e
    flaws (Publish k) here = publish_flaws here k

    pub block_flaws : Statements → Here → List Flaw
    block_flaws Empty here = []
    block_flaws (Then a rest) here = flaws a (before (is_empty rest) here) ++ block_flaws rest (after a here)

-- ---- groups

-- the line `group` behind these groups, where groups up to this one have so many cells and pieces
abbrev pub group_line_flaws : Algorithm → ℕ → List Group → Group → ℕ → ℕ → List Flaw
group_line_flaws a line earlier g cells pieces =
    line_flaws line
    (not (list_any (λ h. same_name h.function g.function) earlier)
    && (has_variables (parts_named a g.function) (length g.region) && spans_are_over [] g.region))
    (spans_are_within_limits g.region)
    true
    (list_all is_extent g.region && (nat_le cells (2 ^ 24) && (nat_le pieces (2 ^ 20) && (publishes g.body && nat_le (length g.grid) 256))))

-- the lines of a group whose line `group` is told so
abbrev pub lines_from : ℕ → Group → GroupLines
lines_from line g = record { first = line; behind = on line (group_lines g) }

-- where a group's body begins
abbrev pub start : ℕ → Group → Here
start line g = record {
  group = lines_from line g;
  line = on line 1;
  symbols = grid_symbols (length g.grid);
  loops = [];
  buffers = [];
  used = 0;
  bound = length g.grid;
  held = 0;
  fetching = true;
  last = true;
}

module _ (a : Algorithm) (p : Plan) (c : Certificate) where
  -- the flaws of the lines of the group of this number, whose line is told so, where groups up to it have so many cells and pieces
  abbrev pub group_flaws : ℕ → ℕ → Group → ℕ → ℕ → List Flaw
  group_flaws line n g cells pieces =
      group_line_flaws a line (take n p.groups) g cells pieces ++ flaws a p c g (outline_of p c n g) g.body (start line g)

  -- the flaws of groups from this number on, where those before have so many cells and pieces
  abbrev pub groups_flaws : List Group → ℕ → ℕ → ℕ → List Flaw
  groups_flaws [] n cells pieces = []
  groups_flaws (g ∷ rest) n cells pieces =
      group_flaws (line_told (group_line p n)) n g (more cells (cell_count g.region)) (more pieces (counted (piece_count g.grid)))
      ++ groups_flaws rest (n + 1) (more cells (cell_count g.region)) (more pieces (counted (piece_count g.grid)))

  -- the flaws of the lines of all groups, in the order of the lines, each line as it is told
  abbrev pub flaws_of_groups : List Flaw
  flaws_of_groups = groups_flaws p.groups 0 0 0
