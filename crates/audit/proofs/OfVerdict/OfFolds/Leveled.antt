-- What a plan's cells, pieces, lines and shares are, and what its certificate breaks by names and limits, does not look at how many places
-- folds have.
use Rattle.std.proofs.Common.{◌≡◌, ℕ, zero, suc, ◌+◌, ◌-◌, Bool, true, false, List, [], ◌∷◌, ◌++◌, map, take, length, Option, Some, None, refl, sym, ap, ◌∙◌, subst}
use Rattle.std.specs.Prelude.{◌≤◌, ◌^◌, ◌==◌, ◌||◌, ◌&&◌, not, nat_lt, if◌then◌else◌, flat_map, slice_get, int_le, All, IsTrue, MatchOption, filter, is_some}
use Rattle.std.specs.List.{list_any, list_all, range_with_len}
use Rattle.meaning.specs.Algorithm.{Algorithm}
use Rattle.meaning.specs.Names.{is_among}
use Rattle.tree.specs.Typing.{type_of}
use Rattle.bounds.specs.Interval.{interval}
use Rattle.meaning.specs.Conditions as N
use Rattle.plan.specs.declared.certificate.cert.Need.{Need}
use Rattle.plan.specs.declared.certificate.cert.Window.{Window}
use Rattle.plan.specs.Lines.{body_line, certificate_line, group_lines, groups_lines, lines}
use Rattle.plan.specs.Plan.{Alloc, Empty, Fetch, First, For, Group, Guard, Let, Plan, Publish, Seq, Statement, Statements, Store, Then}
use Rattle.plan.specs.Symbols.{Symbols, bind, form_value, largest, turns}
use Rattle.plan.specs.Certificate.Certificate.{Certificate, Claim}
use Rattle.plan.specs.Certificate.Lines.{claim_line, need_line, own_line, window_line}
use Rattle.plan.specs.Certificate.Cells.{Cell, Piece, cell, cells, cells_from, first_cell, grid_symbols, group_pieces, group_points, no_symbols, own_points, own_region, piece, pieces, pieces_from}
use Rattle.plan.specs.Semantics.Actions.{after}
use Rattle.plan.specs.Semantics.Run.{ByClaim, Input, Source, Unknown, source_of}
use Rattle.plan.specs.Semantics.Setting.{Buffer, allocated, block_allocated, dimensions_in, function_in, group_name, or_else, setting_of}
use Rattle.soundness.specs.Given.{claim_or_none, function_named, named_from, outline_of}
use Rattle.soundness.specs.Origins.{Outline}
use Rattle.soundness.specs.Obligations.{anything, first_window}
use Rattle.soundness.specs.Binders.View.{grid_span}
use Rattle.soundness.specs.Outline.Flaws.{unless}
use Rattle.soundness.specs.Outline.Forms as F
use Rattle.soundness.specs.Outline.Forms.{have_ends, spans_are_over, spans_are_within_limits}
use Rattle.soundness.specs.Outline.Kept.{is_alone_in, keeps, some_keep}
use Rattle.soundness.specs.Claims.{is_update}
use Rattle.headline.specs.Fetched.{block_fetched_cells, fetched_cells}
use Rattle.headline.specs.Numbers.{cell_number, group_grid, group_region, has_point, is_cell, point_rank}
use Rattle.headline.specs.Theorem.{HasSoundCells}
use Rattle.headline.specs.Work.{cells_fetched, group_fetched, group_own, needed_pieces, needs_this, of_piece, own_cells, work_of}
use Rattle.orders.specs.Work.{HasSoundLists}
use Rattle.rules.specs.Bounding.Called.{called, source_call, update_count}
use Rattle.rules.specs.Bounding.Rules.{is_index_span, or_anything, or_nowhere, rules_of}
use Rattle.rules.specs.Bounding.Scopes.{scope_of, shown_at_most}
use Rattle.shares.specs.FetchLines.{LetsAreNear, LineIsNear, block_fetch_lines, fetch_lines, fetch_lines_from}
use Rattle.shares.specs.Lets.{Naming, naming}
use Rattle.shares.specs.Has.{HasShares, NeedsPieces, fetched_before, needed_before}
use Rattle.shares.specs.Layout.{FetchesCells, OwnIsInside, PieceFetchesCells, PieceIsInside, fetched_list, needs_list, own_list, region_points}
use Rattle.shares.specs.Needed.{NeedsAreInside, need_points}
use Rattle.shares.specs.Boxes.{grid_sides, is_in_box}
use Rattle.validation.specs.Groups.Lines as L
use Rattle.validation.specs.Certificate.Certificate as C
use Rattle.validation.specs.Certificate.Lines.{each_line, line_flaws, window_line_flaws}
use Rattle.validation.specs.Certificate.Placing as P
use Rattle.plan.specs.declared.stmt.Places.{Places}
use Rattle.plan.specs.declared.stmt.Places.TheVariants.{From, Folded}
use Rattle.audit.specs.Verdict.Folds.{with_places, block_with_places}
use Rattle.audit.proofs.OfVerdict.OfFolds.Owed.{lines_same as lines_stay, stands_same}

-- ---- the same plan with no place in its folds

abbrev pub flat : Places → Places
flat (From l n) = From l n
flat (Folded n) = Folded 0

abbrev pub level : ℕ → List Places → List Places
level b places = map flat places

abbrev pub leveled : Statement → Statement
leveled a = with_places level a

abbrev pub block_leveled : Statements → Statements
block_leveled all = block_with_places level all

abbrev pub group_leveled : Group → Group
group_leveled g = record { function = g.function; region = g.region; grid = g.grid; body = leveled g.body }

abbrev pub plan_leveled : Plan → Plan
plan_leveled p = record { name = p.name; input = p.input; output = p.output; groups = map group_leveled p.groups }

-- ---- buffers

abbrev buffer_leveled : Option Buffer → Option Buffer
buffer_leveled None = None
buffer_leveled (Some x) = Some (record { function = x.function; places = map flat x.places })

else_leveled : (x y : Option Buffer) → buffer_leveled (or_else x y) ≡ or_else (buffer_leveled x) (buffer_leveled y)
else_leveled None y = refl
else_leveled (Some x) y = refl

if_leveled : (v : Bool) (x y : Option Buffer) → buffer_leveled (if v then x else y) ≡ (if v then buffer_leveled x else buffer_leveled y)
if_leveled true x y = refl
if_leveled false x y = refl

mutual
  allocated_same : (a : Statement) (b : ℕ) → buffer_leveled (allocated a b) ≡ allocated (leveled a) b
  allocated_same (Seq all) b = block_allocated_same all b
  allocated_same (For i x kind body) b = allocated_same body b
  allocated_same (Let i pick forms) b = refl
  allocated_same (First i a c) b = else_leveled (allocated a b) (allocated c b) ∙ (λ j. or_else (allocated_same a b j) (allocated_same c b j))
  allocated_same (Guard low high body) b = allocated_same body b
  allocated_same (Alloc c f places) b = if_leveled (c == b) (Some (record { function = f; places = places })) None
  allocated_same (Fetch c g region) b = refl
  allocated_same (Store c k at e) b = refl
  allocated_same (Publish c) b = refl

  block_allocated_same : (all : Statements) (b : ℕ) → buffer_leveled (block_allocated all b) ≡ block_allocated (block_leveled all) b
  block_allocated_same Empty b = refl
  block_allocated_same (Then a rest) b = else_leveled (allocated a b) (block_allocated rest b) ∙ (λ j. or_else (allocated_same a b j) (block_allocated_same rest b j))

function_leveled : (o : Option Buffer) → function_in o ≡ function_in (buffer_leveled o)
function_leveled None = refl
function_leveled (Some x) = refl

length_leveled : (xs : List Places) → length xs ≡ length (map flat xs)
length_leveled [] = refl
length_leveled (x ∷ xs) = λ j. suc (length_leveled xs j)

dimensions_leveled : (o : Option Buffer) → dimensions_in o ≡ dimensions_in (buffer_leveled o)
dimensions_leveled None = refl
dimensions_leveled (Some x) = length_leveled x.places

lines_same : (a : Statement) → lines a ≡ lines (leveled a)
lines_same a = lines_stay level a

-- ---- groups

pub groups_lines_same : (n : ℕ) (gs : List Group) → groups_lines (take n gs) ≡ groups_lines (take n (map group_leveled gs))
groups_lines_same zero gs = refl
groups_lines_same (suc n) [] = refl
groups_lines_same (suc n) (g ∷ gs) = λ j. (lines_same g.body j + 1) + groups_lines_same n gs j

pub all_lines_same : (gs : List Group) → groups_lines gs ≡ groups_lines (map group_leveled gs)
all_lines_same [] = refl
all_lines_same (g ∷ gs) = λ j. (lines_same g.body j + 1) + all_lines_same gs j

pub cells_same : (k : ℕ) (gs : List Group) → cells_from k gs ≡ cells_from k (map group_leveled gs)
cells_same k [] = refl
cells_same k (g ∷ gs) = λ j. map (cell k) (group_points g) ++ cells_same (k + 1) gs j

pub pieces_same : (k : ℕ) (gs : List Group) → pieces_from k gs ≡ pieces_from k (map group_leveled gs)
pieces_same k [] = refl
pieces_same k (g ∷ gs) = λ j. map (piece g k) (range_with_len 0 (group_pieces g)) ++ pieces_same (k + 1) gs j

name_same : (gs : List Group) (n : ℕ) → group_name (slice_get gs n) ≡ group_name (slice_get (map group_leveled gs) n)
name_same [] n = refl
name_same (g ∷ gs) zero = refl
name_same (g ∷ gs) (suc n) = name_same gs n

pub leveled_at : (gs : List Group) (n : ℕ) (g : Group) → slice_get gs n ≡ Some g → slice_get (map group_leveled gs) n ≡ Some (group_leveled g)
leveled_at [] n g at = absurd (cc at)
leveled_at (x ∷ xs) zero g at = let same : x ≡ g = cc at in ap (λ (y : Group). Some (group_leveled y)) same
leveled_at (x ∷ xs) (suc n) g at = leveled_at xs n g at

pub setting_same : (p : Plan) (c : Certificate) (n : ℕ) (g : Group) → setting_of p c n g ≡ setting_of (plan_leveled p) c n (group_leveled g)
setting_same p c n g j = record {
  group_function = λ h. name_same p.groups h j;
  buffer_function = λ b. (function_leveled (allocated g.body b) ∙ ap function_in (allocated_same g.body b)) j;
  dimensions = λ b. (dimensions_leveled (allocated g.body b) ∙ ap dimensions_in (allocated_same g.body b)) j;
  own = λ s. own_points g c n s;
}

-- ---- groups by their numbers

at_same : {B : Type 0} (f : Option Group → B) → ((g : Group) → f (Some g) ≡ f (Some (group_leveled g))) → (gs : List Group) (n : ℕ) → f (slice_get gs n) ≡ f (slice_get (map group_leveled gs) n)
at_same f same [] n = refl
at_same f same (g ∷ gs) zero = same g
at_same f same (g ∷ gs) (suc n) = at_same f same gs n

leveled_back : (gs : List Group) (n : ℕ) (h : Group) → slice_get (map group_leveled gs) n ≡ Some h → (g : Group) × (slice_get gs n ≡ Some g) × (group_leveled g ≡ h)
leveled_back [] n h at = absurd (cc at)
leveled_back (g ∷ gs) zero h at = (g, refl, cc)
leveled_back (g ∷ gs) (suc n) h at = leveled_back gs n h at

many_same : (gs : List Group) → length gs ≡ length (map group_leveled gs)
many_same [] = refl
many_same (g ∷ gs) = λ j. suc (many_same gs j)

-- ---- what is told of statements

symbols_same : (a : Statement) (xs : List ℕ) → L.symbols_after a xs ≡ L.symbols_after (leveled a) xs
symbols_same (Seq all) xs = refl
symbols_same (For i x kind body) xs = refl
symbols_same (Let i pick forms) xs = refl
symbols_same (First i a b) xs = refl
symbols_same (Guard low high body) xs = refl
symbols_same (Alloc b f places) xs = refl
symbols_same (Fetch b g region) xs = refl
symbols_same (Store b k at e) xs = refl
symbols_same (Publish c) xs = refl

buffers_same : (a : Statement) (xs : List ℕ) → L.buffers_after a xs ≡ L.buffers_after (leveled a) xs
buffers_same (Seq all) xs = refl
buffers_same (For i x kind body) xs = refl
buffers_same (Let i pick forms) xs = refl
buffers_same (First i a b) xs = refl
buffers_same (Guard low high body) xs = refl
buffers_same (Alloc b f places) xs = refl
buffers_same (Fetch b g region) xs = refl
buffers_same (Store b k at e) xs = refl
buffers_same (Publish c) xs = refl

naming_same : (a : Statement) → naming a ≡ naming (leveled a)
naming_same (Seq all) = refl
naming_same (For i x kind body) = refl
naming_same (Let i pick forms) = refl
naming_same (First i a b) = refl
naming_same (Guard low high body) = refl
naming_same (Alloc b f places) = refl
naming_same (Fetch b g region) = refl
naming_same (Store b k at e) = refl
naming_same (Publish c) = refl

after_same : (a : Statement) (s : Symbols) → after a s ≡ after (leveled a) s
after_same (Seq all) s = refl
after_same (For i x kind body) s = refl
after_same (Let i pick forms) s = refl
after_same (First i a b) s = refl
after_same (Guard low high body) s = refl
after_same (Alloc b f places) s = refl
after_same (Fetch b g region) s = refl
after_same (Store b k at e) s = refl
after_same (Publish c) s = refl

outline_same : (p : Plan) (c : Certificate) (n : ℕ) (g : Group) → outline_of p c n g ≡ outline_of (plan_leveled p) c n (group_leveled g)
outline_same p c n g = λ j. record {
  setting = setting_same p c n g j;
  source = source_of p.input.name (length c.claims);
  claim = λ k. claim_or_none (slice_get c.claims k);
  named = named_from 0 c.claims;
  windows = c.windows;
}

-- ---- flaws of the certificate

past_same : (a : Statement) (x : P.Spot) → P.past a x ≡ P.past (leveled a) x
past_same a x = λ j. record { symbols = symbols_same a x.symbols j; loops = x.loops; buffers = buffers_same a x.buffers j }

mutual
  spot_same : (a : Statement) (x : P.Spot) (k : ℕ) → P.spot_at a x k ≡ P.spot_at (leveled a) x k
  spot_same (Seq all) x k = block_spot_same all x k
  spot_same (For i span kind body) x zero = refl
  spot_same (For i span kind body) x (suc k) = λ j. P.in_body (lines_same body j) k (spot_same body (P.in_loop i x) k j) x
  spot_same (Let i pick forms) x k = refl
  spot_same (First i a b) x zero = refl
  spot_same (First i a b) x (suc k) =
      λ j. if nat_lt k (lines_same a j) then spot_same a x k j else P.later_at (lines_same b j) (λ m. spot_same b x m j) x (k - lines_same a j)
  spot_same (Guard low high body) x zero = refl
  spot_same (Guard low high body) x (suc k) = λ j. P.in_body (lines_same body j) k (spot_same body x k j) x
  spot_same (Alloc b f places) x k = refl
  spot_same (Fetch b g region) x k = refl
  spot_same (Store b d at e) x k = refl
  spot_same (Publish c) x k = refl

  block_spot_same : (all : Statements) (x : P.Spot) (k : ℕ) → P.block_spot_at all x k ≡ P.block_spot_at (block_leveled all) x k
  block_spot_same Empty x k = refl
  block_spot_same (Then a rest) x k =
      let onward = block_spot_same rest (P.past a x) (k - lines a) ∙ (λ j. P.block_spot_at (block_leveled rest) (past_same a x j) (k - lines_same a j)) in
      λ j. if nat_lt k (lines_same a j) then spot_same a x k j else onward j

abbrev place_leveled : Option P.Place → Option P.Place
place_leveled None = None
place_leveled (Some x) = Some (record { group = group_leveled x.group; spot = x.spot })

with_same : (g : Group) (o : Option P.Spot) → place_leveled (P.place_with g o) ≡ P.place_with (group_leveled g) o
with_same g None = refl
with_same g (Some x) = refl

group_spot_same : (g : Group) (k : ℕ) → P.group_spot_at g k ≡ P.group_spot_at (group_leveled g) k
group_spot_same g zero = refl
group_spot_same g (suc k) = spot_same g.body (P.group_spot g) k

if_place : (v : Bool) (x y : Option P.Place) → place_leveled (if v then x else y) ≡ (if v then place_leveled x else place_leveled y)
if_place true x y = refl
if_place false x y = refl

place_in_same : (gs : List Group) (k : ℕ) → place_leveled (P.place_in gs k) ≡ P.place_in (map group_leveled gs) k
place_in_same [] k = refl
place_in_same (g ∷ gs) k =
    let one = with_same g (P.group_spot_at g k) ∙ ap (P.place_with (group_leveled g)) (group_spot_same g k) in
    let onward = place_in_same gs (k - group_lines g) ∙ (λ j. P.place_in (map group_leveled gs) (k - (lines_same g.body j + 1))) in
    if_place (nat_lt k (group_lines g)) (P.place_with g (P.group_spot_at g k)) (P.place_in gs (k - group_lines g))
    ∙ (λ j. if nat_lt k (lines_same g.body j + 1) then one j else onward j)

place_same : (gs : List Group) (line : ℕ) → place_leveled (P.place_at gs line) ≡ P.place_at (map group_leveled gs) line
place_same gs line = if_place (nat_lt line 4) None (P.place_in gs (line - 4)) ∙ (λ j. if nat_lt line 4 then None else place_in_same gs (line - 4) j)

of_buffer_same : (o x : Option Buffer) (k : Claim) → buffer_leveled o ≡ x → C.is_of_buffer o k ≡ C.is_of_buffer x k
of_buffer_same None x k e = ap (λ b. C.is_of_buffer b k) e
of_buffer_same (Some b) x k e = ap (λ b. C.is_of_buffer b k) e

is_at_same : (o : Option P.Place) (k : Claim) → C.is_at o k ≡ C.is_at (place_leveled o) k
is_at_same None k = refl
is_at_same (Some x) k =
    λ j. list_any (λ b. b == k.buffer) x.spot.buffers && (of_buffer_same (allocated x.group.body k.buffer) (allocated (leveled x.group.body) k.buffer) k
    (allocated_same x.group.body k.buffer) j && spans_are_over x.spot.symbols k.region)

is_along_same : (o : Option P.Place) (w : Window) → C.is_along o w ≡ C.is_along (place_leveled o) w
is_along_same None w = refl
is_along_same (Some x) w = refl

window_known_same : (gs : List Group) (o : Option Claim) (w : Window) → C.is_window_of gs o w ≡ C.is_window_of (map group_leveled gs) o w
window_known_same gs None w = refl
window_known_same gs (Some k) w = ap (λ v. nat_lt w.dimension (length k.region) && v) (is_along_same (P.place_at gs k.line) w ∙ ap (λ o. C.is_along o w) (place_same gs k.line))

alone_same : (outline : Outline) (w : Window) (a : Statement) (line : ℕ) → is_alone_in outline w a line ≡ is_alone_in outline w (leveled a) line
alone_same outline w (Seq row) line = λ j. not (is_update (outline.claim w.claim).definition) && stands_same level outline w.symbol w.claim row line j
alone_same outline w (For i x kind body) line = refl
alone_same outline w (Let i pick forms) line = refl
alone_same outline w (First i a b) line = refl
alone_same outline w (Guard low high body) line = refl
alone_same outline w (Alloc b f places) line = refl
alone_same outline w (Fetch b g region) line = refl
alone_same outline w (Store b k at e) line = refl
alone_same outline w (Publish c) line = refl

mutual
  keeps_same : (outline : Outline) (w : Window) (a : Statement) (line : ℕ) → keeps outline w a line ≡ keeps outline w (leveled a) line
  keeps_same outline w (Seq all) line = some_keep_same outline w all line
  keeps_same outline w (For i x kind body) line = λ j. ((i == w.symbol) && alone_same outline w body (line + 1) j) || keeps_same outline w body (line + 1) j
  keeps_same outline w (Let i pick forms) line = refl
  keeps_same outline w (First i a b) line =
      let second = keeps_same outline w b (line + 2 + lines a) ∙ (λ j. keeps outline w (leveled b) (line + 2 + lines_same a j)) in
      λ j. keeps_same outline w a (line + 1) j || second j
  keeps_same outline w (Guard low high body) line = keeps_same outline w body (line + 1)
  keeps_same outline w (Alloc b f places) line = refl
  keeps_same outline w (Fetch b g region) line = refl
  keeps_same outline w (Store b k at e) line = refl
  keeps_same outline w (Publish c) line = refl

  some_keep_same : (outline : Outline) (w : Window) (all : Statements) (line : ℕ) → some_keep outline w all line ≡ some_keep outline w (block_leveled all) line
  some_keep_same outline w Empty line = refl
  some_keep_same outline w (Then a rest) line =
      let onward = some_keep_same outline w rest (line + lines a) ∙ (λ j. some_keep outline w (block_leveled rest) (line + lines_same a j)) in
      λ j. keeps_same outline w a line j || onward j

groups_keep_same : (p : Plan) (c : Certificate) (w : Window) (n : ℕ) (gs : List Group) → C.groups_keep p c w n gs ≡ C.groups_keep (plan_leveled p) c w n (map group_leveled gs)
groups_keep_same p c w n [] = refl
groups_keep_same p c w n (g ∷ gs) =
    let one = keeps_same (outline_of p c n g) w g.body (body_line p n) ∙ (λ j. keeps (outline_same p c n g j) w (leveled g.body) ((groups_lines_same n p.groups j + 4) + 1)) in
    λ j. one j || groups_keep_same p c w (n + 1) gs j

cert_line_same : (p : Plan) → certificate_line p ≡ certificate_line (plan_leveled p)
cert_line_same p = λ j. all_lines_same p.groups j + 4

abbrev option_leveled : Option Group → Option Group
option_leveled None = None
option_leveled (Some g) = Some (group_leveled g)

needed_groups : (n : Need) (gs : List Group) → C.need_is_known gs n ≡ C.need_is_known (map group_leveled gs) n
needed_groups n gs =
    at_same (λ (o : Option Group). C.is_need_of o (slice_get gs n.needed) n.region) (λ g. both (Some g) (slice_get gs n.needed)) gs n.group
    ∙ at_same (λ (o : Option Group). C.is_need_of (slice_get (map group_leveled gs) n.group) o n.region) (λ g. second (slice_get (map group_leveled gs) n.group) g) gs n.needed
  where
    both : (x y : Option Group) → C.is_need_of x y n.region ≡ C.is_need_of (option_leveled x) y n.region
    both None y = refl
    both (Some g) None = refl
    both (Some g) (Some h) = refl

    second : (x : Option Group) (g : Group) → C.is_need_of x (Some g) n.region ≡ C.is_need_of x (Some (group_leveled g)) n.region
    second None g = refl
    second (Some h) g = refl

pub certificate_same : (a : Algorithm) (p : Plan) (c : Certificate) → C.flaws_of_certificate a p c ≡ C.flaws_of_certificate a (plan_leveled p) c
certificate_same a p c =
    λ j. (unless (C.are_owned c.own (many_same p.groups j)) 10 (cert_line_same p j)
    ++ (each_line (λ i o. line_flaws (not (C.is_owned (take i c.own) o.group) && at_same (λ (g : Option Group). C.is_region_of g o.region) (λ g. refl) p.groups o.group j)
    (spans_are_within_limits o.region) (have_ends o.region) (own_line (cert_line_same p j) i)) 0 c.own
    ++ each_line (λ i n. line_flaws (needed_groups n p.groups j) (spans_are_within_limits n.region) (have_ends n.region) (need_line c (cert_line_same p j) i)) 0 c.needs))
    ++ (each_line (λ i k. line_flaws (C.is_of_function (N.function_named a.functions k.function) k && claim_at k j)
    (spans_are_within_limits k.region) (have_ends k.region && nat_lt i 4096) (claim_line c (cert_line_same p j) i)) 0 c.claims
    ++ each_line (λ i w. window_line_flaws (window_known_same p.groups (slice_get c.claims w.claim) w j) (C.span_is_within_limits w.span)
    (not (list_any (λ v. v.claim == w.claim) (take i c.windows)) && groups_keep_same p c w 0 p.groups j) (C.has_ends w.span) (window_line c (cert_line_same p j) i)) 0 c.windows)
  where
    claim_at : (k : Claim) → C.is_at (P.place_at p.groups k.line) k ≡ C.is_at (P.place_at (map group_leveled p.groups) k.line) k
    claim_at k = is_at_same (P.place_at p.groups k.line) k ∙ ap (λ o. C.is_at o k) (place_same p.groups k.line)

-- ---- shares

mutual
  fetched_same : (a : Statement) (s : Symbols) → fetched_cells a s ≡ fetched_cells (leveled a) s
  fetched_same (Seq all) s = block_fetched_same all s
  fetched_same (For i x kind body) s = λ j. flat_map (λ z. fetched_same body (bind s i z (int_le z (largest s x.lower))) j) (turns s x)
  fetched_same (Let i pick forms) s = refl
  fetched_same (First i a b) s = λ j. if s.first i then fetched_same a s j else fetched_same b s j
  fetched_same (Guard low high body) s = λ j. if int_le (form_value low s) (form_value high s) then fetched_same body s j else []
  fetched_same (Alloc b f places) s = refl
  fetched_same (Fetch b g region) s = refl
  fetched_same (Store b k at e) s = refl
  fetched_same (Publish c) s = refl

  block_fetched_same : (all : Statements) (s : Symbols) → block_fetched_cells all s ≡ block_fetched_cells (block_leveled all) s
  block_fetched_same Empty s = refl
  block_fetched_same (Then a rest) s =
      let later = block_fetched_same rest (after a s) ∙ ap (block_fetched_cells (block_leveled rest)) (after_same a s) in
      λ j. fetched_same a s j ++ later j

mutual
  fetch_lines_same : (n : ℕ) (ls : List Naming) (a : Statement) (line : ℕ) → fetch_lines n ls a line ≡ fetch_lines n ls (leveled a) line
  fetch_lines_same n ls (Seq all) line = block_fetch_lines_same n ls all line
  fetch_lines_same n ls (For i x kind body) line = refl
  fetch_lines_same n ls (Let i pick forms) line = refl
  fetch_lines_same n ls (First i a b) line = refl
  fetch_lines_same n ls (Guard low high body) line = refl
  fetch_lines_same n ls (Alloc b f places) line = refl
  fetch_lines_same n ls (Fetch b g region) line = refl
  fetch_lines_same n ls (Store b k at e) line = refl
  fetch_lines_same n ls (Publish c) line = refl

  block_fetch_lines_same : (n : ℕ) (ls : List Naming) (all : Statements) (line : ℕ) → block_fetch_lines n ls all line ≡ block_fetch_lines n ls (block_leveled all) line
  block_fetch_lines_same n ls Empty line = refl
  block_fetch_lines_same n ls (Then a rest) line =
      let later = block_fetch_lines_same n (ls ++ naming a) rest (line + lines a)
      ∙ (λ j. block_fetch_lines n (ls ++ naming_same a j) (block_leveled rest) (line + lines_same a j)) in
      λ j. fetch_lines_same n ls a line j ++ later j

fetch_from_same : (p : Plan) (n : ℕ) (gs : List Group) → fetch_lines_from p n gs ≡ fetch_lines_from (plan_leveled p) n (map group_leveled gs)
fetch_from_same p n [] = refl
fetch_from_same p n (g ∷ gs) =
    let one = fetch_lines_same n [] g.body (body_line p n) ∙ (λ j. fetch_lines n [] (leveled g.body) ((groups_lines_same n p.groups j + 4) + 1)) in
    λ j. one j ++ fetch_from_same p (n + 1) gs j

first_cell_same : (gs : List Group) (n : ℕ) → first_cell gs n ≡ first_cell (map group_leveled gs) n
first_cell_same [] n = refl
first_cell_same (g ∷ gs) zero = refl
first_cell_same (g ∷ gs) (suc n) = λ j. length (group_points g) + first_cell_same gs n j

module _ (p : Plan) (c : Certificate) where
  number_same : (x : Cell) → cell_number p x ≡ cell_number (plan_leveled p) x
  number_same x = λ j. first_cell_same p.groups x.group j + point_rank no_symbols (at_same group_region (λ g. refl) p.groups x.group j) x.point

  pub cell_same : (x : Cell) → is_cell p x ≡ is_cell (plan_leveled p) x
  cell_same x = at_same (λ (o : Option Group). has_point o x.point) (λ g. refl) p.groups x.group

  cells_fetched_same : (j : Piece) → cells_fetched p j ≡ cells_fetched (plan_leveled p) j
  cells_fetched_same j = at_same (λ (o : Option Group). group_fetched o j) (λ g. fetched_same g.body (grid_symbols j.at)) p.groups j.group

  own_cells_same : (j : Piece) → own_cells p c j ≡ own_cells (plan_leveled p) c j
  own_cells_same j = at_same (λ (o : Option Group). group_own o c j) (λ g. refl) p.groups j.group

  all_pieces : pieces p ≡ pieces (plan_leveled p)
  all_pieces = pieces_same 0 p.groups

  of_same : {A : Type 0} (n : ℕ) (other : A) (f h : Piece → A) → ((x : Piece) → f x ≡ h x) → of_piece (slice_get (pieces p) n) other f ≡ of_piece (slice_get (pieces (plan_leveled p)) n) other h
  of_same n other f h same = (λ i. of_piece (slice_get (pieces p) n) other (λ x. same x i)) ∙ (λ i. of_piece (slice_get (all_pieces i) n) other h)

  own_same : (n : ℕ) → own_list p c n ≡ own_list (plan_leveled p) c n
  own_same n = of_same n [] (λ j. map (cell_number p) (own_cells p c j)) (λ j. map (cell_number (plan_leveled p)) (own_cells (plan_leveled p) c j)) (λ j i. map (λ x. number_same x i)
      (own_cells_same j i))

  fetched_list_same : (n : ℕ) → fetched_list p n ≡ fetched_list (plan_leveled p) n
  fetched_list_same n =
      of_same n [] (λ j. map (cell_number p) (cells_fetched p j)) (λ j. map (cell_number (plan_leveled p)) (cells_fetched (plan_leveled p) j)) (λ j i. map (λ x. number_same x i)
      (cells_fetched_same j i))

  needs_same : (n : ℕ) → needs_list p c n ≡ needs_list (plan_leveled p) c n
  needs_same n = of_same n [] (needed_pieces p c) (needed_pieces (plan_leveled p) c)
      (λ j i. filter (λ k. needs_this c j (slice_get (all_pieces i) k)) (range_with_len 0 (length (all_pieces i))))

  fetched_before_same : (n : ℕ) → fetched_before p n ≡ fetched_before (plan_leveled p) n
  fetched_before_same zero = refl
  fetched_before_same (suc n) = λ i. fetched_before_same n i + length (fetched_list_same n i)

  needed_before_same : (n : ℕ) → needed_before p c n ≡ needed_before (plan_leveled p) c n
  needed_before_same zero = refl
  needed_before_same (suc n) = λ i. needed_before_same n i + length (needs_same n i)

  near_same : LetsAreNear p ≡ LetsAreNear (plan_leveled p)
  near_same = λ i. All (LineIsNear (all_pieces i)) (fetch_from_same p 0 p.groups i)

  inside_piece : (o : Option Piece) → PieceIsInside p c o ≡ PieceIsInside (plan_leveled p) c o
  inside_piece None = refl
  inside_piece (Some j) = λ i. All (λ q. IsTrue (at_same (λ (o : Option Group). has_point o q) (λ g. refl) p.groups j.group i)) (region_points (own_region c.own j.group) j)

  inside_same : (n : ℕ) → OwnIsInside p c n ≡ OwnIsInside (plan_leveled p) c n
  inside_same n = inside_piece (slice_get (pieces p) n) ∙ (λ i. PieceIsInside (plan_leveled p) c (slice_get (all_pieces i) n))

  cells_piece : (o : Option Piece) → PieceFetchesCells p o ≡ PieceFetchesCells (plan_leveled p) o
  cells_piece None = refl
  cells_piece (Some j) = λ i. All (λ x. IsTrue (cell_same x i)) (cells_fetched_same j i)

  cells_all_same : (n : ℕ) → FetchesCells p n ≡ FetchesCells (plan_leveled p) n
  cells_all_same n = cells_piece (slice_get (pieces p) n) ∙ (λ i. PieceFetchesCells (plan_leveled p) (slice_get (all_pieces i) n))

  needs_inside : (j : Piece) → NeedsAreInside p j c.needs ≡ NeedsAreInside (plan_leveled p) j c.needs
  needs_inside j = λ i. All (λ (n : Need). n.group ≡ j.group → All (λ q. IsTrue (is_in_box (grid_sides (at_same group_grid (λ g. refl) p.groups n.needed i)) q)) (need_points j n)) c.needs

  needs_piece_same : (o : Option Piece) → MatchOption o (Unit {0}) (λ j. NeedsAreInside p j c.needs) ≡ MatchOption o (Unit {0}) (λ j. NeedsAreInside (plan_leveled p) j c.needs)
  needs_piece_same None = refl
  needs_piece_same (Some j) = needs_inside j

  needs_pieces_same : (n : ℕ) → NeedsPieces p c n ≡ NeedsPieces (plan_leveled p) c n
  needs_pieces_same n = needs_piece_same (slice_get (pieces p) n) ∙ (λ i. MatchOption (slice_get (all_pieces i) n) (Unit {0}) (λ j. NeedsAreInside (plan_leveled p) j c.needs))

  lists_same : (a : Algorithm) (samples : List ℕ) → HasSoundCells (work_of a p c samples) ≡ HasSoundCells (work_of a (plan_leveled p) c samples)
  lists_same a samples = λ i. HasSoundLists (length (all_pieces i)) (length (cells_same 0 p.groups i)) (λ n. own_same n i) (λ n. fetched_list_same n i) (λ n. needs_same n i)

  few_fetched : (fetched_before p (length (pieces p)) ≤ 2 ^ 26) ≡ (fetched_before (plan_leveled p) (length (pieces (plan_leveled p))) ≤ 2 ^ 26)
  few_fetched = (λ i. fetched_before_same (length (pieces p)) i ≤ 2 ^ 26) ∙ (λ i. fetched_before (plan_leveled p) (length (all_pieces i)) ≤ 2 ^ 26)

  few_needed : (needed_before p c (length (pieces p)) ≤ 2 ^ 24) ≡ (needed_before (plan_leveled p) c (length (pieces (plan_leveled p))) ≤ 2 ^ 24)
  few_needed = (λ i. needed_before_same (length (pieces p)) i ≤ 2 ^ 24) ∙ (λ i. needed_before (plan_leveled p) c (length (all_pieces i)) ≤ 2 ^ 24)

on_path : {A B : Type 0} → A ≡ B → A → B
on_path e x = subst (λ X. X) e x

pub shares_on : (p : Plan) (c : Certificate) → HasShares p c → HasShares (plan_leveled p) c
shares_on p c h = record {
  near = on_path (near_same p c) h.near;
  inside = λ n. on_path (inside_same p c n) (h.inside n);
  cells = λ n. on_path (cells_all_same p c n) (h.cells n);
  pieces = λ n. on_path (needs_pieces_same p c n) (h.pieces n);
  lists = λ a samples. on_path (lists_same p c a samples) (h.lists a samples);
  few = record { fetched = on_path (few_fetched p c) h.few.fetched; needed = on_path (few_needed p c) h.few.needed };
}

pub shares_back : (p : Plan) (c : Certificate) → HasShares (plan_leveled p) c → HasShares p c
shares_back p c h = record {
  near = on_path (sym (near_same p c)) h.near;
  inside = λ n. on_path (sym (inside_same p c n)) (h.inside n);
  cells = λ n. on_path (sym (cells_all_same p c n)) (h.cells n);
  pieces = λ n. on_path (sym (needs_pieces_same p c n)) (h.pieces n);
  lists = λ a samples. on_path (sym (lists_same p c a samples)) (h.lists a samples);
  few = record { fetched = on_path (sym (few_fetched p c)) h.few.fetched; needed = on_path (sym (few_needed p c)) h.few.needed };
}

-- ---- rules

module _ (a : Algorithm) (p : Plan) (c : Certificate) where
  source_same : (o : Source) → source_call a p c o ≡ source_call a (plan_leveled p) c o
  source_same Input = refl
  source_same (ByClaim k) = refl
  source_same Unknown = refl

  called_same : (name : List ℕ) → called a p c name ≡ called a (plan_leveled p) c name
  called_same name = source_same (source_of p.input.name (length c.claims) name)

  pub rules_same : (n : ℕ) → rules_of a p c n ≡ rules_of a (plan_leveled p) c n
  rules_same n = λ j. record {
    claim_line = claim_line c (cert_line_same p j);
    window_line = λ k. window_line c (cert_line_same p j) (first_window c.windows k);
    last = λ f. update_count (function_named a.functions f);
    extents = map grid_span a.input_extents;
    own = or_nowhere (own_region c.own n);
    at_most = shown_at_most;
    interval = λ bs names vars e.
        let scope = scope_of bs in
        if list_all (is_index_span scope) vars && ((length names == length vars) && is_some (type_of (is_among names) (λ name. called_same name j) e))
        then or_anything (interval scope (λ name. called_same name j) names vars e) else anything;
  }
