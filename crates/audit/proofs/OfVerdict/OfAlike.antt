-- An accepted plan stays accepted where other loops of it are written out.
use Rattle.std.proofs.Common.{◌≡◌, ℕ, zero, suc, ◌+◌, ◌-◌, Bool, true, false, List, [], ◌∷◌, ◌++◌, map, take, drop, length, Option, Some, None, refl, sym, ap, ◌∙◌, subst}
use Rattle.std.specs.Prelude.{◌≤◌, ◌^◌, ◌==◌, ◌||◌, ◌&&◌, not, nat_lt, nat_le, if◌then◌else◌, flat_map, slice_get, ℤ, int_le, All, IsTrue, MatchOption, filter, is_some}
use Rattle.std.specs.List.{list_any, list_all, range_with_len}
use Rattle.tree.specs.Term.{Term}
use Rattle.lin.specs.Forms.{is_within_limits}
use Rattle.lin.specs.declared.span.Span1.{Span1}
use Rattle.meaning.specs.Algorithm.{Algorithm}
use Rattle.meaning.specs.Names.{is_among, same_name}
use Rattle.tree.specs.Typing.{type_of}
use Rattle.bounds.specs.Interval.{interval}
use Rattle.meaning.specs.Inlining.PutIn.{put_in, calls_updates}
use Rattle.meaning.specs.Conditions as N
use Rattle.meaning.specs.Conditions.{is_variable}
use Rattle.plan.specs.declared.stmt.Kind.{Kind}
use Rattle.plan.specs.declared.stmt.Kind.TheVariants.{Serial, Unroll, Vector}
use Rattle.plan.specs.declared.certificate.cert.Own.{Own}
use Rattle.plan.specs.declared.certificate.cert.Need.{Need}
use Rattle.plan.specs.declared.certificate.cert.Window.{Window}
use Rattle.plan.specs.Lines.{lines, group_lines, group_line, body_line, certificate_line}
use Rattle.plan.specs.Plan.{Index, At, Found, Coordinate, Statement, Seq, For, Let, First, Guard, Alloc, Fetch, Store, Publish, Statements, Empty, Then, Group, Plan}
use Rattle.plan.specs.Symbols.{Symbols, bind, form_value, largest, turns, points}
use Rattle.plan.specs.Certificate.Certificate.{Claim, Certificate}
use Rattle.plan.specs.Certificate.Lines.{own_line, need_line, claim_line, window_line}
use Rattle.plan.specs.Certificate.Cells.{Cell, Piece, cell, cells, pieces, first_cell, grid_symbols, group_points, no_symbols, own_region, piece_count}
use Rattle.plan.specs.Semantics.Actions.{after, Setting}
use Rattle.plan.specs.Semantics.Run.{Source, Input, ByClaim, Unknown, source_of}
use Rattle.plan.specs.Semantics.Setting.{Buffer, allocated}
use Rattle.soundness.specs.Given.{outline_of, claim_or_none, named_from, function_named}
use Rattle.soundness.specs.Origins.{Outline}
use Rattle.soundness.specs.Obligations.{Rules, anything, first_window, is_form, obligations}
use Rattle.soundness.specs.Shown.{all_shown, start}
use Rattle.soundness.specs.Binders.View.{grid_binders, grid_span}
use Rattle.soundness.specs.Nests.Laws.{domains_of}
use Rattle.soundness.specs.Outline.Flaws.{Flaw, unless, line_told}
use Rattle.soundness.specs.Outline.Forms as F
use Rattle.soundness.specs.Outline.Forms.{is_over, are_over, are_within_limits, spans_are_within_limits, is_listed, have_ends, spans_are_over}
use Rattle.soundness.specs.Outline.Kept.{is_alone_in, keeps, some_keep}
use Rattle.soundness.specs.Claims.{is_update}
use Rattle.tails.specs.Windows.Nests.{slid_nests}
use Rattle.tails.specs.Windows.Shown.{IsShown}
use Rattle.headline.specs.Fetched.{fetched_cells, block_fetched_cells}
use Rattle.headline.specs.Numbers.{cell_number, group_grid, group_region, has_point, is_cell, point_rank}
use Rattle.headline.specs.Sound.{publishes, block_publishes}
use Rattle.headline.specs.Theorem.{HasSoundCells}
use Rattle.headline.specs.Work.{cells_fetched, group_fetched, group_own, needed_pieces, needs_this, of_piece, own_cells, work_of}
use Rattle.orders.specs.Work.{HasSoundLists}
use Rattle.rules.specs.Bounding.Called.{called, source_call, update_count}
use Rattle.rules.specs.Bounding.Rules.{rules_of, known_interval, or_nowhere, is_index_span, or_anything}
use Rattle.rules.specs.Bounding.Scopes.{scope_of, shown_at_most}
use Rattle.shares.specs.FetchLines.{FetchLine, fetch_lines, block_fetch_lines, fetch_lines_from, plan_fetch_lines, LineIsNear, LetsAreNear}
use Rattle.shares.specs.Lets.{Naming, naming}
use Rattle.shares.specs.Has.{HasShares, AreFew, NeedsPieces, fetched_before, needed_before}
use Rattle.shares.specs.Layout.{own_list, fetched_list, needs_list, FetchesCells, OwnIsInside, PieceIsInside, PieceFetchesCells, AllCells, region_points}
use Rattle.shares.specs.Needed.{NeedsAreInside, need_points}
use Rattle.shares.specs.Boxes.{grid_sides, is_in_box}
use Rattle.validation.specs.Groups.Lanes.{only, only_in, fits_mark, stores_lanes, takes_lanes, admits_lanes}
use Rattle.validation.specs.Groups.Lines as L
use Rattle.validation.specs.Groups.Sizes.{more, allotted, block_allotted, bound_in, block_bound_in, held_in, block_held_in, cell_count, is_extent}
use Rattle.validation.specs.Stored.Definitions.{Definition, Pure, Step, parts_named, has_variables, function_in, definition_in, allots, block_allots, is_stored, stored_in}
use Rattle.validation.specs.Stored.Stored.{has_names, is_named, is_known, index_is_over, index_is_within, index_is_small, index_is_known, has_line, is_call, source_takes, is_defined, is_left, are_left, is_put_in, as_read}
use Rattle.validation.specs.Stored.Alike.{same_term}
use Rattle.validation.specs.Stored.Sizes.{counted}
use Rattle.validation.specs.Certificate.Certificate as C
use Rattle.validation.specs.Certificate.Lines.{line_flaws, window_line_flaws, each_line}
use Rattle.validation.specs.Certificate.Placing as P
use Rattle.validation.specs.declared.stored.lines.GroupLines.{GroupLines}
use Rattle.audit.specs.Verdict.Accepted.{IsAccepted}
use Rattle.audit.specs.Verdict.Kinds.{rolled, block_rolled, rolled_kind, group_rolled, plan_rolled}
use Rattle.audit.specs.Verdict.Alike.{AlikeAreAccepted}
use Rattle.audit.specs.Verdict.Shown.Wide.{HasHead, HasOutput}
use Rattle.audit.proofs.OfVerdict.OfKinds.{allocated_same, lines_same, groups_lines_same, all_lines_same, cells_same, pieces_same, setting_same, rolled_at}
use Rattle.audit.proofs.OfVerdict.OfOwed.{shown_stays, stands_same}

-- ---- groups by their numbers

at_same : {B : Type 0} (f : Option Group → B) → ((g : Group) → f (Some g) ≡ f (Some (group_rolled g))) → (gs : List Group) (n : ℕ) → f (slice_get gs n) ≡ f (slice_get (map group_rolled gs) n)
at_same f same [] n = refl
at_same f same (g ∷ gs) zero = same g
at_same f same (g ∷ gs) (suc n) = at_same f same gs n

type_at : (f : Option Group → Type 0) → ((g : Group) → f (Some g) ≡ f (Some (group_rolled g))) → (gs : List Group) (n : ℕ) → f (slice_get gs n) ≡ f (slice_get (map group_rolled gs) n)
type_at f same [] n = refl
type_at f same (g ∷ gs) zero = same g
type_at f same (g ∷ gs) (suc n) = type_at f same gs n

rolled_back : (gs : List Group) (n : ℕ) (h : Group) → slice_get (map group_rolled gs) n ≡ Some h → (g : Group) × (slice_get gs n ≡ Some g) × (group_rolled g ≡ h)
rolled_back [] n h at = absurd (cc at)
rolled_back (g ∷ gs) zero h at = (g, refl, cc)
rolled_back (g ∷ gs) (suc n) h at = rolled_back gs n h at

many_same : (gs : List Group) → length gs ≡ length (map group_rolled gs)
many_same [] = refl
many_same (g ∷ gs) = λ j. suc (many_same gs j)

-- ---- what is told of statements

mutual
  publishes_same : (a : Statement) → publishes a ≡ publishes (rolled a)
  publishes_same (Seq all) = block_publishes_same all
  publishes_same (For i x kind body) = publishes_same body
  publishes_same (Let i pick forms) = refl
  publishes_same (First i a b) = λ j. publishes_same a j || publishes_same b j
  publishes_same (Guard low high body) = publishes_same body
  publishes_same (Alloc b f places) = refl
  publishes_same (Fetch b g region) = refl
  publishes_same (Store b k at e) = refl
  publishes_same (Publish c) = refl

  block_publishes_same : (all : Statements) → block_publishes all ≡ block_publishes (block_rolled all)
  block_publishes_same Empty = refl
  block_publishes_same (Then a rest) = λ j. publishes_same a j || block_publishes_same rest j

mutual
  allotted_same : (a : Statement) → allotted a ≡ allotted (rolled a)
  allotted_same (Seq all) = block_allotted_same all
  allotted_same (For i x kind body) = allotted_same body
  allotted_same (Let i pick forms) = refl
  allotted_same (First i a b) = λ j. more (allotted_same a j) (allotted_same b j)
  allotted_same (Guard low high body) = allotted_same body
  allotted_same (Alloc b f places) = refl
  allotted_same (Fetch b g region) = refl
  allotted_same (Store b k at e) = refl
  allotted_same (Publish c) = refl

  block_allotted_same : (all : Statements) → block_allotted all ≡ block_allotted (block_rolled all)
  block_allotted_same Empty = refl
  block_allotted_same (Then a rest) = λ j. more (allotted_same a j) (block_allotted_same rest j)

mutual
  bound_same : (a : Statement) → bound_in a ≡ bound_in (rolled a)
  bound_same (Seq all) = block_bound_same all
  bound_same (For i x kind body) = λ j. more 1 (bound_same body j)
  bound_same (Let i pick forms) = refl
  bound_same (First i a b) = λ j. more (bound_same a j) (bound_same b j)
  bound_same (Guard low high body) = bound_same body
  bound_same (Alloc b f places) = refl
  bound_same (Fetch b g region) = refl
  bound_same (Store b k at e) = refl
  bound_same (Publish c) = refl

  block_bound_same : (all : Statements) → block_bound_in all ≡ block_bound_in (block_rolled all)
  block_bound_same Empty = refl
  block_bound_same (Then a rest) = λ j. more (bound_same a j) (block_bound_same rest j)

mutual
  held_same : (a : Statement) → held_in a ≡ held_in (rolled a)
  held_same (Seq all) = block_held_same all
  held_same (For i x kind body) = held_same body
  held_same (Let i pick forms) = refl
  held_same (First i a b) = λ j. more (held_same a j) (held_same b j)
  held_same (Guard low high body) = held_same body
  held_same (Alloc b f places) = refl
  held_same (Fetch b g region) = refl
  held_same (Store b k at e) = refl
  held_same (Publish c) = refl

  block_held_same : (all : Statements) → block_held_in all ≡ block_held_in (block_rolled all)
  block_held_same Empty = refl
  block_held_same (Then a rest) = λ j. more (held_same a j) (block_held_same rest j)

mutual
  allots_same : (name : List ℕ) (a : Statement) → allots name a ≡ allots name (rolled a)
  allots_same name (Seq all) = block_allots_same name all
  allots_same name (For i x kind body) = allots_same name body
  allots_same name (Let i pick forms) = refl
  allots_same name (First i a b) = λ j. allots_same name a j || allots_same name b j
  allots_same name (Guard low high body) = allots_same name body
  allots_same name (Alloc b f places) = refl
  allots_same name (Fetch b g region) = refl
  allots_same name (Store b k at e) = refl
  allots_same name (Publish c) = refl

  block_allots_same : (name : List ℕ) (all : Statements) → block_allots name all ≡ block_allots name (block_rolled all)
  block_allots_same name Empty = refl
  block_allots_same name (Then a rest) = λ j. allots_same name a j || block_allots_same name rest j

mutual
  precede_same : (a : Statement) → L.may_precede a ≡ L.may_precede (rolled a)
  precede_same (Seq all) = all_precede_same all
  precede_same (For i x kind body) = refl
  precede_same (Let i pick forms) = refl
  precede_same (First i a b) = refl
  precede_same (Guard low high body) = refl
  precede_same (Alloc b f places) = refl
  precede_same (Fetch b g region) = refl
  precede_same (Store b k at e) = refl
  precede_same (Publish c) = refl

  all_precede_same : (all : Statements) → L.may_all_precede all ≡ L.may_all_precede (block_rolled all)
  all_precede_same Empty = refl
  all_precede_same (Then a rest) = λ j. precede_same a j && all_precede_same rest j

symbols_same : (a : Statement) (xs : List ℕ) → L.symbols_after a xs ≡ L.symbols_after (rolled a) xs
symbols_same (Seq all) xs = refl
symbols_same (For i x kind body) xs = refl
symbols_same (Let i pick forms) xs = refl
symbols_same (First i a b) xs = refl
symbols_same (Guard low high body) xs = refl
symbols_same (Alloc b f places) xs = refl
symbols_same (Fetch b g region) xs = refl
symbols_same (Store b k at e) xs = refl
symbols_same (Publish c) xs = refl

buffers_same : (a : Statement) (xs : List ℕ) → L.buffers_after a xs ≡ L.buffers_after (rolled a) xs
buffers_same (Seq all) xs = refl
buffers_same (For i x kind body) xs = refl
buffers_same (Let i pick forms) xs = refl
buffers_same (First i a b) xs = refl
buffers_same (Guard low high body) xs = refl
buffers_same (Alloc b f places) xs = refl
buffers_same (Fetch b g region) xs = refl
buffers_same (Store b k at e) xs = refl
buffers_same (Publish c) xs = refl

naming_same : (a : Statement) → naming a ≡ naming (rolled a)
naming_same (Seq all) = refl
naming_same (For i x kind body) = refl
naming_same (Let i pick forms) = refl
naming_same (First i a b) = refl
naming_same (Guard low high body) = refl
naming_same (Alloc b f places) = refl
naming_same (Fetch b g region) = refl
naming_same (Store b k at e) = refl
naming_same (Publish c) = refl

after_same : (a : Statement) (s : Symbols) → after a s ≡ after (rolled a) s
after_same (Seq all) s = refl
after_same (For i x kind body) s = refl
after_same (Let i pick forms) s = refl
after_same (First i a b) s = refl
after_same (Guard low high body) s = refl
after_same (Alloc b f places) s = refl
after_same (Fetch b g region) s = refl
after_same (Store b k at e) s = refl
after_same (Publish c) s = refl

-- ---- a vector's body

abbrev one_rolled : Option Statement → Option Statement
one_rolled None = None
one_rolled (Some a) = Some (rolled a)

mutual
  only_same : (a : Statement) → one_rolled (only a) ≡ only (rolled a)
  only_same (Seq all) = only_in_same all
  only_same (For i x kind body) = refl
  only_same (Let i pick forms) = refl
  only_same (First i a b) = refl
  only_same (Guard low high body) = refl
  only_same (Alloc b f places) = refl
  only_same (Fetch b g region) = refl
  only_same (Store b k at e) = refl
  only_same (Publish c) = refl

  only_in_same : (all : Statements) → one_rolled (only_in all) ≡ only_in (block_rolled all)
  only_in_same Empty = refl
  only_in_same (Then a Empty) = only_same a
  only_in_same (Then a (Then b rest)) = refl

module _ (a : Algorithm) (setting : Setting) (lane : ℕ) where
  stores_same : (o : Option Statement) → stores_lanes a setting lane o ≡ stores_lanes a setting lane (one_rolled o)
  stores_same None = refl
  stores_same (Some (Seq all)) = refl
  stores_same (Some (For i x kind body)) = refl
  stores_same (Some (Let i pick forms)) = refl
  stores_same (Some (First i s r)) = refl
  stores_same (Some (Guard low high body)) = refl
  stores_same (Some (Alloc b f places)) = refl
  stores_same (Some (Fetch b g region)) = refl
  stores_same (Some (Store b k at e)) = refl
  stores_same (Some (Publish c)) = refl

  takes_same : (o : Option Statement) → takes_lanes a setting lane o ≡ takes_lanes a setting lane (one_rolled o)
  takes_same None = refl
  takes_same (Some (Seq all)) = refl
  takes_same (Some (For i x kind body)) = refl
  takes_same (Some (Let i pick forms)) = refl
  takes_same (Some (First i s r)) = refl
  takes_same (Some (Guard low high body)) = ap (λ v. admits_lanes lane low high && v) (stores_same (only body) ∙ ap (stores_lanes a setting lane) (only_same body))
  takes_same (Some (Alloc b f places)) = refl
  takes_same (Some (Fetch b g region)) = refl
  takes_same (Some (Store b k at e)) = refl
  takes_same (Some (Publish c)) = refl

  fits_same : (kind : Kind) (body : Statement) → fits_mark a setting lane kind body ≡ fits_mark a setting lane (rolled_kind kind) (rolled body)
  fits_same Serial body = refl
  fits_same Unroll body = refl
  fits_same Vector body = takes_same (only body) ∙ ap (takes_lanes a setting lane) (only_same body)

-- ---- what is stored

stored_group : (name : List ℕ) (gs : List Group) → list_any (λ (g : Group). same_name g.function name || allots name g.body) gs ≡ list_any (λ (g : Group). same_name g.function name || allots name g.body) (map group_rolled gs)
stored_group name [] = refl
stored_group name (g ∷ gs) = λ j. (same_name g.function name || allots_same name g.body j) || stored_group name gs j

stored_same : (a : Algorithm) (p : Plan) → stored_in a p ≡ stored_in a (plan_rolled p)
stored_same a p = λ j. map (λ f. stored_group f.name p.groups j) a.functions

module _ (a : Algorithm) (p : Plan) (outline : Outline) where
  put_same : (d e : Term) → is_put_in a p outline d e ≡ is_put_in a (plan_rolled p) outline d e
  put_same d e = λ j. not (calls_updates a (stored_same a p j) d) && same_term (as_read outline e) (put_in a (stored_same a p j) d)

  left_same : (v : List ℕ) (d : Term) (x : Index) → is_left a p outline v d x ≡ is_left a (plan_rolled p) outline v d x
  left_same v d (At l) = refl
  left_same v d (Found e) = λ j. not (is_variable v d) && put_same d e j

  all_left_same : (vs : List (List ℕ)) (ds : List Term) (cs : List Coordinate) → are_left a p outline vs ds cs ≡ are_left a (plan_rolled p) outline vs ds cs
  all_left_same [] [] [] = refl
  all_left_same [] [] (c ∷ cs) = refl
  all_left_same [] (d ∷ ds) cs = refl
  all_left_same (v ∷ vs) [] cs = refl
  all_left_same (v ∷ vs) (d ∷ ds) [] = refl
  all_left_same (v ∷ vs) (d ∷ ds) (c ∷ cs) = λ j. left_same v d c.index j && all_left_same vs ds cs j

  defined_same : (m : Definition) (at : List Coordinate) (e : Term) → is_defined a p outline m at e ≡ is_defined a (plan_rolled p) outline m at e
  defined_same (Pure f) at e = λ j. list_all is_form at && put_same f.value e j
  defined_same (Step f u) at e =
      λ j. all_left_same f.variables u.at (take (length f.variables) at) j && (list_all is_form (drop (length f.variables) at) && put_same u.value e j)

  call_same : (group : GroupLines) (o : Source) (n : ℕ) → source_takes a p group outline o n ≡ source_takes a (plan_rolled p) group outline o n
  call_same group Input n = refl
  call_same group (ByClaim c) n = refl
  call_same group Unknown n = refl

-- ---- flaws of a group's lines

empty_same : (all : Statements) → L.is_empty all ≡ L.is_empty (block_rolled all)
empty_same Empty = refl
empty_same (Then a rest) = refl

later_here : (a : Statement) (here : L.Here) → L.in_later a here ≡ L.in_later (rolled a) here
later_here a here = λ j. record {
  group = here.group;
  line = L.on here.line (lines_same a j + 2);
  symbols = here.symbols;
  loops = here.loops;
  buffers = here.buffers;
  used = more here.used (allotted_same a j);
  bound = more here.bound (bound_same a j);
  held = more here.held (held_same a j);
  fetching = false;
  last = false;
}

after_here : (a : Statement) (here : L.Here) → L.after a here ≡ L.after (rolled a) here
after_here a here = λ j. record {
  group = here.group;
  line = L.on here.line (lines_same a j);
  symbols = symbols_same a here.symbols j;
  loops = here.loops;
  buffers = buffers_same a here.buffers j;
  used = more here.used (allotted_same a j);
  bound = more here.bound (bound_same a j);
  held = more here.held (held_same a j);
  fetching = here.fetching && precede_same a j;
  last = here.last;
}

module _ (a : Algorithm) (p : Plan) (c : Certificate) (g : Group) (outline : Outline) where
  abbrev there : Plan
  there = plan_rolled p

  named_same : (o : Option Definition) (here : L.Here) (b : ℕ) (at : List Coordinate) (e : Term) →
      L.definition_is_named a p c g outline o here b at e ≡ L.definition_is_named a there c (group_rolled g) outline o here b at e
  named_same None here b at e = refl
  named_same (Some m) here b at e =
      λ j. has_names m at && (outline.setting.dimensions b == length (function_in m).variables
      && (list_all (λ x. index_is_over here.symbols x.index) at
      && (list_all (λ x. index_is_known (is_named at) (λ name n. call_same a p outline here.group (outline.source name) n j) x.index) at
      && is_known (is_named at) (λ name n. call_same a p outline here.group (outline.source name) n j) e)))

  definition_same : (o : Option Definition) (at : List Coordinate) (e : Term) → L.definition_is_stored a p c g outline o at e ≡ L.definition_is_stored a there c (group_rolled g) outline o at e
  definition_same None at e = refl
  definition_same (Some m) at e = defined_same a p outline m at e

  mutual
    flaws_same : (s : Statement) (here : L.Here) → L.flaws a p c g outline s here ≡ L.flaws a there c (group_rolled g) outline (rolled s) here
    flaws_same (Seq all) here = block_flaws_same all here
    flaws_same (For i x kind body) here =
        λ j. (unless (L.is_new here.symbols i && (are_over here.symbols x.lower && are_over here.symbols x.upper)) 2 here.line
        ++ (unless (are_within_limits x.lower && are_within_limits x.upper) 3 here.line
        ++ (unless (fits_same a outline.setting i kind body j) 13 here.line
        ++ unless ((is_listed x.lower && is_listed x.upper) && nat_lt here.bound 256) 14 here.line))) ++ flaws_same body (L.in_loop i here) j
    flaws_same (Let i pick forms) here = refl
    flaws_same (First i s t) here =
        let second = flaws_same t (L.in_later s here) ∙ (λ j. L.flaws a there c (group_rolled g) outline (rolled t) (later_here s here j)) in
        λ j. L.line_flaws here.line (L.is_one_of here.loops i) true true true ++ (flaws_same s (L.inside here) j ++ second j)
    flaws_same (Guard low high body) here =
        λ j. L.line_flaws here.line (is_over here.symbols low && is_over here.symbols high) (is_within_limits low && is_within_limits high) true true
        ++ flaws_same body (L.inside here) j
    flaws_same (Alloc b f places) here = refl
    flaws_same (Fetch b h region) here =
        λ j. L.line_flaws here.line
        (list_any (λ x. x == b) here.buffers && (nat_lt h (many_same p.groups j)
        && (same_name (outline.setting.group_function h) (outline.setting.buffer_function b)
        && (has_variables (parts_named a (outline.setting.group_function h)) (length region) && spans_are_over here.symbols region))))
        (spans_are_within_limits region) true (L.fetch_is_taken here region)
    flaws_same (Store b k at e) here =
        let m = definition_in (parts_named a (outline.setting.buffer_function b)) k in
        λ j. L.line_flaws here.line
        (list_any (λ x. x == b) here.buffers && named_same m here b at e j)
        (list_all (λ x. index_is_within x.index) at)
        (not (L.store_is_small a p c g outline at e) || definition_same m at e j)
        (L.store_is_small a p c g outline at e)
    flaws_same (Publish k) here = refl

    block_flaws_same : (all : Statements) (here : L.Here) → L.block_flaws a p c g outline all here ≡ L.block_flaws a there c (group_rolled g) outline (block_rolled all) here
    block_flaws_same Empty here = refl
    block_flaws_same (Then s rest) here =
        let first = flaws_same s (L.before (L.is_empty rest) here) ∙ (λ j. L.flaws a there c (group_rolled g) outline (rolled s) (L.before (empty_same rest j) here)) in
        let later = block_flaws_same rest (L.after s here) ∙ (λ j. L.block_flaws a there c (group_rolled g) outline (block_rolled rest) (after_here s here j)) in
        λ j. first j ++ later j

earlier_same : (f : List ℕ) (n : ℕ) (gs : List Group) → list_any (λ (h : Group). same_name h.function f) (take n gs) ≡ list_any (λ (h : Group). same_name h.function f) (take n (map group_rolled gs))
earlier_same f zero gs = refl
earlier_same f (suc n) [] = refl
earlier_same f (suc n) (g ∷ gs) = λ j. same_name g.function f || earlier_same f n gs j

outline_same : (p : Plan) (c : Certificate) (n : ℕ) (g : Group) → outline_of p c n g ≡ outline_of (plan_rolled p) c n (group_rolled g)
outline_same p c n g = λ j. record {
  setting = setting_same p c n g j;
  source = source_of p.input.name (length c.claims);
  claim = λ k. claim_or_none (slice_get c.claims k);
  named = named_from 0 c.claims;
  windows = c.windows;
}

start_same : (line : ℕ) (g : Group) → L.start line g ≡ L.start line (group_rolled g)
start_same line g = λ j. record {
  group = record { first = line; behind = L.on line (lines_same g.body j + 1) };
  line = L.on line 1;
  symbols = F.grid_symbols (length g.grid);
  loops = [];
  buffers = [];
  used = 0;
  bound = length g.grid;
  held = 0;
  fetching = true;
  last = true;
}

module _ (a : Algorithm) (p : Plan) (c : Certificate) where
  group_same : (line n : ℕ) (g : Group) (cs ps : ℕ) → L.group_flaws a p c line n g cs ps ≡ L.group_flaws a (plan_rolled p) c line n (group_rolled g) cs ps
  group_same line n g cs ps =
      let inner = flaws_same a p c g (outline_of p c n g) g.body (L.start line g)
      ∙ (λ j. L.flaws a (plan_rolled p) c (group_rolled g) (outline_same p c n g j) (rolled g.body) (start_same line g j)) in
      λ j. L.line_flaws line
      (not (earlier_same g.function n p.groups j) && (has_variables (parts_named a g.function) (length g.region) && spans_are_over [] g.region))
      (spans_are_within_limits g.region)
      true
      (list_all is_extent g.region && (nat_le cs (2 ^ 24) && (nat_le ps (2 ^ 20) && (publishes_same g.body j && nat_le (length g.grid) 256))))
      ++ inner j

  groups_same : (gs : List Group) (n cs ps : ℕ) → L.groups_flaws a p c gs n cs ps ≡ L.groups_flaws a (plan_rolled p) c (map group_rolled gs) n cs ps
  groups_same [] n cs ps = refl
  groups_same (g ∷ gs) n cs ps =
      let one = group_same (line_told (group_line p n)) n g (more cs (cell_count g.region)) (more ps (counted (piece_count g.grid)))
      ∙ (λ j. L.group_flaws a (plan_rolled p) c (line_told (groups_lines_same n p.groups j + 4)) n (group_rolled g) (more cs (cell_count g.region)) (more ps (counted (piece_count g.grid)))) in
      λ j. one j ++ groups_same gs (n + 1) (more cs (cell_count g.region)) (more ps (counted (piece_count g.grid))) j

-- ---- flaws of the certificate

past_same : (a : Statement) (x : P.Spot) → P.past a x ≡ P.past (rolled a) x
past_same a x = λ j. record { symbols = symbols_same a x.symbols j; loops = x.loops; buffers = buffers_same a x.buffers j }

mutual
  spot_same : (a : Statement) (x : P.Spot) (k : ℕ) → P.spot_at a x k ≡ P.spot_at (rolled a) x k
  spot_same (Seq all) x k = block_spot_same all x k
  spot_same (For i span kind body) x zero = refl
  spot_same (For i span kind body) x (suc k) = λ j. P.in_body (lines_same body j) k (spot_same body (P.in_loop i x) k j) x
  spot_same (Let i pick forms) x k = refl
  spot_same (First i a b) x zero = refl
  spot_same (First i a b) x (suc k) =
      λ j. if nat_lt k (lines_same a j) then spot_same a x k j else P.later_at (lines_same b j) (λ m. spot_same b x m j) x (k - lines_same a j)
  spot_same (Guard low high body) x zero = refl
  spot_same (Guard low high body) x (suc k) = λ j. P.in_body (lines_same body j) k (spot_same body x k j) x
  spot_same (Alloc b f places) x k = refl
  spot_same (Fetch b g region) x k = refl
  spot_same (Store b d at e) x k = refl
  spot_same (Publish c) x k = refl

  block_spot_same : (all : Statements) (x : P.Spot) (k : ℕ) → P.block_spot_at all x k ≡ P.block_spot_at (block_rolled all) x k
  block_spot_same Empty x k = refl
  block_spot_same (Then a rest) x k =
      let onward = block_spot_same rest (P.past a x) (k - lines a) ∙ (λ j. P.block_spot_at (block_rolled rest) (past_same a x j) (k - lines_same a j)) in
      λ j. if nat_lt k (lines_same a j) then spot_same a x k j else onward j

abbrev place_rolled : Option P.Place → Option P.Place
place_rolled None = None
place_rolled (Some x) = Some (record { group = group_rolled x.group; spot = x.spot })

with_same : (g : Group) (o : Option P.Spot) → place_rolled (P.place_with g o) ≡ P.place_with (group_rolled g) o
with_same g None = refl
with_same g (Some x) = refl

group_spot_same : (g : Group) (k : ℕ) → P.group_spot_at g k ≡ P.group_spot_at (group_rolled g) k
group_spot_same g zero = refl
group_spot_same g (suc k) = spot_same g.body (P.group_spot g) k

if_place : (v : Bool) (x y : Option P.Place) → place_rolled (if v then x else y) ≡ (if v then place_rolled x else place_rolled y)
if_place true x y = refl
if_place false x y = refl

place_in_same : (gs : List Group) (k : ℕ) → place_rolled (P.place_in gs k) ≡ P.place_in (map group_rolled gs) k
place_in_same [] k = refl
place_in_same (g ∷ gs) k =
    let one = with_same g (P.group_spot_at g k) ∙ ap (P.place_with (group_rolled g)) (group_spot_same g k) in
    let onward = place_in_same gs (k - group_lines g) ∙ (λ j. P.place_in (map group_rolled gs) (k - (lines_same g.body j + 1))) in
    if_place (nat_lt k (group_lines g)) (P.place_with g (P.group_spot_at g k)) (P.place_in gs (k - group_lines g))
    ∙ (λ j. if nat_lt k (lines_same g.body j + 1) then one j else onward j)

place_same : (gs : List Group) (line : ℕ) → place_rolled (P.place_at gs line) ≡ P.place_at (map group_rolled gs) line
place_same gs line = if_place (nat_lt line 4) None (P.place_in gs (line - 4)) ∙ (λ j. if nat_lt line 4 then None else place_in_same gs (line - 4) j)

is_at_same : (o : Option P.Place) (k : Claim) → C.is_at o k ≡ C.is_at (place_rolled o) k
is_at_same None k = refl
is_at_same (Some x) k =
    λ j. list_any (λ b. b == k.buffer) x.spot.buffers && (C.is_of_buffer (allocated_same x.group.body k.buffer j) k && spans_are_over x.spot.symbols k.region)

is_along_same : (o : Option P.Place) (w : Window) → C.is_along o w ≡ C.is_along (place_rolled o) w
is_along_same None w = refl
is_along_same (Some x) w = refl

window_known_same : (gs : List Group) (o : Option Claim) (w : Window) → C.is_window_of gs o w ≡ C.is_window_of (map group_rolled gs) o w
window_known_same gs None w = refl
window_known_same gs (Some k) w = ap (λ v. nat_lt w.dimension (length k.region) && v) (is_along_same (P.place_at gs k.line) w ∙ ap (λ o. C.is_along o w) (place_same gs k.line))

alone_same : (rules : Rules) (outline : Outline) (w : Window) (a : Statement) (line : ℕ) → is_alone_in outline w a line ≡ is_alone_in outline w (rolled a) line
alone_same rules outline w (Seq row) line = λ j. not (is_update (outline.claim w.claim).definition) && stands_same outline rules w.symbol w.claim row line j
alone_same rules outline w (For i x kind body) line = refl
alone_same rules outline w (Let i pick forms) line = refl
alone_same rules outline w (First i a b) line = refl
alone_same rules outline w (Guard low high body) line = refl
alone_same rules outline w (Alloc b f places) line = refl
alone_same rules outline w (Fetch b g region) line = refl
alone_same rules outline w (Store b k at e) line = refl
alone_same rules outline w (Publish c) line = refl

mutual
  keeps_same : (rules : Rules) (outline : Outline) (w : Window) (a : Statement) (line : ℕ) → keeps outline w a line ≡ keeps outline w (rolled a) line
  keeps_same rules outline w (Seq all) line = some_keep_same rules outline w all line
  keeps_same rules outline w (For i x kind body) line = λ j. ((i == w.symbol) && alone_same rules outline w body (line + 1) j) || keeps_same rules outline w body (line + 1) j
  keeps_same rules outline w (Let i pick forms) line = refl
  keeps_same rules outline w (First i a b) line =
      let second = keeps_same rules outline w b (line + 2 + lines a) ∙ (λ j. keeps outline w (rolled b) (line + 2 + lines_same a j)) in
      λ j. keeps_same rules outline w a (line + 1) j || second j
  keeps_same rules outline w (Guard low high body) line = keeps_same rules outline w body (line + 1)
  keeps_same rules outline w (Alloc b f places) line = refl
  keeps_same rules outline w (Fetch b g region) line = refl
  keeps_same rules outline w (Store b k at e) line = refl
  keeps_same rules outline w (Publish c) line = refl

  some_keep_same : (rules : Rules) (outline : Outline) (w : Window) (all : Statements) (line : ℕ) → some_keep outline w all line ≡ some_keep outline w (block_rolled all) line
  some_keep_same rules outline w Empty line = refl
  some_keep_same rules outline w (Then a rest) line =
      let onward = some_keep_same rules outline w rest (line + lines a) ∙ (λ j. some_keep outline w (block_rolled rest) (line + lines_same a j)) in
      λ j. keeps_same rules outline w a line j || onward j

groups_keep_same : (rules : Rules) (p : Plan) (c : Certificate) (w : Window) (n : ℕ) (gs : List Group) → C.groups_keep p c w n gs ≡ C.groups_keep (plan_rolled p) c w n (map group_rolled gs)
groups_keep_same rules p c w n [] = refl
groups_keep_same rules p c w n (g ∷ gs) =
    let one = keeps_same rules (outline_of p c n g) w g.body (body_line p n) ∙ (λ j. keeps (outline_same p c n g j) w (rolled g.body) ((groups_lines_same n p.groups j + 4) + 1)) in
    λ j. one j || groups_keep_same rules p c w (n + 1) gs j

cert_line_same : (p : Plan) → certificate_line p ≡ certificate_line (plan_rolled p)
cert_line_same p = λ j. all_lines_same p.groups j + 4

abbrev option_rolled : Option Group → Option Group
option_rolled None = None
option_rolled (Some g) = Some (group_rolled g)

needed_groups : (n : Need) (gs : List Group) → C.need_is_known gs n ≡ C.need_is_known (map group_rolled gs) n
needed_groups n gs =
    at_same (λ (o : Option Group). C.is_need_of o (slice_get gs n.needed) n.region) (λ g. both (Some g) (slice_get gs n.needed)) gs n.group
    ∙ at_same (λ (o : Option Group). C.is_need_of (slice_get (map group_rolled gs) n.group) o n.region) (λ g. second (slice_get (map group_rolled gs) n.group) g) gs n.needed
  where
    both : (x y : Option Group) → C.is_need_of x y n.region ≡ C.is_need_of (option_rolled x) y n.region
    both None y = refl
    both (Some g) None = refl
    both (Some g) (Some h) = refl

    second : (x : Option Group) (g : Group) → C.is_need_of x (Some g) n.region ≡ C.is_need_of x (Some (group_rolled g)) n.region
    second None g = refl
    second (Some h) g = refl

certificate_same : (a : Algorithm) (p : Plan) (c : Certificate) → C.flaws_of_certificate a p c ≡ C.flaws_of_certificate a (plan_rolled p) c
certificate_same a p c =
    λ j. (unless (C.are_owned c.own (many_same p.groups j)) 10 (cert_line_same p j)
    ++ (each_line (λ i o. line_flaws (not (C.is_owned (take i c.own) o.group) && at_same (λ (g : Option Group). C.is_region_of g o.region) (λ g. refl) p.groups o.group j)
    (spans_are_within_limits o.region) (have_ends o.region) (own_line (cert_line_same p j) i)) 0 c.own
    ++ each_line (λ i n. line_flaws (needed_groups n p.groups j) (spans_are_within_limits n.region) (have_ends n.region) (need_line c (cert_line_same p j) i)) 0 c.needs))
    ++ (each_line (λ i k. line_flaws (C.is_of_function (N.function_named a.functions k.function) k && claim_at k j)
    (spans_are_within_limits k.region) (have_ends k.region && nat_lt i 4096) (claim_line c (cert_line_same p j) i)) 0 c.claims
    ++ each_line (λ i w. window_line_flaws (window_known_same p.groups (slice_get c.claims w.claim) w j) (C.span_is_within_limits w.span)
    (not (list_any (λ v. v.claim == w.claim) (take i c.windows)) && groups_keep_same (rules_of a p c 0) p c w 0 p.groups j) (C.has_ends w.span) (window_line c (cert_line_same p j) i)) 0 c.windows)
  where
    claim_at : (k : Claim) → C.is_at (P.place_at p.groups k.line) k ≡ C.is_at (P.place_at (map group_rolled p.groups) k.line) k
    claim_at k = is_at_same (P.place_at p.groups k.line) k ∙ ap (λ o. C.is_at o k) (place_same p.groups k.line)

-- ---- shares

mutual
  fetched_same : (a : Statement) (s : Symbols) → fetched_cells a s ≡ fetched_cells (rolled a) s
  fetched_same (Seq all) s = block_fetched_same all s
  fetched_same (For i x kind body) s = λ j. flat_map (λ z. fetched_same body (bind s i z (int_le z (largest s x.lower))) j) (turns s x)
  fetched_same (Let i pick forms) s = refl
  fetched_same (First i a b) s = λ j. if s.first i then fetched_same a s j else fetched_same b s j
  fetched_same (Guard low high body) s = λ j. if int_le (form_value low s) (form_value high s) then fetched_same body s j else []
  fetched_same (Alloc b f places) s = refl
  fetched_same (Fetch b g region) s = refl
  fetched_same (Store b k at e) s = refl
  fetched_same (Publish c) s = refl

  block_fetched_same : (all : Statements) (s : Symbols) → block_fetched_cells all s ≡ block_fetched_cells (block_rolled all) s
  block_fetched_same Empty s = refl
  block_fetched_same (Then a rest) s =
      let later = block_fetched_same rest (after a s) ∙ ap (block_fetched_cells (block_rolled rest)) (after_same a s) in
      λ j. fetched_same a s j ++ later j

mutual
  fetch_lines_same : (n : ℕ) (ls : List Naming) (a : Statement) (line : ℕ) → fetch_lines n ls a line ≡ fetch_lines n ls (rolled a) line
  fetch_lines_same n ls (Seq all) line = block_fetch_lines_same n ls all line
  fetch_lines_same n ls (For i x kind body) line = refl
  fetch_lines_same n ls (Let i pick forms) line = refl
  fetch_lines_same n ls (First i a b) line = refl
  fetch_lines_same n ls (Guard low high body) line = refl
  fetch_lines_same n ls (Alloc b f places) line = refl
  fetch_lines_same n ls (Fetch b g region) line = refl
  fetch_lines_same n ls (Store b k at e) line = refl
  fetch_lines_same n ls (Publish c) line = refl

  block_fetch_lines_same : (n : ℕ) (ls : List Naming) (all : Statements) (line : ℕ) → block_fetch_lines n ls all line ≡ block_fetch_lines n ls (block_rolled all) line
  block_fetch_lines_same n ls Empty line = refl
  block_fetch_lines_same n ls (Then a rest) line =
      let later = block_fetch_lines_same n (ls ++ naming a) rest (line + lines a)
      ∙ (λ j. block_fetch_lines n (ls ++ naming_same a j) (block_rolled rest) (line + lines_same a j)) in
      λ j. fetch_lines_same n ls a line j ++ later j

fetch_from_same : (p : Plan) (n : ℕ) (gs : List Group) → fetch_lines_from p n gs ≡ fetch_lines_from (plan_rolled p) n (map group_rolled gs)
fetch_from_same p n [] = refl
fetch_from_same p n (g ∷ gs) =
    let one = fetch_lines_same n [] g.body (body_line p n) ∙ (λ j. fetch_lines n [] (rolled g.body) ((groups_lines_same n p.groups j + 4) + 1)) in
    λ j. one j ++ fetch_from_same p (n + 1) gs j

first_cell_same : (gs : List Group) (n : ℕ) → first_cell gs n ≡ first_cell (map group_rolled gs) n
first_cell_same [] n = refl
first_cell_same (g ∷ gs) zero = refl
first_cell_same (g ∷ gs) (suc n) = λ j. length (group_points g) + first_cell_same gs n j

module _ (p : Plan) (c : Certificate) where
  number_same : (x : Cell) → cell_number p x ≡ cell_number (plan_rolled p) x
  number_same x = λ j. first_cell_same p.groups x.group j + point_rank no_symbols (at_same group_region (λ g. refl) p.groups x.group j) x.point

  cell_same : (x : Cell) → is_cell p x ≡ is_cell (plan_rolled p) x
  cell_same x = at_same (λ (o : Option Group). has_point o x.point) (λ g. refl) p.groups x.group

  cells_fetched_same : (j : Piece) → cells_fetched p j ≡ cells_fetched (plan_rolled p) j
  cells_fetched_same j = at_same (λ (o : Option Group). group_fetched o j) (λ g. fetched_same g.body (grid_symbols j.at)) p.groups j.group

  own_cells_same : (j : Piece) → own_cells p c j ≡ own_cells (plan_rolled p) c j
  own_cells_same j = at_same (λ (o : Option Group). group_own o c j) (λ g. refl) p.groups j.group

  all_pieces : pieces p ≡ pieces (plan_rolled p)
  all_pieces = pieces_same 0 p.groups

  of_same : {A : Type 0} (n : ℕ) (other : A) (f h : Piece → A) → ((x : Piece) → f x ≡ h x) → of_piece (slice_get (pieces p) n) other f ≡ of_piece (slice_get (pieces (plan_rolled p)) n) other h
  of_same n other f h same = (λ i. of_piece (slice_get (pieces p) n) other (λ x. same x i)) ∙ (λ i. of_piece (slice_get (all_pieces i) n) other h)

  own_same : (n : ℕ) → own_list p c n ≡ own_list (plan_rolled p) c n
  own_same n = of_same n [] (λ j. map (cell_number p) (own_cells p c j)) (λ j. map (cell_number (plan_rolled p)) (own_cells (plan_rolled p) c j)) (λ j i. map (λ x. number_same x i) (own_cells_same j i))

  fetched_list_same : (n : ℕ) → fetched_list p n ≡ fetched_list (plan_rolled p) n
  fetched_list_same n =
      of_same n [] (λ j. map (cell_number p) (cells_fetched p j)) (λ j. map (cell_number (plan_rolled p)) (cells_fetched (plan_rolled p) j)) (λ j i. map (λ x. number_same x i) (cells_fetched_same j i))

  needs_same : (n : ℕ) → needs_list p c n ≡ needs_list (plan_rolled p) c n
  needs_same n = of_same n [] (needed_pieces p c) (needed_pieces (plan_rolled p) c)
      (λ j i. filter (λ k. needs_this c j (slice_get (all_pieces i) k)) (range_with_len 0 (length (all_pieces i))))

  fetched_before_same : (n : ℕ) → fetched_before p n ≡ fetched_before (plan_rolled p) n
  fetched_before_same zero = refl
  fetched_before_same (suc n) = λ i. fetched_before_same n i + length (fetched_list_same n i)

  needed_before_same : (n : ℕ) → needed_before p c n ≡ needed_before (plan_rolled p) c n
  needed_before_same zero = refl
  needed_before_same (suc n) = λ i. needed_before_same n i + length (needs_same n i)

  near_same : LetsAreNear p ≡ LetsAreNear (plan_rolled p)
  near_same = λ i. All (LineIsNear (all_pieces i)) (fetch_from_same p 0 p.groups i)

  inside_piece : (o : Option Piece) → PieceIsInside p c o ≡ PieceIsInside (plan_rolled p) c o
  inside_piece None = refl
  inside_piece (Some j) = λ i. All (λ q. IsTrue (at_same (λ (o : Option Group). has_point o q) (λ g. refl) p.groups j.group i)) (region_points (own_region c.own j.group) j)

  inside_same : (n : ℕ) → OwnIsInside p c n ≡ OwnIsInside (plan_rolled p) c n
  inside_same n = inside_piece (slice_get (pieces p) n) ∙ (λ i. PieceIsInside (plan_rolled p) c (slice_get (all_pieces i) n))

  cells_piece : (o : Option Piece) → PieceFetchesCells p o ≡ PieceFetchesCells (plan_rolled p) o
  cells_piece None = refl
  cells_piece (Some j) = λ i. All (λ x. IsTrue (cell_same x i)) (cells_fetched_same j i)

  cells_all_same : (n : ℕ) → FetchesCells p n ≡ FetchesCells (plan_rolled p) n
  cells_all_same n = cells_piece (slice_get (pieces p) n) ∙ (λ i. PieceFetchesCells (plan_rolled p) (slice_get (all_pieces i) n))

  needs_inside : (j : Piece) → NeedsAreInside p j c.needs ≡ NeedsAreInside (plan_rolled p) j c.needs
  needs_inside j = λ i. All (λ (n : Need). n.group ≡ j.group → All (λ q. IsTrue (is_in_box (grid_sides (at_same group_grid (λ g. refl) p.groups n.needed i)) q)) (need_points j n)) c.needs

  needs_piece_same : (o : Option Piece) → MatchOption o (Unit {0}) (λ j. NeedsAreInside p j c.needs) ≡ MatchOption o (Unit {0}) (λ j. NeedsAreInside (plan_rolled p) j c.needs)
  needs_piece_same None = refl
  needs_piece_same (Some j) = needs_inside j

  needs_pieces_same : (n : ℕ) → NeedsPieces p c n ≡ NeedsPieces (plan_rolled p) c n
  needs_pieces_same n = needs_piece_same (slice_get (pieces p) n) ∙ (λ i. MatchOption (slice_get (all_pieces i) n) (Unit {0}) (λ j. NeedsAreInside (plan_rolled p) j c.needs))

  lists_same : (a : Algorithm) (samples : List ℕ) → HasSoundCells (work_of a p c samples) ≡ HasSoundCells (work_of a (plan_rolled p) c samples)
  lists_same a samples = λ i. HasSoundLists (length (all_pieces i)) (length (cells_same 0 p.groups i)) (λ n. own_same n i) (λ n. fetched_list_same n i) (λ n. needs_same n i)

  few_fetched : (fetched_before p (length (pieces p)) ≤ 2 ^ 26) ≡ (fetched_before (plan_rolled p) (length (pieces (plan_rolled p))) ≤ 2 ^ 26)
  few_fetched = (λ i. fetched_before_same (length (pieces p)) i ≤ 2 ^ 26) ∙ (λ i. fetched_before (plan_rolled p) (length (all_pieces i)) ≤ 2 ^ 26)

  few_needed : (needed_before p c (length (pieces p)) ≤ 2 ^ 24) ≡ (needed_before (plan_rolled p) c (length (pieces (plan_rolled p))) ≤ 2 ^ 24)
  few_needed = (λ i. needed_before_same (length (pieces p)) i ≤ 2 ^ 24) ∙ (λ i. needed_before (plan_rolled p) c (length (all_pieces i)) ≤ 2 ^ 24)

on_path : {A B : Type 0} → A ≡ B → A → B
on_path e x = subst (λ X. X) e x

shares_on : (p : Plan) (c : Certificate) → HasShares p c → HasShares (plan_rolled p) c
shares_on p c h = record {
  near = on_path (near_same p c) h.near;
  inside = λ n. on_path (inside_same p c n) (h.inside n);
  cells = λ n. on_path (cells_all_same p c n) (h.cells n);
  pieces = λ n. on_path (needs_pieces_same p c n) (h.pieces n);
  lists = λ a samples. on_path (lists_same p c a samples) (h.lists a samples);
  few = record { fetched = on_path (few_fetched p c) h.few.fetched; needed = on_path (few_needed p c) h.few.needed };
}

shares_back : (p : Plan) (c : Certificate) → HasShares (plan_rolled p) c → HasShares p c
shares_back p c h = record {
  near = on_path (sym (near_same p c)) h.near;
  inside = λ n. on_path (sym (inside_same p c n)) (h.inside n);
  cells = λ n. on_path (sym (cells_all_same p c n)) (h.cells n);
  pieces = λ n. on_path (sym (needs_pieces_same p c n)) (h.pieces n);
  lists = λ a samples. on_path (sym (lists_same p c a samples)) (h.lists a samples);
  few = record { fetched = on_path (sym (few_fetched p c)) h.few.fetched; needed = on_path (sym (few_needed p c)) h.few.needed };
}

-- ---- what is shown

module _ (a : Algorithm) (p : Plan) (c : Certificate) where
  source_same : (o : Source) → source_call a p c o ≡ source_call a (plan_rolled p) c o
  source_same Input = refl
  source_same (ByClaim k) = refl
  source_same Unknown = refl

  called_same : (name : List ℕ) → called a p c name ≡ called a (plan_rolled p) c name
  called_same name = source_same (source_of p.input.name (length c.claims) name)

  rules_same : (n : ℕ) → rules_of a p c n ≡ rules_of a (plan_rolled p) c n
  rules_same n = λ j. record {
    claim_line = claim_line c (cert_line_same p j);
    window_line = λ k. window_line c (cert_line_same p j) (first_window c.windows k);
    last = λ f. update_count (function_named a.functions f);
    extents = map grid_span a.input_extents;
    own = or_nowhere (own_region c.own n);
    at_most = shown_at_most;
    interval = λ bs names vars e.
        let scope = scope_of bs in
        if list_all (is_index_span scope) vars && ((length names == length vars) && is_some (type_of (is_among names) (λ name. called_same name j) e))
        then or_anything (interval scope (λ name. called_same name j) names vars e) else anything;
  }

  shown_same : (n : ℕ) (g : Group) →
      all_shown (rules_of a p c n) (slid_nests (outline_of p c n g) (rules_of a p c n) (domains_of a)) (obligations (outline_of p c n g) (rules_of a p c n) g.body (body_line p n) (start (grid_binders g.grid)))
      ≡ all_shown (rules_of a (plan_rolled p) c n) (slid_nests (outline_of (plan_rolled p) c n (group_rolled g)) (rules_of a (plan_rolled p) c n) (domains_of a))
      (obligations (outline_of (plan_rolled p) c n (group_rolled g)) (rules_of a (plan_rolled p) c n) (rolled g.body) (body_line (plan_rolled p) n) (start (grid_binders g.grid)))
  shown_same n g =
      (λ j. all_shown (rules_same n j) (slid_nests (outline_same p c n g j) (rules_same n j) (domains_of a))
      (obligations (outline_same p c n g j) (rules_same n j) g.body ((groups_lines_same n p.groups j + 4) + 1) (start (grid_binders g.grid))))
      ∙ shown_stays (outline_of (plan_rolled p) c n (group_rolled g)) (rules_of a (plan_rolled p) c n) (domains_of a) g.body (body_line (plan_rolled p) n) (start (grid_binders g.grid))

-- ---- the yes

-- all of the yes but the widths
record Most (a : Algorithm) (p : Plan) (c : Certificate) : Type 0 where
  head : HasHead a p
  groups : L.flaws_of_groups a p c ≡ []
  shown : (n : ℕ) (g : Group) → slice_get p.groups n ≡ Some g → IsShown (rules_of a p c n) a p c n g
  certificate : C.flaws_of_certificate a p c ≡ []
  shares : HasShares p c
  output : HasOutput a p

most_on : (a : Algorithm) (p : Plan) (c : Certificate) → Most a p c → Most a (plan_rolled p) c
most_on a p c h = record {
  head = record { name = h.head.name; input = h.head.input; output = h.head.output };
  groups = sym (groups_same a p c p.groups 0 0 0) ∙ h.groups;
  shown = λ n r at.
      let g = rolled_back p.groups n r at in
      subst (λ (x : Group). IsShown (rules_of a (plan_rolled p) c n) a (plan_rolled p) c n x) g.2 (sym (shown_same a p c n g.0) ∙ h.shown n g.0 g.1);
  certificate = sym (certificate_same a p c) ∙ h.certificate;
  shares = shares_on p c h.shares;
  output = record {
    number = h.output.number;
    group = group_rolled h.output.group;
    stands = rolled_at p.groups h.output.number h.output.group h.output.stands;
    function = h.output.function;
    inside = λ at within. sym (cell_same p c (cell h.output.number at)) ∙ h.output.inside at within;
  };
}

most_back : (a : Algorithm) (p : Plan) (c : Certificate) → Most a (plan_rolled p) c → Most a p c
most_back a p c h = record {
  head = record { name = h.head.name; input = h.head.input; output = h.head.output };
  groups = groups_same a p c p.groups 0 0 0 ∙ h.groups;
  shown = λ n g at. shown_same a p c n g ∙ h.shown n (group_rolled g) (rolled_at p.groups n g at);
  certificate = certificate_same a p c ∙ h.certificate;
  shares = shares_back p c h.shares;
  output = let g = rolled_back p.groups h.output.number h.output.group h.output.stands in record {
    number = h.output.number;
    group = g.0;
    stands = g.1;
    function = ap (λ (x : Group). x.function) g.2 ∙ h.output.function;
    inside = λ at within. cell_same p c (cell h.output.number at) ∙ h.output.inside at within;
  };
}

pub alike_are_accepted : AlikeAreAccepted
alike_are_accepted a p q c e h narrow =
    let first : Most a p c = record { head = h.head; groups = h.groups; shown = h.shown; certificate = h.certificate; shares = h.shares; output = h.output } in
    let most = most_back a q c (subst (λ (r : Plan). Most a r c) e (most_on a p c first)) in
    record { head = most.head; groups = most.groups; widths = narrow; shown = most.shown; certificate = most.certificate; shares = most.shares; output = most.output }
