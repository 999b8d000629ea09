-- The flaws of the lines of groups, each at its statement.
use Rattle.std.proofs.Common.{◌≡◌, ℕ, zero, suc, ◌+◌, ◌-◌, ◌^◌, ◌<◌, ◌≤◌, min, List, [], ◌∷◌, ◌++◌, take, length, true, Option, Some, None, refl, sym, ap, subst, arith, inl, inr}
use Rattle.std.specs.Prelude.{◌⊎◌, ◌&&◌, ◌||◌, ◌==◌, nat_le, nat_lt, not, slice_get}
use Rattle.std.specs.List.{list_all, list_any}
use Rattle.meaning.specs.Names.{same_name}
use Rattle.headline.specs.Sound.{publishes}
use Rattle.meaning.specs.Algorithm.{Algorithm}
use Rattle.plan.specs.Plan.{Statement, Seq, For, Let, First, Guard, Alloc, Fetch, Store, Publish, Statements, Empty, Then, Group, Plan}
use Rattle.plan.specs.Lines.{lines, block_lines, group_line, group_lines, groups_lines}
use Rattle.plan.specs.Certificate.Certificate.{Certificate}
use Rattle.plan.specs.Certificate.Cells.{piece_count}
use Rattle.soundness.specs.Origins.{Outline}
use Rattle.soundness.specs.Given.{outline_of}
use Rattle.soundness.specs.Outline.Forms.{is_over, are_over, spans_are_over, are_within_limits, spans_are_within_limits, is_listed}
use Rattle.lin.specs.Forms.{is_within_limits}
use Rattle.soundness.specs.Outline.Flaws.{Flaw, first_of, line_told}
use Rattle.validation.specs.Groups.Lanes.{fits_mark}
use Rattle.validation.specs.Groups.Sizes.{more, places_count, cell_count, is_extent}
use Rattle.validation.specs.Stored.Definitions.{parts_named, has_variables}
use Rattle.validation.specs.Stored.Stored.{index_is_within}
use Rattle.validation.specs.Stored.Sizes.{counted}
use Rattle.validation.specs.Groups.Lines.{Here, on, is_new, is_one_of, place_is_over, place_is_within, is_foldable, is_claim_of, before, after, in_later, in_loop, inside, is_empty, fetch_is_named, fetch_is_taken, definition_is_named, definition_is_stored, definition_of, store_is_small, flaws, block_flaws, group_flaws, groups_flaws, flaws_of_groups, start}
use Rattle.validation.specs.Told.{IsTold}
use Rattle.validation.specs.Groups.Inside.{Inside, InsideOne, Begins, StandsIn}
use Rattle.validation.proofs.Taken.{take_get}
use Rattle.validation.proofs.Told.{Has, has_left, has_right, has_parts, Ordered, Comes, joined, Tests, flags, line_of_flags, flags_ordered, told_so, on_either}

-- ---- what is so of some line

module _ (P Q : Statement → Here → Type 0) (f : (s : Statement) (here : Here) → P s here → Q s here) where
  mutual
    pub inside_map : (s : Statement) (here : Here) → Inside P s here → Inside Q s here
    inside_map (Seq all) here h = inside_one_map all here h
    inside_map (For i x kind body) here (inl h) = inl (f (For i x kind body) here h)
    inside_map (For i x kind body) here (inr h) = inr (inside_map body (in_loop i here) h)
    inside_map (Let i pick ls) here h = f (Let i pick ls) here h
    inside_map (First i a b) here (inl h) = inl (f (First i a b) here h)
    inside_map (First i a b) here (inr (inl h)) = inr (inl (inside_map a (inside here) h))
    inside_map (First i a b) here (inr (inr h)) = inr (inr (inside_map b (in_later a here) h))
    inside_map (Guard low high body) here (inl h) = inl (f (Guard low high body) here h)
    inside_map (Guard low high body) here (inr h) = inr (inside_map body (inside here) h)
    inside_map (Alloc b k places) here h = f (Alloc b k places) here h
    inside_map (Fetch b k region) here h = f (Fetch b k region) here h
    inside_map (Store b k at e) here h = f (Store b k at e) here h
    inside_map (Publish k) here h = f (Publish k) here h

    inside_one_map : (s : Statements) (here : Here) → InsideOne P s here → InsideOne Q s here
    inside_one_map Empty here h = absurd h
    inside_one_map (Then a rest) here (inl h) = inl (inside_map a (before (is_empty rest) here) h)
    inside_one_map (Then a rest) here (inr h) = inr (inside_one_map rest (after a here) h)

-- a line of a statement of so many lines that begins at this one
pub record Spans (line count l : ℕ) : Type 0 where
  pub low : min line (2 ^ 32 - 1) ≤ l
  pub high : l < line + count
  pub told : l ≤ 2 ^ 32 - 1

spans_line : (line count l : ℕ) → line_told line ≡ l → 0 < count → Spans line count l
spans_line line count l e lt = record { low = omega (arith, e); high = omega (arith, e, lt); told = omega (arith, e) }

-- what lies some lines on lies inside
spans_on : (line n m count l : ℕ) → Spans (on line n) m l → n + m ≤ count → Spans line count l
spans_on line n m count l s le = record { low = omega (arith, s.low); high = omega (arith, s.high, le); told = s.told }

-- a line of what comes first, and one of what stands behind it
comes_on : (line n m k l j q : ℕ) → Spans line n l → Spans (on line n) m q → Comes k l j q
comes_on line n m k l j q s t = record { before = omega (arith, s.high, s.told, t.low); lower = λ lt e. absurd (omega (arith, s.high, t.low, lt, e)) }

longer : (line m n l : ℕ) → Spans line m l → m ≤ n → Spans line n l
longer line m n l s le = record { low = s.low; high = omega (arith, s.high, le); told = s.told }

spans_later : (line m n l : ℕ) → Spans (on line (m + 2)) n l → Spans (on line 1) (m + n + 2) l
spans_later line m n l s = record { low = omega (arith, s.low); high = omega (arith, s.high, s.told); told = s.told }

module _ (a : Algorithm) (p : Plan) (c : Certificate) (g : Group) (o : Outline) where
  abbrev F : Statement → Here → List Flaw
  F = flaws a p c g o

  abbrev FS : Statements → Here → List Flaw
  FS = block_flaws a p c g o

  -- what is asked of a statement's own line: names, forms, a third thing with its code, and limits
  abbrev pub tests : Statement → Here → Tests
  tests (Seq all) here = record { names = true; forms = true; third = true; limits = true; code = 12 }
  tests (For i x kind body) here = record {
    names = is_new here.symbols i && (are_over here.symbols x.lower && are_over here.symbols x.upper);
    forms = are_within_limits x.lower && are_within_limits x.upper;
    third = fits_mark a o.setting i kind body;
    limits = (is_listed x.lower && is_listed x.upper) && nat_lt here.bound 256;
    code = 13;
  }
  tests (Let i pick ls) here = record {
    names = is_new here.symbols i && are_over here.symbols ls;
    forms = are_within_limits ls;
    third = true;
    limits = is_listed ls && nat_lt here.bound 256;
    code = 12;
  }
  tests (First i s t) here = record { names = is_one_of here.loops i; forms = true; third = true; limits = true; code = 12 }
  tests (Guard low high body) here = record {
    names = is_over here.symbols low && is_over here.symbols high;
    forms = is_within_limits low && is_within_limits high;
    third = true;
    limits = true;
    code = 12;
  }
  tests (Alloc b f places) here = record {
    names = has_variables (parts_named a f) (length places) && list_all (place_is_over here.symbols) places;
    forms = list_all place_is_within places;
    third = true;
    limits = list_all is_foldable places && (nat_le (more here.used (places_count places)) (2 ^ 22) && nat_lt here.held 256);
    code = 12;
  }
  tests (Fetch b h region) here = record {
    names = fetch_is_named a p c g o here b h region;
    forms = spans_are_within_limits region;
    third = true;
    limits = fetch_is_taken here region;
    code = 12;
  }
  tests (Store b k at e) here = record {
    names = list_any (λ x. x == b) here.buffers && definition_is_named a p c g o (definition_of a p c g o b k) here b at e;
    forms = list_all (λ x. index_is_within x.index) at;
    third = not (store_is_small a p c g o at e) || definition_is_stored a p c g o (definition_of a p c g o b k) at e;
    limits = store_is_small a p c g o at e;
    code = 12;
  }
  tests (Publish k) here = record { names = is_claim_of here.group (slice_get c.claims k) g.function; forms = true; third = true; limits = here.last; code = 12 }

  -- the flaws of a statement's own line
  abbrev pub own : Statement → Here → List Flaw
  own s here = flags (tests s here) here.line

  module _ (k l : ℕ) where
    -- a flaw is one of some statement's own line
    abbrev pub Own : Statement → Here → Type 0
    Own s here = Has k l (own s here)

    mutual
      pub walked : (s : Statement) (here : Here) → Has k l (F s here) → Inside Own s here
      walked (Seq all) here h = walked_all all here h
      walked (For i x kind body) here h = on_either (has_parts k l (own (For i x kind body) here) (F body (in_loop i here)) h) (λ u. inl u) (λ u. inr (walked body (in_loop i here) u))
      walked (Let i pick ls) here h = h
      walked (First i s t) here h = on_either (has_parts k l (own (First i s t) here) (F s (inside here) ++ F t (in_later s here)) h)
          (λ u. inl u)
          (λ v. on_either (has_parts k l (F s (inside here)) (F t (in_later s here)) v) (λ u. inr (inl (walked s (inside here) u))) (λ u. inr (inr (walked t (in_later s here) u))))
      walked (Guard low high body) here h = on_either (has_parts k l (own (Guard low high body) here) (F body (inside here)) h) (λ u. inl u) (λ u. inr (walked body (inside here) u))
      walked (Alloc b f places) here h = h
      walked (Fetch b q region) here h = h
      walked (Store b q at e) here h = h
      walked (Publish q) here h = h

      walked_all : (s : Statements) (here : Here) → Has k l (FS s here) → InsideOne Own s here
      walked_all Empty here h = absurd h
      walked_all (Then s rest) here h = on_either (has_parts k l (F s (before (is_empty rest) here)) (FS rest (after s here)) h)
          (λ u. inl (walked s (before (is_empty rest) here) u)) (λ u. inr (walked_all rest (after s here) u))

    mutual
      pub passed : (s : Statement) (here : Here) → Inside Own s here → Has k l (F s here)
      passed (Seq all) here h = passed_all all here h
      passed (For i x kind body) here (inl h) = has_left k l (own (For i x kind body) here) (F body (in_loop i here)) h
      passed (For i x kind body) here (inr h) = has_right k l (own (For i x kind body) here) (F body (in_loop i here)) (passed body (in_loop i here) h)
      passed (Let i pick ls) here h = h
      passed (First i s t) here (inl h) = has_left k l (own (First i s t) here) (F s (inside here) ++ F t (in_later s here)) h
      passed (First i s t) here (inr (inl h)) =
          has_right k l (own (First i s t) here) (F s (inside here) ++ F t (in_later s here)) (has_left k l (F s (inside here)) (F t (in_later s here)) (passed s (inside here) h))
      passed (First i s t) here (inr (inr h)) =
          has_right k l (own (First i s t) here) (F s (inside here) ++ F t (in_later s here)) (has_right k l (F s (inside here)) (F t (in_later s here)) (passed t (in_later s here) h))
      passed (Guard low high body) here (inl h) = has_left k l (own (Guard low high body) here) (F body (inside here)) h
      passed (Guard low high body) here (inr h) = has_right k l (own (Guard low high body) here) (F body (inside here)) (passed body (inside here) h)
      passed (Alloc b f places) here h = h
      passed (Fetch b q region) here h = h
      passed (Store b q at e) here h = h
      passed (Publish q) here h = h

      passed_all : (s : Statements) (here : Here) → InsideOne Own s here → Has k l (FS s here)
      passed_all Empty here h = absurd h
      passed_all (Then s rest) here (inl h) = has_left k l (F s (before (is_empty rest) here)) (FS rest (after s here)) (passed s (before (is_empty rest) here) h)
      passed_all (Then s rest) here (inr h) = has_right k l (F s (before (is_empty rest) here)) (FS rest (after s here)) (passed_all rest (after s here) h)

    -- the lines of a statement's flaws
    own_spans : (s : Statement) (here : Here) (count : ℕ) → 0 < count → Has k l (own s here) → Spans here.line count l
    own_spans s here count lt h = spans_line here.line count l (line_of_flags (tests s here) here.line k l h) lt

    mutual
      pub spanned : (s : Statement) (here : Here) → Has k l (F s here) → Spans here.line (lines s) l
      spanned (Seq all) here h = spanned_all all here h
      spanned (For i x kind body) here h = on_either (has_parts k l (own (For i x kind body) here) (F body (in_loop i here)) h)
          (λ u. own_spans (For i x kind body) here (lines body + 2) (omega arith) u)
          (λ u. spans_on here.line 1 (lines body) (lines body + 2) l (spanned body (in_loop i here) u) (omega arith))
      spanned (Let i pick ls) here h = own_spans (Let i pick ls) here 1 (omega arith) h
      spanned (First i s t) here h = on_either (has_parts k l (own (First i s t) here) (F s (inside here) ++ F t (in_later s here)) h)
          (λ u. own_spans (First i s t) here (lines s + lines t + 3) (omega arith) u)
          (λ v. on_either (has_parts k l (F s (inside here)) (F t (in_later s here)) v)
          (λ u. spans_on here.line 1 (lines s) (lines s + lines t + 3) l (spanned s (inside here) u) (omega arith))
          (λ u. spans_on here.line (lines s + 2) (lines t) (lines s + lines t + 3) l (spanned t (in_later s here) u) (omega arith)))
      spanned (Guard low high body) here h = on_either (has_parts k l (own (Guard low high body) here) (F body (inside here)) h)
          (λ u. own_spans (Guard low high body) here (lines body + 2) (omega arith) u)
          (λ u. spans_on here.line 1 (lines body) (lines body + 2) l (spanned body (inside here) u) (omega arith))
      spanned (Alloc b f places) here h = own_spans (Alloc b f places) here 1 (omega arith) h
      spanned (Fetch b q region) here h = own_spans (Fetch b q region) here 1 (omega arith) h
      spanned (Store b q at e) here h = own_spans (Store b q at e) here 1 (omega arith) h
      spanned (Publish q) here h = own_spans (Publish q) here 1 (omega arith) h

      spanned_all : (s : Statements) (here : Here) → Has k l (FS s here) → Spans here.line (block_lines s) l
      spanned_all Empty here h = absurd h
      spanned_all (Then s rest) here h = on_either (has_parts k l (F s (before (is_empty rest) here)) (FS rest (after s here)) h)
          (λ u. longer here.line (lines s) (lines s + block_lines rest) l (spanned s (before (is_empty rest) here) u) (omega arith))
          (λ u. spans_on here.line (lines s) (block_lines rest) (lines s + block_lines rest) l (spanned_all rest (after s here) u) (omega arith))

  -- ---- in the order of lines

  pub codes : (s : Statement) (here : Here) → (4 ≤ (tests s here).code) × ((tests s here).code ≤ 13)
  codes (Seq all) here = (omega arith, omega arith)
  codes (For i x kind body) here = (omega arith, omega arith)
  codes (Let i pick ls) here = (omega arith, omega arith)
  codes (First i s t) here = (omega arith, omega arith)
  codes (Guard low high body) here = (omega arith, omega arith)
  codes (Alloc b f places) here = (omega arith, omega arith)
  codes (Fetch b q region) here = (omega arith, omega arith)
  codes (Store b q at e) here = (omega arith, omega arith)
  codes (Publish q) here = (omega arith, omega arith)

  own_ordered : (s : Statement) (here : Here) → Ordered (own s here)
  own_ordered s here = let e = codes s here in flags_ordered (tests s here) here.line (omega (arith, e)) (omega (arith, e))

  mutual
    pub ordered : (s : Statement) (here : Here) → Ordered (F s here)
    ordered (Seq all) here = ordered_all all here
    ordered (For i x kind body) here = joined (own (For i x kind body) here) (F body (in_loop i here)) (own_ordered (For i x kind body) here) (ordered body (in_loop i here))
        (λ k l j q h u. comes_on here.line 1 (lines body) k l j q (own_spans k l (For i x kind body) here 1 (omega arith) h) (spanned j q body (in_loop i here) u))
    ordered (Let i pick ls) here = own_ordered (Let i pick ls) here
    ordered (First i s t) here = joined (own (First i s t) here) (F s (inside here) ++ F t (in_later s here)) (own_ordered (First i s t) here)
        (joined (F s (inside here)) (F t (in_later s here)) (ordered s (inside here)) (ordered t (in_later s here))
        (λ k l j q h u. comes_on here.line (lines s + 2) (lines t) k l j q (spans_on here.line 1 (lines s) (lines s + 2) l (spanned k l s (inside here) h) (omega arith))
        (spanned j q t (in_later s here) u)))
        (λ k l j q h v. comes_on here.line 1 (lines s + lines t + 2) k l j q (own_spans k l (First i s t) here 1 (omega arith) h)
        (on_either (has_parts j q (F s (inside here)) (F t (in_later s here)) v)
        (λ u. longer (on here.line 1) (lines s) (lines s + lines t + 2) q (spanned j q s (inside here) u) (omega arith))
        (λ u. spans_later here.line (lines s) (lines t) q (spanned j q t (in_later s here) u))))
    ordered (Guard low high body) here = joined (own (Guard low high body) here) (F body (inside here)) (own_ordered (Guard low high body) here) (ordered body (inside here))
        (λ k l j q h u. comes_on here.line 1 (lines body) k l j q (own_spans k l (Guard low high body) here 1 (omega arith) h) (spanned j q body (inside here) u))
    ordered (Alloc b f places) here = own_ordered (Alloc b f places) here
    ordered (Fetch b q region) here = own_ordered (Fetch b q region) here
    ordered (Store b q at e) here = own_ordered (Store b q at e) here
    ordered (Publish q) here = own_ordered (Publish q) here

    ordered_all : (s : Statements) (here : Here) → Ordered (FS s here)
    ordered_all Empty here = λ k l h. absurd h
    ordered_all (Then s rest) here = joined (F s (before (is_empty rest) here)) (FS rest (after s here)) (ordered s (before (is_empty rest) here)) (ordered_all rest (after s here))
        (λ k l j q h u. comes_on here.line (lines s) (block_lines rest) k l j q (spanned k l s (before (is_empty rest) here) h) (spanned_all j q rest (after s here) u))

-- ---- groups

groups_lines_with : (xs : List Group) (g : Group) → groups_lines (xs ++ g ∷ []) ≡ groups_lines xs + group_lines g
groups_lines_with [] g = omega arith
groups_lines_with (x ∷ xs) g = let e = groups_lines_with xs g in omega (arith, e)

-- how many cells and pieces groups up to this one have, and so many before them
abbrev pub cells_at : List Group → ℕ → ℕ → ℕ
cells_at [] i cells = cells
cells_at (g ∷ gs) zero cells = more cells (cell_count g.region)
cells_at (g ∷ gs) (suc i) cells = cells_at gs i (more cells (cell_count g.region))

abbrev pub pieces_at : List Group → ℕ → ℕ → ℕ
pieces_at [] i pieces = pieces
pieces_at (g ∷ gs) zero pieces = more pieces (counted (piece_count g.grid))
pieces_at (g ∷ gs) (suc i) pieces = pieces_at gs i (more pieces (counted (piece_count g.grid)))

group_same : (x y : Group) → Some x ≡ Some y → x ≡ y
group_same x y e = ap or_x e
  where
    or_x : Option Group → Group
    or_x None = x
    or_x (Some z) = z

no_group : {A : Type 0} (x : A) (e : None ≡ Some x) → ⊥
no_group x e = cc

module _ (a : Algorithm) (p : Plan) (c : Certificate) where
  next_line : (n : ℕ) (g : Group) → slice_get p.groups n ≡ Some g → group_line p (n + 1) ≡ group_line p n + group_lines g
  next_line n g at = let e = ap groups_lines (take_get p.groups n g at) in let f = groups_lines_with (take n p.groups) g in omega (arith, e, f)

  -- the flaws of the lines of the group of this number
  abbrev G : ℕ → Group → ℕ → ℕ → List Flaw
  G n g cells pieces = group_flaws a p c (line_told (group_line p n)) n g cells pieces

  -- what is asked of a line `group`
  abbrev pub head_tests : ℕ → Group → ℕ → ℕ → Tests
  head_tests n g cells pieces = record {
    names = not (list_any (λ h. same_name h.function g.function) (take n p.groups)) && (has_variables (parts_named a g.function) (length g.region) && spans_are_over [] g.region);
    forms = spans_are_within_limits g.region;
    third = true;
    limits = list_all is_extent g.region && (nat_le cells (2 ^ 24) && (nat_le pieces (2 ^ 20) && (publishes g.body && nat_le (length g.grid) 256)));
    code = 12;
  }

  abbrev pub head : ℕ → Group → ℕ → ℕ → List Flaw
  head n g cells pieces = flags (head_tests n g cells pieces) (line_told (group_line p n))

  abbrev pub body : ℕ → Group → List Flaw
  body n g = flaws a p c g (outline_of p c n g) g.body (start (line_told (group_line p n)) g)

  head_spans : (k l n : ℕ) (g : Group) (cells pieces : ℕ) → Has k l (head n g cells pieces) → Spans (line_told (group_line p n)) 1 l
  head_spans k l n g cells pieces h = spans_line (line_told (group_line p n)) 1 l (line_of_flags (head_tests n g cells pieces) (line_told (group_line p n)) k l h) (omega arith)

  group_spans : (k l n : ℕ) (g : Group) (cells pieces : ℕ) → Has k l (G n g cells pieces) → Spans (group_line p n) (group_lines g) l
  group_spans k l n g cells pieces h = of (has_parts k l (head n g cells pieces) (body n g) h)
    where
      of : Has k l (head n g cells pieces) ⊎ Has k l (body n g) → Spans (group_line p n) (group_lines g) l
      of (inl u) = let s = head_spans k l n g cells pieces u in record { low = omega (arith, s.low); high = omega (arith, s.high); told = s.told }
      of (inr u) = let s = spanned a p c g (outline_of p c n g) k l g.body (start (line_told (group_line p n)) g) u in
          record { low = omega (arith, s.low); high = omega (arith, s.high); told = s.told }

  group_ordered : (n : ℕ) (g : Group) (cells pieces : ℕ) → Ordered (G n g cells pieces)
  group_ordered n g cells pieces = joined (head n g cells pieces) (body n g)
      (flags_ordered (head_tests n g cells pieces) (line_told (group_line p n)) (omega arith) (omega arith))
      (ordered a p c g (outline_of p c n g) g.body (start (line_told (group_line p n)) g))
      (λ k l j q h u. comes_on (line_told (group_line p n)) 1 (lines g.body) k l j q (head_spans k l n g cells pieces h)
      (spanned a p c g (outline_of p c n g) j q g.body (start (line_told (group_line p n)) g) u))

  -- these are the plan's groups from this number on
  abbrev IsRest : List Group → ℕ → Type 0
  IsRest gs n = (i : ℕ) (g : Group) → slice_get gs i ≡ Some g → slice_get p.groups (n + i) ≡ Some g

  rest_behind : (g : Group) (gs : List Group) (n : ℕ) → IsRest (g ∷ gs) n → IsRest gs (n + 1)
  rest_behind g gs n r i h at = let e : n + suc i ≡ n + 1 + i = omega arith in subst (λ m. slice_get p.groups m ≡ Some h) e (r (suc i) h at)

  rest_first : (g : Group) (gs : List Group) (n : ℕ) → IsRest (g ∷ gs) n → slice_get p.groups n ≡ Some g
  rest_first g gs n r = let e : n + 0 ≡ n = omega arith in subst (λ m. slice_get p.groups m ≡ Some g) e (r zero g refl)

  groups_low : (k l : ℕ) (gs : List Group) (n cells pieces : ℕ) → IsRest gs n → Has k l (groups_flaws a p c gs n cells pieces) → min (group_line p n) (2 ^ 32 - 1) ≤ l
  groups_low k l [] n cells pieces r h = absurd h
  groups_low k l (g ∷ gs) n cells pieces r h =
      let x = more cells (cell_count g.region) in
      let y = more pieces (counted (piece_count g.grid)) in
      on_either (has_parts k l (G n g x y) (groups_flaws a p c gs (n + 1) x y) h)
      (λ u. (group_spans k l n g x y u).low)
      (λ u.
      let low = groups_low k l gs (n + 1) x y (rest_behind g gs n r) u in
      let e = next_line n g (rest_first g gs n r) in
      omega (arith, low, e))

  groups_ordered : (gs : List Group) (n cells pieces : ℕ) → IsRest gs n → Ordered (groups_flaws a p c gs n cells pieces)
  groups_ordered [] n cells pieces r = λ k l h. absurd h
  groups_ordered (g ∷ gs) n cells pieces r =
      let x = more cells (cell_count g.region) in
      let y = more pieces (counted (piece_count g.grid)) in
      joined (G n g x y) (groups_flaws a p c gs (n + 1) x y) (group_ordered n g x y) (groups_ordered gs (n + 1) x y (rest_behind g gs n r))
      (λ k l j q h u.
      let s = group_spans k l n g x y h in
      let low = groups_low j q gs (n + 1) x y (rest_behind g gs n r) u in
      let e = next_line n g (rest_first g gs n r) in
      record { before = omega (arith, s.high, s.told, low, e); lower = λ lt same. absurd (omega (arith, s.high, low, e, lt, same)) })

  pub all_ordered : Ordered (flaws_of_groups a p c)
  all_ordered = groups_ordered p.groups 0 0 0 (λ i g at. let e : i ≡ 0 + i = omega arith in subst (λ m. slice_get p.groups m ≡ Some g) e at)

  module _ (k l : ℕ) where
    -- one of these groups, which are the plan's from this number on, has the flaw
    pub record GroupHas (gs : List Group) (first cells pieces : ℕ) : Type 0 where
      pub number : ℕ
      pub index : ℕ
      pub group : Group
      pub is : number ≡ first + index
      pub at : slice_get gs index ≡ Some group
      pub has : Has k l (G number group (cells_at gs index cells) (pieces_at gs index pieces))

    some_group : (gs : List Group) (n cells pieces : ℕ) → Has k l (groups_flaws a p c gs n cells pieces) → GroupHas gs n cells pieces
    some_group [] n cells pieces h = absurd h
    some_group (g ∷ gs) n cells pieces h =
        let x = more cells (cell_count g.region) in
        let y = more pieces (counted (piece_count g.grid)) in
        on_either (has_parts k l (G n g x y) (groups_flaws a p c gs (n + 1) x y) h)
        (λ u. record { number = n; index = zero; group = g; is = omega arith; at = refl; has = u })
        (λ u. let r = some_group gs (n + 1) x y u in record { number = r.number; index = suc r.index; group = r.group; is = (let e = r.is in omega (arith, e)); at = r.at; has = r.has })

    of_group : (gs : List Group) (n cells pieces i j : ℕ) (g : Group) → j ≡ n + i → slice_get gs i ≡ Some g
        → Has k l (G j g (cells_at gs i cells) (pieces_at gs i pieces)) → Has k l (groups_flaws a p c gs n cells pieces)
    of_group [] n cells pieces i j g is at h = absurd (no_group g at)
    of_group (x ∷ xs) n cells pieces zero j g is at h =
        let e : j ≡ n = omega (arith, is) in
        let u = more cells (cell_count x.region) in
        let v = more pieces (counted (piece_count x.grid)) in
        has_left k l (G n x u v) _ (subst (λ m. Has k l (G m x u v)) e (subst (λ y. Has k l (G j y u v)) (sym (group_same x g at)) h))
    of_group (x ∷ xs) n cells pieces (suc i) j g is at h =
        let u = more cells (cell_count x.region) in
        let v = more pieces (counted (piece_count x.grid)) in
        has_right k l (G n x u v) _ (of_group xs (n + 1) u v i j g (omega (arith, is)) at h)

    -- the plan's group of this number has the flaw, in its first line or behind it
    pub record IsOfGroup (number : ℕ) (group : Group) : Type 0 where
      pub there : slice_get p.groups number ≡ Some group
      pub has : Has k l (head number group (cells_at p.groups number 0) (pieces_at p.groups number 0)) ⊎ Has k l (body number group)

    pub record IsOfSome : Type 0 where
      pub number : ℕ
      pub group : Group
      pub is : IsOfGroup number group

    pub found_in : Has k l (flaws_of_groups a p c) → IsOfSome
    found_in h =
        let r = some_group p.groups 0 0 0 h in
        let e : r.index ≡ r.number = omega (arith, r.is) in
        let at = subst (λ i. slice_get p.groups i ≡ Some r.group) e r.at in
        let has = subst (λ i. Has k l (G r.number r.group (cells_at p.groups i 0) (pieces_at p.groups i 0))) e r.has in
        record {
          number = r.number;
          group = r.group;
          is = record {
            there = at;
            has = has_parts k l (head r.number r.group (cells_at p.groups r.number 0) (pieces_at p.groups r.number 0)) (body r.number r.group) has;
          };
        }

    pub found_of : (n : ℕ) (g : Group) → IsOfGroup n g → Has k l (flaws_of_groups a p c)
    found_of n g h = of_group p.groups 0 0 0 n n g (omega arith) h.there (of h.has)
      where
        of : Has k l (head n g (cells_at p.groups n 0) (pieces_at p.groups n 0)) ⊎ Has k l (body n g) → Has k l (G n g (cells_at p.groups n 0) (pieces_at p.groups n 0))
        of (inl u) = has_left k l (head n g (cells_at p.groups n 0) (pieces_at p.groups n 0)) (body n g) u
        of (inr u) = has_right k l (head n g (cells_at p.groups n 0) (pieces_at p.groups n 0)) (body n g) u

-- ---- a code that says something of lines `group` and of the lines behind them

module _ (a : Algorithm) (p : Plan) (c : Certificate) (k : ℕ) (H : ℕ → Group → Type 0) (S : ℕ → Group → Statement → Here → Type 0) where
  abbrev pub HeadHas : ℕ → Group → ℕ → Type 0
  HeadHas n g l = Has k l (head a p c n g (cells_at p.groups n 0) (pieces_at p.groups n 0))

  abbrev pub LineHas : ℕ → Group → ℕ → Statement → Here → Type 0
  LineHas n g l s here = Own a p c g (outline_of p c n g) k l s here

  abbrev pub LineIs : ℕ → Group → ℕ → Statement → Here → Type 0
  LineIs n g l s here = (line_told here.line ≡ l) × S n g s here

  module _ (heads : (l n : ℕ) (g : Group) → slice_get p.groups n ≡ Some g → HeadHas n g l → (line_told (group_line p n) ≡ l) × H n g)
      (these : (l n : ℕ) (g : Group) (s : Statement) (here : Here) → LineHas n g l s here → LineIs n g l s here) where
    lines_are : (l : ℕ) → Has k l (flaws_of_groups a p c) → Begins p H l ⊎ StandsIn p S l
    lines_are l h = let r = found_in a p c k l h in of r.number r.group r.is.there r.is.has
      where
        of : (n : ℕ) (g : Group) → slice_get p.groups n ≡ Some g → HeadHas n g l ⊎ Has k l (body a p c n g) → Begins p H l ⊎ StandsIn p S l
        of n g at (inl u) = let e = heads l n g at u in inl (record { number = n; group = g; there = at; line_is = e.0; so = e.1 })
        of n g at (inr u) =
            let from = start (line_told (group_line p n)) g in
            let i = walked a p c g (outline_of p c n g) k l g.body from u in
            inr (record { number = n; group = g; there = at; stands = inside_map (LineHas n g l) (LineIs n g l) (these l n g) g.body from i })

    module _ (of_head : (l n : ℕ) (g : Group) → slice_get p.groups n ≡ Some g → line_told (group_line p n) ≡ l → H n g → HeadHas n g l)
        (of_line : (l n : ℕ) (g : Group) (s : Statement) (here : Here) → LineIs n g l s here → LineHas n g l s here) where
      are_lines : (l : ℕ) → Begins p H l ⊎ StandsIn p S l → Has k l (flaws_of_groups a p c)
      are_lines l (inl h) = found_of a p c k l h.number h.group (record { there = h.there; has = inl (of_head l h.number h.group h.there h.line_is h.so) })
      are_lines l (inr h) =
          let n = h.number in
          let g = h.group in
          let from = start (line_told (group_line p n)) g in
          let i = inside_map (LineIs n g l) (LineHas n g l) (of_line l n g) g.body from h.stands in
          found_of a p c k l n g (record { there = h.there; has = inr (passed a p c g (outline_of p c n g) k l g.body from i) })

      pub lines_told : IsTold k (λ l. Begins p H l ⊎ StandsIn p S l) (first_of (flaws_of_groups a p c))
      lines_told = told_so k (λ l. Begins p H l ⊎ StandsIn p S l) (flaws_of_groups a p c) (all_ordered a p c) lines_are are_lines
