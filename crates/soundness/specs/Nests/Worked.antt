-- The tests of nests on plans written out.
use Rattle.std.specs.Prelude.{◌≡◌, ℕ, ◌==◌, if◌then◌else◌, true, false, List, [], ◌∷◌, map, Some, None, ℤ, pos, codes}
use Rattle.std.specs.List.{range_with_len}
use Rattle.numeric.specs.declared.ty.Ty.TheVariants.{U16}
use Rattle.tree.specs.Term.{Number}
use Rattle.lin.specs.Forms.{number}
use Rattle.lin.specs.Search.{at_most}
use Rattle.lin.specs.declared.scope.Binding.{Binding}
use Rattle.lin.specs.declared.scope.Binding.TheVariants.{Loop}
use Rattle.plan.specs.declared.stmt.Places.{Places}
use Rattle.plan.specs.declared.stmt.Places.TheVariants.{From, Folded}
use Rattle.plan.specs.Plan.{Statement, Alloc, Store}
use Rattle.plan.specs.Semantics.Worked.{plus, symbol, constants, between, is, finds, loop, inc_plan, inc_certificate, inc_group}
use Rattle.meaning.specs.Algorithm.{Algorithm}
use Rattle.soundness.specs.Origins.{Outline}
use Rattle.soundness.specs.Given.{outline_of}
use Rattle.soundness.specs.Obligations.{Binder, Ranged, Picked, Passed, Rules, anything}
use Rattle.soundness.specs.Shown.{Nests}
use Rattle.soundness.specs.Worked.{scan_algorithm, hist_algorithm, hist_plan, hist_certificate, hist_group, hist_store}
use Rattle.plan.specs.Semantics.Worked.{scan_plan, scan_certificate, scan_group, load}
use Rattle.tree.specs.Term.{Name}
use Rattle.soundness.specs.Nests.Laws.{domains_of}
use Rattle.soundness.specs.Nests.Tests.{plain_nests}

-- the first eight symbols, each with its span
abbrev pub binding_of : List Binder → ℕ → Binding
binding_of [] i = Loop anything
binding_of (Ranged j x ∷ bs) i = if j == i then Loop x else binding_of bs i
binding_of (Picked j pick ls ∷ bs) i = binding_of bs i
binding_of (Passed low high ∷ bs) i = binding_of bs i

abbrev pub forms_alone : Rules
forms_alone = record {
  claim_line = λ c. 0;
  window_line = λ c. 0;
  last = λ f. 0;
  extents = [];
  own = [];
  at_most = λ bs a b. at_most (map (binding_of bs) (range_with_len 0 8)) a b;
  interval = λ bs names vars e. anything;
}

abbrev pub tests : Algorithm → Outline → Nests
tests a outline = plain_nests outline forms_alone (domains_of a)

abbrev pub one_piece : List Binder
one_piece = Ranged 0 (constants (pos 0) (pos 0)) ∷ []

-- ---- a running sum

abbrev pub scan_tests : Nests
scan_tests = tests scan_algorithm (outline_of scan_plan scan_certificate 0 scan_group)

abbrev pub scan_places : List Places
scan_places = From (number (pos 0)) 4 ∷ []

-- the pure nest over columns from 0 on
abbrev pub scan_fill : ℤ → Statement
scan_fill last = loop 1 (constants (pos 0) last) (Store 0 0 (is (codes "x") (symbol 1) ∷ []) (Name (codes "x")) ∷ [])

abbrev pub scan_store : Statement
scan_store = Store 0 1 (finds (codes "x") (Name (codes "r")) ∷ is (codes "r") (symbol 2) ∷ []) (load 0 (Name (codes "r") ∷ []))

-- the update over r from some number on, and the same with each step twice
abbrev pub scan_update : ℤ → Statement
scan_update low = loop 2 (constants low (pos 3)) (scan_store ∷ [])

abbrev pub scan_twice : Statement
scan_twice = loop 2 (constants (pos 1) (pos 3)) (loop 3 (constants (pos 0) (pos 1)) (scan_store ∷ []) ∷ [])

pub record ScanIsTested : Type 0 where
  pub filled : scan_tests.is_made one_piece 0 None scan_places (scan_fill (pos 3)) ≡ true
  pub in_turn : scan_tests.is_in_turn one_piece 1 (scan_update (pos 1)) ≡ true
  pub updated : scan_tests.is_made one_piece 1 (Some 0) scan_places (scan_update (pos 1)) ≡ true
  -- the claim's region is wider than what is stored
  pub too_wide : scan_tests.is_made one_piece 0 None scan_places (scan_fill (pos 2)) ≡ false
  -- a reduction point is left out, and each step is done twice
  pub one_left_out : scan_tests.is_in_turn one_piece 1 (scan_update (pos 2)) ≡ false
  pub twice : scan_tests.is_in_turn one_piece 1 scan_twice ≡ false

-- ---- a histogram of two rows over four places

abbrev pub hist_tests : Nests
hist_tests = tests (hist_algorithm 3 1) (outline_of (hist_plan 3 1) (hist_certificate 3 1) 0 (hist_group 3 1))

abbrev pub rows_outside : Statement
rows_outside = loop 2 (constants (pos 0) (pos 1)) (loop 3 (constants (pos 0) (pos 2)) (hist_store ∷ []) ∷ [])

abbrev pub columns_outside : Statement
columns_outside = loop 3 (constants (pos 0) (pos 2)) (loop 2 (constants (pos 0) (pos 1)) (hist_store ∷ []) ∷ [])

pub record HistIsTested : Type 0 where
  pub filled : hist_tests.is_made one_piece 0 None (From (number (pos 0)) 4 ∷ []) (loop 1 (constants (pos 0) (pos 3)) (Store 0 0 (is (codes "i") (symbol 1) ∷ []) (Number U16 (pos 0)) ∷ [])) ≡ true
  pub in_turn : hist_tests.is_in_turn one_piece 1 rows_outside ≡ true
  pub updated : hist_tests.is_made one_piece 1 (Some 0) (From (number (pos 0)) 4 ∷ []) rows_outside ≡ true
  -- the last variable runs fastest
  pub other_order : hist_tests.is_in_turn one_piece 1 columns_outside ≡ false

-- ---- pieces of three and seven rows, with the nest of another function inside the loop over rows

abbrev pub inc_places : List Places
inc_places = From (number (pos 0)) 2 ∷ From (plus (pos 0) (pos 3) 0) 7 ∷ []

abbrev pub folded_rows : ℕ → List Places
folded_rows n = From (number (pos 0)) 2 ∷ Folded n ∷ []

abbrev pub inc_algorithm : Algorithm
inc_algorithm = record { name = []; input = []; input_ty = U16; input_extents = []; functions = []; output = []; output_extents = [] }

abbrev pub inc_tests : Nests
inc_tests = tests inc_algorithm (outline_of inc_plan inc_certificate 0 inc_group)

abbrev pub inc_rows : List Statement → Statement
inc_rows body = loop 1 (between (plus (pos 0) (pos 3) 0) (plus (pos 2) (pos 7) 0)) body

abbrev pub inc_row : Statement
inc_row = loop 2 (constants (pos 0) (pos 1)) (Store 0 0 (is (codes "x") (symbol 2) ∷ is (codes "y") (symbol 1) ∷ []) (Name (codes "x")) ∷ [])

abbrev pub other_row : Statement
other_row = loop 3 (constants (pos 0) (pos 1)) (Store 1 0 (is (codes "x") (symbol 3) ∷ []) (Name (codes "x")) ∷ [])

pub record IncIsTested : Type 0 where
  pub alone : inc_tests.is_made (Ranged 0 (constants (pos 0) (pos 1)) ∷ []) 0 None inc_places (inc_rows (inc_row ∷ [])) ≡ true
  pub with_another : inc_tests.is_made (Ranged 0 (constants (pos 0) (pos 1)) ∷ []) 0 None inc_places (inc_rows (Alloc 1 (codes "f") (From (number (pos 0)) 2 ∷ []) ∷ other_row ∷ inc_row ∷ [])) ≡ true
  -- where rows are folded there are as many places as rows
  pub folded : inc_tests.is_made (Ranged 0 (constants (pos 0) (pos 1)) ∷ []) 0 None (folded_rows 7) (inc_rows (inc_row ∷ [])) ≡ true
  pub fold_too_small : inc_tests.is_made (Ranged 0 (constants (pos 0) (pos 1)) ∷ []) 0 None (folded_rows 6) (inc_rows (inc_row ∷ [])) ≡ false
  -- stored in two lines
  pub two_lines : inc_tests.is_made (Ranged 0 (constants (pos 0) (pos 1)) ∷ []) 0 None inc_places (inc_rows (inc_row ∷ inc_row ∷ [])) ≡ false

pub record NestsAreTested : Type 0 where
  pub scan : ScanIsTested
  pub hist : HistIsTested
  pub inc : IncIsTested
