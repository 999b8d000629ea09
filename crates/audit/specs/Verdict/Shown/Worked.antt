-- A plan of two groups written out, which is in plain form and accepted.
use Rattle.std.specs.Prelude.{◌^◌, ◌-◌, ◌≡◌, ℕ, zero, suc, false, Bool, [], ◌∷◌, map, Option, Some, None, pos, codes}
use Rattle.std.specs.List.{range_with_len}
use Rattle.numeric.specs.declared.ty.Ty.TheVariants.{U8, I32}
use Rattle.numeric.specs.declared.op.Op.TheVariants.{Add, Sub, Mul}
use Rattle.tree.specs.Term.{Term, Number, Name, Call, Binary, End, More}
use Rattle.lin.specs.Forms.{number}
use Rattle.lin.specs.Search.{at_most}
use Rattle.lin.specs.declared.span.Span1.{Span1}
use Rattle.bounds.specs.Interval.{interval}
use Rattle.meaning.specs.Algorithm.{Algorithm}
use Rattle.plan.specs.Lines.{body_line, certificate_line}
use Rattle.plan.specs.Plan.{Alloc, Fetch, Store, Publish, Seq, block, Group, Plan}
use Rattle.plan.specs.declared.stmt.Places.TheVariants.{From}
use Rattle.plan.specs.Certificate.Certificate.{Certificate}
use Rattle.plan.specs.Certificate.Lines.{claim_line}
use Rattle.plan.specs.Semantics.Worked.{symbol, between, constants, is, loop, load, scan_group, scan_plan, scan_certificate}
use Rattle.soundness.specs.Given.{outline_of}
use Rattle.soundness.specs.Obligations.{Rules, anything, obligations}
use Rattle.soundness.specs.Shown.{all_shown, start}
use Rattle.soundness.specs.Worked.{scan_algorithm}
use Rattle.soundness.specs.Nests.Laws.{domains_of}
use Rattle.tails.specs.Windows.Nests.{slid_nests}
use Rattle.soundness.specs.Nests.Worked.{binding_of}
use Rattle.rules.specs.Widths.Widths.{wide_lines}
use Rattle.audit.specs.Verdict.Shown.Plain.{IsPlain, IsPlainPlan}
use Rattle.soundness.specs.Binders.View.{grid_binders}
use Rattle.tails.specs.Windows.Shown.{IsShown}
use Rattle.audit.specs.Verdict.Shown.Wide.{Accepts}

-- ---- f, one more than each pixel, and out, two times f and f from the other end

abbrev x : Term
x = Name (codes "x")

-- the value of f
abbrev pub of_input : Term
of_input = Binary Add (Call (codes "in") (More x End)) (Number U8 (pos 1))

abbrev from_the_end : Term
from_the_end = Binary Sub (Number I32 (pos 1)) x

-- the value of out
abbrev pub of_calls : Term
of_calls = Binary Add (Binary Mul (Call (codes "f") (More x End)) (Number U8 (pos 2))) (Call (codes "f") (More from_the_end End))

abbrev pub two : Algorithm
two = record {
  name = codes "two";
  input = codes "in";
  input_ty = U8;
  input_extents = 2 ∷ [];
  functions =
      record { name = codes "f"; ty = U8; variables = codes "x" ∷ []; value = of_input; changes = [] }
      ∷ record {
        name = codes "out";
        ty = U8;
        variables = codes "x" ∷ [];
        value = of_calls;
        changes = [];
      } ∷ [];
  output = codes "out";
  output_extents = 2 ∷ [];
}

-- ---- pieces 0 and 1 have a cell of f each, piece 2 both cells of out

-- the grid's symbol alone
abbrev pub here : Span1
here = between (symbol 0) (symbol 0)

abbrev pub f_group : Group
f_group = record {
  function = codes "f";
  region = constants (pos 0) (pos 1) ∷ [];
  grid = 2 ∷ [];
  body = Seq (block (
      Alloc 0 (codes "f") (From (symbol 0) 1 ∷ [])
      ∷ loop 1 here (Store 0 0 (is (codes "x") (symbol 1) ∷ []) of_input ∷ [])
      ∷ Publish 0 ∷ []));
}

-- the value of out from claim 1, of cells of f
abbrev pub of_cells : Term
of_cells = Binary Add (Binary Mul (load 1 (x ∷ [])) (Number U8 (pos 2))) (load 1 (from_the_end ∷ []))

-- the loop runs over this span
abbrev pub out_group : Span1 → Group
out_group turns = record {
  function = codes "out";
  region = constants (pos 0) (pos 1) ∷ [];
  grid = 1 ∷ [];
  body = Seq (block (
      Alloc 0 (codes "f") (From (number (pos 0)) 2 ∷ [])
      ∷ Fetch 0 0 (constants (pos 0) (pos 1) ∷ [])
      ∷ Alloc 1 (codes "out") (From (number (pos 0)) 2 ∷ [])
      ∷ loop 1 turns (Store 1 0 (is (codes "x") (symbol 1) ∷ []) of_cells ∷ [])
      ∷ Publish 2 ∷ []));
}

-- both coordinates
abbrev pub both : Span1
both = constants (pos 0) (pos 1)

abbrev pub two_plan : Plan
two_plan = record {
  name = codes "two";
  input = record { name = codes "in"; ty = U8; extents = 2 ∷ [] };
  output = record { name = codes "out"; ty = U8; extents = 2 ∷ [] };
  groups = f_group ∷ out_group both ∷ [];
}

abbrev pub two_certificate : Certificate
two_certificate = record {
  own = record { group = 0; region = here ∷ [] } ∷ record { group = 1; region = both ∷ [] } ∷ [];
  needs = record { group = 1; needed = 0; region = both ∷ [] } ∷ [];
  claims =
      record { line = 8; buffer = 0; function = codes "f"; definition = 0; region = here ∷ [] }
      ∷ record { line = 12; buffer = 0; function = codes "f"; definition = 0; region = both ∷ [] }
      ∷ record { line = 16; buffer = 1; function = codes "out"; definition = 0; region = both ∷ [] } ∷ [];
  windows = [];
}

-- ---- rules over the first eight symbols

-- the span, or all numbers where there is none
abbrev or_anything : Option Span1 → Span1
or_anything None = anything
or_anything (Some s) = s

-- all that is called is of u8 and has one index
abbrev pub two_rules : ℕ → Rules
two_rules n = record {
  claim_line = claim_line two_certificate (certificate_line two_plan);
  window_line = λ c. 0;
  last = λ f. 0;
  extents = both ∷ [];
  own = (elim n [ zero ↦ here ∷ [] | suc m ↦ both ∷ [] ]);
  at_most = λ bs f g. at_most (map (binding_of bs) (range_with_len 0 8)) f g;
  interval = λ bs names vars e. or_anything (interval (map (binding_of bs) (range_with_len 0 8)) (λ name. Some (U8, 1)) names vars e);
}

-- from the greatest i32 to one more
abbrev past : Span1
past = constants (pos (2 ^ 31 - 1)) (pos (2 ^ 31))

-- whether all that the lines of the second group ask for is shown where its loop runs over this span
abbrev out_is_shown : Span1 → Bool
out_is_shown turns =
    all_shown (two_rules 1) (slid_nests (outline_of two_plan two_certificate 1 (out_group turns)) (two_rules 1) (domains_of two))
    (obligations (outline_of two_plan two_certificate 1 (out_group turns)) (two_rules 1) (out_group turns).body (body_line two_plan 1) (start (grid_binders (1 ∷ []))))

pub record TwoIsAccepted : Type 0 where
  pub plain : IsPlainPlan two_rules two two_plan two_certificate
  pub accepted : Accepts two_rules two two_plan two_certificate
  -- a store inside a loop over numbers past i32 is wide
  pub wide : wide_lines (two_rules 1) (grid_binders (1 ∷ [])) (body_line two_plan 1) (out_group past).body ≡ 15 ∷ []
  -- with a cell left out the claim of out is not made; with a cell too many the loads leave the claim of f
  pub left_out : out_is_shown (constants (pos 0) (pos 0)) ≡ false
  pub too_many : out_is_shown (constants (pos 0) (pos 2)) ≡ false

-- ---- a running sum, whose update finds its place by its reduction variable

-- its rules
abbrev pub scan_rules : ℕ → Rules
scan_rules n = record {
  claim_line = claim_line scan_certificate (certificate_line scan_plan);
  window_line = λ c. 0;
  last = λ f. 1;
  extents = constants (pos 0) (pos 3) ∷ [];
  own = constants (pos 0) (pos 3) ∷ [];
  at_most = λ bs f g. at_most (map (binding_of bs) (range_with_len 0 8)) f g;
  interval = λ bs names vars e. or_anything (interval (map (binding_of bs) (range_with_len 0 8)) (λ name. Some (U8, 1)) names vars e);
}

-- whether all that its lines ask for is shown by this certificate
abbrev scan_is_shown : Certificate → Bool
scan_is_shown c =
    all_shown (scan_rules 0) (slid_nests (outline_of scan_plan c 0 scan_group) (scan_rules 0) (domains_of scan_algorithm))
    (obligations (outline_of scan_plan c 0 scan_group) (scan_rules 0) scan_group.body (body_line scan_plan 0) (start (grid_binders (1 ∷ []))))

pub record ScanIsAccepted : Type 0 where
  pub plain : IsPlain (scan_rules 0) scan_algorithm (outline_of scan_plan scan_certificate 0 scan_group) scan_group.body (body_line scan_plan 0) (start (grid_binders (1 ∷ [])))
  pub shown : IsShown (scan_rules 0) scan_algorithm scan_plan scan_certificate 0 scan_group
  -- without its claims it is not
  pub unclaimed : scan_is_shown (record scan_certificate { claims = [] }) ≡ false
