-- Updates over split loops written out: those whose steps are in turn, and those that are not.
use Rattle.std.specs.Prelude.{◌≡◌, ℕ, Bool, true, false, List, [], ◌∷◌, Some, ℤ, pos, negsuc, codes}
use Rattle.lin.specs.Forms.{Form, number}
use Rattle.lin.specs.declared.span.Span1.{Span1}
use Rattle.meaning.specs.Algorithm.{Range}
use Rattle.numeric.specs.declared.ty.Ty.TheVariants.{U8}
use Rattle.tree.specs.Term.{Number}
use Rattle.plan.specs.declared.stmt.Pick.TheVariants.{Min}
use Rattle.plan.specs.Plan.{Coordinate, Statement, Let, Guard, Store, Seq, block}
use Rattle.plan.specs.Semantics.Worked.{plus, symbol, constants, is, finds, loop}
use Rattle.plan.specs.Semantics.Run.{Input}
use Rattle.plan.specs.Certificate.Certificate.{Claim}
use Rattle.soundness.specs.Origins.{Outline}
use Rattle.soundness.specs.Obligations.{Binder, Ranged}
use Rattle.tails.specs.Nests.{split_nests}
use Rattle.tails.specs.Worked.{bounds_alone, over_two, spans, whole}

-- ---- claims

abbrev pub sum_claim : List Span1 → Claim
sum_claim region = record { line = 10; buffer = 0; function = codes "sum"; definition = 1; region = region }

-- of a function of so many dimensions
abbrev pub sum_outline : ℕ → List Span1 → Outline
sum_outline n region = record {
  setting = record { group_function = λ h. codes "sum"; buffer_function = λ b. codes "sum"; dimensions = λ b. n; own = λ s. [] };
  source = λ name. Input;
  claim = λ c. sum_claim region;
  named = λ line. [];
  windows = [];
}

-- so many numbers of a reduction variable, from 0 on
abbrev pub from_zero : ℤ → Range
from_zero last = record { variable = codes "r"; low = pos 0; high = last }

abbrev pub threes : List Range
threes = from_zero (pos 2) ∷ []

abbrev pub is_in_turn : ℕ → List Range → List Binder → Statement → Bool
is_in_turn n ranges bs a = (split_nests (sum_outline n []) bounds_alone (λ f k. Some ranges)).is_in_turn bs 0 a

abbrev pub is_made : ℕ → List Binder → List Span1 → Statement → Bool
is_made n bs region a = (split_nests (sum_outline n region) bounds_alone (λ f k. Some threes)).is_made bs 0 (Some 0) [] a

-- ---- four numbers split by three, each with three steps

abbrev pub update : List Coordinate → Statement
update at = Store 0 1 at (Number U8 (pos 7))

abbrev pub update_x : Form → ℕ → Statement
update_x f r = update (is (codes "x") f ∷ is (codes "r") (symbol r) ∷ [])

-- `for s2 0:2,3-3*s0`, `for s3` over the steps, the piece at s0
abbrev pub piece_binders : List Binder
piece_binders = Ranged 0 (constants (pos 0) (pos 1)) ∷ []

abbrev pub tail_of : ℤ → ℕ → Span1
tail_of last i = spans (number (pos 0) ∷ []) (number last ∷ plus (pos 3) (negsuc 2) i ∷ [])

abbrev pub piece_nest : ℤ → Statement
piece_nest last = loop 2 (tail_of (pos 2) 0) (loop 3 (constants (pos 0) last) (update_x (over_two (pos 0) (pos 3) 0 (pos 1) 2) 3 ∷ []) ∷ [])

abbrev pub piece_region : ℤ → List Span1
piece_region last = spans (plus (pos 0) (pos 3) 0 ∷ []) (plus (pos 2) (pos 3) 0 ∷ number last ∷ []) ∷ []

-- in one piece: `for s3 0:1`, `for s4 0:2,3-3*s3`, `for s5 0:2`, and with the loop of the reduction between and outside
abbrev pub block_form : Form
block_form = over_two (pos 0) (pos 3) 3 (pos 1) 4

abbrev pub inner_nest : Span1 → Span1 → Statement
inner_nest inner steps = loop 3 (constants (pos 0) (pos 1)) (loop 4 inner (loop 5 steps (update_x block_form 5 ∷ []) ∷ []) ∷ [])

abbrev pub between_nest : Span1 → Span1 → Statement
between_nest inner steps = loop 3 (constants (pos 0) (pos 1)) (loop 5 steps (loop 4 inner (update_x block_form 5 ∷ []) ∷ []) ∷ [])

abbrev pub outer_nest : Span1 → Statement
outer_nest inner = loop 5 (constants (pos 0) (pos 2)) (loop 3 (constants (pos 0) (pos 1)) (loop 4 inner (update_x block_form 5 ∷ []) ∷ []) ∷ [])

-- the inner loop outside, a guard and a let behind the loop of the reduction
abbrev pub swapped_nest : ℤ → Statement
swapped_nest last =
    loop 1 (constants (pos 0) (pos 2))
    (loop 5 (constants (pos 0) (pos 2))
    (loop 2 (constants (pos 0) (pos 1))
    (Guard (over_two (pos 0) (pos 1) 1 (pos 3) 2) (number last) (Seq (block (Let 3 Min (over_two (pos 0) (pos 1) 1 (pos 3) 2 ∷ number last ∷ []) ∷ update_x (symbol 3) 5 ∷ []))) ∷ []) ∷ []) ∷ [])

-- two reduction variables, of three and of two numbers: the last one's loop outside
abbrev pub two_ranges : List Range
two_ranges = from_zero (pos 2) ∷ from_zero (pos 1) ∷ []

abbrev pub two_nest : ℕ → ℕ → Statement
two_nest r v =
    loop 5 (constants (pos 0) (pos 1))
    (loop 3 (constants (pos 0) (pos 1))
    (loop 6 (constants (pos 0) (pos 2))
    (loop 4 (tail_of (pos 2) 3) (update (is (codes "x") block_form ∷ is (codes "r") (symbol r) ∷ is (codes "v") (symbol v) ∷ []) ∷ []) ∷ []) ∷ []) ∷ [])

-- a coordinate found by an expression: each step meets all its numbers
abbrev pub found_nest : Span1 → Statement
found_nest inner =
    loop 3 (constants (pos 0) (pos 1))
    (loop 4 inner
    (loop 5 (constants (pos 0) (pos 2)) (update (is (codes "x") block_form ∷ finds (codes "y") (Number U8 (pos 7)) ∷ is (codes "r") (symbol 5) ∷ []) ∷ []) ∷ []) ∷ [])

pub record UpdatesAreInTurn : Type 0 where
  pub piece : is_in_turn 1 threes piece_binders (piece_nest (pos 2)) ≡ true
  pub piece_made : is_made 1 piece_binders (piece_region (pos 3)) (piece_nest (pos 2)) ≡ true
  pub piece_wide : is_made 1 piece_binders (piece_region (pos 4)) (piece_nest (pos 2)) ≡ false
  -- a step of the reduction too few, and one too many
  pub piece_few : is_in_turn 1 threes piece_binders (piece_nest (pos 1)) ≡ false
  pub piece_many : is_in_turn 1 threes piece_binders (piece_nest (pos 3)) ≡ false
  pub inner : is_in_turn 1 threes [] (inner_nest (tail_of (pos 2) 3) (constants (pos 0) (pos 2))) ≡ true
  pub inner_made : is_made 1 [] (whole (pos 0) (pos 3)) (inner_nest (tail_of (pos 2) 3) (constants (pos 0) (pos 2))) ≡ true
  pub inner_wide : is_made 1 [] (whole (pos 0) (pos 4)) (inner_nest (tail_of (pos 2) 3) (constants (pos 0) (pos 2))) ≡ false
  pub inner_few : is_in_turn 1 threes [] (inner_nest (tail_of (pos 2) 3) (constants (pos 0) (pos 1))) ≡ false
  -- a point met twice
  pub inner_twice : is_in_turn 1 threes [] (inner_nest (tail_of (pos 3) 3) (constants (pos 0) (pos 2))) ≡ false
  pub twice_made : is_made 1 [] (whole (pos 0) (pos 3)) (inner_nest (tail_of (pos 3) 3) (constants (pos 0) (pos 2))) ≡ false
  pub between : is_in_turn 1 threes [] (between_nest (tail_of (pos 2) 3) (constants (pos 0) (pos 2))) ≡ true
  pub between_made : is_made 1 [] (whole (pos 0) (pos 3)) (between_nest (tail_of (pos 2) 3) (constants (pos 0) (pos 2))) ≡ true
  -- a step that names the reduction's symbol
  pub between_named : is_in_turn 1 threes [] (between_nest (tail_of (pos 2) 5) (constants (pos 0) (pos 2))) ≡ false
  -- a loop of the reduction over symbols of the steps
  pub between_split : is_in_turn 1 threes [] (between_nest (tail_of (pos 2) 3) (tail_of (pos 2) 3)) ≡ false
  pub outside : is_in_turn 1 threes [] (outer_nest (tail_of (pos 2) 3)) ≡ true
  pub outside_twice : is_in_turn 1 threes [] (outer_nest (tail_of (pos 3) 3)) ≡ false
  pub guarded : is_in_turn 1 threes [] (swapped_nest (pos 3)) ≡ true
  pub guarded_made : is_made 1 [] (whole (pos 0) (pos 3)) (swapped_nest (pos 3)) ≡ true
  -- a smaller guard leaves steps out: they are in turn, and do not make the claim
  pub guarded_small : is_in_turn 1 threes [] (swapped_nest (pos 2)) ≡ true
  pub guarded_left_out : is_made 1 [] (whole (pos 0) (pos 3)) (swapped_nest (pos 2)) ≡ false
  pub two : is_in_turn 1 two_ranges [] (two_nest 6 5) ≡ true
  pub two_exchanged : is_in_turn 1 two_ranges [] (two_nest 5 6) ≡ false
  pub two_missing : is_in_turn 1 threes [] (two_nest 6 5) ≡ false
  pub found : is_in_turn 2 threes [] (found_nest (tail_of (pos 2) 3)) ≡ true
  pub found_made : is_made 2 [] (constants (pos 0) (pos 3) ∷ constants (pos 0) (pos 9) ∷ []) (found_nest (tail_of (pos 2) 3)) ≡ true
  pub found_twice : is_in_turn 2 threes [] (found_nest (tail_of (pos 3) 3)) ≡ false
