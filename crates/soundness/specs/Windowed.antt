-- What is asked for of a claim that a window names, written out: the sliding window's plan, and the same with one thing altered.
use Rattle.std.specs.Prelude.{◌≡◌, ℕ, Bool, true, false, List, [], ◌∷◌, filter, take, None, pos, codes}
use Rattle.lin.specs.Forms.{number}
use Rattle.plan.specs.declared.certificate.cert.Window.{Window}
use Rattle.plan.specs.declared.stmt.Places.{Places}
use Rattle.plan.specs.declared.stmt.Places.TheVariants.{From, Folded}
use Rattle.plan.specs.Plan.{Statement, Seq, First, Alloc, Store, Publish, block}
use Rattle.plan.specs.Certificate.Certificate.{Claim, Certificate}
use Rattle.plan.specs.Semantics.Worked.{plus, symbol, constants, between, is, loop, f_row, window_rows, new_rows, slide_value, slide_group, slide_plan, slide_own}
use Rattle.soundness.specs.Given.{outline_of}
use Rattle.soundness.specs.Around.{Binder, Ranged}
use Rattle.soundness.specs.Obligations.{Rules, Code, NotMade, NotHeld, Wanted, Named, Made, Slid, Held, Obligation, obligations}
use Rattle.soundness.specs.Shown.{start}

-- all needed rows in the first turn of the loop over rows, the new one in each later turn
abbrev pub slide_first : Statement
slide_first = First 1 (Seq (block (f_row 2 3 (window_rows 1) ∷ []))) (Seq (block (f_row 4 5 (new_rows 1) ∷ [])))

-- a row of the output
abbrev pub slide_row : Statement
slide_row = loop 6 (constants (pos 0) (pos 3)) (Store 0 0 (is (codes "x") (symbol 6) ∷ is (codes "y") (symbol 1) ∷ []) slide_value ∷ [])

-- the piece whose loop over rows has these statements in its body
abbrev pub slide_over : List Statement → Statement
slide_over row = Seq (block (
    Alloc 0 (codes "out") (From (number (pos 0)) 4 ∷ From (plus (pos 0) (pos 4) 0) 4 ∷ [])
    ∷ Alloc 1 (codes "f") (From (number (pos 0)) 4 ∷ Folded 3 ∷ [])
    ∷ loop 1 (between (plus (pos 0) (pos 4) 0) (plus (pos 3) (pos 4) 0)) row
    ∷ Publish 1 ∷ []))

abbrev pub rows_of_f : ℕ → Claim
rows_of_f k = record { line = 20; buffer = 1; function = codes "f"; definition = k; region = constants (pos 0) (pos 3) ∷ window_rows 1 ∷ [] }

abbrev pub along : ℕ → Window
along i = record { claim = 0; symbol = i; dimension = 1; fold = 3; span = window_rows 1 }

-- the definition that the claim is of, and the windows
abbrev pub slide_with : ℕ → List Window → Certificate
slide_with k ws = record {
  own = record { group = 0; region = slide_own } ∷ [];
  needs = [];
  claims = rows_of_f k ∷ record { line = 24; buffer = 0; function = codes "out"; definition = 0; region = slide_own } ∷ [];
  windows = ws;
}

abbrev pub is_of_making : Code → Bool
is_of_making NotMade = true
is_of_making NotHeld = true
is_of_making _ = false

-- the first things that are asked for of the claim
abbrev pub slide_asks : Rules → ℕ → Certificate → List Statement → List Obligation
slide_asks rules n c row =
    take n (filter (λ o. is_of_making o.code) (obligations (outline_of (slide_plan 3) c 0 (slide_group 3)) rules (slide_over row) 5 (start [])))

abbrev pub slide_around : List Binder
slide_around = Ranged 1 (between (plus (pos 0) (pos 4) 0) (plus (pos 3) (pos 4) 0)) ∷ []

abbrev pub folded_rows : List Places
folded_rows = From (number (pos 0)) 4 ∷ Folded 3 ∷ []

-- of the claim, at its line
abbrev pub of_claim : Rules → Wanted → Obligation
of_claim rules w = record { code = NotMade; line = rules.claim_line 0; binders = slide_around; wanted = w }

-- and of its window
abbrev pub of_window : Rules → Wanted → Obligation
of_window rules w = record { code = NotHeld; line = rules.window_line 0; binders = slide_around; wanted = w }

-- that the statement makes the claim by itself
abbrev pub made_alone : Rules → List Obligation
made_alone rules = of_claim rules (Named true) ∷ of_claim rules (Made 0 None folded_rows slide_first) ∷ []

-- that it makes the claim along the window, and that the window holds
abbrev pub made_along : Rules → List Obligation
made_along rules =
    of_claim rules (Named true) ∷ of_claim rules (Slid (along 1) 0 folded_rows slide_first)
    ∷ of_window rules (Held (along 1) slide_around 0 folded_rows slide_first) ∷ []

-- a second window of the claim
abbrev pub another : Window
another = record { claim = 0; symbol = 1; dimension = 0; fold = 0; span = window_rows 1 }

pub record ClaimsAreAsked : Type 0 where
  pub slides : (rules : Rules) → slide_asks rules 3 (slide_with 0 (along 1 ∷ [])) (slide_first ∷ slide_row ∷ []) ≡ made_along rules
  -- without a window, and with one of another loop
  pub no_window : (rules : Rules) → slide_asks rules 2 (slide_with 0 []) (slide_first ∷ slide_row ∷ []) ≡ made_alone rules
  pub other_loop : (rules : Rules) → slide_asks rules 2 (slide_with 0 (along 0 ∷ [])) (slide_first ∷ slide_row ∷ []) ≡ made_alone rules
  -- of a claim of the window's loop whose buffer is stored in by two statements of the loop's body
  pub not_alone : (rules : Rules) →
      slide_asks rules 2 (slide_with 0 (along 1 ∷ [])) (slide_first ∷ slide_row ∷ f_row 7 8 (window_rows 1) ∷ []) ≡ made_alone rules
  -- and of an update
  pub update : (rules : Rules) → slide_asks rules 2 (slide_with 1 (along 1 ∷ [])) (slide_first ∷ slide_row ∷ []) ≡ made_alone rules
  -- of two windows the first counts
  pub first_counts : (rules : Rules) → slide_asks rules 3 (slide_with 0 (along 1 ∷ another ∷ [])) (slide_first ∷ slide_row ∷ []) ≡ made_along rules
