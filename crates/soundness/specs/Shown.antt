-- The tests that show an obligation, and what follows where all are shown.
use Rattle.std.specs.Prelude.{◌≡◌, ℕ, ◌&&◌, nat_lt, Bool, true, false, if◌then◌else◌, List, [], ◌∷◌, Option, Some, None, ℤ, pos, ◌+ℤ◌, ◌-ℤ◌}
use Rattle.std.specs.List.{list_any, list_all}
use Rattle.lin.specs.Forms.{Form}
use Rattle.lin.specs.declared.span.Span1.{Span1}
use Rattle.plan.specs.declared.stmt.Places.{Places}
use Rattle.plan.specs.declared.stmt.Places.TheVariants.{From, Folded}
use Rattle.plan.specs.declared.certificate.cert.Window.{Window}
use Rattle.plan.specs.Plan.{Statement}
use Rattle.plan.specs.Symbols.{Symbols}
use Rattle.soundness.specs.Origins.{Given}
use Rattle.soundness.specs.Claims.{IsSound}
use Rattle.soundness.specs.Around.{inside}
use Rattle.soundness.specs.Sliding.{IsSliding}
use Rattle.soundness.specs.Right.{at_start}
use Rattle.soundness.specs.Obligations.{Binder, Respects, Known, Rules, Wanted, Named, Seated, Inside, Made, InTurn, Slid, Held, Obligation, MeantAt, AllMeant, Suited, obligations, is_covered}

abbrev pub raised : Form → ℤ → Form
raised f z = record { constant = f.constant +ℤ z; terms = f.terms }

-- each end of the second is shown to be beyond some end of the first
abbrev pub is_within : Rules → List Binder → Span1 → Span1 → Bool
is_within rules bs x y =
    list_all (λ m. list_any (λ l. rules.at_most bs m l) x.lower) y.lower && list_all (λ m. list_any (λ u. rules.at_most bs u m) x.upper) y.upper

abbrev pub are_within : Rules → List Binder → List Span1 → List Span1 → Bool
are_within rules bs [] [] = true
are_within rules bs [] (y ∷ ys) = false
are_within rules bs (x ∷ xs) [] = false
are_within rules bs (x ∷ xs) (y ∷ ys) = is_within rules bs x y && are_within rules bs xs ys

-- a place for each number of the span
abbrev pub is_seated : Rules → List Binder → Span1 → Places → Bool
is_seated rules bs x (From l n) = is_within rules bs x (record { lower = l ∷ []; upper = raised l (pos n -ℤ pos 1) ∷ [] })
is_seated rules bs x (Folded n) = nat_lt 0 n

abbrev pub are_seated : Rules → List Binder → List Span1 → List Places → Bool
are_seated rules bs [] [] = true
are_seated rules bs [] (a ∷ places) = false
are_seated rules bs (x ∷ xs) [] = false
are_seated rules bs (x ∷ xs) (a ∷ places) = is_seated rules bs x a && are_seated rules bs xs places

-- the tests of nests: that a statement makes a claim, and that it does a definition's steps in order; that it makes a claim along a window,
-- and that the window's buffer holds what is made so
pub record Nests : Type 0 where
  pub is_made : List Binder → (claim : ℕ) (from : Option ℕ) (places : List Places) (by : Statement) → Bool
  pub is_in_turn : List Binder → (claim : ℕ) (by : Statement) → Bool
  pub is_slid : List Binder → (window : Window) (claim : ℕ) (places : List Places) (by : Statement) → Bool
  pub is_held : List Binder → (window : Window) (claim : ℕ) (places : List Places) (by : Statement) → Bool

abbrev pub shows : Rules → Nests → List Binder → Wanted → Bool
shows rules nests bs (Named test) = test
shows rules nests bs (Seated xs places) = are_seated rules bs xs places
shows rules nests bs (Inside xs ys) = are_within rules bs xs ys
shows rules nests bs (Made c from places a) = nests.is_made bs c from places a
shows rules nests bs (InTurn c a) = nests.is_in_turn bs c a
shows rules nests bs (Slid w c places a) = nests.is_slid bs w c places a
shows rules nests bs (Held w around c places a) = nests.is_slid around w c places a && nests.is_held around w c places a

abbrev pub is_shown : Rules → Nests → Obligation → Bool
is_shown rules nests o = shows rules nests o.binders o.wanted

-- the first obligation that is not shown
abbrev pub first_fault : Rules → Nests → List Obligation → Option Obligation
first_fault rules nests [] = None
first_fault rules nests (o ∷ os) = if is_shown rules nests o then first_fault rules nests os else Some o

abbrev pub all_shown : Rules → Nests → List Obligation → Bool
all_shown rules nests os = list_all (is_shown rules nests) os

-- the tests of nests say yes only where it is so
pub record AreRightNests (given : Given) (nests : Nests) : Type 0 where
  pub made : (bs : List Binder) (c : ℕ) (from : Option ℕ) (places : List Places) (a : Statement) (s : Symbols) → nests.is_made bs c from places a ≡ true → Respects bs s → MeantAt given (Made c from places a) s
  pub in_turn : (bs : List Binder) (c : ℕ) (a : Statement) (s : Symbols) → nests.is_in_turn bs c a ≡ true → Respects bs s → MeantAt given (InTurn c a) s
  -- both together of what is made along a window
  pub slides : (bs : List Binder) (w : Window) (c : ℕ) (places : List Places) (a : Statement) (s : Symbols) → nests.is_slid bs w c places a ≡ true →
      nests.is_held bs w c places a ≡ true → Respects bs s → IsSliding given w.symbol (inside w.symbol bs) c places a s

-- at the beginning of a piece: the symbols of the grid alone
abbrev pub start : List Binder → Known
start grid = record { binders = grid; buffers = []; claims = []; own = []; updating = [] }

-- where all obligations of a piece's lines are meant, the piece is sound at every point of the grid
abbrev pub MeantIsSound : Type 0
MeantIsSound =
    (given : Given) (rules : Rules) (body : Statement) (line : ℕ) (grid : List Binder) (s : Symbols) →
    Suited given rules → is_covered given.outline.setting body ≡ true → AllMeant given (obligations given.outline rules body line (start grid)) →
    Respects grid s → IsSound given body line (at_start s)

-- what is shown is meant
abbrev pub ShownIsMeant : Type 0
ShownIsMeant =
    (given : Given) (rules : Rules) (nests : Nests) (os : List Obligation) →
    Suited given rules → AreRightNests given nests → all_shown rules nests os ≡ true → AllMeant given os

-- a piece whose obligations are all shown is sound at every point of the grid
abbrev pub ShownIsSound : Type 0
ShownIsSound =
    (given : Given) (rules : Rules) (nests : Nests) (body : Statement) (line : ℕ) (grid : List Binder) (s : Symbols) →
    Suited given rules → AreRightNests given nests → is_covered given.outline.setting body ≡ true → all_shown rules nests (obligations given.outline rules body line (start grid)) ≡ true →
    Respects grid s → IsSound given body line (at_start s)
