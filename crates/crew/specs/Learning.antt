-- What a seat learns of pieces that it asks for.
use Rattle.std.specs.Prelude.{◌≡◌, ℕ, ℤ, List, Contains}
use Rattle.board.specs.declared.view.View.{View}
use Rattle.board.specs.Layout.{Layout}
use Rattle.board.specs.Rule.{AtStep}
use Rattle.board.specs.Views.{Knows}
use Rattle.board.specs.Words.{flag}

-- the first seat knows all that the second knows
abbrev pub KnowsOf : View → View → Type 0
KnowsOf v w = (j : ℕ) → Knows w j → Knows v j

-- the seat knows each of these pieces
abbrev pub KnowsEach : View → List ℕ → Type 0
KnowsEach v ms = (j : ℕ) → Contains ms j → Knows v j

-- the seat has drawn what it had drawn, may split off as many seats as before, and knows what it knew
pub record HasLearned (before after : View) : Type 0 where
  pub last : after.last ≡ before.last
  pub drawn : after.drawn ≡ before.drawn
  pub seats : after.seats ≡ before.seats
  pub none_left : after.none_left ≡ before.none_left
  pub allowance : after.allowance ≡ before.allowance
  pub more : KnowsOf after before

-- one of these pieces was not finished at a step that the seat took once it knew all this
abbrev pub WasUnfinished : Layout → List ℤ → View → List ℕ → Type 0
WasUnfinished layout values v ms = (j : ℕ) × Contains ms j × (u : View) × KnowsOf u v × AtStep layout values u (λ words. flag words j ≡ 0)
