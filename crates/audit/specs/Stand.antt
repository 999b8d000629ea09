-- What stands where the decisions find no flaw, and what a flaw that they find is.
use Rattle.std.specs.Prelude.{◌≡◌, ◌≤◌, ℕ, [], Option, Some, pos, ◌+ℤ◌, ◌≤ℤ◌, List, MatchOption, option_map, slice_get}
use Rattle.lin.specs.declared.span.Span1.{Span1}
use Rattle.meaning.specs.Algorithm.{Algorithm}
use Rattle.plan.specs.Plan.{Group, Plan}
use Rattle.plan.specs.Lines.{body_line}
use Rattle.plan.specs.Certificate.Certificate.{Certificate}
use Rattle.soundness.specs.Outline.Refusals.Codes.{number_of}
use Rattle.soundness.specs.declared.outline.refusals.code.Flaw.{Flaw}
use Rattle.rules.specs.Bounding.Rules.{rules_of}
use Rattle.rules.specs.Widths.Widths.{first_told, wide_lines}
use Rattle.soundness.specs.Binders.View.{grid_binders}
use Rattle.claims.specs.First.{AllMet}
use Rattle.checked_plan.specs.Ready.Ready.{high_end, low_end}
use Rattle.audit.specs.Verdict.Faults.{IsFault}

module _ (a : Algorithm) (p : Plan) (c : Certificate) where
  -- the numbers of a group's lines are small
  abbrev pub IsNarrow : ℕ → Group → Type 0
  IsNarrow n g = wide_lines (rules_of a p c n) (grid_binders g.grid) (body_line p n) g.body ≡ []

  -- those of each group
  abbrev pub AreNarrow : Type 0
  AreNarrow = (n : ℕ) (g : Group) → slice_get p.groups n ≡ Some g → IsNarrow n g

  -- the flaw, if there is one, is at the first line of the group with a number that is not shown to be small
  abbrev pub IsFirstOf : ℕ → Group → Option Flaw → Type 0
  IsFirstOf n g flaw = first_told (wide_lines (rules_of a p c n) (grid_binders g.grid) (body_line p n) g.body) ≡ option_map (λ f. f.line) flaw

  -- it is at no later line than the first of any group
  abbrev pub IsFirstOfAll : Option Flaw → Type 0
  IsFirstOfAll flaw =
      (n : ℕ) (g : Group) → slice_get p.groups n ≡ Some g → (wide : ℕ) → first_told (wide_lines (rules_of a p c n) (grid_binders g.grid) (body_line p n) g.body) ≡ Some wide
      → MatchOption flaw ⊥ (λ f. f.line ≤ wide)

  -- all that is decided by bounds is shown: numbers are small, and what lines owe is met
  pub record AreShown : Type 0 where
    pub narrow : AreNarrow
    pub met : AllMet a p c

  -- what a flaw tells is a fault of the plan
  abbrev pub IsFlaw : Flaw → Type 0
  IsFlaw f = IsFault a p c (number_of f.code) f.line

-- the group of this number is of the function
abbrev pub IsGroupOf : List Group → List ℕ → ℕ → Type 0
IsGroupOf gs f n = MatchOption (slice_get gs n) ⊥ (λ g. g.function ≡ f)

-- each number from 0 up to an extent lies between the ends of a span
abbrev pub HasExtent : ℕ → Span1 → Type 0
HasExtent n x = (low_end x ≤ℤ pos 0) × (pos n ≤ℤ (high_end x +ℤ pos 1))
