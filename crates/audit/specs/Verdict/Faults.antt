-- What a refusal of a plan says: a code, a line, and what is wrong there.
use Rattle.std.specs.Prelude.{◌≡◌, ℕ, ◌<◌, ◌⊎◌, List, Some, ℤ, true, slice_get}
use Rattle.meaning.specs.Image.Raster.{is_within}
use Rattle.meaning.specs.Algorithm.{Algorithm}
use Rattle.plan.specs.Plan.{Group, Plan}
use Rattle.plan.specs.Lines.{body_line}
use Rattle.plan.specs.Certificate.Certificate.{Certificate}
use Rattle.plan.specs.Certificate.Cells.{cell}
use Rattle.soundness.specs.Given.{outline_of}
use Rattle.soundness.specs.Obligations.{obligations}
use Rattle.soundness.specs.Shown.{start}
use Rattle.soundness.specs.Nests.Laws.{domains_of}
use Rattle.tails.specs.Windows.Nests.{slid_nests}
use Rattle.headline.specs.Numbers.{is_cell}
use Rattle.soundness.specs.Outline.Refusals.Codes.{number_of}
use Rattle.soundness.specs.declared.outline.refusals.code.Flaw.{Flaw as FlawHeld}
use Rattle.soundness.specs.declared.outline.refusals.code.K.TheVariants.{K10}
use Rattle.headline.specs.Head.{FailsHead}
use Rattle.soundness.specs.Outline.Flaws.{Flaw, first_of, told}
use Rattle.rules.specs.Bounding.Rules.{rules_of}
use Rattle.obligations.specs.declared.context.judge.Part.{Part}
use Rattle.obligations.specs.Asked.{first_unmet}
use Rattle.rules.specs.Widths.Widths.{wide_lines, first_told}
use Rattle.validation.specs.Groups.Lines.{flaws_of_groups}
use Rattle.validation.specs.Certificate.Certificate.{flaws_of_certificate}
use Rattle.shares.specs.Made.{StandsAt, ErrorMeans}
use Rattle.shares.specs.Early.{FetchIsWrong}
use Rattle.shares.specs.declared.answer.SharesError.TheVariants.{Flaw as Told}
use Rattle.soundness.specs.Binders.View.{grid_binders}
use Rattle.audit.specs.Verdict.Left.{LeavesBuffer}

-- the first of these flaws has this code and line
abbrev pub IsFirst : List Flaw → ℕ → ℕ → Type 0
IsFirst flaws code line = first_of flaws ≡ Some (record { code = code; line = line })

module _ (a : Algorithm) (p : Plan) (c : Certificate) where
  -- K1: the head is not the algorithm's, or no group is the output's
  pub record IsOfHead (code line : ℕ) : Type 0 where
    pub code_is : code ≡ 1
    pub fails : FailsHead a p line

  -- K14: it is the first line of some group with a loop's symbol or a store's coordinate that is not shown to be a small number
  pub record IsOfWidth (code line : ℕ) : Type 0 where
    pub number : ℕ
    pub group : Group
    pub stands : slice_get p.groups number ≡ Some group
    pub code_is : code ≡ 14
    pub first : first_told (wide_lines (rules_of a p c number) (grid_binders group.grid) (body_line p number) group.body) ≡ Some line

  -- no line of a group up to this one has a number that is not shown to be small
  abbrev pub IsNarrowUpTo : ℕ → Type 0
  IsNarrowUpTo line =
      (m : ℕ) (h : Group) → slice_get p.groups m ≡ Some h → (wide : ℕ)
      → first_told (wide_lines (rules_of a p c m) (grid_binders h.grid) (body_line p m) h.body) ≡ Some wide → line < wide

  -- what some group's lines owe is not shown: it is the first of what they owe as lines, or of what they owe as claims; and no number up to its line may be too
  -- large, since of such numbers nothing is shown, unless a store stands there that leaves its buffer where it goes past the i32 numbers
  pub record IsOfDebt (code line : ℕ) : Type 0 where
    pub number : ℕ
    pub group : Group
    pub stands : slice_get p.groups number ≡ Some group
    pub part : Part
    pub first : told (first_unmet (rules_of a p c number) (slid_nests (outline_of p c number group) (rules_of a p c number) (domains_of a)) part
        (obligations (outline_of p c number group) (rules_of a p c number) group.body (body_line p number) (start (grid_binders group.grid)))) ≡ Some (record { code = code; line = line })
    pub before : IsNarrowUpTo line ⊎ ((code ≡ 4) × LeavesBuffer p line)

  -- the pieces have no shares, for the reason that the code says of the line
  pub record IsOfShares (code line : ℕ) : Type 0 where
    pub flaw : FlawHeld
    pub code_is : number_of flaw.code ≡ code
    pub line_is : flaw.line ≡ line
    pub means : ErrorMeans p c (Told flaw)

  -- the group of this number has each point of the output
  abbrev pub HasEachPoint : ℕ → Type 0
  HasEachPoint n = (at : List ℤ) → is_within a.output_extents at ≡ true → is_cell p (cell n at) ≡ true

  -- K10: the output's group lacks a point of the output; it is the line of the group's own region
  pub record IsOfOutput (code line : ℕ) : Type 0 where
    pub number : ℕ
    pub group : Group
    pub stands : slice_get p.groups number ≡ Some group
    pub function : group.function ≡ a.output
    pub code_is : code ≡ 10
    pub line_is : StandsAt p c number K10 line
    pub lacks : ¬ HasEachPoint number

  -- K14: a line of a group is broken, and of the fetch lines before the first such line this is the first at which something is wrong
  pub record IsOfFetch (code line : ℕ) : Type 0 where
    pub code_is : code ≡ 14
    pub wrong : FetchIsWrong p line
    pub broken : Flaw
    pub first : first_of (flaws_of_groups a p c) ≡ Some broken
    pub before : line < broken.line

  -- what a code and a line say: one of these
  abbrev pub IsFault : ℕ → ℕ → Type 0
  IsFault code line =
      IsOfHead code line
      ⊎ (IsFirst (flaws_of_groups a p c) code line
      ⊎ (IsOfWidth code line
      ⊎ (IsOfDebt code line
      ⊎ (IsFirst (flaws_of_certificate a p c) code line
      ⊎ (IsOfShares code line
      ⊎ (IsOfOutput code line
      ⊎ IsOfFetch code line))))))
