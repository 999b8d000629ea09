-- Plans of several groups that the checker says yes to, and what a yes promises.
use Rattle.std.specs.Prelude.{◌≡◌, ℕ, ◌<◌, Bool, true, List, [], filter, not, Some, ℤ, slice_get}
use Rattle.std.specs.List.{AllByRecursion}
use Rattle.meaning.specs.Image.Raster.{is_within}
use Rattle.meaning.specs.Algorithm.{Algorithm}
use Rattle.meaning.specs.Conditions.{IsAlgorithm}
use Rattle.meaning.specs.Functions.{AreSamples}
use Rattle.plan.specs.Plan.{Group, Plan}
use Rattle.plan.specs.Lines.{body_line}
use Rattle.plan.specs.Symbols.{Symbols}
use Rattle.plan.specs.Certificate.Certificate.{Certificate}
use Rattle.plan.specs.Certificate.Cells.{Piece, cell, grid_point, grid_symbols, group_pieces, pieces}
use Rattle.plan.specs.Semantics.Actions.{actions}
use Rattle.plan.specs.Semantics.Setting.{setting_of}
use Rattle.soundness.specs.Claims.{IsSound as IsSoundBody}
use Rattle.soundness.specs.Given.{outline_of, given_of}
use Rattle.soundness.specs.Obligations.{Rules, Obligation, Suited, is_covered}
use Rattle.soundness.specs.Right.{at_start}
use Rattle.soundness.specs.Shown.{Nests, all_shown}
use Rattle.soundness.specs.Stored.{AreDefinitions}
use Rattle.tails.specs.Windows.Shown.{IsShown}
use Rattle.orders.specs.Work.{IsSound}
use Rattle.headline.specs.Numbers.{is_cell}
use Rattle.headline.specs.Sound.{IsPublished}
use Rattle.headline.specs.Theorem.{HasSoundCells}
use Rattle.headline.specs.Work.{cells_fetched, target, work_of}
use Rattle.meaning.specs.Inlining.PutIn.{put_in}
use Rattle.headline.specs.Head.{SameInput, SameOutput}
use Rattle.validation.specs.Stored.Definitions.{stored_in}
use Rattle.validation.specs.Groups.Free.{IsFree}
use Rattle.headline.specs.Headline.{Headline}

-- ---- the yes

-- the plan's name, input and output are the algorithm's
pub record HasHead (a : Algorithm) (p : Plan) : Type 0 where
  pub name : p.name ≡ a.name
  pub input : SameInput a p.input
  pub output : SameOutput a p.output

-- some group is the output's, and has each point of its extents
pub record HasOutput (a : Algorithm) (p : Plan) : Type 0 where
  pub number : ℕ
  pub group : Group
  pub stands : slice_get p.groups number ≡ Some group
  pub function : group.function ≡ a.output
  pub inside : (at : List ℤ) → is_within a.output_extents at ≡ true → is_cell p (cell number at) ≡ true

-- what is asked of a group by itself: that it publishes, that pure stores have forms alone, that its stores are definitions, and
-- that these take no updates
pub record HasLines (a : Algorithm) (p : Plan) (c : Certificate) (n : ℕ) (g : Group) : Type 0 where
  pub published : IsPublished p c n g
  pub covered : is_covered (setting_of p c n g) g.body ≡ true
  pub definitions : (samples : List ℕ) (s : Symbols) →
      AreDefinitions a (put_in a (stored_in a p)) (given_of a samples (outline_of p c n g)) (actions (setting_of p c n g) g.body s)
  pub free : IsFree a (stored_in a p) (setting_of p c n g) g.body

-- the checker's yes by the rules of each group
pub record Accepts (rules : ℕ → Rules) (a : Algorithm) (p : Plan) (c : Certificate) : Type 0 where
  pub head : HasHead a p
  pub lines : (n : ℕ) (g : Group) → slice_get p.groups n ≡ Some g → HasLines a p c n g
  pub shown : (n : ℕ) (g : Group) → slice_get p.groups n ≡ Some g → IsShown (rules n) a p c n g
  -- what a piece fetches are cells
  pub cells : (j : ℕ) (x : Piece) → slice_get (pieces p) j ≡ Some x → AllByRecursion (λ y. is_cell p y ≡ true) (cells_fetched p x)
  -- the cells are parted among the pieces, which fetch from earlier ones that they need: whatever the samples are
  pub lists : HasSoundCells (work_of a p c [])
  pub output : HasOutput a p

-- the rules of each group fit what the algorithm, the plan and the certificate give
abbrev pub AreSuited : (ℕ → Rules) → Algorithm → Plan → Certificate → Type 0
AreSuited rules a p c =
    (samples : List ℕ) (n : ℕ) (g : Group) → AreSamples a samples → slice_get p.groups n ≡ Some g → Suited (given_of a samples (outline_of p c n g)) (rules n)

-- the theorem: what is accepted by rules that fit is right
abbrev pub AcceptedIsRight : Type 0
AcceptedIsRight = (rules : ℕ → Rules) (a : Algorithm) (p : Plan) (c : Certificate) → IsAlgorithm a → AreSuited rules a p c → Accepts rules a p c → Headline a p c

-- on every input the work of an accepted plan is sound: its lists part the cells, and each piece's private run on right values
-- gives right values
abbrev pub AcceptedIsSound : Type 0
AcceptedIsSound =
    (rules : ℕ → Rules) (a : Algorithm) (p : Plan) (c : Certificate) → IsAlgorithm a → AreSuited rules a p c → Accepts rules a p c →
    (samples : List ℕ) → AreSamples a samples → IsSound (work_of a p c samples) (target a p samples)

-- and the body of each piece keeps inside its buffers and uses only claims in force
abbrev pub AcceptedBodiesAreSound : Type 0
AcceptedBodiesAreSound =
    (rules : ℕ → Rules) (a : Algorithm) (p : Plan) (c : Certificate) → IsAlgorithm a → AreSuited rules a p c → Accepts rules a p c →
    (samples : List ℕ) → AreSamples a samples → (n : ℕ) (g : Group) (k : ℕ) → slice_get p.groups n ≡ Some g → k < group_pieces g →
    IsSoundBody (given_of a samples (outline_of p c n g)) g.body (body_line p n) (at_start (grid_symbols (grid_point g.grid k)))

-- obligations that are shown in two parts are all shown: those that pass a test, and those that do not
abbrev pub PartsAreAll : Type 0
PartsAreAll =
    (rules : Rules) (nests : Nests) (test : Obligation → Bool) (os : List Obligation) →
    all_shown rules nests (filter test os) ≡ true → all_shown rules nests (filter (λ o. not (test o)) os) ≡ true → all_shown rules nests os ≡ true
