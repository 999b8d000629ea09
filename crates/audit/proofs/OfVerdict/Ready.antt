-- What is accepted may be run.
use Rattle.std.proofs.Common.{◌≡◌, ℕ, zero, suc, ◌+◌, ◌<◌, List, [], ◌∷◌, Bool, true, false, Option, Some, None, refl, sym, ap, ◌∙◌, subst, arith}
use Rattle.std.specs.Prelude.{ℤ, pos, slice_get}
use Rattle.std.specs.List.{AllByRecursion}
use Rattle.std.proofs.lemmas.List.Elements.{recursion_from_All, All-nil}
use Rattle.meaning.specs.Image.Raster.{is_within}
use Rattle.numeric.specs.Wrap.{IsOf}
use Rattle.meaning.specs.Algorithm.{Algorithm}
use Rattle.meaning.specs.Conditions.{IsAlgorithm}
use Rattle.meaning.specs.Functions.{AreSamples, IsPoint}
use Rattle.meaning.specs.Names.{same_name}
use Rattle.plan.specs.Plan.{Group, Plan}
use Rattle.plan.specs.Lines.{body_line}
use Rattle.plan.specs.Certificate.Certificate.{Certificate}
use Rattle.plan.specs.Certificate.Cells.{Cell, Piece, cell, first_piece, group_pieces, own_points, piece, pieces}
use Rattle.soundness.specs.Given.{outline_of, given_of}
use Rattle.soundness.proofs.Refines.{name_refl, name_true}
use Rattle.headline.specs.Fetched.{fetched_cells}
use Rattle.headline.specs.Numbers.{CellsAreNumbered, PiecesAreNumbered, is_cell}
use Rattle.headline.specs.Parts.{CellsAreApart, FunctionsAreDistinct, PartsAreTheWork, symbols_of_piece}
use Rattle.headline.specs.Sound.{IsOnInput}
use Rattle.headline.specs.Work.{cells_fetched, group_fetched}
use Rattle.soundness.specs.Outline.Flaws.{first_of}
use Rattle.rules.specs.Bounding.Laws.{RulesAreSuited}
use Rattle.rules.specs.Bounding.Rules.{rules_of}
use Rattle.validation.specs.Groups.Laws.{GroupsArePublished, BodiesAreCovered, StoresAreDefinitions}
use Rattle.validation.specs.Certificate.Certificate.{flaws_of_certificate}
use Rattle.validation.specs.Certificate.Clear.{IsClear}
use Rattle.shares.specs.Layout.{PieceFetchesCells}
use Rattle.audit.specs.Verdict.Shown.Wide.{HasLines, Accepts, AreSuited, AcceptedIsRight as RulesAreRight, AcceptedIsSound as RulesAreSound, AcceptedBodiesAreSound as BodiesAreSound}
use Rattle.audit.specs.Verdict.Bounded.Near.{NearIsNarrow}
use Rattle.audit.specs.Verdict.Clear.{GroupsAreFree, GroupsAreNear, RegionsAreSmall, PlansAreSmall, GroupsAreApart}
use Rattle.audit.specs.Verdict.Bounded.Near.{GroupIsNear}
use Rattle.audit.specs.Verdict.Indices.{GivenAreIndices, SetAreIndices}
use Rattle.audit.proofs.OfVerdict.OfIndices.Owned.{own_given}
use Rattle.audit.proofs.OfVerdict.OfIndices.Points.{cell_is}
use Rattle.checked_plan.specs.Ready.Ready.{place_of_group, Ready}
use Rattle.audit.specs.Verdict.Accepted.{IsAccepted}
use Rattle.audit.specs.Verdict.Laws.{AcceptedIsReady}

-- what lower crates have proved
pub record Laws : Type 0 where
  pub published : GroupsArePublished
  pub covered : BodiesAreCovered
  pub definitions : StoresAreDefinitions
  pub free : GroupsAreFree
  pub near : GroupsAreNear
  pub regions : RegionsAreSmall
  pub small : PlansAreSmall
  pub apart : GroupsAreApart
  pub clear : (a : Algorithm) (p : Plan) (c : Certificate) → None ≡ first_of (flaws_of_certificate a p c) → IsClear a p c
  pub suited : RulesAreSuited
  pub narrow : NearIsNarrow
  pub right : RulesAreRight
  pub sound : RulesAreSound
  pub bodies : BodiesAreSound
  pub set : SetAreIndices
  pub given : GivenAreIndices
  pub numbered : CellsAreNumbered
  pub places : PiecesAreNumbered
  pub parts : PartsAreTheWork
  pub told : CellsAreApart

-- ---- the first group of a function

abbrev Found : List ℕ → List Group → ℕ → Type 0
Found name gs n = (f : Group) × (slice_get gs n ≡ Some f) × (f.function ≡ name)

found_first : (gs : List Group) (name : List ℕ) (m : ℕ) (g : Group) → slice_get gs m ≡ Some g → same_name g.function name ≡ true → Found name gs (place_of_group gs name)
found_first [] name m g e is = absurd (cc e)
found_first (x ∷ xs) name m g e is = of (same_name x.function name) refl m e (λ k h. found_first xs name k g h is)
  where
    of : (b : Bool) → same_name x.function name ≡ b → (k : ℕ) → slice_get (x ∷ xs) k ≡ Some g → ((k : ℕ) → slice_get xs k ≡ Some g → Found name xs (place_of_group xs name)) →
        Found name (x ∷ xs) (elim b [ true ↦ 0 | false ↦ 1 + place_of_group xs name ])
    of true s k h rest = (x, refl, name_true x.function name s)
    of false s zero h rest = (let same : x ≡ g = cc in absurd (cc (sym s ∙ ap (λ (y : Group). same_name y.function name) same ∙ is)))
    of false s (suc k) h rest = (
        let one : 1 + place_of_group xs name ≡ suc (place_of_group xs name) = omega arith in
        subst (Found name (x ∷ xs)) (sym one) (rest k h))

-- where no other group has the function, a group of the function is the first
only_group : (p : Plan) (name : List ℕ) (n : ℕ) (g : Group) → FunctionsAreDistinct p → slice_get p.groups n ≡ Some g → g.function ≡ name → n ≡ place_of_group p.groups name
only_group p name n g distinct e named =
    let first = found_first p.groups name n g e (ap (λ (f : List ℕ). same_name f name) named ∙ name_refl name) in
    distinct n (place_of_group p.groups name) g first.0 e first.1 (named ∙ sym first.2)

-- ---- the plan

module _ (laws : Laws) (a : Algorithm) (p : Plan) (c : Certificate) (w : IsAlgorithm a) (accepted : IsAccepted a p c) where
  clear : IsClear a p c
  clear = laws.clear a p c (sym (ap first_of accepted.certificate))

  on_input : IsOnInput a p
  on_input = record { name = accepted.head.input.name; ty = accepted.head.input.ty; extents = accepted.head.input.extents }

  suited : AreSuited (rules_of a p c) a p c
  suited samples n g in_type e = laws.suited a samples p c n g w in_type on_input e

  lines : (n : ℕ) (g : Group) → slice_get p.groups n ≡ Some g → HasLines a p c n g
  lines n g e = record {
    published = laws.published a p c accepted.groups clear.own n g e;
    covered = laws.covered a p c accepted.groups n g e;
    definitions = laws.definitions a p c accepted.groups n g e;
    free = laws.free a p c accepted.groups n g e;
  }

  fetched : (j : ℕ) (x : Piece) → slice_get (pieces p) j ≡ Some x → AllByRecursion (λ y. is_cell p y ≡ true) (cells_fetched p x)
  fetched j x e = recursion_from_All (λ y. is_cell p y ≡ true) (cells_fetched p x) (subst (PieceFetchesCells p) e (accepted.shares.cells j))

  accepts : Accepts (rules_of a p c) a p c
  accepts = record {
    head = accepted.head;
    lines = lines;
    shown = accepted.shown;
    cells = fetched;
    lists = accepted.shares.lists a [];
    output = accepted.output;
  }

  -- no sample is enough to ask for rules that fit
  no_samples : AreSamples a []
  no_samples = All-nil (λ s. IsOf a.input_ty (pos s))

  has_output : (at : List ℤ) → is_within a.output_extents at ≡ true → is_cell p (cell (place_of_group p.groups a.output) at) ≡ true
  has_output at on =
      let o = accepted.output in
      let same = only_group p a.output o.number o.group (laws.apart a p c accepted.groups).distinct o.stands o.function in
      subst (λ n. is_cell p (cell n at) ≡ true) same (o.inside at on)

  is_near : (n : ℕ) (g : Group) → slice_get p.groups n ≡ Some g → GroupIsNear (rules_of a p c n) c n g (body_line p n)
  is_near n g e = laws.near a p c (rules_of a p c n) accepted.groups clear n g e (accepted.widths n g e)

  -- ---- the points of cells

  fetched_by : (n : ℕ) (g : Group) (k : ℕ) → slice_get p.groups n ≡ Some g → k < group_pieces g → AllByRecursion (λ y. is_cell p y ≡ true) (fetched_cells g.body (symbols_of_piece p n g k))
  fetched_by n g k e less = subst (λ (o : Option Group). AllByRecursion (λ y. is_cell p y ≡ true) (group_fetched o (piece g n k))) e
      (fetched (first_piece p.groups n + k) (piece g n k) (laws.places.stands p n g k e less))

  own_are : (n : ℕ) (g : Group) (k : ℕ) → slice_get p.groups n ≡ Some g → k < group_pieces g → AllByRecursion (λ (y : Cell). IsPoint y.point) (fetched_cells g.body (symbols_of_piece p n g k)) →
      AllByRecursion IsPoint (own_points g c n (symbols_of_piece p n g k))
  own_are n g k e less looked =
      let given = given_of a [] (outline_of p c n g) in
      let s = symbols_of_piece p n g k in
      let set = laws.set given (rules_of a p c n) c n g (body_line p n) k (suited [] n g no_samples e) (is_near n g e) less looked in
      own_given p c n g s (lines n g e).published
      (laws.given given g.body (body_line p n) s (laws.bodies (rules_of a p c) a p c w suited accepts [] no_samples n g k e less) set)

  points : (y : Cell) → is_cell p y ≡ true → IsPoint y.point
  points = cell_is a p c laws.parts laws.told (laws.apart a p c accepted.groups).ends (accepted.shares.lists a []) fetched_by own_are laws.numbered

  ready : Ready a p c
  ready = record {
    input = accepted.head.input;
    sound = laws.sound (rules_of a p c) a p c w suited accepts;
    headline = laws.right (rules_of a p c) a p c w suited accepts;
    few_pieces = (laws.small a p c accepted.groups).pieces;
    few_cells = (laws.small a p c accepted.groups).cells;
    regions = laws.regions a p c accepted.groups;
    ends = (laws.apart a p c accepted.groups).ends;
    distinct = (laws.apart a p c accepted.groups).distinct;
    narrow = λ n g k e less. laws.narrow (given_of a [] (outline_of p c n g)) (rules_of a p c n) c n g (body_line p n) k (suited [] n g no_samples e)
        (is_near n g e) less;
    points = points;
    fetched = fetched;
    output = has_output;
  }

pub accepted_ready : Laws → AcceptedIsReady
accepted_ready laws a p c w accepted = ready laws a p c w accepted
