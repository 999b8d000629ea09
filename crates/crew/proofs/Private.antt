-- What the private runs of a checked plan's pieces give.
use Rattle.std.proofs.Common.{◌≡◌, ℕ, ◌<◌, true, List, length, map, Some, ℤ, sym, ap, ◌∙◌, subst}
use Rattle.std.specs.Prelude.{Contains}
use Rattle.std.specs.List.{AllByRecursion}
use Rattle.std.proofs.Props.{props}
use Rattle.std.proofs.Math.Logic.{∥∥₁_elim}
use Rattle.numeric.specs.Wrap.{IsOf}
use Rattle.meaning.specs.Algorithm.{Algorithm}
use Rattle.meaning.specs.Functions.{AreSamples}
use Rattle.algo.specs.declared.inputs.Inputs.{Inputs}
use Rattle.algo.specs.View.{IsFor, picture_of, samples_of}
use Rattle.checked_plan.specs.declared.checked.Checked.{Checked}
use Rattle.checked_plan.specs.View.{algorithm_checked, plan_checked, certificate_checked}
use Rattle.plan.specs.Plan.{Plan}
use Rattle.plan.specs.Certificate.Certificate.{Certificate}
use Rattle.plan.specs.Certificate.Cells.{Cell, grid_point}
use Rattle.soundness.proofs.Forms.{rec_weaker}
use Rattle.headline.proofs.Samples.{inputs_are_samples}
use Rattle.headline.specs.Numbers.{CellsAreNumbered, cell_number, is_cell}
use Rattle.headline.specs.Work.{cell_function, cell_value, looked_value, target, type_named, value_or_zero}
use Rattle.checked_plan.specs.Ready.Ready.{Ready}
use Rattle.board.specs.Layout.{Layout, own_of, pieces_of, value_at}
use Rattle.crew.specs.Opening.Laws.{OwnIsOfWork, RunsGiveValues, ValuesAreTargets, WorksAreSound}
use Rattle.crew.specs.Opening.Layouts.{layout_of, values_of}
use Rattle.interpreter.specs.Outcome.{piece_gives}
use Rattle.piece.specs.Laws.{PiecesAreNarrow, RunsAreTheWork}
use Rattle.piece.specs.Looked.{cells_of_piece}
use Rattle.piece.proofs.Lookups.{are_cells, numbers_are}
use Rattle.piece.specs.Places.Places.{IsPlaceOf}
use Rattle.crew.specs.Private.{CanRun, GivesValues, IsMostOwn, IsOwnOf, as_typed, fetched_of, needs_of, told_by, words_at}
use Rattle.crew.proofs.Owners.{owner_of}
use Rattle.crew.proofs.Told.{IsTyped, told_values}
use Rattle.crew.proofs.Typed.{call_typed}

-- what lower crates have proved
pub record Laws : Type 0 where
  pub own : OwnIsOfWork
  pub works : WorksAreSound
  pub values : ValuesAreTargets
  pub runs : RunsGiveValues
  pub work : RunsAreTheWork
  pub narrow : PiecesAreNarrow
  pub numbered : CellsAreNumbered

module _ (laws : Laws) (x : Checked) (i : Inputs) (fits : IsFor x.algo.now i) where
  abbrev a : Algorithm
  a = algorithm_checked x

  abbrev p : Plan
  p = plan_checked x

  abbrev c : Certificate
  c = certificate_checked x

  abbrev samples : List ℕ
  samples = samples_of i

  abbrev V : List ℤ
  V = values_of x i

  abbrev count : ℕ
  count = pieces_of (layout_of x)

  given : AreSamples a samples
  given = inputs_are_samples a (picture_of i) x.algo.now.well_formed fits

  -- ---- what is told of fetched cells

  typed_cell : Ready a p c → (y : Cell) → is_cell p y ≡ true → IsTyped a p V (cell_number p) y
  typed_cell ready y h =
      let value : value_at V (cell_number p y) ≡ (cell_value a p samples y).number = laws.values x i (cell_number p y) ∙ ap (value_or_zero a p samples) (laws.numbered.stands p y ready.ends h) in
      subst (IsOf (type_named a (cell_function p y))) (sym value)
      (call_typed a samples x.algo.now.well_formed given (cell_function p y) y.point (ready.points y h))

  cells_typed : Ready a p c → (j : ℕ) → AllByRecursion (IsTyped a p V (cell_number p)) (cells_of_piece p j)
  cells_typed ready j = rec_weaker (λ y. is_cell p y ≡ true) (IsTyped a p V (cell_number p)) (typed_cell ready) (cells_of_piece p j) (are_cells a p c ready j)

  told_same : Ready a p c → (j : ℕ) → (name : List ℕ) (at : List ℤ) →
      told_by a p j (words_at V (fetched_of x j)) name at ≡ looked_value a p (cells_of_piece p j) (map (target a p samples) (fetched_of x j)) name at
  told_same ready j name at =
      let cells = cells_of_piece p j in
      ap (λ (ns : List ℕ). as_typed (looked_value a p cells (words_at V ns) name at)) (numbers_are p j)
      ∙ told_values a p V (cell_number p) cells (cells_typed ready j) name at
      ∙ ap (λ (ns : List ℕ). looked_value a p cells (map (value_at V) ns) name at) (sym (numbers_are p j))
      ∙ (λ k. looked_value a p cells (map (λ n. laws.values x i n k) (fetched_of x j)) name at)

  runs_right : (j n k : ℕ) (at : IsPlaceOf p.groups j n k) → j < count →
      piece_gives p c samples (told_by a p j (words_at V (fetched_of x j))) n (grid_point at.g.grid k) ≡ Some (map (value_at V) (own_of (layout_of x) j))
  runs_right j n k at lt = ∥∥₁_elim x.ready (search props) (λ ready.
      (λ v. piece_gives p c samples (λ name q. told_same ready j name q v) n (grid_point at.g.grid k))
      ∙ laws.work a p c samples (map (target a p samples) (fetched_of x j)) j n k at
      ∙ laws.runs x i j fits lt)

  -- ---- lists

  needs_earlier : (j : ℕ) → j < count → (m : ℕ) → Contains (needs_of x j) m → m < j
  needs_earlier j lt m there = ∥∥₁_elim (laws.works x samples given) (search props) (λ s.
      s.lists.earlier j m (subst (λ n. j < n) (laws.own x samples).pieces lt) there)

  owned : (j : ℕ) → j < count → (n : ℕ) → Contains (fetched_of x j) n → IsOwnOf (layout_of x) (needs_of x j) n
  owned j lt n there = owner_of (needs_of x j) (own_of (layout_of x)) n (λ none. ∥∥₁_elim (laws.works x samples given) (hlevel props) (λ s.
      let o = s.lists.needed j n (subst (λ m. j < m) (laws.own x samples).pieces lt) there in
      none (o.0, o.1, subst (λ xs. Contains xs n) (sym ((laws.own x samples).own o.0)) o.2)))

  pub gives_values : GivesValues (layout_of x) V a p c (picture_of i)
  gives_values = record {
    extents = fits.extents ∙ sym (∥∥₁_elim x.ready (search props) (λ ready. ready.input.extents));
    all = sym (laws.own x samples).pieces;
    needs = needs_earlier;
    fetched = owned;
    narrow = laws.narrow x;
    gives = runs_right;
  }

-- the pieces of a checked plan, as they are handed to the workers
pub pieces_give : Laws → (x : Checked) (i : Inputs) (m : Layout) (w : List ℤ) (own : ℕ) → IsFor x.algo.now i → m ≡ layout_of x → w ≡ values_of x i → IsMostOwn (layout_of x) own →
    length x.pieces.items ≡ pieces_of (layout_of x) → CanRun m w x (picture_of i) own
pieces_give laws x i m w own fits em ew h count =
    let G : Layout → List ℤ → Type 0 = λ l v. GivesValues l v (algorithm_checked x) (plan_checked x) (certificate_checked x) (picture_of i) in (
      (
        subst (λ (l : Layout). G l w) (sym em) (subst (λ (v : List ℤ). G (layout_of x) v) (sym ew) (gives_values laws x i fits)),
        subst (λ l. IsMostOwn l own) (sym em) h,
      ),
      subst (λ (l : Layout). length x.pieces.items ≡ pieces_of l) (sym em) count,
    )
