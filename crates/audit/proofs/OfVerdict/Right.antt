-- What is accepted is right.
use Rattle.std.proofs.Common.{◌≡◌, ℕ, ◌+◌, ◌<◌, List, [], ◌∷◌, Option, Some, sym, ap, ◌∙◌, subst, true}
use Rattle.std.specs.Prelude.{ℤ, slice_get}
use Rattle.std.specs.List.{AllByRecursion}
use Rattle.meaning.specs.Image.Raster.{is_within, place, raster_point, HasRaster}
use Rattle.meaning.specs.Image.View.{AreExtents}
use Rattle.meaning.specs.Image.Laws.{RasterIsOrder}
use Rattle.tree.specs.Term.{Term}
use Rattle.meaning.specs.Algorithm.{Algorithm}
use Rattle.meaning.specs.Conditions.{IsAlgorithm}
use Rattle.meaning.specs.Functions.{AreSamples}
use Rattle.meaning.specs.Value.{output_value}
use Rattle.plan.specs.Lines.{body_line}
use Rattle.plan.specs.Plan.{Group, Plan}
use Rattle.plan.specs.Symbols.{Symbols}
use Rattle.plan.specs.Certificate.Certificate.{Certificate}
use Rattle.std.proofs.lemmas.Option.{slice_get_within}
use Rattle.plan.specs.Certificate.Cells.{cells, grid_symbols, grid_point, group_pieces, first_piece, piece}
use Rattle.plan.specs.Semantics.Actions.{actions}
use Rattle.plan.specs.Semantics.Setting.{group_name, setting_of}
use Rattle.soundness.specs.Given.{outline_of, given_of}
use Rattle.soundness.specs.Obligations.{Rules, Suited}
use Rattle.soundness.specs.Origins.{Given}
use Rattle.soundness.specs.Shown.{ShownIsSound}
use Rattle.soundness.specs.Stored.{KeepsValues}
use Rattle.soundness.specs.Nests.Laws.{DomainsAreCounted, domains_of}
use Rattle.tails.specs.Windows.Nests.{SlidNestsAreRight, slid_nests}
use Rattle.meaning.specs.Inlining.Laws.{PutInWherePossible, UpdatesKeepTheirSides}
use Rattle.meaning.specs.Inlining.PutIn.{put_in_where_possible}
use Rattle.headline.specs.Fetched.{fetched_cells}
use Rattle.headline.specs.Numbers.{cell_number, is_cell, PiecesAreNumbered}
use Rattle.headline.specs.Sound.{IsRightPiece, IsRightPlan}
use Rattle.headline.specs.Theorem.{PiecesRunRight, PlansAreRight, OutputIsThere, output_cell}
use Rattle.headline.specs.Work.{group_fetched}
use Rattle.headline.specs.Headline.{HasCell, Headline}
use Rattle.headline.proofs.Named.{named_same}
use Rattle.soundness.specs.Binders.View.{grid_binders}
use Rattle.validation.specs.Stored.Definitions.{stored_in}
use Rattle.audit.specs.Verdict.Shown.Wide.{HasOutput, HasLines, Accepts, AreSuited, AcceptedBodiesAreSound, AcceptedIsRight, AcceptedIsSound}
use Rattle.audit.proofs.OfVerdict.ShownFree.{free_actions, definitions_same}
use Rattle.audit.proofs.OfVerdict.Grid.{grid_respected}

-- what lower crates have proved
pub record Laws : Type 0 where
  pub plans : PlansAreRight
  pub runs : PiecesRunRight
  pub output : OutputIsThere
  pub numbers : PiecesAreNumbered
  pub sound : ShownIsSound
  pub nests : SlidNestsAreRight
  pub counted : DomainsAreCounted
  pub placed : PutInWherePossible
  pub sides : UpdatesKeepTheirSides
  pub raster : RasterIsOrder

has_raster : (es : List ℕ) → AreExtents es → HasRaster es
has_raster [] h = absurd h
has_raster (x ∷ []) h = tt
has_raster (x ∷ y ∷ []) h = tt
has_raster (x ∷ y ∷ z ∷ []) h = tt
has_raster (x ∷ y ∷ z ∷ u ∷ es) h = absurd h

module _ (laws : Laws) (rules : ℕ → Rules) (a : Algorithm) (p : Plan) (c : Certificate) (w : IsAlgorithm a) (suited : AreSuited rules a p c) (accepted : Accepts rules a p c) where
  abbrev placed : Term → Term
  placed = put_in_where_possible a (stored_in a p)

  module _ (samples : List ℕ) (in_type : AreSamples a samples) where
    keeps : KeepsValues a samples placed
    keeps = let k = laws.placed.keeps a (stored_in a p) samples w in record {
      value = k.value;
      of_type = λ name f vs named. k.of_type name f vs (sym (named_same a.functions name) ∙ named);
      right_value = λ name f i u values vs named e. k.right_value name f i u values vs (sym (named_same a.functions name) ∙ named) e;
      right_type = λ name f i u values vs named e. k.right_type name f i u values vs (sym (named_same a.functions name) ∙ named) e;
      left_value = λ name f i u values vs named e. k.left_value name f i u values vs (sym (named_same a.functions name) ∙ named) e;
    }

    module _ (n : ℕ) (g : Group) (stands : slice_get p.groups n ≡ Some g) where
      abbrev given : Given
      given = given_of a samples (outline_of p c n g)

      lines : HasLines a p c n g
      lines = accepted.lines n g stands

      fits : Suited given (rules n)
      fits = suited samples n g in_type stands

      module _ (k : ℕ) (less : k < group_pieces g) where
        abbrev s : Symbols
        s = grid_symbols (grid_point g.grid k)

        fetched : AllByRecursion (λ x. is_cell p x ≡ true) (fetched_cells g.body s)
        fetched = subst (λ (o : Option Group). AllByRecursion (λ x. is_cell p x ≡ true) (group_fetched o (piece g n k))) stands
            (accepted.cells (first_piece p.groups n + k) (piece g n k) (laws.numbers.stands p n g k stands less))

        piece_right : IsRightPiece a p c samples placed n g (grid_point g.grid k)
        piece_right = record {
          sound = laws.sound given (rules n) (slid_nests (outline_of p c n g) (rules n) (domains_of a)) g.body (body_line p n) (grid_binders g.grid) s fits
              (laws.nests given (rules n) (domains_of a) fits (laws.counted a samples (outline_of p c n g) w)) lines.covered (accepted.shown n g stands) (grid_respected g.grid k less);
          stores = definitions_same a w (stored_in a p) laws.placed laws.sides given (actions (setting_of p c n g) g.body s)
              (free_actions a (stored_in a p) (setting_of p c n g) g.body s lines.free) (lines.definitions samples s);
          fetches = fetched;
        }

    pub plan_right : IsRightPlan a p c samples placed
    plan_right = record {
      input = record { name = accepted.head.input.name; ty = accepted.head.input.ty; extents = accepted.head.input.extents };
      values = keeps;
      groups = λ n g e. (accepted.lines n g e).published;
      pieces = λ n g k e less. piece_right n g e k less;
    }

    has_cell : (at : List ℤ) → is_within a.output_extents at ≡ true → HasCell a p samples at
    has_cell at on =
        let o : HasOutput a p = accepted.output in
        let raster = has_raster a.output_extents w.output_extents in
        let n = place a.output_extents at in
        let less = laws.raster.in_raster a.output_extents at raster on in
        let back = laws.raster.point_of_place a.output_extents at raster on in
        let there = laws.output a p samples o.number o.group n (λ m g e. (accepted.lines m g e).published.ends) o.stands o.function less
        (o.inside (raster_point a.output_extents n) (laws.raster.on_extents a.output_extents n raster less)) in
        record {
          cell = output_cell a o.number n;
          of_output = ap group_name o.stands ∙ o.function;
          point = back;
          stands = there.1;
          value = there.2 ∙ ap (output_value a samples) back;
        }

  pub headline : Headline a p c
  headline = record {
    every_order = λ samples in_type. (laws.plans a p c samples placed w (plan_right samples in_type) accepted.lists).0;
    one_worker = λ samples in_type. (laws.plans a p c samples placed w (plan_right samples in_type) accepted.lists).1;
    output = λ samples in_type at on. has_cell samples in_type at on;
    finished = λ samples in_type order finished at on.
        let has = has_cell samples in_type at on in
        let right = ((laws.plans a p c samples placed w (plan_right samples in_type) accepted.lists).0 order).1 in
        record {
          cell = has.cell;
          of_output = has.of_output;
          point = has.point;
          stands = has.stands;
          holds = right.all_set finished (cell_number p has.cell) (slice_get_within (cells p) (cell_number p has.cell) has.cell has.stands) ∙ ap Some has.value;
        };
    fetched = accepted.cells;
  }

pub accepted_right : Laws → AcceptedIsRight
accepted_right laws rules a p c w suited accepted = headline laws rules a p c w suited accepted

pub accepted_sound : Laws → AcceptedIsSound
accepted_sound laws rules a p c w suited accepted samples in_type = record {
  lists = accepted.lists;
  runs = laws.runs a p c samples (put_in_where_possible a (stored_in a p)) w (plan_right laws rules a p c w suited accepted samples in_type);
}

pub accepted_bodies : Laws → AcceptedBodiesAreSound
accepted_bodies laws rules a p c w suited accepted samples in_type n g k stands less = ((plan_right laws rules a p c w suited accepted samples in_type).pieces n g k stands less).sound
