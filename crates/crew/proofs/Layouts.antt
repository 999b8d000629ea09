-- The layout of a checked plan is sound, and has the work's own cells.
use Rattle.std.proofs.Common.{◌≡◌, ℕ, ◌<◌, ◌≤◌, ◌^◌, List, [], ◌∷◌, length, Option, Some, None, MatchOption, refl, sym, ap, ◌∙◌, arith, subst}
use Rattle.std.specs.Prelude.{map, Contains, slice_index, true, ℤ}
use Rattle.std.proofs.lemmas.List.{length-map}
use Rattle.std.proofs.Props.{props}
use Rattle.std.proofs.Math.Logic.{∥∥₁_elim}
use Rattle.numeric.specs.declared.ty.Ty.TheVariants.{U8}
use Rattle.meaning.proofs.Places.{raster_is_order}
use Rattle.meaning.specs.Image.Raster.{is_within, raster_point, sample_count, HasRaster}
use Rattle.meaning.specs.Image.View.{AreExtents, IsSampleType, IsShape}
use Rattle.meaning.specs.Algorithm.{Algorithm, Function}
use Rattle.meaning.specs.Conditions.{IsAlgorithm, IsOutput, function_named}
use Rattle.meaning.specs.Functions.{AreSamples}
use Rattle.algo.specs.Parts.{output_frame}
use Rattle.plan.specs.Plan.{Plan}
use Rattle.plan.specs.Certificate.Cells.{cells, pieces}
use Rattle.orders.specs.Work.{Work, IsSound, OwnIsApart, OwnIsInTable}
use Rattle.headline.specs.Numbers.{cell_number}
use Rattle.headline.specs.Work.{own_cells}
use Rattle.checked_plan.specs.declared.checked.Checked.{Checked}
use Rattle.checked_plan.specs.View.{algorithm_checked, plan_checked, certificate_checked}
use Rattle.checked_plan.specs.Output.Cells.{HoldsOutput}
use Rattle.checked_plan.proofs.Plans.{holds_output as output_held}
use Rattle.board.specs.Layout.{IsSound as IsSoundLayout, own_of, pieces_of}
use Rattle.crew.specs.Opening.Layouts.{layout_of}
use Rattle.crew.specs.Opening.Laws.{work_checked, target_checked, LayoutsAreSound, OwnIsOfWork, WorksAreSound}
use Rattle.crew.proofs.Rows.{owner_of, row_at}

-- ---- the work's lists

pub own_work : OwnIsOfWork
own_work x samples = record {
  pieces = length-map (pieces (plan_checked x)) (λ j. map (cell_number (plan_checked x)) (own_cells (plan_checked x) (certificate_checked x) j));
  cells = refl;
  own = row_at (λ j. map (cell_number (plan_checked x)) (own_cells (plan_checked x) (certificate_checked x) j)) (pieces (plan_checked x));
}

-- ---- the picture

pub has_raster : (es : List ℕ) → AreExtents es → HasRaster es
has_raster [] h = absurd h
has_raster (w ∷ []) h = tt
has_raster (w ∷ r ∷ []) h = tt
has_raster (w ∷ r ∷ k ∷ []) h = tt
has_raster (w ∷ r ∷ k ∷ d ∷ es) h = absurd h

-- the point of a place of the raster lies on the extents
pub on_output : (a : Algorithm) (n : ℕ) → IsAlgorithm a → n < sample_count a.output_extents → is_within a.output_extents (raster_point a.output_extents n) ≡ true
on_output a n w lt = raster_is_order.on_extents a.output_extents n (has_raster a.output_extents w.output_extents) lt

sampled : (es : List ℕ) (o : Option Function) → MatchOption o ⊥ (IsOutput es) → IsSampleType (elim o [ Some f ↦ f.ty | None ↦ U8 ])
sampled es None h = absurd h
sampled es (Some f) h = h.sampled

output_shape : (a : Algorithm) → IsAlgorithm a → IsShape (output_frame a)
output_shape a w = record { ty = sampled a.output_extents (function_named a.functions a.output) w.output; extents = w.output_extents }

-- what a checked plan's cells hold of its output
pub holds_output : (x : Checked) (at : List ℤ) → is_within (algorithm_checked x).output_extents at ≡ true → ∥ HoldsOutput (algorithm_checked x) (plan_checked x) at ∥₁
holds_output x at on =
    ∥∥₁_elim x.ready (hlevel props) (λ ready. ∣ output_held (algorithm_checked x) (plan_checked x) (certificate_checked x) ready at on ∣₁)

-- ---- the layout

module _ (works : WorksAreSound) (x : Checked) where
  abbrev a : Algorithm
  a = algorithm_checked x

  abbrev p : Plan
  p = plan_checked x

  abbrev W : Work
  W = work_checked x []

  none_given : AreSamples a []
  none_given k d lt = absurd (omega (arith, lt))

  work : ∥ IsSound W (target_checked x []) ∥₁
  work = works x [] none_given

  own : (j : ℕ) → own_of (layout_of x) j ≡ W.own j
  own = (own_work x []).own

  count : pieces_of (layout_of x) ≡ W.pieces
  count = (own_work x []).pieces

  few_pieces : pieces_of (layout_of x) ≤ 2 ^ 20
  few_pieces = ∥∥₁_elim x.ready (search props) (λ ready.
      let most : length (pieces p) ≤ 2 ^ 20 = ready.few_pieces in
      let all : pieces_of (layout_of x) ≡ length (pieces p) = count in
      omega (arith, most, all))

  few_cells : length (cells p) ≤ 2 ^ 24
  few_cells = ∥∥₁_elim x.ready (search props) (λ ready. ready.few_cells)

  in_table : OwnIsInTable (pieces_of (layout_of x)) (layout_of x).cells (own_of (layout_of x))
  in_table j c lt m = ∥∥₁_elim work (search props) (λ s. s.lists.in_table j c (subst (λ n. j < n) count lt) (subst (λ xs. Contains xs c) (own j) m))

  apart : OwnIsApart (pieces_of (layout_of x)) (own_of (layout_of x))
  apart j k m n lj lk lm ln e = ∥∥₁_elim work (hlevel props) (λ s.
      s.lists.apart j k m n (subst (λ q. j < q) count lj) (subst (λ q. k < q) count lk) (subst (λ xs. m < length xs) (own j) lm) (subst (λ xs. n < length xs) (own k) ln)
      (sym (ap (λ xs. slice_index xs m) (own j)) ∙ e ∙ ap (λ xs. slice_index xs n) (own k)))

  whole : (c : ℕ) → c < (layout_of x).cells → (j : ℕ) × (j < pieces_of (layout_of x)) × Contains (own_of (layout_of x) j) c
  whole c lt = owner_of (pieces_of (layout_of x)) (own_of (layout_of x)) c (λ none. ∥∥₁_elim work (hlevel props) (λ s.
      let o = s.lists.whole c lt in
      none (o.0, subst (λ n. o.0 < n) (sym count) o.1, subst (λ xs. Contains xs c) (sym (own o.0)) o.2)))

  pub layout_sound : IsSoundLayout (layout_of x)
  layout_sound = record {
    few_pieces = few_pieces;
    few_cells = few_cells;
    parted = (in_table, apart);
    whole = whole;
    shape = output_shape a x.algo.now.well_formed;
    shown = λ n lt. ∥∥₁_elim (holds_output x (raster_point a.output_extents n) (on_output a n x.algo.now.well_formed lt)) (search props) (λ h. h.inside);
  }

pub layouts_sound : WorksAreSound → LayoutsAreSound
layouts_sound works x = layout_sound works x
