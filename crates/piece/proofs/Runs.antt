-- The private run of a piece, told by its group and grid point.
use Rattle.std.proofs.Common.{◌≡◌, ℕ, ◌<◌, List, [], length, Option, Some, None, MatchOption, ℤ, sym, ap, refl, subst, ◌∙◌}
use Rattle.std.proofs.Props.{props}
use Rattle.meaning.specs.Algorithm.{Algorithm}
use Rattle.meaning.specs.Value.{Calls}
use Rattle.plan.specs.Certificate.Certificate.{Certificate}
use Rattle.checked_plan.specs.Ready.Ready.{Ready}
use Rattle.checked_plan.specs.declared.checked.Checked.{Checked}
use Rattle.interpreter.specs.Narrow.{PieceIsNarrow}
use Rattle.interpreter.specs.Scratches.{IsScratchFor}
use Rattle.interpreter.specs.declared.scratch.Scratch.{Scratch}
use Rattle.piece.specs.Looked.{cells_of_piece}
use Rattle.piece.specs.Places.Places.{IsPlaceOf}
use Rattle.std.specs.Prelude.{slice_get}
use Rattle.std.proofs.Math.Logic.{∥∥₁_elim}
use Rattle.plan.specs.Plan.{Group, Plan}
use Rattle.plan.specs.Certificate.Cells.{Piece, grid_point, group_pieces, piece, pieces}
use Rattle.headline.specs.Numbers.{PiecesAreNumbered}
use Rattle.headline.specs.Work.{cells_fetched, group_run, looked_value, of_piece, run_on, work_of}
use Rattle.checked_plan.specs.View.{algorithm_checked, certificate_checked, plan_checked}
use Rattle.interpreter.specs.Outcome.{group_gives, piece_gives, point_in, rank_gives}
use Rattle.piece.specs.Laws.{PiecesAreNarrow, RunsAreTheWork}
use Rattle.piece.proofs.Small.{PieceIsNarrow-prop}

pub narrow : PiecesAreNarrow
narrow x j n k at = ∥∥₁_elim x.ready (PieceIsNarrow-prop (certificate_checked x) n at.g (grid_point at.g.grid k)) (λ ready. ready.narrow n at.g k at.at at.inside)

pub runs : PiecesAreNumbered → RunsAreTheWork
runs law a p c samples looked j n k at =
    let here : slice_get (pieces p) j ≡ Some (piece at.g n k) = ap (λ (i : ℕ). slice_get (pieces p) i) at.number ∙ law.stands p n at.g k at.at at.inside in
    let G : Option Group → Option Piece → Option (List ℤ) = λ g x. group_gives p c samples (looked_value a p (of_piece x [] (cells_fetched p)) looked) n (grid_point at.g.grid k) g in
    ap (λ (x : Option Piece). G (slice_get p.groups n) x) here
    ∙ same (slice_get p.groups n)
    ∙ ap (λ (x : Option Piece). of_piece x None (λ y. run_on a p c samples y looked)) (sym here)
  where
    same : (o : Option Group) → group_gives p c samples (looked_value a p (cells_fetched p (piece at.g n k)) looked) n (grid_point at.g.grid k) o
        ≡ group_run a p c samples (looked_value a p (cells_fetched p (piece at.g n k)) looked) (piece at.g n k) o
    same None = refl
    same (Some g) = refl

-- ---- a piece of a checked plan, by its place

-- the plan's input has the extents of the algorithm's
pub same_extents : (a : Algorithm) (p : Plan) (c : Certificate) → ∥ Ready a p c ∥₁ → p.input.extents ≡ a.input_extents
same_extents a p c ready = ∥∥₁_elim ready (search props) (λ r. r.input.extents)

-- the lists of the pieces are as many as the pieces
pub listed : (x : Checked) (samples : List ℕ) (n : ℕ) → n < length (pieces (plan_checked x)) → n < length x.pieces.items
listed x samples n h = ∥∥₁_elim x.lists (search props) (λ lists. subst (λ m. n < m) (sym (lists samples).count) h)

module _ (x : Checked) (p : Plan) (c : Certificate) (ep : p ≡ plan_checked x) (ec : c ≡ certificate_checked x) (j n k : ℕ) (place : IsPlaceOf (plan_checked x).groups j n k) where
  pub narrow_here : PiecesAreNarrow → MatchOption (slice_get p.groups n) ⊥ (λ g. PieceIsNarrow c n g (grid_point g.grid k))
  narrow_here law =
      let P : Plan → Type 0 = λ q. MatchOption (slice_get q.groups n) ⊥ (λ g. PieceIsNarrow c n g (grid_point g.grid k)) in
      let O : Option Group → Type 0 = λ o. MatchOption o ⊥ (λ g. PieceIsNarrow c n g (grid_point g.grid k)) in
      let C : Certificate → Type 0 = λ d. PieceIsNarrow d n place.g (grid_point place.g.grid k) in
      subst P (sym ep) (subst O (sym place.at) (subst C (sym ec) (law x j n k place)))

  pub inside_here : MatchOption (slice_get p.groups n) ⊥ (λ g. k < group_pieces g)
  inside_here =
      let P : Plan → Type 0 = λ q. MatchOption (slice_get q.groups n) ⊥ (λ g. k < group_pieces g) in
      let O : Option Group → Type 0 = λ o. MatchOption o ⊥ (λ g. k < group_pieces g) in
      subst P (sym ep) (subst O (sym place.at) place.inside)

  pub memory_here : (s : Scratch) → MatchOption (slice_get (plan_checked x).groups n) ⊥ (IsScratchFor s (certificate_checked x) n) → MatchOption (slice_get p.groups n) ⊥ (IsScratchFor s c n)
  memory_here s h =
      let P : Plan → Type 0 = λ q. MatchOption (slice_get q.groups n) ⊥ (IsScratchFor s c n) in
      let C : Certificate → Type 0 = λ d. MatchOption (slice_get (plan_checked x).groups n) ⊥ (IsScratchFor s d n) in
      subst P (sym ep) (subst C (sym ec) h)

-- what a piece gives over the values that it has looked at, told by its place, is its private run
pub run_here : RunsAreTheWork → (x : Checked) (samples : List ℕ) (looked : List ℤ) (calls : Calls) (j n k : ℕ) → IsPlaceOf (plan_checked x).groups j n k
    → calls ≡ looked_value (algorithm_checked x) (plan_checked x) (cells_of_piece (plan_checked x) j) looked
    → rank_gives (plan_checked x) (certificate_checked x) samples calls n k ≡ (work_of (algorithm_checked x) (plan_checked x) (certificate_checked x) samples).private_run j looked
run_here law x samples looked calls j n k place is =
    let a = algorithm_checked x in
    let p = plan_checked x in
    let c = certificate_checked x in
    ap (λ (o : Option Group). piece_gives p c samples calls n (point_in o k)) place.at
    ∙ ap (λ (f : Calls). piece_gives p c samples f n (grid_point place.g.grid k)) is
    ∙ law a p c samples looked j n k place
