-- The private run of one piece, in the scratch of a worker.
use Rattle.std.proofs.Common.{◌≡◌, ℕ, ◌<◌, ◌≤◌, List, length, Option, Some, None, Err, MatchOption, ℤ, map, sym, ap, ◌∙◌, subst, arith}
use Rattle.std.proofs.lemmas.List.{length-map}
use Rattle.std.specs.Prelude.{slice_get}
use Rattle.meaning.specs.Image.View.{Picture}
use Rattle.meaning.specs.Algorithm.{Algorithm}
use Rattle.meaning.specs.Value.{Calls}
use Rattle.plan.specs.Plan.{Group, Plan}
use Rattle.plan.specs.Certificate.Certificate.{Certificate}
use Rattle.plan.specs.Certificate.Cells.{grid_point}
use Rattle.checked_plan.specs.declared.checked.Checked.{Checked}
use Rattle.checked_plan.specs.View.{algorithm_checked, plan_checked, certificate_checked}
use Rattle.board.specs.Layout.{Layout, own_of, pieces_of, value_at}
use Rattle.interpreter.specs.declared.evaluation.stop.Stop.{Stop}
use Rattle.interpreter.specs.declared.evaluation.stop.Stop.TheVariants.{Fault, Full}
use Rattle.interpreter.specs.Outcome.{piece_gives, point_in, rank_gives}
use Rattle.interpreter.specs.Scratches.{room_of, GivesIn, IsAgain, IsScratchFor}
use Rattle.interpreter.specs.declared.scratch.Scratch.{Scratch}
use Rattle.piece.specs.Looked.{numbers_of_piece}
use Rattle.piece.specs.declared.cells.LookedCells.{LookedCells}
use Rattle.piece.specs.Places.Places.{IsPlaceOf}
use Rattle.crew.specs.Private.{AreReady, CanRun, HasLooked, HasMemory, IsMostOwn, told, told_by, words_at}
use Rattle.interpreter.proofs.Sufficing.{again as suffices_again}

-- a run that gives no more than there is room for does not fail
pub never : (room : ℕ) (e : Stop) (given : List ℤ) (whole : Option (List ℤ)) (vs : List ℤ) → GivesIn {A = Unit {0}} room (Err e) given whole → whole ≡ Some vs → length vs ≤ room → ⊥
never room Fault given None vs h is few = cc is
never room Fault given (Some zs) vs h is few = cc h
never room Full given None vs h is few = cc is
never room Full given (Some zs) vs h is few = let same : zs ≡ vs = cc in let long = ap length same in omega (arith, h, few, long)

module _ (l : Layout) (v : List ℤ) (q : Checked) (i : Picture) (most : ℕ) (can : CanRun l v q i most) (x : Scratch) (held : HasMemory l (plan_checked q) (certificate_checked q) x)
    (j n k : ℕ) (place : IsPlaceOf (plan_checked q).groups j n k) where
  abbrev a : Algorithm
  a = algorithm_checked q

  abbrev p : Plan
  p = plan_checked q

  abbrev c : Certificate
  c = certificate_checked q

  ready : AreReady l v a p c i most
  ready = can.0

  pub extents : i.extents ≡ p.input.extents
  extents = ready.0.extents

  pub scratch : MatchOption (slice_get p.groups n) ⊥ (IsScratchFor x c n)
  scratch = subst (λ (o : Option Group). MatchOption o ⊥ (IsScratchFor x c n)) (sym place.at) (held.groups n place.g place.at)

  pub again : (new : Scratch) → IsAgain x new → HasMemory l p c new
  again new e = record { groups = suffices_again c p.groups x new held.groups e; given = subst (IsMostOwn l) (sym e.given) held.given }

  module _ (cells : LookedCells) (looked : HasLooked v q j cells) (lt : j < pieces_of l) where
    told_here : told cells ≡ told_by a p j (words_at v (numbers_of_piece p j))
    told_here = λ r. told_by (algorithm_checked (looked.plan r)) (plan_checked (looked.plan r)) (looked.piece r) (looked.words r)

    pub gives : rank_gives p c i.samples (told cells) n k ≡ Some (map (value_at v) (own_of l j))
    gives =
        ap (λ (o : Option Group). piece_gives p c i.samples (told cells) n (point_in o k)) place.at
        ∙ ap (λ (f : Calls). piece_gives p c i.samples f n (grid_point place.g.grid k)) told_here
        ∙ ready.0.gives j n k place lt

    pub room : length (map (value_at v) (own_of l j)) ≤ room_of x
    room = let long = length-map (own_of l j) (value_at v) in let most_own = held.given j lt in omega (arith, long, most_own)
