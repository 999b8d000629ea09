-- The private run of one piece, in the scratch of a desk.
use Rattle.std.proofs.Common.{◌≡◌, ℕ, ◌<◌, ◌≤◌, List, length, map, Option, Some, None, Err, MatchOption, ℤ, sym, ap, ◌∙◌, subst, arith}
use Rattle.std.specs.Prelude.{slice_get}
use Rattle.std.proofs.Props.{props}
use Rattle.std.proofs.Math.Logic.{∥∥₁_elim}
use Rattle.std.proofs.lemmas.List.{length-map}
use Rattle.algo.specs.declared.inputs.Inputs.{Inputs}
use Rattle.algo.specs.View.{IsFor, picture_of, samples_of}
use Rattle.checked_plan.specs.declared.checked.Checked.{Checked}
use Rattle.checked_plan.specs.View.{algorithm_checked, plan_checked, certificate_checked}
use Rattle.headline.proofs.Samples.{inputs_are_samples}
use Rattle.headline.specs.Work.{looked_value}
use Rattle.interpreter.specs.declared.evaluation.stop.Stop.{Stop}
use Rattle.interpreter.specs.declared.evaluation.stop.Stop.TheVariants.{Fault, Full}
use Rattle.interpreter.specs.Outcome.{rank_gives}
use Rattle.interpreter.specs.Scratches.{room_of, GivesIn, IsAgain, IsScratchFor}
use Rattle.interpreter.specs.declared.scratch.Scratch.{Scratch}
use Rattle.meaning.specs.Algorithm.{Algorithm}
use Rattle.meaning.specs.Value.{Calls}
use Rattle.orders.specs.Work.{Work, IsSound}
use Rattle.piece.proofs.Runs.{run_here, same_extents}
use Rattle.piece.specs.Laws.{RunsAreTheWork}
use Rattle.piece.specs.Looked.{cells_of_piece}
use Rattle.piece.specs.Places.Places.{IsPlaceOf}
use Rattle.piece.specs.declared.cells.LookedCells.{LookedCells}
use Rattle.plan.specs.Plan.{Group, Plan}
use Rattle.plan.specs.Certificate.Certificate.{Certificate}
use Rattle.steps.specs.Desks.{HasMemory}
use Rattle.steps.specs.Seats.{IsMost}
use Rattle.steps.specs.Work.{targets_on, work_on}
use Rattle.interpreter.proofs.Sufficing.{again as suffices_again}

-- a run that gives no more than there is room for does not fail
pub never : (room : ℕ) (e : Stop) (given : List ℤ) (whole : Option (List ℤ)) (vs : List ℤ) → GivesIn {A = Unit {0}} room (Err e) given whole → whole ≡ Some vs → length vs ≤ room → ⊥
never room Fault given None vs h is few = cc is
never room Fault given (Some zs) vs h is few = cc h
never room Full given None vs h is few = cc is
never room Full given (Some zs) vs h is few = let same : zs ≡ vs = cc in let long = ap length same in omega (arith, h, few, long)

-- the work of a checked plan is sound
pub work_sound : (x : Checked) (i : Inputs) → IsFor x.algo.now i → ∥ IsSound (work_on x i) (targets_on x i) ∥₁
work_sound x i fits =
    let given = inputs_are_samples (algorithm_checked x) (picture_of i) x.algo.now.well_formed fits in
    ∥∥₁_elim x.ready (hlevel props) (λ ready. ∣ ready.sound (samples_of i) given ∣₁)

-- what is told of a function at a point by what a piece was told
abbrev pub told : LookedCells → Calls
told cells = looked_value (algorithm_checked cells.cells.now.checked.now) (plan_checked cells.cells.now.checked.now) (cells_of_piece (plan_checked cells.cells.now.checked.now) cells.piece) cells.looked.items

module _ (x : Checked) (i : Inputs) (fits : IsFor x.algo.now i) (s : Scratch) (held : HasMemory (work_on x i) (plan_checked x) (certificate_checked x) s)
    (j n k : ℕ) (place : IsPlaceOf (plan_checked x).groups j n k) where
  abbrev work : Work
  work = work_on x i

  abbrev p : Plan
  p = plan_checked x

  abbrev c : Certificate
  c = certificate_checked x

  pub extents : (picture_of i).extents ≡ p.input.extents
  extents = fits.extents ∙ sym (same_extents (algorithm_checked x) p c x.ready)

  pub scratch : MatchOption (slice_get p.groups n) ⊥ (IsScratchFor s c n)
  scratch = subst (λ (o : Option Group). MatchOption o ⊥ (IsScratchFor s c n)) (sym place.at) (held.groups n place.g place.at)

  pub again : (new : Scratch) → IsAgain s new → HasMemory work p c new
  again new e = record { groups = suffices_again c p.groups s new held.groups e; given = subst (IsMost work) (sym e.given) held.given }

  pub room : j < work.pieces → length (map (targets_on x i) (work.own j)) ≤ room_of s
  room lt = let long = length-map (work.own j) (targets_on x i) in let most = (held.given j lt).1 in omega (arith, long, most)

  module _ (law : RunsAreTheWork) (cells : LookedCells) (looked : List ℤ) (plan : cells.cells.now.checked.now ≡ x) (of : cells.piece ≡ j) (values : cells.looked.items ≡ looked) where
    told_here : told cells ≡ looked_value (algorithm_checked x) p (cells_of_piece p j) looked
    told_here = λ r. looked_value (algorithm_checked (plan r)) (plan_checked (plan r)) (cells_of_piece (plan_checked (plan r)) (of r)) (values r)

    -- the run gives what the work says
    pub gives : rank_gives p c (samples_of i) (told cells) n k ≡ work.private_run j looked
    gives = run_here law x (samples_of i) looked (told cells) j n k place told_here

    -- and that is the right values
    pub right : j < work.pieces → looked ≡ map (targets_on x i) (work.fetched j) → rank_gives p c (samples_of i) (told cells) n k ≡ Some (map (targets_on x i) (work.own j))
    right lt are = gives ∙ ap (work.private_run j) are ∙ ∥∥₁_elim (work_sound x i fits) (search props) (λ sound. sound.runs j lt)
