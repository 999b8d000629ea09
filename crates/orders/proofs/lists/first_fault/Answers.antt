use Rattle.std.proofs.Common.{◌≡◌, ◌<◌, ℕ, List, Option, Some, None, subst, get_or}
use Rattle.std.specs.Prelude.{All, IsSome, slice_get}
use Rattle.orders.specs.declared.lists.ListFault.TheVariants.{Own, Gap, Needs}
use Rattle.orders.proofs.Verdict.{sound_verdict, gap_verdict, needs_verdict, none_verdict}
use Rattle.orders.proofs.lists.first_fault.Goals as goal

pub returns-in-Err-clause-sound : goal.returns-in-Err-clause-sound
returns-in-Err-clause-sound c = sound_verdict c.args.cells c.args.pieces.now (Some (Own c.in-Err.piece)) (rw c.in-Err.is at c.in_ok-owners.ensures.fault)

pub returns-in-Some-clause-first : goal.returns-in-Some-clause-first
returns-in-Some-clause-first c =
    let claimed = rw c.in-Ok.is at c.in_ok-owners.ensures.claimed in
    let cells = rw c.in-Ok.is at c.in_ok-owners.ensures.cells in
    let P : List (Option ℕ) → Type 0 = λ xs. (slice_get xs c.in-Some.cell ≡ Some None) × ((k : ℕ) → k < c.in-Some.cell → IsSome (get_or xs k None)) in
    let gap : P c.in-Ok.owners.items = subst P c.deref.ensures.value c.in-Some.ensures in
    gap_verdict c.args.cells c.args.pieces.now c.in-Ok.owners.items c.in-Some.cell claimed cells gap.0 gap.1

pub returns-in-Some-clause-sound : goal.returns-in-Some-clause-sound
returns-in-Some-clause-sound c = sound_verdict c.args.cells c.args.pieces.now (Some (Gap c.in-Some.cell)) (returns-in-Some-clause-first c)

pub returns-in-Some-2-clause-first : goal.returns-in-Some-2-clause-first
returns-in-Some-2-clause-first c =
    let claimed = rw c.in-Ok.is at c.in_ok-owners.ensures.claimed in
    let cells = rw c.in-Ok.is at c.in_ok-owners.ensures.cells in
    let P : List (Option ℕ) → Type 0 = λ xs. All (λ o. IsSome o) xs in
    let all : P c.in-Ok.owners.items = subst P c.deref.ensures.value c.in_default.ensures in
    needs_verdict c.args.cells c.args.pieces.now c.in-Ok.owners.items c.in-Some-2.piece claimed cells all (rw c.in-Some-2.is at c.in_ok-piece.ensures)

pub returns-in-Some-2-clause-sound : goal.returns-in-Some-2-clause-sound
returns-in-Some-2-clause-sound c = sound_verdict c.args.cells c.args.pieces.now (Some (Needs c.in-Some-2.piece)) (returns-in-Some-2-clause-first c)

pub returns-clause-first : goal.returns-clause-first
returns-clause-first c =
    let claimed = rw c.in-Ok.is at c.in_ok-owners.ensures.claimed in
    let cells = rw c.in-Ok.is at c.in_ok-owners.ensures.cells in
    let P : List (Option ℕ) → Type 0 = λ xs. All (λ o. IsSome o) xs in
    let all : P c.in-Ok.owners.items = subst P c.deref.ensures.value c.in_default.ensures in
    none_verdict c.args.cells c.args.pieces.now c.in-Ok.owners.items claimed cells all (rw c.in-None.is at c.in_ok-piece.ensures)

pub returns-clause-sound : goal.returns-clause-sound
returns-clause-sound c = sound_verdict c.args.cells c.args.pieces.now None (returns-clause-first c)
