use Rattle.std.proofs.Common.{◌≡◌, ◌∷◌, ℕ, ℤ, List, drop, Some, true, pos, map, length, subst, sym, ap, ◌∙◌, arith, rules, w64, SFits, to_z, of_z}
use Rattle.std.specs.Prelude.{◌+ℤ◌, ◌≤◌, ◌≤ℤ◌, slice_get}
use Rattle.std.proofs.lemmas.Int.{ints, to_z-of_z}
use Rattle.tree.specs.declared.value.Value.{Value}
use Rattle.plan.specs.Certificate.Cells.{is_in_region}
use Rattle.plan.specs.Certificate.Certificate.{claim_of}
use Rattle.plan.specs.declared.certificate.cert.Claim.{Claim}
use Rattle.plan.specs.Semantics.Memory.{read}
use Rattle.plan.specs.Semantics.Setting.{buffer_in}
use Rattle.interpreter.specs.Bindings.{symbols_of}
use Rattle.interpreter.specs.Buffers.Blocks.{memory_of}
use Rattle.interpreter.specs.Buffers.Marks.{places_held}
use Rattle.interpreter.specs.Evaluation.Lending.{lent}
use Rattle.interpreter.specs.Pieces.{around}
use Rattle.interpreter.specs.RowVisits.{row_actions}
use Rattle.interpreter.specs.Steps.{steps}
use Rattle.interpreter.specs.declared.visits.Visit.TheVariants.{Publish}
use Rattle.interpreter.proofs.HeldPlaces.{held_length}
use Rattle.interpreter.proofs.RowVisits.{given_row}
use Rattle.interpreter.proofs.row_visits.give_row.Goals as goal

pub returns-clause-run : goal.returns-clause-run
returns-clause-run c = λ cell.
    let x = c.args.piece.now in
    let old = c.args.state.now in
    let low = c.args.numbers.low in
    let high = c.args.numbers.high in
    let others : List ℤ = drop 1 old.point.items in
    let s = symbols_of x.constants.now in
    let places = places_held c.in-Some-places_of.held in
    let buffer : ℕ = (around x cell).claim_buffer c.args.claim in
    let taken : ℕ = c.push_held-taken.result in
    let same = held_length c.in-Some-places_of.held.marks.now (lent c.in-Some-places_of.held.numbers) c.in-Some-places_of.held.wides.now in
    let long = same ∙ c.in-Some-places_of.ensures.count in
    let taken_few : c.push_held-taken.result ≤ length places = subst (λ (n : ℕ). c.push_held-taken.result ≤ n) (sym same) c.push_held-taken.ensures.count in
    let counted = c.in-Some.ensures.0 in
    let behind : c.others-others.result.now ≡ others = c.others-others.ensures ∙ ap (drop 1) c.as_slice.ensures in
    let inside : (z : ℤ) → low ≤ℤ z → z ≤ℤ high → is_in_region s x.group.now.region (z ∷ others) ≡ true =
    λ z from to. (λ i. is_in_region s (sym c.as_slice-region.ensures i) (z ∷ sym behind i)) ∙ c.if-not-is_row_in_region.ensures z from to in
    let named : c.claim_buffer-buffer.result ≡ buffer =
    c.claim_buffer-buffer.ensures ∙ ap (λ (cs : List Claim). buffer_in (slice_get (map claim_of cs) c.args.claim)) c.deref.ensures.value in
    let fits : SFits w64 low = search rules in
    let first : to_z w64 (of_z w64 low) ≡ low = to_z-of_z w64 low fits in
    let held : (k : ℕ) (v : Value) → slice_get places k ≡ Some (Some v) → read (memory_of old.memory) buffer ((low +ℤ pos k) ∷ others) ≡ Some v =
    λ k v there. (λ i. read (memory_of old.memory) (sym named i) ((sym first i +ℤ pos k) ∷ sym behind i)) ∙ c.in-Some-places_of.ensures.held k v there in
    given_row x cell c.args.claim low high others (memory_of old.memory) places old.given.items inside held (omega (arith, ints, long, counted)) taken c.push_held-taken.new.given.items
    taken_few c.push_held-taken.ensures.given
    ∙ (λ i. steps (around x cell) (row_actions x (Publish c.args.claim) others (sym c.behind.ensures.low i) (sym c.behind.ensures.high i)) (record {
      memory = memory_of old.memory;
      given =
          c.push_held-taken.new.given.items;
    }))
