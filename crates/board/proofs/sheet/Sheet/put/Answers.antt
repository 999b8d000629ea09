use Rattle.std.proofs.Common.{◌≡◌, ◌+◌, ◌<◌, ◌≤◌, ◌∙◌, ℕ, List, [], length, ap, sym, subst, arith}
use Rattle.std.specs.Prelude.{Contains, slice_index, slice_index_or}
use Rattle.std.proofs.lemmas.List.{take_at}
use Rattle.std.proofs.lemmas.List.Elements.{Contains-get_or}
use Rattle.board.specs.Kept.{all_bits, in_planes, planes_of, AreSamples}
use Rattle.board.specs.Layout.{Layout, own_of}
use Rattle.board.specs.Sheets.{HasBits, IsPut}
use Rattle.board.specs.declared.source.Planes.{Planes}
use Rattle.board.proofs.ByCell.{all_kept, all_small}
use Rattle.board.proofs.Sheets.{all_have}
use Rattle.board.proofs.sheet.Sheet.put.Goals as goal

pub put_bits-requires-clause-inside : goal.put_bits-requires-clause-inside
put_bits-requires-clause-inside g c k lt =
    let plan : Layout = g.J.Run.layout in
    let own : c.get-own.result.now ≡ own_of plan c.args.piece = c.get-own.ensures ∙ ap (λ (l : List (List ℕ)). slice_index_or l c.args.piece []) c.self.invariant.0 in
    let cell : ℕ = slice_index c.get-own.result.now k in
    let in_it : Contains (own_of plan c.args.piece) cell = subst (λ (xs : List ℕ). Contains xs cell) own (Contains-get_or c.get-own.result.now k 0 lt) in
    let below : cell < plan.cells = c.self.invariant.1.parted.0 c.args.piece cell c.requires.piece in_it in
    let count = all_kept plan c.self.inside.kept (length c.self.inside.bits.items) c.self.invariant.2 in
    let same = ap length c.as_mut_slice-bits.ensures.value in
    subst (λ (x : Planes). slice_index c.get-own.result.now k < length c.as_mut_slice-bits.result.now + in_planes x) (sym c.planes-planes.ensures) (omega (arith, below, count, same))

pub put_bits-requires-clause-fits : goal.put_bits-requires-clause-fits
put_bits-requires-clause-fits g c =
    let long = c.self.invariant.3 in
    let same = ap length c.as_mut_slice.ensures.value in
    subst (λ (x : Planes). in_planes x ≤ length c.as_mut_slice.result.now) (sym c.planes-planes.ensures) (omega (arith, long, same))

pub put_bits-requires-clause-samples : goal.put_bits-requires-clause-samples
put_bits-requires-clause-samples g c =
    let kept = c.self.inside.kept in
    let small = all_small g.J.Run.layout g.J.Run.values kept (length c.self.inside.bits.items) c.self.invariant.2 c.self.invariant.5 in
    let same : length c.self.inside.bits.items ≡ length c.as_mut_slice-bits.result.now = sym (ap length c.as_mut_slice-bits.ensures.value) in
    subst (λ (x : Planes). AreSamples g.J.Run.values (length c.as_mut_slice-bits.result.now) (length c.as_mut_slice-bits.result.now + in_planes x)) (sym c.planes-planes.ensures)
    (subst (λ (n : ℕ). AreSamples g.J.Run.values n (n + in_planes (planes_of kept))) same small)

pub returns-clause-put : goal.returns-clause-put
returns-clause-put g c =
    let plan : Layout = g.J.Run.layout in
    let own : c.get-own.result.now ≡ own_of plan c.args.piece = c.get-own.ensures ∙ ap (λ (l : List (List ℕ)). slice_index_or l c.args.piece []) c.self.invariant.0 in
    let bits : List ℕ = c.put_bits.new.bits_now in
    let samples : List ℕ = c.put_bits.new.samples in
    let bits_stay = take_at bits _ _ (c.put_bits.auto.bits_now ∙ c.as_mut_slice-bits.ensures.len) in
    let samples_stay = take_at samples _ _ (c.put_bits.auto.samples ∙ c.as_mut_slice.ensures.len) in
    let all : List ℕ = all_bits c.planes-planes.result bits samples in
    subst (λ (bs : List ℕ). IsPut plan g.J.Run.values bs c.args.piece) (λ i. all_bits (c.planes-planes.ensures i) (sym bits_stay i) (sym samples_stay i))
    (all_have plan g.J.Run.values all c.args.piece (subst (λ (xs : List ℕ). (k : ℕ) → k < length xs → HasBits g.J.Run.values all (slice_index xs k)) own c.put_bits.ensures.put))

pub returns-clause-more : goal.returns-clause-more
returns-clause-more g c j had n in_it =
    let V = g.J.Run.values in
    let bits : List ℕ = c.put_bits.new.bits_now in
    let samples : List ℕ = c.put_bits.new.samples in
    let bits_stay = take_at bits _ _ (c.put_bits.auto.bits_now ∙ c.as_mut_slice-bits.ensures.len) in
    let samples_stay = take_at samples _ _ (c.put_bits.auto.samples ∙ c.as_mut_slice.ensures.len) in
    let before : all_bits c.planes-planes.result c.as_mut_slice-bits.result.now c.as_mut_slice.result.now ≡ c.args.self.now =
    (λ i. all_bits (c.planes-planes.ensures i) (c.as_mut_slice-bits.ensures.value i) (c.as_mut_slice.ensures.value i)) ∙ c.self.view_is in
    subst (λ (bs : List ℕ). HasBits V bs n) (λ i. all_bits (c.planes-planes.ensures i) (sym bits_stay i) (sym samples_stay i))
    (c.put_bits.ensures.more n (subst (λ (bs : List ℕ). HasBits V bs n) (sym before) (had n in_it)))
