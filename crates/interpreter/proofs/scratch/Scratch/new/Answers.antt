use Rattle.std.proofs.Common.{◌≤◌, ◌+◌, ◌++◌, ◌∷◌, [], List, length, map, sym, subst, arith}
use Rattle.std.specs.Global.{Vec}
use Rattle.std.proofs.lemmas.List.{length-map}
use Rattle.std.proofs.lemmas.Option.{slice_get_within}
use Rattle.plan.specs.View.{group_of}
use Rattle.plan.specs.Certificate.Certificate.{certificate_of}
use Rattle.plan.specs.Certificate.Cells.{grid_symbols}
use Rattle.interpreter.specs.Bindings.{bind_all}
use Rattle.interpreter.specs.declared.line_codes.LineCode.{LineCode}
use Rattle.interpreter.specs.declared.sizes.Size.{Size}
use Rattle.interpreter.proofs.Sufficing.{group_at, none_noted, one_noted, suffices, HoldsFirst}
use Rattle.interpreter.proofs.scratch.Scratch.new.Goals as goal

pub loop-number-init : goal.loop-number-init
loop-number-init c = none_noted (certificate_of c.args.cert.now) (map group_of c.args.groups.now) _ _ _ c.new-sizes.ensures.items c.new-codes.ensures.items

pub loop-number-preserved : goal.loop-number-preserved
loop-number-preserved c =
    let gs = c.args.groups.now in
    let i = c.loop-number.number in
    let at = group_at gs i c.index-groups-number.result (omega (arith, c.loop-number-test.true)) c.index-groups-number.is in
    let le = c.larger-counts.ensures.left in
    let ge = c.larger-counts.ensures.right in
    let counted : length (group_of c.index-groups-number.result).grid ≤ c.larger-counts.result = omega (arith, ge) in
    let K : List (Vec Size) → List (Vec LineCode) → Type 0 = λ xs ys. HoldsFirst (certificate_of c.args.cert.now) (map group_of gs) c.note_group.new.needs c.larger-counts.result xs ys (i + 1) in
    subst (λ (xs : List (Vec Size)). K xs c.push-in-loop-number.new.self.items) (sym c.in_ok-push.ensures.items)
    (subst (λ (ys : List (Vec LineCode)). K (c.loop-number.sizes.items ++ c.in_ok-sizes_of.field-0 ∷ []) ys) (sym (c.in_ok-push-2).ensures.items)
    (one_noted (certificate_of c.args.cert.now) (map group_of gs) c.loop-number.needs c.note_group.new.needs c.loop-number.counts c.larger-counts.result c.loop-number.sizes.items
    c.in_ok-sizes_of.field-0 c.loop-number.codes.items c.in_ok-line_codes.field-0 i (group_of c.index-groups-number.result) at
    c.in_ok-note_group.ensures le counted c.in_ok-sizes_of.ensures c.in_ok-line_codes.ensures c.loop-number.invariant))

pub returns-clause-fits : goal.returns-clause-fits
returns-clause-fits c = λ n g at.
    let gs = c.args.groups.now in
    let lt = slice_get_within (map group_of gs) n g at in
    let long = length-map gs group_of in
    let none = c.in_ok-new.ensures.none in
    let rooms = c.in_ok-new-2.ensures.room in
    let holds = c.loop-number.invariant.each n g (omega (arith, lt, long, c.loop-number-test.false)) at in
    suffices (certificate_of c.args.cert.now) c.loop-number.needs c.loop-number.counts c.args.given c.loop-number.sizes.items c.loop-number.codes.items c.in_ok-new.field-0
    c.in_ok-new-2.field-0 c.in_ok-new-3.field-0 n g holds c.in_ok-new-3.ensures
    (λ k. bind_all (grid_symbols (none.0 k)) (none.1 k)) rooms.0 rooms.1
