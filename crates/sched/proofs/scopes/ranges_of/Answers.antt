use Rattle.std.proofs.Common.{◌≡◌, ◌+◌, List, length, map, Some, None, refl, ap, sym, ◌∙◌, arith}
use Rattle.std.proofs.lemmas.Option.{slice_get_read, slice_get_past}
use Rattle.std.specs.Prelude.{slice_get}
use Rattle.algo.specs.declared.function.Range.{Range}
use Rattle.algo.specs.declared.function.Update.{Update}
use Rattle.algo.specs.Parts.{range_of}
use Rattle.sched.proofs.Places.{ranges_found, ranges_missing}
use Rattle.sched.proofs.scopes.ranges_of.Goals as goal

pub returns-in-Some-get : goal.returns-in-Some-get
returns-in-Some-get c =
    let us = c.args.function.now.updates.items in
    let vs = c.deref.result.now in
    let u = c.in-Some-get.update.now in
    let k = c.in-Some.number in
    let next : c.args.definition ≡ k + 1 = omega (arith, c.in-Some.ensures) in
    let found : slice_get us k ≡ Some u =
    ap (λ (l : List Update). slice_get l k) (sym c.deref.ensures.value) ∙ slice_get_read vs (length vs) k u refl c.in-Some-get.ensures.lookup.3.0 c.in-Some-get.ensures.lookup.1 in
    ap (λ (l : List Range). map range_of l) c.deref-in-Some-get.ensures.value ∙ sym (ranges_found us c.args.definition k u next found)

pub returns-in-None-get : goal.returns-in-None-get
returns-in-None-get c =
    let us = c.args.function.now.updates.items in
    let vs = c.deref.result.now in
    let k = c.in-Some.number in
    let next : c.args.definition ≡ k + 1 = omega (arith, c.in-Some.ensures) in
    let missing : slice_get us k ≡ None = ap (λ (l : List Update). slice_get l k) (sym c.deref.ensures.value) ∙ slice_get_past vs k c.in-None-get.ensures.lookup.3 in
    sym (ranges_missing us c.args.definition k next missing)
