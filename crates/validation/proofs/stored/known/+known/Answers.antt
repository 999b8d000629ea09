use Rattle.std.proofs.Common.{◌≡◌, ◌∙◌, refl, ap, sym, List, ℕ, Bool, length, rules, arith}
use Rattle.std.specs.Prelude.{map, ◌&&◌}
use Rattle.std.proofs.lemmas.Grind.{common_steps}
use Rattle.algo.specs.View.{algorithm_of}
use Rattle.plan.specs.View.{coordinate_of}
use Rattle.soundness.specs.Outline.View.{outline_in, plan_in}
use Rattle.tree.specs.Term.{list_terms, indices}
use Rattle.validation.specs.Stored.Stored.{is_named, is_call, are_known}
use Rattle.validation.proofs.Calls.{known_call}
use Rattle.validation.proofs.stored.known.+known.Goals as goal

pub is_known-returns-then-is_call : goal.is_known-returns-then-is_call
is_known-returns-then-is_call t c =
    let q = is_call (algorithm_of c.args.ground.algo.now) (plan_in c.args.ground.outlined.now) c.args.ground.lines (outline_in c.args.ground.outlined.now) in
    let long : c.len.result ≡ length c.in-Call.at.items = first_of (search rules, grind (arith, common_steps)) in
    ap (λ (b : Bool). b && c.are_known.result) (sym c.if-is_call.true)
    ∙ known_call (is_named (map coordinate_of c.args.coordinates.now)) q c.args.expr.now c.in-Call.name c.in-Call.at c.in-Call.span c.len.result c.deref.result.now c.is_call.result c.are_known.result
    c.in-Call.is long (c.is_call.ensures ∙ ap (λ (n : List ℕ). q n c.len.result) c.as_str-in-Call.ensures.value) c.deref.ensures.value c.are_known.ensures

pub is_known-returns-else-is_call : goal.is_known-returns-else-is_call
is_known-returns-else-is_call t c =
    let v = is_named (map coordinate_of c.args.coordinates.now) in
    let q = is_call (algorithm_of c.args.ground.algo.now) (plan_in c.args.ground.outlined.now) c.args.ground.lines (outline_in c.args.ground.outlined.now) in
    let long : c.len.result ≡ length c.in-Call.at.items = first_of (search rules, grind (arith, common_steps)) in
    let k = are_known v q (indices (list_terms c.in-Call.at.items)) in
    c.if-is_call.false
    ∙ ap (λ (b : Bool). b && k) (sym c.if-is_call.false)
    ∙ known_call v q c.args.expr.now c.in-Call.name c.in-Call.at c.in-Call.span c.len.result c.in-Call.at.items c.is_call.result k
    c.in-Call.is long (c.is_call.ensures ∙ ap (λ (n : List ℕ). q n c.len.result) c.as_str-in-Call.ensures.value) refl refl
