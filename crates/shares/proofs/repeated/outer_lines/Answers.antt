use Rattle.std.proofs.Common.{◌≡◌, ◌∙◌, ◌+◌, ◌++◌, ◌∷◌, [], List, map, take, ap, sym, subst, arith, Bor}
use Rattle.std.proofs.lemmas.List.{map-append, take_all, take_more}
use Rattle.plan.specs.declared.certificate.cert.Need.{Need}
use Rattle.shares.specs.Repeated.{AreOuterOf}
use Rattle.shares.proofs.Repeating.{outer_self, outer_more}
use Rattle.shares.proofs.repeated.outer_lines.Goals as goal

pub loop-need-init : goal.loop-need-init
loop-need-init c = let f : Bor Need → Need = λ n. n.now in outer_self (map f c.new-kept.result.items) [] (ap (map f) c.new-kept.ensures.items)

pub loop-need-preserved : goal.loop-need-preserved
loop-need-preserved c =
    let f : Bor Need → Need = λ n. n.now in
    let ls = c.args.lines.now in
    let k = c.loop-need.need-index in
    let d : Bor Need = c.need-item.result in
    let now = map f c.keep_outer.new.kept.items in
    let next : map f (take (k + 1) ls) ≡ map f (take k ls) ++ d.now ∷ [] =
    ap (map f) (take_more ls k d c.loop-need-test.true ∙ ap (λ (x : Bor Need). take k ls ++ x ∷ []) (sym c.need-item.is)) ∙ map-append f (take k ls) (d ∷ []) in
    subst (AreOuterOf now) (sym next) (outer_more (map f c.loop-need.kept.items) (map f (take k ls)) now d.now c.loop-need.invariant c.in_ok-keep_outer.ensures)

pub returns : goal.returns
returns c =
    let f : Bor Need → Need = λ n. n.now in
    let ls = c.args.lines.now in
    let k = c.loop-need.need-index in
    let end = c.loop-need.auto.need-index-end in
    subst (λ (ns : List (Bor Need)). AreOuterOf (map f c.loop-need.kept.items) (map f ns)) (take_all k ls (omega (arith, c.loop-need-test.false, end))) c.loop-need.invariant
