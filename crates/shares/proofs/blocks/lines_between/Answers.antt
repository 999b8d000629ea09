use Rattle.std.proofs.Common.{◌≡◌, ◌∙◌, ◌+◌, ◌++◌, ◌∷◌, [], List, map, take, ap, sym, subst, arith, Bor}
use Rattle.std.proofs.lemmas.List.{map-append, take_all, take_more}
use Rattle.plan.specs.declared.certificate.cert.Need.{Need}
use Rattle.shares.specs.Blocks.{AreThoseBetween}
use Rattle.shares.proofs.Blocking.{lent_limited, limited_none, those_self}
use Rattle.shares.proofs.blocks.lines_between.Goals as goal

pub loop-need-init : goal.loop-need-init
loop-need-init c =
    let f : Bor Need → Need = λ n. n.now in
    record {
      those = λ at between. those_self at (map f c.new-kept.result.items) [] (ap (map f) c.new-kept.ensures.items);
      limits = limited_none c.new-kept.result.items c.new-kept.ensures.items;
    }

pub keep_between-requires-clause-limits : goal.keep_between-requires-clause-limits
keep_between-requires-clause-limits c = lent_limited c.args.lines.now c.loop-need.need-index c.need-item.result c.loop-need-test.true c.need-item.is c.requires.limits

pub loop-need-preserved : goal.loop-need-preserved
loop-need-preserved c =
    let f : Bor Need → Need = λ n. n.now in
    let ls = c.args.lines.now in
    let k = c.loop-need.need-index in
    let d : Bor Need = c.need-item.result in
    let next : map f (take (k + 1) ls) ≡ map f (take k ls) ++ d.now ∷ [] =
    ap (map f) (take_more ls k d c.loop-need-test.true ∙ ap (λ (x : Bor Need). take k ls ++ x ∷ []) (sym c.need-item.is)) ∙ map-append f (take k ls) (d ∷ []) in
    record {
      those = subst (AreThoseBetween c.args.low.now c.args.high.now (map f c.keep_between.new.kept.items)) (sym next) (c.in_ok-keep_between.ensures.those (map f (take k ls)) c.loop-need.invariant.those);
      limits = c.in_ok-keep_between.ensures.limits;
    }

pub returns : goal.returns
returns c =
    let f : Bor Need → Need = λ n. n.now in
    let ls = c.args.lines.now in
    let k = c.loop-need.need-index in
    let end = c.loop-need.auto.need-index-end in
    subst (λ (ns : List (Bor Need)). AreThoseBetween c.args.low.now c.args.high.now (map f c.loop-need.kept.items) (map f ns)) (take_all k ls (omega (arith, c.loop-need-test.false, end))) c.loop-need.invariant.those
