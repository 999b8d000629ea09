use Rattle.std.proofs.Common.{◌≡◌, [], List, map, subst, Bor}
use Rattle.lin.specs.declared.span.Span1.{Span1}
use Rattle.plan.specs.Symbols.{points}
use Rattle.plan.specs.declared.certificate.cert.Need.{Need}
use Rattle.plan.specs.Certificate.Cells.{grid_symbols}
use Rattle.shares.proofs.Blocking.{those_kept, those_left}
use Rattle.shares.proofs.blocks.keep_between.Goals as goal

pub returns-in_ok-keep_outer-clause-those : goal.returns-in_ok-keep_outer-clause-those
returns-in_ok-keep_outer-clause-those c ns h at between =
    let f : Bor Need → Need = λ m. m.now in
    those_kept at (map f c.args.kept.now.items) ns (map f c.keep_outer.new.kept.items) c.args.need.now (c.in_ok-keep_outer.ensures.outer at between) (h at between)

pub returns-then-not-ends_may_meet-clause-those : goal.returns-then-not-ends_may_meet-clause-those
returns-then-not-ends_may_meet-clause-those c ns h at between =
    let n : Need = c.args.need.now in
    let f : Bor Need → Need = λ m. m.now in
    those_left at (map f c.args.kept.now.items) ns n
    (subst (λ (xs : List Span1). points (grid_symbols at) xs ≡ []) c.as_slice.ensures (c.ends_may_meet.ensures c.if-not-ends_may_meet.true at between)) (h at between)

pub returns-then-not-may_have_point-clause-those : goal.returns-then-not-may_have_point-clause-those
returns-then-not-may_have_point-clause-those c ns h at between =
    let n : Need = c.args.need.now in
    let f : Bor Need → Need = λ m. m.now in
    those_left at (map f c.args.kept.now.items) ns n
    (subst (λ (xs : List Span1). points (grid_symbols at) xs ≡ []) c.as_slice-2.ensures (c.may_have_point.ensures c.if-not-may_have_point.true at between)) (h at between)

pub returns-else-may-clause-those : goal.returns-else-may-clause-those
returns-else-may-clause-those c ns h at between =
    let n : Need = c.args.need.now in
    let f : Bor Need → Need = λ m. m.now in
    those_left at (map f c.args.kept.now.items) ns n
    (subst (λ (xs : List Span1). points (grid_symbols at) xs ≡ []) c.as_slice-3.ensures (c.in_ok-may.ensures c.if-may.false at between)) (h at between)
