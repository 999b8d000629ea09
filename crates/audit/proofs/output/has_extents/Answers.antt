use Rattle.std.proofs.Common.{◌∙◌, sym, refl, subst, get_or, arith}
use Rattle.lin.specs.declared.span.Span1.{Span1}
use Rattle.std.proofs.lemmas.Bool.{false≢true}
use Rattle.std.proofs.lemmas.List.Elements.{All-get_or, All-from_recursion}
use Rattle.checked_plan.specs.Ready.Ready.{IsSmallSpan}
use Rattle.audit.specs.Stand.{HasExtent}
use Rattle.audit.proofs.Extents.{all_inside, extent_at, extents_from, extents_long, extents_needed}
use Rattle.audit.proofs.output.has_extents.Goals as goal

pub returns-then-region-extents : goal.returns-then-region-extents
returns-then-region-extents c = (
  λ no. absurd (false≢true no),
  λ all. absurd (c.if-region-extents.true (extents_long c.args.extents.now c.args.region.now (extents_needed c.args.extents.now c.args.region.now c.requires.ends c.requires.region c.requires.extents all))),
)

pub has_extent-requires : goal.has_extent-requires
has_extent-requires c =
    let xs = c.args.region.now in
    subst IsSmallSpan (sym c.index-region-place.is) (All-get_or IsSmallSpan xs c.loop-place.place c.index-region-place.result (omega (arith, c.loop-place-test.true, c.if-region-extents.false)) (All-from_recursion IsSmallSpan xs c.requires.region))

pub returns-then-not-has_extent : goal.returns-then-not-has_extent
returns-then-not-has_extent c = (
  λ no. absurd (false≢true no),
  λ all.
      let xs = c.args.region.now in
      let have = extents_needed c.args.extents.now xs c.requires.ends c.requires.region c.requires.extents all in
      sym c.if-not-has_extent.true ∙ c.has_extent.ensures.1 (subst (λ (x : Span1). HasExtent (get_or c.args.extents.now c.loop-place.place 0) x) (sym c.index-region-place.is) (extent_at c.args.extents.now xs c.loop-place.place c.index-region-place.result have (omega (arith, c.loop-place-test.true)))),
)

pub returns : goal.returns
returns c = (
  λ yes p w.
      let xs = c.args.region.now in
      let have = extents_from c.args.extents.now xs c.if-region-extents.false (λ k d less. c.loop-place.invariant k d (omega (arith, less, c.loop-place-test.false, c.loop-place.auto.place-end))) in
      all_inside c.args.extents.now xs c.requires.ends c.requires.region have p w,
  λ all. refl,
)
