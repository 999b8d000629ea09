use Rattle.std.proofs.Common.{◌∙◌, ◌++◌, ◌∷◌, [], ap, sym, subst, take, List}
use Rattle.std.specs.Prelude.{All}
use Rattle.std.proofs.lemmas.List.{take_more, map-append}
use Rattle.std.proofs.lemmas.List.Elements.{All-push, All-get_or}
use Rattle.lin.specs.declared.span.Span1.{Span1}
use Rattle.shares.specs.Lets.{symbols_at}
use Rattle.shares.specs.declared.boxes.Side.{Side}
use Rattle.shares.specs.Boxes.{side, sides, AreLimited}
use Rattle.shares.specs.Walked.{IsNear}
use Rattle.shares.proofs.boxes.box_by.Goals as goal

pub side_at-requires-clause-limits : goal.side_at-requires-clause-limits
side_at-requires-clause-limits c =
    let P : Span1 → Type 0 = λ x. AreLimited x.lower × AreLimited x.upper in
    subst P (sym c.span-item.is) (All-get_or P c.args.region.now c.loop-span.span-index c.span-item.result c.loop-span-test.true c.requires.limits)

pub loop-span-preserved : goal.loop-span-preserved
loop-span-preserved c =
    let s = symbols_at c.args.at.now c.args.lets.now in
    let xs = c.args.region.now in
    let i = c.loop-span.span-index in
    let x = c.span-item.result in
    let Near : List Side → Type 0 = λ xs. All IsNear xs in
    record {
      sides = c.in_ok-push.ensures.items ∙ ap (λ (xs : List Side). xs ++ c.side_at.result ∷ []) c.loop-span.invariant.sides
          ∙ ap (λ (y : Side). sides s (take i xs) ++ y ∷ []) c.side_at.ensures.value
          ∙ sym (ap (sides s) (take_more xs i x c.loop-span-test.true ∙ ap (λ (y : Span1). take i xs ++ y ∷ []) (sym c.span-item.is)) ∙ map-append (side s) (take i xs) (x ∷ []));
      near = subst Near (sym c.in_ok-push.ensures.items) (All-push IsNear c.loop-span.found.items c.side_at.result c.loop-span.invariant.near c.side_at.ensures.near);
    }
