use Rattle.std.proofs.Common.{◌≡◌, ◌∙◌, ℕ, List, [], true, subst, rules}
use Rattle.std.specs.Prelude.{IsTrue, IsSome}
use Rattle.algo.specs.Parts.{function_of}
use Rattle.algo.specs.View.{algorithm_of}
use Rattle.crop.specs.Inference.Needed.{needed, callable_through}
use Rattle.crop.specs.Cutting.{region_named, IsCovered}
use Rattle.crop.specs.View.{cut_of}
use Rattle.crop.proofs.Closed.{if_ok, through_all}
use Rattle.crop.proofs.closing.covers_all.Goals as goal

pub returns : goal.returns
returns c =
    let a = algorithm_of c.args.algo.now in
    let cut = cut_of c.args.cut.now in
    let P : List ℕ → Type 0 = λ name. IsCovered (region_named a cut name) (needed [] a c.args.number name c.args.region.now) in
    let g = function_of (c.function_at.result.0.now, c.function_at.result.1.now) in
    let before : c.in_ok-covers_before.field-0 ≡ true = search rules in
    let itself : c.in_ok-covers.field-0 ≡ true = search rules in
    let own : P g.name = subst P c.as_str.ensures.value (c.in_ok-covers.ensures itself) in
    if_ok c.covers-2.result (λ y. IsTrue y → P c.as_str-2.result.now) (λ y. IsTrue y → (name : List ℕ) → IsSome (callable_through a c.args.number name) → P name)
    (λ y h t. through_all a P c.args.number g c.function_at.ensures own (c.in_ok-covers_before.ensures before) (subst P (c.as_str-2.ensures.value ∙ c.input.ensures.name) (h t)))
    c.covers-2.ensures
