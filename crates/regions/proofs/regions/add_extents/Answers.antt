use Rattle.std.proofs.Common.{◌≡◌, ℕ, OnOk, List, subst, ◌∙◌}
use Rattle.algo.specs.View.{algorithm_of}
use Rattle.regions.specs.Regions.{add_extents}
use Rattle.regions.proofs.regions.add_extents.Goals as goal

pub returns : goal.returns
returns c =
    let a = algorithm_of c.args.algo.now in
    let extents : c.deref.result.now ≡ a.output_extents = c.deref.ensures.value ∙ (λ i. (c.output.ensures.shape i).extents) in
    let P : List ℕ → Type 0 = λ ns. OnOk c.add_all_extents.result (c.add_all_extents.new.reach.items ≡ add_extents 0 ns c.args.reach.now.items) in
    subst P extents c.add_all_extents.ensures
