use Rattle.std.proofs.Common.{◌≡◌, ap, ◌∙◌, rules}
use Rattle.std.specs.Prelude.{string_bytes}
use Rattle.tree.specs.Term.{list_terms, indices, Call}
use Rattle.tree.proofs.Rows.{term_of-call}
use Rattle.crop.proofs.numbers.call.Goals as goal

pub returns : goal.returns
returns c =
    let name : string_bytes c.in_ok-clone.field-0 ≡ string_bytes c.args.name.now = search rules in
    term_of-call c.in_ok-clone.field-0 c.args.at c.args.span ∙ ap (λ n. Call n (indices (list_terms c.args.at.items))) name
