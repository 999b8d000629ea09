use Rattle.std.proofs.Common.{pos, List, ℕ, ap, ◌∙◌, ◌++◌}
use Rattle.std.specs.Prelude.{map}
use Rattle.crew.proofs.Looking.{bits_told}
use Rattle.crew.proofs.alone.look_at_part.Goals as goal

pub returns-in-Some-clause-words : goal.returns-in-Some-clause-words
returns-in-Some-clause-words g c =
    c.push_all.ensures.looked
    ∙ ap (λ zs. c.args.looked.now.looked.items ++ zs) (ap (λ (bs : List ℕ). map pos bs) c.in-Some.ensures ∙ bits_told g.J.Run.values c.args.cells.now)
