use Rattle.std.proofs.lemmas.Bool.{leb-true, le-leb}
use Rattle.meaning.proofs.image.samples.are_within.Goals as goal

pub returns : goal.returns
returns c =
    let known = c.greatest.ensures c.args.most in
    (λ yes. known.0 (leb-true c.greatest.result c.args.most yes), λ all. le-leb c.greatest.result c.args.most (known.1 all))
