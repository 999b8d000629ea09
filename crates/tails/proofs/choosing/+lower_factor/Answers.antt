use Rattle.std.proofs.Common.{List, ◌∙◌, sym, ap}
use Rattle.std.specs.Option.{option_map}
use Rattle.lin.specs.Forms.{Form, factor_of}
use Rattle.tails.specs.Moves.{first_naming}
use Rattle.tails.proofs.Factors.{factor_behind}
use Rattle.tails.proofs.choosing.+lower_factor.Goals as goal

pub returns-in-None : goal.returns-in-None
returns-in-None t c =
    factor_behind c.args.symbol c.args.spans.now c.first-item.result c.lower_factor.result c.in-len1-up.len_at_least c.first-item.is
    (sym c.in-None.is ∙ c.factor_in.ensures ∙ ap (λ (fs : List Form). option_map (λ (f : Form). factor_of f.terms c.args.symbol) (first_naming c.args.symbol fs)) c.as_slice.ensures) c.lower_factor.ensures
