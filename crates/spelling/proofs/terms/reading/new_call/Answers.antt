use Rattle.tree.proofs.Rows.{term_of-call}
use Rattle.spelling.proofs.terms.reading.new_call.Goals as goal

pub returns : goal.returns
returns c = term_of-call c.args.name c.args.at (record { start = 0; end = 0 })
