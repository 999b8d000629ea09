use Rattle.std.proofs.Common.{arith}
use Rattle.interpreter.specs.Evaluation.Lanes.{lane_number, type_of}
use Rattle.interpreter.specs.Evaluation.Words.{bits_at, mask_at}
use Rattle.interpreter.proofs.EachWord.{chosen_value}
use Rattle.interpreter.proofs.evaluation.whole.choose_lanes.Goals as goal

pub returns : goal.returns
returns c = λ k lt.
    chosen_value (mask_at c.args.mask.now k) c.type_of-ty.result (type_of c.args.yes) (type_of c.args.no) (bits_at c.spread.new.out k) (bits_at c.spread_as.new.out k) (bits_at c.choose_each.new.out k)
    (lane_number c.args.yes c.args.yeses.now k) (lane_number c.args.no c.args.noes.now k) c.type_of-ty.ensures c.in_ok-spread_as.ensures.ty (c.choose_each.ensures k lt)
    (c.in_ok-spread.ensures k (omega arith)) (c.in_ok-spread_as.ensures.numbers k (omega arith))
