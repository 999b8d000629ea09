use Rattle.std.proofs.Math.Logic.{∥∥₁_elim}
use Rattle.algo.specs.View.{algorithm_of}
use Rattle.algo.proofs.WordProps.{named-prop, written-prop}
use Rattle.algo.proofs.Words.{names_are_words, expressions_are_written}
use Rattle.algo.proofs.algorithm.Algo.is_read.Goals as goal

pub returns-clause-named : goal.returns-clause-named
returns-clause-named c = ∥∥₁_elim c.args.self.now.read (named-prop (algorithm_of c.args.self.now)) (λ t. names_are_words t.0 (algorithm_of c.args.self.now) t.1)

pub returns-clause-written : goal.returns-clause-written
returns-clause-written c = ∥∥₁_elim c.args.self.now.read (written-prop (algorithm_of c.args.self.now)) (λ t. expressions_are_written t.0 (algorithm_of c.args.self.now) t.1)
