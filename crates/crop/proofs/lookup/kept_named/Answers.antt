use Rattle.std.proofs.Common.{sym, ap, ◌∙◌, arith}
use Rattle.std.specs.Prelude.{option_map}
use Rattle.algo.specs.View.{algorithm_of}
use Rattle.crop.specs.View.{kept_of}
use Rattle.crop.proofs.Named.{mapped_copied, hit, missed, past}
use Rattle.crop.proofs.lookup.kept_named.Goals as goal

pub returns-then-is_named : goal.returns-then-is_named
returns-then-is_named c =
    mapped_copied kept_of c.as_ref.result ∙ ap (option_map kept_of) c.as_ref.ensures.value
    ∙ hit (option_map kept_of) c.args.name.now (algorithm_of c.args.algo.now).functions c.args.cut.now.kept.items c.loop-number.number c.index.result.now
    (omega arith) c.index.ensures (sym c.is_named.ensures ∙ c.if-is_named.true)
    ∙ c.loop-number.invariant

pub loop-number-preserved : goal.loop-number-preserved
loop-number-preserved c =
    missed (option_map kept_of) c.args.name.now (algorithm_of c.args.algo.now).functions c.args.cut.now.kept.items c.loop-number.number (sym c.is_named.ensures ∙ c.if-is_named.false)
    ∙ c.loop-number.invariant

pub returns : goal.returns
returns c =
    past (option_map kept_of) c.args.name.now (algorithm_of c.args.algo.now).functions c.args.cut.now.kept.items c.loop-number.number (omega arith)
    ∙ c.loop-number.invariant
