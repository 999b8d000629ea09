use Rattle.interpreter.proofs.Residues.{residue_16}
use Rattle.interpreter.proofs.evaluation.widths.residue_16.Goals as goal

pub returns : goal.returns
returns c = residue_16 c.args.number c.ranges.number c.cast_unsigned.result c.cast_unsigned.ensures
