use Rattle.interpreter.proofs.Residues.{residue_32}
use Rattle.interpreter.proofs.evaluation.widths.residue_32.Goals as goal

pub returns : goal.returns
returns c = residue_32 c.args.number c.ranges.number c.cast_unsigned.result c.cast_unsigned.ensures
