use Rattle.interpreter.proofs.Residues.{residue_8}
use Rattle.interpreter.proofs.evaluation.widths.residue_8.Goals as goal

pub returns : goal.returns
returns c = residue_8 c.args.number c.ranges.number c.cast_unsigned.result c.cast_unsigned.ensures
