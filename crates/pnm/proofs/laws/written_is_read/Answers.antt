use Rattle.pnm.proofs.laws.written_is_read.Goals as goal
use Rattle.pnm.proofs.Written.{texts_are_files, written_is_read}

pub returns : goal.returns
returns c = record { file = texts_are_files; read = written_is_read }
