use Rattle.pnm.proofs.laws.files_are_read.Goals as goal
use Rattle.pnm.proofs.FilesFound.{read_files_are_files}
use Rattle.pnm.proofs.Written.{files_are_read}

pub returns : goal.returns
returns c = record { read = files_are_read; file = read_files_are_files }
