use Rattle.cert.proofs.OneFiles.{one_file}
use Rattle.cert.proofs.laws.files_are_one.Goals as goal

pub returns : goal.returns
returns c = one_file
