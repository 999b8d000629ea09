use Rattle.commands.proofs.pipeline.laws.read_images_fit.Goals as goal
use Rattle.commands.proofs.Samples as samples

pub returns : goal.returns
returns c = samples.read_images_fit
