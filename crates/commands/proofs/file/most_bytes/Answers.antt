use Rattle.meaning.specs.Image.View.{shape_of}
use Rattle.commands.proofs.Rooms.{text_fits}
use Rattle.commands.proofs.file.most_bytes.Goals as goal

pub returns : goal.returns
returns c = λ p ty extents count. rw (c.sample_count.ensures, c.sample_bytes.ensures) (text_fits (shape_of c.args.shape.now) c.requires p ty extents count)
