use Rattle.std.proofs.Common.{length}
use Rattle.crop.proofs.boxes.+put_channels.Given as goal

abbrev pub decreases-put_channels : goal.decreases-put_channels
decreases-put_channels l = length l.channels.now
