use Rattle.shares.proofs.Blocking.{no_block}
use Rattle.shares.proofs.blocks.new_walk.Goals as goal

pub returns : goal.returns
returns c seats gathered first = record {
  large = no_block seats gathered first c.no_block.result c.no_block.ensures;
  middle = no_block seats gathered first c.no_block-2.result c.no_block-2.ensures;
  lesser = no_block seats gathered first c.no_block-3.result c.no_block-3.ensures;
  small = no_block seats gathered first c.no_block-4.result c.no_block-4.ensures;
}
