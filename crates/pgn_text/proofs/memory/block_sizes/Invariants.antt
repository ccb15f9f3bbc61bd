use Rattle.std.proofs.Common.{◌+◌, length}
use Rattle.pgn_text.proofs.BlockSizes.{Sized, turns}
use Rattle.pgn_text.proofs.memory.block_sizes.Given as goal

abbrev pub invariant-loop-block : goal.invariant-loop-block
invariant-loop-block l = Sized l.fn.text l.blocks l.input.inner.now l.sizes.items

abbrev pub decreases-loop-block : goal.decreases-loop-block
decreases-loop-block l = length l.blocks.ahead + length l.input.inner.now + turns l.blocks.ended
