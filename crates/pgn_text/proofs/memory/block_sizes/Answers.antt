-- Each call gives the next block of the text, and the end comes after the last.
use Rattle.pgn_text.specs.Public.Limits.{block_limit}
use Rattle.pgn_text.proofs.BlockSizes.{fewer_left, one_sized, all_sized}
use Rattle.pgn_text.proofs.memory.block_sizes.Goals as goal

pub loop-block-smaller : goal.loop-block-smaller
loop-block-smaller c =
    let gives = rw (c.in-Ok-Some.is, c.in-Ok-Some.field-0-is) at c.next.follows.holds-at-none in
    fewer_left _ _ _ _ gives.0 gives.2.0 gives.2.1 gives.1.bytes

pub loop-block-preserved : goal.loop-block-preserved
loop-block-preserved c =
    let gives = rw (c.in-Ok-Some.is, c.in-Ok-Some.field-0-is) at c.next.follows.holds-at-none in
    rw c.in-Ok.ensures.items
    (one_sized c.args.text.now _ _ _ _ gives.0 gives.2.0 _ _ c.loop-block.invariant gives.2.1
    gives.1.bytes
    (c.size_of-size.ensures block_limit gives.2.0 gives.2.2.0))

pub returns-in-Ok-None : goal.returns-in-Ok-None
returns-in-Ok-None c =
    let gives = rw (c.in-Ok-None.is, c.in-Ok-None.field-0-is) at c.next.follows.holds-at-none in
    all_sized c.args.text.now _ _ _ c.loop-block.invariant gives.2.0
