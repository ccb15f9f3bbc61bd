-- The first call gives the first mark.
use Rattle.pgn_text.specs.Public.Limits.{depth_limit}
use Rattle.pgn_text.proofs.memory.FirstCalls.{first_mark_of}
use Rattle.pgn_text.proofs.memory.first_mark.Goals as goal

pub returns : goal.returns
returns c =
    first_mark_of depth_limit c.args.block.now c.args.file_start _ _ c.next.result c.marks.ensures
    c.next.ensures.steps
