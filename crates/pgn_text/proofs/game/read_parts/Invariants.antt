use Rattle.pgn_text.proofs.Common.{◌-◌, length, state_of, depth_limit}
use Rattle.pgn_text.proofs.game.ReadLemmas.{KeptUpTo}
use Rattle.pgn_text.proofs.game.read_parts.Given as goal

abbrev pub invariant-loop-at : goal.invariant-loop-at
invariant-loop-at g l =
    KeptUpTo (g.K.TokenVisitor.kept l.fn.visitor) (g.K.TokenVisitor.kept l.visitor)
    depth_limit l.file_start
    l.block l.begin l.at (state_of l.progress)

abbrev pub decreases-loop-at : goal.decreases-loop-at
decreases-loop-at g l = length l.block - l.at
