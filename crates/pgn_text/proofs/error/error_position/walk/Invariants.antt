use Rattle.pgn_text.proofs.Common.{◌-◌, length, WalkedTo, depth_limit, state_of}
use Rattle.pgn_text.proofs.error.error_position.walk.Given as goal

abbrev pub invariant-loop-token : goal.invariant-loop-token
invariant-loop-token l =
    WalkedTo depth_limit l.file_start l.block l.begin l.at (state_of l.progress)

abbrev pub decreases-loop-token : goal.decreases-loop-token
decreases-loop-token l = length l.block - l.at
