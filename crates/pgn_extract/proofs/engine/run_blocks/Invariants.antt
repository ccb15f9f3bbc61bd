use Rattle.pgn_extract.proofs.Common.{◌≡◌, ◌+◌, ◌-◌, ◌^◌, false, block_limit, depth_limit, turns}
use Rattle.pgn_extract.proofs.Common.{aim_of, game_id}
use Rattle.pgn_extract.proofs.engine.RunProgress.{Progress}
use Rattle.pgn_extract.proofs.engine.run_blocks.Given as goal

abbrev pub invariant-loop-block : goal.invariant-loop-block
invariant-loop-block g l =
    Progress (aim_of l.settings) block_limit depth_limit
    (game_id l.settings.number l.settings.offset) l.blocks (g.R.Read.remaining l.fn.input.inner)
    (g.R.Read.remaining l.input.inner) l.fn.input.moved l.input.moved
    (g.O.Write.contents l.fn.out.inner) (g.O.Write.contents l.out.inner)
    (g.E.Write.contents l.fn.err.inner) (g.E.Write.contents l.err.inner) l.games l.faulty
    × (l.input.faulted ≡ false) × (l.out.faulted ≡ false) × (l.err.faulted ≡ false)

abbrev pub decreases-loop-block : goal.decreases-loop-block
decreases-loop-block g l = (2 ^ 62 - l.blocks.place) + turns l.blocks.ended
