use Rattle.std.proofs.Common.{refl, rules}
use Rattle.pgn_extract.proofs.engine.RunEnds.{ended, not_begun}
use Rattle.pgn_extract.proofs.engine.run_skipping.Goals as goal

pub returns-in-Ok : goal.returns-in-Ok
returns-in-Ok g c =
    let faults = c.run_blocks.ensures.faults in
    ended _ _ c.run_blocks.result c.requires.3 c.requires.4.2 c.in-Ok.ensures.ok
    c.run_blocks.ensures.done c.run_blocks.ensures.stopped
    (record { read = faults.read; write = faults.write; alone = faults.alone })

pub returns-in-Err : goal.returns-in-Err
returns-in-Err g c =
    not_begun _ _ _ c.in-Err.ensures.err.0 c.requires.3 c.requires.4.2 refl refl
    c.in-Err.ensures.err.1 (search rules)
