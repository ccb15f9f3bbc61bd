use Rattle.pgn_game.proofs.PackStreamFacts.{sizes_read, none_read}
use Rattle.pgn_game.proofs.pack.records.sizes_of_record.Goals as goal

pub returns-in-Ok : goal.returns-in-Ok
returns-in-Ok c =
    rw c.plies.ensures
    (sizes_read c.args.bytes.now c.in-Ok.rest.now c.in-Ok.record c.in-Ok.ensures.found)

pub returns-in-Err : goal.returns-in-Err
returns-in-Err c = none_read c.args.bytes.now _ c.requires c.in-Err.ensures.exact
