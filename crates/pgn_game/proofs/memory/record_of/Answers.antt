use Rattle.pgn_game.proofs.memory.record_of.Goals as goal

pub put_record-requires : goal.put_record-requires
put_record-requires c = (c.args.lines, c.in_ok-replayed.ensures)
