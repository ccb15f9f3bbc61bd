use Rattle.pgn_game.proofs.pack.writing.put_record.Goals as goal

pub put_replayed-put-requires : goal.put_replayed-put-requires
put_replayed-put-requires c = let replay = c.requires.1 in (replay.start, _, replay.line)
