use Rattle.pgn_game.proofs.replays.all_lines.ReplayKeeperStepVisitor.turn.Goals as goal

pub keep-requires : goal.keep-requires
keep-requires c = record { says = (c.args.position.now, c.args.word.now, c.in_ok-turn.ensures.0) }
