use Rattle.chess.proofs.SanNamesFacts.{san_names}
use Rattle.chess.proofs.move_text.write.play_san.Goals as goal

pub returns-clause-names : goal.returns-clause-names
returns-clause-names g c =
    san_names c.args.position.now c.args.m c.play_written.result.bytes c.invariant.ensures
    c.requires c.play_written.ensures.text
