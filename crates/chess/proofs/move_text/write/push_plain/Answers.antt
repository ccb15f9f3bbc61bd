use Rattle.chess.proofs.move_text.SanTextFacts.{lone_piece}
use Rattle.chess.proofs.move_text.write.push_plain.Goals as goal

pub returns-in_default-clause-text : goal.returns-in_default-clause-text
returns-in_default-clause-text c P takes lone =
    let piece = c.in_default.not-Pawn in
    lone_piece P c.args.m.now c.args.man.kind c.kind_letter.result c.args.out.now.bytes
    c.push_byte.new.out.bytes c.push_cross.new.out.bytes
    c.push_square.new.out.bytes piece (lone piece) c.kind_letter.ensures.letter c.push_byte.ensures
    (c.push_cross.ensures.text P c.args.m.now takes)
    c.push_square.ensures
