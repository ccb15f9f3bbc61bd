use Rattle.chess.proofs.move_text.SanTextFacts.{lone_san}
use Rattle.chess.proofs.move_text.write.write_plain.Goals as goal

pub returns : goal.returns
returns g c P plain here takes lone is_next =
    lone_san P c.args.next.now c.args.m.now c.args.man c.clear.new.self.bytes
    c.push_plain.new.out.bytes c.push_check_sign.new.out.bytes plain here
    c.clear.ensures (c.push_plain.ensures.text P takes lone) is_next c.push_check_sign.ensures
