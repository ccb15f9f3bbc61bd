use Rattle.std.proofs.Common.{refl}
use Rattle.chess.proofs.MarkFacts.{one_more_man}
use Rattle.chess.proofs.position.Position.mark_kind.Goals as goal

pub returns : goal.returns
returns g c =
    one_more_man c.args.self.now.men (record { side = c.args.side; kind = c.args.kind })
    c.man_letter.result _ c.squares_of.result c.args.letters.now
    c.mark.new.letters refl c.man_letter.ensures.letter c.squares_of.ensures c.mark.ensures
