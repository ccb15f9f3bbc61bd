use Rattle.pgn_criteria.proofs.Common.{◌≡◌, AreOnBoard, ap, subst, sym}
use Rattle.pgn_criteria.specs.Private.CodedTexts.{IsAloneIn}
use Rattle.pgn_criteria.specs.Public.Walks.{Sight}
use Rattle.pgn_criteria.proofs.CodedFacts.{alone_of_kings, alone_there}
use Rattle.pgn_criteria.proofs.walk.Walk.is_alone.Goals as goal

pub returns-in-King : goal.returns-in-King
returns-in-King g c is =
    let men : g.B.Board.men c.self.inside.board ≡ c.args.self.now.men =
    ap (λ (s : Sight). s.men) c.self.view_is in
    subst (λ placed. IsAloneIn placed c.args.man c.args.from c.args.to) men
    (alone_of_kings (g.B.Board.men c.self.inside.board) c.args.man c.args.from c.args.to
    c.squares_of-others.result c.remove.new.self (subst AreOnBoard (sym men) c.invariant.ensures)
    c.squares_of-others.ensures c.remove.ensures (c.is_empty.ensures.0 is))

pub returns-in_default : goal.returns-in_default
returns-in_default g c is =
    let men : g.B.Board.men c.self.inside.board ≡ c.args.self.now.men =
    ap (λ (s : Sight). s.men) c.self.view_is in
    subst (λ placed. IsAloneIn placed c.args.man c.args.from c.args.to) men
    (alone_there (g.B.Board.men c.self.inside.board) c.args.man c.args.from c.args.to
    c.squares_of-others.result c.remove.new.self (subst AreOnBoard (sym men) c.invariant.ensures)
    c.squares_of-others.ensures c.remove.ensures
    c.attackers_from.result c.attackers_from.ensures (c.is_empty-in_default.ensures.0 is)
    c.in_default.not-King)
