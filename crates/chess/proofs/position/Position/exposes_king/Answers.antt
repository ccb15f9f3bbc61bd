use Rattle.chess.proofs.Common.{◌≡◌, ap, State}
use Rattle.chess.proofs.position.CheckFacts.{check_after}
use Rattle.chess.proofs.position.Position.exposes_king.Goals as goal

pub returns : goal.returns
returns g c =
    let P = c.args.self.now in
    let m = c.args.m.now in
    let old : g.B.Board.men c.self.inside.board ≡ P.men =
    ap (λ (Q : State). Q.men) c.self.view_is in
    check_after P m (record { sound = c.invariant.ensures; rules = c.requires.pseudo_legal })
    c.becoming-arriving.result c.capture_square_of-capture_square.result
    c.king_after-king.result (g.B.Board.men c.self.inside.board) c.attacked_after.result
    c.requires.plain old c.becoming-arriving.ensures c.capture_square_of-capture_square.ensures
    (rw c.side.ensures at c.king_after-king.ensures) c.attacked_after.ensures
