use Rattle.chess.proofs.Common.{◌≡◌, ◌∙◌, ap, sym, subst, State, IsKept, after, men_after}
use Rattle.chess.proofs.Common.{rights_after, CastlingRights, White, Black}
use Rattle.chess.proofs.KingFacts.{king_follows}
use Rattle.chess.proofs.GoesFacts.{IsTried}
use Rattle.chess.proofs.position.CheckFacts.{men_plainly}
use Rattle.chess.proofs.SoundFacts.{after_sound}
use Rattle.chess.proofs.position.Position.advance.Goals as goal

pub invariant_of-self : goal.invariant_of-self
invariant_of-self g c =
    let P = c.args.self.now in
    let m = c.args.m.now in
    let old : g.B.Board.men c.self.inside.board ≡ P.men =
    ap (λ (Q : State). Q.men) c.self.view_is in
    let men : g.B.Board.men c.move_piece.new.self ≡ men_after P m =
    c.move_piece.ensures
    ∙ men_plainly P m c.becoming-arriving.result c.capture_square_of-capture_square.result
    (g.B.Board.men c.self.inside.board) c.requires.plain old c.becoming-arriving.ensures
    c.capture_square_of-capture_square.ensures in
    let rights : c.end_rights.new.rights ≡ rights_after P.rights m =
    c.end_rights.ensures
    ∙ ap (λ (r : CastlingRights).
    rights_after r m) (ap (λ (Q : State). Q.rights) c.self.view_is) in
    let kept =
    rw c.self.view_is at c.self.invariant in
    let tried : IsTried P m =
    record { sound = c.invariant.ensures; rules = c.requires.legal.pseudo_legal } in
    let shown : record {
      men = g.B.Board.men c.move_piece.new.self;
      turn = c.turn_after-turn.result;
      rights = c.end_rights.new.rights;
      en_passant = c.en_passant_after-en_passant.result;
      halfmove_clock = c.clock_after-halfmove_clock.result;
      fullmove_number = c.fullmove_number_after-fullmove_number.result;
    }
    ≡ after P m =
    λ i. record {
      men = men i;
      turn = c.turn_after-turn.ensures i;
      rights = rights i;
      en_passant = c.en_passant_after-en_passant.ensures i;
      halfmove_clock = c.clock_after-halfmove_clock.ensures i;
      fullmove_number = c.fullmove_number_after-fullmove_number.ensures i;
    } in
    subst (λ (Q : State). IsKept Q c.follow_kings.new.white_king c.follow_kings.new.black_king)
    (sym shown)
    (record {
      sound = after_sound P m tried c.requires.legal.safe;
      white = king_follows P m tried c.args.man c.requires.man White c.self.inside.white_king
          c.follow_kings.new.white_king kept.white c.follow_kings.ensures.white;
      black = king_follows P m tried c.args.man c.requires.man Black c.self.inside.black_king
          c.follow_kings.new.black_king kept.black c.follow_kings.ensures.black;
    })
