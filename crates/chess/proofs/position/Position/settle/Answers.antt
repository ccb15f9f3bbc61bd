use Rattle.chess.proofs.Common.{◌≡◌, ◌∙◌, ap, sym, subst, State, IsKept, after, rights_after}
use Rattle.chess.proofs.Common.{CastlingRights}
use Rattle.chess.proofs.SoundFacts.{after_sound}
use Rattle.chess.proofs.position.Position.settle.Goals as goal

pub invariant_of-self : goal.invariant_of-self
invariant_of-self g c =
    let P = c.args.self.now in
    let m = c.args.m.now in
    let rights : c.end_rights.new.rights ≡ rights_after P.rights m =
    c.end_rights.ensures
    ∙ ap (λ (r : CastlingRights).
    rights_after r m) (ap (λ (Q : State). Q.rights) c.self.view_is) in
    let shown : record {
      men = g.B.Board.men c.args.board;
      turn = c.turn_after-turn.result;
      rights = c.end_rights.new.rights;
      en_passant = c.en_passant_after-en_passant.result;
      halfmove_clock = c.halfmove_clock_after-halfmove_clock.result;
      fullmove_number = c.fullmove_number_after-fullmove_number.result;
    }
    ≡ after P m =
    λ i. record {
      men = c.requires.board i;
      turn = c.turn_after-turn.ensures i;
      rights = rights i;
      en_passant = c.en_passant_after-en_passant.ensures i;
      halfmove_clock = c.halfmove_clock_after-halfmove_clock.ensures i;
      fullmove_number = c.fullmove_number_after-fullmove_number.ensures i;
    } in
    subst (λ (Q : State). IsKept Q c.king_after-white_king.result c.king_after-black_king.result)
    (sym shown)
    (record {
      sound = after_sound P m
          (record { sound = c.invariant.ensures; rules = c.requires.legal.pseudo_legal })
          c.requires.legal.safe;
      white = c.king_after-white_king.ensures;
      black = c.king_after-black_king.ensures;
    })
