use Rattle.chess.proofs.Common.{opposite, State, IsOnlyKing, White, Black}
use Rattle.chess.proofs.FenFacts.{HasKings, right_kings, wrong_pawns, right_pawns, enemy_white}
use Rattle.chess.proofs.FenFacts.{enemy_black, wrong_check, right_check, spelled_kept}
use Rattle.chess.proofs.position.Position.from_fields.Goals as goal
use Rattle.chess.proofs.position.Position.from_fields.Goals.{in-White, in-Black}

pub returns-in_default-only_king : goal.returns-in_default-only_king
returns-in_default-only_king g c =
    record {
      answer = λ x split. (_, c.in-Some.ensures x split, (White, c.in_default-only_king.ensures));
      sound =
          tt;
    }

pub returns-in_default-only_king-2 : goal.returns-in_default-only_king-2
returns-in_default-only_king-2 g c =
    record {
      answer = λ x split. (_, c.in-Some.ensures x split, (Black, c.in_default-only_king-2.ensures));
      sound =
          tt;
    }

pub returns-then-has_edge_pawn : goal.returns-then-has_edge_pawn
returns-then-has_edge_pawn g c =
    let spelled = c.in-Some.spelled in
    let P : State = record {
      men = g.B.Board.men spelled.board;
      turn = spelled.turn;
      rights = spelled.rights;
      en_passant = spelled.en_passant;
      halfmove_clock = spelled.halfmove_clock;
      fullmove_number = spelled.fullmove_number;
    } in
    let white = c.in-Some-only_king in
    let black = c.in-Some-only_king-2 in
    let kings : HasKings P white.white_king black.black_king =
    record { white_only = white.ensures; black_only = black.ensures } in record {
      answer = λ x split. (
        P,
        c.in-Some.ensures x split,
        right_kings P white.white_king black.black_king kings,
        wrong_pawns P c.has_edge_pawn.result c.has_edge_pawn.ensures c.if-has_edge_pawn.true,
      );
      sound = tt;
    }

pub returns-then-attacked : goal.returns-then-attacked
returns-then-attacked g c =
    let spelled = c.in-Some.spelled in
    let P : State = record {
      men = g.B.Board.men spelled.board;
      turn = spelled.turn;
      rights = spelled.rights;
      en_passant = spelled.en_passant;
      halfmove_clock = spelled.halfmove_clock;
      fullmove_number = spelled.fullmove_number;
    } in
    let white = c.in-Some-only_king in
    let black = c.in-Some-only_king-2 in
    let king = c.match-spelled.king in
    let kings : HasKings P white.white_king black.black_king =
    record { white_only = white.ensures; black_only = black.ensures } in
    let enemy : IsOnlyKing P.men (opposite P.turn) king = elim c.match-spelled.branch [
      | in-White w ↦ enemy_white P white.white_king black.black_king king kings w.in-White.is
          w.king-is
      | in-Black w ↦ enemy_black P white.white_king black.black_king king kings w.in-Black.is
          w.king-is
    ] in record {
      answer = λ x split. (
        P,
        c.in-Some.ensures x split,
        right_kings P white.white_king black.black_king kings,
        right_pawns P c.has_edge_pawn.result c.has_edge_pawn.ensures c.if-has_edge_pawn.false,
        wrong_check P king c.attacked.result enemy c.attacked.ensures c.if-attacked.true,
      );
      sound = tt;
    }

pub invariant_of-result : goal.invariant_of-result
invariant_of-result g c =
    let spelled = c.in-Some.spelled in
    let P : State = record {
      men = g.B.Board.men spelled.board;
      turn = spelled.turn;
      rights = spelled.rights;
      en_passant = spelled.en_passant;
      halfmove_clock = spelled.halfmove_clock;
      fullmove_number = spelled.fullmove_number;
    } in
    let white = c.in-Some-only_king in
    let black = c.in-Some-only_king-2 in
    let king = c.match-spelled.king in
    let kings : HasKings P white.white_king black.black_king =
    record { white_only = white.ensures; black_only = black.ensures } in
    let enemy : IsOnlyKing P.men (opposite P.turn) king = elim c.match-spelled.branch [
      | in-White w ↦ enemy_white P white.white_king black.black_king king kings w.in-White.is
          w.king-is
      | in-Black w ↦ enemy_black P white.white_king black.black_king king kings w.in-Black.is
          w.king-is
    ] in
    spelled_kept c.requires.0 P white.white_king black.black_king
    (c.in-Some.ensures c.requires.0 c.requires.1) kings
    (right_pawns P c.has_edge_pawn.result c.has_edge_pawn.ensures c.if-has_edge_pawn.false)
    (right_check P king c.attacked.result enemy c.attacked.ensures c.if-attacked.false)

pub returns-clause-sound : goal.returns-clause-sound
returns-clause-sound g c = (invariant_of-result g c).sound
