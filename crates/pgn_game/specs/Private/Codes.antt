-- Replays are stored as tuples of lists, so that a type may have one as its value; and so are main
-- lines that are played.
use Rattle.std.specs.Prelude.{◌≡◌, ℕ, Bool, true, false, List, Option, Some, None, refl}
use Rattle.std.specs.Coded.{Coded, coded_ℕ, coded_bool, coded_list, coded_option, coded×, code_by}
use Rattle.chess.specs.Public.Squares.{Place}
use Rattle.chess.specs.Shared.PlaceCodes.{coded_place}
use Rattle.chess.specs.Public.Positions.{State}
use Rattle.chess.specs.Shared.Codes.{coded_state, coded_kind}
use Rattle.chess.specs.declared.board.man.Kind.{Kind}
use Rattle.chess.specs.declared.board.man.Wing.{Wing}
use Rattle.chess.specs.declared.board.man.Wing.TheVariants.{KingSide, QueenSide}
use Rattle.chess.specs.declared.moves.Move.{Move}
use Rattle.pgn_game.specs.declared.turns.line_move.LineMove.{LineMove}
use Rattle.pgn_game.specs.declared.turns.line_move.LineMove.TheVariants.{Played, Passed}
use Rattle.pgn_game.specs.Public.Replays.{Replay}
use Rattle.pgn_game.specs.Public.PlayedLines.{PlayedLine}

abbrev pub is_queen_side : Wing → Bool
is_queen_side KingSide = false
is_queen_side QueenSide = true

abbrev pub wing_of : Bool → Wing
wing_of false = KingSide
wing_of true = QueenSide

pub wing_back : (wing : Wing) → wing_of (is_queen_side wing) ≡ wing
wing_back KingSide = refl
wing_back QueenSide = refl

abbrev pub coded_wing : Coded Wing
coded_wing = code_by Bool coded_bool is_queen_side wing_of wing_back

abbrev pub coded_move : Coded Move
coded_move = code_by (Place × (Place × (Option Kind × Option Wing)))
    (coded× coded_place
    (coded× coded_place (coded× (coded_option coded_kind) (coded_option coded_wing))))
    (λ m. (m.from, (m.to, (m.promote, m.castle))))
    (λ p. record { from = p.0; to = p.1.0; promote = p.1.1.0; castle = p.1.1.1 }) (λ _. refl)

-- a turn as a move or none, which is a pass
abbrev pub move_of : LineMove → Option Move
move_of (Played m) = Some m
move_of Passed = None

abbrev pub turn_of : Option Move → LineMove
turn_of (Some m) = Played m
turn_of None = Passed

pub turn_back : (turn : LineMove) → turn_of (move_of turn) ≡ turn
turn_back (Played m) = refl
turn_back Passed = refl

abbrev pub coded_turn : Coded LineMove
coded_turn = code_by (Option Move) (coded_option coded_move) move_of turn_of turn_back

abbrev pub coded_replay : Coded Replay
coded_replay =
    code_by (List State × (List Move × List LineMove))
    (coded× (coded_list coded_state) (coded× (coded_list coded_move) (coded_list coded_turn)))
    (λ r. (r.positions, (r.played, r.turns))) (λ p.
    record { positions = p.0; played = p.1.0; turns = p.1.1 }) (λ _. refl)

abbrev pub coded_played_line : Coded PlayedLine
coded_played_line =
    code_by (State × (ℕ × List (List ℕ)))
    (coded× coded_state (coded× coded_ℕ (coded_list (coded_list coded_ℕ))))
    (λ l. (l.position, (l.plies, l.words))) (λ p.
    record { position = p.0; plies = p.1.0; words = p.1.1 }) (λ _. refl)
