-- Positions are stored as pairs of numbers, so that a type may have one as its value.
use Rattle.std.specs.Prelude.{◌≡◌, ℕ, Bool, true, false, Option, refl}
use Rattle.std.specs.Coded.{Coded, coded_ℕ, coded_bool, coded_option, coded×, code_by}
use Rattle.std.specs.FinMap.{code}
use Rattle.chess.specs.Public.Squares.{Place}
use Rattle.chess.specs.Shared.PlaceCodes.{coded_place}
use Rattle.chess.specs.Public.Placements.{Placement}
use Rattle.chess.specs.Public.Positions.{State, IsOnlyKing, IsSound, king_of}
use Rattle.chess.specs.declared.board.man.Man.{Man}
use Rattle.chess.specs.declared.board.man.Side.{Side}
use Rattle.chess.specs.declared.board.man.Side.TheVariants.{White, Black}
use Rattle.chess.specs.declared.board.man.Kind.{Kind}
use Rattle.chess.specs.declared.board.man.Kind.TheVariants.{King, Queen, Rook, Bishop, Knight, Pawn}
use Rattle.chess.specs.declared.board.man.CastlingRights.{CastlingRights}

abbrev pub is_black_side : Side → Bool
is_black_side White = false
is_black_side Black = true

abbrev pub side_of : Bool → Side
side_of false = White
side_of true = Black

pub side_back : (s : Side) → side_of (is_black_side s) ≡ s
side_back White = refl
side_back Black = refl

abbrev pub coded_side : Coded Side
coded_side = code_by Bool coded_bool is_black_side side_of side_back

-- kinds as three tests
abbrev pub kind_bits : Kind → Bool × (Bool × Bool)
kind_bits King = (false, (false, false))
kind_bits Queen = (false, (false, true))
kind_bits Rook = (false, (true, false))
kind_bits Bishop = (false, (true, true))
kind_bits Knight = (true, (false, false))
kind_bits Pawn = (true, (true, true))

abbrev pub kind_by : Bool → Bool → Bool → Kind
kind_by false false false = King
kind_by false false true = Queen
kind_by false true false = Rook
kind_by false true true = Bishop
kind_by true false b = Knight
kind_by true true b = Pawn

pub kind_back : (kind : Kind) → kind_by (kind_bits kind).0 (kind_bits kind).1.0 (kind_bits kind).1.1
    ≡ kind
kind_back King = refl
kind_back Queen = refl
kind_back Rook = refl
kind_back Bishop = refl
kind_back Knight = refl
kind_back Pawn = refl

abbrev pub coded_kind : Coded Kind
coded_kind =
    code_by (Bool × (Bool × Bool)) (coded× coded_bool (coded× coded_bool coded_bool)) kind_bits
    (λ b. kind_by b.0 b.1.0 b.1.1) kind_back

abbrev pub coded_man : Coded Man
coded_man =
    code_by (Side × Kind) (coded× coded_side coded_kind) (λ m. (m.side, m.kind)) (λ p.
    record { side = p.0; kind = p.1 }) (λ _. refl)

abbrev pub coded_placement : Coded Placement
coded_placement = code coded_place coded_man

abbrev pub coded_rights : Coded CastlingRights
coded_rights =
    code_by (Bool × (Bool × (Bool × Bool)))
    (coded× coded_bool (coded× coded_bool (coded× coded_bool coded_bool)))
    (λ r. (r.white_king_side, (r.white_queen_side, (r.black_king_side, r.black_queen_side))))
    (λ p. record {
      white_king_side = p.0;
      white_queen_side = p.1.0;
      black_king_side =
          p.1.1.0;
      black_queen_side = p.1.1.1;
    }) (λ _. refl)

abbrev pub coded_state : Coded State
coded_state = code_by (Placement × (Side × (CastlingRights × (Option Place × (ℕ × ℕ)))))
    (coded× coded_placement
    (coded× coded_side
    (coded× coded_rights (coded× (coded_option coded_place) (coded× coded_ℕ coded_ℕ)))))
    (λ P. (P.men, (P.turn, (P.rights, (P.en_passant, (P.halfmove_clock, P.fullmove_number))))))
    (λ p. record {
      men = p.0;
      turn = p.1.0;
      rights = p.1.1.0;
      en_passant =
          p.1.1.1.0;
      halfmove_clock = p.1.1.1.1.0;
      fullmove_number = p.1.1.1.1.1;
    })
    (λ _. refl)

-- what a position of the program keeps, with the squares of its kings
pub record IsKept (P : State) (white_king black_king : Place) : Type 0 where
  pub sound : IsSound P
  pub white : IsOnlyKing P.men White white_king
  pub black : IsOnlyKing P.men Black black_king

-- where the king of a side stands after a man arrived: on that square if the man is he, else where
-- he stood
pub record IsFollowed (man : Man) (to : Place) (side : Side) (old new : Place) : Type 0 where
  pub moved : man ≡ king_of side → new ≡ to
  pub stays : (man ≡ king_of side → ⊥) → new ≡ old
