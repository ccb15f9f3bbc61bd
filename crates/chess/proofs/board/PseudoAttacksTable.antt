-- The tables of the squares from which men see a square.
use Rattle.chess.proofs.Common.{◌≡◌, true, refl, get_or, [], pseudo_attacks_row_of, PSEUDO_ATTACKS}
use Rattle.chess.proofs.Common.{Side, White, Black, Kind, King, Queen, Rook, Bishop, Knight, Pawn}
use Rattle.chess.proofs.board.LeaperFacts.{is_near, is_jump, is_pawn_attack}
use Rattle.chess.proofs.board.PseudoAttackFacts.{sees}
use Rattle.chess.proofs.board.TableFacts.{fits_table}

kings_fit : fits_table (get_or PSEUDO_ATTACKS 0 []) (sees White King) ≡ true
unfolding is_near
kings_fit = refl

queens_fit : fits_table (get_or PSEUDO_ATTACKS 1 []) (sees White Queen) ≡ true
queens_fit = refl

rooks_fit : fits_table (get_or PSEUDO_ATTACKS 2 []) (sees White Rook) ≡ true
rooks_fit = refl

bishops_fit : fits_table (get_or PSEUDO_ATTACKS 3 []) (sees White Bishop) ≡ true
bishops_fit = refl

knights_fit : fits_table (get_or PSEUDO_ATTACKS 4 []) (sees White Knight) ≡ true
unfolding is_jump
knights_fit = refl

white_pawns_fit : fits_table (get_or PSEUDO_ATTACKS 5 []) (sees White Pawn) ≡ true
unfolding is_pawn_attack
white_pawns_fit = refl

black_pawns_fit : fits_table (get_or PSEUDO_ATTACKS 6 []) (sees Black Pawn) ≡ true
unfolding is_pawn_attack
black_pawns_fit = refl

pub attacks_fit : (side : Side) (kind : Kind)
    → fits_table (get_or PSEUDO_ATTACKS (pseudo_attacks_row_of side kind) []) (sees side kind)
    ≡ true
attacks_fit White King = kings_fit
attacks_fit White Queen = queens_fit
attacks_fit White Rook = rooks_fit
attacks_fit White Bishop = bishops_fit
attacks_fit White Knight = knights_fit
attacks_fit White Pawn = white_pawns_fit
attacks_fit Black King = kings_fit
attacks_fit Black Queen = queens_fit
attacks_fit Black Rook = rooks_fit
attacks_fit Black Bishop = bishops_fit
attacks_fit Black Knight = knights_fit
attacks_fit Black Pawn = black_pawns_fit
