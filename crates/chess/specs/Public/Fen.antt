-- Forsyth-Edwards notation: the text of a position, and how texts are read (PGN 16.1).
use Rattle.std.specs.Prelude.{◌≡◌, ◌≢◌, ◌⊎◌, ◌↔◌, ℕ, ◌+◌, ◌-◌, ◌*◌, ◌≤◌, Bool, true, false, not}
use Rattle.std.specs.Prelude.{◌&&◌, ◌||◌, ◌==◌, nat_le, if◌then◌else◌, List, [], ◌∷◌, ◌++◌, length}
use Rattle.std.specs.Prelude.{replicate, codes, decimal, Option, Some, None, IsTrue}
use Rattle.std.specs.List.{list_all}
use Rattle.chess.specs.Public.Squares.{Place, IsOnBoard}
use Rattle.chess.specs.Public.Placements.{Placement, man_at, AreOnBoard, opposite}
use Rattle.chess.specs.Public.Positions.{State, king_of, rook_of, pawn_of, has_right, king_from}
use Rattle.chess.specs.Public.Positions.{rook_from, IsCheck, IsOnlyKing, FitsEnPassant}
use Rattle.chess.specs.Public.Letters.{man_letter, square_text}
use Rattle.chess.specs.declared.board.man.Man.{Man}
use Rattle.chess.specs.declared.board.man.Side.{Side}
use Rattle.chess.specs.declared.board.man.Side.TheVariants.{White, Black}
use Rattle.chess.specs.declared.board.man.Wing.{Wing}
use Rattle.chess.specs.declared.board.man.Wing.TheVariants.{KingSide, QueenSide}
use Rattle.chess.specs.declared.board.man.CastlingRights.{CastlingRights}
use Rattle.chess.specs.declared.fen.FenError.{FenError}
use Rattle.chess.specs.declared.fen.FenError.TheVariants.{Syntax, Kings, Pawns, InCheck}

-- a byte in front of the first of some texts
abbrev pub before_first : ℕ → List (List ℕ) → List (List ℕ)
before_first b [] = (b ∷ []) ∷ []
before_first b (x ∷ more) = (b ∷ x) ∷ more

-- the texts that stand between the separators
abbrev pub parted_at : ℕ → List ℕ → List (List ℕ)
parted_at separator [] = [] ∷ []
parted_at separator (b ∷ x) = if b == separator then [] ∷ parted_at separator x
    else before_first b (parted_at separator x)

-- texts without the empty ones
abbrev pub without_empty : List (List ℕ) → List (List ℕ)
without_empty [] = []
without_empty ([] ∷ more) = without_empty more
without_empty ((b ∷ x) ∷ more) = (b ∷ x) ∷ without_empty more

-- the fields of a text: its longest runs of bytes that are no spaces
abbrev pub fields_of : List ℕ → List (List ℕ)
fields_of x = without_empty (parted_at 32 x)

-- a digit from 1 to 8: that many empty squares
abbrev pub is_step : ℕ → Bool
is_step b = nat_le 49 b && nat_le b 56

-- a man on one square, or that many empty squares (PGN 16.1.3.1)
pub data IsSquares : ℕ → List (Option Man) → Type 0 where
  letter : (man : Man) → IsSquares (man_letter man) (Some man ∷ [])
  step : (n : ℕ) → 1 ≤ n → n ≤ 8 → IsSquares (48 + n) (replicate n None)

-- the squares that a text of a rank spells, from the a-file on
abbrev pub SpellsRank : List ℕ → List (Option Man) → Type 0
SpellsRank [] squares = squares ≡ []
SpellsRank (b ∷ x) squares = (own more : List (Option Man)) × (squares ≡ own ++ more)
    × IsSquares b own × SpellsRank x more

-- the eight squares of a rank
abbrev pub row : Placement → ℕ → List (Option Man)
row p r = man_at p (record { file = 1; rank = r }) ∷ man_at p (record { file = 2; rank = r })
    ∷ man_at p (record { file = 3; rank = r })
    ∷ man_at p (record { file = 4; rank = r }) ∷ man_at p (record { file = 5; rank = r })
    ∷ man_at p (record { file = 6; rank = r })
    ∷ man_at p (record { file = 7; rank = r }) ∷ man_at p (record { file = 8; rank = r }) ∷ []

-- texts of ranks, from rank n down to rank 1, spell the placement
abbrev pub SpellRanks : Placement → ℕ → List (List ℕ) → Type 0
SpellRanks p n [] = n ≡ 0
SpellRanks p n (x ∷ more) = (1 ≤ n) × SpellsRank x (row p n) × SpellRanks p (n - 1) more

-- the text of the men: eight ranks from rank 8 down, with / between; and men stand on the board
-- alone
pub record SpellsMen (x : List ℕ) (p : Placement) : Type 0 where
  pub ranks : SpellRanks p 8 (parted_at 47 x)
  pub on_board : AreOnBoard p

-- w or b (PGN 16.1.3.2)
abbrev pub side_text : Side → List ℕ
side_text White = codes "w"
side_text Black = codes "b"

-- the letter of a right: K Q k q (PGN 16.1.3.3)
abbrev pub right_letter : Side → Wing → ℕ
right_letter White KingSide = 75
right_letter White QueenSide = 81
right_letter Black KingSide = 107
right_letter Black QueenSide = 113

-- a byte stands in the text; no byte stands in it twice
abbrev pub has_byte : ℕ → List ℕ → Bool
has_byte b [] = false
has_byte b (a ∷ x) = a == b || has_byte b x

abbrev pub is_distinct : List ℕ → Bool
is_distinct [] = true
is_distinct (b ∷ x) = not (has_byte b x) && is_distinct x

-- a letter of KQkq
abbrev pub is_right_letter : ℕ → Bool
is_right_letter b = (b == 75 || b == 81) || (b == 107 || b == 113)

-- a dash for no right, else distinct letters of KQkq in any order: the rights that are given
pub record GivesRights (x : List ℕ) (rights : CastlingRights) : Type 0 where
  pub written : (x ≡ codes "-")
      ⊎ ((x ≢ []) × IsTrue (list_all is_right_letter x) × IsTrue (is_distinct x))
  pub each : (side : Side) (wing : Wing) → has_right rights side wing
      ≡ has_byte (right_letter side wing) x

-- a dash or a square: the en passant square that is given (PGN 16.1.3.4)
abbrev pub GivesEnPassant : List ℕ → Option Place → Type 0
GivesEnPassant x None = x ≡ codes "-"
GivesEnPassant x (Some s) = IsOnBoard s × (x ≡ square_text s)

-- the number that digits write, after a number already read
abbrev pub number_from : ℕ → List ℕ → ℕ
number_from n [] = n
number_from n (d ∷ digits) = number_from (10 * n + (d - 48)) digits

abbrev pub is_digit : ℕ → Bool
is_digit b = nat_le 48 b && nat_le b 57

-- a number of one to seven digits
pub record IsCount (x : List ℕ) (n : ℕ) : Type 0 where
  pub digits : IsTrue (list_all is_digit x)
  pub short : (1 ≤ length x) × (length x ≤ 7)
  pub value : n ≡ number_from 0 x

-- the two counts, of which the second or both may be missing: then they are 0 and 1 (PGN 16.1.3.5,
-- 16.1.3.6)
abbrev pub GiveCounts : List (List ℕ) → ℕ → ℕ → Type 0
GiveCounts [] clock number = (clock ≡ 0) × (number ≡ 1)
GiveCounts (x ∷ []) clock number = IsCount x clock × (number ≡ 1)
GiveCounts (x ∷ y ∷ []) clock number = IsCount x clock × IsCount y number
GiveCounts (x ∷ y ∷ z ∷ more) clock number = ⊥

-- king and rook of a right stand at home
abbrev pub AreAtHome : Placement → Side → Wing → Type 0
AreAtHome p side wing = (man_at p (king_from side) ≡ Some (king_of side))
    × (man_at p (rook_from side wing) ≡ Some (rook_of side))

-- the text spells the position: four to six fields, where a right whose king or rook is not at home
-- is dropped, and an en passant square that does not fit
pub record SpellsPosition (x : List ℕ) (P : State) : Type 0 where
  pub men_field : List ℕ
  pub side_field : List ℕ
  pub rights_field : List ℕ
  pub en_passant_field : List ℕ
  pub count_fields : List (List ℕ)
  pub fields : fields_of x ≡ men_field ∷ side_field ∷ rights_field ∷ en_passant_field ∷ count_fields
  pub men : SpellsMen men_field P.men
  pub turn : side_field ≡ side_text P.turn
  pub given_rights : CastlingRights
  pub rights_given : GivesRights rights_field given_rights
  pub rights : (side : Side) (wing : Wing)
      → (has_right P.rights side wing ≡ true)
      ↔ ((has_right given_rights side wing ≡ true) × AreAtHome P.men side wing)
  pub given_en_passant : Option Place
  pub en_passant_given : GivesEnPassant en_passant_field given_en_passant
  pub en_passant : (s : Place) → (P.en_passant ≡ Some s)
      ↔ ((given_en_passant ≡ Some s) × FitsEnPassant P.men P.turn s)
  pub counts : GiveCounts count_fields P.halfmove_clock P.fullmove_number

-- a side has no king, or more than one
abbrev pub HasWrongKings : State → Type 0
HasWrongKings P = (side : Side) × ((s : Place) → IsOnlyKing P.men side s → ⊥)

-- a pawn stands on the first or the last rank
abbrev pub HasWrongPawns : State → Type 0
HasWrongPawns P = (side : Side) × (s : Place) × (man_at P.men s ≡ Some (pawn_of side))
    × ((s.rank ≡ 1) ⊎ (s.rank ≡ 8))

-- the side not to move is in check
abbrev pub HasWrongCheck : State → Type 0
HasWrongCheck P = IsCheck P.men (opposite P.turn)

-- the text is read as the position: it spells it, and nothing is wrong with it
pub record ReadsFen (x : List ℕ) (P : State) : Type 0 where
  pub spells : SpellsPosition x P
  pub kings : HasWrongKings P → ⊥
  pub pawns : HasWrongPawns P → ⊥
  pub quiet : HasWrongCheck P → ⊥

-- the text is refused, for the first of these that applies
abbrev pub IsRefused : List ℕ → FenError → Type 0
IsRefused x Syntax = (P : State) → SpellsPosition x P → ⊥
IsRefused x Kings = (P : State) × SpellsPosition x P × HasWrongKings P
IsRefused x Pawns = (P : State) × SpellsPosition x P × (HasWrongKings P → ⊥) × HasWrongPawns P
IsRefused x InCheck = (P : State) × SpellsPosition x P × (HasWrongKings P → ⊥)
    × (HasWrongPawns P → ⊥) × HasWrongCheck P

-- texts with a separator between
abbrev pub joined : ℕ → List (List ℕ) → List ℕ
joined separator [] = []
joined separator (x ∷ []) = x
joined separator (x ∷ y ∷ more) = x ++ separator ∷ joined separator (y ∷ more)

-- no two digits stand side by side, so each longest run of empty squares has one digit
abbrev pub is_shortest : List ℕ → Bool
is_shortest [] = true
is_shortest (a ∷ []) = true
is_shortest (a ∷ b ∷ x) = not (is_step a && is_step b) && is_shortest (b ∷ x)

-- the rights that are held, in the order KQkq, or a dash
abbrev pub rights_letters : CastlingRights → List ℕ
rights_letters r = (if r.white_king_side then 75 ∷ [] else [])
    ++ ((if r.white_queen_side then 81 ∷ [] else [])
    ++ ((if r.black_king_side then 107 ∷ [] else [])
    ++ (if r.black_queen_side then 113 ∷ [] else [])))

abbrev pub or_dash : List ℕ → List ℕ
or_dash [] = 45 ∷ []
or_dash (b ∷ x) = b ∷ x

-- the en passant square, or a dash
abbrev pub en_passant_text : Option Place → List ℕ
en_passant_text None = 45 ∷ []
en_passant_text (Some s) = square_text s

-- the text of a position: six fields with one space between, its ranks as short as they can be (PGN
-- 16.1.4)
pub record IsFen (P : State) (x : List ℕ) : Type 0 where
  pub ranks : List (List ℕ)
  pub spelled : SpellRanks P.men 8 ranks
  pub shortest : IsTrue (list_all is_shortest ranks)
  pub text : x
      ≡ joined 32 (joined 47 ranks ∷ side_text P.turn ∷ or_dash (rights_letters P.rights)
      ∷ en_passant_text P.en_passant
      ∷ decimal P.halfmove_clock ∷ decimal P.fullmove_number ∷ [])
