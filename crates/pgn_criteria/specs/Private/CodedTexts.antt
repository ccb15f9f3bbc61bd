-- The text of a move as the code of its ply tells it.
use Rattle.std.specs.Prelude.{◌≡◌, ◌≢◌, ◌⊎◌, ℕ, Bool, true, if◌then◌else◌, List, [], ◌∷◌, ◌++◌}
use Rattle.std.specs.Prelude.{Option, Some, None, IsTrue, ◌↔◌}
use Rattle.chess.specs.Public.Attacks.{Reaches}
use Rattle.chess.specs.Public.Letters.{kind_letter, file_letter, rank_digit, square_text}
use Rattle.chess.specs.Public.Moves.{IsLegal}
use Rattle.chess.specs.Public.Placements.{Placement, man_at}
use Rattle.chess.specs.Public.Positions.{State}
use Rattle.chess.specs.Public.San.{IsSan, castling_text, is_capture, promotion_text}
use Rattle.chess.specs.Public.Squares.{Place}
use Rattle.chess.specs.declared.board.man.Man.{Man}
use Rattle.chess.specs.declared.board.man.Kind.{Kind}
use Rattle.chess.specs.declared.board.man.Kind.TheVariants.{King, Queen, Rook, Bishop, Knight, Pawn}
use Rattle.chess.specs.declared.board.man.Wing.{Wing}
use Rattle.chess.specs.declared.moves.Move.{Move}
use Rattle.pgn_criteria.specs.Public.MoveTexts.{IsLike, without_check_signs}
use Rattle.pgn_criteria.specs.declared.coded.CodedMove.{CodedMove}

-- no other such man than the one on `from` attacks the square, and of kings there is no other
abbrev pub IsAloneIn : Placement → Man → Place → Place → Type 0
IsAloneIn men man from to = (s : Place) → s ≢ from → man_at men s ≡ Some man
    → (man.kind ≡ King) ⊎ Reaches men man.side man.kind s to → ⊥

-- what is told is that legal move of that position: the move, the man that moves, and whether it
-- takes a man
pub record IsCodedOf (coded : CodedMove) (P : State) (m : Move) : Type 0 where
  pub legal : IsLegal P m
  pub is : coded.m ≡ m
  pub here : man_at P.men m.from ≡ Some coded.man
  pub takes : coded.takes ≡ is_capture P m

-- the file and the rank of a square, as that is asked
abbrev pub origin_of : Bool → Bool → Place → List ℕ
origin_of by_file by_rank s = (if by_file then file_letter s.file ∷ [] else [])
    ++ (if by_rank then rank_digit s.rank ∷ [] else [])

-- the text of a pawn's move, and of a piece's move with that before x and the square
abbrev pub pawn_body : Move → Bool → List ℕ
pawn_body m takes = (if takes then file_letter m.from.file ∷ 120 ∷ [] else [])
    ++ (square_text m.to ++ promotion_text true m.promote)

abbrev pub piece_body : CodedMove → List ℕ → List ℕ
piece_body coded origin =
    kind_letter coded.man.kind
    ∷ (origin ++ ((if coded.takes then 120 ∷ [] else []) ++ square_text coded.m.to))

-- the text of a move that is told, without its check sign
abbrev pub text_of : CodedMove → List ℕ → Option Wing → Kind → List ℕ
text_of coded origin (Some wing) _ = castling_text wing
text_of coded origin None Pawn = pawn_body coded.m coded.takes
text_of coded origin None King = piece_body coded origin
text_of coded origin None Queen = piece_body coded origin
text_of coded origin None Rook = piece_body coded origin
text_of coded origin None Bishop = piece_body coded origin
text_of coded origin None Knight = piece_body coded origin

abbrev pub body_of : CodedMove → List ℕ → List ℕ
body_of coded origin = text_of coded origin coded.m.castle coded.man.kind

-- nothing distinguishes the man in the text of the move
abbrev pub IsPlain : CodedMove → State → Move → Type 0
IsPlain coded P m = (text : List ℕ) → IsSan P m text
    → without_check_signs text ≡ body_of coded []

-- its text with what so distinguishes the man is like the word
abbrev pub Likes : CodedMove → List ℕ → Bool → Bool → Bool → Type 0
Likes coded word f r is =
    IsTrue is ↔ IsLike word (body_of coded (origin_of f r coded.m.from))
