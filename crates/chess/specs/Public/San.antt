-- Move texts: which moves a text names, and the one text of a move in standard algebraic notation
-- (PGN 8.2.3).
use Rattle.std.specs.Prelude.{◌≡◌, ◌≢◌, ◌⊎◌, ℕ, ◌≤◌, Bool, true, if◌then◌else◌, List, [], ◌∷◌, ◌++◌}
use Rattle.std.specs.Prelude.{codes, Option, Some, None, IfSome, is_some, IsTrue}
use Rattle.std.specs.List.{list_all}
use Rattle.chess.specs.Public.Squares.{Place, IsOnBoard}
use Rattle.chess.specs.Public.Placements.{man_at}
use Rattle.chess.specs.Public.Positions.{State, IsCheck}
use Rattle.chess.specs.Public.Moves.{IsPromotionKind, capture_square, after, IsLegal, CanGo, IsMate}
use Rattle.chess.specs.Public.Letters.{kind_letter, file_letter, rank_digit, square_text}
use Rattle.chess.specs.Public.Letters.{is_check_sign, is_sign}
use Rattle.chess.specs.declared.board.man.Man.{Man}
use Rattle.chess.specs.declared.board.man.Kind.{Kind}
use Rattle.chess.specs.declared.board.man.Kind.TheVariants.{King, Queen, Rook, Bishop, Knight, Pawn}
use Rattle.chess.specs.declared.board.man.Wing.{Wing}
use Rattle.chess.specs.declared.board.man.Wing.TheVariants.{KingSide, QueenSide}
use Rattle.chess.specs.declared.moves.Move.{Move}

-- what a move text that is not castling says
pub record Said : Type 0 where
  pub letter : Option Kind
  pub file : Option ℕ
  pub rank : Option ℕ
  pub target : Place
  pub promote : Option Kind

-- a letter, a file, a rank: nothing where none is given
abbrev pub letter_text : Option Kind → List ℕ
letter_text None = []
letter_text (Some kind) = kind_letter kind ∷ []

abbrev pub file_text : Option ℕ → List ℕ
file_text None = []
file_text (Some file) = file_letter file ∷ []

abbrev pub rank_text : Option ℕ → List ℕ
rank_text None = []
rank_text (Some rank) = rank_digit rank ∷ []

-- a promotion: the letter, with or without = before it
abbrev pub promotion_text : Bool → Option Kind → List ℕ
promotion_text equals None = []
promotion_text equals (Some kind) = (if equals then 61 ∷ [] else []) ++ kind_letter kind ∷ []

-- a file or rank of the board
abbrev pub IsFileOrRank : ℕ → Type 0
IsFileOrRank n = (1 ≤ n) × (n ≤ 8)

-- the text: an optional letter, file, rank and one of x : - , the target, an optional promotion,
-- any number of + and # (PGN 8.2.3.2 to 8.2.3.5)
pub record Spells (x : List ℕ) (said : Said) : Type 0 where
  pub file : IfSome said.file IsFileOrRank
  pub rank : IfSome said.rank IsFileOrRank
  pub target : IsOnBoard said.target
  pub promote : IfSome said.promote IsPromotionKind
  pub sign : List ℕ
  pub sign_is : (sign ≡ []) ⊎ ((b : ℕ) × IsTrue (is_sign b) × (sign ≡ b ∷ []))
  pub equals : Bool
  pub marks : List ℕ
  pub marks_are : IsTrue (list_all is_check_sign marks)
  pub text : x ≡ letter_text said.letter ++ (file_text said.file ++ (rank_text said.rank
      ++ (sign ++ (square_text said.target ++ (promotion_text equals said.promote ++ marks)))))

-- castling is written with the letter O (PGN 8.2.3.3)
abbrev pub castling_text : Wing → List ℕ
castling_text KingSide = codes "O-O"
castling_text QueenSide = codes "O-O-O"

-- it is read with the letter O or with zeros
abbrev pub castling_with_zeros : Wing → List ℕ
castling_with_zeros KingSide = codes "0-0"
castling_with_zeros QueenSide = codes "0-0-0"

-- the text of castling on a wing, and any number of + and #
abbrev pub IsCastlingText : Wing → List ℕ → Type 0
IsCastlingText wing x = (marks : List ℕ) × IsTrue (list_all is_check_sign marks)
    × ((x ≡ castling_text wing ++ marks) ⊎ (x ≡ castling_with_zeros wing ++ marks))

-- the kind of man that a text speaks of: a pawn without a letter
abbrev pub kind_said : Option Kind → Kind
kind_said None = Pawn
kind_said (Some kind) = kind

-- the move agrees with what the text says (the sign and the marks are not compared with the board)
pub record Agrees (P : State) (said : Said) (m : Move) : Type 0 where
  pub not_castling : m.castle ≡ None
  pub man : Man
  pub here : man_at P.men m.from ≡ Some man
  pub kind : man.kind ≡ kind_said said.letter
  pub target : m.to ≡ said.target
  pub file : IfSome said.file (λ file. m.from.file ≡ file)
  pub rank : IfSome said.rank (λ rank. m.from.rank ≡ rank)
  -- a promotion that is not given names only moves without one
  pub promote : m.promote ≡ said.promote
  -- a pawn's move that gives no file stays on its file
  pub stays : man.kind ≡ Pawn → said.file ≡ None → m.from.file ≡ m.to.file

-- the text names the move, which is legal
pub record IsNamed (P : State) (x : List ℕ) (m : Move) : Type 0 where
  pub legal : IsLegal P m
  pub by : ((wing : Wing) × IsCastlingText wing x × (m.castle ≡ Some wing))
      ⊎ ((said : Said) × Spells x said × Agrees P said m)

-- the text names this move and no other
pub record IsOnlyNamed (P : State) (x : List ℕ) (m : Move) : Type 0 where
  pub named : IsNamed P x m
  pub only : (n : Move) → IsNamed P x n → n ≡ m

-- another man of the same kind and side that has a legal move to the same square (so a pinned man
-- does not count)
pub record IsRival (P : State) (m : Move) (s : Place) : Type 0 where
  pub other : s ≢ m.from
  pub alike : man_at P.men s ≡ man_at P.men m.from
  pub goes : CanGo P s m.to

-- some such man has what is asked of its square
abbrev pub HasRival : State → Move → (Place → Type 0) → Type 0
HasRival P m Asked = (s : Place) × IsRival P m s × Asked s

-- what distinguishes the man from its rivals: nothing where there is none; the file where no rival
-- stands on it; else the rank where no rival stands on it; else both (PGN 8.2.3.4)
pub data IsDisambiguation (P : State) (m : Move) : List ℕ → Type 0 where
  alone : ¬ HasRival P m (λ s. Unit {0}) → IsDisambiguation P m []
  by_file : HasRival P m (λ s. Unit {0}) → ¬ HasRival P m (λ s. s.file ≡ m.from.file)
      → IsDisambiguation P m (file_letter m.from.file ∷ [])
  by_rank : HasRival P m (λ s. s.file ≡ m.from.file) → ¬ HasRival P m (λ s. s.rank ≡ m.from.rank)
      → IsDisambiguation P m (rank_digit m.from.rank ∷ [])
  by_both : HasRival P m (λ s. s.file ≡ m.from.file) → HasRival P m (λ s. s.rank ≡ m.from.rank)
      → IsDisambiguation P m (square_text m.from)

-- the move takes a man, also en passant
abbrev pub is_capture : State → Move → Bool
is_capture P m = is_some (man_at P.men (capture_square P m))

-- x before the target of a capture
abbrev pub capture_text : State → Move → List ℕ
capture_text P m = if is_capture P m then 120 ∷ [] else []

-- a pawn that takes gives its file
abbrev pub pawn_text : State → Move → List ℕ
pawn_text P m = (if is_capture P m then file_letter m.from.file ∷ 120 ∷ [] else [])
    ++ (square_text m.to ++ promotion_text true m.promote)

-- the text of a piece's move without its check sign: its letter, what distinguishes it from its
-- rivals, x for a capture, the square (PGN 8.2.3.2 to 8.2.3.4)
abbrev pub IsPieceText : State → Move → Kind → List ℕ → Type 0
IsPieceText P m kind x = (origin : List ℕ) × IsDisambiguation P m origin
    × (x ≡ kind_letter kind ∷ (origin ++ (capture_text P m ++ square_text m.to)))

-- the text of a move of that kind of man, without its check sign (PGN 8.2.3.2 to 8.2.3.5)
abbrev pub IsBody : State → Move → Option Wing → Kind → List ℕ → Type 0
IsBody P m (Some wing) _ x = x ≡ castling_text wing
IsBody P m None Pawn x = x ≡ pawn_text P m
IsBody P m None King x = IsPieceText P m King x
IsBody P m None Queen x = IsPieceText P m Queen x
IsBody P m None Rook x = IsPieceText P m Rook x
IsBody P m None Bishop x = IsPieceText P m Bishop x
IsBody P m None Knight x = IsPieceText P m Knight x

-- the mark after a move, of the position after it: # for mate, + for a check that is no mate, else
-- none, also for stalemate (PGN 8.2.3.5)
pub data IsCheckSign (P : State) : List ℕ → Type 0 where
  mate : IsMate P → IsCheckSign P (35 ∷ [])
  check : IsCheck P.men P.turn → ¬ IsMate P → IsCheckSign P (43 ∷ [])
  quiet : ¬ IsCheck P.men P.turn → IsCheckSign P []

-- the standard text of a legal move
pub record IsSan (P : State) (m : Move) (x : List ℕ) : Type 0 where
  pub man : Man
  pub here : man_at P.men m.from ≡ Some man
  pub body : List ℕ
  pub body_is : IsBody P m m.castle man.kind body
  pub mark : List ℕ
  pub mark_is : IsCheckSign (after P m) mark
  pub text : x ≡ body ++ mark
