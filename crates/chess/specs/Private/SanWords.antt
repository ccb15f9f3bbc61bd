-- What the reader of move texts knows on its way: the bytes of a text by their classes, from its
-- end.
use Rattle.std.specs.Prelude.{◌≡◌, ◌↔◌, ◌⊎◌, ◌≢◌, ℕ, ◌-◌, Bool, true, ◌||◌, ◌&&◌, ◌==◌, ltb}
use Rattle.std.specs.Prelude.{if◌then◌else◌, List, [], ◌∷◌, ◌++◌, IsTrue, Option, Some, None}
use Rattle.std.specs.Prelude.{IfSome, MatchOption, is_some, option_map}
use Rattle.std.specs.List.{list_all}
use Rattle.chess.specs.Public.Squares.{Place, IsOnBoard}
use Rattle.chess.specs.Public.Placements.{man_at}
use Rattle.chess.specs.Public.Positions.{State, king_from, king_to}
use Rattle.chess.specs.Public.Moves.{IsPseudoLegal, IsLegal}
use Rattle.chess.specs.Public.Letters.{is_check_sign, is_sign}
use Rattle.chess.specs.Public.San.{Said, Spells, Agrees, kind_said, castling_text}
use Rattle.chess.specs.Public.San.{castling_with_zeros}
use Rattle.chess.specs.Public.Sets.{Places, is_in}
use Rattle.chess.specs.declared.board.man.Man.{Man}
use Rattle.chess.specs.declared.board.man.Kind.{Kind}
use Rattle.chess.specs.declared.board.man.Kind.TheVariants.{King, Queen, Rook, Bishop, Knight, Pawn}
use Rattle.chess.specs.declared.board.man.Side.{Side}
use Rattle.chess.specs.declared.board.man.Wing.{Wing}
use Rattle.chess.specs.declared.moves.Move.{Move}
use Rattle.chess.specs.declared.move_text.read.parse.ByteClass.{ByteClass}
use Rattle.chess.specs.declared.move_text.read.parse.ByteClass.TheVariants.{Sign, Digit, FileLetter}
use Rattle.chess.specs.declared.move_text.read.parse.ByteClass.TheVariants.{KindLetter, Equals}
use Rattle.chess.specs.declared.move_text.read.parse.ByteClass.TheVariants.{PromotionLetter}
use Rattle.chess.specs.declared.move_text.read.parse.ParsedSan.{ParsedSan}

-- the kind of that letter
abbrev pub kind_of : ℕ → Option Kind
kind_of b = if b == 75 then Some King else if b == 81 then Some Queen else if b == 82 then Some Rook
    else if b == 66 then Some Bishop
    else if b == 78 then Some Knight else if b == 80 then Some Pawn else None

-- the byte is of the class
abbrev pub is_of : ByteClass → ℕ → Bool
is_of Sign b = is_sign b
is_of Digit b = ltb 48 b && ltb b 57
is_of FileLetter b = ltb 96 b && ltb b 105
is_of KindLetter b = is_some (kind_of b)
is_of Equals b = b == 61
is_of PromotionLetter b = (b == 81 || b == 82) || (b == 66 || b == 78)

-- of a text from its end: the last byte if it is of the class, and what stands before it
abbrev pub last_of : ByteClass → List ℕ → Option ℕ
last_of class [] = None
last_of class (b ∷ y) = if is_of class b then Some b else None

abbrev pub before_last : ByteClass → List ℕ → List ℕ
before_last class [] = []
before_last class (b ∷ y) = if is_of class b then y else b ∷ y

-- without the signs of check and mate
abbrev pub unmarked : List ℕ → List ℕ
unmarked [] = []
unmarked (b ∷ y) = if is_check_sign b then unmarked y else b ∷ y

-- what stands before a promotion's =
abbrev pub before_equals : Option ℕ → List ℕ → List ℕ
before_equals None y = y
before_equals (Some b) y = before_last Equals y

-- what stands before each part, from the end: the promotion, the target's rank and file, the sign,
-- the rank, the file, the letter
abbrev pub stem : List ℕ → List ℕ
stem y =
    before_equals (last_of PromotionLetter (unmarked y)) (before_last PromotionLetter (unmarked y))

abbrev pub after_target_rank : List ℕ → List ℕ
after_target_rank y = before_last Digit (stem y)

abbrev pub after_target : List ℕ → List ℕ
after_target y = before_last FileLetter (after_target_rank y)

abbrev pub after_sign : List ℕ → List ℕ
after_sign y = before_last Sign (after_target y)

abbrev pub after_rank : List ℕ → List ℕ
after_rank y = before_last Digit (after_sign y)

abbrev pub after_file : List ℕ → List ℕ
after_file y = before_last FileLetter (after_rank y)

abbrev pub after_letter : List ℕ → List ℕ
after_letter y = before_last KindLetter (after_file y)

abbrev pub kind_given : Option ℕ → Option Kind
kind_given None = None
kind_given (Some b) = kind_of b

abbrev pub number_given : Option ℕ → ℕ → Option ℕ
number_given None start = None
number_given (Some b) start = Some (b - start)

-- from its end, nothing is left but a letter or nothing: its kind; or something else is left
abbrev pub IsWholeLetter : List ℕ → Option (Option Kind) → Type 0
IsWholeLetter y result = MatchOption result (before_last KindLetter y ≢ [])
    (λ letter. (before_last KindLetter y ≡ []) × (letter ≡ kind_given (last_of KindLetter y)))

-- what the reader found, as what a text says
abbrev pub said_by : ParsedSan → Said
said_by r =
    record {
      letter = r.letter;
      file = r.file;
      rank = r.rank;
      target = r.target;
      promote =
          r.promote;
    }

-- the text says this alone; or it says nothing
abbrev pub IsReadSaid : List ℕ → Option ParsedSan → Type 0
IsReadSaid x result = (said : Said) → Spells x said ↔ (option_map said_by result ≡ Some said)

-- a letter or none, a file and a rank are such bytes, and say this
abbrev pub SaysPlainly : Option ℕ → ℕ → ℕ → ParsedSan → Type 0
SaysPlainly letter file rank r = IfSome letter (λ b. is_of KindLetter b ≡ true)
    × (is_of FileLetter file ≡ true) × (is_of Digit rank ≡ true)
    × (said_by r ≡ record {
      letter = kind_given letter;
      file = None;
      rank = None;
      target = record { file = file - 96; rank = rank - 48 };
      promote = None;
    })

-- a file and a target are such bytes, and say this of a pawn that takes
abbrev pub SaysPawnTakes : ℕ → ℕ → ℕ → ParsedSan → Type 0
SaysPawnTakes from file rank r = (is_of FileLetter from ≡ true) × (is_of FileLetter file ≡ true)
    × (is_of Digit rank ≡ true)
    × (said_by r ≡ record {
      letter = None;
      file = Some (from - 96);
      rank = None;
      target = record { file = file - 96; rank = rank - 48 };
      promote = None;
    })

-- the first text is the second with signs of check and mate after it
abbrev pub IsBeforeCheckSigns : List ℕ → List ℕ → Type 0
IsBeforeCheckSigns x y = (marks : List ℕ) × IsTrue (list_all is_check_sign marks) × (x ≡ y ++ marks)

-- the move of a man on s that the text speaks of
abbrev pub move_from : Said → Place → Move
move_from said s = record { from = s; to = said.target; promote = said.promote; castle = None }

-- the text of castling on the wing, without marks
abbrev pub IsCastlingStem : Wing → List ℕ → Type 0
IsCastlingStem wing stem = (stem ≡ castling_text wing) ⊎ (stem ≡ castling_with_zeros wing)

-- castling of the side on the wing
abbrev pub castling_on : Side → Wing → Move
castling_on side wing =
    record { from = king_from side; to = king_to side wing; promote = None; castle = Some wing }

-- the man that is spoken of
abbrev pub man_said : State → Said → Man
man_said P said = record { side = P.turn; kind = kind_said said.letter }

-- the square has the file and the rank that are said
abbrev pub IsAsked : Said → Place → Type 0
IsAsked said s = IfSome said.file (λ file. s.file ≡ file) × IfSome said.rank (λ rank. s.rank ≡ rank)

-- another file is said than the target's
abbrev pub ChangesFile : Said → Type 0
ChangesFile said = (n : ℕ) × (said.file ≡ Some n) × (n ≢ said.target.file)

-- the man on s is the one that is spoken of, and may go so, whether or not his king is then
-- attacked
pub record IsCandidate (P : State) (said : Said) (s : Place) : Type 0 where
  pub here : man_at P.men s ≡ Some (man_said P said)
  pub asked : IsAsked said s
  pub stays : kind_said said.letter ≡ Pawn → said.file ≡ None → s.file ≡ said.target.file
  pub rules : IsPseudoLegal P (move_from said s)

-- the move from s that the text speaks of is legal
abbrev pub CanGoSaid : State → Said → Place → Type 0
CanGoSaid P said s = IsLegal P (move_from said s)

-- a square of the set that fits was taken out, with some that do not fit; or none fits
pub record IsNext (fact : Place → Type 0) (old new : Places) (t : Place) : Type 0 where
  pub on_board : IsOnBoard t
  pub here : is_in old t ≡ true
  pub fits : fact t
  pub each : (s : Place) → IsOnBoard s → is_in old s ≡ true → fact s → s ≢ t → is_in new s ≡ true
  pub within : (s : Place) → IsOnBoard s → is_in new s ≡ true → (is_in old s ≡ true) × (s ≢ t)

abbrev pub HasNone : (Place → Type 0) → Places → Type 0
HasNone fact old = (s : Place) → IsOnBoard s → is_in old s ≡ true → fact s → ⊥

-- a legal move that castles on the wing; one that agrees with what is said
abbrev pub IsCastlingOn : State → Wing → Move → Type 0
IsCastlingOn P wing m = IsLegal P m × (m.castle ≡ Some wing)

abbrev pub IsMoveSaid : State → Said → Move → Type 0
IsMoveSaid P said m = IsLegal P m × Agrees P said m
