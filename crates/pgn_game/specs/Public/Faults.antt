-- Why a game can't be replayed: the first fault in the order of its text.
use Rattle.std.specs.Prelude.{◌≡◌, ◌≢◌, ◌⊎◌, ℕ, ◌+◌, ◌-◌, Bool, true, false, ◌&&◌, List, [], ◌∷◌}
use Rattle.std.specs.Prelude.{Option}
use Rattle.chess.specs.Public.Positions.{State, IsCheck}
use Rattle.chess.specs.Public.Moves.{after}
use Rattle.chess.specs.Public.San.{IsNamed, IsOnlyNamed}
use Rattle.chess.specs.declared.moves.Move.{Move}
use Rattle.pgn_text.specs.Public.Games.{Item}
use Rattle.pgn_game.specs.Public.MainLines.{main_words}
use Rattle.pgn_game.specs.Public.Starts.{IsStart, IsBadStart}
use Rattle.pgn_game.specs.Public.AllLines.{Line, ThenGlyph, ThenComment, ThenVariation, after_turn}
use Rattle.pgn_game.specs.Public.AllLines.{LineEnd, ThenMove, spelled, is_pass, IsTurn, IsPlayed}
use Rattle.pgn_game.specs.declared.turns.line_move.LineMove.{LineMove}
use Rattle.pgn_game.specs.declared.replays.replayer.Lines.{Lines}
use Rattle.pgn_game.specs.declared.replays.replayer.Lines.TheVariants.{Main, All}

-- a fault of a game
pub data Fault : Type 0 where
  -- the value of its FEN tag is refused
  BadStart : Fault
  -- the word names no legal move, at this ply
  IllegalMove : List ℕ → ℕ → Fault
  -- the word names several legal moves, at this ply
  AmbiguousMove : List ℕ → ℕ → Fault

-- no legal move is named; two are
abbrev pub NamesNone : State → List ℕ → Type 0
NamesNone now word = (m : Move) → IsNamed now word m → ⊥

abbrev pub NamesSeveral : State → List ℕ → Type 0
NamesSeveral now word = (m n : Move) × IsNamed now word m × IsNamed now word n × (m ≢ n)

-- the word, played from a position to which so many plies lead, is reported as this fault: its own
-- ply is one more
abbrev pub IsRefusedWord : State → ℕ → List ℕ → Fault → Type 0
IsRefusedWord now plies word BadStart = ⊥
IsRefusedWord now plies word (IllegalMove reported ply) =
    (reported ≡ word) × (ply ≡ plies + 1) × NamesNone now word
IsRefusedWord now plies word (AmbiguousMove reported ply) =
    (reported ≡ word) × (ply ≡ plies + 1) × NamesSeveral now word

-- the first word that does not name exactly one legal move is reported: those before it are played
abbrev pub IsMoveFault : State → ℕ → List (List ℕ) → Fault → Type 0
IsMoveFault now plies [] fault = ⊥
IsMoveFault now plies (word ∷ words) fault =
    IsRefusedWord now plies word fault
    ⊎ ((m : Move) × IsOnlyNamed now word m × IsMoveFault (after now m) (plies + 1) words fault)

-- the word says nothing that can be played, where it is a pass and where it is none: a pass in
-- check is illegal
abbrev pub RefusesTurn : Bool → State → ℕ → List ℕ → Fault → Type 0
RefusesTurn true now plies word fault =
    IsCheck now.men now.turn × (fault ≡ IllegalMove word (plies + 1))
RefusesTurn false now plies word fault = IsRefusedWord now plies word fault

-- the word of a move, which stands in a variation or not, says nothing that can be played
abbrev pub IsRefusedTurn : Bool → State → ℕ → List ℕ → Fault → Type 0
IsRefusedTurn inside now plies word fault =
    RefusesTurn (inside && is_pass word) now plies word fault

-- the first fault of the line with all its variations, in the order of the text: all that stands
-- before it is played. So many plies lead to `now`, the position that the line is played from; a
-- variation is played from `before`, to which one ply less leads
abbrev pub IsLineFault : Bool → State → State → ℕ → Line → Fault → Type 0
IsLineFault inside before now plies LineEnd fault = ⊥
IsLineFault inside before now plies (ThenMove word rest) fault =
    IsRefusedTurn inside now plies word fault
    ⊎ ((turn : LineMove) × IsTurn inside now word turn
    × IsLineFault inside now (after_turn now turn) (plies + 1) rest fault)
IsLineFault inside before now plies (ThenGlyph number rest) fault =
    IsLineFault inside before now plies rest fault
IsLineFault inside before now plies (ThenComment text rest) fault =
    IsLineFault inside before now plies rest fault
IsLineFault inside before now plies (ThenVariation inner rest) fault =
    IsLineFault true before before (plies - 1) inner fault
    ⊎ ((own : List LineMove) × IsPlayed true before before inner own
    × IsLineFault inside before now plies rest fault)

-- the elements spell a line that has the fault, where it is played from the position
abbrev pub HaveFault : State → List Item → Fault → Type 0
HaveFault start items fault = (line : Line) × (items ≡ spelled line)
    × IsLineFault false start start 0 line fault

-- the first fault of the lines that are replayed: of the main line, or of all lines
abbrev pub HasLineFault : Lines → State → List Item → Fault → Type 0
HasLineFault Main start items fault = IsMoveFault start 0 (main_words items 0) fault
HasLineFault All start items fault = HaveFault start items fault

-- the fault of these lines of a game with these contents of its FEN tag and these elements: a
-- refused start goes before all moves
abbrev pub IsFault : Lines → Option (List ℕ) → List Item → Fault → Type 0
IsFault lines fen items fault =
    (IsBadStart fen × (fault ≡ BadStart))
    ⊎ ((start : State) × IsStart fen start × HasLineFault lines start items fault)
