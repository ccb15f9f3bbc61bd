-- The line of a game while it is written: what is left of the moves completes the whole. Nothing
-- but its proof cites these.
use Rattle.std.specs.Prelude.{◌≡◌, ◌+◌, ℕ, Bool, List, [], ◌∷◌, ◌++◌}
use Rattle.chess.specs.Public.Positions.{State}
use Rattle.chess.specs.Public.Moves.{after}
use Rattle.chess.specs.Public.San.{IsOnlyNamed}
use Rattle.chess.specs.declared.moves.Move.{Move}
use Rattle.pgn_text.specs.Public.Games.{Item, MoveText, GlyphNumber, CommentText, VariationOpen}
use Rattle.pgn_text.specs.Public.Games.{VariationClose}
use Rattle.pgn_game.specs.Public.AllLines.{IsTurn, after_turn}
use Rattle.pgn_game.specs.Public.Faults.{Fault, IsMoveFault}
use Rattle.pgn_game.specs.Public.GameLines.{AreTurnTexts, IsMoveText, IsTurnIn}
use Rattle.pgn_game.specs.Public.MainLines.{main_words}
use Rattle.pgn_game.specs.declared.replays.main_line.MainWalk.{MainWalk}
use Rattle.pgn_game.specs.declared.exports.notation.Notation.{Notation}
use Rattle.pgn_game.specs.declared.turns.line_move.LineMove.{LineMove}

-- the words are played from the position, and the moves that they name written one after another
abbrev pub AreWritten : Notation → State → List (List ℕ) → List ℕ → Type 0
AreWritten notation now [] text = text ≡ []
AreWritten notation now (word ∷ words) text =
    (m : Move) × (own : List ℕ) × (rest : List ℕ) × (text ≡ 32 ∷ own ++ rest)
    × IsOnlyNamed now word m × IsMoveText notation now m own
    × AreWritten notation (after now m) words rest

-- the word is played and its move written
pub record PutsMove (notation : Notation) (old new : MainWalk) (word before written : List ℕ) : Type
    0 where
  pub m : Move
  pub own : List ℕ
  pub named : IsOnlyNamed old.position word m
  pub spells : IsMoveText notation old.position m own
  pub position : new.position ≡ after old.position m
  pub plies : new.plies ≡ old.plies + 1
  pub depth : new.depth ≡ old.depth
  pub put : written ≡ before ++ 32 ∷ own

-- the walk went on by the element: what the others are written as stands after what is added, and
-- their fault is met after it
pub record PutsElement (notation : Notation) (old new : MainWalk) (item : Item)
    (before after : List ℕ) : Type 0 where
  pub own : List ℕ
  pub put : after ≡ before ++ own
  pub completes : (items : List Item) (rest : List ℕ)
      → AreWritten notation new.position (main_words items new.depth) rest
      → AreWritten notation old.position (main_words (item ∷ items) old.depth) (own ++ rest)
  pub faults : (items : List Item) (fault : Fault)
      → IsMoveFault new.position new.plies (main_words items new.depth) fault
      → IsMoveFault old.position old.plies (main_words (item ∷ items) old.depth) fault

-- so far the walk wrote a beginning of the whole
pub record HasPutSome (notation : Notation) (start : State) (words : List (List ℕ))
    (walk : MainWalk) (before after : List ℕ) (items : List Item) : Type 0 where
  pub own : List ℕ
  pub put : after ≡ before ++ own
  pub completes : (rest : List ℕ)
      → AreWritten notation walk.position (main_words items walk.depth) rest
      → AreWritten notation start words (own ++ rest)
  pub faults : (fault : Fault)
      → IsMoveFault walk.position walk.plies (main_words items walk.depth) fault
      → IsMoveFault start 0 words fault

-- the words of the moves among the elements
abbrev pub words_in : List Item → List (List ℕ)
words_in [] = []
words_in (MoveText word ∷ items) = word ∷ words_in items
words_in (GlyphNumber number ∷ items) = words_in items
words_in (CommentText text ∷ items) = words_in items
words_in (VariationOpen ∷ items) = words_in items
words_in (VariationClose ∷ items) = words_in items

-- each of the words says a turn that can be taken after those before it
abbrev pub AreSaid : Bool → State → List (List ℕ) → Type 0
AreSaid inside now [] = Unit {0}
AreSaid inside now (word ∷ words) =
    (turn : LineMove) × IsTurn inside now word turn × AreSaid inside (after_turn now turn) words

-- the word is played, in a variation or not, and its turn written
pub record PutsTurn (notation : Notation) (inside : Bool) (old new : State)
    (word before written : List ℕ) : Type 0 where
  pub turn : LineMove
  pub own : List ℕ
  pub says : IsTurn inside old word turn
  pub spells : IsTurnIn notation old turn own
  pub position : new ≡ after_turn old turn
  pub put : written ≡ before ++ 32 ∷ own

-- so far a beginning of the turns is written, and the others can be taken
pub record HasPutTurns (notation : Notation) (inside : Bool) (start : State)
    (words : List (List ℕ)) (now : State) (items : List Item) (before after : List ℕ) : Type 0 where
  pub own : List ℕ
  pub put : after ≡ before ++ own
  pub completes : (rest : List ℕ) → AreTurnTexts notation inside now (words_in items) rest
      → AreTurnTexts notation inside start words (own ++ rest)
  pub said : AreSaid inside now (words_in items)
