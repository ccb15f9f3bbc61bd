-- The main line while it is played: what is left of the elements completes the whole. Nothing but
-- the proof of the replay cites these.
use Rattle.std.specs.Prelude.{◌≡◌, ◌+◌, List, [], ◌∷◌, ◌++◌, length, ℕ, Option, Some, None, IfSome}
use Rattle.chess.specs.Public.Positions.{State}
use Rattle.chess.specs.Public.Moves.{after}
use Rattle.chess.specs.Public.San.{IsOnlyNamed}
use Rattle.chess.specs.declared.moves.Move.{Move}
use Rattle.pgn_text.specs.Public.Games.{Item}
use Rattle.pgn_game.specs.Public.MainLines.{main_words, IsMainLine}
use Rattle.pgn_game.specs.Public.Faults.{Fault, IsMoveFault}
use Rattle.pgn_game.specs.Public.Replays.{fault_of}
use Rattle.pgn_game.specs.declared.turns.fault.GameFault.{GameFault}
use Rattle.pgn_game.specs.declared.replays.main_line.LineKeeper.{LineKeeper}
use Rattle.pgn_game.specs.declared.replays.main_line.MainWalk.{MainWalk}

-- a main line of so many plies is played from the position by the words
abbrev pub HasLinePlies : State → List (List ℕ) → ℕ → Type 0
HasLinePlies start words plies = (positions : List State) × (played : List Move)
    × IsMainLine start words positions played × (length played ≡ plies)

-- the element is the next move of the main line, and is played
pub record HasPlayed (old new : MainWalk) (item : Item) (m : Move) : Type 0 where
  pub word : List ℕ
  pub words : (items : List Item) → main_words (item ∷ items) old.depth
      ≡ word ∷ main_words items new.depth
  pub named : IsOnlyNamed old.position word m
  pub position : new.position ≡ after old.position m
  pub plies : new.plies ≡ old.plies + 1

-- the element is no move of the main line
pub record HasPassed (old new : MainWalk) (item : Item) : Type 0 where
  pub words : (items : List Item) → main_words (item ∷ items) old.depth ≡ main_words items new.depth
  pub position : new.position ≡ old.position
  pub plies : new.plies ≡ old.plies

-- the walk went on by the element, and answers the move that it played
abbrev pub HasStepped : MainWalk → MainWalk → Item → Option Move → Type 0
HasStepped old new item None = HasPassed old new item
HasStepped old new item (Some m) = HasPlayed old new item m

-- the walk can't go on by the element: it has the fault, whatever follows
abbrev pub IsStuck : MainWalk → Item → GameFault → Type 0
IsStuck walk item fault = (items : List Item)
    → IfSome (fault_of fault)
    (IsMoveFault walk.position walk.plies (main_words (item ∷ items) walk.depth))

-- played from the start, the first of the words led through these positions by these moves to the
-- walk's position, and what is left of the elements completes the whole
pub record HasWalked (start : State) (words : List (List ℕ)) (walk : MainWalk)
    (positions : List State) (played : List Move) (items : List Item) : Type 0 where
  pub count : length played ≡ walk.plies
  pub completes : (later : List State) (more : List Move)
      → IsMainLine walk.position (main_words items walk.depth) later more
      → IsMainLine start words (positions ++ later) (played ++ more)
  pub faults : (fault : Fault)
      → IsMoveFault walk.position walk.plies (main_words items walk.depth) fault
      → IsMoveFault start 0 words fault

-- all positions and moves are kept so far: they are the line of the first words
pub record KeepsLine (start : State) (words : List (List ℕ)) (line : LineKeeper)
    (items : List Item) : Type 0 where
  pub before : List State
  pub positions : line.positions.items ≡ before ++ line.walk.position ∷ []
  pub walked : HasWalked start words line.walk before line.played.items items
  pub first : List (List ℕ)
  pub parted : words ≡ first ++ main_words items line.walk.depth
  pub beginning : IsMainLine start first line.positions.items line.played.items
