-- At which word of a game its replay ends, and why.
use Rattle.std.specs.Prelude.{◌≡◌, ◌↔◌, ℕ, ◌+◌, ◌-◌, Bool, true, false, ◌&&◌, IsTrue, List, [], ◌∷◌}
use Rattle.std.specs.Prelude.{◌++◌, map, take, Option, Some}
use Rattle.std.specs.List.{slice_get, Contains}
use Rattle.std.specs.List.Sorted.{IsStrictlyIncreasing}
use Rattle.chess.specs.Public.Squares.{index_of}
use Rattle.chess.specs.Public.Positions.{State, IsCheck}
use Rattle.chess.specs.Public.San.{IsNamed}
use Rattle.chess.specs.declared.moves.Move.{Move}
use Rattle.chess.specs.Public.Refusals.{IsRefusal}
use Rattle.pgn_text.specs.Public.Games.{Item, MoveText, GlyphNumber, CommentText, VariationOpen}
use Rattle.pgn_text.specs.Public.Games.{VariationClose}
use Rattle.pgn_text.specs.Public.GameTexts.{IsPaired}
use Rattle.pgn_game.specs.Public.MainLines.{main_words}
use Rattle.pgn_game.specs.Public.AllLines.{is_pass, IsTurn, after_turn}
use Rattle.pgn_game.specs.Public.Faults.{Fault, NamesNone, NamesSeveral, IsRefusedTurn}
use Rattle.pgn_game.specs.Public.Faults.{HasLineFault}
use Rattle.pgn_game.specs.Public.Starts.{IsStart}
use Rattle.pgn_game.specs.declared.explain.Refused.{Refused}
use Rattle.pgn_game.specs.declared.explain.Why.{Why}
use Rattle.pgn_game.specs.declared.explain.Why.TheVariants.{PassInCheck, Ambiguous, Illegal}
use Rattle.pgn_game.specs.declared.replays.replayer.Lines.{Lines}
use Rattle.pgn_game.specs.declared.replays.replayer.Lines.TheVariants.{Main, All}
use Rattle.pgn_game.specs.declared.turns.line_move.LineMove.{LineMove}

-- why the word is refused in the position, in a variation or not
abbrev pub IsWhy : Bool → State → List ℕ → Why → Type 0
IsWhy inside now word PassInCheck = IsTrue (inside && is_pass word) × IsCheck now.men now.turn
IsWhy inside now word Ambiguous = NamesSeveral now word
IsWhy inside now word (Illegal refusal) = NamesNone now word × IsRefusal now word refusal

-- the elements that are played where these lines are replayed and so many variations are open: of
-- the main line its moves
abbrev pub played_items : Lines → List Item → ℕ → List Item
played_items All items depth = items
played_items Main items depth = map (λ word. MoveText word) (main_words items depth)

-- a line as far as it is played: the position before its last turn, the one after it, in which its
-- next word is played, and the plies that lead to the latter. Before the first turn both are the
-- position that the line is played from
pub record PlayedLine : Type 0 where
  pub before : State
  pub now : State
  pub plies : ℕ

-- the line after a turn; a variation as it begins, which stands for the last turn; and the main
-- line as it begins
abbrev pub after_move : PlayedLine → LineMove → PlayedLine
after_move line turn =
    record { before = line.now; now = after_turn line.now turn; plies = line.plies + 1 }

abbrev pub in_its_place : PlayedLine → PlayedLine
in_its_place line = record { before = line.before; now = line.before; plies = line.plies - 1 }

abbrev pub main_line : State → PlayedLine
main_line start = record { before = start; now = start; plies = 0 }

-- the lines around one, the innermost first: where there is one, that one is a variation
abbrev pub is_variation : List PlayedLine → Bool
is_variation [] = false
is_variation (line ∷ outer) = true

-- where a line is played so far, and these lines around it, the elements lead to that line, which
-- is a variation or not: each word is a turn in the position that the words before it lead to, and
-- after the end of a variation the line around it goes on
abbrev pub LeadTo : List Item → PlayedLine → List PlayedLine → Bool → PlayedLine → Type 0
LeadTo [] line outer inside last = (inside ≡ is_variation outer) × (last ≡ line)
LeadTo (MoveText word ∷ items) line outer inside last =
    (turn : LineMove) × IsTurn (is_variation outer) line.now word turn
    × LeadTo items (after_move line turn) outer inside last
LeadTo (GlyphNumber number ∷ items) line outer inside last = LeadTo items line outer inside last
LeadTo (CommentText text ∷ items) line outer inside last = LeadTo items line outer inside last
LeadTo (VariationOpen ∷ items) line outer inside last =
    LeadTo items (in_its_place line) (line ∷ outer) inside last
LeadTo (VariationClose ∷ items) line [] inside last = LeadTo items line [] inside last
LeadTo (VariationClose ∷ items) line (next ∷ outer) inside last =
    LeadTo items next outer inside last

-- a word in the place of the element with that index would be played: where the main line alone is,
-- it stands in no variation
abbrev pub IsPlayedThere : Lines → List Item → ℕ → Type 0
IsPlayedThere lines items index =
    (word : List ℕ) → played_items lines (take index items ++ MoveText word ∷ []) 0
    ≡ played_items lines (take index items) 0 ++ MoveText word ∷ []

-- played from the start, the elements in front of that index lead to the line, which is a variation
-- or not; and a word that stood there would be played in it
abbrev pub IsReached : Lines → State → List Item → ℕ → Bool → PlayedLine → Type 0
IsReached lines start items index inside line =
    LeadTo (played_items lines (take index items) 0) (main_line start) [] inside line
    × IsPlayedThere lines items index

-- played from the start, these lines of the elements have this first word that is refused, in the
-- position that the words before it lead to
pub record IsRefusedFrom (lines : Lines) (start : State) (items : List Item)
    (refused : Refused) : Type 0 where
  pub here : slice_get items refused.element ≡ Some (MoveText refused.word.now)
  pub inside : Bool
  pub line : PlayedLine
  pub reached : IsReached lines start items refused.element inside line
  pub position : refused.position ≡ line.now
  pub why : IsWhy inside line.now refused.word.now refused.why

-- these lines of the game with these contents of its FEN tag and these elements have this first
-- word that is refused
abbrev pub IsRefusedAt : Lines → Option (List ℕ) → List Item → Refused → Type 0
IsRefusedAt lines fen items refused = (start : State) × IsStart fen start
    × IsRefusedFrom lines start items refused

-- the moves are just those that the word names in the position, in the order of the squares from
-- which they go: a1, b1 to h1, a2 and so on
pub record AreNamed (now : State) (word : List ℕ) (moves : List Move) : Type 0 where
  pub each : (m : Move) → IsNamed now word m ↔ Contains moves m
  pub ascending : IsStrictlyIncreasing (map (λ m. index_of m.from) moves)

-- the elements in front of an index lead to one line alone
abbrev pub OneLineIsReached : Type 0
OneLineIsReached =
    (lines : Lines) (start : State) (items : List Item) (index : ℕ) (inside within : Bool)
    (line other : PlayedLine)
    → IsReached lines start items index inside line → IsReached lines start items index within other
    → (inside ≡ within) × (line ≡ other)

-- whatever word stands at an index and is refused in the position that is reached there is the
-- fault of the game, whatever stands after it
abbrev pub RefusedWordIsTheFault : Type 0
RefusedWordIsTheFault =
    (lines : Lines) (start : State) (items : List Item) (index : ℕ) (inside : Bool)
    (line : PlayedLine)
    → IsReached lines start items index inside line
    → (word : List ℕ) (more : List Item) (fault : Fault)
    → IsPaired 0 (take index items ++ MoveText word ∷ more)
    → IsRefusedTurn inside line.now line.plies word fault
    → HasLineFault lines start (take index items ++ MoveText word ∷ more) fault
