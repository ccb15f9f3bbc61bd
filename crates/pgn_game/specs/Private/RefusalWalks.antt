-- All lines, or the main line alone, while the first word is sought that is refused. Nothing but
-- the proof of `refused_word` cites these.
use Rattle.std.specs.Prelude.{◌≡◌, ◌⊎◌, ℕ, ◌+◌, ◌≤◌, Bool, true, false, List, [], ◌∷◌, ◌++◌, take}
use Rattle.chess.specs.Public.Positions.{State}
use Rattle.chess.specs.Public.San.{IsNamed}
use Rattle.chess.specs.Public.Squares.{Place}
use Rattle.chess.specs.declared.moves.Move.{Move}
use Rattle.pgn_text.specs.Public.Games.{Item, MoveText}
use Rattle.pgn_game.specs.Private.LineWalks.{is_inside, first_level, Leads}
use Rattle.pgn_game.specs.Public.Refusals.{IsWhy, played_items}
use Rattle.pgn_game.specs.Private.Steps.{Step, Walks, WalksOn, LeadsAt, IsWithin, around}
use Rattle.pgn_game.specs.declared.replays.walk.Level.{Level}
use Rattle.pgn_game.specs.declared.replays.line_stack.LineStack.{LineStack}
use Rattle.pgn_game.specs.declared.explain.Refused.{Refused}
use Rattle.pgn_game.specs.declared.replays.replayer.Lines.{Lines}

-- the element is played, and so would each other word be in its place; or it is not
abbrev pub IsCounted : Lines → Item → ℕ → ℕ → Bool → Type 0
IsCounted lines item old new true =
    ((more : List Item) → played_items lines (item ∷ more) old ≡ item ∷ played_items lines more new)
    × ((word : List ℕ) (more : List Item) → played_items lines (MoveText word ∷ more) old
    ≡ MoveText word ∷ played_items lines more old)
IsCounted lines item old new false = (more : List Item)
    → played_items lines (item ∷ more) old ≡ played_items lines more new

-- the walk went on by the element
pub record GoesOn (old : LineStack Level) (item : Item) (new : LineStack Level) : Type 0 where
  pub walks : (items : List Item) (more : List Step) → WalksOn new items more
      → (steps : List Step) × WalksOn old (item ∷ items) steps
  pub leads : (items : List Item) (inside : Bool) (last : Level) → LeadsAt new items inside last
      → LeadsAt old (item ∷ items) inside last
  pub within : (n : ℕ) → IsWithin n old → IsWithin (n + 1) new

-- its word is refused
pub record IsRefusedHere (old : LineStack Level) (item : Item) (index : ℕ)
    (refused : Refused) : Type 0 where
  pub element : refused.element ≡ index
  pub word : item ≡ MoveText refused.word.now
  pub position : refused.position ≡ old.line.now
  pub why : IsWhy (is_inside (around old)) old.line.now refused.word.now refused.why

-- the elements in front of the index were gone through
pub record IsSearched (lines : Lines) (start : State) (items : List Item) (index : ℕ)
    (stack : LineStack Level) (depth : ℕ) : Type 0 where
  pub walks : (more : List Item) (left : List Step)
      → WalksOn stack (played_items lines more depth) left
      → (steps : List Step)
      × Walks (played_items lines (take index items ++ more) 0) (first_level start) [] steps
  pub leads : (more : List Item) (inside : Bool) (last : Level) → LeadsAt stack more inside last
      → Leads (played_items lines (take index items) 0 ++ more) (first_level start) [] inside last
  pub parted : (more : List Item) → played_items lines (take index items ++ more) 0
      ≡ played_items lines (take index items) 0 ++ played_items lines more depth
  pub within : IsWithin index stack
  pub depth_within : depth ≤ index

-- the legal move that the word names from the square was put after the others, if there is one
abbrev pub AddsFrom : State → List ℕ → Place → List Move → List Move → Type 0
AddsFrom now word s old new =
    ((new ≡ old) × ((m : Move) → m.from ≡ s → IsNamed now word m → ⊥))
    ⊎ ((m : Move) × (new ≡ old ++ m ∷ []) × (m.from ≡ s) × IsNamed now word m
    × ((n : Move) → n.from ≡ s → IsNamed now word n → n ≡ m))
