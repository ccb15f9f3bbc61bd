-- Private words: what the writer of a record adds, step by step.
use Rattle.std.specs.Prelude.{◌≡◌, ℕ, ◌+◌, ◌*◌, ◌^◌, ◌<◌, ◌≤◌, Bool, true, List, ◌++◌, take}
use Rattle.std.specs.Prelude.{length, IsTrue, ltb, Option, Some}
use Rattle.std.specs.Cmp.Lexicographic.{slice_cmp}
use Rattle.std.specs.List.{flat_map, slice_get}
use Rattle.std.specs.List.Sorted.{IsStrictlySortedBy}
use Rattle.std.specs.Int.{w32, w64, to_be_bytes}
use Rattle.std.specs.Ordering.{nat_cmp}
use Rattle.chess.specs.Public.Moves.{HasMove}
use Rattle.chess.specs.Public.Positions.{State}
use Rattle.chess.specs.declared.moves.Move.{Move}
use Rattle.pgn_text.specs.Public.Games.{Item}
use Rattle.pgn_text.specs.Public.GameTexts.{GameText, IsResult, tag_names}
use Rattle.pgn_game.specs.Public.MainLines.{main_words, IsMainLine}
use Rattle.pgn_game.specs.Public.PlyCodes.{PlyCode, AreCodes, marks_number}
use Rattle.pgn_game.specs.Public.PlyCodes.{code_bytes}
use Rattle.pgn_game.specs.Public.PackedGames.{Tag, body_size, is_origin, largest_body, name_bytes}
use Rattle.pgn_game.specs.Public.PackedGames.{name_of, named_number, result_number, tag_bytes}
use Rattle.pgn_game.specs.Public.Replays.{Replay}
use Rattle.pgn_game.specs.Private.Walks.{HasWalked}
use Rattle.pgn_game.specs.declared.pack.origin.GameOrigin.{GameOrigin}
use Rattle.pgn_game.specs.declared.replays.main_line.MainWalk.{MainWalk}

-- it is the replay of some words
abbrev pub IsLinePlayed : Replay → Type 0
IsLinePlayed replay = (start : State) × (words : List (List ℕ))
    × IsMainLine start words replay.positions replay.played

-- the bytes grew by the size of a record, and the number and the offset of its game
abbrev pub PutsFront : ℕ → ℕ → ℕ → List ℕ → List ℕ → Type 0
PutsFront number offset size old new = new
    ≡ old ++ (to_be_bytes w32 size ++ (to_be_bytes w64 number ++ to_be_bytes w64 offset))

-- the bytes grew by the head of a record: the number of the tags, whether the game has a name, its
-- result and the marks of the start
abbrev pub PutsHead : Option (List ℕ) → List Tag → List ℕ → Bool → Bool → List ℕ → List ℕ → Type 0
PutsHead name tags end check stuck old new = new
    ≡ old ++ to_be_bytes w32 (32 * length tags + 16 * named_number name + 4 * result_number end
    + marks_number check stuck)

-- the bytes grew by the fields of the game's record in front of its plies, which are so many: it
-- has a spelling, if these have
pub record PutsFields (origin : GameOrigin) (game : GameText) (plies : ℕ) (check stuck : Bool)
    (old new : List ℕ) : Type 0 where
  pub number : origin.number < 2 ^ 64
  pub offset : origin.offset < 2 ^ 64
  pub ordered : IsStrictlySortedBy (slice_cmp nat_cmp) (tag_names game.tags)
  pub known : is_origin origin.number origin.offset (name_of origin) ≡ true
  pub ends : IsResult game.result
  pub within : body_size (name_of origin) game.tags plies ≤ largest_body
  pub fronted : List ℕ
  pub headed : List ℕ
  pub front : PutsFront origin.number origin.offset (body_size (name_of origin) game.tags plies) old
      fronted
  pub head : PutsHead (name_of origin) game.tags game.result check stuck fronted headed
  pub put : new ≡ (headed ++ name_bytes (name_of origin)) ++ flat_map tag_bytes game.tags

-- the bytes grew by codes of these moves, which lead from the one position to the other: as soon as
-- `known` holds, they are those of the moves, and more codes complete them
pub record HasPutPlies (start : State) (played : List Move) (here : State) (known : Type 0)
    (old new : List ℕ) : Type 0 where
  pub codes : List PlyCode
  pub whole : known → (moves : List Move) (more : List PlyCode) → AreCodes here moves more
      → AreCodes start (played ++ moves) (codes ++ more)
  pub put : new ≡ old ++ flat_map code_bytes codes

-- so many plies of the replay are written
pub record HasPutReplayed (replay : Replay) (plies : ℕ) (old new : List ℕ) : Type 0 where
  pub start : State
  pub first : slice_get replay.positions 0 ≡ Some start
  pub here : State
  pub there : slice_get replay.positions plies ≡ Some here
  pub put : HasPutPlies start (take plies replay.played) here (Unit {0}) old new

-- played from the start, the first of the words are written, and the walk stands after them, in
-- front of the elements. The marks of its position are known as soon as another move can follow,
-- if one of so many plies is to
pub record HasPutPlayed (start : State) (words : List (List ℕ)) (count : ℕ) (walk : MainWalk)
    (items : List Item) (old new : List ℕ) : Type 0 where
  pub positions : List State
  pub played : List Move
  pub walked : HasWalked start words walk positions played items
  pub counted : count ≡ walk.plies + length (main_words items walk.depth)
  pub put : HasPutPlies start played walk.position
      (IsTrue (ltb walk.plies count) → HasMove walk.position) old new
