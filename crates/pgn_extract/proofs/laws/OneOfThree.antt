-- With games as they stand, each piece is in one of three exports: with an entry, without one, or
-- faulty.
use Rattle.pgn_extract.proofs.Common.{◌≡◌, ℕ, List, subst, GameText, tag_in, ReadableGame}
use Rattle.pgn_extract.proofs.Common.{UnreadableRest, TooLongBlock, lines_with, Replay, fen_tag}
use Rattle.pgn_extract.proofs.Common.{one_replay, no_fault, Aim, GameId, as_it_stands, IsWritten}
use Rattle.pgn_extract.proofs.Common.{selected, unselected, IsGameExport, sound, faulty, IsInOneOf}
use Rattle.pgn_extract.proofs.Common.{in_first, in_second, in_third, Matching, Others, Faulty}
use Rattle.pgn_extract.specs.Public.Laws.{as_they_stand, PieceIsInOneExport}
use Rattle.pgn_extract.proofs.Counting.{one_counted, counted_text}

module _ (aim : Aim) (id : GameId) (game : GameText) where
  -- a sound game has an entry or none, and is not faulty
  sound_in_one : (replay : Replay) (x y z : List ℕ)
      → IsWritten (as_they_stand Matching aim) id game replay x
      → IsWritten (as_they_stand Others aim) id game replay y
      → IsWritten (as_they_stand Faulty aim) id game replay z
      → IsInOneOf (as_it_stands game.text) x y z
  sound_in_one replay x y z a b (selected never text) = absurd never
  sound_in_one replay x y z (selected has text) (selected none also) (unselected never empty) =
      absurd (none has)
  sound_in_one replay x y z (selected has text) (unselected never nothing)
      (unselected unmet empty) = in_first text nothing empty
  sound_in_one replay x y z (unselected none nothing) (selected also text)
      (unselected unmet empty) = in_second nothing text empty
  sound_in_one replay x y z (unselected none nothing) (unselected never also)
      (unselected unmet empty) = absurd (never none)

  game_in_one : (x y z : List ℕ) → IsGameExport (as_they_stand Matching aim) id game x
      → IsGameExport (as_they_stand Others aim) id game y
      → IsGameExport (as_they_stand Faulty aim) id game z → IsInOneOf (as_it_stands game.text) x y z
  game_in_one x y z (sound replay is a) (sound other also b) (sound third same c) =
      let lines = lines_with aim.style.variations in
      let second : other ≡ replay =
      one_replay lines (tag_in fen_tag game.tags) game.elements other replay also is in
      let last : third ≡ replay =
      one_replay lines (tag_in fen_tag game.tags) game.elements third replay same is in
      sound_in_one replay x y z a
      (subst (λ (r : Replay). IsWritten (as_they_stand Others aim) id game r y) second b)
      (subst (λ (r : Replay). IsWritten (as_they_stand Faulty aim) id game r z) last c)
  game_in_one x y z (faulty fault is a) (faulty other also b) (faulty third same c) = in_third a b c
  game_in_one x y z (sound replay is a) (faulty other also b) c =
      absurd (no_fault (lines_with aim.style.variations) (tag_in fen_tag game.tags) game.elements
      other (replay, is) also)
  game_in_one x y z (sound replay is a) (sound other also b) (faulty third same c) =
      absurd (no_fault (lines_with aim.style.variations) (tag_in fen_tag game.tags) game.elements
      third (replay, is) same)
  game_in_one x y z (faulty fault is a) (sound replay also b) c =
      absurd (no_fault (lines_with aim.style.variations) (tag_in fen_tag game.tags) game.elements
      fault (replay, also) is)
  game_in_one x y z (faulty fault is a) (faulty other also b) (sound replay same c) =
      absurd (no_fault (lines_with aim.style.variations) (tag_in fen_tag game.tags) game.elements
      fault (replay, same) is)

pub piece_in_one : PieceIsInOneExport
piece_in_one aim id (ReadableGame parts) x y z (game, is, a) (second, also, b) (third, too, c) =
    subst (λ own. IsInOneOf (as_it_stands own) x y z) (counted_text aim.openings parts game is)
    (game_in_one aim id game x y z a
    (subst (λ g. IsGameExport (as_they_stand Others aim) id g y)
    (one_counted aim.openings parts second game also is) b)
    (subst (λ g. IsGameExport (as_they_stand Faulty aim) id g z)
    (one_counted aim.openings parts third game too is) c))
piece_in_one aim id (UnreadableRest bytes) x y z a b c = in_third a b c
piece_in_one aim id TooLongBlock x y z a b c = in_first a b c
