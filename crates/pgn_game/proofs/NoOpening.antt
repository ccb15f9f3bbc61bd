-- A game that has no opening, and one whose main line is faulty.
use Rattle.pgn_game.proofs.Common.{◌≡◌, ◌<◌, List, length, Some, None, refl, ap}
use Rattle.pgn_game.proofs.Common.{subst, GameText, tag_in, fen_tag, Fault, Main}
use Rattle.pgn_game.proofs.Common.{IsFault, length-map, Replay}
use Rattle.std.proofs.lemmas.Option.{slice_get_within}
use Rattle.pgn_game.specs.Public.Openings.{NamedLine, HasOpening, IsOpeningLine, IsTaggedBy}
use Rattle.pgn_game.specs.Public.Openings.{IsOpeningIn, ends_of}
use Rattle.pgn_game.specs.declared.openings.Opening.{Opening}
use Rattle.pgn_game.proofs.OneReplay.{one_replay, no_fault}

-- where none is found, there is none
pub none_there : (lines : List NamedLine) (game : GameText) → HasOpening lines game None
    → IsOpeningLine lines game None
none_there lines game (replay, is, none) line (opening, (other, same, there), at, good) =
    let one : replay.positions ≡ other.positions =
    ap (λ (r : Replay). r.positions)
    (one_replay Main (tag_in fen_tag game.tags) game.elements replay other is same) in
    subst (λ ps. IsOpeningIn (ends_of lines) ps None) one none opening.ply opening.line there.here

-- a faulty game has none
pub none_of_faulty : (lines : List NamedLine) (game : GameText) (fault : Fault)
    → IsFault Main (tag_in fen_tag game.tags) game.elements fault → IsOpeningLine lines game None
none_of_faulty lines game fault met line (opening, (replay, sound, there), at, good) =
    no_fault Main (tag_in fen_tag game.tags) game.elements fault (replay, sound) met

-- the line of an opening is one of the lines
pub line_within : (lines : List NamedLine) (game : GameText) (opening : Opening)
    → HasOpening lines game (Some opening) → opening.line < length lines
line_within lines game opening (replay, is, there) =
    subst (λ n. opening.line < n) (length-map lines (λ (l : NamedLine). l.end))
    (slice_get_within (ends_of lines) opening.line there.here.2.0 there.here.2.1)

-- without an opening a game counts as it stands
pub as_it_stands : (game : GameText) → IsTaggedBy None game game
as_it_stands game = record {
  place = refl;
  text = refl;
  tags = λ wanted. refl;
  elements = refl;
  result = refl;
}
