use Rattle.std.specs.Prelude.{◌≡◌, List, length}
use Rattle.chess.specs.Public.Positions.{State}
use Rattle.pgn_text.specs.Public.GameTexts.{tag_in}
use Rattle.pgn_game.specs.Public.Starts.{fen_tag}
use Rattle.pgn_criteria.specs.Shared.PlayedTo.{IsPlayedTo}
use Rattle.pgn_extract.specs.Private.KeptLines.{AreFirst}
use Rattle.pgn_extract.proofs.entries.KeptMoves.{TellsFirst}
use Rattle.pgn_extract.proofs.entries.kept.Kept.of_game.Given as goal

abbrev pub invariant-loop-first : goal.invariant-loop-first
invariant-loop-first g l = record {
  passed : List State;
  to : IsPlayedTo (tag_in fen_tag l.game.tags) l.game.elements l.line passed l.played.items;
  size : length l.met.items ≡ length passed;
  first : AreFirst l.first.items passed;
  told : TellsFirst (g.Q.Question.Asks l.question) l.game l.met.items;
}

abbrev pub decreases-loop-first : goal.decreases-loop-first
decreases-loop-first g l = length l.line.words
