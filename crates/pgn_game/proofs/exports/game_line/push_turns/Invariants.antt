use Rattle.pgn_game.proofs.Common.{drop, map, item_of}
use Rattle.pgn_game.specs.Private.LineTexts.{HasPutTurns, words_in}
use Rattle.pgn_game.proofs.exports.game_line.push_turns.Given as goal

abbrev pub invariant-loop-element : goal.invariant-loop-element
invariant-loop-element l =
    HasPutTurns l.notation l.inside l.fn.start (words_in (map item_of l.elements)) l.position
    (map item_of (drop l.element-index l.elements)) l.fn.out.items l.out.items
