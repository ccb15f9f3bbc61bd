use Rattle.pgn_game.proofs.exports.EvenFacts.{even_spaced}
use Rattle.pgn_game.proofs.exports.comment.put_comment.Goals as goal

pub put_spaced-requires-then-words-room-clause-spaced :
    goal.put_spaced-requires-then-words-room-clause-spaced
put_spaced-requires-then-words-room-clause-spaced c =
    even_spaced c.trimmed-words.result.now c.in-Some.ensures.0
