use Rattle.pgn_game.proofs.Common.{◌≡◌, ◌++◌, take, unbraced}
use Rattle.pgn_game.proofs.exports.comment.replace_braces.Given as goal

abbrev pub invariant-loop-byte : goal.invariant-loop-byte
invariant-loop-byte l = l.out.items ≡ l.fn.out.items ++ unbraced (take l.byte-index l.word)
