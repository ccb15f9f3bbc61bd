use Rattle.pgn_game.proofs.Common.{◌≡◌, ◌++◌, map, take, unspaced}
use Rattle.pgn_game.proofs.exports.game_line.push_unspaced.Given as goal

abbrev pub invariant-loop-byte : goal.invariant-loop-byte
invariant-loop-byte l = l.out.items ≡ l.fn.out.items ++ map unspaced (take l.byte-index l.bytes)
