use Rattle.std.proofs.Common.{◌≡◌, ◌++◌, flat_map, take}
use Rattle.pgn_game.specs.Public.TagLines.{escaped}
use Rattle.pgn_game.proofs.exports.tag_lines.push_contents.Given as goal

abbrev pub invariant-loop-byte : goal.invariant-loop-byte
invariant-loop-byte l =
    l.out.items ≡ l.initial.out.items ++ flat_map escaped (take l.byte-index l.value)
