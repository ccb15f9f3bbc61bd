use Rattle.std.specs.Prelude.{map}
use Rattle.pgn_game.proofs.Common.{◌≡◌, ◌++◌, ℕ, List, take, filter, tag_names, AreLinesOf}
use Rattle.pgn_game.proofs.Common.{is_beside}
use Rattle.pgn_game.specs.Public.TagLines.{is_among}
use Rattle.pgn_game.proofs.exports.tag_lines.put_first.Given as goal

abbrev pub invariant-loop-name : goal.invariant-loop-name
invariant-loop-name l =
    (lines : List ℕ) × AreLinesOf l.game.tags l.game.result
    (filter (is_among (filter (is_beside l.style l.has_fen) (tag_names l.game.tags)))
    (map (λ name. name.items) (take l.name-index l.order))) lines
    × (l.out.items ≡ l.initial.out.items ++ lines)
