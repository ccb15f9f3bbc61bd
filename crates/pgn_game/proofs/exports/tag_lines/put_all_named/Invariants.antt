use Rattle.std.specs.Prelude.{map}
use Rattle.pgn_game.proofs.Common.{◌≡◌, ◌++◌, ℕ, List, take, AreLinesOf}
use Rattle.pgn_game.proofs.exports.tag_lines.put_all_named.Given as goal

abbrev pub invariant-loop-name : goal.invariant-loop-name
invariant-loop-name l =
    (lines : List ℕ)
    × AreLinesOf l.game.tags l.game.result (map (λ name. name.now) (take l.name-index l.names))
    lines × (l.out.items ≡ l.initial.out.items ++ lines)
