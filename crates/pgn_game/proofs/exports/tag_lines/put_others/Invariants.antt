use Rattle.pgn_game.proofs.Common.{◌≡◌, ◌++◌, ℕ, List, map, filter, deref_pair, tag_of, tag_names}
use Rattle.pgn_game.proofs.Common.{AreLinesOf, is_beside}
use Rattle.std.specs.Prelude.{not, ◌&&◌}
use Rattle.pgn_game.specs.Public.TagLines.{is_among}
use Rattle.pgn_game.proofs.exports.tag_lines.put_others.Given as goal

abbrev pub invariant-loop-name : goal.invariant-loop-name
invariant-loop-name l =
    (lines : List ℕ) × AreLinesOf l.game.tags l.game.result
    (filter (λ name. is_beside l.style l.has_fen name
    && not (is_among (map (λ other. other.items) l.order) name))
    (tag_names (map tag_of (map deref_pair l.yielded))))
    lines × (l.out.items ≡ l.initial.out.items ++ lines)
