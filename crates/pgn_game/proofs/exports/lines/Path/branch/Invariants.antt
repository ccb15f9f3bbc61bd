use Rattle.pgn_game.proofs.Common.{◌≡◌, ◌++◌, drop, map, item_of, MoveText}
use Rattle.pgn_game.proofs.exports.lines.Path.branch.Given as goal

abbrev pub invariant-loop-word : goal.invariant-loop-word
invariant-loop-word l = map item_of l.branch.items
    ++ map (λ word. MoveText word.now) (drop l.word-index l.self.before.items)
    ≡ map (λ word. MoveText word.now) l.self.before.items
