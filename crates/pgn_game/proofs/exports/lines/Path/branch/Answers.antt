use Rattle.std.proofs.lemmas.List.{drop_all}
use Rattle.pgn_game.proofs.Common.{◌++◌, ◌∙◌, ap, sym, map, append-nil, arith, item_of, MoveText}
use Rattle.pgn_game.specs.Private.LinePaths.{own_front}
use Rattle.pgn_game.proofs.exports.LinePathFacts.{moves_of}
use Rattle.pgn_game.proofs.exports.lines.Path.branch.Goals as goal

pub returns : goal.returns
returns c =
    let words = c.args.self.now.before.items in
    let l = c.loop-word in
    let done = map item_of l.branch.items in
    let none = drop_all l.word-index words (omega arith) in
    let moves = sym (append-nil done)
    ∙ ap (λ rest. done ++ map (λ word. MoveText word.now) rest) (sym none) ∙ l.invariant in
    c.in_ok-push_own.ensures
    ∙ ap (λ items. items ++ own_front (map item_of c.args.elements.now) 0) (moves ∙ moves_of words)
