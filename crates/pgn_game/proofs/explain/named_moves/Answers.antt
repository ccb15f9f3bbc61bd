use Rattle.std.proofs.Common.{◌≡◌, arith}
use Rattle.pgn_game.proofs.explain.NamedMoves.{named_start, named_more, named_all}
use Rattle.pgn_game.proofs.explain.named_moves.Goals as goal

pub loop-index-init : goal.loop-index-init
loop-index-init c =
    named_start c.args.position.now c.args.word.now c.new-moves.result.items
    c.new-moves.ensures.items

pub loop-index-preserved : goal.loop-index-preserved
loop-index-preserved c =
    named_more c.args.position.now c.args.word.now c.loop-index.index c.of_index.result
    c.loop-index.moves.items c.push_named.new.moves.items (omega arith)
    c.of_index.ensures.square c.loop-index.invariant c.in_ok-push_named.ensures

pub returns : goal.returns
returns c =
    let moves = c.loop-index.moves.items in
    let all : c.loop-index.index ≡ 64 = omega arith in
    named_all c.args.position.now c.args.word.now moves
    (rw (← all) c.loop-index.invariant)
