use Rattle.pgn_game.proofs.Common.{◌+◌, drop, map, subst, arith, IfSome_then, err_from_is_err_and}
use Rattle.pgn_game.proofs.Common.{item_of, HasPutSome, main_words}
use Rattle.pgn_game.proofs.GameLineFacts.{put_begins, put_more, put_ends}
use Rattle.pgn_game.proofs.WalkFacts.{items_step, items_end}
use Rattle.pgn_game.proofs.exports.game_line.push_moves.Goals as goal

pub loop-element-init : goal.loop-element-init
loop-element-init c = record {
  plies = omega arith;
  depth = omega arith;
  put = put_begins c.args.notation c.args.start c.new-walk.result c.args.out.now.items
      (map item_of c.args.elements.now)
      c.new-walk.ensures.0 c.new-walk.ensures.1 c.new-walk.ensures.2;
}

pub returns-in_err-push_element-clause-fault : goal.returns-in_err-push_element-clause-fault
returns-in_err-push_element-clause-fault c =
    let l = c.loop-element in
    let i = l.element-index in
    let p = err_from_is_err_and c.from_residual.result c.from_residual.ensures.1 in
    let put =
    subst (HasPutSome c.args.notation c.args.start
    (main_words (map item_of c.args.elements.now) 0) l.walk c.args.out.now.items l.out.items)
    (items_step c.args.elements.now i _ (omega arith)) l.invariant.put in
    rw (
      p.1,
      p.2,
    ) (IfSome_then _
    (c.in_err-push_element.ensures.stuck (map item_of (drop (i + 1) c.args.elements.now)))
    put.faults)

pub loop-element-preserved : goal.loop-element-preserved
loop-element-preserved c =
    let l = c.loop-element in
    let i = l.element-index in
    let put =
    subst (HasPutSome c.args.notation c.args.start
    (main_words (map item_of c.args.elements.now) 0) l.walk c.args.out.now.items l.out.items)
    (items_step c.args.elements.now i _ (omega arith)) l.invariant.put in
    record {
      plies = omega arith;
      depth = omega arith;
      put = put_more put c.in_ok-push_element.ensures.text;
    }

pub returns-clause-text : goal.returns-clause-text
returns-clause-text c =
    let l = c.loop-element in
    let put =
    subst (HasPutSome c.args.notation c.args.start
    (main_words (map item_of c.args.elements.now) 0) l.walk c.args.out.now.items l.out.items)
    (items_end c.args.elements.now l.element-index (omega arith)) l.invariant.put in
    put_ends put
