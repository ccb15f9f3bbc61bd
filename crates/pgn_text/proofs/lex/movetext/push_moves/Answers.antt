use Rattle.pgn_text.proofs.Common.{◌+◌, ◌++◌, [], ◌∷◌, map, sym, ap, ◌∙◌, arith, refl}
use Rattle.pgn_text.proofs.Common.{append_assoc, append-nil, take, drop, ◌-◌, MoveText, map-append}
use Rattle.pgn_text.proofs.Common.{item_of}
use Rattle.pgn_text.proofs.PlainWalk.{at_first, left_after, left_ends, left_words, next_left}
use Rattle.pgn_text.proofs.PlainWalk.{none_left, over_move, over_rest, with_none}
use Rattle.pgn_text.proofs.lex.movetext.push_moves.Goals as goal

pub loop-left-init : goal.loop-left-init
loop-left-init c =
    let a = c.args in
    let shows = c.requires.1 in
    let within = shows.within in (
      c.requires.0,
      shows,
      [],
      0,
      at_first a.block.now a.at _ _ _ _ a.at shows [] (with_none a.block.now a.at (omega arith)),
      omega arith,
      (λ i lt. absurd (omega arith), λ i low lt. refl),
      sym (append-nil _),
    )

pub first_move-begin-requires-clause-words : goal.first_move-begin-requires-clause-words
first_move-begin-requires-clause-words c =
    let kept = c.loop-left.invariant in
    left_words c.args.block.now c.args.at _ _ _ _ c.args.at kept.1 c.loop-left.left kept.3 kept.6

pub first_move-begin-requires-clause-ends : goal.first_move-begin-requires-clause-ends
first_move-begin-requires-clause-ends c =
    let kept = c.loop-left.invariant in
    left_ends c.args.block.now c.args.at _ _ _ _ c.args.at kept.1 c.loop-left.left kept.3 kept.6

pub slice_bounds-push_element-end : goal.slice_bounds-push_element-end
slice_bounds-push_element-end c =
    let a = c.args in
    let kept = c.loop-left.invariant in
    let next =
    next_left a.block.now a.at _ _ _ _ a.at kept.1 c.loop-left.left kept.3 _ _ kept.6
    c.first_move-begin.ensures in
    let over = over_move a.block.now a.at _ _ _ _ a.at kept.1 kept.2 kept.3 _ _ next kept.4 in
    omega (arith, over.1, kept.1.within)

pub loop-left-preserved : goal.loop-left-preserved
loop-left-preserved c =
    let a = c.args in
    let kept = c.loop-left.invariant in
    let moves = kept.2 in
    let begin = c.first_move-begin.result.0 in
    let end = c.first_move-begin.result.1 in
    let first = c.first_move-begin.ensures in
    let next =
    next_left a.block.now a.at _ _ _ _ a.at kept.1 c.loop-left.left kept.3 begin end kept.6 first in
    let over =
    over_move a.block.now a.at _ _ _ _ a.at kept.1 moves kept.3 begin end next kept.4 in
    let word = MoveText (take (a.at + end - (a.at + begin)) (drop (a.at + begin) a.block.now)) in (
      kept.0,
      kept.1,
      moves ++ word ∷ [],
      end,
      over.2,
      over.1,
      left_after a.block.now a.at _ _ _ _ a.at kept.1 c.loop-left.left kept.3 begin end kept.6 first
          over.1,
      ap (map item_of) c.in_ok-push_element.ensures
          ∙ map-append item_of c.loop-left.elements.items _
          ∙ ap (λ xs. xs ++ word ∷ []) kept.7
          ∙ append_assoc (map item_of a.elements.now.items) moves (word ∷ []),
    )

pub returns : goal.returns
returns c =
    let a = c.args in
    let kept = c.loop-left.invariant in (
      kept.2,
      over_rest a.block.now a.at _ _ _ _ a.at kept.1 kept.2 kept.3 kept.5
          (none_left a.block.now a.at _ _ _ _ a.at kept.1 c.loop-left.left kept.3 kept.6
          (omega arith)) kept.4,
      kept.7,
    )
