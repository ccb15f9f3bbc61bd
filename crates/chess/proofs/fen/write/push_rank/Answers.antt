use Rattle.std.proofs.Common.{◌∙◌, ap, arith, get_or, take}
use Rattle.chess.specs.declared.fen.write.rank_orders.TheConstants.{LENGTHS}
use Rattle.chess.proofs.RankOrderFacts.{rank_order, splits, cut_text}
use Rattle.chess.proofs.fen.write.push_rank.Goals as goal

pub bounds-empty : goal.bounds-empty
bounds-empty c =
    (rank_order c.requires.letters.0 _ _ c.args.rank _ c.told-letters c.requires.on_board
    c.requires.letters.1 c.rank_signs-signs.ensures c.empty_set-empty.ensures).below

pub offset_bounds-empty : goal.offset_bounds-empty
offset_bounds-empty c =
    let known = rank_order c.requires.letters.0 _ _ c.args.rank _ c.told-letters c.requires.on_board
    c.requires.letters.1 c.rank_signs-signs.ensures c.empty_set-empty.ensures in
    let below = known.below in record { fits = omega arith }

pub bounds-empty-2 : goal.bounds-empty-2
bounds-empty-2 c =
    (rank_order c.requires.letters.0 _ _ c.args.rank _ c.told-letters c.requires.on_board
    c.requires.letters.1 c.rank_signs-signs.ensures c.empty_set-empty.ensures).below

pub in_order-text-requires : goal.in_order-text-requires
in_order-text-requires c =
    (rank_order c.requires.letters.0 _ _ c.args.rank _ c.told-letters c.requires.on_board
    c.requires.letters.1 c.rank_signs-signs.ensures c.empty_set-empty.ensures).low

pub push_eight-requires-clause-ascii : goal.push_eight-requires-clause-ascii
push_eight-requires-clause-ascii c =
    let known = rank_order c.requires.letters.0 _ _ c.args.rank _ c.told-letters c.requires.on_board
    c.requires.letters.1 c.rank_signs-signs.ensures c.empty_set-empty.ensures in
    rw (c.in_order-text.ensures) known.ascii

pub truncate-requires : goal.truncate-requires
truncate-requires c =
    let known = rank_order c.requires.letters.0 _ _ c.args.rank _ c.told-letters c.requires.on_board
    c.requires.letters.1 c.rank_signs-signs.ensures c.empty_set-empty.ensures in (
      omega arith,
      splits c.args.out.now.bytes c.in_order-text.result c.push_eight.new.out.bytes _
          (get_or LENGTHS c.empty_set-empty.result 0) (rw (c.in_order-text.ensures) known.ascii)
          c.push_eight.ensures c.len.ensures.value,
    )

pub returns-clause-text : goal.returns-clause-text
returns-clause-text c p lettered =
    let known = rank_order p _ _ c.args.rank _ c.told-letters c.requires.on_board
    lettered c.rank_signs-signs.ensures c.empty_set-empty.ensures in
    cut_text c.args.out.now.bytes c.in_order-text.result c.push_eight.new.out.bytes _ _ _
    (get_or LENGTHS c.empty_set-empty.result 0) known.short c.push_eight.ensures
    c.len.ensures.value c.truncate.ensures
    (ap (take (get_or LENGTHS c.empty_set-empty.result 0)) c.in_order-text.ensures ∙ known.text)
