use Rattle.chess.proofs.Common.{false, Rook, Bishop}
use Rattle.chess.proofs.board.FillFacts.{either_bitboard}
use Rattle.chess.proofs.board.AttackerFacts.{IsSeeingRunner, attack_along_line, none_seen}
use Rattle.chess.proofs.board.bits.is_attacked_along_line.Goals as goal

pub returns-then-seen-eq0 : goal.returns-then-seen-eq0
returns-then-seen-eq0 c p h men =
    let rook = IsSeeingRunner p c.args.side Rook c.args.square in
    let bishop = IsSeeingRunner p c.args.side Bishop c.args.square in
    attack_along_line p c.args.side c.args.square _ false
    (either_bitboard rook bishop c.sliders_in_line.result c.sliders_in_line-2.result
    (c.sliders_in_line.ensures p h) (c.sliders_in_line-2.ensures p h))
    (none_seen p c.args.square _ c.if-seen-eq0.true)

pub returns : goal.returns
returns c p h men =
    let rook = IsSeeingRunner p c.args.side Rook c.args.square in
    let bishop = IsSeeingRunner p c.args.side Bishop c.args.square in
    attack_along_line p c.args.side c.args.square _ c.has_unblocked.result
    (either_bitboard rook bishop c.sliders_in_line.result c.sliders_in_line-2.result
    (c.sliders_in_line.ensures p h) (c.sliders_in_line-2.ensures p h))
    (c.has_unblocked.ensures p men)
