use Rattle.chess.proofs.board.FillFacts.{filled_start, filled_more, filled_stop, filled_end}
use Rattle.chess.proofs.board.step_attacks.fill.Goals as goal

pub loop-steps-init : goal.loop-steps-init
loop-steps-init c p shows =
    filled_start p c.args.way c.args.square c.bitboard_of-last.result
    c.bitboard_of-last.ensures.on_board
    c.bitboard_of-last.ensures.bitboard

pub loop-steps-preserved : goal.loop-steps-preserved
loop-steps-preserved c p shows =
    let h = c.loop-steps.invariant p shows in
    filled_more p c.args.way c.args.square c.loop-steps._steps c.loop-steps.last c.loop-steps.seen
    c.args.empty c.step-last.result h shows
    (c.step-last.ensures.next h.here h.inside h.last_is) c.if-empty-last-eq0.false

pub returns-then-empty-last-eq0 : goal.returns-then-empty-last-eq0
returns-then-empty-last-eq0 c p shows =
    let h = c.loop-steps.invariant p shows in
    filled_stop p c.args.way c.args.square c.loop-steps._steps c.loop-steps.last c.loop-steps.seen
    c.args.empty c.step-last.result h shows
    (c.step-last.ensures.next h.here h.inside h.last_is) c.if-empty-last-eq0.true

pub returns : goal.returns
returns c p shows =
    filled_end p c.args.way c.args.square c.loop-steps._steps c.loop-steps.last c.loop-steps.seen
    (c.loop-steps.invariant p shows) c.loop-steps-test.false
