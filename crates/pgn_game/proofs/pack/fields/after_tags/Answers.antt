use Rattle.pgn_game.proofs.Common.{None, err_from_is_err_and, after_tags}
use Rattle.pgn_game.proofs.RecordFields.{goes_on, ends, is_done}
use Rattle.pgn_game.proofs.pack.fields.after_tags.Goals as goal

pub returns-in_err-name : goal.returns-in_err-name
returns-in_err-name c =
    let p = err_from_is_err_and c.from_residual.result c.from_residual.ensures.1 in
    rw (p.1, p.2) (ends c.in_err-name.field-0.0 c.args.count c.loop.counter _ c.loop.rest.now
    (after_tags c.args.count None c.args.bytes.now) c.loop-test.true c.in_err-name.ensures
    c.loop.invariant)

pub loop-preserved : goal.loop-preserved
loop-preserved c =
    goes_on c.args.count c.loop.counter _ c.loop.rest.now _ _
    (after_tags c.args.count None c.args.bytes.now) c.loop-test.true c.in_ok-name.ensures
    c.loop.invariant

pub returns : goal.returns
returns c =
    is_done c.args.count c.loop.counter _ c.loop.rest.now
    (after_tags c.args.count None c.args.bytes.now) c.loop-test.false c.loop.invariant
