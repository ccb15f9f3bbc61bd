use Rattle.pgn_extract.proofs.Common.{ℕ, arith, refl, ◌∙◌, length-take, or_from}
use Rattle.pgn_extract.proofs.engine.Dropping.{dropping_more}
use Rattle.pgn_extract.proofs.engine.skip.drop_first.Goals as goal

pub loop-left-preserved : goal.loop-left-preserved
loop-left-preserved g c =
    let k = c.read.auto.buf in let b = c.in-Ok.ensures.bound in let f = c.in-Ok.ensures.faulted in
    dropping_more c.loop-left.invariant _ c.in-Ok.ensures.bytes.0 c.in-Ok.ensures.moved
    c.in-Ok.ensures.bound.1
    (let m = c.min-room.ensures in omega (arith, length-take {A = ℕ})) (f
    ∙ or_from _ _ c.loop-left.invariant.sound refl)
