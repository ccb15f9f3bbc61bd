use Rattle.chess.proofs.Common.{IsRival}
use Rattle.chess.proofs.LoopFacts.{fewer, sifted_none}
use Rattle.chess.proofs.move_text.SanTextFacts.{rivals_start, rivals_more}
use Rattle.chess.proofs.move_text.write.rivals.Goals as goal

pub loop-from-init : goal.loop-from-init
loop-from-init g c =
    rivals_start c.args.position.now c.args.m.now c.args.man c.men_alike-left.result
    c.new-found.result c.men_alike-left.ensures.each
    c.men_alike-left.ensures.alike c.new-found.ensures

pub loop-from-preserved : goal.loop-from-preserved
loop-from-preserved g c =
    rivals_more c.args.position.now c.args.m.now c.args.man c.loop-from.left c.take_first.new.self
    c.loop-from.found
    c.insert_if.new.self c.in-Some.from c.is_rival.result c.loop-from.invariant
    (rw c.in-Some.is at c.take_first.ensures)
    c.is_rival.ensures c.insert_if.ensures

pub returns : goal.returns
returns g c =
    sifted_none (IsRival c.args.position.now c.args.m.now) c.loop-from.left c.take_first.new.self
    c.loop-from.found
    c.loop-from.invariant.sifted
    (rw c.in_default.is at c.take_first.ensures)

pub loop-from-smaller : goal.loop-from-smaller
loop-from-smaller g c =
    fewer c.loop-from.left c.take_first.new.self c.in-Some.from
    (rw c.in-Some.is at c.take_first.ensures)
