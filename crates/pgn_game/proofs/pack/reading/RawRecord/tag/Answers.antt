use Rattle.std.proofs.Common.{arith, sym, ◌∙◌}
use Rattle.pgn_game.proofs.TagSearch.{never_cut, is_found, goes_on}
use Rattle.pgn_game.proofs.pack.reading.RawRecord.tag.Goals as goal

pub returns-in_default : goal.returns-in_default
returns-in_default c =
    never_cut c.args.wanted.now c.args.self.now c.loop.counter c.loop.rest.now c.in_default.field-0
    (omega arith) c.loop.invariant (c.in_default.ensures)

pub returns-then-eq : goal.returns-then-eq
returns-then-eq c =
    is_found c.args.wanted.now c.args.self.now c.loop.counter c.loop.rest.now c.in-Ok.name.now
    c.in-Ok.contents.now c.in-Ok.after.now (omega arith) c.loop.invariant (c.in-Ok.ensures)
    (sym c.eq.ensures ∙ c.if-eq.true)

pub loop-preserved : goal.loop-preserved
loop-preserved c =
    goes_on c.args.wanted.now c.args.self.now c.loop.counter c.loop.rest.now c.in-Ok.name.now
    c.in-Ok.contents.now c.in-Ok.after.now (omega arith) c.loop.invariant (c.in-Ok.ensures)
    (sym c.eq.ensures ∙ c.if-eq.false)
