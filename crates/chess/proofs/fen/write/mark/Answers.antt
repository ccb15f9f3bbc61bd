use Rattle.chess.proofs.Common.{refl, rules}
use Rattle.chess.proofs.LoopFacts.{fewer}
use Rattle.chess.proofs.MarkFacts.{marked_more, marked_all}
use Rattle.chess.proofs.fen.write.mark.Goals as goal

pub loop-square-init : goal.loop-square-init
loop-square-init c = record { size = search rules; each = λ s on. refl }

pub loop-square-preserved : goal.loop-square-preserved
loop-square-preserved c =
    rw (← c.index.ensures.place) at (marked_more c.args.letter c.args.letters.now c.args.squares
    c.loop-square.left c.take_first.new.self c.loop-square.letters c.in-Some.square (rw c.in-Some.is
    at c.take_first.ensures) c.loop-square.invariant)

pub returns : goal.returns
returns c =
    marked_all c.args.letter c.args.letters.now c.args.squares c.loop-square.left
    c.take_first.new.self c.loop-square.letters
    (rw c.in_default.is at c.take_first.ensures) c.loop-square.invariant

pub loop-square-smaller : goal.loop-square-smaller
loop-square-smaller c =
    fewer c.loop-square.left c.take_first.new.self c.in-Some.square
    (rw c.in-Some.is at c.take_first.ensures)
