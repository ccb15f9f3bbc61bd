use Rattle.std.proofs.Common.{sym, ◌∙◌}
use Rattle.pgn_criteria.proofs.SetupFacts.{taken_beside}
use Rattle.pgn_criteria.proofs.setup.are_taken.Goals as goal

pub returns-then-are_taken_from : goal.returns-then-are_taken_from
returns-then-are_taken_from c =
    taken_beside c.args.one.now c.args.other.now c.in-Some.square
    c.are_taken_from-then-are_taken_from.result (sym c.en_passant.ensures ∙ c.in-Some.is)
    (rw c.file.ensures.number at c.are_taken_from.ensures.0 c.if-are_taken_from.true)
    (rw c.file-then-are_taken_from.ensures.number at c.are_taken_from-then-are_taken_from.ensures)
