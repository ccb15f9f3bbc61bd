use Rattle.pgn_criteria.proofs.Common.{◌≡◌, ◌+◌, length, words_of}
use Rattle.pgn_criteria.proofs.moves.has_at_most.Given as goal

abbrev pub invariant-loop-step : goal.invariant-loop-step
invariant-loop-step l = length (words_of l.text) ≡ l.step + length (words_of l.rest)
