use Rattle.pgn_criteria.proofs.Common.{◌≡◌, ◌+◌, length, words_of}
use Rattle.pgn_criteria.proofs.words.count_words.Given as goal

abbrev pub invariant-loop-count : goal.invariant-loop-count
invariant-loop-count l = length (words_of l.text) ≡ l.count + length (words_of l.rest)
