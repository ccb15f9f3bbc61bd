use Rattle.pgn_game.proofs.Common.{◌≡◌, ◌++◌, ◌≤◌, ℕ, List, in_front, found_words, found_size}
use Rattle.pgn_game.proofs.Common.{tied_words, IsFoundBare}
use Rattle.pgn_game.proofs.exports.comment.push_tied.Given as goal

abbrev pub invariant-loop-inside : goal.invariant-loop-inside
invariant-loop-inside l = record {
  some : List ℕ;
  pushed : l.out.items ≡ l.fn.out.items ++ some;
  tied : (token : List ℕ)
      → in_front l.fn.first_inside token (tied_words l.fn.first_inside (found_words l.fn.first))
      ≡ in_front l.inside (token ++ some) (tied_words l.inside (found_words l.next));
  shorter : found_size l.next ≤ found_size l.fn.first;
  bare : IsFoundBare l.next;
}

abbrev pub decreases-loop-inside : goal.decreases-loop-inside
decreases-loop-inside l = found_size l.next
