use Rattle.pgn_game.proofs.Common.{◌≡◌, ◌++◌, ℕ, List, map, later_word, closed, found_words}
use Rattle.pgn_game.proofs.Common.{found_size, IsFoundBare, HasLeft}
use Rattle.pgn_game.proofs.exports.comment.put_later.Given as goal

abbrev pub invariant-loop-next : goal.invariant-loop-next
invariant-loop-next l = record {
  text : HasLeft l.fn.wrapper l.wrapper l.fn.out.items l.out.items
      (closed (map later_word (found_words l.fn.first)))
      (closed (map later_word (found_words l.next)));
  kept : (some : List ℕ) × (l.out.items ≡ l.fn.out.items ++ some);
  width : l.wrapper.width ≡ l.fn.wrapper.width;
  bare : IsFoundBare l.next;
}

abbrev pub decreases-loop-next : goal.decreases-loop-next
decreases-loop-next l = found_size l.next
