use Rattle.pgn_game.proofs.Common.{◌≡◌, ◌++◌, ℕ, List, false, found_words, found_size, tied_words}
use Rattle.pgn_game.proofs.Common.{IsFoundBare, HasLeft}
use Rattle.pgn_game.proofs.exports.comment.put_later_whole.Given as goal

abbrev pub invariant-loop-next : goal.invariant-loop-next
invariant-loop-next l = record {
  text : HasLeft l.fn.wrapper l.wrapper l.fn.out.items l.out.items
      (tied_words false (found_words l.fn.first)) (tied_words false (found_words l.next));
  kept : (some : List ℕ) × (l.out.items ≡ l.fn.out.items ++ some);
  width : l.wrapper.width ≡ l.fn.wrapper.width;
  bare : IsFoundBare l.next;
}

abbrev pub decreases-loop-next : goal.decreases-loop-next
decreases-loop-next l = found_size l.next
