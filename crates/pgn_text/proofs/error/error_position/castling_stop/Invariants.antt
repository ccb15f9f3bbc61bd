use Rattle.pgn_text.proofs.Common.{length, ◌-◌, ◌≡◌, ◌+◌, ◌≤◌, [], drop, is_check_sign}
use Rattle.pgn_text.proofs.Common.{front_length}
use Rattle.pgn_text.proofs.error.error_position.castling_stop.Given as goal

abbrev pub invariant-loop-count : goal.invariant-loop-count
invariant-loop-count l = record {
  within : l.count ≤ length l.text;
  so_far : front_length is_check_sign l.word l.text
      ≡ l.count + front_length is_check_sign [] (drop l.count l.text);
}

abbrev pub decreases-loop-count : goal.decreases-loop-count
decreases-loop-count l = length l.text - l.count
