use Rattle.pgn_text.proofs.Common.{length, ◌-◌, ◌≡◌, ◌+◌, ◌≤◌, drop, front_length, no_byte}
use Rattle.pgn_text.proofs.error.error_position.common.Given as goal

abbrev pub invariant-loop-count : goal.invariant-loop-count
invariant-loop-count l = record {
  within : l.count ≤ length l.text;
  in_word : l.count ≤ length l.word;
  so_far : front_length no_byte l.word l.text
      ≡ l.count + front_length no_byte (drop l.count l.word) (drop l.count l.text);
}

abbrev pub decreases-loop-count : goal.decreases-loop-count
decreases-loop-count l = length l.text - l.count
