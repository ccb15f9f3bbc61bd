use Rattle.pgn_text.proofs.Common.{◌-◌, ◌≡◌, ◌≤◌, length, take, true, list_all, is_digit, number_of}
use Rattle.pgn_text.proofs.error.error_position.glyph_stop.Given as goal

abbrev pub invariant-loop-count : goal.invariant-loop-count
invariant-loop-count l = record {
  few : l.count ≤ 3;
  within : l.count ≤ length l.text;
  digits : list_all is_digit (take l.count l.text) ≡ true;
  number : l.number ≡ number_of (take l.count l.text);
  small : l.number ≤ 255;
}

abbrev pub decreases-loop-count : goal.decreases-loop-count
decreases-loop-count l = 3 - l.count
