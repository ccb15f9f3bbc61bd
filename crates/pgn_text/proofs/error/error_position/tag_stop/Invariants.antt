use Rattle.pgn_text.proofs.Common.{◌-◌, ◌≡◌, ◌+◌, ◌≤◌, length, drop, BeforeName}
use Rattle.pgn_text.proofs.error.InTag.{tag_far}
use Rattle.pgn_text.proofs.error.error_position.tag_stop.Given as goal

abbrev pub invariant-loop-at : goal.invariant-loop-at
invariant-loop-at l = record {
  within : l.at ≤ length l.text;
  so_far : tag_far BeforeName l.text ≡ l.at + tag_far l.place (drop l.at l.text);
}

abbrev pub decreases-loop-at : goal.decreases-loop-at
decreases-loop-at l = length l.text - l.at
