-- No tag is there, and no element.
use Rattle.pgn_text.proofs.Common.{refl}
use Rattle.pgn_text.proofs.game.Pairing.{tags_ascend}
use Rattle.pgn_text.proofs.game.RawGame.of_result.Goals as goal

pub invariant_of-result : goal.invariant_of-result
invariant_of-result c = record {
  ordered = tags_ascend c.new.result.entries c.new.ensures.ordered;
  strings = rw c.new.ensures.empty (λ name contents there. cc);
  names = rw c.new.ensures.empty (λ name contents there. cc);
  paired = rw c.new-2.ensures.items refl;
  ends = c.requires;
}
