-- No line ends anywhere.
use Rattle.pgn_game.proofs.Common.{ap}
use Rattle.std.proofs.Common.{nat_eq}
use Rattle.std.specs.Cmp.Lexicographic.{pointwise}
use Rattle.std.specs.Map.{lookup}
use Rattle.pgn_game.proofs.openings.Openings.new.Goals as goal

pub invariant_of-result : goal.invariant_of-result
invariant_of-result c = record {
  filed = rw c.new.ensures.items (λ P x sound key.
      rw (ap (lookup (pointwise nat_eq x)) c.new-2.ensures.empty) (λ line there. cc));
  sieved = rw c.new.ensures.items (record {
    has_pawns = λ line P x there own. cc;
    has_key = λ line P x sound there own. cc;
  });
  contents = rw c.new.ensures.items (λ place line there. cc);
}
