use Rattle.chess.proofs.Common.{sym, ◌∙◌}
use Rattle.chess.proofs.EnPassantFacts.{none_without}
use Rattle.chess.proofs.position.Position.used_en_passant.Goals as goal

pub returns-in_default : goal.returns-in_default
returns-in_default g c taken =
    none_without c.args.self.now taken.0 (sym c.en_passant.ensures ∙ c.in_default.is) taken.1
