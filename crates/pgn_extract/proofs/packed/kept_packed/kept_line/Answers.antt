use Rattle.std.proofs.lemmas.Result.{MatchResult-weaker}
use Rattle.pgn_extract.proofs.Common.{◌∙◌}
use Rattle.pgn_extract.proofs.packed.kept_packed.kept_line.Goals as goal

pub returns-in-None-clause-ok : goal.returns-in-None-clause-ok
returns-in-None-clause-ok c =
    MatchResult-weaker c.keep_record.result c.keep_record.ensures.ok
    (λ line stands aim given. stands aim (λ game replay packed own. given ∙ c.in-None.is))
    (λ fault none. tt)
