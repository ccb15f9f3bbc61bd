use Rattle.pgn_criteria.proofs.Common.{subst, position_seen, IsSoAt}
use Rattle.pgn_criteria.proofs.doubt.men_doubt.Goals as goal

pub returns-in-Material : goal.returns-in-Material
returns-in-Material c P one so =
    c.let_no_kings.ensures c.if-let_no_kings.true P.men one
    (subst (λ claim. IsSoAt P (position_seen (λ bytes. bytes.now) claim)) c.in-Material.is so)
