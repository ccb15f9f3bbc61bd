use Rattle.pgn_criteria.proofs.Common.{◌↔◌, IsTrue, ◌∙◌, subst, Man, count_of}
use Rattle.pgn_criteria.specs.Private.Counting.{FitsKind}
use Rattle.pgn_criteria.specs.Public.Materials.{Allows}
use Rattle.pgn_criteria.proofs.CountFacts.{counted}
use Rattle.pgn_criteria.proofs.material.fits_kind.Goals as goal

pub returns : goal.returns
unfolding FitsKind
returns g c =
    let men = (g.S.Seen.men c.args.position.now) in
    let man : Man = record { side = c.args.side; kind = c.args.kind } in
    let count = c.count.ensures ∙ counted men man c.squares_with.result c.squares_with.ensures in
    subst (λ limit. IsTrue c.allows.result ↔ Allows limit (count_of men man)) c.of.ensures
    (subst (λ n. IsTrue c.allows.result ↔ Allows c.of.result n) count c.allows.ensures)
