use Rattle.std.proofs.Common.{◌≡◌, ◌≤◌, rules}
use Rattle.pgn_criteria.proofs.SetupFacts.{AreRightsAlike, alike_by}
use Rattle.pgn_criteria.proofs.setup.is_alike.Goals as goal

pub returns-else-setup-lt4 : goal.returns-else-setup-lt4
returns-else-setup-lt4 c =
    let P = c.args.position.now in
    let Q = c.args.setup.now.position in
    let given = c.args.setup.now.given in
    let turn : 2 ≤ given → P.turn ≡ Q.turn = search rules in
    let rights : 3 ≤ given → AreRightsAlike P.rights Q.rights = search rules in
    alike_by given P Q c.are_captures_alike.result
    (c.are_men_alike.ensures.0 c.if-not-are_men_alike.false) turn rights c.if-setup-lt4.false
    c.are_captures_alike.ensures
