use Rattle.pgn_criteria.proofs.Common.{◌≤◌, sym, subst, count_of, codes_in}
use Rattle.pgn_criteria.specs.Private.Counting.{FitsKind}
use Rattle.pgn_criteria.specs.Public.Materials.{Allows}
use Rattle.pgn_criteria.proofs.StandFacts.{nowhere_of}
use Rattle.pgn_criteria.proofs.numbers.kind_may_fit.Goals as goal

pub returns-in-Some : goal.returns-in-Some
unfolding FitsKind
returns-in-Some g c = λ none.
    let man = c.args.man in
    let men = g.S.Seen.men c.args.start.now in
    nowhere_of (λ p. count_of p man ≤ c.in-Some.most) (λ p.
    FitsKind p man.side c.args.limits.now man.kind) men (codes_in c.args.plies.now)
    (λ p fits.
    c.in-Some.ensures (count_of p man)
    (subst (λ limit. Allows limit (count_of p man)) (sym c.of.ensures) fits))
    (c.is_met_somewhere.ensures men c.squares_with.ensures none)
