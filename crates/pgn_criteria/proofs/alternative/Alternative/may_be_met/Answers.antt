use Rattle.pgn_criteria.proofs.Common.{ap, subst, NowhereSeen, codes_in, Conditions, FitsSeen}
use Rattle.pgn_criteria.proofs.Common.{AllOfPatterns, AreFixed, AreMirrored, FitsPlaced, Nowhere}
use Rattle.pgn_criteria.proofs.MarkFacts.{placed_seen}
use Rattle.pgn_criteria.proofs.alternative.PlacedFacts.{fixed_patterns, nowhere_mirrored}
use Rattle.pgn_criteria.proofs.StandFacts.{nowhere_of}
use Rattle.pgn_criteria.proofs.alternative.Alternative.may_be_met.Goals as goal

pub returns-then-not-needs_are_shown : goal.returns-then-not-needs_are_shown
returns-then-not-needs_are_shown g c = λ none.
    let S = c.args.start.now in
    subst (λ conditions.
    NowhereSeen (FitsSeen conditions) (g.S.Seen.men S) (g.S.Seen.turn S) (g.S.Seen.checked S)
    (g.S.Seen.stuck S) (codes_in c.args.plies.now))
    (ap (λ (a : Conditions). a.positions) c.self.view_is)
    (c.needs_are_shown.ensures c.if-not-needs_are_shown.true)

pub returns-in-Some : goal.returns-in-Some
returns-in-Some g c = λ none.
    placed_seen c.args.self.now.positions (g.S.Seen.men c.args.start.now)
    (g.S.Seen.turn c.args.start.now) (g.S.Seen.checked c.args.start.now)
    (g.S.Seen.stuck c.args.start.now)
    (codes_in c.args.plies.now)
    (nowhere_mirrored c.in-Some.planned c.args.self.now.positions
    (subst (AreMirrored c.in-Some.planned) (ap (λ (a : Conditions). a.positions) c.self.view_is)
    (rw c.in-Some.is at c.self.invariant))
    (g.S.Seen.men c.args.start.now) (codes_in c.args.plies.now)
    (subst (λ conditions.
    Nowhere (λ p. AllOfPatterns p conditions) (g.S.Seen.men c.args.start.now)
    (codes_in c.args.plies.now)) (ap (λ (a : Conditions). a.positions) c.self.view_is)
    (c.may_be_met.ensures c.if-may_be_met.false))
    (c.may_be_met-in-Some.ensures none))

pub returns-in-None : goal.returns-in-None
returns-in-None g c = λ none.
    placed_seen c.args.self.now.positions (g.S.Seen.men c.args.start.now)
    (g.S.Seen.turn c.args.start.now) (g.S.Seen.checked c.args.start.now)
    (g.S.Seen.stuck c.args.start.now)
    (codes_in c.args.plies.now)
    (nowhere_of (λ p. AllOfPatterns p c.args.self.now.positions)
    (FitsPlaced c.args.self.now.positions) (g.S.Seen.men c.args.start.now)
    (codes_in c.args.plies.now)
    (fixed_patterns c.args.self.now.positions
    (subst AreFixed (ap (λ (a : Conditions). a.positions) c.self.view_is)
    (rw c.in-None.is at c.self.invariant)))
    (subst (λ conditions.
    Nowhere (λ p. AllOfPatterns p conditions) (g.S.Seen.men c.args.start.now)
    (codes_in c.args.plies.now)) (ap (λ (a : Conditions). a.positions) c.self.view_is)
    (c.may_be_met.ensures c.if-may_be_met.false)))
