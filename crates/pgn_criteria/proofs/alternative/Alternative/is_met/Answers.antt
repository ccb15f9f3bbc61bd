use Rattle.pgn_criteria.proofs.Common.{◌↔◌, IsTrue, ap, subst, Conditions, AllSaid, AreFixed}
use Rattle.pgn_criteria.proofs.Common.{AreMirrored}
use Rattle.pgn_criteria.proofs.EitherFacts.{met_plain, met_fixed, met_mirror}
use Rattle.pgn_criteria.proofs.alternative.Alternative.is_met.Goals as goal

pub returns-then-is_met : goal.returns-then-is_met
returns-then-is_met g c =
    met_plain (g.S.Seen.men c.args.position.now) (g.S.Seen.turn c.args.position.now)
    (g.S.Seen.checked c.args.position.now) (g.S.Seen.stuck c.args.position.now)
    c.args.self.now.positions c.is_met.result
    (subst (λ x. IsTrue c.is_met.result
    ↔ AllSaid (g.S.Seen.men c.args.position.now) (g.S.Seen.turn c.args.position.now)
    (g.S.Seen.checked c.args.position.now) (g.S.Seen.stuck c.args.position.now) x)
    (ap (λ (a : Conditions). a.positions) c.self.view_is) c.is_met.ensures) c.if-is_met.true

pub returns-in-Some : goal.returns-in-Some
returns-in-Some g c =
    met_mirror (g.S.Seen.men c.args.position.now) (g.S.Seen.turn c.args.position.now)
    (g.S.Seen.checked c.args.position.now) (g.S.Seen.stuck c.args.position.now)
    c.args.self.now.positions c.in-Some.planned c.is_met.result c.is_met-in-Some.result
    (subst (λ x. IsTrue c.is_met.result
    ↔ AllSaid (g.S.Seen.men c.args.position.now) (g.S.Seen.turn c.args.position.now)
    (g.S.Seen.checked c.args.position.now) (g.S.Seen.stuck c.args.position.now) x)
    (ap (λ (a : Conditions). a.positions) c.self.view_is) c.is_met.ensures) c.if-is_met.false
    (subst (AreMirrored c.in-Some.planned) (ap (λ (a : Conditions). a.positions) c.self.view_is)
    (rw c.in-Some.is at c.self.invariant))
    c.is_met-in-Some.ensures

pub returns-in-None : goal.returns-in-None
returns-in-None g c =
    met_fixed (g.S.Seen.men c.args.position.now) (g.S.Seen.turn c.args.position.now)
    (g.S.Seen.checked c.args.position.now) (g.S.Seen.stuck c.args.position.now)
    c.args.self.now.positions c.is_met.result
    (subst (λ x. IsTrue c.is_met.result
    ↔ AllSaid (g.S.Seen.men c.args.position.now) (g.S.Seen.turn c.args.position.now)
    (g.S.Seen.checked c.args.position.now) (g.S.Seen.stuck c.args.position.now) x)
    (ap (λ (a : Conditions). a.positions) c.self.view_is) c.is_met.ensures) c.if-is_met.false
    (subst AreFixed (ap (λ (a : Conditions). a.positions) c.self.view_is)
    (rw c.in-None.is at c.self.invariant))
