use Rattle.pgn_criteria.proofs.Common.{true, refl, IsTrue, man_at, IsOf, Not}
use Rattle.pgn_criteria.proofs.LayoutFacts.{lays_barred, lays_like}
use Rattle.pgn_criteria.proofs.layout.Layout.bar.Goals as goal

pub returns-in_ok-push : goal.returns-in_ok-push
returns-in_ok-push c =
    let barred = Not (record { side = c.args.side; kind = c.args.kind }) in
    lays_like (λ p. IsTrue true → IsOf barred (man_at p c.args.square)) (λ p.
    IsTrue c.args.is_barred → IsOf barred (man_at p c.args.square)) _ _
    (λ p. (λ so t. so refl, λ so t. so c.if-is_barred.true))
    (lays_barred _ _ barred c.args.square _ refl refl c.in_ok-push.ensures.items refl refl)
