use Rattle.chess.proofs.Common.{◌≡◌, true, ◌∙◌, sym, subst, IsLegal, said_by, CanGoSaid}
use Rattle.chess.proofs.Common.{is_in}
use Rattle.chess.proofs.NamedFacts.{said_candidate, said_legal, said_on}
use Rattle.chess.proofs.PlaceFacts.{true_not_false}
use Rattle.chess.proofs.move_text.RefusalFacts.{said_here}
use Rattle.chess.proofs.move_text.refusal.moved_from.Goals as goal

pub returns-then-not-has : goal.returns-then-not-has
returns-then-not-has g c m here holds =
    let P = c.args.position.now in
    let said = said_by c.args.said.now in
    let candidates =
    (c.candidate_origins-candidates.ensures m.from).1 (
      said_on P said m holds,
      said_candidate P said m holds,
    ) in
    true_not_false c.has.result (c.has.ensures
    ∙ subst (λ s. is_in c.candidate_origins-candidates.result s ≡ true) here candidates)
    c.if-not-has.true

pub returns-then-not-is_legal : goal.returns-then-not-is_legal
returns-then-not-is_legal g c m here holds =
    let P = c.args.position.now in
    let said = said_by c.args.said.now in
    true_not_false c.is_legal.result
    (c.is_legal.ensures.1
    (subst (IsLegal P) (sym c.from.ensures)
    (subst (CanGoSaid P said) here (said_legal P said m holds)))) c.if-not-is_legal.true

pub returns : goal.returns
returns g c =
    let P = c.args.position.now in
    let said = said_by c.args.said.now in
    let candidates =
    ((c.candidate_origins-candidates.ensures c.args.from).0 (sym c.has.ensures
    ∙ c.if-not-has.false)).1 in
    rw c.from-2.ensures (said_here P said c.args.from candidates (subst (IsLegal P) c.from.ensures
    (c.is_legal.ensures.0 c.if-not-is_legal.false)))
