use Rattle.pgn_criteria.proofs.Common.{◌≡◌, ◌∙◌, refl, sym, ap, arith, opposite, subst, IsTrue}
use Rattle.pgn_criteria.proofs.Common.{◌↔◌, has_marks}
use Rattle.pgn_criteria.specs.Public.Walks.{stepped}
use Rattle.pgn_criteria.specs.Private.SeenPlies.{Fits}
use Rattle.pgn_criteria.proofs.SeenFacts.{all_said}
use Rattle.pgn_criteria.proofs.SeenPlyFacts.{first_code, told_last, told_next}
use Rattle.pgn_criteria.proofs.StandFacts.{rest_is}
use Rattle.pgn_criteria.proofs.walked.marked_plies.Goals as goal

pub loop-told-init : goal.loop-told-init
loop-told-init c =
    let s = c.args.start.now in
    let own = c.args.alternative.now.positions in
    let check = c.is_checked.result in
    let stuck = c.is_stuck.result in
    let told = c.requires s.men s.turn check stuck in
    let same = all_said s.men s.turn (IsTrue check) (IsTrue s.check) (IsTrue stuck) (IsTrue s.stuck)
    own c.is_checked.ensures c.is_stuck.ensures in
    record {
      seen = s;
      turn = sym c.to_move-turn.ensures;
      reports = subst (λ r. IsTrue r ↔ Fits own s)
          (ap (λ t. has_marks c.args.marks.flags t check stuck) (sym c.to_move-turn.ensures)
          ∙ sym c.has-is.ensures)
          (λ t. same.0 (told.0 t), λ fits. told.1 (same.1 fits));
      to = λ more tells. rw c.in_ok-told.ensures.items tells;
    }

pub returns-in_default : goal.returns-in_default
returns-in_default c =
    let old = c.loop-told.invariant in
    told_last c.args.alternative.now.positions c.args.start.now old.seen c.args.plies.now
    c.loop-told.left.now c.loop-told.told.items c.push.new.self.items c.loop-told.is
    old.to c.in_ok-push.ensures.items old.reports
    (omega (arith, c.in_default.len_below))

pub loop-told-preserved : goal.loop-told-preserved
loop-told-preserved c =
    let old = c.loop-told.invariant in
    let code = first_code c.loop-told.left.now in
    let next = stepped old.seen code in
    let flags = c.args.marks.flags in
    let turn : opposite old.seen.turn ≡ c.opposite-turn.result =
    ap opposite old.turn ∙ sym c.opposite-turn.ensures in
    record {
      seen = next;
      turn = turn;
      reports = subst (λ r. IsTrue r ↔ Fits c.args.alternative.now.positions next)
          (ap (λ t. has_marks flags t code.check code.stuck) turn ∙ sym c.has_told-is.ensures)
          (c.requires next.men next.turn next.check next.stuck);
      to = told_next c.args.alternative.now.positions c.args.start.now old.seen c.args.plies.now
          c.loop-told.left.now c.loop-told.told.items c.push.new.self.items c.loop-told.is
          old.to c.in_ok-push.ensures.items old.reports _
          c.in-len3-up.len_at_least (rest_is c.loop-told.left.now _ refl);
    }
