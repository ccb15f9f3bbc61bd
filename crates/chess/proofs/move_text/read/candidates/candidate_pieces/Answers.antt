use Rattle.chess.proofs.Common.{◌≡◌, inl, inr, subst, sym, IsOccupiedBy, HoldsExactly, IsAttacker}
use Rattle.chess.proofs.Common.{said_by, man_said, IsCandidate, Man}
use Rattle.chess.proofs.PlaceFacts.{true_not_false}
use Rattle.chess.proofs.move_text.CandidateFacts.{candidate_pieces, no_piece, none_hold}
use Rattle.chess.proofs.move_text.CandidateFacts.{promotes_some}
use Rattle.chess.proofs.move_text.CandidateFacts.{promotes_none}
use Rattle.chess.proofs.move_text.read.candidates.candidate_pieces.Goals.{then-is_some-via-then-is_some}
use Rattle.chess.proofs.move_text.read.candidates.candidate_pieces.Goals.{then-is_some-via-else-is_some+then-is_occupied_by}
use Rattle.chess.proofs.move_text.read.candidates.candidate_pieces.Goals as goal

pub returns-then-is_some : goal.returns-then-is_some
returns-then-is_some g c =
    let P = c.args.position.now in
    let said = said_by c.args.said.now in
    none_hold (IsCandidate P said) c.new.result c.new.ensures
    (λ s on candidates. elim c.then-is_some.branch [
      | then-is_some-via-then-is_some w ↦
          no_piece P said s c.requires
          (inl (promotes_some said.promote c.is_some.result c.is_some.ensures
          w.if-is_some.true)) candidates
      | then-is_some-via-else-is_some+then-is_occupied_by w ↦
          no_piece P said s c.requires
          (inr (subst (λ a. IsOccupiedBy P.men a said.target) c.side.ensures
          (w.is_occupied_by.ensures.0 w.if-is_occupied_by.true))) candidates
    ])

pub returns : goal.returns
returns g c =
    let P = c.args.position.now in
    let said = said_by c.args.said.now in
    let man : record { side = c.side.result; kind = c.kind.result } ≡ man_said P said =
    λ i. record { side = c.side.ensures i; kind = c.kind.ensures i } in
    candidate_pieces P said c.origins.result c.attackers_from.result c.requires c.invariant.ensures
    (promotes_none said.promote c.is_some.result c.is_some.ensures c.if-is_some.false)
    (λ held.
    true_not_false c.is_occupied_by.result
    (c.is_occupied_by.ensures.1
    (subst (λ a. IsOccupiedBy P.men a said.target) (sym c.side.ensures) held))
    c.if-is_occupied_by.false)
    c.origins.ensures (subst (λ (m : Man).
    HoldsExactly (IsAttacker P.men m said.target c.origins.result) c.attackers_from.result) man
    c.attackers_from.ensures)
