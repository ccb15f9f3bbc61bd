use Rattle.chess.proofs.Common.{◌≡◌, inl, inr, ap, sym, subst, ◌∙◌, true, opposite, IsOccupiedBy}
use Rattle.chess.proofs.Common.{IsTaker, is_in}
use Rattle.chess.proofs.PlaceFacts.{true_not_false}
use Rattle.chess.proofs.move_text.CandidateFacts.{none_hold}
use Rattle.chess.proofs.position.Position.takers.Goals as goal

pub returns-then-not-is_en_passant_target : goal.returns-then-not-is_en_passant_target
returns-then-not-is_en_passant_target g c =
    let P = c.args.self.now in
    let side = c.opposite.ensures ∙ ap opposite c.side.ensures in
    none_hold (λ s. (is_in c.args.among s ≡ true)
    × IsTaker P c.args.to s) c.new.result c.new.ensures
    (λ s on taker. elim taker.1.1.1 [
      | inl held ↦ true_not_false c.is_occupied_by.result
          (c.is_occupied_by.ensures.1 (subst (λ a. IsOccupiedBy P.men a c.args.to) (sym side) held))
          c.if-not-is_occupied_by.true
      | inr passes ↦ true_not_false c.is_en_passant_target.result
          (c.is_en_passant_target.ensures.fact.1 passes) c.if-not-is_en_passant_target.true
    ])
