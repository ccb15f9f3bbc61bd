use Rattle.chess.proofs.Common.{◌≡◌, true, false, refl, King, Queen, Rook, Bishop, Knight, Pawn}
use Rattle.chess.proofs.PlaceFacts.{true_not_false}
use Rattle.chess.proofs.WayFacts.{no_move, found_move}
use Rattle.chess.proofs.position.Position.has_any_move.Goals as goal

pub returns : goal.returns
returns g c = (
  (λ e. let f : false ≡ true = e in absurd (cc)),
  (λ h. absurd (no_move c.args.self.now
      (λ m. true_not_false c.can_move.result (c.can_move.ensures.1 m) c.if-can_move.false)
      (λ m. true_not_false c.can_move-2.result (c.can_move-2.ensures.1 m) c.if-can_move-2.false)
      (λ m. true_not_false c.can_move-3.result (c.can_move-3.ensures.1 m) c.if-can_move-3.false)
      (λ m. true_not_false c.can_move-4.result (c.can_move-4.ensures.1 m) c.if-can_move-4.false)
      (λ m. true_not_false c.can_move-5.result (c.can_move-5.ensures.1 m) c.if-can_move-5.false)
      (λ m. true_not_false c.can_move-6.result (c.can_move-6.ensures.1 m) c.if-can_move-6.false)
      h)),
)

pub returns-then-can_move : goal.returns-then-can_move
returns-then-can_move g c =
    ((λ e. found_move c.args.self.now Pawn (c.can_move.ensures.0 c.if-can_move.true)), (λ h. refl))

pub returns-then-can_move-2 : goal.returns-then-can_move-2
returns-then-can_move-2 g c = (
  (λ e. found_move c.args.self.now Knight (c.can_move-2.ensures.0 c.if-can_move-2.true)),
  (λ h. refl),
)

pub returns-then-can_move-3 : goal.returns-then-can_move-3
returns-then-can_move-3 g c = (
  (λ e. found_move c.args.self.now Bishop (c.can_move-3.ensures.0 c.if-can_move-3.true)),
  (λ h. refl),
)

pub returns-then-can_move-4 : goal.returns-then-can_move-4
returns-then-can_move-4 g c = (
  (λ e. found_move c.args.self.now Rook (c.can_move-4.ensures.0 c.if-can_move-4.true)),
  (λ h. refl),
)

pub returns-then-can_move-5 : goal.returns-then-can_move-5
returns-then-can_move-5 g c = (
  (λ e. found_move c.args.self.now Queen (c.can_move-5.ensures.0 c.if-can_move-5.true)),
  (λ h. refl),
)

pub returns-then-can_move-6 : goal.returns-then-can_move-6
returns-then-can_move-6 g c = (
  (λ e. found_move c.args.self.now King (c.can_move-6.ensures.0 c.if-can_move-6.true)),
  (λ h. refl),
)
