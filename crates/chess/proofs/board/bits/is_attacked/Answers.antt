use Rattle.chess.proofs.Common.{inl, inr, refl, King, Knight, Pawn}
use Rattle.chess.proofs.PlaceFacts.{true_not_false}
use Rattle.chess.proofs.board.AttackFacts.{attacked_of, attacked_straight, attacked_diagonal}
use Rattle.chess.proofs.board.AttackFacts.{attack_at_all}
use Rattle.chess.proofs.board.bits.is_attacked.Goals as goal

pub returns-then-is_attacked_nearby : goal.returns-then-is_attacked_nearby
returns-then-is_attacked_nearby c p h men = (
  (λ e. elim ((c.is_attacked_nearby.ensures p h).0 c.if-is_attacked_nearby.true) [
    | inl knight ↦ attacked_of p c.args.side Knight c.args.square knight
    | inr other ↦ elim other [
      | inl king ↦ attacked_of p c.args.side King c.args.square king
      | inr pawn ↦ attacked_of p c.args.side Pawn c.args.square pawn
    ]
  ]),
  (λ h. refl),
)

pub returns : goal.returns
returns c p h men = (
  (λ e. elim ((c.is_attacked_along_line.ensures p h men).0 e) [
    | inl straight ↦ attacked_straight p c.args.side c.args.square straight
    | inr diagonal ↦ attacked_diagonal p c.args.side c.args.square diagonal
  ]),
  (λ attack. elim (attack_at_all p c.args.side c.args.square h.on_board attack) [
    | inl knight ↦ absurd
        (true_not_false _ ((c.is_attacked_nearby.ensures p h).1 (inl knight))
        c.if-is_attacked_nearby.false)
    | inr other ↦ elim other [
      | inl king ↦ absurd
          (true_not_false _ ((c.is_attacked_nearby.ensures p h).1 (inr (inl king)))
          c.if-is_attacked_nearby.false)
      | inr other ↦ elim other [
        | inl pawn ↦ absurd
            (true_not_false _ ((c.is_attacked_nearby.ensures p h).1 (inr (inr pawn)))
            c.if-is_attacked_nearby.false)
        | inr line ↦ (c.is_attacked_along_line.ensures p h men).1 line
      ]
    ]
  ]),
)
