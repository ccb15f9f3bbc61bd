use Rattle.chess.proofs.Common.{sym, [], ◌∷◌, append-nil, mate, check, quiet}
use Rattle.chess.proofs.PlaceFacts.{true_not_false}
use Rattle.chess.proofs.move_text.write.push_check_sign.Goals as goal

pub returns-then-not-in_check : goal.returns-then-not-in_check
returns-then-not-in_check g c = (
  [],
  quiet (λ h.
      true_not_false c.in_check.result (c.in_check.ensures.1 h) c.if-not-in_check.true),
  sym (append-nil c.args.out.now.bytes),
)

pub returns-then-has_move : goal.returns-then-has_move
returns-then-has_move g c = (
  43 ∷ [],
  check (c.in_check.ensures.0 c.if-not-in_check.false) (λ mated.
      mated.1 (c.has_move.ensures.0 c.if-has_move.true)),
  c.push_byte.ensures,
)

pub returns : goal.returns
returns g c = (
  35 ∷ [],
  mate (
    c.in_check.ensures.0 c.if-not-in_check.false,
    (λ h. true_not_false c.has_move.result (c.has_move.ensures.1 h) c.if-has_move.false),
  ),
  c.push_byte-2.ensures,
)
