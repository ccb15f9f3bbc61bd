use Rattle.pgn_game.proofs.Common.{sym, ◌∙◌, refl, arith, false≢true}
use Rattle.pgn_game.proofs.CodeLineFacts.{first_coded, no_line, no_part, none_coded, replayed_none}
use Rattle.pgn_game.proofs.pack.next_code.next_coded.Goals as goal

pub returns-then-is_empty : goal.returns-then-is_empty
returns-then-is_empty c =
    none_coded c.args.position.now c.args.plies.now
    (grind (arith, c.is_empty.ensures, c.if-is_empty.true))

pub returns-in_default : goal.returns-in_default
returns-in_default c = (
  refl,
  no_part c.args.position.now c.args.plies.now (λ n size.
      let few = c.in_default.len_below in
      let some = sym c.is_empty.ensures ∙ c.if-is_empty.false in
      grind (arith, size, few, some)),
)

pub returns-then-not-is_legal : goal.returns-then-not-is_legal
returns-then-not-is_legal c = (
  refl,
  no_line (replayed_none c.args.position.now c.args.plies.now) c.told_move-m.result
      c.told_move-m.ensures
      (λ legal. false≢true (sym c.if-not-is_legal.true ∙ c.is_legal.ensures.1 legal))
      (let up = c.in-len3-up.len_at_least in omega (arith, up)),
)

pub returns : goal.returns
returns c =
    first_coded c.args.position.now c.args.plies.now c.told_move-m.result c.told_move-m.ensures
    (c.is_legal.ensures.0 c.if-not-is_legal.false) c.in-len3-up.len_at_least
