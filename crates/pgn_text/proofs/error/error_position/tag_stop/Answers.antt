use Rattle.pgn_text.proofs.Common.{◌≡◌, subst, sym, arith, Longest, IsTagFront, BeforeName}
use Rattle.pgn_text.proofs.error.InTag.{tag_far, tag_longest, tag_stuck, tag_over}
use Rattle.pgn_text.proofs.error.error_position.tag_stop.Goals as goal

pub returns-in_default : goal.returns-in_default
returns-in_default c =
    let here : tag_far BeforeName c.args.text.now ≡ c.loop-at.at =
    omega (
      arith,
      c.loop-at.invariant.so_far,
      tag_stuck c.loop-at.place c.args.text.now c.loop-at.at c.loop-at-test.true
          (sym c.in_default.ensures),
    ) in
    subst (Longest (IsTagFront BeforeName) c.args.text.now) here
    (tag_longest BeforeName c.args.text.now)

pub returns : goal.returns
returns c =
    let here : tag_far BeforeName c.args.text.now ≡ c.loop-at.at =
    omega (
      arith,
      c.loop-at.invariant.so_far,
      tag_over c.loop-at.place c.args.text.now c.loop-at.at c.loop-at-test.false,
    ) in
    subst (Longest (IsTagFront BeforeName) c.args.text.now) here
    (tag_longest BeforeName c.args.text.now)
