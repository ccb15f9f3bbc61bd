use Rattle.std.specs.Prelude.{slice_set}
use Rattle.pgn_game.proofs.Common.{◌+◌, ◌++◌, ◌∷◌, take, drop, ap, ◌∙◌, arith}
use Rattle.pgn_game.proofs.exports.EvenFacts.{parted_there}
use Rattle.pgn_game.proofs.exports.comment.push_parted.Goals as goal

pub returns-clause-text : goal.returns-clause-text
returns-clause-text c =
    let at = c.len.result + c.args.place in
    ap (λ t. slice_set t at 10) c.in_ok-extend_from_slice.ensures.items
    ∙ parted_there c.args.out.now.items c.args.text.now c.args.place at c.requires
    (omega (arith, c.len.ensures))

pub returns-clause-kept : goal.returns-clause-kept
returns-clause-kept c =
    let text = c.args.text.now in
    let at = c.len.result + c.args.place in (
      take c.args.place text ++ 10 ∷ drop (c.args.place + 1) text,
      ap (λ t. slice_set t at 10) c.in_ok-extend_from_slice.ensures.items
          ∙ parted_there c.args.out.now.items text c.args.place at c.requires
          (omega (arith, c.len.ensures)),
    )
