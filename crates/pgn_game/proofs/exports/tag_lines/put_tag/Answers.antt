use Rattle.pgn_game.proofs.Common.{arith, refl, common_steps, tag_line}
use Rattle.pgn_game.proofs.exports.tag_lines.put_tag.Goals as goal

pub returns-clause-line : goal.returns-clause-line
returns-clause-line c =
    let put = c.in_ok-put_text.ensures.text in
    let text = put.0 in (
      tag_line c.args.name.now text,
      (
        text,
        rw (← c.missing_text.ensures) put.1,
        refl,
      ),
      grind (arith, common_steps),
    )
