use Rattle.pgn_game.proofs.Common.{◌∷◌, [], ◌++◌, arith, common_steps}
use Rattle.pgn_game.proofs.exports.ExportFacts.{export_of}
use Rattle.pgn_game.proofs.exports.exporter.put_export.Goals as goal

pub returns-clause-text : goal.returns-clause-text
returns-clause-text c =
    let (head, tags, head_is) = c.in_ok-put_tags.ensures.lines in
    let (movetext, is_movetext, movetext_is) = c.in_ok-put_movetext.ensures.text in (
      head ++ 10 ∷ (movetext ++ 10 ∷ []),
      export_of [] c.args.style.now c.args.game.now c.args.start.now head movetext c.requires tags
          is_movetext,
      grind (arith, common_steps),
    )
