-- The movetext is that of the game, and the tags are those of the game as it counts.
use Rattle.pgn_game.proofs.Common.{◌∷◌, [], ◌++◌, on_ok_weaker}
use Rattle.pgn_game.proofs.exports.ExportFacts.{export_as}
use Rattle.pgn_game.proofs.exports.exporter.export_followed.Goals as goal

pub returns-clause-text : goal.returns-clause-text
returns-clause-text c =
    let own = c.in_ok-own.own in
    let movetext = c.args.followed.now.movetext.items in
    let (start, is_start, is_movetext) = c.requires.text in
    on_ok_weaker c.put_parts_or_leave.result
    (λ put.
    let (head, tags, all) = rw c.deref.ensures.value at put in (
      own,
      c.in_ok-own.ensures,
      c.invariant.ensures,
      head ++ 10 ∷ (movetext ++ 10 ∷ []),
      export_as c.args.style.now c.args.openings.now c.args.game own start head movetext is_start
          c.in_ok-own.ensures tags is_movetext,
      all,
    ))
    c.put_parts_or_leave.ensures.text
