use Rattle.pgn_criteria.proofs.Common.{map, seen, codes_in}
use Rattle.pgn_criteria.proofs.MarkFacts.{shown_nowhere}
use Rattle.pgn_criteria.proofs.marks.marks_are_shown.Goals as goal

pub returns : goal.returns
returns g c = λ none.
    let S = c.args.start.now in
    shown_nowhere (map (seen (λ text. text.items)) c.args.conditions.now) c.need_mark-check.result
    c.need_mark-stuck.result c.need_mark-check.ensures c.need_mark-stuck.ensures
    (g.S.Seen.men S) (g.S.Seen.turn S) (g.S.Seen.checked S) (g.S.Seen.stuck S)
    (codes_in c.args.plies.now)
    (λ both.
    let yes = c.shows.ensures.1 (
      (λ t. c.is_checked.ensures.1 (both.0 t)),
      (λ t. c.is_stuck.ensures.1 (both.1 t)),
    ) in
    let no = c.if-shows.false in absurd (cc))
    (c.some_ply_shows.ensures none)
