use Rattle.pgn_extract.proofs.Common.{None, [], IfSome_then, on_ok_weaker, MatchResult-weaker}
use Rattle.pgn_extract.proofs.Common.{aim_with}
use Rattle.pgn_extract.proofs.Finds.{none_yet}
use Rattle.pgn_extract.proofs.entries.LineValues.{enough_played}
use Rattle.pgn_extract.proofs.entries.PlayedFacts.{begins_with, never_met, fails_at_start}
use Rattle.pgn_extract.proofs.entries.played.find_played.Goals as goal

pub find-requires-clause-open : goal.find-requires-clause-open
find-requires-clause-open g c off =
    never_met c.in_ok-line.line (g.Q.Question.Asks c.args.question) (c.is_open-is_open.ensures off)

pub find-requires-clause-shows : goal.find-requires-clause-shows
find-requires-clause-shows g c = enough_played c.args.finder.now.lines c.requires.shows

pub returns-clause-found : goal.returns-clause-found
returns-clause-found g c =
    let line = c.in_ok-line.line in
    let Asks = g.Q.Question.Asks c.args.question in
    on_ok_weaker c.find.result
    (λ found name openings id of.
    let aim = aim_with c.args.finder.now name openings in
    found name openings id c.args.game.now [] line.position
    (begins_with c.args.finder.now.is_sound c.args.game.now line Asks aim c.requires.sound
    c.in_ok-line.ensures c.requires.asks)
    (none_yet aim c.args.game.now) of)
    c.find.ensures.found

pub returns-clause-fault : goal.returns-clause-fault
returns-clause-fault g c =
    let line = c.in_ok-line.line in
    let Asks = g.Q.Question.Asks c.args.question in
    let aim = aim_with c.args.finder.now None None in
    MatchResult-weaker c.find.result c.find.ensures.fault (λ done none. tt)
    (λ fault met.
    IfSome_then _ met
    (fails_at_start c.args.finder.now c.args.game.now line
    Asks
    (begins_with c.args.finder.now.is_sound c.args.game.now line Asks aim c.requires.sound
    c.in_ok-line.ensures c.requires.asks) _))
