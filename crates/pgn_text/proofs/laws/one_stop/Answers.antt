-- Each law is a lemma.
use Rattle.pgn_text.proofs.Common.{◌++◌, take, drop, sym, ap, ◌∙◌, subst, take-append-drop}
use Rattle.pgn_text.proofs.Common.{IsGameFront}
use Rattle.pgn_text.proofs.EachStops.{stop_exists, front_of_front}
use Rattle.pgn_text.proofs.GameFronts.{stops_at_game}
use Rattle.pgn_text.proofs.laws.Halfway.{game_reads}
use Rattle.pgn_text.proofs.Stopping.{one_stop}
use Rattle.pgn_text.proofs.StopsThere.{stops_alone}
use Rattle.pgn_text.proofs.laws.one_stop.Goals as goal

pub returns-clause-once : goal.returns-clause-once
returns-clause-once c = λ max_depth file_start before text.
    let found = stop_exists max_depth file_start before text in
    (found.0, found.1, λ other h. one_stop max_depth file_start before text other found.0 h found.1)

pub returns-clause-fronts : goal.returns-clause-fronts
returns-clause-fronts c =
    λ max_depth file_start before front more g. front_of_front max_depth file_start before front
    more g

pub returns-clause-game : goal.returns-clause-game
returns-clause-game c = λ max_depth file_start before text parts after e g.
    stops_at_game max_depth file_start before text parts after
    (game_reads max_depth file_start before text parts after e g)

pub returns-clause-change : goal.returns-clause-change
returns-clause-change c = λ max_depth file_start before game text change place g same within stops.
    stops.furthest change within
    (front_of_front max_depth file_start before (take change text) (drop change game)
    (subst (IsGameFront max_depth file_start before)
    (sym (take-append-drop change game) ∙ ap (λ l. l ++ drop change game) (sym same)) g))

pub returns-clause-alone : goal.returns-clause-alone
returns-clause-alone c = stops_alone
