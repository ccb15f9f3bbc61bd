use Rattle.pgn_criteria.proofs.Common.{drop, map, MeetsSeen, NowhereSeen, codes_in, on_positions}
use Rattle.pgn_criteria.proofs.search.Search.may_be_met.Given as goal

abbrev pub invariant-loop-alternative : goal.invariant-loop-alternative
invariant-loop-alternative g l =
    NowhereSeen
    (MeetsSeen (map (λ a. on_positions a.now) (drop l.alternative-index l.alternative-items)))
    (g.S.Seen.men l.start) (g.S.Seen.turn l.start) (g.S.Seen.checked l.start)
    (g.S.Seen.stuck l.start) (codes_in l.plies)
    → NowhereSeen (MeetsSeen l.self) (g.S.Seen.men l.start) (g.S.Seen.turn l.start)
    (g.S.Seen.checked l.start) (g.S.Seen.stuck l.start) (codes_in l.plies)
