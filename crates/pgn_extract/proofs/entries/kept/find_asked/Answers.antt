use Rattle.pgn_extract.proofs.Common.{IfSome_then, MatchResult-weaker}
use Rattle.pgn_extract.proofs.Finds.{stops_of}
use Rattle.pgn_extract.proofs.entries.kept.find_asked.Goals as goal

pub returns-clause-fault : goal.returns-clause-fault
returns-clause-fault g c =
    MatchResult-weaker c.find_played.result c.find_played.ensures.fault (λ done none. tt)
    (λ fault met. IfSome_then _ met
    (stops_of c.args.game.now c.args.text.now.items c.find_played.new.sink.items))
