use Rattle.pgn_game.proofs.Common.{[], map, ◌∙◌, subst, IfSome_then, MatchResult-weaker, item_of}
use Rattle.pgn_game.proofs.Common.{Stops, first_level, fault_of, Walks}
use Rattle.pgn_game.proofs.RunFacts.{runs_played, stops_faulty}
use Rattle.pgn_game.proofs.StepFacts.{turns_of, walks_run}
use Rattle.pgn_game.proofs.replays.walk.check_all_lines.Goals as goal

pub returns : goal.returns
returns c =
    let items = map item_of c.args.elements.now in
    let start = c.args.start.now in
    let stack = c.new-stack.result in
    let line = c.new-stack.ensures.line ∙ c.first.ensures in
    MatchResult-weaker c.walk.result c.walk.ensures.walked
    (λ _ walked.
    let walks =
    subst (λ l. Walks items l [] walked.0) line
    (subst (λ outer. Walks items stack.line outer walked.0) c.new-stack.ensures.around walked.1)
    in (
      turns_of walked.0,
      runs_played start items (turns_of walked.0) c.requires
          (walks_run items (first_level start) [] walked.0 walks),
    ))
    (λ fault reports. IfSome_then (fault_of fault) reports
    (λ f stops. stops_faulty start items f c.requires
    (subst (λ l. Stops items l [] f) line
    (subst (λ outer. Stops items stack.line outer f) c.new-stack.ensures.around stops))))
