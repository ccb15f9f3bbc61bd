use Rattle.pgn_game.proofs.Common.{[], ◌∙◌, map, subst, IfSome_then, err_from_is_err_and}
use Rattle.pgn_game.proofs.Common.{item_of, Stops, main_words}
use Rattle.pgn_game.proofs.replays.KeptSteps.{kept_all}
use Rattle.pgn_game.proofs.OneReplay.{line_length}
use Rattle.pgn_game.proofs.RunFacts.{runs_played, stops_faulty}
use Rattle.pgn_game.proofs.replays.all_lines.play_all_lines.Goals as goal

pub returns-in_err-walk : goal.returns-in_err-walk
returns-in_err-walk c =
    let items = map item_of c.args.elements.now in
    let start = c.args.start.now in
    let stack = c.new-stack.result in
    let line = c.new-stack.ensures.line ∙ c.first.ensures in
    let p = err_from_is_err_and c.from_residual-in_err-walk.result
    c.from_residual-in_err-walk.ensures.1 in
    rw (p.1, p.2) (IfSome_then _ c.in_err-walk.ensures.walked (λ f stops.
    stops_faulty start items f c.requires
    (subst (λ l. Stops items l [] f) line
    (subst (λ outer. Stops items stack.line outer f) c.new-stack.ensures.around stops))))

pub replayed-requires : goal.replayed-requires
replayed-requires c =
    let items = map item_of c.args.elements.now in
    let start = c.args.start.now in
    let began = c.in_ok-keeper.ensures in
    let walked = c.in_ok-walk.ensures.walked in
    let all =
    kept_all start items c.new-stack.result walked.0 c.in_ok-keeper.keeper c.walk.new.visitor
    c.new-stack.ensures.around (c.new-stack.ensures.line ∙ c.first.ensures)
    began.positions began.played began.turns walked.1 walked.2 in
    line_length start (main_words items 0) c.walk.new.visitor.positions.items
    c.walk.new.visitor.played.items all.is_line

pub returns : goal.returns
returns c =
    let items = map item_of c.args.elements.now in
    let start = c.args.start.now in
    let keeper = c.walk.new.visitor in
    let began = c.in_ok-keeper.ensures in
    let walked = c.in_ok-walk.ensures.walked in
    let all =
    kept_all start items c.new-stack.result walked.0 c.in_ok-keeper.keeper keeper
    c.new-stack.ensures.around (c.new-stack.ensures.line ∙ c.first.ensures)
    began.positions began.played began.turns walked.1 walked.2 in
    let is = c.replayed.ensures in (
      rw is.positions (rw is.played all.is_line),
      rw is.turns (runs_played start items keeper.turns.items c.requires all.runs),
    )
