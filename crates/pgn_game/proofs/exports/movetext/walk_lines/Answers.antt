use Rattle.pgn_game.proofs.Common.{◌∙◌, IfSome_then, MatchResult-weaker, fault_of}
use Rattle.pgn_game.proofs.exports.MovetextLines.{written_fault}
use Rattle.pgn_game.proofs.exports.movetext.walk_lines.Goals as goal

pub returns-clause-walked : goal.returns-clause-walked
returns-clause-walked g c =
    let game = c.args.game.now in
    let none = c.new-stack.ensures.around in
    let first = c.new-stack.ensures.line ∙ c.first.ensures in
    let same = c.elements.ensures.elements in
    MatchResult-weaker c.walk.result c.walk.ensures.walked
    (λ _ (steps, walks, visits). (steps, rw same at (rw first at (rw none at walks)), visits))
    (λ fault met. IfSome_then (fault_of fault) met (λ f stops.
    written_fault c.args.variations c.args.start.now game.elements f c.elements.ensures.paired
    (rw same at (rw first at (rw none at stops)))))
