use Rattle.pgn_text.proofs.Common.{refl, depth_limit, state_of}
use Rattle.pgn_text.proofs.game.ReadingLemmas.{readings_of}
use Rattle.pgn_text.proofs.game.read_comment.Goals as goal

pub returns-in-Some : goal.returns-in-Some
returns-in-Some g c =
    readings_of (g.K.TokenVisitor.kept c.args.visitor.now)
    (g.K.TokenVisitor.kept c.step_after.new.visitor)
    depth_limit (state_of c.args.progress.now) (state_of c.step_after.new.progress)
    c.in-Some.ensures refl c.step_after.result c.step_after.ensures
