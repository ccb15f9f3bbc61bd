use Rattle.std.proofs.Common.{Some, refl, sym, ap, ◌∙◌}
use Rattle.pgn_text.proofs.Common.{depth_limit, KeptNumber, State, state_of}
use Rattle.pgn_text.proofs.PartsAt.{kept_marks, kept_white, kept_dot, kept_open}
use Rattle.pgn_text.proofs.PartsAt.{kept_close}
use Rattle.pgn_text.proofs.game.ReadingLemmas.{reading_of}
use Rattle.pgn_text.proofs.game.read_part.Goals as goal

pub returns-then-is_in : goal.returns-then-is_in
returns-then-is_in g c = c.in_ok-end.ensures c.args.file_start

pub returns-then-is_in-2 : goal.returns-then-is_in-2
returns-then-is_in-2 g c =
    reading_of (g.K.TokenVisitor.kept c.args.visitor.now)
    (g.K.TokenVisitor.kept c.step_after.new.visitor)
    depth_limit (state_of c.args.progress.now) (state_of c.step_after.new.progress)
    (kept_white c.args.file_start c.args.block.now c.args.at c.requires (sym c.is_in-2.ensures
    ∙ c.if-is_in-2.true)) refl
    c.step_after.result c.step_after.ensures

pub returns-in-Some : goal.returns-in-Some
returns-in-Some g c = (
  record {
    token = KeptNumber;
    here = c.in-Some.ensures c.args.file_start;
    no_result = refl;
    steps = ap Some (sym c.enter_movetext.ensures);
    keeps = c.in_ok-keep.ensures;
  },
  ap (λ (state : State). state.in_tags) c.enter_movetext.ensures,
)

pub returns-then-is_in-3 : goal.returns-then-is_in-3
returns-then-is_in-3 g c =
    reading_of (g.K.TokenVisitor.kept c.args.visitor.now)
    (g.K.TokenVisitor.kept c.step_after-then-is_in-3.new.visitor) depth_limit
    (state_of c.args.progress.now) (state_of c.step_after-then-is_in-3.new.progress)
    (kept_marks c.args.file_start c.args.block.now c.args.at c.run_end-end.result
    c.requires (sym c.is_in-3.ensures ∙ c.if-is_in-3.true) c.run_end-end.ensures)
    refl
    c.step_after-then-is_in-3.result c.step_after-then-is_in-3.ensures

pub returns-in-46 : goal.returns-in-46
returns-in-46 g c =
    reading_of (g.K.TokenVisitor.kept c.args.visitor.now)
    (g.K.TokenVisitor.kept c.step_after-in-46.new.visitor) depth_limit
    (state_of c.args.progress.now)
    (state_of c.step_after-in-46.new.progress)
    (kept_dot c.args.file_start c.args.block.now c.args.at c.requires c.in-46.is) refl
    c.step_after-in-46.result c.step_after-in-46.ensures

pub returns-in-40 : goal.returns-in-40
returns-in-40 g c =
    reading_of (g.K.TokenVisitor.kept c.args.visitor.now)
    (g.K.TokenVisitor.kept c.step_after-in-40.new.visitor) depth_limit
    (state_of c.args.progress.now)
    (state_of c.step_after-in-40.new.progress)
    (kept_open c.args.file_start c.args.block.now c.args.at c.requires c.in-40.is) refl
    c.step_after-in-40.result c.step_after-in-40.ensures

pub returns-in-41 : goal.returns-in-41
returns-in-41 g c =
    reading_of (g.K.TokenVisitor.kept c.args.visitor.now)
    (g.K.TokenVisitor.kept c.step_after-in-41.new.visitor) depth_limit
    (state_of c.args.progress.now)
    (state_of c.step_after-in-41.new.progress)
    (kept_close c.args.file_start c.args.block.now c.args.at c.requires c.in-41.is) refl
    c.step_after-in-41.result c.step_after-in-41.ensures
