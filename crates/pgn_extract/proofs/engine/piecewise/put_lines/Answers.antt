use Rattle.pgn_extract.proofs.Common.{◌++◌, ◌∙◌, ap, refl, subst, err_from_is_err_and, aim_of}
use Rattle.pgn_extract.specs.Private.Blockwise.{line_layout}
use Rattle.pgn_extract.specs.Public.Exports.{line_begin}
use Rattle.pgn_game.specs.Public.LineGames.{WritesFirst, lines_of}
use Rattle.pgn_game.proofs.LinesInRow.{writes_all, writes_more}
use Rattle.pgn_extract.proofs.BlockWritten.{front_none, written_soundly}
use Rattle.pgn_extract.proofs.LineExports.{some_line_texts, some_rest}
use Rattle.pgn_extract.proofs.engine.Gathered.{adds_passing}
use Rattle.pgn_extract.proofs.engine.GameVerdict.{sound_added}
use Rattle.pgn_extract.proofs.engine.LineVerdicts.{text_begun, text_more, text_passed}
use Rattle.pgn_extract.proofs.engine.LineVerdicts.{text_unwritten}
use Rattle.pgn_extract.proofs.engine.piecewise.put_lines.Goals as goal

pub returns-in_err-push_line_begin-clause-stopped : goal.returns-in_err-push_line_begin-clause-stopped
returns-in_err-push_line_begin-clause-stopped g c =
    let settings = c.args.context.settings.now in
    let layout = line_layout settings.form (aim_of settings)
    (line_begin settings.name c.args.context.own) in
    let some = some_line_texts layout c.args.game.now c.invariant.ensures c.requires.lines in
    let p = err_from_is_err_and c.from_residual.result c.from_residual.ensures.1 in
    rw p.1 (some.0, some.1, text_unwritten _ _ _ some.0)

pub returns-in_err-left-clause-stopped : goal.returns-in_err-left-clause-stopped
returns-in_err-left-clause-stopped g c =
    let settings = c.args.context.settings.now in
    let layout = line_layout settings.form (aim_of settings)
    (line_begin settings.name c.args.context.own) in
    let some = some_line_texts layout c.args.game.now c.invariant.ensures c.requires.lines in
    let p = err_from_is_err_and c.from_residual-in_err-left.result
    c.from_residual-in_err-left.ensures.1 in
    rw p.1 (some.0, some.1, text_unwritten _ _ _ some.0)

pub loop-left-init : goal.loop-left-init
loop-left-init g c =
    let settings = c.args.context.settings.now in
    let layout = line_layout settings.form (aim_of settings)
    (line_begin settings.name c.args.context.own) in
    let (line, text, spells, first, put) = c.in_ok-left.ensures.text in
    let (same, game) = c.in_ok-left.ensures.how in
    let begins = c.deref.ensures.value ∙ c.in_ok-push_line_begin.ensures
    ∙ ap (λ bytes. bytes ++ line_begin settings.name c.args.context.own)
    c.new-before.ensures.items in
    let is = c.line_form-form.ensures
    ∙ ap (line_layout settings.form (aim_of settings)) begins in
    record {
      done = (
        line,
        text,
        spells,
        subst (λ l. WritesFirst l c.args.game.now (lines_of line) c.in_ok-left.left.lines text)
            is first,
        adds_passing _ _ (sound_added put refl refl refl),
      );
      layout = same ∙ is;
      game = game;
      out = c.requires.sound.0;
      err = c.requires.sound.1;
    }

pub returns-in_err-put_next-clause-stopped : goal.returns-in_err-put_next-clause-stopped
returns-in_err-put_next-clause-stopped g c =
    let settings = c.args.context.settings.now in
    let layout = line_layout settings.form (aim_of settings)
    (line_begin settings.name c.args.context.own) in
    let (line, written, spells, first, passes) = c.loop-left.invariant.done in
    let (more, exports) = some_rest layout c.args.game.now
    c.invariant.ensures c.requires.lines line spells c.loop-left.left.lines written first in
    let p = err_from_is_err_and c.from_residual-in_err-put_next.result
    c.from_residual-in_err-put_next.ensures.1 in
    rw p.1
    (written ++ more, exports, text_begun passes more (front_none _ _) (front_none _ _))

pub loop-left-preserved : goal.loop-left-preserved
loop-left-preserved g c =
    let settings = c.args.context.settings.now in
    let layout = line_layout settings.form (aim_of settings)
    (line_begin settings.name c.args.context.own) in
    let game = c.args.game.now in
    let l = c.loop-left.invariant in
    let was = c.loop-left.left in
    let now = c.put_next.new.self in
    let (line, written, spells, first, passes) = l.done in
    let (text, next, added) = c.in_ok-put_next.ensures.text in
    let (same_layout, same_game) = c.put_next.ensures.how in
    let more = text_more passes (record c.loop-left.report { output = c.put_next.new.out }) text
    added refl refl refl in
    let sound = written_soundly c.in_ok-put_large.ensures.faults in
    record {
      done = (
        line,
        written ++ text,
        spells,
        writes_more layout game was.layout was.game (lines_of line) was.lines now.lines written
            text l.layout l.game first next,
        text_passed more c.in_ok-put_large.ensures.ok,
      );
      layout = same_layout ∙ l.layout;
      game = same_game ∙ l.game;
      out = sound.0;
      err = sound.1;
    }

pub returns-in_err-put_large-clause-stopped : goal.returns-in_err-put_large-clause-stopped
returns-in_err-put_large-clause-stopped g c =
    let settings = c.args.context.settings.now in
    let layout = line_layout settings.form (aim_of settings)
    (line_begin settings.name c.args.context.own) in
    let game = c.args.game.now in
    let l = c.loop-left.invariant in
    let was = c.loop-left.left in
    let now = c.put_next.new.self in
    let (line, written, spells, first, passes) = l.done in
    let (text, next, added) = c.in_ok-put_next.ensures.text in
    let gone = text_more passes (record c.loop-left.report { output = c.put_next.new.out }) text
    added refl refl refl in
    let (more, exports) = some_rest layout game c.invariant.ensures
    c.requires.lines line spells now.lines (written ++ text)
    (writes_more layout game was.layout was.game (lines_of line) was.lines now.lines written text
    l.layout l.game first next) in
    let p = err_from_is_err_and c.from_residual-in_err-put_large.result
    c.from_residual-in_err-put_large.ensures.1 in
    rw p.1 (
      (written ++ text) ++ more,
      exports,
      text_begun gone more c.in_err-put_large.ensures.err.0 c.in_err-put_large.ensures.err.1,
    )

pub returns-clause-done : goal.returns-clause-done
returns-clause-done g c =
    let settings = c.args.context.settings.now in
    let layout = line_layout settings.form (aim_of settings)
    (line_begin settings.name c.args.context.own) in
    let game = c.args.game.now in
    let l = c.loop-left.invariant in
    let was = c.loop-left.left in
    let now = c.put_next.new.self in
    let (line, written, spells, first, passes) = l.done in
    let (text, next, added) = c.in_ok-put_next.ensures.text in
    let none = c.in_ok-put_next.ensures.left.1 c.if-branch.false in (
      written ++ text,
      (
        line,
        spells,
        writes_all layout game (lines_of line) now.lines (written ++ text) none
            (writes_more layout game was.layout was.game (lines_of line) was.lines now.lines
            written text l.layout l.game first next),
      ),
      text_more passes (record c.loop-left.report { output = c.put_next.new.out }) text added
          refl refl refl,
    )
