use Rattle.pgn_game.proofs.Common.{[], sym, subst, inr, IfSome_then, err_from_is_err_and}
use Rattle.pgn_game.proofs.Common.{fault_of, tag_in, fen_tag}
use Rattle.pgn_game.specs.Public.Exports.{IsLineMovetext}
use Rattle.pgn_game.specs.Private.LineWalks.{lines_around}
use Rattle.pgn_game.specs.Private.MovetextWalks.{IsFaultOfLine}
use Rattle.pgn_game.proofs.exports.LineSounds.{inside_there}
use Rattle.pgn_game.proofs.exports.MovetextFacts.{written_line}
use Rattle.pgn_game.proofs.exports.movetext.play_line.Goals as goal

pub returns-in_err-walk-clause-fault : goal.returns-in_err-walk-clause-fault
returns-in_err-walk-clause-fault c =
    let given = c.from_residual-in_err-walk in
    let p = err_from_is_err_and given.result given.ensures.1 in
    let is_start = rw c.tags.ensures.tags at c.in_ok-start.ensures in
    let same = c.elements.ensures.elements in
    let first = c.in_ok-stack.ensures.line in
    let around = c.in_ok-stack.ensures.around in
    rw (p.1, p.2) (IfSome_then (fault_of c.in_err-walk.field-0.0)
    {Q = IsFaultOfLine c.args.inside c.args.style.now.variations
    (tag_in fen_tag c.args.line.now.tags) c.args.line.now.elements}
    c.in_err-walk.ensures.walked (λ f stops.
    let there = rw same at (rw first at (rw around at stops)) in
    inr (c.in_ok-start.start, is_start, there)))

pub returns-clause-text : goal.returns-clause-text
returns-clause-text c =
    let start = c.in_ok-start.start in
    let line = c.args.line.now in
    let style = c.args.style.now in
    let is_start = rw c.tags.ensures.tags at c.in_ok-start.ensures in
    let same = c.elements.ensures.elements in
    let first = c.in_ok-stack.ensures.line in
    let around = c.in_ok-stack.ensures.around in
    let (steps, walks, visits) = c.in_ok-walk.ensures.walked in
    let along = rw same at (rw first at (rw around at walks)) in
    let new = rw c.new.ensures.items at c.new-writer.ensures in
    let (movetext, is, put) =
    written_line style start line (lines_around c.args.inside start) steps []
    c.put_last.new.out.items c.new-writer.result c.walk.new.visitor new
    c.elements.ensures.paired along visits
    (rw c.result.ensures at c.in_ok-put_last.ensures.text) in (
      start,
      is_start,
      subst (IsLineMovetext c.args.inside style start line) (sym put)
          (subst (λ b. IsLineMovetext b style start line movetext)
          (inside_there c.args.inside start) is),
    )
