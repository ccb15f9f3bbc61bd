-- The game is played up to the position, and begins there if it may.
use Rattle.std.proofs.lemmas.Result.{IfOk-weaker}
use Rattle.pgn_game.proofs.Common.{ap, arith, false≢true, item_of, length}
use Rattle.pgn_game.proofs.Common.{length-map, subst, sym, ◌∙◌, fault_of, tag_in}
use Rattle.pgn_game.proofs.Common.{fen_tag, Main, IsContents, IsPaired}
use Rattle.pgn_game.proofs.BegunGames.{fen_contents, game_begins, game_stays, no_reason}
use Rattle.pgn_game.proofs.BegunGames.{position_there}
use Rattle.pgn_game.proofs.LaterPlies.{later_paired}
use Rattle.pgn_game.specs.Public.LaterPlies.{later_plies}
use Rattle.pgn_game.proofs.exports.later.later_game.Goals as goal
use Rattle.pgn_game.proofs.exports.later.later_game.Goals.{then-ply-eq0-via-then-ply-eq0}
use Rattle.pgn_game.proofs.exports.later.later_game.Goals.{then-ply-eq0-via-else-ply-eq0+then-not-may_be_start}

pub refused-requires : goal.refused-requires
refused-requires c =
    let game = c.args.game.now in
    let (P, at) = c.requires in
    let (replay, is, here) = at in
    no_reason Main (tag_in fen_tag game.tags) game.elements (fault_of c.in-Err.fault) (replay, is)
    c.in-Err.ensures

pub begun-requires-clause-paired : goal.begun-requires-clause-paired
begun-requires-clause-paired c =
    let game = c.args.game.now in
    subst (IsPaired 0)
    (sym (c.in_ok-elements.ensures ∙ ap (later_plies c.args.ply 0) c.elements-2.ensures.elements))
    (later_paired c.args.ply 0 game.elements c.invariant.ensures.paired)

pub begun-requires-clause-fen : goal.begun-requires-clause-fen
begun-requires-clause-fen c =
    subst IsContents
    (sym (c.deref-2.ensures.value ∙ c.in_ok-fen.ensures.items ∙ c.as_bytes.ensures.value
    ∙ c.deref.ensures.0))
    (fen_contents c.position-position.result.now c.fen.result.bytes c.invariant-2.ensures
    c.fen.ensures)

pub returns-then-ply-eq0 : goal.returns-then-ply-eq0
returns-then-ply-eq0 c =
    let game = c.args.game.now in
    let ply = c.args.ply in
    let (P, at) = c.requires in
    let now = c.position-position.result.now in
    let there =
    position_there game ply c.plies.result P now c.in-Ok.replayed at c.in-Ok.ensures
    c.plies.ensures.count c.position-position.ensures in
    let size =
    ap length (sym c.elements.ensures.elements) ∙ length-map c.elements.result.now item_of in
    IfOk-weaker c.beginning.result _ _
    (λ own is.
    game_stays game own ply _ now there (elim c.then-ply-eq0.branch [
      | then-ply-eq0-via-then-ply-eq0 w ↦ λ may. omega (arith, may.0, w.if-ply-eq0.true)
      | then-ply-eq0-via-else-ply-eq0+then-not-may_be_start w ↦ λ may.
          false≢true (sym w.if-not-may_be_start.true ∙ w.may_be_start.ensures.1 may.1)
    ]) (omega (arith, size)) is)
    c.beginning.ensures

pub returns : goal.returns
returns c =
    let game = c.args.game.now in
    let ply = c.args.ply in
    let (P, at) = c.requires in
    let now = c.position-position.result.now in
    let there =
    position_there game ply c.plies.result P now c.in-Ok.replayed at c.in-Ok.ensures
    c.plies.ensures.count c.position-position.ensures in
    game_begins game c.in_ok-own.own ply now c.fen.result.bytes _ _ there (
      omega (arith, c.if-ply-eq0.false),
      c.may_be_start.ensures.0 c.if-not-may_be_start.false,
    ) c.fen.ensures
    (c.deref-2.ensures.value ∙ c.in_ok-fen.ensures.items ∙ c.as_bytes.ensures.value
    ∙ c.deref.ensures.0)
    (c.in_ok-elements.ensures ∙ ap (later_plies c.args.ply 0) c.elements-2.ensures.elements)
    c.invariant-3.ensures c.in_ok-own.ensures
