use Rattle.std.proofs.lemmas.Result.{err_from_is_err_and}
use Rattle.std.proofs.lemmas.Option.{IfSome_then}
use Rattle.pgn_extract.proofs.Common.{◌≡◌, ◌+◌, ◌++◌, ◌∷◌, [], List, length, sym, ap, ◌∙◌}
use Rattle.pgn_extract.proofs.Common.{subst, length-append, tag_in, fen_tag}
use Rattle.pgn_extract.proofs.Common.{IsStart, Main, Move, Replay}
use Rattle.pgn_criteria.proofs.PlayedFacts.{played_fault, played_none}
use Rattle.pgn_criteria.specs.Shared.PlayedTo.{IsPlayedTo}
use Rattle.pgn_extract.specs.Private.KeptLines.{AreFirst, IsKeptWith, line_of, replay_of}
use Rattle.pgn_extract.specs.Private.PlayedLines.{TellsAt}
use Rattle.pgn_extract.proofs.entries.KeptLines.{begins_kept}
use Rattle.pgn_extract.proofs.entries.KeptMoves.{TellsFirst, first_more, gone_to, is_whole}
use Rattle.pgn_extract.proofs.entries.KeptMoves.{tells_more, tells_none}
use Rattle.pgn_extract.proofs.entries.KeptMoves.{whole, whole_is, whole_legal}
use Rattle.pgn_extract.proofs.entries.kept.Kept.of_game.Goals as goal

pub loop-first-init : goal.loop-first-init
loop-first-init g c = record {
  passed = [];
  to = subst (λ (ms : List Move).
      IsPlayedTo (tag_in fen_tag c.args.game.now.tags) c.args.game.now.elements c.in_ok-line.line []
      ms) (sym c.in_ok-played.ensures.items) (played_none c.in_ok-line.ensures);
  size = ap length c.in_ok-met.ensures.items;
  first = subst (λ ps. AreFirst ps []) (sym c.new-first.ensures.items) (λ n P here. here);
  told = tells_none (g.Q.Question.Asks c.args.question.now) c.args.game.now c.in_ok-met.met.items
      c.in_ok-met.ensures.items;
}

pub returns-in_err-next : goal.returns-in_err-next
returns-in_err-next g c =
    let given = c.from_residual-in_err-next in
    let p = err_from_is_err_and given.result given.ensures.1 in
    rw (p.1, p.2)
    (IfSome_then _ c.in_err-next.ensures.went (played_fault c.loop-first.invariant.to))

pub begin-requires-in_default-clause-legal : goal.begin-requires-in_default-clause-legal
begin-requires-in_default-clause-legal g c =
    let game = c.args.game.now in
    let old = c.loop-first.invariant in
    let ended = rw c.in_default.is at c.in_ok-next.ensures.went in
    let start : IsStart (tag_in fen_tag game.tags) c.copy-start.result =
    subst (IsStart (tag_in fen_tag game.tags)) (sym (c.copy-start.ensures ∙ c.position.ensures))
    c.in_ok-line.ensures.start in
    whole_legal game c.loop-first.line old.passed c.loop-first.played.items old.to ended.words
    c.copy-start.result start

pub begin-requires-in_default-clause-first : goal.begin-requires-in_default-clause-first
begin-requires-in_default-clause-first g c =
    let game = c.args.game.now in
    let old = c.loop-first.invariant in
    let line = c.loop-first.line in
    let played = c.loop-first.played.items in
    let new = c.keep_first.new.first.items in
    let ended = rw c.in_default.is at c.in_ok-next.ensures.went in
    let start : IsStart (tag_in fen_tag game.tags) c.copy-start.result =
    subst (IsStart (tag_in fen_tag game.tags)) (sym (c.copy-start.ensures ∙ c.position.ensures))
    c.in_ok-line.ensures.start in
    let first : AreFirst new (old.passed ++ line.position ∷ []) =
    subst (λ P. AreFirst new (old.passed ++ P ∷ [])) c.position-in-loop-first.ensures
    (first_more c.loop-first.first.items new old.passed c.plies.result
    c.position-in-loop-first.result.now (old.to.count ∙ sym c.plies.ensures) old.first
    c.in_ok-keep_first.ensures) in
    subst (AreFirst new)
    (ap (λ (r : Replay). r.positions)
    (whole_is game line old.passed played old.to ended.words c.copy-start.result start)) first

pub returns-in_default : goal.returns-in_default
returns-in_default g c =
    let game = c.args.game.now in
    let old = c.loop-first.invariant in
    let line = c.loop-first.line in
    let played = c.loop-first.played.items in
    let met = c.add_met.new.met.items in
    let r = c.is_met.result in
    let Asks = g.Q.Question.Asks c.args.question.now in
    let ended = rw c.in_default.is at c.in_ok-next.ensures.went in
    let start : IsStart (tag_in fen_tag game.tags) c.copy-start.result =
    subst (IsStart (tag_in fen_tag game.tags)) (sym (c.copy-start.ensures ∙ c.position.ensures))
    c.in_ok-line.ensures.start in
    let told : TellsFirst Asks game met =
    subst (TellsFirst Asks game) (sym c.in_ok-add_met.ensures)
    (tells_more Asks game line old.passed played old.to c.loop-first.met.items r old.size old.told
    (λ criteria other asks.
    subst (λ P. TellsAt r line.plies P criteria other) c.position-in-loop-first-2.ensures
    (subst (λ n. TellsAt r n c.position-in-loop-first-2.result.now criteria other)
    c.plies-in-loop-first.ensures (c.is_met.ensures criteria other asks)))) in
    let kept = whole game line old.passed played old.to ended.words in
    let is = is_whole game line old.passed played old.to ended.words in
    let size : length met ≡ length (old.passed ++ line.position ∷ []) =
    ap length c.in_ok-add_met.ensures ∙ length-append c.loop-first.met.items (r ∷ [])
    ∙ ap (λ n. n + 1) old.size ∙ sym (length-append old.passed (line.position ∷ [])) in
    let result = c.begin-in_default.result in
    let (same, moves, mets, ply) = c.begin-in_default.ensures.line in
    let replay : kept ≡ line_of result =
    whole_is game line old.passed played old.to ended.words c.copy-start.result start
    ∙ ap (λ P. replay_of P played) (sym same) ∙ ap (replay_of result.start) (sym moves) in (
      c.begin-in_default.ensures.reached,
      λ aim asks.
          let (P, at) = begins_kept game kept is met aim size
          (λ n s here. told n s here aim.criteria asks kept (Main, is)) in (
            P,
            subst (λ k. IsKeptWith k result.met.items result.ply aim game [] P) replay
                (subst (λ ms. IsKeptWith kept ms result.ply aim game [] P) (sym mets)
                (subst (λ n. IsKeptWith kept met n aim game [] P) (sym ply) at)),
          ),
    )

pub loop-first-preserved : goal.loop-first-preserved
loop-first-preserved g c =
    let game = c.args.game.now in
    let old = c.loop-first.invariant in
    let line = c.loop-first.line in
    let played = c.loop-first.played.items in
    let new = c.keep_first.new.first.items in
    let r = c.is_met.result in
    let Asks = g.Q.Question.Asks c.args.question.now in
    let went = rw c.in-Some.is at c.in_ok-next.ensures.went in
    record {
      passed = old.passed ++ line.position ∷ [];
      to = gone_to game line c.advance_from.new.self old.passed played c.add_move.new.played.items
          c.in-Some.m old.to went c.in_ok-add_move.ensures;
      size = ap length c.in_ok-add_met.ensures ∙ length-append c.loop-first.met.items (r ∷ [])
          ∙ ap (λ n. n + 1) old.size ∙ sym (length-append old.passed (line.position ∷ []));
      first = subst (λ P. AreFirst new (old.passed ++ P ∷ [])) c.position-in-loop-first.ensures
          (first_more c.loop-first.first.items new old.passed c.plies.result
          c.position-in-loop-first.result.now (old.to.count ∙ sym c.plies.ensures) old.first
          c.in_ok-keep_first.ensures);
      told = subst (TellsFirst Asks game) (sym c.in_ok-add_met.ensures)
          (tells_more Asks game line old.passed played old.to c.loop-first.met.items r old.size
          old.told
          (λ criteria other asks.
          subst (λ P. TellsAt r line.plies P criteria other) c.position-in-loop-first-2.ensures
          (subst (λ n. TellsAt r n c.position-in-loop-first-2.result.now criteria other)
          c.plies-in-loop-first.ensures (c.is_met.ensures criteria other asks))));
    }
