use Rattle.pgn_extract.proofs.Common.{◌≡◌, ◌+◌, ◌++◌, ◌∷◌, [], length, refl, sym, ap, ◌∙◌, subst}
use Rattle.pgn_extract.proofs.Common.{arith, length-append, tag_in, fen_tag, IsReplay, Main}
use Rattle.pgn_extract.proofs.Common.{Replay, Some, None, record_aim}
use Rattle.pgn_game.specs.Public.CodeLines.{IsNextCoded}
use Rattle.pgn_criteria.proofs.StandFacts.{rest_is}
use Rattle.pgn_extract.specs.Private.KeptLines.{AreFirst, IsKeptWith, line_of, replay_of}
use Rattle.pgn_extract.specs.Private.KeptPacked.{IsStartOf}
use Rattle.pgn_extract.proofs.Finds.{none_yet}
use Rattle.pgn_extract.proofs.entries.KeptLines.{begins_kept}
use Rattle.pgn_extract.proofs.entries.KeptMoves.{first_more, tells_none}
use Rattle.pgn_criteria.proofs.CodedPlays.{coded_all, coded_legal, coded_none}
use Rattle.pgn_criteria.proofs.CodedPlays.{coded_on, coded_positions, coded_stuck}
use Rattle.pgn_extract.proofs.packed.CodedMoves.{coded_tells}
use Rattle.pgn_extract.proofs.packed.KeptPackedFacts.{none_of, same_replay}
use Rattle.pgn_extract.proofs.packed.kept_packed.keep_record.Goals as goal

pub loop-first-init : goal.loop-first-init
loop-first-init g c =
    let bytes = c.args.raw.now.plies in
    let here = c.in-Ok.start in
    record {
      starts = subst (IsStartOf c.args.raw.now) (sym c.copy-start.ensures) c.in-Ok.ensures.ok;
      passed = [];
      to = rw (c.in_ok-played.ensures.items, c.copy-start.ensures, c.plies-left.ensures)
          (coded_none here bytes);
      size = ap length c.in_ok-met.ensures.items;
      first = subst (λ ps. AreFirst ps []) (sym c.new-first.ensures.items) (λ n P at. at);
      told = λ game replay packed own.
          tells_none (g.Q.Question.Asks c.args.question.now) game c.in_ok-met.met.items
          c.in_ok-met.ensures.items;
    }

pub returns-in-Err-next_of-clause-err : goal.returns-in-Err-next_of-clause-err
returns-in-Err-next_of-clause-err g c is =
    none_of c.args.raw.now c.copy-start.result c.loop-first.invariant.starts
    (coded_stuck c.loop-first.invariant.to c.in-Err-next_of.ensures.err)

pub begin-requires-clause-legal : goal.begin-requires-clause-legal
begin-requires-clause-legal g c = coded_legal c.loop-first.invariant.to

pub begin-requires-clause-first : goal.begin-requires-clause-first
begin-requires-clause-first g c =
    let old = c.loop-first.invariant in
    let here = c.loop-first.here in
    let new = c.keep_first.new.first.items in
    let count : length old.passed ≡ c.len.result =
    let even = old.to.even in let len = c.len.ensures in omega (arith, even, len) in
    let first : AreFirst new (old.passed ++ here ∷ []) =
    first_more c.loop-first.first.items new old.passed c.len.result here count old.first
    c.in_ok-keep_first.ensures in
    subst (AreFirst new) (sym (coded_positions old.to)) first

pub returns-in_default-clause-ok : goal.returns-in_default-clause-ok
returns-in_default-clause-ok g c aim asks game replay packed own =
    let raw = c.args.raw.now in
    let old = c.loop-first.invariant in
    let start = c.copy-start.result in
    let here = c.loop-first.here in
    let played = c.loop-first.played.items in
    let met = c.add_met.new.met.items in
    let r = c.is_met.result in
    let named = record_aim aim raw in
    let ply : c.len-in-loop-first.result ≡ length old.passed =
    let even = old.to.even in let len = c.len-in-loop-first.ensures in omega (arith, even, len) in
    let ends : IsNextCoded here c.loop-first.left.now None =
    subst (IsNextCoded here c.loop-first.left.now) c.in_default.is c.in-Ok-next_of.ensures.ok in
    let kept = replay_of start played in
    let same =
    same_replay own start (old.starts game replay packed own) kept (coded_all old.to ends) in
    let is : IsReplay Main (tag_in fen_tag game.tags) game.elements kept =
    subst (λ (x : Replay). IsReplay Main (tag_in fen_tag game.tags) game.elements x) same
    own.is_replay in
    let told =
    coded_tells (g.Q.Question.Asks c.args.question.now) raw start old.starts old.to
    c.loop-first.met.items met r c.len-in-loop-first.result ply old.size old.told c.is_met.ensures
    c.in_ok-add_met.ensures game replay packed own in
    let size : length met ≡ length kept.positions =
    ap length c.in_ok-add_met.ensures ∙ length-append c.loop-first.met.items (r ∷ [])
    ∙ ap (λ n. n + 1) old.size ∙ sym (length-append old.passed (here ∷ []))
    ∙ ap length (sym (coded_positions old.to)) in
    let (P, at) = begins_kept game kept is met named size
    (λ n s there. told n s there aim.criteria (asks game replay packed own) kept (Main, is)) in
    let result = c.begin.result in
    let (begun, moves, mets, reached) = c.begin.ensures.line in
    let all : kept ≡ line_of result =
    ap (λ Q. replay_of Q played) (sym begun) ∙ ap (replay_of result.start) (sym moves) in (
      [],
      P,
      subst (λ k. IsKeptWith k result.met.items result.ply named game [] P) all
          (subst (λ ms. IsKeptWith kept ms result.ply named game [] P) (sym mets)
          (subst (λ n. IsKeptWith kept met n named game [] P) (sym reached) at)),
      none_yet named game,
    )

pub loop-first-preserved : goal.loop-first-preserved
loop-first-preserved g c =
    let raw = c.args.raw.now in
    let old = c.loop-first.invariant in
    let start = c.copy-start.result in
    let here = c.loop-first.here in
    let left = c.loop-first.left.now in
    let m = c.in-Some.m in
    let r = c.is_met.result in
    let new = c.keep_first.new.first.items in
    let passed = old.passed ++ here ∷ [] in
    let ply : c.len-in-loop-first.result ≡ length old.passed =
    let even = old.to.even in let len = c.len-in-loop-first.ensures in omega (arith, even, len) in
    let count : length old.passed ≡ c.len.result =
    let even = old.to.even in let len = c.len.ensures in omega (arith, even, len) in
    let goes : IsNextCoded here left (Some m) =
    subst (IsNextCoded here left) c.in-Some.is c.in-Ok-next_of.ensures.ok in
    record {
      starts = old.starts;
      passed = passed;
      to = coded_on old.to m goes c.add_move.new.played.items c.go_on.new.here _
          c.in_ok-add_move.ensures c.go_on.ensures (rest_is left _ refl);
      size = ap length c.in_ok-add_met.ensures ∙ length-append c.loop-first.met.items (r ∷ [])
          ∙ ap (λ n. n + 1) old.size ∙ sym (length-append old.passed (here ∷ []));
      first = first_more c.loop-first.first.items new old.passed c.len.result here count old.first
          c.in_ok-keep_first.ensures;
      told = coded_tells (g.Q.Question.Asks c.args.question.now) raw start old.starts old.to
          c.loop-first.met.items c.add_met.new.met.items r c.len-in-loop-first.result ply old.size
          old.told c.is_met.ensures c.in_ok-add_met.ensures;
    }
