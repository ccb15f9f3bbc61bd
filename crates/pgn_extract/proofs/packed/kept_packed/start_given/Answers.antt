use Rattle.pgn_extract.proofs.Common.{Some, sym, subst, State, tag_in, fen_tag, IsStart, IsBadStart}
use Rattle.pgn_extract.proofs.Common.{start_or_bad}
use Rattle.pgn_extract.proofs.packed.kept_packed.start_given.Goals as goal

pub returns-then-not-is_contents-clause-err : goal.returns-then-not-is_contents-clause-err
returns-then-not-is_contents-clause-err c is game replay packed own =
    let yes = c.is_contents.ensures.1
    (own.text.strings fen_tag c.args.contents.now (c.requires game replay packed own)) in
    absurd (cc (yes, c.if-not-is_contents.true))

pub returns-in-Ok-clause-ok : goal.returns-in-Ok-clause-ok
returns-in-Ok-clause-ok c game replay packed own =
    let P : State = c.in-Ok.start in
    subst (λ fen. IsStart fen P) (sym (c.requires game replay packed own)) c.in-Ok.ensures

pub returns-in-Err : goal.returns-in-Err
returns-in-Err c = record {
  ok = tt;
  err = λ is game replay packed own.
      let reported = c.start_fault.ensures is in
      let bad : IsBadStart (Some c.args.contents.now) = (rw reported.1 at c.in-Err.ensures).0 in
      start_or_bad (tag_in fen_tag game.tags) own.is_replay.start own.is_replay.is_start
      (subst IsBadStart (sym (c.requires game replay packed own)) bad);
}
