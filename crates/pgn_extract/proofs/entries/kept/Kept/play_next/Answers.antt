use Rattle.std.specs.Prelude.{IfSome}
use Rattle.std.proofs.lemmas.Option.{slice_get_read}
use Rattle.pgn_extract.proofs.Common.{◌≡◌, ◌+◌, length, refl, sym, ap, ◌∙◌, subst, arith, Option}
use Rattle.pgn_extract.proofs.Common.{Some, slice_get, Move, IsLegal, after}
use Rattle.pgn_extract.specs.Private.KeptLines.{line_of}
use Rattle.pgn_extract.proofs.entries.KeptMoves.{legal_of, next_position}
use Rattle.pgn_extract.proofs.entries.kept.Kept.play_next.Goals as goal

pub play-self-requires : goal.play-self-requires
play-self-requires c =
    let line = c.args.self.now in
    let moves = line.played.items in
    let P = c.position.result.now in
    let m : Move = c.index.result.now in
    let is : slice_get moves line.ply ≡ Some m =
    slice_get_read moves (length moves) line.ply m refl c.requires.more c.index.ensures in
    let legal : IsLegal P m =
    subst (λ (o : Option Move). IfSome o (IsLegal P)) is
    (legal_of line.start moves line.ply P c.requires.reached.legal c.position.ensures) in
    subst (λ Q. IsLegal Q m) (sym c.copy-from.ensures) legal

pub returns-clause-reached : goal.returns-clause-reached
returns-clause-reached c =
    let line = c.args.self.now in
    let moves = line.played.items in
    let at = c.requires.reached in
    let P = c.position.result.now in
    let m : Move = c.index.result.now in
    let is : slice_get moves line.ply ≡ Some m =
    slice_get_read moves (length moves) line.ply m refl c.requires.more c.index.ensures in
    let next : c.play-self.result ≡ after P m =
    c.play-self.ensures.position ∙ ap (λ Q. after Q m) c.copy-from.ensures in
    record {
      legal = at.legal;
      sized = at.sized;
      within = let more = c.requires.more in let size = at.sized in omega (arith, more, size);
      first = at.first;
      here = λ past. next_position line.start moves line.ply (line.ply + 1) P m refl
          c.position.ensures is ∙ ap Some (sym next);
      last = λ n step past.
          let back : line.ply ≡ n = omega (arith, step) in
          subst (λ k. slice_get (line_of line).positions k ≡ Some c.copy-from.result) back
          (c.position.ensures ∙ ap Some (sym c.copy-from.ensures));
    }
