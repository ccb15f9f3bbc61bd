use Rattle.std.proofs.KnownBytes.{Appends-kept}
use Rattle.pgn_extract.proofs.Common.{length, refl, sym, subst, Appends, take-length}
use Rattle.pgn_extract.proofs.packed.searching.end.Goals as goal

pub returns-in-Err-clause-err : goal.returns-in-Err-clause-err
returns-in-Err-clause-err g c = (
  refl,
  (
    length c.args.text.now,
    subst (Appends _ _) (sym (take-length c.args.text.now))
        (Appends-kept _ _ _ c.args.text.now c.in_ok-put_text.ensures.ok c.finish.ensures.kept),
  ),
)
