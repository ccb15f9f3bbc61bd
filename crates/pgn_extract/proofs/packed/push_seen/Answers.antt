use Rattle.std.specs.Prelude.{IsTrue}
use Rattle.pgn_extract.proofs.Common.{◌↔◌, List, Option, refl, sym, subst, has_marks, heading_of}
use Rattle.pgn_extract.proofs.Common.{Conditions, meets_at, IsMet}
use Rattle.pgn_extract.proofs.packed.push_seen.Goals as goal

pub push_marked-requires : goal.push_marked-requires
push_marked-requires c = record {
  met = λ game replay packed own P check stuck marks other ply here.
      let found = rw c.in-Some.is at c.marks_packed.ensures in
      let r = has_marks c.in-Some.marks.flags P.turn check stuck in
      let met = meets_at (heading_of game) other ply c.args.criteria.now P r here
      (found game replay packed own.kept own.fits own.shows P check stuck marks other ply) in
      subst (λ (o : Option (List Conditions)). IsTrue r
      ↔ IsMet o (heading_of game) other ply) (sym c.requires.criteria) met;
}

pub push_walked-requires : goal.push_walked-requires
push_walked-requires c = record { asks = rw c.in-Some-found.is at c.in-Ok-search_of.ensures.ok }

pub returns-in-Err-clause-err : goal.returns-in-Err-clause-err
returns-in-Err-clause-err c is = c.in-Err.ensures.err is

pub returns-in-Err-search_of-clause-err : goal.returns-in-Err-search_of-clause-err
returns-in-Err-search_of-clause-err c is = (refl, c.in-Err-search_of.ensures.err is)
