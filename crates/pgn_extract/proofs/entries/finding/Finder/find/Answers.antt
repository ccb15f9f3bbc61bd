use Rattle.pgn_extract.proofs.Common.{◌++◌, ◌∷◌, [], subst, IfSome_then}
use Rattle.pgn_extract.proofs.Common.{err_from_is_err_and, Fault, aim_with}
use Rattle.pgn_extract.proofs.Common.{GoesTo, Where, HasFault, Fails}
use Rattle.pgn_extract.proofs.Finds.{finds_none, goes_on, ends_at}
use Rattle.pgn_extract.proofs.entries.finding.Finder.find.Goals as goal

pub loop-still-init : goal.loop-still-init
loop-still-init g c = record {
  reached = λ name openings game before P at. (before, P, at);
  found = λ name openings id game before P at none of.
      let aim = aim_with c.args.self.now name openings in
      let mark = c.args.self.now.mark.items in
      record {
        before = before;
        here = P;
        at = at;
        finds = finds_none aim id game (λ got.
            g.S.Sink.Gets mark c.args.sink.now got c.args.sink.now) before P
            c.args.is_open (g.met.S.Sink.none mark c.args.sink.now)
            (λ off. c.requires.open off aim game before P at)
            (g.met.L.Line.stands c.args.line.now aim game before P at) none;
      };
  grew = g.met.S.Sink.stays c.args.sink.now;
  valid = c.requires.valid;
}

pub loop-still-preserved : goal.loop-still-preserved
loop-still-preserved g c = record {
  reached = λ name openings game before P at.
      let aim = aim_with c.args.self.now name openings in
      let (passed, here, there) = c.loop-still.invariant.reached name openings game before P at in
      let to = subst (λ more.
      GoesTo (g.L.Line.At c.advance.new.self) c.in_ok-still.still more aim game passed here)
      c.if-not-branch.false
      (c.in_ok-advance.ensures.moved aim game passed here there) in
      (passed ++ here ∷ to.0, to.1, to.2);
  found = λ name openings id game before P at none of.
      let aim = aim_with c.args.self.now name openings in
      let so_far = c.loop-still.invariant.found name openings id game before P at none of in
      let to = subst (λ more.
      GoesTo (g.L.Line.At c.advance.new.self) c.in_ok-still.still more aim game so_far.before
      so_far.here)
      c.if-not-branch.false
      (c.in_ok-advance.ensures.moved aim game so_far.before so_far.here so_far.at) in
      record {
        before = so_far.before ++ so_far.here ∷ to.0;
        here = to.1;
        at = to.2;
        finds = goes_on (g.L.Line.At c.advance.new.self) c.in_ok-still.still so_far.before
            so_far.here to
            (c.in_ok-still.ensures.asked name openings id game so_far.before so_far.here so_far.at
            of c.args.sink.now so_far.finds);
      };
  grew = g.met.S.Sink.grows c.args.sink.now c.loop-still.sink _ c.loop-still.invariant.grew
      c.in_ok-still.ensures.kept;
  valid = c.advance.ensures.valid;
}

pub returns-then-not-branch-clause-found : goal.returns-then-not-branch-clause-found
returns-then-not-branch-clause-found g c name openings id game before P at none of =
    let aim = aim_with c.args.self.now name openings in
    let so_far = c.loop-still.invariant.found name openings id game before P at none of in
    ends_at (g.L.Line.At c.advance.new.self) so_far.before so_far.here
    (g.met.L.Line.stands c.loop-still.line aim game so_far.before so_far.here so_far.at)
    (subst (λ more.
    GoesTo (g.L.Line.At c.advance.new.self) c.in_ok-still.still more aim game so_far.before
    so_far.here)
    c.if-not-branch.true
    (c.in_ok-advance.ensures.moved aim game so_far.before so_far.here so_far.at))
    (c.in_ok-still.ensures.asked name openings id game so_far.before so_far.here so_far.at of
    c.args.sink.now so_far.finds)

pub returns-in_err-advance-clause-fault : goal.returns-in_err-advance-clause-fault
returns-in_err-advance-clause-fault g c =
    let p = err_from_is_err_and c.from_residual-in_err-advance.result
    c.from_residual-in_err-advance.ensures.1 in
    let finder = c.args.self.now in
    let carries : (own : Fault) → Where (g.L.Line.At c.loop-still.line) (HasFault own)
    → Fails (g.L.Line.At c.args.line.now) finder own
    × g.S.Sink.Grew c.args.sink.now c.ask.new.sink = λ own fails. (
      λ name openings game P at.
          let (passed, here, there) = c.loop-still.invariant.reached name openings game [] P at in
          fails (aim_with finder name openings) game passed here there,
      g.met.S.Sink.grows c.args.sink.now c.loop-still.sink c.ask.new.sink
          c.loop-still.invariant.grew c.in_ok-still.ensures.kept,
    ) in
    rw (p.1, p.2) (IfSome_then _ c.in_err-advance.ensures.moved carries)

pub returns-in_err-still-clause-fault : goal.returns-in_err-still-clause-fault
returns-in_err-still-clause-fault g c =
    let p = err_from_is_err_and c.from_residual.result c.from_residual.ensures.1 in
    let finder = c.args.self.now in
    let carries : (own : Fault) → Where (g.L.Line.At c.loop-still.line) (HasFault own)
    × g.S.Sink.Grew c.loop-still.sink c.ask.new.sink
    → Fails (g.L.Line.At c.args.line.now) finder own
    × g.S.Sink.Grew c.args.sink.now c.ask.new.sink = λ own of. (
      λ name openings game P at.
          let (passed, here, there) = c.loop-still.invariant.reached name openings game [] P at in
          of.0 (aim_with finder name openings) game passed here there,
      g.met.S.Sink.grows c.args.sink.now c.loop-still.sink c.ask.new.sink
          c.loop-still.invariant.grew of.1,
    ) in
    rw (p.1, p.2) (IfSome_then _ c.in_err-still.ensures.fault carries)
