use Rattle.std.proofs.Common.{◌∙◌, length, ap, subst, arith}
use Rattle.std.specs.Io.KnownBytes.{Consumes}
use Rattle.pgn_game.proofs.SegmentStreamFacts.{records_are}
use Rattle.pgn_game.proofs.pack.segments.Segments.step.Goals as goal

pub invariant_of-self-2 : goal.invariant_of-self-2
invariant_of-self-2 g c =
    let held = rw (c.in-Some.is) at c.in_ok-records.ensures.gives in
    record {
      within = (records_are held.0 c.hold_segment.new.held c.in-Some.records held.1 held.2
          held.4).1;
      room = omega (arith, c.if-size-self.false, c.self.invariant.room);
    }

pub returns-clause-gives : goal.returns-clause-gives
returns-clause-gives g c =
    let held = rw (c.in-Some.is) at c.in_ok-records.ensures.gives in (
      held.0,
      record {
        fits = held.1;
        bytes = subst (Consumes (g.R.Read.remaining c.args.input.now.inner)
            (g.R.Read.remaining c.hold_segment.new.input.inner)) held.2 held.3;
      },
      (records_are held.0 c.hold_segment.new.held c.in-Some.records held.1 held.2 held.4).0,
      c.len-size.ensures ∙ ap length held.2,
    )
