use Rattle.std.proofs.Common.{List, ℕ, ◌-◌, ap, drop, length, take}
use Rattle.pgn_game.proofs.SegmentWritingFacts.{sent_on}
use Rattle.pgn_game.proofs.pack.segment_writer.SegmentWriter.send.Goals as goal

pub returns-clause-kept : goal.returns-clause-kept
returns-clause-kept g c =
    let at = c.self.inside.at in
    rw (← c.self.view_is)
    (sent_on _ _ c.self.inside.segment.items _ at c.write_out-count.result.0 c.self.invariant
    (ap (λ (t : List ℕ). take (length t - at) (drop at t)) c.deref.ensures.value)
    c.write_out-count.ensures.bytes)
