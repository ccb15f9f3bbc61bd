use Rattle.std.proofs.Common.{arith, subst, take}
use lib.Seq.{take-take}
use Rattle.std.specs.Io.KnownBytes.{Appends}
use Rattle.pgn_game.specs.Public.SegmentWriting.{segment_bytes, segment_records}
use Rattle.pgn_game.proofs.SegmentWritingFacts.{made, records_added}
use Rattle.pgn_game.proofs.pack.segment_writer.SegmentWriterWrite.write.Goals as goal

pub returns-in-Ok-clause-bytes : goal.returns-in-Ok-clause-bytes
returns-in-Ok-clause-bytes g c =
    let count = c.min-count.result in
    let buf = c.args.buf.now in
    let held = g.W.Write.contents in
    let fits = made buf count (λ i. omega (arith, c.type_inv.buf i)) (omega
    (arith, c.min-count.ensures)) in
    let keeps = rw (← c.self.view_is) at c.in_ok-send.ensures.kept in
    let none = rw (← c.self.view_is) at c.in_ok-send.ensures.sent in
    let text = rw c.clear.ensures.items at c.in-Ok.ensures in
    subst (Appends (segment_records held c.args.self.now) _) (take-take count count buf
    (omega arith))
    (records_added (segment_bytes held c.args.self.now)
    (held c.self.inside.inner) _ c.push_segment.new.out.items
    (record { records = count; body = take count buf }) fits keeps none text)
