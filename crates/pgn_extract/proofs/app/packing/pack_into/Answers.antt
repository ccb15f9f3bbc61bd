use Rattle.std.proofs.Common.{ap, option_map, ◌∙◌}
use Rattle.std.specs.Io.Buffered.{writer_buffer, writer_contents, writer_inner}
use Rattle.pgn_game.specs.Public.SegmentWriting.{segment_records}
use Rattle.pgn_extract.proofs.app.PackingFacts.{ended, seen_so}
use Rattle.pgn_extract.proofs.app.packing.pack_into.Goals as goal

pub returns-clause-records : goal.returns-clause-records
returns-clause-records g c =
    let held = g.W.Write.contents in
    let made = c.new-segments.ensures in
    let gathered = c.in-Ok.gathered in
    let there = ap (λ t. writer_contents (segment_records held) t.inner) c.new-records.ensures in
    seen_so c.args.task.now (g.F.Files.known c.args.files.now)
    (option_map g.F.Input.Read.remaining c.args.input) _ _ _
    (λ bytes. ended held c.args.writer c.in_ok-writer.field-0 (writer_inner gathered)
    (writer_buffer gathered) _ _ bytes
    (ap (λ s. s.inner) c.in-Ok.ensures.inner ∙ made.inner)
    (ap (λ s. s.unsent) c.in-Ok.ensures.inner ∙ made.none) c.in-Ok.ensures.empty there
    c.in_ok-writer.ensures)
    c.in_ok-ended.ensures.written
