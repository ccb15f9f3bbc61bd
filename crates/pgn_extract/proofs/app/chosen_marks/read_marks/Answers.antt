use Rattle.std.specs.Io.Buffered.{reader_buffer, reader_capacity, reader_inner}
use Rattle.pgn_extract.proofs.Common.{◌≡◌, ◌<◌, ◌++◌, ap, ◌∙◌, arith, codes, length, rules}
use Rattle.pgn_extract.proofs.Common.{nat_tests, reader_remaining, line_mark, pairs_of}
use Rattle.pgn_extract.proofs.app.LinesOfMarks.{all_left, all_read, line_read, none_read}
use Rattle.pgn_extract.proofs.app.chosen_marks.read_marks.Goals as goal

pub loop-init : goal.loop-init
loop-init g c =
    let reader = c.in_ok-reader.reader in
    let made = c.in_ok-reader.ensures in
    let known = g.R.Read.remaining in
    none_read c.args.names.games c.args.order.now.mark.offset c.args.order.now.end
    (known c.args.input) (reader_remaining known reader) _
    (all_left (reader_capacity reader) (reader_buffer reader) (known
    (reader_inner reader)) made.capacity made.empty ∙ ap known made.inner)
    c.new-file.ensures

pub returns-then-read-eq0 : goal.returns-then-read-eq0
returns-then-read-eq0 g c =
    let known = g.R.Read.remaining in
    let none : c.in_ok-read.read ≡ 0 = search rules in
    all_read c.args.names.games c.args.order.now.mark.offset c.args.order.now.end
    (known c.args.input) (reader_remaining known c.loop.reader)
    c.loop.file.pairs.items (c.in_ok-read.ensures.end none) c.loop.invariant

pub loop-preserved : goal.loop-preserved
loop-preserved g c =
    let known = g.R.Read.remaining in
    let line = c.read_until.new.buf.items in
    let name = c.args.names.games in
    let before_marks : c.in_ok-named.named.line.items ≡ name ++ codes ":" =
    c.in_ok-named.ensures.line ∙ ap (λ n. n ++ codes ":") c.bytes.ensures in
    let before_reports : c.in_ok-named.named.report.items
    ≡ codes "pgn-extract: " ++ name ++ codes ": game " = c.in_ok-named.ensures.report
    ∙ ap (λ n. codes "pgn-extract: " ++ n ++ codes ": game ") c.bytes.ensures in
    let begin = c.args.order.now.mark.offset in
    let end = c.args.order.now.end in
    let pairs = c.loop.file.pairs.items in
    let added : c.add_line.new.self.pairs.items
    ≡ pairs ++ pairs_of begin end (line_mark name line) =
    c.in_ok-add_line.ensures name before_marks before_reports
    ∙ ap (λ l. pairs ++ pairs_of begin end (line_mark name l)) c.deref.ensures.value in
    let some : 0 < length line = grind (arith, nat_tests, c.in_ok-read.ensures.ok) in
    line_read name begin end (known c.args.input) (reader_remaining known c.loop.reader)
    (reader_remaining known c.read_until.new.self)
    pairs c.add_line.new.self.pairs.items c.clear.new.self.items line
    c.clear.ensures.items c.in_ok-read.ensures.bytes c.in_ok-read.ensures.rest some added
    c.loop.invariant
