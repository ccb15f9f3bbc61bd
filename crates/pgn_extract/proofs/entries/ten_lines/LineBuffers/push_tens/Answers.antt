use Rattle.std.proofs.Common.{◌≡◌, ◌+◌, ◌-◌, ◌*◌, ◌/◌, ◌^◌, ◌≤◌, ◌++◌, length, take, ap, ◌∙◌, arith}
use Rattle.pgn_extract.specs.Private.Blockwise.{lines_from}
use Rattle.pgn_extract.proofs.entries.TenLines.{width, no_lines, lines_more, ten_length}
use Rattle.pgn_extract.proofs.entries.TenLines.{first_lines}
use Rattle.pgn_extract.proofs.entries.ten_lines.LineBuffers.push_tens.Goals as goal

pub loop-tens-init : goal.loop-tens-init
loop-tens-init c =
    let ten : 10 * c.args.first + 10 - 10 * c.args.first ≡ 10 = omega arith in
    record {
      above = omega arith;
      within = omega arith;
      lines = c.in_ok-push_each.ensures
          ∙ ap (λ t. t
          ++ lines_from c.args.mark.now (10 * c.args.first) (10 * c.args.first + 10 - 10
          * c.args.first)) (c.in_ok-reserve.ensures.items ∙ c.clear.ensures.items)
          ∙ ap (lines_from c.args.mark.now (10 * c.args.first)) ten;
      written = no_lines c.args.mark.now (10 * c.args.first) c.args.text.now.items;
    }

pub loop-tens-preserved : goal.loop-tens-preserved
loop-tens-preserved c =
    let mark = c.args.mark.now in
    let first = c.args.first in
    let tens = c.loop-tens.tens in
    let next : 10 * tens + 10 ≡ 10 * (tens + 1) = omega arith in
    record {
      above = omega arith;
      within = omega arith;
      lines = c.in_ok-next_ten.ensures ∙ ap (λ n. lines_from mark n 10) next;
      written =
          lines_more mark (10 * first) (10
          * tens) 10 (omega arith) c.args.text.now.items c.loop-tens.text.items
          c.extend_from_slice.new.self.items
          c.deref.result.now c.loop-tens.invariant.written (c.deref.ensures.value
          ∙ c.loop-tens.invariant.lines) c.in_ok-extend_from_slice.ensures.items
          ∙ ap (λ n. c.args.text.now.items ++ lines_from mark (10 * first) (n - 10 * first)) next;
    }

pub returns : goal.returns
returns c =
    let mark = c.args.mark.now in
    let first = c.args.first in
    let last = (c.args.end - 1) / 10 in
    let left = c.args.end - 10 * last in
    let lines = c.deref-2.result.now in
    let at_last : c.loop-tens.tens ≡ last = omega arith in
    let some : 1 ≤ last = omega arith in
    let fits : last ≤ 2 ^ 60 = omega arith in
    let few : left ≤ 10 = omega arith in
    let are : lines ≡ lines_from mark (10 * last) 10 =
    c.deref-2.ensures.value ∙ c.loop-tens.invariant.lines
    ∙ ap (λ n. lines_from mark (10 * n) 10) at_last in
    let size : c.len-width.result ≡ 10 * width mark last =
    c.len-width.ensures ∙ c.loop-tens.self.ten.ok.0
    ∙ ap length (c.loop-tens.invariant.lines ∙ ap (λ n. lines_from mark (10 * n) 10) at_last)
    ∙ ten_length mark last some fits in
    let wide : c.len-width.result / 10 ≡ width mark last = omega arith in
    let shown : take (left * (c.len-width.result / 10)) lines ≡ lines_from mark (10 * last) left =
    ap (λ w. take (left * w) lines) wide ∙ ap (take (left * width mark last)) are
    ∙ first_lines mark last some fits left few in
    let all : 10 * last + left ≡ c.args.end = omega arith in
    lines_more mark (10 * first) (10
    * last) left (omega arith) c.args.text.now.items c.loop-tens.text.items
    c.extend_from_slice-2.new.self.items (take (left * (c.len-width.result / 10)) lines)
    (c.loop-tens.invariant.written
    ∙ ap (λ n. c.args.text.now.items
    ++ lines_from mark (10 * first) (10 * n - 10 * first)) at_last) shown
    c.in_ok-extend_from_slice-2.ensures.items
    ∙ ap (λ n. c.args.text.now.items ++ lines_from mark (10 * first) (n - 10 * first)) all
