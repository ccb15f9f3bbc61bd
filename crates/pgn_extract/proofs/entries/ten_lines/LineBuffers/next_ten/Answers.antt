use Rattle.std.proofs.Common.{◌≡◌, ◌+◌, ◌*◌, ◌/◌, ◌%◌, length, get_or, set, sym, ap, ◌∙◌, arith}
use Rattle.pgn_extract.proofs.entries.TenLines.{width, mixed, ten_length, place_within, digit_there}
use Rattle.pgn_extract.proofs.entries.TenLines.{one_more, next_place, none_long, none_mixed}
use Rattle.pgn_extract.proofs.entries.TenLines.{all_mixed}
use Rattle.pgn_extract.proofs.entries.ten_lines.LineBuffers.next_ten.Goals as goal

-- the width that is worked out is the one of each line
is_wide : (c : goal.After-len-width) → c.len-width.result / 10 ≡ width c.args.mark.now c.args.tens
is_wide c =
    let size : c.len-width.result ≡ 10 * width c.args.mark.now c.args.tens =
    c.len-width.ensures ∙ c.args.self.now.ten.ok.0 ∙ ap length c.requires.lines
    ∙ ten_length c.args.mark.now c.args.tens c.requires.tens (omega arith) in
    omega arith

pub overflow_sub-tens_digit : goal.overflow_sub-tens_digit
overflow_sub-tens_digit c = let wide = is_wide c in omega arith

pub loop-count-init : goal.loop-count-init
loop-count-init c =
    record {
      wide = is_wide c;
      at = let wide = is_wide c in let none = none_long c.args.mark.now (10 * c.args.tens + 10) in
          omega arith;
      lines = c.requires.lines ∙ sym (none_mixed c.args.mark.now c.args.tens);
    }

pub index_mut-requires : goal.index_mut-requires
index_mut-requires c =
    let within =
    place_within c.args.mark.now c.args.tens c.requires.tens c.requires.room c.if-tens-eq9.false
    c.loop-count.count (omega arith) c.loop-count.tens_digit c.loop-count.invariant.at in
    let size = ap length c.loop-count.invariant.lines in
    let all = c.loop-count.self.ten.ok.0 in
    omega arith

pub overflow_add-index_mut : goal.overflow_add-index_mut
overflow_add-index_mut c =
    let is : c.index_mut.result.now ≡ 48 + c.args.tens % 10 =
    c.index_mut.ensures.value ∙ ap (λ t. get_or t c.loop-count.tens_digit c.index_mut.result.now)
    c.loop-count.invariant.lines
    ∙ digit_there c.args.mark.now c.args.tens c.requires.tens c.requires.room c.if-tens-eq9.false
    c.loop-count.count (omega arith) c.loop-count.tens_digit c.loop-count.invariant.at
    c.index_mut.result.now in
    omega arith

pub loop-count-preserved : goal.loop-count-preserved
loop-count-preserved c =
    let mark = c.args.mark.now in
    let tens = c.args.tens in
    let count = c.loop-count.count in
    let last = c.loop-count.tens_digit in
    let at = c.loop-count.invariant.at in
    let wide = c.loop-count.invariant.wide in
    let is : c.index_mut.result.now ≡ 48 + tens % 10 = c.index_mut.ensures.value
    ∙ ap (λ t. get_or t last c.index_mut.result.now) c.loop-count.invariant.lines
    ∙ digit_there mark tens c.requires.tens c.requires.room c.if-tens-eq9.false count (omega arith)
    last at c.index_mut.result.now in
    let next =
    next_place mark tens c.requires.tens c.requires.room c.if-tens-eq9.false count (omega arith)
    last at in
    record {
      wide = wide;
      at = omega arith;
      lines = ap (λ t. set t last (c.index_mut.result.now + 1)) c.loop-count.invariant.lines
          ∙ ap (λ d. set (mixed mark tens count) last (d + 1)) is
          ∙ one_more mark tens c.requires.tens c.requires.room c.if-tens-eq9.false count
          (omega arith) last at;
    }

pub returns : goal.returns
returns c =
    let all : c.loop-count.count ≡ 10 = omega arith in
    c.loop-count.invariant.lines ∙ ap (mixed c.args.mark.now c.args.tens) all
    ∙ all_mixed c.args.mark.now c.args.tens
