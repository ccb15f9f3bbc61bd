use Rattle.std.proofs.Common.{◌≡◌, ◌+◌, ◌-◌, ◌*◌, ◌/◌, ◌++◌, refl, ap, ◌∙◌, arith}
use Rattle.pgn_extract.specs.Private.Blockwise.{lines_from}
use Rattle.pgn_extract.proofs.entries.TenLines.{lines_more}
use Rattle.pgn_extract.proofs.entries.ten_lines.push_range.Goals as goal

pub returns : goal.returns
returns c =
    let mark = c.args.mark.now in
    let from = c.args.from in
    let tens = 10 * (from / 10 + 1) in
    let text = c.args.text.now.items in
    let least : c.min.result - from ≡ tens - from = omega arith in
    let all : tens + (c.args.end - tens) ≡ c.args.end = omega arith in
    lines_more mark from tens (c.args.end
    - tens) (omega arith) text c.push_each.new.text.items c.push_tens.new.text.items
    (lines_from mark tens (c.args.end - tens))
    (c.in_ok-push_each.ensures ∙ ap (λ n. text ++ lines_from mark from n) least) refl
    c.in_ok-push_tens.ensures ∙ ap (λ n. text ++ lines_from mark from (n - from)) all
