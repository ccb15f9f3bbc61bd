use Rattle.std.proofs.Common.{◌≡◌, ◌+◌, ◌-◌, ◌%◌, get_or, set, length, ap, ◌∙◌, arith}
use Rattle.pgn_extract.proofs.NextLine.{digit_at, next_line}
use Rattle.pgn_extract.proofs.output.texts.count_up.Goals as goal

pub overflow_add-index_mut : goal.overflow_add-index_mut
overflow_add-index_mut c =
    let line = c.args.line.now.items in
    let size : c.len-last_digit.result ≡ length line =
    c.len-last_digit.ensures ∙ c.args.line.now.ok.0 in
    let is : c.index_mut.result.now ≡ 48 + c.args.ply % 10 =
    c.index_mut.ensures.value ∙ ap (λ n. get_or line (n - 2) c.index_mut.result.now) size
    ∙ digit_at line c.args.mark.now c.args.ply c.requires.line (omega arith) c.if-ply-eq9.false
    c.index_mut.result.now in
    omega arith

pub returns : goal.returns
returns c =
    let line = c.args.line.now.items in
    let size : c.len-last_digit.result ≡ length line =
    c.len-last_digit.ensures ∙ c.args.line.now.ok.0 in
    let is : c.index_mut.result.now ≡ 48 + c.args.ply % 10 =
    c.index_mut.ensures.value ∙ ap (λ n. get_or line (n - 2) c.index_mut.result.now) size
    ∙ digit_at line c.args.mark.now c.args.ply c.requires.line (omega arith) c.if-ply-eq9.false
    c.index_mut.result.now in
    ap (λ n. set line (n - 2) (c.index_mut.result.now + 1)) size
    ∙ ap (λ b. set line (length line - 2) (b + 1)) is
    ∙ next_line line c.args.mark.now c.args.ply c.requires.line (omega arith) c.if-ply-eq9.false
