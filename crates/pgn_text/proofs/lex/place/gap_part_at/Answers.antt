use Rattle.pgn_text.proofs.Common.{◌-◌, length, take, drop, sym, ◌∙◌, arith, take_rest, gap_front}
use Rattle.pgn_text.proofs.Common.{standing_view, token_of}
use Rattle.pgn_text.proofs.Places.{no_gap_at, gap_part_is, rest_within}
use Rattle.pgn_text.proofs.FoundLemmas.{gap-found}
use Rattle.pgn_text.proofs.PartsAt.{gap_white}
use Rattle.pgn_text.proofs.lex.place.gap_part_at.Goals as goal

pub returns-in_default : goal.returns-in_default
returns-in_default c =
    no_gap_at c.args.file_start c.args.block.now c.args.at (standing_view c.standing_at.result) _
    c.standing_at.ensures (take_rest c.args.block.now c.args.at) c.in_default.ensures

pub overflow_sub-result : goal.overflow_sub-result
overflow_sub-result c =
    let text = take (length c.args.block.now - c.args.at) (drop c.args.at c.args.block.now) in
    rest_within c.args.file_start c.args.block.now c.args.at (standing_view c.standing_at.result)
    text
    (take_rest c.args.block.now c.args.at) (gap_front (standing_view c.standing_at.result) text)
    (gap-found (standing_view c.standing_at.result) text) (token_of c.in-Some.field-0-0)
    c.in-Some.rest.now c.in-Some.ensures

pub returns : goal.returns
returns c =
    gap_part_is c.args.file_start c.args.block.now c.args.at (standing_view c.standing_at.result) _
    c.standing_at.ensures (take_rest c.args.block.now c.args.at) c.requires
    (token_of c.in-Some.field-0-0) c.in-Some.rest.now c.in-Some.ensures

pub returns-then-is_in : goal.returns-then-is_in
returns-then-is_in c =
    gap_white c.args.file_start c.args.block.now c.args.at (omega arith) (sym c.is_in.ensures
    ∙ c.if-is_in.true)
