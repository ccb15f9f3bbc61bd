use Rattle.pgn_text.proofs.Common.{◌-◌, length, take, drop, take_rest, part_front, standing_view}
use Rattle.pgn_text.proofs.Common.{token_of}
use Rattle.pgn_text.proofs.Places.{nothing_at, kept_at, rest_within}
use Rattle.pgn_text.proofs.FoundLemmas.{part-found}
use Rattle.pgn_text.proofs.lex.place.part_at.Goals as goal

pub returns-in_default : goal.returns-in_default
returns-in_default c =
    nothing_at c.args.file_start c.args.block.now c.args.at (standing_view c.standing_at.result) _
    c.standing_at.ensures (take_rest c.args.block.now c.args.at) c.in_default.ensures

pub overflow_sub-result : goal.overflow_sub-result
overflow_sub-result c =
    let text = take (length c.args.block.now - c.args.at) (drop c.args.at c.args.block.now) in
    rest_within c.args.file_start c.args.block.now c.args.at (standing_view c.standing_at.result)
    text
    (take_rest c.args.block.now c.args.at) (part_front (standing_view c.standing_at.result) text)
    (part-found (standing_view c.standing_at.result) text) (token_of c.in-Some.token)
    c.in-Some.rest.now c.in-Some.ensures

pub returns : goal.returns
returns c =
    kept_at c.args.file_start c.args.block.now c.args.at (standing_view c.standing_at.result) _
    c.standing_at.ensures (take_rest c.args.block.now c.args.at) c.requires
    (token_of c.in-Some.token) c.in-Some.rest.now c.in-Some.ensures
