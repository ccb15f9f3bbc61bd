use Rattle.std.proofs.Common.{rules, ◌∷◌, ◌-◌, ◌∙◌, ap, sym, length, take, drop}
use Rattle.chess.proofs.RestFacts.{first_and_rest, no_bytes}
use Rattle.pgn_criteria.proofs.MoveFacts.{empty_of, ends_starred, reports_star, reports_stars}
use Rattle.pgn_criteria.specs.Public.MoveTexts.{without_check_signs}
use Rattle.pgn_criteria.proofs.moves.+is_like.Goals as goal

pub is_like-requires : goal.is_like-requires
is_like-requires t c = search rules

pub is_like-requires-then-first-eq42 : goal.is_like-requires-then-first-eq42
is_like-requires-then-first-eq42 t c = search rules

pub is_like-requires-else-is_like : goal.is_like-requires-else-is_like
is_like-requires-else-is_like t c = search rules

pub is_like-requires-then-first-byte : goal.is_like-requires-then-first-byte
is_like-requires-then-first-byte t c = search rules

pub returns-else-is_like : goal.returns-else-is_like
returns-else-is_like t c =
    reports_star c.args.word.now _ c.args.text.now _ _ c.is_like-then-first-eq42.result
    c.is_like-else-is_like.result
    (first_and_rest c.args.word.now c.in-len1-up-word.len_at_least
    ∙ ap (λ b. b ∷ take (length c.args.word.now - 1) (drop 1 c.args.word.now))
    c.if-first-eq42.true)
    (first_and_rest c.args.text.now c.in-len1-up.len_at_least) (sym c.is_check_sign.ensures
    ∙ c.if-is_check_sign.false) c.if-is_like.false
    c.is_like-then-first-eq42.ensures c.is_like-else-is_like.ensures

pub returns-in_default : goal.returns-in_default
returns-in_default t c =
    reports_stars c.args.word.now c.args.text.now c.are_stars.result c.are_stars.ensures
    (no_bytes c.args.text.now c.in_default.len_below)

pub returns-then-is_empty : goal.returns-then-is_empty
returns-then-is_empty t c =
    ends_starred c.args.word.now (take (length c.args.word.now - 1) (drop 1 c.args.word.now))
    (without_check_signs c.args.text.now)
    (first_and_rest c.args.word.now c.in-len1-up-word.len_at_least
    ∙ ap (λ b. b ∷ take (length c.args.word.now - 1) (drop 1 c.args.word.now))
    c.if-first-eq42.true)
    (empty_of _ (sym c.is_empty.ensures ∙ c.if-is_empty.true))
