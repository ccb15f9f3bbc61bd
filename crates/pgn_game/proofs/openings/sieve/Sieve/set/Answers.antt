-- The bit is set in its word.
use Rattle.pgn_game.proofs.Common.{◌∙◌, ap, sym, subst, arith, ◌≡◌, ◌<◌, length}
use Rattle.std.proofs.Common.{◌^◌, ◌*◌, ◌/◌, ◌%◌, true, slice_set, bit_or}
use Rattle.std.proofs.lemmas.List.{get_or_default}
use Rattle.pgn_game.specs.Private.Filing.{is_set}
use Rattle.pgn_game.proofs.openings.SieveFacts.{put_here, put_kept}
use Rattle.pgn_game.proofs.openings.sieve.Sieve.set.Goals as goal

pub returns-clause-here : goal.returns-clause-here
returns-clause-here c =
    let words = c.self.inside.words.items in
    let place = c.args.n in
    let within : place / 64 < length words = omega (arith, c.requires, c.self.invariant) in
    let word = c.index_mut.ensures.value ∙ get_or_default words (place / 64) _ 0 within in
    ap (λ w. is_set (slice_set words (place / 64)
    (bit_or w (1 * 2 ^ (place % 64) % 2 ^ 64))) place) word
    ∙ put_here words place within

pub returns-clause-kept : goal.returns-clause-kept
returns-clause-kept c = λ other there.
    let words = c.self.inside.words.items in
    let place = c.args.n in
    let within : place / 64 < length words = omega (arith, c.requires, c.self.invariant) in
    let word = c.index_mut.ensures.value ∙ get_or_default words (place / 64) _ 0 within in
    ap (λ w. is_set (slice_set words (place / 64)
    (bit_or w (1 * 2 ^ (place % 64) % 2 ^ 64))) other) word
    ∙ put_kept words place other within
    (subst (λ ws. is_set ws other ≡ true) (sym c.self.view_is) there)
