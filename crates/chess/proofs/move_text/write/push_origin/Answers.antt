use Rattle.chess.proofs.PlaceFacts.{true_not_false}
use Rattle.chess.proofs.move_text.SanTextFacts.{alone_distinguishes, file_distinguishes}
use Rattle.chess.proofs.move_text.SanTextFacts.{rank_distinguishes}
use Rattle.chess.proofs.move_text.SanTextFacts.{both_distinguish}
use Rattle.chess.proofs.move_text.write.push_origin.Goals as goal

pub returns-then-not-has_some-clause-text : goal.returns-then-not-has_some-clause-text
returns-then-not-has_some-clause-text g c =
    alone_distinguishes c.args.position.now c.args.m.now c.rivals-rivals.result c.args.out.now.bytes
    c.rivals-rivals.ensures
    (λ some. true_not_false c.has_some.result (c.has_some.ensures.1 some) c.if-not-has_some.true)

pub returns-then-not-has_on_file-clause-text : goal.returns-then-not-has_on_file-clause-text
returns-then-not-has_on_file-clause-text g c =
    file_distinguishes c.args.position.now c.args.m.now c.rivals-rivals.result c.args.out.now.bytes
    c.push_byte.new.out.bytes c.file.result
    c.rivals-rivals.ensures (c.has_some.ensures.0 c.if-not-has_some.false)
    (λ some.
    true_not_false c.has_on_file.result (c.has_on_file.ensures.1 some)
    c.if-not-has_on_file.true)
    c.file.ensures.number c.push_byte.ensures

pub returns-then-not-has_on_rank-clause-text : goal.returns-then-not-has_on_rank-clause-text
returns-then-not-has_on_rank-clause-text g c =
    rank_distinguishes c.args.position.now c.args.m.now c.rivals-rivals.result c.args.out.now.bytes
    c.push_byte-then-not-has_on_rank.new.out.bytes
    c.rank.result c.rivals-rivals.ensures (c.has_on_file.ensures.0 c.if-not-has_on_file.false)
    (λ some.
    true_not_false c.has_on_rank.result (c.has_on_rank.ensures.1 some)
    c.if-not-has_on_rank.true)
    c.rank.ensures.number c.push_byte-then-not-has_on_rank.ensures

pub returns-clause-text : goal.returns-clause-text
returns-clause-text g c =
    both_distinguish c.args.position.now c.args.m.now c.rivals-rivals.result c.args.out.now.bytes
    c.push_square.new.out.bytes c.rivals-rivals.ensures
    (c.has_on_file.ensures.0 c.if-not-has_on_file.false)
    (c.has_on_rank.ensures.0 c.if-not-has_on_rank.false) c.push_square.ensures
