use Rattle.chess.proofs.Common.{◌∙◌, ap, sym, Some, None, with_man, words_men, IsMan}
use Rattle.chess.proofs.board.OccupiedFacts.{has_square}
use Rattle.chess.proofs.board.MovePieceFacts.{moved_apart, moved_men}
use Rattle.chess.proofs.board.SlideFacts.{slid_put, first_empty, second_empty}
use Rattle.chess.proofs.board.bits.move_piece_words.Goals as goal

pub returns-clause-apart : goal.returns-clause-apart
returns-clause-apart c =
    let old = c.args.words.now in
    let men = words_men old in
    let man = c.in-Some.man in
    let on_from = c.bitboard_of-3.ensures.on_board in
    let on_taken = c.bitboard_of.ensures.on_board in
    let on_to = c.bitboard_of-2.ensures.on_board in
    let none = c.if-occupied-bitboard_of-eq0.true in
    moved_apart old c.slide.new.words c.args.capture_square c.args.from c.args.to
    (Some man) c.told-words
    on_taken on_from c.requires
    (slid_put old c.slide.new.words man c.args.from c.args.capture_square c.args.to
    c.told-words on_from
    on_taken on_to c.requires
    ((has_square (IsMan men man.side man.kind) c.squares_with.result
    c.bitboard_of-3.result c.args.from
    on_from c.bitboard_of-3.ensures.bitboard c.squares_with.ensures).0
    c.if-squares_with-bitboard_of-ne0.true)
    (first_empty men c.occupied.result c.bitboard_of.result c.bitboard_of-2.result
    c.args.capture_square on_taken
    c.occupied.ensures none c.bitboard_of.ensures.bitboard)
    (second_empty men c.occupied.result c.bitboard_of.result c.bitboard_of-2.result c.args.to on_to
    c.occupied.ensures none c.bitboard_of-2.ensures.bitboard)
    c.slide.ensures)

pub returns-clause-men : goal.returns-clause-men
returns-clause-men c =
    let old = c.args.words.now in
    let men = words_men old in
    let man = c.in-Some.man in
    let on_from = c.bitboard_of-3.ensures.on_board in
    let on_taken = c.bitboard_of.ensures.on_board in
    let on_to = c.bitboard_of-2.ensures.on_board in
    let none = c.if-occupied-bitboard_of-eq0.true in
    moved_men old c.slide.new.words c.args.capture_square c.args.from c.args.to
    (Some man) c.told-words
    on_taken on_from on_to c.requires
    (slid_put old c.slide.new.words man c.args.from c.args.capture_square c.args.to
    c.told-words on_from
    on_taken on_to c.requires
    ((has_square (IsMan men man.side man.kind) c.squares_with.result
    c.bitboard_of-3.result c.args.from
    on_from c.bitboard_of-3.ensures.bitboard c.squares_with.ensures).0
    c.if-squares_with-bitboard_of-ne0.true)
    (first_empty men c.occupied.result c.bitboard_of.result c.bitboard_of-2.result
    c.args.capture_square on_taken
    c.occupied.ensures none c.bitboard_of.ensures.bitboard)
    (second_empty men c.occupied.result c.bitboard_of.result c.bitboard_of-2.result c.args.to on_to
    c.occupied.ensures none c.bitboard_of-2.ensures.bitboard)
    c.slide.ensures)
    ∙ ap (with_man (with_man (with_man men c.args.capture_square None) c.args.from None) c.args.to)
    (sym c.in-Some.is)
