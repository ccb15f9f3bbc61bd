use Rattle.std.proofs.Common.{◌≡◌, ℕ, suc, ◌+◌, ◌/◌, ◌^◌, ◌<◌, ◌&&◌, ◌||◌, get_or}
use Rattle.std.proofs.Common.{bit_or, refl, sym, ap, ap₂, ◌∙◌, arith}
use Rattle.pgn_text.proofs.Common.{is_gap, is_digit, is_letter, is_move_sign, has_bit}
use Rattle.pgn_text.proofs.Bits.{bit-and, bit-or}
use Rattle.pgn_text.proofs.lex.SweepLemmas.{word_of_moves, begins_are, moved_bits}
use Rattle.pgn_text.proofs.lex.SweepLemmas.{within_block}
use Rattle.pgn_text.proofs.lex.movetext.sweep_past.Goals as goal

pub returns : goal.returns
returns c =
    let block = c.args.block.now in
    let base = c.args.base in
    let skip = c.args.skip in
    let at = base + skip in
    let len = c.plain_len-len.result in
    let numbers = c.numbers-number_bits.result in
    let short : len < 64 = c.plain_len-len.ensures.short in
    let there : base + skip ≡ at = refl in
    let last = c.requires.last in
    let same = λ (i : ℕ) (lt : i < 64). c.bytes_at-bytes.ensures i lt in
    let letters_are =
    moved_bits is_letter refl block base skip at c.letters.result there last (omega arith)
    (λ i lt. c.letters.ensures i lt ∙ ap is_letter (same i lt)) in
    let digits_are =
    moved_bits is_digit refl block base skip at c.digits.result there last (omega arith)
    (λ i lt. c.digits.ensures i lt ∙ ap is_digit (same i lt)) in
    let signs_are =
    moved_bits is_move_sign refl block base skip at c.signs.result there last (omega arith)
    (λ i lt. c.signs.ensures i lt ∙ ap is_move_sign (same i lt)) in
    let letters = c.letters.result / 2 ^ skip in
    let digits = c.digits.result / 2 ^ skip in
    let signs = c.signs.result / 2 ^ skip in
    let plain_are = λ (i : ℕ) (lt : i < 64). bit-or (bit_or letters digits) signs i
    ∙ ap₂ (λ a b. a || b) (bit-or letters digits i
    ∙ ap₂ (λ a b. a || b) (letters_are i lt) (digits_are i lt)) (signs_are i lt) in
    let gaps_are =
    moved_bits is_gap refl block base skip at c.gaps.result there last (omega arith)
    (λ i lt. c.gaps.ensures i lt ∙ ap is_gap (same i lt)) in
    let each = λ (i : ℕ) (lt : i < len). c.strange-strange_bits.ensures.each i (omega arith)
    (c.plain_len-len.ensures.plain i lt) in
    let words_are = λ (i : ℕ) (lt : i < len). plain_are i (omega arith)
    ∙ word_of_moves (get_or block (at + i) 0)
    (ap₂ (λ a b. a || b) (sym (plain_are i (omega arith))) (sym (gaps_are i (omega arith)))
    ∙ each i lt) in
    let begin_bits = c.begins-begin_bits.result in
    let are =
    begins_are block at (bit_or (bit_or letters digits) signs) begin_bits len (omega arith)
    c.begins-begin_bits.ensures words_are in (
      numbers,
      record {
        within = within_block block at len (omega arith) (λ i is. sym (gaps_are i (omega arith))
            ∙ c.plain_len-len.ensures.ends i is);
        short = short;
        words_are = words_are;
        moves_are = λ i lt. c.below-moves.ensures.low i (omega arith)
            ∙ bit-and begin_bits (c.letters.result / 2 ^ skip) i
            ∙ ap₂ (λ a b. a && b) (are i lt) (letters_are i (omega arith));
        moves_end = λ i le lt. c.below-moves.ensures.high i (omega arith) lt;
        each = λ i lt. ap₂ (λ a b. a || b) (sym (words_are i lt)) (sym (gaps_are i (omega arith)))
            ∙ each i lt;
        begins = λ i lt first. ap (λ b. b || has_bit numbers i) (sym (letters_are i (omega arith)))
            ∙ c.strange-strange_bits.ensures.begins i (omega arith)
            (c.plain_len-len.ensures.plain i lt) (are i lt ∙ first);
        digits = λ i lt on. sym (digits_are i (omega arith)) ∙ c.numbers-number_bits.ensures i on;
        goes_on =
            λ i lt on. ap (λ b. has_bit numbers (suc i)
            || b) (sym (gaps_are (suc i) (omega arith)))
            ∙ c.strange-strange_bits.ensures.goes_on i (omega arith)
            (c.plain_len-len.ensures.plain (suc i) lt) on;
        ends = λ i is. sym (gaps_are i (omega arith)) ∙ c.plain_len-len.ensures.ends i is;
      },
    )
