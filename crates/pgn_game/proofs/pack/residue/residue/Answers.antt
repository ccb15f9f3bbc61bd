use Rattle.std.proofs.Common.{◌≡◌, ◌+◌, ◌*◌, ◌%◌, ◌^◌, [], drop, sym, ap, ◌∙◌, arith}
use Rattle.std.specs.Int.{w64, from_be_bytes}
use Rattle.std.specs.Int.Digits.{number_from_digits_after}
use Rattle.std.proofs.lemmas.List.{drop_all}
use Rattle.pgn_game.specs.Public.Residues.{modulus, residue}
use Rattle.pgn_game.proofs.ResidueReading.{word_kept, byte_kept}
use Rattle.pgn_game.proofs.pack.residue.residue.Goals as goal

pub loop-rest-preserved : goal.loop-rest-preserved
loop-rest-preserved c =
    let word : c.from_be_bytes-word.result ≡ from_be_bytes w64 c.split_at.result.0.now =
    c.from_be_bytes-word.ensures in
    let front = ap (λ t. from_be_bytes w64 t) c.split_at.ensures.front in
    let step = c.after_word-left.ensures.value
    ∙ ap (λ w. (c.loop-rest.left * 2 ^ 64 + w) % modulus) (word ∙ front) in
    let kept = word_kept c.loop-rest.left c.after_word-left.result c.loop-rest.rest.now
    (residue c.args.bytes.now) c.loop-rest-test.true step c.loop-rest.invariant.1 in (
      c.after_word-left.ensures.below,
      ap (λ t. number_from_digits_after 256 c.after_word-left.result
          t % modulus) c.split_at.ensures.back ∙ kept,
    )

pub loop-byte-preserved : goal.loop-byte-preserved
loop-byte-preserved c =
    let kept = byte_kept c.loop-byte.left c.after_byte-left.result c.loop-byte.byte-index
    c.loop-rest.rest.now (residue c.args.bytes.now) c.loop-byte-test.true
    c.after_byte-left.ensures.value c.loop-byte.invariant.1 in
    (c.after_byte-left.ensures.below, kept)

pub loop-byte-init : goal.loop-byte-init
loop-byte-init c = c.loop-rest.invariant

pub returns : goal.returns
returns c =
    let none : drop c.loop-byte.byte-index c.loop-rest.rest.now ≡ [] = drop_all _ _
    c.loop-byte-test.false in
    let whole = ap (λ t. number_from_digits_after 256 c.loop-byte.left t % modulus) (sym none)
    ∙ c.loop-byte.invariant.1 in
    omega (arith, whole, c.loop-byte.invariant.0)
