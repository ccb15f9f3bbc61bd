-- A man that is moved from a square to another, in twelve words: three squares are cleared at once,
-- and he is set on one of them.
use Rattle.std.proofs.Common.{◌≡◌, ◌<◌, ◌^◌, bit_or, bit_and, w64, length, map, ◌&&◌, ◌||◌, ℕ, Bool}
use Rattle.std.proofs.Common.{true, false, not, ap, refl, sym, ◌∙◌, arith, List, Option, None}
use Rattle.std.proofs.lemmas.List.{get_or-map}
use Rattle.std.proofs.Math.Pow.{pow-lt}
use Rattle.chess.proofs.Common.{bit_not, length-map, Place, IsOnBoard, index_of, with_man, has_bit}
use Rattle.chess.proofs.Common.{index_of-below, AreApart, words_men, bitboard_at, square_bitboard}
use Rattle.chess.proofs.Common.{IsCleared, Man}
use Rattle.chess.proofs.board.FillFacts.{bit_of_either}
use Rattle.chess.proofs.BitFacts.{IsPut, put_none, put_apart, put_men, cleared_bit}

-- the words without the square
abbrev pub without : List ℕ → Place → List ℕ
without words s = map (λ w. bit_and w (bit_not w64 (square_bitboard s))) words

square_fits : (s : Place) → IsOnBoard s → square_bitboard s < 2 ^ 64
square_fits s on = pow-lt (index_of-below s on)

pub is_without : (words : List ℕ) (s : Place) → length words ≡ 12 → IsOnBoard s
    → IsCleared words (without words s) (square_bitboard s)
is_without words s size on k i less in_bitboard =
    ap (λ w. has_bit w i)
    (get_or-map (λ w. bit_and w (bit_not w64 (square_bitboard s))) words k 0 0 (omega arith))
    ∙ cleared_bit (bitboard_at words k) (square_bitboard s) i (square_fits s on) in_bitboard

-- one square after the other, or all at once
one_by_one : (x p q : Bool) → (x && not (p || q)) ≡ ((x && not p) && not q)
one_by_one true true q = refl
one_by_one true false q = refl
one_by_one false p q = refl

pub cleared_last : (old mid : List ℕ) (capture_square from to : Place) → length old ≡ 12
    → IsOnBoard capture_square
    → IsOnBoard from
    → IsCleared old mid
    (bit_or (bit_or (square_bitboard capture_square) (square_bitboard from))
    (square_bitboard to))
    → IsCleared (without (without old capture_square) from) mid (square_bitboard to)
cleared_last old mid capture_square from to size on_taken on_from cleared k i less in_bitboard =
    let a = has_bit (square_bitboard capture_square) i in
    let b = has_bit (square_bitboard from) i in
    let c = has_bit (square_bitboard to) i in
    let x = has_bit (bitboard_at old k) i in
    cleared k i less in_bitboard
    ∙ ap (λ t. x
    && not t) (bit_of_either (bit_or (square_bitboard capture_square) (square_bitboard from))
    (square_bitboard to) i)
    ∙ ap (λ t. x && not (t || c))
    (bit_of_either (square_bitboard capture_square) (square_bitboard from) i)
    ∙ one_by_one x (a || b) c
    ∙ ap (λ t. t && not c) (one_by_one x a b)
    ∙ sym (ap (λ t. t && not c) (
    is_without (without old capture_square) from (length-map old _
    ∙ size) on_from k i less in_bitboard
    ∙ ap (λ t. t && not b) (is_without old capture_square size on_taken k i less in_bitboard)))

-- the three changes of the map
first_put : (old : List ℕ) (capture_square : Place) → length old ≡ 12 → IsOnBoard capture_square
    → IsPut old (without old capture_square) (index_of capture_square) None
first_put old capture_square size on =
    put_none old (without old capture_square) (index_of capture_square)
    (is_without old capture_square size on)

without_apart : (old : List ℕ) (s : Place) → length old ≡ 12 → IsOnBoard s → AreApart old
    → AreApart (without old s)
without_apart old s size on apart =
    put_apart old (without old s) (index_of s) None apart (first_put old s size on)

pub moved_apart : (old new : List ℕ) (capture_square from to : Place) (man : Option Man)
    → length old ≡ 12
    → IsOnBoard capture_square → IsOnBoard from → AreApart old
    → IsPut (without (without old capture_square) from) new (index_of to) man → AreApart new
moved_apart old new capture_square from to man size on_taken on_from apart put =
    let mid = without old capture_square in
    put_apart (without mid from) new (index_of to) man
    (without_apart mid from (length-map old _
    ∙ size) on_from (without_apart old capture_square size on_taken apart)) put

pub moved_men : (old new : List ℕ) (capture_square from to : Place) (man : Option Man)
    → length old ≡ 12
    → IsOnBoard capture_square → IsOnBoard from → IsOnBoard to
    → AreApart old → IsPut (without (without old capture_square) from) new (index_of to) man
    → words_men new
    ≡ with_man (with_man (with_man (words_men old) capture_square None) from None) to man
moved_men old new capture_square from to man size on_taken on_from on_to apart put =
    let mid = without old capture_square in
    let last = without mid from in
    let mid_size : length mid ≡ 12 = length-map old _ ∙ size in
    let mid_apart = without_apart old capture_square size on_taken apart in
    put_men last new to man on_to (without_apart mid from mid_size on_from mid_apart) put
    ∙ ap (λ p. with_man p to man)
    (put_men mid last from None on_from mid_apart (first_put mid from mid_size on_from)
    ∙ ap (λ p. with_man p from None)
    (put_men old mid capture_square None on_taken apart
    (first_put old capture_square size on_taken)))
