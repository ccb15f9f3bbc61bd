-- What the definitions say of values, ranks and words that every reader can check.
use Rattle.std.proofs.Common.{◌≡◌, ◌≤◌, ◌==◌, ℕ, List, [], ◌∷◌, Option, Some, None, true, false}
use Rattle.std.proofs.Common.{refl, ap, arith, codes, get_or, drop, ◌++◌, length, inl, inr}
use Rattle.pgn_criteria.proofs.Common.{slice_get_within, man_letter, IsSquares, has_byte, Man}
use Rattle.pgn_criteria.proofs.Common.{White, Black, King, Queen, Pawn, Rook, Single, Escaped}
use Rattle.pgn_criteria.proofs.Common.{number_in, order_of, Allows, Stands, IsNumber, CanBeSplit}
use Rattle.pgn_criteria.proofs.Common.{IsStretch, items_of, spelled, any, occupied, white, black}
use Rattle.pgn_criteria.proofs.Common.{many, among, other, is_man, across, beside, Replay}
use Rattle.pgn_criteria.proofs.Common.{without_check_signs, IsLike, GoesOnBy, IsReachedBy, IsFirst}
use Rattle.pgn_criteria.proofs.Common.{Comparison, Has, Begins, Exactly, AtLeast, AtMost, AnyNumber}
use Rattle.chess.specs.Public.Fen.IsSquares.{letter, step}
use Rattle.pgn_criteria.proofs.CompareFacts.{number_missing}
use Rattle.pgn_criteria.proofs.EndFacts.{ends_in, like_ends}
use Rattle.pgn_criteria.proofs.MoveFacts.{byte_back}
use Rattle.pgn_criteria.specs.declared.compare.Relation.TheVariants.{Equal}
use Rattle.std.specs.declared.cmp.Ordering.TheVariants as order
use Rattle.pgn_criteria.specs.Public.Materials as material
use Rattle.pgn_criteria.specs.declared.compare.Comparison.TheVariants as compared

-- numbers have 1 to 18 digits and nothing else
nine : number_in (codes "9") ≡ Some 9
nine = refl

leading_zeros : number_in (codes "007") ≡ Some 7
leading_zeros = refl

eighteen_digits : number_in (codes "999999999999999999") ≡ Some 999999999999999999
eighteen_digits = refl

nineteen_digits : number_in (codes "1000000000000000000") ≡ None
nineteen_digits = refl

no_digits : number_in [] ≡ None
no_digits = refl

a_dot : number_in (codes "9.1") ≡ None
a_dot = refl

a_sign : number_in (codes "-1") ≡ None
a_sign = refl

-- a number is no less than itself, and a question mark is no number
no_less : IsNumber compared.GreaterOrEqual (codes "27") 27
no_less = record {
  value = codes "27";
  signs = Single 50 ∷ Single 55 ∷ [];
  has = record { spells = refl; each = refl; gives = refl };
  own = 27;
  is = refl;
  holds = omega arith;
}

no_question : (comparison : Comparison) (number : ℕ) → IsNumber comparison (codes "?") number → ⊥
no_question comparison number =
    number_missing comparison (codes "?") number (Single 63 ∷ [], refl, refl) refl

-- two numbers are ordered as numbers, else the bytes decide, and a beginning is the lesser
by_number : order_of (codes "9") (codes "10") ≡ order.Less
by_number = refl

same_number : order_of (codes "007") (codes "7") ≡ order.Equal
same_number = refl

by_byte : order_of (codes "9.1") (codes "10") ≡ order.Greater
by_byte = refl

by_byte_at_nineteen : order_of (codes "999999999999999999") (codes "1000000000000000000")
    ≡ order.Greater
by_byte_at_nineteen = refl

a_beginning : order_of (codes "ab") (codes "abc") ≡ order.Less
a_beginning = refl

-- the contents a\x and a\\x have the same value, so that they are equal
a_backslash : Stands Equal (97 ∷ 92 ∷ 120 ∷ []) (97 ∷ 92 ∷ 92 ∷ 120 ∷ [])
a_backslash = record {
  value = 97 ∷ 92 ∷ 120 ∷ [];
  other = 97 ∷ 92 ∷ 120 ∷ [];
  signs = Single 97 ∷ Escaped 120 ∷ [];
  other_signs = Single 97 ∷ Escaped 92 ∷ Single 120 ∷ [];
  has = record { spells = refl; each = refl; gives = refl };
  other_has = record { spells = refl; each = refl; gives = refl };
  allowed = refl;
}

-- the value of \"a begins with that of \", which is a quote
a_quote : Stands Begins (92 ∷ 34 ∷ 97 ∷ []) (92 ∷ 34 ∷ [])
a_quote = record {
  value = 34 ∷ 97 ∷ [];
  other = 34 ∷ [];
  signs = Escaped 34 ∷ Single 97 ∷ [];
  other_signs = Escaped 34 ∷ [];
  has = record { spells = refl; each = refl; gives = refl };
  other_has = record { spells = refl; each = refl; gives = refl };
  allowed = (97 ∷ [], refl);
}

begins_with_name : Allows Begins (codes "Carlsen, Magnus") (codes "Carlsen")
begins_with_name = (codes ", Magnus", refl)

not_the_longer : Allows Begins (codes "ab") (codes "abc") → ⊥
not_the_longer (back, is) = cc

not_the_same_number : Allows Begins (codes "7") (codes "07") → ⊥
not_the_same_number (back, is) = cc

has_at_the_end : Allows Has (codes "aaab") (codes "aab")
has_at_the_end = (codes "a", [], refl)

has_no_letter : Allows Has (codes "ab") (codes "x") → ⊥
has_no_letter ([], back, is) = let e : true ≡ false = ap (λ bytes. get_or bytes 0 0 == 97) is in cc
has_no_letter (a ∷ [], back, is) = let e : true ≡ false = ap (λ bytes. get_or bytes 1 0 == 98) is in
    cc
has_no_letter (a ∷ b ∷ [], back, is) = let e : [] ≡ 120 ∷ back = ap (drop 2) is in cc
has_no_letter (a ∷ b ∷ c ∷ front, back, is) = let e : [] ≡ c ∷ (front ++ (120 ∷ back)) =
    ap (drop 2) is in cc

has_the_empty_text : Allows Has [] []
has_the_empty_text = ([], [], refl)

-- a pawn of each side, and the squares of a rank with three pawns of White on its right
abbrev pawn : Option Man
pawn = Some (record { side = White; kind = Pawn })

abbrev black_rook : Option Man
black_rook = Some (record { side = Black; kind = Rook })

abbrev three_pawns : List (Option Man)
three_pawns = None ∷ None ∷ None ∷ None ∷ None ∷ pawn ∷ pawn ∷ pawn ∷ []

-- *1PPP: four squares, an empty one, three pawns
pawns_after_an_empty_square : CanBeSplit (items_of (codes "*1PPP")) three_pawns
pawns_after_an_empty_square =
    let p : IsSquares 80 (pawn ∷ []) = letter (record { side = White; kind = Pawn }) in
    let e : IsSquares 49 (None ∷ []) = step 1 (omega arith) (omega arith) in (
      None ∷ None ∷ None ∷ None ∷ [],
      None ∷ pawn ∷ pawn ∷ pawn ∷ [],
      refl,
      many (None ∷ None ∷ None ∷ None ∷ []),
      (
        None ∷ [],
        pawn ∷ pawn ∷ pawn ∷ [],
        refl,
        spelled 49 (None ∷ []) e,
        (
          pawn ∷ [],
          pawn ∷ pawn ∷ [],
          refl,
          spelled 80 (pawn ∷ []) p,
          (
            pawn ∷ [],
            pawn ∷ [],
            refl,
            spelled 80 (pawn ∷ []) p,
            (pawn ∷ [], [], refl, spelled 80 (pawn ∷ []) p, refl),
          ),
        ),
      ),
    )

-- ?!Aa5: any square, a man, a man of White, a man of Black, five empty squares would be nine:
-- *?!Aa4* takes eight
each_sign : CanBeSplit (items_of (codes "*?!Aa4*")) (None ∷ black_rook ∷ pawn ∷ black_rook ∷ None
    ∷ None ∷ None ∷ None ∷ [])
each_sign =
    let four : IsSquares 52 (None ∷ None ∷ None ∷ None ∷ []) =
    step 4 (omega arith) (omega arith) in (
      [],
      None ∷ black_rook ∷ pawn ∷ black_rook ∷ None ∷ None ∷ None ∷ None ∷ [],
      refl,
      many [],
      (
        None ∷ [],
        black_rook ∷ pawn ∷ black_rook ∷ None ∷ None ∷ None ∷ None ∷ [],
        refl,
        any None,
        (
          black_rook ∷ [],
          pawn ∷ black_rook ∷ None ∷ None ∷ None ∷ None ∷ [],
          refl,
          occupied (record { side = Black; kind = Rook }),
          (
            pawn ∷ [],
            black_rook ∷ None ∷ None ∷ None ∷ None ∷ [],
            refl,
            white (record { side = White; kind = Pawn }) refl,
            (
              black_rook ∷ [],
              None ∷ None ∷ None ∷ None ∷ [],
              refl,
              black (record { side = Black; kind = Rook }) refl,
              (
                None ∷ None ∷ None ∷ None ∷ [],
                [],
                refl,
                spelled 52 (None ∷ None ∷ None ∷ None ∷ []) four,
                ([], [], refl, many [], refl),
              ),
            ),
          ),
        ),
      ),
    )

-- [QP][^p]*: a man of the first set, then a square without one of the second, which may be empty
each_set : CanBeSplit (items_of (codes "[QP][^p]*")) (pawn ∷ None ∷ black_rook ∷ [])
each_set = (
  pawn ∷ [],
  None ∷ black_rook ∷ [],
  refl,
  among (codes "QP") (record { side = White; kind = Pawn }) ((λ none. cc), refl) refl,
  (
    None ∷ [],
    black_rook ∷ [],
    refl,
    other (codes "p") None ((λ none. cc), refl) (λ man is. cc),
    (black_rook ∷ [], [], refl, many (black_rook ∷ []), refl),
  ),
)

-- [^pp] takes a rook of Black too: the letter may stand twice
other_man : IsStretch (codes "[^pp]") (black_rook ∷ [])
other_man =
    other (codes "pp") black_rook (
      (λ none. cc),
      refl,
    ) (λ man is. let same : man ≡ record { side = Black; kind = Rook } = cc in
    ap (λ (m : Man). has_byte (man_letter m) (codes "pp")) same)

-- men are distinguished by kind and by side
own_man : is_man (record { side = White; kind = King })
    (Some (record { side = White; kind = King })) ≡ true
own_man = refl

other_side : is_man (record { side = White; kind = King })
    (Some (record { side = Black; kind = King })) ≡ false
other_side = refl

other_kind : is_man (record { side = White; kind = King })
    (Some (record { side = White; kind = Queen })) ≡ false
other_kind = refl

no_man : is_man (record { side = White; kind = King }) None ≡ false
no_man = refl

-- limits: two, two or more, two or fewer, any number
two_of_two : material.Allows (Exactly 2) 2
two_of_two = refl

three_of_at_least_two : material.Allows (AtLeast 2) 3
three_of_at_least_two = omega arith

one_of_at_most_two : material.Allows (AtMost 2) 1
one_of_at_most_two = omega arith

nine_of_any_number : material.Allows AnyNumber 9
nine_of_any_number = tt

not_one_of_at_least_two : material.Allows (AtLeast 2) 1 → ⊥
not_one_of_at_least_two within = absurd (omega arith)

not_three_of_at_most_two : material.Allows (AtMost 2) 3 → ⊥
not_three_of_at_most_two within = absurd (omega arith)

-- a text without its marks
check_left_out : without_check_signs (codes "Nf3+") ≡ codes "Nf3"
check_left_out = refl

mate_left_out : without_check_signs (codes "Qxf7#") ≡ codes "Qxf7"
mate_left_out = refl

-- * stands for any bytes, also for none, and each other byte for itself
takes_on_f3 : IsLike (codes "*xf3") (codes "Bxf3")
takes_on_f3 =
    inl (
      refl,
      (
        codes "B",
        codes "xf3",
        refl,
        inr (codes "f3", refl, inr (codes "3", refl, inr ([], refl, refl))),
      ),
    )

castles_short : IsLike (codes "O-O*") (codes "O-O")
castles_short =
    inr (codes "-O", refl, inr (codes "O", refl, inr ([], refl, inl (refl, ([], [], refl, refl)))))

not_on_h8 : IsLike (codes "*h8") (codes "Rh7") → ⊥
not_on_h8 like =
    let ends = like_ends (codes "*h") 56 (codes "Rh7") (λ e. absurd (omega (arith, e))) like in
    let same : 56 ≡ 55 = ends_in (codes "Rh7") (codes "Rh") 56 55 refl ends in
    absurd (omega (arith, same))

no_cross : IsLike (codes "x*") (codes "Nf3") → ⊥
no_cross like = let same =
    (byte_back (codes "*") 120 78 (codes "f3") (λ e. absurd (omega (arith, e))) like).0 in
    absurd (omega (arith, same))

no_letter_between : IsLike (codes "Ne2") (codes "Nge2") → ⊥
no_letter_between like =
    let after = (byte_back (codes "e2") 78 78 (codes "ge2") (λ e. absurd (omega (arith, e))) like).1
    in
    let same = (byte_back (codes "2") 101 103 (codes "e2") (λ e. absurd (omega (arith, e))) after).0
    in absurd (omega (arith, same))

-- no move leads to the first position of a main line, and none follows the last
none_before : (replay : Replay) (word : List ℕ) → IsReachedBy replay 0 word → ⊥
none_before replay word (before, is, goes) = absurd (omega (arith, is))

none_after : (replay : Replay) (word : List ℕ) → GoesOnBy replay (length replay.played) word → ⊥
none_after replay word goes =
    let within = slice_get_within replay.played (length replay.played) goes.move goes.played in
    absurd (omega (arith, within))

-- the first of the numbers 1 to 5 that is 3 or more is 3; none is found between 2 and 1
third : IsFirst (λ n. 3 ≤ n) 1 5 (Some 3)
third = (omega arith, omega arith, omega arith, λ m low less here. absurd (omega arith))

bounds_first : IsFirst (λ n. 1 ≤ n) 2 1 None
bounds_first n low high here = absurd (omega arith)

-- e4 stands across from e5 and beside d4
e4_across : across (record { file = 5; rank = 4 }) ≡ record { file = 5; rank = 5 }
e4_across = refl

e4_beside : beside (record { file = 5; rank = 4 }) ≡ record { file = 4; rank = 4 }
e4_beside = refl
