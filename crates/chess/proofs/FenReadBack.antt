-- The text of a sound position is read back: its fields are found again, and each gives what was
-- written.
use Rattle.std.specs.Prelude.{if◌then◌else◌, codes}
use Rattle.std.proofs.lemmas.Fmt.{decimal_by_steps, length-decimal-le, decimal_nonempty}
use Rattle.std.proofs.lemmas.Bool.{or_from}
use Rattle.chess.proofs.Common.{◌≡◌, ◌≢◌, ◌≤◌, ◌<◌, ◌+◌, ◌-◌, ◌*◌, ◌/◌, ◌%◌, ◌||◌, ◌&&◌, ℕ, Bool}
use Rattle.chess.proofs.Common.{true, false, not, inl, inr, ap, refl, sym, subst, ◌∙◌, arith}
use Rattle.chess.proofs.Common.{Option, Some, None, IfSome, List, [], ◌∷◌, ◌++◌, length, ◌==◌}
use Rattle.chess.proofs.Common.{decimal, list_all, nat_tests, and_parts, not-true, eq-eqb, and_from}
use Rattle.chess.proofs.Common.{Place, Placement, State, has_right, FitsEnPassant, IsSound}
use Rattle.chess.proofs.Common.{before_first, parted_at, without_empty, fields_of, IsSquares}
use Rattle.chess.proofs.Common.{SpellsRank, SpellRanks, row, side_text, right_letter, has_byte}
use Rattle.chess.proofs.Common.{is_distinct, is_right_letter, GivesRights, GivesEnPassant}
use Rattle.chess.proofs.Common.{number_from, is_digit, IsCount, SpellsPosition, ReadsFen, joined}
use Rattle.chess.proofs.Common.{rights_letters, or_dash, en_passant_text, IsFen, letter, step, Man}
use Rattle.chess.proofs.Common.{Side, White, Black, Wing, KingSide, QueenSide, CastlingRights}
use Rattle.chess.proofs.LetterFacts.{letter_high}
use Rattle.chess.proofs.SoundRead.{sound_read}

-- ---- texts without a separator are found again

not_first : (s b : ℕ) (x : List ℕ) → has_byte s (b ∷ x) ≡ false
    → ((b == s) ≡ false) × (has_byte s x ≡ false)
not_first s b x none =
    elim (b == s) as (λ t. (b == s) ≡ t → (t || has_byte s x) ≡ false
    → ((b == s) ≡ false) × (has_byte s x ≡ false)) [
      | true ↦ λ same clash. let e : true ≡ false = clash in absurd (cc)
      | false ↦ λ other rest. (other, rest)
    ] refl none

parted_one : (s : ℕ) (x : List ℕ) → has_byte s x ≡ false → parted_at s x ≡ x ∷ []
parted_one s [] none = refl
parted_one s (b ∷ x) none =
    let apart = not_first s b x none in
    ap (λ t. if t then [] ∷ parted_at s x else before_first b (parted_at s x)) apart.0
    ∙ ap (before_first b) (parted_one s x apart.1)

parted_more : (s : ℕ) (x y : List ℕ) → has_byte s x ≡ false
    → parted_at s (x ++ s ∷ y) ≡ x ∷ parted_at s y
parted_more s [] y none =
    ap (λ t. if t then [] ∷ parted_at s y else before_first s (parted_at s y)) (eq-eqb s s refl)
parted_more s (b ∷ x) y none =
    let apart = not_first s b x none in
    ap (λ t. if t then [] ∷ parted_at s (x ++ s ∷ y)
    else before_first b (parted_at s (x ++ s ∷ y))) apart.0
    ∙ ap (before_first b) (parted_more s x y apart.1)

-- no text of a list has the byte
abbrev pub AreFreeOf : ℕ → List (List ℕ) → Type 0
AreFreeOf s [] = Unit {0}
AreFreeOf s (x ∷ more) = (has_byte s x ≡ false) × AreFreeOf s more

parted_joined : (s : ℕ) (x : List ℕ) (more : List (List ℕ)) → AreFreeOf s (x ∷ more)
    → parted_at s (joined s (x ∷ more)) ≡ x ∷ more
parted_joined s x [] free = parted_one s x free.0
parted_joined s x (y ∷ more) free =
    parted_more s x (joined s (y ∷ more)) free.0
    ∙ ap (λ rest. x ∷ rest) (parted_joined s y more free.1)

-- none of the texts is empty
abbrev pub AreSome : List (List ℕ) → Type 0
AreSome [] = Unit {0}
AreSome (x ∷ more) = (x ≢ []) × AreSome more

all_fields : (fields : List (List ℕ)) → AreSome fields → without_empty fields ≡ fields
all_fields [] some = refl
all_fields ([] ∷ more) some = absurd (some.0 refl)
all_fields ((b ∷ x) ∷ more) some = ap (λ rest. (b ∷ x) ∷ rest) (all_fields more some.1)

fields_joined : (x : List ℕ) (more : List (List ℕ)) → AreFreeOf 32 (x ∷ more) → AreSome (x ∷ more)
    → fields_of (joined 32 (x ∷ more)) ≡ x ∷ more
fields_joined x more free some = ap without_empty (parted_joined 32 x more free)
    ∙ all_fields (x ∷ more) some

-- ---- the bytes of ranks

has_byte-append : (s : ℕ) (x y : List ℕ) → has_byte s x ≡ false → has_byte s y ≡ false
    → has_byte s (x ++ y) ≡ false
has_byte-append s [] y none other = other
has_byte-append s (b ∷ x) y none other =
    let apart = not_first s b x none in
    or_from (b == s) (has_byte s (x ++ y)) apart.0 (has_byte-append s x y apart.1 other)

other_byte : (b s : ℕ) → s ≤ 47 → 48 ≤ b → (b == s) ≡ false
other_byte b s low high = grind (arith, nat_tests)

byte_above : (b : ℕ) (own : List (Option Man)) → IsSquares b own → 48 ≤ b
byte_above _ _ (letter man) = let high = letter_high man.side man.kind in omega arith
byte_above _ _ (step n low high) = omega arith

rank_free : (s : ℕ) → s ≤ 47 → (x : List ℕ) (squares : List (Option Man)) → SpellsRank x squares
    → has_byte s x ≡ false
rank_free s low [] squares spelled = refl
rank_free s low (b ∷ x) squares (own, more, joined_by, byte, rest) =
    or_from (b == s) (has_byte s x) (other_byte b s low (byte_above b own byte))
    (rank_free s low x more rest)

ranks_free : (s : ℕ) → s ≤ 47 → (p : Placement) (n : ℕ) (ranks : List (List ℕ))
    → SpellRanks p n ranks → AreFreeOf s ranks
ranks_free s low p n [] spelled = tt
ranks_free s low p n (x ∷ more) spelled =
    (rank_free s low x (row p n) spelled.1, ranks_free s low p (n - 1) more spelled.2)

slash_free : (x : List ℕ) (more : List (List ℕ)) → AreFreeOf 32 (x ∷ more)
    → has_byte 32 (joined 47 (x ∷ more)) ≡ false
slash_free x [] free = free.0
slash_free x (y ∷ more) free =
    has_byte-append 32 x (47 ∷ joined 47 (y ∷ more)) free.0 (slash_free y more free.1)

some_rank : (p : Placement) (n : ℕ) (x : List ℕ) → SpellsRank x (row p n) → x ≢ []
some_rank p n [] none e = let clash : row p n ≡ [] = none in cc
some_rank p n (b ∷ x) spelled e = cc

some_joined : (s : ℕ) (x : List ℕ) (more : List (List ℕ)) → x ≢ [] → joined s (x ∷ more) ≢ []
some_joined s x [] some e = some e
some_joined s [] (y ∷ more) some e = some refl
some_joined s (b ∷ x) (y ∷ more) some e = cc

-- the field of the men
pub record IsMenField (p : Placement) (x : List ℕ) : Type 0 where
  pub ranks : SpellRanks p 8 (parted_at 47 x)
  pub free : has_byte 32 x ≡ false
  pub some : x ≢ []

men_field : (p : Placement) (ranks : List (List ℕ)) → SpellRanks p 8 ranks
    → IsMenField p (joined 47 ranks)
men_field p [] spelled = let clash : 8 ≡ 0 = spelled in absurd (omega arith)
men_field p (x ∷ more) spelled = record {
  ranks = subst (SpellRanks p 8)
      (sym (parted_joined 47 x more (ranks_free 47 (omega arith) p 8 (x ∷ more) spelled))) spelled;
  free = slash_free x more (ranks_free 32 (omega arith) p 8 (x ∷ more) spelled);
  some = some_joined 47 x more (some_rank p 8 x spelled.1);
}

-- ---- the other fields

side_free : (side : Side) → (has_byte 32 (side_text side) ≡ false) × (side_text side ≢ [])
side_free White = (refl, (λ e. cc))
side_free Black = (refl, (λ e. cc))

-- two tests have the same answer
abbrev is_alike : Bool → Bool → Bool
is_alike a b = if a then b else not b

alike : (a b : Bool) → is_alike a b ≡ true → a ≡ b
alike true b e = sym e
alike false true e = e
alike false false e = refl

-- what the letters of rights say of them, for each of the sixteen
abbrev are_given : CastlingRights → Bool
are_given r =
    (((list_all is_right_letter (rights_letters r) && is_distinct (rights_letters r))
    && (is_alike r.white_king_side (has_byte 75 (rights_letters r))
    && is_alike r.white_queen_side (has_byte 81 (rights_letters r))))
    && (is_alike r.black_king_side (has_byte 107 (rights_letters r))
    && is_alike r.black_queen_side (has_byte 113 (rights_letters r))))
    && not (has_byte 32 (rights_letters r))

rights_of : Bool → Bool → Bool → Bool → CastlingRights
rights_of a b c d =
    record { white_king_side = a; white_queen_side = b; black_king_side = c; black_queen_side = d }

sixteen : (a b c d : Bool) → are_given (rights_of a b c d) ≡ true
unfolding rights_of
sixteen true true true true = refl
sixteen true true false true = refl
sixteen true false true true = refl
sixteen true false false true = refl
sixteen false true true true = refl
sixteen false true false true = refl
sixteen false false true true = refl
sixteen false false false true = refl
sixteen _ _ _ _ = refl

-- those facts one by one
pub record AreLetters (r : CastlingRights) (x : List ℕ) : Type 0 where
  pub letters : list_all is_right_letter x ≡ true
  pub distinct : is_distinct x ≡ true
  pub each : (side : Side) (wing : Wing) → has_right r side wing
      ≡ has_byte (right_letter side wing) x
  pub free : has_byte 32 x ≡ false

four_rights : (r : CastlingRights) (x : List ℕ) → r.white_king_side ≡ has_byte 75 x
    → r.white_queen_side ≡ has_byte 81 x
    → r.black_king_side ≡ has_byte 107 x → r.black_queen_side ≡ has_byte 113 x
    → (side : Side) (wing : Wing) → has_right r side wing ≡ has_byte (right_letter side wing) x
four_rights r x a b c d White KingSide = a
four_rights r x a b c d White QueenSide = b
four_rights r x a b c d Black KingSide = c
four_rights r x a b c d Black QueenSide = d

are_letters : (r : CastlingRights) → AreLetters r (rights_letters r)
unfolding rights_of
are_letters r =
    let x = rights_letters r in
    let all : are_given r ≡ true =
    sixteen r.white_king_side r.white_queen_side r.black_king_side r.black_queen_side in
    let white = is_alike r.white_king_side (has_byte 75 x)
    && is_alike r.white_queen_side (has_byte 81 x) in
    let black = is_alike r.black_king_side (has_byte 107 x)
    && is_alike r.black_queen_side (has_byte 113 x) in
    let form = list_all is_right_letter x && is_distinct x in
    let five = (and_parts ((form && white) && black) (not (has_byte 32 x)) all).0 in
    let three = (and_parts (form && white) black five).0 in
    let one = (and_parts form white three).0 in
    let of_white = (and_parts form white three).1 in
    let of_black = (and_parts (form && white) black five).1 in
    record {
      letters = (and_parts (list_all is_right_letter x) (is_distinct x) one).0;
      distinct = (and_parts (list_all is_right_letter x) (is_distinct x) one).1;
      each = four_rights r x
          (alike _ _
          (and_parts (is_alike r.white_king_side (has_byte 75 x))
          (is_alike r.white_queen_side (has_byte 81 x)) of_white).0)
          (alike _ _
          (and_parts (is_alike r.white_king_side (has_byte 75 x))
          (is_alike r.white_queen_side (has_byte 81 x)) of_white).1)
          (alike _ _
          (and_parts (is_alike r.black_king_side (has_byte 107 x))
          (is_alike r.black_queen_side (has_byte 113 x)) of_black).0)
          (alike _ _
          (and_parts (is_alike r.black_king_side (has_byte 107 x))
          (is_alike r.black_queen_side (has_byte 113 x)) of_black).1);
      free = not-true (has_byte 32 x)
          (and_parts ((form && white) && black) (not (has_byte 32 x)) all).1;
    }

no_dash : (side : Side) (wing : Wing) → has_byte (right_letter side wing) (codes "-") ≡ false
no_dash White KingSide = refl
no_dash Black KingSide = refl
no_dash _ _ = refl

-- the field of the rights
pub record IsRightsField (r : CastlingRights) (x : List ℕ) : Type 0 where
  pub gives : GivesRights x r
  pub free : has_byte 32 x ≡ false
  pub some : x ≢ []

rights_field : (r : CastlingRights) (x : List ℕ) → AreLetters r x → IsRightsField r (or_dash x)
rights_field r [] are = record {
  gives = record {
    written = inl refl;
    each =
        λ side wing. are.each side wing ∙ sym (no_dash side wing);
  };
  free = refl;
  some = λ e. cc;
}
rights_field r (b ∷ x) are = record {
  gives = record { written = inr ((λ e. cc), are.letters, are.distinct); each = are.each };
  free = are.free;
  some = λ e. cc;
}

-- the field of the en passant square
pub record IsEnPassantField (o : Option Place) (x : List ℕ) : Type 0 where
  pub gives : GivesEnPassant x o
  pub free : has_byte 32 x ≡ false
  pub some : x ≢ []

two_free : (a b : ℕ) → 48 ≤ a → 48 ≤ b → has_byte 32 (a ∷ b ∷ []) ≡ false
two_free a b first second =
    or_from (a == 32) (has_byte 32 (b ∷ [])) (other_byte a 32 (omega arith) first)
    (or_from (b == 32) false (other_byte b 32 (omega arith) second) refl)

en_passant_field : (p : Placement) (turn : Side) (o : Option Place)
    → IfSome o (FitsEnPassant p turn) → IsEnPassantField o (en_passant_text o)
en_passant_field p turn None fits = record { gives = refl; free = refl; some = λ e. cc }
en_passant_field p turn (Some s) fits = record {
  gives = (fits.on_board, refl);
  free = two_free (96 + s.file) (48 + s.rank) (omega arith) (omega arith);
  some = λ e. cc;
}

fits_given : (p : Placement) (turn : Side) (o : Option Place) → IfSome o (FitsEnPassant p turn)
    → (s : Place) → o ≡ Some s → FitsEnPassant p turn s
fits_given p turn None fits s e = let clash : None ≡ Some s = e in absurd (cc)
fits_given p turn (Some t) fits s e = let same : t ≡ s = cc in
    subst (FitsEnPassant p turn) same fits

-- ---- the counts

number_append : (k : ℕ) (x : List ℕ) (d : ℕ)
    → number_from k (x ++ d ∷ []) ≡ 10 * number_from k x + (d - 48)
number_append k [] d = refl
number_append k (b ∷ x) d = number_append (10 * k + (b - 48)) x d

all_append : (test : ℕ → Bool) (x y : List ℕ) → list_all test x ≡ true → list_all test y ≡ true
    → list_all test (x ++ y) ≡ true
all_append test [] y first second = second
all_append test (b ∷ x) y first second =
    ap (λ t. t && list_all test (x ++ y)) (and_parts (test b) (list_all test x) first).0
    ∙ all_append test x y (and_parts (test b) (list_all test x) first).1 second

a_digit : (d : ℕ) → d < 10 → is_digit (48 + d) ≡ true
a_digit d h = grind (arith, nat_tests)

-- digits that write the number
abbrev AreDigitsOf : ℕ → List ℕ → Type 0
AreDigitsOf n x = (list_all is_digit x ≡ true) × (number_from 0 x ≡ n)

digits_one : (n : ℕ) → n < 10 → AreDigitsOf n ((48 + n) ∷ [])
digits_one n h = (and_from (is_digit (48 + n)) true (a_digit n h) refl, omega arith)

digits_more : (n : ℕ) (x : List ℕ) → 10 ≤ n → AreDigitsOf (n / 10) x
    → AreDigitsOf n (x ++ (48 + n % 10) ∷ [])
digits_more n x high before =
    let small : n % 10 < 10 = omega arith in
    let value = before.1 in
    let appended = number_append 0 x (48 + n % 10) in (
      all_append is_digit x ((48 + n % 10)
          ∷ []) before.0 (and_from (is_digit (48 + n % 10)) true (a_digit (n % 10) small) refl),
      (let last : 48 + n % 10 - 48 ≡ n % 10 = omega arith in omega arith),
    )

digits_of_decimal : (n : ℕ) → n ≤ 9999999 → AreDigitsOf n (decimal n)
digits_of_decimal n h = decimal_by_steps AreDigitsOf digits_one digits_more n (omega arith)

a_count : (n : ℕ) → n ≤ 9999999 → IsCount (decimal n) n
a_count n h =
    let digits = digits_of_decimal n h in
    let some = decimal_nonempty n (omega arith) in
    let short = length-decimal-le 7 n (omega arith) (omega arith) (omega arith) in
    record { digits = digits.0; short = (omega arith, short); value = sym digits.1 }

digit_no_space : (b : ℕ) → is_digit b ≡ true → (b == 32) ≡ false
digit_no_space b h = grind (arith, nat_tests)

digits_free : (x : List ℕ) → list_all is_digit x ≡ true → has_byte 32 x ≡ false
digits_free [] all = refl
digits_free (b ∷ x) all =
    or_from (b == 32) (has_byte 32 x)
    (digit_no_space b (and_parts (is_digit b) (list_all is_digit x) all).0)
    (digits_free x (and_parts (is_digit b) (list_all is_digit x) all).1)

some_bytes : (x : List ℕ) → 1 ≤ length x → x ≢ []
some_bytes [] low e = omega arith
some_bytes (b ∷ x) low e = cc

-- ---- all together

pub fen_spells : (P : State) (x : List ℕ) → IsSound P → P.halfmove_clock ≤ 9999999
    → P.fullmove_number ≤ 9999999 → IsFen P x → SpellsPosition x P
fen_spells P x sound few small is =
    let men = men_field P.men is.ranks is.spelled in
    let side = side_free P.turn in
    let rights = rights_field P.rights (rights_letters P.rights) (are_letters P.rights) in
    let passed = en_passant_field P.men P.turn P.en_passant sound.en_passant in
    let clock = a_count P.halfmove_clock few in
    let number = a_count P.fullmove_number small in
    record {
      men_field = joined 47 is.ranks;
      side_field = side_text P.turn;
      rights_field = or_dash (rights_letters P.rights);
      en_passant_field = en_passant_text P.en_passant;
      count_fields = decimal P.halfmove_clock ∷ decimal P.fullmove_number ∷ [];
      fields =
          ap fields_of is.text
          ∙ fields_joined (joined 47 is.ranks)
          (side_text P.turn ∷ or_dash (rights_letters P.rights) ∷ en_passant_text P.en_passant
          ∷ decimal P.halfmove_clock ∷ decimal P.fullmove_number ∷ []) (
            men.free,
            (
              side.0,
              (
                rights.free,
                (
                  passed.free,
                  (
                    digits_free (decimal P.halfmove_clock) clock.digits,
                    (digits_free (decimal P.fullmove_number) number.digits, tt),
                  ),
                ),
              ),
            ),
          ) (
            men.some,
            (
              side.1,
              (
                rights.some,
                (
                  passed.some,
                  (
                    some_bytes (decimal P.halfmove_clock) clock.short.0,
                    (some_bytes (decimal P.fullmove_number) number.short.0, tt),
                  ),
                ),
              ),
            ),
          );
      men = record { ranks = men.ranks; on_board = sound.on_board };
      turn = refl;
      given_rights = P.rights;
      rights_given = rights.gives;
      rights = λ side wing. ((λ held. (held, sound.rights side wing held)), (λ both. both.0));
      given_en_passant = P.en_passant;
      en_passant_given = passed.gives;
      en_passant =
          λ s. (
            (λ here. (here, fits_given P.men P.turn P.en_passant sound.en_passant s here)),
            (λ both. both.0),
          );
      counts = (clock, number);
    }

pub fen_reads : (P : State) (x : List ℕ) → IsSound P → P.halfmove_clock ≤ 9999999
    → P.fullmove_number ≤ 9999999 → IsFen P x → ReadsFen x P
fen_reads P x sound few small is = sound_read x P (fen_spells P x sound few small is) sound
