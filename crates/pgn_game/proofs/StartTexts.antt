-- The text of the position from which a game starts: there is one, it holds no space, and no other
-- position has it.
use Rattle.std.specs.Prelude.{Option, Some, None, Result, Ok, Err, is_ok}
use Rattle.pgn_game.proofs.Common.{◌≡◌, ◌≢◌, suc, ◌+◌, ◌-◌, ◌*◌, ◌≤◌, [], ◌∷◌, map, refl, sym, ap}
use Rattle.pgn_game.proofs.Common.{◌∙◌, ℕ, Bool, true, false, List, ◌++◌, length, subst, arith}
use Rattle.pgn_game.proofs.Common.{length-append, nat_tests, and_parts, bytes_eq-Decides, ◌==◌}
use Rattle.pgn_game.proofs.Common.{if◌then◌else◌, bytes_eq, codes, decimal, OnOk, list_all, Place}
use Rattle.pgn_game.proofs.Common.{Placement, State, IsSound, initial, IsFen, Man, Kind, Side}
use Rattle.pgn_game.proofs.Common.{White, Black, one_spelling, initial_kept, initial_fen, IsStart}
use Rattle.pgn_game.proofs.Common.{unspaced, IsStartText, as_initial, as_fen, kind_letter}
use Rattle.chess.specs.Public.Positions.{FitsEnPassant}
use Rattle.chess.specs.Public.Letters.{man_letter}
use Rattle.chess.specs.Public.Fen.{IsSquares, SpellsRank, SpellRanks, row, side_text, is_digit}
use Rattle.chess.specs.Public.Fen.{number_from, IsCount, GiveCounts, joined, or_dash}
use Rattle.chess.specs.Public.Fen.{rights_letters, en_passant_text}
use Rattle.chess.specs.Public.Fen.IsSquares.{letter, step}
use Rattle.chess.specs.declared.board.man.CastlingRights.{CastlingRights}
use Rattle.chess.proofs.FenOneText.{one_fen, some_fen}
use Rattle.chess.proofs.FenReadBack.{fen_spells}
use Rattle.chess.proofs.SoundRead.{read_sound}
use Rattle.chess.proofs.examples.StartText.{initial_has_fen}
use Rattle.pgn_game.proofs.PlainTokens.{AllOf, all_append, AreDigits, decimal_digits, kind_high}

-- ---- a position that FEN may give: its text is read back

pub record IsReadBack (P : State) : Type 0 where
  pub sound : IsSound P
  pub clock : P.halfmove_clock ≤ 9999999
  pub number : P.fullmove_number ≤ 9999999

-- the largest number that so many digits make after one that is no larger than this
abbrev largest : ℕ → List ℕ → ℕ
largest bound [] = bound
largest bound (d ∷ x) = largest (10 * bound + 9) x

digit_small : (b : ℕ) → is_digit b ≡ true → b ≤ 57
digit_small b is = grind (arith, nat_tests)

at_most : (x : List ℕ) (n bound : ℕ) → list_all is_digit x ≡ true → n ≤ bound
    → number_from n x ≤ largest bound x
at_most [] n bound digits low = low
at_most (d ∷ x) n bound digits low =
    let both = and_parts (is_digit d) (list_all is_digit x) digits in
    let small = digit_small d both.0 in
    at_most x (10 * n + (d - 48)) (10 * bound + 9) both.1 (omega arith)

seven : (x : List ℕ) → length x ≤ 7 → largest 0 x ≤ 9999999
seven [] short = omega arith
seven (a ∷ []) short = omega arith
seven (a ∷ b ∷ []) short = omega arith
seven (a ∷ b ∷ c ∷ []) short = omega arith
seven (a ∷ b ∷ c ∷ d ∷ []) short = omega arith
seven (a ∷ b ∷ c ∷ d ∷ e ∷ []) short = omega arith
seven (a ∷ b ∷ c ∷ d ∷ e ∷ f ∷ []) short = omega arith
seven (a ∷ b ∷ c ∷ d ∷ e ∷ f ∷ g ∷ []) short = omega arith
seven (a ∷ b ∷ c ∷ d ∷ e ∷ f ∷ g ∷ h ∷ x) short = absurd (omega arith)

few : (x : List ℕ) (n : ℕ) → IsCount x n → n ≤ 9999999
few x n is =
    let bound = at_most x 0 0 is.digits (omega arith) in
    let small = seven x is.short.1 in
    let value = is.value in
    omega arith

few_both : (fields : List (List ℕ)) (clock number : ℕ) → GiveCounts fields clock number
    → (clock ≤ 9999999) × (number ≤ 9999999)
few_both [] clock number given = (let a = given.0 in omega arith, let b = given.1 in omega arith)
few_both (x ∷ []) clock number given = (few x clock given.0, (let b = given.1 in omega arith))
few_both (x ∷ y ∷ []) clock number given = (few x clock given.0, few y number given.1)
few_both (x ∷ y ∷ z ∷ more) clock number given = absurd given

pub start_read_back : (fen : Option (List ℕ)) (P : State) → IsStart fen P → IsReadBack P
start_read_back None P is =
    subst IsReadBack (sym is) record {
      sound = initial_kept.sound;
      clock = omega arith;
      number = omega arith;
    }
start_read_back (Some contents) P (value, given, reads) =
    let counts =
    few_both reads.spells.count_fields P.halfmove_clock P.fullmove_number reads.spells.counts in
    record { sound = read_sound value P reads; clock = counts.0; number = counts.1 }

-- such a position is the only one with its text
pub same_fen : (P Q : State) (x : List ℕ) → IsReadBack P → IsReadBack Q → IsFen P x → IsFen Q x
    → P ≡ Q
same_fen P Q x p q is also =
    one_spelling x P Q (fen_spells P x p.sound p.clock p.number is)
    (fen_spells Q x q.sound q.clock q.number also)

initial_read_back : IsReadBack initial
initial_read_back = start_read_back None initial refl

pub initial_by_fen : (P : State) (x : List ℕ) → IsReadBack P → IsFen P x → x ≡ initial_fen
    → P ≡ initial
initial_by_fen P x p is same =
    same_fen P initial initial_fen p initial_read_back (subst (IsFen P) same is) initial_has_fen

pub not_initial_by_fen : (P : State) (x : List ℕ) → IsFen P x → x ≢ initial_fen → P ≢ initial
not_initial_by_fen P x is other same =
    other (one_fen initial x initial_fen (subst (λ s. IsFen s x) same is) initial_has_fen)

-- ---- so a start has one text

pub some_start_text : (P : State) → IsReadBack P → (text : List ℕ) × IsStartText P text
some_start_text P p =
    let fen = some_fen P in
    by fen.0 fen.1 (bytes_eq fen.0 initial_fen) refl
  where
    by : (x : List ℕ) → IsFen P x → (same : Bool) → bytes_eq x initial_fen ≡ same
        → (text : List ℕ) × IsStartText P text
    by x is true same = (
      codes "-",
      as_initial (initial_by_fen P x p is ((bytes_eq-Decides x initial_fen).0 same)) refl,
    )
    by x is false other = (
      map unspaced x,
      as_fen (not_initial_by_fen P x is (λ same. let no : bytes_eq x initial_fen ≡ true =
          (bytes_eq-Decides x initial_fen).1 same in absurd (cc))) x is refl,
    )

pub one_start_text : (P : State) (x y : List ℕ) → IsStartText P x → IsStartText P y → x ≡ y
one_start_text P x y (as_initial is a) (as_initial also b) = a ∙ sym b
one_start_text P x y (as_initial is a) (as_fen other fen spells b) = absurd (other is)
one_start_text P x y (as_fen other fen spells a) (as_initial is b) = absurd (other is)
one_start_text P x y (as_fen other fen spells a) (as_fen others more also b) =
    a ∙ ap (map unspaced) (one_fen P fen more spells also) ∙ sym b

-- ---- the bytes of the text of a position: no `_`, and none that has to be escaped in a string

pub record IsFenByte (b : ℕ) : Type 0 where
  pub low : 32 ≤ b
  pub high : b ≤ 126
  pub quote : b ≢ 34
  pub comma : b ≢ 44
  pub backslash : b ≢ 92
  pub lined : b ≢ 95

abbrev AreFenBytes : List ℕ → Type 0
AreFenBytes x = AllOf IsFenByte x

-- digits and capital letters, and small letters
capital : (b : ℕ) → 45 ≤ b → b ≤ 90 → IsFenByte b
capital b least most = record {
  low = omega arith;
  high = omega arith;
  quote = omega arith;
  comma = omega arith;
  backslash = omega arith;
  lined = omega arith;
}

small : (b : ℕ) → 97 ≤ b → b ≤ 122 → IsFenByte b
small b least most = record {
  low = omega arith;
  high = omega arith;
  quote = omega arith;
  comma = omega arith;
  backslash = omega arith;
  lined = omega arith;
}

blank : IsFenByte 32
blank = record {
  low = omega arith;
  high = omega arith;
  quote = omega arith;
  comma = omega arith;
  backslash = omega arith;
  lined = omega arith;
}

joined_bytes : (separator : ℕ) → IsFenByte separator → (xs : List (List ℕ)) → AllOf AreFenBytes xs
    → AreFenBytes (joined separator xs)
joined_bytes separator own [] all = record {}
joined_bytes separator own (x ∷ []) all = all.0
joined_bytes separator own (x ∷ y ∷ more) all =
    all_append IsFenByte x (separator ∷ joined separator (y ∷ more)) all.0 (
      own,
      joined_bytes separator own (y ∷ more) all.1,
    )

man_byte : (side : Side) (kind : Kind)
    → IsFenByte (man_letter (record { side = side; kind = kind }))
man_byte White kind =
    let (low, high) = kind_high kind in capital (kind_letter kind) (omega arith) (omega arith)
man_byte Black kind =
    let (low, high) = kind_high kind in small (kind_letter kind + 32) (omega arith) (omega arith)

squares_byte : (b : ℕ) (squares : List (Option Man)) → IsSquares b squares → IsFenByte b
squares_byte b squares (letter man) = man_byte man.side man.kind
squares_byte b squares (step n low high) = capital (48 + n) (omega arith) (omega arith)

rank_bytes : (x : List ℕ) (squares : List (Option Man)) → SpellsRank x squares → AreFenBytes x
rank_bytes [] squares spells = record {}
rank_bytes (b ∷ x) squares (own, more, parted, is, rest) =
    (squares_byte b own is, rank_bytes x more rest)

ranks_bytes : (p : Placement) (n : ℕ) (xs : List (List ℕ)) → SpellRanks p n xs
    → AllOf AreFenBytes xs
ranks_bytes p n [] spells = record {}
ranks_bytes p n (x ∷ more) spells =
    (rank_bytes x (row p n) spells.1, ranks_bytes p (n - 1) more spells.2)

side_bytes : (side : Side) → AreFenBytes (side_text side)
side_bytes White = (small 119 (omega arith) (omega arith), record {})
side_bytes Black = (small 98 (omega arith) (omega arith), record {})

bytes_if : (held : Bool) (b : ℕ) → IsFenByte b → AreFenBytes (if held then b ∷ [] else [])
bytes_if true b own = (own, record {})
bytes_if false b own = record {}

bytes_or_dash : (x : List ℕ) → AreFenBytes x → AreFenBytes (or_dash x)
bytes_or_dash [] all = (capital 45 (omega arith) (omega arith), record {})
bytes_or_dash (b ∷ x) all = all

rights_bytes : (r : CastlingRights) → AreFenBytes (or_dash (rights_letters r))
rights_bytes r =
    bytes_or_dash (rights_letters r)
    (all_append IsFenByte (if r.white_king_side then 75 ∷ []
    else []) _ (bytes_if r.white_king_side 75 (capital 75 (omega arith) (omega arith)))
    (all_append IsFenByte (if r.white_queen_side then 81 ∷ []
    else []) _ (bytes_if r.white_queen_side 81 (capital 81 (omega arith) (omega arith)))
    (all_append IsFenByte (if r.black_king_side then 107 ∷ []
    else []) _ (bytes_if r.black_king_side 107 (small 107 (omega arith) (omega arith)))
    (bytes_if r.black_queen_side 113 (small 113 (omega arith) (omega arith))))))

passed_bytes : (P : State) (passed : Option Place) → (P.en_passant ≡ passed) → IsSound P
    → AreFenBytes (en_passant_text passed)
passed_bytes P None is sound = (capital 45 (omega arith) (omega arith), record {})
passed_bytes P (Some s) is sound =
    let fits : FitsEnPassant P.men P.turn s = rw is at sound.en_passant in
    let a = fits.on_board.file_low in let b = fits.on_board.file_high in
    let c = fits.on_board.rank_low in let d = fits.on_board.rank_high in (
      small (96 + s.file) (omega arith) (omega arith),
      (capital (48 + s.rank) (omega arith) (omega arith), record {}),
    )

digits_bytes : (x : List ℕ) → AreDigits x → AreFenBytes x
digits_bytes [] all = record {}
digits_bytes (b ∷ x) all =
    let low = all.0.0 in let high = all.0.1 in
    (capital b (omega arith) (omega arith), digits_bytes x all.1)

pub fen_bytes : (P : State) (x : List ℕ) → IsSound P → IsFen P x → AreFenBytes x
fen_bytes P x sound is =
    let fields : List (List ℕ) =
    joined 47 is.ranks ∷ side_text P.turn ∷ or_dash (rights_letters P.rights)
    ∷ en_passant_text P.en_passant ∷ decimal P.halfmove_clock ∷ decimal P.fullmove_number ∷ []
    in
    let all : AllOf AreFenBytes fields = (
      joined_bytes 47 (capital 47 (omega arith) (omega arith)) is.ranks
          (ranks_bytes P.men 8 is.ranks is.spelled),
      (
        side_bytes P.turn,
        (
          rights_bytes P.rights,
          (
            passed_bytes P P.en_passant refl sound,
            (
              digits_bytes (decimal P.halfmove_clock) (decimal_digits P.halfmove_clock),
              (
                digits_bytes (decimal P.fullmove_number) (decimal_digits P.fullmove_number),
                record {},
              ),
            ),
          ),
        ),
      ),
    ) in
    subst AreFenBytes (sym is.text) (joined_bytes 32 blank fields all)

-- so it is found again when its spaces are
unspaced_once : (a b : ℕ) → IsFenByte a → IsFenByte b → unspaced a ≡ unspaced b → a ≡ b
unspaced_once a b free also same = by (a == 32) (b == 32) refl refl same
  where
    by : (c d : Bool) → (a == 32) ≡ c → (b == 32) ≡ d
        → (if c then 95 else a) ≡ (if d then 95 else b) → a ≡ b
    by true true x y same = grind (arith, nat_tests)
    by true false x y same = absurd (also.lined (sym same))
    by false true x y same = absurd (free.lined same)
    by false false x y same = same

texts_once : (x y : List ℕ) → AreFenBytes x → AreFenBytes y → map unspaced x ≡ map unspaced y
    → x ≡ y
texts_once [] [] free also same = refl
texts_once [] (b ∷ y) free also same = absurd (cc)
texts_once (a ∷ x) [] free also same = absurd (cc)
texts_once (a ∷ x) (b ∷ y) free also same =
    let first : unspaced a ≡ unspaced b = cc in
    let rest : map unspaced x ≡ map unspaced y = cc in
    let heads : a ≡ b = unspaced_once a b free.0 also.0 first in
    let tails : x ≡ y = texts_once x y free.1 also.1 rest in
    cc

-- a text in FEN is no dash
length_map : (x : List ℕ) → length (map unspaced x) ≡ length x
length_map [] = refl
length_map (b ∷ x) = ap suc (length_map x)

fen_is_long : (P : State) (x : List ℕ) → IsFen P x → 2 ≤ length x
fen_is_long P x is =
    let men = joined 47 is.ranks in
    let later =
    joined 32 (or_dash (rights_letters P.rights) ∷ en_passant_text P.en_passant
    ∷ decimal P.halfmove_clock ∷ decimal P.fullmove_number ∷ []) in
    let size = ap length is.text in
    let a = length-append men (32 ∷ (side_text P.turn ++ 32 ∷ later)) in
    let b = length-append (side_text P.turn) (32 ∷ later) in
    omega arith

no_dash : (P : State) (x : List ℕ) → IsFen P x → codes "-" ≡ map unspaced x → ⊥
no_dash P x is same = let a = ap length same in let b = length_map x in let c =
    fen_is_long P x is in omega arith

pub same_start : (P Q : State) (x : List ℕ) → IsReadBack P → IsReadBack Q → IsStartText P x
    → IsStartText Q x → P ≡ Q
same_start P Q x p q (as_initial is a) (as_initial also b) = is ∙ sym also
same_start P Q x p q (as_initial is a) (as_fen other fen spells b) =
    absurd (no_dash Q fen spells (sym a ∙ b))
same_start P Q x p q (as_fen other fen spells a) (as_initial is b) =
    absurd (no_dash P fen spells (sym b ∙ a))
same_start P Q x p q (as_fen other fen spells a) (as_fen others more also b) =
    let same : fen ≡ more =
    texts_once fen more (fen_bytes P fen p.sound spells) (fen_bytes Q more q.sound also) (sym a
    ∙ b) in
    same_fen P Q more p q (subst (IsFen P) same spells) also

-- ---- and no space stands in the text of a start

abbrev pub IsUnspaced : List ℕ → Type 0
IsUnspaced x = AllOf (λ b. b ≢ 32) x

unspaced_byte : (b : ℕ) → unspaced b ≢ 32
unspaced_byte b same = by (b == 32) refl same
  where
    by : (c : Bool) → (b == 32) ≡ c → (if c then 95 else b) ≡ 32 → ⊥
    by true x same = omega arith
    by false x same = let is : (b == 32) ≡ true = ap (λ n. n == 32) same in absurd (cc)

unspaced_all : (x : List ℕ) → IsUnspaced (map unspaced x)
unspaced_all [] = record {}
unspaced_all (b ∷ x) = (unspaced_byte b, unspaced_all x)

pub start_unspaced : (P : State) (x : List ℕ) → IsStartText P x → IsUnspaced x
start_unspaced P x (as_initial is a) = subst IsUnspaced (sym a) (omega arith, record {})
start_unspaced P x (as_fen other fen spells a) = subst IsUnspaced (sym a) (unspaced_all fen)

-- ---- bytes that are appended where memory is not refused

pub on_ok_if : {T E : Type 0} (result : Result T E) (x y z : List ℕ)
    → x ≡ (if is_ok result then y else z) → OnOk result (x ≡ y)
on_ok_if (Ok value) x y z is = is
on_ok_if (Err error) x y z is = record {}
