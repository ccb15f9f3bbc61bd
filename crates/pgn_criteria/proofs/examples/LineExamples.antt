-- What the definitions say of lines that every reader can check.
use Rattle.std.proofs.Common.{◌≡◌, ◌≤◌, ◌<◌, ℕ, Bool, true, false, List, [], ◌∷◌, ◌++◌, length}
use Rattle.std.proofs.Common.{get_or, refl, sym, ap, ◌∙◌, inl, inr, arith, codes}
use Rattle.pgn_criteria.proofs.Common.{replicate, parted_at, Kind, King, Queen, Rook, Bishop}
use Rattle.pgn_criteria.proofs.Common.{Knight, Pawn, White, Single, IsResult, SpellsGame}
use Rattle.pgn_criteria.proofs.Common.{SpellsPosition, SpellsMove, SpellsSpan, SpellsCondition}
use Rattle.pgn_criteria.proofs.Common.{AreNames, SpellsCount, CanBeCompared, Spells, SpellsLimits}
use Rattle.pgn_criteria.proofs.Common.{IsLimitIn, IsMoveWord, IsMoveLike, a_word, and_words, IsLine}
use Rattle.pgn_criteria.proofs.Common.{alternatives_of, SpellsTurned, SpellsDigits, Compares}
use Rattle.pgn_criteria.proofs.Common.{limit_of, can_be_mirrored, Less, LessOrEqual, Limit, Exactly}
use Rattle.pgn_criteria.proofs.Common.{AtLeast, AtMost, AnyNumber, Limits, Condition, run_of}
use Rattle.pgn_criteria.proofs.Common.{Conditions, no_conditions, Game, Position, Move, Span, Text}
use Rattle.pgn_criteria.proofs.Common.{Number, Tag, Moves, Plies, Result, PositionCondition}
use Rattle.pgn_criteria.proofs.Common.{PositionClaim, Turn, Check, Mate, Stalemate, Next, Played}
use Rattle.pgn_criteria.proofs.Common.{For, Count, Meaning, Nothing, Or, Asks}
use Rattle.pgn_criteria.specs.Public.Lines.{Accepts}
use Rattle.pgn_criteria.specs.Public.Lines.SpellsLimit.{one, exactly, at_least, at_most, any}
use Rattle.pgn_criteria.specs.declared.compare.Relation.TheVariants.{GreaterOrEqual, Has, Begins}
use Rattle.pgn_criteria.proofs.ClaimFacts.{total, games_are, moves_are, spans_are, claim_not}
use Rattle.pgn_criteria.proofs.ClaimFacts.{taken_either}
use Rattle.pgn_criteria.proofs.ConditionFacts.{line_read, either_read}
use Rattle.pgn_criteria.proofs.laws.OneMeaning.{HasKind, one_kind, kind, condition_kind}
use Rattle.pgn_criteria.proofs.PliesFacts.{for_read}

-- more blanks may stand where one stands
turn : SpellsPosition (codes "turn  white") (Turn White)
turn = (codes "  ", refl, ((λ none. cc), refl))

-- tag A >= "10"
tag : SpellsGame (codes "tag A >= "
    ++ (34 ∷ 49 ∷ 48 ∷ 34 ∷ [])) (Tag (codes "A") (Text GreaterOrEqual (codes "10")))
tag = (
  (
    codes " ",
    codes " ",
    codes " ",
    refl,
    ((λ none. cc), refl),
    ((λ none. cc), refl),
    ((λ none. cc), refl),
    (((λ none. cc), refl), tt),
  ),
  (Single 49 ∷ Single 48 ∷ [], refl, refl),
  (λ is. cc),
)

-- number A <= 27
number : SpellsGame (codes "number A <= 27") (Tag (codes "A") (Number LessOrEqual 27))
number = (
  codes "27",
  (
    codes " ",
    codes " ",
    codes " ",
    refl,
    ((λ none. cc), refl),
    ((λ none. cc), refl),
    ((λ none. cc), refl),
    (((λ none. cc), refl), tt),
  ),
  record { digits = refl; short = (omega arith, omega arith); value = refl },
)

-- ten digits are too many
ten_digits : (count : ℕ) → SpellsDigits 9 (codes "1000000000") count → ⊥
ten_digits count spells = let short : 10 ≤ 9 = spells.short.1 in omega arith

-- tag A begins "C"
tag_begins : SpellsGame (codes "tag A begins "
    ++ (34 ∷ 67 ∷ 34 ∷ [])) (Tag (codes "A") (Text Begins (codes "C")))
tag_begins = (
  (
    codes " ",
    codes " ",
    codes " ",
    refl,
    ((λ none. cc), refl),
    ((λ none. cc), refl),
    ((λ none. cc), refl),
    (((λ none. cc), refl), tt),
  ),
  (Single 67 ∷ [], refl, refl),
  (λ is. cc),
)

-- tag A|B begins "C" names two tags
two_tags : SpellsGame (codes "tag A|B begins "
    ++ (34 ∷ 67 ∷ 34 ∷ [])) (Tag (codes "A|B") (Text Begins (codes "C")))
two_tags = (
  (
    codes " ",
    codes " ",
    codes " ",
    refl,
    ((λ none. cc), refl),
    ((λ none. cc), refl),
    ((λ none. cc), refl),
    (((λ none. cc), refl), (((λ none. cc), refl), tt)),
  ),
  (Single 67 ∷ [], refl, refl),
  (λ is. cc),
)

-- plies <= 50
fifty_plies : SpellsGame (codes "plies <= 50") (Plies LessOrEqual 50)
fifty_plies = (
  codes " ",
  codes " ",
  codes "50",
  refl,
  ((λ none. cc), refl),
  ((λ none. cc), refl),
  record { digits = refl; short = (omega arith, omega arith); value = refl },
)

-- five digits are no number of plies
not_five_digits : (count : ℕ) → SpellsCount (codes "10000") count → ⊥
not_five_digits count spells = let few : 5 ≤ 4 = spells.short.1 in absurd (omega arith)

-- for 40, and count <= 9
for_forty : SpellsSpan (codes "for 40") (For 40)
for_forty = (
  codes "40",
  (codes " ", refl, ((λ none. cc), refl)),
  record { digits = refl; short = (omega arith, omega arith); value = refl },
  omega arith,
)

count_nine : SpellsSpan (codes "count <= 9") (Count LessOrEqual 9)
count_nine = (
  codes " ",
  codes " ",
  codes "9",
  refl,
  ((λ none. cc), refl),
  ((λ none. cc), refl),
  record { digits = refl; short = (omega arith, omega arith); value = refl },
)

-- 0 plies in a row are not asked for
not_for_zero : (count : ℕ) → SpellsSpan (codes "for 0") (For count) → ⊥
not_for_zero count spells =
    let read = for_read (codes "for 0") count spells in
    let zero : count ≡ 0 = read.1.value in
    let some : 1 ≤ count = read.2 in omega (arith, zero, some)

-- for and count are not denied
no_denied_span : (text : List ℕ) (condition : Condition (List ℕ)) → HasKind text 4
    → run_of text ≡ codes "not" → SpellsCondition text condition → ⊥
no_denied_span text (Span claim) of run spells =
    claim_not SpellsSpan spans_are text claim spells run
no_denied_span text condition of run spells =
    let e = one_kind text (kind condition) 4 (condition_kind text condition spells) of in
    absurd (omega arith)

not_denied_for : (condition : Condition (List ℕ)) → SpellsCondition (codes "not for 3") condition
    → ⊥
not_denied_for condition =
    let of : HasKind (codes "not for 3") 4 =
    (false, true, _, codes "for 3", ((λ is. cc), refl), (refl, refl), refl) in
    no_denied_span (codes "not for 3") condition of refl

not_denied_count : (condition : Condition (List ℕ))
    → SpellsCondition (codes "not count = 3") condition → ⊥
not_denied_count condition =
    let of : HasKind (codes "not count = 3") 4 =
    (false, true, _, codes "count = 3", ((λ is. cc), refl), (refl, refl), refl) in
    no_denied_span (codes "not count = 3") condition of refl

-- 51 plies are not at most 50, and 50 are not fewer
fifty_one_not_at_most : Compares LessOrEqual 51 50 → ⊥
fifty_one_not_at_most most = let few : 51 ≤ 50 = most in absurd (omega arith)

fifty_not_fewer : Compares Less 50 50 → ⊥
fifty_not_fewer less = let fewer : 50 < 50 = less in absurd (omega arith)

-- a text of 256 bytes is too long to be contained
too_long_to_contain : CanBeCompared Has (replicate 256 120) → ⊥
too_long_to_contain fits = let short : 256 ≤ 255 = fits refl in absurd (omega arith)

-- each name has a byte
no_last_name : AreNames (parted_at 124 (codes "A|")) → ⊥
no_last_name are = are.1.0.0 refl

-- a king, two pawns or more, at most three knights, any rooks, and no man of the other kinds
abbrev pub limits : Limits
limits = record {
  king = Exactly 1;
  queen = Exactly 0;
  rook = AnyNumber;
  bishop = Exactly 0;
  knight = AtMost 3;
  pawn = AtLeast 2;
}

abbrev pub entries : List (Kind × Limit)
entries = (King, Exactly 1) ∷ (Pawn, AtLeast 2) ∷ (Knight, AtMost 3) ∷ (Rook, AnyNumber)
    ∷ (Bishop, Exactly 0) ∷ []

named : (kind : Kind) → IsLimitIn entries kind (limit_of limits kind)
named King = inl (refl, refl)
named Queen =
    inr ((λ e. cc), inr ((λ e. cc), inr ((λ e. cc), inr ((λ e. cc), inr ((λ e. cc), refl)))))
named Rook = inr ((λ e. cc), inr ((λ e. cc), inr ((λ e. cc), inl (refl, refl))))
named Bishop = inr ((λ e. cc), inr ((λ e. cc), inr ((λ e. cc), inr ((λ e. cc), inl (refl, refl)))))
named Knight = inr ((λ e. cc), inr ((λ e. cc), inl (refl, refl)))
named Pawn = inr ((λ e. cc), inl (refl, refl))

side : SpellsLimits (codes "KP2+N3-R*B0") limits
side = (
  entries,
  (λ none. cc),
  (
    [],
    codes "P2+N3-R*B0",
    refl,
    one,
    (
      codes "2+",
      codes "N3-R*B0",
      refl,
      at_least 2 (omega arith),
      (
        codes "3-",
        codes "R*B0",
        refl,
        at_most 3 (omega arith),
        (codes "*", codes "B0", refl, any, (codes "0", [], refl, exactly 0 (omega arith), refl)),
      ),
    ),
  ),
  refl,
  named,
)

-- words for moves
moves : SpellsGame (codes "moves e4 *") (Moves (codes "e4 *"))
moves = (
  (codes " ", refl, ((λ none. cc), refl)),
  and_words (codes "e4") (codes " ") (codes "*") (inr (omega arith, omega arith, refl))
      ((λ none. cc), refl) (a_word (codes "*") (inl refl)),
)

-- a word for a move has 2 to 7 bytes
two_letters : IsMoveWord (codes "e4")
two_letters = inr (omega arith, omega arith, refl)

seven_letters : IsMoveWord (codes "Nb1xd2e")
seven_letters = inr (omega arith, omega arith, refl)

bytes_of : (word : List ℕ) → IsMoveWord word → (word ≡ codes "*" → ⊥)
    → (2 ≤ length word) × (length word ≤ 7)
bytes_of word (inl star) other = absurd (other star)
bytes_of word (inr (low, high, _)) other = (low, high)

not_one_letter : IsMoveWord (codes "e") → ⊥
not_one_letter is = let few : 2 ≤ 1 = (bytes_of (codes "e") is (λ star. cc)).0 in
    absurd (omega arith)

not_eight_letters : IsMoveWord (codes "Nb1xd2ef") → ⊥
not_eight_letters is = let many : 8 ≤ 7 = (bytes_of (codes "Nb1xd2ef") is (λ star. cc)).1 in
    absurd (omega arith)

-- a word for the move that follows, and for the one before
next_takes : SpellsMove (codes "next *x*") (Next (codes "*x*"))
next_takes = ((codes " ", refl, ((λ none. cc), refl)), (omega arith, omega arith, refl))

played_castling : SpellsMove (codes "played  O-O*") (Played (codes "O-O*"))
played_castling = ((codes "  ", refl, ((λ none. cc), refl)), (omega arith, omega arith, refl))

-- such a word has 1 to 7 bytes, and no mark of check
one_star : IsMoveLike (codes "*")
one_star = (omega arith, omega arith, refl)

seven_bytes : IsMoveLike (codes "Nb1*d2=")
seven_bytes = (omega arith, omega arith, refl)

not_no_byte : IsMoveLike [] → ⊥
not_no_byte is = let some : 1 ≤ 0 = is.0 in absurd (omega arith)

not_eight_bytes : IsMoveLike (codes "********") → ⊥
not_eight_bytes is = let few : 8 ≤ 7 = is.1 in absurd (omega arith)

not_check_sign : IsMoveLike (codes "Nf3+") → ⊥
not_check_sign is = let each : false ≡ true = is.2 in cc

-- two words are none
not_two_words : IsMoveLike (codes "e4 e5") → ⊥
not_two_words is = let each : false ≡ true = is.2 in cc

-- a result
drawn : SpellsGame (codes "result 1/2-1/2") (Result (codes "1/2-1/2"))
drawn = ((codes " ", refl, ((λ none. cc), refl)), inr (inr (inl refl)))

-- half of a draw is none, nor is a text without bytes
not_half : IsResult (codes "1/2") → ⊥
not_half (inl white) = let second : get_or (codes "1/2") 1 0 ≡ 45 = ap (λ x. get_or x 1 0) white in
    omega arith
not_half (inr (inl black)) = let first : get_or (codes "1/2") 0 0 ≡ 48 =
    ap (λ x. get_or x 0 0) black in omega arith
not_half (inr (inr (inl draw))) = let size : length (codes "1/2") ≡ 7 = ap length draw in
    omega arith
not_half (inr (inr (inr star))) = let size : length (codes "1/2") ≡ 1 = ap length star in
    omega arith

not_no_result : IsResult [] → ⊥
not_no_result (inl white) = cc
not_no_result (inr (inl black)) = cc
not_no_result (inr (inr (inl draw))) = cc
not_no_result (inr (inr (inr star))) = cc

-- a claim that is to be so, and one that is denied
abbrev pub so : PositionClaim (List ℕ) → PositionCondition (List ℕ)
so claim = record { is_either = false; is_denied = false; claim = claim }

abbrev pub denied : PositionClaim (List ℕ) → PositionCondition (List ℕ)
denied claim = record { is_either = false; is_denied = true; claim = claim }

not_check : IsLine (codes "not check") (Asks (Position (denied Check)))
not_check = record {
  before = [];
  text = codes "not check";
  after = [];
  last = [];
  whole = refl;
  blank_before = refl;
  blank_after = refl;
  end = inl refl;
  spells = (codes "check", (codes " ", refl, ((λ none. cc), refl)), refl);
}

not_decided : IsLine (codes "not result *")
    (Asks (Game (record { is_denied = true; claim = Result (codes "*") })))
not_decided = record {
  before = [];
  text = codes "not result *";
  after = [];
  last = [];
  whole = refl;
  blank_before = refl;
  blank_after = refl;
  end = inl refl;
  spells = (
    codes "result *",
    (codes " ", refl, ((λ none. cc), refl)),
    ((codes " ", refl, ((λ none. cc), refl)), inr (inr (inr refl))),
  );
}

not_promoted : IsLine (codes "not next *=Q")
    (Asks (Move (record { is_denied = true; claim = Next (codes "*=Q") })))
not_promoted = record {
  before = [];
  text = codes "not next *=Q";
  after = [];
  last = [];
  whole = refl;
  blank_before = refl;
  blank_after = refl;
  end = inl refl;
  spells = (
    codes "next *=Q",
    (codes " ", refl, ((λ none. cc), refl)),
    ((codes " ", refl, ((λ none. cc), refl)), (omega arith, omega arith, refl)),
  );
}

kind_some : (condition : Condition (List ℕ)) → kind condition ≡ 0 → ⊥
kind_some (Span claim) none = cc
kind_some condition none = cc

-- `not` is written once
not_twice : (means : Meaning (List ℕ)) → IsLine (codes "not not check") means → ⊥
not_twice means is = no_meaning means (line_read (codes "not not check") means is)
  where
    of_none : HasKind (codes "not not check") 0
    of_none = (false, true, _, codes "not check", ((λ is. cc), refl), (refl, refl), refl)

    no_meaning : (means : Meaning (List ℕ)) → Spells (codes "not not check") means → ⊥
    no_meaning Nothing (inl none) = cc
    no_meaning Nothing (inr comment) = let first : get_or (codes "not not check") 0 0 ≡ 35 =
        ap (λ x. get_or x 0 0) comment.1 in omega arith
    no_meaning Or or = let short : length (codes "not not check") ≡ 2 = ap length or in omega arith
    no_meaning (Asks condition) spells =
        let text = codes "not not check" in
        let e : kind condition ≡ 0 =
        one_kind text (kind condition) 0 (condition_kind text condition spells) of_none in
        kind_some condition e

-- a line with `either`
either_turn : IsLine (codes "either not turn white")
    (Asks (Position (record { is_either = true; is_denied = true; claim = Turn White })))
either_turn = record {
  before = [];
  text = codes "either not turn white";
  after = [];
  last = [];
  whole = refl;
  blank_before = refl;
  blank_after = refl;
  end = inl refl;
  spells = (
    codes "not turn white",
    (codes " ", refl, ((λ none. cc), refl)),
    refl,
    (
      codes "turn white",
      (codes " ", refl, ((λ none. cc), refl)),
      (codes " ", refl, ((λ none. cc), refl)),
    ),
  );
}

-- check is not seen from the other side
not_either_check : (taken : Bool) (claim : PositionClaim (List ℕ))
    → SpellsTurned (codes "either check") true taken claim → claim ≡ Check → ⊥
not_either_check taken claim spells is =
    let so : false ≡ true = ap (λ (c : PositionClaim (List ℕ)). can_be_mirrored c) (sym is)
    ∙ (either_read (codes "either check") taken claim spells).1 in cc

-- nor is what is on no position
no_either : (text : List ℕ) (condition : Condition (List ℕ)) (of : ℕ) → HasKind text of
    → (of ≡ 2 → ⊥) → run_of text ≡ codes "either" → SpellsCondition text condition → ⊥
no_either text (Position own) of is other run spells =
    other (one_kind text of 2 is (condition_kind text (Position own) spells))
no_either text (Game own) of is other run spells =
    taken_either SpellsGame games_are text own.is_denied own.claim run spells
no_either text (Move own) of is other run spells =
    taken_either SpellsMove moves_are text own.is_denied own.claim run spells
no_either text (Span claim) of is other run spells =
    taken_either SpellsSpan spans_are text false claim run spells

abbrev NoEither : List ℕ → Type 0
NoEither own = (condition : Condition (List ℕ)) → SpellsCondition (codes "either " ++ own) condition
    → ⊥

not_either_next : NoEither (codes "next e4")
not_either_next condition =
    no_either (codes "either next e4") condition 3
    (true, false, codes "next e4", _, (refl, refl), ((λ is. cc), refl), refl) (λ is. cc) refl

not_either_played : NoEither (codes "played e4")
not_either_played condition =
    no_either (codes "either played e4") condition 3
    (true, false, codes "played e4", _, (refl, refl), ((λ is. cc), refl), refl) (λ is. cc) refl

not_either_result : NoEither (codes "result 1-0")
not_either_result condition =
    no_either (codes "either result 1-0") condition 1
    (true, false, codes "result 1-0", _, (refl, refl), ((λ is. cc), refl), refl) (λ is. cc) refl

for_not : run_of (codes "for 3") ≡ codes "not" → ⊥
for_not is = let e : total (run_of (codes "for 3")) ≡ 337 = ap total is in omega (arith, e)

count_not : run_of (codes "count = 3") ≡ codes "not" → ⊥
count_not is = let e : total (run_of (codes "count = 3")) ≡ 337 = ap total is in omega (arith, e)

not_either_for : NoEither (codes "for 3")
not_either_for condition =
    no_either (codes "either for 3") condition 4
    (true, false, codes "for 3", _, (refl, refl), (for_not, refl), refl) (λ is. cc) refl

not_either_count : NoEither (codes "count = 3")
not_either_count condition =
    no_either (codes "either count = 3") condition 4
    (true, false, codes "count = 3", _, (refl, refl), (count_not, refl), refl) (λ is. cc) refl

-- blanks about a line do not count, nor does one carriage return
ended : IsLine (32 ∷ 9 ∷ 99 ∷ 104 ∷ 101 ∷ 99 ∷ 107 ∷ 32 ∷ 13 ∷ []) (Asks (Position (so Check)))
ended = record {
  before = 32 ∷ 9 ∷ [];
  text = codes "check";
  after = codes " ";
  last = 13 ∷ [];
  whole = refl;
  blank_before = refl;
  blank_after = refl;
  end = inr refl;
  spells = refl;
}

comment : IsLine (codes "  # x") Nothing
comment = record {
  before = codes "  ";
  text = codes "# x";
  after = [];
  last = [];
  whole = refl;
  blank_before = refl;
  blank_after = refl;
  end = inl refl;
  spells = inr (codes " x", refl);
}

-- there is one alternative more than there are lines `or`
no_lines : alternatives_of [] ≡ no_conditions ∷ []
no_lines = refl

two_or : alternatives_of (Or ∷ Or ∷ []) ≡ no_conditions ∷ no_conditions ∷ no_conditions ∷ []
two_or = refl

-- those on positions alone
abbrev at_positions : List (PositionCondition (List ℕ)) → Conditions
at_positions conditions = record { games = []; positions = conditions; moves = []; spans = [] }

in_order :
    alternatives_of (Asks (Position (so Check)) ∷ Or ∷ Asks (Position (denied Mate)) ∷ Nothing
    ∷ Asks (Position (so Stalemate)) ∷ [])
    ≡ at_positions (so Check ∷ []) ∷ at_positions (denied Mate ∷ so Stalemate ∷ []) ∷ []
in_order = refl

-- a text without bytes has one line, which is empty, and spells one alternative without conditions
no_bytes : Accepts [] (no_conditions ∷ [])
no_bytes = (omega arith, (Nothing ∷ [], (Nothing, [], refl, empty, refl), refl))
  where
    empty : IsLine [] Nothing
    empty = record {
      before = [];
      text = [];
      after = [];
      last = [];
      whole = refl;
      blank_before = refl;
      blank_after = refl;
      end = inl refl;
      spells = inl refl;
    }

-- a line feed at the end begins a last line, which is empty
two_lines : parted_at 10 (97 ∷ 10 ∷ []) ≡ (97 ∷ []) ∷ [] ∷ []
two_lines = refl
