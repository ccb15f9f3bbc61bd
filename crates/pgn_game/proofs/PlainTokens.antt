-- A token of a movetext is words with one space between each two. No word begins an escape or is
-- the word of an event line, and none holds
-- a space or a line feed.
use Rattle.std.specs.Prelude.{Option, Some, None, nat_lt}
use Rattle.std.specs.Fmt.{digit_glyph, digits_onto, digits}
use Rattle.pgn_game.proofs.Common.{◌≡◌, ◌≢◌, ◌⊎◌, ℕ, zero, suc, ◌+◌, ◌%◌, ◌/◌, ◌<◌, ◌≤◌, Bool, true}
use Rattle.pgn_game.proofs.Common.{false, List, [], ◌∷◌, ◌++◌, map, refl, sym, ap, ◌∙◌, subst, inl}
use Rattle.pgn_game.proofs.Common.{inr, append_assoc, append-nil, arith, nat_tests, ◌==◌, not, ◌||◌}
use Rattle.pgn_game.proofs.Common.{if◌then◌else◌, bytes_eq, filter, codes, decimal, kind_letter}
use Rattle.pgn_game.proofs.Common.{square_text, after, State, promotion_text, Kind, King, Queen}
use Rattle.pgn_game.proofs.Common.{Rook, Bishop, Knight, Pawn, Side, White, Black, Wing, KingSide}
use Rattle.pgn_game.proofs.Common.{QueenSide, Move, Item, IsResult, is_white, is_empty, begins}
use Rattle.pgn_game.proofs.Common.{Line, LineEnd, ThenMove, ThenGlyph, ThenComment, ThenVariation}
use Rattle.pgn_game.proofs.Common.{after_turn, in_first, cut_at_white, words_in, unbraced}
use Rattle.pgn_game.proofs.Common.{later_word, closed, braced, ties, in_front, tied, comment_tokens}
use Rattle.pgn_game.proofs.Common.{number_tokens, IsTurnText, kept, AreTokens, AreMovetextTokens}
use Rattle.pgn_game.proofs.Common.{joined, Style, LineMove, Played, Passed}
use Rattle.pgn_game.proofs.Common.{shows, shown_tokens, without_commands, Commands, InWords, Whole}
use Rattle.pgn_game.proofs.Common.{LeftOut}
use Rattle.chess.specs.Public.San.{castling_text, capture_text, is_capture, pawn_text}
use Rattle.chess.specs.Public.San.{IsDisambiguation, alone, by_file, by_rank, by_both, IsPieceText}
use Rattle.chess.specs.Public.San.{IsBody, IsCheckSign, mate, check, quiet}

-- each element has the property
abbrev pub AllOf : {X : Type 0} → (X → Type 0) → List X → Type 0
AllOf P [] = Unit {0}
AllOf P (x ∷ xs) = P x × AllOf P xs

pub all_append : {X : Type 0} (P : X → Type 0) (xs ys : List X) → AllOf P xs → AllOf P ys
    → AllOf P (xs ++ ys)
all_append P [] ys a b = b
all_append P (x ∷ xs) ys (first, a) b = (first, all_append P xs ys a b)

pub all_front : {X : Type 0} (P : X → Type 0) (xs ys : List X) → AllOf P (xs ++ ys) → AllOf P xs
all_front P [] ys all = record {}
all_front P (x ∷ xs) ys all = (all.0, all_front P xs ys all.1)

pub all_back : {X : Type 0} (P : X → Type 0) (xs ys : List X) → AllOf P (xs ++ ys) → AllOf P ys
all_back P [] ys all = all
all_back P (x ∷ xs) ys all = all_back P xs ys all.1

-- a byte that is no space and ends no line
abbrev pub IsInk : ℕ → Type 0
IsInk b = (b ≢ 10) × (b ≢ 32)

abbrev pub IsSolid : List ℕ → Type 0
IsSolid bytes = AllOf IsInk bytes

-- the first byte is none that begins an escape or an event line
abbrev pub BeginsPlain : List ℕ → Type 0
BeginsPlain [] = Unit {0}
BeginsPlain (b ∷ bytes) = (b ≢ 37) × (b ≢ 91)

abbrev pub IsPlain : List ℕ → Type 0
IsPlain token = IsSolid token × BeginsPlain token

-- the token may begin a line
pub record MayBegin (token : List ℕ) : Type 0 where
  pub solid : IsSolid token
  pub no_escape : (more : List ℕ) → token ≡ 37 ∷ more → ⊥
  pub no_event : token ≢ codes "[Event"

abbrev pub AllMayBegin : List (List ℕ) → Type 0
AllMayBegin tokens = AllOf MayBegin tokens

-- the token is words with one space between each two, each of which may begin a line
pub record MayStand (token : List ℕ) : Type 0 where
  pub first : List ℕ
  pub more : List (List ℕ)
  pub whole : token ≡ joined (first ∷ more)
  pub may : AllMayBegin (first ∷ more)

abbrev pub AllMayStand : List (List ℕ) → Type 0
AllMayStand tokens = AllOf MayStand tokens

pub may_alone : (token : List ℕ) → MayBegin token → MayStand token
may_alone token may = record { first = token; more = []; whole = refl; may = (may, record {}) }

all_alone : (tokens : List (List ℕ)) → AllMayBegin tokens → AllMayStand tokens
all_alone [] all = all
all_alone (token ∷ tokens) all = (may_alone token all.0, all_alone tokens all.1)

joined_both : (first : List ℕ) (more : List (List ℕ)) (next : List ℕ) (rest : List (List ℕ))
    → joined (first ∷ more) ++ 32 ∷ joined (next ∷ rest) ≡ joined (first ∷ (more ++ next ∷ rest))
joined_both first [] next rest = refl
joined_both first (word ∷ more) next rest =
    append_assoc first (32 ∷ joined (word ∷ more)) (32 ∷ joined (next ∷ rest))
    ∙ ap (λ text. first ++ 32 ∷ text) (joined_both word more next rest)

pub may_both : (token next : List ℕ) → MayStand token → MayStand next
    → MayStand (token ++ 32 ∷ next)
may_both token next one other = record {
  first = one.first;
  more = one.more ++ other.first ∷ other.more;
  whole =
      ap (λ text. text ++ 32 ∷ next) one.whole
      ∙ ap (λ text. joined (one.first ∷ one.more) ++ 32 ∷ text) other.whole
      ∙ joined_both one.first one.more other.first other.more;
  may = all_append MayBegin (one.first ∷ one.more) (other.first ∷ other.more) one.may other.may;
}

before_may : (tie : Bool) (token : List ℕ) (tokens : List (List ℕ)) → MayStand token
    → AllMayStand tokens → AllMayStand (in_front tie token tokens)
before_may tie token [] may all = (may, record {})
before_may true token (next ∷ more) may all = (may_both token next may all.0, all.1)
before_may false token (next ∷ more) may all = (may, all)

tied_may : (flags : List Bool) (tokens : List (List ℕ)) → AllMayStand tokens
    → AllMayStand (tied flags tokens)
tied_may [] tokens all = all
tied_may (tie ∷ flags) [] all = all
tied_may (tie ∷ flags) (token ∷ tokens) all =
    before_may tie token (tied flags tokens) all.0 (tied_may flags tokens all.1)

plain_may : (token : List ℕ) → IsPlain token → MayBegin token
plain_may [] plain =
    record { solid = plain.0; no_escape = λ more is. absurd (cc); no_event = λ is. absurd (cc) }
plain_may (b ∷ bytes) plain = record {
  solid = plain.0;
  no_escape = λ more is. plain.1.0 (cc);
  no_event = λ is. let first : b ≡ 91 = cc in plain.1.1 first;
}

ink : (b : ℕ) → 32 < b → IsInk b
ink b above = (omega arith, omega arith)

plain_append : (front back : List ℕ) → IsPlain front → IsPlain back → IsPlain (front ++ back)
plain_append [] back a b = b
plain_append (c ∷ front) back a b = (all_append IsInk (c ∷ front) back a.0 b.0, a.1)

plain_if : (test : Bool) (front back : List ℕ) → IsPlain front → IsPlain back
    → IsPlain (if test then front else back)
plain_if true front back a b = a
plain_if false front back a b = b

-- ---- numbers

abbrev pub AreDigits : List ℕ → Type 0
AreDigits bytes = AllOf (λ b. (48 ≤ b) × (b ≤ 57)) bytes

digit : (n : ℕ) → (48 ≤ digit_glyph false (n % 10)) × (digit_glyph false (n % 10) ≤ 57)
digit n = let small : n % 10 < 10 = omega arith in
    by (nat_lt (n % 10) 10) (grind (arith, nat_tests)) small
  where
    by : (b : Bool) → b ≡ true → n % 10 < 10 → (48 ≤ (if b then 48 + n % 10 else 87 + n % 10))
        × ((if b then 48 + n % 10 else 87 + n % 10) ≤ 57)
    by true e small = (omega arith, omega arith)
    by false e small = absurd (cc)

onto_digits : (k n : ℕ) (after : List ℕ) → AreDigits after
    → AreDigits (digits_onto k 10 false n after)
onto_digits zero n after a = a
onto_digits (suc k) n after a =
    by (n / 10 == 0) (
      digit n,
      a,
    ) (onto_digits k (n / 10) (digit_glyph false (n % 10) ∷ after) (digit n, a))
  where
    by : (last : Bool) → AreDigits (digit_glyph false (n % 10) ∷ after)
        → AreDigits (digits_onto k 10 false (n / 10) (digit_glyph false (n % 10) ∷ after))
        → AreDigits (if last then digit_glyph false (n % 10) ∷ after
        else digits_onto k 10 false (n / 10) (digit_glyph false (n % 10) ∷ after))
    by true a b = a
    by false a b = b

pub decimal_digits : (n : ℕ) → AreDigits (decimal n)
unfolding digits
decimal_digits n = onto_digits 64 n [] (record {})

digits_plain : (bytes : List ℕ) → AreDigits bytes → IsPlain bytes
digits_plain [] a = (record {}, record {})
digits_plain (b ∷ bytes) a = let above = a.0.0 in let below = a.0.1 in
    ((ink b (omega arith), (digits_plain bytes a.1).0), (omega arith, omega arith))

number_may : (side : Side) (number : ℕ) (apart : Bool)
    → AllMayBegin (number_tokens side number apart)
number_may White number apart = (
  plain_may (decimal number ++ codes ".")
      (plain_append (decimal number) (codes ".")
      (digits_plain (decimal number) (decimal_digits number)) (
        (ink 46 (omega arith), record {}),
        (omega arith, omega arith),
      )),
  record {},
)
number_may Black number true =
    let dot : IsInk 46 = ink 46 (omega arith) in (
      plain_may (decimal number ++ codes "...")
          (plain_append (decimal number) (codes "...")
          (digits_plain (decimal number) (decimal_digits number)) (
            (dot, (dot, (dot, record {}))),
            (omega arith, omega arith),
          )),
      record {},
    )
number_may Black number false = record {}

glyph_may : (number : ℕ) → MayBegin (36 ∷ decimal number)
glyph_may number =
    plain_may (36 ∷ decimal number) (
      (ink 36 (omega arith), (digits_plain (decimal number) (decimal_digits number)).0),
      (omega arith, omega arith),
    )

-- ---- texts of moves

pub kind_high : (kind : Kind) → (64 < kind_letter kind) × (kind_letter kind < 91)
kind_high King = (omega arith, omega arith)
kind_high _ = (omega arith, omega arith)

empty_plain : IsPlain []
empty_plain = (record {}, record {})

square_plain : (m : Move) → IsPlain (square_text m.to)
square_plain m = (
  (ink (96 + m.to.file) (omega arith), (ink (48 + m.to.rank) (omega arith), record {})),
  (omega arith, omega arith),
)

castling_plain : (wing : Wing) → IsPlain (castling_text wing)
castling_plain KingSide =
    let letter : IsInk 79 = ink 79 (omega arith) in
    let dash : IsInk 45 = ink 45 (omega arith) in
    ((letter, (dash, (letter, record {}))), (omega arith, omega arith))
castling_plain QueenSide =
    let letter : IsInk 79 = ink 79 (omega arith) in
    let dash : IsInk 45 = ink 45 (omega arith) in
    ((letter, (dash, (letter, (dash, (letter, record {}))))), (omega arith, omega arith))

promotion_plain : (promote : Option Kind) → IsPlain (promotion_text true promote)
promotion_plain None = empty_plain
promotion_plain (Some kind) = let high = kind_high kind in (
  (ink 61 (omega arith), (ink (kind_letter kind) (omega arith), record {})),
  (omega arith, omega arith),
)

capture_solid : (now : State) (m : Move) → IsSolid (capture_text now m)
capture_solid now m =
    (plain_if (is_capture now m) (120 ∷ []) [] (
      (ink 120 (omega arith), record {}),
      (omega arith, omega arith),
    ) empty_plain).0

pawn_plain : (now : State) (m : Move) → IsPlain (pawn_text now m)
pawn_plain now m =
    plain_append (if is_capture now m then (96 + m.from.file) ∷ 120 ∷ []
    else []) (square_text m.to ++ promotion_text true m.promote)
    (plain_if (is_capture now m) ((96 + m.from.file) ∷ 120 ∷ []) [] (
      (ink (96 + m.from.file) (omega arith), (ink 120 (omega arith), record {})),
      (omega arith, omega arith),
    ) empty_plain)
    (plain_append (square_text m.to) (promotion_text true m.promote) (square_plain m)
    (promotion_plain m.promote))

origin_solid : (now : State) (m : Move) (origin : List ℕ) → IsDisambiguation now m origin
    → IsSolid origin
origin_solid now m origin (alone none) = record {}
origin_solid now m origin (by_file some none) = (ink (96 + m.from.file) (omega arith), record {})
origin_solid now m origin (by_rank some none) = (ink (48 + m.from.rank) (omega arith), record {})
origin_solid now m origin (by_both some more) =
    (ink (96 + m.from.file) (omega arith), (ink (48 + m.from.rank) (omega arith), record {}))

piece_plain : (now : State) (m : Move) (kind : Kind) (text : List ℕ) → IsPieceText now m kind text
    → IsPlain text
piece_plain now m kind text (origin, says, is) =
    let high = kind_high kind in
    subst IsPlain (sym is) (
      (
        ink (kind_letter kind) (omega arith),
        all_append IsInk origin (capture_text now m
            ++ square_text m.to) (origin_solid now m origin says)
            (all_append IsInk (capture_text now m) (square_text m.to) (capture_solid now m)
            (square_plain m).0),
      ),
      (omega arith, omega arith),
    )

body_plain : (now : State) (m : Move) (castle : Option Wing) (kind : Kind) (body : List ℕ)
    → IsBody now m castle kind body → IsPlain body
body_plain now m (Some wing) _ body is = subst IsPlain (sym is) (castling_plain wing)
body_plain now m None Pawn body is = subst IsPlain (sym is) (pawn_plain now m)
body_plain now m None King body is = piece_plain now m King body is
body_plain now m None Queen body is = piece_plain now m Queen body is
body_plain now m None Rook body is = piece_plain now m Rook body is
body_plain now m None Bishop body is = piece_plain now m Bishop body is
body_plain now m None Knight body is = piece_plain now m Knight body is

mark_plain : (now : State) (mark : List ℕ) → IsCheckSign now mark → IsPlain mark
mark_plain now mark (mate mated) = ((ink 35 (omega arith), record {}), (omega arith, omega arith))
mark_plain now mark (check checked other) =
    ((ink 43 (omega arith), record {}), (omega arith, omega arith))
mark_plain now mark (quiet calm) = empty_plain

pub turn_may : (now : State) (turn : LineMove) (text : List ℕ) → IsTurnText now turn text
    → MayBegin text
turn_may now (Played m) text is =
    plain_may text (subst IsPlain (sym is.text)
    (plain_append is.body is.mark (body_plain now m m.castle is.man.kind is.body is.body_is)
    (mark_plain (after now m) is.mark is.mark_is)))
turn_may now Passed text is =
    let dash : IsInk 45 = ink 45 (omega arith) in
    plain_may text (subst IsPlain (sym is) ((dash, (dash, record {})), (omega arith, omega arith)))

-- ---- words of comments

-- a byte that is no white space
white_ink : (b : ℕ) → is_white b ≡ false → IsInk b
white_ink b solid = (
  (λ is. let white : is_white b ≡ true = ap is_white is in absurd (cc)),
  (λ is. let white : is_white b ≡ true = ap is_white is in absurd (cc)),
)

first_solid : (b : ℕ) (pieces : List (List ℕ)) → IsInk b → AllOf IsSolid pieces
    → AllOf IsSolid (in_first b pieces)
first_solid b [] solid all = ((solid, record {}), record {})
first_solid b (piece ∷ more) solid all = ((solid, all.0), all.1)

pieces_solid : (text : List ℕ) → AllOf IsSolid (cut_at_white text)
pieces_solid [] = (record {}, record {})
pieces_solid (b ∷ text) = by (is_white b) refl (pieces_solid text)
  where
    by : (white : Bool) → is_white b ≡ white → AllOf IsSolid (cut_at_white text)
        → AllOf IsSolid (if white then [] ∷ cut_at_white text else in_first b (cut_at_white text))
    by true e all = (record {}, all)
    by false e all = first_solid b (cut_at_white text) (white_ink b e) all

full_solid : (pieces : List (List ℕ)) → AllOf IsSolid pieces
    → AllOf IsSolid (filter (λ piece. not (is_empty piece)) pieces)
full_solid [] all = all
full_solid ([] ∷ pieces) all = full_solid pieces all.1
full_solid ((b ∷ piece) ∷ pieces) all = (all.0, full_solid pieces all.1)

-- a closing brace is written as another byte
brace_ink : (b : ℕ) (brace : Bool) → IsInk b → IsInk (if brace then 41 else b)
brace_ink b true solid = ink 41 (omega arith)
brace_ink b false solid = solid

unbraced_solid : (word : List ℕ) → IsSolid word → IsSolid (unbraced word)
unbraced_solid [] solid = solid
unbraced_solid (b ∷ word) solid = (brace_ink b (b == 125) solid.0, unbraced_solid word solid.1)

-- what may stand after a word
abbrev pub IsEnd : List ℕ → Type 0
IsEnd ends = (ends ≡ []) ⊎ (ends ≡ codes "}")

end_plain : (ends : List ℕ) → IsEnd ends → IsPlain ends
end_plain ends (inl is) = subst IsPlain (sym is) empty_plain
end_plain ends (inr is) =
    subst IsPlain (sym is) ((ink 125 (omega arith), record {}), (omega arith, omega arith))

-- a text that holds no brace and no parenthesis is written only for itself
abbrev pub IsBare : List ℕ → Type 0
IsBare text = AllOf (λ b. (b ≢ 41) × (b ≢ 125)) text

written_for : (word ends text : List ℕ) → IsEnd ends → IsBare text → unbraced word ++ ends ≡ text
    → word ≡ text
written_for [] ends text (inl none) bare is = sym none ∙ is
written_for [] ends [] (inr brace) bare is = refl
written_for [] ends (c ∷ text) (inr brace) bare is = let all : codes "}" ≡ c ∷ text =
    sym brace ∙ is in let first : c ≡ 125 = cc in absurd (bare.0.1 first)
written_for (b ∷ word) ends [] ended bare is = absurd (cc)
written_for (b ∷ word) ends (c ∷ text) ended bare is =
    let more : unbraced word ++ ends ≡ text = cc in
    let first : (if b == 125 then 41 else b) ≡ c = cc in
    by (b == 125) first (written_for word ends text ended bare.1 more)
  where
    by : (brace : Bool) → (if brace then 41 else b) ≡ c → word ≡ text → b ∷ word ≡ c ∷ text
    by true first more = absurd (bare.0.0 (sym first))
    by false first more = cc

event_bare : IsBare (codes "[Event")
event_bare = (
  (omega arith, omega arith),
  (
    (omega arith, omega arith),
    (
      (omega arith, omega arith),
      (
        (omega arith, omega arith),
        ((omega arith, omega arith), ((omega arith, omega arith), record {})),
      ),
    ),
  ),
)

-- a word that is left as it is
left_may : (word ends : List ℕ) → IsSolid word → IsEnd ends → bytes_eq word (codes "[Event") ≡ false
    → begins (λ b. b == 37) word ≡ false → MayBegin (unbraced word ++ ends)
left_may word ends solid ended no_event no_escape =
    record {
      solid = all_append IsInk (unbraced word) ends (unbraced_solid word solid)
          (end_plain ends ended).0;
      no_escape = first word no_escape;
      no_event = λ is.
          let same : bytes_eq word (codes "[Event") ≡ true =
          ap (λ bytes. bytes_eq bytes (codes "[Event"))
          (written_for word ends (codes "[Event") ended event_bare is) in
          absurd (cc);
    }
  where
    first : (bytes : List ℕ) → begins (λ b. b == 37) bytes ≡ false → (more : List ℕ)
        → unbraced bytes ++ ends ≡ 37 ∷ more → ⊥
    first [] none more is = (plain_may ends (end_plain ends ended)).no_escape more is
    first (b ∷ bytes) none more is = let head : (if b == 125 then 41 else b) ≡ 37 = cc in
        by (b == 125) head
      where
        by : (brace : Bool) → (if brace then 41 else b) ≡ 37 → ⊥
        by true same = omega arith
        by false same = let escape : (b == 37) ≡ true = ap (λ n. n == 37) same in absurd (cc)

later_may : (word ends : List ℕ) → IsSolid word → IsEnd ends → MayBegin (later_word word ++ ends)
later_may word ends solid ended =
    by (bytes_eq word (codes "[Event")) (begins (λ b. b == 37) word) refl refl
  where
    end : IsSolid ends
    end = (end_plain ends ended).0

    by : (event escape : Bool) → bytes_eq word (codes "[Event") ≡ event
        → begins (λ b. b == 37) word ≡ escape
        → MayBegin ((if event then codes "(Event"
        else (if escape then 40 ∷ unbraced word else unbraced word)) ++ ends)
    by true escape e f =
        plain_may (codes "(Event" ++ ends) (
          (
            ink 40 (omega arith),
            (
              ink 69 (omega arith),
              (
                ink 118 (omega arith),
                (ink 101 (omega arith), (ink 110 (omega arith), (ink 116 (omega arith), end))),
              ),
            ),
          ),
          (omega arith, omega arith),
        )
    by false true e f =
        plain_may (40 ∷ (unbraced word ++ ends)) (
          (
            ink 40 (omega arith),
            all_append IsInk (unbraced word) ends (unbraced_solid word solid) end,
          ),
          (omega arith, omega arith),
        )
    by false false e f = left_may word ends solid ended e f

later_words_may : (words : List (List ℕ)) → AllOf IsSolid words
    → AllMayBegin (closed (map later_word words))
later_words_may [] solid = record {}
later_words_may (word ∷ []) solid = (later_may word (codes "}") solid.0 (inr refl), record {})
later_words_may (word ∷ next ∷ more) solid = (
  subst MayBegin (append-nil (later_word word)) (later_may word [] solid.0 (inl refl)),
  later_words_may (next ∷ more) solid.1,
)

first_may : (word ends : List ℕ) → IsSolid word → IsEnd ends
    → MayBegin (123 ∷ (unbraced word ++ ends))
first_may word ends solid ended =
    plain_may (123 ∷ (unbraced word ++ ends)) (
      (
        ink 123 (omega arith),
        all_append IsInk (unbraced word) ends (unbraced_solid word solid) (end_plain ends ended).0,
      ),
      (omega arith, omega arith),
    )

braced_may : (words : List (List ℕ)) → AllOf IsSolid words → AllMayBegin (braced words)
braced_may [] solid = (
  plain_may (codes "{}") (
    (ink 123 (omega arith), (ink 125 (omega arith), record {})),
    (omega arith, omega arith),
  ),
  record {},
)
braced_may (word ∷ []) solid = (first_may word (codes "}") solid.0 (inr refl), record {})
braced_may (word ∷ next ∷ more) solid = (
  rw (← (append-nil (unbraced word))) (first_may word [] solid.0 (inl refl)),
  later_words_may (next ∷ more) solid.1,
)

comment_may : (commands : Bool) (text : List ℕ) → AllMayStand (comment_tokens commands text)
comment_may commands text =
    tied_may (if commands then ties false (words_in text) else []) (braced (words_in text))
    (all_alone (braced (words_in text))
    (braced_may (words_in text) (full_solid (cut_at_white text) (pieces_solid text))))

shown_may : (commands : Commands) (text : List ℕ) → AllMayStand (shown_tokens commands text)
shown_may InWords text = comment_may false text
shown_may Whole text = comment_may true text
shown_may LeftOut text = comment_may false (without_commands text)

-- ---- all tokens

pub result_may : (result : List ℕ) → IsResult result → MayBegin result
result_may result (inl is) =
    plain_may result
    (subst IsPlain (sym is) (
      (ink 49 (omega arith), (ink 45 (omega arith), (ink 48 (omega arith), record {}))),
      (omega arith, omega arith),
    ))
result_may result (inr (inl is)) =
    plain_may result
    (subst IsPlain (sym is) (
      (ink 48 (omega arith), (ink 45 (omega arith), (ink 49 (omega arith), record {}))),
      (omega arith, omega arith),
    ))
result_may result (inr (inr (inl is))) =
    let one : IsInk 49 = ink 49 (omega arith) in
    let stroke : IsInk 47 = ink 47 (omega arith) in
    let two : IsInk 50 = ink 50 (omega arith) in
    plain_may result
    (subst IsPlain (sym is) (
      (one, (stroke, (two, (ink 45 (omega arith), (one, (stroke, (two, record {}))))))),
      (omega arith, omega arith),
    ))
result_may result (inr (inr (inr is))) =
    plain_may result (subst IsPlain (sym is) (
      (ink 42 (omega arith), record {}),
      (omega arith, omega arith),
    ))

kept_may : (shown : Bool) (tokens : List (List ℕ)) → (shown ≡ true → AllMayStand tokens)
    → AllMayStand (kept shown tokens)
kept_may true tokens all = all refl
kept_may false tokens all = record {}

open_may : MayStand (codes "(")
open_may =
    may_alone (codes "(")
    (plain_may (codes "(") ((ink 40 (omega arith), record {}), (omega arith, omega arith)))

close_may : MayStand (codes ")")
close_may =
    may_alone (codes ")")
    (plain_may (codes ")") ((ink 41 (omega arith), record {}), (omega arith, omega arith)))

line_may : (line : Line) (style : Style) (inside : Bool) (before now : State) (apart : Bool)
    (tokens : List (List ℕ))
    → AreTokens style inside before now apart line tokens → AllMayStand tokens
line_may LineEnd style inside before now apart tokens is = subst AllMayStand (sym is) (record {})
line_may (ThenMove word line) style inside before now apart tokens (
  turn,
  text,
  more,
  says,
  spells,
  is,
  rest,
) =
    subst AllMayStand (sym is)
    (all_append MayStand (number_tokens now.turn now.fullmove_number apart) (text ∷ more)
    (all_alone (number_tokens now.turn now.fullmove_number apart)
    (number_may now.turn now.fullmove_number apart)) (
      may_alone text (turn_may now turn text spells),
      line_may line style inside now (after_turn now turn) false more rest,
    ))
line_may (ThenGlyph number line) style inside before now apart tokens (more, is, rest) =
    subst AllMayStand (sym is)
    (all_append MayStand (kept style.glyphs ((36 ∷ decimal number) ∷ [])) more
    (kept_may style.glyphs ((36 ∷ decimal number) ∷ []) (λ _.
    (may_alone (36 ∷ decimal number) (glyph_may number), record {})))
    (line_may line style inside before now apart more rest))
line_may (ThenComment text line) style inside before now apart tokens (more, is, rest) =
    subst AllMayStand (sym is)
    (all_append MayStand (kept (shows style text) (shown_tokens style.commands text)) more
    (kept_may (shows style text) (shown_tokens style.commands text) (λ _.
    shown_may style.commands text))
    (line_may line style inside before now (apart || shows style text) more rest))
line_may (ThenVariation inner line) style inside before now apart tokens (
  own,
  more,
  is,
  within,
  rest,
) =
    subst AllMayStand (sym is)
    (all_append MayStand (kept style.variations (codes "(" ∷ own ++ codes ")" ∷ [])) more
    (kept_may style.variations (codes "(" ∷ own ++ codes ")" ∷ [])
    (λ shown. (
      open_may,
      all_append MayStand own (codes ")"
          ∷ []) (line_may inner style true before before true own (within shown)) (
            close_may,
            record {},
          ),
    )))
    (line_may line style inside before now (apart || style.variations) more rest))

pub movetext_may : (style : Style) (start : State) (items : List Item) (result : List ℕ)
    (tokens : List (List ℕ)) → IsResult result
    → AreMovetextTokens style start items result tokens → AllMayStand tokens
movetext_may style start items result tokens ends (line, own, spells, are, all) =
    subst AllMayStand (sym all)
    (all_append MayStand own (result
    ∷ []) (line_may line style false start start true own are)
    (may_alone result (result_may result ends), record {}))
