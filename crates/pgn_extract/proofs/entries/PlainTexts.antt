-- The texts of positions and of moves are plain: they stand for themselves in each format.
use Rattle.std.proofs.Common.{◌≡◌, ◌⊎◌, ◌≤◌, ◌<◌, ◌+◌, ◌-◌, refl, ℕ, Bool, true, false, List, []}
use Rattle.std.proofs.Common.{◌∷◌, ◌++◌}
use Rattle.std.proofs.Common.{Option, Some, None, inl, inr, sym, ap, ◌∙◌, subst, arith}
use Rattle.std.specs.Prelude.{IfSome, MatchOption, codes, decimal, ◌==◌, ◌||◌, if◌then◌else◌}
use Rattle.std.specs.List.{list_all, slice_get}
use Rattle.std.proofs.lemmas.Bool.{and_parts, eqb-true}
use Rattle.chess.specs.Public.Fen.{IsFen, IsSquares, SpellsRank, SpellRanks, joined, or_dash}
use Rattle.chess.specs.Public.Fen.{rights_letters, en_passant_text, side_text}
use Rattle.chess.specs.Public.Fen.IsSquares.{letter, step}
use Rattle.chess.specs.Public.Letters.{man_letter, kind_letter, file_letter}
use Rattle.chess.specs.Public.Letters.{square_text}
use Rattle.chess.specs.Public.Letters.{is_check_sign, is_sign}
use Rattle.chess.specs.Public.Moves.{IsLegal}
use Rattle.chess.specs.Public.Placements.{Placement}
use Rattle.chess.specs.Public.Positions.{State, IsSound, FitsEnPassant}
use Rattle.chess.specs.Public.San.{IsNamed, IsSan, castling_text, castling_with_zeros}
use Rattle.chess.specs.Public.San.{letter_text, file_text, rank_text, promotion_text, IsFileOrRank}
use Rattle.chess.specs.Public.San.{IsBody, is_capture}
use Rattle.chess.specs.Public.Squares.{Place, IsOnBoard}
use Rattle.chess.specs.declared.board.man.CastlingRights.{CastlingRights}
use Rattle.chess.specs.declared.board.man.Kind.{Kind}
use Rattle.chess.specs.declared.board.man.Kind.TheVariants.{King, Queen, Rook, Bishop, Knight, Pawn}
use Rattle.chess.specs.declared.board.man.Man.{Man}
use Rattle.chess.specs.declared.board.man.Side.{Side}
use Rattle.chess.specs.declared.board.man.Side.TheVariants.{White, Black}
use Rattle.chess.specs.declared.board.man.Wing.{Wing}
use Rattle.chess.specs.declared.board.man.Wing.TheVariants.{KingSide, QueenSide}
use Rattle.chess.specs.declared.moves.Move.{Move}
use Rattle.chess.proofs.SanNamesFacts.{san_names}
use Rattle.pgn_game.proofs.PlainTokens.{AreDigits, decimal_digits, kind_high}
use Rattle.pgn_extract.specs.Private.RowTexts.{IsPlainByte, IsPlainValue}
use Rattle.pgn_game.specs.Public.PlayedLines.{IsNextText}
use Rattle.pgn_game.specs.Public.Replays.{Replay}
use Rattle.pgn_extract.specs.Private.Finding.{IsDashLeftOut}
use Rattle.pgn_extract.specs.Public.Listing.{IsNextMove}
use Rattle.pgn_game.specs.declared.exports.notation.Notation.TheVariants.{San}
use Rattle.pgn_extract.specs.Public.Rows.{IsMoveIn, IsAt}
use Rattle.pgn_extract.proofs.FieldTexts.{IsTextAt}

-- Bytes.

pub low_byte : (b : ℕ) → 45 ≤ b → b ≤ 91 → IsPlainByte b
low_byte b low high =
    (omega arith, omega arith, λ is. omega arith, λ is. omega arith, λ is. omega arith)

pub high_byte : (b : ℕ) → 93 ≤ b → b < 128 → IsPlainByte b
high_byte b low high =
    (omega arith, omega arith, λ is. omega arith, λ is. omega arith, λ is. omega arith)

pub blank_byte : IsPlainByte 32
blank_byte = (omega arith, omega arith, λ is. omega arith, λ is. omega arith, λ is. omega arith)

pub check_byte : (b : ℕ) → (b ≡ 43) ⊎ (b ≡ 35) → IsPlainByte b
check_byte b (inl is) =
    (omega arith, omega arith, λ e. omega arith, λ e. omega arith, λ e. omega arith)
check_byte b (inr is) =
    (omega arith, omega arith, λ e. omega arith, λ e. omega arith, λ e. omega arith)

-- one of two bytes
one_of : (b m n : ℕ) (t : Bool) → (b == m) ≡ t → (b == m || b == n) ≡ true → (b ≡ m) ⊎ (b ≡ n)
one_of b m n true is e = inl (eqb-true b m is)
one_of b m n false is e = inr (eqb-true b n (rw is at e))

-- Texts.

pub plain_append : (x y : List ℕ) → IsPlainValue x → IsPlainValue y → IsPlainValue (x ++ y)
plain_append [] y first other = other
plain_append (b ∷ x) y first other = (first.0, plain_append x y first.1 other)

digits_plain : (x : List ℕ) → AreDigits x → IsPlainValue x
digits_plain [] are = tt
digits_plain (b ∷ x) are =
    let low = are.0.0 in let high = are.0.1 in
    (low_byte b (omega arith) (omega arith), digits_plain x are.1)

pub decimal_plain : (n : ℕ) → IsPlainValue (decimal n)
decimal_plain n = digits_plain (decimal n) (decimal_digits n)

pub kind_byte : (kind : Kind) → IsPlainByte (kind_letter kind)
kind_byte kind =
    let high = kind_high kind in let low = high.0 in let most = high.1 in
    low_byte (kind_letter kind) (omega arith) (omega arith)

pub square_plain : (s : Place) → IsOnBoard s → IsPlainValue (square_text s)
square_plain s on =
    let a = on.file_low in let b = on.file_high in let c = on.rank_low in let d = on.rank_high in (
      high_byte (96 + s.file) (omega arith) (omega arith),
      (low_byte (48 + s.rank) (omega arith) (omega arith), tt),
    )

-- Moves.

marks_plain : (marks : List ℕ) → list_all is_check_sign marks ≡ true → IsPlainValue marks
marks_plain [] are = tt
marks_plain (b ∷ marks) are =
    let parts : (is_check_sign b ≡ true) × (list_all is_check_sign marks ≡ true) =
    and_parts _ _ are in
    (check_byte b (one_of b 43 35 (b == 43) refl parts.0), marks_plain marks parts.1)

letter_plain : (letter : Option Kind) → IsPlainValue (letter_text letter)
letter_plain None = tt
letter_plain (Some kind) = (kind_byte kind, tt)

file_plain : (file : Option ℕ) → IfSome file IsFileOrRank → IsPlainValue (file_text file)
file_plain None on = tt
file_plain (Some file) (low, high) = (high_byte (96 + file) (omega arith) (omega arith), tt)

rank_plain : (rank : Option ℕ) → IfSome rank IsFileOrRank → IsPlainValue (rank_text rank)
rank_plain None on = tt
rank_plain (Some rank) (low, high) = (low_byte (48 + rank) (omega arith) (omega arith), tt)

sign_byte : (b : ℕ) → is_sign b ≡ true → IsPlainByte b
sign_byte b is = by_test (b == 120 || b == 58) refl
  where
    by_test : (t : Bool) → (b == 120 || b == 58) ≡ t → IsPlainByte b
    by_test true two = elim (one_of b 120 58 (b == 120) refl two) [
      | inl e ↦ high_byte b (omega arith) (omega arith)
      | inr e ↦ low_byte b (omega arith) (omega arith)
    ]
    by_test false two =
        let e : b ≡ 45 = eqb-true b 45 (rw two at is) in low_byte b (omega arith) (omega arith)

sign_plain : (sign : List ℕ) → (sign ≡ []) ⊎ ((b : ℕ) × (is_sign b ≡ true) × (sign ≡ b ∷ []))
    → IsPlainValue sign
sign_plain sign (inl none) = rw none tt
sign_plain sign (inr (b, is, one)) = rw one (sign_byte b is, tt)

promotion_plain : (equals : Bool) (promote : Option Kind)
    → IsPlainValue (promotion_text equals promote)
promotion_plain equals None = tt
promotion_plain true (Some kind) =
    (low_byte 61 (omega arith) (omega arith), (kind_byte kind, tt))
promotion_plain false (Some kind) = (kind_byte kind, tt)

castling_plain : (wing : Wing) → IsPlainValue (castling_text wing)
    × IsPlainValue (castling_with_zeros wing)
castling_plain KingSide = (
  (
    low_byte 79 (omega arith) (omega arith),
    (
      low_byte 45 (omega arith) (omega arith),
      (
        low_byte 79 (omega arith) (omega arith),
        tt,
      ),
    ),
  ),
  (
    low_byte 48 (omega arith) (omega arith),
    (
      low_byte 45 (omega arith) (omega arith),
      (
        low_byte 48 (omega arith) (omega arith),
        tt,
      ),
    ),
  ),
)
castling_plain QueenSide = (
  (
    low_byte 79 (omega arith) (omega arith),
    (
      low_byte 45 (omega arith) (omega arith),
      (
        low_byte 79 (omega arith) (omega arith),
        (
          low_byte 45 (omega arith) (omega arith),
          (
            low_byte 79 (omega arith) (omega arith),
            tt,
          ),
        ),
      ),
    ),
  ),
  (
    low_byte 48 (omega arith) (omega arith),
    (
      low_byte 45 (omega arith) (omega arith),
      (
        low_byte 48 (omega arith) (omega arith),
        (
          low_byte 45 (omega arith) (omega arith),
          (
            low_byte 48 (omega arith) (omega arith),
            tt,
          ),
        ),
      ),
    ),
  ),
)

named_plain : (P : State) (x : List ℕ) (m : Move) → IsNamed P x m → IsPlainValue x
named_plain P x m named = elim named.by [
  | inl (wing, (marks, are, is), castle) ↦
      let plain = marks_plain marks are in
      let of = castling_plain wing in
      elim is [
        | inl e ↦ subst IsPlainValue (sym e) (plain_append (castling_text wing) marks of.0 plain)
        | inr e ↦ subst IsPlainValue (sym e)
            (plain_append (castling_with_zeros wing) marks of.1 plain)
      ]
  | inr (said, spells, agrees) ↦
      let ends = plain_append (promotion_text spells.equals said.promote) spells.marks
      (promotion_plain spells.equals said.promote) (marks_plain spells.marks spells.marks_are) in
      let target = plain_append (square_text said.target)
      (promotion_text spells.equals said.promote ++ spells.marks)
      (square_plain said.target spells.target) ends in
      let sign = plain_append spells.sign
      (square_text said.target ++ (promotion_text spells.equals said.promote ++ spells.marks))
      (sign_plain spells.sign spells.sign_is) target in
      let rank = plain_append (rank_text said.rank)
      (spells.sign ++ (square_text said.target
      ++ (promotion_text spells.equals said.promote ++ spells.marks)))
      (rank_plain said.rank spells.rank) sign in
      let file = plain_append (file_text said.file)
      (rank_text said.rank ++ (spells.sign ++ (square_text said.target
      ++ (promotion_text spells.equals said.promote ++ spells.marks))))
      (file_plain said.file spells.file) rank in
      subst IsPlainValue (sym spells.text)
      (plain_append (letter_text said.letter)
      (file_text said.file ++ (rank_text said.rank ++ (spells.sign ++ (square_text said.target
      ++ (promotion_text spells.equals said.promote ++ spells.marks)))))
      (letter_plain said.letter) file)
]

-- the standard text of a move is
pub san_plain : (P : State) (m : Move) (x : List ℕ) → IsSound P → IsLegal P m → IsSan P m x
    → IsPlainValue x
san_plain P m x sound legal san = named_plain P x m (san_names P m x sound legal san).named

-- Positions.

man_byte : (man : Man) → IsPlainByte (man_letter man)
man_byte man = by_side man.side
  where
    by_side : (side : Side)
        → IsPlainByte (elim side [
          | White ↦ kind_letter man.kind
          | Black ↦ kind_letter man.kind + 32
        ])
    by_side White = kind_byte man.kind
    by_side Black =
        let high = kind_high man.kind in let low = high.0 in let most = high.1 in
        high_byte (kind_letter man.kind + 32) (omega arith) (omega arith)

squares_byte : (b : ℕ) (own : List (Option Man)) → IsSquares b own → IsPlainByte b
squares_byte b own (letter man) = man_byte man
squares_byte b own (step n low high) = low_byte (48 + n) (omega arith) (omega arith)

rank_text_plain : (x : List ℕ) (squares : List (Option Man)) → SpellsRank x squares
    → IsPlainValue x
rank_text_plain [] squares spells = tt
rank_text_plain (b ∷ x) squares (own, more, parts, is, rest) =
    (squares_byte b own is, rank_text_plain x more rest)

abbrev AllPlain : List (List ℕ) → Type 0
AllPlain [] = Unit {0}
AllPlain (x ∷ more) = IsPlainValue x × AllPlain more

ranks_plain : (men : Placement) (n : ℕ) (ranks : List (List ℕ)) → SpellRanks men n ranks
    → AllPlain ranks
ranks_plain men n [] spells = tt
ranks_plain men n (x ∷ more) (some, own, rest) =
    (rank_text_plain x _ own, ranks_plain men (n - 1) more rest)

joined_plain : (separator : ℕ) → IsPlainByte separator → (texts : List (List ℕ)) → AllPlain texts
    → IsPlainValue (joined separator texts)
joined_plain separator is [] all = tt
joined_plain separator is (x ∷ []) all = all.0
joined_plain separator is (x ∷ y ∷ more) all =
    plain_append x (separator ∷ joined separator (y ∷ more)) all.0
    (is, joined_plain separator is (y ∷ more) all.1)

right_plain : (has : Bool) (b : ℕ) → IsPlainByte b → IsPlainValue (if has then b ∷ [] else [])
right_plain true b is = (is, tt)
right_plain false b is = tt

rights_plain : (r : CastlingRights) → IsPlainValue (rights_letters r)
rights_plain r =
    plain_append _ _ (right_plain r.white_king_side 75 (low_byte 75 (omega arith) (omega arith)))
    (plain_append _ _ (right_plain r.white_queen_side 81 (low_byte 81 (omega arith) (omega arith)))
    (plain_append _ _ (right_plain r.black_king_side 107
    (high_byte 107 (omega arith) (omega arith)))
    (right_plain r.black_queen_side 113 (high_byte 113 (omega arith) (omega arith)))))

dash_plain : (x : List ℕ) → IsPlainValue x → IsPlainValue (or_dash x)
dash_plain [] plain = (low_byte 45 (omega arith) (omega arith), tt)
dash_plain (b ∷ x) plain = plain

pub side_plain : (side : Side) → IsPlainValue (side_text side)
side_plain White = (high_byte 119 (omega arith) (omega arith), tt)
side_plain Black = (high_byte 98 (omega arith) (omega arith), tt)

square_or_dash : (men : Placement) (turn : Side) (square : Option Place)
    → IfSome square (FitsEnPassant men turn) → IsPlainValue (en_passant_text square)
square_or_dash men turn None fits = (low_byte 45 (omega arith) (omega arith), tt)
square_or_dash men turn (Some s) fits = square_plain s fits.on_board

pub fen_plain : (P : State) (x : List ℕ) → IsSound P → IsFen P x → IsPlainValue x
fen_plain P x sound fen =
    subst IsPlainValue (sym fen.text)
    (joined_plain 32 blank_byte
    (joined 47 fen.ranks ∷ side_text P.turn ∷ or_dash (rights_letters P.rights)
    ∷ en_passant_text P.en_passant ∷ decimal P.halfmove_clock ∷ decimal P.fullmove_number ∷ []) (
      joined_plain 47 (low_byte 47 (omega arith) (omega arith)) fen.ranks
          (ranks_plain P.men 8 fen.ranks fen.spelled),
      (
        side_plain P.turn,
        (
          dash_plain (rights_letters P.rights) (rights_plain P.rights),
          (
            square_or_dash P.men P.turn P.en_passant sound.en_passant,
            (decimal_plain P.halfmove_clock, (decimal_plain P.fullmove_number, tt)),
          ),
        ),
      ),
    ))

-- No move is written as a dash.

heads : {a b : ℕ} {xs ys : List ℕ} → a ∷ xs ≡ b ∷ ys → a ≡ b
heads e = cc

abbrev BeginsHigh : List ℕ → Type 0
BeginsHigh x = (b : ℕ) × (rest : List ℕ) × (x ≡ b ∷ rest) × (50 ≤ b)

pawn_begins : (capture : Bool) (from to : ℕ) (rest : List ℕ)
    → BeginsHigh ((if capture then file_letter from ∷ 120 ∷ [] else []) ++ file_letter to ∷ rest)
pawn_begins true from to rest = (96 + from, _, refl, omega arith)
pawn_begins false from to rest = (96 + to, _, refl, omega arith)

body_begins : (P : State) (m : Move) (castle : Option Wing) (kind : Kind) (x : List ℕ)
    → IsBody P m castle kind x → BeginsHigh x
body_begins P m (Some KingSide) _ x is = (79, _, is, omega arith)
body_begins P m (Some QueenSide) _ x is = (79, _, is, omega arith)
body_begins P m None Pawn x is =
    subst BeginsHigh (sym is) (pawn_begins (is_capture P m) m.from.file m.to.file _)
body_begins P m None King x (origin, by, is) = (75, _, is, omega arith)
body_begins P m None Queen x (origin, by, is) = (81, _, is, omega arith)
body_begins P m None Rook x (origin, by, is) = (82, _, is, omega arith)
body_begins P m None Bishop x (origin, by, is) = (66, _, is, omega arith)
body_begins P m None Knight x (origin, by, is) = (78, _, is, omega arith)

pub no_dash : (P : State) (m : Move) (x : List ℕ) → IsSan P m x → x ≡ codes "-" → ⊥
no_dash P m x san dash =
    let (b, rest, begins, high) = body_begins P m m.castle san.man.kind san.body san.body_is in
    let same : 45 ≡ b = heads (sym dash ∙ san.text ∙ ap (λ t. t ++ san.mark) begins) in
    omega arith

-- nor as nothing
pub san_some : (P : State) (m : Move) (x : List ℕ) → IsSan P m x → x ≡ [] → ⊥
san_some P m x san none =
    let (b, rest, begins, high) = body_begins P m m.castle san.man.kind san.body san.body_is in
    let empty = sym none ∙ san.text ∙ ap (λ t. t ++ san.mark) begins in absurd (cc)

-- so the dash that stands for none tells that there is none
value_by : (move : Option Move) (replay : Replay) (ply : ℕ) (text value : List ℕ)
    → MatchOption move (text ≡ codes "-") (IsTextAt replay.positions ply text)
    → IsDashLeftOut text value
    → MatchOption move (value ≡ []) (λ m. IsAt replay ply (λ P. IsSan P m value))
value_by None replay ply text value is (inl (dash, none)) = none
value_by None replay ply text value is (inr (other, same)) = absurd (other is)
value_by (Some m) replay ply text value (P, here, san) (inl (dash, none)) =
    absurd (no_dash P m text san dash)
value_by (Some m) replay ply text value (P, here, san) (inr (other, same)) =
    (P, here, subst (IsSan P m) (sym same) san)

pub move_value : (replay : Replay) (ply : ℕ) (text value : List ℕ)
    → IsNextMove replay.positions replay.played ply text → IsDashLeftOut text value
    → IsMoveIn San replay ply value
move_value replay ply text value is left =
    value_by (slice_get replay.played ply) replay ply text value is left

-- the text of the next move is plain, or the dash
next_plain : (P : State) (words : List (List ℕ)) (text : List ℕ) → IsSound P
    → IsNextText P words text → (text ≡ codes "-") ⊎ IsPlainValue text
next_plain P [] text sound is = inl is
next_plain P (word ∷ words) text sound (m, named, san) =
    inr (san_plain P m text sound named.named.legal san)

pub value_plain : (P : State) (words : List (List ℕ)) (text value : List ℕ) → IsSound P
    → IsNextText P words text → IsDashLeftOut text value → IsPlainValue value
value_plain P words text value sound is (inl (dash, none)) = subst IsPlainValue (sym none) tt
value_plain P words text value sound is (inr (other, same)) =
    elim (next_plain P words text sound is) [
      | inl dash ↦ absurd (other dash)
      | inr plain ↦ subst IsPlainValue (sym same) plain
    ]
