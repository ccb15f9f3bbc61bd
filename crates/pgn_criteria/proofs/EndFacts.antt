-- The ends of the text of a move.
use Rattle.std.specs.Prelude.{is_some}
use Rattle.pgn_criteria.proofs.Common.{◌≡◌, ◌↔◌, ◌⊎◌, ◌-◌, ◌++◌, ◌<◌, ◌≤◌, ℕ, Bool, true, false}
use Rattle.pgn_criteria.proofs.Common.{List, [], ◌∷◌, length, get_or, Option, Some, None, IsTrue}
use Rattle.pgn_criteria.proofs.Common.{refl, sym, ap, ◌∙◌, subst, append_assoc, arith, inl, inr}
use Rattle.pgn_criteria.proofs.Common.{false≢true, nat_tests, if◌then◌else◌, Place}
use Rattle.pgn_criteria.proofs.Common.{State, kind_letter, file_letter, rank_digit, is_check_sign}
use Rattle.pgn_criteria.proofs.Common.{IsSan, Kind, King, Queen, Rook, Bishop, Knight, Pawn, Wing}
use Rattle.pgn_criteria.proofs.Common.{KingSide, without_check_signs, IsLike}
use Rattle.std.specs.List.{list_any}
use Rattle.std.proofs.lemmas.Bool.{or_cases, or_left, or_right}
use Rattle.chess.specs.Public.Squares.{IsOnBoard}
use Rattle.std.specs.Prelude.{◌==◌}
use Rattle.chess.specs.Public.Letters.{square_text}
use Rattle.chess.specs.Public.San.{promotion_text, castling_text, IsDisambiguation, is_capture}
use Rattle.chess.specs.Public.San.{capture_text, IsPieceText, IsBody, IsCheckSign}
use Rattle.chess.specs.Public.San.IsDisambiguation.{alone, by_file, by_rank, by_both}
use Rattle.chess.specs.Public.San.IsCheckSign.{mate}
use Rattle.chess.specs.declared.board.man.Wing.TheVariants.{QueenSide}
use Rattle.chess.specs.declared.moves.Move.{Move}
use Rattle.pgn_criteria.specs.Private.MoveEnds.{BeginsWith, EndsWith, HasByte, IsMoveLike, RulesOut}

-- each byte is above those of the marks
abbrev AreAbove : List ℕ → Type 0
AreAbove [] = Unit {0}
AreAbove (b ∷ x) = (43 < b) × AreAbove x

above_both : (x y : List ℕ) → AreAbove x → AreAbove y → AreAbove (x ++ y)
above_both [] y first other = other
above_both (b ∷ x) y first other = (first.0, above_both x y first.1 other)

-- a byte above the marks is none
pub no_mark : (b : ℕ) → 43 < b → is_check_sign b ≡ false
no_mark b above = grind (arith, nat_tests, above)

mark_is_none : (P : State) (mark : List ℕ) → IsCheckSign P mark → without_check_signs mark ≡ []
mark_is_none P _ (mate is) = refl
mark_is_none P _ _ = refl

-- so the body of a text is what it is without its mark
bare_body : (P : State) (body mark : List ℕ) → AreAbove body → IsCheckSign P mark
    → without_check_signs (body ++ mark) ≡ body
bare_body P [] mark above is = mark_is_none P mark is
bare_body P (b ∷ body) mark above is =
    ap (λ t. if t then without_check_signs (body ++ mark)
    else b ∷ without_check_signs (body ++ mark)) (no_mark b above.0)
    ∙ ap (λ x. b ∷ x) (bare_body P body mark above.1 is)

pub above_kind : (piece : Kind) → 43 < kind_letter piece
above_kind King = omega arith
above_kind _ = omega arith

above_square : (s : Place) → AreAbove (square_text s)
above_square s = (omega arith, (omega arith, tt))

above_promotion : (promote : Option Kind) → AreAbove (promotion_text true promote)
above_promotion None = tt
above_promotion (Some piece) = (omega arith, (above_kind piece, tt))

above_origin : (P : State) (m : Move) (origin : List ℕ) → IsDisambiguation P m origin
    → AreAbove origin
above_origin P m _ (alone never) = tt
above_origin P m _ (by_file some never) = (omega arith, tt)
above_origin P m _ (by_rank some never) = (omega arith, tt)
above_origin P m _ (by_both some other) = above_square m.from

above_taking : (t : Bool) (file : ℕ) → AreAbove (if t then file_letter file ∷ 120 ∷ [] else [])
above_taking true file = (omega arith, (omega arith, tt))
above_taking false file = tt

above_capture : (t : Bool) → AreAbove (if t then 120 ∷ [] else [])
above_capture true = (omega arith, tt)
above_capture false = tt

above_piece : (P : State) (m : Move) (piece : Kind) (x : List ℕ) → IsPieceText P m piece x
    → AreAbove x
above_piece P m piece x (origin, is, text) =
    subst AreAbove (sym text) (
      above_kind piece,
      above_both origin (capture_text P m ++ square_text m.to) (above_origin P m origin is)
          (above_both (capture_text P m) (square_text m.to) (above_capture (is_capture P m))
          (above_square m.to)),
    )

above_body : (P : State) (m : Move) (castle : Option Wing) (piece : Kind) (x : List ℕ)
    → IsBody P m castle piece x → AreAbove x
above_body P m (Some KingSide) piece x is =
    subst AreAbove (sym is) (omega arith, (omega arith, (omega arith, tt)))
above_body P m (Some QueenSide) piece x is =
    subst AreAbove (sym is) (
      omega arith,
      (omega arith, (omega arith, (omega arith, (omega arith, tt)))),
    )
above_body P m None Pawn x is =
    subst AreAbove (sym is)
    (above_both (if is_capture P m then file_letter m.from.file ∷ 120 ∷ []
    else []) (square_text m.to ++ promotion_text true m.promote)
    (above_taking (is_capture P m) m.from.file)
    (above_both (square_text m.to) (promotion_text true m.promote) (above_square m.to)
    (above_promotion m.promote)))
above_body P m None King x is = above_piece P m King x is
above_body P m None Queen x is = above_piece P m Queen x is
above_body P m None Rook x is = above_piece P m Rook x is
above_body P m None Bishop x is = above_piece P m Bishop x is
above_body P m None Knight x is = above_piece P m Knight x is

pub bare_text : (P : State) (m : Move) (text : List ℕ) (san : IsSan P m text)
    → without_check_signs text ≡ san.body
bare_text P m text san = ap without_check_signs san.text
    ∙ bare_body _ san.body san.mark (above_body P m m.castle san.man.kind san.body san.body_is)
    san.mark_is

-- a move that does not castle has no wing
pub no_wing : (castle : Option Wing) → is_some castle ≡ false → castle ≡ None
no_wing None without = refl
no_wing (Some wing) without = absurd (false≢true (sym without))

-- ---- the first byte

begins_piece : (P : State) (m : Move) (piece : Kind) (x : List ℕ) (b : ℕ) → IsPieceText P m piece x
    → BeginsWith b x → b ≡ kind_letter piece
begins_piece P m piece x b (origin, is, text) (rest, begins) = cc (text, begins)

begins_pawn : (taking : Bool) (from : ℕ) (to : Place) (promotion : List ℕ) (b : ℕ)
    → BeginsWith b ((if taking then file_letter from ∷ 120 ∷ [] else [])
    ++ (square_text to ++ promotion)) → (b ≡ file_letter from) ⊎ (b ≡ file_letter to.file)
begins_pawn true from to promotion b (rest, begins) = inl (cc (begins))
begins_pawn false from to promotion b (rest, begins) = inr (cc (begins))

begins_castled : (wing : Wing) (b : ℕ) → BeginsWith b (castling_text wing) → b ≡ 79
begins_castled KingSide b (rest, begins) = cc (begins)
begins_castled QueenSide b (rest, begins) = cc (begins)

-- what the body may begin with
abbrev pub Begins : Move → Option Wing → Kind → ℕ → Type 0
Begins m (Some wing) piece b = b ≡ 79
Begins m None Pawn b = (b ≡ file_letter m.from.file) ⊎ (b ≡ file_letter m.to.file)
Begins m None King b = b ≡ kind_letter King
Begins m None Queen b = b ≡ kind_letter Queen
Begins m None Rook b = b ≡ kind_letter Rook
Begins m None Bishop b = b ≡ kind_letter Bishop
Begins m None Knight b = b ≡ kind_letter Knight

begins_body : (P : State) (m : Move) (castle : Option Wing) (piece : Kind) (x : List ℕ) (b : ℕ)
    → IsBody P m castle piece x → BeginsWith b x → Begins m castle piece b
begins_body P m (Some wing) piece x b is begins =
    begins_castled wing b (subst (BeginsWith b) is begins)
begins_body P m None Pawn x b is begins =
    begins_pawn (is_capture P m) m.from.file m.to (promotion_text true m.promote) b
    (subst (BeginsWith b) is begins)
begins_body P m None King x b is begins = begins_piece P m King x b is begins
begins_body P m None Queen x b is begins = begins_piece P m Queen x b is begins
begins_body P m None Rook x b is begins = begins_piece P m Rook x b is begins
begins_body P m None Bishop x b is begins = begins_piece P m Bishop x b is begins
begins_body P m None Knight x b is begins = begins_piece P m Knight x b is begins

pub begins_text : (P : State) (m : Move) (text : List ℕ) (b : ℕ) (san : IsSan P m text)
    → BeginsWith b (without_check_signs text) → Begins m m.castle san.man.kind b
begins_text P m text b san begins =
    begins_body P m m.castle san.man.kind san.body b san.body_is
    (subst (BeginsWith b) (bare_text P m text san) begins)

-- ---- the last byte

one_last : (x y : List ℕ) (b c : ℕ) → x ++ b ∷ [] ≡ y ++ c ∷ [] → b ≡ c
one_last [] [] b c same = cc (same)
one_last [] (d ∷ []) b c same = absurd (cc (same))
one_last [] (d ∷ e ∷ y) b c same = absurd (cc (same))
one_last (d ∷ []) [] b c same = absurd (cc (same))
one_last (d ∷ e ∷ x) [] b c same = absurd (cc (same))
one_last (d ∷ x) (e ∷ y) b c same = let tails : x ++ b ∷ [] ≡ y ++ c ∷ [] = cc (same) in
    one_last x y b c tails

pub ends_in : (x front : List ℕ) (b c : ℕ) → x ≡ front ++ c ∷ [] → EndsWith b x → b ≡ c
ends_in x front b c parts (own, ends) = one_last own front b c (sym ends ∙ parts)

piece_parts : (letter file rank : ℕ) (origin capture : List ℕ)
    → letter ∷ (origin ++ (capture ++ (file ∷ rank ∷ [])))
    ≡ (letter ∷ (origin ++ (capture ++ (file ∷ [])))) ++ rank ∷ []
piece_parts letter file rank origin capture = simp append_assoc refl

pawn_parts : (taking : List ℕ) (file rank : ℕ)
    → taking ++ ((file ∷ rank ∷ []) ++ []) ≡ (taking ++ (file ∷ [])) ++ rank ∷ []
pawn_parts taking file rank = simp append_assoc refl

promotion_parts : (taking : List ℕ) (file rank letter : ℕ)
    → taking ++ ((file ∷ rank ∷ []) ++ 61 ∷ letter ∷ [])
    ≡ (taking ++ (file ∷ rank ∷ 61 ∷ [])) ++ letter ∷ []
promotion_parts taking file rank letter = simp append_assoc refl

-- what the body may end with
abbrev pub Ends : Move → Option Wing → Option Kind → ℕ → Type 0
Ends m (Some wing) promote b = b ≡ 79
Ends m None None b = b ≡ rank_digit m.to.rank
Ends m None (Some piece) b = (b ≡ kind_letter piece) ⊎ (b ≡ rank_digit m.to.rank)

ends_rank : (m : Move) (promote : Option Kind) (b : ℕ) → b ≡ rank_digit m.to.rank
    → Ends m None promote b
ends_rank m None b is = is
ends_rank m (Some piece) b is = inr is

ends_piece : (P : State) (m : Move) (piece : Kind) (x : List ℕ) (b : ℕ) → IsPieceText P m piece x
    → EndsWith b x → b ≡ rank_digit m.to.rank
ends_piece P m piece x b (origin, is, text) ends =
    ends_in x (kind_letter piece ∷ (origin ++ (capture_text P m ++ (file_letter m.to.file ∷ [])))) b
    (rank_digit m.to.rank)
    (text ∙ piece_parts (kind_letter piece) (file_letter m.to.file) (rank_digit m.to.rank) origin
    (capture_text P m)) ends

ends_pawn : (m : Move) (promote : Option Kind) (taking : List ℕ) (b : ℕ)
    → EndsWith b (taking ++ (square_text m.to ++ promotion_text true promote))
    → Ends m None promote b
ends_pawn m None taking b ends =
    ends_in (taking ++ (square_text m.to ++ promotion_text true None)) (taking
    ++ (file_letter m.to.file ∷ [])) b (rank_digit m.to.rank)
    (pawn_parts taking (file_letter m.to.file) (rank_digit m.to.rank)) ends
ends_pawn m (Some piece) taking b ends =
    inl (ends_in (taking ++ (square_text m.to ++ promotion_text true (Some piece))) (taking
    ++ (file_letter m.to.file ∷ rank_digit m.to.rank ∷ 61 ∷ [])) b (kind_letter piece)
    (promotion_parts taking (file_letter m.to.file) (rank_digit m.to.rank) (kind_letter piece))
    ends)

ends_castled : (wing : Wing) (b : ℕ) → EndsWith b (castling_text wing) → b ≡ 79
ends_castled KingSide b ends = ends_in (castling_text KingSide) (79 ∷ 45 ∷ []) b 79 refl ends
ends_castled QueenSide b ends =
    ends_in (castling_text QueenSide) (79 ∷ 45 ∷ 79 ∷ 45 ∷ []) b 79 refl ends

ends_body : (P : State) (m : Move) (castle : Option Wing) (piece : Kind) (x : List ℕ) (b : ℕ)
    → IsBody P m castle piece x → EndsWith b x → Ends m castle m.promote b
ends_body P m (Some wing) piece x b is ends = ends_castled wing b (subst (EndsWith b) is ends)
ends_body P m None Pawn x b is ends =
    ends_pawn m m.promote (if is_capture P m then file_letter m.from.file ∷ 120 ∷ []
    else []) b (subst (EndsWith b) is ends)
ends_body P m None King x b is ends = ends_rank m m.promote b (ends_piece P m King x b is ends)
ends_body P m None Queen x b is ends = ends_rank m m.promote b (ends_piece P m Queen x b is ends)
ends_body P m None Rook x b is ends = ends_rank m m.promote b (ends_piece P m Rook x b is ends)
ends_body P m None Bishop x b is ends = ends_rank m m.promote b (ends_piece P m Bishop x b is ends)
ends_body P m None Knight x b is ends = ends_rank m m.promote b (ends_piece P m Knight x b is ends)

pub ends_text : (P : State) (m : Move) (text : List ℕ) (b : ℕ) → IsSan P m text
    → EndsWith b (without_check_signs text) → Ends m m.castle m.promote b
ends_text P m text b san ends =
    ends_body P m m.castle san.man.kind san.body b san.body_is
    (subst (EndsWith b) (bare_text P m text san) ends)

-- ---- a word whose ends are no stars

pub like_begins : (b : ℕ) (word text : List ℕ) → (b ≡ 42 → ⊥) → IsLike (b ∷ word) text
    → BeginsWith b text
like_begins b word text plain (inl (is, rest)) = absurd (plain is)
like_begins b word text plain (inr (rest, parts, like)) = (rest, parts)

ends_after : (some : List ℕ) (b : ℕ) (text : List ℕ) → EndsWith b text → EndsWith b (some ++ text)
ends_after some b text (front, ends) =
    (some ++ front, ap (λ x. some ++ x) ends ∙ sym (append_assoc some front (b ∷ [])))

pub like_ends : (front : List ℕ) (b : ℕ) (text : List ℕ) → (b ≡ 42 → ⊥)
    → IsLike (front ++ b ∷ []) text → EndsWith b text
like_ends [] b text plain (inl (is, rest)) = absurd (plain is)
like_ends [] b text plain (inr (rest, parts, like)) = ([], parts ∙ ap (λ x. b ∷ x) like)
like_ends (first ∷ front) b text plain (inl (is, (some, rest, parts, like))) =
    subst (EndsWith b) (sym parts) (ends_after some b rest (like_ends front b rest plain like))
like_ends (first ∷ front) b text plain (inr (rest, parts, like)) =
    subst (EndsWith b) (sym parts)
    (ends_after (first ∷ []) b rest (like_ends front b rest plain like))

pub word_begins : (word text : List ℕ) → 1 ≤ length word → (get_or word 0 0 ≡ 42 → ⊥)
    → IsLike word text → BeginsWith (get_or word 0 0) text
word_begins [] text some plain like = absurd (omega (arith, some))
word_begins (b ∷ word) text some plain like = like_begins b word text plain like

last_of : (b : ℕ) (word : List ℕ) → (front : List ℕ)
    × (b ∷ word ≡ front ++ get_or (b ∷ word) (length word) 0 ∷ [])
last_of b [] = ([], refl)
last_of b (c ∷ word) = let rest = last_of c word in (b ∷ rest.0, ap (λ x. b ∷ x) rest.1)

pub last_part : (word : List ℕ) → 1 ≤ length word
    → (front : List ℕ) × (word ≡ front ++ get_or word (length word - 1) 0 ∷ [])
last_part [] some = absurd (omega (arith, some))
last_part (b ∷ word) some =
    let rest = last_of b word in
    let size : length word ≡ length (b ∷ word) - 1 = omega arith in
    (rest.0, rest.1 ∙ ap (λ n. rest.0 ++ get_or (b ∷ word) n 0 ∷ []) size)

pub word_ends : (word text : List ℕ) → 1 ≤ length word → (get_or word (length word - 1) 0 ≡ 42 → ⊥)
    → IsLike word text → EndsWith (get_or word (length word - 1) 0) text
word_ends word text some plain like =
    let parts = last_part word some in
    like_ends parts.0 (get_or word (length word - 1) 0) text plain
    (subst (λ w. IsLike w text) parts.1 like)

-- ---- the sign of a capture

-- each byte is below that sign
abbrev AreBelow : List ℕ → Type 0
AreBelow [] = Unit {0}
AreBelow (b ∷ x) = (b < 120) × AreBelow x

below_both : (x y : List ℕ) → AreBelow x → AreBelow y → AreBelow (x ++ y)
below_both [] y first other = other
below_both (b ∷ x) y first other = (first.0, below_both x y first.1 other)

below_kind : (piece : Kind) → kind_letter piece < 120
below_kind King = omega arith
below_kind Queen = omega arith
below_kind Rook = omega arith
below_kind Bishop = omega arith
below_kind Knight = omega arith
below_kind Pawn = omega arith

below_square : (s : Place) → IsOnBoard s → AreBelow (square_text s)
below_square s on =
    let file = on.file_high in let rank = on.rank_high in
    (omega (arith, file), (omega (arith, rank), tt))

below_promotion : (promote : Option Kind) → AreBelow (promotion_text true promote)
below_promotion None = tt
below_promotion (Some piece) = (omega arith, (below_kind piece, tt))

module _ (P : State) (m : Move) (from_on : IsOnBoard m.from) (to_on : IsOnBoard m.to)
    (quiet : is_capture P m ≡ false) where
  below_origin : (origin : List ℕ) → IsDisambiguation P m origin → AreBelow origin
  below_origin _ (alone never) = tt
  below_origin _ (by_file some never) = ((below_square m.from from_on).0, tt)
  below_origin _ (by_rank some never) = ((below_square m.from from_on).1.0, tt)
  below_origin _ (by_both some other) = below_square m.from from_on

  below_piece : (piece : Kind) (x : List ℕ) → IsPieceText P m piece x → AreBelow x
  below_piece piece x (origin, is, text) =
      subst AreBelow (sym text) (
        below_kind piece,
        below_both origin (capture_text P m ++ square_text m.to) (below_origin origin is)
            (subst (λ t. AreBelow ((if t then 120 ∷ [] else []) ++ square_text m.to)) (sym quiet)
            (below_square m.to to_on)),
      )

  below_body : (castle : Option Wing) (piece : Kind) (x : List ℕ) → IsBody P m castle piece x
      → AreBelow x
  below_body (Some KingSide) piece x is =
      subst AreBelow (sym is) (omega arith, (omega arith, (omega arith, tt)))
  below_body (Some QueenSide) piece x is =
      subst AreBelow (sym is) (
        omega arith,
        (omega arith, (omega arith, (omega arith, (omega arith, tt)))),
      )
  below_body None Pawn x is =
      subst AreBelow (sym is)
      (subst (λ t. AreBelow ((if t then file_letter m.from.file ∷ 120 ∷ [] else [])
      ++ (square_text m.to ++ promotion_text true m.promote))) (sym quiet)
      (below_both (square_text m.to) (promotion_text true m.promote) (below_square m.to to_on)
      (below_promotion m.promote)))
  below_body None King x is = below_piece King x is
  below_body None Queen x is = below_piece Queen x is
  below_body None Rook x is = below_piece Rook x is
  below_body None Bishop x is = below_piece Bishop x is
  below_body None Knight x is = below_piece Knight x is

  below_lacks : (x : List ℕ) → AreBelow x → HasByte 120 x → ⊥
  below_lacks [] below has = absurd (cc (has))
  below_lacks (b ∷ x) below has = elim (or_cases (b == 120) (list_any (λ y. y == 120) x) has) [
    | inl here ↦ let less = below.0 in grind (arith, nat_tests, here, less)
    | inr later ↦ below_lacks x below.1 later
  ]

  -- a move that takes nothing has no such sign
  pub quiet_text : (text : List ℕ) → IsSan P m text → HasByte 120 (without_check_signs text) → ⊥
  quiet_text text san has =
      below_lacks san.body (below_body m.castle san.man.kind san.body san.body_is)
      (subst (HasByte 120) (bare_text P m text san) has)

has_after : (b : ℕ) (some x : List ℕ) → HasByte b x → HasByte b (some ++ x)
has_after b [] x has = has
has_after b (a ∷ some) x has =
    or_right (a == b) (list_any (λ y. y == b) (some ++ x)) (has_after b some x has)

-- a byte of the word that is no star stands in a text that is like it
pub like_has : (b : ℕ) (word text : List ℕ) → (b ≡ 42 → ⊥) → HasByte b word → IsLike word text
    → HasByte b text
like_has b [] text plain has like = absurd (cc (has))
like_has b (a ∷ word) text plain has (inl (is, (some, rest, parts, like))) =
    elim (or_cases (a == b) (list_any (λ y. y == b) word) has) [
      | inl here ↦ absurd (grind (arith, nat_tests, here, is, plain))
      | inr later ↦ subst (HasByte b) (sym parts)
          (has_after b some rest (like_has b word rest plain later like))
    ]
like_has b (a ∷ word) text plain has (inr (rest, parts, like)) =
    subst (HasByte b) (sym parts) (elim (or_cases (a == b) (list_any (λ y. y == b) word) has) [
      | inl here ↦ or_left (a == b) (list_any (λ y. y == b) rest) here
      | inr later ↦ or_right (a == b) (list_any (λ y. y == b) rest)
          (like_has b word rest plain later like)
    ])

-- what rules out a move rules out that it is like the word
pub not_like : (P : State) (m : Move) (word : List ℕ) (r : Bool) → RulesOut r P m (IsLike word)
    → r ≡ false → IsTrue false ↔ IsMoveLike P m word
not_like P m word r rules out = (
  λ t. absurd (false≢true t),
  λ found. absurd (rules out found.0 found.1 found.2),
)
