-- In a position whose men stand on the board a text names one legal move alone, or none, or
-- several.
use Rattle.std.proofs.Common.{append_assoc}
use Rattle.chess.proofs.Common.{◌≡◌, ◌≢◌, ◌⊎◌, ℕ, ◌<◌, Bool, true, Option, Some, None, IfSome, List}
use Rattle.chess.proofs.Common.{[], ◌∷◌, ◌++◌, IsTrue, sym, ap, ◌∙◌, subst, inl, inr, refl, arith}
use Rattle.chess.proofs.Common.{list_all, cases_eq, nat_tests, Place, IsOnBoard, man_at, AreOnBoard}
use Rattle.chess.proofs.Common.{State, is_check_sign, is_sign, square_text, Said, letter_text}
use Rattle.chess.proofs.Common.{file_text, rank_text, promotion_text, IsFileOrRank, Spells}
use Rattle.chess.proofs.Common.{castling_text, castling_with_zeros, IsCastlingText, kind_said}
use Rattle.chess.proofs.Common.{Agrees, IsNamed, IsPromotionKind, on_board_or_not, Man, Kind, Pawn}
use Rattle.chess.proofs.Common.{Wing, Move}
use Rattle.chess.specs.Public.Laws.{NamesOneNoneOrSeveral, EachTextNamesOneNoneOrSeveral}
use Rattle.chess.proofs.PlaceFacts.{cases_place}
use Rattle.chess.proofs.Settled.{Settled, settled_like, settled_below, settled_front}
use Rattle.chess.proofs.Settled.{search_option}
use Rattle.chess.proofs.Settled.{settled_both, settled_le, settled_true, settled_held}
use Rattle.chess.proofs.Settled.{cases_option}
use Rattle.chess.proofs.Settled.{settled_three, settled_either, settled_implies}
use Rattle.chess.proofs.Settled.{settled_if_some}
use Rattle.chess.proofs.Settled.{settled_not, SearchIn, IsAny, search_any, search_both}
use Rattle.chess.proofs.Settled.{search_bool}
use Rattle.chess.proofs.Searches.{search_square, search_wing, search_any_kind, cases_kind}
use Rattle.chess.proofs.Searches.{cases_wing, cases_move}
use Rattle.chess.proofs.LegalSettled.{settled_promotion_kind, settled_legal}

-- ---- files and ranks that may be given

abbrev IsGivenNumber : Option ℕ → Type 0
IsGivenNumber o = IfSome o IsFileOrRank

settled_file_or_rank : (n : ℕ) → Settled (IsFileOrRank n)
settled_file_or_rank n = settled_both (settled_le 1 n) (settled_le n 8)

abbrev NumberBelow : (Option ℕ → Type 0) → Type 0
NumberBelow F = (k : ℕ) × (k < 9) × (IsFileOrRank k × F (Some k))

a_number : (F : Option ℕ → Type 0) → F None ⊎ NumberBelow F → (o : Option ℕ) × IsGivenNumber o × F o
a_number F (inl h) = (None, tt, h)
a_number F (inr h) = (Some h.0, h.2.0, h.2.1)

which_number : (F : Option ℕ → Type 0) (o : Option ℕ) → IsGivenNumber o → F o
    → F None ⊎ NumberBelow F
which_number F None within h = inl h
which_number F (Some k) within h = inr (k, (let high = within.1 in omega arith), (within, h))

search_number : SearchIn (Option ℕ) IsGivenNumber
search_number F each =
    settled_like (a_number F) (λ p. which_number F p.0 p.1 p.2)
    (settled_either (each None) (settled_below 9 (λ k. IsFileOrRank k × F (Some k))
    (λ k less. settled_both (settled_file_or_rank k) (each (Some k)))))

-- ---- the sign before the target

abbrev IsSignText : List ℕ → Type 0
IsSignText sign = (sign ≡ []) ⊎ ((b : ℕ) × IsTrue (is_sign b) × (sign ≡ b ∷ []))

sign_low : (b : ℕ) → is_sign b ≡ true → b < 128
sign_low b e = grind (arith, nat_tests)

abbrev SignBelow : (List ℕ → Type 0) → Type 0
SignBelow F = (b : ℕ) × (b < 128) × (IsTrue (is_sign b) × F (b ∷ []))

a_sign : (F : List ℕ → Type 0) → F [] ⊎ SignBelow F → (sign : List ℕ) × IsSignText sign × F sign
a_sign F (inl h) = ([], inl refl, h)
a_sign F (inr h) = (h.0 ∷ [], inr (h.0, h.2.0, refl), h.2.1)

which_sign : (F : List ℕ → Type 0) (sign : List ℕ) → IsSignText sign → F sign → F [] ⊎ SignBelow F
which_sign F sign (inl e) h = inl (subst F e h)
which_sign F sign (inr (b, is, e)) h = inr (b, sign_low b is, (is, subst F e h))

search_sign : SearchIn (List ℕ) IsSignText
search_sign F each =
    settled_like (a_sign F) (λ p. which_sign F p.0 p.1 p.2)
    (settled_either (each []) (settled_below 128 (λ b. IsTrue (is_sign b) × F (b ∷ []))
    (λ b less. settled_both (settled_true (is_sign b)) (each (b ∷ [])))))

-- ---- whether a text says something

regroup : (a b c d e f m : List ℕ) → (a ++ (b ++ (c ++ (d ++ (e ++ f))))) ++ m
    ≡ a ++ (b ++ (c ++ (d ++ (e ++ (f ++ m)))))
regroup a b c d e f m =
    append_assoc a (b ++ (c ++ (d ++ (e ++ f)))) m
    ∙ ap (λ t. a ++ t) (append_assoc b (c ++ (d ++ (e ++ f))) m
    ∙ ap (λ t. b ++ t) (append_assoc c (d ++ (e ++ f)) m
    ∙ ap (λ t. c ++ t) (append_assoc d (e ++ f) m
    ∙ ap (λ t. d ++ t) (append_assoc e f m))))

-- the text without its marks
abbrev said_text : Said → List ℕ → Bool → List ℕ
said_text said sign equals =
    letter_text said.letter ++ (file_text said.file ++ (rank_text said.rank
    ++ (sign ++ (square_text said.target ++ promotion_text equals said.promote))))

abbrev marked_text : Said → List ℕ → Bool → List ℕ → List ℕ
marked_text said sign equals marks =
    letter_text said.letter ++ (file_text said.file ++ (rank_text said.rank
    ++ (sign ++ (square_text said.target ++ (promotion_text equals said.promote ++ marks)))))

said_marked : (said : Said) (sign : List ℕ) (equals : Bool) (marks : List ℕ)
    → said_text said sign equals ++ marks ≡ marked_text said sign equals marks
said_marked said sign equals marks =
    regroup (letter_text said.letter) (file_text said.file) (rank_text said.rank) sign
    (square_text said.target)
    (promotion_text equals said.promote) marks

abbrev IsSpelledWith : List ℕ → Said → List ℕ → Bool → Type 0
IsSpelledWith x said sign equals =
    (marks : List ℕ) × IsTrue (list_all is_check_sign marks)
    × (x ≡ said_text said sign equals ++ marks)

abbrev IsSpelledBy : List ℕ → Said → Type 0
IsSpelledBy x said = (sign : List ℕ) × IsSignText sign
    × ((equals : Bool) × IsSpelledWith x said sign equals)

settled_spelled_by : (x : List ℕ) (said : Said) → Settled (IsSpelledBy x said)
settled_spelled_by x said =
    search_sign (λ sign. (equals : Bool) × IsSpelledWith x said sign equals)
    (λ sign. search_bool (IsSpelledWith x said sign) (λ equals.
    settled_front is_check_sign (said_text said sign equals) x))

settled_given_number : (o : Option ℕ) → Settled (IsGivenNumber o)
settled_given_number o = settled_if_some o IsFileOrRank settled_file_or_rank

settled_spells : (x : List ℕ) (said : Said) → Settled (Spells x said)
settled_spells x said =
    settled_like (λ h. record {
      file = h.0.0;
      rank = h.0.1;
      target = h.1.0;
      promote = h.1.1;
      sign = h.2.0;
      sign_is = h.2.1;
      equals = h.2.2.0;
      marks = h.2.2.1.0;
      marks_are = h.2.2.1.1;
      text = h.2.2.1.2 ∙ said_marked said h.2.0 h.2.2.0 h.2.2.1.0;
    })
    (λ r. (
      (r.file, r.rank),
      (r.target, r.promote),
      (
        r.sign,
        r.sign_is,
        (
          r.equals,
          (r.marks, r.marks_are, r.text ∙ sym (said_marked said r.sign r.equals r.marks)),
        ),
      ),
    ))
    (settled_three (settled_both (settled_given_number said.file) (settled_given_number said.rank))
    (settled_both (on_board_or_not said.target)
    (settled_if_some said.promote IsPromotionKind settled_promotion_kind))
    (settled_spelled_by x said))

-- ---- whether a move agrees with what is said

abbrev IsAgreed : Said → Move → Man → Type 0
IsAgreed said m man = (man.kind ≡ kind_said said.letter)
    × (man.kind ≡ Pawn → said.file ≡ None → m.from.file ≡ m.to.file)

settled_agreed : (said : Said) (m : Move) (man : Man) → Settled (IsAgreed said m man)
settled_agreed said m man =
    settled_both (cases_kind man.kind (kind_said said.letter))
    (settled_implies (cases_kind man.kind Pawn)
    (settled_implies (cases_option cases_eq said.file None) (cases_eq m.from.file m.to.file)))

settled_from : (from : ℕ) (o : Option ℕ) → Settled (IfSome o (λ n. from ≡ n))
settled_from from o = settled_if_some o (λ n. from ≡ n) (λ n. cases_eq from n)

settled_agrees : (P : State) (said : Said) (m : Move) → Settled (Agrees P said m)
settled_agrees P said m =
    settled_like (λ h. record {
      not_castling = h.0.0;
      man = h.2.0;
      here = h.2.1;
      kind = h.2.2.0;
      target = h.0.1;
      file = h.1.0;
      rank = h.1.1;
      promote = h.0.2;
      stays = h.2.2.1;
    })
    (λ r. (
      (r.not_castling, r.target, r.promote),
      (r.file, r.rank),
      (r.man, r.here, (r.kind, r.stays)),
    ))
    (settled_three
    (settled_three (cases_option cases_wing m.castle None) (cases_place m.to said.target)
    (cases_option cases_kind m.promote said.promote))
    (settled_both (settled_from m.from.file said.file) (settled_from m.from.rank said.rank))
    (settled_held (man_at P.men m.from) (IsAgreed said m) (settled_agreed said m)))

-- ---- a search through all that may be said

abbrev SaidParts : Type 0
SaidParts = Option Kind × (Option ℕ × (Option ℕ × (Place × Option Kind)))

abbrev said_of : SaidParts → Said
said_of t =
    record { letter = t.0; file = t.1.0; rank = t.1.1.0; target = t.1.1.1.0; promote = t.1.1.1.1 }

abbrev AreTargetParts : Place × Option Kind → Type 0
AreTargetParts t = IsOnBoard t.0 × IsAny t.1

abbrev AreRankParts : Option ℕ × (Place × Option Kind) → Type 0
AreRankParts t = IsGivenNumber t.0 × AreTargetParts t.1

abbrev AreFileParts : Option ℕ × (Option ℕ × (Place × Option Kind)) → Type 0
AreFileParts t = IsGivenNumber t.0 × AreRankParts t.1

search_parts : SearchIn SaidParts (λ t. IsAny t.0 × AreFileParts t.1)
search_parts =
    search_both IsAny AreFileParts (search_any search_any_kind)
    (search_both IsGivenNumber AreRankParts search_number
    (search_both IsGivenNumber AreTargetParts search_number
    (search_both IsOnBoard IsAny search_square (search_any search_any_kind))))

settled_said : (P : State) (x : List ℕ) (m : Move)
    → Settled ((said : Said) × Spells x said × Agrees P said m)
settled_said P x m =
    settled_like (λ h. (said_of h.0, h.2.0, h.2.1)) (λ h. (
      (h.0.letter, (h.0.file, (h.0.rank, (h.0.target, h.0.promote)))),
      (tt, (h.1.file, (h.1.rank, (h.1.target, tt)))),
      (h.1, h.2),
    ))
    (search_parts (λ t. Spells x (said_of t) × Agrees P (said_of t) m)
    (λ t. settled_both (settled_spells x (said_of t)) (settled_agrees P (said_of t) m)))

-- ---- whether a text names a move

settled_castling_text : (wing : Wing) (x : List ℕ) → Settled (IsCastlingText wing x)
settled_castling_text wing x =
    settled_like (λ h. elim h [ inl a ↦ (a.0, a.1, inl a.2) | inr a ↦ (a.0, a.1, inr a.2) ])
    (λ h. elim h.2 [ inl e ↦ inl (h.0, h.1, e) | inr e ↦ inr (h.0, h.1, e) ])
    (settled_either (settled_front is_check_sign (castling_text wing) x)
    (settled_front is_check_sign (castling_with_zeros wing) x))

settled_castling_named : (x : List ℕ) (m : Move)
    → Settled ((wing : Wing) × IsCastlingText wing x × (m.castle ≡ Some wing))
settled_castling_named x m =
    settled_like (λ h. (h.0, h.1.0, h.1.1)) (λ h. (h.0, (h.1, h.2)))
    (search_wing (λ wing. IsCastlingText wing x × (m.castle ≡ Some wing))
    (λ wing.
    settled_both (settled_castling_text wing x) (cases_option cases_wing m.castle (Some wing))))

settled_named : (P : State) (x : List ℕ) (m : Move) → AreOnBoard P.men → Settled (IsNamed P x m)
settled_named P x m on_board =
    settled_like (λ h. record { legal = h.0; by = h.1 }) (λ r. (r.legal, r.by))
    (settled_both (settled_legal P m on_board)
    (settled_either (settled_castling_named x m) (settled_said P x m)))

-- ---- a search through all moves

abbrev MoveParts : Type 0
MoveParts = Place × (Place × (Option Kind × Option Wing))

abbrev move_of : MoveParts → Move
move_of t = record { from = t.0; to = t.1.0; promote = t.1.1.0; castle = t.1.1.1 }

abbrev AreToParts : Place × (Option Kind × Option Wing) → Type 0
AreToParts t = IsOnBoard t.0 × (IsAny t.1.0 × IsAny t.1.1)

search_moves : SearchIn MoveParts (λ t. IsOnBoard t.0 × AreToParts t.1)
search_moves =
    search_both IsOnBoard AreToParts search_square
    (search_both IsOnBoard (λ t. IsAny t.0 × IsAny t.1) search_square
    (search_both IsAny IsAny (search_any search_any_kind) (search_any (search_option search_wing))))

-- the squares of a named move are on the board
search_named : (P : State) (x : List ℕ) (F : Move → Type 0) → ((m : Move) → F m → IsNamed P x m)
    → ((m : Move) → Settled (F m))
    → Settled ((m : Move) × F m)
search_named P x F named each =
    settled_like (λ h. (move_of h.0, h.2)) (λ h.
    let is = named h.0 h.1 in (
      (h.0.from, (h.0.to, (h.0.promote, h.0.castle))),
      (is.legal.pseudo_legal.from, (is.legal.pseudo_legal.to, (tt, tt))),
      h.1,
    ))
    (search_moves (λ t. F (move_of t)) (λ t. each (move_of t)))

-- one named move is looked for, and then another one
pub each_text_names : EachTextNamesOneNoneOrSeveral
each_text_names P x on_board =
    first (search_named P x (IsNamed P x) (λ m h. h) (λ m. settled_named P x m on_board))
  where
    second : (m : Move) → IsNamed P x m → Settled ((n : Move) × (IsNamed P x n × (n ≢ m)))
        → NamesOneNoneOrSeveral P x
    second m named (inl found) = inr (inr (m, found.0, named, found.1.0, (λ e. found.1.1 (sym e))))
    second m named (inr none) = inl (
      m,
      record {
        named = named;
        only = λ n h. elim (cases_move n m) [
          | inl same ↦ same
          | inr apart ↦ absurd (none (n, (h, apart)))
        ];
      },
    )

    first : Settled ((m : Move) × IsNamed P x m) → NamesOneNoneOrSeveral P x
    first (inr none) = inr (inl (λ m h. none (m, h)))
    first (inl found) =
        second found.0 found.1 (search_named P x (λ n. IsNamed P x n × (n ≢ found.0)) (λ n h. h.0)
        (λ n. settled_both (settled_named P x n on_board) (settled_not (cases_move n found.0))))
