-- A text in FEN is read, or refused.
use Rattle.chess.proofs.Common.{◌≡◌, ◌≢◌, ◌⊎◌, ◌↔◌, ◌+◌, ◌<◌, List, [], ◌∷◌, refl, sym, ◌∙◌, inl}
use Rattle.chess.proofs.Common.{inr, ℕ, Bool, true, false, Option, Some, None, length, codes, subst}
use Rattle.chess.proofs.Common.{arith, list_all, cases_eq, same_Some, Place, IsOnBoard, Placement}
use Rattle.chess.proofs.Common.{man_at, AreOnBoard, opposite, IsEmpty, on_board_or_not, IsForward}
use Rattle.chess.proofs.Common.{State, king_of, pawn_of, rook_of, has_right, king_from, rook_from}
use Rattle.chess.proofs.Common.{passed_rank, IsOnlyKing, FitsEnPassant, square_text, fields_of}
use Rattle.chess.proofs.Common.{SpellsMen, side_text, right_letter, has_byte, is_distinct}
use Rattle.chess.proofs.Common.{is_right_letter, GivesRights, GivesEnPassant, is_digit, number_from}
use Rattle.chess.proofs.Common.{IsCount, GiveCounts, AreAtHome, SpellsPosition, HasWrongKings}
use Rattle.chess.proofs.Common.{HasWrongPawns, Syntax, Kings, Pawns, InCheck, CastlingRights, Man}
use Rattle.chess.proofs.Common.{Side, White, Black, Wing, KingSide, QueenSide}
use Rattle.chess.specs.Public.Laws.{EachTextIsReadOrRefused}
use Rattle.chess.proofs.PlaceFacts.{cases_place}
use Rattle.chess.proofs.Settled.{Settled, settled_like, settled_not, settled_both}
use Rattle.chess.proofs.Settled.{settled_three}
use Rattle.chess.proofs.Settled.{settled_either, settled_le, settled_true, settled_below}
use Rattle.chess.proofs.Settled.{settled_option, cases_bytes}
use Rattle.chess.proofs.Searches.{search_square, search_side}
use Rattle.chess.proofs.LegalSettled.{settled_man_at, settled_forward, forward_low}
use Rattle.chess.proofs.LegalSettled.{settled_check}
use Rattle.chess.proofs.laws.RanksSettled.{settled_men}

-- ---- the fields after the men

given : List ℕ → CastlingRights
given x = record {
  white_king_side = has_byte 75 x;
  white_queen_side = has_byte 81 x;
  black_king_side = has_byte 107 x;
  black_queen_side = has_byte 113 x;
}

given_each : (x : List ℕ) (side : Side) (wing : Wing)
    → has_right (given x) side wing ≡ has_byte (right_letter side wing) x
unfolding given
given_each x White KingSide = refl
given_each x Black KingSide = refl
given_each x _ _ = refl

settled_given : (x : List ℕ) → Settled ((rights : CastlingRights) × GivesRights x rights)
settled_given x =
    settled_like (λ w. (given x, record { written = w; each = given_each x })) (λ h. h.1.written)
    (settled_either (cases_bytes x (codes "-"))
    (settled_three (settled_not (cases_bytes x [])) (settled_true (list_all is_right_letter x))
    (settled_true (is_distinct x))))

settled_en_passant : (x : List ℕ) → Settled ((o : Option Place) × GivesEnPassant x o)
settled_en_passant x =
    settled_option (GivesEnPassant x) (cases_bytes x (codes "-"))
    (settled_like (λ h. (h.0, (h.1, h.2))) (λ h. (h.0, h.1.0, h.1.1))
    (search_square (λ s. x ≡ square_text s) (λ s. cases_bytes x (square_text s))))

settled_count : (x : List ℕ) → Settled ((n : ℕ) × IsCount x n)
settled_count x =
    settled_like (λ h. (number_from 0 x, record { digits = h.0; short = h.1; value = refl })) (λ h.
    (h.1.digits, h.1.short))
    (settled_both (settled_true (list_all is_digit x))
    (settled_both (settled_le 1 (length x)) (settled_le (length x) 7)))

settled_counts : (texts : List (List ℕ))
    → Settled ((clock : ℕ) × (number : ℕ) × GiveCounts texts clock number)
settled_counts [] = inl (0, 1, (refl, refl))
settled_counts (x ∷ []) =
    settled_like (λ h. (h.0, 1, (h.1, refl))) (λ h. (h.0, h.2.0)) (settled_count x)
settled_counts (x ∷ y ∷ []) =
    settled_like (λ h. (h.0.0, h.1.0, (h.0.1, h.1.1))) (λ h. ((h.0, h.2.0), (h.1, h.2.1)))
    (settled_both (settled_count x) (settled_count y))
settled_counts (x ∷ y ∷ z ∷ more) = inr (λ h. h.2)

-- ---- what is kept

forward_near : (side : Side) (a b : ℕ) → IsForward side a b → a < b + 2
forward_near White a b e = omega arith
forward_near Black a b e = omega arith

abbrev on_file : ℕ → ℕ → Place
on_file file rank = record { file = file; rank = rank }

-- a fact of all squares of a file on ranks that are near
settled_on_file : (file bound : ℕ) (R : ℕ → Type 0) (G : Place → Type 0) → ((k : ℕ) → Settled (R k))
    → ((k : ℕ) → R k → k < bound)
    → ((t : Place) → Settled (G t)) → Settled ((t : Place) → t.file ≡ file → R t.rank → G t)
settled_on_file file bound R G range low each =
    elim (settled_below bound (λ k. R k × (G (on_file file k) → ⊥))
    (λ k less. settled_both (range k) (settled_not (each (on_file file k))))) [
      | inl found ↦ inr (λ all. found.2.1 (all (on_file file found.0) refl found.2.0))
      | inr none ↦ inl (λ t same near. elim (each t) [
        | inl holds ↦ holds
        | inr fails ↦ absurd
            (none (
              t.rank,
              low t.rank near,
              (near, λ g. fails (subst G (λ i. record { file = sym same i; rank = t.rank }) g)),
            ))
      ])
    ]

settled_fits : (p : Placement) (turn : Side) (s : Place) → Settled (FitsEnPassant p turn s)
settled_fits p turn s =
    settled_like
    (λ h. record { on_board = h.0.0; rank = h.0.1; empty = h.0.2; origin = h.1.0; pawn = h.1.1 })
    (λ r. ((r.on_board, r.rank, r.empty), (r.origin, r.pawn)))
    (settled_both
    (settled_three (on_board_or_not s) (cases_eq s.rank (passed_rank (opposite turn)))
    (settled_man_at p s None))
    (settled_both
    (settled_on_file s.file (s.rank + 2) (λ k. IsForward turn s.rank k) (IsEmpty p)
    (λ k. settled_forward turn s.rank k) (λ k h. forward_low turn s.rank k h) (λ t.
    settled_man_at p t None))
    (settled_on_file s.file (s.rank + 2) (λ k. IsForward turn k s.rank) (λ t. man_at p t
    ≡ Some (pawn_of (opposite turn)))
    (λ k. settled_forward turn k s.rank) (λ k h. forward_near turn k s.rank h)
    (λ t. settled_man_at p t (Some (pawn_of (opposite turn)))))))

-- the rights that are kept
test_of : {A : Type 0} → Settled A → Bool
test_of (inl a) = true
test_of (inr none) = false

test_of-exact : {A : Type 0} (h : Settled A) → (test_of h ≡ true) ↔ A
unfolding test_of
test_of-exact (inl a) = ((λ e. a), (λ x. refl))
test_of-exact (inr none) = ((λ e. absurd (cc)), (λ x. absurd (none x)))

settled_keeps : (p : Placement) (rights : CastlingRights) (side : Side) (wing : Wing)
    → Settled ((has_right rights side wing ≡ true) × AreAtHome p side wing)
settled_keeps p rights side wing =
    settled_both (settled_true (has_right rights side wing))
    (settled_both (settled_man_at p (king_from side) (Some (king_of side)))
    (settled_man_at p (rook_from side wing) (Some (rook_of side))))

kept : Placement → CastlingRights → CastlingRights
kept p rights = record {
  white_king_side = test_of (settled_keeps p rights White KingSide);
  white_queen_side = test_of (settled_keeps p rights White QueenSide);
  black_king_side = test_of (settled_keeps p rights Black KingSide);
  black_queen_side = test_of (settled_keeps p rights Black QueenSide);
}

kept_each : (p : Placement) (rights : CastlingRights) (side : Side) (wing : Wing)
    → (has_right (kept p rights) side wing ≡ true)
    ↔ ((has_right rights side wing ≡ true) × AreAtHome p side wing)
unfolding kept
kept_each p rights White KingSide = test_of-exact (settled_keeps p rights White KingSide)
kept_each p rights White QueenSide = test_of-exact (settled_keeps p rights White QueenSide)
kept_each p rights Black KingSide = test_of-exact (settled_keeps p rights Black KingSide)
kept_each p rights Black QueenSide = test_of-exact (settled_keeps p rights Black QueenSide)

-- the en passant square that is kept
abbrev IsPassing : Placement → Side → Option Place → Option Place → Type 0
IsPassing p turn o kept = (s : Place) → (kept ≡ Some s) ↔ ((o ≡ Some s) × FitsEnPassant p turn s)

passing_at : (p : Placement) (turn : Side) (t : Place) → Settled (FitsEnPassant p turn t)
    → (kept : Option Place) × IsPassing p turn (Some t) kept
passing_at p turn t (inl fits) =
    (Some t, λ s. ((λ e. (e, subst (FitsEnPassant p turn) (same_Some t s e) fits)), (λ h. h.0)))
passing_at p turn t (inr none) = (
  None,
  λ s. (
    (λ e. absurd (cc)),
    (λ h. absurd (none (subst (FitsEnPassant p turn) (sym (same_Some t s h.0)) h.1))),
  ),
)

passing : (p : Placement) (turn : Side) (o : Option Place)
    → (kept : Option Place) × IsPassing p turn o kept
passing p turn None = (None, λ s. ((λ e. absurd (cc)), (λ h. let e = h.0 in absurd (cc))))
passing p turn (Some t) = passing_at p turn t (settled_fits p turn t)

-- ---- the whole text

same_five : (a b c d e f g h : List ℕ) (k l : List (List ℕ)) → a ∷ c ∷ e ∷ g ∷ k ≡ b ∷ d ∷ f ∷ h ∷ l
    → (a ≡ b) × (c ≡ d) × (e ≡ f) × (g ≡ h) × (k ≡ l)
same_five a b c d e f g h k l same = (cc, cc, cc, cc, cc)

abbrev IsSpelled : List ℕ → Type 0
IsSpelled x = (P : State) × SpellsPosition x P

abbrev HasFields : List ℕ → List ℕ → List ℕ → List ℕ → List (List ℕ) → Type 0
HasFields m s r e c =
    (((p : Placement) × SpellsMen m p) × ((side : Side) × (s ≡ side_text side))
    × ((rights : CastlingRights) × GivesRights r rights))
    × (((o : Option Place) × GivesEnPassant e o)
    × ((clock : ℕ) × (number : ℕ) × GiveCounts c clock number))

spelled_by : (x m s r e : List ℕ) (c : List (List ℕ)) → fields_of x ≡ m ∷ s ∷ r ∷ e ∷ c
    → HasFields m s r e c → IsSpelled x
spelled_by x m s r e c is h =
    let p = h.0.0.0 in
    let pass = passing p h.0.1.0 h.1.0.0 in (
      record {
        men = p;
        turn = h.0.1.0;
        rights = kept p h.0.2.0;
        en_passant = pass.0;
        halfmove_clock = h.1.1.0;
        fullmove_number = h.1.1.1;
      },
      record {
        men_field = m;
        side_field = s;
        rights_field = r;
        en_passant_field = e;
        count_fields = c;
        fields = is;
        men = h.0.0.1;
        turn = h.0.1.1;
        given_rights = h.0.2.0;
        rights_given = h.0.2.1;
        rights = kept_each p h.0.2.0;
        given_en_passant = h.1.0.0;
        en_passant_given = h.1.0.1;
        en_passant = pass.1;
        counts = h.1.1.2;
      },
    )

fields_by : (x m s r e : List ℕ) (c : List (List ℕ)) → fields_of x ≡ m ∷ s ∷ r ∷ e ∷ c → IsSpelled x
    → HasFields m s r e c
fields_by x m s r e c is (P, h) =
    let same = same_five _ _ _ _ _ _ _ _ _ _ (sym h.fields ∙ is) in (
      (
        (P.men, subst (λ f. SpellsMen f P.men) same.0 h.men),
        (P.turn, sym same.1 ∙ h.turn),
        (h.given_rights, subst (λ f. GivesRights f h.given_rights) same.2 h.rights_given),
      ),
      (
        (
          h.given_en_passant,
          subst (λ f. GivesEnPassant f h.given_en_passant) same.3 h.en_passant_given,
        ),
        (
          P.halfmove_clock,
          P.fullmove_number,
          subst (λ f. GiveCounts f P.halfmove_clock P.fullmove_number) same.4 h.counts,
        ),
      ),
    )

settled_with : (x : List ℕ) (fields : List (List ℕ)) → fields_of x ≡ fields → Settled (IsSpelled x)
settled_with x [] is = inr (λ h. let e = sym is ∙ h.1.fields in cc)
settled_with x (m ∷ []) is = inr (λ h. let e = sym is ∙ h.1.fields in cc)
settled_with x (m ∷ s ∷ []) is = inr (λ h. let e = sym is ∙ h.1.fields in cc)
settled_with x (m ∷ s ∷ r ∷ []) is = inr (λ h. let e = sym is ∙ h.1.fields in cc)
settled_with x (m ∷ s ∷ r ∷ e ∷ c) is =
    settled_like (spelled_by x m s r e c is) (fields_by x m s r e c is)
    (settled_both
    (settled_three (settled_men m)
    (search_side (λ side. s ≡ side_text side) (λ side. cases_bytes s (side_text side)))
    (settled_given r))
    (settled_both (settled_en_passant e) (settled_counts c)))

-- ---- the faults of a position

settled_alone : (p : Placement) (man : Man) (s : Place) → AreOnBoard p
    → Settled ((t : Place) → man_at p t ≡ Some man → t ≡ s)
settled_alone p man s on_board = elim other [
  | inl found ↦ inr (λ all. found.2.1 (all found.0 found.2.0))
  | inr none ↦ inl (λ t here. elim (cases_place t s) [
    | inl same ↦ same
    | inr apart ↦ absurd (none (t, on_board t man here, (here, apart)))
  ])
]
  where
    other : Settled ((t : Place) × IsOnBoard t × ((man_at p t ≡ Some man) × (t ≢ s)))
    other =
        search_square (λ t. (man_at p t ≡ Some man) × (t ≢ s))
        (λ t. settled_both (settled_man_at p t (Some man)) (settled_not (cases_place t s)))

settled_king : (p : Placement) (side : Side) → AreOnBoard p
    → Settled ((s : Place) × IsOnlyKing p side s)
settled_king p side on_board =
    settled_like (λ h. (h.0, record { here = h.2.0; only = h.2.1 }))
    (λ h. (h.0, on_board h.0 (king_of side) h.1.here, (h.1.here, h.1.only)))
    (search_square (λ s. (man_at p s ≡ Some (king_of side))
    × ((t : Place) → man_at p t ≡ Some (king_of side) → t ≡ s))
    (λ s. settled_both (settled_man_at p s (Some (king_of side)))
    (settled_alone p (king_of side) s on_board)))

settled_kings : (P : State) → AreOnBoard P.men → Settled (HasWrongKings P)
settled_kings P on_board =
    search_side (λ side. (s : Place) → IsOnlyKing P.men side s → ⊥)
    (λ side. settled_like (λ none s h. none (s, h)) (λ none h.
    none h.0 h.1) (settled_not (settled_king P.men side on_board)))

settled_pawns : (P : State) → AreOnBoard P.men → Settled (HasWrongPawns P)
settled_pawns P on_board =
    settled_like (λ h. (h.0, h.1.0, h.1.2.0, h.1.2.1)) (λ h.
    (h.0, (h.1, on_board h.1 (pawn_of h.0) h.2, (h.2, h.3))))
    (search_side (λ side. (s : Place) × IsOnBoard s
    × ((man_at P.men s ≡ Some (pawn_of side)) × ((s.rank ≡ 1) ⊎ (s.rank ≡ 8))))
    (λ side. search_square (λ s. (man_at P.men s ≡ Some (pawn_of side))
    × ((s.rank ≡ 1) ⊎ (s.rank ≡ 8)))
    (λ s. settled_both (settled_man_at P.men s (Some (pawn_of side)))
    (settled_either (cases_eq s.rank 1) (cases_eq s.rank 8)))))

pub fen_answer : EachTextIsReadOrRefused
fen_answer x = elim (settled_with x (fields_of x) refl) [
  | inr none ↦ inr (Syntax, λ P h. none (P, h))
  | inl found ↦ elim (settled_kings found.0 found.1.men.on_board) [
    | inl wrong ↦ inr (Kings, (found.0, found.1, wrong))
    | inr kings ↦ elim (settled_pawns found.0 found.1.men.on_board) [
      | inl wrong ↦ inr (Pawns, (found.0, found.1, kings, wrong))
      | inr pawns ↦ elim (settled_check found.0.men (opposite found.0.turn) found.1.men.on_board) [
        | inl wrong ↦ inr (InCheck, (found.0, found.1, kings, pawns, wrong))
        | inr quiet ↦ inl (
          found.0,
          record { spells = found.1; kings = kings; pawns = pawns; quiet = quiet },
        )
      ]
    ]
  ]
]
