-- Whether two positions are the same is settled, where men stand on the board alone.
use Rattle.std.specs.FinMap.{entries, same_entries_map}
use Rattle.chess.proofs.Common.{◌↔◌, Bool, List, [], ◌∷◌, Option, refl, inl, inr, ap, subst}
use Rattle.chess.proofs.Common.{Place, IsOnBoard, Placement, AreOnBoard, State, is_en_passant}
use Rattle.chess.proofs.Common.{CastlingRights, Kind, Wing, Move}
use Rattle.chess.specs.Public.Moves.{TakesEnPassant}
use Rattle.chess.specs.Public.Keys.{IsSamePosition}
use Rattle.chess.proofs.LegalSettled.{settled_legal}
use Rattle.chess.proofs.PlaceFacts.{cases_place}
use Rattle.chess.proofs.Searches.{search_square, search_wing, search_any_kind, cases_side}
use Rattle.chess.proofs.Searches.{cases_man}
use Rattle.chess.proofs.Settled.{Settled, settled_like, settled_not, settled_both, settled_true}
use Rattle.chess.proofs.Settled.{SearchIn, IsAny, search_any, search_both, search_pair}
use Rattle.chess.proofs.Settled.{search_option, Cases, cases_bool, cases_by, cases_pair}

-- ---- men and rights

cases_list : {A : Type 0} → Cases A → Cases (List A)
cases_list cases [] [] = inl refl
cases_list cases [] (b ∷ y) = inr (λ e. cc)
cases_list cases (a ∷ x) [] = inr (λ e. cc)
cases_list cases (a ∷ x) (b ∷ y) = elim (cases a b) [
  | inr none ↦ inr (λ e. none cc)
  | inl same ↦ elim (cases_list cases x y) [
    | inr none ↦ inr (λ e. none cc)
    | inl rest ↦ inl (λ i. same i ∷ rest i)
  ]
]

pub cases_men : Cases Placement
cases_men p q = elim (cases_list (cases_pair cases_place cases_man) (entries p) (entries q)) [
  | inl same ↦ inl (same_entries_map p q same)
  | inr none ↦ inr (λ same. none (ap entries same))
]

cases_rights : Cases CastlingRights
cases_rights =
    cases_by {B = Bool × (Bool × (Bool × Bool))}
    (λ r. (r.white_king_side, (r.white_queen_side, (r.black_king_side, r.black_queen_side))))
    (λ p. record {
      white_king_side = p.0;
      white_queen_side = p.1.0;
      black_king_side = p.1.1.0;
      black_queen_side = p.1.1.1;
    }) (λ r. refl)
    (cases_pair cases_bool (cases_pair cases_bool (cases_pair cases_bool cases_bool)))

-- ---- captures en passant

settled_takes : (P : State) (m : Move) → AreOnBoard P.men → Settled (TakesEnPassant P m)
settled_takes P m on_board =
    settled_like (λ h. record { capture = h.0; legal = h.1 })
    (λ takes. (takes.capture, takes.legal))
    (settled_both (settled_true (is_en_passant P m)) (settled_legal P m on_board))

abbrev Ends : Type 0
Ends = Place × Place

abbrev AreOn : Ends → Type 0
AreOn ends = IsOnBoard ends.0 × IsOnBoard ends.1

abbrev How : Type 0
How = Option Kind × Option Wing

abbrev move_by : Ends × How → Move
move_by c = record { from = c.0.0; to = c.0.1; promote = c.1.0; castle = c.1.1 }

search_move : SearchIn (Ends × How) (λ c. AreOn c.0 × IsAny c.1)
search_move =
    search_both AreOn IsAny (search_both IsOnBoard IsOnBoard search_square search_square)
    (search_any (search_pair search_any_kind (search_option search_wing)))

settled_taken : (P Q : State) → AreOnBoard P.men → AreOnBoard Q.men
    → Settled ((m : Move) → TakesEnPassant P m → TakesEnPassant Q m)
settled_taken P Q on also =
    elim (search_move (λ c. TakesEnPassant P (move_by c) × (TakesEnPassant Q (move_by c) → ⊥))
    (λ c. settled_both (settled_takes P (move_by c) on)
    (settled_not (settled_takes Q (move_by c) also)))) [
      | inl found ↦ inr (λ all. found.2.1 (all (move_by found.0) found.2.0))
      | inr none ↦ inl (λ m takes. elim (settled_takes Q m also) [
        | inl is ↦ is
        | inr fails ↦ absurd (none (
          ((m.from, m.to), (m.promote, m.castle)),
          ((takes.legal.pseudo_legal.from, takes.legal.pseudo_legal.to), tt),
          (takes, fails),
        ))
      ])
    ]

pub settled_captures : (P Q : State) → AreOnBoard P.men → AreOnBoard Q.men
    → Settled ((m : Move) → TakesEnPassant P m ↔ TakesEnPassant Q m)
settled_captures P Q on also =
    settled_like (λ both m. (both.0 m, both.1 m)) (λ each. ((λ m. (each m).0), (λ m. (each m).1)))
    (settled_both (settled_taken P Q on also) (settled_taken Q P also on))

-- ---- positions

pub settled_same : (P Q : State) → AreOnBoard P.men → Settled (IsSamePosition P Q)
settled_same P Q on = elim (cases_men P.men Q.men) [
  | inr other ↦ inr (λ same. other same.men)
  | inl men ↦
      settled_like
      (λ h. record { men = men; turn = h.0; rights = h.1.0; en_passant = h.1.1 })
      (λ same. (same.turn, (same.rights, same.en_passant)))
      (settled_both (cases_side P.turn Q.turn)
      (settled_both (cases_rights P.rights Q.rights)
      (settled_captures P Q on (subst AreOnBoard men on))))
]
