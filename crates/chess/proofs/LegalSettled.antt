-- Whether a move is legal is settled, where men stand on the board alone.
use Rattle.chess.proofs.Common.{◌≡◌, ℕ, suc, ◌+◌, ◌<◌, ◌≤◌, Option, Some, None, refl, sym, subst}
use Rattle.chess.proofs.Common.{inl, inr, arith, cases_eq, Place, IsStraight, IsAhead, Placement}
use Rattle.chess.proofs.Common.{man_at, AreOnBoard, opposite, IsOccupiedBy, IsEmpty, IsClearFor}
use Rattle.chess.proofs.Common.{IsOnRay, IsForward, Reaches, IsAttacked, State, king_of, home_rank}
use Rattle.chess.proofs.Common.{pawn_rank, has_right, king_from, king_to, rook_to, IsCheck}
use Rattle.chess.proofs.Common.{IsDoubleStep, IsPawnMove, IsPromotionKind, IsPromotion, Promotes}
use Rattle.chess.proofs.Common.{IsBetween, Castles, IsKingMove, Goes, IsPseudoLegal, men_after}
use Rattle.chess.proofs.Common.{IsUnbarred, IsLegal, on_board_or_not, Direction, Man, Side, White}
use Rattle.chess.proofs.Common.{Black, Kind, King, Queen, Rook, Bishop, Knight, Pawn, Wing}
use Rattle.chess.proofs.Common.{KingSide, QueenSide, Move}
use Rattle.chess.proofs.AfterFacts.{after_on_board}
use Rattle.chess.proofs.AxisSteps.{Axis, Up, Level, Down, file_step, rank_step, IsAxisAhead}
use Rattle.chess.proofs.AxisSteps.{to_axes, of_axes, steps_gap, straight_or_not}
use Rattle.chess.proofs.PlaceFacts.{cases_place}
use Rattle.chess.proofs.Settled.{Settled, settled_like, settled_not, settled_both}
use Rattle.chess.proofs.Settled.{settled_three}
use Rattle.chess.proofs.Settled.{settled_either, settled_le, settled_true, settled_below}
use Rattle.chess.proofs.Settled.{settled_held, cases_option}
use Rattle.chess.proofs.Searches.{search_square, search_way, cases_kind, cases_side, cases_man}
use Rattle.chess.proofs.Searches.{cases_wing}

pub settled_man_at : (p : Placement) (s : Place) (o : Option Man) → Settled (man_at p s ≡ o)
settled_man_at p s o = cases_option cases_man (man_at p s) o

settled_empty : (p : Placement) (s : Place) → Settled (IsEmpty p s)
settled_empty p s = settled_man_at p s None

settled_occupied_by : (p : Placement) (side : Side) (s : Place) → Settled (IsOccupiedBy p side s)
settled_occupied_by p side s =
    settled_held (man_at p s) (λ man. man.side ≡ side) (λ man. cases_side man.side side)

-- ---- attacks

settled_axis : (x : Axis) (k a b : ℕ) → Settled (IsAxisAhead x k a b)
settled_axis Up k a b = cases_eq b (a + k)
settled_axis Level k a b = cases_eq b a
settled_axis Down k a b = cases_eq (b + k) a

settled_ahead : (way : Direction) (k : ℕ) (s t : Place) → Settled (IsAhead way k s t)
settled_ahead way k s t =
    settled_like (of_axes way k s t) (to_axes way k s t)
    (settled_both (settled_axis (file_step way) k s.file t.file)
    (settled_axis (rank_step way) k s.rank t.rank))

abbrev most_steps : Place → Place → ℕ
most_steps s t = suc (s.file + s.rank + t.file + t.rank)

few_steps : (way : Direction) (k : ℕ) (s t : Place) → IsAhead way k s t → k < most_steps s t
few_steps way k s t a = let most = steps_gap way k s t a in omega arith

abbrev IsManAt : Placement → Direction → Place → Place → ℕ → Type 0
IsManAt p way s u j = (1 ≤ j) × IsAhead way j s u × (IsEmpty p u → ⊥)

abbrev IsManBefore : Placement → Direction → Place → ℕ → Place → Type 0
IsManBefore p way s steps u = (j : ℕ) × (j < steps) × IsManAt p way s u j

settled_before : (p : Placement) (way : Direction) (s : Place) (steps : ℕ) (u : Place)
    → Settled (IsManBefore p way s steps u)
settled_before p way s steps u =
    settled_below steps (IsManAt p way s u) (λ j less.
    settled_three (settled_le 1 j) (settled_ahead way j s u) (settled_not (settled_empty p u)))

settled_clear : (p : Placement) (way : Direction) (s : Place) (steps : ℕ)
    → Settled (IsClearFor p way s steps)
settled_clear p way s steps =
    elim (search_square (IsManBefore p way s steps) (λ u. settled_before p way s steps u)) [
      | inl found ↦ inr (λ clear.
          found.2.2.2 (clear found.2.0 found.0 found.1 found.2.2.0 found.2.1 found.2.2.1))
      | inr none ↦ inl (λ j u on low less ahead. elim (settled_empty p u) [
        | inl empty ↦ empty
        | inr full ↦ absurd (none (u, on, (j, less, (low, ahead, full))))
      ])
    ]

settled_ray : (p : Placement) (way : Direction) (s t : Place) → Settled (IsOnRay p way s t)
settled_ray p way s t =
    settled_like (λ h. record { steps = h.0; far = h.2.0; ahead = h.2.1; clear = h.2.2 })
    (λ r. (r.steps, few_steps way r.steps s t r.ahead, (r.far, r.ahead, r.clear)))
    (settled_below (most_steps s t) (λ k. (1 ≤ k) × IsAhead way k s t × IsClearFor p way s k)
    (λ k less. settled_three (settled_le 1 k) (settled_ahead way k s t) (settled_clear p way s k)))

-- a step of a pawn
pub settled_forward : (side : Side) (a b : ℕ) → Settled (IsForward side a b)
settled_forward White a b = cases_eq b (a + 1)
settled_forward Black a b = cases_eq a (b + 1)

pub forward_low : (side : Side) (a b : ℕ) → IsForward side a b → b < a + 2
forward_low White a b e = omega arith
forward_low Black a b e = omega arith

pub settled_reaches : (p : Placement) (side : Side) (kind : Kind) (s t : Place)
    → Settled (Reaches p side kind s t)
settled_reaches p side King s t = settled_three (settled_le _ 1) (settled_le _ 1) (settled_le 1 _)
settled_reaches p side Queen s t =
    search_way (λ way. IsOnRay p way s t) (λ way. settled_ray p way s t)
settled_reaches p side Rook s t =
    settled_like (λ h. (h.0, h.1.0, h.1.1)) (λ h. (h.0, (h.1, h.2)))
    (search_way (λ way. IsStraight way × IsOnRay p way s t) (λ way.
    settled_both (straight_or_not way) (settled_ray p way s t)))
settled_reaches p side Bishop s t =
    settled_like (λ h. (h.0, h.1.0, h.1.1)) (λ h. (h.0, (h.1, h.2)))
    (search_way (λ way. (¬ IsStraight way) × IsOnRay p way s t)
    (λ way. settled_both (settled_not (straight_or_not way)) (settled_ray p way s t)))
settled_reaches p side Knight s t =
    settled_either (settled_both (cases_eq _ 1) (cases_eq _ 2))
    (settled_both (cases_eq _ 2) (cases_eq _ 1))
settled_reaches p side Pawn s t = settled_both (cases_eq _ 1) (settled_forward side s.rank t.rank)

settled_attacked : (p : Placement) (side : Side) (t : Place) → AreOnBoard p
    → Settled (IsAttacked p side t)
settled_attacked p side t on_board =
    settled_like (λ h.
    record { from = h.0; man = h.2.0; here = h.2.1; own = h.2.2.0; reaches = h.2.2.1 })
    (λ r. (r.from, on_board r.from r.man r.here, (r.man, r.here, (r.own, r.reaches))))
    (search_square (λ s. (man : Man) × (man_at p s ≡ Some man)
    × ((man.side ≡ side) × Reaches p side man.kind s t))
    (λ s. settled_held (man_at p s) (λ man. (man.side ≡ side) × Reaches p side man.kind s t)
    (λ man. settled_both (cases_side man.side side) (settled_reaches p side man.kind s t))))

pub settled_check : (p : Placement) (side : Side) → AreOnBoard p → Settled (IsCheck p side)
settled_check p side on_board =
    settled_like (λ h. (h.0, h.2.0, h.2.1)) (λ h.
    (h.0, on_board h.0 (king_of side) h.1, (h.1, h.2)))
    (search_square (λ s. (man_at p s ≡ Some (king_of side)) × IsAttacked p (opposite side) s)
    (λ s. settled_both (settled_man_at p s (Some (king_of side)))
    (settled_attacked p (opposite side) s on_board)))

-- ---- moves

-- the square that a double step passes over, by its rank
abbrev IsPassed : State → Place → Place → ℕ → Type 0
IsPassed P s t k = IsForward P.turn s.rank k × IsForward P.turn k t.rank
    × IsEmpty P.men (record { file = s.file; rank = k })

settled_passed : (P : State) (s t : Place) (k : ℕ) → Settled (IsPassed P s t k)
settled_passed P s t k =
    settled_three (settled_forward P.turn s.rank k) (settled_forward P.turn k t.rank)
    (settled_empty P.men (record { file = s.file; rank = k }))

settled_double : (P : State) (s t : Place) → Settled (IsDoubleStep P s t)
settled_double P s t =
    settled_like (λ h. record {
      file = h.0;
      from_first_rank = h.1;
      passed = record { file = s.file; rank = h.2.0.0 };
      same_file = refl;
      first = h.2.0.1.0;
      second = h.2.0.1.1;
      empty = h.2.0.1.2;
      end_empty = h.2.1;
    })
    (λ r. (
      r.file,
      r.from_first_rank,
      (
        (
          r.passed.rank,
          (
            r.first,
            r.second,
            subst (IsEmpty P.men) (λ i. record { file = r.same_file i; rank = r.passed.rank })
                r.empty,
          ),
        ),
        r.end_empty,
      ),
    ))
    (settled_three (cases_eq t.file s.file) (cases_eq s.rank (pawn_rank P.turn))
    (settled_both over (settled_empty P.men t)))
  where
    over : Settled ((k : ℕ) × IsPassed P s t k)
    over =
        settled_like (λ h. (h.0, h.2)) (λ h. (h.0, forward_low P.turn s.rank h.0 h.1.0, h.1))
        (settled_below (s.rank + 2) (IsPassed P s t) (λ k less. settled_passed P s t k))

pub settled_promotion_kind : (kind : Kind) → Settled (IsPromotionKind kind)
settled_promotion_kind kind =
    settled_either (cases_kind kind Queen) (settled_either (cases_kind kind Rook)
    (settled_either (cases_kind kind Bishop) (cases_kind kind Knight)))

settled_promotion : (promote : Option Kind) → Settled (IsPromotion promote)
settled_promotion None = inr (λ h. h)
settled_promotion (Some kind) = settled_promotion_kind kind

settled_promotes : (side : Side) (t : Place) (promote : Option Kind)
    → Settled (Promotes side t promote)
settled_promotes side t promote =
    settled_either
    (settled_both (cases_eq t.rank (home_rank (opposite side))) (settled_promotion promote))
    (settled_both (settled_not (cases_eq t.rank (home_rank (opposite side))))
    (cases_option cases_kind promote None))

settled_pawn_move : (P : State) (s t : Place) → Settled (IsPawnMove P s t)
settled_pawn_move P s t =
    settled_either
    (settled_three (cases_eq t.file s.file) (settled_forward P.turn s.rank t.rank)
    (settled_empty P.men t))
    (settled_either (settled_double P s t)
    (settled_both (settled_reaches P.men P.turn Pawn s t)
    (settled_either (settled_occupied_by P.men (opposite P.turn) t)
    (cases_option cases_place P.en_passant (Some t)))))

settled_between : (wing : Wing) (file : ℕ) → Settled (IsBetween wing file)
settled_between KingSide file = settled_both (settled_le 6 file) (settled_le file 7)
settled_between QueenSide file = settled_both (settled_le 2 file) (settled_le file 4)

between_low : (wing : Wing) (file : ℕ) → IsBetween wing file → file < 8
between_low KingSide file h = let a = h.1 in omega arith
between_low QueenSide file h = let a = h.1 in omega arith

abbrev IsFullAt : State → Wing → ℕ → Type 0
IsFullAt P wing file = IsBetween wing file
    × (IsEmpty P.men (record { file = file; rank = home_rank P.turn }) → ⊥)

settled_full_at : (P : State) (wing : Wing) (file : ℕ) → Settled (IsFullAt P wing file)
settled_full_at P wing file =
    settled_both (settled_between wing file)
    (settled_not (settled_empty P.men (record { file = file; rank = home_rank P.turn })))

settled_all_empty : (P : State) (wing : Wing)
    → Settled ((s : Place) → s.rank ≡ home_rank P.turn → IsBetween wing s.file → IsEmpty P.men s)
settled_all_empty P wing =
    elim (settled_below 8 (IsFullAt P wing) (λ k less. settled_full_at P wing k)) [
      | inl found ↦ inr (λ all.
          found.2.1 (all (record { file = found.0; rank = home_rank P.turn }) refl found.2.0))
      | inr none ↦ inl (λ s rank between. elim (settled_empty P.men s) [
        | inl empty ↦ empty
        | inr full ↦
            let here = λ (e : IsEmpty P.men (record { file = s.file; rank = home_rank P.turn })).
            full (subst (IsEmpty P.men) (λ i. record { file = s.file; rank = sym rank i }) e) in
            absurd (none (s.file, between_low wing s.file between, (between, here)))
      ])
    ]

settled_castles : (P : State) (wing : Wing) (m : Move) → Settled (Castles P wing m)
settled_castles P wing m =
    settled_like (λ h. record { from = h.0; to = h.1; right = h.2.0; empty = h.2.1 }) (λ r.
    (r.from, r.to, (r.right, r.empty)))
    (settled_three (cases_place m.from (king_from P.turn)) (cases_place m.to (king_to P.turn wing))
    (settled_both (settled_true (has_right P.rights P.turn wing)) (settled_all_empty P wing)))

settled_king_move : (P : State) (m : Move) (castle : Option Wing) → Settled (IsKingMove P m castle)
settled_king_move P m None = settled_reaches P.men P.turn King m.from m.to
settled_king_move P m (Some wing) = settled_castles P wing m

settled_goes : (P : State) (m : Move) (kind : Kind) → Settled (Goes P m kind)
settled_goes P m kind = go kind
  where
    no_castling : Settled (m.castle ≡ None)
    no_castling = cases_option cases_wing m.castle None

    no_promotion : Settled (m.promote ≡ None)
    no_promotion = cases_option cases_kind m.promote None

    reaches : (other : Kind) → Settled (Reaches P.men P.turn other m.from m.to)
    reaches other = settled_reaches P.men P.turn other m.from m.to

    go : (other : Kind) → Settled (Goes P m other)
    go Pawn =
        settled_three no_castling (settled_pawn_move P m.from m.to)
        (settled_promotes P.turn m.to m.promote)
    go King = settled_both no_promotion (settled_king_move P m m.castle)
    go Queen = settled_three no_castling no_promotion (reaches Queen)
    go Rook = settled_three no_castling no_promotion (reaches Rook)
    go Bishop = settled_three no_castling no_promotion (reaches Bishop)
    go Knight = settled_three no_castling no_promotion (reaches Knight)

settled_pseudo_legal : (P : State) (m : Move) → Settled (IsPseudoLegal P m)
settled_pseudo_legal P m =
    settled_like
    (λ h. record {
      from = h.0.0;
      to = h.0.1;
      man = h.1.0;
      here = h.1.1;
      own = h.1.2.0;
      free =
          h.0.2;
      goes = h.1.2.1;
    })
    (λ r. ((r.from, r.to, r.free), (r.man, r.here, (r.own, r.goes))))
    (settled_both
    (settled_three (on_board_or_not m.from) (on_board_or_not m.to)
    (settled_not (settled_occupied_by P.men P.turn m.to)))
    (settled_held (man_at P.men m.from) (λ man. (man.side ≡ P.turn) × Goes P m man.kind)
    (λ man. settled_both (cases_side man.side P.turn) (settled_goes P m man.kind))))

settled_unbarred : (P : State) (castle : Option Wing) → AreOnBoard P.men
    → Settled (IsUnbarred P castle)
settled_unbarred P None on_board = inl tt
settled_unbarred P (Some wing) on_board =
    settled_not (settled_either (attacked (king_from P.turn))
    (settled_either (attacked (rook_to P.turn wing)) (attacked (king_to P.turn wing))))
  where
    attacked : (s : Place) → Settled (IsAttacked P.men (opposite P.turn) s)
    attacked s = settled_attacked P.men (opposite P.turn) s on_board

pub settled_legal : (P : State) (m : Move) → AreOnBoard P.men → Settled (IsLegal P m)
settled_legal P m on_board = go (settled_pseudo_legal P m)
  where
    go : Settled (IsPseudoLegal P m) → Settled (IsLegal P m)
    go (inr none) = inr (λ l. none l.pseudo_legal)
    go (inl rules) =
        settled_like (λ h. record { pseudo_legal = rules; safe = h.0; unbarred = h.1 }) (λ l.
        (l.safe, l.unbarred))
        (settled_both
        (settled_not
        (settled_check (men_after P m) P.turn (after_on_board P m on_board rules.to)))
        (settled_unbarred P m.castle on_board))
