-- Searches over the squares, ways, kinds, wings, sides and men of chess, and the equality of its
-- values.
use Rattle.chess.proofs.Common.{◌≡◌, ◌⊎◌, Bool, true, false, Option, Some, None, inl, inr, refl}
use Rattle.chess.proofs.Common.{subst, sym, Place, IsOnBoard, square_at, index_of}
use Rattle.chess.proofs.Common.{square_at-index_of, index_of-below, on_board-square_at, Direction}
use Rattle.chess.proofs.Common.{Man, Side, Kind, Wing, KingSide, QueenSide, Move}
use Rattle.chess.specs.Shared.Codes.{is_black_side, side_of, side_back, kind_bits, kind_by}
use Rattle.chess.specs.Shared.Codes.{kind_back}
use Rattle.chess.proofs.AxisSteps.{Axis, Up, Level, Down, file_step, rank_step, way_of, way_back}
use Rattle.chess.proofs.PlaceFacts.{cases_place}
use Rattle.chess.proofs.Settled.{settled_like, settled_either, settled_below, Search, SearchIn}
use Rattle.chess.proofs.Settled.{search_by, search_pair, search_bool, search_option, Cases}
use Rattle.chess.proofs.Settled.{cases_by, cases_pair, cases_bool, cases_option}

-- ---- searches

pub search_square : SearchIn Place IsOnBoard
search_square F each =
    settled_like (λ h. (square_at h.0, on_board-square_at h.0 h.1, h.2))
    (λ h. (index_of h.0, index_of-below h.0 h.1, subst F (sym (square_at-index_of h.0 h.1)) h.2))
    (settled_below 64 (λ k. F (square_at k)) (λ k less. each (square_at k)))

abbrev axis_code : Axis → Option Bool
axis_code Up = Some true
axis_code Level = None
axis_code Down = Some false

abbrev axis_by : Option Bool → Axis
axis_by (Some true) = Up
axis_by (Some false) = Down
axis_by None = Level

axis_back : (x : Axis) → axis_by (axis_code x) ≡ x
axis_back Up = refl
axis_back _ = refl

search_axis : Search Axis
search_axis = search_by axis_code axis_by axis_back (search_option search_bool)

pub search_way : Search Direction
search_way =
    search_by (λ way. (file_step way, rank_step way)) (λ p.
    way_of p.0 p.1) way_back (search_pair search_axis search_axis)

a_wing : (F : Wing → Type 0) → F KingSide ⊎ F QueenSide → (wing : Wing) × F wing
a_wing F (inl h) = (KingSide, h)
a_wing F (inr h) = (QueenSide, h)

which_wing : (F : Wing → Type 0) (wing : Wing) → F wing → F KingSide ⊎ F QueenSide
which_wing F KingSide h = inl h
which_wing F QueenSide h = inr h

pub search_wing : Search Wing
search_wing F each =
    settled_like (a_wing F) (λ p.
    which_wing F p.0 p.1) (settled_either (each KingSide) (each QueenSide))

pub search_side : Search Side
search_side = search_by is_black_side side_of side_back search_bool

pub search_kind : Search Kind
search_kind =
    search_by kind_bits (λ b. kind_by b.0 b.1.0 b.1.1) kind_back
    (search_pair search_bool (search_pair search_bool search_bool))

pub search_any_kind : Search (Option Kind)
search_any_kind = search_option search_kind

pub search_man : Search Man
search_man =
    search_by {B = Side × Kind} (λ m. (m.side, m.kind)) (λ p.
    record { side = p.0; kind = p.1 }) (λ m. refl)
    (search_pair search_side search_kind)

-- ---- equality

pub cases_kind : Cases Kind
cases_kind =
    cases_by kind_bits (λ b. kind_by b.0 b.1.0 b.1.1) kind_back
    (cases_pair cases_bool (cases_pair cases_bool cases_bool))

pub cases_side : Cases Side
cases_side = cases_by is_black_side side_of side_back cases_bool

pub cases_man : Cases Man
cases_man =
    cases_by {B = Side × Kind} (λ m. (m.side, m.kind)) (λ p.
    record { side = p.0; kind = p.1 }) (λ m. refl)
    (cases_pair cases_side cases_kind)

pub cases_wing : Cases Wing
cases_wing KingSide KingSide = inl refl
cases_wing KingSide QueenSide = inr (λ e. cc)
cases_wing QueenSide KingSide = inr (λ e. cc)
cases_wing QueenSide QueenSide = inl refl

pub cases_move : Cases Move
cases_move =
    cases_by {B = Place × (Place × (Option Kind × Option Wing))} (λ m.
    (m.from, (m.to, (m.promote, m.castle))))
    (λ p. record { from = p.0; to = p.1.0; promote = p.1.1.0; castle = p.1.1.1 }) (λ m. refl)
    (cases_pair cases_place
    (cases_pair cases_place (cases_pair (cases_option cases_kind) (cases_option cases_wing))))
