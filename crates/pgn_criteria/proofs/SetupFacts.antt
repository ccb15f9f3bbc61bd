-- Whether a position is one that is asked for by fields of a FEN: kind by kind, right by right, and
-- by the moves that take a pawn en passant.
use Rattle.std.proofs.Common.{◌≡◌, ◌<◌, ◌≤◌, ℕ, Bool, true, false, Option, Some}
use Rattle.std.proofs.Common.{None, refl, sym, ◌∙◌, subst, ap, inl, inr, arith, IsTrue, length}
use Rattle.std.specs.Prelude.{◌↔◌, ◌⊎◌, ◌+◌, ◌-◌, ◌&&◌}
use Rattle.std.specs.Bool.{beq}
use Rattle.std.proofs.lemmas.Bool.{and_parts, and_from, cases_eq}
use Rattle.std.specs.List.{slice_get}
use Rattle.std.proofs.lemmas.Option.{slice_get_within}
use Rattle.chess.specs.Public.Squares.{Place, IsOnBoard, gap}
use Rattle.chess.specs.Public.Placements.{Placement, man_at, AreOnBoard}
use Rattle.chess.specs.Public.Positions.{State, has_right}
use Rattle.chess.specs.Public.Moves.{TakesEnPassant}
use Rattle.chess.specs.Shared.CellFacts.{same_men, on_board_or_not}
use Rattle.chess.specs.declared.board.man.CastlingRights.{CastlingRights}
use Rattle.chess.specs.declared.board.man.Man.{Man}
use Rattle.chess.specs.declared.board.man.Kind.{Kind}
use Rattle.chess.specs.declared.board.man.Kind.TheVariants.{King, Queen, Rook, Bishop, Knight, Pawn}
use Rattle.chess.specs.declared.board.man.Side.{Side}
use Rattle.chess.specs.declared.board.man.Side.TheVariants.{White, Black}
use Rattle.chess.specs.declared.board.man.Wing.{Wing}
use Rattle.chess.specs.declared.board.man.Wing.TheVariants.{KingSide, QueenSide}
use Rattle.chess.specs.declared.moves.Move.{Move}
use Rattle.chess.proofs.EnPassantFacts.{captures}
use Rattle.chess.proofs.SameSettled.{cases_men, settled_captures}
use Rattle.chess.proofs.Searches.{search_side, search_wing, cases_side}
use Rattle.chess.proofs.Settled.{Settled, settled_like, settled_not, settled_both}
use Rattle.chess.proofs.Settled.{settled_implies, settled_le, Search, cases_bool}
use Rattle.pgn_game.specs.Public.Replays.{Replay}
use Rattle.pgn_criteria.specs.Public.Setups.{IsAlike, IsSetUp}
use Rattle.pgn_criteria.specs.Private.MenAlike.{StandsAlike, KindAlike}
use Rattle.pgn_criteria.specs.declared.setup.Setup.{Setup}

-- ---- men

abbrev of : Side → Kind → Man
of side kind = record { side = side; kind = kind }

each_side : (p q : Placement) (kind : Kind) → StandsAlike p q (of White kind)
    → StandsAlike p q (of Black kind) → KindAlike p q kind
each_side p q kind white black White = white
each_side p q kind white black Black = black

-- the men of a kind, where those of White are alike, and where they are not
pub kind_both : (p q : Placement) (kind : Kind) (white black : Bool)
    → (IsTrue white ↔ StandsAlike p q (of White kind)) → white ≡ true
    → (IsTrue black ↔ StandsAlike p q (of Black kind)) → IsTrue black ↔ KindAlike p q kind
kind_both p q kind white black first is second =
    ((λ t. each_side p q kind (first.0 is) (second.0 t)), (λ both. second.1 (both Black)))

pub kind_none : (p q : Placement) (kind : Kind) (white : Bool)
    → (IsTrue white ↔ StandsAlike p q (of White kind)) → white ≡ false
    → IsTrue white ↔ KindAlike p q kind
kind_none p q kind white first is =
    ((λ t. let clash : true ≡ false = sym t ∙ is in cc), (λ both. first.1 (both White)))

-- all men
same_man : (first second : Option Man) → ((man : Man) → (first ≡ Some man) ↔ (second ≡ Some man))
    → first ≡ second
same_man None None each = refl
same_man (Some man) second each = sym ((each man).0 refl)
same_man None (Some man) each = (each man).1 refl

abbrev pub AreMenAlike : Placement → Placement → Type 0
AreMenAlike p q = (s : Place) → IsOnBoard s → man_at p s ≡ man_at q s

pub men_alike : (p q : Placement) → ((kind : Kind) → KindAlike p q kind) → AreMenAlike p q
men_alike p q each s on_board =
    same_man (man_at p s) (man_at q s) (λ man. each man.kind man.side s on_board)

pub kinds_alike : (p q : Placement) → AreMenAlike p q → (kind : Kind) → KindAlike p q kind
kinds_alike p q alike kind side s on_board =
    ((λ is. sym (alike s on_board) ∙ is), (λ is. alike s on_board ∙ is))

-- no man stands off the board, so they are the same men
same_at : (p q : Placement) → AreOnBoard p → AreOnBoard q → AreMenAlike p q → (s : Place)
    → man_at p s ≡ man_at q s
same_at p q on also alike s = elim (on_board_or_not s) [
  | inl within ↦ alike s within
  | inr off ↦
      same_man (man_at p s) (man_at q s) (λ man.
      ((λ is. absurd (off (on s man is))), (λ is. absurd (off (also s man is)))))
]

pub are_same : (p q : Placement) → AreOnBoard p → AreOnBoard q → AreMenAlike p q → p ≡ q
are_same p q on also alike = same_men p q (same_at p q on also alike)

pub are_alike : (p q : Placement) → p ≡ q → AreMenAlike p q
are_alike p q same s on_board = ap (λ (men : Placement). man_at men s) same

pub each_kind : (F : Kind → Type 0) → F Pawn → F Knight → F Bishop → F Rook → F Queen → F King
    → (kind : Kind) → F kind
each_kind F pawn knight bishop rook queen king Pawn = pawn
each_kind F pawn knight bishop rook queen king Knight = knight
each_kind F pawn knight bishop rook queen king Bishop = bishop
each_kind F pawn knight bishop rook queen king Rook = rook
each_kind F pawn knight bishop rook queen king Queen = queen
each_kind F pawn knight bishop rook queen king King = king

-- ---- rights

same_test : (a b : Bool) → beq a b ≡ true → a ≡ b
same_test true true e = refl
same_test false false e = refl
same_test true false e = cc
same_test false true e = cc

test_same : (a b : Bool) → a ≡ b → beq a b ≡ true
test_same true true e = refl
test_same false false e = refl
test_same true false e = cc
test_same false true e = cc

abbrev pub AreRightsAlike : CastlingRights → CastlingRights → Type 0
AreRightsAlike a b = (side : Side) (wing : Wing) → has_right a side wing ≡ has_right b side wing

each_right : (a b : CastlingRights) → a.white_king_side ≡ b.white_king_side
    → a.white_queen_side ≡ b.white_queen_side → a.black_king_side ≡ b.black_king_side
    → a.black_queen_side ≡ b.black_queen_side → AreRightsAlike a b
each_right a b first second third fourth White KingSide = first
each_right a b first second third fourth White QueenSide = second
each_right a b first second third fourth Black KingSide = third
each_right a b first second third fourth Black QueenSide = fourth

pub rights_compared : (a b : CastlingRights) (is : Bool)
    → is ≡ beq a.white_king_side b.white_king_side && (beq a.white_queen_side b.white_queen_side
    && (beq a.black_king_side b.black_king_side && beq a.black_queen_side b.black_queen_side))
    → IsTrue is ↔ AreRightsAlike a b
rights_compared a b is reports = (
  (λ t.
      let first = and_parts _ _ (sym reports ∙ t) in
      let second = and_parts _ _ first.1 in
      let third = and_parts _ _ second.1 in
      each_right a b (same_test _ _ first.0) (same_test _ _ second.0) (same_test _ _ third.0)
      (same_test _ _ third.1)),
  (λ each. reports
      ∙ and_from _ _ (test_same _ _ (each White KingSide))
      (and_from _ _ (test_same _ _ (each White QueenSide))
      (and_from _ _ (test_same _ _ (each Black KingSide))
      (test_same _ _ (each Black QueenSide))))),
)

-- ---- captures en passant

-- a capture comes from one of the two files beside the square
abbrev AreTaken : State → State → ℕ → Type 0
AreTaken P Q file = (m : Move) → m.from.file ≡ file → TakesEnPassant P m → TakesEnPassant Q m

beside : (a b : ℕ) → gap a b ≡ 1 → (a ≡ b - 1) ⊎ (a ≡ b + 1)
beside a b near = elim (cases_eq a (b + 1)) [
  | inl after ↦ inr after
  | inr other ↦ inl (omega (arith, near, other))
]

from_beside : (P : State) (m : Move) (square : Place) → P.en_passant ≡ Some square
    → TakesEnPassant P m → (m.from.file ≡ square.file - 1) ⊎ (m.from.file ≡ square.file + 1)
from_beside P m square is takes =
    let known = captures P m takes in
    let here = known.0 in
    let same : m.to ≡ square = cc in
    beside m.from.file square.file
    (subst (λ (s : Place). gap m.from.file s.file ≡ 1) same known.1.0)

pub taken_beside : (P Q : State) (square : Place) (second : Bool) → P.en_passant ≡ Some square
    → AreTaken P Q (square.file - 1) → (IsTrue second ↔ AreTaken P Q (square.file + 1))
    → IsTrue second ↔ ((m : Move) → TakesEnPassant P m → TakesEnPassant Q m)
taken_beside P Q square second is before reports = (
  (λ t m takes. elim (from_beside P m square is takes) [
    | inl left ↦ before m left takes
    | inr right ↦ reports.0 t m right takes
  ]),
  (λ all. reports.1 (λ m right. all m)),
)

-- ---- all four fields

pub alike_by : (given : ℕ) (P Q : State) (is : Bool) → P.men ≡ Q.men
    → (2 ≤ given → P.turn ≡ Q.turn) → (3 ≤ given → AreRightsAlike P.rights Q.rights) → 4 ≤ given
    → (IsTrue is ↔ ((m : Move) → TakesEnPassant P m ↔ TakesEnPassant Q m))
    → IsTrue is ↔ IsAlike given P Q
alike_by given P Q is men turn rights four reports = (
  (λ t. record { men = men; turn = turn; rights = rights; en_passant = λ g. reports.0 t }),
  (λ alike. reports.1 (alike.en_passant four)),
)

-- ---- each position is such a one or not

settled_all : {A : Type 0} → Search A → (F : A → Type 0) → ((a : A) → Settled (F a))
    → Settled ((a : A) → F a)
settled_all search F each = elim (search (λ a. F a → ⊥) (λ a. settled_not (each a))) [
  | inl found ↦ inr (λ all. found.1 (all found.0))
  | inr none ↦ inl (λ a. elim (each a) [ inl is ↦ is | inr fails ↦ absurd (none (a, fails)) ])
]

settled_rights : (a b : CastlingRights) → Settled (AreRightsAlike a b)
settled_rights a b =
    settled_all search_side
    (λ side. (wing : Wing) → has_right a side wing ≡ has_right b side wing)
    (λ side. settled_all search_wing (λ wing. has_right a side wing ≡ has_right b side wing)
    (λ wing. cases_bool (has_right a side wing) (has_right b side wing)))

settled_alike : (given : ℕ) (P Q : State) → AreOnBoard P.men → Settled (IsAlike given P Q)
settled_alike given P Q on = elim (cases_men P.men Q.men) [
  | inr differ ↦ inr (λ alike. differ alike.men)
  | inl same ↦
      settled_like (λ h. record { men = same; turn = h.0; rights = h.1.0; en_passant = h.1.1 })
      (λ alike. (alike.turn, (alike.rights, alike.en_passant)))
      (settled_both (settled_implies (settled_le 2 given) (cases_side P.turn Q.turn))
      (settled_both (settled_implies (settled_le 3 given) (settled_rights P.rights Q.rights))
      (settled_implies (settled_le 4 given)
      (settled_captures P Q on (subst AreOnBoard same on)))))
]

-- ---- the game

pub settled_set_up : (replay : Replay) (plies : ℕ) (setup : Setup)
    → ((i : ℕ) (P : State) → slice_get replay.positions i ≡ Some P → AreOnBoard P.men)
    → Settled (IsSetUp replay plies setup)
settled_set_up replay plies setup on_board =
    elim (slice_get replay.positions plies) as (λ o. slice_get replay.positions plies ≡ o
    → Settled (IsSetUp replay plies setup)) [
      | None ↦ λ none. inr (λ found. let here = found.1 in cc)
      | Some P ↦ λ here.
          settled_like (λ alike. (P, here, alike))
          (λ found. let same : found.0 ≡ P = cc (found.1, here) in
          subst (λ Q. IsAlike setup.given Q setup.position) same found.2)
          (settled_alike setup.given P setup.position (on_board plies P here))
    ] refl

pub set_up_at : (replay : Replay) (plies : ℕ) (setup : Setup) (P : State) (is : Bool)
    → slice_get replay.positions plies ≡ Some P
    → (IsTrue is ↔ IsAlike setup.given P setup.position) → IsTrue is ↔ IsSetUp replay plies setup
set_up_at replay plies setup P is here reports = (
  (λ t. (P, here, reports.0 t)),
  (λ found. let same : found.0 ≡ P = cc (found.1, here) in
      reports.1 (subst (λ Q. IsAlike setup.given Q setup.position) same found.2)),
)

pub set_up_nowhere : (replay : Replay) (plies count : ℕ) (setup : Setup)
    → length replay.positions ≡ count + 1 → count < plies → IsSetUp replay plies setup → ⊥
set_up_nowhere replay plies count setup counted past found =
    let within : plies < length replay.positions =
    slice_get_within replay.positions plies found.0 found.1 in omega arith
