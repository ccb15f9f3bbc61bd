-- Where legal moves begin, and where pawns go.
use Rattle.chess.proofs.Common.{◌≡◌, ◌≤◌, ℕ, inl, inr, ap, refl, subst, ◌∙◌, arith, Some, None}
use Rattle.chess.proofs.Common.{Place, IsOnBoard, IsForward, State, CanGo, HasMove, IsLegal, Side}
use Rattle.chess.proofs.Common.{White, Black, Kind, King, Queen, Rook, Bishop, Knight, Pawn}
use Rattle.chess.specs.Private.MoveWords.{IsMover, CanMove, IsPawnGoal, IsSquareAhead, CanPromote}
use Rattle.chess.proofs.PlaceFacts.{man_of}

-- a man of the side to move stands where a legal move begins
pub mover : (P : State) (s t : Place) (h : CanGo P s t) → IsMover P h.2.pseudo_legal.man.kind s
mover P s t h =
    let rules = h.2.pseudo_legal in
    rules.here
    ∙ ap Some (man_of rules.man (record { side = P.turn; kind = rules.man.kind }) rules.own
    refl)

-- some man of the side to move has a legal move
pub moving : (P : State) (h : HasMove P) → (other : Kind) × CanMove P other
moving P h =
    let go = h.2 in
    let rules = go.2.pseudo_legal in
    (rules.man.kind, (h.0, rules.from, mover P h.0 h.1 go, (h.1, rules.to, go)))

pub no_move : (P : State) → (CanMove P Pawn → ⊥) → (CanMove P Knight → ⊥) → (CanMove P Bishop → ⊥)
    → (CanMove P Rook → ⊥) → (CanMove P Queen → ⊥)
    → (CanMove P King → ⊥) → HasMove P → ⊥
no_move P pawn knight bishop rook queen king h =
    let some = moving P h in
    elim some.0 as (λ other. CanMove P other → ⊥) [
      | King ↦ king
      | Queen ↦ queen
      | Rook ↦ rook
      | Bishop ↦ bishop
      | Knight ↦ knight
      | Pawn ↦ pawn
    ] some.1

-- a pawn goes to a rank from one other
pub same_back : (side : Side) (a b n : ℕ) → IsForward side a n → IsForward side b n → a ≡ b
same_back White a b n e f = omega arith
same_back Black a b n e f = omega arith

pub between_low : (side : Side) (a n b : ℕ) → IsForward side a n → IsForward side n b → 1 ≤ b
    → 1 ≤ n
between_low White a n b first second low = omega arith
between_low Black a n b first second low = omega arith

pub between_high : (side : Side) (a n b : ℕ) → IsForward side a n → IsForward side n b → a ≤ 8
    → b ≤ 8 → n ≤ 8
between_high White a n b first second high top = omega arith
between_high Black a n b first second high top = omega arith

-- where no square is straight ahead a pawn goes nowhere
pub no_goal : (P : State) (s : Place) (side : Side) → IsOnBoard s → side ≡ P.turn
    → IsSquareAhead side s None → (t : Place) → IsOnBoard t → IsPawnGoal P s t → ⊥
no_goal P s side on turn none t there goal =
    let next = subst (λ (a : Side). IsSquareAhead a s None) turn none in
    elim goal.1 [
      | inl one ↦ next t there goal.0 one
      | inr two ↦
          next (record { file = s.file; rank = two.0 })
          (record {
            file_low = on.file_low;
            file_high = on.file_high;
            rank_low = between_low P.turn s.rank two.0 t.rank two.1 two.2 there.rank_low;
            rank_high =
                between_high P.turn s.rank two.0 t.rank two.1 two.2 on.rank_high there.rank_high;
          })
          refl two.1
    ]

-- a legal move of a man of some kind is a legal move
pub found_move : (P : State) (other : Kind) → CanMove P other → HasMove P
found_move P other h = (h.0, h.3.0, h.3.2)

-- a pawn becomes a queen, a rook, a bishop or a knight
abbrev pub CanBecome : State → Place → Place → Kind → Type 0
CanBecome P s t other = IsLegal P (record { from = s; to = t; promote = Some other; castle = None })

become_by : (P : State) (s t : Place) (found other : Kind) → found ≡ other → CanBecome P s t found
    → CanBecome P s t other
become_by P s t found other e legal = subst (λ (k : Kind). CanBecome P s t k) e legal

pub becomes_knight : (P : State) (s t : Place) → (CanBecome P s t Queen → ⊥)
    → (CanBecome P s t Rook → ⊥) → (CanBecome P s t Bishop → ⊥)
    → CanPromote P s t → CanBecome P s t Knight
becomes_knight P s t queen rook bishop (None, none, legal) = absurd none
becomes_knight P s t queen rook bishop (Some found, is, legal) = elim is [
  | inl a ↦ absurd (queen (become_by P s t found Queen a legal))
  | inr b ↦ elim b [
    | inl a ↦ absurd (rook (become_by P s t found Rook a legal))
    | inr d ↦ elim d [
      | inl a ↦ absurd (bishop (become_by P s t found Bishop a legal))
      | inr a ↦ become_by P s t found Knight a legal
    ]
  ]
]

pub can_become_knight : (P : State) (s t : Place) → CanBecome P s t Knight → CanPromote P s t
can_become_knight P s t h = (Some Knight, inr (inr (inr refl)), h)
