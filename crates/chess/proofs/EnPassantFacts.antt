-- Moves that take a pawn en passant: a pawn that attacks the en passant square goes there, and it
-- does so in each position with the same men, side to move, rights and en passant square.
use Rattle.chess.proofs.Common.{◌≡◌, inl, inr, ap, refl, sym, subst, ◌∙◌, arith, nat_tests, not}
use Rattle.chess.proofs.Common.{◌==◌, ℕ, true, and_parts, and_from, Option, Some, None, IfSome}
use Rattle.chess.proofs.Common.{Place, opposite, home_rank, passed_rank, State, IsSound}
use Rattle.chess.proofs.Common.{FitsEnPassant, IsPawnAttack, gap, Goes, IsPawnMove, Promotes}
use Rattle.chess.proofs.Common.{IsKingMove, IsLegal, IsMover, is_pawn, is_square, Side, White}
use Rattle.chess.proofs.Common.{Black, Kind, King, Queen, Rook, Bishop, Knight, Pawn, Wing, Move}
use Rattle.chess.specs.Public.Moves.{TakesEnPassant}
use Rattle.chess.specs.Private.MoveWords.{CanGoPlainly}
use Rattle.chess.proofs.PlaceFacts.{same_square-same}
use Rattle.chess.proofs.KingFacts.{pawn_kind, is_square-then}

-- ---- what such a move is

-- a pawn that goes to another file attacks the square that it goes to
attack_of : (P : State) (s t : Place) → IsPawnMove P s t → not (s.file == t.file) ≡ true
    → IsPawnAttack P.turn s t
attack_of P s t (inl single) other = let same = single.0 in absurd (grind (arith, nat_tests))
attack_of P s t (inr (inl double)) other =
    let same = double.file in absurd (grind (arith, nat_tests))
attack_of P s t (inr (inr capture)) other = capture.0

-- a pawn of the side to move makes it
record IsPawnsMove (P : State) (m : Move) : Type 0 where
  mover : IsMover P Pawn m.from
  goes : Goes P m Pawn
  other_file : not (m.from.file == m.to.file) ≡ true
  square : P.en_passant ≡ Some m.to

is_pawns : (P : State) (m : Move) → TakesEnPassant P m → IsPawnsMove P m
is_pawns P m takes =
    let first = and_parts _ _ takes.capture in
    let second = and_parts _ _ first.0 in
    let rules = takes.legal.pseudo_legal in
    let pawn = pawn_kind rules.man (ap is_pawn (sym rules.here) ∙ second.0) in
    record {
      mover = rules.here ∙ (λ i. Some (record { side = rules.own i; kind = pawn i }));
      goes = subst (Goes P m) pawn rules.goes;
      other_file = second.1;
      square = is_square-then P.en_passant m.to first.1;
    }

-- it goes to the en passant square, which the pawn attacks
pub captures : (P : State) (m : Move) → TakesEnPassant P m
    → (P.en_passant ≡ Some m.to) × IsPawnAttack P.turn m.from m.to
captures P m takes =
    let pawns = is_pawns P m takes in
    (pawns.square, attack_of P m.from m.to pawns.goes.1 pawns.other_file)

-- where there is no such square no move does
pub none_without : (P : State) (m : Move) → P.en_passant ≡ None → TakesEnPassant P m → ⊥
none_without P m none takes =
    let both : None ≡ Some m.to = sym none ∙ (captures P m takes).0 in cc

-- ---- from which squares a pawn takes

-- a pawn of the side to move stands on s and attacks the square; it goes there legally
abbrev pub IsBeside : State → Place → Place → Type 0
IsBeside P square s = IsMover P Pawn s × IsPawnAttack P.turn s square

abbrev pub IsTakenFrom : State → Place → Place → Type 0
IsTakenFrom P square s = IsBeside P square s × CanGoPlainly P s square

-- it becomes nothing, since the square is not on its last rank
fits : (o : Option Place) (P : State) (s : Place) → IfSome o (FitsEnPassant P.men P.turn)
    → o ≡ Some s → FitsEnPassant P.men P.turn s
fits None P s h e = cc
fits (Some t) P s h e = let same : t ≡ s = cc in subst (FitsEnPassant P.men P.turn) same h

not_last : (side : Side) → passed_rank side ≡ home_rank side → ⊥
not_last White e = omega arith
not_last Black e = omega arith

stays_a_pawn : (P : State) (t : Place) (promote : Option Kind) → FitsEnPassant P.men P.turn t
    → Promotes P.turn t promote → promote ≡ None
stays_a_pawn P t promote fit (inl last) =
    absurd (not_last (opposite P.turn) (sym fit.rank ∙ last.0))
stays_a_pawn P t promote fit (inr other) = other.1

pub taken_from : (P : State) (square : Place) (m : Move) → IsSound P → P.en_passant ≡ Some square
    → TakesEnPassant P m → IsTakenFrom P square m.from
taken_from P square m sound is takes =
    let pawns = is_pawns P m takes in
    let there : m.to ≡ square = let both = sym pawns.square ∙ is in cc in
    let plain = stays_a_pawn P m.to m.promote
    (fits P.en_passant P m.to sound.en_passant pawns.square) pawns.goes.2 in (
      (pawns.mover, subst (IsPawnAttack P.turn m.from) there (captures P m takes).1),
      subst (λ n. IsLegal P n) (λ i. record {
        from = m.from;
        to = there i;
        promote = plain i;
        castle = pawns.goes.0 i;
      }) takes.legal,
    )

other_file : (a b : ℕ) → gap a b ≡ 1 → not (a == b) ≡ true
other_file a b near = grind (arith, nat_tests)

pub takes_from : (P : State) (square s : Place) → P.en_passant ≡ Some square
    → IsTakenFrom P square s
    → TakesEnPassant P (record { from = s; to = square; promote = None; castle = None })
takes_from P square s is from = record {
  capture = and_from _ _ (and_from _ _ (ap is_pawn from.0.0) (other_file _ _ from.0.1.0))
      (ap (λ o. is_square o square) is ∙ same_square-same square square refl);
  legal = from.1;
}

-- ---- the same moves do so where men, side to move, rights and square are the same

-- the position with other counts
abbrev counted : State → ℕ → ℕ → State
counted P clock number = record P { halfmove_clock = clock; fullmove_number = number }

king_counted : (P : State) (clock number : ℕ) (m : Move) (castle : Option Wing)
    → IsKingMove P m castle → IsKingMove (counted P clock number) m castle
king_counted P clock number m None goes = goes
king_counted P clock number m (Some wing) goes = record {
  from = goes.from;
  to = goes.to;
  right = goes.right;
  empty = goes.empty;
}

pawn_counted : (P : State) (clock number : ℕ) (s t : Place) → IsPawnMove P s t
    → IsPawnMove (counted P clock number) s t
pawn_counted P clock number s t (inl single) = inl single
pawn_counted P clock number s t (inr (inl double)) = inr (inl (record {
  file = double.file;
  from_first_rank = double.from_first_rank;
  passed = double.passed;
  same_file = double.same_file;
  first = double.first;
  second = double.second;
  empty = double.empty;
  end_empty = double.end_empty;
}))
pawn_counted P clock number s t (inr (inr capture)) = inr (inr capture)

goes_counted : (P : State) (clock number : ℕ) (m : Move) (other : Kind) → Goes P m other
    → Goes (counted P clock number) m other
goes_counted P clock number m Pawn goes =
    (goes.0, pawn_counted P clock number m.from m.to goes.1, goes.2)
goes_counted P clock number m King goes = (goes.0, king_counted P clock number m m.castle goes.1)
goes_counted P clock number m Queen goes = goes
goes_counted P clock number m Rook goes = goes
goes_counted P clock number m Bishop goes = goes
goes_counted P clock number m Knight goes = goes

takes_counted : (P : State) (clock number : ℕ) (m : Move) → TakesEnPassant P m
    → TakesEnPassant (counted P clock number) m
takes_counted P clock number m takes =
    let rules = takes.legal.pseudo_legal in
    record {
      capture = takes.capture;
      legal = record {
        pseudo_legal = record {
          from = rules.from;
          to = rules.to;
          man = rules.man;
          here = rules.here;
          own = rules.own;
          free = rules.free;
          goes = goes_counted P clock number m rules.man.kind rules.goes;
        };
        safe = takes.legal.safe;
        unbarred = takes.legal.unbarred;
      };
    }

pub takes_alike : (P Q : State) → P.men ≡ Q.men → P.turn ≡ Q.turn → P.rights ≡ Q.rights
    → P.en_passant ≡ Q.en_passant → (m : Move) → TakesEnPassant P m → TakesEnPassant Q m
takes_alike P Q men turn rights square m takes =
    subst (λ R. TakesEnPassant R m) (λ i. record {
      men = men i;
      turn = turn i;
      rights = rights i;
      en_passant = square i;
      halfmove_clock = Q.halfmove_clock;
      fullmove_number = Q.fullmove_number;
    }) (takes_counted P Q.halfmove_clock Q.fullmove_number m takes)
