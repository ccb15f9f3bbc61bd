-- What follows from how a man goes.
use Rattle.chess.proofs.Common.{◌≡◌, ◌⊎◌, inl, inr, ap, refl, sym, subst, ◌∙◌, arith, Option, Some}
use Rattle.chess.proofs.Common.{None, man_at, opposite, IsEmpty, Reaches, IsAttacked, State}
use Rattle.chess.proofs.Common.{king_of, IsSound, Goes, IsPseudoLegal, IsPromotion, Castles}
use Rattle.chess.proofs.Common.{IsKingMove, arriving, Man, Kind, King, Pawn, Wing, KingSide}
use Rattle.chess.proofs.Common.{QueenSide, Move}
use Rattle.chess.proofs.PlaceFacts.{opposite-opposite, some_not_none, same_side, same_kind}

-- a pseudo-legal move in a sound position
pub record IsTried (P : State) (m : Move) : Type 0 where
  pub sound : IsSound P
  pub rules : IsPseudoLegal P m

-- only a king castles
castle_clash : (wing : Wing) (o : Option Wing) → o ≡ None → o ≡ Some wing → ⊥
castle_clash wing o none some = let e : None ≡ Some wing = sym none ∙ some in cc

pub goes_castle : (P : State) (m : Move) (other : Kind) → Goes P m other → (wing : Wing)
    → m.castle ≡ Some wing → (other ≡ King) × Castles P wing m
goes_castle P m King g wing e = (refl, subst (λ o. IsKingMove P m o) e g.1)
goes_castle P m _ g wing e = absurd (castle_clash wing m.castle g.0 e)

-- only a pawn becomes another man
pub goes_promote : (P : State) (m : Move) (other : Kind) → Goes P m other
    → (m.promote ≡ None) ⊎ ((other ≡ Pawn) × IsPromotion m.promote)
goes_promote P m King g = inl g.0
goes_promote P m Pawn g = elim g.2 [ inl last ↦ inr (refl, last.1) | inr other ↦ inl other.1 ]
goes_promote P m _ g = inl g.1

-- a man goes to an empty square or to one that it attacks
king_to-empty : (P : State) (m : Move) (wing : Wing) → Castles P wing m → IsEmpty P.men m.to
king_to-empty P m KingSide c =
    subst (λ s. IsEmpty P.men s) (sym c.to) (c.empty _ refl (omega arith, omega arith))
king_to-empty P m QueenSide c =
    subst (λ s. IsEmpty P.men s) (sym c.to) (c.empty _ refl (omega arith, omega arith))

king_attacks : (P : State) (m : Move) (castle : Option Wing) → IsKingMove P m castle
    → IsEmpty P.men m.to ⊎ Reaches P.men P.turn King m.from m.to
king_attacks P m None g = inr g
king_attacks P m (Some wing) g = inl (king_to-empty P m wing g)

pub goes_attacks : (P : State) (m : Move) (other : Kind) → Goes P m other
    → IsEmpty P.men m.to ⊎ Reaches P.men P.turn other m.from m.to
goes_attacks P m King g = king_attacks P m m.castle g.1
goes_attacks P m Pawn g = elim g.1 [
  | inl single ↦ inl single.2
  | inr more ↦ elim more [ inl double ↦ inl double.end_empty | inr capture ↦ inr capture.0 ]
]
goes_attacks P m _ g = inr g.2

-- the king of the side not to move is never taken: it would stand in check
pub no_king_taken : (P : State) (m : Move) → IsTried P m
    → man_at P.men m.to ≡ Some (king_of (opposite P.turn)) → ⊥
no_king_taken P m x king =
    let man = x.rules.man in
    elim (goes_attacks P m man.kind x.rules.goes) [
      | inl empty ↦ some_not_none (man_at P.men m.to) (king_of (opposite P.turn)) empty king
      | inr attacks ↦ x.sound.quiet (
        m.to,
        king,
        subst (λ side. IsAttacked P.men side m.to) (sym (opposite-opposite P.turn))
            (record {
              from = m.from;
              man = man;
              here = x.rules.here;
              own = x.rules.own;
              reaches =
                  attacks;
            }),
      )
    ]

-- the man that arrives is of the side to move
promoted_side : (P : State) (m : Move) (man : Man) (promote : Option Kind) → IsPromotion promote
    → arriving P promote m.from ≡ Some man
    → (man.side ≡ P.turn) × (promote ≡ Some man.kind)
promoted_side P m man None h e = absurd h
promoted_side P m man (Some other) h e = (sym (same_side _ man e), ap Some (same_kind _ man e))

-- and it is the man that left, or what the pawn became
pub record HasArrived (P : State) (m : Move) (old new : Man) : Type 0 where
  pub own : new.side ≡ P.turn
  pub same : (m.promote ≡ None) × (new ≡ old) ⊎ ((old.kind ≡ Pawn) × IsPromotion (Some new.kind))

pub has_arrived : (P : State) (m : Move) (x : IsTried P m) (man : Man)
    → arriving P m.promote m.from ≡ Some man → HasArrived P m x.rules.man man
has_arrived P m x man e = elim (goes_promote P m x.rules.man.kind x.rules.goes) [
  | inl none ↦
      let there : man_at P.men m.from ≡ Some man = ap (λ o. arriving P o m.from) (sym none) ∙ e in
      let same : man ≡ x.rules.man = let f : Some man ≡ Some x.rules.man =
      sym there ∙ x.rules.here in cc in
      record { own = ap (λ (a : Man). a.side) same ∙ x.rules.own; same = inl (none, same) }
  | inr some ↦
      let parts = promoted_side P m man m.promote some.1 e in
      record { own = parts.0; same = inr (some.0, subst IsPromotion parts.1 some.1) }
]
