-- A text is read as a sound position exactly where it spells one.
use Rattle.chess.proofs.Common.{◌≡◌, ◌≢◌, ◌<◌, ◌⊎◌, ◌↔◌, ℕ, zero, suc, inl, inr, ap, refl, sym}
use Rattle.chess.proofs.Common.{subst, ◌∙◌, arith, Option, Some, None, List, cases_eq, Place}
use Rattle.chess.proofs.Common.{square_at, index_of, index_of-square_at, square_at-index_of}
use Rattle.chess.proofs.Common.{index_of-below, Placement, man_at, AreOnBoard, State, king_of}
use Rattle.chess.proofs.Common.{IsOnlyKing, IsSound, SpellsPosition, ReadsFen, HasWrongKings, Man}
use Rattle.chess.proofs.Common.{Side, White, Black, Kind, King}
use Rattle.chess.proofs.PlaceFacts.{same_side, same_kind, man_of}
use Rattle.chess.proofs.FenFacts.{spelled_kept, HasKings}

-- ---- a search that ends

pub search_below : (fact : ℕ → Type 0) → ((k : ℕ) → fact k ⊎ (fact k → ⊥)) → (n : ℕ)
    → ((k : ℕ) × (k < n) × fact k) ⊎ ((k : ℕ) → k < n → fact k → ⊥)
search_below fact test zero = inr (λ k less holds. omega arith)
search_below fact test (suc n) = elim (test n) [
  | inl here ↦ inl (n, omega arith, here)
  | inr not_here ↦ elim (search_below fact test n) [
    | inl found ↦ let less = found.1 in inl (found.0, omega arith, found.2)
    | inr none ↦ inr (λ k less holds. elim (cases_eq k n) [
      | inl same ↦ not_here (subst fact same holds)
      | inr other ↦ none k (omega arith) holds
    ])
  ]
]

-- ---- the only king of a side, or none

cases_king : (kind : Kind) → (kind ≡ King) ⊎ (kind ≡ King → ⊥)
cases_king King = inl refl
cases_king _ = inr (λ e. cc)

same_or_not : (a b : Side) → (a ≡ b) ⊎ (a ≡ b → ⊥)
same_or_not White White = inl refl
same_or_not White Black = inr (λ e. cc)
same_or_not Black White = inr (λ e. cc)
same_or_not Black Black = inl refl

is_king_or_not : (side : Side) (o : Option Man)
    → (o ≡ Some (king_of side)) ⊎ (o ≡ Some (king_of side) → ⊥)
is_king_or_not side None = inr (λ e. cc)
is_king_or_not side (Some man) = elim (cases_king man.kind) [
  | inl king ↦ elim (same_or_not man.side side) [
    | inl own ↦ inl (ap Some (man_of man (king_of side) own king))
    | inr other ↦ inr (λ e. other (same_side man (king_of side) e))
  ]
  | inr no_king ↦ inr (λ e. no_king (same_kind man (king_of side) e))
]

-- the place of a king
abbrev IsKingAt : Placement → Side → ℕ → Type 0
IsKingAt p side n = man_at p (square_at n) ≡ Some (king_of side)

king_place : (p : Placement) (side : Side) → AreOnBoard p → (s : Place)
    → man_at p s ≡ Some (king_of side)
    → (index_of s < 64) × IsKingAt p side (index_of s) × (square_at (index_of s) ≡ s)
king_place p side men s here =
    let on = men s (king_of side) here in
    let back = square_at-index_of s on in (index_of-below s on, ap (man_at p) back ∙ here, back)

two_or_not : (p : Placement) (side : Side) (k n : ℕ)
    → (IsKingAt p side n × (n ≢ k)) ⊎ (IsKingAt p side n × (n ≢ k) → ⊥)
two_or_not p side k n = elim (is_king_or_not side (man_at p (square_at n))) [
  | inl king ↦ elim (cases_eq n k)
      [ inl same ↦ inr (λ h. h.1 same) | inr other ↦ inl (king, other) ]
  | inr none ↦ inr (λ h. none h.0)
]

pub king_or_not : (p : Placement) (side : Side) → AreOnBoard p
    → ((s : Place) × IsOnlyKing p side s) ⊎ ((s : Place) → IsOnlyKing p side s → ⊥)
king_or_not p side men =
    elim (search_below (IsKingAt p side) (λ n. is_king_or_not side (man_at p (square_at n))) 64) [
      | inr none ↦ inr (λ s king. let place = king_place p side men s king.here in
          none (index_of s) place.0 place.1)
      | inl found ↦
          let k = found.0 in
          elim (search_below (λ n. IsKingAt p side n × (n ≢ k)) (two_or_not p side k) 64) [
            | inr alone ↦ inl (
              square_at k,
              record {
                here = found.2;
                only = λ t here.
                    let place = king_place p side men t here in
                    elim (cases_eq (index_of t) k) [
                      | inl same ↦ sym place.2 ∙ ap square_at same
                      | inr other ↦ absurd (alone (index_of t) place.0 (place.1, other))
                    ];
              },
            )
            | inl two ↦ inr (λ s king.
                let first = king.only (square_at k) found.2 in
                let second = king.only (square_at two.0) two.2.0 in
                two.2.1 (sym (index_of-square_at two.0 two.1) ∙ ap index_of (second ∙ sym first)
                ∙ index_of-square_at k found.1))
          ]
    ]

the_king : (P : State) → AreOnBoard P.men → (HasWrongKings P → ⊥) → (side : Side)
    → (s : Place) × IsOnlyKing P.men side s
the_king P men right side =
    elim (king_or_not P.men side men) [ inl king ↦ king | inr none ↦ absurd (right (side, none)) ]

-- ---- and so the position is sound

pub read_sound : (x : List ℕ) (P : State) → ReadsFen x P → IsSound P
read_sound x P reads =
    let white = the_king P reads.spells.men.on_board reads.kings White in
    let black = the_king P reads.spells.men.on_board reads.kings Black in
    let kings : HasKings P white.0 black.0 =
    record { white_only = white.1; black_only = black.1 } in
    (spelled_kept x P white.0 black.0 reads.spells kings reads.pawns reads.quiet).sound

pub sound_read : (x : List ℕ) (P : State) → SpellsPosition x P → IsSound P → ReadsFen x P
sound_read x P spells sound = record {
  spells = spells;
  kings = λ wrong. let king = sound.king wrong.0 in wrong.1 king.0 king.1;
  pawns = λ wrong. let right = sound.pawns wrong.0 wrong.1 wrong.2 in
      elim wrong.3 [ inl first ↦ right.0 first | inr last ↦ right.1 last ];
  quiet = sound.quiet;
}

pub sound_or_read : (x : List ℕ) (P : State) → SpellsPosition x P → IsSound P ↔ ReadsFen x P
sound_or_read x P spells = (sound_read x P spells, read_sound x P)
