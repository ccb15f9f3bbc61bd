-- A position by the first fields of a text alone: what is missing is put after the text.
use Rattle.std.proofs.Common.{◌≡◌, ◌⊎◌, ◌≤◌, ◌<◌, ℕ, true, false, List, [], ◌∷◌, ◌++◌, refl, sym}
use Rattle.std.proofs.Common.{ap}
use Rattle.std.proofs.Common.{◌∙◌, inl, inr, arith}
use Rattle.std.specs.Prelude.{codes, ◌==◌, if◌then◌else◌}
use Rattle.chess.specs.Public.Positions.{State}
use Rattle.chess.specs.Public.Fen.{parted_at, before_first, without_empty, fields_of, ReadsFen}
use Rattle.chess.specs.Public.FirstFields.{GivesBy, GivesPosition}
use Rattle.chess.specs.Private.FilledFields.{filled, given_of}
use Rattle.chess.proofs.FieldFacts.{parted_by_run}
use Rattle.chess.proofs.FenOnce.{one_spelling}

-- what follows a space is parted by itself
parted_beyond : (x y : List ℕ) → parted_at 32 (x ++ (32 ∷ y)) ≡ parted_at 32 x ++ parted_at 32 y
parted_beyond [] y = refl
parted_beyond (b ∷ x) y =
    elim (b == 32) as (λ t.
    (if t then [] ∷ parted_at 32 (x ++ (32 ∷ y)) else before_first b (parted_at 32 (x ++ (32 ∷ y))))
    ≡ (if t then [] ∷ parted_at 32 x else before_first b (parted_at 32 x)) ++ parted_at 32 y) [
      | true ↦ ap (λ parts. [] ∷ parts) (parted_beyond x y)
      | false ↦
          let first = parted_by_run 32 x in
          ap (before_first b) (parted_beyond x y ∙ ap (λ p. p ++ parted_at 32 y) first)
          ∙ sym (ap (λ p. before_first b p ++ parted_at 32 y) first)
    ]

some_beyond : (x y : List (List ℕ)) → without_empty (x ++ y) ≡ without_empty x ++ without_empty y
some_beyond [] y = refl
some_beyond ([] ∷ x) y = some_beyond x y
some_beyond ((b ∷ first) ∷ x) y = ap (λ more. (b ∷ first) ∷ more) (some_beyond x y)

fields_beyond : (x y : List ℕ) (fields : List (List ℕ)) → fields_of x ≡ fields
    → fields_of (x ++ (32 ∷ y)) ≡ fields ++ fields_of y
fields_beyond x y fields are =
    ap without_empty (parted_beyond x y) ∙ some_beyond (parted_at 32 x) (parted_at 32 y)
    ∙ ap (λ first. first ++ fields_of y) are

-- each text whose fields are these is read as the position, or none is
abbrev IsReadBy : List (List ℕ) → State → Type 0
IsReadBy fields P = (y : List ℕ) → fields_of y ≡ fields → ReadsFen y P

abbrev IsRefusedBy : List (List ℕ) → Type 0
IsRefusedBy fields = (y : List ℕ) → fields_of y ≡ fields → (Q : State) → ReadsFen y Q → ⊥

-- some text has them
pub some_text : (side : List ℕ) (x : List ℕ) (fields more : List (List ℕ)) (first : List ℕ)
    → fields_of (32 ∷ side) ≡ side ∷ []
    → fields_of x ≡ fields → filled side fields ≡ first ∷ more
    → (y : List ℕ) × (fields_of y ≡ filled side fields)
some_text side x [] more first one are is = let clash : [] ≡ first ∷ more = is in cc
some_text side x (m ∷ []) more first one are is =
    let turned = fields_beyond x side (m ∷ []) are in (
      (x ++ (32 ∷ side)) ++ codes " - -",
      fields_beyond (x ++ (32 ∷ side)) (codes "- -") (m ∷ side ∷ [])
          (turned ∙ ap (λ more. m ∷ more) one),
    )
some_text side x (m ∷ s ∷ []) more first one are is =
    (x ++ codes " - -", fields_beyond x (codes "- -") (m ∷ s ∷ []) are)
some_text side x (m ∷ s ∷ r ∷ []) more first one are is =
    (x ++ codes " -", fields_beyond x (codes "-") (m ∷ s ∷ r ∷ []) are)
some_text side x (m ∷ s ∷ r ∷ e ∷ counts) more first one are is = (x, are)

-- the position with White to move where that may be missing
pub given_white : (x : List ℕ) (fields more : List (List ℕ)) (first : List ℕ)
    (given : ℕ) (P : State)
    → fields_of x ≡ fields → filled (codes "w") fields ≡ first ∷ more → given ≡ given_of fields
    → IsReadBy (filled (codes "w") fields) P → GivesBy fields x given P
given_white x [] more first given P are is counted reads =
    let clash : [] ≡ first ∷ more = is in cc
given_white x (m ∷ []) more first given P are is counted reads =
    (counted, inl (reads (x ++ codes " w - -") (fields_beyond x (codes "w - -") (m ∷ []) are)))
given_white x (m ∷ s ∷ []) more first given P are is counted reads =
    (counted, reads (x ++ codes " - -") (fields_beyond x (codes "- -") (m ∷ s ∷ []) are))
given_white x (m ∷ s ∷ r ∷ []) more first given P are is counted reads =
    (counted, reads (x ++ codes " -") (fields_beyond x (codes "-") (m ∷ s ∷ r ∷ []) are))
given_white x (m ∷ s ∷ r ∷ e ∷ counts) more first given P are is counted reads =
    (counted, reads x are)

-- and with Black, where White gives none
pub given_black : (x : List ℕ) (fields more : List (List ℕ)) (first : List ℕ)
    (given : ℕ) (P : State)
    → fields_of x ≡ fields → filled (codes "b") fields ≡ first ∷ more → given ≡ given_of fields
    → given ≤ 1 → IsRefusedBy (filled (codes "w") fields) → IsReadBy (filled (codes "b") fields) P
    → GivesBy fields x given P
given_black x [] more first given P are is counted one none reads =
    let clash : [] ≡ first ∷ more = is in cc
given_black x (m ∷ []) more first given P are is counted one none reads = (
  counted,
  inr (
    (λ Q. none (x ++ codes " w - -") (fields_beyond x (codes "w - -") (m ∷ []) are) Q),
    reads (x ++ codes " b - -") (fields_beyond x (codes "b - -") (m ∷ []) are),
  ),
)
given_black x (m ∷ s ∷ []) more first given P are is counted one none reads =
    absurd (omega (arith, counted, one))
given_black x (m ∷ s ∷ r ∷ []) more first given P are is counted one none reads =
    absurd (omega (arith, counted, one))
given_black x (m ∷ s ∷ r ∷ e ∷ counts) more first given P are is counted one none reads =
    absurd (omega (arith, counted, one))

-- none is given where no text with the fields is read
pub none_given : (x : List ℕ) (fields : List (List ℕ)) (given : ℕ) (P : State)
    → fields_of x ≡ fields → IsRefusedBy (filled (codes "w") fields)
    → (1 < given_of fields) ⊎ IsRefusedBy (filled (codes "b") fields)
    → GivesBy fields x given P → ⊥
none_given x [] given P are none others gives = gives
none_given x (m ∷ []) given P are none others (counted, inl reads) =
    none (x ++ codes " w - -") (fields_beyond x (codes "w - -") (m ∷ []) are) P reads
none_given x (m ∷ []) given P are none (inl more) (counted, inr reads) =
    absurd (omega (arith, more))
none_given x (m ∷ []) given P are none (inr never) (counted, inr reads) =
    never (x ++ codes " b - -") (fields_beyond x (codes "b - -") (m ∷ []) are) P reads.1
none_given x (m ∷ s ∷ []) given P are none others (counted, reads) =
    none (x ++ codes " - -") (fields_beyond x (codes "- -") (m ∷ s ∷ []) are) P reads
none_given x (m ∷ s ∷ r ∷ []) given P are none others (counted, reads) =
    none (x ++ codes " -") (fields_beyond x (codes "-") (m ∷ s ∷ r ∷ []) are) P reads
none_given x (m ∷ s ∷ r ∷ e ∷ counts) given P are none others (counted, reads) = none x are P reads

-- a text gives one position
one_read : (x : List ℕ) (P Q : State) → ReadsFen x P → ReadsFen x Q → P ≡ Q
one_read x P Q reads has = one_spelling x P Q reads.spells has.spells

one_given_by : (fields : List (List ℕ)) (x : List ℕ) (given other : ℕ) (P Q : State)
    → GivesBy fields x given P → GivesBy fields x other Q → (given ≡ other) × (P ≡ Q)
one_given_by [] x given other P Q is has = absurd is
one_given_by (m ∷ []) x given other P Q (counted, inl reads) (too, inl also) =
    (counted ∙ sym too, one_read _ P Q reads also)
one_given_by (m ∷ []) x given other P Q (counted, inl reads) (too, inr none) =
    absurd (none.0 P reads)
one_given_by (m ∷ []) x given other P Q (counted, inr none) (too, inl reads) =
    absurd (none.0 Q reads)
one_given_by (m ∷ []) x given other P Q (counted, inr none) (too, inr never) =
    (counted ∙ sym too, one_read _ P Q none.1 never.1)
one_given_by (m ∷ s ∷ []) x given other P Q (counted, reads) (too, also) =
    (counted ∙ sym too, one_read _ P Q reads also)
one_given_by (m ∷ s ∷ r ∷ []) x given other P Q (counted, reads) (too, also) =
    (counted ∙ sym too, one_read _ P Q reads also)
one_given_by (m ∷ s ∷ r ∷ e ∷ counts) x given other P Q (counted, reads) (too, also) =
    (counted ∙ sym too, one_read _ P Q reads also)

pub one_given : (x : List ℕ) (given other : ℕ) (P Q : State) → GivesPosition x given P
    → GivesPosition x other Q → (given ≡ other) × (P ≡ Q)
one_given x given other P Q is has = one_given_by (fields_of x) x given other P Q is has
