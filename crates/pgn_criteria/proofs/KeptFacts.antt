-- The plies that are left where conditions on moves are asked along the codes of a line.
use Rattle.std.proofs.lemmas.List.{get_or-set_other, get_or-set_same}
use Rattle.std.specs.Prelude.{slice_set}
use Rattle.pgn_criteria.proofs.Common.{◌≡◌, ◌↔◌, ◌+◌, ◌<◌, ◌≤◌, ℕ, zero, suc, Bool, false, List}
use Rattle.pgn_criteria.proofs.Common.{[], ◌∷◌, length, get_or, drop, Some, IsTrue, refl}
use Rattle.pgn_criteria.proofs.Common.{sym, ap, ◌∙◌, subst, arith, inl, inr, slice_get, cases_eq}
use Rattle.pgn_criteria.proofs.Common.{State, Replay, codes_in}
use Rattle.chess.specs.Public.Moves.{after}
use Rattle.chess.specs.declared.moves.Move.{Move}
use Rattle.pgn_game.specs.Public.CodeLines.{AreLegalMoves, positions_from}
use Rattle.pgn_game.specs.Public.PlyCodes.{AreCodes}
use Rattle.pgn_criteria.specs.Public.Prefilters.{IsPlayedBy}
use Rattle.pgn_criteria.specs.Public.Walks.{Sight, IsSightOf, stepped}
use Rattle.pgn_criteria.specs.Private.Told.{IsAbout, IsTold}
use Rattle.pgn_criteria.specs.declared.played.About.TheVariants as about
use Rattle.pgn_criteria.proofs.SeenPlyFacts.{first_code}
use Rattle.pgn_criteria.proofs.StandFacts.{three}
use Rattle.pgn_criteria.proofs.ToldFacts.{told_within}
use Rattle.pgn_criteria.proofs.WalkFacts.{step_shows_next_position}

-- ---- how far the line is walked

-- a sight of the position at the ply, from which the line goes on by the codes that are left
pub record IsWalkedTo (replay : Replay) (s : Sight) (left : List ℕ) (ply : ℕ) : Type 0 where
  pub position : State
  pub moves : List Move
  pub sight : IsSightOf position s
  pub legal : AreLegalMoves position moves
  pub are : AreCodes position moves (codes_in left)
  pub positions : drop ply replay.positions ≡ positions_from position moves
  pub played : drop ply replay.played ≡ moves

pub walked_none : (P : State) (replay : Replay) (s : Sight) (plies : List ℕ) → IsSightOf P s
    → IsPlayedBy P (codes_in plies) replay → IsWalkedTo replay s plies 0
walked_none P replay s plies sight by = record {
  position = P;
  moves = replay.played;
  sight = sight;
  legal = by.line.legal;
  are = by.told;
  positions = by.line.positions;
  played = refl;
}

at_drop : {A : Type 0} (xs : List A) (n : ℕ) → slice_get xs n ≡ slice_get (drop n xs) 0
at_drop [] zero = refl
at_drop [] (suc n) = refl
at_drop (x ∷ xs) zero = refl
at_drop (x ∷ xs) (suc n) = at_drop xs n

drop_next : {A : Type 0} (xs : List A) (n : ℕ) (x : A) (rest : List A) → drop n xs ≡ x ∷ rest
    → drop (suc n) xs ≡ rest
drop_next [] zero x rest is = absurd (cc (is))
drop_next [] (suc n) x rest is = absurd (cc (is))
drop_next (y ∷ xs) zero x rest is = cc (is)
drop_next (y ∷ xs) (suc n) x rest is = drop_next xs n x rest is

first_position : (P : State) (moves : List Move)
    → slice_get (positions_from P moves) 0 ≡ Some P
first_position P [] = refl
first_position P (m ∷ moves) = refl

module _ (replay : Replay) (s : Sight) (left : List ℕ) (ply : ℕ)
    (way : IsWalkedTo replay s left ply) where
  -- the next move is the first that is left
  pub next_about : IsAbout about.Next replay ply way.position (slice_get way.moves 0)
  next_about = (
    at_drop replay.positions ply ∙ ap (λ ps. slice_get ps 0) way.positions
        ∙ first_position way.position way.moves,
    at_drop replay.played ply ∙ ap (λ ms. slice_get ms 0) way.played,
  )

  -- after it, it is the last one, and the line is walked one ply on
  pub walked_on : (rest : List ℕ) (next : ℕ) → next ≡ ply + 1 → 3 ≤ length left
      → rest ≡ drop 3 left → IsAbout about.Last replay next way.position (slice_get way.moves 0)
      × IsWalkedTo replay (stepped s (first_code left)) rest next
  walked_on rest next after_it long same =
      on way.moves way.legal way.are way.positions way.played
    where
      on : (moves : List Move) → AreLegalMoves way.position moves
          → AreCodes way.position moves (codes_in left)
          → drop ply replay.positions ≡ positions_from way.position moves
          → drop ply replay.played ≡ moves
          → IsAbout about.Last replay next way.position (slice_get moves 0)
          × IsWalkedTo replay (stepped s (first_code left)) rest next
      on [] legal are positions played =
          let spelled = three left long in absurd (cc (spelled, are))
      on (m ∷ moves) legal (c, more, codes, code, are) positions played =
          let spelled = three left long in
          let same_code : c ≡ first_code left = cc (spelled, codes) in
          let same_rest : more ≡ codes_in (drop 3 left) = cc (spelled, codes) in
          let last : suc ply ≡ next = omega (arith, after_it) in (
            (
              ply,
              after_it,
              at_drop replay.positions ply ∙ ap (λ ps. slice_get ps 0) positions,
              at_drop replay.played ply ∙ ap (λ ms. slice_get ms 0) played,
            ),
            record {
              position = after way.position m;
              moves = moves;
              sight = subst (λ d. IsSightOf (after way.position m) (stepped s d)) same_code
                  (step_shows_next_position way.position m c s legal.0.pseudo_legal code
                  way.sight);
              legal = legal.1;
              are = subst (AreCodes (after way.position m) moves)
                  (same_rest ∙ ap codes_in (sym same)) are;
              positions = subst (λ n. drop n replay.positions
                  ≡ positions_from (after way.position m) moves) last
                  (drop_next replay.positions ply way.position
                  (positions_from (after way.position m) moves) positions);
              played = subst (λ n. drop n replay.played ≡ moves) last
                  (drop_next replay.played ply m moves played);
            },
          )

-- ---- the plies that are left

-- of the plies those are left of which the one fact is so, as far as it is asked up to a ply, and
-- the other, up to another
abbrev pub AreKept : (ℕ → Type 0) → (ℕ → Type 0) → ℕ → ℕ → List Bool → List Bool → Type 0
AreKept First Second n k old told = (ply : ℕ)
    → IsTold told ply ↔ (IsTold old ply × (ply < n → First ply) × (ply < k → Second ply))

pub kept_none : (First Second : ℕ → Type 0) (told : List Bool)
    → AreKept First Second 0 0 told told
kept_none First Second told ply = (
  λ t. (t, (λ less. absurd (omega (arith, less))), (λ less. absurd (omega (arith, less)))),
  λ all. all.0,
)

module _ (First Second : ℕ → Type 0) (n k at : ℕ) (old told : List Bool) (is : Bool)
    (within : at < length told) (kept : AreKept First Second n k old told) where
  -- one more ply is asked the one
  pub kept_first : at ≡ n → (IsTrue is ↔ (IsTold told at × First at))
      → AreKept First Second (n + 1) k old (slice_set told at is)
  kept_first here reports ply = elim (cases_eq ply at) [
    | inl same ↦
        let value : get_or (slice_set told at is) ply false ≡ is =
        ap (λ i. get_or (slice_set told at is) i false) same
        ∙ get_or-set_same told at is false within in (
          λ t.
              let both = reports.0 (subst IsTrue value t) in
              let rest = (kept ply).0 (subst (IsTold told) (sym same) both.0) in
              (rest.0, (λ less. subst First (sym same) both.1), rest.2),
          λ all. subst IsTrue (sym value)
              (reports.1 (
                subst (IsTold told) same
                    ((kept ply).1 (all.0, (λ less. all.1 (omega (arith, less))), all.2)),
                subst First same (all.1 (omega (arith, same, here))),
              )),
        )
    | inr other ↦
        let value = get_or-set_other told at ply is false other in (
          λ t. let rest = (kept ply).0 (subst IsTrue value t) in
              (rest.0, (λ less. rest.1 (omega (arith, less, other, here))), rest.2),
          λ all. subst IsTrue (sym value)
              ((kept ply).1 (all.0, (λ less. all.1 (omega (arith, less))), all.2)),
        )
  ]

  -- or the other
  pub kept_second : at ≡ k → (IsTrue is ↔ (IsTold told at × Second at))
      → AreKept First Second n (k + 1) old (slice_set told at is)
  kept_second here reports ply = elim (cases_eq ply at) [
    | inl same ↦
        let value : get_or (slice_set told at is) ply false ≡ is =
        ap (λ i. get_or (slice_set told at is) i false) same
        ∙ get_or-set_same told at is false within in (
          λ t.
              let both = reports.0 (subst IsTrue value t) in
              let rest = (kept ply).0 (subst (IsTold told) (sym same) both.0) in
              (rest.0, rest.1, (λ less. subst Second (sym same) both.1)),
          λ all. subst IsTrue (sym value)
              (reports.1 (
                subst (IsTold told) same
                    ((kept ply).1 (all.0, all.1, (λ less. all.2 (omega (arith, less))))),
                subst Second same (all.2 (omega (arith, same, here))),
              )),
        )
    | inr other ↦
        let value = get_or-set_other told at ply is false other in (
          λ t. let rest = (kept ply).0 (subst IsTrue value t) in
              (rest.0, rest.1, (λ less. rest.2 (omega (arith, less, other, here)))),
          λ all. subst IsTrue (sym value)
              ((kept ply).1 (all.0, all.1, (λ less. all.2 (omega (arith, less))))),
        )
  ]

-- what is asked may be said in other words
pub asked_all : {A B : Type 0} {was is : Bool} → A ↔ B → (IsTrue is ↔ (IsTrue was × A))
    → IsTrue is ↔ (IsTrue was × B)
asked_all same reports = (
  λ t. let both = reports.0 t in (both.0, same.0 both.1),
  λ both. reports.1 (both.0, same.1 both.1),
)

-- where each ply is asked both, those are left of which both are so
pub kept_all : (First Second : ℕ → Type 0) (n k : ℕ) (old told : List Bool)
    → length old ≤ n → length old ≤ k → AreKept First Second n k old told → (ply : ℕ)
    → IsTold told ply ↔ (IsTold old ply × First ply × Second ply)
kept_all First Second n k old told all both kept ply = (
  λ t.
      let rest = (kept ply).0 t in
      let within = told_within old ply rest.0 in (
        rest.0,
        rest.1 (omega (arith, within, all)),
        rest.2 (omega (arith, within, both)),
      ),
  λ so. (kept ply).1 (so.0, (λ less. so.1), (λ less. so.2)),
)
