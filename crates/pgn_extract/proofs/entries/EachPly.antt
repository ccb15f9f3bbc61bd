-- The entries of a game where there are no criteria: plies in a row.
use Rattle.std.proofs.Common.{◌≡◌, zero, List, ◌++◌, length, drop, Option, None, true, subst, arith}
use Rattle.std.proofs.Common.{◌↔◌, ℕ, suc, ◌+◌, ◌-◌, ◌<◌, ◌≤◌, [], ◌∷◌, sym, refl, ap, inl, inr}
use Rattle.pgn_extract.proofs.Common.{cases_lt, State, Replay, Heading, Conditions, Aim, GameId}
use Rattle.pgn_extract.proofs.Common.{IsMet, IsEntry, named_mark, Entry, GameText, heading_of}
use Rattle.pgn_extract.proofs.Common.{entry_line, listing, plies_of, AreListed, AreChosen, keep}
use Rattle.pgn_extract.specs.Private.Blockwise.{IsPlainEntry, lines_from}
use Rattle.pgn_extract.proofs.Chosen.{entry_at}
use Rattle.pgn_extract.proofs.ShownTexts.{nothing_shown}
use Rattle.pgn_extract.specs.Public.Listing.{Shown, AfterPly, IsShownOf}
use Rattle.pgn_extract.specs.Private.Lines.{is_bare}
use Rattle.pgn_extract.specs.Public.Rows.{place_of}
use Rattle.pgn_extract.proofs.Picks.{leaves, leaves_all, dropped}

-- the entries of a game at so many plies in a row
pub plies_from : GameId → ℕ → ℕ → List Entry
plies_from id ply zero = []
plies_from id ply (suc count) = entry_at id ply (AfterPly []) ∷ plies_from id (ply + 1) count

module _ (id : GameId) (P : ℕ → Type 0) (S : ℕ → Shown → Type 0) (bare : (ply : ℕ)
    → S ply (AfterPly [])) where
  -- of positions in a row the first so many are chosen
  keeps : (ply count : ℕ) (positions : List State) → count ≤ length positions
      → ((n : ℕ) → ply ≤ n → n < ply + count → P n)
      → ((n : ℕ) → ply + count ≤ n → n < ply + length positions → P n → ⊥)
      → AreChosen id P S (plies_of ply positions) (plies_from id ply count)
  unfolding plies_from
  keeps ply zero positions fits holds fails =
      leaves_all id P S ply positions (λ n low high. fails n (omega arith) high)
  keeps ply (suc count) [] fits holds fails = absurd (omega arith)
  keeps ply (suc count) (position ∷ more) fits holds fails =
      keep ply (AfterPly []) (plies_of (ply + 1) more) (plies_from id (ply + 1) count)
      (holds ply (omega arith) (omega arith)) (bare ply)
      (keeps (ply + 1) count more (omega arith) (λ n low high.
      holds n (omega arith) (omega arith)) (λ n low high. fails n (omega arith) (omega arith)))

  -- the positions from a ply to another are chosen
  between : (from end : ℕ) (positions : List State) → ((n : ℕ) → P n → from ≤ n)
      → ((n : ℕ) → n < length positions → P n ↔ (from ≤ n) × (n < end))
      → (from < end → end ≤ length positions)
      → AreChosen id P S (plies_of 0 positions) (plies_from id from (end - from))
  between from end positions least exactly fits =
      let sizes = dropped from positions in
      let same : from ≡ 0 + from = omega arith in
      leaves id P S 0 from positions (plies_from id from (end - from))
      (λ n low high holds. let above = least n holds in omega arith)
      (subst (λ n.
      AreChosen id P S (plies_of n (drop from positions)) (plies_from id from (end - from)))
      same
      (keeps from (end - from) (drop from positions) few
      (λ n low high. let most = fits (omega arith) in
      (exactly n (omega arith)).1 (omega arith, omega arith))
      (λ n low high holds. let most = sizes.1 (omega arith) in let bounds =
      (exactly n (omega arith)).0 holds in omega arith)))
    where
      few : end - from ≤ length (drop from positions)
      few = let size = (dropped from positions).0 in elim (cases_lt from end) [
        | inl less ↦ let most = fits less in omega arith
        | inr over ↦ omega arith
      ]

-- without criteria a ply of the main line is an entry by the bounds alone
plain_entry : (aim : Aim) → aim.criteria ≡ None → (tags : Heading) (replay : Replay) (plies n : ℕ)
    → n ≤ plies → IsEntry aim tags replay n ↔ IsPlainEntry aim plies n
plain_entry aim no_criteria tags replay plies n within = (to, from)
  where
    met : (ply : ℕ) → IsMet aim.criteria tags replay ply
    met ply = subst (λ (c : Option (List Conditions)). IsMet c tags replay ply) (sym no_criteria) tt

    to : IsEntry aim tags replay n → IsPlainEntry aim plies n
    to entry =
        let low : aim.min_ply ≤ n = entry.0.0 in
        let high : n ≤ aim.max_ply = entry.0.1 in (
          within,
          low,
          high,
          λ first. elim (cases_lt aim.min_ply n) [
            | inl less ↦ absurd (entry.1 first aim.min_ply less
                (omega arith, omega arith, met aim.min_ply))
            | inr least ↦ omega arith
          ],
        )

    from : IsPlainEntry aim plies n → IsEntry aim tags replay n
    from (_, low, high, only) = (
      (low, high, met n),
      λ first before less wanted. let is = only first in let least = wanted.0 in omega arith,
    )

-- so the entries are the plies from the least one on
pub listed_plies : (aim : Aim) (id : GameId) (plies end : ℕ) → aim.criteria ≡ None
    → is_bare aim.line ≡ true → aim.of_line ≡ None
    → ((ply : ℕ) → IsPlainEntry aim plies ply ↔ (aim.min_ply ≤ ply) × (ply < end))
    → (game : GameText) (replay : Replay) → length replay.positions ≡ plies + 1
    → AreListed aim id game replay (plies_from id aim.min_ply (end - aim.min_ply))
listed_plies aim id plies end no_criteria plain no_line range game replay size =
    between id (IsEntry aim (heading_of game) replay) (IsShownOf aim id game replay)
    (λ ply. nothing_shown aim.line plain
    (place_of aim.name aim.openings id aim.of_line game replay ply) no_line)
    aim.min_ply end
    replay.positions
    (λ n entry. entry.0.0)
    (λ n less. let plain = plain_entry aim no_criteria (heading_of game) replay plies n
    (omega arith) in
    (λ entry. (range n).0 (plain.0 entry), λ bounds. plain.1 ((range n).1 bounds)))
    (λ some. let last = (range (end - 1)).1 (omega arith, omega arith) in let within = last.0 in
    omega arith)

-- their lines are the lines in a row
pub lines_listed : (name : Option (List ℕ)) (id : GameId) (ply count : ℕ)
    → lines_from (named_mark name id) ply count ≡ listing name (plies_from id ply count)
unfolding lines_from plies_from
lines_listed name id ply zero = refl
lines_listed name id ply (suc count) =
    ap (λ t. entry_line name (entry_at id ply (AfterPly [])) ++ t)
    (lines_listed name id (ply + 1) count)
