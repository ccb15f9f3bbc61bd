-- Plies of a game that are left, and criteria that are asked in place of others.
use Rattle.pgn_extract.proofs.Common.{◌≡◌, ◌↔◌, ℕ, zero, suc, ◌+◌, ◌<◌, ◌≤◌, List, [], ◌∷◌, length}
use Rattle.pgn_extract.proofs.Common.{drop, Option, Some, sym, subst, arith, IfSome}
use Rattle.pgn_extract.proofs.Common.{State, Replay, GameText, Heading, heading_of, Meets}
use Rattle.pgn_extract.proofs.Common.{Conditions, Aim, GameId, IsMet, IsOfGame, AsksFor, Entry}
use Rattle.pgn_extract.proofs.Common.{plies_of, AreChosen, none, leave}
use Rattle.pgn_extract.specs.Public.Listing.{Shown}

module _ (id : GameId) (P : ℕ → Type 0) (S : ℕ → Shown → Type 0) where
  -- of positions in a row the first are left
  pub leaves : (ply count : ℕ) (positions : List State) (chosen : List Entry)
      → ((n : ℕ) → ply ≤ n → n < ply + count → P n → ⊥)
      → AreChosen id P S (plies_of (ply + count) (drop count positions)) chosen
      → AreChosen id P S (plies_of ply positions) chosen
  leaves ply zero positions chosen fail later =
      let same : ply + 0 ≡ ply = omega arith in
      subst (λ n. AreChosen id P S (plies_of n positions) chosen) same later
  leaves ply (suc count) [] chosen fail later = later
  leaves ply (suc count) (position ∷ more) chosen fail later =
      let next : ply + suc count ≡ ply + 1 + count = omega arith in
      leave ply (plies_of (ply + 1) more) chosen (fail ply (omega arith) (omega arith))
      (leaves (ply + 1) count more chosen (λ n low high. fail n (omega arith) (omega arith))
      (subst (λ n. AreChosen id P S (plies_of n (drop count more)) chosen) next later))

  -- and all are
  pub leaves_all : (ply : ℕ) (positions : List State)
      → ((n : ℕ) → ply ≤ n → n < ply + length positions → P n → ⊥)
      → AreChosen id P S (plies_of ply positions) []
  leaves_all ply [] fail = none
  leaves_all ply (position ∷ more) fail =
      leave ply (plies_of (ply + 1) more) [] (fail ply (omega arith) (omega arith))
      (leaves_all (ply + 1) more (λ n low high. fail n (omega arith) (omega arith)))

-- how many are left after the first ones
pub dropped : (count : ℕ) (positions : List State)
    → (length positions ≤ count + length (drop count positions))
    × (0 < length (drop count positions) → count + length (drop count positions) ≤ length positions)
dropped zero positions = (omega arith, λ some. omega arith)
dropped (suc count) [] = (omega arith, λ some. absurd (omega arith))
dropped (suc count) (position ∷ more) =
    let of = dropped count more in
    (let size = of.0 in omega arith, λ some. let fits = of.1 some in omega arith)

-- what is looked for in place of criteria that are given
pub same_met : (tags : Heading) (replay : Replay) (criteria : Option (List Conditions))
    (alternatives others : List Conditions) (ply : ℕ) → criteria ≡ Some alternatives
    → (Meets tags replay ply others ↔ Meets tags replay ply alternatives)
    → IsMet (Some others) tags replay ply ↔ IsMet criteria tags replay ply
same_met tags replay criteria alternatives others ply is same =
    subst (λ (c : Option (List Conditions)). Meets tags replay ply others
    ↔ IsMet c tags replay ply) (sym is) same

-- of each replay of the game the same plies are met
abbrev pub AsksAlike : GameText → List Conditions → List Conditions → Type 0
AsksAlike game alternatives others =
    (replay : Replay) → IsOfGame game replay → (ply : ℕ) → Meets (heading_of game) replay ply others
    ↔ Meets (heading_of game) replay ply alternatives

-- so what is watched for in place of criteria that are given asks for them
pub asks_given : (aim : Aim) (game : GameText) (alternatives : List Conditions)
    (watched : Option (List Conditions))
    (others : List Conditions) → aim.criteria ≡ Some alternatives → watched ≡ Some others
    → IfSome watched (AsksAlike game alternatives) → AsksFor aim game others
asks_given aim game alternatives watched others given is alike replay own ply within =
    let here : AsksAlike game alternatives others =
    subst (λ o. IfSome o (AsksAlike game alternatives)) is alike in
    same_met (heading_of game) replay aim.criteria alternatives others ply given
    (here replay own ply)
