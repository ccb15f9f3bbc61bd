-- A game that its heading rules out has no entry, and is one that is not written.
use Rattle.pgn_extract.proofs.Common.{◌≡◌, ◌⊎◌, ℕ, Bool, true, false, List, [], ◌∷◌, Option, Some}
use Rattle.pgn_extract.proofs.Common.{None, inl, inr, refl, sym, subst, cases_Bool}
use Rattle.pgn_extract.proofs.Common.{both_ways, GameText, Replay, Heading, heading_of, Conditions}
use Rattle.pgn_extract.proofs.Common.{Aim, GameId, HasNoChance, IsEntry, IsMet, IsRuledOut, Entry}
use Rattle.pgn_extract.proofs.Common.{AreChosen, keep, leave, none, HasEntry, IsSelected, Verdict}
use Rattle.pgn_extract.proofs.Common.{SoundGame, IsGameVerdict, IsReplayed, Mode, Select, Faulty}
use Rattle.pgn_extract.proofs.Common.{Matching, Others}
use Rattle.pgn_criteria.proofs.HeadingFacts.{may_or_not, may_where_met}
use Rattle.pgn_extract.specs.Public.Listing.{Shown}
use Rattle.pgn_extract.specs.Public.Verdicts.IsPlayedOrNot.{played, unplayed}

-- ---- entries

pub no_met : (criteria : Option (List Conditions)) (heading : Heading) (replay : Replay) (ply : ℕ)
    → HasNoChance criteria heading → IsMet criteria heading replay ply → ⊥
no_met None heading replay ply out met = out
no_met (Some criteria) heading replay ply out met =
    out (may_where_met heading replay ply criteria met)

pub no_entry : (aim : Aim) (heading : Heading) (replay : Replay) (ply : ℕ)
    → IsRuledOut aim heading → IsEntry aim heading replay ply → ⊥
no_entry aim heading replay ply out entry =
    no_met aim.criteria heading replay ply out.no_chance entry.0.2

-- of plies of which none has the fact, none is chosen
module _ (id : GameId) (P : ℕ → Type 0) (S : ℕ → Shown → Type 0) (fails : (ply : ℕ)
    → P ply → ⊥) where
  pub none_chosen : (all : List ℕ) → AreChosen id P S all []
  none_chosen [] = none
  none_chosen (ply ∷ more) = leave ply more [] (fails ply) (none_chosen more)

  pub chosen_none : (all : List ℕ) (entries : List Entry) → AreChosen id P S all entries
      → entries ≡ []
  chosen_none _ _ none = refl
  chosen_none _ _ (keep ply shown all chosen holds shows more) = absurd (fails ply holds)
  chosen_none _ _ (leave ply all chosen not_so more) = chosen_none all chosen more

-- ---- games that are written

unselected_in : (select : Select) {P : Type 0} → select ≡ Matching → (P → ⊥)
    → IsSelected select P → ⊥
unselected_in Matching is fails selected = fails selected
unselected_in Others is fails selected = absurd (cc)
unselected_in Faulty is fails selected = absurd (cc)

pub not_selected : (aim : Aim) (heading : Heading) (replay : Replay) → IsRuledOut aim heading
    → IsSelected aim.select (HasEntry aim heading replay) → ⊥
not_selected aim heading replay out =
    unselected_in aim.select out.select (λ has. no_entry aim heading replay has.0 out has.2)

-- ---- verdicts

pub unplayed_verdict : (mode : Mode) (aim : Aim) (id : GameId) (game : GameText)
    → IsRuledOut aim (heading_of game)
    → IsGameVerdict aim.tags_first mode aim id game (SoundGame [])
unplayed_verdict mode aim id game out =
    subst (λ t. IsGameVerdict t mode aim id game (SoundGame [])) (sym out.asked)
    (unplayed out refl)

pub played_verdict : (tags_first : Bool) (mode : Mode) (aim : Aim) (id : GameId) (game : GameText)
    (verdict : Verdict) → (IsRuledOut aim (heading_of game) → ⊥)
    → IsReplayed mode aim id game verdict → IsGameVerdict tags_first mode aim id game verdict
played_verdict false mode aim id game verdict not_out is = is
played_verdict true mode aim id game verdict not_out is = played not_out is

-- a game is ruled out, or by its replay it is reported
pub either_way : (tags_first : Bool) (mode : Mode) (aim : Aim) (id : GameId) (game : GameText)
    (verdict : Verdict) → IsGameVerdict tags_first mode aim id game verdict
    → (IsRuledOut aim (heading_of game) × (verdict ≡ SoundGame []))
    ⊎ IsReplayed mode aim id game verdict
either_way false mode aim id game verdict is = inr is
either_way true mode aim id game verdict (unplayed out is) = inl (out, is)
either_way true mode aim id game verdict (played not_out is) = inr is

-- and it is ruled out or not
chance_or_none : (criteria : Option (List Conditions)) (heading : Heading)
    → HasNoChance criteria heading ⊎ (HasNoChance criteria heading → ⊥)
chance_or_none None heading = inr (λ out. out)
chance_or_none (Some criteria) heading = elim (may_or_not heading criteria) [
  | inl may ↦ inr (λ out. out may)
  | inr out ↦ inl out
]

matching_or_not : (select : Select) → (select ≡ Matching) ⊎ (select ≡ Matching → ⊥)
matching_or_not Matching = inl refl
matching_or_not Others = inr (λ is. cc)
matching_or_not Faulty = inr (λ is. cc)

pub ruled_out_or_not : (aim : Aim) (heading : Heading)
    → IsRuledOut aim heading ⊎ (IsRuledOut aim heading → ⊥)
ruled_out_or_not aim heading = elim (cases_Bool aim.tags_first) [
  | inr off ↦ inr (λ out. both_ways aim.tags_first off out.asked)
  | inl on ↦ elim (matching_or_not aim.select) [
    | inr other ↦ inr (λ out. other out.select)
    | inl matching ↦ elim (chance_or_none aim.criteria heading) [
      | inr chance ↦ inr (λ out. chance out.no_chance)
      | inl no_chance ↦ inl (record { asked = on; select = matching; no_chance = no_chance })
    ]
  ]
]
