use Rattle.std.specs.Prelude.{Option, Some, None}
use Rattle.pgn_criteria.proofs.Common.{ℕ, List, MatchOption, SpellsTag, SpellsGame, game_seen}
use Rattle.pgn_criteria.proofs.Common.{Comparison, Relation, Text, Number, Date, Days, GameClaim}
use Rattle.pgn_criteria.proofs.Common.{Tag, Moves, Plies, Result}
use Rattle.pgn_criteria.proofs.line.game_claim_of.Goals as goal

-- a text that is no claim of five forms is one on the text of a tag, or none
or_tag : {T : Type 0} (bytes : T → List ℕ) (text : List ℕ) (found : Option (GameClaim T))
    → ((words : List ℕ) → SpellsGame text (Moves words) → ⊥)
    → ((comparison : Comparison) (count : ℕ) → SpellsGame text (Plies comparison count) → ⊥)
    → ((result : List ℕ) → SpellsGame text (Result result) → ⊥)
    → ((names : List ℕ) (comparison : Comparison) (number : ℕ)
    → SpellsTag text names (Number comparison number) → ⊥)
    → ((names : List ℕ) (comparison : Comparison) (days : Days)
    → SpellsTag text names (Date comparison days) → ⊥) → MatchOption found
    ((names contents : List ℕ) (relation : Relation) → SpellsTag text names (Text relation contents)
    → ⊥)
    (λ f. SpellsGame text (game_seen bytes f))
    → MatchOption found ((claim : GameClaim (List ℕ)) → SpellsGame text claim → ⊥)
    (λ f. SpellsGame text (game_seen bytes f))
or_tag bytes text (Some f) moves plies result numbers dates tag = tag
or_tag bytes text None moves plies result numbers dates tag = none
  where
    none : (claim : GameClaim (List ℕ)) → SpellsGame text claim → ⊥
    none (Tag names (Text relation contents)) spells = tag names contents relation spells
    none (Tag names (Number comparison number)) spells = numbers names comparison number spells
    none (Tag names (Date comparison days)) spells = dates names comparison days spells
    none (Moves words) spells = moves words spells
    none (Plies comparison count) spells = plies comparison count spells
    none (Result own) spells = result own spells

pub returns : goal.returns
returns c =
    or_tag (λ bytes. bytes.now) c.args.text.now c.tag_of.result c.in_default.ensures
    c.in_default-plies_of.ensures c.in_default-result_of.ensures c.in_default-number_of.ensures
    c.in_default-date_of.ensures c.tag_of.ensures
