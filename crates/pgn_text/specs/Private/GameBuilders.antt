-- What a game builder holds.
use Rattle.std.specs.Prelude.{◌≡◌, ℕ, List, Option, map}
use Rattle.pgn_text.specs.Public.Elements.{item_of}
use Rattle.pgn_text.specs.Private.TagOrder.{AreOrdered, tag_at}
use Rattle.pgn_text.specs.Public.Games.{Item}
use Rattle.pgn_text.specs.declared.game.game_builder.GameBuilder.{GameBuilder}

-- the game builder holds these tags, by name, and these elements
pub record IsBuilderOf (game_builder : GameBuilder) (tags : List ℕ
    → Option (List ℕ)) (items : List Item) : Type 0 where
  pub ordered : AreOrdered game_builder.tags
  pub each : (wanted : List ℕ) → tag_at game_builder.tags wanted ≡ tags wanted
  pub elements : map item_of game_builder.elements.items ≡ items
