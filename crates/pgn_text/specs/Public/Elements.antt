-- What readers of a game see: its elements and its tags.
use Rattle.std.specs.Prelude.{ℕ, List, map}
use Rattle.std.specs.Borrow.{Bor}
use Rattle.std.specs.BTreeMap.{BTreeMap}
use Rattle.pgn_text.specs.Public.Games.{Item, MoveText, GlyphNumber, CommentText, VariationOpen}
use Rattle.pgn_text.specs.Public.Games.{VariationClose}
use Rattle.pgn_text.specs.declared.game.Element.{Element}
use Rattle.pgn_text.specs.declared.game.Element.TheVariants.{Move, Glyph, Comment, Open, Close}

-- an element, by its bytes
abbrev pub item_of : Element → Item
item_of (Move word) = MoveText word.now
item_of (Glyph number) = GlyphNumber number
item_of (Comment text) = CommentText text.now
item_of Open = VariationOpen
item_of Close = VariationClose

-- a tag's name and contents, by their bytes
abbrev pub tag_of : Bor (List ℕ) × Bor (List ℕ) → List ℕ × List ℕ
tag_of tag = (tag.0.now, tag.1.now)

-- the tags of a map, by their bytes
abbrev pub tags_of : BTreeMap (Bor (List ℕ)) (Bor (List ℕ)) → List (List ℕ × List ℕ)
tags_of tags = map tag_of tags.entries
