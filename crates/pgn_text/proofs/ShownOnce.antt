-- The parts of a game make one game text at most.
use Rattle.std.proofs.lemmas.Map.Lookups.{exact_bytes}
use Rattle.std.specs.FinMap.Entries.{same_entries}
use Rattle.pgn_text.proofs.Common.{◌≡◌, ℕ, List, sym, ◌∙◌, nat_list_cmp_total, IsStrictlySortedBy}
use Rattle.pgn_text.proofs.Common.{Part, GameText, IsGameText, ShowsGame, tag_in, tag_names}
use Rattle.pgn_text.proofs.SortedTags.{name_cmp, sorted_tags, find-tag_in}

-- tags whose names ascend are settled by what stands under each name
pub same_tags : (tags others : List (List ℕ × List ℕ))
    → IsStrictlySortedBy name_cmp (tag_names tags) → IsStrictlySortedBy name_cmp (tag_names others)
    → ((wanted : List ℕ) → tag_in wanted tags ≡ tag_in wanted others) → tags ≡ others
same_tags tags others ascends other_ascends same =
    same_entries name_cmp nat_list_cmp_total exact_bytes tags others (sorted_tags tags ascends)
    (sorted_tags others other_ascends)
    (λ wanted. find-tag_in wanted tags ∙ same wanted ∙ sym (find-tag_in wanted others))

-- two game texts of the same parts have the same tags, elements, result and bytes
pub one_game_text : (parts : List Part) (game other : GameText) → IsGameText game → IsGameText other
    → ShowsGame game game.at parts → ShowsGame other other.at parts
    → (game.tags ≡ other.tags) × (game.elements ≡ other.elements) × (game.result ≡ other.result)
    × (game.text ≡ other.text)
one_game_text parts game other sound other_sound shows other_shows = (
  same_tags game.tags other.tags sound.ordered other_sound.ordered (λ wanted. shows.tags wanted
      ∙ sym (other_shows.tags wanted)),
  shows.elements ∙ sym other_shows.elements,
  shows.result ∙ sym other_shows.result,
  shows.text ∙ sym other_shows.text,
)
