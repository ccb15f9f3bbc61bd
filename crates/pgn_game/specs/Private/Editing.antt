-- How edits are stored, and what they leave of a game.
use Rattle.std.specs.Prelude.{ℕ, Bool, List, Option, Some, None, refl}
use Rattle.std.specs.Coded.{Coded, coded_ℕ, coded_list, coded_option, coded×, code_by}
use Rattle.std.specs.Coded.{coded_bool}
use Rattle.pgn_text.specs.Public.Games.{Item}
use Rattle.pgn_game.specs.Public.Edits.{EditedTag, Edits, first_plies}

-- an edit is stored as its name and its contents
abbrev pub coded_edit : Coded EditedTag
coded_edit =
    code_by (List ℕ × Option (List ℕ))
    (coded× (coded_list coded_ℕ) (coded_option (coded_list coded_ℕ)))
    (λ e. (e.name, e.contents)) (λ p. record { name = p.0; contents = p.1 }) (λ _. refl)

-- edits are stored as those of tags, whether plies are counted, the last ply, and names in order
abbrev pub coded_edits : Coded Edits
coded_edits =
    code_by ((List EditedTag × Bool) × (Option ℕ × List (List ℕ)))
    (coded× (coded× (coded_list coded_edit) coded_bool)
    (coded× (coded_option coded_ℕ) (coded_list (coded_list coded_ℕ))))
    (λ e. ((e.tags, e.counts_plies), (e.last_ply, e.order)))
    (λ p. record { tags = p.0.0; counts_plies = p.0.1; last_ply = p.1.0; order = p.1.1 })
    (λ _. refl)

-- the elements up to the last ply that is written, or all
abbrev pub plies_up_to : Option ℕ → List Item → List Item
plies_up_to None items = items
plies_up_to (Some plies) items = first_plies plies 0 items
