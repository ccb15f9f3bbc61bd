-- Tags after edits that may be made.
use Rattle.std.specs.Prelude.{bytes_eq, if◌then◌else◌}
use Rattle.pgn_game.proofs.Common.{◌≡◌, ℕ, suc, Bool, true, false, List, [], ◌∷◌, Option, refl, ap}
use Rattle.pgn_game.proofs.Common.{◌∙◌, fen_tag}
use Rattle.pgn_text.proofs.TagLemmas.{bytes_eq-same}
use Rattle.pgn_game.specs.Public.Edits.{AreEditable, EditedTag, edited_tag}

-- no edit is of the start
pub start_stays : (edits : List EditedTag) (own : Option (List ℕ)) → AreEditable edits
    → edited_tag edits fen_tag own ≡ own
start_stays [] own are = refl
start_stays (edit ∷ edits) own are =
    ap (edited_tag edits fen_tag) (by (bytes_eq edit.name fen_tag) refl)
    ∙ start_stays edits own (λ place. are (suc place))
  where
    by : (same : Bool) → bytes_eq edit.name fen_tag ≡ same
        → (if same then edit.contents else own) ≡ own
    by true is = absurd ((are 0 edit refl).start (bytes_eq-same edit.name fen_tag is))
    by false is = refl
