-- A record shows the heading of its game.
use Rattle.std.proofs.Common.{Result, Ok, Err, Bor, Some, None}
use Rattle.std.specs.Prelude.{IfOk, IfSome}
use Rattle.std.specs.List.{flat_map}
use Rattle.std.proofs.lemmas.List.Concat.{flat_map-cons}
use Rattle.pgn_criteria.proofs.Common.{◌≡◌, ℕ, List, [], ◌∷◌, ◌++◌, length, Option, refl, sym, ap}
use Rattle.pgn_criteria.proofs.Common.{◌∙◌, append_assoc, option_map, AllByRecursion, tag_in}
use Rattle.pgn_criteria.proofs.Common.{Replay, Heading, heading_of, heading_of_raw}
use Rattle.pgn_text.specs.Public.GameTexts.{GameText}
use Rattle.pgn_game.specs.declared.pack.error.RecordError.{RecordError}
use Rattle.pgn_game.specs.Public.PlyCodes.{code_bytes}
use Rattle.pgn_game.specs.Public.PackedGames.{PackedGame, Tag, FitsTag, FitsRecord, IsPacked}
use Rattle.pgn_game.specs.Public.PackedGames.{tag_bytes}
use Rattle.pgn_game.specs.Public.PackReading.{IsRawOfGame, RawRecord, raw_of}
use Rattle.pgn_game.proofs.HeadFacts.{head_shows}
use Rattle.pgn_game.proofs.TagSearch.{tag_again}
use Rattle.pgn_criteria.specs.Private.Records.{tag_before, tags_at, heading_of_packed}

-- the tags of a record are those of its game
tags_again : (tags : List Tag) (rest : List ℕ) → AllByRecursion FitsTag tags
    → tags_at (length tags) (flat_map tag_bytes tags ++ rest) ≡ tags
tags_again [] rest fits = refl
tags_again (t ∷ tags) rest fits =
    let front : flat_map tag_bytes (t ∷ tags) ++ rest
    ≡ tag_bytes t ++ (flat_map tag_bytes tags ++ rest) =
    ap (λ (x : List ℕ). x ++ rest) (flat_map-cons tag_bytes t tags)
    ∙ append_assoc (tag_bytes t) (flat_map tag_bytes tags) rest in
    ap (tags_at (length (t ∷ tags))) front
    ∙ ap (λ (r : Result (Tag × List ℕ) RecordError).
    tag_before r (tags_at (length tags))) (tag_again t (flat_map tag_bytes tags ++ rest) fits.0)
    ∙ ap (λ (ts : List Tag). t ∷ ts) (tags_again tags rest fits.1)

-- the heading that the record of a game shows is that of the game
pub raw_heading : (packed : PackedGame) → FitsRecord packed
    → heading_of_raw (raw_of packed) ≡ heading_of_packed packed
raw_heading packed fits =
    let shows = head_shows packed fits in
    let tags = ap (λ (n : ℕ).
    tags_at n (flat_map tag_bytes packed.tags ++ flat_map code_bytes packed.plies)) shows.count
    ∙ tags_again packed.tags (flat_map code_bytes packed.plies) fits.tags in
    let result = shows.result in
    λ i. record { named = λ name. tag_in name (tags i); result = result i }

-- and so is that of the text that was packed
pub text_heading : (name : Option (List ℕ)) (number offset : ℕ) (game : GameText) (replay : Replay)
    (packed : PackedGame) → IsPacked name number offset game replay packed
    → heading_of_packed packed ≡ heading_of game
text_heading name number offset game replay packed is =
    let tags = is.tags in let result = is.result in
    λ i. record { named = λ name. tag_in name (tags i); result = result i }

-- the tag that is found there
pub named_there : (raw : RawRecord) → IsRawOfGame raw
    → (name : List ℕ) (found : Option (Bor (List ℕ)))
    → ((packed : PackedGame) → FitsRecord packed → raw ≡ raw_of packed
    → option_map (λ contents. contents.now) found ≡ tag_in name packed.tags)
    → (heading_of_raw raw).named name ≡ option_map (λ contents. contents.now) found
named_there raw (packed, fits, is) name found gives =
    ap (λ (r : RawRecord). (heading_of_raw r).named name) is
    ∙ ap (λ (h : Heading). h.named name) (raw_heading packed fits) ∙ sym (gives packed fits is)

-- what is watched is so in other words
pub said_so : {X E : Type 0} {P Q : X → Type 0} (r : Result (Option X) E) → ((x : X) → P x → Q x)
    → IfOk r (λ o. IfSome o P) → IfOk r (λ o. IfSome o Q)
said_so (Ok (Some x)) so all = so x all
said_so (Ok None) so all = tt
said_so (Err e) so all = tt
