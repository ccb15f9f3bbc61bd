-- What is written of a record with other tags is the record of its game with these tags.
use Rattle.std.specs.BTreeMap.{BTreeMap, btree_map_len}
use Rattle.pgn_text.specs.Public.Elements.{tags_of}
use Rattle.pgn_game.proofs.Common.{Bor, length-map, tag_of}
use Rattle.pgn_game.proofs.Common.{◌≡◌, ℕ, ◌+◌, ◌*◌, ◌%◌, ◌<◌, ◌≤◌, List, ◌++◌, length, refl, sym}
use Rattle.pgn_game.proofs.Common.{ap, ◌∙◌}
use Rattle.pgn_game.proofs.Common.{append_assoc, arith, flat_map, w32, w64, to_be_bytes, slice_cmp}
use Rattle.pgn_game.proofs.Common.{IsStrictlySortedBy, nat_cmp, tag_names, PackedGame}
use Rattle.pgn_game.proofs.Common.{Tag, FitsRecord, name_bytes, name_size, tag_bytes, tags_size}
use Rattle.pgn_game.proofs.Common.{body_bytes, record_bytes, head_of, largest_body, RawRecord}
use Rattle.pgn_game.proofs.Common.{raw_of, named_number, result_number, marks_number}
use Rattle.pgn_game.specs.Public.NamedRecords.{with_tags}
use Rattle.pgn_game.proofs.HeadFacts.{named_below, result_is_below, mark_below}
use Rattle.pgn_game.proofs.RecordFacts.{plies_size}
use Rattle.pgn_game.proofs.RecordWriting.{body_length, count_below, tags_fit}

-- a map of tags has as many as its game
pub counted : (tags : BTreeMap (Bor (List ℕ)) (Bor (List ℕ))) (own : List Tag)
    → tags_of tags ≡ own → btree_map_len tags ≡ length own
counted tags own is = sym (length-map tags.entries tag_of) ∙ ap length is

-- how many bytes stand after the size in the record of the game with these tags
abbrev pub headed_size : RawRecord → List Tag → ℕ
headed_size raw tags = 20 + name_size raw.name + tags_size tags + length raw.plies

size_is : (game : PackedGame) (tags : List Tag)
    → length (body_bytes (with_tags tags game)) ≡ headed_size (raw_of game) tags
size_is game tags =
    omega (arith, body_length (with_tags tags game), plies_size game.plies)

below : (t n r m : ℕ) → n < 2 → r < 4 → m < 4
    → (32 * t + 16 * n + 4 * r + m) % 32 ≡ 16 * n + 4 * r + m
below t n r m name result mark = omega arith

head_is : (game : PackedGame) (tags : List Tag) → FitsRecord game
    → 32 * length tags + head_of game % 32 ≡ head_of (with_tags tags game)
head_is game tags fits =
    let rest =
    below (length game.tags) (named_number game.name) (result_number game.result)
    (marks_number game.check game.stuck) (named_below game.name)
    (result_is_below game.result fits.result) (mark_below game.check game.stuck) in
    omega (arith, rest)

headed_fits : (game : PackedGame) (tags : List Tag) → FitsRecord game
    → headed_size (raw_of game) tags ≤ largest_body
    → IsStrictlySortedBy (slice_cmp nat_cmp) (tag_names tags) → FitsRecord (with_tags tags game)
headed_fits game tags fits small ordered = record {
  number = fits.number;
  offset = fits.offset;
  name = fits.name;
  count = omega (arith, count_below tags);
  tags = tags_fit tags (omega arith);
  ordered = ordered;
  result = fits.result;
  plies = fits.plies;
  size = omega (arith, size_is game tags);
  origin = fits.origin;
}

-- the fields, one after another
pub headed : (raw : RawRecord) (game : PackedGame) (tags : List Tag)
    (old sized numbered placed counted named tagged new : List ℕ)
    → raw ≡ raw_of game → FitsRecord game → headed_size raw tags ≤ largest_body
    → IsStrictlySortedBy (slice_cmp nat_cmp) (tag_names tags)
    → sized ≡ old ++ to_be_bytes w32 (headed_size raw tags)
    → numbered ≡ sized ++ to_be_bytes w64 raw.number
    → placed ≡ numbered ++ to_be_bytes w64 raw.offset
    → counted ≡ placed ++ to_be_bytes w32 (32 * length tags + raw.head % 32)
    → named ≡ counted ++ name_bytes raw.name → tagged ≡ named ++ flat_map tag_bytes tags
    → new ≡ tagged ++ raw.plies
    → FitsRecord (with_tags tags game) × (new ≡ old ++ record_bytes (with_tags tags game))
headed raw game tags old sized numbered placed counted named tagged new shows fits small ordered
    size number offset count name tag plies =
    let least = rw shows at small in (
      headed_fits game tags fits least ordered,
      rw (
        plies,
        tag,
        name,
        count,
        offset,
        number,
        size,
        shows,
        ← (size_is game tags),
        head_is game tags fits,
      ) (simp append_assoc refl),
    )
