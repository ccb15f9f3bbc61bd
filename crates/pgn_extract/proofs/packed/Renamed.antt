-- The record of a packed game with the tags of its opening is that of the game as it counts.
use Rattle.pgn_extract.proofs.Common.{◌≡◌, ℕ, List, [], ◌++◌, Some, None, Ok, refl, sym, ap}
use Rattle.pgn_extract.proofs.Common.{◌∙◌, subst, append-nil, GameText, IsGameText, tag_in, fen_tag}
use Rattle.pgn_extract.proofs.Common.{Main, Replay, RawRecord, raw_of, PackedGame, FitsRecord}
use Rattle.pgn_extract.proofs.Common.{Aim, AreListed, listing, raw_id, record_aim}
use Rattle.pgn_extract.proofs.Common.{IsOfRecord}
use Rattle.pgn_extract.proofs.Common.{HasNoText}
use Rattle.std.specs.List.{slice_get}
use Rattle.pgn_game.specs.Public.NamedRecords.{IsNamedRecord, with_tags}
use Rattle.pgn_game.specs.Public.Openings.{NamedLine, tag_by}
use Rattle.pgn_game.specs.Public.PackReading.{record_at}
use Rattle.pgn_game.specs.Public.PackedGames.{record_bytes}
use Rattle.pgn_game.proofs.RecordFields.{ok_is}
use Rattle.pgn_game.specs.Public.Replays.{IsReplay}
use Rattle.pgn_game.specs.declared.openings.Opening.{Opening}
use Rattle.pgn_game.proofs.NoOpening.{as_it_stands, none_there}
use Rattle.pgn_extract.specs.Private.Packed.{ListsCounted, ListsRecord}
use Rattle.pgn_extract.specs.Public.Listing.{CountsAs}
use Rattle.pgn_extract.specs.Public.Rows.{IsOpeningBy}

-- the game with the tags of the record
abbrev pub named_game : GameText → {lines : List NamedLine} {place : ℕ} {packed : PackedGame}
    {bytes : List ℕ} → IsNamedRecord lines place packed bytes → GameText
named_game game is = record game { tags = is.head.tags }

module _ {raw : RawRecord} {game : GameText} {replay : Replay} {packed : PackedGame}
    (own : IsOfRecord raw game replay packed) {lines : List NamedLine} {place : ℕ}
    {bytes : List ℕ} (is : IsNamedRecord lines place packed bytes) where
  -- it starts where the game does
  same_start : tag_in fen_tag game.tags ≡ tag_in fen_tag is.head.tags
  same_start = sym (is.tags fen_tag ∙ ap (tag_in fen_tag) own.kept.tags)

  good_named : IsGameText (named_game game is)
  good_named = record {
    ordered = is.good.ordered;
    strings = is.good.strings;
    names = is.good.names;
    paired = own.text.paired;
    ends = own.text.ends;
  }

  -- the other record is that of the game with these tags
  pub of_named : (other : RawRecord) → raw_of (with_tags is.head.tags packed) ≡ other
      → IsOfRecord other (named_game game is) replay (with_tags is.head.tags packed)
  of_named other shows = record {
    fits = is.fits;
    shows = shows;
    text = good_named;
    is_replay = subst (λ fen. IsReplay Main fen game.elements replay) same_start own.is_replay;
    kept = record {
      name = refl;
      number = refl;
      offset = refl;
      tags = refl;
      result = own.kept.result;
      start = own.kept.start;
      first = own.kept.first;
      marks = own.kept.marks;
      plies = own.kept.plies;
    };
  }

  -- as which the game counts, where the line at that place is that of its opening
  pub counts_named : (opening : Opening) → opening.line ≡ place
      → IsOpeningBy (Some lines) replay.positions (Some opening)
      → CountsAs (Some lines) game (named_game game is)
  counts_named opening same found = (
    good_named,
    (
      Some is.line,
      (
        opening,
        (replay, own.is_replay, found),
        subst (λ n. slice_get lines n ≡ Some is.line) (sym same) is.there,
        is.contents,
      ),
      record {
        place = refl;
        text = refl;
        tags = λ wanted. is.tags wanted
            ∙ ap (λ tags. tag_by (Some is.line) wanted (tag_in wanted tags)) own.kept.tags;
        elements = refl;
        result = refl;
      },
    ),
  )

-- what is read of the bytes of a record is that record
pub read_again : (bytes : List ℕ) (packed : PackedGame) (other : RawRecord) (rest : List ℕ)
    → ((game : PackedGame) (more : List ℕ) → FitsRecord game
    → bytes ≡ record_bytes game ++ more → record_at bytes ≡ Ok (raw_of game, more))
    → FitsRecord packed → bytes ≡ record_bytes packed → record_at bytes ≡ Ok (other, rest)
    → raw_of packed ≡ other
read_again bytes packed other rest only fits spells read =
    ap (λ (x : RawRecord × List ℕ). x.0) (ok_is (raw_of packed, []) (other, rest)
    (sym (only packed [] fits (spells ∙ sym (append-nil (record_bytes packed)))) ∙ read))

-- what is listed of the other record is listed of the game as it counts
pub counted_named : (aim : Aim) (raw other : RawRecord) (lines : List NamedLine) (place : ℕ)
    (bytes old new : List ℕ) (opening : Opening) → aim.openings ≡ Some lines
    → opening.line ≡ place
    → ((game : GameText) (replay : Replay) (packed : PackedGame)
    → IsOfRecord raw game replay packed → IsOpeningBy (Some lines) replay.positions (Some opening))
    → ((packed : PackedGame) → FitsRecord packed → raw ≡ raw_of packed
    → (is : IsNamedRecord lines place packed bytes)
    × (raw_of (with_tags is.head.tags packed) ≡ other))
    → ListsRecord aim other old new → ListsCounted aim raw old new
counted_named aim raw other lines place bytes old new opening are same found named lists = (
  lists.0,
  λ game replay packed own.
      let there = named packed own.fits (sym own.shows) in
      let is = there.0 in
      let of = lists.1 (named_game game is) replay (with_tags is.head.tags packed)
      (of_named own is other there.1) in
      let Lists : RawRecord → Type 0 =
      λ r. AreListed (record_aim aim r) (raw_id r) (named_game game is) replay of.0
      × (new ≡ old ++ listing r.name of.0) in
      let here : Lists raw =
      subst Lists own.shows (subst Lists (sym there.1) (of.1, of.2)) in (
        named_game game is,
        subst (λ o. CountsAs o game (named_game game is)) (sym are)
            (counts_named own is opening same (found game replay packed own)),
        of.0,
        here.0,
        here.1,
      ),
)

-- where there is no opening, and where no lines are given, a game counts as it stands
pub counts_unnamed : (lines : List NamedLine) {raw : RawRecord} {game : GameText} {replay : Replay}
    {packed : PackedGame} → IsOfRecord raw game replay packed
    → IsOpeningBy (Some lines) replay.positions None → CountsAs (Some lines) game game
counts_unnamed lines {game = game} {replay = replay} own none =
    (own.text, (None, none_there lines game (replay, own.is_replay, none), as_it_stands game))

pub counted_so : (aim : Aim) (raw : RawRecord) (old new : List ℕ)
    → ((game : GameText) (replay : Replay) (packed : PackedGame)
    → IsOfRecord raw game replay packed → CountsAs aim.openings game game)
    → ListsRecord aim raw old new → ListsCounted aim raw old new
counted_so aim raw old new counts lists = (
  lists.0,
  λ game replay packed own.
      let of = lists.1 game replay packed own in
      (game, counts game replay packed own, of.0, of.1, of.2),
)

-- where the other record is that of no game, this one is too
pub none_named : (raw other : RawRecord) (lines : List NamedLine) (place : ℕ) (bytes : List ℕ)
    → ((packed : PackedGame) → FitsRecord packed → raw ≡ raw_of packed
    → (is : IsNamedRecord lines place packed bytes)
    × (raw_of (with_tags is.head.tags packed) ≡ other))
    → HasNoText other → HasNoText raw
none_named raw other lines place bytes named none game replay packed own =
    let there = named packed own.fits (sym own.shows) in
    none (named_game game there.0) replay (with_tags there.0.head.tags packed)
    (of_named own there.0 other there.1)
