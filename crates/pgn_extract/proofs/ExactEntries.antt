-- The entries of pieces in a row: which they are, and their order.
use Rattle.std.proofs.lemmas.List.Elements.{Contains-append_left, Contains-append_cases}
use Rattle.pgn_extract.proofs.Common.{◌≡◌, ℕ, ◌+◌, ◌<◌, ◌≤◌, zero, suc, Bool, true, false, List, []}
use Rattle.pgn_extract.proofs.Common.{◌∷◌, ◌++◌, length, Option, Some, refl, sym, ap, ap₂, ◌∙◌}
use Rattle.pgn_extract.proofs.Common.{subst, arith, inl, inr, Contains, slice_get, cases_lt}
use Rattle.pgn_extract.proofs.Common.{Contains-append_right, State, PieceKind, ReadableGame}
use Rattle.pgn_extract.proofs.Common.{UnreadableRest, TooLongBlock, MarkedPiece, Part, Item}
use Rattle.pgn_extract.proofs.Common.{GameText, tag_in, one_replay, no_fault, Replay, IsReplay}
use Rattle.pgn_extract.proofs.Common.{Main, fen_tag, Aim, GameId, IsEntry, id_of, is_chosen}
use Rattle.pgn_extract.proofs.Common.{IfChosen, heading_of, Entry, IsPlyOfGame}
use Rattle.pgn_extract.proofs.Common.{IsEarlier, Ascend, AreEntries, plies_of, IsReplayOf}
use Rattle.pgn_extract.proofs.Common.{AreGameEntries, ArePieceEntries, AreEntryRows, game_id}
use Rattle.pgn_game.specs.Public.Replays.{IsMainReplay}
use Rattle.pgn_extract.proofs.ChoiceFacts.{by_choice, when_taken}
use Rattle.pgn_extract.proofs.Chosen.{entry_at, none_in, in_front, Rise, IsPicked, chosen_from}
use Rattle.pgn_extract.proofs.Chosen.{chosen_all, chosen_ascend}
use Rattle.pgn_extract.specs.Public.Listing.{IsShownOf}
use Rattle.pgn_extract.specs.Public.Rows.{place_of}
use Rattle.pgn_extract.proofs.ShownTexts.{one_shown}
use Rattle.pgn_extract.proofs.Counting.{one_counted}
use Rattle.pgn_extract.specs.Public.Listing.{IsCounted}
use Rattle.pgn_extract.specs.Private.EntryRows.{sound, faulty}

-- a replay of the main line alone is said in two ways
main_of : {fen : Option (List ℕ)} {items : List Item} {replay : Replay}
    → IsReplay Main fen items replay → IsMainReplay fen items replay
main_of is = record { start = is.start; is_start = is.is_start; line = is.line; turns = is.turns }

replay_of : {fen : Option (List ℕ)} {items : List Item} {replay : Replay}
    → IsMainReplay fen items replay → IsReplay Main fen items replay
replay_of is = record { start = is.start; is_start = is.is_start; line = is.line; turns = is.turns }

-- the plies of positions in a row are within them
pub of_plies : (ply : ℕ) (positions : List State) (n : ℕ) → Contains (plies_of ply positions) n
    → (ply ≤ n) × (n < ply + length positions)
of_plies ply [] n has = absurd (none_in n has)
of_plies ply (position ∷ more) n has =
    elim (in_front ply (plies_of (ply + 1) more) n has) [
      | inl is ↦ (omega arith, omega arith)
      | inr other ↦ let of = of_plies (ply + 1) more n other in let low = of.0 in let high = of.1 in
          (omega arith, omega arith)
    ]

pub within_plies : (positions : List State) (n : ℕ) → Contains (plies_of 0 positions) n
    → n < length positions
within_plies positions n has = let high = (of_plies 0 positions n has).1 in omega arith

-- and each of them is there
has_ply : (ply : ℕ) (positions : List State) (at : ℕ) → ply ≤ at → at < ply + length positions
    → Contains (plies_of ply positions) at
has_ply ply [] at low high = absurd (omega arith)
has_ply ply (position ∷ more) at low high =
    elim (cases_lt ply at) [
      | inl above ↦ Contains-append_right (ply
          ∷ []) (plies_of (ply + 1) more) at (has_ply (ply + 1) more at (omega arith) (omega arith))
      | inr below ↦ (0, omega arith, omega arith)
    ]

-- what an entry of a game with a replay is
abbrev pub IsOfGame : Aim → GameId → GameText → Replay → Entry → Type 0
IsOfGame aim id game replay entry =
    IsPicked id (IsEntry aim (heading_of game) replay) (IsShownOf aim id game replay)
    (plies_of 0 replay.positions) entry

-- the entries of a piece are those of one game
own_ply : (aim : Aim) (kind : PieceKind) (id : GameId) (own : List Entry)
    → ArePieceEntries aim kind id own → (entry : Entry) → Contains own entry
    → (parts : List Part) × (game : GameText) × (replay : Replay) × (kind ≡ ReadableGame parts)
    × IsCounted aim.openings parts game × IsReplayOf Main game replay
    × IsOfGame aim id game replay entry
own_ply aim (ReadableGame parts) id own (game, made, sound replay is these) entry has =
    let of = chosen_from id (IsEntry aim (heading_of game) replay) (IsShownOf aim id game replay)
    (plies_of 0 replay.positions) own these entry has in
    (parts, game, replay, refl, made, is, of)
own_ply aim (ReadableGame parts) id own (game, made, faulty fault is none) entry has =
    absurd (none_in entry (subst (λ e. Contains e entry) none has))
own_ply aim (UnreadableRest bytes) id own none entry has =
    absurd (none_in entry (subst (λ e. Contains e entry) none has))
own_ply aim TooLongBlock id own none entry has =
    absurd (none_in entry (subst (λ e. Contains e entry) none has))

-- and all of them, where it is sound
own_has : (aim : Aim) (id : GameId) (game : GameText) (own : List Entry)
    → AreGameEntries aim id game own
    → (replay : Replay) → IsReplayOf Main game replay → (entry : Entry)
    → entry ≡ entry_at id entry.ply entry.shown
    → entry.ply < length replay.positions → IsEntry aim (heading_of game) replay entry.ply
    → IsShownOf aim id game replay entry.ply entry.shown → Contains own entry
own_has aim id game own (sound first is these) replay also entry marked less listed shows =
    let same : replay ≡ first =
    sym (one_replay Main (tag_in fen_tag game.tags) game.elements first replay is also) in
    let here : entry.ply < length first.positions =
    subst (λ (r : Replay). entry.ply < length r.positions) same less in
    chosen_all id (IsEntry aim (heading_of game) first) (IsShownOf aim id game first)
    (λ ply. one_shown aim.line (place_of aim.name aim.openings id aim.of_line game first ply))
    (plies_of 0 first.positions)
    own these entry
    (record {
      is = marked;
      among = has_ply 0 first.positions entry.ply (omega arith) (omega arith);
      fact = subst (λ (r : Replay). IsEntry aim (heading_of game) r entry.ply) same listed;
      shows = subst (λ (r : Replay). IsShownOf aim id game r entry.ply entry.shown) same shows;
    })
own_has aim id game own (faulty fault is none) replay also entry marked less listed shows =
    absurd (no_fault Main (tag_in fen_tag game.tags) game.elements fault (replay, also) is)

-- a piece that has entries is chosen
taken_piece : (taken : Bool) {P : Type 0} (own : List Entry) → IfChosen taken P (own ≡ [])
    → (entry : Entry) → Contains own entry → (taken ≡ true) × P
taken_piece true own here entry has = (refl, here)
taken_piece false own none entry has =
    absurd (none_in entry (subst (λ e. Contains e entry) none has))

-- each entry is a ply of a sound game
pub to_ply : (aim : Aim) (number : ℕ) (pieces : List MarkedPiece) (entries : List Entry)
    → AreEntryRows aim number pieces entries → (entry : Entry) → Contains entries entry
    → IsPlyOfGame aim number pieces entry
to_ply aim number [] entries none entry has =
    absurd (none_in entry (subst (λ e. Contains e entry) none has))
to_ply aim number (piece ∷ more) entries (own, rest, parted, here, others) entry has =
    elim (Contains-append_cases own rest entry (subst (λ e. Contains e entry) parted has)) [
      | inl first ↦
          let taken = taken_piece (is_chosen aim.chosen (id_of number piece)) own here entry first
          in
          let of = own_ply aim piece.kind (id_of number piece) own taken.1 entry first in
          let place = of.6 in
          let same : entry.id ≡ id_of number piece = ap (λ (e : Entry). e.id) place.is in
          record {
            place = 0;
            parts = of.0;
            game = of.1;
            replay = of.2;
            piece = ap (λ (p : MarkedPiece).
                Some p) (ap (λ k. record { offset = piece.offset; kind = k }) of.3
                ∙ ap (λ (i : GameId). record { offset = i.offset; kind = ReadableGame of.0 })
                (sym same));
            numbered = ap (λ (i : GameId). i.number) same ∙ omega arith;
            chosen = subst (λ i. is_chosen aim.chosen i ≡ true) (sym same) taken.0;
            is_game = of.4;
            is_replay = main_of of.5;
            within = within_plies of.2.positions entry.ply place.among;
            listed = place.fact;
            shows = subst (λ (i : GameId). IsShownOf aim i of.1 of.2 entry.ply entry.shown)
                (sym same) place.shows;
          }
      | inr later ↦
          let of = to_ply aim (number + 1) more rest others entry later in
          record {
            place = suc of.place;
            parts = of.parts;
            game = of.game;
            replay = of.replay;
            piece = of.piece;
            numbered = (let n = of.numbered in omega arith);
            chosen = of.chosen;
            is_game = of.is_game;
            is_replay = of.is_replay;
            within = of.within;
            listed = of.listed;
            shows = of.shows;
          }
    ]

-- and each of these is an entry
pub from_ply : (aim : Aim) (number : ℕ) (pieces : List MarkedPiece) (entries : List Entry)
    → AreEntryRows aim number pieces entries → (entry : Entry) → IsPlyOfGame aim number pieces entry
    → Contains entries entry
from_ply aim number pieces entries are entry of =
    by_place number pieces entries are of.place of.piece of.numbered
  where
    by_place : (number : ℕ) (pieces : List MarkedPiece) (entries : List Entry)
        → AreEntryRows aim number pieces entries → (place : ℕ) → slice_get pieces place
        ≡ Some (record { offset = entry.id.offset; kind = ReadableGame of.parts })
        → entry.id.number ≡ number + place → Contains entries entry
    by_place number [] entries are place none numbered = absurd (cc)
    by_place number (piece ∷ more) entries (own, rest, parted, here, others) zero game numbered =
        let is : piece ≡ record { offset = entry.id.offset; kind = ReadableGame of.parts } = cc in
        let same_number : entry.id.number ≡ number = omega arith in
        let same : entry.id ≡ id_of number piece =
        ap₂ game_id same_number (sym (ap (λ (p : MarkedPiece). p.offset) is)) in
        let taken : is_chosen aim.chosen (id_of number piece) ≡ true =
        subst (λ i. is_chosen aim.chosen i ≡ true) same of.chosen in
        let own_here = when_taken (is_chosen aim.chosen (id_of number piece)) _ taken here in
        let (game, made, entered) =
        subst (λ (p : MarkedPiece). ArePieceEntries aim p.kind (id_of number piece) own) is
        own_here in
        let has = own_has aim (id_of number piece) of.game own
        (subst (λ g. AreGameEntries aim (id_of number piece) g own)
        (one_counted aim.openings of.parts game of.game made of.is_game) entered)
        of.replay (replay_of of.is_replay) entry (ap (λ i. entry_at i entry.ply entry.shown) same)
        of.within of.listed
        (subst (λ (i : GameId). IsShownOf aim i of.game of.replay entry.ply entry.shown) same
        of.shows) in
        subst (λ e. Contains e entry) (sym parted) (Contains-append_left own rest entry has)
    by_place number (piece ∷ more) entries
        (own, rest, parted, here, others) (suc place) game numbered =
        subst (λ e. Contains e entry) (sym parted)
        (Contains-append_right own rest entry
        (by_place (number + 1) more rest others place game (omega arith)))

-- the plies of positions in a row rise
plies_rise : (ply : ℕ) (positions : List State) → Rise (plies_of ply positions)
plies_rise ply [] = tt
plies_rise ply (position ∷ more) = (
  λ later has. let low = (of_plies (ply + 1) more later has).0 in omega arith,
  plies_rise (ply + 1) more,
)

-- some entries, and after them later ones
ascend-append : (xs ys : List Entry) → Ascend xs → Ascend ys
    → ((x y : Entry) → Contains xs x → Contains ys y → IsEarlier x y) → Ascend (xs ++ ys)
ascend-append [] ys before after cross = after
ascend-append (x ∷ xs) ys before after cross = (
  λ later has. elim (Contains-append_cases xs ys later has) [
    | inl near ↦ before.0 later near
    | inr far ↦ cross x later (0, omega arith, refl) far
  ],
  ascend-append xs ys before.1 after (λ a b has other.
      cross a b (Contains-append_right (x ∷ []) xs a has) other),
)

-- the entries of a piece are in order
ascend_own : (aim : Aim) (kind : PieceKind) (id : GameId) (own : List Entry)
    → ArePieceEntries aim kind id own → Ascend own
ascend_own aim (ReadableGame parts) id own (game, made, sound replay is these) =
    chosen_ascend id (IsEntry aim (heading_of game) replay) (IsShownOf aim id game replay)
    (plies_of 0 replay.positions) own these (plies_rise 0 replay.positions)
ascend_own aim (ReadableGame parts) id own (game, made, faulty fault is none) =
    subst Ascend (sym none) tt
ascend_own aim (UnreadableRest bytes) id own none = subst Ascend (sym none) tt
ascend_own aim TooLongBlock id own none = subst Ascend (sym none) tt

-- the entries of pieces are in order
pub entries_ascend : (aim : Aim) (number : ℕ) (pieces : List MarkedPiece) (entries : List Entry)
    → AreEntryRows aim number pieces entries → Ascend entries
entries_ascend aim number [] entries none = subst Ascend (sym none) tt
entries_ascend aim number (piece ∷ more) entries (own, rest, parted, here, others) =
    subst Ascend (sym parted)
    (ascend-append own rest
    (by_choice (is_chosen aim.chosen (id_of number piece)) (λ _.
    ascend_own aim piece.kind (id_of number piece) own) (λ _ none. subst Ascend (sym none) tt)
    here) (entries_ascend aim (number + 1) more rest others)
    (λ x y has other.
    let taken = taken_piece (is_chosen aim.chosen (id_of number piece)) own here x has in
    let first = own_ply aim piece.kind (id_of number piece) own taken.1 x has in
    let second = to_ply aim (number + 1) more rest others y other in
    let low : x.id.number ≡ number = ap (λ (e : Entry). e.id.number) first.6.is in
    let high = second.numbered in
    inl (omega arith)))

-- the rows of entries are all of them
pub are_entries : (aim : Aim) (number : ℕ) (pieces : List MarkedPiece) (entries : List Entry)
    → AreEntryRows aim number pieces entries → AreEntries aim number pieces entries
are_entries aim number pieces entries rows = record {
  exact = λ entry. (
    λ has. to_ply aim number pieces entries rows entry has,
    λ of. from_ply aim number pieces entries rows entry of,
  );
  ascend = entries_ascend aim number pieces entries rows;
}
