-- Where each sound game of a text is packed, each of its records has a spelling, and so what is
-- exported is the pack of the text.
use Rattle.std.specs.Prelude.{true, nat_le, IfSome, IsTrue}
use Rattle.pgn_extract.proofs.Common.{◌≡◌, ℕ, ◌+◌, ◌^◌, ◌<◌, ◌≤◌, ◌==◌, Bool, List, [], ◌∷◌, ◌++◌}
use Rattle.pgn_extract.proofs.Common.{map, length, drop, Option, Some, refl, sym, ap, ◌∙◌, subst}
use Rattle.pgn_extract.proofs.Common.{append_assoc, length-append, length-drop, arith}
use Rattle.pgn_extract.proofs.Common.{AllByRecursion, nat_tests, GameText, ShowsGame, block_limit}
use Rattle.pgn_extract.proofs.Common.{depth_limit, largest_offset, PieceKind, ReadableGame}
use Rattle.pgn_extract.proofs.Common.{UnreadableRest, TooLongBlock, MarkedPiece, marked, AreOfBlock}
use Rattle.pgn_extract.proofs.Common.{over, within, AreOfBlocks, AreMarkedPieces, Part, spelled}
use Rattle.pgn_extract.proofs.Common.{Piece, Game, Unreadable, mark_bounds, PackedGame, FitsRecord}
use Rattle.pgn_extract.proofs.Common.{job_of, Completes, AreGameRecords, ArePieceRecords}
use Rattle.pgn_extract.proofs.Common.{AreRecords, IsPackOf, IsGameOf, game_id, id_of}
use Rattle.pgn_text.specs.Public.Pieces.{ArePieces}
use Rattle.pgn_game.proofs.PackRoom.{game_fits}
use Rattle.pgn_game.specs.Public.PackedGames.{longest_name, is_origin, is_shown_name}
use Rattle.pgn_extract.specs.Public.Laws.{PackIsListedAsItsText}
use Rattle.pgn_extract.proofs.ModeOutputs.{run_exports}
use Rattle.pgn_extract.specs.Public.Searching.{sound, faulty, PackedTextIsAPack}
use Rattle.pgn_extract.proofs.laws.PackTaken.{pieces_records}
use Rattle.pgn_extract.specs.declared.marks.GameId.{GameId}

both_parts : {X : Type 0} (P : X → Type 0) (xs ys : List X) → AllByRecursion P xs
    → AllByRecursion P ys → AllByRecursion P (xs ++ ys)
both_parts P [] ys here there = there
both_parts P (x ∷ xs) ys here there = (here.0, both_parts P xs ys here.1 there)

-- a game is no longer than a block
abbrev IsSmallKind : PieceKind → Type 0
IsSmallKind (ReadableGame parts) = length (spelled parts) ≤ block_limit
IsSmallKind (UnreadableRest bytes) = Unit {0}
IsSmallKind TooLongBlock = Unit {0}

abbrev IsSmall : MarkedPiece → Type 0
IsSmall piece = IsSmallKind piece.kind

small_pieces : (max_depth offset : ℕ) (file_start : Bool) (before : List ℕ) (pieces : List Piece)
    (text : List ℕ) → length text ≤ block_limit → ArePieces max_depth file_start before pieces text
    → AllByRecursion IsSmall (map (marked offset) pieces)
small_pieces max_depth offset file_start before [] text bounded are = tt
small_pieces max_depth offset file_start before (Game at parts ∷ more) text bounded
    (gap, after, parted, longest, here, is_game, others) =
    let size = ap length parted ∙ length-append (spelled gap) (spelled parts ++ after) in
    let rest = length-append (spelled parts) after in (
      omega arith,
      small_pieces max_depth offset file_start ((before ++ spelled gap)
          ++ spelled parts) more after (omega arith) others,
    )
small_pieces max_depth offset file_start before (Unreadable at bytes ∷ more) text bounded
    (gap, parted, longest, here, some, no_game, none) = (
      tt,
      subst (λ (pieces : List Piece).
          AllByRecursion IsSmall (map (marked offset) pieces)) (sym none) tt,
    )

small_of_block : (max_depth offset : ℕ) (block : List ℕ) (marks : List MarkedPiece)
    → AreOfBlock block_limit max_depth offset block marks → AllByRecursion IsSmall marks
small_of_block max_depth offset block marks (over long is) =
    subst (AllByRecursion IsSmall) (sym is) (tt, tt)
small_of_block max_depth offset block marks (within short pieces are is) =
    subst (AllByRecursion IsSmall) (sym is)
    (small_pieces max_depth offset (offset == 0) [] pieces block short are)

small_of_blocks : (max_depth offset : ℕ) (blocks : List (List ℕ)) (marks : List MarkedPiece)
    → AreOfBlocks block_limit max_depth offset blocks marks → AllByRecursion IsSmall marks
small_of_blocks max_depth offset [] marks none = subst (AllByRecursion IsSmall) (sym none) tt
small_of_blocks max_depth offset (block ∷ more) marks (own, rest, parted, here, others) =
    subst (AllByRecursion IsSmall) (sym parted)
    (both_parts IsSmall own rest (small_of_block max_depth offset block own here)
    (small_of_blocks max_depth (offset + length block) more rest others))

is_met_there : (id : GameId) (name : Option (List ℕ)) → 1 ≤ id.number → id.offset ≤ largest_offset
    → IsTrue (is_shown_name name) → IsTrue (is_origin id.number id.offset name)
is_met_there id name counted placed shown =
    let first : nat_le 1 id.number ≡ true = grind (arith, nat_tests) in
    let second : nat_le id.offset largest_offset ≡ true = grind (arith, nat_tests) in
    rw (first, second, shown) refl

record_fits : (name : Option (List ℕ)) (id : GameId) (parts : List Part) (game : GameText)
    → IsGameOf parts game → (records : List PackedGame)
    → IfSome name (λ own. length own ≤ longest_name)
    → id.number < 2 ^ 64 → id.offset < 2 ^ 64 → IsTrue (is_origin id.number id.offset name)
    → length (spelled parts) ≤ block_limit → AreGameRecords name id game records
    → AllByRecursion FitsRecord records
record_fits name id parts game (good, shows) records short number_fits offset_fits origin small
    (sound replay packed is packs one) =
    let text : length game.text ≤ block_limit = omega (arith, ap length shows.text) in
    let here = subst (λ n. ShowsGame game n parts) (sym shows.place) shows in
    subst (AllByRecursion FitsRecord) (sym one) (
      game_fits name id.number id.offset game parts replay packed good here text is packs short
          number_fits offset_fits origin,
      tt,
    )
record_fits name id parts game made records short number_fits offset_fits origin small
    (faulty fault is none) = subst (AllByRecursion FitsRecord) (sym none) tt

piece_fits : (name : Option (List ℕ)) (id : GameId) (kind : PieceKind) (records : List PackedGame)
    → IfSome name (λ own. length own ≤ longest_name)
    → id.number < 2 ^ 64 → id.offset < 2 ^ 64 → IsTrue (is_origin id.number id.offset name)
    → IsSmallKind kind → ArePieceRecords name kind id records → AllByRecursion FitsRecord records
piece_fits name id (ReadableGame parts) records short number_fits offset_fits origin small
    (game, made, are) =
    record_fits name id parts game made records short number_fits offset_fits origin small are
piece_fits name id (UnreadableRest bytes) records short number_fits offset_fits origin small none =
    subst (AllByRecursion FitsRecord) (sym none) tt
piece_fits name id TooLongBlock records short number_fits offset_fits origin small none =
    subst (AllByRecursion FitsRecord) (sym none) tt

-- a piece has no more pieces before it than bytes
pieces_fit : (name : Option (List ℕ)) (number max_depth offset : ℕ) (text : List ℕ)
    (before more : List MarkedPiece) (records : List PackedGame)
    → IfSome name (λ own. length own ≤ longest_name) → IsTrue (is_shown_name name) → 1 ≤ number
    → number ≤ 2 ^ 62 + length before → offset + length text ≤ largest_offset
    → AreMarkedPieces block_limit max_depth offset text (before ++ more)
    → AllByRecursion IsSmall more → AreRecords name number more records
    → AllByRecursion FitsRecord records
pieces_fit name number max_depth offset text before [] records short shown counted few bounded each
    small none = subst (AllByRecursion FitsRecord) (sym none) tt
pieces_fit name number max_depth offset text before (piece
    ∷ more) records short shown counted few bounded each small (own, rest, parted, here, others) =
    let bounds = mark_bounds block_limit max_depth offset text before piece more each in
    let origin = is_met_there (id_of number piece) name counted (omega (arith, bounds.1)) shown in
    let first = piece_fits name (id_of number piece) piece.kind own short
    (omega (arith, bounds.0, bounds.1)) (omega (arith, bounds.1)) origin small.0 here in
    let next : AreMarkedPieces block_limit max_depth offset text ((before ++ piece ∷ []) ++ more) =
    subst (AreMarkedPieces block_limit max_depth offset text)
    (sym (append_assoc before (piece ∷ []) more)) each in
    let count : number + 1 ≤ 2 ^ 62 + length (before ++ piece ∷ []) =
    omega (arith, length-append before (piece ∷ [])) in
    subst (AllByRecursion FitsRecord) (sym parted)
    (both_parts FitsRecord own rest first
    (pieces_fit name (number + 1) max_depth offset text (before ++ piece
    ∷ []) more rest short shown (omega arith) count bounded next small.1 others))

pub packed_text : PackedTextIsAPack
packed_text packing id text pieces bytes packs =
    let taken = pieces_records packing id.number pieces bytes packs.all packs.exported in
    let small = small_of_blocks depth_limit id.offset packs.each.blocks pieces packs.each.each in
    record {
      records = taken.0;
      are = taken.1;
      fit = pieces_fit packing.name id.number depth_limit id.offset text [] pieces taken.0
          packs.short packs.shown packs.counted (omega (arith, packs.few)) packs.within packs.each
          small taken.1;
      packed = taken.2;
    }

-- ---- the search of what a run packed

some_input : (P : List ℕ → Type 0) (input : Option (List ℕ)) (whole : List ℕ) → input ≡ Some whole
    → IfSome input P → P whole
some_input P input whole is holds = subst (λ (bytes : Option (List ℕ)). IfSome bytes P) is holds

pub listed_pack : PackIsListedAsItsText
listed_pack packing io summary whole exports all short shown counted few offset known run =
    let job = job_of packing in
    let done : Completes job io whole summary =
    some_input (λ bytes. Completes job io bytes summary) io.input.old.bytes whole known run.done.0
    in
    let (text, are, exported) = run_exports job io whole summary done exports in
    let pack : IsPackOf packing.name packing.number done.pieces text =
    packed_text job.aim (game_id packing.number packing.offset) (drop packing.offset whole)
    done.pieces text record {
      all = all;
      short = short;
      shown = shown;
      counted = counted;
      few = few;
      within = omega (arith, done.size, length-drop packing.offset whole);
      each = done.each;
      exported = are;
    } in (
      done.pieces,
      text,
      done.each,
      exported,
      λ aim left out out' searched entries list search found.
          search.lists list packing.name packing.number done.pieces pack entries found,
    )
