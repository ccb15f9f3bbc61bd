-- The record of a game of a block is no larger than the largest: a tag takes at least half of its
-- bytes of a text, and a ply likewise.
use Rattle.std.proofs.Common.{◌≡◌, ℕ, ◌+◌, ◌*◌, ◌≤◌, ◌∷◌, Some, None, refl, sym, ap, ◌∙◌, inl, inr}
use Rattle.std.proofs.Common.{◌==◌, Bool, true, false, List, [], ◌++◌, length, Option, subst, arith}
use Rattle.std.specs.FinMap.{FinMap, empty, entries, entries_sorted, get, insert, get-empty}
use Rattle.std.specs.FinMap.{get-entries, get-insert, entries-insert, len-empty, len-entries}
use Rattle.std.specs.FinMap.Entries.{by_order, put}
use Rattle.std.proofs.lemmas.Cmp.{nat_list_cmp_total, nat_list_eq_equiv}
use Rattle.std.proofs.lemmas.List.{length-append}
use Rattle.std.proofs.lemmas.Map.Text.{is_eq-slice_cmp}
use Rattle.pgn_game.proofs.Common.{IfSome, bytes_eq, if◌then◌else◌}
use Rattle.pgn_game.proofs.Common.{Less, Equal, Greater, flat_map-cons, same_Some}
use Rattle.pgn_game.proofs.Common.{square_text, after, State, IsNamed, IsCastlingText}
use Rattle.pgn_game.proofs.Common.{promotion_text, Wing, KingSide, QueenSide, Move, Item, MoveText}
use Rattle.pgn_game.proofs.Common.{GlyphNumber, CommentText, VariationOpen, VariationClose}
use Rattle.pgn_game.proofs.Common.{main_words, IsMainLine, name_size, tags_size, AreCodes}
use Rattle.chess.specs.Public.San.{Spells, Said, letter_text, file_text, rank_text}
use Rattle.pgn_text.specs.Public.GameTexts.{GameText, IsGameText, IsResult, ShowsGame}
use Rattle.pgn_text.specs.Public.Games.{is_move_text, glyphs_of_marks, items_of, items_of_part}
use Rattle.pgn_text.specs.Public.Games.{first_tag}
use Rattle.pgn_text.specs.Public.Parts.{Part, ByteOrderMark, White, Brace, Line, EscapeLine, Tag}
use Rattle.pgn_text.specs.Public.Parts.{Word, Star, Dot, Glyph, Marks, Open, Close, spelled}
use Rattle.pgn_text.specs.Public.Parts.{spelled_part}
use Rattle.pgn_text.proofs.ShownOnce.{same_tags}
use Rattle.pgn_text.proofs.SortedTags.{name_cmp, names_of_sorted, find-tag_in}
use Rattle.pgn_game.specs.Public.Laws.{GameOfABlockFits}
use Rattle.pgn_game.specs.Public.PackedGames.{Tag as NamedTag, longest_name}
use Rattle.pgn_game.proofs.OneReplay.{line_head}
use Rattle.pgn_game.proofs.RecordWriting.{codes_count, record_fits}

-- ---- words

-- how many bytes words have together, and the words of all moves
abbrev words_size : List (List ℕ) → ℕ
words_size [] = 0
words_size (word ∷ words) = length word + words_size words

abbrev moves_size : List Item → ℕ
moves_size [] = 0
moves_size (MoveText word ∷ items) = length word + moves_size items
moves_size (GlyphNumber number ∷ items) = moves_size items
moves_size (CommentText text ∷ items) = moves_size items
moves_size (VariationOpen ∷ items) = moves_size items
moves_size (VariationClose ∷ items) = moves_size items

moves_size-append : (xs ys : List Item) → moves_size (xs ++ ys) ≡ moves_size xs + moves_size ys
moves_size-append [] ys = omega arith
moves_size-append (MoveText word ∷ xs) ys = omega (arith, moves_size-append xs ys)
moves_size-append (GlyphNumber number ∷ xs) ys = moves_size-append xs ys
moves_size-append (CommentText text ∷ xs) ys = moves_size-append xs ys
moves_size-append (VariationOpen ∷ xs) ys = moves_size-append xs ys
moves_size-append (VariationClose ∷ xs) ys = moves_size-append xs ys

or_none : (word : List ℕ) (words : List (List ℕ)) (size : ℕ) (stands : Bool)
    → words_size words ≤ size → words_size (if stands then word ∷ words else words)
    ≤ length word + size
or_none word words size true within = omega arith
or_none word words size false within = omega arith

-- those of the main line are among them
main_within : (items : List Item) (depth : ℕ)
    → words_size (main_words items depth) ≤ moves_size items
main_within [] depth = omega arith
main_within (MoveText word ∷ items) depth =
    or_none word (main_words items depth) (moves_size items) (depth == 0) (main_within items depth)
main_within (GlyphNumber number ∷ items) depth = main_within items depth
main_within (CommentText text ∷ items) depth = main_within items depth
main_within (VariationOpen ∷ items) depth = main_within items _
main_within (VariationClose ∷ items) depth = main_within items _

-- the text of castling has three bytes at least
castling_long : (wing : Wing) (x : List ℕ) → IsCastlingText wing x → 3 ≤ length x
castling_long KingSide x (marks, are, inl letters) = omega (arith, ap length letters)
castling_long QueenSide x (marks, are, inl letters) = omega (arith, ap length letters)
castling_long KingSide x (marks, are, inr zeros) = omega (arith, ap length zeros)
castling_long QueenSide x (marks, are, inr zeros) = omega (arith, ap length zeros)

-- and any other text of a move has the two of its target
target_within : (a b c d e f : List ℕ) → length e ≤ length (a ++ (b ++ (c ++ (d ++ (e ++ f)))))
target_within a b c d e f =
    omega (
      arith,
      length-append a (b ++ (c ++ (d ++ (e ++ f)))),
      length-append b (c ++ (d ++ (e ++ f))),
      length-append c (d ++ (e ++ f)),
      length-append d (e ++ f),
      length-append e f,
    )

said_long : (said : Said) (x : List ℕ) → Spells x said → 2 ≤ length x
said_long said x spells =
    omega (
      arith,
      ap length spells.text,
      target_within (letter_text said.letter) (file_text said.file) (rank_text said.rank)
          spells.sign (square_text said.target) (promotion_text spells.equals said.promote
          ++ spells.marks),
    )

named_long : (P : State) (x : List ℕ) (m : Move) → IsNamed P x m → 2 ≤ length x
named_long P x m named =
    elim named.by [
      | inl (wing, castling, is) ↦ omega (arith, castling_long wing x castling)
      | inr (said, spells, agrees) ↦ said_long said x spells
    ]

-- so three bytes for each ply are at most twice the words
line_within : (start : State) (words : List (List ℕ)) (positions : List State) (played : List Move)
    → IsMainLine start words positions played → 3 * length played ≤ 2 * words_size words
line_within start [] positions played line = omega (arith, ap length line.1)
line_within start (word ∷ words) positions played (
  m,
  later,
  more,
  positions_is,
  played_is,
  named,
  rest,
) =
    omega (
      arith,
      ap length played_is,
      named_long start word m named.named,
      line_within (after start m) words later more rest,
    )

-- ---- tags

no_tags : (tags : List NamedTag) → length tags ≡ 0 → tags_size tags ≡ 0
no_tags [] none = refl
no_tags (tag ∷ tags) none = absurd (omega arith)

-- one more tag, in its place
put_within : (name contents : List ℕ) (tags : List NamedTag)
    → tags_size (put name_cmp name contents tags)
    ≤ 8 + length name + length contents + tags_size tags
put_within name contents [] = omega arith
put_within name contents (tag ∷ tags) =
    elim (name_cmp name tag.0) as (λ o.
    tags_size (by_order o ((name, contents) ∷ tag ∷ tags) ((tag.0, contents) ∷ tags) (tag
    ∷ put name_cmp name contents tags)) ≤ 8 + length name + length contents
    + tags_size (tag ∷ tags)) [
      | Less ↦ omega arith
      | Equal ↦ omega arith
      | Greater ↦ omega (arith, put_within name contents tags)
    ]

-- the first tag of each name among these parts, and with the words of their moves they take at most
-- twice the bytes of the parts
record HasRoom (parts : List Part) : Type 0 where
  tags : FinMap name_cmp (List ℕ)
  found : (wanted : List ℕ) → get tags wanted ≡ first_tag wanted parts
  within : tags_size (entries tags) + 2 * moves_size (items_of parts) ≤ 2 * length (spelled parts)

-- one more part that is no tag
beside : (part : Part) (more : List Part) → HasRoom more
    → ((wanted : List ℕ) → first_tag wanted (part ∷ more) ≡ first_tag wanted more)
    → moves_size (items_of_part part) ≤ length (spelled_part part) → HasRoom (part ∷ more)
beside part more room same fits = record {
  tags = room.tags;
  found = λ wanted. room.found wanted ∙ sym (same wanted);
  within = omega (
    arith,
    room.within,
    ap moves_size (flat_map-cons items_of_part part more),
    moves_size-append (items_of_part part) (items_of more),
    ap length (flat_map-cons spelled_part part more),
    length-append (spelled_part part) (spelled more),
  );
}

glyphs_within : (marks : List ℕ) → moves_size (glyphs_of_marks marks) ≡ 0
glyphs_within [] = refl
glyphs_within (mark ∷ []) = refl
glyphs_within (first ∷ second ∷ more) = glyphs_within more

word_within : (text : List ℕ) (moves : Bool)
    → moves_size (if moves then MoveText text ∷ [] else []) ≤ length text
word_within text true = omega arith
word_within text false = omega arith

tag_long : (first name second contents third : List ℕ) → 4 + length name + length contents
    ≤ length (spelled_part (Tag first name second contents third))
tag_long first name second contents third =
    omega (
      arith,
      length-append first (name ++ (second ++ (34 ∷ (contents ++ (34 ∷ (third ++ 93 ∷ [])))))),
      length-append name (second ++ (34 ∷ (contents ++ (34 ∷ (third ++ 93 ∷ []))))),
      length-append second (34 ∷ (contents ++ (34 ∷ (third ++ 93 ∷ [])))),
      length-append contents (34 ∷ (third ++ 93 ∷ [])),
      length-append third (93 ∷ []),
    )

room : (parts : List Part) → HasRoom parts
room [] =
    let none =
    no_tags (entries (empty {R = name_cmp})) (sym (len-entries (empty {R = name_cmp}))
    ∙ len-empty name_cmp (List ℕ)) in
    record {
      tags = empty;
      found = λ wanted. get-empty name_cmp wanted;
      within = omega (arith, none);
    }
room (Tag first name second contents third ∷ more) =
    let later = room more in record {
      tags = insert later.tags name contents;
      found = λ wanted. get-insert nat_list_cmp_total later.tags name contents wanted
          ∙ ap (λ (b : Bool). if b then Some contents
          else get later.tags wanted) (is_eq-slice_cmp wanted name
          ∙ nat_list_eq_equiv.symm wanted name)
          ∙ ap (λ (o : Option (List ℕ)). if bytes_eq name wanted then Some contents
          else o) (later.found wanted);
      within = omega (
        arith,
        later.within,
        ap tags_size (entries-insert nat_list_cmp_total later.tags name contents),
        put_within name contents (entries later.tags),
        ap moves_size (flat_map-cons items_of_part (Tag first name second contents third) more),
        ap length (flat_map-cons spelled_part (Tag first name second contents third) more),
        length-append (spelled_part (Tag first name second contents third)) (spelled more),
        tag_long first name second contents third,
      );
    }
room (ByteOrderMark ∷ more) = beside ByteOrderMark more (room more) (λ wanted. refl) (omega arith)
room (White b ∷ more) = beside (White b) more (room more) (λ wanted. refl) (omega arith)
room (Brace text ∷ more) = beside (Brace text) more (room more) (λ wanted. refl) (omega arith)
room (Line text ∷ more) = beside (Line text) more (room more) (λ wanted. refl) (omega arith)
room (EscapeLine text ∷ more) =
    beside (EscapeLine text) more (room more) (λ wanted. refl) (omega arith)
room (Word text ∷ more) =
    beside (Word text) more (room more) (λ wanted. refl) (word_within text (is_move_text text))
room (Star ∷ more) = beside Star more (room more) (λ wanted. refl) (omega arith)
room (Dot ∷ more) = beside Dot more (room more) (λ wanted. refl) (omega arith)
room (Glyph digits ∷ more) = beside (Glyph digits) more (room more) (λ wanted. refl) (omega arith)
room (Marks marks ∷ more) =
    beside (Marks marks) more (room more) (λ wanted. refl) (omega (arith, glyphs_within marks))
room (Open ∷ more) = beside Open more (room more) (λ wanted. refl) (omega arith)
room (Close ∷ more) = beside Close more (room more) (λ wanted. refl) (omega arith)

-- a game's tags and three bytes for each ply of its main line are at most twice its bytes
game_room : (game : GameText) (parts : List Part) (start : State) (positions : List State)
    (played : List Move) → IsGameText game → ShowsGame game game.at parts
    → IsMainLine start (main_words game.elements 0) positions played
    → tags_size game.tags + 3 * length played ≤ 2 * length game.text
game_room game parts start positions played is shows line =
    let own = room parts in
    let sorted = names_of_sorted (entries own.tags) (entries_sorted own.tags) in
    let tags : game.tags ≡ entries own.tags =
    same_tags game.tags (entries own.tags) is.ordered sorted (λ wanted. shows.tags wanted
    ∙ sym (own.found wanted) ∙ get-entries own.tags wanted
    ∙ find-tag_in wanted (entries own.tags)) in
    omega (
      arith,
      own.within,
      ap tags_size tags,
      line_within start (main_words game.elements 0) positions played line,
      main_within game.elements 0,
      ap moves_size shows.elements,
      ap length shows.text,
    )

name_within : (name : Option (List ℕ)) → IfSome name (λ own. length own ≤ longest_name)
    → name_size name ≤ 4 + longest_name
name_within None short = omega arith
name_within (Some own) short = omega arith

pub game_fits : GameOfABlockFits
game_fits name number offset game parts replay packed is shows small replays is_packed short
    number_fits offset_fits origin =
    let begins =
    same_Some is_packed.start replays.start (sym is_packed.first
    ∙ line_head replays.start (main_words game.elements 0) replay.positions replay.played
    replays.line) in
    let codes : AreCodes replays.start replay.played packed.plies =
    subst (λ (P : State). AreCodes P replay.played packed.plies) begins is_packed.plies in
    record_fits packed replays.start (main_words game.elements 0) replay.positions replay.played
    (omega (arith, is_packed.number)) (omega (arith, is_packed.offset))
    (subst IsResult (sym is_packed.result) is.ends) replays.line codes
    (omega (
      arith,
      ap name_size is_packed.name,
      name_within name short,
      ap tags_size is_packed.tags,
      codes_count replays.start replay.played packed.plies codes,
      game_room game parts replays.start replay.positions replay.played is shows replays.line,
    ))
    (rw is_packed.tags is.ordered)
    (rw (is_packed.number, is_packed.offset, is_packed.name) origin)
