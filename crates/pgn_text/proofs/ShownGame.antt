-- The parts of a game make a game text.
use Rattle.std.proofs.Math.Seq.{take-append_seam}
use Rattle.std.proofs.lemmas.Cmp.{nat_list_eq_equiv}
use Rattle.std.specs.FinMap.{entries, entries_sorted, from_entries, get-entries, get-from_entries}
use Rattle.pgn_text.proofs.Common.{◌≡◌, ℕ, ◌-◌, ◌<◌, ◌≤◌, Bool, cond, List, [], ◌∷◌, ◌++◌, length}
use Rattle.pgn_text.proofs.Common.{take, drop, refl, sym, ap, ◌∙◌, arith, length-append}
use Rattle.pgn_text.proofs.Common.{length-take-le, nat_list_cmp_total, is_eq-slice_cmp, Some}
use Rattle.pgn_text.proofs.Common.{if◌then◌else◌, find, is_eq, Part, spelled, ByteOrderMark, White}
use Rattle.pgn_text.proofs.Common.{Brace, Line, EscapeLine, Tag, Word, Star, Dot, Glyph, Marks}
use Rattle.pgn_text.proofs.Common.{Open, Close, IsGame, first_tag, items_of, result_of, GameText}
use Rattle.pgn_text.proofs.Common.{IsGameText, ShowsGame, tag_in, start, GameTo}
use Rattle.pgn_text.proofs.laws.GameLeads.{game_leads}
use Rattle.pgn_text.proofs.LastResult.{game_result}
use Rattle.pgn_text.proofs.game.Pairing.{leads_paired}
use Rattle.pgn_text.proofs.SortedTags.{name_cmp, names_of_sorted, find-tag_in}
use Rattle.pgn_text.proofs.TagStrings.{first_string}

-- the tags among the parts, as they stand
abbrev tags_among : List Part → List (List ℕ × List ℕ)
tags_among [] = []
tags_among (Tag first name second contents third ∷ more) = (name, contents) ∷ tags_among more
tags_among (part ∷ more) = tags_among more

-- of each name the first of them is found
find-first_tag : (wanted : List ℕ) (parts : List Part)
    → find name_cmp wanted (tags_among parts) ≡ first_tag wanted parts
find-first_tag wanted [] = refl
find-first_tag wanted (Tag first name second contents third ∷ more) =
    ap (cond (is_eq (name_cmp wanted name)) (Some contents)) (find-first_tag wanted more)
    ∙ ap (λ v. if v then Some contents else first_tag wanted more) (is_eq-slice_cmp wanted name
    ∙ nat_list_eq_equiv.symm wanted name)
find-first_tag wanted (ByteOrderMark ∷ more) = find-first_tag wanted more
find-first_tag wanted (White b ∷ more) = find-first_tag wanted more
find-first_tag wanted (Brace text ∷ more) = find-first_tag wanted more
find-first_tag wanted (Line text ∷ more) = find-first_tag wanted more
find-first_tag wanted (EscapeLine text ∷ more) = find-first_tag wanted more
find-first_tag wanted (Word text ∷ more) = find-first_tag wanted more
find-first_tag wanted (Star ∷ more) = find-first_tag wanted more
find-first_tag wanted (Dot ∷ more) = find-first_tag wanted more
find-first_tag wanted (Glyph digits ∷ more) = find-first_tag wanted more
find-first_tag wanted (Marks marks ∷ more) = find-first_tag wanted more
find-first_tag wanted (Open ∷ more) = find-first_tag wanted more
find-first_tag wanted (Close ∷ more) = find-first_tag wanted more

-- the tags of a game text, by their names
abbrev sorted_among : List Part → List (List ℕ × List ℕ)
sorted_among parts = entries (from_entries {R = name_cmp} (tags_among parts))

tag_in-among : (wanted : List ℕ) (parts : List Part)
    → tag_in wanted (sorted_among parts) ≡ first_tag wanted parts
tag_in-among wanted parts =
    sym (find-tag_in wanted (sorted_among parts))
    ∙ sym (get-entries (from_entries {R = name_cmp} (tags_among parts)) wanted)
    ∙ get-from_entries nat_list_cmp_total (tags_among parts) wanted
    ∙ find-first_tag wanted parts

-- each game is shown by a game text
pub some_game_text : (max_depth : ℕ) (file_start : Bool) (before : List ℕ) (parts : List Part)
    (after : List ℕ) (at : ℕ)
    → IsGame max_depth file_start before parts after
    → (game : GameText) × IsGameText game × ShowsGame game at parts
some_game_text max_depth file_start before parts after at is_game = (
  record {
    at = at;
    text = spelled parts;
    tags = sorted_among parts;
    elements =
        items_of parts;
    result = result_of parts;
  },
  record {
    ordered =
        names_of_sorted (sorted_among parts)
        (entries_sorted (from_entries {R = name_cmp} (tags_among parts)));
    strings =
        λ name contents is.
        (first_string name contents file_start before parts after is_game.stand
        (sym (tag_in-among name parts) ∙ is)).0;
    names = λ name contents is.
        (first_string name contents file_start before parts after is_game.stand
        (sym (tag_in-among name parts) ∙ is)).1;
    paired =
        leads_paired max_depth start parts
        (game_leads max_depth file_start before parts after is_game);
    ends = game_result max_depth file_start before parts after is_game;
  },
  record {
    place = refl;
    text = refl;
    tags = λ wanted. tag_in-among wanted parts;
    elements =
        refl;
    result = refl;
  },
)

-- what stands from a game's first byte to its last is its parts
pub bytes_of_game : (max_depth : ℕ) (file_start : Bool) (block : List ℕ) (begin end : ℕ)
    (parts : List Part)
    → GameTo max_depth file_start block begin parts end
    → take (end - begin) (drop begin block) ≡ spelled parts
bytes_of_game max_depth file_start block begin end parts to =
    let forward : begin < end = to.forward in
    let within : end ≤ length block = to.within in
    let whole : end ≡ length (take begin block ++ spelled parts) =
    sym (length-take-le end block within) ∙ ap length to.passed in
    let before : length (take begin block) ≡ begin = length-take-le begin block (omega arith) in
    let size : end - begin ≡ length (spelled parts) =
    omega (arith, whole, before, length-append (take begin block) (spelled parts)) in
    rw (size, to.parted) (take-append_seam (spelled parts) (drop end block))
