-- What the definitions refuse: of a search of a pack, of an index, of files, of marks and of
-- exports.
use Rattle.std.proofs.lemmas.List.{length-append}
use Rattle.std.proofs.lemmas.Str.{chars-IsAscii, encodes-IsAscii}
use Rattle.std.proofs.lemmas.Str.Ascii.{IsAscii-from_all}
use Rattle.std.specs.Str.{IsAscii}
use Rattle.pgn_extract.proofs.Common.{◌≡◌, ◌+◌, ◌<◌, ◌==◌, ◌∙◌, ℕ, true, false, List, [], ◌∷◌, ◌++◌}
use Rattle.pgn_extract.proofs.Common.{Bool}
use Rattle.pgn_extract.proofs.Common.{length, decimal, drop, map, take, zero, suc, Option, Some}
use Rattle.pgn_extract.proofs.Common.{None, codes, encode_utf8_all, get_or, ap, sym, subst, refl}
use Rattle.pgn_extract.proofs.Common.{arith, decimal_digit, Appends, GameText, IsGameText, tag_in}
use Rattle.pgn_extract.proofs.Common.{largest_offset, MarkedPiece, PackedGame, FitsRecord, IsPacked}
use Rattle.pgn_extract.proofs.Common.{pack_bytes, record_bytes, Replay, IsReplay, fen_tag, Main}
use Rattle.pgn_extract.proofs.Common.{record_size, Aim, GameId, IsInOneOf, in_first, in_second}
use Rattle.pgn_extract.proofs.Common.{in_third, Passage, IsOfNoGame, HasNoGame, IsIndexOfSoundGames}
use Rattle.pgn_extract.proofs.Common.{IsSoundPiece, StopsAtLimit, AtPath, BeginsPath, NamesUnopened}
use Rattle.pgn_extract.proofs.Common.{NoFile, Order, StopsAmong, StopsAtPath, WritesPaths, name_at}
use Rattle.pgn_extract.proofs.Common.{order_at, own_summary, summary_text, RunError, InputTooLong}
use Rattle.pgn_extract.proofs.Common.{OutOfMemory, Read, Write, Summary, id_of}
use Rattle.pgn_extract.proofs.ChoiceFacts.{none_met}
use Rattle.pgn_extract.specs.Public.Index.{mark, mark_line, shown_char, shown_name, titled}
use Rattle.pgn_extract.specs.Public.Laws.{HasAMark}
use Rattle.pgn_extract.specs.Public.Searching.{none, keep, leave}
use Rattle.pgn_extract.specs.declared.app.files.Task.{Task}

-- ---- a pack

-- the record of a game is not that of none, whatever stands after it
its_own_record : (game : GameText) (replay : Replay) (packed : PackedGame) → IsGameText game
    → IsReplay Main (tag_in fen_tag game.tags) game.elements replay
    → IsPacked packed.name packed.number packed.offset game replay packed → IsOfNoGame packed → ⊥
its_own_record game replay packed text is kept bad = bad game replay text is kept

a_record_of_a_game : (game : GameText) (replay : Replay) (packed : PackedGame) (rest : List ℕ)
    → IsGameText game → IsReplay Main (tag_in fen_tag game.tags) game.elements replay
    → IsPacked packed.name packed.number packed.offset game replay packed → FitsRecord packed
    → HasNoGame (record_bytes packed ++ rest) → ⊥
a_record_of_a_game game replay packed rest text is kept fits bad = its_own_record game replay packed
    text is kept (bad packed rest fits refl)

-- a search does not stop at the limit before the first record, since no record is that long
no_first_record_is_too_long : (aim : Aim) (whole : List ℕ) (out out' : Option (List ℕ))
    (stops : StopsAtLimit aim whole out out') → stops.before ≡ [] → ⊥
no_first_record_is_too_long aim whole out out' stops first =
    let far = subst (λ before. largest_offset < length (pack_bytes before) + length
    (record_bytes stops.next)) first stops.far in
    absurd (omega (arith, far, record_size stops.next, stops.fits.size))

-- ---- an index of the sound games

no_empty_line : (name : Option (List ℕ)) (id : GameId) (text : List ℕ)
    → mark_line name id ++ text ≡ [] → ⊥
no_empty_line name id text is =
    let long : length (mark_line name id ++ text) ≡ 0 = ap length is in
    omega (
      arith,
      long,
      length-append (mark_line name id) text,
      length-append
          (titled (codes ":") name ++ mark id) (10 ∷ []),
    )

-- a sound game is not left out, and no other piece has a mark
no_game_left_out : (name : Option (List ℕ)) (number : ℕ) (piece : MarkedPiece)
    → IsSoundPiece piece.kind → IsIndexOfSoundGames name number (piece ∷ []) [] → ⊥
no_game_left_out name number piece sound index = of_text [] refl index
  where
    of_text : (text : List ℕ) → text ≡ [] → IsIndexOfSoundGames name number (piece ∷ []) text → ⊥
    of_text text empty (keep number piece more rest is after) =
        no_empty_line name (id_of number piece) rest empty
    of_text text empty (leave number piece more rest unsound after) = unsound sound

no_other_piece : (name : Option (List ℕ)) (number : ℕ) (piece : MarkedPiece)
    → (IsSoundPiece piece.kind → ⊥)
    → IsIndexOfSoundGames name number (piece ∷ []) (mark_line name (id_of number piece)) → ⊥
no_other_piece name number piece unsound index = of_text (mark_line name (id_of number piece))
    (no_empty_line name (id_of number piece) []) index
  where
    of_rest : (number : ℕ) (text : List ℕ) → IsIndexOfSoundGames name number [] text → text ≡ []
    of_rest number text (none same) = refl

    of_text : (text : List ℕ) → (text ++ [] ≡ [] → ⊥)
        → IsIndexOfSoundGames name number (piece ∷ []) text → ⊥
    of_text text some (keep number piece more rest is after) = unsound is
    of_text text some (leave number piece more rest left after) = some
        (ap (λ bytes. bytes ++ []) (of_rest (number + 1) text after))

-- ---- files that cannot be opened

-- a name of ASCII without control characters is shown as it is
is_ascii : IsAscii (codes "a")
is_ascii = IsAscii-from_all (codes "a") within
  where
    within : (k d : ℕ) → k < 1 → get_or (codes "a") k d < 128
    within k d less =
        let zero : k ≡ 0 = omega (arith, less) in
        let first : get_or (codes "a") 0 d < 128 = omega arith in subst
        (λ at. get_or (codes "a") at d < 128) (sym zero) first

a_shown : shown_name (codes "a") ≡ codes "a"
a_shown = ap (λ cs. encode_utf8_all (map shown_char cs)) (chars-IsAscii (codes "a") is_ascii)
    ∙ encodes-IsAscii (codes "a") is_ascii

-- each control character is shown as a question mark, and no other character is
characters_shown : map shown_char (31 ∷ 32 ∷ 126 ∷ 127 ∷ 159 ∷ 160 ∷ [])
    ≡ 63 ∷ 32 ∷ 126 ∷ 63 ∷ 63 ∷ 160 ∷ []
characters_shown = refl

-- lines have the name of the file that is read, whatever name they had
named_as_shown : (own : Option (List ℕ)) → name_at true (codes "a") own ≡ Some (codes "a")
named_as_shown own = ap (λ name. Some name) a_shown

order_of_a_path : (task : Task) (path : List ℕ) → task.with_names ≡ true
    → let order = order_at task path in
    (order.job.aim.name ≡ Some (shown_name path)) × (order.job.id.number ≡ task.settings.number)
    × (order.end ≡ task.end) × (order.summary ≡ task.summary)
order_of_a_path task path named =
    (ap (λ with_names. name_at with_names path task.settings.name) named, refl, refl, refl)

-- the line is not just any, and it gives the name of the file
named_a : NamesUnopened (codes "a") (codes "pgn-extract: cannot open input: a: gone" ++ 10 ∷ [])
named_a = record {
  reason = codes "gone";
  is = ap (λ name. codes "pgn-extract: cannot open input: " ++ name ++ codes ": " ++ codes "gone" ++
      10 ∷ []) (sym a_shown);
}

not_any_line : NamesUnopened (codes "a") (codes "x") → ⊥
not_any_line names = let is = names.is in cc

not_another_name : NamesUnopened (codes "a") (codes "pgn-extract: cannot open input: b: gone" ++ 10
    ∷ []) → ⊥
not_another_name names =
    let is = subst (λ name. codes "pgn-extract: cannot open input: b: gone" ++ 10 ∷ []
    ≡ codes "pgn-extract: cannot open input: " ++ name ++ codes ": " ++ names.reason
    ++ 10 ∷ []) a_shown names.is in
    let clash : false ≡ true = ap (λ bytes. get_or bytes 32 0 == 97) is in cc

-- ---- summaries

-- one game, and several, of which the second number is that of the faulty ones
one_game : summary_text false None
    (record { games = 1; faulty = 0; unplayed = 0; met = none_met })
    ≡ codes "pgn-extract: 1 game, 0 of them faulty" ++ 10 ∷ []
one_game =
    ap (λ d. codes "pgn-extract: " ++ d ++ codes " game, " ++ decimal 0 ++ codes " of them faulty"
    ++ [] ++ 10 ∷ [])
    (decimal_digit 1 (omega arith))
    ∙ ap (λ d. codes "pgn-extract: 1 game, " ++ d ++ codes " of them faulty" ++ [] ++ 10 ∷ [])
    (decimal_digit 0 (omega arith))

games_of_a_file : summary_text false (Some (codes "a"))
    (record { games = 3; faulty = 2; unplayed = 0; met = none_met })
    ≡ codes "pgn-extract: a: 3 games, 2 of them faulty" ++ 10 ∷ []
games_of_a_file =
    ap (λ d. codes "pgn-extract: a: " ++ d ++ codes " games, " ++ decimal 2 ++ codes
    " of them faulty" ++ [] ++ 10 ∷ [])
    (decimal_digit 3 (omega arith))
    ∙ ap (λ d. codes "pgn-extract: a: 3 games, " ++ d ++ codes " of them faulty" ++ [] ++ 10 ∷ [])
    (decimal_digit 2 (omega arith))

-- where tags come first, how many were not played stands at the end
games_not_played : summary_text true None
    (record { games = 3; faulty = 1; unplayed = 2; met = none_met })
    ≡ codes "pgn-extract: 3 games, 1 of them faulty, 2 not played" ++ 10 ∷ []
games_not_played =
    ap (λ d. codes "pgn-extract: " ++ d ++ codes " games, " ++ decimal 1 ++ codes
    " of them faulty" ++ (codes ", " ++ decimal 2 ++ codes " not played") ++ 10 ∷ [])
    (decimal_digit 3 (omega arith))
    ∙ ap (λ d. codes "pgn-extract: 3 games, " ++ d ++ codes " of them faulty"
    ++ (codes ", " ++ decimal 2 ++ codes " not played") ++ 10 ∷ [])
    (decimal_digit 1 (omega arith))
    ∙ ap (λ d. codes "pgn-extract: 3 games, 1 of them faulty, " ++ d ++ codes " not played"
    ++ 10 ∷ []) (decimal_digit 2 (omega arith))

-- a file has a line where it is asked for and lines have names
own_summaries : (tags_first : Bool) (name : List ℕ) (summary : Summary)
    → (own_summary false tags_first (Some name) summary ≡ [])
    × (own_summary true tags_first None summary ≡ [])
    × (own_summary true tags_first (Some name) summary
    ≡ summary_text tags_first (Some name) summary)
own_summaries tags_first name summary = (refl, refl, refl)

-- ---- where runs over files end early

-- at one of the paths
not_at_no_path : (order : List ℕ → Order) (known : List ℕ → AtPath) (error : RunError)
    (out err : Passage) → StopsAmong order known [] error out err → ⊥
not_at_no_path order known error out err stops = no_cons stops.before stops.parted
  where
    no_cons : (before : List (List ℕ)) → [] ≡ before ++ stops.path ∷ stops.after → ⊥
    no_cons [] is = cc
    no_cons (first ∷ more) is = cc

-- no read fails where there is no file, and no input is too long
not_without_a_file : (order : Order) (path : List ℕ) (out err : Passage)
    → (StopsAtPath Read order path NoFile out err → ⊥)
    × (StopsAtPath InputTooLong order path NoFile out err → ⊥)
not_without_a_file order path out err = (λ stops. stops, λ stops. stops)

-- nothing goes to the output there
no_output_there : (order : Order) (path : List ℕ) (out err : Passage) → out.old.bytes ≡ Some []
    → out.new.bytes ≡ Some (codes "x") → BeginsPath order path NoFile out err → ⊥
no_output_there order path out err before after begins =
    nothing begins.outputs.0
    (subst (λ text. codes "x" ≡ take begins.outputs.0 text) begins.is.0
    (subst (λ (old : Option (List ℕ)). Appends old (Some (codes "x"))
    (take begins.outputs.0 begins.output)) before
    (subst (λ (new : Option (List ℕ)). Appends out.old.bytes new
    (take begins.outputs.0 begins.output)) after begins.outputs.1)))
  where
    nothing : (size : ℕ) → codes "x" ≡ take size [] → ⊥
    nothing zero is = cc
    nothing (suc size) is = cc

-- also where a write fails, or memory runs out
no_output_at_an_error : (order : Order) (path : List ℕ) (out err : Passage)
    → out.old.bytes ≡ Some [] → out.new.bytes ≡ Some (codes "x")
    → (StopsAtPath Write order path NoFile out err → ⊥)
    × (StopsAtPath OutOfMemory order path NoFile out err → ⊥)
no_output_at_an_error order path out err before after =
    let none = no_output_there order path out err before after in (none, none)

-- no read fails where no file is
no_read_without_files : (order : List ℕ → Order) (paths : List (List ℕ)) (out err : Passage)
    → StopsAmong order (λ path. NoFile) paths Read out err → ⊥
no_read_without_files order paths out err stops = stops.there

-- of a file that is not there no other line is begun
no_other_line : (order : Order) (path : List ℕ) (out err : Passage) → err.old.bytes ≡ Some []
    → err.new.bytes ≡ Some (codes "x") → BeginsPath order path NoFile out err → ⊥
no_other_line order path out err before after begins =
    other begins.reports.0
    (subst (λ text. codes "x" ≡ take begins.reports.0 text) begins.is.1.is
    (subst (λ (old : Option (List ℕ)). Appends old (Some (codes "x"))
    (take begins.reports.0 begins.report)) before
    (subst (λ (new : Option (List ℕ)). Appends err.old.bytes new
    (take begins.reports.0 begins.report)) after begins.reports.1)))
  where
    line : List ℕ
    line = codes "pgn-extract: cannot open input: " ++ shown_name path ++ codes ": "
        ++ begins.is.1.reason ++ 10 ∷ []

    other : (size : ℕ) → codes "x" ≡ take size line → ⊥
    other zero is = cc
    other (suc size) is = let clash : false ≡ true = ap (λ bytes. get_or bytes 0 0 == 112) is in cc

-- before the first path nothing is written
nothing_before : (order : List ℕ → Order) (known : List ℕ → AtPath) (path : List ℕ)
    (error : RunError) (out err : Passage)
    → (stops : StopsAmong order known (path ∷ []) error out err)
    → Appends out.old.bytes stops.out_there.bytes []
nothing_before order known path error out err stops = none stops.before stops.parted stops.whole
  where
    no_more : (more : List (List ℕ)) → [] ≡ more ++ stops.path ∷ stops.after → ⊥
    no_more [] is = cc
    no_more (first ∷ more) is = cc

    none : (before : List (List ℕ)) → path ∷ [] ≡ before ++ stops.path ∷ stops.after
        → WritesPaths order known before (record { old = out.old; new = stops.out_there })
        (record { old = err.old; new = stops.err_there })
        → Appends out.old.bytes stops.out_there.bytes []
    none [] is whole = subst (λ text. Appends out.old.bytes stops.out_there.bytes text) whole.2.0
        whole.3
    none (first ∷ more) is whole = absurd (no_more more (ap (drop 1) is))

-- ---- marks

-- a piece after another does not begin at the first byte
not_at_the_first_byte : (text : List ℕ) (first piece : MarkedPiece) (after : List MarkedPiece)
    → piece.offset ≡ 0 → HasAMark text (first ∷ []) piece after → ⊥
not_at_the_first_byte text first piece after is has = absurd (omega (arith, is, has.few))

-- ---- one of three exports

-- two do not have the text, and the one that has it has no other
not_in_two : (IsInOneOf (codes "a") (codes "a") (codes "a") [] → ⊥)
    × (IsInOneOf (codes "a") (codes "a") [] (codes "a") → ⊥)
    × (IsInOneOf (codes "a") [] (codes "a") (codes "a") → ⊥)
not_in_two = (two_first, two_outer, two_last)
  where
    two_first : IsInOneOf (codes "a") (codes "a") (codes "a") [] → ⊥
    two_first (in_first text second third) = cc
    two_first (in_second first text third) = cc
    two_first (in_third first second text) = cc

    two_outer : IsInOneOf (codes "a") (codes "a") [] (codes "a") → ⊥
    two_outer (in_first text second third) = cc
    two_outer (in_second first text third) = cc
    two_outer (in_third first second text) = cc

    two_last : IsInOneOf (codes "a") [] (codes "a") (codes "a") → ⊥
    two_last (in_first text second third) = cc
    two_last (in_second first text third) = cc
    two_last (in_third first second text) = cc

not_another_text : (IsInOneOf (codes "a") (codes "aa") [] [] → ⊥)
    × (IsInOneOf (codes "a") [] (codes "aa") [] → ⊥)
    × (IsInOneOf (codes "a") [] [] (codes "aa") → ⊥)
not_another_text = (in_front, between, at_the_end)
  where
    in_front : IsInOneOf (codes "a") (codes "aa") [] [] → ⊥
    in_front (in_first text second third) = cc
    in_front (in_second first text third) = cc
    in_front (in_third first second text) = cc

    between : IsInOneOf (codes "a") [] (codes "aa") [] → ⊥
    between (in_first text second third) = cc
    between (in_second first text third) = cc
    between (in_third first second text) = cc

    at_the_end : IsInOneOf (codes "a") [] [] (codes "aa") → ⊥
    at_the_end (in_first text second third) = cc
    at_the_end (in_second first text third) = cc
    at_the_end (in_third first second text) = cc
