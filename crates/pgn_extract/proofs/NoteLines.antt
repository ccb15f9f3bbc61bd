-- Notes are lines: no text of theirs holds a line feed.
use Rattle.std.specs.Prelude.{IsTrue, ◌==◌, nat_lt, slice_index}
use Rattle.std.proofs.lemmas.Bool.{and_from, and_parts, cases_eq}
use Rattle.std.proofs.lemmas.List.{length-take-le}
use Rattle.std.proofs.lemmas.List.Folds.{list_all-append}
use Rattle.pgn_extract.proofs.Common.{◌≡◌, ℕ, ◌+◌, ◌/◌, ◌%◌, ◌<◌, ◌≤◌, Bool, true, false, ◌&&◌}
use Rattle.pgn_extract.proofs.Common.{List, [], ◌∷◌, ◌++◌, take, drop, length, refl, sym, ap, ◌∙◌}
use Rattle.pgn_extract.proofs.Common.{subst, arith, inl, inr, codes, decimal, append_assoc, Option}
use Rattle.pgn_extract.proofs.Common.{Some, None, nat_le, if◌then◌else◌, list_all, nat_tests}
use Rattle.pgn_extract.proofs.Common.{depth_limit, AreDigits, decimal_digits, NamesBlockStop}
use Rattle.pgn_extract.proofs.Common.{IsNote, NamesByte, NamesStop, AreLines, indented, line_feeds}
use Rattle.pgn_extract.proofs.Common.{column_after, too_long_text, Origin}
use Rattle.pgn_text.specs.Public.Bytes.{is_white, is_name_byte, is_not_line_feed, after_run}
use Rattle.pgn_text.specs.Public.StopPlaces.{tag_name_of}
use Rattle.pgn_text.specs.declared.error.error_position.Within.{Within}
use Rattle.pgn_text.specs.declared.error.error_position.Within.TheVariants.{Comment, Tags, MainLine}
use Rattle.pgn_text.specs.declared.error.error_position.Within.TheVariants.{TagName, Game, TagValue}
use Rattle.pgn_text.specs.declared.error.error_position.Within.TheVariants.{Variation}
use Rattle.pgn_text.proofs.EachStops.{stop_exists}
use Rattle.pgn_text.proofs.LongestRuns.{list_all-run}
use Rattle.pgn_extract.specs.Private.NoteTexts.{position_text, place_in, place_text, begin_in}
use Rattle.pgn_extract.specs.Private.NoteTexts.{begin_text, hex_digit, byte_text, stopper_text}
use Rattle.pgn_extract.specs.Private.NoteTexts.{context_text, stop_line, IsStopNote}
use Rattle.pgn_extract.proofs.StopNotes.{stops_within}

-- a note may say nothing
pub empty_note : (explain : Bool) → IsNote explain []
empty_note true = ([], tt, refl)
empty_note false = refl

-- the bytes hold no line feed
abbrev pub IsLine : List ℕ → Type 0
IsLine bytes = IsTrue (list_all is_not_line_feed bytes)

pub line_join : (xs ys : List ℕ) → IsLine xs → IsLine ys → IsLine (xs ++ ys)
line_join xs ys a b = list_all-append is_not_line_feed xs ys
    ∙ and_from (list_all is_not_line_feed xs) (list_all is_not_line_feed ys) a b

line_join_two : (xs ys zs : List ℕ) → IsLine xs → IsLine ys → IsLine zs → IsLine (xs ++ ys ++ zs)
line_join_two xs ys zs a b c = line_join (xs ++ ys) zs (line_join xs ys a b) c

-- one byte that is no line feed
pub shown_line : (b : ℕ) → is_not_line_feed b ≡ true → IsLine (b ∷ [])
shown_line b other = and_from (is_not_line_feed b) true other refl

above_feed : (b : ℕ) → 10 < b → is_not_line_feed b ≡ true
above_feed b high = grind (arith, nat_tests)

digits_line : (ds : List ℕ) → AreDigits ds → IsLine ds
digits_line [] a = refl
digits_line (d ∷ ds) a =
    let low = a.0.0 in
    and_from (is_not_line_feed d) (list_all is_not_line_feed ds) (above_feed d (omega arith))
    (digits_line ds a.1)

decimal_line : (n : ℕ) → IsLine (decimal n)
decimal_line n = digits_line (decimal n) (decimal_digits n)

position_line : (first : ℕ) (front : List ℕ) → IsLine (position_text first front)
position_line first front =
    let column = decimal (column_after front) in
    let line = decimal (first + line_feeds front) in
    line_join (codes "line " ++ line ++ codes ", column ") column
    (line_join_two (codes "line ") line (codes ", column ") refl
    (decimal_line (first + line_feeds front)) refl) (decimal_line (column_after front))

pub place_line : (line : Option ℕ) (byte : ℕ) (front : List ℕ) → IsLine (place_in line byte front)
place_line None byte front = line_join (codes "byte ") (decimal byte) refl (decimal_line byte)
place_line (Some first) byte front =
    line_join_two (position_text first front) (codes ", byte ") (decimal byte)
    (position_line first front) refl (decimal_line byte)

begin_line : (line : Option ℕ) (byte : ℕ) (front : List ℕ) → IsLine (begin_in line byte front)
begin_line None byte front = line_join (codes "byte ") (decimal byte) refl (decimal_line byte)
begin_line (Some first) byte front = position_line first front

hex_line : (n : ℕ) → is_not_line_feed (hex_digit n) ≡ true
hex_line n = by (nat_lt n 10)
  where
    by : (low : Bool) → is_not_line_feed (if low then 48 + n else 55 + n) ≡ true
    by true = above_feed (48 + n) (omega arith)
    by false = above_feed (55 + n) (omega arith)

byte_line : (b : ℕ) → IsLine (byte_text b)
byte_line b = by (nat_le 32 b) (nat_le b 126) refl
  where
    hex : IsLine (codes "0x" ++ hex_digit (b / 16) ∷ hex_digit (b % 16) ∷ [])
    hex =
        line_join (codes "0x") (hex_digit (b / 16) ∷ hex_digit (b % 16) ∷ []) refl
        (and_from (is_not_line_feed (hex_digit (b / 16))) _ (hex_line (b / 16))
        (and_from (is_not_line_feed (hex_digit (b % 16))) _ (hex_line (b % 16)) refl))

    by : (low high : Bool) → nat_le 32 b ≡ low
        → IsLine (if low && high then 39 ∷ b ∷ 39 ∷ []
        else codes "0x" ++ hex_digit (b / 16) ∷ hex_digit (b % 16) ∷ [])
    by true true low =
        let above : 32 ≤ b = grind (arith, nat_tests) in
        and_from (is_not_line_feed 39) _ refl
        (and_from (is_not_line_feed b) _ (above_feed b (omega arith)) refl)
    by true false low = hex
    by false high low = hex

stopper_line : (block : List ℕ) (place : ℕ) → IsLine (stopper_text block place)
stopper_line block place = by (place == length block)
  where
    by : (ends : Bool)
        → IsLine (if ends then codes ": the text ends here"
        else codes ": no game goes on with " ++ byte_text (slice_index block place))
    by true = refl
    by false =
        line_join (codes ": no game goes on with ") (byte_text (slice_index block place)) refl
        (byte_line (slice_index block place))

name_byte : (b : ℕ) → is_name_byte b ≡ true → is_not_line_feed b ≡ true
name_byte b is = elim (cases_eq b 10) [
  | inl feed ↦ let none : is_name_byte b ≡ false = ap is_name_byte feed in absurd (cc)
  | inr other ↦ grind (arith, nat_tests)
]

names_line : (bytes : List ℕ) → IsTrue (list_all is_name_byte bytes) → IsLine bytes
names_line [] all = refl
names_line (b ∷ bytes) all =
    let both = and_parts (is_name_byte b) (list_all is_name_byte bytes) all in
    and_from (is_not_line_feed b) (list_all is_not_line_feed bytes) (name_byte b both.0)
    (names_line bytes both.1)

name_line : (bytes : List ℕ) → IsLine (tag_name_of bytes)
name_line bytes =
    names_line (tag_name_of bytes) (list_all-run is_name_byte (after_run is_white bytes))

closed_line : (label text : List ℕ) → IsLine label → IsLine text
    → IsLine (label ++ text ++ codes ")")
closed_line label text a b = line_join_two label text (codes ")") a b refl

awaited_line : (ends : Bool) → IsLine (if ends then codes " (before a result)" else [])
awaited_line true = refl
awaited_line false = refl

context_line : (origin : Origin) (block : List ℕ) (ends : Bool) (within : Within)
    → IsLine (context_text origin block ends within)
context_line origin block ends (Comment at) =
    closed_line (codes " (in a comment that begins at ") (begin_text origin (take at block)) refl
    (begin_line origin.line (origin.offset + length (take at block)) (take at block))
context_line origin block ends (TagName at) =
    closed_line (codes " (in a tag that begins at ") (begin_text origin (take at block)) refl
    (begin_line origin.line (origin.offset + length (take at block)) (take at block))
context_line origin block ends (TagValue at) =
    closed_line (codes " (in the value of tag ") (tag_name_of (drop (at + 1) block)) refl
    (name_line (drop (at + 1) block))
context_line origin block ends Variation = refl
context_line origin block ends Tags = awaited_line ends
context_line origin block ends MainLine = awaited_line ends
context_line origin block ends Game = refl

stop_line_line : (origin : Origin) (block : List ℕ) (place : ℕ) (within : Within)
    → IsLine (stop_line origin block place within)
stop_line_line origin block place within =
    let context = context_text origin block (place == length block) within in
    line_join_two (place_text origin (take place block)) (stopper_text block place) context
    (place_line origin.line (origin.offset + length (take place block)) (take place block))
    (stopper_line block place) (context_line origin block (place == length block) within)

-- a note on bytes that are no game
pub stop_note : (explain : Bool) → explain ≡ true
    → (origin : Origin) (block : List ℕ) (begin : ℕ) (note : List ℕ)
    → IsStopNote origin block begin note → IsNote explain note
stop_note explain asked origin block begin note is =
    subst (λ e. IsNote e note) (sym asked) (
      stop_line origin block is.place is.within ∷ [],
      (stop_line_line origin block is.place is.within, tt),
      is.says,
    )

-- a note on a block over the limit
pub too_long_note : (explain : Bool) → explain ≡ true → (size limit : ℕ)
    → IsNote explain (indented (too_long_text size limit ∷ []))
too_long_note explain asked size limit =
    let last =
    codes "; games are parted at lines that begin with [Event \" (a compressed file needs zcat)"
    in
    subst (λ e. IsNote e (indented (too_long_text size limit ∷ []))) (sym asked) (
      too_long_text size limit ∷ [],
      (
        line_join (decimal size ++ codes " bytes, over the limit of " ++ decimal limit) last
            (line_join_two (decimal size) (codes " bytes, over the limit of ") (decimal limit)
            (decimal_line size) refl (decimal_line limit)) refl,
        tt,
      ),
      refl,
    )

-- where no explanations are asked for there is no note
pub no_note : (explain : Bool) → explain ≡ false → (offset : ℕ) (block : List ℕ) (begin : ℕ)
    → IsNote explain [] × NamesBlockStop explain offset block begin []
no_note explain plain offset block begin =
    subst (λ e. IsNote e [] × NamesBlockStop e offset block begin []) (sym plain) (refl, tt)

-- some note names the byte at which bytes stop agreeing with games
pub some_stop_note : (explain : Bool) (offset : ℕ) (bytes : List ℕ)
    → (note : List ℕ) × IsNote explain note × NamesStop explain offset bytes note
some_stop_note false offset bytes = ([], refl, tt)
some_stop_note true offset bytes =
    let stop = stop_exists depth_limit (offset == 0) [] bytes in
    let at = offset + stop.0 in
    let line = codes "byte " ++ decimal at ++ codes ": " in (
      indented (line ∷ []),
      (
        line ∷ [],
        (line_join_two (codes "byte ") (decimal at) (codes ": ") refl (decimal_line at) refl, tt),
        refl,
      ),
      (stop.0, stop.1, ([], 10 ∷ [], inl refl, refl)),
    )

-- what is said of a byte begins with its place
joined : (place byte stopper context tail : List ℕ)
    → ((((place ++ codes ", byte ") ++ byte) ++ (codes ": " ++ stopper)) ++ context) ++ tail
    ≡ ((((place ++ codes ", ") ++ codes "byte ") ++ byte) ++ codes ": ")
    ++ ((stopper ++ context) ++ tail)
joined place byte stopper context tail = simp append_assoc refl

joined_bare : (byte stopper context tail : List ℕ)
    → ((byte ++ (codes ": " ++ stopper)) ++ context) ++ tail
    ≡ (byte ++ codes ": ") ++ ((stopper ++ context) ++ tail)
joined_bare byte stopper context tail = simp append_assoc refl

names_place : (line : Option ℕ) (byte : ℕ) (front stopper context tail : List ℕ)
    → NamesByte byte (32 ∷ 32
    ∷ (((place_in line byte front ++ (codes ": " ++ stopper)) ++ context) ++ tail))
names_place None byte front stopper context tail = (
  [],
  (stopper ++ context) ++ tail,
  inl refl,
  ap (λ t. codes "  byte " ++ t) (joined_bare (decimal byte) stopper context tail),
)
names_place (Some first) byte front stopper context tail =
    let line = first + line_feeds front in
    let column = column_after front in (
      position_text first front ++ codes ", ",
      (stopper ++ context) ++ tail,
      inr (line, column, refl),
      ap (λ t. codes "  "
          ++ t) (joined (position_text first front) (decimal byte) stopper context tail),
    )

stopper_is : (block : List ℕ) (place : ℕ)
    → (said : List ℕ) × (stopper_text block place ≡ codes ": " ++ said)
stopper_is block place = said_of (place == length block)
  where
    said_of : (ends : Bool) → (said : List ℕ)
        × ((if ends then codes ": the text ends here"
        else codes ": no game goes on with " ++ byte_text (slice_index block place))
        ≡ codes ": " ++ said)
    said_of true = (codes "the text ends here", refl)
    said_of false = (codes "no game goes on with " ++ byte_text (slice_index block place), refl)

-- so a note on bytes that are no game names the byte at which they stop agreeing with games
pub names_stop : (explain : Bool) (origin : Origin) (block : List ℕ) (begin : ℕ) (note : List ℕ)
    → begin ≤ length block → (is : IsStopNote origin block begin note)
    → NamesBlockStop explain origin.offset block begin note
names_stop false origin block begin note fits is = tt
names_stop true origin block begin note fits is =
    let said = stopper_is block is.place in
    let inside =
    stops_within depth_limit (origin.offset == 0) block begin is.stops.0 fits is.stops.2 in
    let size : length (take is.place block) ≡ is.place =
    length-take-le is.place block (omega (arith, inside, is.stops.1)) in
    let context = context_text origin block (is.place == length block) is.within in
    let tail = 10 ∷ [] in
    let names = names_place origin.line (origin.offset
    + length (take is.place block)) (take is.place block) said.0 context tail in
    let shaped = 32 ∷ 32
    ∷ (((place_text origin (take is.place block) ++ (codes ": " ++ said.0)) ++ context) ++ tail)
    in
    let whole : note ≡ shaped = is.says ∙ ap (λ t. 32 ∷ 32
    ∷ (((place_text origin (take is.place block) ++ t) ++ context) ++ tail)) said.1 in
    let named = subst (NamesByte (origin.offset + is.place)) (sym whole)
    (subst (λ n. NamesByte (origin.offset + n) shaped) size names) in
    (is.place, is.stops, named)

-- a label and a number keep a line one
pub number_kept : (old new label : List ℕ) (n : ℕ) → IsLine label
    → new ≡ old ++ (label ++ decimal n) → IsLine old → IsLine new
number_kept old new label n own is line =
    subst IsLine (sym is)
    (line_join old (label ++ decimal n) line (line_join label (decimal n) own (decimal_line n)))

-- one line is a note
pub line_note : (line : List ℕ) → IsLine line → IsNote true (indented (line ∷ []))
line_note line is = (line ∷ [], (is, tt), refl)

-- a note, and more lines
indented_join : (xs ys : List (List ℕ)) → indented (xs ++ ys) ≡ indented xs ++ indented ys
indented_join [] ys = refl
indented_join (line ∷ more) ys =
    ap (λ t. 32 ∷ 32 ∷ (line ++ (10 ∷ t))) (indented_join more ys)
    ∙ ap (λ t. 32 ∷ 32 ∷ t) (sym (append_assoc line (10 ∷ indented more) (indented ys)))

lines_join : (xs ys : List (List ℕ)) → AreLines xs → AreLines ys → AreLines (xs ++ ys)
lines_join [] ys first second = second
lines_join (line ∷ more) ys first second = (first.0, lines_join more ys first.1 second)

pub notes_join : (first second : List ℕ) → IsNote true first → IsNote true second
    → IsNote true (first ++ second)
notes_join first second one two = (
  one.0 ++ two.0,
  lines_join one.0 two.0 one.1 two.1,
  ap (λ t. t ++ second) one.2 ∙ ap (λ t. indented one.0 ++ t) two.2
      ∙ sym (indented_join one.0 two.0),
)

-- it names the same byte
pub names_more : (explain : Bool) (offset : ℕ) (block : List ℕ) (begin : ℕ) (note more : List ℕ)
    → NamesBlockStop explain offset block begin note
    → NamesBlockStop explain offset block begin (note ++ more)
names_more false offset block begin note more names = tt
names_more true offset block begin note more (place, is, names) = (
  place,
  is,
  (names.0, names.1 ++ more, names.2, ap (λ t. t ++ more) names.3 ∙ simp append_assoc refl),
)
