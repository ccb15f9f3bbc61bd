-- No line of an export is misread but its first, which is its event line.
use Rattle.std.proofs.Common.{◌≡◌, ◌≢◌, ℕ, Bool, true, false, ◌&&◌, ◌||◌, List, [], ◌∷◌, ◌++◌, refl}
use Rattle.std.proofs.Common.{sym, ap, ◌∙◌, subst, inl, inr, append_assoc, arith}
use Rattle.std.specs.Prelude.{flat_map, Option, Some, None}
use Rattle.pgn_game.proofs.Common.{and_parts, bytes_eq-Decides, list_all, ◌==◌, not, bytes_eq}
use Rattle.pgn_game.proofs.Common.{if◌then◌else◌, codes, filter, is_some, event_line, IsResult}
use Rattle.pgn_game.proofs.Common.{tag_in, tag_names, IsMisread, IsReadAsOne, fen_tag, missing_text}
use Rattle.pgn_game.proofs.Common.{escaped, IsTagText, tag_line, AreLinesOf, is_beside, Style}
use Rattle.pgn_text.specs.Public.Bytes.{is_name_byte, is_plain}
use Rattle.pgn_text.specs.Public.Strings.{Sign, Single, Escaped, is_sign, value_of_sign}
use Rattle.pgn_game.specs.Public.Laws.{ExportIsReadAsOne}
use Rattle.pgn_game.proofs.laws.PlainLines.{HasNoFeed, IsRight, same_word, solid_feed, after_feed}
use Rattle.pgn_game.proofs.laws.PlainLines.{line_right, feed_right, movetext_right, feed_alone}
use Rattle.pgn_game.proofs.PlainTokens.{AllOf, IsInk, IsSolid, all_append, result_may}

-- ---- bytes that end no line

name_ink : (b : ℕ) → is_name_byte b ≡ true → IsInk b
name_ink b is = (
  (λ feed. let no : false ≡ true = subst (λ k. is_name_byte k ≡ true) feed is in absurd (cc)),
  (λ space. let no : false ≡ true = subst (λ k. is_name_byte k ≡ true) space is in absurd (cc)),
)

name_solid : (name : List ℕ) → list_all is_name_byte name ≡ true → IsSolid name
name_solid [] all = record {}
name_solid (b ∷ name) all = let both = and_parts (is_name_byte b) (list_all is_name_byte name) all
    in (name_ink b both.0, name_solid name both.1)

plain_no_feed : (b : ℕ) → is_plain b ≡ true → b ≡ 10 → ⊥
plain_no_feed b is feed = let no : false ≡ true = subst (λ k. is_plain k ≡ true) feed is in
    absurd (cc)

all_plain : (text : List ℕ) → list_all is_plain text ≡ true → HasNoFeed text
all_plain [] all = record {}
all_plain (b ∷ text) all = let both = and_parts (is_plain b) (list_all is_plain text) all in
    (plain_no_feed b both.0, all_plain text both.1)

no_feed_if : (test : Bool) (some other : List ℕ) → HasNoFeed some → HasNoFeed other
    → HasNoFeed (if test then some else other)
no_feed_if true some other a b = a
no_feed_if false some other a b = b

-- ---- what stands in a tag's string

sign_no_feed : (sign : Sign) → is_sign sign ≡ true → HasNoFeed (value_of_sign sign)
sign_no_feed (Single b) is = let both =
    and_parts (is_plain b) (not (b == 34) && not (b == 92)) is in
    (plain_no_feed b both.0, record {})
sign_no_feed (Escaped b) is =
    no_feed_if (b == 34 || b == 92) (b ∷ []) (92 ∷ b ∷ []) (
      plain_no_feed b is,
      record {},
    ) ((λ feed. absurd (omega arith)), (plain_no_feed b is, record {}))

value_no_feed : (signs : List Sign) → list_all is_sign signs ≡ true
    → HasNoFeed (flat_map value_of_sign signs)
value_no_feed [] all = record {}
value_no_feed (sign ∷ signs) all =
    let both = and_parts (is_sign sign) (list_all is_sign signs) all in
    all_append (λ b. b ≡ 10 → ⊥) (value_of_sign sign) (flat_map value_of_sign signs)
    (sign_no_feed sign both.0) (value_no_feed signs both.1)

escaped_no_feed : (value : List ℕ) → HasNoFeed value → HasNoFeed (flat_map escaped value)
escaped_no_feed [] none = record {}
escaped_no_feed (b ∷ value) none =
    all_append (λ c. c ≡ 10 → ⊥) (escaped b) (flat_map escaped value)
    (no_feed_if (b == 34 || b == 92) (92 ∷ b ∷ []) (if b == 9 then 32 ∷ []
    else b ∷ []) ((λ feed. absurd (omega arith)), (none.0, record {}))
    (no_feed_if (b == 9) (32 ∷ []) (b ∷ []) ((λ feed. absurd (omega arith)), record {}) (
      none.0,
      record {},
    )))
    (escaped_no_feed value none.1)

missing_no_feed : (result name : List ℕ) → IsResult result → HasNoFeed (missing_text result name)
missing_no_feed result name ends =
    no_feed_if (bytes_eq name (codes "Result")) result (if bytes_eq name (codes "Date")
    then codes "????.??.??" else codes "?") (solid_feed result (result_may result ends).solid)
    (no_feed_if (bytes_eq name (codes "Date")) (codes "????.??.??") (codes "?")
    (all_plain (codes "????.??.??") refl) (all_plain (codes "?") refl))

text_no_feed : (contents : Option (List ℕ)) (missing text : List ℕ) → HasNoFeed missing
    → IsTagText contents missing text → HasNoFeed text
text_no_feed None missing text none is = subst HasNoFeed (sym is) none
text_no_feed (Some contents) missing text none (value, (signs, has), is) =
    subst HasNoFeed (sym is)
    (escaped_no_feed value (subst HasNoFeed (sym has.gives) (value_no_feed signs has.each)))

-- ---- the line of a tag

-- without its line feed
abbrev line_bytes : List ℕ → List ℕ → List ℕ
line_bytes name text = 91 ∷ (name ++ (32 ∷ 34 ∷ (text ++ (34 ∷ 93 ∷ []))))

line_then : (name text more : List ℕ) → tag_line name text ++ more
    ≡ line_bytes name text ++ 10 ∷ more
line_then name text more =
    ap (λ xs. 91 ∷ xs) (append_assoc (name ++ (32 ∷ 34 ∷ text)) (34 ∷ 93 ∷ 10 ∷ []) more
    ∙ append_assoc name (32 ∷ 34 ∷ text) (34 ∷ 93 ∷ 10 ∷ more)
    ∙ ap (λ xs. name ++ (32 ∷ 34 ∷ xs)) (sym (append_assoc text (34 ∷ 93 ∷ []) (10 ∷ more)))
    ∙ sym (append_assoc name (32 ∷ 34 ∷ (text ++ (34 ∷ 93 ∷ []))) (10 ∷ more)))

line_no_feed : (name text : List ℕ) → IsSolid name → HasNoFeed text
    → HasNoFeed (line_bytes name text)
line_no_feed name text solid none = (
  (λ feed. absurd (omega arith)),
  all_append (λ b. b ≡ 10 → ⊥) name (32 ∷ 34 ∷ (text ++ (34 ∷ 93 ∷ []))) (solid_feed name solid) (
    (λ feed. absurd (omega arith)),
    (
      (λ feed. absurd (omega arith)),
      all_append (λ b. b ≡ 10 → ⊥) text (34 ∷ 93 ∷ []) none (
        (λ feed. absurd (omega arith)),
        ((λ feed. absurd (omega arith)), record {}),
      ),
    ),
  ),
)

-- a name that begins no event line
abbrev IsOther : List ℕ → Type 0
IsOther name = IsSolid name × (name ≢ codes "Event")

-- the first byte, and the others
first_byte : List ℕ → ℕ
first_byte [] = 0
first_byte (b ∷ bytes) = b

other_bytes : List ℕ → List ℕ
other_bytes [] = []
other_bytes (b ∷ bytes) = bytes

no_event_name : (name after bytes : List ℕ) → IsOther name
    → name ++ 32 ∷ after ≡ codes "Event" ++ 32 ∷ bytes → ⊥
no_event_name name after bytes other is =
    other.1 (same_word name (codes "Event") 32 32 after bytes other.0
    (name_solid (codes "Event") refl) (inr refl) (inr refl) is)

line_escape : (name text more bytes : List ℕ) → line_bytes name text ++ 10 ∷ more ≡ 37 ∷ bytes → ⊥
unfolding first_byte
line_escape name text more bytes is = let first : ◌≡◌ {A = ℕ} 91 37 = ap first_byte is in
    absurd (omega arith)

line_event : (name text more bytes : List ℕ) → IsOther name
    → line_bytes name text ++ 10 ∷ more ≡ event_line ++ bytes → ⊥
unfolding other_bytes
line_event name text more bytes other is =
    no_event_name name (34 ∷ ((text ++ (34 ∷ 93 ∷ [])) ++ 10 ∷ more)) (34 ∷ bytes) other
    (sym (append_assoc name (32 ∷ 34 ∷ (text ++ (34 ∷ 93 ∷ []))) (10 ∷ more)) ∙ ap other_bytes is)

line_not_read : (name text more : List ℕ) → IsOther name
    → IsMisread (line_bytes name text ++ 10 ∷ more) → ⊥
line_not_read name text more other read =
    elim read.1 [
      | inl escape ↦ line_escape name text more read.0 escape
      | inr event ↦ line_event name text more
          read.0 other event
    ]

tags_right : (tags : List (List ℕ × List ℕ)) (result : List ℕ) (names : List (List ℕ))
    (lines tail : List ℕ) → IsResult result → AllOf IsOther names
    → AreLinesOf tags result names lines → IsRight tail → IsRight (lines ++ tail)
tags_right tags result [] lines tail ends all are right =
    subst (λ xs. IsRight (xs ++ tail)) (sym are) right
tags_right tags result (name ∷ names) lines tail ends all (
  line,
  more,
  (text, is_text, is_line),
  is,
  are,
) right =
    let whole : lines ++ tail ≡ line_bytes name text ++ 10 ∷ (more ++ tail) =
    ap (λ xs. xs ++ tail) (is ∙ ap (λ xs. xs ++ more) is_line)
    ∙ append_assoc (tag_line name text) more tail ∙ line_then name text (more ++ tail) in
    let none =
    text_no_feed (tag_in name tags) (missing_text result name) text
    (missing_no_feed result name ends) is_text in
    subst IsRight (sym whole)
    (line_right (line_bytes name text) (more
    ++ tail) (line_no_feed name text all.0.0 none)
    (line_not_read name text (more ++ tail) all.0)
    (tags_right tags result names more tail ends all.1 are right))

-- ---- the names that are written

-- a tag's name is found under itself
each_named : (P : List ℕ → Type 0) (tags : List (List ℕ × List ℕ))
    → ((name contents : List ℕ) → tag_in name tags ≡ Some contents → P name)
    → AllOf P (tag_names tags)
each_named P [] each = record {}
each_named P (tag ∷ tags) each = (
  each tag.0 tag.1 (ap (λ b. if b then Some tag.1
      else tag_in tag.0 tags) ((bytes_eq-Decides tag.0 tag.0).1 refl)),
  each_named P tags (λ name contents is. by name contents is (bytes_eq name tag.0) refl),
)
  where
    by : (name contents : List ℕ) → tag_in name tags ≡ Some contents → (same : Bool)
        → bytes_eq name tag.0 ≡ same → P name
    by name contents is true same =
        each name tag.1 (ap (λ b. if b then Some tag.1 else tag_in name tags) same)
    by name contents is false same =
        each name contents (ap (λ b. if b then Some tag.1 else tag_in name tags) same ∙ is)

others_kept : (test : List ℕ → Bool) (names : List (List ℕ)) → AllOf IsSolid names
    → ((name : List ℕ) → test name ≡ true → name ≢ codes "Event")
    → AllOf IsOther (filter test names)
others_kept test [] solid other = record {}
others_kept test (name ∷ names) solid other =
    by (test name) refl (others_kept test names solid.1 other)
  where
    by : (keeps : Bool) → test name ≡ keeps → AllOf IsOther (filter test names)
        → AllOf IsOther (if keeps then name ∷ filter test names else filter test names)
    by true keeps more = ((solid.0, other name keeps), more)
    by false keeps more = more

beside_other : (style : Style) (has_fen : Bool) (name : List ℕ)
    → is_beside style has_fen name ≡ true → name ≢ codes "Event"
beside_other style has_fen name is event = let no : false ≡ true =
    subst (λ n. is_beside style has_fen n ≡ true) event is in absurd (cc)

-- the roster after its first name
abbrev roster_rest : List (List ℕ)
roster_rest = codes "Site" ∷ codes "Date" ∷ codes "Round" ∷ codes "White" ∷ codes "Black"
    ∷ codes "Result" ∷ []

another : (name : List ℕ) → list_all is_name_byte name ≡ true
    → bytes_eq name (codes "Event") ≡ false → IsOther name
another name all differs = (
  name_solid name all,
  λ is. let yes : false ≡ true =
      sym differs ∙ (bytes_eq-Decides name (codes "Event")).1 is in absurd (cc),
)

rest_other : AllOf IsOther roster_rest
rest_other = (
  another (codes "Site") refl refl,
  (
    another (codes "Date") refl refl,
    (
      another (codes "Round") refl refl,
      (
        another (codes "White") refl refl,
        (another (codes "Black") refl refl, (another (codes "Result") refl refl, record {})),
      ),
    ),
  ),
)

-- ---- the export

-- a line that is an event line, and more, none of whose lines is misread
read_as_one : (text more : List ℕ) → HasNoFeed text → IsRight more
    → IsReadAsOne (line_bytes (codes "Event") text ++ 10 ∷ more)
read_as_one text more none right = record {
  first = ((text ++ (34 ∷ 93 ∷ [])) ++ 10 ∷ more, refl);
  only = λ before rest bytes is event. right rest
      (after_feed (line_bytes (codes "Event") text) before rest more line is) (bytes, inr event);
  no_escape = λ rest bytes begins escape. elim begins [
    | inl is ↦ line_escape (codes "Event") text more bytes (is ∙ escape)
    | inr there ↦ right rest
        (after_feed (line_bytes (codes "Event") text) there.0 rest more line there.1) (
          bytes,
          inl escape,
        )
  ];
}
  where
    line : HasNoFeed (line_bytes (codes "Event") text)
    line = line_no_feed (codes "Event") text (name_solid (codes "Event") refl) none

pub export_read_as_one : ExportIsReadAsOne
export_read_as_one style game text known is_export =
    let (line, more, (own, is_own, is_line), is, are) = is_export.tags in
    let tail = 10 ∷ (is_export.movetext ++ 10 ∷ []) in
    let beside = is_beside style (is_some (tag_in fen_tag game.tags)) in
    let solid =
    each_named IsSolid game.tags (λ name contents found.
    name_solid name (known.names name contents found)) in
    let others = all_append IsOther roster_rest (filter beside (tag_names game.tags)) rest_other
    (others_kept beside (tag_names game.tags) solid
    (beside_other style (is_some (tag_in fen_tag game.tags)))) in
    let moves =
    movetext_right style is_export.start game.elements game.result is_export.tokens style.width
    is_export.movetext (10 ∷ []) known.ends is_export.are_tokens is_export.laid
    feed_alone in
    let right =
    tags_right game.tags game.result (roster_rest
    ++ filter beside (tag_names game.tags)) more tail known.ends others are
    (feed_right (is_export.movetext ++ 10 ∷ []) moves) in
    let whole : text ≡ line_bytes (codes "Event") own ++ 10 ∷ (more ++ tail) =
    is_export.spells ∙ ap (λ xs. xs ++ tail) (is ∙ ap (λ xs. xs ++ more) is_line)
    ∙ append_assoc (tag_line (codes "Event") own) more tail
    ∙ line_then (codes "Event") own (more ++ tail) in
    subst IsReadAsOne (sym whole)
    (read_as_one own (more ++ tail)
    (text_no_feed (tag_in (codes "Event") game.tags) (missing_text game.result (codes "Event")) own
    (missing_no_feed game.result (codes "Event") known.ends) is_own) right)
