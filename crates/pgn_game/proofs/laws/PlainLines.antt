-- No line of tokens that may begin a line is misread.
use Rattle.pgn_game.proofs.Common.{◌≡◌, ◌⊎◌, ℕ, List, [], ◌∷◌, ◌++◌, refl, sym, ap, ◌∙◌, subst, inl}
use Rattle.pgn_game.proofs.Common.{inr, append_assoc, append-nil, arith, codes, State, event_line}
use Rattle.pgn_game.proofs.Common.{IsResult, Item, AreMovetextTokens, IsMisread, joined, tokens_of}
use Rattle.pgn_game.proofs.Common.{text_of, AreLines, IsLaid, Style}
use Rattle.pgn_game.specs.Public.Laws.{BeginsLine, NoLineIsMisread}
use Rattle.pgn_game.proofs.PlainTokens.{AllOf, IsInk, IsSolid, MayBegin, AllMayBegin, MayStand}
use Rattle.pgn_game.proofs.PlainTokens.{AllMayStand, may_both, all_append, all_front, all_back}
use Rattle.pgn_game.proofs.PlainTokens.{movetext_may}

-- a byte between tokens or after the last one of a line
abbrev pub IsBetween : ℕ → Type 0
IsBetween b = (b ≡ 10) ⊎ (b ≡ 32)

no_ink : (b : ℕ) → IsBetween b → IsInk b → ⊥
no_ink b (inl is) solid = solid.0 is
no_ink b (inr is) solid = solid.1 is

-- two words up to such a byte are the same
pub same_word : (token word : List ℕ) (b c : ℕ) (x y : List ℕ) → IsSolid token → IsSolid word
    → IsBetween b → IsBetween c → token ++ b ∷ x ≡ word ++ c ∷ y → token ≡ word
same_word [] [] b c x y solid other between ends is = refl
same_word [] (d ∷ word) b c x y solid other between ends is = let first : b ≡ d = cc in
    absurd (no_ink b between (subst IsInk (sym first) other.0))
same_word (d ∷ token) [] b c x y solid other between ends is = let first : d ≡ c = cc in
    absurd (no_ink c ends (subst IsInk first solid.0))
same_word (d ∷ token) (e ∷ word) b c x y solid other between ends is =
    let first : d ≡ e = cc in
    let rest : token ++ b ∷ x ≡ word ++ c ∷ y = cc in
    let more : token ≡ word = same_word token word b c x y solid.1 other.1 between ends rest in
    cc

event_solid : IsSolid (codes "[Event")
event_solid = (
  (omega arith, omega arith),
  (
    (omega arith, omega arith),
    (
      (omega arith, omega arith),
      (
        (omega arith, omega arith),
        ((omega arith, omega arith), ((omega arith, omega arith), record {})),
      ),
    ),
  ),
)

first_read : (token : List ℕ) (b : ℕ) (rest : List ℕ) → MayBegin token → IsBetween b
    → IsMisread (token ++ b ∷ rest) → ⊥
first_read token b rest may between (more, inl escape) = by token may escape
  where
    by : (bytes : List ℕ) → MayBegin bytes → bytes ++ b ∷ rest ≡ 37 ∷ more → ⊥
    by [] a is = let first : b ≡ 37 = cc in
        no_ink b between (subst IsInk (sym first) (omega arith, omega arith))
    by (c ∷ bytes) a is = let first : c ≡ 37 = cc in a.no_escape bytes (ap (λ n. n ∷ bytes) first)
first_read token b rest may between (more, inr event) =
    may.no_event (same_word token (codes "[Event") b 32 rest (34
    ∷ more) may.solid event_solid between (inr refl) event)

line_read : (token : List ℕ) (line : List (List ℕ)) (rest : List ℕ) → MayBegin token
    → IsMisread (joined (token ∷ line) ++ 10 ∷ rest) → ⊥
line_read token [] rest may read = first_read token 10 rest may (inl refl) read
line_read token (next ∷ line) rest may read =
    first_read token 32 (joined (next ∷ line) ++ 10
    ∷ rest) may (inr refl)
    (subst IsMisread (append_assoc token (32 ∷ joined (next ∷ line)) (10 ∷ rest)) read)

-- no line feed stands within a line
abbrev pub HasNoFeed : List ℕ → Type 0
HasNoFeed bytes = AllOf (λ b. b ≡ 10 → ⊥) bytes

pub solid_feed : (bytes : List ℕ) → IsSolid bytes → HasNoFeed bytes
solid_feed [] solid = solid
solid_feed (b ∷ bytes) solid = (solid.0.0, solid_feed bytes solid.1)

joined_feed : (line : List (List ℕ)) → AllMayBegin line → HasNoFeed (joined line)
joined_feed [] all = record {}
joined_feed (token ∷ []) all = solid_feed token all.0.solid
joined_feed (token ∷ next ∷ line) all =
    all_append (λ b. b ≡ 10 → ⊥) token (32
    ∷ joined (next ∷ line)) (solid_feed token all.0.solid) (
      (λ is. omega arith),
      joined_feed (next ∷ line) all.1,
    )

-- so a line feed stands after it or further on
pub after_feed : (line before rest more : List ℕ) → HasNoFeed line
    → line ++ 10 ∷ more ≡ before ++ 10 ∷ rest → BeginsLine more rest
after_feed [] [] rest more none is = inl (cc)
after_feed [] (c ∷ before) rest more none is = inr (before, cc)
after_feed (b ∷ line) [] rest more none is = let first : b ≡ 10 = cc in absurd (none.0 first)
after_feed (b ∷ line) (c ∷ before) rest more none is =
    let tail : line ++ 10 ∷ more ≡ before ++ 10 ∷ rest = cc in
    after_feed line before rest more none.1 tail

-- a text none of whose lines is misread
abbrev pub IsRight : List ℕ → Type 0
IsRight text = (rest : List ℕ) → BeginsLine text rest → IsMisread rest → ⊥

-- a text after a line feed, and one after a line that is not misread
nothing_right : IsRight []
nothing_right rest (inl is) (more, inl escape) = let none : [] ≡ 37 ∷ more = is ∙ escape in
    absurd (cc)
nothing_right rest (inl is) (more, inr event) = let none : [] ≡ event_line ++ more = is ∙ event in
    absurd (cc)
nothing_right rest (inr ([], is)) read = absurd (cc)
nothing_right rest (inr (b ∷ before, is)) read = absurd (cc)

pub line_right : (line more : List ℕ) → HasNoFeed line → (IsMisread (line ++ 10 ∷ more) → ⊥)
    → IsRight more → IsRight (line ++ 10 ∷ more)
line_right line more none first later rest (inl is) read = first (subst IsMisread (sym is) read)
line_right line more none first later rest (inr (before, is)) read =
    later rest (after_feed line before rest more none is) read

no_feed_read : (more : List ℕ) → IsMisread (10 ∷ more) → ⊥
no_feed_read more (other, inl escape) = absurd (cc)
no_feed_read more (other, inr event) = absurd (cc)

pub feed_right : (more : List ℕ) → IsRight more → IsRight (10 ∷ more)
feed_right more later = line_right [] more (record {}) (no_feed_read more) later

-- a line of tokens is words with one space between each two
may_line : (token : List ℕ) (line : List (List ℕ)) → AllMayStand (token ∷ line)
    → MayStand (joined (token ∷ line))
may_line token [] all = all.0
may_line token (next ∷ line) all =
    may_both token (joined (next ∷ line)) all.0 (may_line next line all.1)

-- the lines of tokens, and what stands after them
pub lines_right : (width : ℕ) (lines : List (List (List ℕ))) (tail : List ℕ) → AreLines width lines
    → AllMayStand (tokens_of lines) → IsRight tail → IsRight (text_of lines ++ tail)
lines_right width [] tail are all right = right
lines_right width ([] ∷ lines) tail are all right = absurd are.0
lines_right width ((token ∷ line) ∷ lines) tail are all right =
    subst IsRight (sym (append_assoc (joined (token ∷ line) ++ 10 ∷ []) (text_of lines) tail
    ∙ append_assoc (joined (token ∷ line)) (10 ∷ []) (text_of lines ++ tail)))
    (line_right (joined (token ∷ line)) (text_of lines
    ++ tail) (subst HasNoFeed (sym words.whole)
    (joined_feed (words.first ∷ words.more) words.may))
    (rw words.whole (line_read words.first words.more (text_of lines ++ tail) words.may.0))
    (lines_right width lines tail are.2 (all_back MayStand (token ∷ line) (tokens_of lines) all)
    right))
  where
    own : AllMayStand (token ∷ line)
    own = all_front MayStand (token ∷ line) (tokens_of lines) all

    words : MayStand (joined (token ∷ line))
    words = may_line token line own

-- the movetext, and what stands after it
pub movetext_right : (style : Style) (start : State) (items : List Item) (result : List ℕ)
    (tokens : List (List ℕ)) (width : ℕ) (movetext tail : List ℕ) → IsResult result
    → AreMovetextTokens style start items result tokens → IsLaid width tokens movetext
    → IsRight tail → IsRight (movetext ++ tail)
movetext_right style start items result tokens width movetext tail ends are laid right =
    rw laid.spells (lines_right width laid.lines tail laid.are_lines (subst AllMayStand (sym
    laid.all) (movetext_may style start items result tokens ends are)) right)

pub no_line_misread : NoLineIsMisread
no_line_misread style start items result tokens width movetext rest ends are laid begins read =
    subst IsRight (append-nil movetext)
    (movetext_right style start items result tokens width movetext [] ends are laid
    nothing_right) rest begins read

pub feed_alone : IsRight (10 ∷ [])
feed_alone = feed_right [] nothing_right
