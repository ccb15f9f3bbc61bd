-- A game that begins with a position: its start is the position, since the text of that is read
-- back.
use Rattle.std.specs.Prelude.{Option, Some, None, ◌≤◌, ◌⊎◌}
use Rattle.pgn_game.proofs.Common.{◌≡◌, ℕ, zero, suc, List, [], ◌∷◌, ◌++◌, refl, sym, ap, ◌∙◌}
use Rattle.pgn_game.proofs.Common.{subst, inl, inr, arith, nat_tests, true, length, State, IsFen}
use Rattle.pgn_game.proofs.Common.{IsSound, IsStart, IsContents, Single, Sign, Move, slice_get}
use Rattle.pgn_game.proofs.Common.{IsMainLine, after, same_Some, Fault, IsFault, IfSome, Item}
use Rattle.pgn_game.proofs.Common.{Lines}
use Rattle.pgn_game.proofs.Common.{IsSoundGame, Replay, fen_tag, main_words, take, take_all}
use Rattle.std.proofs.lemmas.Bool.{cases_lt}
use Rattle.chess.proofs.FenReadBack.{fen_reads}
use Rattle.pgn_text.specs.Public.Strings.{HasValue, is_sign}
use Rattle.pgn_text.specs.Public.GameTexts.{GameText, IsGameText, tag_in}
use Rattle.pgn_game.proofs.OneReplay.{line_head, no_fault, one_line, one_move, one_start}
use Rattle.pgn_game.proofs.LaterPlies.{later_replayed, line_sound}
use Rattle.pgn_game.proofs.PlainTokens.{AllOf}
use Rattle.pgn_game.proofs.StartTexts.{IsFenByte, fen_bytes, start_read_back}
use Rattle.pgn_game.specs.Public.Beginnings.{IsGameBeginning}
use Rattle.pgn_game.specs.Public.Edits.{IsEditedBy}
use Rattle.pgn_game.specs.Public.LaterPlies.{IsLater, IsPositionAt, MayBeStart, later_plies}
use Rattle.pgn_game.specs.Public.LaterPlies.{start_tags}

-- ---- the text of the position

-- such bytes are contents of a string, and their own value
own_value : (text : List ℕ) → AllOf IsFenByte text → (signs : List Sign) × HasValue text text signs
own_value [] all = ([], record { spells = refl; each = refl; gives = refl })
own_value (b ∷ text) (own, all) =
    let (signs, has) = own_value text all in
    let low = own.low in let high = own.high in
    let quote = own.quote in let backslash = own.backslash in
    let single : is_sign (Single b) ≡ true = grind (arith, nat_tests) in (
      Single b ∷ signs,
      record {
        spells = ap (λ bytes. b ∷ bytes) has.spells;
        each = rw single has.each;
        gives = ap (λ bytes. b ∷ bytes) has.gives;
      },
    )

pub fen_contents : (P : State) (fen : List ℕ) → IsSound P → IsFen P fen → IsContents fen
fen_contents P fen sound is =
    let (signs, has) = own_value fen (fen_bytes P fen sound is) in (signs, has.spells, has.each)

pub starts_there : (P : State) (fen : List ℕ) → IsSound P → MayBeStart P → IsFen P fen
    → IsStart (Some fen) P
starts_there P fen sound may is =
    (fen, own_value fen (fen_bytes P fen sound is), fen_reads P fen sound may.clock may.number is)

-- ---- the last position of a beginning

-- where the whole line has a position after so many plies, it is the last of the first plies
pub last_position : (first rest : List (List ℕ)) (now : State) (positions others : List State)
    (played moves : List Move) (most : ℕ) (P : State)
    → IsMainLine now first positions played → IsMainLine now (first ++ rest) others moves
    → length played ≤ most → (rest ≡ []) ⊎ (most ≤ length played)
    → slice_get others most ≡ Some P → slice_get positions (length played) ≡ Some P
last_position [] rest now positions others played moves most P line whole few far here =
    let none : length played ≡ 0 = ap length line.1 in
    let zero_ply : most ≡ 0 = at_start far in
    ap (slice_get positions) none ∙ line_head now [] positions played line
    ∙ sym (line_head now rest others moves whole)
    ∙ ap (slice_get others) (sym zero_ply) ∙ here
  where
    no_later : (ply : ℕ) → rest ≡ [] → slice_get others ply ≡ Some P → ply ≡ 0
    no_later zero ended there = refl
    no_later (suc ply) ended there =
        let own : IsMainLine now [] others moves =
        subst (λ ws. IsMainLine now ws others moves) ended whole in
        let empty : None ≡ Some P = sym (ap (λ ps. slice_get ps (suc ply)) own.0) ∙ there in
        absurd (cc)

    at_start : (rest ≡ []) ⊎ (most ≤ length played) → most ≡ 0
    at_start (inl ended) = no_later most ended here
    at_start (inr long) =
        let none : length played ≡ 0 = ap length line.1 in omega (arith, long, none)
last_position (word ∷ first) rest now positions others played moves zero P
    (m, ps, ms, ps_is, ms_is, named, line) whole few far here =
    let count : length played ≡ suc (length ms) = ap length ms_is in
    absurd (omega (arith, few, count))
last_position (word ∷ first) rest now positions others played moves (suc most) P
    (m, ps, ms, ps_is, ms_is, named, line) (n, qs, ns, qs_is, ns_is, named2, whole) few far here =
    let same : n ≡ m = one_move now word n m named2 named in
    let count : length played ≡ suc (length ms) = ap length ms_is in
    let farther : (rest ≡ []) ⊎ (most ≤ length ms) =
    elim far [ inl none ↦ inl none | inr long ↦ inr (omega (arith, long, count)) ] in
    ap (slice_get positions) count ∙ ap (λ xs. slice_get xs (suc (length ms))) ps_is
    ∙ last_position first rest (after now m) ps qs ms ns most P line
    (subst (λ k. IsMainLine (after now k) (first ++ rest) qs ns) same whole)
    (omega (arith, few, count)) farther
    (sym (ap (λ xs. slice_get xs (suc most)) qs_is) ∙ here)

-- so it is the position that stands there in the game
pub position_there : (game : GameText) (ply plies : ℕ) (P now : State) (beginning : Replay)
    → IsPositionAt game ply P
    → IsGameBeginning (tag_in fen_tag game.tags) game.elements ply beginning
    → plies ≡ length beginning.played → slice_get beginning.positions plies ≡ Some now
    → IsPositionAt game ply now
position_there game ply plies P now beginning (replay, whole, here) is count there =
    let start : whole.start ≡ is.start =
    one_start (tag_in fen_tag game.tags) whole.start is.start whole.is_start is.is_start in
    let line : IsMainLine is.start (is.line.first ++ is.line.rest) replay.positions replay.played =
    subst (λ ws. IsMainLine is.start ws replay.positions replay.played) is.line.parted
    (subst (λ s. IsMainLine s (main_words game.elements 0) replay.positions replay.played) start
    whole.line) in
    let last =
    last_position is.line.first is.line.rest is.start beginning.positions replay.positions
    beginning.played replay.played ply P is.line.line line is.line.few is.line.far here in
    let same : P ≡ now =
    same_Some P now (sym last ∙ ap (slice_get beginning.positions) (sym count) ∙ there) in
    (replay, whole, here ∙ ap (λ s. Some s) same)

-- ---- the game from there on

-- nothing but memory stands in the way of a sound game
pub no_reason : (lines : Lines) (fen : Option (List ℕ)) (items : List Item) (fault : Option Fault)
    → IsSoundGame lines fen items → IfSome fault (IsFault lines fen items) → fault ≡ None
no_reason lines fen items None sound is = refl
no_reason lines fen items (Some fault) sound is = absurd (no_fault lines fen items fault sound is)

-- it stays as it is
pub game_stays : (game other : GameText) (ply count : ℕ) (P : State) → IsPositionAt game ply P
    → ((1 ≤ ply) × MayBeStart P → ⊥) → length game.elements ≤ count
    → other ≡ record game { elements = take count game.elements } → IsLater ply game other
game_stays game other ply count P at none within is = (
  P,
  at,
  (
    (λ may. absurd (none may)),
    (λ _. is ∙ ap (λ items. record game { elements = items })
        (take_all count game.elements within)),
  ),
)

-- or it begins there
pub game_begins : (game other : GameText) (ply : ℕ) (P : State) (fen text : List ℕ)
    (items : List Item) → IsPositionAt game ply P → (1 ≤ ply) × MayBeStart P → IsFen P fen
    → text ≡ fen → items ≡ later_plies ply 0 game.elements → IsGameText other
    → IsEditedBy (start_tags text) (record game { elements = items }) other
    → IsLater ply game other
game_begins game other ply P fen text items at may is_fen same later good is = (
  P,
  at,
  (
    (λ _. (
      good,
      (
        fen,
        is_fen,
        subst (λ own. IsEditedBy (start_tags fen) (record game { elements = own }) other) later
            (subst (λ own. IsEditedBy (start_tags own) (record game { elements = items }) other)
            same is),
      ),
    )),
    (λ none. absurd (none may)),
  ),
)

-- ---- it is sound where the game is

pub may_or_not : (ply : ℕ) (P : State)
    → ((1 ≤ ply) × MayBeStart P) ⊎ ((1 ≤ ply) × MayBeStart P → ⊥)
may_or_not ply P = elim (cases_lt ply 1) [
  | inl none ↦ inr (λ may. omega (arith, none, may.0))
  | inr some ↦ elim (cases_lt 9999999 P.halfmove_clock) [
    | inl long ↦ inr (λ may. let short = may.1.clock in omega (arith, long, short))
    | inr clock ↦ elim (cases_lt 9999999 P.fullmove_number) [
      | inl late ↦ inr (λ may. let early = may.1.number in omega (arith, late, early))
      | inr number ↦ inl (some, record { clock = clock; number = number })
    ]
  ]
]

pub later_sound : (lines : Lines) (ply : ℕ) (game own : GameText)
    → IsSoundGame lines (tag_in fen_tag game.tags) game.elements → IsLater ply game own
    → IsSoundGame lines (tag_in fen_tag own.tags) own.elements
later_sound lines ply game own (replay, is) (P, (other, also, here), from) =
    elim (may_or_not ply P) [
      | inr none ↦ subst (λ (g : GameText). IsSoundGame lines (tag_in fen_tag g.tags) g.elements)
          (sym (from.1 none)) (replay, is)
      | inl may ↦
          let (good, begun) = from.0 may in
          let (fen, is_fen, edited) = begun in
          let start : also.start ≡ is.start =
          one_start (tag_in fen_tag game.tags) also.start is.start also.is_start is.is_start in
          let words = main_words game.elements 0 in
          let same =
          one_line is.start words replay.positions other.positions replay.played other.played
          is.line (subst (λ s. IsMainLine s words other.positions other.played) start also.line) in
          let there : slice_get replay.positions ply ≡ Some P =
          ap (λ ps. slice_get ps ply) same.0 ∙ here in
          let starts = start_read_back (tag_in fen_tag game.tags) is.start is.is_start in
          let sound =
          line_sound words is.start replay.positions replay.played starts.sound is.line ply P there
          in
          let (rest, replayed, _, _) =
          later_replayed lines (tag_in fen_tag game.tags) (Some fen) game.elements replay ply P is
          there (starts_there P fen sound may.1 is_fen) in
          rw (edited.tags fen_tag, edited.elements) (rest, replayed)
    ]
