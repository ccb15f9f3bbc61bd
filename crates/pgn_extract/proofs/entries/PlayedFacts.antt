-- A line that is played stands at a position of the game, and goes on by a move.
use Rattle.std.specs.Prelude.{codes, decimal}
use Rattle.pgn_extract.proofs.Common.{◌≡◌, ◌+◌, ℕ, List, [], ◌∷◌, ◌++◌, length, Option, None, true}
use Rattle.pgn_extract.proofs.Common.{false, Bool, refl, sym, ap, ◌∙◌, subst, append_assoc}
use Rattle.pgn_extract.proofs.Common.{length-append, inr, arith, Some, State, Move}
use Rattle.pgn_extract.proofs.Common.{GameText, tag_in, Item, IsMainLine, main_words, Replay}
use Rattle.pgn_extract.proofs.Common.{fen_tag, Main, heading_of, SomeHold, Conditions}
use Rattle.pgn_extract.proofs.Common.{Aim, Heading, IsMet, MeetsHere, Stands, GoesTo, IsTrue}
use Rattle.pgn_extract.proofs.Common.{◌↔◌, slice_get_within}
use Rattle.pgn_extract.proofs.Common.{NoneAfter, Where, HasFault, IsNeverMet, Fails}
use Rattle.pgn_extract.proofs.Common.{aim_with, IsNextMove}
use Rattle.pgn_extract.proofs.Common.{slice_get, MatchOption, IsSan, one_start, false≢true}
use Rattle.pgn_game.specs.Public.Faults.{Fault, IsMoveFault, IsFault}
use Rattle.pgn_game.specs.Public.PlayedLines.{PlayedLine, PlaysWord, HasEnded, HasAdvanced, IsBegun}
use Rattle.pgn_game.specs.Public.PlayedLines.{IsNextText}
use Rattle.pgn_game.specs.Public.Replays.{IsSomeReplay, IsSoundGame}
use Rattle.pgn_criteria.specs.Shared.PlayedTo.{IsPlayedTo, GoesOnWith}
use Rattle.pgn_criteria.proofs.PlayedFacts.{played_none, played_on, played_all}
use Rattle.pgn_extract.specs.Private.Finding.{StopsInLine}
use Rattle.pgn_extract.specs.declared.entries.finding.Finder.{Finder}
use Rattle.pgn_extract.specs.Private.PlayedLines.{AsksOf, IsPlayedWith, NoneFrom, TellsAt}
use Rattle.pgn_extract.proofs.Finds.{at_seam}
use Rattle.pgn_extract.proofs.entries.PlainTexts.{move_value}
use Rattle.pgn_extract.specs.Private.Finding.{IsNextValue}
use Rattle.pgn_extract.specs.Private.Lines.{ShowsValue}
use Rattle.pgn_extract.specs.Public.Rows.{IsPositionCell}
use Rattle.pgn_extract.specs.declared.rows.column.PlyColumn.{PlyColumn}
use Rattle.pgn_extract.specs.declared.rows.column.PlyColumn.TheVariants.{Ply, OfPosition, Next}
use Rattle.pgn_extract.specs.declared.rows.column.PositionColumn.{PositionColumn}
use Rattle.pgn_extract.proofs.PackedFacts.{line_begins}
use Rattle.pgn_game.proofs.OneReplay.{one_move}

-- the first move that is left of a line is the one that its next word names
next_left : (P : State) (words : List (List ℕ)) (later : List State) (more : List Move)
    (text : List ℕ) → IsMainLine P words later more
    → IsNextText P words text → IsNextMove later more 0 text
next_left P [] later more text line is =
    subst (λ (ms : List Move). IsNextMove later ms 0 text) (sym line.1) is
next_left P (word ∷ words) later more text (m, rest, others, later_is, more_is, named, line)
    (own, also, spells) =
    subst (λ (ms : List Move). IsNextMove later ms 0 text) (sym more_is) (
      P,
      ap (λ ps. slice_get ps 0) later_is,
      subst (λ k. IsSan P k text) (one_move P word own m also named) spells,
    )

pub at_end : {A : Type 0} (before more : List A)
    → slice_get (before ++ more) (length before) ≡ slice_get more 0
at_end [] more = refl
at_end (first ∷ before) more = at_end before more

-- after so many positions and moves it is the move at their ply
next_after : (before later : List State) (played more : List Move) (text : List ℕ)
    → length played ≡ length before → IsNextMove later more 0 text
    → IsNextMove (before ++ later) (played ++ more) (length before) text
next_after before later played more text same is =
    let move : slice_get (played ++ more) (length before) ≡ slice_get more 0 =
    ap (λ n. slice_get (played ++ more) n) (sym same) ∙ at_end played more in
    let of : Option Move → Option State → Type 0 =
    λ a b. MatchOption a (text ≡ codes "-") (λ m. (position : State) × (b ≡ Some position)
    × IsSan position m text) in
    subst (λ a. of a (slice_get (before ++ later) (length before))) (sym move)
    (subst (λ b. of (slice_get more 0) b) (sym (at_end before later)) is)

-- a replay of the game goes on with what is left of the line
pub left_of : {fen : Option (List ℕ)} {items : List Item} {line : PlayedLine} {before : List State}
    {played : List Move} → IsPlayedTo fen items line before played
    → (replay : Replay) → IsSomeReplay fen items replay
    → GoesOnWith line before played replay.positions replay.played
left_of {fen} {items} to replay (lines, is) =
    to.parts replay.positions replay.played
    (subst (λ s. IsMainLine s (main_words items 0) replay.positions replay.played)
    (one_start fen is.start to.start is.is_start to.is_start) is.line)

next_text_there : {fen : Option (List ℕ)} {items : List Item} {line : PlayedLine}
    {before : List State} {played : List Move}
    → IsPlayedTo fen items line before played → (replay : Replay) → IsSomeReplay fen items replay
    → (text : List ℕ) → IsNextText line.position line.words text
    → IsNextMove replay.positions replay.played (length before) text
next_text_there {line = line} {before = before} {played = played} to replay own text of =
    let left = left_of to replay own in
    let here : IsNextMove (before ++ left.0) (played ++ left.1) (length before) text =
    next_after before left.0 played left.1 text (to.moves
    ∙ sym to.count) (next_left line.position line.words left.0 left.1 text left.2 of) in
    subst (λ (ms : List Move). IsNextMove replay.positions ms (length before) text) (sym left.4)
    (subst (λ (ps : List State). IsNextMove ps (played ++ left.1) (length before) text)
    (sym left.3) here)

-- each replay of the game has the positions up to the one that is reached
pub stands_there : (game : GameText) (line : PlayedLine) (before : List State) (played : List Move)
    → IsPlayedTo (tag_in fen_tag game.tags) game.elements line before played
    → Stands game before line.position
stands_there game line before played to replay own =
    let left = left_of to replay own in
    let (rest, begins) = line_begins line.position line.words left.0 left.1 left.2 in
    (rest, left.3 ∙ ap (λ ps. before ++ ps) begins)

-- at its start
pub begins_with : (known : Bool) (game : GameText) (line : PlayedLine)
    (Asks : Option (List Conditions) → GameText → Type 0)
    (aim : Aim) → (known ≡ true → IsSoundGame Main (tag_in fen_tag game.tags) game.elements)
    → IsBegun (tag_in fen_tag game.tags) game.elements line → Asks aim.criteria game
    → IsPlayedWith known line Asks aim game [] line.position
begins_with known game line Asks aim sound begun asks =
    let to = played_none begun in
    record {
      sound = sound;
      asks = asks;
      here = refl;
      played = [];
      to = to;
      stands = stands_there game line [] [] to;
    }

-- the fault that is met where the line stands is that of the game
pub fails_there : (game : GameText) (line : PlayedLine) (before : List State) (played : List Move)
    → IsPlayedTo (tag_in fen_tag game.tags) game.elements line before played → (fault : Fault)
    → IsMoveFault line.position line.plies line.words fault
    → IsFault Main (tag_in fen_tag game.tags) game.elements fault
fails_there game line before played to fault met = inr (to.start, to.is_start, to.faults fault met)

module _ (known : Bool)
    (Asks : Option (List Conditions) → GameText → Type 0)
    (old new : PlayedLine) (on : Bool) (aim : Aim)
    (game : GameText) (before : List State) where
  abbrev With : PlayedLine → Aim → GameText → List State → State → Type 0
  With line other some passed P = IsPlayedWith known line Asks other some passed P

  -- after one more move
  pub plays_on : PlaysWord old new → (P : State) → With old aim game before P
      → GoesTo (With new) on true aim game before P
  plays_on word P at =
      let to = played_on at.to word in
      let here : before ++ old.position ∷ [] ≡ before ++ P ∷ [] =
      ap (λ (Q : State). before ++ Q ∷ []) (sym at.here) in (
        [],
        new.position,
        subst (λ ps. With new aim game ps new.position) here (record {
          sound = at.sound;
          asks = at.asks;
          here = refl;
          played = at.played ++ word.m ∷ [];
          to = to;
          stands = stands_there game new (before ++ old.position ∷ []) (at.played ++ word.m
              ∷ []) to;
        }),
        λ replay own rest is n low high. absurd (omega (arith, low, high)),
      )

  -- after the last
  pub ends_there : HasEnded old new → (P : State) → With old aim game before P
      → GoesTo (With new) on false aim game before P
  ends_there ended P at =
      let is = played_all at.to ended.words in (
        (record { positions = before ++ old.position ∷ []; played = at.played; turns = [] }, is),
        λ is_on. none,
      )
    where
      none : NoneAfter aim game before P
      none replay own rest is n low within wanted =
          let left = left_of at.to replay own in
          let last : left.0 ≡ old.position ∷ [] =
          (subst (λ ws. IsMainLine old.position ws left.0 left.1) ended.words left.2).0 in
          let size : length replay.positions ≡ length before + 1 =
          ap length (left.3 ∙ ap (λ ps. before ++ ps) last)
          ∙ length-append before (old.position ∷ []) in
          absurd (omega (arith, size, low, within))

-- what a column shows where the line stands is what it shows of its ply
abbrev pub ShowsThere : Bool → PlayedLine → (Option (List Conditions) → GameText → Type 0)
    → PlyColumn → List ℕ → Type 0
ShowsThere known line Asks column value =
    Where (λ aim game before P. IsPlayedWith known line Asks aim game before P)
    (ShowsValue column value)

pub shows_ply : {known : Bool} (line : PlayedLine)
    (Asks : Option (List Conditions) → GameText → Type 0) (value : List ℕ)
    → value ≡ decimal line.plies → ShowsThere known line Asks Ply value
shows_ply line Asks value is aim game before P at rows replay own rest parts =
    is ∙ ap decimal (sym at.to.count)

pub shows_position : {known : Bool} (line : PlayedLine)
    (Asks : Option (List Conditions) → GameText → Type 0)
    (own : PositionColumn) (value : List ℕ) → IsPositionCell own line.position value
    → ShowsThere known line Asks (OfPosition own) value
shows_position line Asks own value is aim game before P at rows replay of rest parts = (
  P,
  ap (λ ps. slice_get ps (length before)) parts ∙ at_seam before P rest,
  subst (λ Q. IsPositionCell own Q value) (sym at.here) is,
)

pub shows_next : {known : Bool} (line : PlayedLine)
    (Asks : Option (List Conditions) → GameText → Type 0) (value : List ℕ)
    → IsNextValue line value → ShowsThere known line Asks Next value
shows_next line Asks value (text, is, left) aim game before P at rows replay own rest parts =
    move_value replay (length before) text value
    (next_text_there at.to replay own text is) left

-- so is the fault of its next move, where something is added already
pub fails_at : {known : Bool} (line : PlayedLine)
    (Asks : Option (List Conditions) → GameText → Type 0)
    (old some mid new : List ℕ) → mid ≡ old ++ some → (fault : Fault)
    → StopsInLine line mid new fault
    → Where (λ aim game before P. IsPlayedWith known line Asks aim game before P) (HasFault fault)
    × (more : List ℕ) × (new ≡ old ++ more)
fails_at line Asks old some mid new added fault (met, more, is) = (
  λ aim game before P at. fails_there game line before at.played at.to fault met,
  some ++ more,
  is ∙ ap (λ t. t ++ more) added ∙ append_assoc old some more,
)

-- the line that went on, or has ended
pub moves_on : {known : Bool}
    (Asks : Option (List Conditions) → GameText → Type 0) (old new : PlayedLine) (on more : Bool)
    → HasAdvanced old new more
    → Where (λ aim game before P. IsPlayedWith known old Asks aim game before P)
    (GoesTo (λ aim game before P. IsPlayedWith known new Asks aim game before P) on more)
moves_on {known} Asks old new on true word aim game before P at =
    plays_on known Asks old new on aim game before word P at
moves_on {known} Asks old new on false ended aim game before P at =
    ends_there known Asks old new on aim game before ended P at

-- a line that is known to be sound, once no more is looked for
pub ends_known : {known : Bool}
    (Asks : Option (List Conditions) → GameText → Type 0) (line : PlayedLine) (on : Bool)
    → known ≡ true → on ≡ false
    → Where (λ aim game before P. IsPlayedWith known line Asks aim game before P)
    (GoesTo (λ aim game before P. IsPlayedWith known line Asks aim game before P) on false)
ends_known Asks line on is off aim game before P at =
    (at.sound is, λ is_on. absurd (false≢true (sym off ∙ is_on)))

pub fails_moved : {known : Bool} (line : PlayedLine)
    (Asks : Option (List Conditions) → GameText → Type 0) (fault : Fault)
    → IsMoveFault line.position line.plies line.words fault
    → Where (λ aim game before P. IsPlayedWith known line Asks aim game before P) (HasFault fault)
fails_moved line Asks fault met aim game before P at =
    fails_there game line before at.played at.to fault met

-- so does one of which no more is met
pub ends_met : {known : Bool} (Asks : Option (List Conditions) → GameText → Type 0)
    (line : PlayedLine) (on : Bool) → known ≡ true
    → ((criteria : Option (List Conditions)) (game : GameText) → Asks criteria game
    → NoneFrom line.plies criteria game)
    → Where (λ aim game before P. IsPlayedWith known line Asks aim game before P)
    (GoesTo (λ aim game before P. IsPlayedWith known line Asks aim game before P) on false)
ends_met Asks line on is none aim game before P at = (
  at.sound is,
  λ is_on replay own rest parts n low within wanted.
      let count = at.to.count in
      none aim.criteria game at.asks replay own n within (omega (arith, low, count)) wanted.2,
)

-- where nothing is met from the start on, nothing is
pub never_met : {known : Bool} (line : PlayedLine)
    (Asks : Option (List Conditions) → GameText → Type 0)
    → ((criteria : Option (List Conditions)) (game : GameText) → Asks criteria game
    → NoneFrom 0 criteria game)
    → Where (λ aim game before P. IsPlayedWith known line Asks aim game before P) IsNeverMet
never_met line Asks none aim game before P at replay own rest is n low within met =
    none aim.criteria game at.asks replay own n within (omega arith) met

-- what is told of the position that is reached is so of its ply
pub met_played : {known : Bool} (line : PlayedLine)
    (Asks : Option (List Conditions) → GameText → Type 0) (r : Bool)
    → ((criteria : Option (List Conditions)) (game : GameText) → Asks criteria game
    → TellsAt r line.plies line.position criteria game)
    → Where (λ aim game before P. IsPlayedWith known line Asks aim game before P) (MeetsHere r)
met_played line Asks r tells aim game before P at replay own rest parts =
    let here : slice_get replay.positions (length before) ≡ Some line.position =
    ap (λ ps. slice_get ps (length before)) parts ∙ at_seam before P rest ∙ ap Some at.here in
    subst (λ n. IsTrue r ↔ IsMet aim.criteria (heading_of game) replay n) (sym at.to.count)
    (tells aim.criteria game at.asks replay own
    (subst (λ n. slice_get replay.positions n ≡ Some line.position) at.to.count here))

-- ---- what is asked

no_hold : (heading : Heading) (replay : Replay) (P : State) (ply : ℕ) (asked : List Conditions)
    → length asked ≡ 0 → SomeHold heading replay ply P asked → ⊥
no_hold heading replay P ply [] empty hold = hold
no_hold heading replay P ply (first ∷ more) empty hold = absurd (omega arith)

-- alternatives of which there is none
pub asks_none : (asked : List Conditions) → length asked ≡ 0 → (least : ℕ)
    (criteria : Option (List Conditions)) (game : GameText) → AsksOf asked criteria game
    → NoneFrom least criteria game
asks_none asked none least criteria game asks replay own ply within up met =
    let meets = (asks replay own ply within).1 met in
    no_hold (heading_of game) replay meets.position ply asked none meets.hold

pub asks_there : (asked : List Conditions) (r : Bool) (ply : ℕ) (P : State)
    → ((heading : Heading) (replay : Replay) (n : ℕ)
    → IsTrue r ↔ SomeHold heading replay n P asked)
    → (criteria : Option (List Conditions)) (game : GameText) → AsksOf asked criteria game
    → TellsAt r ply P criteria game
asks_there asked r ply P reports criteria game asks replay own here =
    let within = slice_get_within replay.positions ply P here in
    let same = asks replay own ply within in
    let says = reports (heading_of game) replay ply in (
      λ t. same.0 (record { position = P; here = here; hold = says.0 t }),
      λ met.
          let meets = same.1 met in
          let one : meets.position ≡ P = let at = meets.here in cc (at, here) in
          says.1 (subst (λ Q. SomeHold (heading_of game) replay ply Q asked) one meets.hold),
    )

-- every position, where there are no criteria
pub all_there : (ply : ℕ) (P : State) (criteria : Option (List Conditions)) (game : GameText)
    → criteria ≡ None → TellsAt true ply P criteria game
all_there ply P criteria game without replay own here = (
  λ t. subst (λ (o : Option (List Conditions)). IsMet o (heading_of game) replay ply)
      (sym without) tt,
  λ met. refl,
)

-- a fault from the start on is that of the game
pub fails_at_start : {known : Bool} (finder : Finder) (game : GameText) (line : PlayedLine)
    (Asks : Option (List Conditions) → GameText → Type 0)
    → IsPlayedWith known line Asks (aim_with finder None None) game [] line.position
    → (Grew : Type 0) (fault : Fault)
    → Fails (λ aim own before P. IsPlayedWith known line Asks aim own before P) finder fault × Grew
    → IsFault Main (tag_in fen_tag game.tags) game.elements fault × Grew
fails_at_start finder game line Asks at Grew fault (fails, grew) =
    (fails None None game line.position at, grew)
