-- A packed game is walked from position to position, by the codes of its plies or by their marks.
use Rattle.std.specs.Prelude.{◌==◌, ◌/◌, ◌%◌}
use Rattle.std.specs.List.{slice_get, flat_map, AllByRecursion}
use Rattle.pgn_extract.proofs.Common.{◌≡◌, ◌↔◌, ℕ, ◌+◌, ◌<◌, ◌≤◌, Bool, true, false, inl, inr, List}
use Rattle.pgn_extract.proofs.Common.{[], ◌∷◌, ◌++◌, length, Some, IsTrue, refl, sym, ap, ◌∙◌}
use Rattle.pgn_extract.proofs.Common.{subst, append_assoc, length-append, arith, cases_lt}
use Rattle.pgn_extract.proofs.Common.{same_Some, after, State, Side, Move, GameText, main_words}
use Rattle.pgn_extract.proofs.Common.{IsMainLine, RawRecord, raw_of, PackedGame, PlyCode, AreCodes}
use Rattle.pgn_extract.proofs.Common.{AreMarks, Replay, Main, same_first, same_rest, head_shows}
use Rattle.pgn_extract.proofs.Common.{has_marks, NoneMeets, IsNextMet, Conditions, heading_of}
use Rattle.pgn_extract.proofs.Common.{SomeHold, MeetsSeen, NowhereSeen, codes_in, Sight, IsSightOf}
use Rattle.pgn_extract.proofs.Common.{Aim, IsMet, IsWanted, IsOfGame, AsksFor}
use Rattle.pgn_extract.proofs.Common.{GoesTo, MeetsHere, NoneAfter, IsOfRecord}
use Rattle.pgn_extract.proofs.Common.{EachOfRecord, NoneInRecord, record_aim, IsWalkedWith}
use Rattle.chess.specs.Public.Moves.{IsPseudoLegal}
use Rattle.chess.specs.Public.Placements.{opposite}
use Rattle.pgn_game.specs.Public.PlyCodes.{FitsCode, IsCode, code_bytes}
use Rattle.pgn_game.proofs.Cells.{no_cell}
use Rattle.pgn_game.proofs.PlyCodeFacts.{code_again}
use Rattle.pgn_criteria.specs.Public.Prefilters.{IsPlayedBy}
use Rattle.pgn_criteria.specs.Public.Walks.{stepped}
use Rattle.pgn_criteria.proofs.WalkFacts.{step_shows_next_position}
use Rattle.pgn_extract.specs.Private.Packed.{StartsWith, StartsThere, StandsInRecord}
use Rattle.pgn_extract.specs.Private.WalkedLines.{IsWalkedTo, IsMarkedWith, AreMetWith}
use Rattle.pgn_extract.specs.Private.Lines.{is_bare}
use Rattle.pgn_extract.specs.Private.Lines.{ShowsValue}
use Rattle.pgn_extract.specs.declared.rows.column.PlyColumn.{PlyColumn}
use Rattle.pgn_extract.proofs.Common.{false≢true, line_legal, line_positions}
use Rattle.pgn_extract.proofs.Finds.{at_seam, seam_within, none_yet, not_wanted}
use Rattle.pgn_extract.proofs.OneMain.{one_main, stands_main}
use Rattle.pgn_extract.proofs.PackedFacts.{begins, first_is, kept_start, line_begins}

-- ---- codes

-- the bytes of codes spell these codes
pub codes_again : (cs : List PlyCode) → AllByRecursion FitsCode cs
    → codes_in (flat_map code_bytes cs) ≡ cs
codes_again [] fits = refl
codes_again (c ∷ cs) fits =
    ap (λ (d : PlyCode). d ∷ codes_in (flat_map code_bytes cs)) (code_again c fits.0)
    ∙ ap (λ (ds : List PlyCode). c ∷ ds) (codes_again cs fits.1)

-- fewer are left after the next ply that is met
pub next_shorter : (set : ℕ) (codes : List PlyCode) (turn side : Side) (left : List PlyCode)
    → IsNextMet set turn codes side left → length left < length codes
next_shorter set [] turn side left next = absurd next
next_shorter set (c ∷ codes) turn side left next = elim next [
  | inl here ↦ let same = ap length here.2 in omega (arith, same)
  | inr there ↦ let less = next_shorter set codes (opposite turn) side left there.1 in
      omega (arith, less)
]

-- one more ply of the line
pub record IsNextPly (here : State) (later : List State) (c : PlyCode) (more : List PlyCode) : Type
    0 where
  pub m : Move
  pub legal : IsPseudoLegal here m
  pub code : IsCode here m c
  pub rest : List State
  pub words : List (List ℕ)
  pub moves : List Move
  pub parts : later ≡ after here m ∷ rest
  pub line : IsMainLine (after here m) words (after here m ∷ rest) moves
  pub codes : AreCodes (after here m) moves more

pub next_ply : (here : State) (later : List State) (words : List (List ℕ)) (moves : List Move)
    (c : PlyCode) (more : List PlyCode) → IsMainLine here words (here ∷ later) moves
    → AreCodes here moves (c ∷ more) → IsNextPly here later c more
next_ply here later words [] c more line codes = absurd (no_cell c more (sym codes))
next_ply here later [] (m ∷ moves) c more line codes = absurd (no_cell m moves (sym line.1))
next_ply here later (word ∷ words) (m ∷ moves) c more
    (n, rest, others, positions_is, moves_is, named, line) (d, left, codes_is, code, are) =
    let same : n ≡ m = sym (same_first m n moves others moves_is) in
    let front = line_begins (after here n) words rest others line in
    let stays : later ≡ after here n ∷ front.0 =
    same_rest here here later rest positions_is ∙ front.1 in
    record {
      m = m;
      legal = subst (λ (k : Move). IsPseudoLegal here k) same named.named.legal.pseudo_legal;
      code = subst (λ (e : PlyCode).
          IsCode here m e) (sym (same_first c d more left codes_is)) code;
      rest = front.0;
      words = words;
      moves = others;
      parts = stays ∙ ap (λ (k : Move). after here k ∷ front.0) same;
      line = subst (λ (k : Move). IsMainLine (after here k) words (after here k ∷ front.0) others)
          same
          (subst (λ (ps : List State). IsMainLine (after here n) words ps others) front.1 line);
      codes = subst (λ (ms : List Move).
          AreCodes (after here m) ms more) (same_rest m n moves others moves_is)
          (subst (λ (cs : List PlyCode).
          AreCodes (after here m) moves cs) (sym (same_rest c d more left codes_is)) are);
    }

pub line_ended : (here : State) (later : List State) (words : List (List ℕ)) (moves : List Move)
    → IsMainLine here words (here ∷ later) moves → AreCodes here moves [] → later ≡ []
line_ended here later [] moves line codes = same_rest here here later [] line.0
line_ended here later (word ∷ words) [] (
  n,
  rest,
  others,
  positions_is,
  moves_is,
  named,
  line,
) codes = absurd (no_cell n others moves_is)
line_ended here later (word ∷ words) (m ∷ moves) line (c, more, is, code, are) =
    absurd (no_cell c more is)

-- ---- the start

module _ {raw : RawRecord} {game : GameText} {replay : Replay} {packed : PackedGame}
    (own : IsOfRecord raw game replay packed) where
  -- the bytes of the record spell the codes of its plies
  told_codes : codes_in raw.plies ≡ packed.plies
  told_codes =
      ap (λ (r : RawRecord). codes_in r.plies) (sym own.shows)
      ∙ codes_again packed.plies own.fits.plies

  -- the main line of the game is played by the moves of which these are the codes
  pub played_by : (P : State) → slice_get replay.positions 0 ≡ Some P
      → IsPlayedBy P (codes_in raw.plies) replay
  played_by P here =
      let start = own.is_replay.start in
      let words = main_words game.elements 0 in
      let line = own.is_replay.line in
      let same : P ≡ start = same_Some P start (sym here ∙ first_is own) in
      subst (λ (Q : State). IsPlayedBy Q (codes_in raw.plies) replay) (sym same) (record {
        line = record {
          legal = line_legal start words replay.positions replay.played line;
          positions = line_positions start words replay.positions replay.played line;
        };
        told = subst (λ (Q : State). AreCodes Q replay.played (codes_in raw.plies)) (kept_start own)
            (subst (AreCodes own.kept.start replay.played) (sym told_codes) own.kept.plies);
      })

  pub walked_none : (seen : Sight)
      → (P : State) × (slice_get replay.positions 0 ≡ Some P) × IsSightOf P seen
      → IsWalkedTo seen (codes_in raw.plies) game [] own.is_replay.start
  walked_none seen (P, here, sight) =
      let start = own.is_replay.start in
      let same : P ≡ start = same_Some P start (sym here ∙ first_is own) in
      let (later, from) = begins own in
      record {
        replay = replay;
        is_replay = own.is_replay;
        later = later;
        words = main_words game.elements 0;
        moves = replay.played;
        parts = from;
        line = subst (λ (ps : List State).
            IsMainLine start (main_words game.elements 0) ps replay.played) from own.is_replay.line;
        codes = subst (λ (Q : State).
            AreCodes Q replay.played (codes_in raw.plies)) (kept_start own)
            (subst (AreCodes own.kept.start replay.played) (sym told_codes) own.kept.plies);
        sight = subst (λ (Q : State). IsSightOf Q seen) same sight;
        stands = stands_main game replay own.is_replay [] start later from;
      }

-- ---- one more ply

module _ {seen : Sight} {game : GameText} {before : List State} {P : State} where
  pub walked_on : (c : PlyCode) (left : List PlyCode) → IsWalkedTo seen (c ∷ left) game before P
      → (next : State) × IsWalkedTo (stepped seen c) left game (before ++ P ∷ []) next
  walked_on c left at =
      let one = next_ply P at.later at.words at.moves c left at.line at.codes in
      let next = after P one.m in
      let parts : at.replay.positions ≡ (before ++ P ∷ []) ++ next ∷ one.rest =
      at.parts ∙ ap (λ (ps : List State). before ++ P ∷ ps) one.parts
      ∙ sym (append_assoc before (P ∷ []) (next ∷ one.rest)) in (
        next,
        record {
          replay = at.replay;
          is_replay = at.is_replay;
          later = one.rest;
          words = one.words;
          moves = one.moves;
          parts = parts;
          line = one.line;
          codes = one.codes;
          sight = step_shows_next_position P one.m c seen one.legal one.code at.sight;
          stands = stands_main game at.replay at.is_replay (before ++ P ∷ []) next one.rest parts;
        },
      )

  -- where no code is left, no ply is
  pub walked_all : IsWalkedTo seen [] game before P → (replay : Replay) → IsOfGame game replay
      → length replay.positions ≡ length before + 1
  walked_all at replay own =
      ap length (sym (one_main game at.replay replay (Main, at.is_replay) own).0 ∙ at.parts
      ∙ ap (λ (ps : List State). before ++ P ∷ ps)
      (line_ended P at.later at.words at.moves at.line at.codes)) ∙ length-append before (P ∷ [])

-- so none of the plies from here on is wanted, if that is so of each position that is walked to
module _ (aim : Aim) (game : GameText) (So : Sight → List PlyCode → Type 0)
    (goes : (s : Sight) (c : PlyCode) (codes : List PlyCode) → So s (c ∷ codes)
    → So (stepped s c) codes)
    (fails : (s : Sight) (codes : List PlyCode) (before : List State) (P : State)
    → IsWalkedTo s codes game before P → So s codes → (replay : Replay) → IsOfGame game replay
    → IsWanted aim (heading_of game) replay (length before) → ⊥) where
  pub none_from : (codes : List PlyCode) (s : Sight) (before : List State) (P : State)
      → IsWalkedTo s codes game before P → So s codes → (replay : Replay) → IsOfGame game replay
      → (n : ℕ) → length before ≤ n → n < length replay.positions
      → IsWanted aim (heading_of game) replay n → ⊥
  none_from [] s before P at so replay own n low within wanted =
      let size = walked_all at replay own in
      let same : n ≡ length before = omega (arith, size, low, within) in
      fails s [] before P at so replay own
      (subst (IsWanted aim (heading_of game) replay) same wanted)
  none_from (c ∷ codes) s before P at so replay own n low within wanted =
      elim (cases_lt (length before) n) [
        | inl past ↦
            let (next, to) = walked_on c codes at in
            let grown = length-append before (P ∷ []) in
            none_from codes (stepped s c) (before ++ P
            ∷ []) next to (goes s c codes so) replay own n
            (omega (arith, grown, past)) within wanted
        | inr here ↦
            let same : n ≡ length before = omega (arith, low, here) in
            fails s (c ∷ codes) before P at so replay own
            (subst (IsWanted aim (heading_of game) replay) same wanted)
      ]

-- no column is shown
pub shows_no_value : (column : PlyColumn) (aim : Aim) (game : GameText) (before : List State)
    (P : State) → is_bare aim.line ≡ true → ShowsValue column [] aim game before P
shows_no_value column aim game before P bare rows =
    absurd (false≢true (sym rows ∙ bare))

-- ---- by a walk

-- the line that is asked this
abbrev pub Walks : List Conditions → Sight → List PlyCode → ℕ → Aim → GameText → List State → State
    → Type 0
Walks asked seen left ply aim game before P = IsWalkedWith seen left ply asked aim game before P

module _ (seen : Sight) (ply : ℕ) (asked : List Conditions) (aim : Aim) (game : GameText)
    (before : List State) (P : State) where
  pub walks_on : (c : PlyCode) (left : List PlyCode)
      → Walks asked seen (c ∷ left) ply aim game before P → (on : Bool)
      → GoesTo (Walks asked (stepped seen c) left (ply + 1)) on true aim game before P
  walks_on c left at on =
      let (next, to) = walked_on c left at.to in (
        [],
        next,
        record {
          plain = at.plain;
          asks = at.asks;
          count = length-append before (P ∷ []) ∙ ap (λ n. n + 1) at.count;
          to = to;
        },
        λ replay own rest is n low high. absurd (omega (arith, low, high)),
      )

  pub walks_all : (left : List PlyCode) → Walks asked seen left ply aim game before P → (on : Bool)
      → (on ≡ true → left ≡ []) → GoesTo (Walks asked seen left ply) on false aim game before P
  walks_all left at on ended = (
    (at.to.replay, at.to.is_replay),
    λ is_on replay own rest is n low within wanted.
        let size = walked_all
        (subst (λ cs. IsWalkedTo seen cs game before P) (ended is_on) at.to) replay own in
        absurd (omega (arith, size, low, within)),
  )

-- where nothing that is seen meets what is asked, none is wanted
pub none_seen : (aim : Aim) (game : GameText) (asked : List Conditions) → AsksFor aim game asked
    → (codes : List PlyCode) (s : Sight) (before : List State) (P : State)
    → IsWalkedTo s codes game before P
    → NowhereSeen (MeetsSeen asked) s.men s.turn (IsTrue s.check) (IsTrue s.stuck) codes
    → (replay : Replay) → IsOfGame game replay
    → (n : ℕ) → length before ≤ n → n < length replay.positions
    → IsWanted aim (heading_of game) replay n → ⊥
none_seen aim game asked asks = none_from aim game Nowhere (λ s c codes none. none.1) fails
  where
    Nowhere : Sight → List PlyCode → Type 0
    Nowhere s codes =
        NowhereSeen (MeetsSeen asked) s.men s.turn (IsTrue s.check) (IsTrue s.stuck) codes

    here : (s : Sight) (codes : List PlyCode) → Nowhere s codes
        → MeetsSeen asked s.men s.turn (IsTrue s.check) (IsTrue s.stuck) → ⊥
    here s [] none = none
    here s (c ∷ codes) none = none.0

    fails : (s : Sight) (codes : List PlyCode) (before : List State) (P : State)
        → IsWalkedTo s codes game before P → Nowhere s codes → (replay : Replay)
        → IsOfGame game replay → IsWanted aim (heading_of game) replay (length before) → ⊥
    fails s codes before P at none replay own wanted =
        let (rest, parts) = at.stands replay own in
        let met =
        (asks replay own (length before) (seam_within replay.positions before P rest parts)).1
        wanted.2 in
        let same : met.position ≡ P =
        same_Some met.position P (sym met.here ∙ ap (λ ps. slice_get ps (length before)) parts
        ∙ at_seam before P rest) in
        here s codes none (
          P,
          at.sight,
          heading_of game,
          replay,
          length before,
          subst (λ (Q : State). SomeHold (heading_of game) replay (length before) Q asked) same
              met.hold,
        )

-- a record that is walked from where its games start
module _ (raw : RawRecord) (aim : Aim) (asked : List Conditions) (seen : Sight)
    (asks : EachOfRecord raw (λ game replay packed. AsksFor aim game asked))
    (starts : StartsThere raw seen) where
  pub walks_record : is_bare aim.line ≡ true
      → StandsInRecord (Walks asked seen (codes_in raw.plies) 0) aim raw
  walks_record plain game replay packed own = (
    [],
    own.is_replay.start,
    record {
      plain = plain;
      asks = asks game replay packed own;
      count = refl;
      to = walked_none own seen (starts game replay packed own);
    },
    none_yet (record_aim aim raw) game,
  )

  pub none_in_walk : NowhereSeen (MeetsSeen asked) seen.men seen.turn (IsTrue seen.check)
      (IsTrue seen.stuck) (codes_in raw.plies) → NoneInRecord aim raw
  none_in_walk none game replay packed own n within =
      none_seen aim game asked (asks game replay packed own) (codes_in raw.plies) seen []
      own.is_replay.start (walked_none own seen (starts game replay packed own)) none replay
      (Main, own.is_replay) n (omega arith) within

-- ---- by marks

module _ (aim : Aim) (game : GameText) (set : ℕ)
    (met : AreMetWith set (heading_of game) aim.criteria) where
  -- the marks of the position tell whether it is met
  pub told_here : {s : Sight} {codes : List PlyCode} {before : List State} {P : State}
      → IsWalkedTo s codes game before P → (r : Bool) → has_marks set s.turn s.check s.stuck ≡ r
      → MeetsHere r aim game before P
  told_here {s} {codes} {before} {P} at r is replay own rest parts =
      subst (λ b. IsTrue b ↔ IsMet aim.criteria (heading_of game) replay (length before))
      (ap (λ side. has_marks set side s.check s.stuck) (sym at.sight.turn) ∙ is)
      (met P s.check s.stuck (record { check = at.sight.check; stuck = at.sight.stuck }) replay
      (length before) (ap (λ ps. slice_get ps (length before)) parts ∙ at_seam before P rest))

  -- where it has none of them it is not wanted
  unwanted_here : {s : Sight} {codes : List PlyCode} {before : List State} {P : State}
      → IsWalkedTo s codes game before P → has_marks set s.turn s.check s.stuck ≡ false
      → (replay : Replay) → IsOfGame game replay
      → IsWanted aim (heading_of game) replay (length before) → ⊥
  unwanted_here {s} {codes} {before} {P} at fails replay own =
      let (rest, parts) = at.stands replay own in
      not_wanted aim game before P false (told_here at false fails) refl replay own rest parts

  -- where neither the position nor a later one has them, none is wanted
  pub none_marked : (codes : List PlyCode) (s : Sight) (before : List State) (P : State)
      → IsWalkedTo s codes game before P
      → (has_marks set s.turn s.check s.stuck ≡ false) × NoneMeets set s.turn codes
      → (replay : Replay) → IsOfGame game replay
      → (n : ℕ) → length before ≤ n → n < length replay.positions
      → IsWanted aim (heading_of game) replay n → ⊥
  none_marked =
      none_from aim game
      (λ s codes. (has_marks set s.turn s.check s.stuck ≡ false) × NoneMeets set s.turn codes)
      (λ s c codes none. none.1)
      (λ s codes before P at none. unwanted_here at none.0)

  -- where no later one has them
  pub none_after : (codes : List PlyCode) (s : Sight) (before : List State) (P : State)
      → IsWalkedTo s codes game before P → NoneMeets set s.turn codes → NoneAfter aim game before P
  none_after [] s before P at none replay own rest is n low within wanted =
      let size = walked_all at replay own in absurd (omega (arith, size, low, within))
  none_after (c ∷ codes) s before P at none replay own rest is n low within wanted =
      let (next, to) = walked_on c codes at in
      let grown = length-append before (P ∷ []) in
      none_marked codes (stepped s c) (before ++ P ∷ []) next to none replay own n
      (omega (arith, grown, low)) within wanted

  -- the next position that has one of them, past those that have none
  pub record PassesTo (before : List State) (P : State) (all : List PlyCode) (side : Side)
      (left : List PlyCode) : Type 0 where
    pub passed : List State
    pub next : State
    pub seen : Sight
    pub turn : seen.turn ≡ side
    pub told : has_marks set side seen.check seen.stuck ≡ true
    pub to : IsWalkedTo seen left game (before ++ P ∷ passed) next
    pub size : length all ≡ length passed + 1 + length left
    pub none : (replay : Replay) → IsOfGame game replay → (n : ℕ) → length before < n
        → n ≤ length before + length passed → IsWanted aim (heading_of game) replay n → ⊥

  pub pass_to : (codes : List PlyCode) (s : Sight) (side : Side) (left : List PlyCode)
      (before : List State) (P : State) → IsWalkedTo s codes game before P
      → IsNextMet set s.turn codes side left → PassesTo before P codes side left
  pass_to [] s side left before P at next = absurd next
  pass_to (c ∷ codes) s side left before P at is =
      let (next, to) = walked_on c codes at in
      elim is [
        | inl here ↦ record {
          passed = [];
          next = next;
          seen = stepped s c;
          turn = sym here.1;
          told = ap (λ t. has_marks set t c.check c.stuck) here.1 ∙ here.0;
          to = subst (λ cs. IsWalkedTo (stepped s c) cs game (before ++ P ∷ []) next) (sym here.2)
              to;
          size = let same = ap length here.2 in omega (arith, same);
          none = λ replay own n low high. absurd (omega (arith, low, high));
        }
        | inr there ↦
            let more = pass_to codes (stepped s c) side left (before ++ P ∷ []) next to there.1 in
            let grown = length-append before (P ∷ []) in
            record {
              passed = next ∷ more.passed;
              next = more.next;
              seen = more.seen;
              turn = more.turn;
              told = more.told;
              to = subst (λ ps. IsWalkedTo more.seen left game ps more.next)
                  (append_assoc before (P ∷ []) (next ∷ more.passed)) more.to;
              size = let size = more.size in omega (arith, size);
              none = λ replay own n low high wanted. elim (cases_lt (length (before ++ P ∷ [])) n) [
                | inl past ↦ more.none replay own n past (omega (arith, grown, high)) wanted
                | inr first ↦
                    let same : n ≡ length (before ++ P ∷ []) = omega (arith, grown, low, first) in
                    unwanted_here to there.0 replay own
                    (subst (IsWanted aim (heading_of game) replay) same wanted)
              ];
            }
      ]

-- a line that goes on past those that have none of them
pub marks_on : (set : ℕ) (side after : Side) (codes left : List PlyCode) (ply n : ℕ) (on : Bool)
    (aim : Aim) (game : GameText) (before : List State) (P : State)
    → IsMarkedWith set side codes ply aim game before P → IsNextMet set side codes after left
    → ply + length codes ≡ n + length left
    → GoesTo (λ other own some Q. IsMarkedWith set after left n other own some Q) on true aim game
    before P
marks_on set side after codes left ply n on aim game before P at is count =
    let more = pass_to aim game set at.met codes at.seen after left before P at.to
    (subst (λ t. IsNextMet set t codes after left) (sym at.turn) is) in (
      more.passed,
      more.next,
      record {
        plain = at.plain;
        met = at.met;
        count = let grown = length-append before (P ∷ more.passed) in let size = more.size in
            let here = at.count in omega (arith, grown, size, here, count);
        seen = more.seen;
        turn = more.turn;
        told = more.told;
        to = more.to;
      },
      λ replay own rest parts n low high within. more.none replay own n low high,
    )

-- or is at its end
pub marks_all : (set : ℕ) (side : Side) (codes : List PlyCode) (ply : ℕ) (on : Bool) (aim : Aim)
    (game : GameText) (before : List State) (P : State)
    → IsMarkedWith set side codes ply aim game before P → (on ≡ true → NoneMeets set side codes)
    → GoesTo (λ other own some Q.
    IsMarkedWith set side codes ply other own some Q) on false aim game
    before P
marks_all set side codes ply on aim game before P at none = (
  (at.to.replay, at.to.is_replay),
  λ is_on. none_after aim game set at.met codes at.seen before P at.to
      (subst (λ t. NoneMeets set t codes) (sym at.turn) (none is_on)),
)

-- ---- a record whose marks are asked

module _ {raw : RawRecord} {game : GameText} {replay : Replay} {packed : PackedGame}
    (own : IsOfRecord raw game replay packed) where
  abbrev start_seen : Sight
  start_seen = record {
    men = own.is_replay.start.men;
    turn = own.is_replay.start.turn;
    check = packed.check;
    stuck = packed.stuck;
  }

  start_walked : IsWalkedTo start_seen (codes_in raw.plies) game [] own.is_replay.start
  start_walked =
      let marks : AreMarks own.is_replay.start packed.check packed.stuck =
      subst (λ (P : State). AreMarks P packed.check packed.stuck) (kept_start own) own.kept.marks in
      walked_none own start_seen (
        own.is_replay.start,
        first_is own,
        record { men = refl; turn = refl; check = marks.check; stuck = marks.stuck },
      )

  start_turn : (turn : Side) → (P : State) × (slice_get replay.positions 0 ≡ Some P)
      × (P.turn ≡ turn) → own.is_replay.start.turn ≡ turn
  start_turn turn (P, first, is) =
      subst (λ (Q : State). Q.turn ≡ turn)
      (same_Some P own.is_replay.start (sym first ∙ first_is own)) is

  -- the record tells the marks of the start
  start_told : (set : ℕ) (turn : Side) → own.is_replay.start.turn ≡ turn → (r : Bool)
      → has_marks set turn (raw.head % 2 == 1) (raw.head / 2 % 2 == 1) ≡ r
      → has_marks set own.is_replay.start.turn packed.check packed.stuck ≡ r
  start_told set turn side r is =
      let shows = head_shows packed own.fits in
      let head : (raw_of packed).head ≡ raw.head = ap (λ (one : RawRecord). one.head) own.shows in
      ap (λ t. has_marks set t packed.check packed.stuck) side
      ∙ ap (λ b. has_marks set turn b packed.stuck) (sym shows.check)
      ∙ ap (λ b. has_marks set turn ((raw_of packed).head % 2 == 1) b) (sym shows.stuck)
      ∙ ap (λ n. has_marks set turn (n % 2 == 1) (n / 2 % 2 == 1)) head ∙ is

module _ (raw : RawRecord) (set : ℕ) (turn : Side) (starts : StartsWith raw turn) (aim : Aim)
    (plain : is_bare aim.line ≡ true)
    (met : EachOfRecord raw (λ game replay packed.
    AreMetWith set (heading_of game) aim.criteria)) where
  -- the start has one of them, or not
  abbrev pub StartHas : Bool → Type 0
  StartHas r = has_marks set turn (raw.head % 2 == 1) (raw.head / 2 % 2 == 1) ≡ r

  -- the line of the record that is told by the set
  abbrev pub ByMarks : Side → List PlyCode → ℕ → Aim → GameText → List State → State → Type 0
  ByMarks side left ply other game before P = IsMarkedWith set side left ply other game before P

  pub none_in : StartHas false → NoneMeets set turn (codes_in raw.plies) → NoneInRecord aim raw
  none_in has none game replay packed own n within =
      let side = start_turn own turn (starts game replay packed own) in
      none_marked aim game set (met game replay packed own) (codes_in raw.plies) (start_seen own) []
      own.is_replay.start (start_walked own) (
        start_told own set turn side false has,
        subst (λ t. NoneMeets set t (codes_in raw.plies)) (sym side) none,
      ) replay (Main, own.is_replay) n (omega arith) within

  pub stands_first : StartHas true → StandsInRecord (ByMarks turn (codes_in raw.plies) 0) aim raw
  stands_first has game replay packed own =
      let side = start_turn own turn (starts game replay packed own) in (
        [],
        own.is_replay.start,
        record {
          plain = plain;
          met = met game replay packed own;
          count = refl;
          seen = start_seen own;
          turn = side;
          told = ap (λ t. has_marks set t packed.check packed.stuck) (sym side)
              ∙ start_told own set turn side true has;
          to = start_walked own;
        },
        none_yet (record_aim aim raw) game,
      )

  pub stands_next : StartHas false → (side : Side) (left : List PlyCode)
      → IsNextMet set turn (codes_in raw.plies) side left → (ply : ℕ)
      → length (codes_in raw.plies) ≡ ply + length left
      → StandsInRecord (ByMarks side left ply) aim raw
  stands_next has side left next ply count game replay packed own =
      let from = start_turn own turn (starts game replay packed own) in
      let start = own.is_replay.start in
      let all = codes_in raw.plies in
      let is_met = met game replay packed own in
      let more =
      pass_to aim game set is_met all (start_seen own) side left [] start (start_walked own)
      (subst (λ t. IsNextMet set t all side left) (sym from) next) in (
        start ∷ more.passed,
        more.next,
        record {
          plain = plain;
          met = is_met;
          count = let size = more.size in omega (arith, size, count);
          seen = more.seen;
          turn = more.turn;
          told = more.told;
          to = more.to;
        },
        λ other of n less wanted. elim (cases_lt 0 n) [
          | inl past ↦ more.none other of n past (omega (arith, less)) wanted
          | inr first ↦
              let same : n ≡ 0 = omega (arith, first) in
              unwanted_here aim game set is_met (start_walked own)
              (start_told own set turn from false has) other of
              (subst (IsWanted aim (heading_of game) other) same wanted)
        ],
      )
