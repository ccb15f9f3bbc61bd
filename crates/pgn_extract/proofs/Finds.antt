-- The entries of a line that are found so far, and one more position of it.
use Rattle.std.proofs.Common.{◌≡◌, ◌⊎◌, ◌↔◌, ℕ, ◌+◌, ◌<◌, ◌≤◌, Bool, true, false, List, [], ◌∷◌}
use Rattle.std.proofs.Common.{◌++◌, length, drop, Option, Some, IsTrue, refl, sym, ap, ◌∙◌, subst}
use Rattle.std.proofs.Common.{append_assoc, append-nil, length-append, inl, inr, not, arith, Result}
use Rattle.std.proofs.Common.{Ok, Err, OnOk, IfErr}
use Rattle.std.proofs.lemmas.Bool.{not-false}
use Rattle.std.proofs.Math.Seq.{drop-append_seam}
use Rattle.pgn_extract.proofs.Common.{cases_lt, both_ways, false≢true, slice_get_within, slice_get}
use Rattle.pgn_extract.proofs.Common.{MatchResult, State, GameText, tag_in, Fault, IsFault, fen_tag}
use Rattle.pgn_extract.proofs.Common.{Replay, Main, Conditions, Heading, SomeHold, heading_of}
use Rattle.pgn_extract.proofs.Common.{meets_at, Aim, GameId, IsWanted, IsEntry, plies_of, AreChosen}
use Rattle.pgn_extract.proofs.Common.{AreListed, none, keep, leave, Entry, entry_line}
use Rattle.pgn_extract.proofs.Common.{listing, IsOfGame, AsksFor, named_mark, AddsEntries}
use Rattle.pgn_extract.proofs.Common.{StopsAtFault, MeetsHere, GoesTo, IsNeverMet, HandsOn}
use Rattle.pgn_extract.proofs.Common.{NoneBefore, Stands, marked_lines, or_some, None}
use Rattle.pgn_extract.specs.Private.Lines.{first_ply}
use Rattle.pgn_extract.specs.Private.Lines.{EachReplay, Finds}
use Rattle.pgn_extract.specs.Public.Listing.{Shown, IsShownOf}
use Rattle.pgn_extract.proofs.Chosen.{entry_at}
use Rattle.pgn_extract.proofs.Picks.{leaves, leaves_all}

pub at_seam : {A : Type 0} (before : List A) (P : A) (rest : List A)
    → slice_get (before ++ P ∷ rest) (length before) ≡ Some P
at_seam [] P rest = refl
at_seam (first ∷ before) P rest = at_seam before P rest

-- that position is one of the main line
pub seam_within : (positions before : List State) (P : State) (rest : List State)
    → positions ≡ before ++ P ∷ rest → length before < length positions
seam_within positions before P rest is =
    slice_get_within positions (length before) P
    (ap (λ ps. slice_get ps (length before)) is ∙ at_seam before P rest)

-- before the first position none is wanted
pub none_yet : (aim : Aim) (game : GameText) → NoneBefore aim game []
none_yet aim game replay own n less = absurd (omega (arith, less))

-- no position is asked yet, and none that is passed is wanted: where it isn't on, nothing is met
-- from here on
pub finds_none : (aim : Aim) (id : GameId) (game : GameText) (Got : List Entry → Type 0)
    (before : List State) (P : State) (on : Bool) → Got []
    → (on ≡ false → IsNeverMet aim game before P) → Stands game before P
    → NoneBefore aim game before → Finds aim id game Got before on
finds_none aim id game Got before P on got off stands unwanted = record {
  found = [];
  got = got;
  completes = λ replay own rest is later chosen.
      leaves id (IsEntry aim (heading_of game) replay) (IsShownOf aim id game replay) 0
      (length before) replay.positions later
      (λ n low high entry. unwanted replay own n (omega (arith, high)) entry.0)
      (subst (λ n. AreChosen id (IsEntry aim (heading_of game) replay)
      (IsShownOf aim id game replay) (plies_of n (drop (length before) replay.positions)) later)
      here
      (subst (λ ps. AreChosen id (IsEntry aim (heading_of game) replay)
      (IsShownOf aim id game replay) (plies_of (length before) ps) later)
      (sym (ap (drop (length before)) is ∙ drop-append_seam before rest)) chosen));
  quiet = λ is first replay own rest at. unwanted replay own;
  shut = λ is replay own rest at n low within entry.
      let (later, from) = stands replay own in
      off is replay own later from n low within entry.0.2;
}
  where
    here : length before ≡ 0 + length before
    here = omega arith

-- what is asked of a position tells whether it is met
pub met_here : (aim : Aim) (game : GameText) (asked : List Conditions) → AsksFor aim game asked
    → (before : List State) (P : State) (r : Bool)
    → ((heading : Heading) (replay : Replay) (ply : ℕ)
    → IsTrue r ↔ SomeHold heading replay ply P asked) → MeetsHere r aim game before P
met_here aim game asked asks before P r says replay own rest is =
    let n = length before in
    let here : slice_get replay.positions n ≡ Some P =
    ap (λ ps. slice_get ps n) is ∙ at_seam before P rest in
    let met =
    meets_at (heading_of game) replay n asked P r here (says (heading_of game) replay n) in
    let same = asks replay own n (seam_within replay.positions before P rest is) in
    (λ t. same.0 (met.0 t), λ meets. met.1 (same.1 meets))

-- one more position
module _ {aim : Aim} {id : GameId} {game : GameText} {Got : List Entry → Type 0}
    {before : List State} {on : Bool} (P : State) (so_far : Finds aim id game Got before on) where
  abbrev Here : (Replay → Type 0) → Type 0
  Here So = EachReplay game before P So

  joined : (replay : Replay) (rest : List State) → replay.positions ≡ (before ++ P ∷ []) ++ rest
      → replay.positions ≡ before ++ P ∷ rest
  joined replay rest is = is ∙ append_assoc before (P ∷ []) rest

  grown : length (before ++ P ∷ []) ≡ length before + 1
  grown = length-append before (P ∷ [])

  leaves_one : (still : Bool)
      → Here (λ replay. IsEntry aim (heading_of game) replay (length before) → ⊥)
      → (still ≡ true → aim.first ≡ true → Here (λ replay. (n : ℕ) → n < length before + 1
      → IsWanted aim (heading_of game) replay n → ⊥))
      → (still ≡ false → Here (λ replay. (n : ℕ) → length before + 1 ≤ n
      → n < length replay.positions → IsEntry aim (heading_of game) replay n → ⊥))
      → Finds aim id game Got (before ++ P ∷ []) still
  leaves_one still fails quiet shut = record {
    found = so_far.found;
    got = so_far.got;
    completes = λ replay own rest is later chosen.
        so_far.completes replay own (P ∷ rest) (joined replay rest is) later
        (leave (length before) (plies_of (length before + 1) rest) later
        (fails replay own rest (joined replay rest is))
        (subst (λ n. AreChosen id (IsEntry aim (heading_of game) replay)
        (IsShownOf aim id game replay) (plies_of n rest) later) grown chosen));
    quiet = λ is first replay own rest at n less.
        quiet is first replay own rest (joined replay rest at) n (subst (λ k. n < k) grown less);
    shut = λ is replay own rest at n low within.
        shut is replay own rest (joined replay rest at) n (subst (λ k. k ≤ n) grown low) within;
  }

  -- it is no longer on
  pub leaves_shut : on ≡ false → Finds aim id game Got (before ++ P ∷ []) false
  leaves_shut off =
      leaves_one false
      (λ replay own rest is.
      so_far.shut off replay own (P ∷ rest) is (length before) (omega arith)
      (seam_within replay.positions before P rest is))
      (λ is. absurd (cc))
      (λ same replay own rest is n low within.
      so_far.shut off replay own (P ∷ rest) is n (omega arith) within)

  -- the last ply that is looked for is past
  pub leaves_past : aim.max_ply < length before → Finds aim id game Got (before ++ P ∷ []) false
  leaves_past past =
      leaves_one false
      (λ replay own rest is entry. let most = entry.0.1 in omega arith)
      (λ is. absurd (cc))
      (λ same replay own rest is n low within entry. let most = entry.0.1 in omega arith)

  -- it is not wanted
  pub leaves_unwanted : on ≡ true
      → Here (λ replay. IsWanted aim (heading_of game) replay (length before) → ⊥)
      → Finds aim id game Got (before ++ P ∷ []) true
  leaves_unwanted still fails =
      leaves_one true
      (λ replay own rest is entry. fails replay own rest is entry.0)
      (λ same first replay own rest is n less wanted. elim (cases_lt n (length before)) [
        | inl under ↦ so_far.quiet still first replay own (P ∷ rest) is n under wanted
        | inr over ↦
            let here : n ≡ length before = omega arith in
            fails replay own rest is (subst (IsWanted aim (heading_of game) replay) here wanted)
      ])
      (λ is. absurd (cc))

  -- it is an entry, and is handed on
  pub keeps_one : {New : List Entry → Type 0} (shown : Shown) → on ≡ true
      → Here (λ replay. IsWanted aim (heading_of game) replay (length before))
      → Here (λ replay. IsShownOf aim id game replay (length before) shown)
      → New (so_far.found ++ entry_at id (length before) shown ∷ [])
      → Finds aim id game New (before ++ P ∷ []) (not aim.first)
  keeps_one {New} shown still wanted shows added = record {
    found = so_far.found ++ entry ∷ [];
    got = added;
    completes = λ replay own rest is later chosen.
        subst (AreListed aim id game replay)
        (sym (append_assoc so_far.found (entry ∷ []) later))
        (so_far.completes replay own (P ∷ rest) (joined replay rest is) (entry ∷ later)
        (keep (length before) shown (plies_of (length before + 1) rest) later
        (listed replay own rest (joined replay rest is))
        (shows replay own rest (joined replay rest is))
        (subst (λ n. AreChosen id (IsEntry aim (heading_of game) replay)
        (IsShownOf aim id game replay) (plies_of n rest) later) grown chosen)));
    quiet = λ is first replay own rest at n less.
        let no : not aim.first ≡ false = ap not first in
        absurd (both_ways (not aim.first) no is);
    shut = λ is replay own rest at n low within is_entry.
        is_entry.1 (not-false aim.first is) (length before)
        (let size = grown in omega (arith, size, low))
        (wanted replay own rest (joined replay rest at));
  }
    where
      entry : Entry
      entry = entry_at id (length before) shown

      listed : Here (λ replay. IsEntry aim (heading_of game) replay (length before))
      listed replay own rest is = (
        wanted replay own rest is,
        λ first n less earlier.
            so_far.quiet still first replay own (P ∷ rest) is n less earlier,
      )

-- where it is said of the position whether it is met, it is known whether it is wanted
module _ (aim : Aim) (game : GameText) (before : List State) (P : State) (met : Bool)
    (reports : MeetsHere met aim game before P) where
  pub is_wanted : met ≡ true → aim.min_ply ≤ length before → length before ≤ aim.max_ply
      → EachReplay game before P (λ replay. IsWanted aim (heading_of game) replay (length before))
  is_wanted holds low high replay own rest is = (low, high, (reports replay own rest is).0 holds)

  pub not_wanted : met ≡ false → EachReplay game before P
      (λ replay. IsWanted aim (heading_of game) replay (length before) → ⊥)
  not_wanted fails replay own rest is wanted =
      let holds : IsTrue met = (reports replay own rest is).1 wanted.2 in
      absurd (false≢true (sym fails ∙ holds))

-- positions that are passed after these, of which none is wanted
module _ {aim : Aim} {id : GameId} {game : GameText} {Got : List Entry → Type 0} {on : Bool}
    (start : List State) (most : ℕ)
    (fails : (replay : Replay) → IsOfGame game replay → (rest : List State)
    → replay.positions ≡ start ++ rest → (n : ℕ) → length start ≤ n → n < most
    → n < length replay.positions → IsWanted aim (heading_of game) replay n → ⊥) where
  pub passes : (more passed : List State) → length (start ++ more) + length passed ≤ most
      → Finds aim id game Got (start ++ more) on
      → Finds aim id game Got ((start ++ more) ++ passed) on
  passes more [] size finds =
      subst (λ ps. Finds aim id game Got ps on) (sym (append-nil (start ++ more))) finds
  passes more (P ∷ passed) size finds =
      subst (λ ps. Finds aim id game Got ps on) (append_assoc (start ++ more) (P ∷ []) passed)
      (subst (λ ps. Finds aim id game Got (ps ++ passed) on)
      (sym (append_assoc start more (P ∷ [])))
      (passes (more ++ P ∷ []) passed
      (subst (λ ps. length ps + length passed ≤ most) (append_assoc start more (P ∷ []))
      (let grown = length-append (start ++ more) (P ∷ []) in omega (arith, size, grown)))
      (subst (λ ps. Finds aim id game Got ps on) (append_assoc start more (P ∷ [])) (one on refl))))
    where
      unwanted : EachReplay game (start ++ more) P
          (λ replay. IsWanted aim (heading_of game) replay (length (start ++ more)) → ⊥)
      unwanted replay own rest is =
          let size_is = length-append start more in
          fails replay own (more ++ P ∷ rest) (is ∙ append_assoc start more (P ∷ rest))
          (length (start ++ more)) (omega (arith, size_is)) (omega (arith, size))
          (seam_within replay.positions (start ++ more) P rest is)

      one : (o : Bool) → on ≡ o → Finds aim id game Got ((start ++ more) ++ P ∷ []) on
      one false off =
          subst (Finds aim id game Got ((start ++ more) ++ P ∷ [])) (sym off)
          (leaves_shut P finds off)
      one true is =
          subst (Finds aim id game Got ((start ++ more) ++ P ∷ [])) (sym is)
          (leaves_unwanted P finds is unwanted)

-- a line that went on to a position past others
pub goes_on : {aim : Aim} {id : GameId} {game : GameText} {Got : List Entry → Type 0} {on : Bool}
    (At : Aim → GameText → List State → State
    → Type 0) (still : Bool) (before : List State) (P : State)
    (to : GoesTo At still true aim game before P) → Finds aim id game Got (before ++ P ∷ []) on
    → Finds aim id game Got (before ++ P ∷ to.0) on
goes_on {aim} {id} {game} {Got} {on} At still before P (passed, next, at, unwanted) finds =
    let size = length-append before (P ∷ []) in
    subst (λ ps. Finds aim id game Got ps on)
    (ap (λ ps. ps ++ passed) (append-nil (before ++ P ∷ [])) ∙ append_assoc before (P ∷ []) passed)
    (passes (before ++ P ∷ []) (length before + length passed + 1)
    (λ replay own rest is n low less within.
    unwanted replay own rest (is ∙ append_assoc before (P ∷ []) rest) n (omega (arith, size, low))
    (omega (arith, less)) within)
    [] passed
    (subst (λ ps. length ps + length passed ≤ length before + length passed + 1)
    (sym (append-nil (before ++ P ∷ []))) (omega (arith, size)))
    (subst (λ ps. Finds aim id game Got ps on) (sym (append-nil (before ++ P ∷ []))) finds))

-- a line that ended, or on which no more is asked for
pub ends_at : {aim : Aim} {id : GameId} {game : GameText} {Got : List Entry → Type 0} {on : Bool}
    (At : Aim → GameText → List State → State → Type 0) (before : List State) (P : State)
    → ((replay : Replay) → IsOfGame game replay
    → (rest : List State) × (replay.positions ≡ before ++ P ∷ rest))
    → GoesTo At on false aim game before P → Finds aim id game Got (before ++ P ∷ []) on
    → HandsOn aim id game Got
ends_at {aim} {id} {game} {Got} {on} At before P stands (sound, unwanted) finds =
    let (replay, is) = sound in
    let (rest, parts) = stands replay (Main, is) in
    let size = length-append before (P ∷ []) in
    let all = parts ∙ sym (append_assoc before (P ∷ []) rest) in
    let whole : length replay.positions ≡ length (before ++ P ∷ []) + length rest =
    ap length all ∙ length-append (before ++ P ∷ []) rest in
    let left : (n : ℕ) → length (before ++ P ∷ []) ≤ n → n < length (before ++ P ∷ []) + length rest
    → IsEntry aim (heading_of game) replay n → ⊥ = λ n low less. elim (either on refl) [
      | inl is_on ↦ λ entry. unwanted is_on replay
          (Main, is) rest parts n (omega (arith, size, low)) (omega (arith, whole, less)) entry.0
      | inr off ↦ finds.shut off replay (Main, is) rest all n low (omega (arith, whole, less))
    ] in (
      replay,
      is,
      finds.found,
      subst (AreListed aim id game replay) (append-nil finds.found)
          (finds.completes replay (Main, is) rest all []
          (leaves_all id (IsEntry aim (heading_of game) replay) (IsShownOf aim id game replay)
          (length (before ++ P ∷ [])) rest left)),
      finds.got,
    )
  where
    either : (o : Bool) → on ≡ o → (on ≡ true) ⊎ (on ≡ false)
    either true is = inl is
    either false off = inr off

-- the line stands at a position of the game, and the entries before it are found
pub record StandsFound (At : Aim → GameText → List State → State → Type 0) (aim : Aim) (id : GameId)
    (game : GameText) (Got : List Entry → Type 0) (on : Bool) : Type 0 where
  pub before : List State
  pub here : State
  pub at : At aim game before here
  pub finds : Finds aim id game Got before on

-- the line of an entry, as it is written part by part
pub one_line : (start mark digits shown : List ℕ)
    → ((start ++ (mark ++ 32 ∷ digits)) ++ shown) ++ 10 ∷ []
    ≡ start ++ (mark ++ 32 ∷ digits ++ (shown ++ 10 ∷ []))
one_line start mark digits shown = simp append_assoc refl

-- the lines of entries of one game are those of the listing, where they begin with its mark
pub listed_lines : (name : Option (List ℕ)) (id : GameId) (P : ℕ → Type 0) (S : ℕ → Shown → Type 0)
    (plies : List ℕ) (entries : List Entry) → AreChosen id P S plies entries
    → marked_lines (named_mark name id) entries ≡ listing name entries
listed_lines name id P S plies entries none = refl
listed_lines name id P S plies entries (keep ply shown all chosen is shows more) =
    ap (λ t. entry_line name (entry_at id ply shown)
    ++ t) (listed_lines name id P S all chosen more)
listed_lines name id P S plies entries (leave ply all chosen fails more) =
    listed_lines name id P S all chosen more

-- what is handed on as lines are the entries that are added
pub adds_lines : (aim : Aim) (id : GameId) (game : GameText) (mark old new : List ℕ)
    → mark ≡ named_mark aim.name id
    → HandsOn aim id game (λ got. new ≡ old ++ marked_lines mark got)
    → AddsEntries aim id game old new
adds_lines aim id game mark old new marked (replay, is, entries, listed, added) = (
  replay,
  is,
  entries,
  listed,
  added ∙ ap (λ m. old ++ marked_lines m entries) marked
      ∙ ap (λ t. old
      ++ t) (listed_lines aim.name id (IsEntry aim (heading_of game) replay)
      (IsShownOf aim id game replay)
      (plies_of 0 replay.positions) entries listed),
)

-- and what is handed on tells whether there is one
pub some_chosen : (id : GameId) (P : ℕ → Type 0) (S : ℕ → Shown
    → Type 0) (ply : ℕ) (positions : List State) (entries : List Entry)
    → AreChosen id P S (plies_of ply positions) entries
    → IsTrue (or_some false entries) ↔ ((n : ℕ) × (ply ≤ n) × (n < ply + length positions) × P n)
some_chosen id P S ply [] entries none = (
  λ t. absurd (false≢true t),
  λ some. let (n, low, high, is) = some in
      absurd (omega (arith, low, high)),
)
some_chosen id P S ply (Q ∷ positions) entries (keep own shown all chosen is shows more) =
    (λ t. (ply, omega arith, omega arith, is), λ some. refl)
some_chosen id P S ply (Q ∷ positions) entries (leave own all chosen fails more) =
    let later = some_chosen id P S (ply + 1) positions chosen more in (
      λ t. let (n, low, high, is) = later.0 t in (n, omega (arith, low), omega (arith, high), is),
      λ some. later.1 (past some),
    )
  where
    past : ((n : ℕ) × (ply ≤ n) × (n < ply + length (Q ∷ positions)) × P n)
        → (n : ℕ) × (ply + 1 ≤ n) × (n < ply + 1 + length positions) × P n
    past (n, low, high, is) = elim (cases_lt ply n) [
      | inl under ↦ (n, omega (arith, under), omega (arith, high), is)
      | inr over ↦ let same : n ≡ ply = omega (arith, low, over) in absurd (fails (subst P same is))
    ]

-- this number is one within the bounds that has the fact, or none has it
abbrev pub IsFirstOf : (ℕ → Type 0) → ℕ → ℕ → Option ℕ → Type 0
IsFirstOf P low high None = (n : ℕ) → low ≤ n → n < high → P n → ⊥
IsFirstOf P low high (Some n) = (low ≤ n) × (n < high) × P n

-- the first entry that is chosen is one, and where none is chosen none has the fact
pub first_chosen : (id : GameId) (P : ℕ → Type 0) (S : ℕ → Shown → Type 0) (ply : ℕ)
    (positions : List State) (entries : List Entry)
    → AreChosen id P S (plies_of ply positions) entries
    → IsFirstOf P ply (ply + length positions) (first_ply None entries)
first_chosen id P S ply [] entries none = λ n low high is. omega (arith, low, high)
first_chosen id P S ply (Q ∷ positions) entries (keep own shown all chosen is shows more) =
    (omega arith, omega arith, is)
first_chosen id P S ply (Q ∷ positions) entries (leave own all chosen fails more) =
    by (first_ply None entries) (first_chosen id P S (ply + 1) positions chosen more)
  where
    by : (found : Option ℕ) → IsFirstOf P (ply + 1) (ply + 1 + length positions) found
        → IsFirstOf P ply (ply + length (Q ∷ positions)) found
    by None without = λ n low high is. elim (cases_lt ply n) [
      | inl under ↦ without n (omega (arith, under)) (omega (arith, high)) is
      | inr over ↦ let same : n ≡ ply = omega (arith, low, over) in fails (subst P same is)
    ]
    by (Some n) (low, high, is) = (omega (arith, low), omega (arith, high), is)

-- a result of which both is known
pub on_result : {T E : Type 0} (r : Result T E) (P : Type 0) (Q : E → Type 0) → OnOk r P → IfErr r Q
    → MatchResult r (λ _. P) Q
on_result (Ok x) P Q done fails = done
on_result (Err e) P Q done fails = fails

pub on_ok_both : {T E : Type 0} (P Q : Type 0) (r : Result T E) → OnOk r P → OnOk r Q
    → OnOk r (P × Q)
on_ok_both P Q (Ok x) this that = (this, that)
on_ok_both P Q (Err e) this that = tt

-- the fault of a game whose text grew
pub stops_of : (game : GameText) (old new : List ℕ) (own : Fault)
    → IsFault Main (tag_in fen_tag game.tags) game.elements own
    × ((some : List ℕ) × (new ≡ old ++ some)) → StopsAtFault game old new own
stops_of game old new own (fails, grew) = (fails, grew.0, grew.1)
