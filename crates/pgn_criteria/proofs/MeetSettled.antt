-- Whether a position of a sound game meets criteria is settled.
use Rattle.pgn_criteria.proofs.Common.{◌≡◌, ◌<◌, ℕ, zero, suc, ◌+◌, Bool, true, false, List, []}
use Rattle.pgn_criteria.proofs.Common.{◌∷◌, length, Some, None, refl, ap, ◌∙◌, sym, subst, inl, inr}
use Rattle.pgn_criteria.proofs.Common.{arith, codes, if◌then◌else◌, slice_get, parted_at}
use Rattle.pgn_criteria.proofs.Common.{AreOnBoard, State, IsLegal, cases_eq, cases_lt}
use Rattle.pgn_criteria.proofs.Common.{slice_get_within, Settled, settled_like, settled_both}
use Rattle.pgn_criteria.proofs.Common.{settled_either, settled_held, cases_bytes, cases_side}
use Rattle.pgn_criteria.proofs.Common.{Replay, Heading, HasOneOf, IsSoOfGame, IsSoOfMoves, IsSoAt}
use Rattle.pgn_criteria.proofs.Common.{Taken, AllTaken, AllHold, HoldsThere, AreAll, SpanHolds}
use Rattle.pgn_criteria.proofs.Common.{SpansHold, IsMetBy, SomeHold, Meets, is_turned, EachHold}
use Rattle.pgn_criteria.proofs.Common.{flipped_men, mirror, without_check_signs, FitsWord, FitsMove}
use Rattle.pgn_criteria.proofs.Common.{FitMoves, IsLike, GoesOnBy, IsReachedBy, AreLegal, words_of}
use Rattle.pgn_criteria.proofs.Common.{Conditions, Stated, ValueClaim, Text, Number, Date}
use Rattle.pgn_criteria.proofs.Common.{GameClaim, Tag, Moves, Plies, Result, PositionCondition}
use Rattle.pgn_criteria.proofs.Common.{PositionClaim, Fen, Flip, Material, Turn, Check, Mate}
use Rattle.pgn_criteria.proofs.Common.{Stalemate, MoveClaim, Next, Played, Setup, SpanClaim, For}
use Rattle.pgn_criteria.proofs.Common.{Count}
use Rattle.chess.specs.declared.moves.Move.{Move}
use Rattle.chess.proofs.LegalSettled.{settled_check}
use Rattle.chess.proofs.MateSettled.{settled_mate, settled_stalemate}
use Rattle.chess.proofs.SanOnce.{one_san}
use Rattle.chess.proofs.SanSettled.{some_san}
use Rattle.pgn_game.specs.Public.MainLines.{main_words}
use Rattle.pgn_game.proofs.AnAnswer.{start_on_board}
use Rattle.pgn_game.proofs.OnBoard.{line_on_board, line_legal}
use Rattle.pgn_criteria.specs.Public.Meeting.{IsSoOfValue}
use Rattle.pgn_criteria.specs.Public.Laws.{EachPositionMeetsOrDoesNot}
use Rattle.pgn_criteria.proofs.MeetFacts.{meets_at}
use Rattle.pgn_criteria.proofs.MoveFacts.{by_move, star_now, star_on, star_none, star_cases}
use Rattle.pgn_criteria.proofs.MoveFacts.{byte_now, byte_back, byte_none, gone_on, like_move}
use Rattle.pgn_criteria.proofs.SetupFacts.{settled_set_up}
use Rattle.pgn_criteria.proofs.MirrorFacts.{mirrored_on}
use Rattle.pgn_criteria.proofs.laws.MenSettled.{settled_material}
use Rattle.pgn_criteria.proofs.SpanFacts.{AreFrom, none_from, one_before, none_before, from_first}
use Rattle.pgn_criteria.proofs.SpanFacts.{one_number}
use Rattle.pgn_criteria.proofs.laws.SplitSettled.{settled_pattern}
use Rattle.pgn_criteria.proofs.laws.StandsSettled.{settled_by, settled_compared, settled_stands}
use Rattle.pgn_criteria.proofs.laws.StandsSettled.{settled_number}
use Rattle.pgn_criteria.proofs.laws.DateSettled.{settled_date}

-- ---- tags

settled_value : (claim : ValueClaim (List ℕ)) (given : List ℕ) → Settled (IsSoOfValue given claim)
settled_value (Text relation contents) given = settled_stands relation given contents
settled_value (Number comparison number) given = settled_number comparison given number
settled_value (Date comparison days) given = settled_date comparison given days

pub settled_one_of : (heading : Heading) (claim : ValueClaim (List ℕ)) (names : List (List ℕ))
    → Settled (HasOneOf heading claim names)
settled_one_of heading claim [] = inr (λ h. h)
settled_one_of heading claim (name ∷ more) =
    settled_either
    (settled_held (heading.named name) (λ given. IsSoOfValue given claim) (settled_value claim))
    (settled_one_of heading claim more)

-- ---- moves

-- a legal move has one text, so a word fits it or not
settled_word : (P : State) (m : Move) (word : List ℕ) → AreOnBoard P.men → IsLegal P m
    → Settled (FitsWord P m word)
settled_word P m word on_board legal =
    let text = some_san P m on_board legal in
    settled_either (cases_bytes word (codes "*"))
    (settled_like (λ same. (text.0, text.1, same)) (λ h. h.2
    ∙ ap without_check_signs (one_san P m h.0 text.0 h.1 text.1))
    (cases_bytes word (without_check_signs text.0)))

-- the men stand on the board in each position of a replay
abbrev pub AllOnBoard : Replay → Type 0
AllOnBoard replay = (i : ℕ) (P : State) → slice_get replay.positions i ≡ Some P → AreOnBoard P.men

settled_move : (replay : Replay) (plies : ℕ) (word : List ℕ) → AllOnBoard replay → AreLegal replay
    → Settled (FitsMove replay plies word)
settled_move replay plies word on_board legal =
    elim (slice_get replay.positions plies) as (λ o. slice_get replay.positions plies ≡ o
    → Settled (FitsMove replay plies word)) [
      | None ↦ λ none. inr (λ fits. let here = fits.here in cc)
      | Some P ↦ λ here.
          elim (slice_get replay.played plies) as (λ o. slice_get replay.played plies ≡ o
          → Settled (FitsMove replay plies word)) [
            | None ↦ λ none. inr (λ fits. let played = fits.played in cc)
            | Some m ↦ λ played.
                settled_by (λ r reports. by_move replay plies word P m r here played reports)
                (settled_word P m word (on_board plies P here) (legal plies P m here played))
          ] refl
    ] refl

settled_moves : (replay : Replay) (plies : ℕ) (words : List (List ℕ)) → AllOnBoard replay
    → AreLegal replay → Settled (FitMoves replay plies words)
settled_moves replay plies [] on_board legal = inl tt
settled_moves replay plies (word ∷ more) on_board legal =
    settled_both (settled_move replay plies word on_board legal)
    (settled_moves replay (plies + 1) more on_board legal)

-- a text is like a word or not
settled_star : (word : List ℕ) → ((text : List ℕ) → Settled (IsLike word text)) → (text : List ℕ)
    → Settled (IsLike (42 ∷ word) text)
settled_star word each [] = settled_like (star_now word []) (star_none word) (each [])
settled_star word each (b ∷ text) =
    settled_like (λ either.
    elim either [ inl now ↦ star_now word (b ∷ text) now | inr on ↦ star_on word b text on ])
    (star_cases word b text)
    (settled_either (each (b ∷ text)) (settled_star word each text))

settled_byte : (word : List ℕ) (b : ℕ) → (b ≡ 42 → ⊥)
    → ((text : List ℕ) → Settled (IsLike word text)) → (text : List ℕ)
    → Settled (IsLike (b ∷ word) text)
settled_byte word b plain each [] = inr (byte_none word b plain)
settled_byte word b plain each (c ∷ text) =
    settled_like (λ both.
    subst (λ n. IsLike (b ∷ word) (n ∷ text)) (sym both.0) (byte_now word b text both.1))
    (byte_back word b c text plain)
    (settled_both (cases_eq c b) (each text))

settled_alike : (word text : List ℕ) → Settled (IsLike word text)
settled_alike [] text = cases_bytes text []
settled_alike (b ∷ word) text = elim (cases_eq b 42) [
  | inl is ↦ rw is (settled_star word (settled_alike word) text)
  | inr plain ↦ settled_byte word b plain (settled_alike word) text
]

settled_on : (replay : Replay) (plies : ℕ) (word : List ℕ) → AllOnBoard replay → AreLegal replay
    → Settled (GoesOnBy replay plies word)
settled_on replay plies word on_board legal =
    elim (slice_get replay.positions plies) as (λ o. slice_get replay.positions plies ≡ o
    → Settled (GoesOnBy replay plies word)) [
      | None ↦ λ none. inr (λ goes. let here = goes.here in cc)
      | Some P ↦ λ here.
          elim (slice_get replay.played plies) as (λ o. slice_get replay.played plies ≡ o
          → Settled (GoesOnBy replay plies word)) [
            | None ↦ λ none. inr (λ goes. let played = goes.played in cc)
            | Some m ↦ λ played.
                let text = some_san P m (on_board plies P here) (legal plies P m here played) in
                settled_by (λ r reports.
                gone_on replay plies word P m r here played
                (like_move P m word text.0 r one_san text.1 reports))
                (settled_alike word (without_check_signs text.0))
          ] refl
    ] refl

settled_reached : (replay : Replay) (plies : ℕ) (word : List ℕ) → AllOnBoard replay
    → AreLegal replay → Settled (IsReachedBy replay plies word)
settled_reached replay zero word on_board legal = inr (λ h. let none = h.1 in omega (arith, none))
settled_reached replay (suc plies) word on_board legal =
    settled_like (λ goes. (plies, (omega arith), goes))
    (λ h. let same : h.0 ≡ plies = (let is = h.1 in omega (arith, is)) in
    subst (λ n. GoesOnBy replay n word) same h.2)
    (settled_on replay plies word on_board legal)

-- ---- conditions, alternatives, criteria

pub settled_taken : {A : Type 0} (denied : Bool) → Settled A → Settled (Taken denied A)
settled_taken false settled = settled
settled_taken true (inl a) = inr (λ none. none a)
settled_taken true (inr none) = inl none

settled_game : (heading : Heading) (replay : Replay) (claim : GameClaim (List ℕ))
    → AllOnBoard replay → AreLegal replay → Settled (IsSoOfGame heading replay claim)
settled_game heading replay (Tag names value) on_board legal =
    settled_one_of heading value (parted_at 124 names)
settled_game heading replay (Moves words) on_board legal =
    settled_moves replay 0 (words_of words) on_board legal
settled_game heading replay (Plies comparison count) on_board legal =
    settled_compared comparison (length replay.played) count
settled_game heading replay (Result result) on_board legal = cases_bytes heading.result result

settled_ply : (replay : Replay) (ply : ℕ) (claim : MoveClaim (List ℕ))
    → AllOnBoard replay → AreLegal replay → Settled (IsSoOfMoves replay ply claim)
settled_ply replay ply (Next word) on_board legal = settled_on replay ply word on_board legal
settled_ply replay ply (Played word) on_board legal = settled_reached replay ply word on_board legal
settled_ply replay ply (Setup setup) on_board legal = settled_set_up replay ply setup on_board

settled_position : (P : State) (claim : PositionClaim (List ℕ)) → AreOnBoard P.men
    → Settled (IsSoAt P claim)
settled_position P (Fen pattern) on_board = settled_pattern P.men pattern
settled_position P (Flip pattern) on_board =
    settled_either (settled_pattern P.men pattern) (settled_pattern (flipped_men P.men) pattern)
settled_position P (Material white black) on_board = settled_material P.men white black
settled_position P (Turn side) on_board = cases_side P.turn side
settled_position P Check on_board = settled_check P.men P.turn on_board
settled_position P Mate on_board = settled_mate P on_board
settled_position P Stalemate on_board = settled_stalemate P on_board

settled_taken_all : {C : Type 0} (So : C → Type 0) (settled : (claim : C) → Settled (So claim))
    (conditions : List (Stated C)) → Settled (AllTaken So conditions)
settled_taken_all So settled [] = inl tt
settled_taken_all So settled (one ∷ more) =
    settled_both (settled_taken one.is_denied (settled one.claim))
    (settled_taken_all So settled more)

tried_on_board : (P other : State) (turned : Bool) → AreOnBoard P.men → AreOnBoard other.men
    → AreOnBoard (if turned then other else P).men
tried_on_board P other true on_board other_on = other_on
tried_on_board P other false on_board other_on = on_board

settled_each : (P other : State) (conditions : List (PositionCondition (List ℕ)))
    → AreOnBoard P.men → AreOnBoard other.men → Settled (EachHold P other conditions)
settled_each P other [] on_board other_on = inl tt
settled_each P other (condition ∷ more) on_board other_on =
    let turned = is_turned condition in
    settled_both
    (settled_taken condition.is_denied
    (settled_position (if turned then other else P) condition.claim
    (tried_on_board P other turned on_board other_on)))
    (settled_each P other more on_board other_on)

settled_all : (heading : Heading) (replay : Replay) (ply : ℕ) (P : State) (asked : Conditions)
    → AllOnBoard replay → AreLegal replay → AreOnBoard P.men
    → Settled (AllHold heading replay ply P asked)
settled_all heading replay ply P asked all legal on_board =
    let games = settled_taken_all (IsSoOfGame heading replay)
    (λ claim. settled_game heading replay claim all legal) asked.games in
    let moves = settled_taken_all (IsSoOfMoves replay ply)
    (λ claim. settled_ply replay ply claim all legal) asked.moves in
    let positions = settled_either (settled_each P P asked.positions on_board on_board)
    (settled_each P (mirror P) asked.positions on_board (mirrored_on P.men)) in
    settled_like (λ (own, rest). (own, rest.0, rest.1)) (λ hold. (hold.0, (hold.1, hold.2)))
    (settled_both games (settled_both moves positions))

-- the plies at which they hold
settled_there : (heading : Heading) (replay : Replay) (conditions : Conditions) → AllOnBoard replay
    → AreLegal replay → (ply : ℕ) → Settled (HoldsThere heading replay conditions ply)
settled_there heading replay conditions all legal ply =
    elim (slice_get replay.positions ply) as (λ o. slice_get replay.positions ply ≡ o
    → Settled (HoldsThere heading replay conditions ply)) [
      | None ↦ λ none. inr (λ there. let here = there.1 in cc)
      | Some P ↦ λ here.
          settled_like (λ hold. (P, here, hold))
          (λ there. let same : there.0 ≡ P = cc (there.1, here) in
          subst (λ p. AllHold heading replay ply p conditions) same there.2)
          (settled_all heading replay ply P conditions all legal (all ply P here))
    ] refl

module _ (Such : ℕ → Type 0) (size : ℕ) (settled : (ply : ℕ)
    → Settled (Such ply)) (within : (ply : ℕ) → Such ply → ply < size) where
  counted_down : (least many : ℕ) → AreFrom Such least many → (all : ℕ) × AreFrom Such 0 all
  counted_down zero many from = (many, from)
  counted_down (suc least) many from =
      let next : suc least ≡ least + 1 = omega arith in
      let here : AreFrom Such (least + 1) many = subst (λ n. AreFrom Such n many) next from in
      elim (settled least) [
        | inl such ↦ counted_down least (many + 1) (one_before Such least many here such)
        | inr none ↦ counted_down least many (none_before Such least many here none)
      ]

  all_listed : (plies : List ℕ) × AreAll Such plies
  all_listed =
      let counted = counted_down size 0 (none_from Such size within) in
      let listed = from_first Such counted.0 counted.1 in
      (listed.0, listed.1)

  settled_run : (ply count : ℕ) → Settled ((i : ℕ) → i < count → Such (ply + i))
  settled_run ply zero = inl (λ i less. absurd (omega (arith, less)))
  settled_run ply (suc count) = elim (settled_run ply count) [
    | inr fails ↦ inr (λ all. fails (λ i less. all i (omega (arith, less))))
    | inl before ↦ elim (settled (ply + count)) [
      | inr none ↦ inr (λ all. none (all count (omega arith)))
      | inl such ↦ inl (λ i less. elim (cases_lt i count) [
        | inl sooner ↦ before i sooner
        | inr up ↦ let same : count ≡ i = omega (arith, up, less) in
            subst (λ n. Such (ply + n)) same such
      ])
    ]
  ]

  settled_span : (ply : ℕ) (claim : SpanClaim) → Settled (SpanHolds Such ply claim)
  settled_span ply (For count) = settled_run ply count
  settled_span ply (Count comparison count) =
      settled_like (λ compares. (all_listed.0, all_listed.1, compares))
      (λ holds.
      rw (← (one_number Such holds.0 all_listed.0 holds.1 all_listed.1)) holds.2)
      (settled_compared comparison (length all_listed.0) count)

  settled_spans : (ply : ℕ) (claims : List SpanClaim) → Settled (SpansHold Such ply claims)
  settled_spans ply [] = inl tt
  settled_spans ply (claim ∷ more) = settled_both (settled_span ply claim) (settled_spans ply more)

settled_met : (heading : Heading) (replay : Replay) (ply : ℕ) (P : State) (alternative : Conditions)
    → AllOnBoard replay → AreLegal replay
    → AreOnBoard P.men → Settled (IsMetBy heading replay ply P alternative)
settled_met heading replay ply P alternative all legal on_board =
    settled_both (settled_all heading replay ply P alternative all legal on_board)
    (settled_spans (HoldsThere heading replay alternative) (length replay.positions)
    (settled_there heading replay alternative all legal)
    (λ at there. slice_get_within replay.positions at there.0 there.1) ply alternative.spans)

settled_some : (heading : Heading) (replay : Replay) (ply : ℕ) (P : State)
    (alternatives : List Conditions) → AllOnBoard replay
    → AreLegal replay → AreOnBoard P.men → Settled (SomeHold heading replay ply P alternatives)
settled_some heading replay ply P [] all legal on_board = inr (λ h. h)
settled_some heading replay ply P (alternative ∷ more) all legal on_board =
    settled_either (settled_met heading replay ply P alternative all legal on_board)
    (settled_some heading replay ply P more all legal on_board)

pub each_position_meets : EachPositionMeetsOrDoesNot
each_position_meets lines fen items replay is heading alternatives plies =
    let all = line_on_board (main_words items 0) is.start replay.positions replay.played
    (start_on_board fen is.start is.is_start) is.line in
    let legal = line_legal (main_words items 0) is.start replay.positions replay.played is.line in
    elim (slice_get replay.positions plies) as (λ o. slice_get replay.positions plies ≡ o
    → Settled (Meets heading replay plies alternatives)) [
      | None ↦ λ none. inr (λ met. let here = met.here in cc)
      | Some P ↦ λ here.
          settled_by (λ r reports. meets_at heading replay plies alternatives P r here reports)
          (settled_some heading replay plies P alternatives all legal (all plies P here))
    ] refl
