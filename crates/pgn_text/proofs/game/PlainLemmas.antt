-- A game read on over plain movetext.
use Rattle.std.specs.Prelude.{None}
use Rattle.pgn_text.proofs.Common.{◌≡◌, ℕ, Bool, true, false, List, ◌++◌, refl, sym, ap, ◌∙◌, subst}
use Rattle.pgn_text.proofs.Common.{append-nil, append_assoc, Option, Some, option_or, Item}
use Rattle.pgn_text.proofs.Common.{is_plain_kept, ArePlain, none, PlainTo, Kept, KeptGap, KeptTag}
use Rattle.pgn_text.proofs.Common.{KeptMove, KeptNumber, KeptResult, KeptDot, is_kept_result}
use Rattle.pgn_text.proofs.Common.{step_kept, items_of_kept, named_kept, State}
use Rattle.pgn_text.specs.Private.Movetext.{one_more, AddsElements}
use Rattle.pgn_text.proofs.game.ReadLemmas.{ReadTo, read_more, KeptUpTo}
use Rattle.pgn_text.proofs.TagLemmas.{option_or-none}

-- a part of plain movetext is no result
plain_no_result : (token : Kept) → is_plain_kept token ≡ true → is_kept_result token ≡ false
plain_no_result KeptResult is = absurd (cc)
plain_no_result _ is = refl

-- after a move, a part of plain movetext leaves the state as it is
plain_steps : (max_depth depth : ℕ) (token : Kept) → is_plain_kept token ≡ true
    → step_kept max_depth (record { in_tags = false; depth = depth; has_move = true }) token
    ≡ Some (record { in_tags = false; depth = depth; has_move = true })
plain_steps max_depth depth KeptGap is = refl
plain_steps max_depth depth (KeptMove word) is = refl
plain_steps max_depth depth KeptNumber is = refl
plain_steps max_depth depth KeptDot is = refl
plain_steps max_depth depth _ is = absurd (cc)

-- a state in the movetext, after a move
after_move : (state : State) → state.in_tags ≡ false → state.has_move ≡ true
    → state ≡ record { in_tags = false; depth = state.depth; has_move = true }
after_move state movetext moved =
    ap (λ (b : Bool). record { in_tags = b; depth = state.depth; has_move = state.has_move })
    movetext
    ∙ ap (λ (b : Bool). record { in_tags = false; depth = state.depth; has_move = b }) moved

-- a part of plain movetext is no tag
plain_no_tag : (token : Kept) → is_plain_kept token ≡ true → (wanted : List ℕ)
    → named_kept wanted token ≡ None
plain_no_tag (KeptTag name contents) is wanted = absurd (cc)
plain_no_tag _ is wanted = refl

read_over : (max_depth : ℕ) (f : Bool) (block : List ℕ) (begin at end : ℕ) (state : State)
    (tags : List ℕ → Option (List ℕ)) (elements moves : List Item)
    → state ≡ record { in_tags = false; depth = state.depth; has_move = true }
    → ReadTo max_depth f block begin at state tags elements → ArePlain f block at moves end
    → ReadTo max_depth f block begin end state tags (elements ++ moves)
read_over max_depth f block begin at end state tags elements moves state_is read none =
    subst (ReadTo max_depth f block begin at state tags) (sym (append-nil elements)) read
read_over max_depth f block begin at end state tags elements moves state_is read
    (one_more {items = items} {at = last} token before here is) =
    read_more max_depth f block begin last end state state tags tags (elements ++ items) (elements
    ++ (items ++ items_of_kept token)) token
    (read_over max_depth f block begin at last state tags elements items state_is read before) here
    (plain_no_result token is)
    (ap (λ (s : State). step_kept max_depth s token) state_is
    ∙ plain_steps max_depth state.depth token is ∙ ap Some (sym state_is))
    (λ wanted.
    sym (ap (option_or (tags wanted)) (plain_no_tag token is wanted)
    ∙ option_or-none (tags wanted)))
    (sym (append_assoc elements items (items_of_kept token)))

-- a game that was read up to plain movetext after a move is read on to its end, where its elements
-- were kept
pub kept_plain : {kept_first kept_now kept_next : (List ℕ → Option (List ℕ)) → List Item
    → Type 0} {max_depth : ℕ} {f : Bool} {block : List ℕ} {begin at end : ℕ} {state : State}
    {moves : List Item}
    → KeptUpTo kept_first kept_now max_depth f block begin at state → state.in_tags ≡ false
    → state.has_move ≡ true → PlainTo block at moves end → AddsElements kept_now kept_next moves
    → KeptUpTo kept_first kept_next max_depth f block begin end state
kept_plain {max_depth = max_depth} {f = f} {block = block} {begin = begin} {at = at} {end =
    end} {state = state} {moves = moves} up movetext moved plain adds = record {
      tags = up.tags;
      elements = up.elements ++ moves;
      read = read_over max_depth f block begin at end state up.tags up.elements moves
          (after_move state movetext moved) up.read (plain.parts f);
      keeps = λ first. adds up.tags up.elements (up.keeps first);
    }
