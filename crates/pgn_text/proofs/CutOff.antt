-- A block cut off from the bytes held, as the window shows it.
use Rattle.std.proofs.Common.{Option}
use Rattle.std.proofs.lemmas.List.{append-nil, drop_all, take-append-drop}
use Rattle.pgn_text.proofs.Common.{◌≡◌, ℕ, ◌+◌, ◌-◌, ◌≤◌, Bool, false, List, [], ◌++◌, length, take}
use Rattle.pgn_text.proofs.Common.{drop, sym, ap, ◌∙◌, arith, append_assoc, length-append}
use Rattle.pgn_text.proofs.Common.{length-drop, block_limit, FindsEnd, Reads, Window, IsCutOff}
use Rattle.pgn_text.specs.Public.Windows.{EndsIn, HoldsTheRest}
use Rattle.pgn_text.specs.declared.io.blocks.BlockEnd.{BlockEnd}
use Rattle.pgn_text.specs.Public.AnswerLaws.{DoneWithTheBlock}
use Rattle.pgn_text.proofs.OneList.{same_fronts}

-- the window over some bytes, of which those before a place are done with
abbrev pub window_at : List ℕ → ℕ → ℕ → Bool → Bool → Bool → Window
window_at held at place failed ended over =
    record {
      done = take at held;
      ahead = drop at held;
      place = place;
      failed = failed;
      ended =
          ended;
      over = over;
    }

-- a search for a block's end cuts the block off
pub cut_off : (held : List ℕ) (at : ℕ) {held' : List ℕ} {place : ℕ} {left left' : Option (List ℕ)}
    {moved moved' : ℕ} {failed ended over failed' ended' over' : Bool} {end : BlockEnd}
    → ended ≡ false → (ended' ≡ end.is_last) × (failed' ≡ false) × (over' ≡ false)
    → FindsEnd (take at held) (drop at held) held' place left left' moved moved' end
    → (read : List ℕ) × Reads left left' moved moved' read
    × ((bytes : List ℕ)
    × IsCutOff (window_at held at place failed ended over)
    (window_at held' end.at (place + end.size) failed' ended' over') left' read bytes
    × (length bytes ≡ end.size)
    × (end.size ≤ block_limit → EndsIn (take end.at held') end.size bytes))
    × HoldsTheRest (window_at held at place failed ended over)
    (window_at held' end.at (place + end.size) failed' ended' over') read
cut_off held at {held'} {place} {end = end} going phase finds =
    let after : length (drop end.at held') ≡ length held' - end.at = length-drop end.at held' in (
      finds.read,
      finds.reads,
      (
        finds.bytes,
        record {
          going = going;
          parted = finds.parted;
          first = λ rest none. finds.first rest (λ is. none (phase.0 ∙ is));
          place = ap (λ k. place + k) (sym finds.sized);
          within = let r = finds.room in omega arith;
          last = λ is.
              let l = finds.last (sym phase.0 ∙ is) in
              (drop_all end.at held' (let e = l.0 in omega arith), l.1);
          more = λ is none. let m = finds.more (sym phase.0 ∙ is) in let e = ap length none in
              omega arith;
          sound = (phase.1, phase.2);
        },
        finds.sized,
        finds.kept,
      ),
      record {
        given_up = finds.given_up;
        held = finds.rest ∙ ap (λ l. finds.given_up ++ l) (sym (take-append-drop end.at held'));
      },
    )

-- where all bytes are given up, none is held
pub none_held : (old : Window) (held read : List ℕ) {place : ℕ} {failed ended over : Bool}
    → held ≡ []
    → HoldsTheRest old (window_at held 0 place failed ended over) read
none_held old held read none = record {
  given_up = (old.done ++ old.ahead) ++ read;
  held =
      sym (append-nil ((old.done ++ old.ahead) ++ read))
      ∙ ap (λ l. ((old.done ++ old.ahead) ++ read) ++ l) (sym (take-append-drop 0 held ∙ none));
}

pub done_with_the_block : DoneWithTheBlock
done_with_the_block old new left' read block cut holds =
    let all : (old.done ++ block) ++ new.ahead ≡ (holds.given_up ++ new.done) ++ new.ahead =
    append_assoc old.done block new.ahead ∙ ap (λ l. old.done ++ l) (sym cut.parted)
    ∙ sym (append_assoc old.done old.ahead read)
    ∙ holds.held ∙ sym (append_assoc holds.given_up new.done new.ahead) in
    let size : length (old.done ++ block) ≡ length (holds.given_up ++ new.done) =
    omega (
      arith,
      ap length all,
      length-append (old.done ++ block) new.ahead,
      length-append (holds.given_up ++ new.done) new.ahead,
    ) in (
      holds.given_up,
      (same_fronts (old.done ++ block) new.ahead (holds.given_up
          ++ new.done) new.ahead size all).0,
    )
