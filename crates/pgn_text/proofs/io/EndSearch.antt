-- The search for a block's end: what is known at each turn, and what each way out of it gives.
use Rattle.std.proofs.Common.{◌≡◌, ℕ, ◌+◌, ◌-◌, ◌<◌, ◌≤◌, max, Bool, true, false, List, [], ◌∷◌}
use Rattle.std.proofs.Common.{◌++◌, length, take, drop, Option, refl, sym, ap, ◌∙◌, subst, arith}
use Rattle.std.proofs.Common.{length-append, length-drop, append_assoc, inl, inr}
use Rattle.std.specs.Prelude.{◌≢◌}
use Rattle.std.specs.Io.KnownBytes.{IsAtEnd}
use Rattle.std.proofs.lemmas.List.{append-nil, drop-drop}
use Rattle.pgn_text.proofs.Common.{both_ways, cases_lt, take-append-drop, length-take-le}
use Rattle.pgn_text.proofs.Common.{nil_from_length, drop-append-le, drop_all, take_all}
use Rattle.pgn_text.proofs.Common.{IsFirstBlock, is_cut, NoCutBefore, block_limit, largest_offset}
use Rattle.pgn_text.proofs.Common.{IsNextCut, FindsEnd, Reads, FailsAfter}
use Rattle.pgn_text.specs.Private.Held.{IsOccupiedBy}
use Rattle.pgn_text.specs.Public.Limits.{window_limit}
use Rattle.pgn_text.specs.Private.Searches.{FindsMore, FailsFrom, GivesUp}
use Rattle.pgn_text.specs.Public.Tallies.{AppendsRead}
use Rattle.pgn_text.specs.declared.io.blocks.ReadError.{ReadError}
use Rattle.pgn_text.specs.declared.io.blocks.ReadError.TheVariants.{Read, OutOfMemory, InputTooLong}
use Rattle.pgn_text.specs.declared.io.blocks.ReadError.TheVariants.{Failed}
use Rattle.pgn_text.proofs.io.BlockCuts.{cut_stays, cut_moved, no_cut_moved, no_cut_join}
use Rattle.pgn_text.proofs.io.BlockCuts.{first_block_at_cut, first_block_at_end}
use Rattle.pgn_text.proofs.Joined.{reads_join, reads_none}

-- the search has passed over all places of the block from after its first byte to `from`. Its first
-- bytes, so many as `lost` says,
-- were given up, and the others are held from `begin` on. Of the bytes done with before it, which
-- stand before `begin`, the first were too
pub record Searched (done ahead held : List ℕ) (place begin lost from : ℕ)
    (left now : Option (List ℕ)) (moved count : ℕ) (faulted : Bool) : Type 0 where
  pub read : List ℕ
  pub gone : List ℕ
  pub reads : Reads left now moved count read
  pub counted : length gone ≡ lost
  pub joined : ahead ++ read ≡ gone ++ drop begin held
  pub after : begin < from
  pub within : from ≤ length held + 1
  pub none : NoCutBefore (gone ++ drop begin held) 1 (lost + (from - begin))
  pub long : 0 < lost → (block_limit ≤ lost) × (begin + 8 ≤ length held)
  pub room : place + (lost + (length held - begin)) ≤ largest_offset
  pub bound : length held ≤ window_limit
  pub sound : faulted ≡ false
  pub given_up : List ℕ
  pub front : done ++ gone ≡ given_up ++ take begin held

-- bytes that none were joined to
pub nothing_joined : {held held' more : List ℕ} → held' ≡ held ++ more → more ≡ [] → held' ≡ held
nothing_joined {held} is nothing = is ∙ ap (λ t. held ++ t) nothing ∙ append-nil held

-- before the first turn
pub search_start : {held : List ℕ} {at place : ℕ} {left : Option (List ℕ)} {moved : ℕ}
    {faulted : Bool} → IsOccupiedBy held at place → faulted ≡ false
    → Searched (take at held) (drop at held) held place at 0 (at + 1) left left moved moved faulted
search_start {held} {at} {place} {left} {moved} h sound = record {
  read = [];
  gone = [];
  reads = reads_none left moved;
  counted = refl;
  joined = append-nil (drop at held);
  after = omega arith;
  within = (let w = h.within in omega arith);
  none = λ j low high. absurd (omega arith);
  long = λ some. absurd (omega arith);
  room = (let r = h.room in omega arith);
  bound = h.bound;
  sound = sound;
  given_up = [];
  front = append-nil (take at held);
}

-- what was read of the block holds no event line after its first byte
pub record Passed (ahead held : List ℕ) (place lost : ℕ) (left now : Option (List ℕ))
    (moved count : ℕ) : Type 0 where
  pub read : List ℕ
  pub gone : List ℕ
  pub reads : Reads left now moved count read
  pub counted : length gone ≡ lost
  pub joined : ahead ++ read ≡ gone ++ held
  pub none : NoCutBefore (gone ++ held) 1 (length (gone ++ held))
  pub long : 0 < lost → (block_limit ≤ lost) × (8 ≤ length held)
  pub room : place + (lost + length held) ≤ largest_offset
  pub few : length held < block_limit + 8

module _ {done ahead held : List ℕ} {place begin lost from : ℕ} {left now : Option (List ℕ)}
    {moved count : ℕ} {faulted : Bool}
    (s : Searched done ahead held place begin lost from left now moved count faulted) where
  -- an event line ends the block
  pub cut_found : {cut : ℕ} (seen : List ℕ) → seen ≡ held → IsNextCut seen from cut
      → FindsEnd done ahead held place left now moved count
      (record { size = lost + (cut - begin); at = cut; is_last = false })
  cut_found {cut} seen same next =
      let bytes = s.gone ++ drop begin (take cut held) in
      let low : begin < cut = (let a = next.low in let b = s.after in omega arith) in
      let fits : cut + 8 ≤ length held = omega (arith, next.seen, ap length same) in
      let front : length (take cut held) ≡ cut = length-take-le cut held (omega arith) in
      let back : length (drop cut held) ≡ length held - cut = length-drop cut held in
      let part : drop begin held ≡ drop begin (take cut held) ++ drop cut held =
      ap (drop begin) (sym (take-append-drop cut held))
      ∙ drop-append-le begin (take cut held) (drop cut held) (omega arith) in
      let whole : s.gone ++ drop begin held ≡ bytes ++ drop cut held =
      ap (λ t. s.gone ++ t) part
      ∙ sym (append_assoc s.gone (drop begin (take cut held)) (drop cut held)) in
      let kept : length (drop begin (take cut held)) ≡ cut - begin =
      length-drop begin (take cut held) ∙ ap (λ k. k - begin) front in
      let size : length bytes ≡ lost + (cut - begin) =
      length-append s.gone (drop begin (take cut held)) ∙ (let c = s.counted in omega arith) in
      let here : is_cut (s.gone ++ drop begin held) (length s.gone + (cut - begin)) ≡ true =
      cut_moved s.gone held begin cut low ∙ ap (λ t. is_cut t cut) (sym same) ∙ next.here in
      let there : length s.gone + (cut - begin) ≡ length bytes =
      (let c = s.counted in omega arith) in
      let zero : 0 + length bytes ≡ length bytes = omega arith in
      let before : NoCutBefore (s.gone ++ drop begin held) 1 (length bytes) =
      no_cut_join (s.gone ++ drop begin held) 1 (length s.gone + (from - begin)) (length bytes)
      (λ j a b. s.none j a (let c = s.counted in omega arith))
      (λ j a b. no_cut_moved s.gone held begin from cut s.after (λ i x y.
      ap (λ t. is_cut t i) (sym same) ∙ next.before i x y) j a (omega arith)) in
      record {
        read = s.read;
        bytes = bytes;
        reads = s.reads;
        parted = s.joined ∙ whole;
        sized = size;
        kept = λ short.
            elim (cases_lt 0 lost) [
              | inl some ↦ absurd (let h = (s.long some).0 in omega arith)
              | inr none ↦
                  let nothing : s.gone ≡ [] = nil_from_length s.gone (s.counted ∙ omega arith) in
                  let place' : length (take cut held) - (lost + (cut - begin)) ≡ begin =
                  omega arith in (
                    omega arith,
                    ap (λ k. drop k (take cut held)) place'
                        ∙ ap (λ t. t ++ drop begin (take cut held)) (sym nothing),
                  )
            ];
        inside = omega arith;
        first = λ rest _.
            first_block_at_cut [] bytes (drop cut held) rest (omega arith)
            (λ j a b. ap (λ t. is_cut t j) (sym whole) ∙ before j (omega arith) (omega arith))
            (ap (is_cut (bytes ++ drop cut held)) zero
            ∙ ap (λ t. is_cut t (length bytes)) (sym whole)
            ∙ ap (is_cut (s.gone ++ drop begin held)) (sym there) ∙ here)
            (let e = length-append bytes (drop cut held) in omega arith);
        room = let r = s.room in omega arith;
        bound = s.bound;
        last = λ is. cc;
        more = λ _. omega arith;
        given_up = s.given_up;
        rest =
            append_assoc done ahead s.read ∙ ap (λ t. done ++ t) s.joined
            ∙ sym (append_assoc done s.gone (drop begin held))
            ∙ ap (λ t. t ++ drop begin held) s.front
            ∙ append_assoc s.given_up (take begin held) (drop begin held)
            ∙ ap (λ t. s.given_up ++ t) (take-append-drop begin held);
      }

  -- no event line is held: bytes are given up
  pub passed : {held' : List ℕ} {size front : ℕ} (seen : List ℕ) → seen ≡ held
      → NoCutBefore seen from (length seen) → size ≡ length held → GivesUp size begin lost front
      → held' ≡ drop front held
      → Passed ahead held' place (lost + (front - begin)) left now moved count
  passed {held'} {size = all_held} {front} seen same none known up is =
      let gone = s.gone ++ take (front - begin) (drop begin held) in
      let low = up.low in
      let within = up.within in
      let size : length held' ≡ length held - front = ap length is ∙ length-drop front held in
      let room : front - begin ≤ length (drop begin held) = omega (arith, length-drop begin held) in
      let taken : length (take (front - begin) (drop begin held)) ≡ front - begin =
      length-take-le (front - begin) (drop begin held) room in
      let back : begin + (front - begin) ≡ front = omega arith in
      let rest : drop (front - begin) (drop begin held) ≡ held' =
      drop-drop (front - begin) begin held ∙ ap (λ k. drop k held) back ∙ sym is in
      let whole : gone ++ held' ≡ s.gone ++ drop begin held =
      append_assoc s.gone (take (front - begin) (drop begin held)) held'
      ∙ ap (λ t. s.gone ++ (take (front - begin) (drop begin held) ++ t)) (sym rest)
      ∙ ap (λ t. s.gone ++ t) (take-append-drop (front - begin) (drop begin held)) in
      let all : length (s.gone ++ drop begin held) ≡ length s.gone + (length held - begin) =
      length-append s.gone (drop begin held) ∙ ap (λ k. length s.gone + k) (length-drop begin held)
      in
      let uncut : NoCutBefore (s.gone ++ drop begin held) 1 (length (s.gone ++ drop begin held)) =
      no_cut_join (s.gone ++ drop begin held) 1 (length s.gone
      + (from - begin)) (length (s.gone ++ drop begin held))
      (λ j a b. s.none j a (let c = s.counted in omega arith))
      (λ j a b.
      no_cut_moved s.gone held begin from (length held) s.after
      (λ i x y. ap (λ t. is_cut t i) (sym same)
      ∙ none i x (let e = ap length same in omega arith)) j a (omega arith)) in
      record {
        read = s.read;
        gone = gone;
        reads = s.reads;
        counted = length-append s.gone (take (front - begin) (drop begin held))
            ∙ (let c = s.counted in omega arith);
        joined = s.joined ∙ sym whole;
        none = λ j a b. ap (λ t. is_cut t j) whole
            ∙ uncut j a (let e = ap length whole in omega arith);
        long = λ some. let h = up.long some in (h.0, let x = h.1 in omega arith);
        room = let r = s.room in omega arith;
        few = let f = up.few in omega arith;
      }

module _ {ahead held : List ℕ} {place lost : ℕ} {left now : Option (List ℕ)} {moved count : ℕ}
    (p : Passed ahead held place lost left now moved count) where
  -- these hold no event line within
  uncut_so_far : IsFirstBlock (ahead ++ p.read) []
  uncut_so_far =
      rw p.joined (first_block_at_end [] (p.gone ++ held) (λ j a b. p.none j (omega arith) b))

  size_so_far : length (ahead ++ p.read) ≡ lost + length held
  size_so_far = ap length p.joined ∙ length-append p.gone held ∙ ap (λ k. k + length held) p.counted

  -- the text's end ends the block
  pub end_found : {done held' : List ℕ} {left' : Option (List ℕ)} {moved' : ℕ} (read : List ℕ)
      → Reads now left' count moved' read → read ≡ [] → IsAtEnd left'
      → held' ≡ held → (size : ℕ) → size ≡ length held
      → FindsEnd done ahead held' place left left' moved moved'
      (record { size = lost + size; at = size; is_last = true })
  end_found {done} {held'} {left'} {moved'} read reads nothing ended same size known =
      subst (λ k.
      FindsEnd done ahead held' place left left' moved moved'
      (record { size = lost + k; at = k; is_last = true })) (sym known)
      (let bytes = p.gone ++ held in
      let none_left : drop (length held) held' ≡ [] =
      drop_all (length held) held' (omega (arith, ap length same)) in
      let all : take (length held) held' ≡ held =
      ap (take (length held)) same ∙ take_all (length held) held (omega arith) in
      record {
        read = p.read ++ read;
        bytes = bytes;
        reads = reads_join left now left' moved count moved' p.read read p.reads reads;
        parted =
            ap (λ t. ahead ++ (p.read ++ t)) nothing ∙ ap (λ t. ahead ++ t) (append-nil p.read)
            ∙ p.joined
            ∙ sym (append-nil bytes) ∙ ap (λ t. bytes ++ t) (sym none_left);
        sized = length-append p.gone held ∙ ap (λ k. k + length held) p.counted;
        kept = λ short.
            elim (cases_lt 0 lost) [
              | inl some ↦ absurd (let h = p.long some in let a = h.0 in let b = h.1 in omega arith)
              | inr none ↦
                  let gone : p.gone ≡ [] = nil_from_length p.gone (p.counted ∙ omega arith) in
                  let size : length (take (length held) held') ≡ length held = ap length all in
                  let front : length (take (length held) held') - (lost + length held) ≡ 0 =
                  omega arith in (
                    omega arith,
                    ap (λ k. drop k (take (length held) held')) front ∙ all
                        ∙ ap (λ t. t ++ held) (sym gone),
                  )
            ];
        inside = omega (arith, ap length same);
        first = λ rest none.
            subst (IsFirstBlock bytes) (sym (ap (λ t. t ++ rest) none_left ∙ none refl))
            (first_block_at_end [] bytes (λ j a b. p.none j (omega arith) b));
        room = let r = p.room in let e = ap length same in omega arith;
        bound = let f = p.few in let e = ap length same in omega arith;
        last = λ _. (sym (ap length same), ended);
        more = λ no. absurd (both_ways true no refl);
        given_up = done ++ p.gone;
        rest =
            ap (λ t. (done ++ ahead) ++ (p.read ++ t)) nothing
            ∙ ap (λ t. (done ++ ahead) ++ t) (append-nil p.read)
            ∙ append_assoc done ahead p.read ∙ ap (λ t. done ++ t) p.joined
            ∙ sym (append_assoc done p.gone held)
            ∙ ap (λ t. (done ++ p.gone) ++ t) (sym same);
      })

  -- one byte too many
  pub past_limit : {left' : Option (List ℕ)} {moved' : ℕ}
      → place + (lost + length held) ≡ largest_offset
      → FindsMore now left' count moved' true
      → FailsFrom place ahead left left' moved moved' InputTooLong
  past_limit {left'} {moved'} full more =
      let one = one_byte more.read (more.one refl) in
      record {
        read = p.read ++ more.read;
        reads = reads_join left now left' moved count moved' p.read more.read p.reads more.reads;
        fails = record {
          kept = p.read;
          byte = one.0;
          parted = ap (λ t. p.read ++ t) one.1;
          uncut = uncut_so_far;
          full = ap (λ k. place + k) size_so_far ∙ full;
        };
        other = λ is. cc;
      }
    where
      one_byte : (xs : List ℕ) → length xs ≡ 1 → (b : ℕ) × (xs ≡ b ∷ [])
      one_byte [] e = absurd (omega arith)
      one_byte (x ∷ []) e = (x, refl)
      one_byte (x ∷ y ∷ xs) e = absurd (omega arith)

  -- a read failed, or the room for it
  pub failed_so_far : {left' : Option (List ℕ)} {moved' : ℕ} (error : ReadError)
      → error ≢ Failed → error ≢ InputTooLong → Reads now left' count moved' []
      → FailsFrom place ahead left left' moved moved' error
  failed_so_far {left'} {moved'} error other short last =
      record {
        read = p.read;
        reads =
            let both = reads_join left now left' moved count moved' p.read [] p.reads last in
            subst (λ r. Reads left left' moved moved' r) (append-nil p.read) both;
        fails = by_kind error other short;
        other = other;
      }
    where
      room : place + length (ahead ++ p.read) ≤ largest_offset
      room = let r = p.room in let e = size_so_far in omega arith

      by_kind : (e : ReadError) → e ≢ Failed → e ≢ InputTooLong → FailsAfter place ahead p.read e
      by_kind Read _ _ = record { uncut = uncut_so_far; within = room }
      by_kind OutOfMemory _ _ = room
      by_kind InputTooLong _ short = absurd (short refl)
      by_kind Failed other _ = absurd (other refl)

  -- a read failed
  pub read_failed : {left' : Option (List ℕ)} {moved' : ℕ} (error : ReadError) → error ≡ Read
      → Reads now left' count moved' []
      → FailsFrom place ahead left left' moved moved' error
  read_failed error is last =
      failed_so_far error (λ other. let k = sym is ∙ other in cc) (λ other. let k =
      sym is ∙ other in cc) last

  -- more bytes came: only the last seven of those before may begin an event line
  pub search_more : {done held' : List ℕ} {left' : Option (List ℕ)} {moved' room more next : ℕ}
      {faulted' : Bool}
      → AppendsRead held held' now left' count moved' room more → faulted' ≡ false
      → place + (lost + length held) + room ≤ largest_offset
      → length held + room ≤ window_limit → next ≡ max (length held - 7) 1
      → Searched done ahead held' place 0 lost next left left' moved moved' faulted'
  search_more {done} {held'} {left'} {moved'} {room} {more} {next} {faulted'} appended sound fits
      narrow is =
      let size : length held' ≡ length held + more =
      omega (
        arith,
        ap length appended.joined,
        length-append held appended.read,
        appended.counted,
      ) in
      let few = appended.within in
      let whole : p.gone ++ held' ≡ (p.gone ++ held) ++ appended.read =
      ap (λ t. p.gone ++ t) appended.joined ∙ sym (append_assoc p.gone held appended.read) in
      let all : length (p.gone ++ held) ≡ lost + length held =
      length-append p.gone held ∙ ap (λ k. k + length held) p.counted in
      record {
        read = p.read ++ appended.read;
        gone = p.gone;
        reads = reads_join left now left' moved count moved' p.read appended.read p.reads
            appended.reads;
        counted = p.counted;
        joined = sym (append_assoc ahead p.read appended.read)
            ∙ ap (λ t. t ++ appended.read) p.joined ∙ sym whole;
        after = omega arith;
        within = omega arith;
        none = λ j a b.
            let seen : j + 8 ≤ length (p.gone ++ held) =
            elim (cases_lt 0 lost) [
              | inl some ↦ let h = (p.long some).1 in omega arith
              | inr none ↦ omega arith
            ] in
            ap (λ t. is_cut t j) whole
            ∙ cut_stays (p.gone ++ held) appended.read j (omega arith) seen
            ∙ p.none j a (omega arith);
        long = λ some. let h = p.long some in (h.0, let x = h.1 in omega arith);
        room = omega arith;
        bound = omega arith;
        sound = sound;
        given_up = done ++ p.gone;
        front = sym (append-nil (done ++ p.gone));
      }
