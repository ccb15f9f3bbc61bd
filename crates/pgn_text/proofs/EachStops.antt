-- Each text stops somewhere.
use Rattle.std.proofs.Common.{◌≡◌, ℕ, zero, suc, ◌+◌, ◌<◌, Bool, false, List, [], ◌∷◌, ◌++◌, Option}
use Rattle.std.proofs.Common.{Some, None, length, refl, sym, ap, subst, ◌∙◌, inl, inr, arith}
use Rattle.std.proofs.Common.{append_assoc, append-nil}
use Rattle.std.proofs.Math.Seq.{take-length}
use Rattle.pgn_text.proofs.Common.{cases_Bool, cases_eq, take_all, Part, standing_of, Stands}
use Rattle.pgn_text.proofs.Common.{AllStand, spelled, spelled_part, is_result, State, start, step}
use Rattle.pgn_text.proofs.Common.{IsGameFront, IsLongestViablePrefix, Walks, Follows, NoneFollows}
use Rattle.pgn_text.proofs.OneList.{shorter}
use Rattle.pgn_text.proofs.FoundLemmas.{part_or_none}
use Rattle.pgn_text.proofs.GameFronts.{Halts, stops, halts_in_part, halts_at_game, front_from}
use Rattle.pgn_text.proofs.laws.Halfway.{reads_end, stands_join, spelled-append}
use Rattle.pgn_text.proofs.error.Stuck.{in_part}
use Rattle.pgn_text.proofs.laws.PartLemmas.{one_part, part_has_byte}
use Rattle.pgn_text.proofs.Stopping.{Front, walks_more, walk_reads}

module _ (max_depth : ℕ) (f : Bool) where
  -- where no part follows
  stuck_stops : (before : List ℕ) (s : State) (done : List Part) (text : List ℕ)
      → Walks max_depth start done s
      → AllStand f before done text
      → NoneFollows max_depth (standing_of f (before ++ spelled done)) s text
      → (n : ℕ) × Halts max_depth f before (spelled done ++ text) n
  stuck_stops before s done text w h nothing =
      let found = in_part max_depth (standing_of f (before ++ spelled done)) s text nothing in (
        length (spelled done) + found.0,
        halts_in_part max_depth f before s done text found.0 w h nothing found.1.within (λ _.
            found.1.here)
            (λ k _ low p. found.1.most k low p),
      )

  -- a part that stands and may not follow is the only one that stands
  pub wrong_part : (before : List ℕ) (s : State) (text : List ℕ) (p : Part) (rest : List ℕ)
      → text ≡ spelled_part p ++ rest
      → Stands (standing_of f before) p rest → (Follows max_depth s p → ⊥)
      → NoneFollows max_depth (standing_of f before) s text
  wrong_part before s text p rest e h wrong q more g k follows =
      let one = one_part (standing_of f before) q p more rest k h (sym g ∙ e) in
      wrong (subst (Follows max_depth s) one.0 follows)

  each_stops : (fuel : ℕ) (before : List ℕ) (s : State) (done : List Part) (text : List ℕ)
      → length text < fuel
      → Walks max_depth start done s → AllStand f before done text
      → (n : ℕ) × Halts max_depth f before (spelled done ++ text) n
  each_stops zero before s done text l w h = absurd (omega (arith, l))
  each_stops (suc fuel) before s done text l w h =
      elim (part_or_none (standing_of f (before ++ spelled done)) text) [
        | inr nothing ↦ stuck_stops before s done text w h (λ p rest e k _. nothing p rest e k)
        | inl found ↦ elim (cases_Bool (is_result found.0)) [
          | inl r ↦ elim (cases_eq s.depth 0) [
            | inl closed ↦ (
              length (spelled (done ++ found.0 ∷ [])),
              halts_at_game max_depth f before (spelled done ++ text) (done ++ found.0 ∷ []) found.1
                  (walk_reads max_depth f before start s done text (found.0 ∷ []) found.1 w h
                  (reads_end max_depth f (before
                  ++ spelled done) text s found.0 found.1 found.2 found.3 r closed)),
            )
            | inr deep ↦ stuck_stops before s done text w h
                (wrong_part (before ++ spelled done) s text found.0 found.1 found.2 found.3
                (λ k. deep (k.ends r)))
          ]
          | inr r ↦ on before s done text w h found.0 found.1 found.2 found.3 r
              (step max_depth s found.0) refl
              (λ t w' h'. each_stops fuel before t (done ++ found.0 ∷ []) found.1
              (shorter text (spelled_part found.0) found.1 fuel found.2
              (part_has_byte (standing_of f (before ++ spelled done)) found.0 found.1 found.3) l) w'
              h')
        ]
      ]
    where
      on : (before : List ℕ) (s : State) (done : List Part) (text : List ℕ)
          → Walks max_depth start done s → AllStand f before done text
          → (p : Part) (rest : List ℕ) → text ≡ spelled_part p ++ rest
          → Stands (standing_of f (before ++ spelled done)) p rest
          → is_result p ≡ false → (next : Option State) → step max_depth s p ≡ next
          → ((t : State) → Walks max_depth start (done ++ p ∷ []) t
          → AllStand f before (done ++ p ∷ []) rest
          → (n : ℕ) × Halts max_depth f before (spelled (done ++ p ∷ []) ++ rest) n)
          → (n : ℕ) × Halts max_depth f before (spelled done ++ text) n
      on before s done text w h p rest e k r None steps again =
          stuck_stops before s done text w h (wrong_part (before ++ spelled done) s text p rest e k
          (λ g. let next = g.goes_on r in let x = next.1 in cc))
      on before s done text w h p rest e k r (Some t) steps again =
          let found = again t (walks_more max_depth start s t done p w r steps)
          (stands_join f before done (p ∷ []) rest
          (subst (λ l. AllStand f before done l) (e
          ∙ ap (λ l. l ++ rest) (sym (append-nil (spelled_part p)))) h) (k, tt)) in
          let same : spelled (done ++ p ∷ []) ++ rest ≡ spelled done ++ text =
          ap (λ l. l ++ rest) (spelled-append done (p ∷ [])
          ∙ ap (λ l. spelled done ++ l) (append-nil (spelled_part p)))
          ∙ append_assoc (spelled done) (spelled_part p) rest ∙ ap (λ l. spelled done ++ l) (sym e)
          in
          (found.0, subst (λ l. Halts max_depth f before l found.0) same found.1)

  halt_exists : (before text : List ℕ) → (n : ℕ) × Halts max_depth f before text n
  halt_exists before text =
      each_stops (suc (length text)) before start [] text (omega arith) refl tt

  -- each text stops somewhere, wherever it stands in a block
  pub stop_exists : (before text : List ℕ)
      → (n : ℕ) × IsLongestViablePrefix max_depth f before text n
  stop_exists before text = let found = halt_exists before text in
      (found.0, stops max_depth f before text found.0 found.1)

  -- what goes on with any numbers goes on with bytes
  with_bytes : (before x : List ℕ) → Front max_depth f before start x
      → IsGameFront max_depth f before x
  with_bytes before x k =
      let found = halt_exists before x in
      let low =
      found.1.furthest (length x) (omega arith)
      (subst (Front max_depth f before start) (sym (take-length x)) k) in
      subst (IsGameFront max_depth f before) (take_all found.0 x low) found.1.agrees

  -- so a front of a front is one
  pub front_of_front : (before x y : List ℕ) → IsGameFront max_depth f before (x ++ y)
      → IsGameFront max_depth f before x
  front_of_front before x y g =
      let k = front_from max_depth f before (x ++ y) g in
      with_bytes before x (record {
        more = y ++ k.more;
        parts = k.parts;
        reads = rw (← (append_assoc x y k.more)) k.reads;
      })
