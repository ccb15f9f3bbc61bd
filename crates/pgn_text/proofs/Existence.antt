-- Each block has a list of pieces.
use Rattle.std.proofs.Common.{◌≡◌, ℕ, zero, suc, ◌<◌, ◌≤◌, Bool, true, false, List, [], ◌∷◌, ◌++◌}
use Rattle.std.proofs.Common.{Option, Some, None, length, IsTrue, refl, sym, ap, ◌∙◌, ◌⊎◌, inl, inr}
use Rattle.std.proofs.Common.{arith, append_assoc, append-nil, length-append}
use Rattle.pgn_text.proofs.Common.{list_all, false≢true, and_parts, and_from, not_from_false}
use Rattle.pgn_text.proofs.Common.{cases_Bool, cases_eq, Part, standing_of, Stands, spelled}
use Rattle.pgn_text.proofs.Common.{spelled_part, is_gap_part, is_result, begins_outside_gap, IsGame}
use Rattle.pgn_text.proofs.Common.{State, start, step, IsGap, IsLongestGap, NoGame, Piece, Game}
use Rattle.pgn_text.proofs.Common.{Unreadable, ArePieces}
use Rattle.pgn_text.proofs.laws.PartLemmas.{one_part, part_has_byte}
use Rattle.pgn_text.proofs.FoundLemmas.{part_or_none}
use Rattle.pgn_text.proofs.OneList.{shorter, game_has_byte}
use Rattle.pgn_text.proofs.laws.Halfway.{Reads, reads_more, reads_end, reads_first, game_reads}
use Rattle.pgn_text.proofs.laws.Halfway.{reads_game}
use Rattle.pgn_text.proofs.laws.ReadAgain.{no_gap_part, empty_gap, gap_spent}

-- ---- a reading, or none

module _ (max_depth : ℕ) (file_start : Bool) where
  Reading : (before text : List ℕ) → State → Type 0
  Reading before text s =
      ((parts : List Part) × (after : List ℕ)
      × Reads max_depth file_start before text s parts after) ⊎
      ((parts : List Part) (after : List ℕ) → Reads max_depth file_start before text s parts after
      → ⊥)

  nothing_reads : (before text : List ℕ) (s : State)
      → ((p : Part) (rest : List ℕ) → text ≡ spelled_part p ++ rest
      → Stands (standing_of file_start before) p rest → ⊥)
      → (parts : List Part) (after : List ℕ) → Reads max_depth file_start before text s parts after
      → ⊥
  nothing_reads before text s none [] after h = h.leads
  nothing_reads before text s none (p ∷ more) after h =
      none p (spelled more ++ after) (h.parted
      ∙ append_assoc (spelled_part p) (spelled more) after) h.stand.0

  -- a part that is no result
  reading_on : (before text : List ℕ) (s : State) (p : Part) (rest : List ℕ)
      → text ≡ spelled_part p ++ rest → Stands (standing_of file_start before) p rest
      → is_result p ≡ false
      → (next : Option State) → step max_depth s p ≡ next
      → ((t : State) → Reading (before ++ spelled_part p) rest t)
      → Reading before text s
  unfolding Reading
  reading_on before text s p rest e h r None steps again = inr (λ parts after k.
      let next = (reads_first max_depth file_start before text s p rest parts after e h k).goes_on r
      in cc)
  reading_on before text s p rest e h r (Some t) steps again = elim (again t) [
    | inl found ↦ inl (
      p ∷ found.0,
      found.1,
      reads_more max_depth file_start before text s t p rest found.0 found.1 e h
          r steps found.2,
    )
    | inr none ↦ inr (λ parts after k.
        let first = reads_first max_depth file_start before text s p rest parts after e h k in
        let next = first.goes_on r in
        let same : next.0 ≡ t = cc in
        none first.more after (rw same at next.2))
  ]

  reading : (fuel : ℕ) (before text : List ℕ) (s : State) → length text < fuel
      → Reading before text s
  unfolding Reading
  reading zero before text s l = absurd (omega arith)
  reading (suc fuel) before text s l = elim (part_or_none (standing_of file_start before) text) [
    | inl found ↦
        let p = found.0 in let rest = found.1 in let e = found.2 in let h = found.3 in
        elim (cases_Bool (is_result p)) [
          | inl r ↦ elim (cases_eq s.depth 0) [
            | inl closed ↦ inl (
              p ∷ [],
              rest,
              reads_end max_depth file_start before text s p rest e h r closed,
            )
            | inr deep ↦ inr (λ parts after k.
                deep ((reads_first max_depth file_start before text s p rest parts after
                e h k).ends r).0)
          ]
          | inr r ↦ reading_on before text s p rest e h r (step max_depth s p) refl (λ t.
              reading fuel (before ++ spelled_part p) rest t
              (shorter text (spelled_part p) rest fuel e
              (part_has_byte (standing_of file_start before) p rest h) l))
        ]
    | inr none ↦ inr (nothing_reads before text s none)
  ]

-- ---- a longest gap

module _ (file_start : Bool) where
  -- a part of a gap, and a longest gap after it
  gap_more : (before : List ℕ) (p : Part) (gap : List Part) (after rest : List ℕ)
      → is_gap_part p ≡ true → rest ≡ spelled gap ++ after
      → Stands (standing_of file_start before) p rest
      → IsLongestGap file_start (before ++ spelled_part p) gap after
      → IsLongestGap file_start before (p ∷ gap) after
  gap_more before p gap after rest g e h l = record {
    is_gap = record {
      stand = (rw e at h, l.is_gap.stand);
      only = and_from (is_gap_part p) (list_all is_gap_part gap) g
          l.is_gap.only;
    };
    longest = longest;
  }
    where
      longest : (other : List Part) (rest' : List ℕ)
          → spelled other ++ rest' ≡ spelled (p ∷ gap) ++ after
          → IsGap file_start before other rest' → length (spelled other)
          ≤ length (spelled (p ∷ gap))
      longest [] rest' f k = omega arith
      longest (q ∷ other) rest' f k =
          let one =
          one_part (standing_of file_start before) q p (spelled other ++ rest') rest k.stand.0 h
          (sym (append_assoc (spelled_part q) (spelled other) rest') ∙ f
          ∙ append_assoc (spelled_part p) (spelled gap)
          after ∙ ap (λ x. spelled_part p ++ x) (sym e)) in
          let only = and_parts (is_gap_part q) (list_all is_gap_part other) k.only in
          let less =
          l.longest other rest' (one.1
          ∙ e) (record { stand = rw one.0 at k.stand.1; only = only.1 }) in
          omega (
            arith,
            less,
            length-append (spelled_part q) (spelled other),
            length-append (spelled_part p)
                (spelled gap),
            ap (λ r. length (spelled_part r)) one.0,
          )

  pub gap_exists : (fuel : ℕ) (before text : List ℕ) → length text < fuel
      → (gap : List Part) × (after : List ℕ) × (text ≡ spelled gap ++ after)
      × IsLongestGap file_start before gap after
  gap_exists zero before text l = absurd (omega arith)
  gap_exists (suc fuel) before text l = elim (part_or_none (standing_of file_start before) text) [
    | inl found ↦
        let p = found.0 in let rest = found.1 in let e = found.2 in let h = found.3 in
        elim (cases_Bool (is_gap_part p)) [
          | inl g ↦
              let more =
              gap_exists fuel (before ++ spelled_part p) rest
              (shorter text (spelled_part p) rest fuel e
              (part_has_byte (standing_of file_start before) p rest h) l) in (
                p ∷ more.0,
                more.1,
                e ∙ ap (λ x. spelled_part p ++ x) more.2 ∙ sym (append_assoc (spelled_part p)
                    (spelled more.0) more.1),
                gap_more before p more.0 more.1 rest g more.2 h more.3,
              )
          | inr g ↦ (
            [],
            text,
            refl,
            empty_gap file_start before text (λ q rest' f k j.
                let one = one_part (standing_of file_start before) q p rest' rest j h (sym f ∙ e) in
                false≢true (sym g ∙ ap is_gap_part (sym one.0) ∙ k)),
          )
        ]
    | inr none ↦ (
      [],
      text,
      refl,
      empty_gap file_start before text (λ p rest e g h. none p rest e h),
    )
  ]

-- ---- pieces

module _ (max_depth : ℕ) (file_start : Bool) where
  -- where no gap begins, a reading is a game
  outside : (before text : List ℕ) (parts : List Part) (after : List ℕ)
      → IsLongestGap file_start before [] text
      → Reads max_depth file_start before text start parts after
      → IsTrue (begins_outside_gap parts)
  outside before text [] after l h = absurd h.leads
  outside before text (p ∷ more) after l h = elim (cases_Bool (is_gap_part p)) [
    | inl g ↦ absurd (no_gap_part file_start before text l p (spelled more ++ after) (h.parted
        ∙ append_assoc
        (spelled_part p) (spelled more) after) g h.stand.0)
    | inr g ↦ not_from_false (is_gap_part p) g
  ]

  -- at the end of a longest gap: a game, or none
  pub game_or_none : (before text : List ℕ) → IsLongestGap file_start before [] text
      → ((parts : List Part) × (after : List ℕ) × (text ≡ spelled parts ++ after)
      × IsGame max_depth file_start before
      parts after) ⊎ NoGame max_depth file_start before text
  unfolding Reading
  game_or_none before text l =
      elim (reading max_depth file_start (suc (length text)) before text start (omega arith)) [
        | inl found ↦ inl (
          found.0,
          found.1,
          found.2.parted,
          reads_game max_depth file_start before text found.0 found.1
              (outside before text found.0 found.1 l found.2) found.2,
        )
        | inr none ↦ inr (λ parts after e g.
            none parts after (game_reads max_depth file_start before text parts after e g))
      ]

  -- after a longest gap: the end, a game and what follows, or bytes that are no game
  after_gap : (fuel : ℕ) (before text : List ℕ) (gap : List Part) (after : List ℕ)
      → text ≡ spelled gap ++ after → IsLongestGap file_start before gap after
      → length text < suc fuel
      → ((there rest : List ℕ) → length rest < fuel
      → (pieces : List Piece) × ArePieces max_depth file_start there
      pieces rest)
      → (pieces : List Piece) × ArePieces max_depth file_start before pieces text
  after_gap fuel before text gap [] e l short again = ([], (gap, e ∙ append-nil (spelled gap), l))
  after_gap fuel before text gap (b ∷ bs) e l short again =
      elim (game_or_none (before ++ spelled gap) (b
      ∷ bs) (gap_spent file_start before gap (b ∷ bs) l)) [
        | inl found ↦
            let parts = found.0 in let rest = found.1 in let f = found.2 in
            let shorter_rest : length rest < fuel = shorter (b ∷ bs) (spelled parts) rest fuel f
            (game_has_byte max_depth file_start (before ++ spelled gap) parts rest found.3)
            (omega (arith, ap length e, length-append (spelled gap) (b ∷ bs))) in
            let more = again ((before ++ spelled gap) ++ spelled parts) rest shorter_rest in (
              Game (length (before ++ spelled gap)) parts ∷ more.0,
              (
                gap,
                rest,
                e ∙ ap (λ x. spelled gap ++ x) f,
                rw f at l,
                refl,
                found.3,
                more.1,
              ),
            )
        | inr none ↦ (
          Unreadable (length (before ++ spelled gap)) (b ∷ bs) ∷ [],
          (gap, e, l, refl, λ e. cc, none, refl),
        )
      ]

  pieces_within : (fuel : ℕ) (before text : List ℕ) → length text < fuel
      → (pieces : List Piece) × ArePieces max_depth file_start before pieces text
  pieces_within zero before text l = absurd (omega arith)
  pieces_within (suc fuel) before text l =
      let gap = gap_exists file_start (suc (length text)) before text (omega arith) in
      after_gap fuel before text gap.0 gap.1 gap.2 gap.3 l (λ there rest short.
      pieces_within fuel there rest short)

  -- each text has a list of pieces, wherever it stands in a block
  pub pieces_exist : (before text : List ℕ)
      → (pieces : List Piece) × ArePieces max_depth file_start before pieces text
  pieces_exist before text =
      pieces_within (suc (length text)) before text (omega arith)
