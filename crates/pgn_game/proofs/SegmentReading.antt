-- What the functions that append and read a segment owe, of plain values.
use Rattle.std.proofs.Common.{◌≡◌, ℕ, List, ◌++◌, length, Result, Ok, Err, sym, ap, ◌∙◌}
use Rattle.std.proofs.Common.{append_assoc}
use Rattle.std.specs.Prelude.{IfOk, OnErr}
use Rattle.pgn_game.specs.declared.pack.error.SegmentError.{SegmentError}
use Rattle.pgn_game.specs.Public.Residues.{AreBytes}
use Rattle.pgn_game.specs.Private.SegmentSteps.{Gives}
use Rattle.pgn_game.specs.Public.Segments.{sealed, Segment, front_bytes, segment_text}
use Rattle.pgn_game.specs.Public.Segments.{FitsSegment, HasNoSegment, segment_at}
use Rattle.pgn_game.proofs.SegmentFacts.{segment_again, segment_takes}

-- a front and a body that are appended are a segment
pub pushed : (records : ℕ) (body front out out' out'' : List ℕ)
    → front ≡ front_bytes records (length body) → out' ≡ out ++ sealed front
    → out'' ≡ out' ++ sealed body
    → out'' ≡ out ++ segment_text (record { records = records; body = body })
pushed records body front out out' out'' is first second =
    second ∙ (λ i. first i ++ sealed body) ∙ append_assoc out (sealed front) (sealed body)
    ∙ (λ i. out ++ (sealed (is i) ++ sealed body))

-- what is read is the text of a segment
pub is_found : {X : Type 0} (bytes : List ℕ) (r : Result X SegmentError) (view : X
    → Segment × List ℕ) → AreBytes bytes → Gives view r (segment_at bytes)
    → IfOk r (λ x. FitsSegment (view x).0 × (bytes ≡ segment_text (view x).0 ++ (view x).1))
is_found bytes (Ok x) view fits e = segment_takes bytes (view x).0 (view x).1 fits e
is_found bytes (Err d) view fits e = tt

-- where nothing is read, no segment stands in front
pub is_none : {X : Type 0} (bytes : List ℕ) (r : Result X SegmentError) (view : X
    → Segment × List ℕ) → Gives view r (segment_at bytes) → OnErr r (HasNoSegment bytes)
is_none bytes (Ok x) view e = tt
is_none bytes (Err d) view e = λ segment rest fits text. apart d (segment, rest) (sym
    (ap segment_at text ∙ segment_again segment rest fits) ∙ e)
  where
    apart : (d : SegmentError) (y : Segment × List ℕ) → Ok y ≡ Err d → ⊥
    apart d y e = cc
