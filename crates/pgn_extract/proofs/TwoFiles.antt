-- Runs over two files in memory, with a path between them at which there is none.
use Rattle.std.proofs.Common.{◌≡◌, ◌≢◌, ◌⊎◌, ◌++◌, ◌<◌, ℕ, Bool, true, false, List, [], ◌∷◌, codes}
use Rattle.std.proofs.Common.{if◌then◌else◌, get_or, length, take, sym, subst, ap, inl, inr, ◌∙◌}
use Rattle.std.proofs.lemmas.List.{append_assoc, append-nil}
use Rattle.std.specs.Str.{bytes_eq}
use Rattle.pgn_extract.proofs.Common.{largest_offset, MarkedPiece, AreEntries, Entry, listing}
use Rattle.pgn_extract.proofs.Common.{ArePieces, Job, Passage, RunError, InputTooLong, AreKnown}
use Rattle.pgn_extract.proofs.Common.{AreOfPaths, FileOf, IsRead, IsReport, NamesUnopened, NoFile}
use Rattle.pgn_extract.proofs.Common.{Order, StopsAmong, StopsAtPath, Unknown, own_summary}
use Rattle.pgn_extract.proofs.ExactEntries.{are_entries}
use Rattle.pgn_extract.proofs.ModeOutputs.{of_pieces}
use Rattle.pgn_extract.specs.Private.TwoFiles.{known_of_two}
use Rattle.pgn_extract.specs.declared.settings.Mode.TheVariants as modes

abbrev pub three_paths : List (List ℕ)
three_paths = codes "first.pgn" ∷ codes "none.pgn" ∷ codes "second.pgn" ∷ []

one_known : (here there : Bool) (first second : List ℕ) →
    (if here then FileOf first else (if there then FileOf second else NoFile)) ≢ Unknown
one_known true there first second = λ same. cc
one_known false true first second = λ same. cc
one_known false false first second = λ same. cc

-- something is known of every path
two_known : (first second path : List ℕ) → known_of_two first second path ≢ Unknown
two_known first second path = one_known (bytes_eq path (codes "first.pgn"))
    (bytes_eq path (codes "second.pgn")) first second

-- so of the three
pub all_known : (first second : List ℕ) → AreKnown (known_of_two first second) three_paths
all_known first second = λ i d within. two_known first second (get_or three_paths i d)

-- without a summary what is written of a file is its report
pub plain : (order : Order) (text output report : List ℕ) → order.summary ≡ false →
    (read : IsRead order text output report) → report ≡ read.faults
plain order text output report off read =
    read.is ∙ ap (λ asked. read.faults ++ own_summary asked order.job.aim.tags_first
    order.job.aim.name read.summary) off ∙
    append-nil read.faults

-- an empty writer that grew by some bytes has just those
pub grown : (items now old bytes : List ℕ) → items ≡ now → now ≡ old ++ bytes → old ≡ [] → items ≡
    bytes
grown items now old bytes held added empty = held ∙ added ∙ ap (λ before. before ++ bytes) empty

-- what is written of the three paths
pub two_written : (order : Order) (first second output report out err : List ℕ) → order.summary ≡
    false → out ≡ output → err ≡ report
    → AreOfPaths (λ path. order) (known_of_two first second) three_paths output report
    → (one : List ℕ) × (faults : List ℕ) × (line : List ℕ) × (two : List ℕ) × (others : List ℕ) ×
    IsReport order.job (take order.end first) one faults
    × NamesUnopened (codes "none.pgn") line × IsReport order.job (take order.end second) two others
    × (out ≡ one ++ two) × (err ≡ faults ++ line ++ others)
two_written order first second output report out err off to_output to_report are =
    let read = are.4 in
    let more = are.5 in
    let last = more.5 in
    let rest : are.2 ≡ last.0 = more.6 ∙ ap (λ none. none ++ more.2) more.4.0 ∙ last.6 ∙ ap
    (λ none. last.0 ++ none) last.5.0 ∙ append-nil last.0 in
    let second_report : more.3 ≡ last.4.faults =
    last.7 ∙ ap (λ none. last.1 ++ none) last.5.1 ∙ append-nil last.1 ∙ plain order second last.0
    last.1 off last.4 in (
      are.0,
      read.faults,
      more.1,
      last.0,
      last.4.faults,
      read.reported,
      more.4.1,
      last.4.reported,
      to_output ∙ are.6 ∙ ap (λ t. are.0 ++ t) rest,
      to_report ∙ are.7 ∙ ap (λ t. t ++ are.3) (plain order first are.0 are.1 off read) ∙ ap
          (λ t. read.faults ++ t) (more.7 ∙ ap (λ t. more.1 ++ t) second_report)
          ∙ sym (append_assoc read.faults more.1 last.4.faults),
    )

-- in the mode of the listing the output of a report is the listing of entries
pub listed_alone : (job : Job) (text output faults : List ℕ) → job.aim.mode ≡ modes.List → IsReport
    job text output faults
    → (pieces : List MarkedPiece) × (entries : List Entry) × ArePieces job text pieces × AreEntries
    job.aim job.id.number pieces entries × (output ≡ listing job.aim.name entries)
listed_alone job text output faults lists is =
    let rows = of_pieces job.aim lists job.id.number is.pieces is.verdicts is.reported in (
      is.pieces,
      rows.0,
      is.each,
      are_entries job.aim job.id.number is.pieces rows.0 rows.1,
      is.outputs ∙ rows.2,
    )

too_long_at : (order : Order) (path : List ℕ) (here there : Bool) (first second : List ℕ)
    (out err : Passage)
    → StopsAtPath InputTooLong order path (if here then FileOf first else
    (if there then FileOf second else NoFile)) out err
    → (largest_offset < length (take order.end first)) ⊎
    (largest_offset < length (take order.end second))
too_long_at order path true there first second out err stops = inl stops.1.0
too_long_at order path false true first second out err stops = inr stops.1.0
too_long_at order path false false first second out err stops = absurd stops

-- runs over them end as too long only where one of the two texts is
pub two_too_long : (error : RunError) → error ≡ InputTooLong → (order : Order)
    (first second : List ℕ) (out err : Passage)
    → StopsAmong (λ path. order) (known_of_two first second) three_paths error out err
    → (largest_offset < length (take order.end first)) ⊎
    (largest_offset < length (take order.end second))
two_too_long error is order first second out err stops =
    let now_out : Passage = record { old = stops.out_there; new = out.new } in
    let now_err : Passage = record { old = stops.err_there; new = err.new } in
    too_long_at order stops.path (bytes_eq stops.path (codes "first.pgn"))
    (bytes_eq stops.path (codes "second.pgn"))
    first second now_out now_err
    (subst (λ (e : RunError). StopsAtPath e order stops.path (known_of_two first second stops.path)
    now_out now_err) is stops.there)
