-- What a task writes as records is what the records in the segments grow by.
use Rattle.std.proofs.KnownBytes.{Appends-kept}
use Rattle.std.specs.Io.KnownBytes.{append_known}
use Rattle.std.specs.Prelude.{option_and_then}
use Rattle.pgn_extract.proofs.Common.{◌≡◌, ℕ, List, [], Option, None, Some, refl, ap, ◌∙◌, subst}
use Rattle.pgn_extract.proofs.Common.{append-nil, Appends, Keeps}
use Rattle.pgn_game.specs.Public.SegmentWriting.{Sending, records_of, segment_records}
use Rattle.pgn_extract.specs.Private.Packing.{WritesTask}
use Rattle.pgn_extract.specs.Public.Runs.{Adds, Passage}
use Rattle.pgn_extract.specs.Public.Several.{AtPath}
use Rattle.pgn_extract.specs.declared.app.files.Task.{Task}

none_appended : (known : Option (List ℕ)) → append_known known [] ≡ known
none_appended None = refl
none_appended (Some bytes) = ap (λ (b : List ℕ). Some b) (append-nil bytes)

-- where nothing is gathered and nothing unsent, the records are those in the segments
begun : {W : Type 0} (contents : W → Option (List ℕ)) (writer : W) (segments : Sending W)
    (gathered : List ℕ) → segments.inner ≡ writer → segments.unsent ≡ [] → gathered ≡ []
    → append_known (segment_records contents segments) gathered
    ≡ option_and_then records_of (contents writer)
begun contents writer segments gathered is sent none =
    let held : append_known (contents segments.inner) segments.unsent ≡ contents writer =
    ap (λ (b : List ℕ). append_known (contents segments.inner) b) sent
    ∙ none_appended (contents segments.inner) ∙ ap contents is in
    ap (λ (b : List ℕ). append_known (segment_records contents segments) b) none
    ∙ none_appended (segment_records contents segments)
    ∙ ap (λ (k : Option (List ℕ)). option_and_then records_of k) held

pub ended : {W : Type 0} (contents : W → Option (List ℕ)) (writer writer' : W)
    (segments : Sending W) (gathered : List ℕ) (before after : Option (List ℕ)) (bytes : List ℕ)
    → segments.inner ≡ writer → segments.unsent ≡ [] → gathered ≡ []
    → before ≡ append_known (segment_records contents segments) gathered
    → Keeps after (option_and_then records_of (contents writer')) → Appends before after bytes
    → Appends (option_and_then records_of (contents writer))
    (option_and_then records_of (contents writer')) bytes
ended contents writer writer' segments gathered before after bytes is sent none there kept grown =
    Appends-kept (option_and_then records_of (contents writer)) after
    (option_and_then records_of (contents writer')) bytes
    (subst (λ (k : Option (List ℕ)). Appends k after bytes)
    (there ∙ begun contents writer segments gathered is sent none) grown) kept

pub seen_so : (task : Task) (known : List ℕ → AtPath) (input : Option (Option (List ℕ)))
    (out out' err : Passage) → ((bytes : List ℕ) → Adds out bytes → Adds out' bytes)
    → WritesTask task known input out err → WritesTask task known input out' err
seen_so task known None out out' err so writes =
    λ are. let own = writes are in (own.0, own.1, own.2, so own.0 own.3, own.4)
seen_so task known (Some None) out out' err so writes = writes
seen_so task known (Some (Some text)) out out' err so writes =
    (writes.0, writes.1, writes.2, so writes.0 writes.3, writes.4)
