-- Runs over files, one after the other.
use Rattle.std.proofs.Common.{IfSome}
use Rattle.std.proofs.lemmas.List.{append_assoc, append-nil, drop_more, get_or-map}
use Rattle.std.proofs.lemmas.List.{take-append-drop, take_more}
use Rattle.std.proofs.Math.Bool.{or-false}
use Rattle.std.specs.declared.io.ErrorKind.TheVariants.{OutOfMemory}
use Rattle.pgn_extract.proofs.Common.{◌≡◌, ◌≢◌, ◌++◌, ◌||◌, ◌+◌, ◌<◌, ℕ, Bool, List, [], ◌∷◌}
use Rattle.pgn_extract.proofs.Common.{Option, Some, None, length, drop, take, map, get_or, refl}
use Rattle.pgn_extract.proofs.Common.{sym, ap, subst, ◌∙◌, length-map, list_any-append, Appends}
use Rattle.pgn_extract.proofs.Common.{list_any, option_map, ErrorKind, Completes, Io, AreKnown}
use Rattle.pgn_extract.proofs.Common.{AreOfPaths, AtPath, FileOf, IsOfPath, IsRead, IsRefused}
use Rattle.pgn_extract.proofs.Common.{NamesUnopened, NoFile, Order, Unknown, is_no_file}
use Rattle.pgn_extract.proofs.Common.{own_summary, fault_lines, output_text, Summary}
use Rattle.pgn_extract.proofs.Writing.{appends_join}

-- what is written of one path more
pub paths_more : (order : List ℕ → Order) (known : List ℕ → AtPath) (before : List (List ℕ))
    (path output report own own_report : List ℕ) → AreOfPaths order known before output report
    → IsOfPath (order path) path (known path) own own_report
    → AreOfPaths order known (before ++ path ∷ []) (output ++ own) (report ++ own_report)
paths_more order known [] path output report own own_report are is = (
  own,
  own_report,
  [],
  [],
  is,
  (refl, refl),
  ap (λ o. o ++ own) are.0 ∙ sym (append-nil own),
  ap
      (λ r. r ++ own_report) are.1 ∙ sym (append-nil own_report),
)
paths_more order known (first ∷ more) path output report own own_report are is = (
  are.0,
  are.1,
  are.2 ++ own,
  are.3 ++ own_report,
  are.4,
  paths_more order known more path are.2 are.3 own own_report are.5 is,
  ap (λ o. o ++ own) are.6 ∙ append_assoc are.0 are.2 own,
  ap (λ r. r ++ own_report) are.7 ∙ append_assoc are.1 are.3 own_report,
)

-- the paths up to a place and the one that stands there
pub path_there : {P : Type 0} (view : P → List ℕ) (all : List P) (i : ℕ) (d : P) → i < length all
    → take (i + 1) (map view all) ≡ take i (map view all) ++ view (get_or all i d) ∷ []
path_there view all i d within =
    let e : i < length (map view all) = subst (λ n. i < n) (sym (length-map all view)) within in
    take_more (map view all) i [] e
    ∙ ap (λ path. take i (map view all) ++ path ∷ []) (get_or-map view all i d [] within)

-- it parts them: what stands before it, and what after it
pub parted_there : {P : Type 0} (view : P → List ℕ) (all : List P) (i : ℕ) (d : P) → i < length all
    → map view all ≡ take i (map view all) ++ view (get_or all i d) ∷ drop (i + 1) (map view all)
parted_there view all i d within =
    let paths = map view all in
    let e : i < length paths = subst (λ n. i < n) (sym (length-map all view)) within in
    let here : view (get_or all i d) ∷ drop (i + 1) paths ≡ drop i paths =
    ap (λ path. path ∷ drop (i + 1) paths) (sym (get_or-map view all i d [] within))
    ∙ sym (drop_more paths i [] e) in
    sym (ap (λ rest. take i paths ++ rest) here ∙ take-append-drop i paths)

-- something is known of it
pub known_there : {P : Type 0} (view : P → List ℕ) (all : List P) (i : ℕ) (d : P)
    (known now : List ℕ → AtPath) → ((path : List ℕ) → now path ≡ known path)
    → i < length all → AreKnown known (map view all) → now (view (get_or all i d)) ≢ Unknown
known_there view all i d known now same within are = λ unknown.
    let e : i < length (map view all) = subst (λ n. i < n) (sym (length-map all view)) within in
    are i [] e (ap known (get_or-map view all i d [] within) ∙ sym (same (view (get_or all i d))) ∙
    unknown)

-- what is written of it, after what is written of those before it
pub written_there : {P : Type 0} (view : P → List ℕ) (all : List P) (i : ℕ) (d : P)
    (order order' : List ℕ → Order) (known known' : List ℕ → AtPath)
    → ((path : List ℕ) → order' path ≡ order path) → ((path : List ℕ) → known' path ≡ known path)
    → i < length all → (output report own own_report : List ℕ)
    → AreOfPaths order known (take i (map view all)) output report
    → IsOfPath (order' (view (get_or all i d))) (view (get_or all i d))
    (known' (view (get_or all i d))) own own_report
    → AreOfPaths order known (take (i + 1) (map view all)) (output ++ own) (report ++ own_report)
written_there view all i d order order' known known' orders same within output report own own_report
    are is =
    let path = view (get_or all i d) in
    subst (λ paths. AreOfPaths order known paths (output ++ own) (report ++ own_report))
    (sym (path_there view all i d within))
    (paths_more order known (take i (map view all)) path output report own own_report are
    (subst (λ (o : Order). IsOfPath o path (known path) own own_report) (orders path)
    (subst (λ (at : AtPath). IsOfPath (order' path) path at own own_report) (same path) is)))

-- whether no file can be opened at one of the paths up to it
pub unopened_there : {P : Type 0} (view : P → List ℕ) (all : List P) (i : ℕ) (d : P)
    (known known' : List ℕ → AtPath) → ((path : List ℕ) → known' path ≡ known path)
    → i < length all → (was own now : Bool) → now ≡ was || own
    → was ≡ list_any (λ path. is_no_file (known path)) (take i (map view all))
    → own ≡ is_no_file (known' (view (get_or all i d)))
    → now ≡ list_any (λ path. is_no_file (known path)) (take (i + 1) (map view all))
unopened_there view all i d known known' same within was own now is before here =
    let path = view (get_or all i d) in
    let test : List ℕ → Bool = λ path. is_no_file (known path) in
    is ∙ ap (λ b. b || own) before ∙ ap (λ b. list_any test (take i (map view all)) || b)
    (here ∙ ap is_no_file (same path) ∙ sym (or-false (test path)))
    ∙ sym (list_any-append test (take i (map view all)) (path ∷ []))
    ∙ ap (list_any test) (sym (path_there view all i d within))

-- at a path where a file could not be opened, and memory did not run out, there is none
pub unopened_path : (order : Order) (path : List ℕ) (at : AtPath) (kind : ErrorKind) (line : List ℕ)
    → at ≢ Unknown → IsRefused at kind → kind ≢ OutOfMemory
    → NamesUnopened path line → IsOfPath order path at [] line
unopened_path order path Unknown kind line known refused other names = absurd (known refl)
unopened_path order path NoFile kind line known refused other names = (refl, names)
unopened_path order path (FileOf text) kind line known refused other names = absurd (other refused)

-- what a run that came to its end reported, and the line after it
pub read_of : (order : Order) (text : List ℕ) (io : Io) (summary : Summary)
    → (done : Completes order.job io (take order.end text) summary)
    → IsRead order text (output_text done.verdicts)
    (fault_lines done.verdicts ++ own_summary order.summary order.job.aim.tags_first
    order.job.aim.name summary)
read_of order text io summary done = record {
  faults = fault_lines done.verdicts;
  summary = summary;
  reported = record {
    pieces = done.pieces;
    each = done.each;
    verdicts = done.verdicts;
    reported = done.written.each;
    outputs = refl;
    lines = refl;
  };
  games = done.games;
  faulty = done.faulty;
  is = refl;
}

-- what is known of an input that ends at an offset, of the input itself
pub taken_to : (end : ℕ) (left taken : Option (List ℕ)) (limit : ℕ) (P : List ℕ → Type 0)
    → limit ≡ end → taken ≡ left → IfSome (option_map (take limit) taken) P
    → IfSome (option_map (take end) left) P
taken_to end left taken limit P at same is =
    subst (λ n. IfSome (option_map (take n) left) P) at
    (subst (λ (bytes : Option (List ℕ)). IfSome (option_map (take limit) bytes) P) same is)

read_out : (order : Order) (left : Option (List ℕ)) (io : Io) (summary : Summary)
    (err : Option (List ℕ))
    → IfSome (option_map (take order.end) left) (λ whole. Completes order.job io whole summary)
    → Appends io.err.new.bytes err (own_summary order.summary order.job.aim.tags_first
    order.job.aim.name summary)
    → IfSome left (λ text. (output : List ℕ) × (report : List ℕ) × IsRead order text output report
    × Appends io.out.old.bytes io.out.new.bytes output × Appends io.err.old.bytes err report)
read_out order None io summary err done after = tt
read_out order (Some text) io summary err done after = (
  output_text done.verdicts,
  fault_lines done.verdicts ++ own_summary order.summary order.job.aim.tags_first
      order.job.aim.name summary,
  read_of order text io summary done,
  done.written.output,
  appends_join io.err.old.bytes io.err.new.bytes err (fault_lines done.verdicts) _
      done.written.faults after,
)

-- a run that came to the end of what an input gives before an end, and then its line
pub read_to_end : (order : Order) (left taken : Option (List ℕ)) (limit : ℕ) (io : Io)
    (summary : Summary) (err : Option (List ℕ)) → limit ≡ order.end → taken ≡ left
    → IfSome (option_map (take limit) taken) (λ whole. Completes order.job io whole summary)
    → Appends io.err.new.bytes err (own_summary order.summary order.job.aim.tags_first
    order.job.aim.name summary)
    → IfSome left (λ text. (output : List ℕ) × (report : List ℕ) × IsRead order text output report
    × Appends io.out.old.bytes io.out.new.bytes output × Appends io.err.old.bytes err report)
read_to_end order left taken limit io summary err at same done after =
    read_out order left io summary err
    (taken_to order.end left taken limit (λ whole. Completes order.job io whole summary) at same
    done) after
