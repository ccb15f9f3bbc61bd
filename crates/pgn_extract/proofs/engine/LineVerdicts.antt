-- A game each line of which is exported as a game of its own: what is reported of it, and what is
-- written of that while its lines are gone along.
use Rattle.pgn_extract.proofs.Common.{◌≡◌, ℕ, true, List, [], ◌++◌, length, Option}
use Rattle.pgn_extract.proofs.Common.{refl, sym, ap, ◌∙◌, subst, arith, append_assoc}
use Rattle.pgn_extract.proofs.Common.{inl, inr, cases_lt, take_all, Appends}
use Rattle.pgn_extract.proofs.Common.{GameText, IsGameText, ShowsGame, Part, tag_in, fen_tag}
use Rattle.pgn_extract.proofs.Common.{Aim, GameId, Report, Verdict, SoundGame, FaultyGame, Form}
use Rattle.pgn_extract.proofs.Common.{Fault, IsFaultOf, IsReplayOf, IsReplayed, IsTextOf}
use Rattle.pgn_extract.proofs.Common.{IsVerdictIn}
use Rattle.pgn_extract.proofs.Common.{lines_in, by_itself, cause_text, fault_text, faulty_text}
use Rattle.pgn_extract.proofs.Common.{id_at}
use Rattle.pgn_extract.proofs.Common.{is_chosen, AddsPiece, AppendsFront, Passes, Heading}
use Rattle.pgn_extract.proofs.Common.{Conditions}
use Rattle.pgn_extract.proofs.Common.{HasNoChance, IsRuledOut, IsNote, Vec, Global, ◌+◌, output_of}
use Rattle.pgn_extract.proofs.Common.{fault_line_of, is_faulty, if◌then◌else◌}
use Rattle.std.proofs.lemmas.List.{take-append-le}
use Rattle.std.proofs.Math.Seq.{take-append_seam}
use Rattle.pgn_text.specs.declared.game.pieces.Piece.{Piece}
use Rattle.pgn_text.specs.declared.game.pieces.Piece.TheVariants as given
use Rattle.pgn_text.specs.Public.Pieces as spec
use Rattle.pgn_game.specs.Public.Faults.{IsFault}
use Rattle.pgn_game.specs.Public.LineGames.{AreLineTexts}
use Rattle.pgn_game.specs.Public.Openings.{NamedLine}
use Rattle.pgn_game.specs.Public.Replays.{IsSoundGame}
use Rattle.pgn_game.specs.declared.replays.replayer.Lines.TheVariants.{All}
use Rattle.pgn_extract.specs.Private.Blockwise.{BeginsVerdict, ExportsLines, IsOfLines, OfPiece}
use Rattle.pgn_extract.specs.Private.Blockwise.{PassesVerdict, line_layout}
use Rattle.pgn_extract.specs.Public.Exports.{line_begin}
use Rattle.pgn_game.specs.declared.exports.style.Style.{Style}
use Rattle.pgn_extract.specs.Public.Listing.{CountsAs}
use Rattle.pgn_extract.specs.declared.settings.Mode.TheVariants as modes
use Rattle.pgn_extract.specs.declared.settings.Select.{Select}
use Rattle.pgn_extract.proofs.BlockWritten.{front_none}
use Rattle.pgn_extract.proofs.ChoiceFacts.{if_taken}
use Rattle.pgn_extract.proofs.Counting.{counts_there}
use Rattle.pgn_extract.proofs.LineExports.{own_line_texts}
use Rattle.pgn_extract.proofs.TagsFirst.{played_verdict}
use Rattle.pgn_extract.proofs.Writing.{appends_join}
use Rattle.pgn_extract.proofs.engine.AllTaken.{all_written}
use Rattle.pgn_extract.proofs.engine.Beginnings.{front_join}
use Rattle.pgn_extract.proofs.engine.Gathered.{adds_passing}

-- ---- the form

all_lines : (form : Form) (style : Style) → IsOfLines form → lines_in form style ≡ All
all_lines form style (inl is) = ap (λ (f : Form). lines_in f style) is
all_lines form style (inr (notation, is)) = ap (λ (f : Form). lines_in f style) is

text_in : (form : Form) (aim : Aim) (id : GameId) (game : GameText) (text : List ℕ)
    → IsOfLines form → AreLineTexts (line_layout form aim (line_begin aim.name id)) game text
    → IsTextOf form aim id game text
text_in form aim id game text (inl is) are =
    subst (λ (f : Form). IsTextOf f aim id game text) (sym is)
    (subst (λ (f : Form). AreLineTexts (line_layout f aim (line_begin aim.name id)) game text) is
    are)
text_in form aim id game text (inr (notation, is)) are =
    subst (λ (f : Form). IsTextOf f aim id game text) (sym is)
    (subst (λ (f : Form). AreLineTexts (line_layout f aim (line_begin aim.name id)) game text) is
    are)

-- ---- the verdict

module _ (aim : Aim) (all : ExportsLines aim) (id : GameId) (game : GameText)
    (good : IsGameText game) where
  -- no game is ruled out
  not_out : (heading : Heading) → IsRuledOut aim heading → ⊥
  not_out heading out =
      subst (λ (c : Option (List Conditions)). HasNoChance c heading) all.all.criteria
      out.no_chance

  replayed : (verdict : Verdict) → IsReplayed modes.Export aim id (by_itself game) verdict
      → (at : ℕ) (parts : List Part) → ShowsGame game at parts
      → IsVerdictIn aim.mode aim id parts verdict
  replayed verdict is at parts shows =
      subst (λ m. IsVerdictIn m aim id parts verdict) (sym all.mode) (
        by_itself game,
        counts_there aim.openings parts game game good shows
            (subst (λ (o : Option (List NamedLine)). CountsAs o game game) (sym all.openings) refl),
        played_verdict aim.tags_first modes.Export aim id (by_itself game) verdict
            (not_out _) is,
      )

  -- of a sound game it is the texts of its lines
  pub lines_verdict : (text : List ℕ)
      → IsSoundGame All (tag_in fen_tag game.tags) game.elements
      → AreLineTexts (line_layout aim.form aim (line_begin aim.name id)) game text
      → (at : ℕ) (parts : List Part) → ShowsGame game at parts
      → IsVerdictIn aim.mode aim id parts (SoundGame text)
  lines_verdict text (replay, sound) exports =
      let played : IsReplayOf (lines_in aim.form aim.style) game replay =
      subst (λ lines. IsReplayOf lines game replay)
      (sym (all_lines aim.form aim.style all.form)) sound in
      replayed (SoundGame text) (
        replay,
        played,
        all_written aim id game replay text all.all played
            (text_in aim.form aim id (by_itself game) text all.form
            (own_line_texts (line_layout aim.form aim (line_begin aim.name id)) game text exports)),
      )

  -- of another its fault
  pub fault_verdict : (fault : Fault) (note : List ℕ)
      → IsFault All (tag_in fen_tag game.tags) game.elements fault → IsNote aim.explain note
      → (at : ℕ) (parts : List Part) → ShowsGame game at parts
      → IsVerdictIn aim.mode aim id parts
      (FaultyGame [] (fault_text aim.name id (cause_text fault)) note)
  fault_verdict fault note met noted =
      let faulty : IsFaultOf (lines_in aim.form aim.style) game fault =
      subst (λ lines. IsFaultOf lines game fault) (sym (all_lines aim.form aim.style all.form))
      met in
      replayed (FaultyGame [] (fault_text aim.name id (cause_text fault)) note) (
        fault,
        faulty,
        refl,
        noted,
        sym (ap (λ (s : Select). faulty_text modes.Export s game.text) all.all.select),
      )

-- so a game that is chosen is reported
pub of_game : (aim : Aim) (id own : GameId) (block : List ℕ) (game : GameText)
    (Is : Verdict → Type 0) → own ≡ id_at id game.at → is_chosen aim.chosen own ≡ true
    → (verdict : Verdict)
    → ((at : ℕ) (parts : List Part) → ShowsGame game at parts
    → IsVerdictIn aim.mode aim own parts verdict)
    → Is verdict → OfPiece aim id block (given.Game game) Is
of_game aim id own block game Is place taken verdict reported is (spec.Unreadable at bytes) shown
    among = absurd shown
of_game aim id own block game Is place taken verdict reported is (spec.Game at parts) shown among =
    let same : own ≡ id_at id at = place ∙ ap (id_at id) shown.place in (
      verdict,
      if_taken (is_chosen aim.chosen (id_at id at)) _
          (subst (λ i. is_chosen aim.chosen i ≡ true) same taken)
          (subst (λ i. IsVerdictIn aim.mode aim i parts verdict) same (reported at parts shown)),
      is,
    )

-- what is added of a piece is all gathered
pub piece_gathered : (aim : Aim) (old new : Report) (id : GameId) (block : List ℕ)
    (piece : Piece) (out err : Option (List ℕ)) → AddsPiece aim old new id block piece
    → OfPiece aim id block piece (λ verdict. PassesVerdict old new out out err err verdict 1)
piece_gathered aim old new id block piece out err adds shown is among =
    let (verdict, how, added) = adds shown is among in
    (verdict, how, adds_passing out err added)

-- ---- what is written

-- a beginning of the bytes is one of more bytes
front_longer : (old new : Option (List ℕ)) (xs more : List ℕ) → AppendsFront old new xs
    → AppendsFront old new (xs ++ more)
front_longer old new xs more (size, put) = elim (cases_lt size (length xs)) [
  | inl under ↦ (
    size,
    subst (Appends old new) (sym (take-append-le size xs more (omega arith))) put,
  )
  | inr above ↦ (
    length xs,
    subst (Appends old new) (take_all size xs (omega arith) ∙ sym (take-append_seam xs more)) put,
  )
]

module _ {old now : Report} {out out' err err' : Option (List ℕ)} {text : List ℕ} {count : ℕ}
    (p : PassesVerdict old now out out' err err' (SoundGame text) count) where
  -- more is gathered
  pub text_more : (new : Report) (more : List ℕ)
      → new.output.items ≡ now.output.items ++ more → new.faults.items ≡ now.faults.items
      → new.games ≡ now.games → new.faulty ≡ now.faulty
      → PassesVerdict old new out out' err err' (SoundGame (text ++ more)) count
  text_more new more grew same games faulty = record {
    first_output = p.first_output;
    first_faults = p.first_faults;
    out_grew = p.out_grew;
    err_grew = p.err_grew;
    output = ap (λ bytes. p.first_output ++ bytes) grew
        ∙ sym (append_assoc p.first_output now.output.items more)
        ∙ ap (λ bytes. bytes ++ more) p.output ∙ append_assoc old.output.items text more;
    faults = ap (λ bytes. p.first_faults ++ bytes) same ∙ p.faults;
    games = games ∙ p.games;
    faulty = faulty ∙ p.faulty;
  }

  -- what is gathered is passed on
  pub text_passed : {new : Report} {out'' err'' : Option (List ℕ)}
      → Passes now new out' out'' err' err''
      → PassesVerdict old new out out'' err err'' (SoundGame text) count
  text_passed {new} {out''} {err''} q = record {
    first_output = p.first_output ++ q.first_output;
    first_faults = p.first_faults ++ q.first_faults;
    out_grew = appends_join out out' out'' p.first_output q.first_output p.out_grew q.out_grew;
    err_grew = appends_join err err' err'' p.first_faults q.first_faults p.err_grew q.err_grew;
    output = append_assoc p.first_output q.first_output new.output.items
        ∙ ap (λ bytes. p.first_output ++ bytes) q.output ∙ p.output;
    faults = append_assoc p.first_faults q.first_faults new.faults.items
        ∙ ap (λ bytes. p.first_faults ++ bytes) q.faults ∙ p.faults;
    games = q.games ∙ p.games;
    faulty = q.faulty ∙ p.faulty;
  }

  -- or a beginning of it is, before more would be
  pub text_begun : {out'' err'' : Option (List ℕ)} (more : List ℕ)
      → AppendsFront out' out'' now.output.items → AppendsFront err' err'' now.faults.items
      → BeginsVerdict old out out'' err err'' (SoundGame (text ++ more))
  text_begun {out''} {err''} more output faults = record {
    output =
        subst (AppendsFront out out'')
        (sym (append_assoc p.first_output now.output.items more)
        ∙ ap (λ bytes. bytes ++ more) p.output ∙ append_assoc old.output.items text more)
        (front_join out out' out'' p.first_output (now.output.items ++ more) p.out_grew
        (front_longer out' out'' now.output.items more output));
    faults =
        subst (AppendsFront err err'') p.faults
        (front_join err err' err'' p.first_faults now.faults.items p.err_grew faults);
  }

-- nothing is written yet
pub text_unwritten : (old : Report) (out err : Option (List ℕ)) (text : List ℕ)
    → BeginsVerdict old out out err err (SoundGame text)
text_unwritten old out err text = record {
  output = front_none out _;
  faults = front_none err _;
}

-- after a piece that is counted
module _ {old mid : Report} (output : mid.output ≡ old.output) (faults : mid.faults ≡ old.faults)
    {out out' err err' : Option (List ℕ)} {verdict : Verdict} where
  pub counted_passing : {new : Report} → mid.games ≡ old.games + 1 → mid.faulty ≡ old.faulty
      → PassesVerdict mid new out out' err err' verdict 0
      → PassesVerdict old new out out' err err' verdict 1
  counted_passing games faulty p = record {
    first_output = p.first_output;
    first_faults = p.first_faults;
    out_grew = p.out_grew;
    err_grew = p.err_grew;
    output = p.output ∙ ap (λ (v : Vec ℕ Global). v.items ++ output_of verdict) output;
    faults = p.faults ∙ ap (λ (v : Vec ℕ Global). v.items ++ fault_line_of verdict) faults;
    games = p.games ∙ omega (arith, games);
    faulty = p.faulty ∙ ap (λ n. n + (if is_faulty verdict then 1 else 0)) faulty;
  }

  pub counted_begun : BeginsVerdict mid out out' err err' verdict
      → BeginsVerdict old out out' err err' verdict
  counted_begun b = record {
    output = subst (AppendsFront out out')
        (ap (λ (v : Vec ℕ Global). v.items ++ output_of verdict) output) b.output;
    faults = subst (AppendsFront err err')
        (ap (λ (v : Vec ℕ Global). v.items ++ fault_line_of verdict) faults) b.faults;
  }
