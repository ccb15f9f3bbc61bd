-- The record that is read again is that of the game with the tags of its opening.
use Rattle.std.specs.Prelude.{option_map}
use Rattle.pgn_extract.proofs.Common.{[], refl, sym, subst, ◌∙◌}
use Rattle.pgn_extract.proofs.Common.{append-nil, on_ok_weaker, IfErr-weaker, aim_of, raw_of}
use Rattle.pgn_game.specs.Public.NamedRecords.{NamesRecord, with_tags}
use Rattle.pgn_game.specs.Public.PackedGames.{record_bytes}
use Rattle.pgn_game.proofs.TagSearch.{no_error}
use Rattle.pgn_text.specs.Public.GameTexts.{HaveNames, HoldStrings}
use Rattle.pgn_extract.proofs.packed.Renamed.{counted_named, none_named, read_again}
use Rattle.pgn_extract.proofs.packed.push_named.Goals as goal

pub returns-in-Ok-None-clause-err : goal.returns-in-Ok-None-clause-err
returns-in-Ok-None-clause-err c is = (
  refl,
  λ game replay packed own.
      let none = subst (λ o. NamesRecord c.args.openings.now c.args.opening.line packed
      (option_map (λ own. own.items) o)) c.in-Ok-None.field-0-is
      (c.in-Ok-None.ensures packed own.fits (sym own.shows)) in
      none (subst (λ tags. HoldStrings tags) (sym own.kept.tags) own.text.strings)
      (subst (λ tags. HaveNames tags) (sym own.kept.tags) own.text.names),
)

pub unreachable-requires : goal.unreachable-requires
unreachable-requires c =
    let (packed, fits, shows) = c.requires.shows in
    let is =
    subst (λ o. NamesRecord c.args.openings.now c.args.opening.line packed
    (option_map (λ own. own.items) o)) c.in-Ok-Some.field-0-is
    (c.in-Ok-Some.ensures packed fits shows) in
    no_error c.in_default.field-0 (raw_of (with_tags is.head.tags packed), [])
    (sym c.in_default.ensures.exact
    ∙ c.read.ensures.only (with_tags is.head.tags packed) [] is.fits
    (c.deref.ensures.value ∙ is.spells
    ∙ sym (append-nil (record_bytes (with_tags is.head.tags packed)))))

pub returns-clause-ok : goal.returns-clause-ok
returns-clause-ok c =
    on_ok_weaker c.push_entries.result
    (counted_named (aim_of c.args.context.settings.now) c.args.context.record.now c.in-Ok.own
    c.args.openings.now c.args.opening.line c.in-Ok-Some.bytes.items c.args.text.now.items
    c.push_entries.new.text.items c.args.opening c.requires.openings refl c.requires.found
    (λ packed fits shows.
    let is =
    subst (λ o. NamesRecord c.args.openings.now c.args.opening.line packed
    (option_map (λ own. own.items) o)) c.in-Ok-Some.field-0-is
    (c.in-Ok-Some.ensures packed fits shows) in (
      is,
      read_again c.deref.result.now (with_tags is.head.tags packed) c.in-Ok.own
          c.in-Ok.field-0-1.now c.read.ensures.only is.fits (c.deref.ensures.value ∙ is.spells)
          c.in-Ok.ensures.exact,
    ))) c.push_entries.ensures.ok

pub returns-clause-err : goal.returns-clause-err
returns-clause-err c =
    IfErr-weaker c.push_entries.result _ _ (λ fault so is. (
      (so is).0,
      none_named c.args.context.record.now c.in-Ok.own c.args.openings.now c.args.opening.line
          c.in-Ok-Some.bytes.items (λ packed fits shows.
          let is =
          subst (λ o. NamesRecord c.args.openings.now c.args.opening.line packed
          (option_map (λ own. own.items) o)) c.in-Ok-Some.field-0-is
          (c.in-Ok-Some.ensures packed fits shows) in (
            is,
            read_again c.deref.result.now (with_tags is.head.tags packed) c.in-Ok.own
                c.in-Ok.field-0-1.now c.read.ensures.only is.fits
                (c.deref.ensures.value ∙ is.spells) c.in-Ok.ensures.exact,
          )) (so is).1,
    )) c.push_entries.ensures.err
