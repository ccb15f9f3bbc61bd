use Rattle.pgn_extract.proofs.Common.{MatchResult-weaker, fault_of, aim_of}
use Rattle.pgn_extract.specs.declared.settings.Mode.TheVariants.{EachLine, Export, Index, List}
use Rattle.pgn_extract.proofs.engine.AllTaken.{entries_out, put_in}
use Rattle.pgn_extract.proofs.entries.LineListings.{each_itself}
use Rattle.pgn_extract.proofs.engine.report.push_sound.Goals as goal

pub returns-in-Index : goal.returns-in-Index
returns-in-Index c =
    let aim = aim_of c.args.context.settings.now in
    put_in aim c.args.context.own c.args.game.now c.args.text.now.items
    c.push_listed.new.text.items c.push_listed.result (λ fault. fault_of fault) Index c.in-Index.is
    (MatchResult-weaker c.push_listed.result c.push_listed.ensures
    (λ _ adds. entries_out aim c.args.context.own c.args.game.now c.args.text.now.items
    c.push_listed.new.text.items adds)
    (λ fault stops. stops))

pub returns-in-List : goal.returns-in-List
returns-in-List c =
    let aim = aim_of c.args.context.settings.now in
    put_in aim c.args.context.own c.args.game.now c.args.text.now.items
    c.push_listed-in-List.new.text.items c.push_listed-in-List.result (λ fault. fault_of fault)
    List c.in-List.is
    (MatchResult-weaker c.push_listed-in-List.result c.push_listed-in-List.ensures
    (λ _ adds. entries_out aim c.args.context.own c.args.game.now c.args.text.now.items
    c.push_listed-in-List.new.text.items adds)
    (λ fault stops. stops))

pub returns-in-EachLine : goal.returns-in-EachLine
returns-in-EachLine c =
    let aim = aim_of c.args.context.settings.now in
    put_in aim c.args.context.own c.args.game.now c.args.text.now.items
    c.push_each_line.new.text.items c.push_each_line.result (λ fault. fault_of fault) EachLine
    c.in-EachLine.is
    (MatchResult-weaker c.push_each_line.result c.push_each_line.ensures
    (λ _ adds. each_itself aim c.args.context.own c.args.game.now c.args.text.now.items
    c.push_each_line.new.text.items adds)
    (λ fault stops. stops))

pub returns-in-Export : goal.returns-in-Export
returns-in-Export c =
    put_in (aim_of c.args.context.settings.now) c.args.context.own c.args.game.now
    c.args.text.now.items c.put_selected.new.text.items c.put_selected.result
    (λ fault. fault_of fault) Export c.in-Export.is c.put_selected.ensures
