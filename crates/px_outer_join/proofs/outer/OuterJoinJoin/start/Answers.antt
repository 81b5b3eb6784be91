use Rattle.std.proofs.Common.{◌∙◌, sym, ap, refl, []}
use Rattle.px_store.specs.declared.join.Inputs.{Inputs}
use Rattle.px_outer_join.proofs.Taking.{start_rows}
use Rattle.px_outer_join.proofs.outer.OuterJoinJoin.start.Goals as goal

pub returns-clause-gives : goal.returns-clause-gives
returns-clause-gives g c = λ l m holds ins.
    let turned = c.turn_to.ensures in
    let scans = c.in_ok-rewind.ensures.scans l holds in
    record {
      given = [];
      coming = l;
      whole = refl;
      held = g.met.St.Store.scan_holds c.rewind.new.self c.rewind.new.desk (g.GD.Disk.shown c.rewind.new.disk) [] l scans;
      scanned = λ _. scans;
      to_give = record {
        file = turned.file ∙ ap (λ (i : Inputs). i.msg_file) (sym turned.inputs);
        messages = m;
        to_give = turned.messages (g.SD.Disk.shown c.args._scratch.now) _ ins.messages;
        is = start_rows c.turn_to.new.self.held c.turn_to.new.self.ahead l m turned.held (g.met.St.Store.is_map c.args.store.now c.args.desk.now (g.GD.Disk.shown c.args.graph.now) l holds) ins.ascend;
      };
    }
