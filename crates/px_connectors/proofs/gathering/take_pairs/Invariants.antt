use Rattle.std.proofs.Common.{◌≡◌, List, IsTrue}
use Rattle.px_core.specs.Shown.{Clean}
use Rattle.px_frames.specs.Buffer.{SameRoom}
use Rattle.px_pages.specs.Entry.{Entry}
use Rattle.px_stream.specs.Stream.{ToGive}
use Rattle.px_stream.specs.Counts.{left}
use Rattle.px_meaning.specs.Merge.{Pairs, AllValid}
use Rattle.px_program.specs.Groups.{IsOwn}
use Rattle.px_connectors.specs.Messages.{pairs_of}
use Rattle.px_connectors.proofs.Between.{Adding}
use Rattle.px_connectors.proofs.gathering.take_pairs.Given as goal

abbrev pub invariant-loop-head : goal.invariant-loop-head
invariant-loop-head g l =
    let shown = g.D.Disk.shown in
    let rule = g.M.Merge.rule l.fn.merge in
    record {
      adding : (ins : List Entry) (k : Pairs) → ToGive (shown l.fn.disk) l.fn.from ins → AllValid rule (pairs_of ins) → g.G.Group.took (shown l.fn.disk) l.fn.group rule k
          → Adding (g.G.Group.took (shown l.disk) l.group rule) (shown l.disk) l.from k ins;
      clean : Clean (IsOwn (g.G.Group.made l.fn.group)) (shown l.fn.disk) (shown l.disk);
      made : g.G.Group.made l.group ≡ g.G.Group.made l.fn.group;
      opened : IsTrue (g.G.Group.is_open l.group);
      from_file : l.from.file ≡ l.fn.from.file;
      from_len : l.from.page_len ≡ l.fn.from.page_len;
      room : SameRoom l.fn.into l.into;
    }

abbrev pub decreases-loop-head : goal.decreases-loop-head
decreases-loop-head g l = left l.from
