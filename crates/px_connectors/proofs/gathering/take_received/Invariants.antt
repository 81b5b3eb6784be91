use Rattle.std.proofs.Common.{◌≡◌, ℕ, [], length, IsTrue}
use Rattle.px_core.specs.Parts.{all_of}
use Rattle.px_core.specs.Shown.{Clean}
use Rattle.px_frames.specs.Buffer.{SameRoom}
use Rattle.px_meaning.specs.Merge.{Pairs, AllValid}
use Rattle.px_program.specs.Groups.{IsOwn}
use Rattle.px_connectors.specs.Receiving.{AreReaders, GiveAll, all_left}
use Rattle.px_connectors.proofs.Mixing.{Mixing}
use Rattle.px_connectors.proofs.gathering.take_received.Given as goal

abbrev pub invariant-loop-vid : goal.invariant-loop-vid
invariant-loop-vid g l =
    let shown = g.D.Disk.shown in
    let rule = g.M.Merge.rule l.fn.merge in
    let parts = length l.fn.from.readers.items in
    record {
      mixing : (ls : ℕ → Pairs) → GiveAll (shown l.fn.disk) l.fn.from.readers.items ls → AllValid rule (all_of parts ls) → g.G.Group.took (shown l.fn.disk) l.fn.group rule []
          → Mixing (g.G.Group.took (shown l.disk) l.group rule) (GiveAll (shown l.disk) l.from.readers.items) parts ls;
      clean : Clean (IsOwn (g.G.Group.made l.fn.group)) (shown l.fn.disk) (shown l.disk);
      made : g.G.Group.made l.group ≡ g.G.Group.made l.fn.group;
      opened : IsTrue (g.G.Group.is_open l.group);
      are : AreReaders (shown l.fn.disk).page_len l.from.readers.items;
      count : length l.from.readers.items ≡ parts;
      room : SameRoom l.fn.into l.into;
    }

abbrev pub decreases-loop-vid : goal.decreases-loop-vid
decreases-loop-vid g l = all_left l.from.readers.items
