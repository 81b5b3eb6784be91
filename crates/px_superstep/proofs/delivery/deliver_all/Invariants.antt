use Rattle.std.proofs.Common.{◌≡◌, ◌<◌, ℕ, false, length}
use Rattle.px_core.specs.Parts.{to_part, all_of}
use Rattle.px_core.specs.Shown.{Clean}
use Rattle.px_meaning.specs.Graph.{room_of}
use Rattle.px_meaning.specs.Merge.{Pairs, AllValid, grouped}
use Rattle.px_meaning.specs.Step.{has_wide_fold}
use Rattle.px_stream.specs.Stream.{Holds}
use Rattle.px_store.specs.Joins.{message_tuples}
use Rattle.px_superstep.specs.Benches.{HasBench}
use Rattle.px_superstep.specs.Files.{msg_file, IsDeliveryFile}
use Rattle.px_superstep.specs.Phases.{Each}
use Rattle.px_superstep.proofs.delivery.deliver_all.Given as goal

-- what is below the partition at hand was delivered
abbrev pub invariant-loop-q : goal.invariant-loop-q
invariant-loop-q g l =
    let rule = (g.P.Program.meaning l.program).message in
    let parts = length l.fn.msg_pages in
    let t0 = g.SD.Disk.shown l.fn.scratch in
    let t = g.SD.Disk.shown l.scratch in
    record {
      holds : (ls : ℕ → Pairs) → ((p : ℕ) → p < parts → g.C.Connector.sent l.fn.connector t0 p (ls p)) → AllValid rule (all_of parts ls)
          → Each l.msg_pages (λ i n. i < l.q → Holds t (msg_file l.parity i) n (message_tuples (grouped rule (to_part parts i (all_of parts ls)))));
      fits : (ls : ℕ → Pairs) → ((p : ℕ) → p < parts → g.C.Connector.sent l.fn.connector t0 p (ls p)) → AllValid rule (all_of parts ls)
          → (i : ℕ) → i < l.q → has_wide_fold rule (room_of t0.page_len) (to_part parts i (all_of parts ls)) ≡ false;
      sent : (p : ℕ) (k : Pairs) → g.C.Connector.sent l.fn.connector t0 p k → g.C.Connector.sent l.connector t p k;
      count : length l.msg_pages ≡ parts;
      end : l.q-end ≡ parts;
      view : g.C.Connector.view l.connector ≡ g.C.Connector.view l.fn.connector;
      bank : l.bank ≡ l.fn.bank;
      bench : HasBench l.bank;
      parts_are : (g.C.Connector.view l.connector).parts ≡ parts;
      len : l.bank.frame_len ≡ t.page_len;
      connector_len : (g.C.Connector.view l.connector).frame_len ≡ t.page_len;
      ok : Clean IsDeliveryFile t0 t;
    }
