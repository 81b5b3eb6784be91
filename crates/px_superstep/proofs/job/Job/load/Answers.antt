use Rattle.std.proofs.Common.{◌≡◌, ◌≤◌, ◌<◌, ◌^◌, ℕ, length, true, false, sym, ◌∙◌, ap, subst, refl, arith}
use Rattle.std.proofs.lemmas.List.{with_items_is}
use Rattle.std.specs.Vec.{with_items}
use Rattle.px_frames.specs.Banks.{BankView}
use Rattle.px_global_state.specs.declared.gs.Gs.{Gs}
use Rattle.px_load.specs.Loading.{AreStores}
use Rattle.px_load.specs.Stops.{HasGoodLines}
use Rattle.px_meaning.specs.Graph.{room_of}
use Rattle.px_meaning.specs.GraphText.{graph_of}
use Rattle.px_superstep.specs.Jobs.{AreLoaded, AreNoMessages}
use Rattle.px_superstep.specs.Plans.{IsBank}
use Rattle.px_superstep.proofs.JobStanding.{stands_here}
use Rattle.px_superstep.proofs.Loaded.{loaded_stands, zero_at}
use Rattle.px_superstep.proofs.Stepping.{free_over}
use Rattle.px_superstep.proofs.job.Job.load.Goals as goal

pub returns-clause-loaded : goal.returns-clause-loaded
returns-clause-loaded g c = λ bytes left off tells told none.
    let job = c.args.self.now in
    let new = c.load_with-answer.new in
    let graph = g.GD.Disk.shown new.graph in
    let t = g.SD.Disk.shown c.args.scratch.now in
    let holding : g.row.St.Denot → _ → Type 0 = λ st h. g.St.Store.holds st new.desk graph h in
    let ok = c.in_ok-gs.ensures in
    let gs = c.in_ok-gs.gs in
    let count : length new.stores ≡ length job.stores.items = c.load_with-answer.ensures.count ∙ ap length c.deref_mut.ensures.value in
    let l : AreLoaded (graph_of bytes (room_of job.bank.frame_len) (2 ^ 48)) holding new.stores new.tallies gs.count =
    subst (λ (n : ℕ). AreLoaded (graph_of bytes (room_of n) (2 ^ 48)) holding new.stores new.tallies gs.count) c.requires.graph_len (ok.loaded bytes left tells told)
    in
    let long : length new.stores ≡ job.stores.len = omega (arith, c.load_with-answer.ensures.count, c.deref_mut.ensures.len) in
    let items : (with_items job.stores new.stores).items ≡ new.stores = with_items_is job.stores new.stores long in
    let small : gs.count < 2 ^ 64 = omega (arith, c.count_of-count.ensures, c.count_of-count.type_inv) in
    let most : length new.stores ≤ 16 = c.load_with-answer.ensures.parts.most in
    let empty : AreNoMessages (length new.stores) t = subst (λ (n : ℕ). AreNoMessages n t) (sym count) none in
    record {
      vertices = l.graph;
      good = l.good;
      stands = stands_here (g.P.Program.meaning job.program) _ _ _ _ _ _ _ _ _ _ _ _ _ _ refl items refl refl refl
          (loaded_stands (g.P.Program.meaning job.program) job.bank.frame_len g.J.Join.probing holding new.stores t (g.SD.Disk.shown new.scratch) _ new.tallies gs bytes off c.requires.job.bank.frame_len l ok.gs small most (λ i low. zero_at 16 i) ok.scratch.touches empty);
    }

pub returns-clause-good_lines : goal.returns-clause-good_lines
returns-clause-good_lines g c = λ bytes left.
    subst (λ (n : ℕ). HasGoodLines (graph_of bytes (room_of n) (2 ^ 48))) c.requires.graph_len (c.in_ok-gs.ensures.good_lines bytes left)

pub returns-clause-first : goal.returns-clause-first
returns-clause-first g c = ap (λ (x : Gs). x.superstep) c.in_ok-gs.ensures.gs

pub returns-clause-job : goal.returns-clause-job
returns-clause-job g c =
    let job = c.args.self.now in
    let new = c.load_with-answer.new in
    let long : length new.stores ≡ job.stores.len = omega (arith, c.load_with-answer.ensures.count, c.deref_mut.ensures.len) in
    let items : (with_items job.stores new.stores).items ≡ new.stores = with_items_is job.stores new.stores long in
    let count : length job.stores.items ≡ length (with_items job.stores new.stores).items = sym (ap length items ∙ c.load_with-answer.ensures.count ∙ ap length c.deref_mut.ensures.value) in
    let bank : c.give_load.new.bank ≡ job.bank = c.give_load.ensures ∙ c.lend_load-tools.ensures.back in
    let len : job.bank.frame_len ≡ c.give_load.new.bank.frame_len = ap (λ (b : BankView). b.frame_len) (sym bank) in
    record {
      bank = subst (λ (n : ℕ). IsBank n true false c.give_load.new.bank) count (subst (IsBank (length job.stores.items) true false) (sym bank) c.requires.job.bank);
      stores = subst (AreStores g.St.Store.part) (sym items) c.load_with-answer.ensures.parts;
      free = free_over g.St.Store.counted _ new.desk (g.GD.Disk.shown new.graph) (c.in_ok-gs.ensures.clean.touches.page_len ∙ c.requires.graph_len ∙ len) c.in_ok-gs.ensures.free;
    }
