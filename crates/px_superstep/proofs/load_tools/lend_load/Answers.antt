use Rattle.std.proofs.Common.{◌≡◌, sym, ◌∙◌, ap, subst, ℕ, false}
use Rattle.px_frames.specs.Banks.{BankView, size_of}
use Rattle.px_load.specs.Frames.{AreLoadFrames}
use Rattle.px_superstep.specs.Benches.{HasSlot}
use Rattle.px_superstep.specs.Lending.{bench_home, IsShareOf}
use Rattle.px_superstep.specs.LoadTooling.{load_home, IsLoadOut, AreLentTools}
use Rattle.px_superstep.proofs.Lending.{home_again, out_sizes}
use Rattle.px_superstep.proofs.LoadTooling.{messages_home, load_is_out, tools_lent, load_frames}
use Rattle.px_superstep.proofs.load_tools.lend_load.Goals as goal

pub lend-outs-requires-clause-in_range : goal.lend-outs-requires-clause-in_range
lend-outs-requires-clause-in_range c = rw (c.lend_bench-lent.ensures.bank) (messages_home c.args.bank.now 1 c.requires.messages).in_range

pub lend-outs-requires-clause-home : goal.lend-outs-requires-clause-home
lend-outs-requires-clause-home c = rw (c.lend_bench-lent.ensures.bank) (messages_home c.args.bank.now 1 c.requires.messages).home

pub returns-clause-out : goal.returns-clause-out
returns-clause-out c =
    let mid = c.lend_bench-lent.new.bank in
    let slot : HasSlot mid 3 1 = subst (λ (b : BankView). HasSlot b 3 1) (sym c.lend_bench-lent.ensures.bank) (messages_home c.args.bank.now 1 c.requires.messages) in
    subst IsLoadOut (sym c.lend-outs.ensures.out) (load_is_out mid slot.in_range c.lend_bench-lent.ensures.out)

pub returns-clause-back : goal.returns-clause-back
returns-clause-back c =
    let mid = c.lend_bench-lent.new.bank in
    let slot : HasSlot mid 3 1 = subst (λ (b : BankView). HasSlot b 3 1) (sym c.lend_bench-lent.ensures.bank) (messages_home c.args.bank.now 1 c.requires.messages) in
    ap load_home c.lend-outs.ensures.out ∙ ap bench_home (home_again mid 3 1 slot) ∙ c.lend_bench-lent.ensures.back

pub returns-clause-lent : goal.returns-clause-lent
returns-clause-lent c =
    let mid = c.lend_bench-lent.new.bank in
    let slot : HasSlot mid 3 1 = subst (λ (b : BankView). HasSlot b 3 1) (sym c.lend_bench-lent.ensures.bank) (messages_home c.args.bank.now 1 c.requires.messages) in
    let outs : IsShareOf mid 3 c.lend-outs.result = record { size = c.lend-outs.ensures.size; frame_len = c.lend-outs.ensures.frame_len; full = c.lend-outs.ensures.full } in
    subst (λ (b : BankView). AreLentTools b c.open_tools.result) (sym c.lend-outs.ensures.out)
    (tools_lent mid slot.in_range false c.lend_bench-lent.result c.lend-outs.result c.open_tools.result c.lend_bench-lent.ensures.lent outs c.open_tools.ensures.tools)

pub returns-clause-frames : goal.returns-clause-frames
returns-clause-frames c =
    let mid = c.lend_bench-lent.new.bank in
    let old = c.args.bank.now in
    let outs : IsShareOf mid 3 c.lend-outs.result = record { size = c.lend-outs.ensures.size; frame_len = c.lend-outs.ensures.frame_len; full = c.lend-outs.ensures.full } in
    let sizes : size_of mid 3 ≡ size_of old 3 = ap (λ (b : BankView). size_of b 3) c.lend_bench-lent.ensures.bank ∙ out_sizes old c.requires.bench 3 in
    let len : mid.frame_len ≡ old.frame_len = ap (λ (b : BankView). b.frame_len) c.lend_bench-lent.ensures.bank in
    subst (λ (n : ℕ). AreLoadFrames c.open_tools.result.frames n old.frame_len) sizes
    (subst (λ (n : ℕ). AreLoadFrames c.open_tools.result.frames (size_of mid 3) n) len
    (load_frames mid c.lend_bench-lent.result c.lend-outs.result c.open_tools.result c.lend_bench-lent.ensures.lent c.lend_bench-lent.ensures.enough outs c.open_tools.ensures.tools c.open_tools.ensures.room c.open_tools.ensures.limit))
