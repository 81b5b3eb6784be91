use Rattle.std.proofs.Common.{◌≡◌, sym, ◌∙◌}
use Rattle.px_store.proofs.Apart.{kept_for, not_owner}
use Rattle.px_store.proofs.Hold.{none_owns, gives_map}
use Rattle.px_store.proofs.tests.next_beside.Goals as goal

pub returns-clause-gives : goal.returns-clause-gives
returns-clause-gives g c = λ a b scans.
    let st = g.St.Store in
    let shown = g.D.Disk.shown in
    let one = c.args.one.now in
    let q = st.part one in
    let p = st.part c.args.other.now in
    let d0 = c.args.desk.now in
    let s0 = shown c.args.disk.now in
    let d1 = c.put.new.desk in
    let s1 = shown c.put.new.disk in
    let d2 = c.settle.new.desk in
    let s2 = shown c.settle.new.disk in
    let put = c.in_ok-put.ensures in
    let settle = c.in_ok-settle.ensures in
    let apart : p ≡ q → ⊥ = λ e. c.requires.apart (sym e) in
    let apart' : st.part c.put.new.self ≡ q → ⊥ = λ e. apart (sym put.part ∙ e) in
    let first = g.met.St.Store.scan_stays one d0 d1 s0 s1 a b (kept_for p q d0 d1 s0 s1 apart put.done.others) put.done.clean.touches.page_len (none_owns q d0.owner c.requires.owner) (not_owner p q d1.owner apart put.done.ready.owner) scans in
    let second = g.met.St.Store.scan_stays one d1 d2 s1 s2 a b (kept_for _ q d1 d2 s1 s2 apart' settle.done.others) settle.done.clean.touches.page_len (not_owner p q d1.owner apart put.done.ready.owner) (none_owns q d2.owner settle.owner) first in
    gives_map c.in_ok-given.given _ _ a b _ _ c.in_ok-settle-2.ensures.scans (c.in_ok-given.ensures.gives a b second)

pub returns-clause-holds : goal.returns-clause-holds
returns-clause-holds g c = λ l holds.
    let st = g.St.Store in
    let shown = g.D.Disk.shown in
    let other = c.settle.new.self in
    let p = st.part other in
    let q = st.part c.args.one.now in
    let d2 = c.settle.new.desk in
    let s2 = shown c.settle.new.disk in
    let d3 = c.next.new.desk in
    let s3 = shown c.next.new.disk in
    let d4 = c.settle-2.new.desk in
    let s4 = shown c.settle-2.new.disk in
    let put = c.in_ok-put.ensures in
    let settle = c.in_ok-settle.ensures in
    let next = c.in_ok-given.ensures in
    let last = c.in_ok-settle-2.ensures in
    let apart : q ≡ p → ⊥ = λ e. c.requires.apart (e ∙ settle.part ∙ put.part) in
    let apart' : st.part c.next.new.self ≡ p → ⊥ = λ e. apart (sym next.part ∙ e) in
    let first = g.met.St.Store.stays other d2 d3 s2 s3 _ (kept_for q p d2 d3 s2 s3 apart next.done.others) next.done.clean.touches.page_len (none_owns p d2.owner settle.owner) (not_owner q p d3.owner apart next.done.ready.owner) (settle.holds _ (put.holds l holds)) in
    g.met.St.Store.stays other d3 d4 s3 s4 _ (kept_for _ p d3 d4 s3 s4 apart' last.done.others) last.done.clean.touches.page_len (not_owner q p d3.owner apart next.done.ready.owner) (none_owns p d4.owner last.owner) first
