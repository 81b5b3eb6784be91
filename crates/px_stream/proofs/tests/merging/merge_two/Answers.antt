use Rattle.std.proofs.Common.{rules, ◌≡◌, sym, ◌∙◌, List, ◌∷◌, ◌++◌, []}
use Rattle.std.proofs.lemmas.Option.{MatchOption-at_some}
use Rattle.px_pages.specs.Entry.{Entry}
use Rattle.px_stream.specs.Stream.{Took, ToGive, tuple}
use Rattle.px_stream.specs.Merged.{merged, LeadsBoth}
use Rattle.px_stream.proofs.Merging.{merging_next}
use Rattle.px_stream.proofs.tests.merging.merge_two.Goals as goal

pub loop-head-preserved : goal.loop-head-preserved
loop-head-preserved g c =
    let i = c.loop-head.invariant in
    let s = g.D.Disk.shown c.loop-head.disk in
    let t = g.D.Disk.shown c.next_of.new.disk in
    let u = g.D.Disk.shown c.put.new.disk in
    let e = tuple c.in-Some.head c.next_of.new.body.bytes in
    let gives : (la lb : List Entry) → ToGive s c.loop-head.a la → ToGive s c.loop-head.b lb → LeadsBoth e (merged la lb) (ToGive t c.next_of.new.a) (ToGive t c.next_of.new.b) =
    MatchOption-at_some _ _ _ c.in-Some.is c.in_ok-head.ensures.some in
    let takes : (k : List Entry) → Took t c.loop-head.to k → Took u c.put.new.self (k ++ e ∷ []) = rw (← c.bytes.ensures.bytes) c.in_ok-put.ensures.took in
    let other_a : c.next_of.new.a.file ≡ c.loop-head.to.file → ⊥ = λ h. c.requires.a_file (sym i.a_file ∙ sym c.next_of.ensures.a.file ∙ h ∙ i.to_file) in
    let other_b : c.next_of.new.b.file ≡ c.loop-head.to.file → ⊥ = λ h. c.requires.b_file (sym i.b_file ∙ sym c.next_of.ensures.b.file ∙ h ∙ i.to_file) in
    record {
      merging = λ la lb k a b w. merging_next s t u _ _ _ _ _ _ e (k ++ merged la lb) c.in_ok-head.ensures.ok.touches c.in_ok-put.ensures.ok.touches other_a other_b gives takes (i.merging la lb k a b w);
      clean = search rules;
      a_file = search rules;
      b_file = search rules;
      a_len = search rules;
      b_len = search rules;
      to_file = search rules;
      to_len = search rules;
      limit = search rules;
    }
