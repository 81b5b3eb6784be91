use Rattle.std.proofs.Common.{refl}
use Rattle.px_btree.proofs.Halving.{cuts_before, cuts_behind, cuts_none}
use Rattle.px_btree.proofs.split.cut_in.Goals as goal

pub returns-in-None-clause-halves : goal.returns-in-None-clause-halves
returns-in-None-clause-halves c = cuts_none c.args.vid c.find.result.index _ c.args.page.now _ c.in-None.ensures.none refl

pub returns-in-Some-clause-halves : goal.returns-in-Some-clause-halves
returns-in-Some-clause-halves c = cuts_before c.args.vid c.args.page.now c.in-Some.t _ c.in-Some.ensures.some refl c.if-vid-t.true

pub returns-in-Some-2-clause-halves : goal.returns-in-Some-2-clause-halves
returns-in-Some-2-clause-halves c = cuts_behind c.args.vid _ c.args.page.now c.in-Some.t _ c.in-Some.ensures.some refl c.if-vid-t.false refl
