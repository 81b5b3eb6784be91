use Rattle.std.proofs.Common.{List, subst, sym}
use Rattle.std.proofs.lemmas.Result.{err_from_is_err_and}
use Rattle.px_load.specs.Heads.{GiveParts}
use Rattle.px_load.specs.declared.heads.PartReader.{PartReader}
use Rattle.px_load.proofs.printing.print_files.Goals as goal

pub returns-clause-printed : goal.returns-clause-printed
returns-clause-printed g c = λ k h map hold held.
    let s = g.SD.Disk.shown c.args.scratch.now in
    let room = c.args.frames.now.vertex.room in
    c.in_ok-answer.ensures.printed k h map (subst (λ (ps : List PartReader). GiveParts s room ps k) (sym c.deref_mut.ensures.value) (c.open_all-readers.ensures.gives s room k hold)) held

pub returns-in_err-answer-clause-part : goal.returns-in_err-answer-clause-part
returns-in_err-answer-clause-part g c =
    let end = err_from_is_err_and c.from_residual.result c.from_residual.ensures.1 in
    let s = g.SD.Disk.shown c.args.scratch.now in
    let room = c.args.frames.now.vertex.room in
    rw end.1 (λ k h map hold held. c.in_err-answer.ensures.part k h map (subst (λ (ps : List PartReader). GiveParts s room ps k) (sym c.deref_mut.ensures.value) (c.open_all-readers.ensures.gives s room k hold)) held)
