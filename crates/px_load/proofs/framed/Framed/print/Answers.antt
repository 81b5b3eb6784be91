use Rattle.std.proofs.Common.{◌∷◌, [], refl}
use Rattle.std.proofs.lemmas.Result.{err_from_is_err_and}
use Rattle.px_load.proofs.FramedSteps.{named_out, named_frame, named_puts, named_part}
use Rattle.px_load.proofs.framed.Framed.print.Goals as goal

pub returns-clause-printed : goal.returns-clause-printed
returns-clause-printed g c = λ k map give. (c.in_ok-print_all.ensures.printed k (c.args.self.now.out.ghost_name ∷ c.args.self.now.frame.ghost_name ∷ []) map give (refl, refl, c.requires.first)).2

pub returns-clause-more : goal.returns-clause-more
returns-clause-more g c =
    let out = c.args.self.now.out.ghost_name in
    let frame = c.args.self.now.frame.ghost_name in
    named_puts out frame _ _ _ (c.print_all.ensures.more (out ∷ frame ∷ []) (refl, refl, c.requires.first))

pub returns-clause-lends : goal.returns-clause-lends
returns-clause-lends g c =
    let out = c.args.self.now.out.ghost_name in
    let frame = c.args.self.now.frame.ghost_name in
    named_out out frame _ _ _ (c.print_all.ensures.more (out ∷ frame ∷ []) (refl, refl, c.requires.first))

pub returns-clause-fills : goal.returns-clause-fills
returns-clause-fills g c =
    let out = c.args.self.now.out.ghost_name in
    let frame = c.args.self.now.frame.ghost_name in
    named_frame out frame _ _ _ (c.print_all.ensures.more (out ∷ frame ∷ []) (refl, refl, c.requires.first))

pub returns-in_err-print_all-clause-more : goal.returns-in_err-print_all-clause-more
returns-in_err-print_all-clause-more g c =
    let out = c.args.self.now.out.ghost_name in
    let frame = c.args.self.now.frame.ghost_name in
    named_puts out frame _ _ _ (c.print_all.ensures.more (out ∷ frame ∷ []) (refl, refl, c.requires.first))

pub returns-in_err-print_all-clause-lends : goal.returns-in_err-print_all-clause-lends
returns-in_err-print_all-clause-lends g c =
    let out = c.args.self.now.out.ghost_name in
    let frame = c.args.self.now.frame.ghost_name in
    named_out out frame _ _ _ (c.print_all.ensures.more (out ∷ frame ∷ []) (refl, refl, c.requires.first))

pub returns-in_err-print_all-clause-fills : goal.returns-in_err-print_all-clause-fills
returns-in_err-print_all-clause-fills g c =
    let out = c.args.self.now.out.ghost_name in
    let frame = c.args.self.now.frame.ghost_name in
    named_frame out frame _ _ _ (c.print_all.ensures.more (out ∷ frame ∷ []) (refl, refl, c.requires.first))

pub returns-in_err-print_all-clause-part : goal.returns-in_err-print_all-clause-part
returns-in_err-print_all-clause-part g c =
    let end = err_from_is_err_and c.from_residual.result c.from_residual.ensures.1 in
    let out = c.args.self.now.out.ghost_name in
    let frame = c.args.self.now.frame.ghost_name in
    rw end.1 (λ k map give. named_part out frame _ _ _ _ (c.in_err-print_all.ensures.part k (out ∷ frame ∷ []) map give (refl, refl, c.requires.first)))
