use Rattle.std.proofs.Common.{◌+◌, ◌-◌, ◌*◌, ℕ, List, take, drop, refl, ap, ◌∙◌}
use Rattle.std.specs.Cmp.Lexicographic.{lists_agrees}
use Rattle.std.specs.Ordering.{is_some_and, is_gt, nat_cmp}
use Rattle.px_programs.specs.InOrder.{is_after}
use Rattle.px_programs.proofs.EntryPlaces.{sliced_entry}
use Rattle.px_programs.proofs.entries.is_after.Goals as goal

pub returns : goal.returns
returns c =
    let entry = take (12 * (c.args.i + 1) - 12 * c.args.i) (drop (12 * c.args.i) c.args.bytes.now) in
    c.gt.ensures ∙ ap (is_some_and is_gt) (lists_agrees {R = nat_cmp} (λ x y. refl) entry c.args.entry.now)
    ∙ ap (λ (e : List ℕ). is_after e c.args.entry.now) (sliced_entry c.args.i c.args.bytes.now)
