use Rattle.std.proofs.Common.{◌≡◌, ◌∙◌, ap, ◌+◌, ◌-◌, ◌*◌, ◌/◌, ◌++◌, ℕ, arith, take, drop, length, subst}
use Rattle.std.proofs.lemmas.List.{length-take, length-drop}
use Rattle.px_pages.specs.Page.{zeros}
use Rattle.px_pages.proofs.Writing.{zero_more, zero_rest}
use Rattle.px_pages.proofs.zero.zero.Goals as goal

pub loop-i-preserved : goal.loop-i-preserved
loop-i-preserved c =
    let next : c.loop-i.i * 256 + 256 ≡ (c.loop-i.i + 1) * 256 = omega arith in
    subst (λ (n : ℕ). c.zero_block.new.page ≡ zeros n ++ drop n c.args.page.now) next
    (zero_more c.args.page.now c.loop-i.page c.zero_block.new.page (c.loop-i.i * 256) c.loop-i.invariant c.zero_block.ensures)

pub returns : goal.returns
returns c =
    let last : c.loop-i.i ≡ length c.args.page.now / 256 = omega (arith, c.loop-i.auto.i-end, c.loop-i-test.false) in
    let done = subst (λ (n : ℕ). c.loop-i.page ≡ zeros (n * 256) ++ drop (n * 256) c.args.page.now) last c.loop-i.invariant in
    let at : ℕ = length c.args.page.now / 256 * 256 in
    let part = take (length c.loop-i.page - at) (drop at c.loop-i.page) in
    let len : length part ≡ length c.args.page.now - at = omega (arith, length-take (length c.loop-i.page - at) (drop at c.loop-i.page), length-drop at c.loop-i.page, c.loop-i.auto.page) in
    let zero : c.fill.new.self ≡ zeros (length part) = c.fill.ensures.after (λ y h. h) in
    zero_rest c.args.page.now c.loop-i.page c.fill.new.self at _ done (omega arith) (omega (arith, c.loop-i.auto.page)) (zero ∙ ap zeros len)
