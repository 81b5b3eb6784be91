use Rattle.std.proofs.Common.{◌≡◌, ◌≤◌, ◌+◌, ◌++◌, ℕ, List, length, drop, ap, ◌∙◌, arith}
use Rattle.px_record.specs.Body.{body_of, vertex_of, AreBytes}
use Rattle.px_record.proofs.Held.{holds_loaded, same_held, length-fitted}
use Rattle.px_record.proofs.Laws.{body_of-vertex_of}
use Rattle.px_record.proofs.vertex.VertexBuf.load.Goals as goal

pub invariant_of-self : goal.invariant_of-self
invariant_of-self c =
    let room : 13 + length c.args.body.now ≤ c.self.inside.room = omega (arith, c.self.invariant.size) in
    let bytes : AreBytes c.args.body.now = λ i. (c.type_inv.body i).fits in
    let out = c.put_body.ensures ∙ ap (λ (l : List ℕ). c.args.body.now ++ drop (length c.args.body.now) l) c.bytes_mut.ensures.value in
    let loaded = holds_loaded c.self.inside.header c.in-Some.header c.self.inside.room c.self.inside.frame c.put_body.new.out c.args.body.now c.self.invariant c.in-Some.ensures.some bytes room out in
    loaded.held

pub returns-clause-held : goal.returns-clause-held
returns-clause-held c = λ _.
    let room : 13 + length c.args.body.now ≤ c.self.inside.room = omega (arith, c.self.invariant.size) in
    let bytes : AreBytes c.args.body.now = λ i. (c.type_inv.body i).fits in
    let out = c.put_body.ensures ∙ ap (λ (l : List ℕ). c.args.body.now ++ drop (length c.args.body.now) l) c.bytes_mut.ensures.value in
    let loaded = holds_loaded c.self.inside.header c.in-Some.header c.self.inside.room c.self.inside.frame c.put_body.new.out c.args.body.now c.self.invariant c.in-Some.ensures.some bytes room out in
    let len : length c.put_body.new.out ≡ length c.self.inside.frame = omega (arith, c.put_body.auto.out, ap length c.bytes_mut.ensures.value) in
    rw (← c.self.view_is)
    (same_held c.args.vid c.self.inside.room _ (vertex_of c.args.body.now) _ (length c.self.inside.frame) loaded.is (length-fitted c.self.inside.frame c.put_body.new.out len))

pub returns-clause-body : goal.returns-clause-body
returns-clause-body c = λ _.
    let room : 13 + length c.args.body.now ≤ c.self.inside.room = omega (arith, c.self.invariant.size) in
    let bytes : AreBytes c.args.body.now = λ i. (c.type_inv.body i).fits in
    let out = c.put_body.ensures ∙ ap (λ (l : List ℕ). c.args.body.now ++ drop (length c.args.body.now) l) c.bytes_mut.ensures.value in
    let loaded = holds_loaded c.self.inside.header c.in-Some.header c.self.inside.room c.self.inside.frame c.put_body.new.out c.args.body.now c.self.invariant c.in-Some.ensures.some bytes room out in
    ap body_of loaded.is ∙ body_of-vertex_of c.args.body.now bytes c.in-Some.ensures.some.valid
