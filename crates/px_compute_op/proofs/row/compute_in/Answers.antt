use Rattle.std.proofs.Common.{rules, ◌≡◌, ◌<◌, ◌⊎◌, ℕ, false, refl, sym, subst, inl, inr, arith}
use Rattle.std.proofs.lemmas.Result.{err_from_is_err_and}
use Rattle.px_meaning.specs.Graph.{vertex_size}
use Rattle.px_meaning.specs.Merge.{IsValidMessage}
use Rattle.px_meaning.specs.Program.{ProgramMeaning}
use Rattle.px_program.specs.Posted.{Posted, IsPartOf, IsBeyond, made_for}
use Rattle.px_connectors.specs.Asking.{Asked}
use Rattle.px_global_state.specs.States.{moment_of}
use Rattle.px_compute_op.specs.Outs.{HasTaken}
use Rattle.px_program.proofs.Gathering.{no_pieces}
use Rattle.px_compute_op.proofs.row.compute_in.Goals as goal

pub returns-in_err-compute_row-clause-err : goal.returns-in_err-compute_row-clause-err
returns-in_err-compute_row-clause-err g c =
    let m = g.K.Meant.start.program in
    let s = g.SD.Disk.shown c.args.scratch.now in
    let v = c.args.vertex.now in
    let at = moment_of c.args.gs.now in
    let end = err_from_is_err_and c.from_residual.result c.from_residual.ensures.1 in
    let stop : end.0 ≡ c.in_err-compute_row.field-0.0 = cc in
    rw (end.1, stop) (record {
      beyond = λ is r p row valid taken.
          let Taken : ℕ → Type 0 = λ n. HasTaken m n (g.G.Group.took s c.args.group.now m.message) (Asked s c.args.requests.now) g.K.Meant.asked_before c.args.part.now p in
          let Cause : ProgramMeaning → ℕ → Type 0 = λ q n. (v.room < vertex_size (q.out_of at r).vertex) ⊎ ((x : Posted) × IsPartOf (q.out_of at r) p x × IsBeyond (made_for m n) x) in
          let told = subst (λ (q : ProgramMeaning). IsValidMessage q.message r.message) (sym c.requires.program) valid in
          subst (λ (q : ProgramMeaning). Cause q v.room) c.requires.program (subst (Cause (g.P.Program.meaning c.args.program.now)) c.room-room.ensures.value (elim (c.in_err-compute_row.ensures.beyond r row told (cc)) [
            | inl wide ↦ inl wide
            | inr some ↦ inr (some p (λ open_still. subst Taken (sym c.room-room.ensures.value) taken))
          ]));
      cause = search rules;
      touches = search rules;
    })

pub compute_row-requires-clause-pieces : goal.compute_row-requires-clause-pieces
compute_row-requires-clause-pieces g c =
    no_pieces c.room-room.result c.args.spare.now.limit false c.clear.new.self.bytes (omega (arith, c.requires.limit, c.requires.room, c.room-room.ensures.value)) refl c.clear.ensures.bytes
