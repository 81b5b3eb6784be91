use Rattle.std.specs.Prelude.{flat_map}
use Rattle.std.proofs.Common.{◌^◌, refl, sym, subst}
use Rattle.px_meaning.specs.Graph.{room_of}
use Rattle.px_meaning.specs.GraphText.{graph_of}
use Rattle.px_superstep.specs.Ends.{IsUnread}
use Rattle.px_superstep.specs.Lines.{line_text}
use Rattle.px_superstep.proofs.Reaching.{lines_moved}
use Rattle.px_superstep.proofs.Runs.{ends_moved}
use Rattle.px_superstep.proofs.running.run_job.Goals as goal

pub returns-clause-decided : goal.returns-clause-decided
returns-clause-decided g c = (ends_moved _ _ _ _ _ _ _ _ _ _ _ _ (g.P.Program.meaning c.in-Ok.job.program) (room_of c.args.setup.now.frame_bytes) _ _ c.in-Ok.ensures.program refl c.run_opened-end.ensures.ends).owed

pub returns-clause-text : goal.returns-clause-text
returns-clause-text g c = (ends_moved _ _ _ _ _ _ _ _ _ _ _ _ (g.P.Program.meaning c.in-Ok.job.program) (room_of c.args.setup.now.frame_bytes) _ _ c.in-Ok.ensures.program refl c.run_opened-end.ensures.ends).done

pub returns-clause-part : goal.returns-clause-part
returns-clause-part g c = (ends_moved _ _ _ _ _ _ _ _ _ _ _ _ (g.P.Program.meaning c.in-Ok.job.program) (room_of c.args.setup.now.frame_bytes) _ _ c.in-Ok.ensures.program refl c.run_opened-end.ensures.ends).part

pub returns-clause-line : goal.returns-clause-line
returns-clause-line g c = c.run_opened-end.ensures.ends.line

pub returns-clause-unwritten : goal.returns-clause-unwritten
returns-clause-unwritten g c = c.run_opened-end.ensures.ends.unwritten

pub returns-clause-read : goal.returns-clause-read
returns-clause-read g c = c.run_opened-end.ensures.ends.read

pub returns-clause-faults : goal.returns-clause-faults
returns-clause-faults g c = c.run_opened-end.ensures.faults

pub returns-clause-unread : goal.returns-clause-unread
returns-clause-unread g c = λ u. absurd (c.run_opened-end.ensures.ends.started u)

pub returns-clause-unread_graph : goal.returns-clause-unread_graph
returns-clause-unread_graph g c = λ u. absurd (c.run_opened-end.ensures.ends.started u)

pub returns-clause-unread_scratch : goal.returns-clause-unread_scratch
returns-clause-unread_scratch g c = λ u. absurd (c.run_opened-end.ensures.ends.started u)

pub returns-clause-enough : goal.returns-clause-enough
returns-clause-enough g c = λ low need have is. c.run_opened-end.ensures.ends.started (subst IsUnread (sym is) tt)

pub returns-clause-stats : goal.returns-clause-stats
returns-clause-stats g c = λ done wanted bytes e left a b has. (
  flat_map line_text c.run_opened-end.new.stats,
  record {
    lines = c.run_opened-end.new.stats;
    of = lines_moved (g.P.Program.meaning c.args.program) (g.P.Program.meaning c.in-Ok.job.program) (room_of c.args.setup.now.frame_bytes) (room_of c.args.setup.now.frame_bytes) c.args.setup.now.max (graph_of bytes (room_of c.args.setup.now.frame_bytes) (2 ^ 48)) c.run_opened-end.new.stats c.in-Ok.ensures.program refl (c.run_opened-end.ensures.noted done bytes left a b);
    is = refl;
  },
  c.report.ensures.written done wanted e has,
)
