use Rattle.std.proofs.Common.{length}
use Rattle.px_load.proofs.printing.print_files.Given as goal

-- the text is printed through a frame to this sink
abbrev pub ghosts-print_framed : goal.ghosts-print_framed
ghosts-print_framed g a = record { began = g.W.Sink.holds a.out.now; len = length a.frame.now }
