use Rattle.std.proofs.Common.{◌≡◌, drop}
use Rattle.px_words.proofs.Numbers.{number_after}
use Rattle.px_words.proofs.read.number_of.Given as goal

-- what the bytes still to come make of the number so far is what the text makes
abbrev pub invariant-loop-byte : goal.invariant-loop-byte
invariant-loop-byte l = number_after l.greatest 0 l.text ≡ number_after l.greatest l.number (drop l.byte-index l.text)
