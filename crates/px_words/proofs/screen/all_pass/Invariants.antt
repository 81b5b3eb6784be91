use Rattle.std.proofs.Common.{◌≡◌, drop, map, string_bytes}
use Rattle.px_words.specs.Screen.{all_pass}
use Rattle.px_words.proofs.screen.all_pass.Given as goal

-- all words pass where those that are left do
abbrev pub invariant-loop-word : goal.invariant-loop-word
invariant-loop-word l = all_pass (map string_bytes l.words) ≡ all_pass (map string_bytes (drop l.word-index l.words))
