-- Texts that are made from a seed, worked out.
use Rattle.std.proofs.Common.{◌≡◌, refl}
use Rattle.std.specs.Prelude.{codes}
use Rattle.std.specs.Fmt.{digits}
use Rattle.px_graph_text.specs.Generated.{word, after, next_line, after_line, generated}

pub three_of_seven : generated 7 3 ≡ codes "0 1:13 0:38\n1 0:80 1:97 1:52\n2\n"
unfolding digits word after next_line after_line
three_of_seven = refl

pub none_of_seven : generated 7 0 ≡ codes ""
none_of_seven = refl
