-- What a decoded message of chains says.
use Rattle.std.specs.Prelude.{◌≡◌, ◌/◌, ◌%◌, length, ⊤}
use Rattle.px_record.specs.Body.{edges_in}
use Rattle.px_programs.specs.declared.chain_messages.Message.{Message}
use Rattle.px_programs.specs.declared.chain_messages.Message.TheVariants.{Note as TheNote, Many as TheMany, Answer as TheAnswer}
use Rattle.px_programs.specs.ChainMessages.{Said, Note, Many, Answer}

abbrev pub said : Message → Said
said (TheNote flag vid) = Note flag vid
said TheMany = Many
said (TheAnswer vids edges) = Answer vids.now (edges_in (length edges.now / 12) edges.now)

-- the bytes of edges are whole edges
abbrev pub HasWholeEdges : Message → Type 0
HasWholeEdges (TheNote flag vid) = ⊤
HasWholeEdges TheMany = ⊤
HasWholeEdges (TheAnswer vids edges) = length edges.now % 12 ≡ 0
