-- Why a line is refused, as the parser answers it and as the text's meaning has it.
use Rattle.px_meaning.specs.Line.{Kind as MeantKind, Form as MeantForm, Number as MeantNumber, Wide as MeantWide, Long as MeantLong}
use Rattle.px_graph_text.specs.declared.refusal.Kind.{Kind}
use Rattle.px_graph_text.specs.declared.refusal.Kind.TheVariants.{Form, Number, Wide, Long}

abbrev pub kind_of : Kind → MeantKind
kind_of Form = MeantForm
kind_of Number = MeantNumber
kind_of Wide = MeantWide
kind_of Long = MeantLong
