use Rattle.px_meaning.proofs.Inbox.{inbox-append}
use Rattle.px_meaning.proofs.laws.inbox_of_joined.Goals as goal

pub returns : goal.returns
returns c = inbox-append
