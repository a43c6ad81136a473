use Rattle.std.proofs.Common.{sym}
use Rattle.std.proofs.lemmas.List.{set_past}
use Rattle.screen.proofs.sessions.keep.Goals as goal

pub returns-else-at-replies : goal.returns-else-at-replies
returns-else-at-replies c = sym (set_past c.args.replies.now c.args.at c.args.reply c.if-at-replies.false)
