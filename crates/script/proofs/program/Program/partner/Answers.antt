use Rattle.std.proofs.Common.{rules}
use Rattle.script.proofs.Partners.{partner_past}
use Rattle.script.proofs.program.Program.partner.Goals as goal

pub returns-in-None : goal.returns-in-None
returns-in-None c = search (rules, partner_past)
