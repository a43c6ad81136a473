use Rattle.std.proofs.Common.{◌≡◌, ◌+◌, ℕ, ap, add-one, drop, take, rules, arith}
use Rattle.rules.specs.Script.{line_at, to_closer, turned}
use Rattle.script.proofs.Partners.{partner_opener, partner_closer, partner_none, partner_past, rest_of, turned_before}
use Rattle.script.proofs.pairs.partner_of.Goals as goal
use Rattle.script.proofs.pairs.partner_of.Goals.{then-opens, else-opens+then-closes, else-opens+else-closes}

pub returns-in_default : goal.returns-in_default
returns-in_default c = search (rules, partner_past)

pub returns : goal.returns
returns c =
    let ls = c.args.lines.now in
    let k = c.args.k in
    let here : line_at ls k ≡ c.in-Some.line.now = search rules in
    elim c.if-opens.branch [
      | then-opens w ↦
          let p = partner_opener ls k c.in-Some.line.now here (search rules) in
          let v : w.to_closer.result ≡ to_closer (drop (k + 1) ls) 0 = search (rules, rest_of) in
          let f : ℕ → ℕ = λ n. n + to_closer (drop n ls) 0 in
          let q = ap f (add-one k) in
          omega (arith, p, v, q, w.other-is)
      | else-opens+then-closes w ↦
          let p = partner_closer ls k c.in-Some.line.now here (search rules) (search rules) in
          let v : w.to_closer-then-closes.result ≡ to_closer (turned (take k ls)) 0 = search (rules, rest_of, turned_before) in
          omega (arith, p, v, w.other-is, w.saturating_sub.ensures)
      | else-opens+else-closes w ↦ let p = partner_none ls k c.in-Some.line.now here (search rules) (search rules) in search rules
    ]
