use Rattle.std.proofs.Common.{◌≡◌, ℕ, List, length, ap, arith}
use Rattle.http_front.proofs.TurnLaws.{lengths_of_none}
use Rattle.http_front.proofs.response.ResponseText.size.Goals as goal

pub returns-in_err-size-clause-none : goal.returns-in_err-size-clause-none
returns-in_err-size-clause-none c none empty =
    let t = c.args.self.now in
    let all = lengths_of_none t.head.items t.body t.tail.items empty in
    let body : length c.as_slice.result.now ≡ length t.body = ap (λ (l : List ℕ). length l) c.as_slice.ensures in
    c.in_err-size.ensures (omega (arith, all, c.in_ok-opening.ensures, c.len.ensures, c.len-2.ensures, body))
