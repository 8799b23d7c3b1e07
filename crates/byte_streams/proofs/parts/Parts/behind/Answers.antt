use Rattle.std.proofs.Common.{◌≡◌, ◌-◌, ℕ, length, drop, sym, ap, ◌∙◌}
use Rattle.byte_streams.proofs.PartLaws.{drop_three}
use Rattle.byte_streams.proofs.parts.Parts.behind.Goals as goal

pub returns : goal.returns
returns c =
    let p = c.args.self in
    let n = c.args.at in
    let second : c.saturating_sub-in_second.result ≡ n - length p.first.now = c.saturating_sub-in_second.ensures in
    let third : c.saturating_sub-in_third.result ≡ n - length p.first.now - length p.second.now =
    c.saturating_sub-in_third.ensures ∙ ap (λ (k : ℕ). k - length p.second.now) second in
    let b = c.behind-2.ensures ∙ ap (λ (k : ℕ). drop k p.second.now) second in
    let d = c.behind-3.ensures ∙ ap (λ (k : ℕ). drop k p.third.now) third in
    rw (c.behind.ensures, b, d) (sym (drop_three n p.first.now p.second.now p.third.now))
