-- Elsewhere none is kept.
use Rattle.std.proofs.Common.{◌≡◌, true, false, sym, ◌∙◌}
use Rattle.life_cert.proofs.SlimLists.{no_head, no_state}
use Rattle.life_cert.proofs.slimming.kept.Goals as goal
use Rattle.life_cert.proofs.slimming.kept.Goals.{then-cert, else-cert+then-pc-lt1025, else-cert+else-pc-lt1025}

apart : true ≡ false → ⊥
apart e = cc

pub returns-else-leaders-pc : goal.returns-else-leaders-pc
returns-else-leaders-pc c =
    let p = c.args.code.now in
    let d = c.args.cert.now in
    elim c.if-cert.branch [
      | then-cert w ↦ absurd (apart (sym w.if-cert.true ∙ (sym w.value-is ∙ c.if-leaders-pc.false)))
      | else-cert+then-pc-lt1025 w ↦ no_state p d c.args.pc w.if-cert.false (sym (c.requires.leaders c.args.pc w.if-pc-lt1025.true) ∙ (sym w.value-is ∙ c.if-leaders-pc.false))
      | else-cert+else-pc-lt1025 w ↦ no_state p d c.args.pc w.if-cert.false (no_head p c.args.pc c.requires.proper w.if-pc-lt1025.false)
    ]
