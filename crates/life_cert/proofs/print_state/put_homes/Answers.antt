use Rattle.std.proofs.Common.{◌≡◌, ℕ, arith, subst, sym, ◌∙◌}
use Rattle.life_state.specs.Seen.{seen_homes}
use Rattle.byte_text.specs.Writes.{writer_state}
use Rattle.life_cert.proofs.Homes.{LeavesHomes, homes_begin, home_lacks, home_written, comma_fault, name_fault, homes_end}
use Rattle.life_cert.proofs.print_state.put_homes.Goals as goal
use Rattle.life_cert.proofs.print_state.put_homes.Goals.{then-has_home+in_ok-put_if+in_ok-put_home, else-has_home}

pub loop-home-init : goal.loop-home-init
loop-home-init g c = homes_begin _ _

pub returns-in_err-put_if : goal.returns-in_err-put_if
returns-in_err-put_if g c =
    comma_fault _ _ _ _ c.loop-home.home-index c.loop-home.invariant c.loop-home-test.true _ _ (sym c.has_home.ensures ∙ c.if-has_home.true) c.from_residual.ensures.0 c.in_err-put_if.ensures

pub returns-in_err-put_home : goal.returns-in_err-put_home
returns-in_err-put_home g c =
    name_fault _ _ _ _ c.loop-home.home-index c.loop-home.invariant c.loop-home-test.true _ _ _
    (sym c.has_home.ensures ∙ c.if-has_home.true) c.from_residual-in_err-put_home.ensures.0 c.in_ok-put_if.ensures c.in_err-put_home.ensures

pub loop-home-preserved : goal.loop-home-preserved
loop-home-preserved g c =
    let h = seen_homes c.args.homes.now in
    elim c.if-has_home.branch [
      | then-has_home+in_ok-put_if+in_ok-put_home w ↦ rw (w.out-is, w.any-is)
          (home_written _ _ _ h c.loop-home.home-index c.loop-home.invariant c.loop-home-test.true _ _ (sym c.has_home.ensures ∙ w.if-has_home.true) w.in_ok-put_if.ensures w.in_ok-put_home.ensures)
      | else-has_home w ↦ rw (w.out-is, w.any-is) (home_lacks _ _ _ h c.loop-home.home-index c.loop-home.invariant c.loop-home-test.true (sym c.has_home.ensures ∙ w.if-has_home.false))
    ]

pub returns : goal.returns
returns g c =
    let h = seen_homes c.args.homes.now in
    let last : c.loop-home.home-index ≡ 11 = omega arith in
    homes_end _ _ _ _ h _ (subst (λ (i : ℕ). LeavesHomes (writer_state g.W.Write.contents c.args.out.now) (writer_state g.W.Write.contents c.loop-home.out) c.loop-home.any h i) last c.loop-home.invariant) c.put_if-2.ensures
