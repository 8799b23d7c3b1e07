-- The place of the cursor tells its fault.
use Rattle.std.proofs.Common.{ap, ◌∙◌}
use Rattle.brigade_ops.specs.Store.{lists, next_name}
use Rattle.run_model.specs.Cursors.{at_cursor}
use Rattle.run_model.specs.Wants.{need_of}
use Rattle.interp_state.specs.Needs.{place_fault}
use Rattle.interp_state.specs.Places.{by_birth}
use Rattle.interp_state.specs.Seen.{seen_over}
use Rattle.interp_checks.proofs.OnlyAsked.{asked_again, seen_same}
use Rattle.interp_state.proofs.Wanted.{fault_told}
use Rattle.interp_checks.proofs.needs.want_cursor.Goals as goal

pub returns-clause-value : goal.returns-clause-value
returns-clause-value g c =
    λ view.
    let r = seen_over (lists c.args.store.now) (next_name c.args.store.now) view c.args.instance.now c.args.call.now in
    let f = need_of c.args.need in
    c.place_fault_at.ensures.value view
    ∙ (ap (λ x. place_fault x f (by_birth c.place_of-at_cursor.result))
    (seen_same c.args.store.now c.place_of-at_cursor.new.store view c.args.instance.now c.args.call.now c.place_of-at_cursor.ensures.asked)
    ∙ (ap (place_fault r f) (c.place_of-at_cursor.ensures.at (next_name c.args.store.now) view) ∙ fault_told r f (at_cursor r c.args.c)))

pub returns-clause-asked : goal.returns-clause-asked
returns-clause-asked g c = asked_again c.args.store.now c.place_of-at_cursor.new.store c.place_fault_at.new.store c.place_of-at_cursor.ensures.asked c.place_fault_at.ensures.asked
