-- Each part is what was read of it.
use Rattle.std.proofs.Common.{◌≡◌, ap, ◌∙◌, arith}
use Rattle.life_state.specs.Seen.{seen}
use Rattle.life_state.specs.States.{State}
use Rattle.life_cert.proofs.OneState.{brigades_stay, steps_read, told_back}
use Rattle.life_cert.proofs.state_text.told_state.Goals as goal

pub read_brigades-requires : goal.read_brigades-requires
read_brigades-requires c =
    let few = c.count_brigades-brigade_count.ensures.few in
    let same : (seen c.read_pools.new.state).brigade_count ≡ c.count_brigades-brigade_count.result =
    ap (λ (s : State). s.brigade_count) c.read_pools.ensures
    ∙ brigades_stay c.read_sent-sent.new.unread.bytes.now (seen c.set_sent.new.self)
    ∙ ap (λ (s : State). s.brigade_count) c.set_sent.ensures ∙ ap (λ (s : State). s.brigade_count) c.at_open-state.ensures in
    omega (arith, same, few)

pub returns : goal.returns
returns c = λ s formed is.
    steps_read c.args.text.now c.read_sent-sent.new.unread.bytes.now c.count_pools-pool_count.new.unread.bytes.now c.count_brigades-brigade_count.new.unread.bytes.now c.read_in.new.unread.bytes.now
    c.read_cursors.new.unread.bytes.now _ _ _ _ _ _ _ _ _ _ _
    c.read_sent-sent.ensures.value c.read_sent-sent.ensures.rest c.count_pools-pool_count.ensures.value c.count_pools-pool_count.ensures.rest c.count_brigades-brigade_count.ensures.value
    c.count_brigades-brigade_count.ensures.rest
    c.read_in.ensures.value c.read_in.ensures.rest c.read_cursors.ensures.rest
    c.at_open-state.ensures c.set_sent.ensures c.read_pools.ensures c.read_brigades.ensures c.set_brigade.ensures c.read_cursors.ensures.value c.read_facts.ensures
    ∙ told_back s formed c.args.text.now is
