use Rattle.std.proofs.Common.{ℕ, Some, arith, sym, ap, ◌∙◌, inl, inr}
use Rattle.std.specs.Global.{Vec}
use Rattle.run_model.specs.Pools.{is_in}
use Rattle.interp_state.specs.Slots.{slot_at, name_in}
use Rattle.interp_state.proofs.Pushed.{pushed_kept, pushed_only, slot_within, slots_pushed, slots_null}
use Rattle.interp_state.proofs.machine.Instance.add_brigades.Goals as goal
use Rattle.interp_state.proofs.machine.Instance.add_brigades.Goals.{in-Made+in_ok-push, in_default}

pub loop-slot-preserved : goal.loop-slot-preserved
unfolding slot_at
loop-slot-preserved c = elim c.match-slot.branch [
  | in-Made+in_ok-push w ↦ (let now = ap (λ (v : Vec ℕ). v.items) w.names-is ∙ w.in_ok-push.ensures.items in record {
    only = λ n e. elim (pushed_only n w.in-Made.name c.loop-slot.names.items (sym (ap (is_in n) now) ∙ e)) [
      | inl old ↦ c.loop-slot.invariant.only n old
      | inr new ↦ inr (c.loop-slot.slot-index, ap name_in w.in-Made.is ∙ ap (λ (m : ℕ). Some m) new)
    ];
    kept = λ n e. ap (is_in n) now ∙ pushed_kept n w.in-Made.name c.loop-slot.names.items (c.loop-slot.invariant.kept n e);
    named = slots_pushed c.args.self.now.slots c.loop-slot.slot-index w.in-Made.name w.in-Made.field-1 w.in-Made.field-2 c.loop-slot.names.items c.match-slot.names.items w.in-Made.is now
        c.loop-slot.invariant.named;
  })
  | in_default w ↦ (let same = ap (λ (v : Vec ℕ). v.items) w.names-is in record {
    only = λ n e. c.loop-slot.invariant.only n (sym (ap (is_in n) same) ∙ e);
    kept = λ n e. ap (is_in n) same ∙ c.loop-slot.invariant.kept n e;
    named = λ b n lt e. ap (is_in n) same ∙ slots_null c.args.self.now.slots c.loop-slot.slot-index c.loop-slot.names.items w.in_default.is c.loop-slot.invariant.named b n lt e;
  })
]

pub returns-clause-named : goal.returns-clause-named
unfolding slot_at
returns-clause-named c b n e = c.loop-slot.invariant.named b n (let lt = slot_within c.args.self.now.slots b n e in let f = c.loop-slot-test.false in omega arith) e
