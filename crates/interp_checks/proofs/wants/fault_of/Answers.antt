-- What is told of the mark is told of the variable.
use Rattle.std.proofs.Common.{ap, rules, ◌∙◌}
use Rattle.run_model.specs.Faults.{brigade_fault, new_fault, usable_fault}
use Rattle.pool_tree.specs.Tree.{map_of}
use Rattle.brigade_ops.specs.Store.{lists, next_name}
use Rattle.interp_state.specs.Context.{in_context}
use Rattle.interp_state.specs.Needs.{bare}
use Rattle.interp_state.proofs.Wanted.{brigade_told, new_told, usable_told}
use Rattle.interp_checks.proofs.OnlyAsked.{asked_nothing, tree_asked_nothing}
use Rattle.interp_checks.proofs.wants.fault_of.Goals as goal

pub returns-in-Brigade : goal.returns-in-Brigade
returns-in-Brigade g c = record {
  value = λ view. rw c.in-Brigade.is (c.brigade_fault.ensures ∙ (ap (λ m. brigade_fault (bare m)) c.mark_of.ensures.value
      ∙ brigade_told (lists c.args.store.now) (next_name c.args.store.now) (in_context c.args.context.now (map_of c.args.tree.now) view) c.args.instance.now c.args.call.now c.in-Brigade.b));
  tree_asked = tree_asked_nothing _;
  asked = c.mark_of.ensures.asked;
}

pub returns-in-Usable : goal.returns-in-Usable
returns-in-Usable g c = record {
  value = λ view. rw c.in-Usable.is (c.usable_fault.ensures ∙ (ap (λ m. usable_fault (bare m)) c.mark_of-in-Usable.ensures.value
      ∙ usable_told (lists c.args.store.now) (next_name c.args.store.now) (in_context c.args.context.now (map_of c.args.tree.now) view) c.args.instance.now c.args.call.now c.in-Usable.b));
  tree_asked = tree_asked_nothing _;
  asked = c.mark_of-in-Usable.ensures.asked;
}

pub returns-in-New : goal.returns-in-New
returns-in-New g c = record {
  value = λ view. rw c.in-New.is (c.new_fault.ensures ∙ (ap (λ m. new_fault (bare m)) c.mark_of-in-New.ensures.value
      ∙ new_told (lists c.args.store.now) (next_name c.args.store.now) (in_context c.args.context.now (map_of c.args.tree.now) view) c.args.instance.now c.args.call.now c.in-New.b));
  tree_asked = tree_asked_nothing _;
  asked = c.mark_of-in-New.ensures.asked;
}

pub returns-in-Pool : goal.returns-in-Pool
returns-in-Pool g c = search (rules, asked_nothing, tree_asked_nothing)

pub returns-in-NewPool : goal.returns-in-NewPool
returns-in-NewPool g c = search (rules, asked_nothing, tree_asked_nothing)

pub returns-in-Cursor : goal.returns-in-Cursor
returns-in-Cursor g c = record { value = λ view. rw c.in-Cursor.is (c.want_cursor.ensures.value _); tree_asked = tree_asked_nothing _; asked = c.want_cursor.ensures.asked }

pub returns-in-Homes : goal.returns-in-Homes
returns-in-Homes g c = record { value = λ view. rw c.in-Homes.is (c.want_homes.ensures.value _ view); tree_asked = tree_asked_nothing _; asked = c.want_homes.ensures.asked }

pub returns-in-Home : goal.returns-in-Home
returns-in-Home g c = record { value = λ view. rw c.in-Home.is (c.want_home.ensures.value _ view); tree_asked = tree_asked_nothing _; asked = c.want_home.ensures.asked }

pub returns-in-HomeAcross : goal.returns-in-HomeAcross
returns-in-HomeAcross g c = record { value = λ view. rw c.in-HomeAcross.is (c.want_home_across.ensures.value _ view); tree_asked = tree_asked_nothing _; asked = c.want_home_across.ensures.asked }

pub returns-in-Send : goal.returns-in-Send
returns-in-Send g c = record { value = λ view. rw c.in-Send.is (c.want_send.ensures.value _ _); tree_asked = tree_asked_nothing _; asked = c.want_send.ensures.asked }

pub returns-in-Return : goal.returns-in-Return
returns-in-Return g c = record { value = λ view. rw c.in-Return.is (c.want_return.ensures.value _ view); tree_asked = tree_asked_nothing _; asked = c.want_return.ensures.asked }
