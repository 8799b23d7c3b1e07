-- Each want is asked of the store and of the tree that the one before left.
use Rattle.std.proofs.Common.{rules, ◌≡◌, [], ◌∙◌, None, Some, Option, ap, sym}
use Rattle.run_model.specs.declared.fault.FaultKind.{FaultKind}
use Rattle.run_model.specs.declared.payload.Payload.{Payload}
use Rattle.run_model.specs.Faults.{fault, fault_want, first_fault}
use Rattle.run_model.specs.Pools.{Pools}
use Rattle.run_model.specs.Wants.{and_then, want_of}
use Rattle.pool_tree.specs.Tree.{map_of}
use Rattle.interp_state.specs.ContextViews.{ContextView}
use Rattle.interp_state.specs.Seen.{seen}
use Rattle.interp_state.specs.Context.{in_context}
use Rattle.interp_checks.proofs.FirstFault.{after, ends, goes_on, met, stops}
use Rattle.interp_checks.proofs.OnlyAsked.{asked_again, held_same, tree_asked_again}
use Rattle.interp_checks.proofs.wants.fault.Goals as goal
use Rattle.interp_checks.proofs.wants.fault.Goals.{After-fault_of-2, In-Some-second}

pub fault_of-requires-2-clause-held : goal.fault_of-requires-2-clause-held
fault_of-requires-2-clause-held g c = held_same c.args.store.now c.fault_of.new.store c.args.instance.now c.args.call.now c.fault_of.ensures.asked c.requires.held

pub fault_of-requires-in-Some-third-clause-held : goal.fault_of-requires-in-Some-third-clause-held
fault_of-requires-in-Some-third-clause-held g c =
    let asked = asked_again c.args.store.now c.fault_of.new.store c.fault_of-2.new.store c.fault_of.ensures.asked c.fault_of-2.ensures.asked in
    held_same c.args.store.now c.fault_of-2.new.store c.args.instance.now c.args.call.now asked c.requires.held

-- the first want is met, and those behind it tell
past_first : (g : _) (c : In-Some-second g) (view : ContextView) (m : Option FaultKind)
    → m ≡ first_fault (seen c.args.store.now (in_context c.args.context.now (map_of c.args.tree.now) view) c.args.instance.now c.args.call.now)
    (and_then c.wants-wanted.result.second (and_then c.wants-wanted.result.third []))
    → m ≡ fault c.args.code.now (seen c.args.store.now (in_context c.args.context.now (map_of c.args.tree.now) view) c.args.instance.now c.args.call.now) c.args.instr
past_first g c view m more =
    let r = seen c.args.store.now (in_context c.args.context.now (map_of c.args.tree.now) view) c.args.instance.now c.args.call.now in
    let w = c.wants-wanted.result in
    goes_on r w.first c.in-Some.first c.in-Some.is (and_then w.second (and_then w.third [])) m (sym c.in_default-fault_of.is ∙ c.fault_of.ensures.value view) more
    ∙ ap (first_fault r) c.wants-wanted.ensures.listed

-- the second is asked of what the first left
second_told : (g : _) (c : After-fault_of-2 g) (view : ContextView)
    → c.fault_of-2.result ≡ fault_want (seen c.args.store.now (in_context c.args.context.now (map_of c.args.tree.now) view) c.args.instance.now c.args.call.now) (want_of c.in-Some-second.second)
second_told g c view =
    after c.args.store.now c.fault_of.new.store c.args.tree.now c.fault_of.new.tree c.fault_of.ensures.asked c.fault_of.ensures.tree_asked
    (λ (pools : Pools Payload). in_context c.args.context.now pools view)
    c.args.instance.now c.args.call.now (want_of c.in-Some-second.second) c.fault_of-2.result (c.fault_of-2.ensures.value view)

pub returns-in-Some-fault_of-2-clause-value : goal.returns-in-Some-fault_of-2-clause-value
returns-in-Some-fault_of-2-clause-value g c view =
    let at = goal.at.returns-in-Some-fault_of-2-clause-value g c in
    let r = seen c.args.store.now (in_context c.args.context.now (map_of c.args.tree.now) view) c.args.instance.now c.args.call.now in
    let kind = c.in-Some-fault_of-2.kind in
    past_first g at.In-Some-second view (Some kind)
    (stops r c.wants-wanted.result.second c.in-Some-second.second c.in-Some-second.is (and_then c.wants-wanted.result.third []) kind
    (sym c.in-Some-fault_of-2.is ∙ second_told g at.After-fault_of-2 view))

pub returns-in-Some-third-clause-value : goal.returns-in-Some-third-clause-value
returns-in-Some-third-clause-value g c view =
    let at = goal.at.returns-in-Some-third-clause-value g c in
    let s = c.args.store.now in
    let i = c.args.instance.now in
    let call = c.args.call.now in
    let tree = c.args.tree.now in
    let over = λ (pools : Pools Payload). in_context c.args.context.now pools view in
    let r = seen s (over (map_of tree)) i call in
    let w = c.wants-wanted.result in
    let o = c.fault_of-in-Some-third.result in
    let asked = asked_again s c.fault_of.new.store c.fault_of-2.new.store c.fault_of.ensures.asked c.fault_of-2.ensures.asked in
    let tree_asked = tree_asked_again tree c.fault_of.new.tree c.fault_of-2.new.tree c.fault_of.ensures.tree_asked c.fault_of-2.ensures.tree_asked in
    let here = after s c.fault_of-2.new.store tree c.fault_of-2.new.tree asked tree_asked over i call (want_of c.in-Some-third.third) o (c.fault_of-in-Some-third.ensures.value view) in
    past_first g at.In-Some-second view o
    (goes_on r w.second c.in-Some-second.second c.in-Some-second.is (and_then w.third []) o (sym c.in_default-fault_of-2.is ∙ second_told g at.After-fault_of-2 view)
    (ends r w.third c.in-Some-third.third c.in-Some-third.is o here))

pub returns-in-None-clause-value : goal.returns-in-None-clause-value
returns-in-None-clause-value g c view =
    let at = goal.at.returns-in-None-clause-value g c in
    let r = seen c.args.store.now (in_context c.args.context.now (map_of c.args.tree.now) view) c.args.instance.now c.args.call.now in
    let w = c.wants-wanted.result in
    past_first g at.In-Some-second view None
    (goes_on r w.second c.in-Some-second.second c.in-Some-second.is (and_then w.third []) None (sym c.in_default-fault_of-2.is ∙ second_told g at.After-fault_of-2 view)
    (met r w.third [] c.in-None.is))

pub returns-in-Some-fault_of : goal.returns-in-Some-fault_of
returns-in-Some-fault_of g c = search rules

pub returns-in_default-second : goal.returns-in_default-second
returns-in_default-second g c = search rules

pub returns-in-Some-fault_of-2-clause-tree_asked : goal.returns-in-Some-fault_of-2-clause-tree_asked
returns-in-Some-fault_of-2-clause-tree_asked g c = tree_asked_again _ _ _ c.fault_of.ensures.tree_asked c.fault_of-2.ensures.tree_asked

pub returns-in-Some-fault_of-2-clause-asked : goal.returns-in-Some-fault_of-2-clause-asked
returns-in-Some-fault_of-2-clause-asked g c = asked_again _ _ _ c.fault_of.ensures.asked c.fault_of-2.ensures.asked

pub returns-in-None-clause-tree_asked : goal.returns-in-None-clause-tree_asked
returns-in-None-clause-tree_asked g c = tree_asked_again _ _ _ c.fault_of.ensures.tree_asked c.fault_of-2.ensures.tree_asked

pub returns-in-None-clause-asked : goal.returns-in-None-clause-asked
returns-in-None-clause-asked g c = asked_again _ _ _ c.fault_of.ensures.asked c.fault_of-2.ensures.asked

pub returns-in-Some-third-clause-tree_asked : goal.returns-in-Some-third-clause-tree_asked
returns-in-Some-third-clause-tree_asked g c =
    tree_asked_again _ _ _ c.fault_of.ensures.tree_asked (tree_asked_again _ _ _ c.fault_of-2.ensures.tree_asked c.fault_of-in-Some-third.ensures.tree_asked)

pub returns-in-Some-third-clause-asked : goal.returns-in-Some-third-clause-asked
returns-in-Some-third-clause-asked g c = asked_again _ _ _ c.fault_of.ensures.asked (asked_again _ _ _ c.fault_of-2.ensures.asked c.fault_of-in-Some-third.ensures.asked)
