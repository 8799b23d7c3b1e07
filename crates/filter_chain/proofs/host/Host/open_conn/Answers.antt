-- By the names that are left, and by the connection that is put.
use Rattle.std.proofs.Common.{ℕ, ◌+◌, ◌<◌, ◌||◌, Option, List, length, refl, sym, ◌∙◌, subst, arith}
use Rattle.std.proofs.Math.Path.{fun_ext}
use Rattle.module_code.specs.Program.{Program}
use Rattle.run_model.specs.Steps.{is_spent}
use Rattle.model_laws.proofs.StepNames.{not_spent}
use Rattle.model_laws.proofs.StepFiles.{neither}
use Rattle.pool_tree.specs.Tree.{map_of}
use Rattle.brigade_ops.specs.Store.{next_name}
use Rattle.module_run.specs.declared.conn.Conn.{Conn}
use Rattle.filter_chain.specs.Hosting.{HoldsWorld, IsHosting, chain_of, budget_of}
use Rattle.filter_chain.proofs.Hosts.{laws}
use Rattle.filter_chain.proofs.HostOpens.{opens_spent, opens_forgot, opened_on, unchanged_holds, put_after}
use Rattle.filter_chain.proofs.host.Host.open_conn.Goals as goal

pub returns-then-lacks_names-clause-event : goal.returns-then-lacks_names-clause-event
unfolding chain_of budget_of IsHosting
returns-then-lacks_names-clause-event g c w hosts =
    let host = c.args.self.now in
    opens_spent (g.F.Files.device host.files) host host w hosts refl refl hosts (sym c.lacks_names.ensures ∙ c.if-lacks_names.true)

pub overflow_add-number : goal.overflow_add-number
overflow_add-number g c =
    let host = c.args.self.now in
    let off = neither (is_spent (host.last + 1) 1) (is_spent (map_of host.tree).next 1 || is_spent (next_name host.store) 1) (sym c.lacks_names.ensures ∙ c.if-lacks_names.false) in
    let lt = not_spent (host.last + 1) 1 off.0 in
    omega (arith, lt)

pub open-requires-clause-some : goal.open-requires-clause-some
unfolding IsHosting chain_of
open-requires-clause-some g c = subst (λ (chain : List Program). 0 < length chain) (sym c.as_slice.ensures.value) c.requires.1.chained.some

pub open-requires-clause-can : goal.open-requires-clause-can
unfolding IsHosting
open-requires-clause-can g c = (let h = c.requires.1 in record { house = h.house; none = h.none; named = (let first = (laws h).sound.names.first in let is = h.names in omega (arith, first, is)) })

pub returns-in_default-clause-event : goal.returns-in_default-clause-event
unfolding chain_of budget_of IsHosting
returns-in_default-clause-event g c w hosts =
    let host = c.args.self.now in
    opens_forgot (g.F.Files.device host.files) host (record host { conns = c.reserve.new.self }) w hosts refl refl
    (subst (λ (f : ℕ → Option Conn). HoldsWorld (budget_of host) (chain_of host) (g.F.Files.device host.files) host.tree host.store host.last f w) (sym (fun_ext c.reserve.ensures.same)) hosts)
    (sym c.lacks_names.ensures ∙ c.if-lacks_names.false)

pub returns-in_default-open-clause-event : goal.returns-in_default-open-clause-event
unfolding chain_of budget_of
returns-in_default-open-clause-event g c w hosts =
    let host = c.args.self.now in
    let new = record host { conns = c.reserve.new.self; tree = c.open.new.tree; store = c.open.new.store } in
    opens_forgot (g.F.Files.device host.files) host new w hosts refl refl (unchanged_holds (g.F.Files.device host.files) host new w hosts refl refl refl
    (fun_ext c.reserve.ensures.same) c.in_default-open.ensures.err) (sym c.lacks_names.ensures ∙ c.if-lacks_names.false)

pub returns-clause-event : goal.returns-clause-event
unfolding chain_of budget_of
returns-clause-event g c w hosts =
    let host = c.args.self.now in
    opened_on (g.F.Files.device host.files) host
    (record host { conns = c.put.new.self; tree = c.open.new.tree; store = c.open.new.store; last = host.last + 1 }) w hosts refl refl refl c.in-Ok-open.conn
    (put_after host.conns c.reserve.new.self c.put.new.self (host.last + 1) c.in-Ok-open.conn c.reserve.ensures.same c.put.ensures)
    c.as_slice.result.now c.as_slice.ensures.value (sym c.lacks_names.ensures ∙ c.if-lacks_names.false) c.in-Ok-open.ensures.opened c.in-Ok-open.ensures.pools c.in-Ok-open.ensures.beside
