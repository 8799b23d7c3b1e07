use Rattle.std.proofs.Common.{◌∙◌, refl, sym, ap, subst}
use Rattle.std.proofs.lemmas.Result.{IfOk-weaker, err_from_is_err_and}
use Rattle.module_code.specs.declared.instr.Instr.{Instr}
use Rattle.run_model.specs.Chains.{configuration, is_last}
use Rattle.run_model.specs.Steps.{grows}
use Rattle.run_model.specs.Turns.{calls_of}
use Rattle.pool_tree.specs.Tree.{map_of}
use Rattle.module_run.specs.Proceeding.{IsReady}
use Rattle.module_run.proofs.CanPass.{last_there, not_last, passer_at}
use Rattle.module_run.proofs.Executing.{on_err_to, passes_on}
use Rattle.module_run.proofs.HandsOnBuilt.{on_err}
use Rattle.module_run.proofs.conn.Conn.execute_at_top.Goals as goal

pub pass_to_next-requires-clause-ready : goal.pass_to_next-requires-clause-ready
pass_to_next-requires-clause-ready g c =
    let r = rw c.in-Pass.is at c.requires.ready in
    (g.F.Files.device c.args.files.now, record { tree = c.args.tree.now; label = c.in-Pass.l; v = r.0; f = r.1.0; rest = r.1.1.0; ready = r.1.1.1 })

pub pass_to_output-requires : goal.pass_to_output-requires
pass_to_output-requires g c =
    let r = rw c.in-Pass.is at c.requires.ready in
    record { ready = (c.args.modules.now, c.args.tree.now, record { v = r.0; top = r.1.0; rest = r.1.1.0; ready = r.1.1.1 }) }

pub returns-in_ok-pass_to_output-in-Pass-clause-ok : goal.returns-in_ok-pass_to_output-in-Pass-clause-ok
returns-in_ok-pass_to_output-in-Pass-clause-ok g c =
    let chain = c.args.modules.now in
    let store = c.args.store.now in
    let self = c.args.self.now in
    let d = g.F.Files.device c.args.files.now in
    rw c.in-Pass.is (λ v f rest ready.
    c.in_ok-pass_to_output-in-Pass.ensures.ok chain c.args.tree.now v f rest
    (ap (is_last chain v.1) (sym (passer_at chain c.in-Pass.b c.in-Pass.l c.args.tree.now store d self v f rest ready))
    ∙ last_there chain c.in-Pass.b c.in-Pass.l c.args.tree.now store d self v f rest ready c.next_place-to.result c.next_place-to.ensures c.if-to-modules.false) ready)

pub returns-in_ok-pass_to_next-in-Pass-clause-leaves : goal.returns-in_ok-pass_to_next-in-Pass-clause-leaves
returns-in_ok-pass_to_next-in-Pass-clause-leaves g c = c.in_ok-pass_to_next-in-Pass.ensures.leaves (map_of c.args.tree.now)

pub returns-in_ok-pass_to_output-in-Pass-clause-leaves : goal.returns-in_ok-pass_to_output-in-Pass-clause-leaves
returns-in_ok-pass_to_output-in-Pass-clause-leaves g c = c.in_ok-pass_to_output-in-Pass.ensures.leaves (map_of c.args.tree.now)

pub returns-in_err-pass_to_next-in-Pass : goal.returns-in_err-pass_to_next-in-Pass
returns-in_err-pass_to_next-in-Pass g c =
    let p = err_from_is_err_and c.from_residual.result c.from_residual.ensures.1 in
    let e = c.in_err-pass_to_next-in-Pass.ensures in
    let d = g.F.Files.device c.args.files.now in
    rw p.1 (record {
      ok = tt;
      err = λ v f rest ready. e.err c.args.tree.now d v ready.stands.left;
      unread = refl;
      sure = λ v f rest ready quiet none unput.
          let passes = subst (λ (i : Instr). IsReady c.args.modules.now i c.args.tree.now c.args.store.now d c.args.self.now v f rest) c.in-Pass.is ready in
          absurd (passes_on (is_last c.args.modules.now v.1 f.of)
          (not_last c.args.modules.now c.in-Pass.b c.in-Pass.l c.args.tree.now c.args.store.now d c.args.self.now v f rest passes c.next_place-to.result c.if-to-modules.true c.next_place-to.ensures)
          (ap (λ (i : Instr). calls_of (is_last c.args.modules.now v.1 f.of) i rest v.1.queue) (sym c.in-Pass.is) ∙ none));
      leaves = e.leaves (map_of c.args.tree.now);
      ended = e.ended;
      count = e.count;
      unasked = e.unasked;
      tree_unasked = refl;
    })

pub returns-in_err-pass_to_output-in-Pass : goal.returns-in_err-pass_to_output-in-Pass
returns-in_err-pass_to_output-in-Pass g c =
    let p = err_from_is_err_and c.from_residual-in_err-pass_to_output-in-Pass.result c.from_residual-in_err-pass_to_output-in-Pass.ensures.1 in
    let e = c.in_err-pass_to_output-in-Pass.ensures in
    let chain = c.args.modules.now in
    let d = g.F.Files.device c.args.files.now in
    rw p.1 (record {
      ok = tt;
      err = λ v f rest ready. e.err chain c.args.tree.now v ready.stands.left;
      unread = e.unread;
      sure = λ v f rest ready quiet none unput.
          e.sure chain c.args.tree.now v f rest (subst (λ (i : Instr). IsReady chain i c.args.tree.now c.args.store.now d c.args.self.now v f rest) c.in-Pass.is ready)
          (sym (ap (λ (i : Instr). grows (configuration v.0 v.1 f) i) c.in-Pass.is) ∙ quiet);
      leaves = e.leaves (map_of c.args.tree.now);
      ended = e.ended;
      count = e.count;
      unasked = e.unasked;
      tree_unasked = refl;
    })

pub returns-in_err-execute_in_call-in_default : goal.returns-in_err-execute_in_call-in_default
returns-in_err-execute_in_call-in_default g c =
    let p = err_from_is_err_and c.from_residual-in_err-execute_in_call-in_default.result c.from_residual-in_err-execute_in_call-in_default.ensures.1 in
    let e = c.in_err-execute_in_call-in_default.ensures in
    rw p.1 (record {
      ok = tt;
      err = λ v f rest ready. e.err v ready.stands.left;
      unread = e.unread;
      sure = λ v f rest ready quiet none unput. e.sure v f rest ready quiet;
      leaves = e.leaves;
      ended = e.ended;
      count = e.count;
      unasked = e.unasked;
      tree_unasked = e.tree_unasked;
    })

pub returns-in_ok-pass_to_next-in-Pass-clause-ok : goal.returns-in_ok-pass_to_next-in-Pass-clause-ok
returns-in_ok-pass_to_next-in-Pass-clause-ok g c = rw c.in-Pass.is (c.in_ok-pass_to_next-in-Pass.ensures.ok c.args.tree.now (g.F.Files.device c.args.files.now) c.in-Pass.l)

-- The call on top returns.
pub put_out-requires-clause-ready : goal.put_out-requires-clause-ready
put_out-requires-clause-ready g c =
    let r = rw c.in-Ret.is at c.requires.ready in
    (c.args.tree.now, record { v = r.0; top = r.1.0; rest = r.1.1.0; ready = r.1.1.1 })

pub return_from-requires-clause-ready : goal.return_from-requires-clause-ready
return_from-requires-clause-ready g c =
    let r = rw c.in-Ret.is at c.requires.ready in
    (c.args.tree.now, g.F.Files.device c.args.files.now, record { v = r.0; top = r.1.0; rest = r.1.1.0; ready = r.1.1.1 })

pub returns-then-top-modules : goal.returns-then-top-modules
returns-then-top-modules g c =
    let e = c.put_out.ensures in
    let chain = c.args.modules.now in
    let d = g.F.Files.device c.args.files.now in
    record {
      ok = rw c.in-Ret.is (IfOk-weaker c.put_out.result _ _ (λ answer same. same c.args.tree.now) e.ok);
      err = on_err_to c.put_out.result (λ same v f rest ready. same c.args.tree.now v ready.stands.left) e.err;
      unread = e.unread;
      sure = rw c.in-Ret.is (λ v f rest ready quiet none unput. e.sure c.args.tree.now v f rest ready unput);
      leaves = e.leaves (map_of c.args.tree.now);
      ended = e.ended;
      count = e.count;
      unasked = e.unasked;
      tree_unasked = refl;
    }

pub returns-else-top-modules : goal.returns-else-top-modules
returns-else-top-modules g c =
    let e = c.return_from.ensures in
    let d = g.F.Files.device c.args.files.now in
    record {
      ok = rw c.in-Ret.is (IfOk-weaker c.return_from.result _ _ (λ answer same. same c.args.tree.now d) e.leads);
      err = on_err_to c.return_from.result (λ same v f rest ready. same c.args.tree.now d v ready.stands.left) e.err;
      unread = on_err c.return_from.result refl;
      sure = rw c.in-Ret.is (λ v f rest ready quiet none unput. e.sure c.args.tree.now d v f rest ready none);
      leaves = e.leaves (map_of c.args.tree.now);
      ended = e.ended;
      count = e.count;
      unasked = e.unasked;
      tree_unasked = refl;
    }
