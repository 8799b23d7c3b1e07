-- By the filter that was read, and its module.
use Rattle.std.proofs.Common.{◌≡◌, ◌∙◌, ℕ, ◌<◌, length, Option, sym, ap, refl, arith, length-set}
use Rattle.module_code.specs.Program.{Program}
use Rattle.run_model.specs.Chains.{module_at}
use Rattle.run_model.specs.Passing.{handler_at}
use Rattle.module_run.specs.Conns.{filter_at}
use Rattle.module_run.proofs.Looked.{some_same, read_module, read_filter, set_first, set_later, starts_as}
use Rattle.module_run.proofs.conn.Conn.call_first.Goals.{in-None, in-Some}
use Rattle.module_run.proofs.conn.Conn.call_first.Goals as goal

pub returns : goal.returns
unfolding filter_at
returns c =
    let within : 0 < length c.args.self.now.filters.items = (let a = c.requires.some in let b = c.requires.many in omega (arith, a, b)) in
    let handler : (Option ℕ) → ℕ = λ o. handler_at o (module_at c.args.modules.now 0) in
    let at : c.match-self.pc ≡ handler c.args.self.now.req = elim c.match-self.branch [
      | in-None w ↦ w.pc-is ∙ ap handler (sym w.in-None.is)
      | in-Some w ↦ w.pc-is ∙ (w.init-pc.ensures.value
          ∙ (ap (λ (p : Program). p.init) (sym (read_module c.args.modules.now 0 w.index-modules-0.result c.requires.some w.index-modules-0.is)) ∙ ap handler (sym w.in-Some.is)))
    ] in
    record {
      first = λ f is. (
        c.start.new.self,
        (
          set_first c.args.self.now.filters.items c.start.new.self within,
          starts_as c.args.name c.match-self.pc (handler c.args.self.now.req) c.index_mut.result.now f c.start.new.self at
              (some_same c.index_mut.result.now f (sym (read_filter c.args.self.now 0 c.index_mut.result.now within c.index_mut.ensures.value) ∙ is)) c.start.ensures,
        ),
      );
      others = λ k ne. set_later c.args.self.now.filters.items c.start.new.self k ne;
      many = length-set c.args.self.now.filters.items 0 c.start.new.self;
      rest = refl;
    }
