-- By the filter that was read, at the place that was found.
use Rattle.std.proofs.Common.{◌≡◌, ◌∙◌, ◌<◌, None, length, refl, sym, arith, length-set}
use Rattle.model_laws.proofs.chains.Modules.{first_in_places}
use Rattle.run_model.specs.Chains.{module_at}
use Rattle.module_run.specs.Conns.{filter_at, place_in, runs_of, shown_filter}
use Rattle.module_run.proofs.Filters.{get_here, get_other}
use Rattle.module_run.proofs.Looked.{some_same, read_filter, starts_with}
use Rattle.module_run.proofs.conn.Conn.call_main.Goals as goal

pub index_mut-requires : goal.index_mut-requires
index_mut-requires c =
    let self = c.args.self.now in
    let is = c.place_from-to.ensures (λ n. None) in
    let low = first_in_places c.args.modules.now (λ k. shown_filter (runs_of self) (λ n. None) (filter_at self k)) in
    let many = c.requires in
    let len = self.filters.ok.0 in
    omega (arith, is, low, many, len)

pub returns : goal.returns
unfolding filter_at
returns c rings =
    let to = c.place_from-to.result in
    let self = c.args.self.now in
    let is : to ≡ place_in c.args.modules.now rings self 0 = c.place_from-to.ensures rings in
    let low = first_in_places c.args.modules.now (λ k. shown_filter (runs_of self) rings (filter_at self k)) in
    let many = c.requires in
    let within : to < length self.filters.items = omega (arith, is, low, many) in
    rw (sym is) (record {
      first = λ f found. (
        c.start_with.new.self,
        (
          get_here self.filters.items to c.start_with.new.self within,
          starts_with c.args.name c.args.brigade c.main_at-pc.result (module_at c.args.modules.now to).main c.index_mut.result.now f c.start_with.new.self c.main_at-pc.ensures
              (some_same c.index_mut.result.now f (sym (read_filter self to c.index_mut.result.now within c.index_mut.ensures.value) ∙ found)) c.start_with.ensures,
        ),
      );
      others = λ k ne. get_other self.filters.items to k c.start_with.new.self ne;
      many = length-set self.filters.items to c.start_with.new.self;
      rest = refl;
    })
