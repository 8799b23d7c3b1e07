-- The brigade is asked for once, and ends where it is there.
use Rattle.std.proofs.Common.{ℕ, ◌<◌, Option, None, is_some, sym, ap, subst, ◌∙◌}
use Rattle.bucket_ring.specs.declared.names.BucketId.{BucketId}
use Rattle.bucket_ring.specs.Lists.{upd}
use Rattle.bucket_store.specs.Items.{Items}
use Rattle.brigade_ops.specs.Store.{lists}
use Rattle.interp_checks.proofs.OnlyAsked.{asked_once, lists_same, next_same, places_same, pools_same, references_same}
use Rattle.module_run.proofs.Leaving.{none_stays}
use Rattle.module_run.proofs.conn_close.end_brigade.Goals as goal

pub end_loose-requires-clause-there : goal.end_loose-requires-clause-there
end_loose-requires-clause-there g c =
    let a = asked_once c.args.store.now c.has.new.self _ c.has.ensures.counted in
    ap (λ (L : ℕ → Option Items). is_some (L c.args.name)) (lists_same c.args.store.now c.has.new.self a) ∙ (sym c.has.ensures.value ∙ c.if-has.true)

pub end_loose-requires-clause-loose : goal.end_loose-requires-clause-loose
end_loose-requires-clause-loose g c =
    let a = asked_once c.args.store.now c.has.new.self _ c.has.ensures.counted in
    ap (λ (f : ℕ → Option ℕ). f c.args.name) (pools_same c.args.store.now c.has.new.self a) ∙ c.requires.free

pub returns-then-has : goal.returns-then-has
returns-then-has g c =
    let s = c.args.store.now in
    let t = c.has.new.self in
    let a = asked_once s t _ c.has.ensures.counted in
    let e = c.end_loose.ensures in
    record {
      out = λ n. e.out n ∙ ap (λ (L : ℕ → Option Items). upd L c.args.name None n) (lists_same s t a);
      next = e.next ∙ next_same s t a;
      names = λ id there young. ap (λ (f : BucketId → Option ℕ). is_some (f id)) (sym (places_same s t a)) ∙ e.names id there (subst (λ (n : ℕ). id.birth < n) (sym (next_same s t a)) young);
      pools = e.pools ∙ pools_same s t a;
      references = e.references ∙ references_same s t a;
    }

pub returns-else-has : goal.returns-else-has
returns-else-has g c =
    let s = c.args.store.now in
    let t = c.has.new.self in
    let a = asked_once s t _ c.has.ensures.counted in
    record {
      out = λ n. ap (λ (L : ℕ → Option Items). L n) (lists_same s t a) ∙ none_stays (lists s) c.args.name (sym c.if-has.false ∙ c.has.ensures.value) n;
      next = next_same s t a;
      names = λ id there young. ap (λ (f : BucketId → Option ℕ). is_some (f id)) (sym (places_same s t a)) ∙ there;
      pools = pools_same s t a;
      references = references_same s t a;
    }
