-- One bucket more is held.
use Rattle.std.proofs.Common.{◌≡◌, ◌<◌, ℕ, length, length-set, get_or, get_or-set_same, get_or-set_other, slice_set, sym, ap, subst, ◌∙◌, arith, inl, inr}
use Rattle.std.proofs.lemmas.Bool.{cases_eq}
use Rattle.std.proofs.lemmas.List.{get_or_default}
use Rattle.bucket_kinds.specs.declared.stored.Stored.{Stored}
use Rattle.bucket_store.specs.Regions.{look}
use Rattle.bucket_store.specs.Shown.{own_bucket}
use Rattle.bucket_store.proofs.Placing.{IsHeldAs, held_on, all_held}
use Rattle.bucket_store.proofs.bucket_store.BucketStore.place_all.Goals as goal

pub loop-k-preserved : goal.loop-k-preserved
loop-k-preserved g c =
    let old = c.args.buckets.now.items in
    let xs = c.loop-k.buckets.items in
    let k = c.loop-k.k in
    let y = c.place_own.new.bucket in
    let was = c.loop-k.invariant in
    let told = c.in_ok-place_own.ensures in
    let see = look c.loop-k.self.regions in
    let new = look c.place_own.new.self.regions in
    let within : k < length xs = (let many = was.many in let lt = c.loop-k-test.true in let all = c.len-k-end.ensures in omega (arith, many, lt, all)) in
    let read : (d : Stored) → c.index_mut.result.now ≡ get_or old k d
    = λ d. c.index_mut.ensures.value ∙ (get_or_default xs k c.index_mut.result.now d within ∙ was.rest k d (omega arith)) in
    let here : (d : Stored) → IsHeldAs new (get_or old k d) (get_or (slice_set xs k y) k d)
    = λ d. subst (λ (x : Stored). IsHeldAs new (get_or old k d) x) (sym (get_or-set_same xs k y d within)) (told.shown ∙ ap own_bucket (read d), told.held) in
    record {
      many = length-set xs k y ∙ was.many;
      done = λ j d lt. elim (cases_eq k j) [
        | inl e ↦ subst (λ (i : ℕ). IsHeldAs new (get_or old i d) (get_or (slice_set xs k y) i d)) e (here d)
        | inr ne ↦ subst (λ (x : Stored). IsHeldAs new (get_or old j d) x) (sym (get_or-set_other xs k j y d (λ e. ne (sym e))))
            (held_on see new told.kept (get_or old j d) (get_or xs j d) (was.done j d (omega (arith, lt, ne))))
      ];
      rest = λ j d le. get_or-set_other xs k j y d (λ e. omega (arith, le, e)) ∙ was.rest j d (omega (arith, le));
      rings = told.rings ∙ was.rings;
      same = λ n. told.same n ∙ was.same n;
    }

pub returns-clause-shown : goal.returns-clause-shown
returns-clause-shown g c = (all_held (look c.loop-k.self.regions) c.args.buckets.now.items c.loop-k.buckets.items c.loop-k.invariant.many
    (λ j d lt. c.loop-k.invariant.done j d (let past = c.loop-k-test.false in let all = c.len-k-end.ensures in omega (arith, lt, past, all)))).0

pub returns-clause-held : goal.returns-clause-held
returns-clause-held g c = (all_held (look c.loop-k.self.regions) c.args.buckets.now.items c.loop-k.buckets.items c.loop-k.invariant.many
    (λ j d lt. c.loop-k.invariant.done j d (let past = c.loop-k-test.false in let all = c.len-k-end.ensures in omega (arith, lt, past, all)))).1
