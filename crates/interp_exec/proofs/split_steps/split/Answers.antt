-- The bucket is split, or the split is refused.
use Rattle.std.proofs.Common.{◌≡◌, ℕ, ◌+◌, ◌≤◌, [], ◌∷◌, true, is_some, sym, ap, ◌∙◌, arith}
use Rattle.std.proofs.lemmas.Result.{on_err_weaker, on_ok_weaker}
use Rattle.run_model.specs.BrigadeLists.{split_refusal}
use Rattle.run_model.specs.BucketSteps.{do_split, names_to_split}
use Rattle.run_model.specs.Buckets.{is_data_kind}
use Rattle.run_model.specs.Cursors.{CursorPlace, bucket_at}
use Rattle.run_model.specs.Cutting.{split_at, length_of}
use Rattle.run_model.specs.declared.bucket.NamedBucket.{NamedBucket}
use Rattle.bucket_store.specs.declared.refusal.SplitRefusal.TheVariants as refusal
use Rattle.bucket_store.specs.Items.{named_item, replaced}
use Rattle.brigade_ops.specs.Store.{lists, brigade_of, pool_of, next_name}
use Rattle.interp_state.specs.Seen.{seen_over, calls_in, item_in}
use Rattle.interp_state.proofs.Changes.{seen_same}
use Rattle.interp_state.proofs.Names.{apart_in, held_kept, no_less, still_on}
use Rattle.interp_state.proofs.Quiet.{ok_unless, uncut}
use Rattle.interp_exec.proofs.Makes.{alive_at, held_same}
use Rattle.interp_exec.proofs.Splits.{split_into, not_both, not_refused, refused_as, refused_by, done_split, not_split, ok_data, ok_short}
use Rattle.interp_state.proofs.Standing.{within_set, within_here, within_live}
use Rattle.interp_state.proofs.LeftAlone.{left_on, left_same, ours_slot}
use Rattle.interp_exec.proofs.split_steps.split.Goals as goal

pub bucket-requires-clause-at : goal.bucket-requires-clause-at
bucket-requires-clause-at g c = within_set c.args.store.now c.args.instance.now c.args.call.now c.args.c c.requires.held c.requires.stands

pub split-requires-clause-there : goal.split-requires-clause-there
split-requires-clause-there g c = within_live c.args.store.now c.args.instance.now c.args.call.now c.args.c c.requires.held c.requires.stands c.bucket.result c.bucket.ensures

pub split-requires-clause-ends : goal.split-requires-clause-ends
split-requires-clause-ends g c =
    λ x here.
    let s = within_here c.args.store.now c.args.instance.now c.args.call.now c.args.c c.requires.held c.requires.stands c.bucket.result c.bucket.ensures in
    c.requires.ends s.variable s.ring c.bucket.result x s.named s.inside here

pub returns-in-Ok-clause-ok : goal.returns-in-Ok-clause-ok
returns-in-Ok-clause-ok g c =
    λ view alive.
    let s = within_here c.args.store.now c.args.instance.now c.args.call.now c.args.c c.requires.held c.requires.stands c.bucket.result c.bucket.ensures in
    let r = seen_over (lists c.args.store.now) (next_name c.args.store.now) view c.args.instance.now c.args.call.now in
    let y : NamedBucket = named_item (item_in (calls_in view c.args.call.now) (c.bucket.result, s.bucket)) in
    let proper = ok_data c.in-Ok.field-0 refusal.Metadata (is_data_kind s.bucket.kind) (c.in-Ok.ensures.metadata s.bucket s.here) in
    let short = ok_short c.in-Ok.field-0 refusal.TooLong (is_data_kind s.bucket.kind) (length_of s.bucket.content) c.args.n (c.in-Ok.ensures.too_long s.bucket s.here) proper in
    ap (λ (k : ℕ). seen_over (lists c.split.new.self) k view c.args.instance.now c.args.call.now) c.in-Ok.ensures.next
    ∙ (done_split c.args.n s.variable y r (seen_over (lists c.split.new.self) (next_name c.args.store.now + 1) view c.args.instance.now c.args.call.now) (not_refused c.args.n y proper short)
    (split_into (lists c.args.store.now) (lists c.split.new.self) (next_name c.args.store.now) view c.args.instance.now c.args.call.now
    (apart_in (brigade_of c.args.store.now) (lists c.args.store.now) (pool_of c.args.store.now) (next_name c.args.store.now) c.args.instance.now c.args.call.now c.requires.held) c.bucket.result
    c.in-Ok.field-0 c.args.n s.bucket s.variable s.ring s.named s.given s.found
    (alive_at (ap bucket_at (s.at view)) alive) s.name.young c.in-Ok.ensures.name (λ m. c.in-Ok.ensures.ok s.ring m s.bucket s.inside s.here))
    ∙ ap (λ (s : CursorPlace). do_split c.args.n s r) (sym (s.at view)))

pub returns-in-Ok-clause-held : goal.returns-in-Ok-clause-held
returns-in-Ok-clause-held g c =
    let s = within_here c.args.store.now c.args.instance.now c.args.call.now c.args.c c.requires.held c.requires.stands c.bucket.result c.bucket.ensures in
    let rises : next_name c.args.store.now ≤ next_name c.split.new.self = let e = c.in-Ok.ensures.next in omega (arith, e) in
    held_kept c.args.store.now c.split.new.self rises c.split.ensures.names c.split.ensures.pools
    (still_on (lists c.args.store.now) (lists c.split.new.self) s.ring (replaced c.bucket.result (split_at c.args.n s.bucket).0 ((c.in-Ok.field-0, (split_at c.args.n s.bucket).1) ∷ []))
    (λ m. c.in-Ok.ensures.ok s.ring m s.bucket s.inside s.here))
    c.args.instance.now c.args.call.now c.requires.held

pub returns-in-Ok-clause-left : goal.returns-in-Ok-clause-left
returns-in-Ok-clause-left g c =
    let s = within_here c.args.store.now c.args.instance.now c.args.call.now c.args.c c.requires.held c.requires.stands c.bucket.result c.bucket.ensures in
    let rises : next_name c.args.store.now ≤ next_name c.split.new.self = let e = c.in-Ok.ensures.next in omega (arith, e) in
    left_on c.args.store.now c.split.new.self rises c.split.ensures.names c.split.ensures.pools c.split.ensures.references c.split.ensures.unasked s.ring
    (replaced c.bucket.result (split_at c.args.n s.bucket).0 ((c.in-Ok.field-0, (split_at c.args.n s.bucket).1) ∷ []))
    (λ m. c.in-Ok.ensures.ok s.ring m s.bucket s.inside s.here) c.args.instance.now c.args.call.now (ours_slot c.args.instance.now c.args.call.now s.variable s.ring s.named)

pub returns-in-Err-clause-ok : goal.returns-in-Err-clause-ok
returns-in-Err-clause-ok g c =
    on_ok_weaker c.unless_lacking.result (λ why view alive.
    let s = within_here c.args.store.now c.args.instance.now c.args.call.now c.args.c c.requires.held c.requires.stands c.bucket.result c.bucket.ensures in
    let r = seen_over (lists c.args.store.now) (next_name c.args.store.now) view c.args.instance.now c.args.call.now in
    let y : NamedBucket = named_item (item_in (calls_in view c.args.call.now) (c.bucket.result, s.bucket)) in
    seen_same (lists c.args.store.now) (next_name c.args.store.now) view c.args.instance.now c.args.call.now (lists c.split.new.self)
    (next_name c.split.new.self) c.in-Err.ensures.next c.in-Err.ensures.err
    ∙ (not_split c.args.n s.variable y r (refused_by c.in-Err.refusal c.args.n y (c.in-Err.ensures.metadata s.bucket s.here) (c.in-Err.ensures.too_long s.bucket s.here) why)
    ∙ ap (λ (s : CursorPlace). do_split c.args.n s r) (sym (s.at view))))
    c.unless_lacking.ensures.ok

pub returns-in-Err-clause-err : goal.returns-in-Err-clause-err
returns-in-Err-clause-err g c =
    on_err_weaker c.unless_lacking.result (λ why view.
    seen_same (lists c.args.store.now) (next_name c.args.store.now) view c.args.instance.now c.args.call.now (lists c.split.new.self)
    (next_name c.split.new.self) c.in-Err.ensures.next c.in-Err.ensures.err)
    c.unless_lacking.ensures.err

pub returns-in-Err-clause-held : goal.returns-in-Err-clause-held
returns-in-Err-clause-held g c =
    held_same c.args.store.now c.split.new.self c.in-Err.ensures.next c.split.ensures.names c.split.ensures.pools c.in-Err.ensures.err
    c.args.instance.now c.args.call.now c.requires.held

pub returns-in-Err-clause-left : goal.returns-in-Err-clause-left
returns-in-Err-clause-left g c =
    left_same c.args.store.now c.split.new.self (no_less (next_name c.args.store.now) (next_name c.split.new.self) c.in-Err.ensures.next) c.split.ensures.names c.split.ensures.pools
    c.split.ensures.references c.split.ensures.unasked c.in-Err.ensures.err c.args.instance.now c.args.call.now

pub returns-in-Err-clause-sure : goal.returns-in-Err-clause-sure
returns-in-Err-clause-sure g c view none =
    let s = within_here c.args.store.now c.args.instance.now c.args.call.now c.args.c c.requires.held c.requires.stands c.bucket.result c.bucket.ensures in
    let y : NamedBucket = named_item (item_in (calls_in view c.args.call.now) (c.bucket.result, s.bucket)) in
    let refused : is_some (split_refusal c.args.n y) ≡ true = uncut _ (sym (ap (names_to_split c.args.n) (s.at view)) ∙ none) in
    let why = refused_as c.in-Err.refusal c.args.n y (c.in-Err.ensures.metadata s.bucket s.here) (c.in-Err.ensures.too_long s.bucket s.here) refused in
    ok_unless c.unless_lacking.result c.unless_lacking.ensures.err (λ lacks. not_both c.in-Err.refusal why lacks)
