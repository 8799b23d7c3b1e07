-- The file is told where the home of the bucket is not above, and none where it is.
use Rattle.std.proofs.Common.{◌≡◌, ℕ, Bool, true, false, cond, Option, None, Some, sym, ap, ◌∙◌}
use Rattle.std.proofs.lemmas.Option.{same_Some}
use Rattle.run_model.specs.declared.bucket.Bucket.{Bucket}
use Rattle.run_model.specs.declared.payload.Payload.{Payload}
use Rattle.run_model.specs.Pools.{Pools}
use Rattle.run_model.specs.Steps.{file_of, is_above}
use Rattle.pool_tree.specs.Tree.{map_of}
use Rattle.bucket_store.specs.Items.{file_for}
use Rattle.bucket_store.specs.Views.{bucket_of}
use Rattle.brigade_ops.proofs.store.Brigades.file_for.Goals as goal

told : (ps : Pools Payload) (pool : ℕ) (x y : Bucket) (b : Bool) → Some y ≡ Some x → is_above ps pool y.home ≡ b
    → ◌≡◌ {A = Option ℕ × Bool} (cond b None (file_of y.kind y.content), b) (file_for ps pool x, is_above ps pool x.home)
told ps pool x y b same above =
    sym (ap (λ (a : Bool). (cond a None (file_of y.kind y.content), a)) above) ∙ ap (λ (z : Bucket). (file_for ps pool z, is_above ps pool z.home)) (same_Some y x same)

pub returns-then-is_above : goal.returns-then-is_above
returns-then-is_above g c x is =
    told (map_of c.args.tree.now) c.args.pool x (bucket_of c.payload-bucket.result) true (sym c.payload-bucket.ensures ∙ is) (sym c.is_above.ensures ∙ c.if-is_above.true)

pub returns-else-is_above : goal.returns-else-is_above
returns-else-is_above g c x is =
    ap (λ (file : Option ℕ). (file, false)) c.file_of.ensures
    ∙ told (map_of c.args.tree.now) c.args.pool x (bucket_of c.payload-bucket.result) false (sym c.payload-bucket.ensures ∙ is) (sym c.is_above.ensures ∙ c.if-is_above.false)
