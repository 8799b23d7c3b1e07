use Rattle.std.proofs.Common.{ℕ, ◌+◌, ◌≤◌, cond, sym, ap, subst, ◌∙◌}
use Rattle.bucket_kinds.specs.Device.{Missing}
use Rattle.brigade_ops.specs.Files.{refs_in, is_let_go}
use Rattle.brigade_ops.specs.Store.{references}
use Rattle.brigade_ops.proofs.store.Brigades.run_down.Goals as goal

pub end_pool-requires-clause-counted : goal.end_pool-requires-clause-counted
end_pool-requires-clause-counted g c f = subst (λ (h : ℕ → ℕ). refs_in f c.args.handed.now ≤ h f) (sym c.change_found-reached.ensures.references) (c.requires.counted f)

pub returns-clause-counted : goal.returns-clause-counted
unfolding references
returns-clause-counted g c f =
    ap (λ (h : ℕ → ℕ). h f + refs_in f c.args.handed.now) c.forget.ensures.references
    ∙ c.end_pool.ensures.counted f ∙ ap (λ (h : ℕ → ℕ). h f) c.change_found-reached.ensures.references

pub returns-clause-closed : goal.returns-clause-closed
returns-clause-closed g c f =
    c.end_pool.ensures.closed f
    ∙ ap (λ (h : ℕ → ℕ). cond (is_let_go (h f) (refs_in f c.args.handed.now)) Missing ((g.F.Files.device c.args.files.now).numbered f)) c.change_found-reached.ensures.references
