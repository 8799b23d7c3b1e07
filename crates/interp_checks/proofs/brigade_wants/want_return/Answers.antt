-- A slot that keeps a stray bucket decides, and none does where the loop ends.
use Rattle.std.proofs.Common.{◌≡◌, ℕ, Bool, Option, true, inl, inr, refl, sym, ap, ◌∙◌, arith}
use Rattle.std.proofs.lemmas.Bool.{cases_eq}
use Rattle.run_model.specs.Faults.{keeps_stray}
use Rattle.bucket_store.specs.Items.{Items}
use Rattle.run_model.specs.Pools.{Pools}
use Rattle.run_model.specs.declared.payload.Payload.{Payload}
use Rattle.interp_state.specs.ContextViews.{ContextView}
use Rattle.interp_state.specs.Context.{in_context}
use Rattle.interp_state.specs.Seen.{seen, seen_over}
use Rattle.pool_tree.proofs.Below.{any_below_some, any_below_none}
use Rattle.interp_checks.proofs.OnlyAsked.{as_before, asked_again, asked_nothing}
use Rattle.interp_checks.proofs.brigade_wants.want_return.Goals as goal
use Rattle.interp_checks.proofs.brigade_wants.want_return.Goals.{After-keeps_stray}

-- what was told of this variable is so of it in the store as it was
told : (g : _) (c : After-keeps_stray g) (pools : Pools Payload) (view : ContextView)
    → (let r = seen c.args.store.now (in_context c.args.context.now pools view) c.args.instance.now c.args.call.now in keeps_stray r (r.instance.brigades c.loop-b.b)) ≡ c.keeps_stray.result
told g c pools view =
    let over = in_context c.args.context.now pools view in
    let i = c.args.instance.now in
    let call = c.args.call.now in
    sym (as_before (λ (L : ℕ → Option Items) (n : ℕ). c.keeps_stray.result ≡ keeps_stray (seen_over L n over i call) ((seen_over L n over i call).instance.brigades c.loop-b.b)) c.args.store.now
    c.loop-b.store c.loop-b.invariant.asked (c.keeps_stray.ensures.value pools view))

pub returns-then-keeps_stray-clause-value : goal.returns-then-keeps_stray-clause-value
returns-then-keeps_stray-clause-value g c pools view =
    let r = seen c.args.store.now (in_context c.args.context.now pools view) c.args.instance.now c.args.call.now in
    let keeps : ℕ → Bool = λ b. keeps_stray r (r.instance.brigades b) in
    let here : keeps c.loop-b.b ≡ true = told g (goal.at.returns-then-keeps_stray-clause-value g c).After-keeps_stray pools view ∙ c.if-keeps_stray.true in
    rw (any_below_some 8 c.loop-b.b keeps (omega arith) here) refl

pub loop-b-init : goal.loop-b-init
loop-b-init g c = record { none = λ pools view k lt. absurd (omega (arith, lt)); asked = asked_nothing c.args.store.now }

pub loop-b-preserved : goal.loop-b-preserved
loop-b-preserved g c = record {
  none = λ pools view k lt.
      let r = seen c.args.store.now (in_context c.args.context.now pools view) c.args.instance.now c.args.call.now in
      elim (cases_eq k c.loop-b.b) [
        | inl e ↦ ap (λ (b : ℕ). keeps_stray r (r.instance.brigades b)) e ∙ (told g (goal.at.loop-b-preserved g c).After-keeps_stray pools view ∙ c.if-keeps_stray.false)
        | inr ne ↦ c.loop-b.invariant.none pools view k (omega (arith, ne, lt))
      ];
  asked = asked_again c.args.store.now c.loop-b.store c.keeps_stray.new.store c.loop-b.invariant.asked c.keeps_stray.ensures.asked;
}

pub returns-clause-value : goal.returns-clause-value
returns-clause-value g c pools view =
    let r = seen c.args.store.now (in_context c.args.context.now pools view) c.args.instance.now c.args.call.now in
    let keeps : ℕ → Bool = λ b. keeps_stray r (r.instance.brigades b) in
    rw (any_below_none 8 keeps (λ k below. c.loop-b.invariant.none pools view k (omega arith))) refl
