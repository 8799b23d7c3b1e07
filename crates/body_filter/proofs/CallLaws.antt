-- Calls one after another, and what comes out.
use Rattle.std.proofs.Common.{◌≡◌, ℕ, List, [], ◌∷◌, ◌++◌, Option, Some, None, refl, ap, sym, subst, ◌∙◌}
use Rattle.std.proofs.lemmas.List.{append_assoc, append-nil}
use Rattle.module_code.specs.Program.{Program}
use Rattle.run_model.specs.declared.event.Event.{Event}
use Rattle.filter_chain.specs.HostViews.{HostView}
use Rattle.http_message.specs.declared.failure.Failure.{Failure}
use Rattle.body_filter.specs.BodyCalls.{MakesCall, MakesCalls}

module _ (budget : ℕ) (chain : List Program) (number : ℕ) where
  -- one call
  pub one_call : (e : Event) (old : HostView) (how : Option Failure) (out : List ℕ) (new : HostView) → MakesCall budget chain number e old how out new
      → MakesCalls budget chain number (e ∷ []) old how out new
  unfolding MakesCalls
  one_call e old None out new call = (None, out, new, call, ([], (refl, refl, refl), sym (append-nil out)))
  one_call e old (Some why) out new call = (Some why, out, new, call, (refl, refl, refl))

  -- where all calls succeed, others follow
  pub calls_on : (es fs : List Event) (old mid new : HostView) (how : Option Failure) (out rest : List ℕ) → MakesCalls budget chain number es old None out mid
      → MakesCalls budget chain number fs mid how rest new → MakesCalls budget chain number (es ++ fs) old how (out ++ rest) new
  unfolding MakesCalls
  calls_on [] fs old mid new how out rest none then =
      subst (λ (xs : List ℕ). MakesCalls budget chain number fs old how (xs ++ rest) new) (sym none.1) (subst
      (λ (s : HostView). MakesCalls budget chain number fs s how rest new) none.2 then)
  calls_on (e ∷ es) fs old mid new how out rest (None, front, at, call, (more, calls, joined)) then =
      (None, front, at, call, (more ++ rest, calls_on es fs at mid new how more rest calls then, ap (λ (xs : List ℕ). xs ++ rest) joined ∙ append_assoc front more rest))
  calls_on (e ∷ es) fs old mid new how out rest (Some why, front, at, call, stopped) then = (let bad : None ≡ Some why = stopped.0 in absurd (cc))

  -- where a call did not succeed, none follows
  pub calls_stop : (es fs : List Event) (old new : HostView) (why : Failure) (out : List ℕ) → MakesCalls budget chain number es old (Some why) out new
      → MakesCalls budget chain number (es ++ fs) old (Some why) out new
  unfolding MakesCalls
  calls_stop [] fs old new why out none = (let bad : Some why ≡ None = none.0 in absurd (cc))
  calls_stop (e ∷ es) fs old new why out (None, front, at, call, (more, calls, joined)) = (None, front, at, call, (more, calls_stop es fs at new why more calls, joined))
  calls_stop (e ∷ es) fs old new why out (Some other, front, at, call, stopped) = (Some other, front, at, call, stopped)
