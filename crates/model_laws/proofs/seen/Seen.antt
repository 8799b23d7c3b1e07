-- What each instance of a connection sees is reached by an open run of it.
use Rattle.std.proofs.Common.{◌≡◌, ◌⊎◌, ℕ, ◌^◌, ◌<◌, ◌≤◌, Bool, true, false, cond, List, [], ◌∷◌, map, Option, None, refl, sym, inl, inr, subst}
use Rattle.module_code.specs.Program.{Program}
use Rattle.run_model.specs.declared.bucket.BrigadeVar.TheVariants as var
use Rattle.run_model.specs.declared.bucket.PoolVar.TheVariants as poolvar
use Rattle.run_model.specs.declared.event.Cause.{Cause}
use Rattle.run_model.specs.declared.payload.Payload.{Payload}
use Rattle.run_model.specs.Chains.{Frame, Connection, Common, module_at, configuration, pools_of, places}
use Rattle.run_model.specs.Pools.{Cleanups, is_in}
use Rattle.run_model.specs.RunOrder.{IsPoolMap}
use Rattle.run_model.specs.State.{Out, fresh_call}
use Rattle.model_laws.specs.ChainOrder.{has_call}
use Rattle.model_laws.specs.OpenRuns.{Phase, Due, Rests, Runs, Waits, Lasting, none_lasts, LeaveShared, IsLeftAlone}
use Rattle.model_laws.proofs.seen.Reach.{ReachedAlone}
use Rattle.model_laws.proofs.seen.Settle.{settle, settle_running}

abbrev pub names_in : List Frame → List ℕ
names_in fs = map (λ (f : Frame). f.call.name) fs

-- an instance of one of these calls names the pool n
unfoldable pub IsNamedIn : Connection → List Frame → ℕ → Type 0
IsNamedIn c [] n = ⊥
IsNamedIn c (w ∷ rest) n = ((q : ℕ) × ((c.instances w.of).pools q ≡ poolvar.Made n)) ⊎ IsNamedIn c rest n

-- A call on the stack, with those that wait for it. pools: pools of these that last.
pub record SeenCall (phase : Phase) (chain : List Program) (g : Common) (c : Connection) (f : Frame) (rest : List Frame) : Type 0 where
  pub pools : List ℕ
  pub below : (n : ℕ) → is_in n pools ≡ true → IsNamedIn c rest n
  pub reached : ReachedAlone (module_at chain f.of) (record { phase = phase; lasting = record { calls = names_in (f ∷ rest); pools = pools }; now = configuration g c f })

unfoldable pub AllWaitSeen : List Program → Common → Connection → List Frame → Type 0
AllWaitSeen chain g c [] = Unit {0}
AllWaitSeen chain g c (w ∷ rest) = SeenCall Waits chain g c w rest × AllWaitSeen chain g c rest

abbrev pub StackSeen : List Program → Common → Connection → List Frame → Type 0
StackSeen chain g c [] = Unit {0}
StackSeen chain g c (f ∷ rest) = SeenCall Runs chain g c f rest × AllWaitSeen chain g c rest

-- whether its `open` or `init` is still to be called
abbrev pub rest_phase : ℕ → List ℕ → Phase
rest_phase k queue = cond (is_in k queue) Due Rests

abbrev pub resting : ℕ → ℕ → Frame
resting k pc = record { of = k; call = fresh_call 0; pc = pc }

-- an instance of which no call is on the stack
pub record SeenRest (chain : List Program) (g : Common) (c : Connection) (k : ℕ) : Type 0 where
  pub pc : ℕ
  pub vacant : (c.instances k).brigades 8 ≡ var.Null
  pub reached : ReachedAlone (module_at chain k) (record { phase = rest_phase k c.queue; lasting = none_lasts; now = configuration g c (resting k pc) })

pub record ChainSeen (chain : List Program) (g : Common) (c : Connection) : Type 0 where
  pub stack : StackSeen chain g c c.stack
  pub rests : (k : ℕ) → k < places chain → has_call c.stack k ≡ false → SeenRest chain g c k

-- Nothing is asked of a broken connection.
abbrev pub SeenUnbroken : List Program → Common → Connection → Type 0
SeenUnbroken chain g c = c.broken ≡ None → ChainSeen chain g c

pub rest_alone : (k : ℕ) (queue : List ℕ) → IsLeftAlone (rest_phase k queue)
rest_alone k queue = by_test (is_in k queue) where
  by_test : (b : Bool) → IsLeftAlone (cond b Due Rests)
  by_test true = tt
  by_test false = tt

-- Others take names, the output and files.

-- names rise, and stay below their limit
pub record NamesRise (g h : Common) : Type 0 where
  pub next : g.next ≤ h.next
  pub pools : g.pools ≤ h.pools
  pub limits : (h.next < 2 ^ 64) × (h.pools < 2 ^ 64)

module _ (chain : List Program) (g h : Common) (c : Connection) (rise : NamesRise g h)
    (opened : ℕ → Option (List ℕ)) (files : List (ℕ × ℕ)) (out : Out) (count : ℕ) (broken : Option Cause) where
  -- a call that runs sees nothing of it
  abbrev beside : Connection
  beside = record c { opened = opened; files = files; out = out; count = count; broken = broken }

  named_beside : (rest : List Frame) (n : ℕ) → IsNamedIn c rest n → IsNamedIn beside rest n
  unfolding IsNamedIn
  named_beside [] n e = e
  named_beside (w ∷ rest) n (inl e) = inl e
  named_beside (w ∷ rest) n (inr e) = inr (named_beside rest n e)

  runs_beside : (f : Frame) (rest : List Frame) → SeenCall Runs chain g c f rest → SeenCall Runs chain h beside f rest
  unfolding configuration
  runs_beside f rest s = record {
    pools = s.pools;
    below = λ n e. named_beside rest n (s.below n e);
    reached = settle_running (module_at chain f.of) _ (configuration g c f) (configuration h beside f) refl (rise.next, rise.pools) rise.limits s.reached;
  }

module _ (chain : List Program) (g h : Common) (c : Connection) (rise : NamesRise g h) (payloads : ℕ → Cleanups Payload) (labels : List (List ℕ))
    (opened : ℕ → Option (List ℕ)) (files : List (ℕ × ℕ)) (out : Out) (count : ℕ) (broken : Option Cause) (formed : IsPoolMap (record (pools_of h c) { payloads = payloads })) where
  abbrev apart : Connection
  apart = record c { payloads = payloads; labels = labels; opened = opened; files = files; out = out; count = count; broken = broken }

  left_apart : (l : Lasting) (f : Frame) → LeaveShared l (configuration g c f) (configuration h apart f).shared
  unfolding configuration
  left_apart l f = record { conn = refl; req = refl; pools = formed; stay = λ n lasts. refl; rises = (rise.next, rise.pools); limits = rise.limits }

  alone_apart : (p : Program) (phase : Phase) (l : Lasting) (f : Frame) → IsLeftAlone phase → ReachedAlone p (record { phase = phase; lasting = l; now = configuration g c f })
      → ReachedAlone p (record { phase = phase; lasting = l; now = configuration h apart f })
  unfolding configuration
  alone_apart p phase l f alone s = settle p phase l (configuration g c f) (configuration h apart f) alone refl refl refl (left_apart l f) s

  named_apart : (rest : List Frame) (n : ℕ) → IsNamedIn c rest n → IsNamedIn apart rest n
  unfolding IsNamedIn
  named_apart [] n e = e
  named_apart (w ∷ rest) n (inl e) = inl e
  named_apart (w ∷ rest) n (inr e) = inr (named_apart rest n e)

  pub waits_apart : (rest : List Frame) → AllWaitSeen chain g c rest → AllWaitSeen chain h apart rest
  unfolding AllWaitSeen
  waits_apart [] s = tt
  waits_apart (w ∷ rest) s = (
    record { pools = s.0.pools; below = λ n e. named_apart rest n (s.0.below n e); reached = alone_apart (module_at chain w.of) Waits _ w tt s.0.reached },
    waits_apart rest s.1,
  )

  pub rests_apart : (k : ℕ) → SeenRest chain g c k → SeenRest chain h apart k
  rests_apart k s = record { pc = s.pc; vacant = s.vacant; reached = alone_apart (module_at chain k) (rest_phase k c.queue) none_lasts (resting k s.pc) (rest_alone k c.queue) s.reached }

-- What changes beside a connection changes nothing of what is seen; of payloads and labels, where no call runs.

pub seen_beside : (chain : List Program) (g h : Common) (c : Connection) → NamesRise g h → IsPoolMap (pools_of h c) → (opened : ℕ → Option (List ℕ)) (files : List (ℕ × ℕ)) (out : Out) (count : ℕ)
    (broken : Option Cause) → ChainSeen chain g c → ChainSeen chain h (record c { opened = opened; files = files; out = out; count = count; broken = broken })
seen_beside chain g h c rise formed opened files out count broken s = record {
  stack = by_stack c.stack s.stack;
  rests = λ k lt off. rests_apart chain g h c rise c.payloads c.labels opened files out count broken formed k (s.rests k lt off);
} where
  by_stack : (fs : List Frame) → StackSeen chain g c fs → StackSeen chain h (record c { opened = opened; files = files; out = out; count = count; broken = broken }) fs
  by_stack [] s = tt
  by_stack (f ∷ rest) s = (runs_beside chain g h c rise opened files out count broken f rest s.0, waits_apart chain g h c rise c.payloads c.labels opened files out count broken formed rest s.1)

pub seen_idle : (chain : List Program) (g h : Common) (c : Connection) → c.stack ≡ [] → NamesRise g h → (payloads : ℕ → Cleanups Payload) (labels : List (List ℕ))
    (opened : ℕ → Option (List ℕ)) (files : List (ℕ × ℕ)) (out : Out) (count : ℕ) (broken : Option Cause) → IsPoolMap (record (pools_of h c) { payloads = payloads }) → ChainSeen chain g c
    → ChainSeen chain h (record c { payloads = payloads; labels = labels; opened = opened; files = files; out = out; count = count; broken = broken })
seen_idle chain g h c idle rise payloads labels opened files out count broken formed s = record {
  stack = subst (StackSeen chain h (record c { payloads = payloads; labels = labels; opened = opened; files = files; out = out; count = count; broken = broken })) (sym idle) tt;
  rests = λ k lt off. rests_apart chain g h c rise payloads labels opened files out count broken formed k (s.rests k lt off);
}
