-- What each instance sees after a return is reached by an open run: its caller goes on, or the next module is called, or none is.
use Rattle.std.proofs.Common.{◌≡◌, ◌≢◌, ◌⊎◌, ℕ, ◌+◌, ◌<◌, ◌≤◌, Bool, false, ◌||◌, cond, List, [], ◌∷◌, map, inl, inr, refl, sym, ◌∙◌, ap, subst, arith, eq-eqb, ne_eqb}
use Rattle.std.proofs.lemmas.Bool.{cases_eq}
use Rattle.module_code.specs.declared.instr.Instr.TheVariants as instr
use Rattle.module_code.specs.declared.instr.Status.{Status}
use Rattle.module_code.specs.Program.{Program}
use Rattle.run_model.specs.declared.bucket.NamedBucket.{NamedBucket}
use Rattle.run_model.specs.declared.bucket.PoolVar.{PoolVar}
use Rattle.run_model.specs.Chains.{Frame, Connection, Common, Linked, configuration, places, touched_bucket, touched_frame, put_back, module_at, IsChain}
use Rattle.run_model.specs.Passing.{passed_by, given_back, after_pass, returned_to, called, handler_at}
use Rattle.run_model.specs.Pools.{is_in}
use Rattle.run_model.specs.State.{Instance, fresh_call}
use Rattle.run_model.specs.Steps.{current}
use Rattle.run_model.proofs.Updates.{upd_at, upd_off, upd_either}
use Rattle.model_laws.specs.ChainOrder.{has_call}
use Rattle.model_laws.specs.ChainSound.{ChainSound, IsNested, IsRising}
use Rattle.model_laws.specs.Laws.{MayExecute}
use Rattle.model_laws.specs.OpenRuns.{Due, Rests, Runs, Waits, Lasting, none_lasts, Start, Answer, Done, LeaveShared, IsMove}
use Rattle.model_laws.proofs.seen.InPlace.{running, not_there, none_more, has_touched}
use Rattle.model_laws.proofs.seen.Reach.{ReachedAlone, go}
use Rattle.model_laws.proofs.seen.Returning.{back, known, waits_back, rests_back, top_back, vacant_back, remaining, come_back}
use Rattle.model_laws.proofs.seen.Seen.{names_in, IsNamedIn, SeenCall, AllWaitSeen, SeenRest, ChainSeen, resting, rest_phase, rest_alone}
use Rattle.model_laws.proofs.seen.Settle.{settle}

-- modules that come later are none of these
later_none : (k j : ℕ) (ks : List ℕ) → k ≤ j → IsRising j ks → is_in k ks ≡ false
unfolding IsRising
later_none k j [] le h = refl
later_none k j (n ∷ ns) le h = ap (λ (x : Bool). x || is_in k ns) (ne_eqb n k (λ same. absurd (omega (arith, same, le, h.0)))) ∙ later_none k n ns (omega (arith, le, h.0)) h.1

pub not_rising : (k : ℕ) (ks : List ℕ) → IsRising k ks → is_in k ks ≡ false
not_rising k ks h = later_none k k ks (omega arith) h

module _ (chain : List Program) (g : Common) (c : Connection) (f w : Frame) (more : List Frame) (chained : IsChain chain) (sound : ChainSound chain g c) (on_top : c.stack ≡ f ∷ (w ∷ more))
    (s : Status) (is : current (module_at chain f.of) f.pc ≡ instr.Ret s) (may : MayExecute (module_at chain f.of) (configuration g c f) (instr.Ret s)) (seen : ChainSeen chain g c)
    (new_sound : ChainSound chain (returned_to (module_at chain w.of) s f w more (g, c)).0 (returned_to (module_at chain w.of) s f w more (g, c)).1) where
  abbrev b : Linked
  b = back chain g c f (w ∷ more) chained sound on_top s is may seen

  abbrev pub resumed : Linked
  resumed = returned_to (module_at chain w.of) s f w more (g, c)

  abbrev bucket : NamedBucket → NamedBucket
  bucket = touched_bucket (configuration g c f) (instr.Ret s)

  abbrev left : List NamedBucket
  left = remaining chain g c f (w ∷ more) chained sound on_top s is may seen

  -- the caller, as it waits and as it goes on
  abbrev waits : Frame
  waits = touched_frame bucket w

  abbrev goes_on : Frame
  goes_on = record waits { pc = after_pass s (current (module_at chain w.of) w.pc) w.pc }

  nested : IsNested f (w ∷ more)
  nested = (known chain g c f (w ∷ more) chained sound on_top s is may seen).nested

  lower : w.of < f.of
  unfolding IsNested
  lower = nested.0

  caller_is : resumed.1.instances w.of ≡ given_back (passed_by (current (module_at chain w.of) w.pc)) left (b.1.instances w.of)
  unfolding returned_to
  caller_is = upd_at b.1.instances w.of _

  other_is : (k : ℕ) → k ≢ w.of → resumed.1.instances k ≡ b.1.instances k
  unfolding returned_to
  other_is k off = upd_off b.1.instances w.of k _ off

  pools_same : (k : ℕ) → (resumed.1.instances k).pools ≡ (b.1.instances k).pools
  unfolding returned_to
  pools_same k = elim (upd_either b.1.instances w.of k (given_back (passed_by (current (module_at chain w.of) w.pc)) left (b.1.instances w.of))) [
    | inl here ↦ ap (λ (x : Instance). x.pools) here.1 ∙ ap (λ (n : ℕ). (b.1.instances n).pools) (sym here.0)
    | inr off ↦ ap (λ (x : Instance). x.pools) off.1
  ]

  named_still : (fs : List Frame) (n : ℕ) → IsNamedIn b.1 fs n → IsNamedIn resumed.1 fs n
  unfolding IsNamedIn
  named_still [] n e = e
  named_still (v ∷ fs) n (inl e) = inl (e.0, ap (λ (pools : ℕ → PoolVar). pools e.0) (pools_same v.of) ∙ e.1)
  named_still (v ∷ fs) n (inr e) = inr (named_still fs n e)

  left_same : (l : Lasting) (v : Frame) → LeaveShared l (configuration b.0 b.1 v) (configuration resumed.0 resumed.1 v).shared
  unfolding returned_to configuration
  left_same l v = record {
    conn = refl;
    req = refl;
    pools = (new_sound.pools.sound v).formed;
    stay = λ n lasts. refl;
    rises = (omega arith, omega arith);
    limits = (new_sound.names.limit, (new_sound.pools.sound v).limit);
  }

  -- The waiting calls below, and the instances that rest.

  other_waits : (u : Frame) (fs : List Frame) → u.of ≤ w.of → IsNested u fs → AllWaitSeen chain b.0 b.1 (map (touched_frame bucket) fs) → AllWaitSeen chain resumed.0 resumed.1 (map (touched_frame bucket) fs)
  unfolding IsNested AllWaitSeen configuration
  other_waits u [] le below h = tt
  other_waits u (v ∷ fs) le below h = (
    record {
      pools = h.0.pools;
      below = λ n e. named_still (map (touched_frame bucket) fs) n (h.0.below n e);
      reached = settle (module_at chain v.of) Waits _ (configuration b.0 b.1 (touched_frame bucket v)) (configuration resumed.0 resumed.1 (touched_frame bucket v)) tt
          (other_is v.of (λ same. absurd (omega (arith, same, le, below.0)))) refl refl (left_same _ (touched_frame bucket v)) h.0.reached;
    },
    other_waits v fs (omega (arith, le, below.0)) below.1 h.1,
  )

  rest_same : (k : ℕ) → k ≢ w.of → SeenRest chain b.0 b.1 k → SeenRest chain resumed.0 resumed.1 k
  unfolding configuration returned_to
  rest_same k off h = record {
    pc = h.pc;
    vacant = ap (λ (x : Instance). x.brigades 8) (other_is k off) ∙ h.vacant;
    reached = settle (module_at chain k) (rest_phase k b.1.queue) none_lasts (configuration b.0 b.1 (resting k h.pc)) (configuration resumed.0 resumed.1 (resting k h.pc)) (rest_alone k b.1.queue)
        (other_is k off) refl refl (left_same none_lasts (resting k h.pc)) h.reached;
  }

  none_due : c.queue ≡ []
  none_due = sound.calls.alone f w more on_top

  top_rests : SeenRest chain resumed.0 resumed.1 f.of
  unfolding configuration returned_to put_back
  top_rests = rest_same f.of (λ same. absurd (omega (arith, same, lower))) (record {
    pc = f.pc;
    vacant = vacant_back chain g c f (w ∷ more) chained sound on_top s is may seen;
    reached = subst (λ (q : List ℕ). ReachedAlone (module_at chain f.of) (record { phase = rest_phase f.of q; lasting = none_lasts; now = configuration b.0 b.1 (resting f.of f.pc) })) (sym none_due)
        (top_back chain g c f (w ∷ more) chained sound on_top s is may seen);
  })

  -- The caller.

  caller_now : SeenCall Waits chain b.0 b.1 waits (map (touched_frame bucket) more) → SeenCall Runs chain resumed.0 resumed.1 goes_on (map (touched_frame bucket) more)
  unfolding IsMove configuration returned_to put_back
  caller_now h = record {
    pools = h.pools;
    below = λ n e. named_still (map (touched_frame bucket) more) n (h.below n e);
    reached = go (module_at chain w.of) (record { phase = Waits; lasting = record { calls = names_in (waits ∷ map (touched_frame bucket) more); pools = h.pools }; now = configuration b.0 b.1 waits })
        (running (record { calls = names_in (waits ∷ map (touched_frame bucket) more); pools = h.pools }) (configuration resumed.0 resumed.1 goes_on)) (Answer s left) Done h.reached (
          refl,
          record {
            phase = refl;
            come = come_back chain g c f (w ∷ more) chained sound on_top s is may seen w more refl;
            is = ap (λ (x : Instance). running (record { calls = names_in (waits ∷ map (touched_frame bucket) more); pools = h.pools }) (record (configuration resumed.0 resumed.1 goes_on) { instance = x })) caller_is;
          },
        );
  }

  pub resumed_seen : ChainSeen chain resumed.0 resumed.1
  unfolding returned_to put_back AllWaitSeen IsNested
  resumed_seen =
      let all = waits_back chain g c f (w ∷ more) chained sound on_top s is may seen in
      record {
        stack = (caller_now all.0, other_waits w more (omega arith) nested.1 all.1);
        rests = λ k lt off. (let parts = not_there goes_on (map (touched_frame bucket) more) k off in by_top k lt parts.0 parts.1 (cases_eq k f.of));
      } where
        by_top : (k : ℕ) → k < places chain → k ≢ w.of → has_call (map (touched_frame bucket) more) k ≡ false → (k ≡ f.of) ⊎ (k ≢ f.of) → SeenRest chain resumed.0 resumed.1 k
        by_top k lt off below (inl same) = subst (SeenRest chain resumed.0 resumed.1) (sym same) top_rests
        by_top k lt off below (inr away) =
            rest_same k off (rests_back chain g c f (w ∷ more) chained sound on_top s is may seen k lt away (none_more w more k off (sym (has_touched bucket more k) ∙ below)))

-- The first call returns.
module _ (chain : List Program) (g : Common) (c : Connection) (f : Frame) (chained : IsChain chain) (sound : ChainSound chain g c) (on_top : c.stack ≡ f ∷ [])
    (s : Status) (is : current (module_at chain f.of) f.pc ≡ instr.Ret s) (may : MayExecute (module_at chain f.of) (configuration g c f) (instr.Ret s)) (seen : ChainSeen chain g c) where
  abbrev pub alone : Linked
  alone = back chain g c f [] chained sound on_top s is may seen

  unqueued : is_in f.of c.queue ≡ false
  unqueued = not_rising f.of c.queue (sound.calls.later f [] on_top)

  -- what it sees is so whatever module is called next, but itself
  first_rests : SeenRest chain alone.0 alone.1 f.of
  unfolding put_back
  first_rests = record {
    pc = f.pc;
    vacant = vacant_back chain g c f [] chained sound on_top s is may seen;
    reached = subst (λ (x : Bool). ReachedAlone (module_at chain f.of) (record { phase = cond x Due Rests; lasting = none_lasts; now = configuration alone.0 alone.1 (resting f.of f.pc) })) (sym unqueued)
        (top_back chain g c f [] chained sound on_top s is may seen);
  }

  each_rests : (k : ℕ) → k < places chain → SeenRest chain alone.0 alone.1 k
  unfolding has_call
  each_rests k lt = elim (cases_eq k f.of) [
    | inl same ↦ subst (SeenRest chain alone.0 alone.1) (sym same) first_rests
    | inr away ↦ rests_back chain g c f [] chained sound on_top s is may seen k lt away refl
  ]

  -- None is left to be called.
  pub ended_seen : ChainSeen chain alone.0 alone.1
  unfolding put_back
  ended_seen = record { stack = tt; rests = λ k lt off. each_rests k lt }

  -- The next one is.
  module _ (k : ℕ) (ks : List ℕ) (queue : c.queue ≡ k ∷ ks) (inside : k < places chain)
      (new_sound : ChainSound chain (called chain k ks (back chain g c f [] chained sound on_top s is may seen)).0 (called chain k ks (back chain g c f [] chained sound on_top s is may seen)).1) where
    abbrev pub next : Linked
    next = called chain k ks alone

    abbrev callee : Frame
    callee = record { of = k; call = fresh_call g.next; pc = handler_at c.req (module_at chain k) }

    due : SeenRest chain alone.0 alone.1 k
    due = each_rests k inside

    now_due : ReachedAlone (module_at chain k) (record { phase = Due; lasting = none_lasts; now = configuration alone.0 alone.1 (resting k due.pc) })
    unfolding put_back
    now_due = subst (λ (x : Bool). ReachedAlone (module_at chain k) (record { phase = cond x Due Rests; lasting = none_lasts; now = configuration alone.0 alone.1 (resting k due.pc) }))
        (ap (is_in k) queue ∙ ap (λ (x : Bool). x || is_in k ks) (eq-eqb k k refl)) due.reached

    callee_runs : SeenCall Runs chain next.0 next.1 callee []
    unfolding IsMove configuration put_back
    callee_runs = record {
      pools = [];
      below = λ n e. absurd (cc);
      reached = go (module_at chain k) (record { phase = Due; lasting = none_lasts; now = configuration alone.0 alone.1 (resting k due.pc) })
          (running (record { calls = g.next ∷ []; pools = [] }) (configuration next.0 next.1 callee)) Start Done now_due (
            refl,
            record {
              phase = refl;
              name = g.next;
              next = g.next + 1;
              named = record { new = omega arith; given = omega arith; limit = new_sound.names.limit };
              is = refl;
            },
          );
    }

    other_rests : (j : ℕ) → j ≢ k → SeenRest chain alone.0 alone.1 j → SeenRest chain next.0 next.1 j
    unfolding configuration put_back
    other_rests j off h = record {
      pc = h.pc;
      vacant = h.vacant;
      reached = subst (λ (x : Bool). ReachedAlone (module_at chain j) (record { phase = cond x Due Rests; lasting = none_lasts; now = configuration next.0 next.1 (resting j h.pc) })) same_queue
          (settle (module_at chain j) (rest_phase j c.queue) none_lasts (configuration alone.0 alone.1 (resting j h.pc)) (configuration next.0 next.1 (resting j h.pc)) (rest_alone j c.queue) refl refl refl (record {
            conn = refl;
            req = refl;
            pools = (new_sound.pools.sound (resting j h.pc)).formed;
            stay = λ n lasts. refl;
            rises = (omega arith, omega arith);
            limits = (new_sound.names.limit, (new_sound.pools.sound (resting j h.pc)).limit);
          }) h.reached);
    } where
      same_queue : is_in j c.queue ≡ is_in j ks
      same_queue = ap (is_in j) queue ∙ ap (λ (x : Bool). x || is_in j ks) (ne_eqb k j (λ same. off (sym same)))

    pub next_seen : ChainSeen chain next.0 next.1
    unfolding put_back AllWaitSeen configuration
    next_seen = record { stack = (callee_runs, tt); rests = λ j lt off. (let parts = not_there callee [] j off in other_rests j parts.0 (each_rests j lt)) }
