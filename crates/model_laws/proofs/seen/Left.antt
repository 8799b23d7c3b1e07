-- What the instruction of the call on top leaves of the calls that wait and of the instances that rest.
use Rattle.std.proofs.Common.{◌≡◌, ◌≢◌, ℕ, ◌^◌, ◌<◌, ◌≤◌, Bool, false, ◌||◌, cond, List, [], ◌∷◌, map, All, inl, inr, refl, sym, ◌∙◌, ap, subst, arith, ne_eqb}
use Rattle.std.proofs.lemmas.List.Elements.{All-head, All-tail}
use Rattle.module_code.specs.declared.instr.Instr.{Instr}
use Rattle.module_code.specs.Program.{Program}
use Rattle.run_model.specs.declared.bucket.NamedBucket.{NamedBucket}
use Rattle.run_model.specs.declared.bucket.PoolVar.{PoolVar}
use Rattle.run_model.specs.declared.bucket.PoolVar.TheVariants as poolvar
use Rattle.run_model.specs.Chains.{Frame, Connection, Common, Linked, configuration, touched_bucket, touched_var, touched_instance, touched_frame, put_back, module_at, IsChain}
use Rattle.run_model.specs.Pools.{is_in}
use Rattle.run_model.specs.State.{Configuration}
use Rattle.model_laws.specs.ChainSound.{ChainSound, IsNested}
use Rattle.model_laws.specs.OpenRuns.{Waits, none_lasts}
use Rattle.model_laws.proofs.chains.PutBack.{IsTop}
use Rattle.model_laws.proofs.seen.Reach.{ReachedAlone}
use Rattle.model_laws.proofs.seen.Seen.{names_in, IsNamedIn, AllWaitSeen, SeenRest, resting, rest_phase, rest_alone}
use Rattle.model_laws.proofs.seen.Touched.{settle_touched, touched_null}

pub names_touched : (bucket : NamedBucket → NamedBucket) (fs : List Frame) → names_in (map (touched_frame bucket) fs) ≡ names_in fs
names_touched bucket [] = refl
names_touched bucket (f ∷ fs) = ap (λ (ns : List ℕ). f.call.name ∷ ns) (names_touched bucket fs)

pub not_called : (n : ℕ) (fs : List Frame) → All (λ w. w.call.name ≢ n) fs → is_in n (names_in fs) ≡ false
not_called n [] h = refl
not_called n (f ∷ fs) h =
    ap (λ (b : Bool). b || is_in n (names_in fs)) (ne_eqb f.call.name n (All-head (λ (w : Frame). w.call.name ≢ n) f fs h)) ∙ not_called n fs (All-tail (λ (w : Frame). w.call.name ≢ n) f fs h)

-- one of the frames that wait names it
pub naming : (c : Connection) (top n : ℕ) (u : Frame) (fs : List Frame) → u.of ≤ top → IsNested u fs → IsNamedIn c fs n → (v : Frame) × (v.of ≢ top) × ((q : ℕ) × ((c.instances v.of).pools q ≡ poolvar.Made n))
unfolding IsNested IsNamedIn
naming c top n u [] le nested e = absurd e
naming c top n u (w ∷ fs) le nested (inl e) = (w, λ same. absurd (omega (arith, same, le, nested.0)), e)
naming c top n u (w ∷ fs) le nested (inr e) = naming c top n w fs (omega (arith, le, nested.0)) nested.1 e

module _ (chain : List Program) (g : Common) (c : Connection) (f : Frame) (i : Instr) (s : Configuration) (chained : IsChain chain) (sound : ChainSound chain g c) (reached : ℕ → Bool)
    (t : IsTop reached chain g c i f s) (top rest : List Frame) (next : g.next ≤ s.shared.next) (limit : s.shared.next < 2 ^ 64) where
  abbrev after : Linked
  after = put_back i f s top rest (g, c)

  abbrev bucket : NamedBucket → NamedBucket
  bucket = touched_bucket (configuration g c f) i

  pools_stay : (k : ℕ) → k ≢ f.of → (after.1.instances k).pools ≡ (c.instances k).pools
  unfolding put_back
  pools_stay k ne = ap (λ (b : Bool). (cond b s.instance (touched_instance (touched_var (configuration g c f) i) (c.instances k))).pools) (ne_eqb k f.of ne)

  pub still_named : (n : ℕ) (u : Frame) (fs : List Frame) → u.of ≤ f.of → IsNested u fs → IsNamedIn c fs n → IsNamedIn after.1 (map (touched_frame bucket) fs) n
  unfolding IsNested IsNamedIn
  still_named n u [] le nested e = absurd e
  still_named n u (w ∷ fs) le nested (inl e) =
      inl (e.0, ap (λ (pools : ℕ → PoolVar). pools e.0) (pools_stay w.of (λ same. absurd (omega (arith, same, le, nested.0)))) ∙ e.1)
  still_named n u (w ∷ fs) le nested (inr e) = inr (still_named n w fs (omega (arith, le, nested.0)) nested.1 e)

  pub waits_left : (u : Frame) (fs : List Frame) → u.of ≤ f.of → IsNested u fs → All (λ w. w.call.name ≢ f.call.name) fs → AllWaitSeen chain g c fs
      → AllWaitSeen chain after.0 after.1 (map (touched_frame bucket) fs)
  unfolding IsNested AllWaitSeen
  waits_left u [] le nested named h = tt
  waits_left u (w ∷ fs) le nested named h =
      let differ : w.of ≢ f.of = λ same. absurd (omega (arith, same, le, nested.0)) in
      let low : w.of ≤ f.of = omega (arith, le, nested.0) in (
        record {
          pools = h.0.pools;
          below = λ n e. still_named n w fs low nested.1 (h.0.below n e);
          reached = subst (λ (ns : List ℕ). ReachedAlone (module_at chain w.of) (record { phase = Waits; lasting = record { calls = w.call.name ∷ ns; pools = h.0.pools }; now = configuration after.0 after.1 (touched_frame bucket w) }))
              (sym (names_touched bucket fs))
              (settle_touched chain g c f i s chained sound reached t w differ (record { calls = names_in (w ∷ fs); pools = h.0.pools }) (not_called f.call.name (w ∷ fs) named)
              (λ n e. naming c f.of n w fs low nested.1 (h.0.below n e)) top rest next limit (module_at chain w.of) Waits tt h.0.reached);
        },
        waits_left w fs low nested.1 (All-tail (λ (v : Frame). v.call.name ≢ f.call.name) w fs named) h.1,
      )

  pub rest_left : (k : ℕ) → k ≢ f.of → SeenRest chain g c k → SeenRest chain after.0 after.1 k
  unfolding put_back
  rest_left k ne h = record {
    pc = h.pc;
    vacant = ap (λ (b : Bool). (cond b s.instance (touched_instance (touched_var (configuration g c f) i) (c.instances k))).brigades 8) (ne_eqb k f.of ne)
        ∙ (ap (touched_var (configuration g c f) i) h.vacant ∙ touched_null (configuration g c f) i);
    reached = settle_touched chain g c f i s chained sound reached t (resting k h.pc) ne none_lasts refl (λ n e. absurd (cc)) top rest next limit (module_at chain k) (rest_phase k c.queue) (rest_alone k c.queue) h.reached;
  }
