-- What the instruction of the call on top leaves to the other instances is what others may do.
use Rattle.std.proofs.Common.{◌≡◌, ◌≢◌, ℕ, ◌^◌, ◌<◌, ◌≤◌, Bool, true, false, ◌==◌, ◌||◌, cond, List, Option, Some, None, inl, inr, refl, sym, ◌∙◌, ap, arith, ne_eqb, eqb-true}
use Rattle.std.proofs.lemmas.Bool.{or_cases}
use Rattle.std.proofs.lemmas.Option.{same_Some}
use Rattle.std.proofs.Math.Path.{fun_ext}
use Rattle.module_code.specs.declared.instr.Instr.{Instr}
use Rattle.module_code.specs.declared.instr.Instr.TheVariants as instr
use Rattle.module_code.specs.declared.instr.PoolRef.{PoolRef}
use Rattle.module_code.specs.declared.instr.PoolRef.TheVariants as pool
use Rattle.module_code.specs.Program.{Program}
use Rattle.run_model.specs.declared.bucket.BrigadeVar.{BrigadeVar}
use Rattle.run_model.specs.declared.bucket.BrigadeVar.TheVariants as var
use Rattle.run_model.specs.declared.bucket.Home.{Home}
use Rattle.run_model.specs.declared.bucket.Home.TheVariants as home
use Rattle.run_model.specs.declared.bucket.Kind.{Kind}
use Rattle.run_model.specs.declared.bucket.Kind.TheVariants as kind
use Rattle.run_model.specs.declared.bucket.NamedBucket.{NamedBucket}
use Rattle.run_model.specs.declared.bucket.PoolVar.TheVariants as poolvar
use Rattle.run_model.specs.Buckets.{end_call, end_pools, to_heap}
use Rattle.run_model.specs.Chains.{Frame, Connection, Common, Linked, configuration, pools_of, is_under_named, cleared_by, touched_var, touched_bucket, touched_instance, touched_frame, put_back, IsChain}
use Rattle.run_model.specs.Pools.{is_in, is_under}
use Rattle.run_model.specs.State.{Configuration, Instance, is_own, named_at, pool_named}
use Rattle.model_laws.specs.ChainSound.{ChainSound}
use Rattle.model_laws.specs.OpenRuns.{Phase, Lasting, Others, Done, IsLeftAlone, MayTurn, HomeMayEnd, Becomes, LeaveShared, changed_var, lasts, IsMove}
use Rattle.model_laws.proofs.NamedPools.{own_named, conn_given, req_given}
use Rattle.model_laws.proofs.alone.KeptHomes.{own_has}
use Rattle.model_laws.proofs.chains.Apart.{own_is, under_no_other}
use Rattle.model_laws.proofs.chains.Modules.{module_at_proper}
use Rattle.model_laws.proofs.chains.OwnPools.{others_keep_brigades}
use Rattle.model_laws.proofs.chains.PutBack.{IsTop}
use Rattle.model_laws.proofs.seen.Reach.{ReachedAlone, go}
use Rattle.model_laws.proofs.seen.Settle.{becomes_same, same_turn, made_of_parts}

-- One bucket.

turn_cleared : (r : Configuration) (reached : ℕ → Bool) → ((n : ℕ) → reached n ≡ true → is_own r n ≡ false) → (k : Kind) → MayTurn r k (to_heap reached k)
turn_cleared r reached off kind.Heap = refl
turn_cleared r reached off kind.Transient = refl
turn_cleared r reached off kind.Immortal = refl
turn_cleared r reached off (kind.Pool n) = by_test (reached n) refl where
  by_test : (b : Bool) → reached n ≡ b → MayTurn r (kind.Pool n) (cond b kind.Heap (kind.Pool n))
  by_test true is = inr (off n is, refl)
  by_test false is = inl refl
turn_cleared r reached off kind.File = refl
turn_cleared r reached off kind.Flush = refl
turn_cleared r reached off kind.Eos = refl

end_cleared : (l : Lasting) (r : Configuration) (reached : ℕ → Bool) → ((n : ℕ) → reached n ≡ true → lasts l r (home.Pool n) ≡ false) → (h : Home) → HomeMayEnd l r h (end_pools reached h)
end_cleared l r reached off home.Free = inl refl
end_cleared l r reached off (home.Call n) = inl refl
end_cleared l r reached off (home.Pool n) = by_test (reached n) refl where
  by_test : (b : Bool) → reached n ≡ b → HomeMayEnd l r (home.Pool n) (cond b home.Ended (home.Pool n))
  by_test true is = inr (off n is, refl)
  by_test false is = inl refl
end_cleared l r reached off home.Ended = inl refl

end_returned : (l : Lasting) (r : Configuration) (call : ℕ) → is_in call l.calls ≡ false → (h : Home) → HomeMayEnd l r h (end_call call h)
end_returned l r call off home.Free = inl refl
end_returned l r call off (home.Call n) = by_test (n == call) refl where
  by_test : (b : Bool) → (n == call) ≡ b → HomeMayEnd l r (home.Call n) (cond b home.Ended (home.Call n))
  by_test true is = inr (ap (λ (m : ℕ). is_in m l.calls) (eqb-true n call is) ∙ off, refl)
  by_test false is = inl refl
end_returned l r call off (home.Pool n) = inl refl
end_returned l r call off home.Ended = inl refl

false_of : (b : Bool) → (b ≡ true → ⊥) → b ≡ false
false_of true h = absurd (h refl)
false_of false h = refl

pub touched_null : (r : Configuration) (i : Instr) → touched_var r i var.Null ≡ var.Null
touched_null r (instr.PClear q) = refl
touched_null r (instr.PDestroy q) = refl
touched_null r (instr.Ret s) = refl
touched_null r i = refl

touched_gone : (r : Configuration) (i : Instr) → touched_var r i var.Gone ≡ var.Gone
touched_gone r (instr.PClear q) = refl
touched_gone r (instr.PDestroy q) = refl
touched_gone r (instr.Ret s) = refl
touched_gone r i = refl

-- The call f executes i, which leaves s. w: a frame of another module.
module _ (chain : List Program) (g : Common) (c : Connection) (f : Frame) (i : Instr) (s : Configuration) (chained : IsChain chain) (sound : ChainSound chain g c) (reached : ℕ → Bool)
    (t : IsTop reached chain g c i f s) (w : Frame) (ne : w.of ≢ f.of) (l : Lasting) (calls : is_in f.call.name l.calls ≡ false)
    (named : (n : ℕ) → is_in n l.pools ≡ true → (v : Frame) × (v.of ≢ f.of) × ((q : ℕ) × ((c.instances v.of).pools q ≡ poolvar.Made n))) where
  abbrev seen : Configuration
  seen = configuration g c w

  abbrev top_seen : Configuration
  top_seen = configuration g c f

  differ : f.of ≢ w.of
  differ same = ne (sym same)

  -- what lasts for w is named by it or by one that waits
  named_by : (n : ℕ) → lasts l seen (home.Pool n) ≡ true → (v : Frame) × (v.of ≢ f.of) × ((k : PoolRef) × (pool_named (configuration g c v) k ≡ Some n))
  named_by n e = elim (or_cases (is_own seen n) (is_in n l.pools) e) [
    | inl own ↦ (let at = own_has seen n own in (w, ne, (at.0, at.1)))
    | inr lasting ↦ (let at = named n lasting in (at.0, at.1, (pool.Own at.2.0, own_is g c at.0 at.2.0 n at.2.1)))
  ]

  -- no clear of f reaches it
  uncleared : (q n : ℕ) → cleared_by top_seen q n ≡ true → lasts l seen (home.Pool n) ≡ false
  unfolding configuration
  uncleared q n under = false_of (lasts l seen (home.Pool n)) (λ kept. by_named (pool_named top_seen (pool.Own q)) refl under (named_by n kept)) where
    by_named : (o : Option ℕ) → pool_named top_seen (pool.Own q) ≡ o → is_under_named (pools_of g c) o n ≡ true
        → (v : Frame) × (v.of ≢ f.of) × ((k : PoolRef) × (pool_named (configuration g c v) k ≡ Some n)) → ⊥
    by_named None is under at = cc
    by_named (Some m) is under at =
        let off : is_under (pools_of g c) m n ≡ false =
        under_no_other chain g c (module_at_proper chain chained) sound.pools f at.0 q m (λ same. at.1 (sym same)) (own_named q m top_seen is) at.2.0 n at.2.1 in
        let both : true ≡ false = sym under ∙ off in cc

  not_own : (q n : ℕ) → cleared_by top_seen q n ≡ true → is_own seen n ≡ false
  not_own q n under = first_off (is_own seen n) (is_in n l.pools) (uncleared q n under) where
    first_off : (a b : Bool) → (a || b) ≡ false → a ≡ false
    first_off true b e = e
    first_off false b e = refl

  pub becomes : (x : NamedBucket) → Becomes l seen x (touched_bucket top_seen i x)
  unfolding configuration
  becomes x = by_instr i where
    returned : (h : Home) → HomeMayEnd l seen h (end_call top_seen.call.name h)
    returned h = end_returned l seen f.call.name calls h

    by_instr : (j : Instr) → Becomes l seen x (touched_bucket top_seen j x)
    by_instr (instr.PClear q) = record {
      name = refl;
      content = refl;
      kind = turn_cleared seen (cleared_by top_seen q) (not_own q) x.bucket.kind;
      home = end_cleared l seen (cleared_by top_seen q) (uncleared q) x.bucket.home;
    }
    by_instr (instr.PDestroy q) = record {
      name = refl;
      content = refl;
      kind = turn_cleared seen (cleared_by top_seen q) (not_own q) x.bucket.kind;
      home = end_cleared l seen (cleared_by top_seen q) (uncleared q) x.bucket.home;
    }
    by_instr (instr.Ret u) = record { name = refl; content = refl; kind = same_turn seen x.bucket.kind; home = returned x.bucket.home }
    by_instr j = becomes_same l seen x

  -- What is shared.

  named_given : (v : Frame) (k : PoolRef) (n : ℕ) → pool_named (configuration g c v) k ≡ Some n → n < g.pools
  unfolding configuration named_at
  named_given v pool.Conn n e = (let lt : c.conn < g.pools = conn_given (configuration g c v) (sound.pools.sound v) in let is : c.conn ≡ n = same_Some c.conn n e in omega (arith, lt, is))
  named_given v pool.Req n e = req_given (configuration g c v) n e (sound.pools.sound v)
  named_given v (pool.Own q) n e = ((sound.pools.sound v).own q n (own_named q n (configuration g c v) e)).1

  module _ (top rest : List Frame) (next : g.next ≤ s.shared.next) (limit : s.shared.next < 2 ^ 64) where
    abbrev pub after : Linked
    after = put_back i f s top rest (g, c)

    -- the frame as it is touched
    abbrev pub touched : Frame
    touched = touched_frame (touched_bucket top_seen i) w

    left : LeaveShared l seen (configuration after.0 after.1 touched).shared
    unfolding configuration put_back
    left = record {
      conn = refl;
      req = t.req;
      pools = t.sound.formed;
      stay = λ n kept. (let at = named_by n kept in t.paths n (named_given at.0 at.2.0 n at.2.1) (t.named at.0 at.1 at.2.0 n at.2.1));
      rises = (next, t.next);
      limits = (limit, t.sound.limit);
    }

    same_var : (v : BrigadeVar) (b : ℕ) → (c.instances w.of).brigades b ≡ v → touched_var top_seen i v ≡ changed_var (touched_bucket top_seen i) v
    same_var var.Null b at = touched_null top_seen i
    same_var var.Gone b at = touched_gone top_seen i
    same_var (var.Live v) b at = others_keep_brigades chain g c f i w.of b v chained sound ne at

    instance : (configuration after.0 after.1 touched).instance ≡ touched_instance (changed_var (touched_bucket top_seen i)) seen.instance
    unfolding configuration put_back
    instance =
        ap (λ (b : Bool). cond b s.instance (touched_instance (touched_var top_seen i) (c.instances w.of))) (ne_eqb w.of f.of ne)
        ∙ ap (λ (bs : ℕ → BrigadeVar). record (c.instances w.of) { brigades = bs }) (fun_ext (λ b. same_var ((c.instances w.of).brigades b) b refl))

    pub settle_touched : (p : Program) (phase : Phase) → IsLeftAlone phase → ReachedAlone p (record { phase = phase; lasting = l; now = seen })
        → ReachedAlone p (record { phase = phase; lasting = l; now = configuration after.0 after.1 touched })
    unfolding IsMove configuration put_back
    settle_touched p phase alone h = go p (record { phase = phase; lasting = l; now = seen }) (record { phase = phase; lasting = l; now = configuration after.0 after.1 touched }) Others Done h (
      refl,
      record {
        phase = alone;
        change = touched_bucket top_seen i;
        becomes = becomes;
        shared = (configuration after.0 after.1 touched).shared;
        left = left;
        out = after.1.out;
        is = ap (λ (x : Instance). record { phase = phase; lasting = l; now = made_of_parts (configuration after.0 after.1 touched) x touched.call touched.pc }) instance;
      },
    )
