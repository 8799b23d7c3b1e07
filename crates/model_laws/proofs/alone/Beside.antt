-- Other filters go on, and other connections: what the instance sees stays sound.
use Rattle.std.proofs.Common.{◌≡◌, ◌⊎◌, ℕ, zero, suc, ◌^◌, ◌<◌, ◌≤◌, Bool, true, false, ◌||◌, ◌==◌, List, ◌∷◌, map, Option, Some, None, inl, inr, refl, sym, ◌∙◌, ap, subst, arith, eq-eqb}
use Rattle.std.proofs.lemmas.Option.{same_Some}
use Rattle.std.proofs.lemmas.Bool.{cases_eq, cases_lt, or_left, or_right}
use Rattle.std.proofs.lemmas.List.Elements.{All-map}
use Rattle.module_code.specs.declared.instr.PoolRef.{PoolRef}
use Rattle.module_code.specs.declared.instr.PoolRef.TheVariants as pool
use Rattle.module_code.specs.Program.{Program, pool_of_brigade}
use Rattle.run_model.specs.declared.bucket.Brigade.{Brigade}
use Rattle.run_model.specs.declared.bucket.BrigadeVar.{BrigadeVar}
use Rattle.run_model.specs.declared.bucket.BrigadeVar.TheVariants as var
use Rattle.run_model.specs.declared.bucket.Home.{Home}
use Rattle.run_model.specs.declared.bucket.Home.TheVariants as home
use Rattle.run_model.specs.declared.bucket.Kind.{Kind}
use Rattle.run_model.specs.declared.bucket.Kind.TheVariants as kind
use Rattle.run_model.specs.declared.bucket.NamedBucket.{NamedBucket}
use Rattle.run_model.specs.declared.bucket.PoolVar.TheVariants as poolvar
use Rattle.run_model.specs.Cutting.{LivesAs, form_of, form_of_kind}
use Rattle.run_model.specs.Faults.{is_live_named}
use Rattle.run_model.specs.Files.{Files}
use Rattle.run_model.specs.Indexed.{any_below}
use Rattle.run_model.specs.Pools.{is_live, is_in, is_under}
use Rattle.run_model.specs.Sound.{brigade_pool, Sound}
use Rattle.run_model.specs.State.{Configuration, Shared, Out, named_at, name_in, is_named, is_own_at, is_own, pool_named, items_of}
use Rattle.run_model.proofs.Names.{count_map, Fewer, fewer_same}
use Rattle.model_laws.specs.AsDeclared.{AsDeclared}
use Rattle.model_laws.specs.OpenRuns.{Lasting, lasts, MayTurn, HomeMayEnd, Becomes, changed_var, gone_on, LeaveShared, gone_elsewhere, IsOthers}
use Rattle.model_laws.proofs.AsDeclared.{same_live, named_same, kept, same_vars}
use Rattle.model_laws.proofs.NamesStay.{names_stay, keeps_slots}
use Rattle.model_laws.proofs.StepBuckets.{IsProper, ProperList, none_proper, keeps_buckets, same_buckets}
use Rattle.model_laws.proofs.chains.EventPools.{rising_formed}

-- What the instance names is one of its own.

any_at : (n k : ℕ) (f : ℕ → Bool) → k < n → f k ≡ true → any_below n f ≡ true
unfolding any_below
any_at zero k f lt h = absurd (omega arith)
any_at (suc n) k f lt h = elim (cases_eq k n) [
  | inl same ↦ or_left (f n) (any_below n f) (subst (λ (m : ℕ). f m ≡ true) same h)
  | inr off ↦ or_right (f n) (any_below n f) (any_at n k f (omega (arith, off)) h)
]

null_made : (n : ℕ) → name_in poolvar.Null ≡ Some n → ⊥
null_made n e = cc

pub named_own : (p : Program) (r : Configuration) → AsDeclared p r → (k : PoolRef) (n : ℕ) → pool_named r k ≡ Some n → is_own r n ≡ true
unfolding named_at is_own_at
named_own p r d pool.Conn n e =
    or_left (any_below 8 (λ q. is_named (name_in (r.instance.pools q)) n) || (n == r.shared.conn)) (is_named r.shared.req n)
    (or_right (any_below 8 (λ q. is_named (name_in (r.instance.pools q)) n)) (n == r.shared.conn) (eq-eqb n r.shared.conn (same_Some n r.shared.conn (sym e))))
named_own p r d pool.Req n e =
    or_right (any_below 8 (λ q. is_named (name_in (r.instance.pools q)) n) || (n == r.shared.conn)) (is_named r.shared.req n) (ap (λ (o : Option ℕ). is_named o n) e ∙ eq-eqb n n refl)
named_own p r d (pool.Own q) n e = elim (cases_lt q 8) [
  | inl lt ↦
      or_left (any_below 8 (λ j. is_named (name_in (r.instance.pools j)) n) || (n == r.shared.conn)) (is_named r.shared.req n)
      (or_left (any_below 8 (λ j. is_named (name_in (r.instance.pools j)) n)) (n == r.shared.conn)
      (any_at 8 q (λ j. is_named (name_in (r.instance.pools j)) n) lt (ap (λ (o : Option ℕ). is_named o n) e ∙ eq-eqb n n refl)))
  | inr le ↦ absurd (null_made n (ap name_in (sym (d.slots q le)) ∙ e))
]

-- Buckets become others.

ends_too : (k : Kind) (h x : Home) → x ≡ home.Ended → (h ≡ home.Free → ⊥) → LivesAs k h → LivesAs k x
ends_too kind.Transient h x is ne e = subst (LivesAs kind.Transient) (sym is) tt
ends_too kind.File h x is ne e = subst (LivesAs kind.File) (sym is) tt
ends_too k home.Free x is ne e = absurd (ne refl)
ends_too k h x is ne e = absurd e

free_lasts : (l : Lasting) (r : Configuration) (h : Home) → lasts l r h ≡ false → h ≡ home.Free → ⊥
free_lasts l r h off is = (let both : true ≡ false = sym (ap (lasts l r) is) ∙ off in cc)

home_becomes : (l : Lasting) (r : Configuration) (k : Kind) (h x : Home) → HomeMayEnd l r h x → LivesAs k h → LivesAs k x
home_becomes l r k h x (inl same) e = subst (LivesAs k) (sym same) e
home_becomes l r k h x (inr ended) e = ends_too k h x ended.1 (free_lasts l r h ended.0) e

turns_same : (r : Configuration) (k m : Kind) → MayTurn r k m → (m ≡ k) ⊎ ((q : ℕ) × (k ≡ kind.Pool q) × (m ≡ kind.Heap))
turns_same r (kind.Pool n) m (inl same) = inl same
turns_same r (kind.Pool n) m (inr heap) = inr (n, refl, heap.1)
turns_same r kind.Heap m e = inl e
turns_same r kind.Transient m e = inl e
turns_same r kind.Immortal m e = inl e
turns_same r kind.File m e = inl e
turns_same r kind.Flush m e = inl e
turns_same r kind.Eos m e = inl e

-- whatever is so of every kind, and of HEAP where it is of a POOL bucket, stays so
pub turns_keeps : (P : Kind → Type 0) (r : Configuration) (k m : Kind) → ((n : ℕ) → P (kind.Pool n) → P kind.Heap) → MayTurn r k m → P k → P m
turns_keeps P r k m heap turns h = elim (turns_same r k m turns) [
  | inl same ↦ subst P (sym same) h
  | inr went ↦ subst P (sym went.2) (heap went.0 (subst P went.1 h))
]

becomes_proper : (l : Lasting) (r : Configuration) (x y : NamedBucket) → Becomes l r x y → IsProper x → IsProper y
becomes_proper l r x y b e = record {
  holds = turns_keeps (λ (k : Kind). form_of y.bucket.content ≡ form_of_kind k) r x.bucket.kind y.bucket.kind (λ n h. h) b.kind (ap form_of b.content ∙ e.holds);
  lives = home_becomes l r y.bucket.kind x.bucket.home y.bucket.home b.home (turns_keeps (λ (k : Kind). LivesAs k x.bucket.home) r x.bucket.kind y.bucket.kind (λ n h. h) b.kind e.lives);
}

module _ (p : Program) (l : Lasting) (r : Configuration) (change : NamedBucket → NamedBucket) (becomes : (x : NamedBucket) → Becomes l r x (change x)) (shared : Shared)
    (left : LeaveShared l r shared) (out : Out) (s : Sound r) (d : AsDeclared p r) where
  abbrev new : Configuration
  new = gone_on change shared out r

  changed_proper : (xs : List NamedBucket) → ProperList xs → ProperList (map change xs)
  changed_proper xs h = All-map IsProper change xs (λ k e lt. becomes_proper l r _ _ (becomes _) (h k e lt))

  var_proper : (v : BrigadeVar) → ProperList (items_of v) → ProperList (items_of (changed_var change v))
  var_proper var.Null h = none_proper
  var_proper var.Gone h = none_proper
  var_proper (var.Live v) h = changed_proper v.items h

  fewer : (v : BrigadeVar) → Fewer v (changed_var change v)
  fewer var.Null = fewer_same var.Null
  fewer var.Gone = fewer_same var.Gone
  fewer (var.Live v) = record {
    carried = record { name = λ n h. h; null = λ h. absurd (cc) };
    items = λ n. rw (count_map n change (λ b. (becomes b).name) v.items) (omega arith);
  }

  -- Pools.

  pub same_named : (k : PoolRef) → pool_named new k ≡ pool_named r k
  same_named k = named_same r new refl left.conn left.req k

  pub stays : (k : PoolRef) (n : ℕ) → pool_named r k ≡ Some n → shared.pools.path n ≡ r.shared.pools.path n
  stays k n e = left.stay n (or_left (is_own r n) (is_in n l.pools) (named_own p r d k n e))

  conn_stays : shared.pools.path r.shared.conn ≡ r.shared.pools.path r.shared.conn
  unfolding named_at
  conn_stays = stays pool.Conn r.shared.conn refl

  own_stays : (q n : ℕ) → r.instance.pools q ≡ poolvar.Made n → shared.pools.path n ≡ r.shared.pools.path n
  unfolding named_at
  own_stays q n e = stays (pool.Own q) n (ap name_in e)

  req_stays : (n : ℕ) → r.shared.req ≡ Some n → shared.pools.path n ≡ r.shared.pools.path n
  unfolding named_at
  req_stays n e = stays pool.Req n e

  -- what a brigade lies on
  on_stays : (b n : ℕ) → brigade_pool (r.instance.brigades b) ≡ Some n → shared.pools.path n ≡ r.shared.pools.path n
  on_stays b n e = by_var (r.instance.brigades b) refl e where
    none_some : None ≡ Some n → ⊥
    none_some h = cc

    by_var : (v : BrigadeVar) → r.instance.brigades b ≡ v → brigade_pool v ≡ Some n → shared.pools.path n ≡ r.shared.pools.path n
    by_var var.Null is on = absurd (none_some on)
    by_var var.Gone is on = absurd (none_some on)
    by_var (var.Live v) is on = elim (cases_eq b 8) [
      | inl eight ↦ absurd (none_some (sym (d.incoming v (subst (λ (k : ℕ). r.instance.brigades k ≡ var.Live v) eight is)) ∙ on))
      | inr own ↦ stays (pool_of_brigade p b) n (sym (d.brigades b v own is).0 ∙ on)
    ]

  live_there : (n : ℕ) → shared.pools.path n ≡ r.shared.pools.path n → is_live r.shared.pools n ≡ true → is_live shared.pools n ≡ true
  live_there n same live = same_live r.shared.pools shared.pools n same ∙ live

  lies_as : (v : BrigadeVar) (n : ℕ) → brigade_pool (changed_var change v) ≡ Some n → brigade_pool v ≡ Some n
  lies_as var.Null n e = e
  lies_as var.Gone n e = e
  lies_as (var.Live v) n e = e

  pub gone_on_sound : Sound new
  gone_on_sound = record {
    names = names_stay r new
        (keeps_slots r new (λ n. rw (count_map n change (λ b. (becomes b).name) r.call.loose) (omega arith)) (λ b. fewer (r.instance.brigades b)) left.rises.0 left.limits.0) s.names;
    buckets = keeps_buckets r new (λ b. var_proper (r.instance.brigades b)) (changed_proper r.call.loose) s.buckets;
    pools = record {
      limit = left.limits.1;
      formed = left.pools;
      conn = subst (λ (n : ℕ). is_live shared.pools n ≡ true) (sym left.conn) (live_there r.shared.conn conn_stays s.pools.conn);
      req = λ n e.
          let was : r.shared.req ≡ Some n = sym left.req ∙ e in
          let old = s.pools.req n was in
          (req_stays n was ∙ (old.0 ∙ (ap (λ (path : List ℕ). n ∷ path) (sym conn_stays) ∙ ap (λ (m : ℕ). n ∷ shared.pools.path m) (sym left.conn))), subst (λ (m : ℕ). m < n) (sym left.conn) old.1);
      own = λ q n e.
          let old = s.pools.own q n e in
          let up = left.rises.1 in
          (subst (λ (m : ℕ). m < n) (sym left.conn) old.0, omega (arith, old.1, up), λ is. old.2 (sym left.req ∙ is));
      brigades = λ b n e. (let was = lies_as (r.instance.brigades b) n e in live_there n (on_stays b n was) (s.pools.brigades b n was));
    };
  }

  lies_declared : (b : ℕ) (v : BrigadeVar) → r.instance.brigades b ≡ v → (w : Brigade) → changed_var change v ≡ var.Live w → (u : Brigade) × (r.instance.brigades b ≡ var.Live u) × (w.on ≡ u.on)
  lies_declared b var.Null is w e = absurd (cc)
  lies_declared b var.Gone is w e = absurd (cc)
  lies_declared b (var.Live v) is w e = (let same : record v { items = map change v.items } ≡ w = live_is _ w e in (v, is, sym (ap (λ (x : Brigade). x.on) same))) where
    live_is : (x y : Brigade) → var.Live x ≡ var.Live y → x ≡ y
    live_is x y h = cc

  on_live : (o : Option ℕ) (b : ℕ) → ((n : ℕ) → o ≡ Some n → brigade_pool (r.instance.brigades b) ≡ Some n) → is_live_named r.shared.pools o ≡ true → is_live_named shared.pools o ≡ true
  on_live None b at live = live
  on_live (Some n) b at live = live_there n (on_stays b n (at n refl)) live

  pub gone_on_declared : AsDeclared p new
  gone_on_declared = record {
    pools = λ q n e live.
        let old = d.pools q n e (sym (same_live r.shared.pools shared.pools n (own_stays q n e)) ∙ live) in
        let parent = stays _ old.0 old.1 in
        (old.0, same_named _ ∙ old.1, live_there old.0 parent old.2, own_stays q n e ∙ (old.3 ∙ ap (λ (path : List ℕ). n ∷ path) (sym parent)));
    apart = d.apart;
    slots = d.slots;
    brigades = λ b w off e.
        let was = lies_declared b (r.instance.brigades b) refl w e in
        let old = d.brigades b was.0 off was.1 in (
          was.2 ∙ (old.0 ∙ sym (same_named (pool_of_brigade p b))),
          on_live w.on b (λ n h. ap brigade_pool was.1 ∙ (sym was.2 ∙ h)) (subst (λ (o : Option ℕ). is_live_named r.shared.pools o ≡ true) (sym was.2) old.1),
        );
    incoming = λ w e. (let was = lies_declared 8 (r.instance.brigades 8) refl w e in was.2 ∙ d.incoming was.0 was.1);
  }

  -- pools of others that last
  pub gone_on_others : (n : ℕ) → is_in n l.pools ≡ true → IsOthers r n → IsOthers new n
  unfolding is_under
  gone_on_others m kept o =
      let same : shared.pools.path m ≡ r.shared.pools.path m = left.stay m (or_right (is_own r m) (is_in m l.pools) kept) in
      record {
        live = live_there m same o.live;
        above = λ k n e. (let was = sym (same_named k) ∙ e in ap (is_in m) (stays k n was) ∙ o.above k n was);
        under = λ q n e. ap (is_in n) same ∙ o.under q n e;
      }

-- Other connections go on.

module _ (r : Configuration) (next pools : ℕ) (files : Files) (out : Out) (rises : (r.shared.next ≤ next) × (r.shared.pools.next ≤ pools)) (limits : (next < 2 ^ 64) × (pools < 2 ^ 64)) where
  abbrev later : Configuration
  later = gone_elsewhere next pools files out r

  pub elsewhere_sound : Sound r → Sound later
  unfolding is_live
  elsewhere_sound s = record {
    names = names_stay r later (keeps_slots r later (λ n. omega arith) (λ b. fewer_same (r.instance.brigades b)) rises.0 limits.0) s.names;
    buckets = same_buckets r later refl refl s.buckets;
    pools = record {
      limit = limits.1;
      formed = rising_formed r.shared.pools pools rises.1 s.pools.formed;
      conn = s.pools.conn;
      req = s.pools.req;
      own = λ q n e. (let old = s.pools.own q n e in (old.0, omega (arith, old.1, rises.1), old.2));
      brigades = s.pools.brigades;
    };
  }

  pub elsewhere_declared : (p : Program) → AsDeclared p r → AsDeclared p later
  elsewhere_declared p d = kept p r later refl refl refl refl (same_vars r) d

  pub elsewhere_others : (n : ℕ) → IsOthers r n → IsOthers later n
  unfolding is_live is_under
  elsewhere_others n o = record { live = o.live; above = λ k m e. o.above k m (sym (named_same r later refl refl refl k) ∙ e); under = o.under }
