-- The only call of a connection ended, and no other one runs, or a new one of one filter: what is true of the filters and calls.
use Rattle.std.proofs.Common.{◌+◌, ◌≡◌, ◌≢◌, ◌⊎◌, ℕ, ◌<◌, ◌≤◌, true, false, List, length, Option, Some, None, is_some, sym, ap, ◌∙◌, inl, inr, arith, []}
use Rattle.bucket_ring.specs.declared.names.BucketId.{BucketId}
use Rattle.module_code.specs.Program.{Program}
use Rattle.bucket_store.specs.Items.{Items}
use Rattle.module_run.specs.declared.conn.Conn.{Conn}
use Rattle.module_run.specs.declared.conn.Filter.{Filter}
use Rattle.module_run.specs.Conns.{filter_at, top_of, waiting}
use Rattle.interp_state.specs.Held.{HeldOver}
use Rattle.module_run.specs.Stacked.{FiltersApart, AreCalled, StackedOver, is_called, named_at}
use Rattle.module_run.proofs.EndedLast.{CameLone, EndsLast, HasNine, came}
use Rattle.module_run.proofs.Callers.{no_callers, alone_bottom, alone_names, alone_rises, none_in_callers}

-- no call has a name but this filter's, which is a new one
pub record HasLone (next turn : ℕ) (d : Conn) : Type 0 where
  pub none : waiting d ≡ 0
  pub top : top_of d ≡ d.first
  pub empty : d.waits.items ≡ []
  pub named : (k : ℕ) (e : Filter) → filter_at d k ≡ Some e → (e.call.name ≡ 0) ⊎ ((k ≡ turn) × (next ≤ e.call.name))
  pub runs : (k : ℕ) (e : Filter) → filter_at d k ≡ Some e → is_called d k ≡ true → 0 < e.call.name
  pub idle : (k : ℕ) (e : Filter) → filter_at d k ≡ Some e → is_called d k ≡ false → e.call.name ≡ 0

module _ (chain : List Program) (at : BucketId → Option ℕ) (L M : ℕ → Option Items) (pools : ℕ → Option ℕ) (next : ℕ) (c d : Conn)
    (st : StackedOver chain at L pools next c) (nine : HasNine c) (x : EndsLast L M next c d) (turn : ℕ) (one : HasLone next turn d) where
  from : (k : ℕ) (e : Filter) → filter_at d k ≡ Some e → (f : Filter) × CameLone c k f e
  from k e is = came chain at L M pools next c d st nine x k e is

  no_in : (k m : ℕ) (e : Filter) → filter_at d k ≡ Some e → named_at e 8 ≡ Some m → ⊥
  no_in k m e is named = (let n : None ≡ Some m = sym (from k e is).1.null ∙ named in cc)

  not_lent : (k b : ℕ) (e : Filter) → filter_at d k ≡ Some e → e.lent ≡ Some b → ⊥
  not_lent k b e is lent = (let n : None ≡ Some b = sym (from k e is).1.lent ∙ lent in cc)

  pub apart_lone : FiltersApart d
  apart_lone = record {
    own = λ i j a b m f e low high is_i is_j n_i n_j. st.apart.own i j a b m (from i f is_i).0 (from j e is_j).0 low high (from i f is_i).1.was (from j e is_j).1.was
        ((from i f is_i).1.names a m n_i) ((from j e is_j).1.names b m n_j);
    later = λ i j b m f e lt low is_i is_j n_i. absurd (no_in i m f is_i n_i);
    handed = λ i j a m f e lt is_i is_j n_i n_j. absurd (no_in j m e is_j n_j);
    loose = loose;
    calls = calls;
  } where
    loose : (i j b : ℕ) (f e : Filter) → filter_at d i ≡ Some f → filter_at d j ≡ Some e → named_at f b ≢ Some e.call.name
    loose i j b f e is_i is_j named = elim (one.named j e is_j) [
      | inl zero ↦ (let o = from i f is_i in let p = (st.held i o.0 o.1.was).real b 0 (o.1.names b 0 (named ∙ ap (λ (n : ℕ). Some n) zero)) in omega (arith, p))
      | inr new ↦ (let o = from i f is_i in let p = (st.held i o.0 o.1.was).named b e.call.name (o.1.names b e.call.name named) in let q = new.1 in omega (arith, p, q))
    ]

    calls : (i j : ℕ) (f e : Filter) → filter_at d i ≡ Some f → filter_at d j ≡ Some e → 0 < f.call.name → f.call.name ≡ e.call.name → i ≡ j
    calls i j f e is_i is_j pos same = elim (one.named i f is_i) [
      | inl zero ↦ absurd (omega (arith, zero, pos))
      | inr p ↦ elim (one.named j e is_j) [
        | inl zero ↦ absurd (omega (arith, zero, pos, same))
        | inr q ↦ p.0 ∙ sym q.0
      ]
    ]

  pub called_lone : AreCalled chain d
  called_lone = record {
    runs = one.runs;
    idle = one.idle;
    lent = λ k f is. ap is_some (from k f is).1.lent ∙ sym (none_in_callers d one.none k);
    passes = λ k b f is lent. absurd (not_lent k b f is lent);
    passed = λ k b f is lent. absurd (not_lent k b f is lent);
    inward = λ i k j b f e at next is later lent. absurd (not_lent k b f is lent);
    incoming = λ k f is over. (from k f is).1.null;
    waits = alone_names d one.none one.empty;
    rises = alone_rises d one.none;
    bottom = alone_bottom d one.none one.top;
    outer = λ e. no_callers d.callers.items one.none;
    quiet = λ quiet. one.none;
  }

  pub stacked_lone : (new_at : BucketId → Option ℕ) (new_pools : ℕ → Option ℕ) (new_next : ℕ) → length d.filters.items ≡ length chain + 1 → d.first < length chain + 1 → d.queue ≤ length chain
      → ((k : ℕ) (e : Filter) → filter_at d k ≡ Some e → HeldOver new_at M new_pools new_next e.instance e.call) → StackedOver chain new_at M new_pools new_next d
  stacked_lone new_at new_pools new_next many within queue held = record {
    many = many;
    within = (let e = one.top in omega (arith, e, within));
    queue = queue;
    held = held;
    apart = apart_lone;
    called = called_lone;
    brought = λ m f is named. absurd (no_in d.first m f is named);
    whole = λ out m f is named. absurd (no_in (top_of d) m f is named);
  }
