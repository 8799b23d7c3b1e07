-- Calls that begin and passes that are answered, requests that begin and end: what the instance sees stays sound.
use Rattle.std.proofs.Common.{◌≡◌, ◌≢◌, ◌⊎◌, ℕ, ◌+◌, ◌^◌, ◌<◌, ◌≤◌, true, List, Some, None, inl, inr, refl, sym, ◌∙◌, ap, subst, arith}
use Rattle.std.proofs.lemmas.Option.{none-some, same_Some}
use Rattle.module_code.specs.Program.{Program}
use Rattle.run_model.specs.declared.bucket.Brigade.{Brigade}
use Rattle.run_model.specs.declared.bucket.BrigadeVar.{BrigadeVar}
use Rattle.run_model.specs.declared.bucket.BrigadeVar.TheVariants as var
use Rattle.run_model.specs.declared.bucket.NamedBucket.{NamedBucket}
use Rattle.run_model.specs.Clearing.{run_down}
use Rattle.run_model.specs.Indexed.{upd}
use Rattle.run_model.specs.Passing.{set_in, given_back}
use Rattle.run_model.specs.Pools.{is_live, is_under, destroyed}
use Rattle.run_model.specs.Sound.{sum_below, count_named, count, brigade_name, brigade_pool, SoundNames, Sound}
use Rattle.run_model.specs.State.{Configuration, items_of, set_brigade, with_pools}
use Rattle.run_model.specs.Steps.{with_items, pool_destroyed}
use Rattle.run_model.proofs.Formed.{path_live, destroyed_formed}
use Rattle.run_model.proofs.Names.{count_none, fewer_same, Carried, filled_carried, filled_items, at_each}
use Rattle.run_model.proofs.PoolMap.{destroyed_next, destroyed_apart, destroyed_under}
use Rattle.run_model.proofs.RunOrderLaws.{under_itself}
use Rattle.run_model.proofs.Sums.{sum_written}
use Rattle.run_model.proofs.Updates.{upd_either}
use Rattle.model_laws.specs.AsDeclared.{AsDeclared}
use Rattle.model_laws.specs.OpenRuns.{Come, called, request_begun, request_ended}
use Rattle.model_laws.proofs.AsDeclared.{kept, went, written_declared, same_vars, not_live}
use Rattle.model_laws.proofs.BrigadePools.{KeepsPool, same_on, filled_on}
use Rattle.model_laws.proofs.NamesStay.{names_stay, keeps_slots, went_names}
use Rattle.model_laws.proofs.PoolsKept.{keeps_pools, went_pools}
use Rattle.model_laws.proofs.EachItem.{filled_each}
use Rattle.model_laws.proofs.StepBuckets.{IsProper, ProperList, none_proper, same_buckets, destroyed_buckets}
use Rattle.model_laws.proofs.chains.EventPools.{begun_sound, begun_declared, over_named}

-- A call begins.

pub called_sound : (r : Configuration) (name next pc : ℕ) → r.shared.next ≤ next → next < 2 ^ 64 → Sound r → Sound (called name next pc r)
called_sound r name next pc rises limit s =
    let new : Configuration = called name next pc r in
    record {
      names = names_stay r new (keeps_slots r new (λ n. rw (count_none n) (omega arith)) (λ b. fewer_same (r.instance.brigades b)) rises limit) s.names;
      buckets = record { brigades = s.buckets.brigades; loose = none_proper };
      pools = keeps_pools r new refl refl refl refl s.pools.brigades s.pools;
    }

pub called_declared : (p : Program) (r : Configuration) (name next pc : ℕ) → AsDeclared p r → AsDeclared p (called name next pc r)
called_declared p r name next pc d = kept p r (called name next pc r) refl refl refl refl (same_vars r) d

-- Buckets come into one variable.

module _ (r : Configuration) (b next : ℕ) (v : BrigadeVar) (items : List NamedBucket) (come : Come r next items) (rises : r.shared.next ≤ next) (limit : next < 2 ^ 64)
    (holds : (n : ℕ) → count_named n (items_of v) ≤ count_named n items) (proper : ProperList (items_of v)) (null : 9 ≤ b → r.instance.brigades b ≡ var.Null → v ≡ var.Null)
    (name : (n : ℕ) → brigade_name v ≡ Some n → (n < next) × ((k : ℕ) → k ≢ b → brigade_name (r.instance.brigades k) ≡ Some n → ⊥)) (s : Sound r) where
  abbrev filled : Configuration
  filled = record r { instance = record r.instance { brigades = upd r.instance.brigades b v }; shared = record r.shared { next = next } }

  counted : (n : ℕ) → count filled n ≤ count r n + count_named n items
  counted n =
      let all : sum_below 9 (λ k. count_named n (items_of (upd r.instance.brigades b v k))) ≤ sum_below 9 (λ k. count_named n (items_of (r.instance.brigades k))) + count_named n (items_of v) =
      sum_written 9 b r.instance.brigades v (λ x. count_named n (items_of x)) in
      let few : count_named n (items_of v) ≤ count_named n items = holds n in
      omega arith

  named_so : (k n : ℕ) → brigade_name (upd r.instance.brigades b v k) ≡ Some n → ((k ≡ b) × (brigade_name v ≡ Some n)) ⊎ ((k ≢ b) × (brigade_name (r.instance.brigades k) ≡ Some n))
  named_so k n h = elim (upd_either r.instance.brigades b k v) [
    | inl e ↦ inl (e.0, sym (ap brigade_name e.1) ∙ h)
    | inr e ↦ inr (e.0, sym (ap brigade_name e.1) ∙ h)
  ]

  filled_names : SoundNames filled
  filled_names = record {
    once = λ n. (let more = counted n in let one : count r n + count_named n items ≤ 1 = come.once n in omega arith);
    fresh = λ n le. (let more = counted n in let none : count r n ≡ 0 = s.names.fresh n (omega arith) in let nothing : count_named n items ≡ 0 = come.given n le in omega arith);
    apart = λ k l n hk hl. elim (named_so k n hk) [
      | inl here ↦ elim (named_so l n hl) [ inl too ↦ here.0 ∙ sym too.0 | inr there ↦ absurd ((name n here.1).1 l there.0 there.1) ]
      | inr there ↦ elim (named_so l n hl) [ inl here ↦ absurd ((name n here.1).1 k there.0 there.1) | inr too ↦ s.names.apart k l n there.1 too.1 ]
    ];
    given = λ k n h. elim (named_so k n h) [ inl here ↦ (name n here.1).0 | inr there ↦ (let lt : n < r.shared.next = s.names.given k n there.1 in omega arith) ];
    limit = limit;
    slots = λ k le. elim (upd_either r.instance.brigades b k v) [
      | inl e ↦ e.1 ∙ null (omega (arith, e.0)) (subst (λ (j : ℕ). r.instance.brigades j ≡ var.Null) e.0 (s.names.slots k le))
      | inr e ↦ e.1 ∙ s.names.slots k le
    ];
  }

  pub filled_sound : ((n : ℕ) → brigade_pool v ≡ Some n → brigade_pool (r.instance.brigades b) ≡ Some n) → Sound filled
  filled_sound on = record {
    names = filled_names;
    buckets = record { brigades = λ k. proper_at k; loose = s.buckets.loose };
    pools = keeps_pools r filled refl refl refl refl (λ k n h. lies k n h) s.pools;
  } where
    proper_at : (k : ℕ) → ProperList (items_of (upd r.instance.brigades b v k))
    proper_at k = elim (upd_either r.instance.brigades b k v) [
      | inl e ↦ subst (λ (x : BrigadeVar). ProperList (items_of x)) (sym e.1) proper
      | inr e ↦ subst (λ (x : BrigadeVar). ProperList (items_of x)) (sym e.1) (s.buckets.brigades k)
    ]

    lies : (k n : ℕ) → brigade_pool (upd r.instance.brigades b v k) ≡ Some n → is_live r.shared.pools n ≡ true
    lies k n h = elim (upd_either r.instance.brigades b k v) [
      | inl e ↦ s.pools.brigades b n (on n (sym (ap brigade_pool e.1) ∙ h))
      | inr e ↦ s.pools.brigades k n (sym (ap brigade_pool e.1) ∙ h)
    ]

-- `main` is called.
pub main_sound : (r : Configuration) (name next pc : ℕ) (made : Brigade) → Come r next made.items → r.shared.next ≤ next → next < 2 ^ 64 → made.on ≡ None → made.name < next
    → ((b : ℕ) → brigade_name (r.instance.brigades b) ≡ Some made.name → ⊥) → Sound r → Sound (called name next pc (record r { instance = set_in (var.Live made) r.instance }))
main_sound r name next pc made come rises limit on given apart s =
    called_sound (filled r 8 next (var.Live made) made.items come rises limit (λ n. omega arith) come.kinds (λ le none. absurd (omega arith)) named s) name next pc (omega arith) limit
    (filled_sound r 8 next (var.Live made) made.items come rises limit (λ n. omega arith) come.kinds (λ le none. absurd (omega arith)) named s (λ n e. absurd (none-some n (sym on ∙ e)))) where
      named : (n : ℕ) → Some made.name ≡ Some n → (n < next) × ((k : ℕ) → k ≢ 8 → brigade_name (r.instance.brigades k) ≡ Some n → ⊥)
      named n e = (let is : made.name ≡ n = same_Some made.name n e in (omega (arith, is), λ k off h. apart k (h ∙ ap (λ (m : ℕ). Some m) (sym is))))

pub main_declared : (p : Program) (r : Configuration) (name next pc : ℕ) (made : Brigade) → made.on ≡ None → AsDeclared p r
    → AsDeclared p (called name next pc (record r { instance = set_in (var.Live made) r.instance }))
unfolding set_brigade
main_declared p r name next pc made on d = called_declared p (set_brigade 8 (var.Live made) r) name next pc (written_declared p 8 made r (λ off. absurd (off refl)) (λ eight. on) d)

-- A pass is answered.
pub given_sound : (r : Configuration) (b pc : ℕ) (items : List NamedBucket) → Come r r.shared.next items → Sound r → Sound (record r { instance = given_back b items r.instance; pc = pc })
given_sound r b pc items come s =
    moved (filled_sound r b r.shared.next (with_items items (r.instance.brigades b)) items come (omega arith) s.names.limit
    (λ n. filled_items n items (r.instance.brigades b)) (filled_each IsProper items (r.instance.brigades b) come.kinds) (λ le none. carried.null none) named s
    (λ n e. same_on_pool (r.instance.brigades b) n e)) where
      carried : Carried (r.instance.brigades b) (with_items items (r.instance.brigades b))
      carried = filled_carried items (r.instance.brigades b)

      named : (n : ℕ) → brigade_name (with_items items (r.instance.brigades b)) ≡ Some n → (n < r.shared.next) × ((k : ℕ) → k ≢ b → brigade_name (r.instance.brigades k) ≡ Some n → ⊥)
      named n e = (let was = carried.name n e in (s.names.given b n was, λ k off h. off (s.names.apart k b n h was)))

      same_on_pool : (v : BrigadeVar) (n : ℕ) → brigade_pool (with_items items v) ≡ Some n → brigade_pool v ≡ Some n
      same_on_pool var.Null n e = e
      same_on_pool var.Gone n e = e
      same_on_pool (var.Live v) n e = e

      moved : Sound (record r { instance = given_back b items r.instance }) → Sound (record r { instance = given_back b items r.instance; pc = pc })
      moved h = record {
        names = names_stay _ _ (keeps_slots (record r { instance = given_back b items r.instance }) _ (λ n. omega arith) (λ k. fewer_same _) (omega arith) s.names.limit) h.names;
        buckets = same_buckets _ _ refl refl h.buckets;
        pools = keeps_pools (record r { instance = given_back b items r.instance }) _ refl refl refl refl h.pools.brigades h.pools;
      }

pub given_declared : (p : Program) (r : Configuration) (b pc : ℕ) (items : List NamedBucket) → AsDeclared p r → AsDeclared p (record r { instance = given_back b items r.instance; pc = pc })
given_declared p r b pc items d =
    kept p r _ refl refl refl refl (at_each KeepsPool r.instance.brigades b (with_items items (r.instance.brigades b)) (filled_on items (r.instance.brigades b)) same_on) d

-- A request begins.

pub request_begun_sound : (r : Configuration) → r.shared.pools.next + 1 < 2 ^ 64 → Sound r → Sound (request_begun r)
request_begun_sound r limit s = record {
  names = names_stay r (request_begun r) (keeps_slots r (request_begun r) (λ n. omega arith) (λ b. fewer_same (r.instance.brigades b)) (omega arith) s.names.limit) s.names;
  buckets = same_buckets r (request_begun r) refl refl s.buckets;
  pools = begun_sound r limit s.pools;
}

pub request_begun_declared : (p : Program) (r : Configuration) → r.shared.req ≡ None → Sound r → AsDeclared p r → AsDeclared p (request_begun r)
request_begun_declared p r none s d = begun_declared p r none s.pools d

-- A request ends.

module _ (r : Configuration) (req : ℕ) (is : r.shared.req ≡ Some req) (s : Sound r) where
  pub request_ended_sound : Sound (request_ended req r)
  unfolding run_down with_pools
  request_ended_sound = record {
    names = names_stay r (request_ended req r) (went_names (is_under r.shared.pools req) r (request_ended req r) (λ b. refl) refl refl s.names.limit) s.names;
    buckets = same_buckets (pool_destroyed req r) (request_ended req r) refl refl (destroyed_buckets req r s.buckets);
    pools =
        went_pools req r (request_ended req r) (destroyed_next req r.shared.pools) (destroyed_formed req r.shared.pools s.pools.formed)
        (λ k apart. (destroyed_apart req r.shared.pools k apart).0) refl (λ m e. absurd (none-some m e)) refl (λ b. refl)
        (s.pools.req req is).1 s.pools;
  }

  pub request_ended_declared : (p : Program) → AsDeclared p r → AsDeclared p (request_ended req r)
  unfolding run_down with_pools
  request_ended_declared p d =
      went p req r (request_ended req r) s.pools.formed refl (λ k off. (destroyed_apart req r.shared.pools k off).0)
      (λ k under live. absurd (not_live (destroyed req r.shared.pools) k (destroyed_under req r.shared.pools k under).0 live))
      (over_named r (request_ended req r) req refl refl is
      (destroyed_under req r.shared.pools req (under_itself r.shared.pools s.pools.formed req (path_live r.shared.pools req req _ (s.pools.req req is).0))).0) (λ b. refl) d
