-- What the calls leave that change neither the pools that brigades are on nor references; and files that stay open.
use Rattle.std.proofs.Common.{◌≡◌, ◌≢◌, ◌⊎◌, ◌==◌, ℕ, ◌+◌, ◌<◌, Bool, true, false, not, cond, Option, None, Some, is_some, List, [], ◌∷◌, refl, sym, ap, ◌∙◌, arith, ne_eqb, eq-eqb, inl, inr}
use Rattle.std.specs.Prelude.{count_by}
use Rattle.std.specs.Option.{option_map}
use Rattle.std.proofs.lemmas.Bool.{cases_eq, cases_lt}
use Rattle.bucket_kinds.specs.Device.{Device, is_there}
use Rattle.bucket_ring.specs.Kept.{once_in}
use Rattle.bucket_ring.specs.Lists.{upd, on}
use Rattle.bucket_ring.specs.declared.rings.Rings.{Ghosts}
use Rattle.run_model.specs.declared.payload.Payload.{Payload}
use Rattle.run_model.specs.Payloads.{is_brigade}
use Rattle.run_model.specs.Pools.{Pools, is_empty, is_live}
use Rattle.run_model.specs.Holding.{times_held}
use Rattle.run_model.specs.RunOrder.{IsPoolMap}
use Rattle.bucket_kinds.specs.declared.stored.Stored.{Stored}
use Rattle.brigade_ops.proofs.Counts.{held_count}
use Rattle.brigade_ops.specs.declared.store.Brigades.{Brigades}
use Rattle.brigade_ops.specs.House.{IsHouse, AreOpen}
use Rattle.bucket_store.specs.Items.{Items}
use Rattle.brigade_ops.specs.Store.{lists, pool_of, references}
use Rattle.brigade_ops.proofs.Housed.{house_stays}

-- A brigade that changes stays there.
pub still_on : (b : ℕ) (change : Items → Items) (L M : ℕ → Option Items) → ((n : ℕ) → M n ≡ on b change L n) → (n : ℕ) → is_some (M n) ≡ is_some (L n)
unfolding upd
still_on b change L M changed n = ap is_some (changed n) ∙ elim (cases_eq n b) [
  | inl is ↦ rw (eq-eqb n b is) (mapped (L b) ∙ ap (λ (k : ℕ). is_some (L k)) (sym is))
  | inr ne ↦ rw (ne_eqb n b ne) refl
] where
  mapped : (o : Option Items) → is_some (option_map change o) ≡ is_some o
  mapped None = refl
  mapped (Some xs) = refl

module _ {R : Type 0} {g : Ghosts R Stored} where
  -- a brigade that is on a pool is on one that is live
  pub house_live : (store : Brigades R g) (ps : Pools Payload) → IsPoolMap ps → IsHouse store ps → (n p : ℕ) → pool_of store n ≡ Some p → is_live ps p ≡ true
  unfolding is_live
  house_live store ps formed house n p is = by_path (ps.path p) refl where
    one : times_held ps n p ≡ 1
    one = house.held n p ∙ (ap (once_in p) is ∙ ap (λ (b : Bool). cond b 1 0) (eq-eqb p p refl))

    by_path : (path : List ℕ) → ps.path p ≡ path → not (is_empty path) ≡ true
    by_path [] at = absurd (let none : times_held ps n p ≡ 0 = ap (held_count (is_brigade n)) (formed.bare p at) in omega (arith, one))
    by_path (m ∷ above) at = refl

  -- Such a call
  module _ (old new : Brigades R g) (ps : Pools Payload) (pools : pool_of new ≡ pool_of old) (refs : references new ≡ references old) (house : IsHouse old ps) where
    over : ((n p : ℕ) → pool_of old n ≡ Some p → is_some (lists old n) ≡ true → is_some (lists new n) ≡ true) → IsHouse new ps
    over still =
        house_stays (lists old) (pool_of old) (references old) ps house (lists new) (pool_of new) (references new) still (λ n. ap (λ (f : ℕ → Option ℕ). f n) pools) (λ f. ap (λ (r : ℕ → ℕ). r f) refs)

    -- that leaves each brigade there,
    pub house_still : ((n : ℕ) → is_some (lists new n) ≡ is_some (lists old n)) → IsHouse new ps
    house_still still = over (λ n p is there. still n ∙ there)

    -- makes one on no pool,
    pub house_loose : (b : ℕ) (xs : Items) → ((n : ℕ) → lists new n ≡ upd (lists old) b (Some xs) n) → IsHouse new ps
    unfolding upd
    house_loose b xs made = over (λ n p is there. other n there (cases_eq n b)) where
      other : (n : ℕ) → is_some (lists old n) ≡ true → (n ≡ b) ⊎ (n ≢ b) → is_some (lists new n) ≡ true
      other n there (inl same) = (let l : lists new n ≡ Some xs = made n ∙ rw (eq-eqb n b same) refl in ap is_some l)
      other n there (inr ne) = (let l : lists new n ≡ lists old n = made n ∙ rw (ne_eqb n b ne) refl in ap is_some l ∙ there)

    -- makes two of them,
    pub house_paired : (a b : ℕ) (xs ys : Items) → ((n : ℕ) → lists new n ≡ upd (upd (lists old) a (Some xs)) b (Some ys) n) → IsHouse new ps
    unfolding upd
    house_paired a b xs ys made = over (λ n p is there. ap is_some (made n) ∙ either (n == b) (n == a) (lists old n) there) where
      either : (s t : Bool) (o : Option Items) → is_some o ≡ true → is_some (cond s (Some ys) (cond t (Some xs) o)) ≡ true
      either true t o there = refl
      either false true o there = refl
      either false false o there = there

    -- or ends one that is on no pool.
    pub house_ended : (b : ℕ) → pool_of old b ≡ None → ((n : ℕ) → lists new n ≡ upd (lists old) b None n) → IsHouse new ps
    unfolding upd
    house_ended b loose ended = over (λ n p is there. other n p is there (cases_eq n b)) where
      other : (n p : ℕ) → pool_of old n ≡ Some p → is_some (lists old n) ≡ true → (n ≡ b) ⊎ (n ≢ b) → is_some (lists new n) ≡ true
      other n p is there (inl same) = absurd (let both : Some p ≡ None = sym is ∙ (ap (pool_of old) same ∙ loose) in cc)
      other n p is there (inr ne) = (let l : lists new n ≡ lists old n = ended n ∙ rw (ne_eqb n b ne) refl in ap is_some l ∙ there)

-- Files that are referred to stay open where no file was closed,
pub open_stays : (counts now : ℕ → ℕ) (d e : Device) → ((f : ℕ) → now f ≡ counts f) → ((f : ℕ) → is_there (d.numbered f) ≡ true → is_there (e.numbered f) ≡ true) → AreOpen counts d → AreOpen now e
open_stays counts now d e same still opened f some = still f (opened f (omega (arith, same f)))

-- where there is one reference more, to a file that is open,
pub open_one : (counts now : ℕ → ℕ) (file : ℕ) (d : Device) → ((f : ℕ) → now f ≡ cond (f == file) (counts f + 1) (counts f)) → is_there (d.numbered file) ≡ true → AreOpen counts d → AreOpen now d
open_one counts now file d counted there opened f some = elim (cases_eq f file) [
  | inl same ↦ ap (λ (k : ℕ). is_there (d.numbered k)) same ∙ there
  | inr ne ↦ (let same : now f ≡ counts f = counted f ∙ rw (ne_eqb f file ne) refl in opened f (omega arith))
]

-- and where there are so many more.
pub open_more : (counts now more : ℕ → ℕ) (d : Device) → ((f : ℕ) → now f ≡ counts f + more f) → ((f : ℕ) → 0 < more f → is_there (d.numbered f) ≡ true) → AreOpen counts d → AreOpen now d
open_more counts now more d sum there opened f some = elim (cases_lt 0 (more f)) [
  | inl lt ↦ there f lt
  | inr none ↦ opened f (omega (arith, sum f))
]
