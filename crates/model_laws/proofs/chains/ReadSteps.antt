-- A bucket that was read stays what it is: no file's, and with a home that lasts, whatever any call does to it.
use Rattle.std.proofs.Common.{◌≡◌, ℕ, ◌<◌, Bool, true, false, cond, refl, sym, subst, arith, ne_eqb}
use Rattle.module_code.specs.declared.instr.Instr.{Instr}
use Rattle.module_code.specs.Program.{Program}
use Rattle.run_model.specs.declared.bucket.Bucket.{Bucket}
use Rattle.run_model.specs.declared.bucket.Home.{Home}
use Rattle.run_model.specs.declared.bucket.Home.TheVariants as home
use Rattle.run_model.specs.declared.bucket.Kind.{Kind}
use Rattle.run_model.specs.declared.bucket.Kind.TheVariants as kind
use Rattle.run_model.specs.declared.bucket.NamedBucket.{NamedBucket}
use Rattle.run_model.specs.declared.payload.Payload.{Payload}
use Rattle.run_model.specs.Buckets.{end_call, end_pools, to_heap, cleared_bucket, returned_bucket}
use Rattle.run_model.specs.Chains.{touched_bucket}
use Rattle.run_model.specs.Cutting.{set_aside_as}
use Rattle.run_model.specs.Pools.{Pools}
use Rattle.run_model.specs.State.{Configuration}
use Rattle.run_model.specs.Steps.{Choice, step, is_above, aside_named}
use Rattle.model_laws.proofs.chains.EachBucket.{touched_so}
use Rattle.model_laws.specs.Laws.{is_return}
use Rattle.model_laws.specs.ReadHomes.{IsNoPool}
use Rattle.model_laws.proofs.Origins.{HoldsNamed}
use Rattle.model_laws.proofs.EachStep.{each_step}

-- no file's, and with a home that is none of these pools
pub record Lasts (C : ℕ → Type 0) (b : Bucket) : Type 0 where
  pub file : b.kind ≡ kind.File → ⊥
  pub home : IsNoPool C b.home

-- so is the bucket of this name
abbrev pub NamedLasts : ℕ → (ℕ → Type 0) → NamedBucket → Type 0
NamedLasts n C x = x.name ≡ n → Lasts C x.bucket

pub lasts_more : (C D : ℕ → Type 0) → ((k : ℕ) → C k → D k) → (b : Bucket) → Lasts C b → Lasts D b
lasts_more C D more b l = record { file = l.file; home = by_home b.home l.home } where
  by_home : (h : Home) → IsNoPool C h → IsNoPool D h
  by_home home.Free h = tt
  by_home (home.Call k) h = more k h
  by_home (home.Pool k) h = h
  by_home home.Ended h = h

heap_is : kind.Heap ≡ kind.File → ⊥
heap_is e = cc

-- what setting aside makes of a bucket, by its kind
abbrev aside_as : Pools Payload → ℕ → NamedBucket → Kind → Bucket
aside_as ps target x k = set_aside_as target (is_above ps target x.bucket.home) x.bucket k

module _ (n : ℕ) (C : ℕ → Type 0) where
  abbrev T : NamedBucket → Type 0
  T = NamedLasts n C

  -- One bucket.

  cleared_lasts : (reached : ℕ → Bool) (x : NamedBucket) → T x → T (cleared_bucket reached x)
  cleared_lasts reached x t e = (let l = t e in record { file = by_kind x.bucket.kind l.file; home = by_home x.bucket.home l.home }) where
    by_kind : (k : Kind) → (k ≡ kind.File → ⊥) → to_heap reached k ≡ kind.File → ⊥
    by_kind (kind.Pool p) never = by_test (reached p) where
      by_test : (b : Bool) → cond b kind.Heap (kind.Pool p) ≡ kind.File → ⊥
      by_test true h = heap_is h
      by_test false h = never h
    by_kind k never = never

    by_home : (h : Home) → IsNoPool C h → IsNoPool C (end_pools reached h)
    by_home home.Free h = tt
    by_home (home.Call k) h = h
    by_home (home.Pool k) h = absurd h
    by_home home.Ended h = absurd h

  returned_lasts : (call : ℕ) → (C call → ⊥) → (x : NamedBucket) → T x → T (returned_bucket call x)
  returned_lasts call away x t e = (let l = t e in record { file = l.file; home = by_home x.bucket.home l.home }) where
    by_home : (h : Home) → IsNoPool C h → IsNoPool C (end_call call h)
    by_home home.Free h = tt
    by_home (home.Call k) h = subst (λ (b : Bool). IsNoPool C (cond b home.Ended (home.Call k))) (sym (ne_eqb k call (λ same. away (subst C same h)))) h
    by_home (home.Pool k) h = absurd h
    by_home home.Ended h = absurd h

  aside_lasts : (ps : Pools Payload) (target : ℕ) (x : NamedBucket) → T x → T (aside_named ps target x)
  aside_lasts ps target x t e = by_kind x.bucket.kind refl (t e) where
    by_kind : (k : Kind) → x.bucket.kind ≡ k → Lasts C x.bucket → Lasts C (aside_named ps target x).bucket
    by_kind kind.Transient is l = subst (λ (k : Kind). Lasts C (aside_as ps target x k)) (sym is) (record { file = heap_is; home = tt })
    by_kind kind.File is l = absurd (l.file is)
    by_kind kind.Heap is l = subst (λ (k : Kind). Lasts C (aside_as ps target x k)) (sym is) l
    by_kind kind.Immortal is l = subst (λ (k : Kind). Lasts C (aside_as ps target x k)) (sym is) l
    by_kind (kind.Pool p) is l = subst (λ (k : Kind). Lasts C (aside_as ps target x k)) (sym is) l
    by_kind kind.Flush is l = subst (λ (k : Kind). Lasts C (aside_as ps target x k)) (sym is) l
    by_kind kind.Eos is l = subst (λ (k : Kind). Lasts C (aside_as ps target x k)) (sym is) l

  -- whatever the instruction
  pub step_lasts : (p : Program) (choice : Choice) (r : Configuration) → n < r.shared.next → HoldsNamed T r → (i : Instr)
      → (is_return i ≡ true → C r.call.name → ⊥) → HoldsNamed T (step p choice i r).state
  step_lasts p choice r low h i away = each_step T r h p choice i (record {
    descends = record {
      front = λ k x le t e. (let l = t e in record { file = l.file; home = l.home });
      rest = λ k x le t e. (let l = t e in record { file = l.file; home = l.home });
      named = λ x t e. absurd (omega (arith, e, low));
    };
    made = λ b new put e. absurd (omega (arith, e, low));
    reads = λ c bytes is x t e. record { file = heap_is; home = tt };
    cleared = cleared_lasts;
    aside = aside_lasts;
    returned = λ on. returned_lasts r.call.name (away on);
  })

  -- what it touches elsewhere
  pub touched_lasts : (r : Configuration) (i : Instr) → (is_return i ≡ true → C r.call.name → ⊥) → (x : NamedBucket) → T x → T (touched_bucket r i x)
  touched_lasts r i away x t = touched_so T r i cleared_lasts (λ on. returned_lasts r.call.name (away on)) x t
