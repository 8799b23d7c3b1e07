-- What is true of each bucket that a call sees, under its name and whatever pools there are, through its instruction.
use Rattle.run_model.specs.declared.effect.CleanupKind.TheVariants.{Plain, Pre}
use Rattle.std.proofs.Common.{◌≡◌, ℕ, Bool, true, List, Some, All, refl}
use Rattle.module_code.specs.declared.instr.Instr.{Instr}
use Rattle.module_code.specs.declared.instr.Instr.TheVariants as instr
use Rattle.module_code.specs.Program.{Program}
use Rattle.run_model.specs.declared.bucket.Bucket.{Bucket}
use Rattle.run_model.specs.declared.bucket.Content.{Content}
use Rattle.run_model.specs.declared.bucket.NamedBucket.{NamedBucket}
use Rattle.run_model.specs.declared.payload.Payload.{Payload}
use Rattle.run_model.specs.Buckets.{cleared_bucket, returned_bucket}
use Rattle.run_model.specs.Clearing.{run_down}
use Rattle.run_model.specs.Cursors.{CursorPlace, Nowhere, AtLoose, Within, AtEndOf, at_cursor}
use Rattle.run_model.specs.BucketSteps.{items_at, changed_at, aside_into, heap_bucket, read_given}
use Rattle.run_model.specs.EffectOf.{effect_of}
use Rattle.run_model.specs.Pools.{Pools, is_under}
use Rattle.run_model.specs.State.{Configuration, items_of, set_pool, set_brigade, set_loose, with_pools, pool_named}
use Rattle.run_model.specs.Steps.{Choice, step, made_on, aside_named, saved_into, label_registered, label_killed, text_of}
use Rattle.run_model.proofs.EachBucket.{each_changed}
use Rattle.model_laws.specs.Laws.{is_return}
use Rattle.run_model.specs.declared.effect.ClearKind.TheVariants.{Clear, Destroy}
use Rattle.model_laws.proofs.PoolsGone.{pool_emptied, on_emptied}
use Rattle.model_laws.proofs.NamedPools.{on_named, made_under_named}
use Rattle.model_laws.proofs.EachItem.{none, cleaned_each, handed_over_each, written_each, items_each, moved_each, mapped_each, cleared_each, left_each}
use Rattle.model_laws.proofs.Origins.{HoldsNamed, Descends, IsMade, IsNewContent, leaves}

-- descends: it is true of what comes of a bucket of which it is true. made, reads: of each bucket that is made, and of what was read.
-- cleared, aside, returned: it stays so where pools are cleared, where the bucket is set aside, and where the call returns.
pub record StaysSo (T : NamedBucket → Type 0) (p : Program) (choice : Choice) (i : Instr) (r : Configuration) : Type 0 where
  pub descends : Descends r.shared.next T
  pub made : (b : Bucket) → IsMade r b → IsNewContent p r b.content → T (record { name = r.shared.next; bucket = b })
  pub reads : (c : Content) (bytes : List ℕ) → read_given choice.given c ≡ Some bytes → (x : NamedBucket) → T x → T (record x { bucket = heap_bucket bytes })
  pub cleared : (reached : ℕ → Bool) (x : NamedBucket) → T x → T (cleared_bucket reached x)
  pub aside : (ps : Pools Payload) (target : ℕ) (x : NamedBucket) → T x → T (aside_named ps target x)
  pub returned : is_return i ≡ true → (x : NamedBucket) → T x → T (returned_bucket r.call.name x)

module _ (T : NamedBucket → Type 0) (r : Configuration) (h : HoldsNamed T r) where
  abbrev KeepsCleared : Type 0
  KeepsCleared = (reached : ℕ → Bool) (x : NamedBucket) → T x → T (cleared_bucket reached x)

  abbrev KeepsAside : Type 0
  KeepsAside = (ps : Pools Payload) (target : ℕ) (x : NamedBucket) → T x → T (aside_named ps target x)

  pub emptied_holds : KeepsCleared → (left : Pools Payload) (n : ℕ) → HoldsNamed T (pool_emptied left n r)
  unfolding run_down with_pools
  emptied_holds keeps left n =
      let reached : ℕ → Bool = is_under r.shared.pools n in
      record { brigades = λ b. cleared_each T T reached (keeps reached) (r.instance.brigades b) (h.brigades b); loose = mapped_each T T (cleared_bucket reached) (keeps reached) r.call.loose h.loose }

  aside_list : KeepsAside → (target n : ℕ) (xs : List NamedBucket) → All T xs → All T (changed_at n (aside_named r.shared.pools target) xs)
  aside_list keeps target n xs all = each_changed T T n (aside_named r.shared.pools target) xs (λ y t. t) (λ k d lt. λ same t. keeps r.shared.pools target _ t) all

  aside_holds : KeepsAside → (target : ℕ) (s : CursorPlace) → HoldsNamed T (aside_into s target r)
  unfolding set_brigade set_loose with_pools
  aside_holds keeps target Nowhere = h
  aside_holds keeps target (AtLoose x) = record { brigades = h.brigades; loose = aside_list keeps target x.name r.call.loose h.loose }
  aside_holds keeps target (Within b x) = record {
    brigades = items_each T r.instance.brigades b _ (aside_list keeps target x.name (items_at r b) (h.brigades b)) h.brigades;
    loose = h.loose;
  }
  aside_holds keeps target (AtEndOf b) = h

  pub each_step : (p : Program) (choice : Choice) (i : Instr) → StaysSo T p choice i r → HoldsNamed T (step p choice i r).state
  unfolding set_pool set_brigade with_pools
  each_step p choice (instr.PCreate q) stays = made_under_named (HoldsNamed T) p q r h (λ parent e. record { brigades = h.brigades; loose = h.loose })
  each_step p choice (instr.PClear q) stays = on_emptied (HoldsNamed T) Clear q r h (λ n left e so. emptied_holds stays.cleared left n)
  each_step p choice (instr.PDestroy q) stays = on_emptied (HoldsNamed T) Destroy q r h (λ n left e so. emptied_holds stays.cleared left n)
  each_step p choice (instr.Label q t) stays = on_named (HoldsNamed T) (label_registered Plain (text_of p t)) (pool_named r q) r h (λ n e. record { brigades = h.brigades; loose = h.loose })
  each_step p choice (instr.PreLabel q t) stays = on_named (HoldsNamed T) (label_registered Pre (text_of p t)) (pool_named r q) r h (λ n e. record { brigades = h.brigades; loose = h.loose })
  each_step p choice (instr.Unlabel q t) stays = on_named (HoldsNamed T) (label_killed (text_of p t)) (pool_named r q) r h (λ n e. record { brigades = h.brigades; loose = h.loose })
  each_step p choice (instr.BCreate o) stays = record { brigades = written_each T r.instance.brigades o _ (none T) h.brigades; loose = h.loose }
  each_step p choice (instr.BClean b) stays = record { brigades = written_each T r.instance.brigades b _ (cleaned_each T (r.instance.brigades b)) h.brigades; loose = h.loose }
  each_step p choice (instr.BConcat a b) stays = record { brigades = moved_each T r.instance.brigades a b (items_of (r.instance.brigades b)) (h.brigades b) h.brigades; loose = h.loose }
  each_step p choice (instr.BSave o b) stays = on_named (HoldsNamed T) (saved_into o b) (made_on (r.instance.brigades o)) r h (λ target e. record {
    brigades =
        moved_each T r.instance.brigades o b _ (mapped_each T T (aside_named r.shared.pools target) (stays.aside r.shared.pools target) (items_of (r.instance.brigades b)) (h.brigades b)) h.brigades;
    loose = h.loose;
  })
  each_step p choice (instr.Pass b l) stays = record { brigades = written_each T r.instance.brigades b _ (handed_over_each T (r.instance.brigades b)) h.brigades; loose = h.loose }
  each_step p choice (instr.Aside c q) stays = on_named (HoldsNamed T) (aside_into (at_cursor r c)) (pool_named r q) r h (λ target e. aside_holds stays.aside target (at_cursor r c))
  each_step p choice (instr.Ret s) stays = record { brigades = left_each T T r.call.name (stays.returned refl) r.instance.brigades h.brigades; loose = none T }
  each_step p choice i stays = leaves T p choice r stays.descends stays.made stays.reads h (effect_of i) refl
