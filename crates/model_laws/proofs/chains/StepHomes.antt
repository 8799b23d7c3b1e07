-- What a step does to homes: those of calls that are alive, and of live pools.
use Rattle.run_model.specs.declared.effect.CleanupKind.TheVariants.{Plain, Pre}
use Rattle.std.proofs.Common.{◌≡◌, ◌≢◌, ℕ, ◌≤◌, Bool, true, false, ◌==◌, cond, not, List, [], ◌∷◌, map, filter_map, Option, Some, None, All, inl, inr, refl, sym, ◌∙◌, ap, subst, eq-eqb}
use Rattle.std.specs.List.{list_any}
use Rattle.std.proofs.lemmas.List.Elements.{All-cons, All-head, All-tail}
use Rattle.module_code.specs.declared.instr.PoolRef.TheVariants as pool
use Rattle.module_code.specs.declared.instr.Instr.{Instr}
use Rattle.module_code.specs.declared.instr.Instr.TheVariants as instr
use Rattle.module_code.specs.Program.{Program, pool_of_brigade}
use Rattle.run_model.specs.declared.bucket.Home.{Home}
use Rattle.run_model.specs.declared.bucket.Home.TheVariants as home
use Rattle.run_model.specs.declared.bucket.Bucket.{Bucket}
use Rattle.run_model.specs.declared.bucket.NamedBucket.{NamedBucket}
use Rattle.run_model.specs.declared.payload.Payload.{Payload}
use Rattle.run_model.specs.Pools.{Pools, is_live, is_under, is_empty, created, registered, registered_as}
use Rattle.run_model.specs.RunOrder.{IsPoolMap, killed}
use Rattle.run_model.specs.Buckets.{is_dead, end_pools, end_call, cleared_bucket, returned_bucket}
use Rattle.run_model.specs.Clearing.{run_down}
use Rattle.run_model.specs.Cutting.{FitsKind}
use Rattle.run_model.specs.State.{Configuration, items_of, pool_named, set_pool, with_pools, set_brigade, set_loose}
use Rattle.run_model.specs.Faults.{WCursor, OnBucket, usable_fault, homes_fault, home_fault, fault_want}
use Rattle.run_model.specs.BrigadeLists.{bucket_named}
use Rattle.run_model.specs.Cursors.{CursorPlace, Nowhere, AtLoose, Within, AtEndOf, bucket_at, at_cursor}
use Rattle.run_model.specs.BucketSteps.{items_at, changed_at, aside_into}
use Rattle.run_model.specs.Steps.{Choice, step, on_pool, with_brigade, all_referred, do_return, made_on, new_ref, aside_named, saved_into, pool_cleared, pool_destroyed, label_registered, label_killed}
use Rattle.run_model.specs.Steps.{text_of}
use Rattle.run_model.specs.Sound.{Sound, count_named}
use Rattle.model_laws.specs.Laws.{MayExecute, MatchHome, is_return}
use Rattle.run_model.specs.Chains.{is_under_named, touched_bucket}
use Rattle.run_model.proofs.PoolMap.{created_lives}
use Rattle.run_model.specs.declared.effect.ClearKind.TheVariants.{Clear, Destroy}
use Rattle.model_laws.proofs.PoolsGone.{Emptying, cleared_so, destroyed_so, apart_lives, pool_emptied, on_emptied}
use Rattle.model_laws.proofs.Marks.{first_none, second_none}
use Rattle.model_laws.proofs.MadeBrigades.{brigade_path}
use Rattle.model_laws.proofs.NamedPools.{made_is, on_named, made_under_named}
use Rattle.model_laws.proofs.StepPools.{aside_path, referred_path, wanted_pool, named_lives}
use Rattle.run_model.proofs.CursorPlaces.{StandsThere, stands}
use Rattle.run_model.proofs.EachBucket.{of_named, each_changed, only_one, loose_once, brigade_once}
use Rattle.model_laws.proofs.Origins.{HoldsNamed, PassesOn, quiet_leaves}
use Rattle.model_laws.proofs.Unchanged.{step_changes_only}
use Rattle.model_laws.proofs.StepFiles.{no_dead, not_dead, aside_live, neither}
use Rattle.model_laws.proofs.Kept.{aside_lasts}
use Rattle.model_laws.proofs.EachItem.{none, cleaned_each, handed_over_each, written_each, items_each, moved_each, each_so, mapped_each, cleared_each, left_each}

-- C: which calls are alive.
abbrev pub AliveHome : (ℕ → Type 0) → Pools Payload → Home → Type 0
AliveHome C ps h = MatchHome h C (λ n. is_live ps n ≡ true)

abbrev pub AliveAs : (ℕ → Type 0) → Pools Payload → NamedBucket → Type 0
AliveAs C ps x = AliveHome C ps x.bucket.home

abbrev pub Lasting : Pools Payload → Pools Payload → Type 0
Lasting ps new = (n : ℕ) → is_live ps n ≡ true → is_live new n ≡ true

pub home_so : (C D : ℕ → Type 0) (ps new : Pools Payload) → ((n : ℕ) → C n → D n) → Lasting ps new → (h : Home) → AliveHome C ps h → AliveHome D new h
home_so C D ps new calls pools home.Free a = tt
home_so C D ps new calls pools (home.Call n) a = calls n a
home_so C D ps new calls pools (home.Pool n) a = pools n a
home_so C D ps new calls pools home.Ended a = tt

pub cleared_home : (C : ℕ → Type 0) (ps new : Pools Payload) (reached : ℕ → Bool) → ((n : ℕ) → reached n ≡ false → is_live ps n ≡ true → is_live new n ≡ true) → (h : Home) → AliveHome C ps h
    → AliveHome C new (end_pools reached h)
cleared_home C ps new reached apart home.Free a = tt
cleared_home C ps new reached apart (home.Call n) a = a
cleared_home C ps new reached apart (home.Pool n) a = by_test (reached n) refl where
  by_test : (b : Bool) → reached n ≡ b → AliveHome C new (cond b home.Ended (home.Pool n))
  by_test true is = tt
  by_test false is = apart n is a
cleared_home C ps new reached apart home.Ended a = tt

-- the call of this name ends
returned_home : (C D : ℕ → Type 0) (ps : Pools Payload) (call : ℕ) → ((n : ℕ) → C n → n ≢ call → D n) → (h : Home) → AliveHome C ps h → AliveHome D ps (end_call call h)
returned_home C D ps call others home.Free a = tt
returned_home C D ps call others (home.Call n) a = by_test (n == call) refl where
  by_test : (b : Bool) → (n == call) ≡ b → AliveHome D ps (cond b home.Ended (home.Call n))
  by_test true is = tt
  by_test false is = others n a (λ same. (let yes : (n == call) ≡ true = eq-eqb n call same in let no : true ≡ false = sym yes ∙ is in cc))
returned_home C D ps call others (home.Pool n) a = a
returned_home C D ps call others home.Ended a = tt

same_path : (ps new : Pools Payload) → new.path ≡ ps.path → Lasting ps new
unfolding is_live
same_path ps new same n live = ap (λ (g : ℕ → List ℕ). not (is_empty (g n))) same ∙ live

module _ (C : ℕ → Type 0) where
  -- A bucket that the call does not see.

  abbrev Left : NamedBucket → Configuration → Type 0
  Left x s = AliveAs C s.shared.pools x

  stays : (ps new : Pools Payload) → Lasting ps new → (x : NamedBucket) → AliveAs C ps x → AliveAs C new x
  stays ps new pools x a = home_so C C ps new (λ n c. c) pools x.bucket.home a

  gone_alive : (gone : ℕ → Configuration → Configuration) (o : Option ℕ) (r : Configuration) → ((n : ℕ) → Emptying n r.shared.pools (gone n r).shared.pools)
      → (x : NamedBucket) → AliveAs C r.shared.pools x → AliveAs C (on_pool gone o r).shared.pools (cleared_bucket (is_under_named r.shared.pools o) x)
  gone_alive gone None r so x a = cleared_home C r.shared.pools r.shared.pools (λ m. false) (λ n off live. live) x.bucket.home a
  gone_alive gone (Some n) r so x a = cleared_home C r.shared.pools (gone n r).shared.pools (is_under r.shared.pools n) (apart_lives n r.shared.pools (gone n r).shared.pools (so n)) x.bucket.home a

  pub touched_alive : (p : Program) (choice : Choice) (i : Instr) (r : Configuration) → is_return i ≡ false → (x : NamedBucket) → AliveAs C r.shared.pools x
      → AliveAs C (step p choice i r).state.shared.pools (touched_bucket r i x)
  unfolding with_pools set_pool run_down set_brigade registered_as killed
  touched_alive p choice (instr.PClear q) r on x a = gone_alive pool_cleared (pool_named r (pool.Own q)) r (λ n. cleared_so n r.shared.pools) x a
  touched_alive p choice (instr.PDestroy q) r on x a = gone_alive pool_destroyed (pool_named r (pool.Own q)) r (λ n. destroyed_so n r.shared.pools) x a
  touched_alive p choice (instr.Ret s) r on x a = absurd (cc)
  touched_alive p choice (instr.PCreate q) r on x a = made_under_named (Left x) p q r a (λ parent e. stays r.shared.pools (created parent r.shared.pools) (created_lives parent r.shared.pools) x a)
  touched_alive p choice (instr.Label q t) r on x a =
      on_named (Left x) (label_registered Plain (text_of p t)) (pool_named r q) r a (λ n e. stays r.shared.pools _ (same_path r.shared.pools (label_registered Plain (text_of p t) n r).shared.pools refl) x a)
  touched_alive p choice (instr.PreLabel q t) r on x a =
      on_named (Left x) (label_registered Pre (text_of p t)) (pool_named r q) r a (λ n e. stays r.shared.pools _ (same_path r.shared.pools (label_registered Pre (text_of p t) n r).shared.pools refl) x a)
  touched_alive p choice (instr.Unlabel q t) r on x a =
      on_named (Left x) (label_killed (text_of p t)) (pool_named r q) r a (λ n e. stays r.shared.pools _ (same_path r.shared.pools (label_killed (text_of p t) n r).shared.pools refl) x a)
  touched_alive p choice (instr.BCreate o) r on x a =
      stays r.shared.pools (with_brigade (pool_named r (pool_of_brigade p o)) r.shared.next r.shared.pools)
      (same_path r.shared.pools _ (brigade_path (pool_named r (pool_of_brigade p o)) r.shared.next r.shared.pools)) x a
  touched_alive p choice (instr.BSave o b) r on x a = on_named (Left x) (saved_into o b) (made_on (r.instance.brigades o)) r a (λ target e.
      let refs : List ℕ = filter_map (new_ref r.shared.pools target) (items_of (r.instance.brigades b)) in
      stays r.shared.pools (all_referred target refs r.shared.pools) (same_path r.shared.pools _ (referred_path target refs r.shared.pools)) x a)
  touched_alive p choice (instr.Aside c q) r on x a = on_named (Left x) (aside_into (at_cursor r c)) (pool_named r q) r a
      (λ target e. stays r.shared.pools (aside_into (at_cursor r c) target r).shared.pools (same_path r.shared.pools _ (aside_path (at_cursor r c) target r)) x a)
  touched_alive p choice i r on x a = subst (λ (ps : Pools Payload). AliveAs C ps x) (sym ((step_changes_only p choice i r).tree refl)) a

  -- What the call sees.

  abbrev SeenHomes : Configuration → Type 0
  SeenHomes r = HoldsNamed (AliveAs C r.shared.pools) r

  grown : (r s : Configuration) → Lasting r.shared.pools s.shared.pools → ((b : ℕ) → All (AliveAs C r.shared.pools) (items_of (s.instance.brigades b))) → All (AliveAs C r.shared.pools) s.call.loose
      → SeenHomes s
  grown r s pools brigades loose = record {
    brigades = λ b. each_so (AliveAs C r.shared.pools) (AliveAs C s.shared.pools) (stays r.shared.pools s.shared.pools pools) (items_of (s.instance.brigades b)) (brigades b);
    loose = each_so (AliveAs C r.shared.pools) (AliveAs C s.shared.pools) (stays r.shared.pools s.shared.pools pools) s.call.loose loose;
  }

  -- a pool goes, or what it holds
  emptied : (n : ℕ) (left : Pools Payload) (r : Configuration) → Emptying n r.shared.pools left → SeenHomes r → SeenHomes (pool_emptied left n r)
  unfolding run_down with_pools
  emptied n left r so h =
      let reached : ℕ → Bool = is_under r.shared.pools n in
      let keeps : ((x : NamedBucket) → AliveAs C r.shared.pools x → AliveAs C left
      (cleared_bucket reached x)) = λ x a. cleared_home C r.shared.pools left reached (apart_lives n r.shared.pools left so) x.bucket.home a in
      record {
        brigades = λ b. cleared_each (AliveAs C r.shared.pools) (AliveAs C left) reached keeps (r.instance.brigades b) (h.brigades b);
        loose = mapped_each (AliveAs C r.shared.pools) (AliveAs C left) (cleared_bucket reached) keeps r.call.loose h.loose;
      }

  lasting : (ps : Pools Payload) (h : Home) → MatchHome h (λ call. ⊥) (λ n. is_live ps n ≡ true) → AliveHome C ps h
  lasting ps home.Free a = tt
  lasting ps (home.Call n) a = absurd a
  lasting ps (home.Pool n) a = a
  lasting ps home.Ended a = tt

  aside_all : (target : ℕ) (ps : Pools Payload) → IsPoolMap ps → is_live ps target ≡ true → (xs : List NamedBucket) → All (λ x. FitsKind x.bucket) xs → list_any is_dead xs ≡ false
      → All (AliveAs C ps) (map (aside_named ps target) xs)
  aside_all target ps formed live [] fits dead = none (AliveAs C ps)
  aside_all target ps formed live (x ∷ xs) fits dead =
      let parts = neither (is_dead x) (list_any is_dead xs) dead in
      let aside = aside_lasts ps target x (All-head (λ y. FitsKind y.bucket) x xs fits) parts.0 in
      All-cons (AliveAs C ps) (aside_named ps target x) (map (aside_named ps target) xs) (lasting ps _ (aside.there formed live))
      (aside_all target ps formed live xs (All-tail (λ y. FitsKind y.bucket) x xs fits) parts.1)

  save_alive : (o b target : ℕ) (r : Configuration) → Sound r → made_on (r.instance.brigades o) ≡ Some target → list_any is_dead (items_of (r.instance.brigades b)) ≡ false → SeenHomes r
      → SeenHomes (saved_into o b target r)
  unfolding set_brigade with_pools
  save_alive o b target r sound on dead h =
      grown r (saved_into o b target r) (same_path r.shared.pools _ (referred_path target (filter_map (new_ref r.shared.pools target) (items_of (r.instance.brigades b))) r.shared.pools))
      (moved_each (AliveAs C r.shared.pools) r.instance.brigades o b _ (aside_all target r.shared.pools sound.pools.formed
      (sound.pools.brigades o target (sym (made_is (r.instance.brigades o)) ∙ on)) (items_of (r.instance.brigades b)) (sound.buckets.brigades b) dead) h.brigades) h.loose

  aside_in : (ps : Pools Payload) (target : ℕ) (x : NamedBucket) (xs : List NamedBucket) → bucket_named x.name xs ≡ Some x → count_named x.name xs ≤ 1 → All (λ y. FitsKind y.bucket) xs
      → is_dead x ≡ false
      → is_live ps target ≡ true → IsPoolMap ps → All (AliveAs C ps) xs → All (AliveAs C ps) (changed_at x.name (aside_named ps target) xs)
  aside_in ps target x xs there once proper live target_lives formed h =
      let aside = aside_lasts ps target x (of_named (λ y. FitsKind y.bucket) x.name x xs there proper) live in
      each_changed (AliveAs C ps) (AliveAs C ps) x.name (aside_named ps target) xs (λ y e. e)
      (λ k d lt. λ same e. subst (λ (y : NamedBucket). AliveAs C ps (aside_named ps target y)) (sym (only_one x.name x xs there once k d lt same)) (lasting ps _ (aside.there formed target_lives))) h

  aside_alive : (t : CursorPlace) (target : ℕ) (r : Configuration) → StandsThere r t → home_fault (bucket_at t) ≡ None → is_live r.shared.pools target ≡ true → Sound r → SeenHomes r
      → SeenHomes (aside_into t target r)
  unfolding set_brigade set_loose with_pools
  aside_alive Nowhere target r there live target_lives sound h = h
  aside_alive (AtLoose x) target r there live target_lives sound h =
      grown r (aside_into (AtLoose x) target r) (same_path r.shared.pools _ (aside_path (AtLoose x) target r)) h.brigades
      (aside_in r.shared.pools target x r.call.loose there (loose_once r x.name sound.names) sound.buckets.loose (not_dead x live) target_lives sound.pools.formed h.loose)
  aside_alive (Within b x) target r there live target_lives sound h =
      let T : NamedBucket → Type 0 = AliveAs C r.shared.pools in
      grown r (aside_into (Within b x) target r) (same_path r.shared.pools _ (aside_path (Within b x) target r))
      (items_each T r.instance.brigades b (changed_at x.name (aside_named r.shared.pools target) (items_at r b))
      (aside_in r.shared.pools target x (items_at r b) there.1 (brigade_once r b x.name there.0 sound.names) (sound.buckets.brigades b)
      (not_dead x live) target_lives sound.pools.formed (h.brigades b)) h.brigades) h.loose
  aside_alive (AtEndOf b) target r there live target_lives sound h = h

  -- a bucket that is made has no home but the call
  abbrev AliveBucket : Pools Payload → Bucket → Type 0
  AliveBucket ps b = AliveHome C ps b.home

  alive_on : (r : Configuration) → C r.call.name → PassesOn r (AliveBucket r.shared.pools)
  alive_on r named = record {
    made = λ b new. elim new.lives [
      | inl free ↦ subst (AliveHome C r.shared.pools) (sym free) tt
      | inr call ↦ subst (AliveHome C r.shared.pools) (sym call) named
    ];
    parts = record { front = λ n b le a. a; rest = λ n b le a. a };
  }

  pub step_alive : (p : Program) (choice : Choice) (i : Instr) (r : Configuration) → is_return i ≡ false → MayExecute p r i → Sound r → C r.call.name → SeenHomes r
      → SeenHomes (step p choice i r).state
  unfolding set_brigade with_pools set_pool run_down registered_as killed
  step_alive p choice (instr.PCreate q) r on may sound named h = made_under_named SeenHomes p q r h (λ parent e. grown r _ (created_lives parent r.shared.pools) h.brigades h.loose)
  step_alive p choice (instr.PClear q) r on may sound named h = on_emptied SeenHomes Clear q r h (λ n left e so. emptied n left r so h)
  step_alive p choice (instr.PDestroy q) r on may sound named h = on_emptied SeenHomes Destroy q r h (λ n left e so. emptied n left r so h)
  step_alive p choice (instr.Label q t) r on may sound named h =
      on_named SeenHomes (label_registered Plain (text_of p t)) (pool_named r q) r h (λ n e. grown r _ (same_path r.shared.pools (label_registered Plain (text_of p t) n r).shared.pools refl) h.brigades h.loose)
  step_alive p choice (instr.PreLabel q t) r on may sound named h =
      on_named SeenHomes (label_registered Pre (text_of p t)) (pool_named r q) r h (λ n e. grown r _ (same_path r.shared.pools (label_registered Pre (text_of p t) n r).shared.pools refl) h.brigades h.loose)
  step_alive p choice (instr.Unlabel q t) r on may sound named h =
      on_named SeenHomes (label_killed (text_of p t)) (pool_named r q) r h (λ n e. grown r _ (same_path r.shared.pools (label_killed (text_of p t) n r).shared.pools refl) h.brigades h.loose)
  step_alive p choice (instr.BCreate o) r on may sound named h =
      grown r _ (same_path r.shared.pools _ (brigade_path (pool_named r (pool_of_brigade p o)) r.shared.next r.shared.pools))
      (written_each (AliveAs C r.shared.pools) r.instance.brigades o _ (none (AliveAs C r.shared.pools)) h.brigades) h.loose
  step_alive p choice (instr.BClean b) r on may sound named h =
      grown r _ (λ n live. live) (written_each (AliveAs C r.shared.pools) r.instance.brigades b _ (cleaned_each (AliveAs C r.shared.pools) (r.instance.brigades b)) h.brigades) h.loose
  step_alive p choice (instr.BConcat a b) r on may sound named h =
      grown r _ (λ n live. live) (moved_each (AliveAs C r.shared.pools) r.instance.brigades a b (items_of (r.instance.brigades b)) (h.brigades b) h.brigades) h.loose
  step_alive p choice (instr.BSave o b) r on may sound named h = on_named SeenHomes (saved_into o b) (made_on (r.instance.brigades o)) r h (λ target e.
      save_alive o b target r sound e
      (no_dead (items_of (r.instance.brigades b)) (first_none (homes_fault (items_of (r.instance.brigades b))) None
      (second_none (usable_fault (r.instance.brigades b)) _ (second_none (usable_fault (r.instance.brigades o)) _ may.faultless)))) h)
  step_alive p choice (instr.Pass b l) r on may sound named h =
      grown r _ (λ n live. live) (written_each (AliveAs C r.shared.pools) r.instance.brigades b _ (handed_over_each (AliveAs C r.shared.pools) (r.instance.brigades b)) h.brigades) h.loose
  step_alive p choice (instr.Aside c q) r on may sound named h = on_named SeenHomes (aside_into (at_cursor r c)) (pool_named r q) r h (λ target e.
      aside_alive (at_cursor r c) target r (stands r (r.call.cursors c)) (aside_live r c q may.faultless)
      (named_lives r q target (wanted_pool r q _ (second_none (fault_want r (WCursor c OnBucket)) _ may.faultless)) e) sound h)
  step_alive p choice (instr.Ret s) r on may sound named h = absurd (cc)
  step_alive p choice i r on may sound named h =
      let left = quiet_leaves (AliveBucket r.shared.pools) p choice i r refl (alive_on r named) (record { brigades = h.brigades; loose = h.loose }) in
      grown r _ (λ n live. subst (λ (ps : Pools Payload). is_live ps n ≡ true) (sym ((step_changes_only p choice i r).tree refl)) live) left.brigades left.loose

-- A return: what was alive but for the call itself.
module _ (C D : ℕ → Type 0) where
  pub returned_alive : (r : Configuration) → ((n : ℕ) → C n → n ≢ r.call.name → D n) → (x : NamedBucket) → AliveAs C r.shared.pools x → AliveAs D r.shared.pools (returned_bucket r.call.name x)
  returned_alive r others x a = returned_home C D r.shared.pools r.call.name others x.bucket.home a

  pub return_alive : (r : Configuration) → ((n : ℕ) → C n → n ≢ r.call.name → D n) → HoldsNamed (AliveAs C r.shared.pools) r → HoldsNamed (AliveAs D r.shared.pools) (do_return r)
  return_alive r others h =
      record {
        brigades = left_each (AliveAs C r.shared.pools) (AliveAs D r.shared.pools) r.call.name
            (returned_alive r others) r.instance.brigades h.brigades;
        loose = none (AliveAs D r.shared.pools);
      }
