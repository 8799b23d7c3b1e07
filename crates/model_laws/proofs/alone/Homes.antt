-- What an instruction leaves of the buckets that an instance may use: homes that last.
use Rattle.run_model.specs.declared.effect.CleanupKind.TheVariants.{Plain, Pre}
use Rattle.run_model.specs.declared.effect.ClearKind.TheVariants.{Clear, Destroy}
use Rattle.std.proofs.Common.{◌≡◌, ◌≢◌, ◌⊎◌, ℕ, Bool, true, false, ◌==◌, cond, List, [], ◌++◌, filter_map, get_or, Some, None, All, inl, inr, refl, sym, ◌∙◌, ap, subst, eq-eqb, eqb-true}
use Rattle.std.proofs.lemmas.List.Elements.{All-append}
use Rattle.std.proofs.lemmas.Bool.{cases_eq}
use Rattle.std.proofs.lemmas.Option.{none-some}
use Rattle.module_code.specs.declared.instr.Instr.{Instr}
use Rattle.module_code.specs.declared.instr.Instr.TheVariants as instr
use Rattle.module_code.specs.declared.instr.PoolRef.{PoolRef}
use Rattle.module_code.specs.declared.instr.PoolRef.TheVariants as pool
use Rattle.module_code.specs.Program.{Program, pool_of_brigade, pool_of_pool}
use Rattle.run_model.specs.declared.bucket.BrigadeVar.{BrigadeVar}
use Rattle.run_model.specs.declared.bucket.BrigadeVar.TheVariants as var
use Rattle.run_model.specs.declared.bucket.Bucket.{Bucket}
use Rattle.run_model.specs.declared.bucket.Home.{Home}
use Rattle.run_model.specs.declared.bucket.Home.TheVariants as home
use Rattle.run_model.specs.declared.bucket.Kind.{Kind}
use Rattle.run_model.specs.declared.bucket.Kind.TheVariants as kind
use Rattle.run_model.specs.declared.bucket.Mark.{Mark}
use Rattle.run_model.specs.declared.bucket.Mark.TheVariants.{Usable, Passed}
use Rattle.run_model.specs.declared.bucket.NamedBucket.{NamedBucket}
use Rattle.run_model.specs.declared.bucket.PoolVar.TheVariants as poolvar
use Rattle.run_model.specs.declared.payload.Payload.{Payload}
use Rattle.run_model.specs.declared.fault.FaultKind.TheVariants.{F7, F10}
use Rattle.run_model.specs.Buckets.{end_pools, end_call, cleared_bucket}
use Rattle.run_model.specs.BucketSteps.{items_at, changed_at, aside_into}
use Rattle.run_model.specs.Clearing.{run_down}
use Rattle.run_model.specs.Cursors.{CursorPlace, Nowhere, AtLoose, Within, AtEndOf, at_cursor}
use Rattle.run_model.specs.Cutting.{set_aside_as}
use Rattle.run_model.specs.EffectOf.{effect_of}
use Rattle.run_model.specs.Faults.{Need, InBrigade, OnBucket, WPool, WNewPool, WCursor, has_pool, has_pool_at, is_live_named, usable_fault, passed_fault, cursor_fault, within_fault, fault_want, fault}
use Rattle.run_model.specs.Indexed.{upd}
use Rattle.run_model.specs.Pools.{Pools, is_in, is_live, is_under, created}
use Rattle.run_model.specs.RunOrder.{killed}
use Rattle.run_model.specs.Pools.{registered_as}
use Rattle.run_model.specs.Sound.{brigade_pool, Sound}
use Rattle.run_model.specs.State.{Configuration, is_passed, items_of, name_in, named_at, pool_named, set_brigade, set_loose, set_pool, with_pools}
use Rattle.run_model.specs.Steps.{Choice, step, made_on, cleaned, aside_named, saved_into, label_registered, label_killed, text_of, is_above, new_ref, with_items}
use Rattle.run_model.proofs.EachBucket.{each_changed}
use Rattle.run_model.proofs.PoolMap.{created_lives}
use Rattle.run_model.proofs.Updates.{upd_either}
use Rattle.model_laws.specs.AsDeclared.{AsDeclared}
use Rattle.model_laws.specs.Laws.{MatchHome, MayExecute, is_return}
use Rattle.model_laws.specs.Marks.{HoldsPassed, StaysPassed, lets_go}
use Rattle.model_laws.specs.OpenRuns.{Lasting, IsHomeKept, HoldsKept}
use Rattle.model_laws.proofs.AsDeclared.{same_live, named_same}
use Rattle.model_laws.proofs.EachItem.{none, cleaned_each, handed_over_each, filled_each, each_so, mapped_each, cleared_each}
use Rattle.model_laws.proofs.Marks.{first_none, second_none}
use Rattle.model_laws.proofs.NamedPools.{made_is, live_pool, on_named, made_under_named}
use Rattle.model_laws.proofs.Origins.{HoldsIn, IsMade, PlaceIn, TakesIn, is_quiet, leaves_in}
use Rattle.model_laws.proofs.Passed.{step_keeps_passed}
use Rattle.model_laws.proofs.PoolsGone.{Emptying, apart_lives, pool_emptied, on_emptied}
use Rattle.model_laws.proofs.StepPools.{aside_path, referred_path, wanted_pool, named_lives}
use Rattle.model_laws.proofs.chains.QuietSteps.{IsQuiet, moves_pools, quiet_step}

-- One home.

pub match_so : (C D P Q : ℕ → Type 0) → ((n : ℕ) → C n → D n) → ((n : ℕ) → P n → Q n) → (h : Home) → MatchHome h C P → MatchHome h D Q
match_so C D P Q calls pools home.Free m = tt
match_so C D P Q calls pools (home.Call n) m = calls n m
match_so C D P Q calls pools (home.Pool n) m = pools n m
match_so C D P Q calls pools home.Ended m = tt

pub cleared_match : (C P Q : ℕ → Type 0) (reached : ℕ → Bool) → ((n : ℕ) → reached n ≡ false → P n → Q n) → (h : Home) → MatchHome h C P → MatchHome (end_pools reached h) C Q
cleared_match C P Q reached apart home.Free m = tt
cleared_match C P Q reached apart (home.Call n) m = m
cleared_match C P Q reached apart (home.Pool n) m = by_test (reached n) refl where
  by_test : (b : Bool) → reached n ≡ b → MatchHome (cond b home.Ended (home.Pool n)) C Q
  by_test true is = tt
  by_test false is = apart n is m
cleared_match C P Q reached apart home.Ended m = tt

pub returned_match : (C D P : ℕ → Type 0) (call : ℕ) → ((n : ℕ) → C n → n ≢ call → D n) → (h : Home) → MatchHome h C P → MatchHome (end_call call h) D P
returned_match C D P call others home.Free m = tt
returned_match C D P call others (home.Call n) m = by_test (n == call) refl where
  by_test : (b : Bool) → (n == call) ≡ b → MatchHome (cond b home.Ended (home.Call n)) D P
  by_test true is = tt
  by_test false is = others n m (λ same. (let yes : (n == call) ≡ true = eq-eqb n call same in let no : true ≡ false = sym yes ∙ is in cc))
returned_match C D P call others (home.Pool n) m = m
returned_match C D P call others home.Ended m = tt

aside_match : (C P : ℕ → Type 0) (target : ℕ) → P target → (above : Bool) (b : Bucket) (k : Kind) → MatchHome b.home C P → MatchHome (set_aside_as target above b k).home C P
aside_match C P target has above b kind.Heap m = m
aside_match C P target has above b kind.Transient m = tt
aside_match C P target has above b kind.Immortal m = m
aside_match C P target has above b (kind.Pool p) m = m
aside_match C P target has true b kind.File m = m
aside_match C P target has false b kind.File m = has
aside_match C P target has above b kind.Flush m = m
aside_match C P target has above b kind.Eos m = m

-- Marks.

pub either_mark : (v : BrigadeVar) → (passed_fault v ≡ None) ⊎ HoldsPassed v
either_mark var.Null = inl refl
either_mark var.Gone = inl refl
either_mark (var.Live v) = by_mark v.mark where
  by_mark : (m : Mark) → (cond (is_passed m) (Some F7) None ≡ None) ⊎ (m ≡ Passed)
  by_mark Usable = inl refl
  by_mark Passed = inr refl

pub usable_unpassed : (v : BrigadeVar) → usable_fault v ≡ None → passed_fault v ≡ None
usable_unpassed var.Null e = refl
usable_unpassed var.Gone e = refl
usable_unpassed (var.Live v) e = e

-- a brigade that stays passed, or is gone, is none that may be used
stays_unused : (T : NamedBucket → Type 0) (v w : BrigadeVar) → StaysPassed v w → passed_fault w ≡ None → All T (items_of w)
stays_unused T v var.Null stays none_told = absurd stays
stays_unused T v var.Gone stays none_told = none T
stays_unused T v (var.Live w) stays none_told = absurd (let told : passed_fault (var.Live w) ≡ Some F7 = ap (λ (m : Mark). cond (is_passed m) (Some F7) None) stays.1 in cc)

place_unpassed : (r : Configuration) (f : Need) (s : CursorPlace) → cursor_fault r f s ≡ None → PlaceIn (λ b. passed_fault (r.instance.brigades b) ≡ None) s
unfolding cursor_fault
place_unpassed r f Nowhere e = tt
place_unpassed r f (AtLoose x) e = tt
place_unpassed r f (Within b x) e = first_none (passed_fault (r.instance.brigades b)) (within_fault f b) e
place_unpassed r f (AtEndOf b) e = tt

-- A variable is written: the others hold what they held.
pub held_each : (S : ℕ → Type 0) (T : NamedBucket → Type 0) (g : ℕ → BrigadeVar) (b : ℕ) (v : BrigadeVar) → (S b → All T (items_of v)) → ((k : ℕ) → S k → All T (items_of (g k)))
    → (k : ℕ) → S k → All T (items_of (upd g b v k))
held_each S T g b v here there k s = elim (upd_either g b k v) [
  | inl q ↦ subst (λ (w : BrigadeVar). All T (items_of w)) (sym q.1) (here (subst S q.0 s))
  | inr q ↦ subst (λ (w : BrigadeVar). All T (items_of w)) (sym q.1) (there k s)
]

-- a live pool is there
none_there : (r : Configuration) (q n : ℕ) → pool_named r (pool.Own q) ≡ Some n → is_live r.shared.pools n ≡ true → has_pool r (pool.Own q) ≡ false → ⊥
unfolding has_pool_at
none_there r q n named live off = let both : true ≡ false = sym (ap (is_live_named r.shared.pools) named ∙ live) ∙ off in cc

-- what a test of a new pool tells
free_pool : (b : Bool) → cond b (Some F10) None ≡ None → b ≡ false
free_pool true e = absurd (cc)
free_pool false e = refl

module _ (l : Lasting) where
  abbrev pub KeptBucket : Configuration → NamedBucket → Type 0
  KeptBucket r x = IsHomeKept l r x.bucket.home

  abbrev pub InUse : Configuration → ℕ → Type 0
  InUse r b = passed_fault (r.instance.brigades b) ≡ None

  abbrev pub HasPool : Configuration → ℕ → Type 0
  HasPool r n = (is_live r.shared.pools n ≡ true) × (((k : PoolRef) × (pool_named r k ≡ Some n)) ⊎ (is_in n l.pools ≡ true))

  -- what is left in the brigades that could be used before
  abbrev pub Left : Configuration → Configuration → Type 0
  Left r s = HoldsIn (InUse r) (KeptBucket s) s

  kept_so : (r s : Configuration) → ((n : ℕ) → HasPool r n → HasPool s n) → (x : NamedBucket) → KeptBucket r x → KeptBucket s x
  kept_so r s more x k = match_so _ _ (HasPool r) (HasPool s) (λ n c. c) more x.bucket.home k

  has_quiet : (r s : Configuration) → IsQuiet r s → (n : ℕ) → HasPool r n → HasPool s n
  has_quiet r s q n has = (
    same_live r.shared.pools s.shared.pools n (ap (λ (path : ℕ → List ℕ). path n) q.path) ∙ has.0,
    elim has.1 [ inl named ↦ inl (named.0, named_same r s q.own q.conn q.req named.0 ∙ named.1) | inr lasts ↦ inr lasts ],
  )

  -- what is true by what was there before is true by what is there then
  pub grown : (r s : Configuration) → ((n : ℕ) → HasPool r n → HasPool s n) → HoldsIn (InUse r) (KeptBucket r) s → Left r s
  grown r s more h = record {
    brigades = λ b in_use. each_so (KeptBucket r) (KeptBucket s) (kept_so r s more) (items_of (s.instance.brigades b)) (h.brigades b in_use);
    loose = each_so (KeptBucket r) (KeptBucket s) (kept_so r s more) s.call.loose h.loose;
  }

  -- A brigade that was passed is not used, and so what is left is so in the brigades that may be used then.
  module _ (p : Program) (choice : Choice) (i : Instr) (r : Configuration) (faultless : fault p r i ≡ None) where
    pub in_use_then : ((b : ℕ) → lets_go i b ≡ true → All (KeptBucket (step p choice i r).state) (items_of ((step p choice i r).state.instance.brigades b)))
        → Left r (step p choice i r).state → HoldsKept l (step p choice i r).state
    in_use_then let_go h = record { brigades = λ b in_use. by_mark b in_use (either_mark (r.instance.brigades b)); loose = h.loose } where
      by_test : (b : ℕ) → passed_fault ((step p choice i r).state.instance.brigades b) ≡ None → HoldsPassed (r.instance.brigades b) → (t : Bool) → lets_go i b ≡ t
          → All (KeptBucket (step p choice i r).state) (items_of ((step p choice i r).state.instance.brigades b))
      by_test b in_use passed true is = let_go b is
      by_test b in_use passed false is =
          stays_unused (KeptBucket (step p choice i r).state) (r.instance.brigades b) ((step p choice i r).state.instance.brigades b) (step_keeps_passed p choice i b r faultless is passed) in_use

      by_mark : (b : ℕ) → passed_fault ((step p choice i r).state.instance.brigades b) ≡ None → (passed_fault (r.instance.brigades b) ≡ None) ⊎ HoldsPassed (r.instance.brigades b)
          → All (KeptBucket (step p choice i r).state) (items_of ((step p choice i r).state.instance.brigades b))
      by_mark b in_use (inl unpassed) = h.brigades b unpassed
      by_mark b in_use (inr passed) = by_test b in_use passed (lets_go i b) refl

  module _ (r : Configuration) (h : HoldsKept l r) where
    pub holds : HoldsIn (InUse r) (KeptBucket r) r
    holds = record { brigades = h.brigades; loose = h.loose }

    -- A pool is made.
    made_has : (parent q : ℕ) → has_pool r (pool.Own q) ≡ false → (n : ℕ) → HasPool r n → HasPool (set_pool q (poolvar.Made r.shared.pools.next) (with_pools (created parent r.shared.pools) r)) n
    unfolding set_pool with_pools named_at
    made_has parent q free n has = (created_lives parent r.shared.pools n has.0, elim has.1 [ inl named ↦ inl (by_ref named.0 named.1) | inr lasts ↦ inr lasts ]) where
      by_ref : (k : PoolRef) → pool_named r k ≡ Some n → (j : PoolRef) × (pool_named (set_pool q (poolvar.Made r.shared.pools.next) (with_pools (created parent r.shared.pools) r)) j ≡ Some n)
      by_ref pool.Conn e = (pool.Conn, e)
      by_ref pool.Req e = (pool.Req, e)
      by_ref (pool.Own j) e = elim (upd_either r.instance.pools q j (poolvar.Made r.shared.pools.next)) [
        | inl here ↦ absurd (none_there r q n (subst (λ (x : ℕ). pool_named r (pool.Own x) ≡ Some n) here.0 e) has.0 free)
        | inr there ↦ (pool.Own j, ap name_in there.1 ∙ e)
      ]

    -- A pool goes, or what it holds.
    emptied : (n : ℕ) (left : Pools Payload) → Emptying n r.shared.pools left → Left r (pool_emptied left n r)
    unfolding run_down with_pools named_at
    emptied n left so =
        let reached : ℕ → Bool = is_under r.shared.pools n in
        let keeps : (x : NamedBucket) → KeptBucket r x → KeptBucket (pool_emptied left n r) (cleared_bucket reached x) =
        λ x k. cleared_match _ (HasPool r) (HasPool (pool_emptied left n r)) reached (λ m off has. (apart_lives n r.shared.pools left so m off has.0, has.1)) x.bucket.home k in
        record {
          brigades = λ b in_use. cleared_each (KeptBucket r) (KeptBucket (pool_emptied left n r)) reached keeps (r.instance.brigades b) (h.brigades b in_use);
          loose = mapped_each (KeptBucket r) (KeptBucket (pool_emptied left n r)) (cleared_bucket reached) keeps r.call.loose h.loose;
        }

    -- Buckets are set aside.

    aside_kept : (target : ℕ) → HasPool r target → (x : NamedBucket) → KeptBucket r x → KeptBucket r (aside_named r.shared.pools target x)
    aside_kept target has x k = aside_match _ (HasPool r) target has (is_above r.shared.pools target x.bucket.home) x.bucket x.bucket.kind k

    aside_list : (target n : ℕ) → HasPool r target → (xs : List NamedBucket) → All (KeptBucket r) xs → All (KeptBucket r) (changed_at n (aside_named r.shared.pools target) xs)
    aside_list target n has xs all = each_changed (KeptBucket r) (KeptBucket r) n (aside_named r.shared.pools target) xs (λ y k. k) (λ k d lt. λ same t. aside_kept target has (get_or xs k d) t) all

    same_path_has : (s : Configuration) → s.shared.pools.path ≡ r.shared.pools.path → s.instance.pools ≡ r.instance.pools → s.shared.conn ≡ r.shared.conn → s.shared.req ≡ r.shared.req
        → (n : ℕ) → HasPool r n → HasPool s n
    same_path_has s path own conn req n has = (
      same_live r.shared.pools s.shared.pools n (ap (λ (g : ℕ → List ℕ). g n) path) ∙ has.0,
      elim has.1 [ inl named ↦ inl (named.0, named_same r s own conn req named.0 ∙ named.1) | inr lasts ↦ inr lasts ],
    )

    aside_left : (target : ℕ) → HasPool r target → (s : CursorPlace) → Left r (aside_into s target r)
    unfolding set_brigade set_loose with_pools
    aside_left target has Nowhere = holds
    aside_left target has (AtLoose x) =
        grown r (aside_into (AtLoose x) target r) (same_path_has (aside_into (AtLoose x) target r) (aside_path (AtLoose x) target r) refl refl refl)
        (record { brigades = h.brigades; loose = aside_list target x.name has r.call.loose h.loose })
    aside_left target has (Within b x) =
        grown r (aside_into (Within b x) target r) (same_path_has (aside_into (Within b x) target r) (aside_path (Within b x) target r) refl refl refl)
        (record {
          brigades = held_each (InUse r) (KeptBucket r) r.instance.brigades b _
              (λ in_use. filled_each (KeptBucket r) _ (r.instance.brigades b) (aside_list target x.name has (items_at r b) (h.brigades b in_use))) h.brigades;
          loose = h.loose;
        })
    aside_left target has (AtEndOf b) = holds

    -- items go to the tail of a, and b is empty
    moved_left : (a b : ℕ) (items : List NamedBucket) → All (KeptBucket r) items → (k : ℕ) → InUse r k
        → All (KeptBucket r) (items_of (upd (upd r.instance.brigades b (with_items [] (r.instance.brigades b))) a (with_items (items_of (r.instance.brigades a) ++ items) (r.instance.brigades a)) k))
    moved_left a b items moved =
        held_each (InUse r) (KeptBucket r) (upd r.instance.brigades b (with_items [] (r.instance.brigades b))) a _
        (λ in_use. filled_each (KeptBucket r) _ (r.instance.brigades a) (All-append (KeptBucket r) (items_of (r.instance.brigades a)) items (h.brigades a in_use) moved))
        (held_each (InUse r) (KeptBucket r) r.instance.brigades b _ (λ in_use. filled_each (KeptBucket r) [] (r.instance.brigades b) (none (KeptBucket r))) h.brigades)

    save_left : (o b target : ℕ) → HasPool r target → InUse r b → Left r (saved_into o b target r)
    unfolding set_brigade with_pools
    save_left o b target has in_use =
        grown r (saved_into o b target r)
        (same_path_has (saved_into o b target r) (referred_path target (filter_map (new_ref r.shared.pools target) (items_of (r.instance.brigades b))) r.shared.pools) refl refl refl)
        (record {
          brigades = moved_left o b _ (mapped_each (KeptBucket r) (KeptBucket r) (aside_named r.shared.pools target) (aside_kept target has) (items_of (r.instance.brigades b)) (h.brigades b in_use));
          loose = h.loose;
        })

    -- a bucket that is made has no home but the call
    made_kept : is_in r.call.name l.calls ≡ true → (b : Bucket) → IsMade r b → IsHomeKept l r b.home
    made_kept named b new = elim new.lives [ inl free ↦ subst (IsHomeKept l r) (sym free) tt | inr call ↦ subst (IsHomeKept l r) (sym call) named ]

  -- An instruction.

  cleaned_at : (T : NamedBucket → Type 0) (g : ℕ → BrigadeVar) (b k : ℕ) → (k == b) ≡ true → All T (items_of (upd g b (cleaned (g b)) k))
  cleaned_at T g b k is = elim (upd_either g b k (cleaned (g b))) [
    | inl here ↦ subst (λ (v : BrigadeVar). All T (items_of v)) (sym here.1) (cleaned_each T (g b))
    | inr off ↦ absurd (off.0 (eqb-true k b is))
  ]

  module _ (p : Program) (choice : Choice) (r : Configuration) (sound : Sound r) (declared : AsDeclared p r) (named : is_in r.call.name l.calls ≡ true) (h : HoldsKept l r) where
    -- the pool of a brigade
    save_has : (o target : ℕ) → made_on (r.instance.brigades o) ≡ Some target → HasPool r target
    save_has o target on =
        let lies : brigade_pool (r.instance.brigades o) ≡ Some target = sym (made_is (r.instance.brigades o)) ∙ on in
        let there = live_pool (r.instance.brigades o) target lies in (
          sound.pools.brigades o target lies,
          elim (cases_eq o 8) [
            | inl eight ↦ absurd (none-some target (sym (declared.incoming there.0 (subst (λ (k : ℕ). r.instance.brigades k ≡ var.Live there.0) eight there.1)) ∙ there.2))
            | inr own ↦ inl (pool_of_brigade p o, sym (declared.brigades o there.0 own there.1).0 ∙ there.2)
          ],
        )

    quiet_left : (i : Instr) → moves_pools i ≡ false → MayExecute p r i → HoldsIn (InUse r) (KeptBucket r) (step p choice i r).state → Left r (step p choice i r).state
    quiet_left i quiet may left = grown r (step p choice i r).state (has_quiet r (step p choice i r).state (quiet_step p choice i r quiet may)) left

    taken_left : (i : Instr) → is_quiet (effect_of i) ≡ true → TakesIn (InUse r) r (effect_of i) → HoldsIn (InUse r) (KeptBucket r) (step p choice i r).state
    taken_left i quiet in_it =
        leaves_in (InUse r) (KeptBucket r) p choice r (record { front = λ n x le k. k; rest = λ n x le k. k; named = λ x k. k }) (λ b new put. made_kept r h named b new)
        (λ c bytes is x k. tt) (holds r h) (effect_of i) quiet in_it

    pub step_left : (i : Instr) → is_return i ≡ false → MayExecute p r i → Left r (step p choice i r).state
    unfolding set_brigade with_pools set_pool run_down registered_as killed
    step_left (instr.PCreate q) on may = made_under_named (Left r) p q r (holds r h) (λ parent e.
        grown r _ (made_has r h parent q
        (free_pool (has_pool r (pool.Own q)) (first_none (fault_want r (WNewPool q)) None (second_none (fault_want r (WPool (pool_of_pool p q))) _ may.faultless))))
        (record { brigades = h.brigades; loose = h.loose }))
    step_left (instr.PClear q) on may = on_emptied (Left r) Clear q r (holds r h) (λ n left e so. emptied r h n left so)
    step_left (instr.PDestroy q) on may = on_emptied (Left r) Destroy q r (holds r h) (λ n left e so. emptied r h n left so)
    step_left (instr.Label q t) on may = quiet_left (instr.Label q t) refl may
        (on_named (HoldsIn (InUse r) (KeptBucket r)) (label_registered Plain (text_of p t)) (pool_named r q) r (holds r h) (λ n e. record { brigades = h.brigades; loose = h.loose }))
    step_left (instr.PreLabel q t) on may = quiet_left (instr.PreLabel q t) refl may
        (on_named (HoldsIn (InUse r) (KeptBucket r)) (label_registered Pre (text_of p t)) (pool_named r q) r (holds r h) (λ n e. record { brigades = h.brigades; loose = h.loose }))
    step_left (instr.Unlabel q t) on may = quiet_left (instr.Unlabel q t) refl may
        (on_named (HoldsIn (InUse r) (KeptBucket r)) (label_killed (text_of p t)) (pool_named r q) r (holds r h) (λ n e. record { brigades = h.brigades; loose = h.loose }))
    step_left (instr.BCreate o) on may = quiet_left (instr.BCreate o) refl may
        (record { brigades = held_each (InUse r) (KeptBucket r) r.instance.brigades o _ (λ in_use. none (KeptBucket r)) h.brigades; loose = h.loose })
    step_left (instr.BClean b) on may = quiet_left (instr.BClean b) refl may
        (record { brigades = held_each (InUse r) (KeptBucket r) r.instance.brigades b _ (λ in_use. cleaned_each (KeptBucket r) (r.instance.brigades b)) h.brigades; loose = h.loose })
    step_left (instr.BConcat a b) on may = quiet_left (instr.BConcat a b) refl may (record {
      brigades = moved_left r h a b (items_of (r.instance.brigades b)) (h.brigades b (usable_unpassed (r.instance.brigades b)
          (first_none (usable_fault (r.instance.brigades b)) None (second_none (usable_fault (r.instance.brigades a)) _ may.faultless))));
      loose = h.loose;
    })
    step_left (instr.BSave o b) on may = on_named (Left r) (saved_into o b) (made_on (r.instance.brigades o)) r (holds r h) (λ target e.
        save_left r h o b target (save_has o target e)
        (usable_unpassed (r.instance.brigades b) (first_none (usable_fault (r.instance.brigades b)) _ (second_none (usable_fault (r.instance.brigades o)) _ may.faultless))))
    step_left (instr.Pass b l) on may = quiet_left (instr.Pass b l) refl may
        (record { brigades = held_each (InUse r) (KeptBucket r) r.instance.brigades b _ (λ in_use. handed_over_each (KeptBucket r) (r.instance.brigades b)) h.brigades; loose = h.loose })
    step_left (instr.Aside c q) on may = on_named (Left r) (aside_into (at_cursor r c)) (pool_named r q) r (holds r h) (λ target e.
        aside_left r h target (named_lives r q target (wanted_pool r q _ (second_none (fault_want r (WCursor c OnBucket)) _ may.faultless)) e, inl (q, e)) (at_cursor r c))
    step_left (instr.Ret s) on may = absurd (cc)
    step_left (instr.BSplit b c a) on may = quiet_left (instr.BSplit b c a) refl may
        (taken_left (instr.BSplit b c a) refl (usable_unpassed (r.instance.brigades b) (first_none (usable_fault (r.instance.brigades b)) _ may.faultless)))
    step_left (instr.Unlink c) on may = quiet_left (instr.Unlink c) refl may
        (taken_left (instr.Unlink c) refl (place_unpassed r InBrigade (at_cursor r c) (first_none (cursor_fault r InBrigade (at_cursor r c)) None may.faultless)))
    step_left (instr.Copy d c) on may = quiet_left (instr.Copy d c) refl may
        (taken_left (instr.Copy d c) refl (place_unpassed r OnBucket (at_cursor r c) (first_none (cursor_fault r OnBucket (at_cursor r c)) _ may.faultless)))
    step_left i on may = quiet_left i refl may (taken_left i refl tt)

    pub step_kept : (i : Instr) → is_return i ≡ false → MayExecute p r i → HoldsKept l (step p choice i r).state
    unfolding set_brigade
    step_kept (instr.Ret s) on may = absurd (cc)
    step_kept (instr.BClean b) on may = in_use_then p choice (instr.BClean b) r may.faultless (λ k e. cleaned_at (KeptBucket (step p choice (instr.BClean b) r).state) r.instance.brigades b k e)
        (step_left (instr.BClean b) on may)
    step_kept i on may = in_use_then p choice i r may.faultless (λ k e. absurd (cc)) (step_left i on may)
