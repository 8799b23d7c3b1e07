-- Brigades whose buckets are set aside into another.
use Rattle.std.proofs.Common.{◌≡◌, ◌≢◌, ℕ, ◌<◌, ◌==◌, not, length, arith, Bool, true, false, nat_lt, cond, List, [], ◌∷◌, ◌++◌, map, filter_map, Option, Some, None, ◌⊎◌, inl, inr, refl, sym, ◌∙◌, ap}
use Rattle.std.proofs.lemmas.Bool.{ltb-true}
use Rattle.module_code.specs.declared.instr.PoolRef.{PoolRef}
use Rattle.module_code.specs.declared.instr.PoolRef.TheVariants as pool
use Rattle.module_code.specs.declared.instr.Instr.TheVariants as instr
use Rattle.module_code.specs.Program.{Program, IsModule, fits, is_brigade, pool_of_brigade}
use Rattle.model_laws.specs.AsDeclared.{AsDeclared}
use Rattle.run_model.specs.declared.bucket.Bucket.{Bucket}
use Rattle.run_model.specs.declared.bucket.BrigadeVar.{BrigadeVar}
use Rattle.run_model.specs.declared.bucket.BrigadeVar.TheVariants as var
use Rattle.run_model.specs.declared.bucket.Home.{Home}
use Rattle.run_model.specs.declared.bucket.Home.TheVariants as home
use Rattle.run_model.specs.declared.bucket.Kind.{Kind}
use Rattle.run_model.specs.declared.bucket.Kind.TheVariants as kind
use Rattle.run_model.specs.declared.bucket.NamedBucket.{NamedBucket}
use Rattle.run_model.specs.declared.fault.FaultKind.TheVariants.{F5}
use Rattle.run_model.specs.declared.payload.Payload.{Payload}
use Rattle.run_model.specs.Buckets.{is_data_kind, is_eos_kind}
use Rattle.run_model.specs.BucketSteps.{items_at}
use Rattle.run_model.specs.Faults.{WUsable, WHomes, usable_fault, first_fault, is_live_named}
use Rattle.run_model.specs.Cutting.{FitsKind, set_aside_as}
use Rattle.run_model.specs.Pools.{Pools, is_live}
use Rattle.run_model.specs.State.{Configuration, pool_view, pool_named, with_pools, set_brigade as set_variable}
use Rattle.run_model.specs.Steps.{is_above, aside_named, new_ref, made_on, on_pool, saved_into}
use Rattle.model_laws.proofs.Marks.{first_none, second_none}
use Rattle.model_laws.proofs.Operands.{saved_brigades}
use Rattle.model_laws.proofs.StepPools.{referred_path}
use Rattle.life_state.specs.declared.parts.Classes.{Classes}
use Rattle.life_state.specs.PoolOrder.{is_clearable}
use Rattle.life_state.specs.Rules.{homes_need, usable_need, first_need, concat_content, after_bsave}
use Rattle.life_state.specs.States.{Homes, homes_join, home_in, holds, State}
use Rattle.life_state.proofs.Tests.{split3}
use Rattle.life_check.specs.Meaning.{Covers, class_has, HoldsOfEach, Fits}
use Rattle.life_check.specs.Soundness.{MeetsNeeds, LawOf}
use Rattle.life_check.proofs.Asides.{aside_covered}
use Rattle.life_check.proofs.Brigades.{Joins, joined_fits}
use Rattle.life_check.proofs.Filled.{covers_first, covers_second, IsFull, full_of}
use Rattle.life_check.proofs.Lists.{each_of_all, each_append, each_more, each_map, map_found, named_map, IsSorted, holds_map, holds_concat}
use Rattle.life_check.proofs.Pools.{covers_moves, same_names, same_live, pool_kept}
use Rattle.life_check.proofs.Cleared.{own_clearable}

-- What comes of one bucket.

-- what is the same of HEAP and TRANSIENT is the same of it
aside_kind : {X : Type 0} (g : Kind → X) → g kind.Heap ≡ g kind.Transient → (target : ℕ) (above : Bool) (b : Bucket) (k : Kind) → b.kind ≡ k → g (set_aside_as target above b k).kind ≡ g k
aside_kind g heap target above b kind.Transient is = heap
aside_kind {X} g heap target above b kind.File is = by_test above where
  by_test : (c : Bool) → g (cond c b (record b { home = home.Pool target })).kind ≡ g kind.File
  by_test true = ap g is
  by_test false = ap g is
aside_kind g heap target above b k is = ap g is

aside_sorted : (ps : Pools Payload) (target : ℕ) → IsSorted (aside_named ps target)
aside_sorted ps target = record {
  bytes = λ x. aside_kind is_data_kind refl target (is_above ps target x.bucket.home) x.bucket x.bucket.kind refl;
  eos = λ x. aside_kind is_eos_kind refl target (is_above ps target x.bucket.home) x.bucket x.bucket.kind refl;
}

aside_classed : (t : Classes) (ps : Pools Payload) (target : ℕ) (x : NamedBucket) → class_has t x.bucket.kind ≡ true → class_has t (aside_named ps target x).bucket.kind ≡ true
aside_classed t ps target x has = aside_kind (class_has t) refl target (is_above ps target x.bucket.home) x.bucket x.bucket.kind refl ∙ has

-- Where it is set aside.

own_place : (p : Program) (r : Configuration) → AsDeclared p r → (t : PoolRef) (target : ℕ) → pool_named r t ≡ Some target → (is_clearable t ≡ true) ⊎ (t ≡ pool.Conn)
own_place p r d pool.Conn target e = inr refl
own_place p r d pool.Req target e = inl refl
own_place p r d (pool.Own q) target e = inl (own_clearable p r d q target e)

not_dead : (h : Homes) → homes_need h ≡ None → h.dead ≡ false
not_dead h none = by_test h.dead none where
  by_test : (b : Bool) → cond b (Some F5) None ≡ None → b ≡ false
  by_test true none = absurd (cc)
  by_test false none = refl

-- A brigade is saved into another.

each_both : (P Q : NamedBucket → Type 0) (xs : List NamedBucket) → HoldsOfEach P xs → HoldsOfEach Q xs → HoldsOfEach (λ x. P x × Q x) xs
unfolding HoldsOfEach
each_both P Q [] f g = tt
each_both P Q (x ∷ xs) f g = ((f.0, g.0), each_both P Q xs f.1 g.1)

not_in : (p : Program) → IsModule p → (o b : ℕ) → fits p (instr.BSave o b) ≡ true → o ≢ 8
not_in p m o b h = (let lt : o < length p.brigades = ltb-true o (length p.brigades) (split3 (nat_lt o (length p.brigades)) (is_brigade p b) (not (o == b)) h).0 in omega (arith, m.brigades))

-- a usable brigade lies on the live pool of its declaration
made_there : (p : Program) (r : Configuration) → AsDeclared p r → (o : ℕ) → o ≢ 8 → (v : BrigadeVar) → r.instance.brigades o ≡ v → usable_fault v ≡ None
    → (made_on v ≡ pool_named r (pool_of_brigade p o)) × (is_live_named r.shared.pools (made_on v) ≡ true)
made_there p r d o ne var.Null at usable = absurd (cc)
made_there p r d o ne var.Gone at usable = absurd (cc)
made_there p r d o ne (var.Live v) at usable = d.brigades o v ne at

-- o takes what is set aside of b's buckets, where o lies on the pool target
module _ (p : Program) (lives : Home → Type 0) (o b target : ℕ) (r : Configuration) (s : State) (ready : MeetsNeeds lives p (instr.BSave o b) r s) where
  abbrev C : Homes → Home → Type 0
  C = Covers p (pool_view r) lives

  abbrev D : Homes → Home → Type 0
  D = Covers p (pool_view (saved_into o b target r)) lives

  abbrev items : List NamedBucket
  items = items_at r b

  abbrev aside : NamedBucket → NamedBucket
  aside = aside_named r.shared.pools target

  abbrev place : PoolRef
  place = pool_of_brigade p o

  abbrev homes : Homes
  homes = homes_join (s.brigades o).homes (home_in (pool_of_brigade p o))

  first : usable_fault (r.instance.brigades o) ≡ None
  first = first_none (usable_fault (r.instance.brigades o)) (first_fault r (WUsable b ∷ (WHomes b ∷ []))) ready.may.faultless

  second : usable_fault (r.instance.brigades b) ≡ None
  second = first_none (usable_fault (r.instance.brigades b)) (first_fault r (WHomes b ∷ []))
      (second_none (usable_fault (r.instance.brigades o)) (first_fault r (WUsable b ∷ (WHomes b ∷ []))) ready.may.faultless)

  same_path : (saved_into o b target r).shared.pools.path ≡ r.shared.pools.path
  unfolding set_variable with_pools
  same_path = referred_path target (filter_map (new_ref r.shared.pools target) items) r.shared.pools

  lives_still : (n : ℕ) → is_live (saved_into o b target r).shared.pools n ≡ is_live r.shared.pools n
  lives_still n = same_live r.shared.pools (saved_into o b target r).shared.pools n (ap (λ (g : ℕ → List ℕ). g n) same_path)

  more : (h : Homes) (x : Home) → C h x → D h x
  unfolding set_variable with_pools
  more = covers_moves p (pool_view r) (pool_view (saved_into o b target r)) lives (record {
    conn = refl;
    named = λ k n e live. same_names (pool_view r) (pool_view (saved_into o b target r)) refl refl refl k ∙ e;
    lives = λ n live. lives_still n ∙ live;
  })

  joins : Joins C D r (saved_into o b target r) o b (map aside items)
  unfolding set_variable with_pools
  joins = record {
    more = more;
    brigades = refl;
    call = refl;
    sent = refl;
    differ = (saved_brigades p ready.may.proper o b ready.may.fit).differ;
    first = first;
    second = second;
    found = λ n x is. record {
      bucket = aside x;
      there = named_map n aside (λ y. refl) items ∙ ap (map_found aside) is;
      classed = λ t has. aside_classed t r.shared.pools target x has;
      covered = λ h c. tt;
    };
  }

  alive : (s.brigades b).homes.dead ≡ false
  alive = not_dead (s.brigades b).homes (first_none (homes_need (s.brigades b).homes) None
      (second_none (usable_need (s.brigades b)) (first_need s (WHomes b ∷ [])) (second_none (usable_need (s.brigades o)) (first_need s (WUsable b ∷ (WHomes b ∷ []))) ready.met)))

  was_o : IsFull C (s.brigades o) (items_at r o)
  was_o = full_of C (s.brigades o) (r.instance.brigades o) first (ready.fits.brigades o)

  was_b : IsFull C (s.brigades b) items
  was_b = full_of C (s.brigades b) (r.instance.brigades b) second (ready.fits.brigades b)

  saved_covered : pool_named r place ≡ Some target → is_live r.shared.pools target ≡ true → HoldsOfEach (λ x. D homes x.bucket.home) (map aside items)
  saved_covered is live = each_map (λ x. FitsKind x.bucket × C (s.brigades b).homes x.bucket.home) (λ x. D homes x.bucket.home) aside
      (λ x c. more homes (aside x).bucket.home (covers_second p (pool_view r) lives (s.brigades o).homes (home_in place) (aside x).bucket.home
      (aside_covered p r place target ready.may.proper ready.sound ready.declared ready.outside is live (own_place p r ready.declared place target is) (s.brigades b).homes x alive c.0 c.1))) items
      (each_both (λ x. FitsKind x.bucket) (λ x. C (s.brigades b).homes x.bucket.home) items (each_of_all (λ x. FitsKind x.bucket) items (ready.sound.buckets.brigades b)) was_b.homes)

  saved_full : pool_named r place ≡ Some target → is_live r.shared.pools target ≡ true
      → IsFull D (holds (concat_content (s.brigades o).content (s.brigades b).content) homes) (items_at r o ++ map aside items)
  saved_full is live = record {
    live = refl;
    usable = refl;
    holds = holds_concat (s.brigades o).content (s.brigades b).content (items_at r o) (map aside items) was_o.holds
        (holds_map (s.brigades b).content aside (aside_sorted r.shared.pools target) items was_b.holds);
    homes = each_append (λ x. D homes x.bucket.home) (items_at r o) (map aside items)
        (each_more (λ x. C (s.brigades o).homes x.bucket.home) (λ x. D homes x.bucket.home)
        (λ x c. more homes x.bucket.home (covers_first p (pool_view r) lives (s.brigades o).homes (home_in place) x.bucket.home c)) (items_at r o) was_o.homes)
        (saved_covered is live);
  }

  saved_fits : pool_named r place ≡ Some target → is_live r.shared.pools target ≡ true → Fits D (after_bsave p o b s) (saved_into o b target r)
  unfolding set_variable with_pools
  saved_fits is live =
      joined_fits C D r (saved_into o b target r) o b (map aside items) joins s homes ready.sound.names
      (λ q. pool_kept r.shared.pools (saved_into o b target r).shared.pools (s.pools q) (r.instance.pools q) (λ n e. lives_still n) (ready.fits.pools q)) (saved_full is live) ready.fits

pub law_bsave : {lives : Home → Type 0} (o b : ℕ) → LawOf lives (instr.BSave o b)
law_bsave {lives} o b p choice r s ready = by_pool (made_on (r.instance.brigades o)) refl where
  there : (made_on (r.instance.brigades o) ≡ pool_named r (pool_of_brigade p o)) × (is_live_named r.shared.pools (made_on (r.instance.brigades o)) ≡ true)
  there = made_there p r ready.declared o (not_in p ready.may.proper o b ready.may.fit) (r.instance.brigades o) refl (first p lives o b 0 r s ready)

  by_pool : (k : Option ℕ) → made_on (r.instance.brigades o) ≡ k → Fits (Covers p (pool_view (on_pool (saved_into o b) k r)) lives) (after_bsave p o b s) (on_pool (saved_into o b) k r)
  by_pool None is = absurd (let both : false ≡ true = sym (ap (is_live_named r.shared.pools) is) ∙ there.1 in cc)
  by_pool (Some target) is = saved_fits p lives o b target r s ready (sym there.0 ∙ is) (sym (ap (is_live_named r.shared.pools) is) ∙ there.1)
