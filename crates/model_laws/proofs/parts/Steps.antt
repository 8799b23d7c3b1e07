-- A step that has no fault does the same in the part of its connection and in the whole.
use Rattle.run_model.specs.declared.effect.CleanupKind.{CleanupKind}
use Rattle.run_model.specs.declared.effect.CleanupKind.TheVariants.{Plain, Pre}
use Rattle.std.proofs.Common.{◌≡◌, ℕ, ◌+◌, Bool, true, cond, List, [], ◌∷◌, ◌++◌, map, filter_map, Option, Some, None, refl, sym, ◌∙◌, ap}
use Rattle.std.proofs.lemmas.Option.{same_Some}
use Rattle.std.proofs.Math.Path.{fun_ext}
use Rattle.module_code.specs.declared.instr.Instr.TheVariants as instr
use Rattle.module_code.specs.declared.instr.PoolRef.{PoolRef}
use Rattle.module_code.specs.declared.instr.PoolRef.TheVariants as pool
use Rattle.module_code.specs.Program.{Program, pool_of_brigade, pool_of_pool}
use Rattle.run_model.specs.declared.bucket.Home.{Home}
use Rattle.run_model.specs.declared.bucket.Home.TheVariants as home
use Rattle.run_model.specs.declared.bucket.NamedBucket.{NamedBucket}
use Rattle.run_model.specs.declared.bucket.Mark.TheVariants.{Usable}
use Rattle.run_model.specs.declared.bucket.BrigadeVar.TheVariants as var
use Rattle.run_model.specs.declared.bucket.PoolVar.TheVariants as poolvar
use Rattle.run_model.specs.declared.event.Exit.TheVariants.{GoOn}
use Rattle.run_model.specs.declared.payload.Payload.{Payload}
use Rattle.run_model.specs.declared.payload.Payload.TheVariants.{Label, FileRef}
use Rattle.run_model.specs.declared.payload.Payload.TheVariants as payload
use Rattle.run_model.specs.Payloads.{is_label, labels_in}
use Rattle.run_model.specs.Pools.{Pools, is_live, is_under, created, registered, cleared, destroyed, registered_as}
use Rattle.run_model.specs.RunOrder.{run_order}
use Rattle.run_model.specs.Buckets.{cleared_bucket}
use Rattle.run_model.specs.Clearing.{cleared_var, run_down}
use Rattle.run_model.specs.Cutting.{set_aside}
use Rattle.run_model.specs.Files.{Files, let_go}
use Rattle.run_model.specs.State.{Configuration, items_of, named_at, pool_named, set_brigade, set_loose, set_pool, with_pools}
use Rattle.run_model.specs.Cursors.{CursorPlace, Nowhere, AtLoose, Within, AtEndOf, at_cursor, place_of_cursor, holder_of, variable_of}
use Rattle.run_model.specs.Effects.{on_pool, is_above, file_of, new_ref, all_referred, aside_named, with_items, with_brigade, saved_into, made_on, pool_cleared, pool_destroyed, label_registered}
use Rattle.run_model.specs.Effects.{label_killed, text_of, do_pcreate, do_create}
use Rattle.run_model.specs.BucketSteps.{items_at, set_items, changed_at, aside_into}
use Rattle.run_model.specs.declared.fault.FaultKind.{FaultKind}
use Rattle.run_model.specs.Faults.{has_pool, or_else}
use Rattle.model_laws.specs.Parts.{part, HasPart}
use Rattle.model_laws.specs.PartSteps.{in_part, LiesIn, StepsStayInPart}
use Rattle.run_model.proofs.Formed.{registered_formed}
use Rattle.model_laws.proofs.PoolsGone.{Emptying, cleared_so, destroyed_so, pool_emptied}
use Rattle.model_laws.proofs.NamedPools.{made_is, own_named}
use Rattle.model_laws.proofs.StepPools.{wanted_pool, named_lives}
use Rattle.model_laws.proofs.parts.Paths.{part_under, under_alike, above_alike, under_live}
use Rattle.model_laws.proofs.parts.Own.{own_made, own_registered, own_killed, own_cleared, own_destroyed}
use Rattle.model_laws.proofs.parts.Order.{order_alike}
use Rattle.model_laws.proofs.parts.References.{let_go_alike}
use Rattle.model_laws.proofs.parts.Quiet.{went, quiet_alike}

-- The pool that an operand names stands under c, where it is live.
pub named_under : (c : ℕ) (r : Configuration) → LiesIn c r → (o : PoolRef) (n : ℕ) → pool_named r o ≡ Some n → is_live r.shared.pools n ≡ true → is_under r.shared.pools c n ≡ true
unfolding named_at
named_under c r s pool.Conn n is live = (let same : c ≡ n = sym s.conn ∙ same_Some r.shared.conn n is in ap (is_under r.shared.pools c) (sym same) ∙ part_under r.shared.pools c s.has)
named_under c r s pool.Req n is live = s.req n is live
named_under c r s (pool.Own q) n is live = s.own q n (own_named q n r is) live

-- Setting aside.

above_part : (c target : ℕ) (ps : Pools Payload) → is_under ps c target ≡ true → (h : Home) → is_above (part c ps) target h ≡ is_above ps target h
above_part c target ps under home.Free = refl
above_part c target ps under (home.Call n) = refl
above_part c target ps under (home.Pool n) = above_alike ps c target n under
above_part c target ps under home.Ended = refl

aside_part : (c target : ℕ) (ps : Pools Payload) → is_under ps c target ≡ true → aside_named (part c ps) target ≡ aside_named ps target
aside_part c target ps under = fun_ext (λ (x : NamedBucket). ap (λ (t : Bool). record x { bucket = set_aside target t x.bucket }) (above_part c target ps under x.bucket.home))

pub ref_part : (c target : ℕ) (ps : Pools Payload) → is_under ps c target ≡ true → new_ref (part c ps) target ≡ new_ref ps target
ref_part c target ps under = fun_ext (λ (x : NamedBucket). ap (λ (t : Bool). cond t None (file_of x.bucket.kind x.bucket.content)) (above_part c target ps under x.bucket.home))

pub registered_path : (how : CleanupKind) (n : ℕ) (x : Payload) (ps : Pools Payload) → (registered_as how n x ps).path ≡ ps.path
unfolding registered_as
registered_path how n x ps = refl

registered_has : (c n : ℕ) (x : Payload) (ps : Pools Payload) → is_under ps c n ≡ true → HasPart ps c → HasPart (registered n x ps) c
registered_has c n x ps under h = record { formed = registered_formed n x ps (under_live ps c n under) h.formed; root = h.root; top = same_path ∙ h.top } where
  same_path : (registered n x ps).path c ≡ ps.path c
  same_path = ap (λ (path : ℕ → List ℕ). path c) (registered_path Plain n x ps)

pub registered_under : (c n p : ℕ) (x : Payload) (ps : Pools Payload) → is_under (registered n x ps) c p ≡ is_under ps c p
unfolding registered_as is_under
registered_under c n p x ps = refl

all_part : (c target : ℕ) (files : List ℕ) (ps : Pools Payload) → HasPart ps c → is_under ps c target ≡ true → all_referred target files (part c ps) ≡ part c (all_referred target files ps)
unfolding all_referred
all_part c target [] ps h under = refl
all_part c target (file ∷ files) ps h under =
    ap (all_referred target files) (sym (own_registered c target ps h under Plain (FileRef file)))
    ∙ all_part c target files (registered target (FileRef file) ps) (registered_has c target (FileRef file) ps under h) (registered_under c target target (FileRef file) ps ∙ under)

refs_part : (c target : ℕ) (items : List NamedBucket) (ps : Pools Payload) → HasPart ps c → is_under ps c target ≡ true
    → all_referred target (filter_map (new_ref (part c ps) target) items) (part c ps) ≡ part c (all_referred target (filter_map (new_ref ps target) items) ps)
refs_part c target items ps h under =
    ap (λ (f : NamedBucket → Option ℕ). all_referred target (filter_map f items) (part c ps)) (ref_part c target ps under)
    ∙ all_part c target (filter_map (new_ref ps target) items) ps h under

module _ (c target : ℕ) (r : Configuration) (s : LiesIn c r) (under : is_under r.shared.pools c target ≡ true) where
  aside_alike : (at : CursorPlace) → aside_into at target (in_part c r) ≡ in_part c (aside_into at target r)
  unfolding set_brigade set_loose with_pools
  aside_alike (Within b x) =
      ap (λ (f : NamedBucket → NamedBucket). set_items b (changed_at x.name f (items_at r b))
      (with_pools (all_referred target (filter_map (new_ref (part c r.shared.pools) target) (x ∷ [])) (part c r.shared.pools)) r)) (aside_part c target r.shared.pools under)
      ∙ ap (λ (ps : Pools Payload). set_items b (changed_at x.name (aside_named r.shared.pools target) (items_at r b)) (with_pools ps r)) (refs_part c target (x ∷ []) r.shared.pools s.has under)
  aside_alike (AtLoose x) =
      ap (λ (f : NamedBucket → NamedBucket). set_loose (changed_at x.name f r.call.loose)
      (with_pools (all_referred target (filter_map (new_ref (part c r.shared.pools) target) (x ∷ [])) (part c r.shared.pools)) r)) (aside_part c target r.shared.pools under)
      ∙ ap (λ (ps : Pools Payload). set_loose (changed_at x.name (aside_named r.shared.pools target) r.call.loose) (with_pools ps r)) (refs_part c target (x ∷ []) r.shared.pools s.has under)
  aside_alike Nowhere = refl
  aside_alike (AtEndOf b) = refl

  saved_alike : (o b : ℕ) → saved_into o b target (in_part c r) ≡ in_part c (saved_into o b target r)
  unfolding set_brigade with_pools
  saved_alike o b =
      ap (λ (f : NamedBucket → NamedBucket). saved f (all_referred target (filter_map (new_ref (part c r.shared.pools) target) (items_of (r.instance.brigades b))) (part c r.shared.pools)))
      (aside_part c target r.shared.pools under)
      ∙ ap (saved (aside_named r.shared.pools target)) (refs_part c target (items_of (r.instance.brigades b)) r.shared.pools s.has under) where
        saved : (NamedBucket → NamedBucket) → Pools Payload → Configuration
        saved f ps =
            set_brigade o (with_items (items_of (r.instance.brigades o) ++ map f (items_of (r.instance.brigades b))) (r.instance.brigades o))
            (set_brigade b (with_items [] (r.instance.brigades b)) (with_pools ps r))

  -- What is registered, and made.

  labelled_alike : (how : CleanupKind) (text : List ℕ) → label_registered how text target (in_part c r) ≡ in_part c (label_registered how text target r)
  unfolding with_pools
  labelled_alike how text = ap (λ (ps : Pools Payload). with_pools ps r) (sym (own_registered c target r.shared.pools s.has under how (Label text)))

  unlabelled_alike : (text : List ℕ) → label_killed text target (in_part c r) ≡ in_part c (label_killed text target r)
  unfolding with_pools
  unlabelled_alike text = ap (λ (ps : Pools Payload). with_pools ps r) (sym (own_killed c target r.shared.pools s.has under (is_label text)))

  next_kept : (part c r.shared.pools).next ≡ r.shared.pools.next
  unfolding part
  next_kept = refl

  made_alike : (q : ℕ) → set_pool q (poolvar.Made (part c r.shared.pools).next) (with_pools (created target (part c r.shared.pools)) (in_part c r)) ≡ in_part c
      (set_pool q (poolvar.Made r.shared.pools.next) (with_pools (created target r.shared.pools) r))
  unfolding with_pools set_pool
  made_alike q =
      ap (λ (n : ℕ). set_pool q (poolvar.Made n) (with_pools (created target (part c r.shared.pools)) r)) next_kept
      ∙ ap (λ (ps : Pools Payload). set_pool q (poolvar.Made r.shared.pools.next) (with_pools ps r)) (sym (own_made c target r.shared.pools s.has under))

  -- Pools that go.

  abbrev went_down : (ℕ → Bool) → List (ℕ × Payload) → Pools Payload → Files → Configuration
  went_down reached run left files = record r {
    instance = record r.instance { brigades = λ b. cleared_var reached (r.instance.brigades b) };
    call = record r.call { loose = map (cleared_bucket reached) r.call.loose };
    shared = record r.shared { pools = left; labels = r.shared.labels ++ labels_in run; files = files };
  }

  pub reached_alike : is_under (part c r.shared.pools) target ≡ is_under r.shared.pools target
  reached_alike = fun_ext (λ n. under_alike r.shared.pools c target n s.has under)

  gone_alike : (gone : Pools Payload → Pools Payload) → Emptying target r.shared.pools (gone r.shared.pools) → part c (gone r.shared.pools) ≡ gone (part c r.shared.pools)
      → pool_emptied (gone (part c r.shared.pools)) target (in_part c r) ≡ in_part c (pool_emptied (gone r.shared.pools) target r)
  unfolding with_pools run_down
  gone_alike gone so own =
      let ps = r.shared.pools in
      ap (λ (reached : ℕ → Bool). went_down reached (run_order (part c ps) target) (gone (part c ps)) (let_go (run_order (part c ps) target) (gone (part c ps)) r.shared.files)) reached_alike
      ∙ (ap (λ (run : List (ℕ × Payload)). went_down (is_under ps target) run (gone (part c ps)) (let_go run (gone (part c ps)) r.shared.files)) (order_alike c ps s.has target under)
      ∙ (ap (λ (left : Pools Payload). went_down (is_under ps target) (run_order ps target) left (let_go (run_order ps target) left r.shared.files)) (sym own)
      ∙ ap (went_down (is_under ps target) (run_order ps target) (part c (gone ps))) (let_go_alike c target ps (gone ps) s.has s.files under so r.shared.files)))

  cleared_alike : pool_cleared target (in_part c r) ≡ in_part c (pool_cleared target r)
  cleared_alike = gone_alike (cleared target) (cleared_so target r.shared.pools) (own_cleared c target r.shared.pools s.has under)

  pub destroyed_alike : pool_destroyed target (in_part c r) ≡ in_part c (pool_destroyed target r)
  destroyed_alike = gone_alike (destroyed target) (destroyed_so target r.shared.pools) (own_destroyed c target r.shared.pools s.has under)

-- What is done where a pool is named.

on_alike : (c : ℕ) (r : Configuration) (change : ℕ → Configuration → Configuration) (o : Option ℕ) → ((n : ℕ) → o ≡ Some n → change n (in_part c r) ≡ in_part c (change n r))
    → on_pool change o (in_part c r) ≡ in_part c (on_pool change o r)
on_alike c r change None each = refl
on_alike c r change (Some n) each = each n refl

with_part_brigade : (c : ℕ) (on : Option ℕ) (name : ℕ) (ps : Pools Payload) → HasPart ps c → ((n : ℕ) → on ≡ Some n → is_under ps c n ≡ true)
    → with_brigade on name (part c ps) ≡ part c (with_brigade on name ps)
unfolding with_brigade
with_part_brigade c None name ps h under = refl
with_part_brigade c (Some n) name ps h under = sym (own_registered c n ps h (under n refl) Plain (payload.Brigade name))

abbrev made : ℕ → Configuration → Option ℕ → Configuration
made q r None = r
made q r (Some parent) = set_pool q (poolvar.Made r.shared.pools.next) (with_pools (created parent r.shared.pools) r)

module _ (c : ℕ) (p : Program) (r : Configuration) (s : LiesIn c r) where
  pub wanted_under : (o : PoolRef) → has_pool r o ≡ true → (n : ℕ) → pool_named r o ≡ Some n → is_under r.shared.pools c n ≡ true
  wanted_under o lives n is = named_under c r s o n is (named_lives r o n lives is)

  pcreate_alike : (q : ℕ) → has_pool r (pool_of_pool p q) ≡ true → do_pcreate p q (in_part c r) ≡ in_part c (do_pcreate p q r)
  unfolding named_at
  pcreate_alike q lives = by_parent (pool_named r (pool_of_pool p q)) refl where
    by_parent : (o : Option ℕ) → pool_named r (pool_of_pool p q) ≡ o → made q (in_part c r) o ≡ in_part c (made q r o)
    by_parent None is = refl
    by_parent (Some parent) is = made_alike c parent r s (wanted_under (pool_of_pool p q) lives parent is) q

  create_alike : (o : ℕ) → has_pool r (pool_of_brigade p o) ≡ true → do_create p o (in_part c r) ≡ in_part c (do_create p o r)
  unfolding named_at set_brigade
  create_alike o lives = ap with_these (with_part_brigade c (pool_named r (pool_of_brigade p o)) r.shared.next r.shared.pools s.has (λ n is. wanted_under (pool_of_brigade p o) lives n is)) where
    with_these : Pools Payload → Configuration
    with_these ps =
        set_brigade o (var.Live (record { name = r.shared.next; on = pool_named r (pool_of_brigade p o); mark = Usable; items = [] }))
        (record r { shared = record r.shared { pools = ps; next = r.shared.next + 1 } })

-- the second want of an instruction
pub second_want : (a b : Option FaultKind) → or_else a b ≡ None → b ≡ None
second_want None b h = h
second_want (Some k) b h = absurd (cc)

pub steps_alike : StepsStayInPart
unfolding named_at place_of_cursor holder_of variable_of
steps_alike c p choice (instr.PCreate q) r s none = ap (went GoOn) (pcreate_alike c p r s q (wanted_pool r (pool_of_pool p q) _ none))
steps_alike c p choice (instr.PClear q) r s none =
    ap (went GoOn) (on_alike c r pool_cleared (pool_named r (pool.Own q)) (λ n is. cleared_alike c n r s (wanted_under c p r s (pool.Own q) (wanted_pool r (pool.Own q) None none) n is)))
steps_alike c p choice (instr.PDestroy q) r s none =
    ap (went GoOn) (on_alike c r pool_destroyed (pool_named r (pool.Own q)) (λ n is. destroyed_alike c n r s (wanted_under c p r s (pool.Own q) (wanted_pool r (pool.Own q) None none) n is)))
steps_alike c p choice (instr.Label q t) r s none =
    ap (went GoOn) (on_alike c r (label_registered Plain (text_of p t)) (pool_named r q) (λ n is. labelled_alike c n r s (wanted_under c p r s q (wanted_pool r q None none) n is) Plain (text_of p t)))
steps_alike c p choice (instr.PreLabel q t) r s none =
    ap (went GoOn) (on_alike c r (label_registered Pre (text_of p t)) (pool_named r q) (λ n is. labelled_alike c n r s (wanted_under c p r s q (wanted_pool r q None none) n is) Pre (text_of p t)))
steps_alike c p choice (instr.Unlabel q t) r s none =
    ap (went GoOn) (on_alike c r (label_killed (text_of p t)) (pool_named r q) (λ n is. unlabelled_alike c n r s (wanted_under c p r s q (wanted_pool r q None none) n is) (text_of p t)))
steps_alike c p choice (instr.BCreate o) r s none = ap (went GoOn) (create_alike c p r s o (wanted_pool r (pool_of_brigade p o) _ none))
steps_alike c p choice (instr.BSave o b) r s none =
    ap (went GoOn) (on_alike c r (saved_into o b) (made_on (r.instance.brigades o)) (λ n is. saved_alike c n r s (s.brigades o n (sym (made_is (r.instance.brigades o)) ∙ is)) o b))
steps_alike c p choice (instr.Aside at q) r s none =
    ap (went GoOn) (on_alike c r (aside_into (at_cursor r at)) (pool_named r q) (λ n is. aside_alike c n r s (wanted_under c p r s q (wanted_pool r q _ (second_want _ _ none)) n is) (at_cursor r at)))
steps_alike c p choice i r s none = quiet_alike (part c) p choice i r refl
