-- A step that has no fault keeps the part of each connection.
use Rattle.run_model.specs.declared.effect.CleanupKind.{CleanupKind}
use Rattle.run_model.specs.declared.effect.CleanupKind.TheVariants.{Plain, Pre}
use Rattle.std.proofs.Common.{◌≡◌, ◌≢◌, ℕ, Bool, true, false, cond, List, [], ◌∷◌, filter_map, Option, Some, None, All, inl, inr, refl, sym, ◌∙◌, ap, subst, eqb-true}
use Rattle.std.specs.List.{list_any, cons_option}
use Rattle.std.proofs.lemmas.Bool.{cases_eq}
use Rattle.std.proofs.lemmas.List.Elements.{All-nil, All-cons, All-head, All-tail}
use Rattle.module_code.specs.declared.instr.Instr.TheVariants as instr
use Rattle.module_code.specs.declared.instr.PoolRef.TheVariants as pool
use Rattle.module_code.specs.Program.{Program, pool_of_brigade, pool_of_pool}
use Rattle.run_model.specs.declared.bucket.Kind.{Kind}
use Rattle.run_model.specs.declared.bucket.Kind.TheVariants as kind
use Rattle.run_model.specs.declared.bucket.Content.{Content}
use Rattle.run_model.specs.declared.bucket.Content.TheVariants as content
use Rattle.run_model.specs.declared.bucket.Home.{Home}
use Rattle.run_model.specs.declared.bucket.Home.TheVariants as home
use Rattle.run_model.specs.declared.bucket.NamedBucket.{NamedBucket}
use Rattle.run_model.specs.declared.payload.Payload.{Payload}
use Rattle.run_model.specs.declared.payload.Payload.TheVariants.{Label, FileRef}
use Rattle.run_model.specs.declared.payload.Payload.TheVariants as payload
use Rattle.run_model.specs.Payloads.{is_label}
use Rattle.run_model.specs.Pools.{Pools, is_under, registered}
use Rattle.run_model.specs.Cutting.{LivesAs, FitsKind}
use Rattle.run_model.specs.Buckets.{is_ended, is_dead}
use Rattle.run_model.specs.State.{Configuration, items_of, pool_named, set_brigade, set_loose, set_pool, with_pools}
use Rattle.run_model.specs.Cursors.{CursorPlace, Nowhere, AtLoose, Within, AtEndOf, at_cursor, bucket_at}
use Rattle.run_model.specs.Effects.{is_above, file_of, new_ref, all_referred, with_brigade, saved_into, made_on, pool_cleared, pool_destroyed, label_registered, label_killed, text_of, do_pcreate}
use Rattle.run_model.specs.BucketSteps.{aside_into, items_at}
use Rattle.run_model.specs.declared.fault.FaultKind.{FaultKind}
use Rattle.run_model.specs.Faults.{fault, has_pool, homes_fault, home_fault, usable_fault, or_else}
use Rattle.run_model.specs.Holding.{refers}
use Rattle.model_laws.specs.Parts.{HasPart, Change, Made, Registered, Killed, Cleared, Destroyed, changed}
use Rattle.model_laws.specs.PartSteps.{OwnFiles, LiesIn}
use Rattle.model_laws.specs.PartsLast.{IsNotDestroyed, IsOwnChange, IsHeldUnder, KeepsIn, PartKept, StepsKeepParts}
use Rattle.run_model.proofs.EachBucket.{of_named}
use Rattle.run_model.proofs.CursorPlaces.{StandsThere, stands}
use Rattle.model_laws.proofs.NamedPools.{made_is, on_named, made_under_named, own_named}
use Rattle.model_laws.proofs.StepPools.{wanted_pool, referred_path}
use Rattle.model_laws.proofs.StepFiles.{no_dead, not_dead, one_dead, neither, aside_live}
use Rattle.model_laws.proofs.parts.Paths.{apart_under, part_under}
use Rattle.model_laws.proofs.parts.Lasting.{parts_last, old_last, own_last, refers_new, same_under, same_live}
use Rattle.model_laws.proofs.parts.Steps.{registered_under, wanted_under, second_want}
use Rattle.model_laws.proofs.parts.Spared.{quiet_pools}
use Rattle.model_laws.proofs.parts.Quiet.{quiet_alike}

-- Files that buckets ask a reference for.

-- only pools under c refer to the file
abbrev IsOwn : ℕ → Pools Payload → ℕ → Type 0
IsOwn c ps file = (q : ℕ) → refers ps q file ≡ true → is_under ps c q ≡ true

no_file : (above : Bool) (o : Option ℕ) (file : ℕ) → o ≡ None → cond above None o ≡ Some file → ⊥
no_file true o file is e = cc
no_file false o file is e = cc

ref_own : (c target file : ℕ) (ps : Pools Payload) → OwnFiles c ps → (name : ℕ) (k : Kind) (x : Content) (h : Home) → LivesAs k h → is_ended h ≡ false
    → IsHeldUnder c ps (record { name = name; bucket = record { kind = k; content = x; home = h } }) → cond (is_above ps target h) None (file_of k x) ≡ Some file → IsOwn c ps file
ref_own c target file ps own name kind.File (content.Range f start len) (home.Pool p) fit live held ref = by_above (is_above ps target (home.Pool p)) ref where
  by_above : (b : Bool) → cond b None (Some f) ≡ Some file → IsOwn c ps file
  by_above true e = absurd (cc)
  by_above false e = (let same : f ≡ file = cc in let here = held f start len p refl refl in subst (IsOwn c ps) same (λ q there. own.apart p q f here.1 here.0 there))
ref_own c target file ps own name kind.File (content.Range f start len) home.Free fit live held ref = absurd fit
ref_own c target file ps own name kind.File (content.Range f start len) (home.Call n) fit live held ref = absurd fit
ref_own c target file ps own name kind.File (content.Range f start len) home.Ended fit live held ref = absurd (cc)
ref_own c target file ps own name k x h fit live held ref = absurd (no_file (is_above ps target h) None file refl ref)

cons_all : (Q : ℕ → Type 0) (o : Option ℕ) (files : List ℕ) → ((file : ℕ) → o ≡ Some file → Q file) → All Q files → All Q (cons_option o files)
cons_all Q None files first rest = rest
cons_all Q (Some file) files first rest = All-cons Q file files (first file refl) rest

refs_own : (c target : ℕ) (ps : Pools Payload) → OwnFiles c ps → (xs : List NamedBucket) → All (λ x. FitsKind x.bucket) xs → list_any is_dead xs ≡ false → All (IsHeldUnder c ps) xs
    → All (IsOwn c ps) (filter_map (new_ref ps target) xs)
refs_own c target ps own [] fit live held = All-nil (IsOwn c ps)
refs_own c target ps own (x ∷ xs) fit live held =
    let alive = neither (is_dead x) (list_any is_dead xs) live in
    cons_all (IsOwn c ps) (new_ref ps target x) (filter_map (new_ref ps target) xs)
    (λ file e. ref_own c target file ps own x.name x.bucket.kind x.bucket.content x.bucket.home (All-head (λ y. FitsKind y.bucket) x xs fit).lives alive.0 (All-head (IsHeldUnder c ps) x xs held) e)
    (refs_own c target ps own xs (All-tail (λ y. FitsKind y.bucket) x xs fit) alive.1 (All-tail (IsHeldUnder c ps) x xs held))

-- References are registered one after another.

stays_own : (c target f : ℕ) (ps : Pools Payload) → is_under ps c target ≡ true → (g : ℕ) → IsOwn c ps g → IsOwn c (registered target (FileRef f) ps) g
stays_own c target f ps under g own q there = registered_under c target q (FileRef f) ps ∙ (elim (refers_new Plain target (FileRef f) ps q g there) [
  | inl old ↦ own q old
  | inr new ↦ ap (is_under ps c) new.0 ∙ under
])

all_stay : (c target f : ℕ) (ps : Pools Payload) → is_under ps c target ≡ true → (files : List ℕ) → All (IsOwn c ps) files → All (IsOwn c (registered target (FileRef f) ps)) files
all_stay c target f ps under [] all = All-nil (IsOwn c (registered target (FileRef f) ps))
all_stay c target f ps under (g ∷ gs) all =
    All-cons (IsOwn c (registered target (FileRef f) ps)) g gs (stays_own c target f ps under g (All-head (IsOwn c ps) g gs all)) (all_stay c target f ps under gs (All-tail (IsOwn c ps) g gs all))

all_own : (c d target : ℕ) (files : List ℕ) (ps : Pools Payload) → HasPart ps c → HasPart ps d → is_under ps c target ≡ true → All (IsOwn c ps) files → OwnFiles d ps
    → OwnFiles d (all_referred target files ps)
unfolding all_referred
all_own c d target [] ps hc hd under all own = own
all_own c d target (f ∷ fs) ps hc hd under all own =
    let new : Pools Payload = registered target (FileRef f) ps in
    all_own c d target fs new (parts_last (Registered Plain (FileRef f)) c c target ps hc hc under tt) (parts_last (Registered Plain (FileRef f)) c d target ps hc hd under tt)
    (registered_under c target target (FileRef f) ps ∙ under) (all_stay c target f ps under fs (All-tail (IsOwn c ps) f fs all))
    (own_last (Registered Plain (FileRef f)) c d target ps hc hd under (λ file is. subst (IsOwn c ps) (eqb-true f file is) (All-head (IsOwn c ps) f fs all)) own)

all_has : (c d target : ℕ) (files : List ℕ) (ps : Pools Payload) → HasPart ps c → HasPart ps d → is_under ps c target ≡ true → HasPart (all_referred target files ps) d
unfolding all_referred
all_has c d target [] ps hc hd under = hd
all_has c d target (f ∷ fs) ps hc hd under =
    all_has c d target fs (registered target (FileRef f) ps) (parts_last (Registered Plain (FileRef f)) c c target ps hc hc under tt) (parts_last (Registered Plain (FileRef f)) c d target ps hc hd under tt)
    (registered_under c target target (FileRef f) ps ∙ under)

-- What a step keeps.

itself : (d : ℕ) (ps : Pools Payload) → HasPart ps d → PartKept d ps ps
itself d ps h = record { has = h; old = λ n lt lies live. lies live; files = λ own. own }

module _ (c d : ℕ) (ps : Pools Payload) (hc : HasPart ps c) (hd : HasPart ps d) where
  changed_kept : (change : Change) (n : ℕ) → is_under ps c n ≡ true → IsNotDestroyed change d n → IsOwnChange change c ps → PartKept d ps (changed change n ps)
  changed_kept change n under spared own = record {
    has = parts_last change c d n ps hc hd under spared;
    old = λ m lt lies live. old_last change d n m ps lt lies live;
    files = λ owned. own_last change c d n ps hc hd under own owned;
  }

  referred_kept : (target : ℕ) (files : List ℕ) → is_under ps c target ≡ true → All (IsOwn c ps) files → PartKept d ps (all_referred target files ps)
  referred_kept target files under all =
      let new : Pools Payload = all_referred target files ps in
      let same : (m : ℕ) → new.path m ≡ ps.path m = λ m. ap (λ (f : ℕ → List ℕ). f m) (referred_path target files ps) in
      record {
        has = all_has c d target files ps hc hd under;
        old = λ m lt lies live. same_under ps new d m (same m) ∙ lies (sym (same_live ps new m (same m)) ∙ live);
        files = λ own. all_own c d target files ps hc hd under all own;
      }

  -- a pool under c that is not c is no pool right under the root
  not_top : (n : ℕ) → is_under ps c n ≡ true → n ≢ c → d ≢ n
  not_top n under ne same = elim (cases_eq c d) [
    | inl one ↦ ne (sym (one ∙ same))
    | inr apart ↦
        (let off : is_under ps d n ≡ false = apart_under ps c d n hc hd apart under in
        let there : is_under ps d n ≡ true = ap (is_under ps d) (sym same) ∙ part_under ps d hd in
        absurd (cc))
  ]

abbrev Keeps : ℕ → Pools Payload → Configuration → Type 0
Keeps d ps r = PartKept d ps r.shared.pools

module _ (c d : ℕ) (p : Program) (r : Configuration) (s : LiesIn c r) (k : KeepsIn c r) (other : HasPart r.shared.pools d) where
  kept : (change : Change) (n : ℕ) → is_under r.shared.pools c n ≡ true → IsNotDestroyed change d n → IsOwnChange change c r.shared.pools → PartKept d r.shared.pools (changed change n r.shared.pools)
  kept change n under spared own = changed_kept c d r.shared.pools s.has other change n under spared own

  aside_keeps : (at : CursorPlace) (target : ℕ) → StandsThere r at → home_fault (bucket_at at) ≡ None → is_under r.shared.pools c target ≡ true → Keeps d r.shared.pools (aside_into at target r)
  unfolding set_brigade set_loose with_pools
  aside_keeps (Within b x) target there live under = referred_kept c d r.shared.pools s.has other target _ under
      (refs_own c target r.shared.pools s.files (x ∷ [])
      (All-cons (λ y. FitsKind y.bucket) x [] (of_named (λ y. FitsKind y.bucket) x.name x (items_at r b) there.1 (k.buckets.brigades b)) (All-nil (λ y. FitsKind y.bucket)))
      (one_dead x (not_dead x live))
      (All-cons (IsHeldUnder c r.shared.pools) x [] (of_named (IsHeldUnder c r.shared.pools) x.name x (items_at r b) there.1 (k.brigades b)) (All-nil (IsHeldUnder c r.shared.pools))))
  aside_keeps (AtLoose x) target there live under = referred_kept c d r.shared.pools s.has other target _ under
      (refs_own c target r.shared.pools s.files (x ∷ [])
      (All-cons (λ y. FitsKind y.bucket) x [] (of_named (λ y. FitsKind y.bucket) x.name x r.call.loose there k.buckets.loose) (All-nil (λ y. FitsKind y.bucket)))
      (one_dead x (not_dead x live))
      (All-cons (IsHeldUnder c r.shared.pools) x [] (of_named (IsHeldUnder c r.shared.pools) x.name x r.call.loose there k.loose) (All-nil (IsHeldUnder c r.shared.pools))))
  aside_keeps Nowhere target there live under = itself d r.shared.pools other
  aside_keeps (AtEndOf b) target there live under = itself d r.shared.pools other

  saved_keeps : (o b target : ℕ) → list_any is_dead (items_of (r.instance.brigades b)) ≡ false → is_under r.shared.pools c target ≡ true → Keeps d r.shared.pools (saved_into o b target r)
  unfolding set_brigade with_pools
  saved_keeps o b target live under = referred_kept c d r.shared.pools s.has other target _ under
      (refs_own c target r.shared.pools s.files (items_of (r.instance.brigades b)) (k.buckets.brigades b) live (k.brigades b))

  labelled_keeps : (how : CleanupKind) (text : List ℕ) (n : ℕ) → is_under r.shared.pools c n ≡ true → Keeps d r.shared.pools (label_registered how text n r)
  unfolding with_pools
  labelled_keeps how text n under = kept (Registered how (Label text)) n under tt (λ file is. absurd (cc))

  unlabelled_keeps : (text : List ℕ) (n : ℕ) → is_under r.shared.pools c n ≡ true → Keeps d r.shared.pools (label_killed text n r)
  unfolding with_pools
  unlabelled_keeps text n under = kept (Killed (is_label text)) n under tt tt

  cleared_keeps : (n : ℕ) → is_under r.shared.pools c n ≡ true → Keeps d r.shared.pools (pool_cleared n r)
  unfolding with_pools
  cleared_keeps n under = kept Cleared n under tt tt

  destroyed_keeps : (n : ℕ) → is_under r.shared.pools c n ≡ true → n ≢ c → Keeps d r.shared.pools (pool_destroyed n r)
  unfolding with_pools
  destroyed_keeps n under ne = kept Destroyed n under (not_top c d r.shared.pools s.has other n under ne) tt

  pcreate_keeps : (q : ℕ) → has_pool r (pool_of_pool p q) ≡ true → Keeps d r.shared.pools (do_pcreate p q r)
  unfolding set_pool with_pools
  pcreate_keeps q lives =
      made_under_named (Keeps d r.shared.pools) p q r (itself d r.shared.pools other) (λ parent is. kept Made parent (wanted_under c p r s (pool_of_pool p q) lives parent is) tt tt)

  brigade_keeps : (on : Option ℕ) (name : ℕ) → ((n : ℕ) → on ≡ Some n → is_under r.shared.pools c n ≡ true) → PartKept d r.shared.pools (with_brigade on name r.shared.pools)
  unfolding with_brigade
  brigade_keeps None name under = itself d r.shared.pools other
  brigade_keeps (Some n) name under = kept (Registered Plain (payload.Brigade name)) n (under n refl) tt (λ file is. absurd (cc))

alone : (a : Option FaultKind) → or_else a None ≡ None → a ≡ None
alone None h = refl
alone (Some fault) h = absurd (cc)

pub steps_keep : StepsKeepParts
unfolding set_brigade
steps_keep c d p choice (instr.PCreate q) r s k other none = pcreate_keeps c d p r s k other q (wanted_pool r (pool_of_pool p q) _ none)
steps_keep c d p choice (instr.PClear q) r s k other none =
    on_named (Keeps d r.shared.pools) pool_cleared (pool_named r (pool.Own q)) r (itself d r.shared.pools other)
    (λ n is. cleared_keeps c d p r s k other n (wanted_under c p r s (pool.Own q) (wanted_pool r (pool.Own q) None none) n is))
steps_keep c d p choice (instr.PDestroy q) r s k other none =
    on_named (Keeps d r.shared.pools) pool_destroyed (pool_named r (pool.Own q)) r (itself d r.shared.pools other)
    (λ n is. destroyed_keeps c d p r s k other n (wanted_under c p r s (pool.Own q) (wanted_pool r (pool.Own q) None none) n is) (k.below q n (own_named q n r is)))
steps_keep c d p choice (instr.Label q t) r s k other none =
    on_named (Keeps d r.shared.pools) (label_registered Plain (text_of p t)) (pool_named r q) r (itself d r.shared.pools other)
    (λ n is. labelled_keeps c d p r s k other Plain (text_of p t) n (wanted_under c p r s q (wanted_pool r q None none) n is))
steps_keep c d p choice (instr.PreLabel q t) r s k other none =
    on_named (Keeps d r.shared.pools) (label_registered Pre (text_of p t)) (pool_named r q) r (itself d r.shared.pools other)
    (λ n is. labelled_keeps c d p r s k other Pre (text_of p t) n (wanted_under c p r s q (wanted_pool r q None none) n is))
steps_keep c d p choice (instr.Unlabel q t) r s k other none =
    on_named (Keeps d r.shared.pools) (label_killed (text_of p t)) (pool_named r q) r (itself d r.shared.pools other)
    (λ n is. unlabelled_keeps c d p r s k other (text_of p t) n (wanted_under c p r s q (wanted_pool r q None none) n is))
steps_keep c d p choice (instr.BCreate o) r s k other none =
    brigade_keeps c d p r s k other (pool_named r (pool_of_brigade p o)) r.shared.next (λ n is. wanted_under c p r s (pool_of_brigade p o) (wanted_pool r (pool_of_brigade p o) _ none) n is)
steps_keep c d p choice (instr.BSave o b) r s k other none =
    on_named (Keeps d r.shared.pools) (saved_into o b) (made_on (r.instance.brigades o)) r (itself d r.shared.pools other)
    (λ n is. saved_keeps c d p r s k other o b n (no_dead (items_of (r.instance.brigades b)) (alone (homes_fault (items_of (r.instance.brigades b)))
    (second_want (usable_fault (r.instance.brigades b)) _ (second_want (usable_fault (r.instance.brigades o)) _ none)))) (s.brigades o n (sym (made_is (r.instance.brigades o)) ∙ is)))
steps_keep c d p choice (instr.Aside at q) r s k other none =
    on_named (Keeps d r.shared.pools) (aside_into (at_cursor r at)) (pool_named r q) r (itself d r.shared.pools other)
    (λ n is. aside_keeps c d p r s k other (at_cursor r at) n (stands r (r.call.cursors at)) (aside_live r at q none) (wanted_under c p r s q (wanted_pool r q _ (second_want _ _ none)) n is))
steps_keep c d p choice i r s k other none =
    subst (PartKept d r.shared.pools) (sym (quiet_pools p choice i r (quiet_alike (λ (old : Pools Payload). r.shared.pools) p choice i r refl))) (itself d r.shared.pools other)
