-- A step keeps the files of FILE buckets open.
use Rattle.run_model.specs.declared.effect.CleanupKind.{CleanupKind}
use Rattle.run_model.specs.declared.effect.CleanupKind.TheVariants.{Plain, Pre}
use Rattle.std.proofs.Common.{◌≡◌, ℕ, ◌<◌, ◌⊎◌, arith, eqb-true, Bool, true, false, ◌||◌, ◌==◌, cond, List, [], ◌≤◌, ◌∷◌, map, filter_map, Option, Some, None, is_some, All, inl, inr, refl, sym, ◌∙◌}
use Rattle.std.proofs.Common.{ap, subst}
use Rattle.std.specs.List.{cons_option, list_any}
use Rattle.std.proofs.lemmas.Bool.Decides.{nat_tests}
use Rattle.std.proofs.lemmas.List.Elements.{All-nil, All-cons, All-head, All-tail}
use Rattle.module_code.specs.declared.instr.PoolRef.{PoolRef}
use Rattle.module_code.specs.declared.instr.PoolRef.TheVariants as pool
use Rattle.module_code.specs.declared.instr.Instr.{Instr}
use Rattle.module_code.specs.declared.instr.Instr.TheVariants as instr
use Rattle.module_code.specs.Program.{Program, pool_of_brigade}
use Rattle.run_model.specs.declared.fault.FaultKind.TheVariants.{F5}
use Rattle.run_model.specs.declared.bucket.Kind.{Kind}
use Rattle.run_model.specs.declared.bucket.Kind.TheVariants as kind
use Rattle.run_model.specs.declared.bucket.Content.{Content}
use Rattle.run_model.specs.declared.bucket.Content.TheVariants as content
use Rattle.run_model.specs.declared.bucket.Home.{Home}
use Rattle.run_model.specs.declared.bucket.Home.TheVariants as home
use Rattle.run_model.specs.declared.bucket.Bucket.{Bucket}
use Rattle.run_model.specs.declared.bucket.NamedBucket.{NamedBucket}
use Rattle.run_model.specs.declared.bucket.PoolVar.TheVariants as poolvar
use Rattle.run_model.specs.declared.bucket.BrigadeVar.{BrigadeVar}
use Rattle.run_model.specs.declared.payload.Payload.{Payload}
use Rattle.run_model.specs.declared.payload.Payload.TheVariants.{Label}
use Rattle.run_model.specs.Indexed.{upd}
use Rattle.run_model.specs.Pools.{Pools, is_under, created, registered, registered_as}
use Rattle.run_model.specs.Buckets.{is_dead, is_ended, end_call, end_pools, returned_bucket, cleared_bucket}
use Rattle.run_model.specs.Cutting.{set_aside, FitsKind, LivesAs}
use Rattle.run_model.specs.Files.{Files}
use Rattle.run_model.specs.Clearing.{run_down}
use Rattle.run_model.specs.State.{Configuration, items_of, set_pool, with_pools, set_brigade, set_loose, pool_named}
use Rattle.run_model.specs.Faults.{WPool, WCursor, OnBucket, usable_fault, homes_fault, home_fault, or_else, fault_want}
use Rattle.run_model.specs.EffectOf.{effect_of}
use Rattle.run_model.specs.Steps.{on_pool, with_brigade, do_create, do_clean, do_concat, do_pass, do_return, cleaned, handed_over, files_let_go, label_registered}
use Rattle.run_model.specs.Steps.{label_killed, text_of, is_above, aside_named, file_of, new_ref, all_referred, saved_into, made_on}
use Rattle.run_model.specs.Pieces.{has_range}
use Rattle.run_model.specs.Sound.{SoundPools, SoundBuckets, Sound, count_named}
use Rattle.run_model.specs.BrigadeLists.{bucket_named}
use Rattle.run_model.specs.Cursors.{CursorPlace, Nowhere, AtLoose, Within, AtEndOf, bucket_at, at_cursor}
use Rattle.run_model.specs.BucketSteps.{items_at, changed_at, aside_into}
use Rattle.model_laws.specs.Laws.{changes_pools, is_clear, ChangesOnly, HasReference, SoundFiles, StepKeepsFiles}
use Rattle.run_model.specs.Holding.{refers}
use Rattle.run_model.specs.declared.effect.ClearKind.{ClearKind}
use Rattle.run_model.specs.declared.effect.ClearKind.TheVariants.{Clear, Destroy}
use Rattle.run_model.specs.Effects.{after_clear}
use Rattle.model_laws.proofs.PoolsGone.{on_emptied}
use Rattle.model_laws.proofs.NamedPools.{on_named, made_under_named, own_named}
use Rattle.run_model.proofs.CursorPlaces.{StandsThere, stands}
use Rattle.run_model.proofs.EachBucket.{of_named, each_changed, only_one, loose_once, brigade_once}
use Rattle.model_laws.proofs.Origins.{PassesOn, Holds, front_back, rest_back, made_apart, quiet_leaves}
use Rattle.model_laws.proofs.Unchanged.{step_changes_only}
use Rattle.model_laws.proofs.PoolsKept.{req_apart}
use Rattle.model_laws.proofs.EachItem.{none, cleaned_each, handed_over_each, written_each, items_each, moved_each, mapped_each, cleared_each, left_each}
use Rattle.model_laws.proofs.Marks.{first_none, second_none}
use Rattle.model_laws.proofs.Kept.{files_go}
use Rattle.model_laws.proofs.MadeBrigades.{brigade_refers, brigade_back}
use Rattle.run_model.proofs.References.{one_of, or_left, or_right, refers_given, referred_at, created_refers, created_back, registered_refers, registered_back, all_grow, all_there, all_back, registered_as_refers, registered_as_back}
use Rattle.run_model.proofs.References.{killed_refers, Emptied, emptied_refers, emptied_back}

-- Lists and variables.

abbrev pub HeldList : Pools Payload → List NamedBucket → Type 0
HeldList ps xs = All (HasReference ps) xs

pub weaker : (ps new : Pools Payload) → ((p file : ℕ) → refers ps p file ≡ true → refers new p file ≡ true) → (xs : List NamedBucket) → HeldList ps xs → HeldList new xs
weaker ps new grow xs h = λ k d lt. λ file start len p c at. grow p file (h k d lt file start len p c at)

-- a home that a return leaves alive
pub left_home : (call : ℕ) (h : Home) (p : ℕ) → end_call call h ≡ home.Pool p → h ≡ home.Pool p
left_home call home.Free p e = e
left_home call (home.Call n) p e = by_test (n == call) e where
  by_test : (b : Bool) → cond b home.Ended (home.Call n) ≡ home.Pool p → home.Call n ≡ home.Pool p
  by_test true e = absurd (cc)
  by_test false e = e
left_home call (home.Pool n) p e = e
left_home call home.Ended p e = e

pub returned_held : (call : ℕ) (ps : Pools Payload) (x : NamedBucket) → HasReference ps x → HasReference ps (returned_bucket call x)
returned_held call ps x h = λ file start len p c at. h file start len p c (left_home call _ p at)

-- a home that a clear leaves alive
pub spared_home : (reached : ℕ → Bool) (h : Home) (p : ℕ) → end_pools reached h ≡ home.Pool p → (h ≡ home.Pool p) × (reached p ≡ false)
spared_home reached home.Free p e = absurd (cc)
spared_home reached (home.Call n) p e = absurd (cc)
spared_home reached (home.Pool n) p e = by_test (reached n) refl e where
  by_test : (b : Bool) → reached n ≡ b → cond b home.Ended (home.Pool n) ≡ home.Pool p → (home.Pool n ≡ home.Pool p) × (reached p ≡ false)
  by_test true is e = absurd (cc)
  by_test false is e = (e, let same : n ≡ p = cc in sym (ap reached same) ∙ is)
spared_home reached home.Ended p e = absurd (cc)

-- a bucket that a clear reaches
pub cleared_held : (reached : ℕ → Bool) (ps new : Pools Payload) → ((p file : ℕ) → reached p ≡ false → refers ps p file ≡ true → refers new p file ≡ true) → (x : NamedBucket) → HasReference ps x
    → HasReference new (cleared_bucket reached x)
cleared_held reached ps new keeps x h = λ file start len p c at. let old = spared_home reached _ p at in keeps p file old.1 (h file start len p c old.0)

-- Runs.

-- where no reference goes, and files are open that have one
pub kept_files : (files : List (ℕ × ℕ)) (r new : Configuration)
    → ((p file : ℕ) → refers r.shared.pools p file ≡ true → refers new.shared.pools p file ≡ true)
    → ((p file : ℕ) → refers new.shared.pools p file ≡ true → is_some (new.shared.files.opened file) ≡ true)
    → ((b : ℕ) → HeldList new.shared.pools (items_of (new.instance.brigades b))) → HeldList new.shared.pools new.call.loose → new.shared.req ≡ r.shared.req
    → SoundFiles files r → SoundFiles files new
kept_files files r new grow lasts brigades loose req s =
    record { lasts = lasts; brigades = brigades; loose = loose; request = λ file end q has is. grow q file (s.request file end q has (sym req ∙ is)) }

-- where pools and open files are as they were
pub same_files : (files : List (ℕ × ℕ)) (r new : Configuration) → new.shared.pools ≡ r.shared.pools → new.shared.files.opened ≡ r.shared.files.opened → new.shared.req ≡ r.shared.req
    → ((b : ℕ) → HeldList r.shared.pools (items_of (new.instance.brigades b))) → HeldList r.shared.pools new.call.loose → SoundFiles files r → SoundFiles files new
same_files files r new pools opened req brigades loose s =
    kept_files files r new (λ p file h. subst (λ (ps : Pools Payload). refers ps p file ≡ true) (sym pools) h)
    (λ p file h. ap (λ (g : ℕ → Option (List ℕ)). is_some (g file)) opened ∙ s.lasts p file (subst (λ (ps : Pools Payload). refers ps p file ≡ true) pools h))
    (λ b. subst (λ (ps : Pools Payload). HeldList ps (items_of (new.instance.brigades b))) (sym pools) (brigades b))
    (subst (λ (ps : Pools Payload). HeldList ps new.call.loose) (sym pools) loose) req s

-- where brigades, loose buckets and open files are as they were, and no reference goes or comes
pub refilled_files : (files : List (ℕ × ℕ)) (r new : Configuration)
    → ((p file : ℕ) → refers r.shared.pools p file ≡ true → refers new.shared.pools p file ≡ true) → ((p file : ℕ) → refers new.shared.pools p file ≡ true → refers r.shared.pools p file ≡ true)
    → new.instance.brigades ≡ r.instance.brigades → new.call ≡ r.call → new.shared.files ≡ r.shared.files → new.shared.req ≡ r.shared.req → SoundFiles files r → SoundFiles files new
refilled_files files r new grow back brigades call same req s =
    kept_files files r new grow (λ p file h. ap (λ (fs : Files). is_some (fs.opened file)) same ∙ s.lasts p file (back p file h))
    (λ b. weaker r.shared.pools new.shared.pools grow _ (subst (λ (g : ℕ → BrigadeVar). HeldList r.shared.pools (items_of (g b))) (sym brigades) (s.brigades b)))
    (weaker r.shared.pools new.shared.pools grow _ (subst (λ c. HeldList r.shared.pools c) (sym (ap (λ c. c.loose) call)) s.loose)) req s

-- The pool n goes or is emptied; what is said of the request's pool is told.
pub went_and : (files : List (ℕ × ℕ)) (n : ℕ) (r : Configuration) (ps : Pools Payload) → Emptied n r.shared.pools ps → SoundPools r
    → ((file end q : ℕ) → has_range files file end ≡ true → r.shared.req ≡ Some q → refers ps q file ≡ true)
    → (old : List (ℕ × ℕ)) → SoundFiles old r → SoundFiles files (files_let_go n r (with_pools ps (run_down n r)))
unfolding with_pools run_down
went_and files n r ps e pools request old s = record {
  lasts = λ p file h.
      let old = emptied_back n r.shared.pools ps e p file h in
      let lt = refers_given r.shared.pools p file pools.formed old.1 in
      let there = referred_at ps p file (subst (λ (k : ℕ). p < k) (sym e.next) lt) h in
      ap is_some ((files_go n r ps).stays file there) ∙ s.lasts p file old.1;
  brigades = λ b. cleared_each (HasReference r.shared.pools) (HasReference ps) (is_under r.shared.pools n) spared (r.instance.brigades b) (s.brigades b);
  loose = mapped_each (HasReference r.shared.pools) (HasReference ps) (cleared_bucket (is_under r.shared.pools n)) spared r.call.loose s.loose;
  request = request;
} where
  spared : (x : NamedBucket) → HasReference r.shared.pools x → HasReference ps (cleared_bucket (is_under r.shared.pools n) x)
  spared = cleared_held (is_under r.shared.pools n) r.shared.pools ps (λ p file off there. emptied_refers n r.shared.pools ps e p file off there)

-- the same where the request's pool stays
went_files : (files : List (ℕ × ℕ)) (n : ℕ) (r : Configuration) (ps : Pools Payload) → Emptied n r.shared.pools ps → SoundPools r
    → ((m : ℕ) → r.shared.req ≡ Some m → is_under r.shared.pools n m ≡ false) → SoundFiles files r → SoundFiles files (files_let_go n r (with_pools ps (run_down n r)))
went_files files n r ps e pools req s = went_and files n r ps e pools (λ file end q has is. emptied_refers n r.shared.pools ps e q file (req q is) (s.request file end q has is)) files s

-- an own pool does not stand above the request's
pub own_apart : (q n : ℕ) (r : Configuration) → r.instance.pools q ≡ poolvar.Made n → SoundPools r → (m : ℕ) → r.shared.req ≡ Some m → is_under r.shared.pools n m ≡ false
own_apart q n r is s m req = let own = s.own q n is in req_apart n m r own.0 (λ same. own.2 (req ∙ ap (λ (k : ℕ). Some k) same)) req s

emptied_files : (files : List (ℕ × ℕ)) (k : ClearKind) (q : ℕ) (r : Configuration) → SoundPools r → SoundFiles files r
    → SoundFiles files (on_pool (after_clear k) (pool_named r (pool.Own q)) r)
emptied_files files k q r s held = on_emptied (SoundFiles files) k q r held (λ n left e so. went_files files n r left so.payloads s (own_apart q n r (own_named q n r e) s) held)

made_files : (files : List (ℕ × ℕ)) (parent q : ℕ) (r : Configuration) → SoundPools r → SoundFiles files r
    → SoundFiles files (set_pool q (poolvar.Made r.shared.pools.next) (with_pools (created parent r.shared.pools) r))
unfolding set_pool with_pools
made_files files parent q r pools s =
    refilled_files files r (set_pool q (poolvar.Made r.shared.pools.next) (with_pools (created parent r.shared.pools) r))
    (λ p file h. created_refers parent r.shared.pools p file pools.formed h) (λ p file h. created_back parent r.shared.pools p file h) refl refl refl refl s

-- a label is no reference
pub label_back : (how : CleanupKind) (n : ℕ) (text : List ℕ) (ps : Pools Payload) (p file : ℕ) → refers (registered_as how n (Label text) ps) p file ≡ true → refers ps p file ≡ true
label_back how n text ps p file there = elim (registered_as_back how n (Label text) ps p file there) [ inl h ↦ h | inr e ↦ absurd (cc) ]

labelled_files : (k : CleanupKind) (files : List (ℕ × ℕ)) (text : List ℕ) (n : ℕ) (r : Configuration) → SoundFiles files r → SoundFiles files (label_registered k text n r)
unfolding with_pools
labelled_files k files text n r s =
    refilled_files files r (label_registered k text n r) (λ p file h. registered_as_refers k n (Label text) r.shared.pools p file h) (label_back k n text r.shared.pools) refl refl refl refl s

unlabelled_files : (files : List (ℕ × ℕ)) (text : List ℕ) (n : ℕ) (r : Configuration) → SoundFiles files r → SoundFiles files (label_killed text n r)
unfolding with_pools
unlabelled_files files text n r s =
    refilled_files files r (label_killed text n r) (λ p file h. killed_refers n text r.shared.pools p file ∙ h) (λ p file h. sym (killed_refers n text r.shared.pools p file) ∙ h) refl refl refl refl s

-- Setting aside.

-- what takes no reference
no_ref : (b : Bool) (file : ℕ) → ◌≡◌ {A = Option ℕ} (cond b None None) (Some file) → ⊥
no_ref true file e = cc
no_ref false file e = cc

-- what is true of each file that has a reference is true of the file of a bucket that takes a further one
ref_open : (ps : Pools Payload) (target file : ℕ) (Q : ℕ → Type 0) → ((p file : ℕ) → refers ps p file ≡ true → Q file)
    → (name : ℕ) (k : Kind) (c : Content) (h : Home) → LivesAs k h → is_ended h ≡ false → HasReference ps (record { name = name; bucket = record { kind = k; content = c; home = h } })
    → cond (is_above ps target h) None (file_of k c) ≡ Some file → Q file
ref_open ps target file Q lasts name kind.File (content.Range f start len) (home.Pool p) fit live held ref = by_above (is_above ps target (home.Pool p)) ref where
  by_above : (b : Bool) → cond b None (Some f) ≡ Some file → Q file
  by_above true e = absurd (cc)
  by_above false e = let same : f ≡ file = cc in subst Q same (lasts p f (held f start len p refl refl))
ref_open ps target file Q lasts name kind.File (content.Range f start len) home.Free fit live held ref = absurd fit
ref_open ps target file Q lasts name kind.File (content.Range f start len) (home.Call n) fit live held ref = absurd fit
ref_open ps target file Q lasts name kind.File (content.Range f start len) home.Ended fit live held ref = absurd (cc)
ref_open ps target file Q lasts name k c h fit live held ref = absurd (no_ref (is_above ps target h) file ref)

-- among what the buckets give
any_cons : (o : Option ℕ) (rest : List ℕ) (file : ℕ) → list_any (λ g. g == file) (cons_option o rest) ≡ true → (o ≡ Some file) ⊎ (list_any (λ g. g == file) rest ≡ true)
any_cons None rest file h = inr h
any_cons (Some g) rest file h = elim (one_of (g == file) (list_any (λ g. g == file) rest) h) [
  | inl here ↦ inl (ap (λ (n : ℕ). Some n) (eqb-true g file here))
  | inr there ↦ inr there
]

pub same_number : (n : ℕ) → (n == n) ≡ true
same_number n = grind (arith, nat_tests)

head_any : (o : Option ℕ) (rest : List ℕ) (file : ℕ) → o ≡ Some file → list_any (λ g. g == file) (cons_option o rest) ≡ true
head_any o rest file e = ap (λ (x : Option ℕ). list_any (λ g. g == file) (cons_option x rest)) e ∙ or_left (file == file) (list_any (λ g. g == file) rest) (same_number file)

tail_any : (o : Option ℕ) (rest : List ℕ) (file : ℕ) → list_any (λ g. g == file) rest ≡ true → list_any (λ g. g == file) (cons_option o rest) ≡ true
tail_any None rest file h = h
tail_any (Some g) rest file h = or_right (g == file) (list_any (λ g. g == file) rest) h

pub neither : (a b : Bool) → (a || b) ≡ false → (a ≡ false) × (b ≡ false)
neither true b h = absurd (cc)
neither false b h = (refl, h)

pub refs_open : (ps : Pools Payload) (target file : ℕ) (Q : ℕ → Type 0) → ((p file : ℕ) → refers ps p file ≡ true → Q file)
    → (xs : List NamedBucket) → All (λ x. FitsKind x.bucket) xs → list_any is_dead xs ≡ false → HeldList ps xs
    → list_any (λ g. g == file) (filter_map (new_ref ps target) xs) ≡ true → Q file
refs_open ps target file Q lasts [] proper live held h = absurd (cc)
refs_open ps target file Q lasts (x ∷ xs) proper live held h =
    let alive = neither (is_dead x) (list_any is_dead xs) live in
    elim (any_cons (new_ref ps target x) (filter_map (new_ref ps target) xs) file h) [
      | inl here ↦ ref_open ps target file Q lasts x.name x.bucket.kind x.bucket.content x.bucket.home (All-head (λ x. FitsKind x.bucket) x xs proper).lives alive.0
          (All-head (HasReference ps) x xs held) here
      | inr there ↦ refs_open ps target file Q lasts xs (All-tail (λ x. FitsKind x.bucket) x xs proper) alive.1 (All-tail (HasReference ps) x xs held) there
    ]

-- a bucket that is set aside is held, where the file that it asks for has a reference in the target
aside_one : (ps new : Pools Payload) (target name : ℕ) → ((p file : ℕ) → refers ps p file ≡ true → refers new p file ≡ true) → (k : Kind) (c : Content) (h : Home) (above : Bool)
    → is_above ps target h ≡ above
    → HasReference ps (record { name = name; bucket = record { kind = k; content = c; home = h } })
    → ((file : ℕ) → cond (is_above ps target h) None (file_of k c) ≡ Some file → refers new target file ≡ true)
    → HasReference new (record { name = name; bucket = set_aside target above (record { kind = k; content = c; home = h }) })
aside_one ps new target name grow kind.Transient c h above is held asked = λ file start len p e at. absurd (cc)
aside_one ps new target name grow kind.File c h false is held asked = λ file start len p e at.
    let same : target ≡ p = pool_same target p at in
    subst (λ (q : ℕ). refers new q file ≡ true) same (asked file (ap (λ (b : Bool). cond b None (file_of kind.File c)) is ∙ ap (file_of kind.File) e)) where
      pool_same : (n m : ℕ) → home.Pool n ≡ home.Pool m → n ≡ m
      pool_same n m e = cc
aside_one ps new target name grow k c h above is held asked = λ file start len p e at. grow p file (held file start len p e at)

aside_held : (ps new : Pools Payload) (target : ℕ) → ((p file : ℕ) → refers ps p file ≡ true → refers new p file ≡ true) → (xs : List NamedBucket) → HeldList ps xs
    → ((file : ℕ) → list_any (λ g. g == file) (filter_map (new_ref ps target) xs) ≡ true → refers new target file ≡ true) → HeldList new (map (aside_named ps target) xs)
aside_held ps new target grow [] held asked = none (HasReference new)
aside_held ps new target grow (x ∷ xs) held asked =
    All-cons (HasReference new) (aside_named ps target x) (map (aside_named ps target) xs)
    (aside_one ps new target x.name grow x.bucket.kind x.bucket.content x.bucket.home (is_above ps target x.bucket.home) refl (All-head (HasReference ps) x xs held)
    (λ file e. asked file (head_any (new_ref ps target x) (filter_map (new_ref ps target) xs) file e)))
    (aside_held ps new target grow xs (All-tail (HasReference ps) x xs held) (λ file h. asked file (tail_any (new_ref ps target x) (filter_map (new_ref ps target) xs) file h)))

save_files : (files : List (ℕ × ℕ)) (o b target : ℕ) (r : Configuration) → SoundBuckets r → list_any is_dead (items_of (r.instance.brigades b)) ≡ false → SoundFiles files r
    → SoundFiles files (saved_into o b target r)
unfolding set_brigade with_pools
save_files files o b target r buckets live s =
    let ps = r.shared.pools in
    let items : List NamedBucket = items_of (r.instance.brigades b) in
    let refs : List ℕ = filter_map (new_ref ps target) items in
    let new : Pools Payload = all_referred target refs ps in
    let grow : ((p file : ℕ) → refers ps p file ≡ true → refers new p file ≡ true) = λ p file h. all_grow target refs ps p file h in
    let held : HeldList new (map (aside_named ps target) items) = aside_held ps new target grow items (s.brigades b) (λ file h. all_there target refs ps file h) in
    kept_files files r (saved_into o b target r) grow
    (λ p file h. elim (all_back target refs ps p file h) [
      | inl old ↦ s.lasts p file old
      | inr asked ↦ refs_open ps target file (λ (n : ℕ). is_some (r.shared.files.opened n) ≡ true) s.lasts items (buckets.brigades b) live (s.brigades b) asked
    ])
    (moved_each (HasReference new) r.instance.brigades o b (map (aside_named ps target) items) held (λ j. weaker ps new grow (items_of (r.instance.brigades j)) (s.brigades j)))
    (weaker ps new grow r.call.loose s.loose) refl s

-- Brigades.

concat_files : (files : List (ℕ × ℕ)) (a b : ℕ) (r : Configuration) → SoundFiles files r → SoundFiles files (do_concat a b r)
unfolding set_brigade
concat_files files a b r s =
    same_files files r (do_concat a b r) refl refl refl (moved_each (HasReference r.shared.pools) r.instance.brigades a b (items_of (r.instance.brigades b)) (s.brigades b) s.brigades) s.loose s

-- one variable is written
pub written_files : (files : List (ℕ × ℕ)) (r new : Configuration) (i : ℕ) (w : BrigadeVar) → new.instance.brigades ≡ upd r.instance.brigades i w → HeldList r.shared.pools (items_of w)
    → new.shared.pools ≡ r.shared.pools → new.shared.files.opened ≡ r.shared.files.opened → new.shared.req ≡ r.shared.req → HeldList r.shared.pools new.call.loose → SoundFiles files r
    → SoundFiles files new
written_files files r new i w brigades held pools opened req loose s =
    same_files files r new pools opened req
    (λ k. subst (λ (g : ℕ → BrigadeVar). HeldList r.shared.pools (items_of (g k))) (sym brigades) (written_each (HasReference r.shared.pools) r.instance.brigades i w held s.brigades k)) loose s

create_files : (files : List (ℕ × ℕ)) (p : Program) (o : ℕ) (r : Configuration) → SoundFiles files r → SoundFiles files (do_create p o r)
unfolding set_brigade
create_files files p o r s =
    let on : Option ℕ = pool_named r (pool_of_brigade p o) in
    let ps = r.shared.pools in
    let new : Pools Payload = with_brigade on r.shared.next ps in
    let grow : ((p file : ℕ) → refers ps p file ≡ true → refers new p file ≡ true) = λ p file h. brigade_refers on r.shared.next ps p file h in
    kept_files files r (do_create p o r) grow (λ p file h. s.lasts p file (brigade_back on r.shared.next ps p file h))
    (written_each (HasReference new) r.instance.brigades o _ (none (HasReference new)) (λ j. weaker ps new grow (items_of (r.instance.brigades j)) (s.brigades j)))
    (weaker ps new grow r.call.loose s.loose) refl s

clean_files : (files : List (ℕ × ℕ)) (b : ℕ) (r : Configuration) → SoundFiles files r → SoundFiles files (do_clean b r)
unfolding set_brigade
clean_files files b r s = written_files files r (do_clean b r) b (cleaned (r.instance.brigades b)) refl (cleaned_each (HasReference r.shared.pools) (r.instance.brigades b)) refl refl refl s.loose s

pass_files : (files : List (ℕ × ℕ)) (b : ℕ) (r : Configuration) → SoundFiles files r → SoundFiles files (do_pass b r)
unfolding set_brigade
pass_files files b r s =
    written_files files r (do_pass b r) b (handed_over (r.instance.brigades b)) refl (handed_over_each (HasReference r.shared.pools) (r.instance.brigades b)) refl refl refl s.loose s

return_files : (files : List (ℕ × ℕ)) (r : Configuration) → SoundFiles files r → SoundFiles files (do_return r)
return_files files r s =
    let T : NamedBucket → Type 0 = HasReference r.shared.pools in
    same_files files r (do_return r) refl refl refl (left_each T T r.call.name (returned_held r.call.name r.shared.pools) r.instance.brigades s.brigades) (none T) s

pub no_dead : (items : List NamedBucket) → homes_fault items ≡ None → list_any is_dead items ≡ false
no_dead items h = by_test (list_any is_dead items) h where
  by_test : (b : Bool) → cond b (Some F5) None ≡ None → b ≡ false
  by_test true e = absurd (cc)
  by_test false e = refl

-- A bucket is set aside.

-- its home was not dead
pub not_dead : (x : NamedBucket) → home_fault (Some x) ≡ None → is_dead x ≡ false
not_dead x h = by_test (is_dead x) h where
  by_test : (b : Bool) → cond b (Some F5) None ≡ None → b ≡ false
  by_test true e = absurd (cc)
  by_test false e = refl

pub one_dead : (x : NamedBucket) → is_dead x ≡ false → list_any is_dead (x ∷ []) ≡ false
one_dead x h = ap (λ (b : Bool). b || false) h

abbrev pub refs_with : (ps : Pools Payload) → ℕ → NamedBucket → Pools Payload
refs_with ps target x = all_referred target (filter_map (new_ref ps target) (x ∷ [])) ps

-- the list of the bucket, and the others
pub aside_in : (ps : Pools Payload) (target : ℕ) (x : NamedBucket) (xs : List NamedBucket) → bucket_named x.name xs ≡ Some x → count_named x.name xs ≤ 1 → HeldList ps xs
    → HeldList (refs_with ps target x) (changed_at x.name (aside_named ps target) xs)
aside_in ps target x xs there once held =
    let refs : List ℕ = filter_map (new_ref ps target) (x ∷ []) in
    let new : Pools Payload = refs_with ps target x in
    let grow : ((p file : ℕ) → refers ps p file ≡ true → refers new p file ≡ true) = λ p file h. all_grow target refs ps p file h in
    let old : HasReference ps x = of_named (HasReference ps) x.name x xs there held in
    let kept : HeldList new (map (aside_named ps target) (x ∷ [])) = aside_held ps new target grow (x ∷ [])
    (All-cons (HasReference ps) x [] old (none (HasReference ps))) (λ file h. all_there target refs ps file h) in
    each_changed (HasReference ps) (HasReference new) x.name (aside_named ps target) xs (λ y h. λ file start len p c at. grow p file (h file start len p c at))
    (λ k d lt. λ same h. subst (λ (y : NamedBucket). HasReference new (aside_named ps target y)) (sym (only_one x.name x xs there once k d lt same))
    (All-head (HasReference new) (aside_named ps target x) [] kept)) held

-- what is true of each file that has a reference is true of each that has one then
pub aside_refs : (ps : Pools Payload) (target : ℕ) (x : NamedBucket) (Q : ℕ → Type 0) → ((p file : ℕ) → refers ps p file ≡ true → Q file) → FitsKind x.bucket → is_dead x ≡ false → HasReference ps x
    → (p file : ℕ) → refers (refs_with ps target x) p file ≡ true → Q file
aside_refs ps target x Q each fit live held p file h = elim (all_back target (filter_map (new_ref ps target) (x ∷ [])) ps p file h) [
  | inl old ↦ each p file old
  | inr asked ↦ refs_open ps target file Q each (x ∷ []) (All-cons (λ y. FitsKind y.bucket) x [] fit (All-nil (λ y. FitsKind y.bucket))) (one_dead x live)
      (All-cons (HasReference ps) x [] held (none (HasReference ps))) asked
]

aside_files : (files : List (ℕ × ℕ)) (s : CursorPlace) (target : ℕ) (r : Configuration) → StandsThere r s → home_fault (bucket_at s) ≡ None → Sound r → SoundFiles files r
    → SoundFiles files (aside_into s target r)
unfolding set_brigade set_loose with_pools
aside_files files Nowhere target r there live sound held = held
aside_files files (AtLoose x) target r there live sound held =
    let ps = r.shared.pools in
    let new : Pools Payload = refs_with ps target x in
    let grow : ((p file : ℕ) → refers ps p file ≡ true → refers new p file ≡ true) = λ p file h. all_grow target (filter_map (new_ref ps target) (x ∷ [])) ps p file h in
    kept_files files r (aside_into (AtLoose x) target r) grow
    (λ p file h. aside_refs ps target x (λ (n : ℕ). is_some (r.shared.files.opened n) ≡ true) held.lasts (of_named (λ y. FitsKind y.bucket) x.name x r.call.loose there sound.buckets.loose)
    (not_dead x live)
    (of_named (HasReference ps) x.name x r.call.loose there held.loose) p file h)
    (λ b. weaker ps new grow (items_at r b) (held.brigades b)) (aside_in ps target x r.call.loose there (loose_once r x.name sound.names) held.loose) refl held
aside_files files (Within b x) target r there live sound held =
    let ps = r.shared.pools in
    let new : Pools Payload = refs_with ps target x in
    let grow : ((p file : ℕ) → refers ps p file ≡ true → refers new p file ≡ true) = λ p file h. all_grow target (filter_map (new_ref ps target) (x ∷ [])) ps p file h in
    kept_files files r (aside_into (Within b x) target r) grow
    (λ p file h. aside_refs ps target x (λ (n : ℕ). is_some (r.shared.files.opened n) ≡ true) held.lasts
    (of_named (λ y. FitsKind y.bucket) x.name x (items_at r b) there.1 (sound.buckets.brigades b)) (not_dead x live)
    (of_named (HasReference ps) x.name x (items_at r b) there.1 (held.brigades b)) p file h)
    (items_each (HasReference new) r.instance.brigades b _ (aside_in ps target x (items_at r b) there.1 (brigade_once r b x.name there.0 sound.names)
    (held.brigades b)) (λ j. weaker ps new grow (items_at r j) (held.brigades j)))
    (weaker ps new grow r.call.loose held.loose) refl held
aside_files files (AtEndOf b) target r there live sound held = held

-- what the wants of an instruction that sets aside leave
pub aside_live : (r : Configuration) (c : ℕ) (q : PoolRef)
    → or_else (fault_want r (WCursor c OnBucket)) (or_else (fault_want r (WPool q)) (or_else (home_fault (bucket_at (at_cursor r c))) None)) ≡ None
    → home_fault (bucket_at (at_cursor r c)) ≡ None
aside_live r c q h = first_none (home_fault (bucket_at (at_cursor r c))) None (second_none (fault_want r (WPool q)) _ (second_none (fault_want r (WCursor c OnBucket)) _ h))

-- Parts of ranges are held, and no bucket that is made is a range.

abbrev HeldBucket : Pools Payload → Bucket → Type 0
HeldBucket ps b = (file start len p : ℕ) → b.content ≡ content.Range file start len → b.home ≡ home.Pool p → refers ps p file ≡ true

held_on : (ps : Pools Payload) (r : Configuration) → PassesOn r (HeldBucket ps)
held_on ps r = record {
  made = λ b new. λ file start len p e at. absurd (made_apart r b p new at);
  parts = record {
    front = λ n b le h. λ file start len p e at. let whole = front_back n b.content file start len e in h file start whole.0 p whole.1 at;
    rest = λ n b le h. λ file start len p e at. let whole = rest_back n b.content file start len e in h file whole.0 whole.1.0 p whole.1.1 at;
  };
}

quiet_files : (files : List (ℕ × ℕ)) (i : Instr) (r new : Configuration) → changes_pools i ≡ false → is_clear i ≡ false → ChangesOnly (effect_of i) r new → Holds (HeldBucket r.shared.pools) new
    → SoundFiles files r → SoundFiles files new
quiet_files files i r new tree clear only h s = same_files files r new (only.tree tree) (ap (λ (fs : Files). fs.opened) (only.files clear)) only.req h.brigades h.loose s

pub step_files : StepKeepsFiles
step_files p choice (instr.PCreate q) files r may s held = made_under_named (SoundFiles files) p q r held (λ parent e. made_files files parent q r s.pools held)
step_files p choice (instr.PClear q) files r may s held = emptied_files files Clear q r s.pools held
step_files p choice (instr.PDestroy q) files r may s held = emptied_files files Destroy q r s.pools held
step_files p choice (instr.Label q t) files r may s held = on_named (SoundFiles files) (label_registered Plain (text_of p t)) (pool_named r q) r held (λ n e. labelled_files Plain files (text_of p t) n r held)
step_files p choice (instr.PreLabel q t) files r may s held = on_named (SoundFiles files) (label_registered Pre (text_of p t)) (pool_named r q) r held (λ n e. labelled_files Pre files (text_of p t) n r held)
step_files p choice (instr.Unlabel q t) files r may s held = on_named (SoundFiles files) (label_killed (text_of p t)) (pool_named r q) r held (λ n e. unlabelled_files files (text_of p t) n r held)
step_files p choice (instr.BCreate o) files r may s held = create_files files p o r held
step_files p choice (instr.BClean b) files r may s held = clean_files files b r held
step_files p choice (instr.BConcat a b) files r may s held = concat_files files a b r held
step_files p choice (instr.BSave o b) files r may s held = on_named (SoundFiles files) (saved_into o b) (made_on (r.instance.brigades o)) r held (λ target e.
    save_files files o b target r s.buckets
    (no_dead (items_of (r.instance.brigades b)) (first_none (homes_fault (items_of (r.instance.brigades b))) None
    (second_none (usable_fault (r.instance.brigades b)) _ (second_none (usable_fault (r.instance.brigades o)) _ may.faultless)))) held)
step_files p choice (instr.Pass b l) files r may s held = pass_files files b r held
step_files p choice (instr.Aside c q) files r may s held = on_named (SoundFiles files) (aside_into (at_cursor r c)) (pool_named r q) r held
    (λ target e. aside_files files (at_cursor r c) target r (stands r (r.call.cursors c)) (aside_live r c q may.faultless) s held)
step_files p choice (instr.Ret st) files r may s held = return_files files r held
step_files p choice i files r may s held =
    quiet_files files i r _ refl refl (step_changes_only p choice i r)
    (quiet_leaves (HeldBucket r.shared.pools) p choice i r refl (held_on r.shared.pools r) (record { brigades = held.brigades; loose = held.loose })) held
