-- A step keeps ranges in their files.
use Rattle.run_model.specs.declared.effect.CleanupKind.{CleanupKind}
use Rattle.run_model.specs.declared.effect.CleanupKind.TheVariants.{Plain, Pre}
use Rattle.std.proofs.Common.{◌≡◌, ℕ, ◌+◌, ◌-◌, ◌<◌, ◌≤◌, arith, Bool, true, false, ◌&&◌, ◌==◌, nat_le, List, [], ◌∷◌, map, filter_map, length, Some, None, All, inl, inr, refl, sym, ◌∙◌, ap, subst}
use Rattle.std.specs.List.{list_any}
use Rattle.std.proofs.lemmas.Bool.Decides.{nat_tests}
use Rattle.std.proofs.lemmas.List.Elements.{All-nil, All-cons, All-head, All-tail}
use Rattle.module_code.specs.declared.instr.Instr.{Instr}
use Rattle.module_code.specs.declared.instr.Instr.TheVariants as instr
use Rattle.module_code.specs.Program.{Program, pool_of_brigade}
use Rattle.run_model.specs.declared.bucket.Kind.{Kind}
use Rattle.run_model.specs.declared.bucket.Kind.TheVariants as kind
use Rattle.run_model.specs.declared.bucket.Content.{Content}
use Rattle.run_model.specs.declared.bucket.Content.TheVariants as content
use Rattle.run_model.specs.declared.bucket.Home.{Home}
use Rattle.run_model.specs.declared.bucket.Home.TheVariants as home
use Rattle.run_model.specs.declared.bucket.Bucket.{Bucket}
use Rattle.run_model.specs.declared.bucket.NamedBucket.{NamedBucket}
use Rattle.run_model.specs.declared.bucket.PoolVar.TheVariants as poolvar
use Rattle.run_model.specs.declared.payload.Payload.{Payload}
use Rattle.run_model.specs.Pools.{Pools, is_under, created}
use Rattle.run_model.specs.Buckets.{is_dead, is_ended, returned_bucket, cleared_bucket}
use Rattle.run_model.specs.Files.{Files}
use Rattle.run_model.specs.Clearing.{run_down}
use Rattle.run_model.specs.State.{Configuration, items_of, set_pool, with_pools, set_brigade, set_loose, pool_named}
use Rattle.run_model.specs.Faults.{usable_fault, homes_fault, home_fault}
use Rattle.run_model.specs.EffectOf.{effect_of}
use Rattle.run_model.specs.Steps.{do_create, do_clean, do_concat, do_pass, do_return, files_let_go, label_registered, label_killed, text_of, aside_named, new_ref, saved_into, made_on}
use Rattle.run_model.specs.Pieces.{has_range}
use Rattle.run_model.specs.Sound.{SoundPools, SoundBuckets, Sound, count_named}
use Rattle.run_model.specs.BrigadeLists.{bucket_named}
use Rattle.run_model.specs.Cursors.{CursorPlace, Nowhere, AtLoose, Within, AtEndOf, bucket_at, at_cursor}
use Rattle.run_model.specs.BucketSteps.{items_at, changed_at, aside_into}
use Rattle.run_model.specs.Cutting.{FitsKind, LivesAs, length_of, OpenFile, form_of, form_of_kind}
use Rattle.model_laws.specs.Laws.{changes_pools, is_clear, ChangesOnly, HasReference, KeptAside, SoundFiles}
use Rattle.run_model.specs.Holding.{refers}
use Rattle.model_laws.specs.Ranges.{Reaches, LiesInFile, HasLength, SoundRanges, StepKeepsRanges}
use Rattle.run_model.specs.declared.effect.ClearKind.TheVariants.{Clear, Destroy}
use Rattle.model_laws.proofs.PoolsGone.{on_emptied}
use Rattle.model_laws.proofs.NamedPools.{on_named, made_under_named}
use Rattle.run_model.proofs.CursorPlaces.{StandsThere, stands}
use Rattle.run_model.proofs.EachBucket.{of_named, each_changed, only_one, loose_once, brigade_once}
use Rattle.model_laws.proofs.Origins.{PassesOn, Holds, front_back, rest_back, made_apart, quiet_leaves}
use Rattle.model_laws.proofs.Unchanged.{step_changes_only}
use Rattle.model_laws.proofs.Marks.{first_none, second_none}
use Rattle.model_laws.proofs.Kept.{aside_lasts, files_go}
use Rattle.run_model.proofs.References.{or_left, or_right, refers_given, referred_at, created_back, all_back, killed_refers, Emptied, emptied_back}
use Rattle.model_laws.proofs.MadeBrigades.{brigade_back}
use Rattle.model_laws.proofs.EachItem.{none, cleaned_each, handed_over_each, written_each, items_each, moved_each, mapped_each, cleared_each, left_each}
use Rattle.model_laws.proofs.StepFiles.{label_back, left_home, spared_home, neither, refs_open, no_dead, not_dead, aside_refs, aside_live, step_files}

-- Lists and variables.

abbrev pub LieList : Files → List NamedBucket → Type 0
LieList fs xs = All (LiesInFile fs) xs

returned_lies : (fs : Files) (call : ℕ) (x : NamedBucket) → LiesInFile fs x → LiesInFile fs (returned_bucket call x)
returned_lies fs call x h = λ file start len p c at. h file start len p c (left_home call _ p at)

cleared_lies : (fs : Files) (reached : ℕ → Bool) (x : NamedBucket) → LiesInFile fs x → LiesInFile fs (cleared_bucket reached x)
cleared_lies fs reached x h = λ file start len p c at. h file start len p c (spared_home reached _ p at).0

-- Files that have a reference are as they were.

abbrev pub SameWhere : (ℕ → ℕ → Bool) → Files → Files → Type 0
SameWhere ref old new = (p file : ℕ) → ref p file ≡ true → new.opened file ≡ old.opened file

pub still_lie : (ps : Pools Payload) (old new : Files) → SameWhere (refers ps) old new → (xs : List NamedBucket) → All (HasReference ps) xs → LieList old xs → LieList new xs
still_lie ps old new same xs held h = λ k d lt. λ file start len p c at.
    let there = h k d lt file start len p c at in (there.0, same p file (held k d lt file start len p c at) ∙ there.1, there.2)

itself : (file len : ℕ) → (file == file && nat_le len len) ≡ true
itself file len = grind (arith, nat_tests)

-- what is true of each file that is told
told_all : (P Q : ℕ × ℕ → Type 0) (files : List (ℕ × ℕ)) → ((f : ℕ × ℕ) → has_range files f.0 f.1 ≡ true → P f → Q f) → All P files → All Q files
told_all P Q [] go h = All-nil Q
told_all P Q (f ∷ fs) go h =
    All-cons Q f fs (go f (or_left (f.0 == f.0 && nat_le f.1 f.1) _ (itself f.0 f.1)) (All-head P f fs h))
    (told_all P Q fs (λ g has. go g (or_right (f.0 == g.0 && nat_le g.1 f.1) _ has)) (All-tail P f fs h))

pub still_told : (ps : Pools Payload) (old new : Files) → SameWhere (refers ps) old new → (files : List (ℕ × ℕ)) (req : ℕ)
    → ((file end : ℕ) → has_range files file end ≡ true → refers ps req file ≡ true) → All (HasLength old) files → All (HasLength new) files
still_told ps old new same files req request h = told_all (HasLength old) (HasLength new) files (λ f has there. (there.0, same req f.0 (request f.0 f.1 has) ∙ there.1, there.2)) h

-- Runs.

-- where files with references are as they were, and buckets lay in them
pub kept_ranges : (files : List (ℕ × ℕ)) (r new : Configuration) → SoundFiles files new → SameWhere (refers new.shared.pools) r.shared.files new.shared.files
    → ((b : ℕ) → LieList r.shared.files (items_of (new.instance.brigades b))) → LieList r.shared.files new.call.loose
    → ((p file : ℕ) → refers new.shared.pools p file ≡ true → file < new.shared.files.next) → new.shared.req ≡ r.shared.req → SoundRanges files r → SoundRanges files new
kept_ranges files r new held same brigades loose given req s = record {
  brigades = λ b. still_lie new.shared.pools r.shared.files new.shared.files same (items_of (new.instance.brigades b)) (held.brigades b) (brigades b);
  loose = still_lie new.shared.pools r.shared.files new.shared.files same new.call.loose held.loose loose;
  told = λ q is. still_told new.shared.pools r.shared.files new.shared.files same files q (λ file end has. held.request file end q has is) (s.told q (sym req ∙ is));
  given = given;
}

-- what a pool that goes leaves open
pub went_same : (n : ℕ) (r : Configuration) (ps : Pools Payload) → Emptied n r.shared.pools ps → SoundPools r
    → SameWhere (refers ps) r.shared.files (files_let_go n r (with_pools ps (run_down n r))).shared.files
unfolding with_pools run_down
went_same n r ps e pools p file h =
    let old = emptied_back n r.shared.pools ps e p file h in
    let lt = refers_given r.shared.pools p file pools.formed old.1 in
    (files_go n r ps).stays file (referred_at ps p file (subst (λ (k : ℕ). p < k) (sym e.next) lt) h)

went_ranges : (files : List (ℕ × ℕ)) (n : ℕ) (r : Configuration) (ps : Pools Payload) → Emptied n r.shared.pools ps → SoundPools r → SoundRanges files r
    → SoundFiles files (files_let_go n r (with_pools ps (run_down n r))) → SoundRanges files (files_let_go n r (with_pools ps (run_down n r)))
unfolding with_pools run_down
went_ranges files n r ps e pools s held =
    let reached : ℕ → Bool = is_under r.shared.pools n in
    let T : NamedBucket → Type 0 = LiesInFile r.shared.files in
    kept_ranges files r (files_let_go n r (with_pools ps (run_down n r))) held (went_same n r ps e pools)
    (λ b. cleared_each T T reached (cleared_lies r.shared.files reached) (r.instance.brigades b) (s.brigades b))
    (mapped_each T T (cleared_bucket reached) (cleared_lies r.shared.files reached) r.call.loose s.loose)
    (λ p file h. s.given p file (emptied_back n r.shared.pools ps e p file h).1) refl s

made_ranges : (files : List (ℕ × ℕ)) (parent q : ℕ) (r : Configuration) → SoundRanges files r
    → SoundRanges files (set_pool q (poolvar.Made r.shared.pools.next) (with_pools (created parent r.shared.pools) r))
unfolding set_pool with_pools
made_ranges files parent q r s = record { brigades = s.brigades; loose = s.loose; told = s.told; given = λ p file h. s.given p file (created_back parent r.shared.pools p file h) }

labelled_ranges : (k : CleanupKind) (files : List (ℕ × ℕ)) (text : List ℕ) (n : ℕ) (r : Configuration) → SoundRanges files r → SoundRanges files (label_registered k text n r)
unfolding with_pools
labelled_ranges k files text n r s =
    record { brigades = s.brigades; loose = s.loose; told = s.told; given = λ p file h. s.given p file (label_back k n text r.shared.pools p file h) }

unlabelled_ranges : (files : List (ℕ × ℕ)) (text : List ℕ) (n : ℕ) (r : Configuration) → SoundRanges files r → SoundRanges files (label_killed text n r)
unfolding with_pools
unlabelled_ranges files text n r s =
    record { brigades = s.brigades; loose = s.loose; told = s.told; given = λ p file h. s.given p file (sym (killed_refers n text r.shared.pools p file) ∙ h) }

-- Setting aside.

-- a range whose home has not ended has a pool for its home
pub homed : (k : Kind) (c : Content) (h : Home) (file start len : ℕ) → LivesAs k h → form_of c ≡ form_of_kind k → is_ended h ≡ false → c ≡ content.Range file start len
    → (p : ℕ) × (h ≡ home.Pool p)
homed kind.File c home.Free file start len fit holds live e = absurd fit
homed kind.File c (home.Call n) file start len fit holds live e = absurd fit
homed kind.File c (home.Pool n) file start len fit holds live e = (n, refl)
homed kind.File c home.Ended file start len fit holds live e = absurd (cc)
homed k c h file start len fit holds live e = absurd (let no : OpenFile ≡ form_of_kind k = sym (ap form_of e) ∙ holds in cc)

aside_lies : (fs : Files) (ps : Pools Payload) (target : ℕ) (x : NamedBucket) → FitsKind x.bucket → is_dead x ≡ false → LiesInFile fs x → LiesInFile fs (aside_named ps target x)
aside_lies fs ps target x proper live lies file start len p e at =
    let kept : KeptAside ps target x (aside_named ps target x) = aside_lasts ps target x proper live in
    let was : x.bucket.content ≡ content.Range file start len = sym kept.content ∙ e in
    let old = homed x.bucket.kind x.bucket.content x.bucket.home file start len proper.lives proper.holds live was in
    lies file start len old.0 was old.1

aside_lie : (fs : Files) (ps : Pools Payload) (target : ℕ) (xs : List NamedBucket) → All (λ x. FitsKind x.bucket) xs → list_any is_dead xs ≡ false → LieList fs xs
    → LieList fs (map (aside_named ps target) xs)
aside_lie fs ps target [] proper live h = none (LiesInFile fs)
aside_lie fs ps target (x ∷ xs) proper live h =
    let alive = neither (is_dead x) (list_any is_dead xs) live in
    All-cons (LiesInFile fs) (aside_named ps target x) (map (aside_named ps target) xs)
    (aside_lies fs ps target x (All-head (λ x. FitsKind x.bucket) x xs proper) alive.0 (All-head (LiesInFile fs) x xs h))
    (aside_lie fs ps target xs (All-tail (λ x. FitsKind x.bucket) x xs proper) alive.1 (All-tail (LiesInFile fs) x xs h))

save_ranges : (files : List (ℕ × ℕ)) (o b target : ℕ) (r : Configuration) → SoundBuckets r → list_any is_dead (items_of (r.instance.brigades b)) ≡ false → SoundFiles files r → SoundRanges files r
    → SoundRanges files (saved_into o b target r)
unfolding set_brigade with_pools
save_ranges files o b target r buckets live held s =
    let ps = r.shared.pools in
    let fs = r.shared.files in
    let items : List NamedBucket = items_of (r.instance.brigades b) in
    record {
      brigades = moved_each (LiesInFile fs) r.instance.brigades o b _ (aside_lie fs ps target items (buckets.brigades b) live (s.brigades b)) s.brigades;
      loose = s.loose;
      told = s.told;
      given = λ p file h. elim (all_back target (filter_map (new_ref ps target) items) ps p file h) [
        | inl old ↦ s.given p file old
        | inr asked ↦ refs_open ps target file (λ (k : ℕ). k < fs.next) s.given items (buckets.brigades b) live (held.brigades b) asked
      ];
    }

-- Brigades.

concat_ranges : (files : List (ℕ × ℕ)) (a b : ℕ) (r : Configuration) → SoundRanges files r → SoundRanges files (do_concat a b r)
unfolding set_brigade
concat_ranges files a b r s =
    record { brigades = moved_each (LiesInFile r.shared.files) r.instance.brigades a b (items_of (r.instance.brigades b)) (s.brigades b) s.brigades; loose = s.loose; told = s.told; given = s.given }

create_ranges : (files : List (ℕ × ℕ)) (p : Program) (o : ℕ) (r : Configuration) → SoundRanges files r → SoundRanges files (do_create p o r)
unfolding set_brigade
create_ranges files p o r s = record {
  brigades = written_each (LiesInFile r.shared.files) r.instance.brigades o _ (none (LiesInFile r.shared.files)) s.brigades;
  loose = s.loose;
  told = s.told;
  given = λ q file h. s.given q file (brigade_back (pool_named r (pool_of_brigade p o)) r.shared.next r.shared.pools q file h);
}

clean_ranges : (files : List (ℕ × ℕ)) (b : ℕ) (r : Configuration) → SoundRanges files r → SoundRanges files (do_clean b r)
unfolding set_brigade
clean_ranges files b r s =
    let T : NamedBucket → Type 0 = LiesInFile r.shared.files in
    record { brigades = written_each T r.instance.brigades b _ (cleaned_each T (r.instance.brigades b)) s.brigades; loose = s.loose; told = s.told; given = s.given }

pass_ranges : (files : List (ℕ × ℕ)) (b : ℕ) (r : Configuration) → SoundRanges files r → SoundRanges files (do_pass b r)
unfolding set_brigade
pass_ranges files b r s =
    let T : NamedBucket → Type 0 = LiesInFile r.shared.files in
    record { brigades = written_each T r.instance.brigades b _ (handed_over_each T (r.instance.brigades b)) s.brigades; loose = s.loose; told = s.told; given = s.given }

return_ranges : (files : List (ℕ × ℕ)) (r : Configuration) → SoundRanges files r → SoundRanges files (do_return r)
return_ranges files r s =
    let T : NamedBucket → Type 0 = LiesInFile r.shared.files in
    record { brigades = left_each T T r.call.name (returned_lies r.shared.files r.call.name) r.instance.brigades s.brigades; loose = none T; told = s.told; given = s.given }

-- A bucket is set aside.

aside_lie_in : (fs : Files) (ps : Pools Payload) (target : ℕ) (x : NamedBucket) (xs : List NamedBucket) → bucket_named x.name xs ≡ Some x → count_named x.name xs ≤ 1
    → All (λ y. FitsKind y.bucket) xs → is_dead x ≡ false → LieList fs xs → LieList fs (changed_at x.name (aside_named ps target) xs)
aside_lie_in fs ps target x xs there once proper live h =
    let lies : LiesInFile fs (aside_named ps target x) = aside_lies fs ps target x (of_named (λ y. FitsKind y.bucket) x.name x xs there proper) live (of_named (LiesInFile fs) x.name x xs there h) in
    each_changed (LiesInFile fs) (LiesInFile fs) x.name (aside_named ps target) xs (λ y e. e)
    (λ k d lt. λ same e. subst (λ (y : NamedBucket). LiesInFile fs (aside_named ps target y)) (sym (only_one x.name x xs there once k d lt same)) lies) h

aside_ranges : (files : List (ℕ × ℕ)) (s : CursorPlace) (target : ℕ) (r : Configuration) → StandsThere r s → home_fault (bucket_at s) ≡ None → Sound r → SoundFiles files r → SoundRanges files r
    → SoundRanges files (aside_into s target r)
unfolding set_brigade set_loose with_pools
aside_ranges files Nowhere target r there live sound held s = s
aside_ranges files (AtLoose x) target r there live sound held s =
    let ps = r.shared.pools in
    let fs = r.shared.files in
    record {
      brigades = s.brigades;
      loose = aside_lie_in fs ps target x r.call.loose there (loose_once r x.name sound.names) sound.buckets.loose (not_dead x live) s.loose;
      told = s.told;
      given = λ p file h. aside_refs ps target x (λ (k : ℕ). k < fs.next) s.given (of_named (λ y. FitsKind y.bucket) x.name x r.call.loose there sound.buckets.loose) (not_dead x live)
          (of_named (HasReference ps) x.name x r.call.loose there held.loose) p file h;
    }
aside_ranges files (Within b x) target r there live sound held s =
    let ps = r.shared.pools in
    let fs = r.shared.files in
    record {
      brigades = items_each (LiesInFile fs) r.instance.brigades b _
          (aside_lie_in fs ps target x (items_at r b) there.1 (brigade_once r b x.name there.0 sound.names) (sound.buckets.brigades b) (not_dead x live) (s.brigades b)) s.brigades;
      loose = s.loose;
      told = s.told;
      given = λ p file h. aside_refs ps target x (λ (k : ℕ). k < fs.next) s.given (of_named (λ y. FitsKind y.bucket) x.name x (items_at r b) there.1 (sound.buckets.brigades b)) (not_dead x live)
          (of_named (HasReference ps) x.name x (items_at r b) there.1 (held.brigades b)) p file h;
    }
aside_ranges files (AtEndOf b) target r there live sound held s = s

-- Parts of a range lie in its file.

abbrev LiesBucket : Files → Bucket → Type 0
LiesBucket fs b = (file start len p : ℕ) → b.content ≡ content.Range file start len → b.home ≡ home.Pool p → Reaches fs file (start + len)

less_far : (fs : Files) (file near far : ℕ) → near ≤ far → Reaches fs file far → Reaches fs file near
less_far fs file near far le reach = let end : far ≤ length reach.0 = reach.2 in (reach.0, reach.1, omega arith)

front_within : (n whole len start : ℕ) → len ≡ n → n ≤ whole → start + len ≤ start + whole
front_within n whole len start is le = omega arith

rest_within : (n first whole start len : ℕ) → start ≡ first + n → len ≡ whole - n → n ≤ whole → start + len ≤ first + whole
rest_within n first whole start len at is le = omega arith

lies_on : (fs : Files) (r : Configuration) → PassesOn r (LiesBucket fs)
lies_on fs r = record {
  made = λ b new. λ file start len p e at. absurd (made_apart r b p new at);
  parts = record {
    front = λ n b le h. λ file start len p e at.
        let whole = front_back n b.content file start len e in
        less_far fs file (start + len) (start + whole.0) (front_within n whole.0 len start whole.2 (long n b.content file start whole.0 whole.1 le)) (h file start whole.0 p whole.1 at);
    rest = λ n b le h. λ file start len p e at.
        let whole = rest_back n b.content file start len e in
        less_far fs file (start + len) (whole.0 + whole.1.0) (rest_within n whole.0 whole.1.0 start len whole.1.2 whole.1.3 (long n b.content file whole.0 whole.1.0 whole.1.1 le))
        (h file whole.0 whole.1.0 p whole.1.1 at);
  };
} where
  long : (n : ℕ) (c : Content) (file start len : ℕ) → c ≡ content.Range file start len → n ≤ length_of c → n ≤ len
  long n c file start len is le = subst (λ (k : Content). n ≤ length_of k) is le

quiet_ranges : (files : List (ℕ × ℕ)) (i : Instr) (r new : Configuration) → changes_pools i ≡ false → is_clear i ≡ false → ChangesOnly (effect_of i) r new → Holds (LiesBucket r.shared.files) new
    → SoundFiles files new → SoundRanges files r → SoundRanges files new
quiet_ranges files i r new tree clear only h held s =
    kept_ranges files r new held (λ p file h. ap (λ (fs : Files). fs.opened file) (only.files clear)) h.brigades h.loose
    (λ p file h. subst (λ (fs : Files). file < fs.next) (sym (only.files clear)) (s.given p file (subst (λ (ps : Pools Payload). refers ps p file ≡ true) (only.tree tree) h))) only.req s

-- what a clear of an own pool leaves, where files are kept
abbrev IfHeld : List (ℕ × ℕ) → Configuration → Type 0
IfHeld files new = SoundFiles files new → SoundRanges files new

pub step_ranges : StepKeepsRanges
step_ranges p choice (instr.PCreate q) files r may sound held s = made_under_named (SoundRanges files) p q r s (λ parent e. made_ranges files parent q r s)
step_ranges p choice (instr.PClear q) files r may sound held s =
    (on_emptied (IfHeld files) Clear q r (λ h. s) (λ n left e so. went_ranges files n r left so.payloads sound.pools s)) (step_files p choice (instr.PClear q) files r may sound held)
step_ranges p choice (instr.PDestroy q) files r may sound held s =
    (on_emptied (IfHeld files) Destroy q r (λ h. s) (λ n left e so. went_ranges files n r left so.payloads sound.pools s)) (step_files p choice (instr.PDestroy q) files r may sound held)
step_ranges p choice (instr.Label q t) files r may sound held s = on_named (SoundRanges files) (label_registered Plain (text_of p t)) (pool_named r q) r s (λ n e. labelled_ranges Plain files (text_of p t) n r s)
step_ranges p choice (instr.PreLabel q t) files r may sound held s = on_named (SoundRanges files) (label_registered Pre (text_of p t)) (pool_named r q) r s (λ n e. labelled_ranges Pre files (text_of p t) n r s)
step_ranges p choice (instr.Unlabel q t) files r may sound held s = on_named (SoundRanges files) (label_killed (text_of p t)) (pool_named r q) r s (λ n e. unlabelled_ranges files (text_of p t) n r s)
step_ranges p choice (instr.BCreate o) files r may sound held s = create_ranges files p o r s
step_ranges p choice (instr.BClean b) files r may sound held s = clean_ranges files b r s
step_ranges p choice (instr.BConcat a b) files r may sound held s = concat_ranges files a b r s
step_ranges p choice (instr.BSave o b) files r may sound held s = on_named (SoundRanges files) (saved_into o b) (made_on (r.instance.brigades o)) r s (λ target e.
    save_ranges files o b target r sound.buckets
    (no_dead (items_of (r.instance.brigades b)) (first_none (homes_fault (items_of (r.instance.brigades b))) None
    (second_none (usable_fault (r.instance.brigades b)) _ (second_none (usable_fault (r.instance.brigades o)) _ may.faultless)))) held s)
step_ranges p choice (instr.Pass b l) files r may sound held s = pass_ranges files b r s
step_ranges p choice (instr.Aside c q) files r may sound held s = on_named (SoundRanges files) (aside_into (at_cursor r c)) (pool_named r q) r s (λ target e.
    aside_ranges files (at_cursor r c) target r (stands r (r.call.cursors c)) (aside_live r c q may.faultless) sound held s)
step_ranges p choice (instr.Ret st) files r may sound held s = return_ranges files r s
step_ranges p choice i files r may sound held s =
    quiet_ranges files i r _ refl refl (step_changes_only p choice i r)
    (quiet_leaves (LiesBucket r.shared.files) p choice i r refl (lies_on r.shared.files r) (record { brigades = s.brigades; loose = s.loose })) (step_files p choice i files r may sound held) s
