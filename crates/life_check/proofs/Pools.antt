-- New pools and labels, and what a state says where pools and brigades change but no cursor does.
use Rattle.std.proofs.Common.{◌≡◌, ℕ, true, false, not, cond, List, Option, Some, None, inl, inr, refl, sym, ◌∙◌, ap, subst}
use Rattle.module_code.specs.declared.instr.PoolRef.{PoolRef}
use Rattle.module_code.specs.declared.instr.PoolRef.TheVariants as pool
use Rattle.module_code.specs.declared.instr.Instr.TheVariants as instr
use Rattle.module_code.specs.Program.{Program, pool_of_pool}
use Rattle.run_model.specs.declared.bucket.BrigadeVar.{BrigadeVar}
use Rattle.run_model.specs.declared.bucket.BrigadeVar.TheVariants as var
use Rattle.run_model.specs.declared.bucket.Cursor.{Cursor}
use Rattle.run_model.specs.declared.bucket.Home.{Home}
use Rattle.run_model.specs.declared.bucket.Home.TheVariants as home
use Rattle.run_model.specs.declared.bucket.Mark.{Mark}
use Rattle.run_model.specs.declared.bucket.Mark.TheVariants.{Usable, Passed}
use Rattle.run_model.specs.declared.bucket.NamedBucket.{NamedBucket}
use Rattle.run_model.specs.declared.bucket.PoolVar.{PoolVar}
use Rattle.run_model.specs.declared.bucket.PoolVar.TheVariants as poolvar
use Rattle.run_model.specs.declared.payload.Payload.{Payload}
use Rattle.run_model.specs.declared.effect.CleanupKind.{CleanupKind}
use Rattle.run_model.specs.declared.effect.CleanupKind.TheVariants.{Plain, Pre}
use Rattle.run_model.specs.BrigadeLists.{bucket_named}
use Rattle.run_model.specs.Faults.{usable_fault, has_pool_at, has_pool, is_live_named}
use Rattle.run_model.specs.Indexed.{upd}
use Rattle.run_model.specs.Pools.{Pools, Cleanups, is_empty, is_live, created, registered_as}
use Rattle.run_model.specs.RunOrder.{killed}
use Rattle.run_model.specs.Sound.{brigade_name, Sound}
use Rattle.run_model.specs.State.{Configuration, PoolView, pool_view, named_at, pool_named, items_of, with_pools, name_in, set_pool as set_variable}
use Rattle.run_model.specs.Steps.{on_pool, label_registered, label_killed, text_of}
use Rattle.model_laws.proofs.AsDeclared.{no_live_pool}
use Rattle.run_model.proofs.PoolMap.{created_lives, new_lives, created_kept}
use Rattle.model_laws.proofs.StepPools.{wanted_pool}
use Rattle.run_model.proofs.Updates.{upd_either}
use Rattle.life_state.specs.declared.parts.Classes.{Classes}
use Rattle.life_state.specs.declared.parts.PoolState.{PoolState}
use Rattle.life_state.specs.States.{Homes, BrigadeKnown, CursorKnown, Unset, Loose, In, End, InOrEnd, State, only_live, set_pool}
use Rattle.life_state.specs.Rules.{after_pcreate}
use Rattle.life_check.specs.Meaning.{CoversPool, ByConnection, ByMember, ByDead, ByCall, Covers, FitsPool, FitsMark, FitsBrigade, IsAtBucketOf, IsEndOf, FitsCursor, Differ, Fits}
use Rattle.life_check.specs.Soundness.{LawOf}
use Rattle.life_check.proofs.Lists.{each_more}
use Rattle.life_check.proofs.Standing.{upd_both}

-- Homes.

-- what is live stays, under its name
pub record Moves (v w : PoolView) : Type 0 where
  pub conn : w.conn ≡ v.conn
  pub named : (k : PoolRef) (n : ℕ) → named_at v k ≡ Some n → is_live v.pools n ≡ true → named_at w k ≡ Some n
  pub lives : (n : ℕ) → is_live v.pools n ≡ true → is_live w.pools n ≡ true

pub covers_moves : (p : Program) (v w : PoolView) (lives : Home → Type 0) → Moves v w → (h : Homes) (x : Home) → Covers p v lives h x → Covers p w lives h x
covers_moves p v w lives m h home.Free c = tt
covers_moves p v w lives m h (home.Call n) c = c
covers_moves p v w lives m h (home.Pool n) c = (m.lives n c.0, by_reason c.0 c.1) where
  by_reason : is_live v.pools n ≡ true → CoversPool p v lives h n → CoversPool p w lives h n
  by_reason live (ByConnection is) = ByConnection (is ∙ sym m.conn)
  by_reason live (ByMember k d kc dc is at under) = ByMember k d kc dc (m.named k n is live) at under
  by_reason live (ByDead k kc is dead) = ByDead k kc (m.named k n is live) dead
  by_reason live (ByCall call lives) = ByCall call lives
covers_moves p v w lives m h home.Ended c = c

pub same_names : (v w : PoolView) → w.own ≡ v.own → w.conn ≡ v.conn → w.req ≡ v.req → (k : PoolRef) → named_at w k ≡ named_at v k
unfolding named_at
same_names v w own conn req pool.Conn = ap (λ (n : ℕ). Some n) conn
same_names v w own conn req pool.Req = req
same_names v w own conn req (pool.Own q) = ap (λ (g : ℕ → PoolVar). name_in (g q)) own

-- Variables and cursors.

pub same_live : (ps new : Pools Payload) (n : ℕ) → new.path n ≡ ps.path n → is_live new n ≡ is_live ps n
unfolding is_live
same_live ps new n same = ap (λ (path : List ℕ). not (is_empty path)) same

-- a variable's pool is as live as before
pub pool_kept : (ps new : Pools Payload) (k : PoolState) (v : PoolVar) → ((n : ℕ) → v ≡ poolvar.Made n → is_live new n ≡ is_live ps n) → FitsPool ps k v → FitsPool new k v
pool_kept ps new k poolvar.Null same f = f
pool_kept ps new k (poolvar.Made n) same f = subst (λ b. cond b k.live k.gone ≡ true) (sym (same n refl)) f

module _ (C D : Homes → Home → Type 0) (more : (h : Homes) (x : Home) → C h x → D h x) where
  mark_more : (k : BrigadeKnown) (m : Mark) (xs : List NamedBucket) → FitsMark C k m xs → FitsMark D k m xs
  mark_more k Usable xs f = (f.0, f.1, each_more (λ x. C k.homes x.bucket.home) (λ x. D k.homes x.bucket.home) (λ x. more k.homes x.bucket.home) xs f.2)
  mark_more k Passed xs f = f

  pub brigade_more : (k : BrigadeKnown) (v : BrigadeVar) → FitsBrigade C k v → FitsBrigade D k v
  brigade_more k var.Null f = f
  brigade_more k var.Gone f = f
  brigade_more k (var.Live v) f = (f.0, mark_more k v.mark v.items f.1)

  -- where loose buckets and usable brigades are as they were
  module _ (r new : Configuration) (loose : new.call.loose ≡ r.call.loose) (same : (b : ℕ) → usable_fault (r.instance.brigades b) ≡ None → new.instance.brigades b ≡ r.instance.brigades b) where
    in_more : (v : Cursor) (b : ℕ) (t : Classes) → IsAtBucketOf r v b t → IsAtBucketOf new v b t
    in_more v b t f = record {
      bucket = f.bucket;
      at = f.at;
      there = ap (λ (x : BrigadeVar). bucket_named f.bucket.name (items_of x)) (same b f.usable) ∙ f.there;
      classed = f.classed;
      usable = ap usable_fault (same b f.usable) ∙ f.usable;
    }

    end_more : (v : Cursor) (b : ℕ) → IsEndOf r v b → IsEndOf new v b
    end_more v b f = record { called = f.called; at = f.at; there = ap brigade_name (same b f.usable) ∙ f.there; usable = ap usable_fault (same b f.usable) ∙ f.usable }

    pub cursor_more : (k : CursorKnown) (v : Cursor) → FitsCursor C r k v → FitsCursor D new k v
    cursor_more Unset v f = tt
    cursor_more (Loose t h) v f = record {
      bucket = f.bucket;
      at = f.at;
      there = ap (λ (xs : List NamedBucket). bucket_named f.bucket.name xs) loose ∙ f.there;
      classed = f.classed;
      covered = more h f.bucket.bucket.home f.covered;
    }
    cursor_more (In b t) v f = in_more v b t f
    cursor_more (End b) v f = end_more v b f
    cursor_more (InOrEnd b t) v (inl f) = inl (in_more v b t f)
    cursor_more (InOrEnd b t) v (inr f) = inr (end_more v b f)

    -- pools and brigades fit, and cursors are as they were
    pub fits_beside : (s : State) (pools : ℕ → PoolState) (brigades : ℕ → BrigadeKnown) → new.call.cursors ≡ r.call.cursors → new.instance.sent ≡ r.instance.sent
        → ((q : ℕ) → FitsPool new.shared.pools (pools q) (new.instance.pools q)) → ((b : ℕ) → FitsBrigade D (brigades b) (new.instance.brigades b))
        → Fits C s r → Fits D (record s { pools = pools; brigades = brigades }) new
    fits_beside s pools brigades cursors sent pool_fits brigade_fits f = record {
      sent = λ h. f.sent (sym sent ∙ h);
      pools = pool_fits;
      brigades = brigade_fits;
      cursors = λ c. subst (λ (g : ℕ → Cursor). FitsCursor D new (s.cursors c) (g c)) (sym cursors) (cursor_more (s.cursors c) (r.call.cursors c) (f.cursors c));
      facts = λ c d h. subst (λ (g : ℕ → Cursor). Differ (g c) (g d)) (sym cursors) (f.facts c d h);
    }

-- Labels.

-- other payloads change nothing
payloads_fit : (p : Program) (lives : Home → Type 0) (payloads : ℕ → Cleanups Payload) (s : State) (r : Configuration) → Fits (Covers p (pool_view r) lives) s r
    → Fits (Covers p (pool_view (with_pools (record r.shared.pools { payloads = payloads }) r)) lives) s (with_pools (record r.shared.pools { payloads = payloads }) r)
unfolding with_pools is_live
payloads_fit p lives payloads s r f =
    let new : Configuration = with_pools (record r.shared.pools { payloads = payloads }) r in
    let C = Covers p (pool_view r) lives in
    let D = Covers p (pool_view new) lives in
    let more = covers_moves p (pool_view r) (pool_view new) lives
    (record { conn = refl; named = λ k n e live. same_names (pool_view r) (pool_view new) refl refl refl k ∙ e; lives = λ n live. live }) in
    fits_beside C D more r new refl (λ b u. refl) s s.pools s.brigades refl refl f.pools (λ b. brigade_more C D more (s.brigades b) (r.instance.brigades b) (f.brigades b)) f

-- what fits before a change of a pool, and after it, fits whether there is one or not
on_pool_fits : (p : Program) (lives : Home → Type 0) (change : ℕ → Configuration → Configuration) (s : State) (r : Configuration) → Fits (Covers p (pool_view r) lives) s r
    → ((n : ℕ) → Fits (Covers p (pool_view (change n r)) lives) s (change n r))
    → (o : Option ℕ) → Fits (Covers p (pool_view (on_pool change o r)) lives) s (on_pool change o r)
on_pool_fits p lives change s r before after None = before
on_pool_fits p lives change s r before after (Some n) = after n

label_fits : {lives : Home → Type 0} (how : CleanupKind) (p : Program) (q : PoolRef) (t : ℕ) (s : State) (r : Configuration) → Fits (Covers p (pool_view r) lives) s r
    → Fits (Covers p (pool_view (on_pool (label_registered how (text_of p t)) (pool_named r q) r)) lives) s (on_pool (label_registered how (text_of p t)) (pool_named r q) r)
unfolding registered_as
label_fits {lives} how p q t s r f =
    on_pool_fits p lives (label_registered how (text_of p t)) s r f (λ n. payloads_fit p lives _ s r f) (pool_named r q)

pub law_label : {lives : Home → Type 0} (q : PoolRef) (t : ℕ) → LawOf lives (instr.Label q t)
law_label {lives} q t p choice r s ready = label_fits {lives = lives} Plain p q t s r ready.fits

pub law_prelabel : {lives : Home → Type 0} (q : PoolRef) (t : ℕ) → LawOf lives (instr.PreLabel q t)
law_prelabel {lives} q t p choice r s ready = label_fits {lives = lives} Pre p q t s r ready.fits

pub law_unlabel : {lives : Home → Type 0} (q : PoolRef) (t : ℕ) → LawOf lives (instr.Unlabel q t)
unfolding killed
law_unlabel {lives} q t p choice r s ready =
    on_pool_fits p lives (label_killed (text_of p t)) s r ready.fits (λ n. payloads_fit p lives _ s r ready.fits) (pool_named r q)

-- A new pool.

-- a variable with no live pool takes a new one
abbrev made : ℕ → ℕ → Configuration → Configuration
made q parent r = set_variable q (poolvar.Made r.shared.pools.next) (with_pools (created parent r.shared.pools) r)

made_moves : (q parent : ℕ) (r : Configuration) → has_pool r (pool.Own q) ≡ false → Moves (pool_view r) (pool_view (made q parent r))
unfolding set_variable with_pools named_at has_pool_at
made_moves q parent r none = record { conn = refl; named = named; lives = created_lives parent r.shared.pools } where
  named : (k : PoolRef) (n : ℕ) → pool_named r k ≡ Some n → is_live r.shared.pools n ≡ true → pool_named (made q parent r) k ≡ Some n
  named pool.Conn n is live = is
  named pool.Req n is live = is
  named (pool.Own j) n is live = elim (upd_either r.instance.pools q j (poolvar.Made r.shared.pools.next)) [
    | inl at ↦ absurd (let lives : is_live_named r.shared.pools (name_in (r.instance.pools q)) ≡ true =
        ap (λ (i : ℕ). is_live_named r.shared.pools (name_in (r.instance.pools i))) (sym at.0) ∙ ap (is_live_named r.shared.pools) is ∙ live in
        let both : true ≡ false = sym lives ∙ none in cc)
    | inr off ↦ ap name_in off.1 ∙ is
  ]

made_fits : (p : Program) (lives : Home → Type 0) (q parent : ℕ) (r : Configuration) (s : State) → has_pool r (pool.Own q) ≡ false → Sound r → Fits (Covers p (pool_view r) lives) s r
    → Fits (Covers p (pool_view (made q parent r)) lives) (set_pool q only_live s) (made q parent r)
unfolding set_variable with_pools
made_fits p lives q parent r s none sound f =
    let ps = r.shared.pools in
    let C = Covers p (pool_view r) lives in
    let D = Covers p (pool_view (made q parent r)) lives in
    let more = covers_moves p (pool_view r) (pool_view (made q parent r)) lives (made_moves q parent r none) in
    fits_beside C D more r (made q parent r) refl (λ b u. refl) s (upd s.pools q only_live) s.brigades refl refl
    (upd_both (FitsPool (created parent ps)) s.pools r.instance.pools q only_live (poolvar.Made ps.next)
    (ap (λ b. cond b true false) (new_lives parent ps))
    (λ k off. pool_kept ps (created parent ps) (s.pools k) (r.instance.pools k) (λ n e. same_live ps (created parent ps) n (created_kept parent ps n (sound.pools.own k n e).1)) (f.pools k)))
    (λ b. brigade_more C D more (s.brigades b) (r.instance.brigades b) (f.brigades b)) f

pub law_pcreate : {lives : Home → Type 0} (q : ℕ) → LawOf lives (instr.PCreate q)
unfolding has_pool_at
law_pcreate {lives} q p choice r s ready = by_parent (pool_named r (pool_of_pool p q)) refl where
  under : Option ℕ → Configuration
  under None = r
  under (Some parent) = made q parent r

  by_parent : (o : Option ℕ) → pool_named r (pool_of_pool p q) ≡ o → Fits (Covers p (pool_view (under o)) lives) (after_pcreate q s) (under o)
  by_parent None is = absurd (let there : has_pool r (pool_of_pool p q) ≡ true = wanted_pool r (pool_of_pool p q) _ ready.may.faultless in
      let both : false ≡ true = sym (ap (is_live_named r.shared.pools) is) ∙ there in cc)
  by_parent (Some parent) is = made_fits p lives q parent r s (no_live_pool r (pool_of_pool p q) q ready.may.faultless) ready.sound ready.fits
