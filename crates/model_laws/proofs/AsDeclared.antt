-- Steps keep pools and brigades as the module declares them.
use Rattle.run_model.specs.declared.effect.CleanupKind.TheVariants.{Plain, Pre}
use Rattle.std.proofs.Common.{◌≡◌, ◌≢◌, ℕ, ◌+◌, ◌<◌, ◌≤◌, Bool, true, false, ◌||◌, not, ◌==◌, nat_lt, cond, List, [], ◌∷◌, ◌++◌, map, filter_map, length, Option, Some, None, ◌⊎◌, inl, inr, refl, sym}
use Rattle.std.proofs.Common.{◌∙◌, ap, subst, arith}
use Rattle.std.proofs.lemmas.Bool.{cases_Bool, cases_eq}
use Rattle.std.proofs.lemmas.Bool.Decides.{nat_tests}
use Rattle.module_code.specs.declared.instr.PoolRef.{PoolRef}
use Rattle.module_code.specs.declared.instr.PoolRef.TheVariants as pool
use Rattle.module_code.specs.declared.instr.Instr.TheVariants as instr
use Rattle.module_code.specs.Program.{Program, IsModule, fits, pool_of_brigade, pool_of_pool}
use Rattle.run_model.specs.declared.bucket.Mark.TheVariants.{Usable}
use Rattle.run_model.specs.declared.bucket.Brigade.{Brigade}
use Rattle.run_model.specs.declared.bucket.BrigadeVar.{BrigadeVar}
use Rattle.run_model.specs.declared.bucket.BrigadeVar.TheVariants as var
use Rattle.run_model.specs.declared.bucket.PoolVar.{PoolVar}
use Rattle.run_model.specs.declared.bucket.PoolVar.TheVariants as poolvar
use Rattle.run_model.specs.declared.bucket.Cursor.{Cursor}
use Rattle.run_model.specs.declared.fault.FaultKind.TheVariants.{F1, F10}
use Rattle.run_model.specs.declared.payload.Payload.{Payload}
use Rattle.run_model.specs.Indexed.{upd}
use Rattle.run_model.specs.Pools.{Pools, is_empty, is_live, is_in, is_under, created, registered, registered_as}
use Rattle.run_model.specs.RunOrder.{IsPoolMap, killed}
use Rattle.run_model.specs.Buckets.{cleared_bucket}
use Rattle.run_model.specs.Clearing.{is_reached, cleared_var, run_down}
use Rattle.run_model.specs.State.{named_at, Configuration, items_of, set_pool, with_pools, set_brigade, set_loose, set_cursor, set_number, name_in, pool_named}
use Rattle.run_model.specs.Faults.{has_pool_at, is_live_named, has_pool, or_else}
use Rattle.run_model.specs.Steps.{with_brigade, do_create, do_pass, do_return, do_clean, made_on, new_ref, saved_into, label_registered, label_killed, text_of}
use Rattle.run_model.specs.Sound.{SoundPools}
use Rattle.model_laws.specs.AsDeclared.{AsDeclared, StepKeepsDeclared}
use Rattle.run_model.proofs.Updates.{upd_off, upd_either}
use Rattle.model_laws.proofs.BrigadePools.{KeepsOn, KeepsPool, same_on, clean_on, pass_on, fill_on, move_on, return_on}
use Rattle.run_model.specs.declared.effect.ClearKind.TheVariants.{Clear, Destroy}
use Rattle.model_laws.proofs.PoolsGone.{Emptying, pool_emptied, on_emptied}
use Rattle.model_laws.proofs.Marks.{first_none, second_none}
use Rattle.run_model.proofs.PoolMap.{live_path, created_lives, created_kept, created_at, not_under}
use Rattle.run_model.proofs.Formed.{formed_older}
use Rattle.model_laws.proofs.NamedPools.{on_named, made_under_named}
use Rattle.model_laws.proofs.BucketFrame.{IsFrame, placed_step}
use Rattle.model_laws.proofs.StepPools.{wanted_pool, named_lives, referred_path}
use Rattle.model_laws.proofs.MadeBrigades.{brigade_path, brigade_lives_named}

-- Names and paths.

pub same_live : (ps new : Pools Payload) (n : ℕ) → new.path n ≡ ps.path n → is_live new n ≡ is_live ps n
unfolding is_live
same_live ps new n same = ap (λ (path : List ℕ). not (is_empty path)) same

pub named_same : (r new : Configuration) → new.instance.pools ≡ r.instance.pools → new.shared.conn ≡ r.shared.conn → new.shared.req ≡ r.shared.req → (d : PoolRef) → pool_named new d ≡ pool_named r d
unfolding named_at
named_same r new own conn req pool.Conn = ap (λ (n : ℕ). Some n) conn
named_same r new own conn req pool.Req = req
named_same r new own conn req (pool.Own q) = ap (λ (g : ℕ → PoolVar). name_in (g q)) own

-- What is left is as it was: pools that stay keep their paths, names name the same, brigades lie where they lay.
pub record IsCarried (r new : Configuration) : Type 0 where
  pub own : new.instance.pools ≡ r.instance.pools
  pub older : (q n : ℕ) → r.instance.pools q ≡ poolvar.Made n → is_live new.shared.pools n ≡ true
      → (new.shared.pools.path n ≡ r.shared.pools.path n)
      × ((m : ℕ) → r.shared.pools.path n ≡ n ∷ r.shared.pools.path m → is_live r.shared.pools m ≡ true → new.shared.pools.path m ≡ r.shared.pools.path m)
  pub named : (d : PoolRef) (m : ℕ) → pool_named r d ≡ Some m → is_live r.shared.pools m ≡ true → new.shared.pools.path m ≡ r.shared.pools.path m → pool_named new d ≡ Some m
  pub brigades : (b : ℕ) → KeepsOn (λ m. new.shared.pools.path m ≡ r.shared.pools.path m) (r.instance.brigades b) (new.instance.brigades b)

-- a brigade lies on the pool of its declaration, which is live
abbrev pub Lies : Configuration → PoolRef → Option ℕ → Type 0
Lies r d o = (o ≡ pool_named r d) × (is_live_named r.shared.pools o ≡ true)

still_lies : (r new : Configuration) (d : PoolRef) (o : Option ℕ) → ((m : ℕ) → o ≡ Some m → new.shared.pools.path m ≡ r.shared.pools.path m)
    → ((m : ℕ) → pool_named r d ≡ Some m → is_live r.shared.pools m ≡ true → new.shared.pools.path m ≡ r.shared.pools.path m → pool_named new d ≡ Some m) → Lies r d o → Lies new d o
still_lies r new d None stays named lies = absurd (let no : false ≡ true = lies.1 in cc)
still_lies r new d (Some m) stays named lies = (sym (named m (sym lies.0) lies.1 (stays m refl)), same_live r.shared.pools new.shared.pools m (stays m refl) ∙ lies.1)

pub carried : (p : Program) (r new : Configuration) → IsCarried r new → AsDeclared p r → AsDeclared p new
carried p r new c s = record {
  pools = λ q n e live.
      let was : r.instance.pools q ≡ poolvar.Made n = sym (ap (λ (g : ℕ → PoolVar). g q) c.own) ∙ e in
      let same = c.older q n was live in
      let old = s.pools q n was (sym (same_live r.shared.pools new.shared.pools n same.0) ∙ live) in
      let stays = same.1 old.0 old.3 old.2 in (
        old.0,
        c.named (pool_of_pool p q) old.0 old.1 old.2 stays,
        same_live r.shared.pools new.shared.pools old.0 stays ∙ old.2,
        same.0 ∙ old.3 ∙ ap (λ (path : List ℕ). n ∷ path) (sym stays),
      );
  apart = λ q k n e f. s.apart q k n (sym (ap (λ (g : ℕ → PoolVar). g q) c.own) ∙ e) (sym (ap (λ (g : ℕ → PoolVar). g k) c.own) ∙ f);
  slots = λ q le. ap (λ (g : ℕ → PoolVar). g q) c.own ∙ s.slots q le;
  brigades = λ b w ne e.
      let old = c.brigades b w e in
      let lies = s.brigades b old.0 ne old.1 in
      subst (Lies new (pool_of_brigade p b)) (sym old.2) (still_lies r new (pool_of_brigade p b) old.0.on old.3 (λ m. c.named (pool_of_brigade p b) m) lies);
  incoming = λ w e. (let old = c.brigades 8 w e in old.2 ∙ s.incoming old.0 old.1);
}

-- what changes no path, no name and no brigade's pool
pub kept : (p : Program) (r new : Configuration) → new.instance.pools ≡ r.instance.pools → new.shared.conn ≡ r.shared.conn → new.shared.req ≡ r.shared.req → new.shared.pools.path ≡ r.shared.pools.path
    → ((b : ℕ) → KeepsPool (r.instance.brigades b) (new.instance.brigades b)) → AsDeclared p r → AsDeclared p new
kept p r new own conn req path slots s =
    carried p r new (record {
      own = own;
      older = λ q n e live. (ap (λ (g : ℕ → List ℕ). g n) path, λ m at there. ap (λ (g : ℕ → List ℕ). g m) path);
      named = λ d m e live stays. named_same r new own conn req d ∙ e;
      brigades = λ b w e. (let old = slots b w e in (old.0, old.1, old.2, λ m at. ap (λ (g : ℕ → List ℕ). g m) path));
    }) s

-- Pools that go.

-- a parent is older
parent_below : (ps : Pools Payload) (n m : ℕ) → IsPoolMap ps → is_live ps m ≡ true → ps.path n ≡ n ∷ ps.path m → m < n
unfolding is_live
parent_below ps n m formed live is = by_path (ps.path m) refl where
  by_path : (xs : List ℕ) → ps.path m ≡ xs → m < n
  by_path [] at = absurd (let no : false ≡ true = sym (ap (λ (path : List ℕ). not (is_empty path)) at) ∙ live in cc)
  by_path (k ∷ above) at =
      let first : k ≡ m = formed.first m k above at in
      let lt : k < n = formed.rises n n k above (is ∙ ap (λ (path : List ℕ). n ∷ path) at) in
      omega (arith, first)

-- what is under a pool is under those above it
pub parent_apart : (ps : Pools Payload) (c n m : ℕ) → ps.path n ≡ n ∷ ps.path m → is_under ps c n ≡ false → is_under ps c m ≡ false
unfolding is_under
parent_apart ps c n m is off = second (n == c) (is_in c (ps.path m)) (sym (ap (is_in c) is) ∙ off) where
  second : (a b : Bool) → (a || b) ≡ false → b ≡ false
  second true b h = absurd (cc)
  second false b h = h

-- a brigade that a clear leaves lies where it lay, apart from what is cleared
pub cleared_on : (reached : ℕ → Bool) (v w : BrigadeVar) → w ≡ cleared_var reached v → KeepsOn (λ m. reached m ≡ false) v w
cleared_on reached v w is x e = of_var v (sym is ∙ e) where
  of_var : (v : BrigadeVar) → cleared_var reached v ≡ var.Live x → (y : Brigade) × (v ≡ var.Live y) × (x.on ≡ y.on) × ((m : ℕ) → y.on ≡ Some m → reached m ≡ false)
  of_var var.Null e = absurd (cc)
  of_var var.Gone e = absurd (cc)
  of_var (var.Live y) e = by_test (is_reached reached y.on) refl e where
    by_test : (b : Bool) → is_reached reached y.on ≡ b → cond b var.Gone (var.Live (record y { items = map (cleared_bucket reached) y.items })) ≡ var.Live x
        → (z : Brigade) × (var.Live y ≡ var.Live z) × (x.on ≡ z.on) × ((m : ℕ) → z.on ≡ Some m → reached m ≡ false)
    by_test true off e = absurd (cc)
    by_test false off e =
        let same : record y { items = map (cleared_bucket reached) y.items } ≡ x = cc in
        (y, refl, sym (ap (λ (z : Brigade). z.on) same), λ m at. sym (ap (is_reached reached) at) ∙ off)

-- The pool c is cleared, and may stay itself, or it goes too.
pub went : (p : Program) (c : ℕ) (r new : Configuration) → IsPoolMap r.shared.pools → new.instance.pools ≡ r.instance.pools
    → ((k : ℕ) → is_under r.shared.pools c k ≡ false → new.shared.pools.path k ≡ r.shared.pools.path k)
    → ((k : ℕ) → is_under r.shared.pools c k ≡ true → is_live new.shared.pools k ≡ true → (k ≡ c) × (new.shared.pools.path k ≡ r.shared.pools.path k))
    → ((d : PoolRef) (m : ℕ) → pool_named r d ≡ Some m → is_live r.shared.pools m ≡ true → new.shared.pools.path m ≡ r.shared.pools.path m → pool_named new d ≡ Some m)
    → ((b : ℕ) → new.instance.brigades b ≡ cleared_var (is_under r.shared.pools c) (r.instance.brigades b)) → AsDeclared p r → AsDeclared p new
went p c r new formed own apart left named brigades s =
    carried p r new (record {
      own = own;
      older = λ q n e live. by_under n live (cases_Bool (is_under r.shared.pools c n));
      named = named;
      brigades = λ b w e. (let old = cleared_on (is_under r.shared.pools c) (r.instance.brigades b) (new.instance.brigades b) (brigades b) w e in (old.0, old.1, old.2, λ m at. apart m (old.3 m at)));
    }) s where
      by_under : (n : ℕ) → is_live new.shared.pools n ≡ true → (is_under r.shared.pools c n ≡ true) ⊎ (is_under r.shared.pools c n ≡ false)
          → (new.shared.pools.path n ≡ r.shared.pools.path n)
          × ((m : ℕ) → r.shared.pools.path n ≡ n ∷ r.shared.pools.path m → is_live r.shared.pools m ≡ true → new.shared.pools.path m ≡ r.shared.pools.path m)
      by_under n live (inl under) =
          let itself = left n under live in
          (itself.1, λ m at there. apart m (not_under c r.shared.pools m (formed_older r.shared.pools formed) (subst (λ (k : ℕ). m < k) itself.0 (parent_below r.shared.pools n m formed there at))))
      by_under n live (inr off) = (apart n off, λ m at there. apart m (parent_apart r.shared.pools c n m at off))

pub not_live : (ps : Pools Payload) (n : ℕ) → ps.path n ≡ [] → is_live ps n ≡ true → ⊥
not_live ps n gone live = live_path ps n live gone

emptied_declared : (p : Program) (c : ℕ) (left : Pools Payload) (r : Configuration) → IsPoolMap r.shared.pools → Emptying c r.shared.pools left → AsDeclared p r → AsDeclared p (pool_emptied left c r)
unfolding run_down with_pools
emptied_declared p c left r formed so s =
    went p c r (pool_emptied left c r) formed refl so.apart so.stays (λ d m e live stays. named_same r (pool_emptied left c r) refl refl refl d ∙ e) (λ b. refl) s

-- Pools and brigades that are made.

-- names of what is live stay where the variable q, which names no live pool, is written
named_beside : (r new : Configuration) (q next : ℕ) → has_pool r (pool.Own q) ≡ false → new.instance.pools ≡ upd r.instance.pools q (poolvar.Made next) → new.shared.conn ≡ r.shared.conn
    → new.shared.req ≡ r.shared.req
    → (d : PoolRef) (m : ℕ) → pool_named r d ≡ Some m → is_live r.shared.pools m ≡ true → pool_named new d ≡ Some m
unfolding named_at has_pool_at
named_beside r new q next none own conn req pool.Conn m e live = ap (λ (n : ℕ). Some n) conn ∙ e
named_beside r new q next none own conn req pool.Req m e live = req ∙ e
named_beside r new q next none own conn req (pool.Own k) m e live = elim (cases_eq k q) [
  | inl is ↦ absurd (let lives : is_live_named r.shared.pools (name_in (r.instance.pools q)) ≡ true =
      ap (λ (j : ℕ). is_live_named r.shared.pools (name_in (r.instance.pools j))) (sym is) ∙ ap (is_live_named r.shared.pools) e ∙ live in
      let no : true ≡ false = sym lives ∙ none in cc)
  | inr ne ↦ ap (λ (g : ℕ → PoolVar). name_in (g k)) own ∙ ap name_in (upd_off r.instance.pools q k (poolvar.Made next) ne) ∙ e
]

made_declared : (p : Program) (parent q : ℕ) (r : Configuration) → q < 8 → has_pool r (pool.Own q) ≡ false → pool_named r (pool_of_pool p q) ≡ Some parent → is_live r.shared.pools parent ≡ true
    → SoundPools r
    → AsDeclared p r → AsDeclared p (set_pool q (poolvar.Made r.shared.pools.next) (with_pools (created parent r.shared.pools) r))
unfolding set_pool with_pools
made_declared p parent q r lt none is lives sound s = record {
  pools = λ k n e live. elim (upd_either r.instance.pools q k (poolvar.Made next)) [
    | inl at ↦ (let fresh : next ≡ n = made_same next n (sym at.1 ∙ e) in (
      parent,
      named (pool_of_pool p k) parent (ap (λ (j : ℕ). pool_named r (pool_of_pool p j)) at.0 ∙ is) lives,
      created_lives parent ps parent lives,
      subst (λ (j : ℕ). (created parent ps).path j ≡ j ∷ (created parent ps).path parent) fresh
          (created_at parent ps ∙ ap (λ (path : List ℕ). next ∷ path) (sym (created_kept parent ps parent (sound.formed.named parent lives)))),
    ))
    | inr off ↦ (let was : r.instance.pools k ≡ poolvar.Made n = sym off.1 ∙ e in
        let given : n < next = (sound.own k n was).1 in
        let stays = created_kept parent ps n given in
        let old = s.pools k n was (sym (same_live ps (created parent ps) n stays) ∙ live) in (
          old.0,
          named (pool_of_pool p k) old.0 old.1 old.2,
          created_lives parent ps old.0 old.2,
          stays ∙ old.3 ∙ ap (λ (path : List ℕ). n ∷ path) (sym (created_kept parent ps old.0 (sound.formed.named old.0 old.2))),
        ))
  ];
  apart = λ j k n e f. elim (upd_either r.instance.pools q j (poolvar.Made next)) [
    | inl at ↦ elim (upd_either r.instance.pools q k (poolvar.Made next)) [
      | inl too ↦ at.0 ∙ sym too.0
      | inr off ↦ absurd (let fresh : next ≡ n = made_same next n (sym at.1 ∙ e) in let given : n < next = (sound.own k n (sym off.1 ∙ f)).1 in omega arith)
    ]
    | inr off ↦ elim (upd_either r.instance.pools q k (poolvar.Made next)) [
      | inl at ↦ absurd (let fresh : next ≡ n = made_same next n (sym at.1 ∙ f) in let given : n < next = (sound.own j n (sym off.1 ∙ e)).1 in omega arith)
      | inr too ↦ s.apart j k n (sym off.1 ∙ e) (sym too.1 ∙ f)
    ]
  ];
  slots = λ k le. upd_off r.instance.pools q k (poolvar.Made next) (omega arith) ∙ s.slots k le;
  brigades = λ b v ne e. (let old = s.brigades b v ne e in lies v.on (pool_of_brigade p b) old);
  incoming = s.incoming;
} where
  ps : Pools Payload
  ps = r.shared.pools

  next : ℕ
  next = r.shared.pools.next

  new : Configuration
  new = set_pool q (poolvar.Made r.shared.pools.next) (with_pools (created parent r.shared.pools) r)

  made_same : (a b : ℕ) → poolvar.Made a ≡ poolvar.Made b → a ≡ b
  made_same a b e = cc

  named : (d : PoolRef) (m : ℕ) → pool_named r d ≡ Some m → is_live r.shared.pools m ≡ true → pool_named new d ≡ Some m
  named d m e live = named_beside r new q r.shared.pools.next none refl refl refl d m e live

  lies : (o : Option ℕ) (d : PoolRef) → Lies r d o → Lies new d o
  lies o d h = still_lies r new d o (λ m at. created_kept parent r.shared.pools m (sound.formed.named m (sym (ap (is_live_named r.shared.pools) at) ∙ h.1))) (λ m e live stays. named d m e live) h

-- a brigade is written into one variable, as its declaration says
pub written_declared : (p : Program) (o : ℕ) (made : Brigade) (r : Configuration) → (o ≢ 8 → Lies r (pool_of_brigade p o) made.on) → (o ≡ 8 → made.on ≡ None) → AsDeclared p r
    → AsDeclared p (set_brigade o (var.Live made) r)
unfolding set_brigade
written_declared p o made r here incoming s = record {
  pools = λ q n e live. (let old = s.pools q n e live in (old.0, same (pool_of_pool p q) ∙ old.1, old.2, old.3));
  apart = s.apart;
  slots = s.slots;
  brigades = λ b v ne e. elim (upd_either r.instance.brigades o b (var.Live made)) [
    | inl at ↦ (let is : v.on ≡ made.on = made_on_same v (sym at.1 ∙ e) in
        let lies = here (λ eight. ne (at.0 ∙ eight)) in
        (is ∙ lies.0 ∙ ap (λ (k : ℕ). pool_named r (pool_of_brigade p k)) (sym at.0) ∙ sym (same (pool_of_brigade p b)), ap (is_live_named r.shared.pools) is ∙ lies.1))
    | inr off ↦ (let old = s.brigades b v ne (sym off.1 ∙ e) in (old.0 ∙ sym (same (pool_of_brigade p b)), old.1))
  ];
  incoming = λ v e. elim (upd_either r.instance.brigades o 8 (var.Live made)) [
    | inl at ↦ made_on_same v (sym at.1 ∙ e) ∙ incoming (sym at.0)
    | inr off ↦ s.incoming v (sym off.1 ∙ e)
  ];
} where
  same : (d : PoolRef) → pool_named (set_brigade o (var.Live made) r) d ≡ pool_named r d
  same d = named_same r (set_brigade o (var.Live made) r) refl refl refl d

  made_on_same : (v : Brigade) → var.Live made ≡ var.Live v → v.on ≡ made.on
  made_on_same v e = (let is : made ≡ v = cc in sym (ap (λ (x : Brigade). x.on) is))

-- Steps.

pub no_live_pool : (r : Configuration) (d : PoolRef) (q : ℕ) → or_else (cond (has_pool r d) None (Some F1)) (or_else (cond (has_pool r (pool.Own q)) (Some F10) None) None) ≡ None
    → has_pool r (pool.Own q) ≡ false
no_live_pool r d q h = by_test (has_pool r (pool.Own q)) (first_none _ None (second_none (cond (has_pool r d) None (Some F1)) _ h)) where
  by_test : (b : Bool) → cond b (Some F10) None ≡ None → b ≡ false
  by_test true e = absurd (cc)
  by_test false e = refl

pool_below : (p : Program) → IsModule p → (q : ℕ) → fits p (instr.PCreate q) ≡ true → q < 8
pool_below p m q h = small q (length p.pools) m.pools h where
  small : (q n : ℕ) → n ≤ 8 → nat_lt q n ≡ true → q < 8
  small q n le h = grind (arith, nat_tests)

brigade_not_in : (p : Program) → IsModule p → (o : ℕ) → fits p (instr.BCreate o) ≡ true → o ≢ 8
brigade_not_in p m o h = small o (length p.brigades) m.brigades h where
  small : (o n : ℕ) → n ≤ 8 → nat_lt o n ≡ true → o ≢ 8
  small o n le h = grind (arith, nat_tests)

pub same_vars : (r : Configuration) (b : ℕ) → KeepsPool (r.instance.brigades b) (r.instance.brigades b)
same_vars r b = same_on (r.instance.brigades b)

saved_declared : (p : Program) (o b target : ℕ) (r : Configuration) → AsDeclared p r → AsDeclared p (saved_into o b target r)
unfolding set_brigade with_pools
saved_declared p o b target r s =
    kept p r (saved_into o b target r) refl refl refl (referred_path target (filter_map (new_ref r.shared.pools target) (items_of (r.instance.brigades b))) r.shared.pools)
    (move_on r.instance.brigades o b _) s

created_declared : (p : Program) (o : ℕ) (r : Configuration) → o ≢ 8 → has_pool r (pool_of_brigade p o) ≡ true → AsDeclared p r → AsDeclared p (do_create p o r)
unfolding has_pool_at
created_declared p o r ne lives s =
    let on : Option ℕ = pool_named r (pool_of_brigade p o) in
    let next : Configuration = record r { shared = record r.shared { pools = with_brigade on r.shared.next r.shared.pools; next = r.shared.next + 1 } } in
    written_declared p o (record { name = r.shared.next; on = on; mark = Usable; items = [] }) next
    (λ h. (sym (named_same r next refl refl refl (pool_of_brigade p o)), brigade_lives_named on r.shared.next r.shared.pools on ∙ lives)) (λ eight. absurd (ne eight))
    (kept p r next refl refl refl (brigade_path on r.shared.next r.shared.pools) (same_vars r) s)

returned_declared : (p : Program) (r : Configuration) → AsDeclared p r → AsDeclared p (do_return r)
returned_declared p r s = kept p r (do_return r) refl refl refl refl (return_on r.instance.brigades r.call.name) s

declared_frame : (p : Program) → IsFrame (AsDeclared p)
unfolding set_brigade set_loose set_number with_pools
declared_frame p = record {
  items = λ b xs r s. kept p r _ refl refl refl refl (fill_on r.instance.brigades b xs) s;
  loose = λ xs r s. kept p r _ refl refl refl refl (same_vars r) s;
  numbers = λ n v r s. kept p r _ refl refl refl refl (same_vars r) s;
  buffer = λ bytes r s. kept p r _ refl refl refl refl (same_vars r) s;
  left = λ r s. kept p r _ refl refl refl refl (same_vars r) s;
  names = λ n r s. kept p r _ refl refl refl refl (same_vars r) s;
  refs = λ target files r lives s. kept p r _ refl refl refl (referred_path target files r.shared.pools) (same_vars r) s;
}

declared_placed : (p : Program) (c : ℕ) (v : Cursor) (r : Configuration) → AsDeclared p r → AsDeclared p (set_cursor c v r)
unfolding set_cursor
declared_placed p c v r s = kept p r _ refl refl refl refl (same_vars r) s

pub step_declared : StepKeepsDeclared
unfolding set_brigade with_pools registered_as killed
step_declared p choice (instr.PCreate q) r may sound s =
    made_under_named (AsDeclared p) p q r s
    (λ parent e. made_declared p parent q r (pool_below p may.proper q may.fit) (no_live_pool r (pool_of_pool p q) q may.faultless) e
    (named_lives r (pool_of_pool p q) parent (wanted_pool r (pool_of_pool p q) _ may.faultless) e) sound.pools s)
step_declared p choice (instr.PClear q) r may sound s = on_emptied (AsDeclared p) Clear q r s (λ n left e so. emptied_declared p n left r sound.pools.formed so s)
step_declared p choice (instr.PDestroy q) r may sound s = on_emptied (AsDeclared p) Destroy q r s (λ n left e so. emptied_declared p n left r sound.pools.formed so s)
step_declared p choice (instr.Label q t) r may sound s = on_named (AsDeclared p) (label_registered Plain (text_of p t)) (pool_named r q) r s (λ n e. kept p r _ refl refl refl refl (same_vars r) s)
step_declared p choice (instr.PreLabel q t) r may sound s = on_named (AsDeclared p) (label_registered Pre (text_of p t)) (pool_named r q) r s (λ n e. kept p r _ refl refl refl refl (same_vars r) s)
step_declared p choice (instr.Unlabel q t) r may sound s = on_named (AsDeclared p) (label_killed (text_of p t)) (pool_named r q) r s (λ n e. kept p r _ refl refl refl refl (same_vars r) s)
step_declared p choice (instr.BCreate o) r may sound s = created_declared p o r (brigade_not_in p may.proper o may.fit) (wanted_pool r (pool_of_brigade p o) _ may.faultless) s
step_declared p choice (instr.BClean b) r may sound s = kept p r (do_clean b r) refl refl refl refl (clean_on r.instance.brigades b) s
step_declared p choice (instr.BConcat a b) r may sound s =
    kept p r _ refl refl refl refl
    (move_on r.instance.brigades a b (items_of (r.instance.brigades a) ++ items_of (r.instance.brigades b))) s
step_declared p choice (instr.BSave o b) r may sound s = on_named (AsDeclared p) (saved_into o b) (made_on (r.instance.brigades o)) r s (λ target e. saved_declared p o b target r s)
step_declared p choice (instr.Pass b l) r may sound s = kept p r (do_pass b r) refl refl refl refl (pass_on r.instance.brigades b) s
step_declared p choice (instr.Ret st) r may sound s = returned_declared p r s
step_declared p choice i r may sound s = placed_step (AsDeclared p) (declared_frame p) (declared_placed p) p choice i r refl may s
