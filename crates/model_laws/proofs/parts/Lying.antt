-- What a call sees lies in its part after each step without a fault.
use Rattle.run_model.specs.declared.effect.CleanupKind.TheVariants.{Plain, Pre}
use Rattle.std.proofs.Common.{◌≡◌, ℕ, true, ◌==◌, [], ◌++◌, Option, Some, None, ◌⊎◌, inl, inr, refl, sym, ◌∙◌, ap, subst}
use Rattle.std.proofs.lemmas.Bool.{or_right}
use Rattle.module_code.specs.declared.instr.Instr.{Instr}
use Rattle.module_code.specs.declared.instr.Instr.TheVariants as instr
use Rattle.module_code.specs.declared.instr.PoolRef.TheVariants as pool
use Rattle.module_code.specs.Program.{Program, pool_of_brigade, pool_of_pool}
use Rattle.run_model.specs.declared.bucket.Mark.TheVariants.{Usable}
use Rattle.run_model.specs.declared.bucket.BrigadeVar.{BrigadeVar}
use Rattle.run_model.specs.declared.bucket.BrigadeVar.TheVariants as var
use Rattle.run_model.specs.declared.bucket.Cursor.{Cursor}
use Rattle.run_model.specs.declared.bucket.PoolVar.{PoolVar}
use Rattle.run_model.specs.declared.bucket.PoolVar.TheVariants as poolvar
use Rattle.run_model.specs.declared.payload.Payload.{Payload}
use Rattle.run_model.specs.Indexed.{upd}
use Rattle.run_model.specs.Pools.{Pools, is_in, is_under, created}
use Rattle.run_model.specs.Clearing.{cleared_var, run_down}
use Rattle.run_model.specs.State.{Configuration, items_of, pool_named, set_brigade, set_loose, set_number, set_cursor, set_pool, with_pools}
use Rattle.run_model.specs.Effects.{on_pool, do_concat, saved_into, made_on, pool_cleared, pool_destroyed, label_registered, label_killed, text_of}
use Rattle.run_model.specs.Steps.{Choice, step}
use Rattle.run_model.specs.Chains.{touched_var}
use Rattle.model_laws.specs.Laws.{MayExecute}
use Rattle.model_laws.specs.PartSteps.{LiesIn}
use Rattle.model_laws.specs.PartsLast.{PartKept, LiesUnder, StepsKeepLies}
use Rattle.run_model.proofs.Updates.{upd_either}
use Rattle.run_model.proofs.PoolMap.{created_at}
use Rattle.model_laws.proofs.BrigadePools.{KeepsPool, pool_kept, clean_on, pass_on, fill_on, move_on, return_on}
use Rattle.model_laws.proofs.PoolsGone.{Emptying, cleared_so, destroyed_so}
use Rattle.model_laws.proofs.BucketFrame.{IsFrame, placed_step}
use Rattle.model_laws.proofs.NamedPools.{on_named, made_under_named}
use Rattle.model_laws.proofs.StepPools.{wanted_pool}
use Rattle.model_laws.proofs.chains.QuietSteps.{IsQuiet, quiet_step}
use Rattle.model_laws.proofs.parts.Steps.{wanted_under}
use Rattle.model_laws.proofs.parts.Keeping.{steps_keep}
use Rattle.model_laws.proofs.parts.Touched.{touched_lies, gone_lies}

-- Brigades are made on pools that stood under c.

abbrev On : ℕ → Pools Payload → Configuration → Type 0
On c ps r = (b : ℕ) → LiesUnder c ps (r.instance.brigades b)

-- where each brigade lies where it lay
kept_on : (c : ℕ) (ps : Pools Payload) (f g : ℕ → BrigadeVar) → ((k : ℕ) → KeepsPool (f k) (g k)) → ((k : ℕ) → LiesUnder c ps (f k)) → (k : ℕ) → LiesUnder c ps (g k)
kept_on c ps f g keeps old k n is = old k n (pool_kept (f k) (g k) (keeps k) n is)

written_on : (c : ℕ) (ps : Pools Payload) (f : ℕ → BrigadeVar) (b : ℕ) (v : BrigadeVar) → LiesUnder c ps v → ((k : ℕ) → LiesUnder c ps (f k)) → (k : ℕ) → LiesUnder c ps (upd f b v k)
written_on c ps f b v new old k = elim (upd_either f b k v) [
  | inl at ↦ subst (LiesUnder c ps) (sym at.1) new
  | inr off ↦ subst (LiesUnder c ps) (sym off.1) (old k)
]

on_frame : (c : ℕ) (ps : Pools Payload) → IsFrame (On c ps)
unfolding set_brigade set_loose set_number with_pools
on_frame c ps = record {
  items = λ b xs r h. kept_on c ps r.instance.brigades _ (fill_on r.instance.brigades b xs) h;
  loose = λ xs r h. h;
  numbers = λ n v r h. h;
  buffer = λ bytes r h. h;
  left = λ r h. h;
  names = λ n r h. h;
  refs = λ target files r lives h. h;
}

on_placed : (c : ℕ) (ps : Pools Payload) (k : ℕ) (v : Cursor) (r : Configuration) → On c ps r → On c ps (set_cursor k v r)
unfolding set_cursor
on_placed c ps k v r h = h

saved_on : (c : ℕ) (ps : Pools Payload) (o b target : ℕ) (r : Configuration) → On c ps r → On c ps (saved_into o b target r)
unfolding set_brigade with_pools
saved_on c ps o b target r h = kept_on c ps r.instance.brigades _ (move_on r.instance.brigades o b _) h

concat_on : (c : ℕ) (ps : Pools Payload) (a b : ℕ) (r : Configuration) → On c ps r → On c ps (do_concat a b r)
unfolding set_brigade
concat_on c ps a b r h = kept_on c ps r.instance.brigades _ (move_on r.instance.brigades a b (items_of (r.instance.brigades a) ++ items_of (r.instance.brigades b))) h

-- over the pools that the step leaves
moved : (c : ℕ) (p : Program) (choice : Choice) (i : Instr) (r : Configuration) → LiesIn c r → MayExecute p r i → On c r.shared.pools (step p choice i r).state
    → (b : ℕ) → LiesUnder c (step p choice i r).state.shared.pools (touched_var r i ((step p choice i r).state.instance.brigades b))
moved c p choice i r s may on b = touched_lies c p choice i r ((step p choice i r).state.instance.brigades b) s may.faultless (on b)

gone_brigades : (c : ℕ) (r : Configuration) (gone : ℕ → Configuration → Configuration) (o : Option ℕ) → LiesIn c r → ((n : ℕ) → Emptying n r.shared.pools (gone n r).shared.pools)
    → ((n b : ℕ) → (gone n r).instance.brigades b ≡ cleared_var (is_under r.shared.pools n) (r.instance.brigades b)) → (b : ℕ)
    → LiesUnder c (on_pool gone o r).shared.pools ((on_pool gone o r).instance.brigades b)
gone_brigades c r gone None s so left b = s.brigades b
gone_brigades c r gone (Some n) s so left b = subst (LiesUnder c (gone n r).shared.pools) (sym (left n b)) (gone_lies c r s (r.instance.brigades b) (s.brigades b) gone (Some n) so)

step_brigades : (c : ℕ) (p : Program) (choice : Choice) (i : Instr) (r : Configuration) → LiesIn c r → MayExecute p r i → (b : ℕ)
    → LiesUnder c (step p choice i r).state.shared.pools ((step p choice i r).state.instance.brigades b)
unfolding set_brigade set_pool with_pools run_down
step_brigades c p choice (instr.PClear q) r s may = gone_brigades c r pool_cleared (pool_named r (pool.Own q)) s (λ n. cleared_so n r.shared.pools) (λ n b. refl)
step_brigades c p choice (instr.PDestroy q) r s may = gone_brigades c r pool_destroyed (pool_named r (pool.Own q)) s (λ n. destroyed_so n r.shared.pools) (λ n b. refl)
step_brigades c p choice (instr.Ret status) r s may = kept_on c r.shared.pools r.instance.brigades _ (return_on r.instance.brigades r.call.name) s.brigades
step_brigades c p choice (instr.PCreate q) r s may = moved c p choice (instr.PCreate q) r s may (made_under_named (On c r.shared.pools) p q r s.brigades (λ parent is. s.brigades))
step_brigades c p choice (instr.Label q t) r s may =
    moved c p choice (instr.Label q t) r s may (on_named (On c r.shared.pools) (label_registered Plain (text_of p t)) (pool_named r q) r s.brigades (λ n is. s.brigades))
step_brigades c p choice (instr.PreLabel q t) r s may =
    moved c p choice (instr.PreLabel q t) r s may (on_named (On c r.shared.pools) (label_registered Pre (text_of p t)) (pool_named r q) r s.brigades (λ n is. s.brigades))
step_brigades c p choice (instr.Unlabel q t) r s may =
    moved c p choice (instr.Unlabel q t) r s may (on_named (On c r.shared.pools) (label_killed (text_of p t)) (pool_named r q) r s.brigades (λ n is. s.brigades))
step_brigades c p choice (instr.BCreate o) r s may =
    moved c p choice (instr.BCreate o) r s may
    (written_on c r.shared.pools r.instance.brigades o (var.Live (record { name = r.shared.next; on = pool_named r (pool_of_brigade p o); mark = Usable; items = [] }))
    (λ n is. wanted_under c p r s (pool_of_brigade p o) (wanted_pool r (pool_of_brigade p o) _ may.faultless) n is) s.brigades)
step_brigades c p choice (instr.BClean a) r s may =
    moved c p choice (instr.BClean a) r s may (kept_on c r.shared.pools r.instance.brigades _ (clean_on r.instance.brigades a) s.brigades)
step_brigades c p choice (instr.BConcat a d) r s may = moved c p choice (instr.BConcat a d) r s may (concat_on c r.shared.pools a d r s.brigades)
step_brigades c p choice (instr.BSave o d) r s may =
    moved c p choice (instr.BSave o d) r s may (on_named (On c r.shared.pools) (saved_into o d) (made_on (r.instance.brigades o)) r s.brigades (λ n is. saved_on c r.shared.pools o d n r s.brigades))
step_brigades c p choice (instr.Pass a l) r s may =
    moved c p choice (instr.Pass a l) r s may (kept_on c r.shared.pools r.instance.brigades _ (pass_on r.instance.brigades a) s.brigades)
step_brigades c p choice i r s may = moved c p choice i r s may (placed_step (On c r.shared.pools) (on_frame c r.shared.pools) (on_placed c r.shared.pools) p choice i r refl may s.brigades)

-- What names pools.

record Owned (c : ℕ) (r x : Configuration) : Type 0 where
  conn : x.shared.conn ≡ r.shared.conn
  req : x.shared.req ≡ r.shared.req
  own : (q n : ℕ) → x.instance.pools q ≡ poolvar.Made n → (r.instance.pools q ≡ poolvar.Made n) ⊎ (is_under x.shared.pools c n ≡ true)

itself : (c : ℕ) (r : Configuration) → Owned c r r
itself c r = record { conn = refl; req = refl; own = λ q n is. inl is }

new_under : (c parent : ℕ) (ps : Pools Payload) → is_under ps c parent ≡ true → is_under (created parent ps) c ps.next ≡ true
unfolding is_under
new_under c parent ps under = ap (is_in c) (created_at parent ps) ∙ or_right (ps.next == c) (is_in c (ps.path parent)) under

made_owned : (c q parent : ℕ) (r : Configuration) → is_under r.shared.pools c parent ≡ true → Owned c r (set_pool q (poolvar.Made r.shared.pools.next) (with_pools (created parent r.shared.pools) r))
unfolding set_pool with_pools
made_owned c q parent r under = record {
  conn = refl;
  req = refl;
  own = λ k n is. elim (upd_either r.instance.pools q k (poolvar.Made r.shared.pools.next)) [
    | inl at ↦ inr (subst (λ (m : ℕ). is_under (created parent r.shared.pools) c m ≡ true) (one r.shared.pools.next n (sym at.1 ∙ is)) (new_under c parent r.shared.pools under))
    | inr off ↦ inl (sym off.1 ∙ is)
  ];
} where
  one : (a b : ℕ) → poolvar.Made a ≡ poolvar.Made b → a ≡ b
  one a b e = cc

quiet_owned : (c : ℕ) (r x : Configuration) → IsQuiet r x → Owned c r x
quiet_owned c r x q = record { conn = q.conn; req = q.req; own = λ k n is. inl (sym (ap (λ (f : ℕ → PoolVar). f k) q.own) ∙ is) }

step_owned : (c : ℕ) (p : Program) (choice : Choice) (i : Instr) (r : Configuration) → LiesIn c r → MayExecute p r i → Owned c r (step p choice i r).state
unfolding with_pools run_down
step_owned c p choice (instr.PCreate q) r s may =
    made_under_named (Owned c r) p q r (itself c r) (λ parent is. made_owned c q parent r (wanted_under c p r s (pool_of_pool p q) (wanted_pool r (pool_of_pool p q) _ may.faultless) parent is))
step_owned c p choice (instr.PClear q) r s may = on_named (Owned c r) pool_cleared (pool_named r (pool.Own q)) r (itself c r) (λ n is. record { conn = refl; req = refl; own = λ k m at. inl at })
step_owned c p choice (instr.PDestroy q) r s may = on_named (Owned c r) pool_destroyed (pool_named r (pool.Own q)) r (itself c r) (λ n is. record { conn = refl; req = refl; own = λ k m at. inl at })
step_owned c p choice i r s may = quiet_owned c r (step p choice i r).state (quiet_step p choice i r refl may)

pub steps_lie : StepsKeepLies
steps_lie c p choice i r s k given may =
    let kept : PartKept c r.shared.pools (step p choice i r).state.shared.pools = steps_keep c c p choice i r s k s.has may.faultless in
    let owned : Owned c r (step p choice i r).state = step_owned c p choice i r s may in
    record {
      has = kept.has;
      conn = owned.conn ∙ s.conn;
      req = λ n is live. (let was = sym owned.req ∙ is in kept.old n (given.req n was) (s.req n was) live);
      own = λ q n is live. elim (owned.own q n is) [
        | inl was ↦ kept.old n (given.own q n was) (s.own q n was) live
        | inr new ↦ new
      ];
      brigades = λ b. step_brigades c p choice i r s may b;
      files = kept.files s.files;
    }
