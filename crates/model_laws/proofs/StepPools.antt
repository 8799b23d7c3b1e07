-- Steps keep each brigade on a live pool.
use Rattle.run_model.specs.declared.effect.CleanupKind.{CleanupKind}
use Rattle.run_model.specs.declared.effect.CleanupKind.TheVariants.{Plain, Pre}
use Rattle.std.proofs.Common.{◌≡◌, ℕ, ◌+◌, ◌^◌, ◌<◌, inl, inr, Bool, true, false, ◌||◌, cond, List, [], ◌∷◌, ◌++◌, filter_map, Option, Some, None, refl, sym, ◌∙◌, ap, subst, arith}
use Rattle.module_code.specs.declared.instr.PoolRef.{PoolRef}
use Rattle.module_code.specs.declared.instr.Instr.{Instr}
use Rattle.module_code.specs.declared.instr.Instr.TheVariants as instr
use Rattle.module_code.specs.Program.{Program, pool_of_brigade, pool_of_pool}
use Rattle.run_model.specs.declared.fault.FaultKind.{FaultKind}
use Rattle.run_model.specs.declared.fault.FaultKind.TheVariants.{F1}
use Rattle.run_model.specs.declared.bucket.Mark.TheVariants.{Usable}
use Rattle.run_model.specs.declared.bucket.PoolVar.TheVariants as poolvar
use Rattle.run_model.specs.declared.bucket.Cursor.{Cursor}
use Rattle.run_model.specs.declared.bucket.BrigadeVar.TheVariants as var
use Rattle.run_model.specs.declared.payload.Payload.{Payload}
use Rattle.run_model.specs.declared.payload.Payload.TheVariants.{Label, FileRef}
use Rattle.run_model.specs.Payloads.{is_label}
use Rattle.run_model.specs.Indexed.{upd}
use Rattle.run_model.specs.Pools.{Pools, is_live, created, registered, registered_as}
use Rattle.run_model.specs.RunOrder.{IsPoolMap, killed}
use Rattle.run_model.specs.State.{Configuration, items_of, set_pool, with_pools, set_brigade, set_loose, set_cursor, set_number, pool_named}
use Rattle.run_model.specs.Clearing.{run_down}
use Rattle.run_model.specs.Faults.{has_pool_at, has_pool, is_live_named, or_else}
use Rattle.run_model.specs.Steps.{do_create, do_clean, do_concat, do_pass, do_return, do_pcreate, label_registered, label_killed, text_of, new_ref, all_referred, saved_into, made_on, names_of}
use Rattle.run_model.specs.Steps.{pool_names_of, is_spent, lacks_names}
use Rattle.run_model.specs.Sound.{brigade_pool, SoundPools}
use Rattle.run_model.specs.Cursors.{CursorPlace, Nowhere, AtLoose, Within, AtEndOf}
use Rattle.run_model.specs.BucketSteps.{aside_into}
use Rattle.model_laws.specs.Laws.{StepKeepsPools}
use Rattle.run_model.proofs.Updates.{upd_either}
use Rattle.run_model.proofs.PoolMap.{created_lives, created_next, created_kept}
use Rattle.model_laws.proofs.BrigadePools.{KeepsPool, pool_kept, clean_on, pass_on, fill_on, move_on, return_on}
use Rattle.run_model.specs.declared.effect.ClearKind.TheVariants.{Clear, Destroy}
use Rattle.model_laws.proofs.PoolsGone.{Emptying, pool_emptied, on_emptied}
use Rattle.model_laws.proofs.StepNames.{not_spent}
use Rattle.run_model.proofs.Formed.{created_formed, registered_formed, killed_formed, registered_as_formed}
use Rattle.model_laws.proofs.NamedPools.{made_is, on_named, made_under_named, own_named, conn_given, req_given}
use Rattle.model_laws.proofs.BucketFrame.{IsFrame, placed_step}
use Rattle.model_laws.proofs.PoolsKept.{keeps_paths, keeps_pools, went_pools}
use Rattle.model_laws.proofs.MadeBrigades.{brigade_path, brigade_next, brigade_formed}

-- each brigade keeps its pool, or goes
keeps_slots : (r new : Configuration) → new.shared.pools ≡ r.shared.pools → new.shared.conn ≡ r.shared.conn → new.shared.req ≡ r.shared.req → new.instance.pools ≡ r.instance.pools
    → ((b : ℕ) → KeepsPool (r.instance.brigades b) (new.instance.brigades b))
    → SoundPools r → SoundPools new
keeps_slots r new pools conn req own slots s = keeps_pools r new pools conn req own (λ b n e. s.brigades b n (pool_kept (r.instance.brigades b) (new.instance.brigades b) (slots b) n e)) s

-- a declared pool that has no fault is live
pub wanted_pool : (r : Configuration) (d : PoolRef) (rest : Option FaultKind) → or_else (cond (has_pool r d) None (Some F1)) rest ≡ None → has_pool r d ≡ true
wanted_pool r d rest h = by_test (has_pool r d) rest h where
  by_test : (b : Bool) (rest : Option FaultKind) → or_else (cond b None (Some F1)) rest ≡ None → b ≡ true
  by_test true rest h = refl
  by_test false rest h = absurd (cc)

pub named_lives : (r : Configuration) (d : PoolRef) (n : ℕ) → has_pool r d ≡ true → pool_named r d ≡ Some n → is_live r.shared.pools n ≡ true
unfolding has_pool_at
named_lives r d n h e = let named : is_live_named r.shared.pools (pool_named r d) ≡ is_live r.shared.pools n = ap (is_live_named r.shared.pools) e in sym named ∙ h

create_pools : (p : Program) (o : ℕ) (r : Configuration) → has_pool r (pool_of_brigade p o) ≡ true → SoundPools r → SoundPools (do_create p o r)
unfolding set_brigade has_pool_at
create_pools p o r lives s = keeps_paths r (do_create p o r) (brigade_formed on r.shared.next r.shared.pools lives s.formed) (brigade_path on r.shared.next r.shared.pools)
    (brigade_next on r.shared.next r.shared.pools) refl refl refl on_live s where
      on : Option ℕ
      on = pool_named r (pool_of_brigade p o)

      on_live : (b n : ℕ) → brigade_pool (upd r.instance.brigades o (var.Live (record { name = r.shared.next; on = pool_named r (pool_of_brigade p o); mark = Usable; items = [] })) b) ≡ Some n
          → is_live r.shared.pools n ≡ true
      on_live b n e = elim (upd_either r.instance.brigades o b (var.Live (record { name = r.shared.next; on = pool_named r (pool_of_brigade p o); mark = Usable; items = [] }))) [
        | inl q ↦ named_lives r (pool_of_brigade p o) n lives (sym (ap brigade_pool q.1) ∙ e)
        | inr q ↦ s.brigades b n (sym (ap brigade_pool q.1) ∙ e)
      ]

clean_pools : (b : ℕ) (r : Configuration) → SoundPools r → SoundPools (do_clean b r)
unfolding set_brigade
clean_pools b r s = keeps_slots r (do_clean b r) refl refl refl refl (clean_on r.instance.brigades b) s

pass_pools : (b : ℕ) (r : Configuration) → SoundPools r → SoundPools (do_pass b r)
unfolding set_brigade
pass_pools b r s = keeps_slots r (do_pass b r) refl refl refl refl (pass_on r.instance.brigades b) s

concat_pools : (a b : ℕ) (r : Configuration) → SoundPools r → SoundPools (do_concat a b r)
unfolding set_brigade
concat_pools a b r s = keeps_slots r (do_concat a b r) refl refl refl refl (move_on r.instance.brigades a b (items_of (r.instance.brigades a) ++ items_of (r.instance.brigades b))) s

-- references to files are registered on a live pool
pub referred_path : (target : ℕ) (files : List ℕ) (ps : Pools Payload) → (all_referred target files ps).path ≡ ps.path
unfolding all_referred registered_as
referred_path target [] ps = refl
referred_path target (file ∷ files) ps = referred_path target files (registered target (FileRef file) ps)

pub referred_next : (target : ℕ) (files : List ℕ) (ps : Pools Payload) → (all_referred target files ps).next ≡ ps.next
unfolding all_referred registered_as
referred_next target [] ps = refl
referred_next target (file ∷ files) ps = referred_next target files (registered target (FileRef file) ps)

still_live : (n target : ℕ) (x : Payload) (ps : Pools Payload) → is_live ps n ≡ true → is_live (registered target x ps) n ≡ true
unfolding is_live registered_as
still_live n target x ps lives = lives

referred_formed : (target : ℕ) (files : List ℕ) (ps : Pools Payload) → is_live ps target ≡ true → IsPoolMap ps → IsPoolMap (all_referred target files ps)
unfolding all_referred
referred_formed target [] ps lives f = f
referred_formed target (file ∷ files) ps lives f =
    referred_formed target files (registered target (FileRef file) ps) (still_live target target (FileRef file) ps lives) (registered_formed target (FileRef file) ps lives f)

-- setting aside registers these, if any
pub aside_pools : (s : CursorPlace) (target : ℕ) (r : Configuration) → (files : List ℕ) × ((aside_into s target r).shared.pools ≡ all_referred target files r.shared.pools)
unfolding set_brigade set_loose with_pools all_referred
aside_pools Nowhere target r = ([], refl)
aside_pools (AtLoose x) target r = (filter_map (new_ref r.shared.pools target) (x ∷ []), refl)
aside_pools (Within b x) target r = (filter_map (new_ref r.shared.pools target) (x ∷ []), refl)
aside_pools (AtEndOf b) target r = ([], refl)

pub aside_path : (s : CursorPlace) (target : ℕ) (r : Configuration) → (aside_into s target r).shared.pools.path ≡ r.shared.pools.path
aside_path s target r = (let left = aside_pools s target r in ap (λ (ps : Pools Payload). ps.path) left.1 ∙ referred_path target left.0 r.shared.pools)

save_pools : (o b target : ℕ) (r : Configuration) → made_on (r.instance.brigades o) ≡ Some target → SoundPools r → SoundPools (saved_into o b target r)
unfolding set_brigade with_pools
save_pools o b target r on s =
    let refs : List ℕ = filter_map (new_ref r.shared.pools target) (items_of (r.instance.brigades b)) in
    keeps_paths r (saved_into o b target r) (referred_formed target refs r.shared.pools (s.brigades o target (sym (made_is (r.instance.brigades o)) ∙ on)) s.formed)
    (referred_path target refs r.shared.pools) (referred_next target refs r.shared.pools) refl refl refl
    (λ k n e. s.brigades k n (pool_kept (r.instance.brigades k) ((saved_into o b target r).instance.brigades k) (move_on r.instance.brigades o b _ k) n e))
    s

return_pools : (r : Configuration) → SoundPools r → SoundPools (do_return r)
return_pools r s = keeps_slots r (do_return r) refl refl refl refl (return_on r.instance.brigades r.call.name) s

-- A pool is made, cleared or destroyed, or its labels change.

lasting_pool : (r : Configuration) (i : Instr) → lacks_names r i ≡ false → r.shared.pools.next + pool_names_of i < 2 ^ 64
unfolding lacks_names
lasting_pool r i h = not_spent r.shared.pools.next (pool_names_of i) (second (is_spent r.shared.next (names_of r i)) (is_spent r.shared.pools.next (pool_names_of i)) h) where
  second : (a b : Bool) → (a || b) ≡ false → b ≡ false
  second true b h = absurd (cc)
  second false b h = h

made_pools : (parent q : ℕ) (r : Configuration) → r.shared.pools.next + 1 < 2 ^ 64 → is_live r.shared.pools parent ≡ true → SoundPools r
    → SoundPools (set_pool q (poolvar.Made r.shared.pools.next) (with_pools (created parent r.shared.pools) r))
unfolding set_pool with_pools
made_pools parent q r limit lives s = record {
  limit = subst (λ (k : ℕ). k < 2 ^ 64) (sym (created_next parent r.shared.pools)) limit;
  formed = created_formed parent r.shared.pools lives s.formed;
  conn = created_lives parent r.shared.pools r.shared.conn s.conn;
  req = λ m e.
      let old = s.req m e in
      (created_kept parent r.shared.pools m (req_given r m e s) ∙ (old.0 ∙ ap (λ (path : List ℕ). m ∷ path) (sym (created_kept parent r.shared.pools r.shared.conn (conn_given r s)))), old.1);
  own = λ k n e. elim (upd_either r.instance.pools q k (poolvar.Made r.shared.pools.next)) [
    | inl at ↦ (let is : r.shared.pools.next ≡ n = next_is n (sym at.1 ∙ e) in
        (omega (arith, is, conn_given r s), omega (arith, is, created_next parent r.shared.pools), λ begun. absurd (omega (arith, is, req_given r n begun s))))
    | inr off ↦ (let old = s.own k n (sym off.1 ∙ e) in (old.0, omega (arith, old.1, created_next parent r.shared.pools), old.2))
  ];
  brigades = λ b n e. created_lives parent r.shared.pools n (s.brigades b n e);
} where
  next_is : (n : ℕ) → poolvar.Made r.shared.pools.next ≡ poolvar.Made n → r.shared.pools.next ≡ n
  next_is n e = cc

pcreate_pools : (p : Program) (q : ℕ) (r : Configuration) → r.shared.pools.next + 1 < 2 ^ 64 → has_pool r (pool_of_pool p q) ≡ true → SoundPools r → SoundPools (do_pcreate p q r)
pcreate_pools p q r limit lives s = made_under_named SoundPools p q r s (λ parent e. made_pools parent q r limit (named_lives r (pool_of_pool p q) parent lives e) s)

emptied_pools : (q n : ℕ) (left : Pools Payload) (r : Configuration) → r.instance.pools q ≡ poolvar.Made n → Emptying n r.shared.pools left → SoundPools r → SoundPools (pool_emptied left n r)
unfolding run_down with_pools
emptied_pools q n left r is so s =
    let own = s.own q n is in
    went_pools n r (pool_emptied left n r) so.payloads.next (so.formed s.formed) so.apart refl (λ m e. (e, λ same. own.2 (e ∙ ap (λ (k : ℕ). Some k) same))) refl (λ b. refl) own.0 s

labelled_pools : (k : CleanupKind) (text : List ℕ) (n : ℕ) (r : Configuration) → is_live r.shared.pools n ≡ true → SoundPools r → SoundPools (label_registered k text n r)
unfolding registered_as with_pools
labelled_pools k text n r lives s = keeps_paths r (label_registered k text n r) (registered_as_formed k n (Label text) r.shared.pools lives s.formed) refl refl refl refl refl s.brigades s

unlabelled_pools : (text : List ℕ) (n : ℕ) (r : Configuration) → SoundPools r → SoundPools (label_killed text n r)
unfolding killed with_pools
unlabelled_pools text n r s = keeps_paths r (label_killed text n r) (killed_formed n (is_label text) r.shared.pools s.formed) refl refl refl refl refl s.brigades s

-- Buckets, cursors, numbers and the buffer have no part in it.
pools_frame : IsFrame SoundPools
unfolding set_brigade set_loose set_number with_pools
pools_frame = record {
  items = λ b xs r s. keeps_slots r _ refl refl refl refl (fill_on r.instance.brigades b xs) s;
  loose = λ xs r s. keeps_pools r _ refl refl refl refl s.brigades s;
  numbers = λ n v r s. keeps_pools r _ refl refl refl refl s.brigades s;
  buffer = λ bytes r s. keeps_pools r _ refl refl refl refl s.brigades s;
  left = λ r s. keeps_pools r _ refl refl refl refl s.brigades s;
  names = λ n r s. keeps_pools r _ refl refl refl refl s.brigades s;
  refs = λ target files r lives s. keeps_paths r _ (referred_formed target files r.shared.pools lives s.formed) (referred_path target files r.shared.pools)
      (referred_next target files r.shared.pools) refl refl refl s.brigades s;
}

pools_placed : (c : ℕ) (v : Cursor) (r : Configuration) → SoundPools r → SoundPools (set_cursor c v r)
unfolding set_cursor
pools_placed c v r s = keeps_pools r _ refl refl refl refl s.brigades s

pub step_pools : StepKeepsPools
step_pools p choice (instr.PCreate q) r may s = pcreate_pools p q r (lasting_pool r (instr.PCreate q) may.names_last) (wanted_pool r (pool_of_pool p q) _ may.faultless) s
step_pools p choice (instr.PClear q) r may s = on_emptied SoundPools Clear q r s (λ n left e so. emptied_pools q n left r (own_named q n r e) so s)
step_pools p choice (instr.PDestroy q) r may s = on_emptied SoundPools Destroy q r s (λ n left e so. emptied_pools q n left r (own_named q n r e) so s)
step_pools p choice (instr.Label q t) r may s =
    on_named SoundPools (label_registered Plain (text_of p t)) (pool_named r q) r s (λ n e. labelled_pools Plain (text_of p t) n r (named_lives r q n (wanted_pool r q None may.faultless) e) s)
step_pools p choice (instr.PreLabel q t) r may s =
    on_named SoundPools (label_registered Pre (text_of p t)) (pool_named r q) r s (λ n e. labelled_pools Pre (text_of p t) n r (named_lives r q n (wanted_pool r q None may.faultless) e) s)
step_pools p choice (instr.Unlabel q t) r may s = on_named SoundPools (label_killed (text_of p t)) (pool_named r q) r s (λ n e. unlabelled_pools (text_of p t) n r s)
step_pools p choice (instr.BCreate o) r may s = create_pools p o r (wanted_pool r (pool_of_brigade p o) _ may.faultless) s
step_pools p choice (instr.BClean b) r may s = clean_pools b r s
step_pools p choice (instr.BConcat a b) r may s = concat_pools a b r s
step_pools p choice (instr.BSave o b) r may s = on_named SoundPools (saved_into o b) (made_on (r.instance.brigades o)) r s (λ target e. save_pools o b target r e s)
step_pools p choice (instr.Pass b l) r may s = pass_pools b r s
step_pools p choice (instr.Ret st) r may s = return_pools r s
step_pools p choice i r may s = placed_step SoundPools pools_frame pools_placed p choice i r refl may s
