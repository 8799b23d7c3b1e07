-- A file that is open is open on one connection, under a number that was given out.
use Rattle.std.proofs.Common.{◌≡◌, ◌⊎◌, ℕ, ◌+◌, ◌<◌, ◌≤◌, Bool, true, false, ◌&&◌, not, cond, List, Option, Some, None, is_some, inl, inr, refl, sym, ◌∙◌, ap, subst, arith}
use Rattle.std.proofs.lemmas.Option.{same_Some}
use Rattle.std.specs.List.{list_any}
use Rattle.module_code.specs.declared.instr.Instr.{Instr}
use Rattle.module_code.specs.declared.instr.Instr.TheVariants as instr
use Rattle.module_code.specs.declared.instr.PoolRef.TheVariants as pool
use Rattle.module_code.specs.Program.{Program}
use Rattle.run_model.specs.declared.payload.Payload.{Payload}
use Rattle.run_model.specs.Indexed.{upd}
use Rattle.run_model.specs.Pools.{Pools, cleared, destroyed}
use Rattle.run_model.specs.RunOrder.{run_order}
use Rattle.run_model.specs.Payloads.{is_file_ref}
use Rattle.run_model.specs.Clearing.{run_down}
use Rattle.run_model.specs.Files.{Files, is_referred, let_go}
use Rattle.run_model.specs.State.{Configuration, pool_named, with_pools}
use Rattle.run_model.specs.Steps.{Choice, step, current, pool_cleared, pool_destroyed}
use Rattle.run_model.specs.Chains.{Frame, Connection, Common, Linked, module_at, configuration, pools_of, files_of}
use Rattle.run_model.specs.Passing.{Reads}
use Rattle.run_model.specs.Turns.{all_called, opened, begun}
use Rattle.run_model.specs.Worlds.{World, new_world, put_conn}
use Rattle.model_laws.specs.ChainLaws.{after_top}
use Rattle.model_laws.specs.ChainFiles.{WorldFilesApart, EventKeepsFilesApart}
use Rattle.model_laws.specs.KeptInRuns.{RunKeeps}
use Rattle.run_model.proofs.Updates.{upd_either}
use Rattle.model_laws.proofs.chains.EventCases.{stays_there, event_cases, run_each}
use Rattle.model_laws.proofs.chains.EachConnection.{made_turn}
use Rattle.model_laws.proofs.NamedPools.{on_named}
use Rattle.model_laws.proofs.Unchanged.{step_changes_only}
use Rattle.model_laws.proofs.chains.EventTurns.{EventTurn, Stood, Went, Begun, Brought, FileTaken, Ended}
use Rattle.model_laws.proofs.chains.Proceeds.{proceeds_so}
use Rattle.model_laws.proofs.chains.WorldKept.{AnyLength}

-- What an instruction leaves: it opens no file.

-- each file that is open then was open before, and the next number is the same
abbrev OpensNone : (ℕ → Option (List ℕ)) → ℕ → (ℕ → Option (List ℕ)) → ℕ → Type 0
OpensNone old n files next = ((file : ℕ) → is_some (files file) ≡ true → is_some (old file) ≡ true) × (next ≡ n)

abbrev FilesLeft : Configuration → Configuration → Type 0
FilesLeft r s = OpensNone r.shared.files.opened r.shared.files.next s.shared.files.opened s.shared.files.next

closes_some : (handed : List (ℕ × Payload)) (left : Pools Payload) (fs : Files) → OpensNone fs.opened fs.next (let_go handed left fs).opened (let_go handed left fs).next
closes_some handed left fs = (λ file is_open. by_test (list_any (λ x. is_file_ref file x.1) handed && not (is_referred left file)) (fs.opened file) is_open, refl) where
  by_test : (b : Bool) (o : Option (List ℕ)) → is_some (cond b None o) ≡ true → is_some o ≡ true
  by_test true o is_open = absurd (cc)
  by_test false o is_open = is_open

step_opens : (p : Program) (choice : Choice) (i : Instr) (r : Configuration) → FilesLeft r (step p choice i r).state
unfolding with_pools run_down
step_opens p choice (instr.PClear q) r =
    on_named (FilesLeft r) pool_cleared (pool_named r (pool.Own q)) r (λ file is_open. is_open, refl) (λ n e. closes_some (run_order r.shared.pools n) (cleared n r.shared.pools) r.shared.files)
step_opens p choice (instr.PDestroy q) r =
    on_named (FilesLeft r) pool_destroyed (pool_named r (pool.Own q)) r (λ file is_open. is_open, refl) (λ n e. closes_some (run_order r.shared.pools n) (destroyed n r.shared.pools) r.shared.files)
step_opens p choice i r =
    let same = (step_changes_only p choice i r).files refl in
    (λ file is_open. subst (λ (fs : Files). is_some (fs.opened file) ≡ true) same is_open, ap (λ (fs : Files). fs.next) same)

-- Turns.

-- Numbers rise, and a file that is open was open before, or its number is new.
pub record OpensNew (g : Common) (c : Connection) (v : Linked) : Type 0 where
  pub rises : g.file ≤ v.0.file
  pub from : (file : ℕ) → is_some (v.1.opened file) ≡ true → (is_some (c.opened file) ≡ true) ⊎ ((g.file ≤ file) × (file < v.0.file))

none_new : (g : Common) (c : Connection) (v : Linked) → OpensNone c.opened g.file v.1.opened v.0.file → OpensNew g c v
none_new g c v none = (let same : v.0.file ≡ g.file = none.1 in record { rises = omega (arith, same); from = λ file is_open. inl (none.0 file is_open) })

went_opens : (chain : List Program) (reads : Reads) (f : Frame) (rest : List Frame) (g : Common) (c : Connection) → OpensNew g c (after_top chain reads g c f rest)
unfolding configuration
went_opens chain reads f rest g c =
    let i : Instr = current (module_at chain f.of) f.pc in
    none_new g c (after_top chain reads g c f rest) (proceeds_so (λ ps files next req. OpensNone c.opened g.file files next) chain reads i f rest g c
    (λ choice. step_opens (module_at chain f.of) choice i (configuration g c f)) (λ file is_open. is_open, refl))

taken_opens : (req new : ℕ) (bytes : List ℕ) (g : Common) (c : Connection) → g.file ≤ new → (v : Linked) → v.0.file ≡ new + 1 → v.1.opened ≡ upd c.opened new (Some bytes) → OpensNew g c v
taken_opens req new bytes g c newer v last files = record {
  rises = omega (arith, last);
  from = λ file is_open. elim (upd_either c.opened new file (Some bytes)) [
    | inl at ↦ (let here : file ≡ new = at.0 in inr (omega (arith, here), omega (arith, here, last)))
    | inr off ↦ inl (ap is_some (sym off.1 ∙ ap (λ (fs : ℕ → Option (List ℕ)). fs file) (sym files)) ∙ is_open)
  ];
}

pub turn_opens : (chain : List Program) (g : Common) (c : Connection) (v : Linked) → EventTurn chain AnyLength g c v → OpensNew g c v
unfolding begun all_called configuration run_down with_pools
turn_opens chain g c v (Stood out broken still) = none_new g c v (λ file is_open. is_open, refl)
turn_opens chain g c v (Went reads f rest whole may) = (let left = went_opens chain reads f rest g c in record { rises = left.rises; from = left.from })
turn_opens chain g c v (Begun whole idle none pools next) = none_new g c v (λ file is_open. is_open, refl)
turn_opens chain g c v (Brought pieces req whole idle is there next late) = none_new g c v (λ file is_open. is_open, refl)
turn_opens chain g c v (FileTaken req file bytes whole idle is short newer last) = taken_opens req file bytes g c newer v refl refl
turn_opens chain g c v (Ended req whole idle is) = none_new g c v (closes_some (run_order (pools_of g c) req) (destroyed req (pools_of g c)) (files_of g c))

-- Worlds.

-- a file of the connection that is put has a new number, or was open under this number before
record PutsNew (k : ℕ) (w : World) (v : Linked) : Type 0 where
  rises : w.common.file ≤ v.0.file
  from : (file : ℕ) → is_some (v.1.opened file) ≡ true → ((w.common.file ≤ file) × (file < v.0.file)) ⊎ ((c : Connection) × (w.conns k ≡ Some c) × (is_some (c.opened file) ≡ true))

module _ (k : ℕ) (w : World) (v : Linked) (new : PutsNew k w v) (h : WorldFilesApart w) where
  -- where a file that is open then comes from
  Comes : ℕ → ℕ → Type 0
  Comes j file = ((j ≡ k) × (w.common.file ≤ file) × (file < v.0.file)) ⊎ ((c : Connection) × (w.conns j ≡ Some c) × (is_some (c.opened file) ≡ true))

  comes : (j file : ℕ) (x : Connection) → (put_conn k v w).conns j ≡ Some x → is_some (x.opened file) ≡ true → Comes j file
  unfolding Comes
  comes j file x e is_open = elim (upd_either w.conns k j (Some v.1)) [
    | inl at ↦ (let same : v.1 ≡ x = same_Some v.1 x (sym at.1 ∙ e) in elim (new.from file (subst (λ (y : Connection). is_some (y.opened file) ≡ true) (sym same) is_open)) [
      | inl fresh ↦ inl (at.0, fresh.0, fresh.1)
      | inr old ↦ inr (old.0, ap w.conns at.0 ∙ old.1, old.2)
    ])
    | inr off ↦ inr (x, sym off.1 ∙ e, is_open)
  ]

  put_apart : WorldFilesApart (put_conn k v w)
  unfolding Comes
  put_apart = record {
    given = λ j file x e is_open. elim (comes j file x e is_open) [
      | inl fresh ↦ fresh.2
      | inr old ↦ (let lt = h.given j file old.0 old.1 old.2 in let rises = new.rises in omega arith)
    ];
    own = λ i j file x y at_i at_j open_x open_y. both i j file (comes i file x at_i open_x) (comes j file y at_j open_y);
  } where
    both : (i j file : ℕ) → Comes i file → Comes j file → i ≡ j
    both i j file (inl a) (inl b) = a.0 ∙ sym b.0
    both i j file (inl a) (inr b) = (let lt = h.given j file b.0 b.1 b.2 in let le = a.1 in absurd (omega arith))
    both i j file (inr a) (inl b) = (let lt = h.given i file a.0 a.1 a.2 in let le = b.1 in absurd (omega arith))
    both i j file (inr a) (inr b) = h.own i j file a.0 b.0 a.1 b.1 a.2 b.2

pub event_keeps_files_apart : EventKeepsFilesApart
unfolding opened all_called
event_keeps_files_apart memory budget chain told k e w chained h = event_cases WorldFilesApart memory budget chain told k w h e (record {
  made = λ c v at made.
      let new = turn_opens chain w.common c v (made_turn memory budget chain told w.common c e v chained made) in
      put_apart k w v (record { rises = new.rises; from = λ file is_open. elim (new.from file is_open) [ inl old ↦ inr (c, at, old) | inr fresh ↦ inl fresh ] }) h;
  opening =
      λ last pools next. put_apart (w.last + 1) (record w { last = w.last + 1 }) (opened chain w.common)
      (record { rises = omega arith; from = λ file is_open. absurd (cc) }) (record { given = h.given; own = h.own });
  closing = λ c at. record {
    given = λ j file x there is_open. h.given j file x (stays_there k w j x there) is_open;
    own = λ i j file x y at_i at_j open_x open_y. h.own i j file x y (stays_there k w i x at_i) (stays_there k w j y at_j) open_x open_y;
  };
})

pub run_keeps_files_apart : RunKeeps WorldFilesApart
run_keeps_files_apart budget chain es answers w chained run =
    run_each WorldFilesApart budget chain (λ memory told k e v h. event_keeps_files_apart memory budget chain told k e v chained h) es answers (new_world run.first) w run.run
    (record { given = λ k file c e is_open. absurd (cc); own = λ j k file c d e at is_open there. absurd (cc) })
