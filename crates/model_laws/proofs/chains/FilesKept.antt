-- The files of FILE buckets stay open in each connection with a chain.
use Rattle.run_model.specs.declared.effect.CleanupKind.TheVariants.{Plain, Pre}
use Rattle.std.proofs.Common.{◌≡◌, ◌⊎◌, ℕ, ◌+◌, Bool, true, false, ◌&&◌, ◌||◌, ◌==◌, List, [], ◌∷◌, length, nat_le, filter_map, Option, Some, None, is_some, inl, inr, refl, sym, ◌∙◌, ap, subst}
use Rattle.std.proofs.Common.{eqb-true}
use Rattle.std.proofs.lemmas.Option.{none-some, same_Some}
use Rattle.std.proofs.lemmas.List.Folds.{list_any-append}
use Rattle.module_code.specs.declared.instr.PoolRef.TheVariants as pool
use Rattle.module_code.specs.declared.instr.Instr.{Instr}
use Rattle.module_code.specs.declared.instr.Instr.TheVariants as instr
use Rattle.module_code.specs.Program.{Program, pool_of_brigade}
use Rattle.run_model.specs.declared.bucket.NamedBucket.{NamedBucket}
use Rattle.run_model.specs.declared.payload.Payload.{Payload}
use Rattle.run_model.specs.declared.payload.Payload.TheVariants.{FileRef, Label}
use Rattle.run_model.specs.Indexed.{upd}
use Rattle.run_model.specs.Pools.{Pools, is_under, planted, created, registered, destroyed, registered_as}
use Rattle.run_model.specs.RunOrder.{IsPoolMap, killed}
use Rattle.run_model.specs.Payloads.{is_label}
use Rattle.run_model.specs.Buckets.{cleared_bucket}
use Rattle.run_model.specs.Clearing.{run_down}
use Rattle.run_model.specs.State.{Configuration, items_of, pool_named, set_pool, with_pools, set_brigade}
use Rattle.run_model.specs.Cursors.{CursorPlace, at_cursor}
use Rattle.run_model.specs.BucketSteps.{aside_into}
use Rattle.run_model.specs.Steps.{Choice, with_brigade, all_referred, step, current, on_pool, label_registered, label_killed, text_of, saved_into, made_on, new_ref, pool_cleared, pool_destroyed}
use Rattle.run_model.specs.Pieces.{has_range}
use Rattle.run_model.specs.Holding.{refers}
use Rattle.model_laws.specs.Laws.{HasReference, SoundFiles}
use Rattle.run_model.specs.Chains.{Frame, Connection, Common, Linked, module_at, configuration, pools_of, is_under_named, touched_bucket}
use Rattle.run_model.specs.Passing.{Reads, proceeds}
use Rattle.run_model.specs.Turns.{all_called, fresh_connection, opened, begun, file_taken, request_over}
use Rattle.model_laws.specs.ChainSound.{ChainSound}
use Rattle.model_laws.specs.ChainLaws.{MayProceed, after_top}
use Rattle.model_laws.specs.ChainFiles.{OfEachBucket, IsOpen, ChainFiles, WorldFiles}
use Rattle.model_laws.specs.KeptInRuns.{KeptInRuns}
use Rattle.run_model.proofs.Updates.{upd_either}
use Rattle.model_laws.proofs.StepPools.{aside_pools}
use Rattle.model_laws.proofs.NamedPools.{on_named, made_under_named}
use Rattle.model_laws.proofs.MadeBrigades.{brigade_refers}
use Rattle.run_model.proofs.References.{Emptied, one_of, created_refers, created_back, registered_refers, registered_back, registered_itself, all_grow, killed_refers, emptied_refers, cleared_emptied, registered_as_refers}
use Rattle.run_model.proofs.References.{destroyed_emptied}
use Rattle.model_laws.proofs.StepFiles.{cleared_held, returned_held, went_and, step_files}
use Rattle.model_laws.proofs.EachItem.{none}
use Rattle.model_laws.proofs.PieceFiles.{pieces_held}
use Rattle.model_laws.proofs.Unchanged.{step_changes_only}
use Rattle.model_laws.proofs.chains.PutBack.{looking}
use Rattle.model_laws.proofs.chains.Views.{sound_top}
use Rattle.model_laws.proofs.chains.TopSteps.{may_step}
use Rattle.model_laws.proofs.chains.EachBucket.{seen_each, each_bucket_so, proceeds_each}
use Rattle.model_laws.proofs.chains.EachEvent.{opened_each, begun_each, brought_in_each, request_over_each}
use Rattle.model_laws.proofs.chains.EventTurns.{EventTurn, Stood, Went, Begun, Brought, FileTaken, Ended}
use Rattle.model_laws.proofs.chains.Proceeds.{proceeds_files, proceeds_so}
use Rattle.model_laws.proofs.chains.WorldKept.{TurnsKeep, AnyLength, turns_in_runs}

-- What an instruction leaves of the references in pools.

abbrev PoolsGrow : Pools Payload → Pools Payload → Type 0
PoolsGrow ps new = (p file : ℕ) → refers ps p file ≡ true → refers new p file ≡ true

held_so : (ps new : Pools Payload) → PoolsGrow ps new → (x : NamedBucket) → HasReference ps x → HasReference new x
held_so ps new grow x h = λ file start len p c at. grow p file (h file start len p c at)

aside_grows : (s : CursorPlace) (target : ℕ) (r : Configuration) → PoolsGrow r.shared.pools (aside_into s target r).shared.pools
aside_grows s target r p file h = (let left = aside_pools s target r in subst (λ (ps : Pools Payload). refers ps p file ≡ true) (sym left.1) (all_grow target left.0 r.shared.pools p file h))

-- a bucket that the call does not see is held as it was
abbrev LeavesUnseen : Configuration → NamedBucket → Configuration → Type 0
LeavesUnseen r x s = HasReference s.shared.pools x

gone_held : (gone : ℕ → Configuration → Configuration) (o : Option ℕ) (r : Configuration) → ((n : ℕ) → Emptied n r.shared.pools (gone n r).shared.pools)
    → (x : NamedBucket) → HasReference r.shared.pools x → HasReference (on_pool gone o r).shared.pools (cleared_bucket (is_under_named r.shared.pools o) x)
gone_held gone None r e x h = cleared_held (λ m. false) r.shared.pools r.shared.pools (λ m file off there. there) x h
gone_held gone (Some n) r e x h = cleared_held (is_under r.shared.pools n) r.shared.pools (gone n r).shared.pools (λ m file off there. emptied_refers n r.shared.pools _ (e n) m file off there) x h

touched_held : (p : Program) (choice : Choice) (i : Instr) (r : Configuration) → IsPoolMap r.shared.pools → (x : NamedBucket) → HasReference r.shared.pools x
    → HasReference (step p choice i r).state.shared.pools (touched_bucket r i x)
unfolding with_pools set_pool run_down set_brigade
touched_held p choice (instr.PClear q) r formed x h = gone_held pool_cleared (pool_named r (pool.Own q)) r (λ n. cleared_emptied n r.shared.pools) x h
touched_held p choice (instr.PDestroy q) r formed x h = gone_held pool_destroyed (pool_named r (pool.Own q)) r (λ n. destroyed_emptied n r.shared.pools) x h
touched_held p choice (instr.Ret s) r formed x h = returned_held r.call.name r.shared.pools x h
touched_held p choice (instr.PCreate q) r formed x h =
    made_under_named (LeavesUnseen r x) p q r h (λ parent e. held_so r.shared.pools (created parent r.shared.pools) (λ m file there. created_refers parent r.shared.pools m file formed there) x h)
touched_held p choice (instr.Label q t) r formed x h =
    on_named (LeavesUnseen r x) (label_registered Plain (text_of p t)) (pool_named r q) r h
    (λ n e. held_so r.shared.pools (registered n (Label (text_of p t)) r.shared.pools) (λ m file there. registered_refers n (Label (text_of p t)) r.shared.pools m file there) x h)
touched_held p choice (instr.PreLabel q t) r formed x h =
    on_named (LeavesUnseen r x) (label_registered Pre (text_of p t)) (pool_named r q) r h
    (λ n e. held_so r.shared.pools (registered_as Pre n (Label (text_of p t)) r.shared.pools) (λ m file there. registered_as_refers Pre n (Label (text_of p t)) r.shared.pools m file there) x h)
touched_held p choice (instr.Unlabel q t) r formed x h =
    on_named (LeavesUnseen r x) (label_killed (text_of p t)) (pool_named r q) r h
    (λ n e. held_so r.shared.pools (killed n (is_label (text_of p t)) r.shared.pools) (λ m file there. killed_refers n (text_of p t) r.shared.pools m file ∙ there) x h)
touched_held p choice (instr.BCreate o) r formed x h = held_so r.shared.pools (with_brigade (pool_named r (pool_of_brigade p o)) r.shared.next r.shared.pools)
    (λ m file there. brigade_refers (pool_named r (pool_of_brigade p o)) r.shared.next r.shared.pools m file there) x h
touched_held p choice (instr.BSave o b) r formed x h = on_named (LeavesUnseen r x) (saved_into o b) (made_on (r.instance.brigades o)) r h (λ target e.
    held_so r.shared.pools (all_referred target (filter_map (new_ref r.shared.pools target) (items_of (r.instance.brigades b))) r.shared.pools)
    (λ m file there. all_grow target (filter_map (new_ref r.shared.pools target) (items_of (r.instance.brigades b))) r.shared.pools m file there) x h)
touched_held p choice (instr.Aside c q) r formed x h =
    on_named (LeavesUnseen r x) (aside_into (at_cursor r c)) (pool_named r q) r h
    (λ target e. held_so r.shared.pools (aside_into (at_cursor r c) target r).shared.pools (aside_grows (at_cursor r c) target r) x h)
touched_held p choice i r formed x h = subst (λ (ps : Pools Payload). HasReference ps x) (sym ((step_changes_only p choice i r).tree refl)) h

-- Connections.

-- the same but for what follows from it
record KeptConnection (g : Common) (c : Connection) : Type 0 where
  lasts : (p file : ℕ) → refers (pools_of g c) p file ≡ true → is_some (c.opened file) ≡ true
  held : OfEachBucket (HasReference (pools_of g c)) c
  request : (file end req : ℕ) → has_range c.files file end ≡ true → c.req ≡ Some req → refers (pools_of g c) req file ≡ true
  between : c.req ≡ None → c.files ≡ []

with_open : (g : Common) (c : Connection) → KeptConnection g c → ChainFiles g c
with_open g c h = record {
  lasts = h.lasts;
  held = h.held;
  open_files = each_bucket_so (HasReference (pools_of g c)) (IsOpen c) (λ x there. λ file start len p e at. h.lasts p file (there file start len p e at)) c h.held;
  request = h.request;
  between = h.between;
}

-- what a call sees of it
seen_files : (g : Common) (c : Connection) (f : Frame) (rest : List Frame) → c.stack ≡ f ∷ rest → KeptConnection g c → SoundFiles c.files (configuration g c f)
unfolding configuration
seen_files g c f rest is h = (let seen = seen_each (HasReference (pools_of g c)) g c f rest is h.held in record { lasts = h.lasts; brigades = seen.brigades; loose = seen.loose; request = h.request })

-- what an instruction leaves but for the buckets
abbrev AllButBuckets : Connection → Pools Payload → (ℕ → Option (List ℕ)) → ℕ → Option ℕ → Type 0
AllButBuckets c ps files next req =
    ((p file : ℕ) → refers ps p file ≡ true → is_some (files file) ≡ true)
    × ((file end q : ℕ) → has_range c.files file end ≡ true → req ≡ Some q → refers ps q file ≡ true)
    × (req ≡ c.req)

went_files : (chain : List Program) (reads : Reads) (f : Frame) (rest : List Frame) (g : Common) (c : Connection) → MayProceed chain g c f rest → ChainSound chain g c → KeptConnection g c
    → KeptConnection (after_top chain reads g c f rest).0 (after_top chain reads g c f rest).1
unfolding configuration
went_files chain reads f rest g c may s h = record {
  lasts = others.0;
  held = proceeds_each (λ ps x. HasReference ps x) (λ ps x. HasReference ps x) chain g c f reads i rest may.on_top (record {
    held = λ choice. (let left = stepped choice in record { brigades = left.brigades; loose = left.loose });
    touched = λ choice x there. touched_held (module_at chain f.of) choice i (configuration g c f) (s.pools.sound f).formed x there;
  }) h.held;
  request = subst (λ (files : List (ℕ × ℕ)). (file end req : ℕ) → has_range files file end ≡ true → left.1.req ≡ Some req → refers (pools_of left.0 left.1) req file ≡ true) (sym same_files) others.1;
  between = λ none. same_files ∙ h.between (sym others.2 ∙ none);
} where
  i : Instr
  i = current (module_at chain f.of) f.pc

  left : Linked
  left = (proceeds chain reads i f rest (g, c)).1

  same_files : left.1.files ≡ c.files
  same_files = proceeds_files chain reads i f rest g c

  stepped : (choice : Choice) → SoundFiles c.files (step (module_at chain f.of) choice i (configuration g c f)).state
  stepped choice = step_files (module_at chain f.of) choice i c.files (configuration g c f) (may_step chain g c f rest may s) (sound_top chain g c f rest may.on_top s)
      (seen_files g c f rest may.on_top h)

  others : AllButBuckets c (pools_of left.0 left.1) left.1.opened left.0.file left.1.req
  others = proceeds_so (AllButBuckets c) chain reads i f rest g c
      (λ choice. (let there = stepped choice in (there.lasts, there.request, (step_changes_only (module_at chain f.of) choice i (configuration g c f)).req))) (h.lasts, h.request, refl)

-- Events.

opened_files : (chain : List Program) (g : Common) → KeptConnection (opened chain g).0 (opened chain g).1
unfolding opened all_called planted
opened_files chain g = record {
  lasts = λ p file h. absurd (let none : false ≡ true = created_back g.root (pools_of g (fresh_connection g)) p file h in cc);
  held = opened_each (HasReference (pools_of (opened chain g).0 (opened chain g).1)) chain g;
  request = λ file end q has is. absurd (cc);
  between = λ none. refl;
}

begun_files : (chain : List Program) (g : Common) (c : Connection) → IsPoolMap (pools_of g c) → c.req ≡ None → KeptConnection g c → KeptConnection (begun chain (g, c)).0 (begun chain (g, c)).1
unfolding begun all_called
begun_files chain g c formed none h =
    let ps : Pools Payload = pools_of g c in
    let new : Pools Payload = created c.conn ps in
    let grow : PoolsGrow ps new = λ p file there. created_refers c.conn ps p file formed there in
    let is_none : c.files ≡ [] = h.between none in
    record {
      lasts = λ p file there. h.lasts p file (created_back c.conn ps p file there);
      held = begun_each (HasReference new) chain g c (each_bucket_so (HasReference ps) (HasReference new) (held_so ps new grow) c h.held);
      request = λ file end q has is. absurd (let no : false ≡ true = subst (λ (files : List (ℕ × ℕ)). has_range files file end ≡ true) is_none has in cc);
      between = λ over. is_none;
    }

-- a file is opened under the next number, and others stay open
stays_open : (files : ℕ → Option (List ℕ)) (next file : ℕ) (bytes : List ℕ) → (is_some (files file) ≡ true) ⊎ (next ≡ file) → is_some (upd files next (Some bytes) file) ≡ true
stays_open files next file bytes which = elim (upd_either files next file (Some bytes)) [
  | inl q ↦ ap is_some q.1
  | inr q ↦ ap is_some q.1 ∙ (elim which [ inl old ↦ old | inr same ↦ absurd (q.0 (sym same)) ])
]

taken_files : (req new_file : ℕ) (bytes : List ℕ) (g : Common) (c : Connection) → c.req ≡ Some req → KeptConnection g c
    → KeptConnection (file_taken req new_file bytes (g, c)).0 (file_taken req new_file bytes (g, c)).1
unfolding registered_as
taken_files req new_file bytes g c is h =
    let ps : Pools Payload = pools_of g c in
    let new : Pools Payload = registered req (FileRef new_file) ps in
    let grow : PoolsGrow ps new = λ p file there. registered_refers req (FileRef new_file) ps p file there in
    let all = each_bucket_so (HasReference ps) (HasReference new) (held_so ps new grow) c h.held in
    record {
      lasts = λ p file there. stays_open c.opened new_file file bytes
          (elim (registered_back req (FileRef new_file) ps p file there) [ inl old ↦ inl (h.lasts p file old) | inr same ↦ inr (eqb-true new_file file same) ]);
      held = record { brigades = all.brigades; loose = all.loose };
      request = λ file end q has at. elim (one_of (has_range c.files file end) (has_range ((new_file, length bytes) ∷ []) file end)
          (sym (list_any-append (λ (f : ℕ × ℕ). f.0 == file && nat_le end f.1) c.files ((new_file, length bytes) ∷ [])) ∙ has)) [
            | inl old ↦ grow q file (h.request file end q old at)
            | inr last ↦ (let same : req ≡ q = same_Some req q (sym is ∙ at) in
                subst (λ (k : ℕ). refers new k file ≡ true) same
                (subst (λ (k : ℕ). refers new req k ≡ true) (eqb-true new_file file (first_of (new_file == file) (nat_le end (length bytes)) last)) (registered_itself req new_file ps)))
          ];
      between = λ none. absurd (none-some req (sym none ∙ is));
    } where
      first_of : (a b : Bool) → ((a && b) || false) ≡ true → a ≡ true
      first_of true b e = refl
      first_of false b e = absurd (cc)

over_files : (chain : List Program) (req : ℕ) (g : Common) (c : Connection) → c.stack ≡ [] → ChainSound chain g c → KeptConnection g c
    → KeptConnection (request_over req (g, c)).0 (request_over req (g, c)).1
unfolding configuration run_down with_pools
over_files chain req g c idle s h =
    let ps : Pools Payload = pools_of g c in
    let r : Configuration = configuration g c (looking 0) in
    let seen : SoundFiles c.files r = record { lasts = h.lasts; brigades = h.held.brigades 0; loose = none (HasReference ps); request = h.request } in
    let gone = went_and [] req r (destroyed req ps) (destroyed_emptied req ps) (s.pools.sound (looking 0)) (λ file end q has is. absurd (cc)) c.files seen in
    record {
      lasts = gone.lasts;
      held = request_over_each (HasReference ps) (HasReference (destroyed req ps)) req g c idle
          (cleared_held (is_under ps req) ps (destroyed req ps) (λ m file off there. emptied_refers req ps _ (destroyed_emptied req ps) m file off there)) h.held;
      request = λ file end q has is. absurd (cc);
      between = λ none. refl;
    }

turn_files : (chain : List Program) (g : Common) (c : Connection) (v : Linked) → EventTurn chain AnyLength g c v → ChainSound chain g c → KeptConnection g c → KeptConnection v.0 v.1
unfolding configuration
turn_files chain g c v (Stood out broken still) s h = record { lasts = h.lasts; held = record { brigades = h.held.brigades; loose = h.held.loose }; request = h.request; between = h.between }
turn_files chain g c v (Went reads f rest whole may) s h =
    let left = went_files chain reads f rest g c may s h in
    record { lasts = left.lasts; held = record { brigades = left.held.brigades; loose = left.held.loose }; request = left.request; between = left.between }
turn_files chain g c v (Begun whole idle none pools next) s h = begun_files chain g c (s.pools.sound (looking 0)).formed none h
turn_files chain g c v (Brought pieces req whole idle is there next late) s h = record {
  lasts = h.lasts;
  held = brought_in_each (HasReference (pools_of g c)) chain pieces req g c
      (pieces_held (pools_of g c) c.files g.next req (g.next + 2) pieces there (λ file end has. h.request file end req has is)) h.held;
  request = h.request;
  between = h.between;
}
turn_files chain g c v (FileTaken req file bytes whole idle is short newer last) s h = taken_files req file bytes g c is h
turn_files chain g c v (Ended req whole idle is) s h = over_files chain req g c idle s h

kept_of : (g : Common) (c : Connection) → ChainFiles g c → KeptConnection g c
kept_of g c h = record { lasts = h.lasts; held = h.held; request = h.request; between = h.between }

-- others take names
risen_files : (g new : Common) (c : Connection) → ChainFiles g c → ChainFiles new c
risen_files g new c h = record { lasts = h.lasts; held = h.held; open_files = h.open_files; request = h.request; between = h.between }

pub files_kept : (chain : List Program) → TurnsKeep chain AnyLength ChainFiles
files_kept chain = record {
  rising = λ g new c rises s h. risen_files g new c h;
  opening = λ g has s. with_open (opened chain g).0 (opened chain g).1 (opened_files chain g);
  turns = λ g c v has t s new h. with_open v.0 v.1 (turn_files chain g c v t s (kept_of g c h));
}

pub files_in_runs : KeptInRuns WorldFiles
files_in_runs = turns_in_runs ChainFiles files_kept
