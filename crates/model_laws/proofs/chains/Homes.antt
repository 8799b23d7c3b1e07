-- Homes that have not ended are alive in each connection with a chain.
use Rattle.std.proofs.Common.{◌≡◌, ◌≢◌, ℕ, ◌+◌, Bool, true, false, cond, List, [], ◌∷◌, map, None, All, inl, inr, refl, sym, ◌∙◌, subst}
use Rattle.std.proofs.lemmas.List.Elements.{All-cons}
use Rattle.module_code.specs.declared.instr.Instr.{Instr}
use Rattle.module_code.specs.declared.instr.Instr.TheVariants as instr
use Rattle.module_code.specs.Program.{Program}
use Rattle.run_model.specs.declared.bucket.NamedBucket.{NamedBucket}
use Rattle.run_model.specs.declared.event.Piece.{Piece}
use Rattle.run_model.specs.declared.event.Piece.TheVariants as piece
use Rattle.run_model.specs.declared.payload.Payload.{Payload}
use Rattle.run_model.specs.Pools.{Pools, is_live, is_under, created, destroyed, registered, registered_as}
use Rattle.run_model.specs.Clearing.{run_down}
use Rattle.run_model.specs.State.{items_of, with_pools}
use Rattle.run_model.specs.Steps.{Choice, answer_to, current, step}
use Rattle.run_model.specs.Pieces.{bucket_of, named_from}
use Rattle.model_laws.specs.Laws.{MayExecute, is_return}
use Rattle.run_model.specs.Sound.{Sound}
use Rattle.run_model.specs.Chains.{Frame, Connection, Common, Linked, module_at, is_last, next_place, configuration, pools_of, touched_bucket, touched_frame, put_back, stepped_in}
use Rattle.run_model.specs.Passing.{Reads, passed_to, returned_to, delivered, delivered_by, returned_from, proceeds}
use Rattle.run_model.specs.Turns.{all_called, opened, begun, brought_in, request_over}
use Rattle.model_laws.specs.ChainSound.{ChainSound}
use Rattle.model_laws.specs.ChainLaws.{MayProceed, after_top}
use Rattle.model_laws.specs.ChainFiles.{OfEachBucket}
use Rattle.model_laws.specs.ChainHomes.{IsCalled, HomeIsAlive, ChainHomes, WorldHomes}
use Rattle.model_laws.specs.KeptInRuns.{KeptInRuns}
use Rattle.run_model.proofs.Formed.{path_live}
use Rattle.run_model.proofs.PoolMap.{created_lives}
use Rattle.model_laws.proofs.PoolsGone.{destroyed_so, apart_lives}
use Rattle.model_laws.proofs.Unchanged.{step_changes_only}
use Rattle.model_laws.proofs.chains.PutBack.{looking}
use Rattle.model_laws.proofs.chains.Views.{sound_top}
use Rattle.model_laws.proofs.chains.TopSteps.{may_step}
use Rattle.model_laws.proofs.Origins.{HoldsNamed}
use Rattle.model_laws.proofs.EachItem.{none, each_so}
use Rattle.model_laws.proofs.chains.EachBucket.{Steps, seen_each, each_bucket_so, proceeds_each}
use Rattle.model_laws.proofs.chains.EachEvent.{opened_each, begun_each, brought_in_each, request_over_each}
use Rattle.model_laws.proofs.chains.EventTurns.{EventTurn, Stood, Went, Begun, Brought, FileTaken, Ended}
use Rattle.model_laws.proofs.chains.StepHomes.{AliveHome, AliveAs, home_so, cleared_home, touched_alive, step_alive, returned_alive, return_alive}
use Rattle.model_laws.proofs.chains.WorldKept.{TurnsKeep, AnyLength, turns_in_runs}

-- The stack that an instruction leaves.

map_called : (change : NamedBucket → NamedBucket) (fs : List Frame) (n : ℕ) → IsCalled fs n → IsCalled (map (touched_frame change) fs) n
unfolding IsCalled
map_called change [] n h = h
map_called change (f ∷ fs) n (inl here) = inl here
map_called change (f ∷ fs) n (inr there) = inr (map_called change fs n there)

-- which calls there are after an instruction of the call f, which is no longer there where it returns
CallsStay : Instr → Frame → List Frame → List Frame → Type 0
CallsStay i f fs new = (n : ℕ) → IsCalled (f ∷ fs) n → (is_return i ≡ true → n ≢ f.call.name) → IsCalled new n

stepped_calls : (chain : List Program) (choice : Choice) (i : Instr) (f : Frame) (rest : List Frame) (g : Common) (c : Connection) → is_return i ≡ false
    → CallsStay i f rest (stepped_in (module_at chain f.of) choice i f rest (g, c)).1.stack
unfolding CallsStay IsCalled stepped_in put_back configuration
stepped_calls chain choice i f rest g c on n (inl here) others = inl ((step_changes_only (module_at chain f.of) choice i (configuration g c f)).call_name on ∙ here)
stepped_calls chain choice i f rest g c on n (inr there) others = inr (map_called _ rest n there)

passed_calls : (chain : List Program) (reads : Reads) (b l : ℕ) (f : Frame) (rest : List Frame) (g : Common) (c : Connection) (t : Bool)
    → CallsStay (instr.Pass b l) f rest (cond t (delivered_by (module_at chain f.of) reads b (instr.Pass b l) f rest (g, c)) (passed_to (module_at chain (next_place chain c f.of)) (next_place chain c f.of) b f rest (g, c))).1.stack
unfolding CallsStay IsCalled delivered_by passed_to
passed_calls chain reads b l f rest g c true n h others =
    stepped_calls chain (record { answer = answer_to (delivered c.out (items_of ((c.instances f.of).brigades b)) reads).1; given = None }) (instr.Pass b l) f rest g c refl n h others
passed_calls chain reads b l f rest g c false n h others = inr h

gone : (i : Instr) (f : Frame) (new : List Frame) → is_return i ≡ true → CallsStay i f [] new
unfolding CallsStay IsCalled
gone i f new on n (inl here) others = absurd (others on (sym here))
gone i f new on n (inr there) others = absurd there

proceeds_calls : (chain : List Program) (reads : Reads) (i : Instr) (f : Frame) (rest : List Frame) (g : Common) (c : Connection) → CallsStay i f rest (proceeds chain reads i f rest (g, c)).1.1.stack
unfolding CallsStay IsCalled proceeds returned_to returned_from put_back
proceeds_calls chain reads (instr.Pass b l) f rest g c n h others = passed_calls chain reads b l f rest g c (is_last chain c f.of) n h others
proceeds_calls chain reads (instr.Ret s) f [] g c n h others = gone (instr.Ret s) f _ refl n h others
proceeds_calls chain reads (instr.Ret s) f (w ∷ rest) g c n (inl here) others = absurd (others refl (sym here))
proceeds_calls chain reads (instr.Ret s) f (w ∷ rest) g c n (inr (inl waits)) others = inl waits
proceeds_calls chain reads (instr.Ret s) f (w ∷ rest) g c n (inr (inr there)) others = inr (map_called _ rest n there)
proceeds_calls chain reads i f rest g c n h others = stepped_calls chain _ i f rest g c refl n h others

-- The instruction on top.

module _ (chain : List Program) (g : Common) (c : Connection) (f : Frame) (rest : List Frame) (D : ℕ → Type 0) where
  abbrev C : ℕ → Type 0
  C = IsCalled (f ∷ rest)

  weaker : (ps : Pools Payload) → ((n : ℕ) → C n → D n) → (x : NamedBucket) → AliveAs C ps x → AliveAs D ps x
  weaker ps calls x a = home_so C D ps ps calls (λ n live. live) x.bucket.home a

  going_on : (i : Instr) → is_return i ≡ false → ((n : ℕ) → C n → D n) → MayExecute (module_at chain f.of) (configuration g c f) i
      → Sound (configuration g c f) → HoldsNamed (AliveAs C (pools_of g c)) (configuration g c f)
      → Steps (AliveAs C) (AliveAs D) chain g c f i
  unfolding configuration IsCalled
  going_on i on calls may sound h = record {
    held = λ choice.
        let s = (step (module_at chain f.of) choice i (configuration g c f)).state in
        let left = step_alive C (module_at chain f.of) choice i (configuration g c f) on may sound (inl refl) h in
        record {
          brigades = λ b. each_so (AliveAs C s.shared.pools) (AliveAs D s.shared.pools) (weaker s.shared.pools calls) (items_of (s.instance.brigades b)) (left.brigades b);
          loose = each_so (AliveAs C s.shared.pools) (AliveAs D s.shared.pools) (weaker s.shared.pools calls) s.call.loose left.loose;
        };
    touched = λ choice x a. weaker (step (module_at chain f.of) choice i (configuration g c f)).state.shared.pools calls (touched_bucket (configuration g c f) i x)
        (touched_alive C (module_at chain f.of) choice i (configuration g c f) on x a);
  }

  homes_step : (i : Instr) → ((n : ℕ) → C n → (is_return i ≡ true → n ≢ f.call.name) → D n)
      → MayExecute (module_at chain f.of) (configuration g c f) i → Sound (configuration g c f) → HoldsNamed (AliveAs C (pools_of g c)) (configuration g c f)
      → Steps (AliveAs C) (AliveAs D) chain g c f i
  unfolding configuration
  homes_step i others may sound h = by_return (is_return i) refl where
    by_return : (b : Bool) → is_return i ≡ b → Steps (AliveAs C) (AliveAs D) chain g c f i
    by_return false on = going_on i on (λ n there. others n there (λ yes. absurd (cc))) may sound h
    by_return true on = at_return i on others may h where
      at_return : (i : Instr) → is_return i ≡ true → ((n : ℕ) → C n → (is_return i ≡ true → n ≢ f.call.name) → D n)
          → MayExecute (module_at chain f.of) (configuration g c f) i → HoldsNamed (AliveAs C (pools_of g c)) (configuration g c f)
          → Steps (AliveAs C) (AliveAs D) chain g c f i
      at_return (instr.Ret s) on others may h = record {
        held = λ choice. return_alive C D (configuration g c f) (λ n there ne. others n there (λ yes. ne)) h;
        touched = λ choice x a. returned_alive C D (configuration g c f) (λ n there ne. others n there (λ yes. ne)) x a;
      }
      at_return i on others may h = absurd (cc)

went_homes : (chain : List Program) (reads : Reads) (f : Frame) (rest : List Frame) (g : Common) (c : Connection) → MayProceed chain g c f rest → ChainSound chain g c → ChainHomes g c
    → ChainHomes (after_top chain reads g c f rest).0 (after_top chain reads g c f rest).1
unfolding CallsStay configuration
went_homes chain reads f rest g c may s h =
    let i : Instr = current (module_at chain f.of) f.pc in
    let left : Linked = (proceeds chain reads i f rest (g, c)).1 in
    let old : OfEachBucket (AliveAs (IsCalled (f ∷ rest)) (pools_of g c)) c = subst (λ (fs : List Frame). OfEachBucket (AliveAs (IsCalled fs) (pools_of g c)) c) may.on_top h in
    let steps = homes_step chain g c f rest (IsCalled left.1.stack) i (proceeds_calls chain reads i f rest g c) (may_step chain g c f rest may s) (sound_top chain g c f rest may.on_top s)
    (seen_each (AliveAs (IsCalled (f ∷ rest)) (pools_of g c)) g c f rest may.on_top old) in
    proceeds_each (AliveAs (IsCalled (f ∷ rest))) (AliveAs (IsCalled left.1.stack)) chain g c f reads i rest may.on_top steps old

-- Events between calls.

-- no call runs
idle_so : (D : ℕ → Type 0) (fs : List Frame) (ps new : Pools Payload) → fs ≡ [] → ((n : ℕ) → is_live ps n ≡ true → is_live new n ≡ true) → (x : NamedBucket) → AliveAs (IsCalled fs) ps x
    → AliveAs D new x
unfolding IsCalled
idle_so D fs ps new idle lives x a = home_so (IsCalled fs) D ps new (λ n h. absurd (subst (λ (w : List Frame). IsCalled w n) idle h)) lives x.bucket.home a

begun_homes : (chain : List Program) (g : Common) (c : Connection) → c.stack ≡ [] → ChainHomes g c → ChainHomes (begun chain (g, c)).0 (begun chain (g, c)).1
unfolding begun all_called
begun_homes chain g c idle h =
    let left : Linked = begun chain (g, c) in
    begun_each (HomeIsAlive left.0 left.1) chain g c
    (each_bucket_so (HomeIsAlive g c) (HomeIsAlive left.0 left.1)
    (idle_so (IsCalled left.1.stack) c.stack (pools_of g c) (created c.conn (pools_of g c)) idle (created_lives c.conn (pools_of g c))) c h)

pieces_alive : (D : ℕ → Type 0) (ps : Pools Payload) (call req n : ℕ) (xs : List Piece) → D call → is_live ps req ≡ true → All (AliveAs D ps) (named_from (bucket_of call req) n xs)
pieces_alive D ps call req n [] runs live = none (AliveAs D ps)
pieces_alive D ps call req n (x ∷ xs) runs live = All-cons (AliveAs D ps) _ (named_from (bucket_of call req) (n + 1) xs) (one x) (pieces_alive D ps call req (n + 1) xs runs live) where
  one : (y : Piece) → AliveHome D ps (bucket_of call req y).home
  one (piece.Transient bytes) = runs
  one (piece.File file start len) = live
  one y = tt

brought_homes : (chain : List Program) (pieces : List Piece) (req : ℕ) (g : Common) (c : Connection) → c.stack ≡ [] → is_live (pools_of g c) req ≡ true → ChainHomes g c
    → ChainHomes (brought_in chain pieces req (g, c)).0 (brought_in chain pieces req (g, c)).1
unfolding IsCalled is_live
brought_homes chain pieces req g c idle live h =
    let left : Linked = brought_in chain pieces req (g, c) in
    let D : ℕ → Type 0 = IsCalled left.1.stack in
    brought_in_each (AliveAs D (pools_of g c)) chain pieces req g c (pieces_alive D (pools_of g c) g.next req (g.next + 2) pieces (inl refl) live)
    (each_bucket_so (HomeIsAlive g c) (AliveAs D (pools_of g c)) (idle_so D c.stack (pools_of g c) (pools_of g c) idle (λ n there. there)) c h)

over_homes : (req : ℕ) (g : Common) (c : Connection) → c.stack ≡ [] → ChainHomes g c → ChainHomes (request_over req (g, c)).0 (request_over req (g, c)).1
unfolding configuration run_down with_pools
over_homes req g c idle h =
    request_over_each (HomeIsAlive g c) (AliveAs (IsCalled c.stack) (destroyed req (pools_of g c))) req g c idle
    (λ x a. cleared_home (IsCalled c.stack) (pools_of g c) (destroyed req (pools_of g c)) (is_under (pools_of g c) req)
    (apart_lives req (pools_of g c) (destroyed req (pools_of g c)) (destroyed_so req (pools_of g c))) x.bucket.home a) h

turn_homes : (chain : List Program) (g : Common) (c : Connection) (v : Linked) → EventTurn chain AnyLength g c v → ChainSound chain g c → ChainHomes g c → ChainHomes v.0 v.1
unfolding configuration is_live registered_as
turn_homes chain g c v (Stood out broken still) s h = record { brigades = h.brigades; loose = h.loose }
turn_homes chain g c v (Went reads f rest whole may) s h = (let left = went_homes chain reads f rest g c may s h in record { brigades = left.brigades; loose = left.loose })
turn_homes chain g c v (Begun whole idle no_request pools next) s h = begun_homes chain g c idle h
turn_homes chain g c v (Brought pieces req whole idle is there next late) s h = brought_homes chain pieces req g c idle (path_live (pools_of g c) req req _ ((s.pools.sound (looking 0)).req req is).0) h
turn_homes chain g c v (FileTaken req file bytes whole idle is short newer last) s h = record { brigades = h.brigades; loose = h.loose }
turn_homes chain g c v (Ended req whole idle is) s h = over_homes req g c idle h

-- others take names
risen_homes : (g new : Common) (c : Connection) → ChainHomes g c → ChainHomes new c
unfolding is_live
risen_homes g new c h = record { brigades = h.brigades; loose = h.loose }

pub homes_kept : (chain : List Program) → TurnsKeep chain AnyLength ChainHomes
homes_kept chain = record {
  rising = λ g new c rises s h. risen_homes g new c h;
  opening = λ g has s. opened_each (HomeIsAlive (opened chain g).0 (opened chain g).1) chain g;
  turns = λ g c v has t s new h. turn_homes chain g c v t s h;
}

pub homes_in_runs : KeptInRuns WorldHomes
homes_in_runs = turns_in_runs ChainHomes homes_kept
