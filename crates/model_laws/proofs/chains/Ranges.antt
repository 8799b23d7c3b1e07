-- The ranges of each connection with a chain stay in their files.
use Rattle.std.proofs.Common.{◌≡◌, ◌≢◌, ℕ, ◌+◌, ◌<◌, ◌≤◌, Bool, true, false, ◌&&◌, not, ◌==◌, cond, nat_le, List, [], ◌∷◌, length, Option, Some, None, is_some, All, inl, inr, refl, sym, ◌∙◌, ap}
use Rattle.std.proofs.Common.{subst, eqb-true, arith}
use Rattle.std.specs.List.{list_any}
use Rattle.std.proofs.lemmas.Bool.Decides.{nat_tests}
use Rattle.std.proofs.lemmas.List.Elements.{All-nil, All-cons, All-head, All-tail, All-append}
use Rattle.module_code.specs.declared.instr.Instr.{Instr}
use Rattle.module_code.specs.declared.instr.Instr.TheVariants as instr
use Rattle.module_code.specs.declared.instr.PoolRef.TheVariants as pool
use Rattle.module_code.specs.Program.{Program}
use Rattle.run_model.specs.declared.bucket.Content.TheVariants as content
use Rattle.run_model.specs.declared.bucket.Home.TheVariants as home
use Rattle.run_model.specs.declared.bucket.NamedBucket.{NamedBucket}
use Rattle.run_model.specs.declared.event.Piece.{Piece}
use Rattle.run_model.specs.declared.payload.Payload.{Payload}
use Rattle.run_model.specs.declared.payload.Payload.TheVariants.{FileRef}
use Rattle.run_model.specs.Indexed.{upd}
use Rattle.run_model.specs.Pools.{Pools, is_under, planted, registered, cleared, destroyed, registered_as}
use Rattle.run_model.specs.RunOrder.{run_order}
use Rattle.run_model.specs.Payloads.{is_file_ref}
use Rattle.run_model.specs.Buckets.{cleared_bucket}
use Rattle.run_model.specs.Clearing.{run_down}
use Rattle.run_model.specs.Files.{Files, is_referred, let_go}
use Rattle.run_model.specs.State.{Configuration, pool_named, with_pools}
use Rattle.run_model.specs.Steps.{Choice, step, current, pool_cleared, pool_destroyed}
use Rattle.run_model.specs.Pieces.{bucket_of, named_from, has_range, lacks_file}
use Rattle.run_model.specs.Holding.{refers}
use Rattle.model_laws.specs.Laws.{HasReference, SoundFiles}
use Rattle.model_laws.specs.Ranges.{Reaches, LiesInFile, HasLength, SoundRanges}
use Rattle.run_model.specs.Chains.{Frame, Connection, Common, Linked, module_at, configuration, pools_of, files_of, touched_bucket}
use Rattle.run_model.specs.Passing.{Reads}
use Rattle.run_model.specs.Turns.{all_called, fresh_connection, opened, begun, file_taken, request_over}
use Rattle.model_laws.specs.ChainSound.{ChainSound}
use Rattle.model_laws.specs.ChainLaws.{MayProceed, after_top}
use Rattle.model_laws.specs.ChainFiles.{OfEachBucket, IsOpen, ChainFiles, WorldFiles}
use Rattle.model_laws.specs.ChainRanges.{ChainRanges, WorldRanges, EventKeepsWorldRanges}
use Rattle.model_laws.specs.KeptInRuns.{RunKeeps}
use Rattle.run_model.proofs.Updates.{upd_at, upd_off}
use Rattle.model_laws.proofs.NamedPools.{on_named}
use Rattle.run_model.proofs.References.{one_of, created_back, registered_back, emptied_back, destroyed_emptied}
use Rattle.model_laws.proofs.PieceFiles.{pieces_ranges}
use Rattle.model_laws.proofs.StepFiles.{left_home, spared_home}
use Rattle.model_laws.proofs.StepRanges.{LieList, still_told, step_ranges}
use Rattle.model_laws.proofs.Unchanged.{step_changes_only}
use Rattle.model_laws.proofs.chains.Views.{sound_top}
use Rattle.model_laws.proofs.chains.TopSteps.{may_step}
use Rattle.model_laws.proofs.chains.EachBucket.{touched_so, seen_each, each_bucket_so, proceeds_each}
use Rattle.model_laws.proofs.chains.EachEvent.{opened_each, begun_each, brought_in_each, request_over_each}
use Rattle.model_laws.proofs.chains.EachConnection.{made_turn, event_each}
use Rattle.model_laws.proofs.chains.EventTurns.{EventTurn, Stood, Went, Begun, Brought, FileTaken, Ended}
use Rattle.model_laws.proofs.chains.FilesApart.{turn_opens}
use Rattle.model_laws.proofs.chains.FilesKept.{files_kept, files_in_runs}
use Rattle.model_laws.proofs.chains.Proceeds.{proceeds_files, proceeds_so}
use Rattle.model_laws.proofs.chains.TurnsSound.{turn_sound}
use Rattle.model_laws.proofs.chains.WorldKept.{beside_in_runs, AnyLength}

-- What is brought.

-- a told file reaches as far as it was told
reach_told : (fs : Files) (files : List (ℕ × ℕ)) (file end : ℕ) → All (HasLength fs) files → has_range files file end ≡ true → Reaches fs file end
reach_told fs [] file end h has = absurd (cc)
reach_told fs (f ∷ rest) file end h has = elim (one_of (f.0 == file && nat_le end f.1) (has_range rest file end) has) [
  | inl here ↦ (let parts = both (f.0 == file) (nat_le end f.1) here in
      let there = All-head (HasLength fs) f rest h in
      (there.0, sym (ap fs.opened (eqb-true f.0 file parts.0)) ∙ there.1, subst (λ (k : ℕ). end ≤ k) there.2 (reaches f.1 parts.1)))
  | inr later ↦ reach_told fs rest file end (All-tail (HasLength fs) f rest h) later
] where
  both : (a b : Bool) → (a && b) ≡ true → (a ≡ true) × (b ≡ true)
  both true b e = (refl, e)
  both false b e = absurd (cc)

  reaches : (n : ℕ) → nat_le end n ≡ true → end ≤ n
  reaches n e = grind (arith, nat_tests)

pieces_lie : (fs : Files) (files : List (ℕ × ℕ)) (call req n : ℕ) (xs : List Piece) → list_any (lacks_file files) xs ≡ false → All (HasLength fs) files
    → LieList fs (named_from (bucket_of call req) n xs)
pieces_lie fs files call req n xs there lengths =
    pieces_ranges (λ file start len p. Reaches fs file (start + len)) files call req (λ file start len has. reach_told fs files file (start + len) lengths has) n xs there

-- What an instruction leaves: a file that is open then held the same before.

abbrev Closes : (ℕ → Option (List ℕ)) → (ℕ → Option (List ℕ)) → Type 0
Closes old new = (file : ℕ) (bytes : List ℕ) → new file ≡ Some bytes → old file ≡ Some bytes

let_go_closes : (handed : List (ℕ × Payload)) (left : Pools Payload) (fs : Files) → Closes fs.opened (let_go handed left fs).opened
let_go_closes handed left fs file bytes is = by_test (list_any (λ x. is_file_ref file x.1) handed && not (is_referred left file)) (fs.opened file) is where
  by_test : (b : Bool) (o : Option (List ℕ)) → cond b None o ≡ Some bytes → o ≡ Some bytes
  by_test true o is = absurd (cc)
  by_test false o is = is

abbrev RangesLeft : Configuration → Configuration → Type 0
RangesLeft r s = Closes r.shared.files.opened s.shared.files.opened

step_closes : (p : Program) (choice : Choice) (i : Instr) (r : Configuration) → RangesLeft r (step p choice i r).state
unfolding with_pools run_down
step_closes p choice (instr.PClear q) r =
    on_named (RangesLeft r) pool_cleared (pool_named r (pool.Own q)) r (λ file bytes is. is) (λ n e. let_go_closes (run_order r.shared.pools n) (cleared n r.shared.pools) r.shared.files)
step_closes p choice (instr.PDestroy q) r =
    on_named (RangesLeft r) pool_destroyed (pool_named r (pool.Own q)) r (λ file bytes is. is) (λ n e. let_go_closes (run_order r.shared.pools n) (destroyed n r.shared.pools) r.shared.files)
step_closes p choice i r = (let same = (step_changes_only p choice i r).files refl in λ file bytes is. subst (λ (fs : Files). fs.opened file ≡ Some bytes) same is)

-- a range lies in what these files held
abbrev LiesIn : (ℕ → Option (List ℕ)) → NamedBucket → Type 0
LiesIn files x = (file start len p : ℕ) → x.bucket.content ≡ content.Range file start len → x.bucket.home ≡ home.Pool p → (bytes : List ℕ) × (files file ≡ Some bytes) × (start + len ≤ length bytes)

cleared_lies : (files : ℕ → Option (List ℕ)) (reached : ℕ → Bool) (x : NamedBucket) → LiesIn files x → LiesIn files (cleared_bucket reached x)
cleared_lies files reached x h file start len p e at = h file start len p e (spared_home reached _ p at).0

touched_lies : (files : ℕ → Option (List ℕ)) (r : Configuration) (i : Instr) (x : NamedBucket) → LiesIn files x → LiesIn files (touched_bucket r i x)
touched_lies files r i x h = touched_so (LiesIn files) r i (cleared_lies files) (λ on y there. λ file start len p e at. there file start len p e (left_home r.call.name _ p at)) x h

lay_before : (old : ℕ → Option (List ℕ)) (fs : Files) → Closes old fs.opened → (xs : List NamedBucket) → LieList fs xs → All (LiesIn old) xs
lay_before old fs closes xs h = λ k d lt. λ file start len p e at. (let there = h k d lt file start len p e at in (there.0, closes file there.0 there.1, there.2))

-- Connections.

both_each : (S T : NamedBucket → Type 0) (c : Connection) → OfEachBucket S c → OfEachBucket T c → OfEachBucket (λ x. S x × T x) c
both_each S T c s t = record { brigades = λ k b. λ i d lt. (s.brigades k b i d lt, t.brigades k b i d lt); loose = λ j f at. λ i d lt. (s.loose j f at i d lt, t.loose j f at i d lt) }

-- a file that is still open holds what it held
stays : (old new : ℕ → Option (List ℕ)) (file : ℕ) → Closes old new → is_some (new file) ≡ true → new file ≡ old file
stays old new file closes is_open = by_file (new file) refl is_open where
  by_file : (o : Option (List ℕ)) → new file ≡ o → is_some o ≡ true → new file ≡ old file
  by_file None at is_open = absurd (cc)
  by_file (Some bytes) at is_open = at ∙ sym (closes file bytes at)

-- Where files close, ranges go on lying in those that stay open.
closed_ranges : (g : Common) (c : Connection) (v : Linked) → ChainFiles v.0 v.1 → Closes c.opened v.1.opened → OfEachBucket (LiesIn c.opened) v.1
    → ((req : ℕ) → v.1.req ≡ Some req → All (HasLength (files_of g c)) v.1.files)
    → ((p file : ℕ) → refers (pools_of v.0 v.1) p file ≡ true → file < v.0.file) → ChainRanges v.0 v.1
closed_ranges g c v held closes lie told given = record {
  lie = each_bucket_so (λ x. LiesIn c.opened x × IsOpen v.1 x) (LiesInFile (files_of v.0 v.1)) still v.1 (both_each (LiesIn c.opened) (IsOpen v.1) v.1 lie held.open_files);
  told = λ req is. still_told (pools_of v.0 v.1) (files_of g c) (files_of v.0 v.1) (λ p file h. stays c.opened v.1.opened file closes (held.lasts p file h)) v.1.files req
      (λ file end has. held.request file end req has is) (told req is);
  given = given;
} where
  still : (x : NamedBucket) → LiesIn c.opened x × IsOpen v.1 x → LiesInFile (files_of v.0 v.1) x
  still x h file start len p e at = (let there = h.0 file start len p e at in (there.0, stays c.opened v.1.opened file closes (h.1 file start len p e at) ∙ there.1, there.2))

went_ranges : (chain : List Program) (reads : Reads) (f : Frame) (rest : List Frame) (g : Common) (c : Connection) → MayProceed chain g c f rest → ChainSound chain g c → ChainFiles g c
    → ChainFiles (after_top chain reads g c f rest).0 (after_top chain reads g c f rest).1 → ChainRanges g c → ChainRanges (after_top chain reads g c f rest).0 (after_top chain reads g c f rest).1
unfolding configuration
went_ranges chain reads f rest g c may s held left h =
    closed_ranges g c (after_top chain reads g c f rest) left
    (proceeds_so (λ ps files next req. Closes c.opened files) chain reads i f rest g c (λ choice. step_closes (module_at chain f.of) choice i (configuration g c f)) (λ file bytes e. e)) lie
    (λ req at. subst (λ (files : List (ℕ × ℕ)). All (HasLength (files_of g c)) files) (sym (proceeds_files chain reads i f rest g c)) (h.told req (sym same_req ∙ at)))
    (proceeds_so (λ ps files next req. (p file : ℕ) → refers ps p file ≡ true → file < next) chain reads i f rest g c (λ choice. (stepped choice).given) h.given) where
      i : Instr
      i = current (module_at chain f.of) f.pc

      seen_files : SoundFiles c.files (configuration g c f)
      seen_files = (let seen = seen_each (HasReference (pools_of g c)) g c f rest may.on_top held.held in
          record { lasts = held.lasts; brigades = seen.brigades; loose = seen.loose; request = held.request })

      seen_ranges : SoundRanges c.files (configuration g c f)
      seen_ranges = (let seen = seen_each (LiesInFile (files_of g c)) g c f rest may.on_top h.lie in record { brigades = seen.brigades; loose = seen.loose; told = h.told; given = h.given })

      stepped : (choice : Choice) → SoundRanges c.files (step (module_at chain f.of) choice i (configuration g c f)).state
      stepped choice = step_ranges (module_at chain f.of) choice i c.files (configuration g c f) (may_step chain g c f rest may s) (sound_top chain g c f rest may.on_top s) seen_files seen_ranges

      lie : OfEachBucket (LiesIn c.opened) (after_top chain reads g c f rest).1
      lie = proceeds_each (λ ps x. LiesIn c.opened x) (λ ps x. LiesIn c.opened x) chain g c f reads i rest may.on_top (record {
        held = λ choice.
            let o = step (module_at chain f.of) choice i (configuration g c f) in
            let closes = step_closes (module_at chain f.of) choice i (configuration g c f) in
            record {
              brigades = λ b. lay_before c.opened o.state.shared.files closes _ ((stepped choice).brigades b);
              loose = lay_before c.opened o.state.shared.files closes _ (stepped choice).loose;
            };
        touched = λ choice x there. touched_lies c.opened (configuration g c f) i x there;
      }) h.lie

      same_req : (after_top chain reads g c f rest).1.req ≡ c.req
      same_req = proceeds_so (λ ps files next req. req ≡ c.req) chain reads i f rest g c (λ choice. (step_changes_only (module_at chain f.of) choice i (configuration g c f)).req) refl

-- A file is opened under a number that was not given out.
taken_ranges : (req new : ℕ) (bytes : List ℕ) (g : Common) (c : Connection) → c.req ≡ Some req → g.file ≤ new → ChainFiles g c → ChainRanges g c
    → ChainRanges (file_taken req new bytes (g, c)).0 (file_taken req new bytes (g, c)).1
unfolding registered_as
taken_ranges req new bytes g c is newer held h =
    let v : Linked = file_taken req new bytes (g, c) in
    let all = each_bucket_so (λ x. LiesInFile (files_of g c) x × HasReference ps x) (LiesInFile (files_of v.0 v.1)) still c
    (both_each (LiesInFile (files_of g c)) (HasReference ps) c h.lie held.held) in
    record {
      lie = record { brigades = all.brigades; loose = all.loose };
      told = λ q at.
          All-append (HasLength (files_of v.0 v.1)) c.files ((new, length bytes) ∷ [])
          (still_told ps (files_of g c) (files_of v.0 v.1) same c.files q (λ file end has. held.request file end q has at) (h.told q at))
          (All-cons (HasLength (files_of v.0 v.1)) (new, length bytes) [] (bytes, upd_at c.opened new (Some bytes), refl) (All-nil (HasLength (files_of v.0 v.1))));
      given = λ p file there. elim (registered_back req (FileRef new) ps p file there) [
        | inl old ↦ (let lt : file < g.file = h.given p file old in omega arith)
        | inr last ↦ (let here : new ≡ file = eqb-true new file last in omega arith)
      ];
    } where
      ps : Pools Payload
      ps = pools_of g c

      same : (p file : ℕ) → refers ps p file ≡ true → upd c.opened new (Some bytes) file ≡ c.opened file
      same p file there = (let lt : file < g.file = h.given p file there in let ne : file ≢ new = omega arith in upd_off c.opened new file (Some bytes) ne)

      still : (x : NamedBucket) → LiesInFile (files_of g c) x × HasReference ps x → LiesInFile (files_of (file_taken req new bytes (g, c)).0 (file_taken req new bytes (g, c)).1) x
      still x there file start len p e at = (let reach = there.0 file start len p e at in (reach.0, same p file (there.1 file start len p e at) ∙ reach.1, reach.2))

over_ranges : (req : ℕ) (g : Common) (c : Connection) → c.stack ≡ [] → ChainFiles (request_over req (g, c)).0 (request_over req (g, c)).1 → ChainRanges g c
    → ChainRanges (request_over req (g, c)).0 (request_over req (g, c)).1
unfolding configuration run_down with_pools
over_ranges req g c idle left h =
    closed_ranges g c (request_over req (g, c)) left (let_go_closes (run_order (pools_of g c) req) (destroyed req (pools_of g c)) (files_of g c))
    (request_over_each (LiesIn c.opened) (LiesIn c.opened) req g c idle (λ x there. cleared_lies c.opened (is_under (pools_of g c) req) x there) h.lie)
    (λ q is. absurd (cc))
    (λ p file there. h.given p file (emptied_back req (pools_of g c) (destroyed req (pools_of g c)) (destroyed_emptied req (pools_of g c)) p file there).1)

begun_ranges : (chain : List Program) (g : Common) (c : Connection) → c.req ≡ None → ChainFiles g c → ChainRanges g c → ChainRanges (begun chain (g, c)).0 (begun chain (g, c)).1
unfolding begun all_called
begun_ranges chain g c none held h = record {
  lie = begun_each (LiesInFile (files_of g c)) chain g c h.lie;
  told = λ q is. subst (λ (files : List (ℕ × ℕ)). All (HasLength (files_of g c)) files) (sym (held.between none)) (All-nil (HasLength (files_of g c)));
  given = λ p file there. h.given p file (created_back c.conn (pools_of g c) p file there);
}

opened_ranges : (chain : List Program) (g : Common) → ChainRanges (opened chain g).0 (opened chain g).1
unfolding opened all_called planted
opened_ranges chain g = record {
  lie = opened_each (LiesInFile (files_of (opened chain g).0 (opened chain g).1)) chain g;
  told = λ q is. absurd (cc);
  given = λ p file there. absurd (let none : false ≡ true = created_back g.root (pools_of g (fresh_connection g)) p file there in cc);
}

turn_ranges : (chain : List Program) (g : Common) (c : Connection) (v : Linked) → EventTurn chain AnyLength g c v → ChainSound chain g c → ChainFiles g c → ChainFiles v.0 v.1 → ChainRanges g c
    → ChainRanges v.0 v.1
turn_ranges chain g c v (Stood out broken still) s held left h = record { lie = record { brigades = h.lie.brigades; loose = h.lie.loose }; told = h.told; given = h.given }
turn_ranges chain g c v (Went reads f rest whole may) s held left h =
    let files : ChainFiles (after_top chain reads g c f rest).0 (after_top chain reads g c f rest).1 = record {
      lasts = left.lasts;
      held = record { brigades = left.held.brigades; loose = left.held.loose };
      open_files = record { brigades = left.open_files.brigades; loose = left.open_files.loose };
      request = left.request;
      between = left.between;
    } in
    let there = went_ranges chain reads f rest g c may s held files h in
    record { lie = record { brigades = there.lie.brigades; loose = there.lie.loose }; told = there.told; given = there.given }
turn_ranges chain g c v (Begun whole idle none pools next) s held left h = begun_ranges chain g c none held h
turn_ranges chain g c v (Brought pieces req whole idle is there next late) s held left h = record {
  lie = brought_in_each (LiesInFile (files_of g c)) chain pieces req g c (pieces_lie (files_of g c) c.files g.next req (g.next + 2) pieces there (h.told req is)) h.lie;
  told = h.told;
  given = h.given;
}
turn_ranges chain g c v (FileTaken req file bytes whole idle is short newer last) s held left h = taken_ranges req file bytes g c is newer held h
turn_ranges chain g c v (Ended req whole idle is) s held left h = over_ranges req g c idle left h

-- others take numbers of files
risen_ranges : (g new : Common) (c : Connection) → g.file ≤ new.file → ChainRanges g c → ChainRanges new c
risen_ranges g new c rises h = record {
  lie = record { brigades = h.lie.brigades; loose = h.lie.loose };
  told = h.told;
  given = λ p file there. (let lt : file < g.file = h.given p file there in omega (arith, rises));
}

unopened_ranges : (chain : List Program) (g : Common) (c : Connection) → ChainRanges g c → ChainRanges (opened chain g).0 c
unfolding opened all_called
unopened_ranges chain g c h = risen_ranges g (opened chain g).0 c (omega arith) h

-- Worlds.

pub event_keeps_ranges : EventKeepsWorldRanges
event_keeps_ranges memory budget chain told k e w chained s held h = event_each ChainRanges memory budget chain told w h k e (record {
  made = λ j c v at made. (let t = made_turn memory budget chain told w.common c e v chained made in
      turn_ranges chain w.common c v t (s.conns j c at) (held j c at)
      ((files_kept chain).turns w.common c v s.names t (s.conns j c at) (turn_sound chain AnyLength w.common c v chained s.names t (s.conns j c at)) (held j c at)) (h j c at));
  opening = opened_ranges chain w.common;
  beside = λ c v made x there. risen_ranges w.common v.0 x (turn_opens chain w.common c v (made_turn memory budget chain told w.common c e v chained made)).rises there;
  unopened = λ x there. unopened_ranges chain w.common x there;
})

pub run_keeps_ranges : RunKeeps WorldRanges
run_keeps_ranges = beside_in_runs WorldFiles WorldRanges files_in_runs.event event_keeps_ranges (λ first k c e. absurd (cc)) (λ first k c e. absurd (cc))
