-- Brigades are registered with their pools in each connection with a chain.
use Rattle.std.proofs.Common.{◌≡◌, ◌≢◌, ℕ, ◌+◌, ◌<◌, Bool, true, false, ◌==◌, cond, List, [], ◌∷◌, map, None, inl, inr, refl, sym, ◌∙◌, ap, subst, arith, eq-eqb, ne_eqb}
use Rattle.std.specs.Prelude.{count_by}
use Rattle.std.proofs.lemmas.Bool.{cases_eq}
use Rattle.module_code.specs.declared.instr.Instr.{Instr}
use Rattle.module_code.specs.declared.instr.Instr.TheVariants as instr
use Rattle.module_code.specs.declared.instr.Status.{Status}
use Rattle.module_code.specs.Program.{Program}
use Rattle.run_model.specs.declared.bucket.BrigadeVar.{BrigadeVar}
use Rattle.run_model.specs.declared.bucket.BrigadeVar.TheVariants as var
use Rattle.run_model.specs.declared.bucket.Mark.TheVariants.{Usable}
use Rattle.run_model.specs.declared.bucket.NamedBucket.{NamedBucket}
use Rattle.run_model.specs.declared.event.Piece.{Piece}
use Rattle.run_model.specs.declared.payload.Payload.{Payload}
use Rattle.run_model.specs.declared.payload.Payload.TheVariants.{FileRef}
use Rattle.run_model.specs.Indexed.{upd}
use Rattle.run_model.specs.Payloads.{is_brigade}
use Rattle.run_model.specs.Pools.{Pools, is_under, planted, created, registered, destroyed, registered_as, Cleanups, no_cleanups, all_held}
use Rattle.run_model.specs.Buckets.{returned_bucket}
use Rattle.run_model.specs.Clearing.{run_down}
use Rattle.run_model.specs.State.{Instance, Configuration, items_of, set_brigade, with_pools}
use Rattle.run_model.specs.Effects.{do_pass, do_return, handed_over, with_items}
use Rattle.run_model.specs.Steps.{Choice, answer_to, current, step}
use Rattle.run_model.specs.Pieces.{bucket_of, named_from}
use Rattle.run_model.specs.Sound.{Sound}
use Rattle.model_laws.specs.Laws.{MayExecute}
use Rattle.model_laws.specs.Registered.{IsMadeIn, AreRegistered, IsMadeInOne}
use Rattle.run_model.specs.Holding.{times_held}
use Rattle.run_model.specs.Chains.{Frame, Connection, Common, Linked, module_at, is_last, next_place, configuration, pools_of, touched_var, touched_instance, put_back, stepped_in, place_from}
use Rattle.run_model.specs.Passing.{Reads, delivered, delivered_by, handed_in, set_in, passed_to, passed_by, given_back, gone_on, returned_to, next_called, returned_from, proceeds}
use Rattle.run_model.specs.Turns.{all_called, fresh_connection, opened, begun, brought_in, file_taken, request_over}
use Rattle.model_laws.specs.ChainSound.{ChainSound}
use Rattle.model_laws.specs.ChainRegistered.{ChainRegistered, WorldRegistered}
use Rattle.model_laws.specs.KeptInRuns.{KeptInRuns}
use Rattle.run_model.proofs.Updates.{upd_either}
use Rattle.run_model.proofs.Names.{at_each}
use Rattle.run_model.proofs.References.{destroyed_emptied}
use Rattle.model_laws.proofs.Registered.{LiesOn, SameBrigade, same_brigade, handed_same, filled_same, spared, made_same, made_spared, kept_as, went_as, still, held_beside, held_created, in_on_none}
use Rattle.model_laws.proofs.Registered.{no_brigade, IsMadeOr, takes_from, touched_made, step_leaves}
use Rattle.model_laws.proofs.chains.PutBack.{looking}
use Rattle.model_laws.proofs.chains.Views.{sound_top}
use Rattle.model_laws.proofs.chains.TopSteps.{may_step}
use Rattle.model_laws.proofs.chains.EventTurns.{EventTurn, Stood, Went, Begun, Brought, FileTaken, Ended}
use Rattle.model_laws.proofs.chains.WorldKept.{TurnsKeep, AnyLength, turns_in_runs}

-- Instances.

-- a brigade of another instance than k
abbrev Elsewhere : (ℕ → Instance) → ℕ → ℕ → ℕ → Type 0
Elsewhere instances k name p = (j : ℕ) × (j ≢ k) × IsMadeIn (instances j) name p

split : (instances : ℕ → Instance) (k name p : ℕ) → IsMadeInOne instances name p → IsMadeOr (Elsewhere instances k) (instances k) name p
split instances k name p m = elim (cases_eq m.0 k) [
  | inl is ↦ inl (subst (λ (j : ℕ). IsMadeIn (instances j) name p) is m.1)
  | inr ne ↦ inr (m.0, ne, m.1)
]

joined : (instances : ℕ → Instance) (k name p : ℕ) → IsMadeOr (Elsewhere instances k) (instances k) name p → IsMadeInOne instances name p
joined instances k name p (inl m) = (k, m)
joined instances k name p (inr m) = (m.0, m.2)

-- each brigade stays where it is
abbrev SameAll : (ℕ → Instance) → (ℕ → Instance) → Type 0
SameAll old new = (k b : ℕ) → SameBrigade ((old k).brigades b) ((new k).brigades b)

same_all : (old new : ℕ → Instance) (ps : Pools Payload) → SameAll old new → AreRegistered (IsMadeInOne old) ps → AreRegistered (IsMadeInOne new) ps
same_all old new ps slots s =
    kept_as (IsMadeInOne old) (IsMadeInOne new) ps ps (still ps)
    (λ name p m. (m.0, (made_same (old m.0) (new m.0) (slots m.0) name p).0 m.1)) (λ name p m. (m.0, (made_same (old m.0) (new m.0) (slots m.0) name p).1 m.1)) s

-- one instance changes
one_same : (instances : ℕ → Instance) (k : ℕ) (x : Instance) → ((b : ℕ) → SameBrigade ((instances k).brigades b) (x.brigades b)) → SameAll instances (upd instances k x)
one_same instances k x slots j b = elim (upd_either instances k j x) [
  | inl at ↦ subst (λ (y : Instance). SameBrigade ((instances j).brigades b) (y.brigades b)) (sym at.1) (subst (λ (m : ℕ). SameBrigade ((instances m).brigades b) (x.brigades b)) (sym at.0) (slots b))
  | inr off ↦ subst (λ (y : Instance). SameBrigade ((instances j).brigades b) (y.brigades b)) (sym off.1) (same_brigade ((instances j).brigades b))
]

-- The instruction on top.

abbrev Left : Linked → Type 0
Left v = ChainRegistered v.0 v.1

module _ (chain : List Program) (g : Common) (c : Connection) (f : Frame) (s : ChainSound chain g c) (old : ChainRegistered g c) where
  Rest : Instr → Configuration → Type 0
  Rest i s = AreRegistered (IsMadeOr (λ name q. Elsewhere c.instances f.of name q × (takes_from (configuration g c f) i q ≡ false)) s.instance) s.shared.pools

  stepped_rest : (choice : Choice) (i : Instr) → MayExecute (module_at chain f.of) (configuration g c f) i → Sound (configuration g c f)
      → Rest i (step (module_at chain f.of) choice i (configuration g c f)).state
  unfolding Rest configuration
  stepped_rest choice i may sound =
      step_leaves (Elsewhere c.instances f.of) (module_at chain f.of) choice i (configuration g c f) may sound (s.pools.declared f) (λ name q o. s.names.given o.0 o.2.0 name o.2.1)
      (kept_as (IsMadeInOne c.instances) (IsMadeOr (Elsewhere c.instances f.of) (c.instances f.of)) (pools_of g c) (pools_of g c) (still (pools_of g c)) (split c.instances f.of)
      (joined c.instances f.of) old)

  -- what a change of the calls leaves of it
  module _ (i : Instr) (t : Configuration) (top rest : List Frame) where
    after : ℕ → Instance
    after k = cond (k == f.of) t.instance (touched_instance (touched_var (configuration g c f) i) (c.instances k))

    abbrev There : ℕ → ℕ → Type 0
    There name q = IsMadeOr (λ name q. Elsewhere c.instances f.of name q × (takes_from (configuration g c f) i q ≡ false)) t.instance name q

    to : (name q : ℕ) → There name q → IsMadeInOne after name q
    unfolding after
    to name q (inl m) = (f.of, subst (λ (b : Bool). IsMadeIn (cond b t.instance (touched_instance (touched_var (configuration g c f) i) (c.instances f.of))) name q) (sym (eq-eqb f.of f.of refl)) m)
    to name q (inr o) = (
      o.0.0,
      subst (λ (b : Bool). IsMadeIn (cond b t.instance (touched_instance (touched_var (configuration g c f) i) (c.instances o.0.0))) name q)
          (sym (ne_eqb o.0.0 f.of o.0.1)) ((touched_made (configuration g c f) i (c.instances o.0.0) name q).0 o.0.2 o.1),
    )

    from : (name q : ℕ) → IsMadeInOne after name q → There name q
    unfolding after
    from name q m = by_test (m.0 == f.of) refl m.1 where
      by_test : (b : Bool) → (m.0 == f.of) ≡ b → IsMadeIn (cond b t.instance (touched_instance (touched_var (configuration g c f) i) (c.instances m.0))) name q → There name q
      by_test true is here = inl here
      by_test false is there =
          (let was = (touched_made (configuration g c f) i (c.instances m.0) name q).1 there in inr ((m.0, (λ same. let yes : true ≡ false = sym (eq-eqb m.0 f.of same) ∙ is in cc), was.0), was.1))

    back_registered : Rest i t → Left (put_back i f t top rest (g, c))
    unfolding Rest after put_back
    back_registered left = kept_as There (IsMadeInOne after) t.shared.pools t.shared.pools (still t.shared.pools) to from left

  module _ (sound : Sound (configuration g c f)) where
    stepped_registered : (choice : Choice) (i : Instr) (rest : List Frame) → MayExecute (module_at chain f.of) (configuration g c f) i → Left (stepped_in (module_at chain f.of) choice i f rest (g, c))
    unfolding stepped_in
    stepped_registered choice i rest may = back_registered i _ _ rest (stepped_rest choice i may sound)

    delivered_registered : (reads : Reads) (b : ℕ) (i : Instr) (rest : List Frame) → MayExecute (module_at chain f.of) (configuration g c f) i
        → Left (delivered_by (module_at chain f.of) reads b i f rest (g, c))
    unfolding delivered_by
    delivered_registered reads b i rest may =
        let left = stepped_registered (record { answer = answer_to (delivered c.out (items_of ((c.instances f.of).brigades b)) reads).1; given = None }) i rest may in
        record { once = left.once; only = left.only }

    -- what a return leaves
    left_registered : (st : Status) (top rest : List Frame) → MayExecute (module_at chain f.of) (configuration g c f) (instr.Ret st)
        → Left (put_back (instr.Ret st) f (do_return (configuration g c f)) top rest (g, c))
    left_registered st top rest may = back_registered (instr.Ret st) _ top rest (stepped_rest (record { answer = answer_to true; given = None }) (instr.Ret st) may sound)

    -- the brigade is marked, and it is the `in` of the next filter
    here : ℕ → ℕ → Instance
    here b = upd c.instances f.of (do_pass b (configuration g c f)).instance

    passed_same : (b : ℕ) → SameAll c.instances (here b)
    unfolding here set_brigade configuration
    passed_same b = one_same c.instances f.of (do_pass b (configuration g c f)).instance
        (at_each SameBrigade (c.instances f.of).brigades b (handed_over ((c.instances f.of).brigades b)) (handed_same ((c.instances f.of).brigades b)) same_brigade)

    in_before : (k name q : ℕ) → LiesOn ((c.instances k).brigades 8) name q → ⊥
    unfolding configuration
    in_before k name q h = in_on_none (module_at chain k) (configuration g c (looking k)) (s.pools.declared (looking k)) name q h

    on_none : (v : BrigadeVar) (name q : ℕ) → LiesOn (handed_in v) name q → ⊥
    on_none var.Null name q h = let no = h.0 in cc
    on_none var.Gone name q h = let no = h.0 in cc
    on_none (var.Live v) name q h = let no = h.1 in cc

    handed_same_in : (b k : ℕ) (v : BrigadeVar) → SameAll (here b) (upd (here b) k (set_in (handed_in v) (here b k)))
    handed_same_in b k v =
        one_same (here b) k (set_in (handed_in v) (here b k))
        (at_each SameBrigade (here b k).brigades 8 (handed_in v)
        (no_brigade ((here b k).brigades 8) (handed_in v) (λ name q h. in_before k name q ((passed_same b k 8 name q).1 h)) (on_none v)) same_brigade)

    passed_registered : (callee : Program) (to b : ℕ) (rest : List Frame) → Left (passed_to callee to b f rest (g, c))
    unfolding passed_to here
    passed_registered callee to b rest =
        same_all (here b) (upd (here b) to (set_in (handed_in ((configuration g c f).instance.brigades b)) (here b to))) (pools_of g c)
        (handed_same_in b to ((configuration g c f).instance.brigades b)) (same_all c.instances (here b) (pools_of g c) (passed_same b) old)

    gone_on_registered : (st : Status) (i : Instr) (w : Frame) (left : List NamedBucket) (v : Linked) → Left v → Left (gone_on st i w left v)
    gone_on_registered st i w left v h =
        same_all v.1.instances (upd v.1.instances w.of (given_back (passed_by i) left (v.1.instances w.of))) (pools_of v.0 v.1)
        (one_same v.1.instances w.of (given_back (passed_by i) left (v.1.instances w.of))
        (at_each SameBrigade (v.1.instances w.of).brigades (passed_by i) (with_items left ((v.1.instances w.of).brigades (passed_by i)))
        (filled_same left ((v.1.instances w.of).brigades (passed_by i))) same_brigade)) h

    returned_registered : (st : Status) (queue : List ℕ) → MayExecute (module_at chain f.of) (configuration g c f) (instr.Ret st)
        → Left (next_called chain st queue (put_back (instr.Ret st) f (do_return (configuration g c f)) [] [] (g, c))).1
    returned_registered st [] may = left_registered st [] [] may
    returned_registered st (k ∷ ks) may = (let left = left_registered st [] [] may in record { once = left.once; only = left.only })

    top_registered : (reads : Reads) (i : Instr) (rest : List Frame) → MayExecute (module_at chain f.of) (configuration g c f) i → Left (proceeds chain reads i f rest (g, c)).1
    unfolding proceeds returned_from returned_to
    top_registered reads (instr.Pass b l) rest may = by_last (is_last chain c f.of) where
      by_last : (t : Bool) → Left (cond t (delivered_by (module_at chain f.of) reads b (instr.Pass b l) f rest (g, c)) (passed_to (module_at chain (next_place chain c f.of)) (next_place chain c f.of) b f rest (g, c)))
      by_last true = delivered_registered reads b (instr.Pass b l) rest may
      by_last false = passed_registered (module_at chain (next_place chain c f.of)) (next_place chain c f.of) b rest
    top_registered reads (instr.Ret st) [] may = returned_registered st c.queue may
    top_registered reads (instr.Ret st) (w ∷ rest) may =
        gone_on_registered st (current (module_at chain w.of) w.pc) w (map (returned_bucket f.call.name) (items_of ((configuration g c f).instance.brigades 8)))
        (put_back (instr.Ret st) f (do_return (configuration g c f)) [] (w ∷ rest) (g, c)) (left_registered st [] (w ∷ rest) may)
    top_registered reads i rest may = stepped_registered (record { answer = answer_to true; given = reads 0 }) i rest may

-- Events.

opened_registered : (chain : List Program) (g : Common) → ChainRegistered (opened chain g).0 (opened chain g).1
unfolding opened all_called planted created
opened_registered chain g = record {
  once = λ name p m. absurd (let no = m.1.1 in cc);
  only = λ name p h. absurd (nowhere name p h);
} where
  nothing : ℕ → Cleanups Payload
  nothing k = no_cleanups

  nowhere : (name p : ℕ) → 0 < times_held (created g.root (pools_of g (fresh_connection g))) name p → ⊥
  nowhere name p h = elim (upd_either nothing g.pools p no_cleanups) [
    | inl q ↦ (let none : times_held (created g.root (pools_of g (fresh_connection g))) name p ≡ 0 = ap (λ (c : Cleanups Payload). count_by (is_brigade name) (all_held c)) q.1 in omega arith)
    | inr q ↦ (let none : times_held (created g.root (pools_of g (fresh_connection g))) name p ≡ 0 = ap (λ (c : Cleanups Payload). count_by (is_brigade name) (all_held c)) q.1 in omega arith)
  ]

-- payloads count alike, and instances are as before
instances_kept : (instances : ℕ → Instance) (ps new : Pools Payload) → ((name p : ℕ) → times_held new name p ≡ times_held ps name p) → AreRegistered (IsMadeInOne instances) ps
    → AreRegistered (IsMadeInOne instances) new
instances_kept instances ps new times s = kept_as (IsMadeInOne instances) (IsMadeInOne instances) ps new times (λ name p m. m) (λ name p m. m) s

begun_registered : (chain : List Program) (g : Common) (c : Connection) → ChainSound chain g c → ChainRegistered g c → ChainRegistered (begun chain (g, c)).0 (begun chain (g, c)).1
unfolding begun all_called configuration
begun_registered chain g c s h = instances_kept c.instances (pools_of g c) (created c.conn (pools_of g c)) (held_created c.conn (pools_of g c) (s.pools.sound (looking 0)).formed) h

brought_registered : (chain : List Program) (pieces : List Piece) (req : ℕ) (g : Common) (c : Connection) → ChainSound chain g c → ChainRegistered g c
    → ChainRegistered (brought_in chain pieces req (g, c)).0 (brought_in chain pieces req (g, c)).1
unfolding configuration
brought_registered chain pieces req g c s h = same_all c.instances (upd c.instances first (set_in there (c.instances first))) (pools_of g c)
    (one_same c.instances first (set_in there (c.instances first)) (at_each SameBrigade (c.instances first).brigades 8 there new_in same_brigade)) h where
      first : ℕ
      first = place_from chain c.instances 0

      there : BrigadeVar
      there = var.Live (record { name = g.next + 1; on = None; mark = Usable; items = named_from (bucket_of g.next req) (g.next + 2) pieces })

      new_in : SameBrigade ((c.instances first).brigades 8) there
      new_in = no_brigade ((c.instances first).brigades 8) there (in_on_none (module_at chain first) (configuration g c (looking first)) (s.pools.declared (looking first))) (λ name q h. let no = h.1 in cc)

taken_registered : (req file : ℕ) (bytes : List ℕ) (g : Common) (c : Connection) → ChainRegistered g c → ChainRegistered (file_taken req file bytes (g, c)).0 (file_taken req file bytes (g, c)).1
unfolding registered_as
taken_registered req file bytes g c h = (let left = instances_kept c.instances (pools_of g c) (registered req (FileRef file) (pools_of g c))
    (λ name p. held_beside req (FileRef file) (pools_of g c) name p refl) h in record { once = left.once; only = left.only })

over_registered : (req : ℕ) (g : Common) (c : Connection) → ChainRegistered g c → ChainRegistered (request_over req (g, c)).0 (request_over req (g, c)).1
unfolding configuration run_down with_pools
over_registered req g c h =
    went_as (IsMadeInOne c.instances) (IsMadeInOne (request_over req (g, c)).1.instances) req (pools_of g c) (destroyed req (pools_of g c)) (destroyed_emptied req (pools_of g c))
    (λ name p m off. (m.0, (spared_in m.0 name p).0 m.1 off)) (λ name p m. (let old = (spared_in m.0 name p).1 m.1 in ((m.0, old.0), old.1))) h where
      spared_in : (k name p : ℕ) → (IsMadeIn (c.instances k) name p → is_under (pools_of g c) req p ≡ false → IsMadeIn ((request_over req (g, c)).1.instances k) name p)
          × (IsMadeIn ((request_over req (g, c)).1.instances k) name p → IsMadeIn (c.instances k) name p × (is_under (pools_of g c) req p ≡ false))
      spared_in k name p =
          made_spared (is_under (pools_of g c) req) (c.instances k) ((request_over req (g, c)).1.instances k) (λ b. spared (is_under (pools_of g c) req) ((c.instances k).brigades b)) name p

turn_registered : (chain : List Program) (g : Common) (c : Connection) (v : Linked) → EventTurn chain AnyLength g c v → ChainSound chain g c → ChainRegistered g c → ChainRegistered v.0 v.1
turn_registered chain g c v (Stood out broken still) s h = record { once = h.once; only = h.only }
turn_registered chain g c v (Went reads f rest whole may) s h =
    let left = top_registered chain g c f s h (sound_top chain g c f rest may.on_top s) reads (current (module_at chain f.of) f.pc) rest (may_step chain g c f rest may s) in
    record { once = left.once; only = left.only }
turn_registered chain g c v (Begun whole idle none pools next) s h = begun_registered chain g c s h
turn_registered chain g c v (Brought pieces req whole idle is there next late) s h = brought_registered chain pieces req g c s h
turn_registered chain g c v (FileTaken req file bytes whole idle is short newer last) s h = taken_registered req file bytes g c h
turn_registered chain g c v (Ended req whole idle is) s h = over_registered req g c h

-- others take names
risen_registered : (g new : Common) (c : Connection) → ChainRegistered g c → ChainRegistered new c
risen_registered g new c h = record { once = h.once; only = h.only }

registered_kept : (chain : List Program) → TurnsKeep chain AnyLength ChainRegistered
registered_kept chain = record {
  rising = λ g new c rises s h. risen_registered g new c h;
  opening = λ g has s. opened_registered chain g;
  turns = λ g c v has t s new h. turn_registered chain g c v t s h;
}

pub registered_in_runs : KeptInRuns WorldRegistered
registered_in_runs = turns_in_runs ChainRegistered registered_kept
