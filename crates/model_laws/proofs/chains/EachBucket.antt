-- What is true of each bucket of a connection, through what the instruction of the call on top does. It may speak of the pools.
use Rattle.std.proofs.Common.{◌≡◌, ℕ, ◌+◌, Bool, true, false, cond, List, [], ◌∷◌, map, None, All, inl, inr, sym, subst, refl}
use Rattle.std.proofs.lemmas.List.Elements.{All-nil, All-cons, All-head, All-tail, All-append}
use Rattle.module_code.specs.declared.instr.Instr.{Instr}
use Rattle.module_code.specs.declared.instr.Instr.TheVariants as instr
use Rattle.module_code.specs.declared.instr.Status.{Status}
use Rattle.module_code.specs.Program.{Program}
use Rattle.run_model.specs.declared.bucket.NamedBucket.{NamedBucket}
use Rattle.run_model.specs.declared.bucket.BrigadeVar.{BrigadeVar}
use Rattle.run_model.specs.declared.bucket.BrigadeVar.TheVariants as var
use Rattle.run_model.specs.declared.payload.Payload.{Payload}
use Rattle.run_model.specs.Indexed.{upd}
use Rattle.run_model.specs.Pools.{Pools}
use Rattle.run_model.specs.Buckets.{cleared_bucket, returned_bucket}
use Rattle.run_model.specs.State.{Out, Instance, Configuration, items_of, set_brigade}
use Rattle.run_model.specs.Effects.{do_pass, do_return, handed_over}
use Rattle.run_model.specs.Steps.{Choice, answer_to, current, step}
use Rattle.run_model.specs.Chains.{Frame, Connection, Common, Linked, module_at, is_last, next_place, configuration, pools_of, touched_var, touched_bucket, touched_instance, touched_frame, cleared_by, led_to}
use Rattle.run_model.specs.Chains.{put_back, stepped_in}
use Rattle.run_model.specs.Passing.{Reads, handed_in, set_in, passed_to, passed_by, given_back, returned_to, called, delivered, delivered_by, next_called, returned_from, proceeds, put_out_by}
use Rattle.model_laws.specs.Laws.{is_return}
use Rattle.model_laws.specs.ChainFiles.{OfEachBucket}
use Rattle.run_model.proofs.Updates.{upd_either}
use Rattle.model_laws.proofs.Origins.{HoldsNamed}
use Rattle.model_laws.proofs.EachItem.{none, handed_over_each, written_each, items_each, mapped_each, each_so, cleared_each, returned_each}
use Rattle.model_laws.proofs.chains.Names.{left_either}

abbrev pub LooseOf : (NamedBucket → Type 0) → List Frame → Type 0
LooseOf T fs = All (λ f. All T f.call.loose) fs

-- One property, where nothing changes.
module _ (T : NamedBucket → Type 0) where
  pub no_calls : LooseOf T []
  no_calls = All-nil (λ (f : Frame). All T f.call.loose)

  pub one_call : (f : Frame) (fs : List Frame) → All T f.call.loose → LooseOf T fs → LooseOf T (f ∷ fs)
  one_call f fs h hs = All-cons (λ w. All T w.call.loose) f fs h hs

  -- what the call on top sees
  pub seen_each : (g : Common) (c : Connection) (f : Frame) (rest : List Frame) → c.stack ≡ f ∷ rest → OfEachBucket T c → HoldsNamed T (configuration g c f)
  unfolding configuration
  seen_each g c f rest is h = record { brigades = h.brigades f.of; loose = All-head (λ w. All T w.call.loose) f rest (subst (LooseOf T) is h.loose) }

  pub waiting_each : (c : Connection) (f : Frame) (rest : List Frame) → c.stack ≡ f ∷ rest → OfEachBucket T c → LooseOf T rest
  waiting_each c f rest is h = All-tail (λ w. All T w.call.loose) f rest (subst (LooseOf T) is h.loose)

  -- An instance is written.
  pub written_instances : (h : ℕ → Instance) (i : ℕ) (v : Instance) → ((k b : ℕ) → All T (items_of ((h k).brigades b))) → ((b : ℕ) → All T (items_of (v.brigades b)))
      → (k b : ℕ) → All T (items_of ((upd h i v k).brigades b))
  written_instances h i v all new k b = elim (upd_either h i k v) [
    | inl p ↦ subst (λ (x : Instance). All T (items_of (x.brigades b))) (sym p.1) (new b)
    | inr p ↦ subst (λ (x : Instance). All T (items_of (x.brigades b))) (sym p.1) (all k b)
  ]

  handed_in_each : (v : BrigadeVar) → All T (items_of v) → All T (items_of (handed_in v))
  handed_in_each var.Null h = h
  handed_in_each var.Gone h = h
  handed_in_each (var.Live v) h = h

  -- The call of a handler begins, and no other is there.
  pub called_each : (chain : List Program) (k : ℕ) (queue : List ℕ) (g : Common) (c : Connection) → OfEachBucket T c → OfEachBucket T (called chain k queue (g, c)).1
  called_each chain k queue g c h = record { brigades = h.brigades; loose = one_call _ [] (none T) no_calls }

  pub passed_to_each : (callee : Program) (to b : ℕ) (f : Frame) (rest : List Frame) (g : Common) (c : Connection) → c.stack ≡ f ∷ rest → OfEachBucket T c
      → OfEachBucket T (passed_to callee to b f rest (g, c)).1
  unfolding passed_to configuration set_brigade
  passed_to_each callee to b f rest g c is h = record {
    brigades = written_instances here to (set_in (handed_in ((c.instances f.of).brigades b)) (here to)) in_here
        (written_each T (here to).brigades 8 (handed_in ((c.instances f.of).brigades b)) (handed_in_each ((c.instances f.of).brigades b) (h.brigades f.of b)) (in_here to));
    loose = one_call _ (f ∷ rest) (none T) (subst (LooseOf T) is h.loose);
  } where
    here : ℕ → Instance
    here = upd c.instances f.of (do_pass b (configuration g c f)).instance

    in_here : (k d : ℕ) → All T (items_of ((here k).brigades d))
    in_here = written_instances c.instances f.of (do_pass b (configuration g c f)).instance h.brigades
        (written_each T (c.instances f.of).brigades b (handed_over ((c.instances f.of).brigades b)) (handed_over_each T ((c.instances f.of).brigades b)) (h.brigades f.of))

  -- what the callee left is the caller's again
  pub given_each : (at : ℕ) (left : List NamedBucket) (k : ℕ) (h : ℕ → Instance) → ((j b : ℕ) → All T (items_of ((h j).brigades b))) → All T left
      → (j b : ℕ) → All T (items_of ((upd h k (given_back at left (h k)) j).brigades b))
  given_each at left k h all there = written_instances h k (given_back at left (h k)) all (items_each T (h k).brigades at left there (all k))

-- what an instruction does to a bucket that its call does not see
pub touched_so : (T : NamedBucket → Type 0) (r : Configuration) (i : Instr)
    → ((reached : ℕ → Bool) (x : NamedBucket) → T x → T (cleared_bucket reached x)) → (is_return i ≡ true → (x : NamedBucket) → T x → T (returned_bucket r.call.name x))
    → (x : NamedBucket) → T x → T (touched_bucket r i x)
touched_so T r (instr.PClear q) cleared returned x t = cleared (cleared_by r q) x t
touched_so T r (instr.PDestroy q) cleared returned x t = cleared (cleared_by r q) x t
touched_so T r (instr.Ret s) cleared returned x t = returned refl x t
touched_so T r i cleared returned x t = t

-- One property before, and one after.
module _ (Old New : NamedBucket → Type 0) where
  pub loose_so : ((x : NamedBucket) → Old x → New x) → (fs : List Frame) → LooseOf Old fs → LooseOf New fs
  loose_so keeps [] h = no_calls New
  loose_so keeps (f ∷ fs) h = one_call New f fs (each_so Old New keeps f.call.loose (All-head (λ w. All Old w.call.loose) f fs h)) (loose_so keeps fs (All-tail (λ w. All Old w.call.loose) f fs h))

  pub each_bucket_so : ((x : NamedBucket) → Old x → New x) → (c : Connection) → OfEachBucket Old c → OfEachBucket New c
  each_bucket_so keeps c h = record { brigades = λ k b. each_so Old New keeps (items_of ((c.instances k).brigades b)) (h.brigades k b); loose = loose_so keeps c.stack h.loose }

  touched_each : (r : Configuration) (i : Instr) → ((x : NamedBucket) → Old x → New (touched_bucket r i x)) → (v : BrigadeVar) → All Old (items_of v) → All New (items_of (touched_var r i v))
  touched_each r (instr.PClear q) keeps v h = cleared_each Old New (cleared_by r q) keeps v h
  touched_each r (instr.PDestroy q) keeps v h = cleared_each Old New (cleared_by r q) keeps v h
  touched_each r (instr.Ret s) keeps v h = returned_each Old New r.call.name keeps v h
  touched_each r i keeps v h = each_so Old New keeps (items_of v) h

  touched_loose : (change : NamedBucket → NamedBucket) → ((x : NamedBucket) → Old x → New (change x)) → (fs : List Frame) → LooseOf Old fs → LooseOf New (map (touched_frame change) fs)
  touched_loose change keeps [] h = no_calls New
  touched_loose change keeps (f ∷ fs) h =
      one_call New (touched_frame change f) (map (touched_frame change) fs) (mapped_each Old New change keeps f.call.loose
      (All-head (λ w. All Old w.call.loose) f fs h)) (touched_loose change keeps fs (All-tail (λ w. All Old w.call.loose) f fs h))

  pub put_back_each : (i : Instr) (f : Frame) (s : Configuration) (top rest : List Frame) (g : Common) (c : Connection) → c.stack ≡ f ∷ rest
      → ((x : NamedBucket) → Old x → New (touched_bucket (configuration g c f) i x)) → HoldsNamed New s → LooseOf New top → OfEachBucket Old c → OfEachBucket New (put_back i f s top rest (g, c)).1
  unfolding put_back
  put_back_each i f s top rest g c is keeps left tops old = record {
    brigades = λ k b. elim (left_either f.of s.instance (touched_instance (touched_var (configuration g c f) i)) c.instances k) [
      | inl p ↦ subst (λ (x : Instance). All New (items_of (x.brigades b))) (sym p.1) (left.brigades b)
      | inr p ↦ subst (λ (x : Instance). All New (items_of (x.brigades b))) (sym p.1) (touched_each (configuration g c f) i keeps ((c.instances k).brigades b) (old.brigades k b))
    ];
    loose = All-append (λ w. All New w.call.loose) top (map (touched_frame (touched_bucket (configuration g c f) i)) rest) tops
        (touched_loose (touched_bucket (configuration g c f) i) keeps rest (waiting_each Old c f rest is old));
  }

-- What is true of each bucket, as the pools are: before the instruction T, and U after it.
module _ (T U : Pools Payload → NamedBucket → Type 0) (chain : List Program) (g : Common) (c : Connection) (f : Frame) where
  -- what the instruction does to buckets that the call sees, and to others
  pub record Steps (i : Instr) : Type 0 where
    pub held : (choice : Choice) → (let s = (step (module_at chain f.of) choice i (configuration g c f)).state in HoldsNamed (U s.shared.pools) s)
    pub touched : (choice : Choice) (x : NamedBucket) → T (pools_of g c) x
        → U (step (module_at chain f.of) choice i (configuration g c f)).state.shared.pools (touched_bucket (configuration g c f) i x)

  abbrev Left : Linked → Type 0
  Left v = OfEachBucket (U (pools_of v.0 v.1)) v.1

  abbrev BucketBefore : Type 0
  BucketBefore = OfEachBucket (T (pools_of g c)) c

  stepped_each : (choice : Choice) (i : Instr) (rest : List Frame) → c.stack ≡ f ∷ rest → Steps i → BucketBefore → Left (stepped_in (module_at chain f.of) choice i f rest (g, c))
  unfolding stepped_in put_back configuration
  stepped_each choice i rest is steps old =
      let o = step (module_at chain f.of) choice i (configuration g c f) in
      let here = steps.held choice in
      put_back_each (T (pools_of g c)) (U o.state.shared.pools) i f o.state (record f { call = o.state.call; pc = led_to o.exit i f.pc } ∷ []) rest g c is (steps.touched choice) here
      (one_call (U o.state.shared.pools) _ [] here.loose (no_calls (U o.state.shared.pools))) old

  delivered_each : (reads : Reads) (b : ℕ) (i : Instr) (rest : List Frame) → c.stack ≡ f ∷ rest → Steps i → BucketBefore → Left (delivered_by (module_at chain f.of) reads b i f rest (g, c))
  unfolding delivered_by
  delivered_each reads b i rest is steps old =
      let left = stepped_each (record { answer = answer_to (delivered c.out (items_of ((c.instances f.of).brigades b)) reads).1; given = None }) i rest is steps old in
      record { brigades = left.brigades; loose = left.loose }

  -- what a return leaves
  back_each : (s : Status) (rest : List Frame) → c.stack ≡ f ∷ rest → Steps (instr.Ret s) → BucketBefore → Left (put_back (instr.Ret s) f (do_return (configuration g c f)) [] rest (g, c))
  unfolding put_back configuration
  back_each s rest is steps old =
      let choice : Choice = record { answer = answer_to true; given = None } in
      put_back_each (T (pools_of g c)) (U (pools_of g c)) (instr.Ret s) f (do_return (configuration g c f)) [] rest g c is (steps.touched choice) (steps.held choice) (no_calls (U (pools_of g c))) old

  returned_to_each : (caller : Program) (s : Status) (w : Frame) (rest : List Frame) → c.stack ≡ f ∷ (w ∷ rest) → Steps (instr.Ret s) → BucketBefore → Left (returned_to caller s f w rest (g, c))
  unfolding returned_to put_back configuration
  returned_to_each caller s w rest is steps old =
      let choice : Choice = record { answer = answer_to true; given = None } in
      let left = back_each s (w ∷ rest) is steps old in
      let V : NamedBucket → Type 0 = U (pools_of g c) in
      let there : All V (map (returned_bucket f.call.name) (items_of ((c.instances f.of).brigades 8))) =
      mapped_each (T (pools_of g c)) V (returned_bucket f.call.name) (steps.touched choice) (items_of ((c.instances f.of).brigades 8)) (old.brigades f.of 8) in
      record {
        brigades = given_each V (passed_by (current caller w.pc)) _ w.of _ left.brigades there;
        loose = one_call V _ (map (touched_frame (touched_bucket (configuration g c f) (instr.Ret s))) rest) (All-head (λ v. All V v.call.loose) _ _ left.loose)
            (All-tail (λ v. All V v.call.loose) _ _ left.loose);
      }

  -- the output is no bucket
  put_out : (v : Linked) (out : Out) → Left v → Left (v.0, record v.1 { out = out })
  put_out v out h = record { brigades = h.brigades; loose = h.loose }

  pub proceeds_each : (reads : Reads) (i : Instr) (rest : List Frame) → c.stack ≡ f ∷ rest → Steps i → BucketBefore → Left (proceeds chain reads i f rest (g, c)).1
  unfolding proceeds returned_from passed_to configuration set_brigade
  proceeds_each reads (instr.Pass b l) rest is steps old = by_last (is_last chain c f.of) where
    by_last : (t : Bool) → Left (cond t (delivered_by (module_at chain f.of) reads b (instr.Pass b l) f rest (g, c)) (passed_to (module_at chain (next_place chain c f.of)) (next_place chain c f.of) b f rest (g, c)))
    by_last true = delivered_each reads b (instr.Pass b l) rest is steps old
    by_last false = each_bucket_so (T (pools_of g c)) (U (pools_of g c)) (steps.touched (record { answer = answer_to true; given = None })) _
        (passed_to_each (T (pools_of g c)) (module_at chain (next_place chain c f.of)) (next_place chain c f.of) b f rest g c is old)
  proceeds_each reads (instr.Ret s) [] is steps old = put_out (next_called chain s c.queue back).1 (put_out_by chain reads f c).0 (next_left c.queue) where
    back : Linked
    back = put_back (instr.Ret s) f (do_return (configuration g c f)) [] [] (g, c)

    next_left : (queue : List ℕ) → Left (next_called chain s queue back).1
    next_left [] = back_each s [] is steps old
    next_left (k ∷ ks) = called_each (U (pools_of back.0 back.1)) chain k ks back.0 back.1 (back_each s [] is steps old)
  proceeds_each reads (instr.Ret s) (w ∷ rest) is steps old = put_out (returned_to (module_at chain w.of) s f w rest (g, c)) (put_out_by chain reads f c).0 (returned_to_each (module_at chain w.of) s w rest is steps old)
  proceeds_each reads i rest is steps old = stepped_each _ i rest is steps old
