-- What a call read has a home that lasts as long as the call, in every run of a chain.
use Rattle.std.proofs.Common.{◌≡◌, ◌≢◌, ℕ, ◌+◌, ◌<◌, Bool, true, false, ◌==◌, cond, List, [], ◌∷◌, ◌++◌, map, length, Option, Some, None, All, inl, inr, refl, sym, ◌∙◌, ap, subst, arith}
use Rattle.std.proofs.Common.{eq-eqb}
use Rattle.std.proofs.lemmas.Option.{}
use Rattle.std.proofs.lemmas.List.Elements.{All-head, All-tail}
use Rattle.module_code.specs.declared.instr.Instr.{Instr}
use Rattle.module_code.specs.declared.instr.Instr.TheVariants as instr
use Rattle.module_code.specs.declared.instr.Status.{Status}
use Rattle.std.proofs.lemmas.Bool.Decides.{nat_tests}
use Rattle.module_code.specs.Program.{Program, fits}
use Rattle.run_model.specs.declared.bucket.Bucket.{Bucket}
use Rattle.run_model.specs.declared.bucket.BrigadeVar.{BrigadeVar}
use Rattle.run_model.specs.declared.bucket.BrigadeVar.TheVariants as var
use Rattle.run_model.specs.declared.bucket.Content.{Content}
use Rattle.run_model.specs.declared.bucket.Content.TheVariants as content
use Rattle.run_model.specs.declared.bucket.Cursor.{Cursor}
use Rattle.run_model.specs.declared.bucket.Cursor.TheVariants as cursor
use Rattle.run_model.specs.declared.bucket.Home.{Home}
use Rattle.run_model.specs.declared.bucket.Home.TheVariants as home
use Rattle.run_model.specs.declared.bucket.Kind.{Kind}
use Rattle.run_model.specs.declared.bucket.Kind.TheVariants as kind
use Rattle.run_model.specs.declared.bucket.NamedBucket.{NamedBucket}
use Rattle.run_model.specs.declared.fault.FaultKind.TheVariants.{F5}
use Rattle.run_model.specs.BrigadeLists.{first_bucket, buckets_before, buckets_from, bucket_named}
use Rattle.run_model.specs.BucketSteps.{items_at, bucket_read, first_read, rest_named, read_given, read_within, do_read}
use Rattle.run_model.specs.Buckets.{is_dead, is_ended}
use Rattle.run_model.specs.Chains.{Frame, Connection, Common, Linked, module_at, is_last, next_place, configuration, touched_bucket, touched_frame, put_back, stepped_in, led_to, IsChain, touched_var, places}
use Rattle.run_model.specs.Chains.{touched_instance, pools_of}
use Rattle.run_model.specs.Cursors.{CursorPlace, Nowhere, AtLoose, Within, AtEndOf, at_cursor, bucket_at}
use Rattle.run_model.specs.Cursors.{read_cursor, place_of_loose, place_in_brigade, place_of_bucket, place_of_end, place_of_cursor, holder_of, variable_of}
use Rattle.run_model.specs.Cutting.{FitsKind, LivesAs, form_of, form_of_kind, read_as, read_of}
use Rattle.run_model.specs.Effects.{do_return}
use Rattle.run_model.specs.Faults.{InBrigade, cursor_fault, home_fault, passed_fault}
use Rattle.run_model.specs.Passing.{Reads, passed_to, returned_to, delivered, delivered_by, next_called, returned_from, proceeds}
use Rattle.run_model.specs.Indexed.{upd}
use Rattle.run_model.specs.Pools.{is_live}
use Rattle.run_model.specs.State.{Configuration, items_of, set_brigade, set_cursor, Instance, fresh_call}
use Rattle.run_model.specs.EffectOf.{effect_of}
use Rattle.run_model.specs.Steps.{Choice, answer_to, current, step, with_items}
use Rattle.run_model.specs.Turns.{opened, begun, all_called}
use Rattle.run_model.proofs.EachBucket.{of_named}
use Rattle.run_model.proofs.CursorPlaces.{StandsThere, stands, named_is}
use Rattle.run_model.proofs.Updates.{upd_at}
use Rattle.model_laws.specs.ChainCursors.{HoldsGiven, CursorsGiven}
use Rattle.model_laws.specs.ChainFiles.{OfEachBucket}
use Rattle.model_laws.specs.ChainHomes.{IsCalled, HomeIsAlive, ChainHomes}
use Rattle.model_laws.specs.ChainLaws.{after_top}
use Rattle.model_laws.specs.ChainSound.{AreNamed, ChainSound, IsFramePlaced, ChainNames}
use Rattle.model_laws.specs.Laws.{MayExecute, MatchHome, is_return, may_change_cursor}
use Rattle.model_laws.specs.CursorLaws.{name_held}
use Rattle.model_laws.specs.ReadHomes.{IsNoPool, ReadsLast, RunKeepsReads, ReadsPassTheTest}
use Rattle.model_laws.proofs.Marks.{first_none, second_none}
use Rattle.model_laws.proofs.Origins.{HoldsNamed}
use Rattle.model_laws.proofs.StepFiles.{not_dead}
use Rattle.model_laws.proofs.Unchanged.{step_changes_only}
use Rattle.model_laws.proofs.chains.Beyond.{NoneBeyond, only_here, turn_beyond}
use Rattle.model_laws.proofs.chains.Cursors.{cursors_keep}
use Rattle.model_laws.proofs.chains.EachBucket.{Steps, LooseOf, seen_each, each_bucket_so, proceeds_each}
use Rattle.model_laws.proofs.chains.EachCall.{each_call_kept}
use Rattle.model_laws.proofs.chains.EventTurns.{EventTurn, Stood, Went, Begun, Brought, FileTaken, Ended}
use Rattle.model_laws.proofs.chains.Homes.{homes_kept}
use Rattle.model_laws.proofs.chains.ReadSteps.{Lasts, NamedLasts, lasts_more, step_lasts, touched_lasts}
use Rattle.model_laws.proofs.chains.TopNames.{top_keeps_names}
use Rattle.model_laws.proofs.chains.TopSteps.{may_step}
use Rattle.model_laws.proofs.chains.Views.{all_within}
use Rattle.model_laws.proofs.chains.WorldKept.{TurnsKeep, whole_run_kept, AnyLength, any_lengths}

-- Of each call: each bucket of the name at which its read cursor is lasts as long as the call.
unfoldable StackReads : Connection → List Frame → Type 0
StackReads c [] = Unit {0}
StackReads c (w ∷ more) = ((n : ℕ) → w.call.cursors read_cursor ≡ cursor.At n → OfEachBucket (NamedLasts n (IsCalled (w ∷ more))) c) × StackReads c more

-- the same calls: by their names and their read cursors
unfoldable AreAlike : List Frame → List Frame → Type 0
AreAlike [] [] = Unit {0}
AreAlike (w ∷ fs) (v ∷ gs) = (v.call.name ≡ w.call.name) × (v.call.cursors read_cursor ≡ w.call.cursors read_cursor) × AreAlike fs gs
AreAlike [] (v ∷ gs) = ⊥
AreAlike (w ∷ fs) [] = ⊥

alike_same : (fs : List Frame) → AreAlike fs fs
unfolding AreAlike
alike_same [] = tt
alike_same (w ∷ fs) = (refl, refl, alike_same fs)

alike_touched : (change : NamedBucket → NamedBucket) (fs : List Frame) → AreAlike fs (map (touched_frame change) fs)
unfolding AreAlike
alike_touched change [] = tt
alike_touched change (w ∷ fs) = (refl, refl, alike_touched change fs)

called_alike : (fs gs : List Frame) → AreAlike fs gs → (n : ℕ) → IsCalled fs n → IsCalled gs n
unfolding IsCalled AreAlike
called_alike [] [] a n h = h
called_alike (w ∷ fs) (v ∷ gs) a n (inl here) = inl (a.0 ∙ here)
called_alike (w ∷ fs) (v ∷ gs) a n (inr there) = inr (called_alike fs gs a.2 n there)
called_alike [] (v ∷ gs) a n h = absurd a
called_alike (w ∷ fs) [] a n h = absurd a

not_called : (n : ℕ) (fs : List Frame) → All (λ w. w.call.name ≢ n) fs → IsCalled fs n → ⊥
unfolding IsCalled
not_called n [] all h = h
not_called n (w ∷ fs) all (inl here) = All-head (λ v. v.call.name ≢ n) w fs all here
not_called n (w ∷ fs) all (inr there) = not_called n fs (All-tail (λ v. v.call.name ≢ n) w fs all) there

held_at : (n : ℕ) (v : Cursor) → v ≡ cursor.At n → name_held v ≡ Some n
held_at n v e = ap name_held e

unset_at : (n : ℕ) (v : Cursor) → v ≡ cursor.Unset → v ≡ cursor.At n → ⊥
unset_at n v unset e = (let both : cursor.Unset ≡ cursor.At n = sym unset ∙ e in cc)

each_called : (n : ℕ) (fs gs : List Frame) (d : Connection) → ((k : ℕ) → IsCalled fs k → IsCalled gs k) → OfEachBucket (NamedLasts n (IsCalled fs)) d → OfEachBucket (NamedLasts n (IsCalled gs)) d
each_called n fs gs d more h = each_bucket_so (NamedLasts n (IsCalled fs)) (NamedLasts n (IsCalled gs)) (λ x t named. lasts_more (IsCalled fs) (IsCalled gs) more x.bucket (t named)) d h

-- From c to d, which an instruction leaves. gone: the call that it ends, where it returns.
module _ (next gone : ℕ) (ends : Type 0) (c d : Connection)
    (carry : (n : ℕ) (C : ℕ → Type 0) → n < next → (ends → C gone → ⊥) → OfEachBucket (NamedLasts n C) c → OfEachBucket (NamedLasts n C) d) where
  -- what one call read, which is still there
  one_stays : (w v : Frame) (fs gs : List Frame) → AreAlike (w ∷ fs) (v ∷ gs) → HoldsGiven next w.call → (ends → IsCalled (w ∷ fs) gone → ⊥)
      → ((n : ℕ) → w.call.cursors read_cursor ≡ cursor.At n → OfEachBucket (NamedLasts n (IsCalled (w ∷ fs))) c)
      → (n : ℕ) → v.call.cursors read_cursor ≡ cursor.At n → OfEachBucket (NamedLasts n (IsCalled (v ∷ gs))) d
  unfolding AreAlike
  one_stays w v fs gs a given away h n e =
      let was : w.call.cursors read_cursor ≡ cursor.At n = sym a.1 ∙ e in
      each_called n (w ∷ fs) (v ∷ gs) d (called_alike (w ∷ fs) (v ∷ gs) a) (carry n (IsCalled (w ∷ fs)) (given.given read_cursor n (held_at n (w.call.cursors read_cursor) was)) away (h n was))

  stack_stays : (fs gs : List Frame) → AreAlike fs gs → All (λ w. HoldsGiven next w.call) fs → All (λ w. w.call.name ≢ gone) fs → StackReads c fs → StackReads d gs
  unfolding AreAlike StackReads
  stack_stays [] [] a given away h = tt
  stack_stays (w ∷ fs) (v ∷ gs) a given away h = (
    one_stays w v fs gs a (All-head (λ x. HoldsGiven next x.call) w fs given) (λ end called. not_called gone (w ∷ fs) away called) h.0,
    stack_stays fs gs a.2 (All-tail (λ x. HoldsGiven next x.call) w fs given) (All-tail (λ x. x.call.name ≢ gone) w fs away) h.1,
  )
  stack_stays [] (v ∷ gs) a given away h = absurd a
  stack_stays (w ∷ fs) [] a given away h = absurd a

-- Only a read sets the read cursor.

abbrev is_read : Instr → Bool
is_read (instr.Read c l) = true
is_read i = false

read_is : (p : Program) (i : Instr) → fits p i ≡ true → is_return i ≡ false → is_read i ≡ false → may_change_cursor (effect_of i) read_cursor ≡ false
read_is p (instr.Ret s) fit on other = absurd (cc)
read_is p i fit on other = grind (arith, nat_tests)

-- What is read.

-- the bucket of the name is found where it stood
found_again : (n : ℕ) (bs more : List NamedBucket) (z : NamedBucket) → (z.name == n) ≡ true → bucket_named n (buckets_before n bs ++ z ∷ more) ≡ Some z
unfolding buckets_before buckets_from
found_again n [] more z same = subst (λ (t : Bool). first_bucket (cond t (z ∷ more) (buckets_from n more)) ≡ Some z) (sym same) refl
found_again n (b ∷ bs) more z same = by_name (b.name == n) refl (found_again n bs more z same) where
  by_name : (t : Bool) → (b.name == n) ≡ t → bucket_named n (buckets_before n bs ++ z ∷ more) ≡ Some z → first_bucket (buckets_from n (cond t [] (b ∷ buckets_before n bs) ++ z ∷ more)) ≡ Some z
  by_name true is rest = subst (λ (t : Bool). first_bucket (cond t (z ∷ more) (buckets_from n more)) ≡ Some z) (sym same) refl
  by_name false is rest = subst (λ (t : Bool). first_bucket (cond t (b ∷ (buckets_before n bs ++ z ∷ more)) (buckets_from n (buckets_before n bs ++ z ∷ more))) ≡ Some z) (sym is) rest

first_is : (new : ℕ) (bytes : List ℕ) (x : NamedBucket) (ys : List NamedBucket) → first_bucket ys ≡ Some x
    → (more : List NamedBucket) × (first_read new bytes ys ≡ (record x { bucket = (read_of bytes x.bucket).0 }) ∷ more)
first_is new bytes x [] is = absurd (cc)
first_is new bytes x (y ∷ ys) is =
    let same : y ≡ x = one y x is in
    (rest_named new (read_of bytes y.bucket).1 ++ ys, ap (λ (z : NamedBucket). (record z { bucket = (read_of bytes z.bucket).0 }) ∷ (rest_named new (read_of bytes y.bucket).1 ++ ys)) same) where
      one : (a b : NamedBucket) → Some a ≡ Some b → a ≡ b
      one a b e = cc

read_found : (new : ℕ) (bytes : List ℕ) (x : NamedBucket) (bs : List NamedBucket) → bucket_named x.name bs ≡ Some x
    → bucket_named x.name (bucket_read new x.name bytes bs) ≡ Some (record x { bucket = (read_of bytes x.bucket).0 })
read_found new bytes x bs is =
    let first = first_is new bytes x (buckets_from x.name bs) is in
    subst (λ (ys : List NamedBucket). bucket_named x.name (buckets_before x.name bs ++ ys) ≡ Some (record x { bucket = (read_of bytes x.bucket).0 })) (sym first.1)
    (found_again x.name bs first.0 (record x { bucket = (read_of bytes x.bucket).0 }) (eq-eqb x.name x.name refl))

no_file : (k : Kind) → form_of_kind k ≡ form_of_kind kind.Heap → k ≡ kind.File → ⊥
no_file k same is = (let clash : form_of_kind kind.File ≡ form_of_kind kind.Heap = sym (ap form_of_kind is) ∙ same in cc)

no_data_file : (k : Kind) → form_of_kind k ≡ form_of_kind kind.Eos → k ≡ kind.File → ⊥
no_data_file k same is = (let clash : form_of_kind kind.File ≡ form_of_kind kind.Eos = sym (ap form_of_kind is) ∙ same in cc)

-- a home of a bucket that is no file's and that has not ended
home_lasts : (C : ℕ → Type 0) (live : ℕ → Type 0) (k : Kind) (h : Home) → (k ≡ kind.File → ⊥) → LivesAs k h → is_ended h ≡ false → MatchHome h C live → IsNoPool C h
home_lasts C live k home.Free never lives on alive = tt
home_lasts C live k (home.Call n) never lives on alive = alive
home_lasts C live k (home.Pool n) never lives on alive = by_kind k never lives where
  by_kind : (k : Kind) → (k ≡ kind.File → ⊥) → LivesAs k (home.Pool n) → ⊥
  by_kind kind.File never lives = never refl
  by_kind k never lives = lives
home_lasts C live k home.Ended never lives on alive = absurd (cc)

read_lasts : (C : ℕ → Type 0) (live : ℕ → Type 0) (bytes : List ℕ) (b : Bucket) (c : Content) → c ≡ b.content → FitsKind b → is_ended b.home ≡ false → MatchHome b.home C live
    → Lasts C (read_as bytes b c).0
read_lasts C live bytes b (content.Bytes bs) is fits on alive =
    let never = no_file b.kind (sym fits.holds ∙ ap form_of (sym is)) in record { file = never; home = home_lasts C live b.kind b.home never fits.lives on alive }
read_lasts C live bytes b (content.Range file start len) is fits on alive = record { file = heap_no; home = tt } where
  heap_no : kind.Heap ≡ kind.File → ⊥
  heap_no e = cc
read_lasts C live bytes b content.Nothing is fits on alive =
    let never = no_data_file b.kind (sym fits.holds ∙ ap form_of (sym is)) in record { file = never; home = home_lasts C live b.kind b.home never fits.lives on alive }

-- The instruction on top.

module _ (chain : List Program) (reads : Reads) (g : Common) (c : Connection) (f : Frame) (rest : List Frame) (i : Instr) (may : MayExecute (module_at chain f.of) (configuration g c f) i)
    (top : c.stack ≡ f ∷ rest)
    (placed : f.of < places chain) (named : AreNamed g.next (f ∷ rest)) (given : All (λ w. HoldsGiven g.next w.call) (f ∷ rest)) (homes : ChainHomes g c) (stack : StackReads c (f ∷ rest)) where
  abbrev left : Linked
  left = (proceeds chain reads i f rest (g, c)).1

  carry : (n : ℕ) (C : ℕ → Type 0) → n < g.next → (is_return i ≡ true → C f.call.name → ⊥) → OfEachBucket (NamedLasts n C) c → OfEachBucket (NamedLasts n C) left.1
  unfolding configuration
  carry n C lt away old = proceeds_each (λ ps. NamedLasts n C) (λ ps. NamedLasts n C) chain g c f reads i rest top steps old where
    seen : HoldsNamed (NamedLasts n C) (configuration g c f)
    seen = seen_each (NamedLasts n C) g c f rest top old

    steps : Steps (λ ps. NamedLasts n C) (λ ps. NamedLasts n C) chain g c f i
    steps = record {
      held = λ choice. step_lasts n C (module_at chain f.of) choice (configuration g c f) lt seen i away;
      touched = λ choice x t. touched_lasts n C (configuration g c f) i away x t;
    }

  below_named : All (λ w. w.call.name ≢ f.call.name) rest
  unfolding AreNamed
  below_named = named.2

  below_given : All (λ w. HoldsGiven g.next w.call) rest
  below_given = All-tail (λ w. HoldsGiven g.next w.call) f rest given

  top_given : HoldsGiven g.next f.call
  top_given = All-head (λ w. HoldsGiven g.next w.call) f rest given

  top_reads : (n : ℕ) → f.call.cursors read_cursor ≡ cursor.At n → OfEachBucket (NamedLasts n (IsCalled (f ∷ rest))) c
  unfolding StackReads
  top_reads = stack.0

  below_reads : StackReads c rest
  unfolding StackReads
  below_reads = stack.1

  -- the calls that wait
  rest_stays : (gs : List Frame) → AreAlike rest gs → StackReads left.1 gs
  rest_stays gs a = stack_stays g.next f.call.name (is_return i ≡ true) c left.1 carry rest gs a below_given below_named below_reads

  -- a call that began
  fresh_top : (v : Frame) (gs : List Frame) → v.call.cursors read_cursor ≡ cursor.Unset → StackReads left.1 gs → StackReads left.1 (v ∷ gs)
  unfolding StackReads
  fresh_top v gs unset h = (λ n e. absurd (unset_at n (v.call.cursors read_cursor) unset e), h)

  -- the call on top goes on, at the bucket that it read last
  same_top : (v : Frame) (gs : List Frame) → is_return i ≡ false → AreAlike (f ∷ rest) (v ∷ gs) → StackReads left.1 (v ∷ gs)
  unfolding StackReads AreAlike
  same_top v gs on a = (
    one_stays g.next f.call.name (is_return i ≡ true) c left.1 carry f v rest gs a top_given (λ end called. absurd (let both : true ≡ false = sym end ∙ on in cc)) top_reads,
    rest_stays gs a.2,
  )

  passed_stays : (gs : List Frame) → is_return i ≡ false → AreAlike (f ∷ rest) gs → StackReads left.1 gs
  unfolding AreAlike
  passed_stays [] on a = absurd a
  passed_stays (v ∷ gs) on a = same_top v gs on a

  -- In place: where the call on top goes on as v.

  abbrev onward : Choice → Frame
  onward choice = (let o = step (module_at chain f.of) choice i (configuration g c f) in record f { call = o.state.call; pc = led_to o.exit i f.pc })

  abbrev waiting : List Frame
  waiting = map (touched_frame (touched_bucket (configuration g c f) i)) rest

  in_place : (choice : Choice) → is_return i ≡ false → is_read i ≡ false → StackReads left.1 (onward choice ∷ waiting)
  unfolding AreAlike configuration
  in_place choice on other =
      let changes = step_changes_only (module_at chain f.of) choice i (configuration g c f) in
      same_top (onward choice) waiting on
      (changes.call_name on, changes.cursors read_cursor (read_is (module_at chain f.of) i may.fit on other), alike_touched (touched_bucket (configuration g c f) i) rest)

-- A read, as a step.

-- the bucket x of the brigade of b was read, and st is what that leaves
record HomeWasRead (r st : Configuration) (n : ℕ) : Type 0 where
  b : ℕ
  x : NamedBucket
  bytes : List ℕ
  there : bucket_named x.name (items_at r b) ≡ Some x
  after : bucket_named n (items_at st b) ≡ Some (record x { bucket = (read_of bytes x.bucket).0 })
  live : is_dead x ≡ false

at_is : (m n : ℕ) → cursor.At m ≡ cursor.At n → m ≡ n
at_is m n e = cc

filled_items : (b : ℕ) (x : NamedBucket) (items : List NamedBucket) (v : BrigadeVar) → bucket_named x.name (items_of v) ≡ Some x → items_of (with_items items v) ≡ items
unfolding buckets_from
filled_items b x items var.Null is = absurd (cc)
filled_items b x items var.Gone is = absurd (cc)
filled_items b x items (var.Live v) is = refl

read_sets : (given : Option (List ℕ)) (s : CursorPlace) (r : Configuration) → StandsThere r s → cursor_fault r InBrigade s ≡ None → home_fault (bucket_at s) ≡ None → (n : ℕ)
    → (do_read given s r).call.cursors read_cursor ≡ cursor.At n → HomeWasRead r (do_read given s r) n
unfolding cursor_fault set_brigade set_cursor
read_sets given Nowhere r there none live n e = absurd (cc)
read_sets given (AtLoose x) r there none live n e = absurd (cc)
read_sets given (AtEndOf b) r there none live n e = absurd (let last = second_none (passed_fault (r.instance.brigades b)) _ none in cc)
read_sets given (Within b x) r there none live n e = by_given (read_given given x.bucket.content) e where
  by_given : (o : Option (List ℕ)) → (read_within b x o r).call.cursors read_cursor ≡ cursor.At n → HomeWasRead r (read_within b x o r) n
  by_given None e = absurd (unset_at n _ (upd_at r.call.cursors read_cursor cursor.Unset) e)
  by_given (Some bytes) e =
      let is : x.name ≡ n = at_is x.name n (sym (upd_at r.call.cursors read_cursor (cursor.At x.name)) ∙ e) in
      let items : List NamedBucket = bucket_read r.shared.next x.name bytes (items_at r b) in
      let written : items_of (upd r.instance.brigades b (with_items items (r.instance.brigades b)) b) ≡ items =
      ap items_of (upd_at r.instance.brigades b (with_items items (r.instance.brigades b))) ∙ filled_items b x items (r.instance.brigades b) there.1 in
      record {
        b = b;
        x = x;
        bytes = bytes;
        there = there.1;
        after = subst (λ (m : ℕ). bucket_named m (items_of (upd r.instance.brigades b (with_items items (r.instance.brigades b)) b)) ≡ Some (record x { bucket = (read_of bytes x.bucket).0 })) is
            (ap (bucket_named x.name) written ∙ read_found r.shared.next bytes x (items_at r b) there.1);
        live = not_dead x live;
      }

module _ (chain : List Program) (reads : Reads) (g : Common) (c : Connection) (f : Frame) (rest : List Frame) (top : c.stack ≡ f ∷ rest)
    (placed : f.of < places chain) (named : AreNamed g.next (f ∷ rest)) (given : All (λ w. HoldsGiven g.next w.call) (f ∷ rest)) (homes : ChainHomes g c) (sound : ChainSound chain g c)
    (stack : StackReads c (f ∷ rest)) where
  abbrev HomesLeft : Instr → Type 0
  HomesLeft i = StackReads (proceeds chain reads i f rest (g, c)).1.1 (proceeds chain reads i f rest (g, c)).1.1.stack

  abbrev Single : Instr → Type 0
  Single i = ChainNames chain (proceeds chain reads i f rest (g, c)).1.0 (proceeds chain reads i f rest (g, c)).1.1

  -- A read sets the cursor at what it read.
  module _ (k l : ℕ) (may : MayExecute (module_at chain f.of) (configuration g c f) (instr.Read k l)) (new : Single (instr.Read k l))
      (none : NoneBeyond chain (proceeds chain reads (instr.Read k l) f rest (g, c)).1.1) where
    abbrev r : Configuration
    r = configuration g c f

    abbrev st : Configuration
    st = do_read (reads 0) (at_cursor (configuration g c f) k) (configuration g c f)

    abbrev left_by : Connection
    left_by = (proceeds chain reads (instr.Read k l) f rest (g, c)).1.1

    abbrev v : Frame
    v = onward chain reads g c f rest (instr.Read k l) may top placed named given homes stack (record { answer = answer_to true; given = reads 0 })

    abbrev waits : List Frame
    waits = waiting chain reads g c f rest (instr.Read k l) may top placed named given homes stack

    still_called : (m : ℕ) → IsCalled c.stack m → IsCalled (v ∷ waits) m
    unfolding IsCalled configuration
    still_called m h = by_stack (subst (λ (fs : List Frame). IsCalled fs m) top h) where
      by_stack : IsCalled (f ∷ rest) m → IsCalled (v ∷ waits) m
      by_stack (inl here) = inl ((step_changes_only (module_at chain f.of) (record { answer = answer_to true; given = reads 0 }) (instr.Read k l) r).call_name refl ∙ here)
      by_stack (inr there) = inr (called_alike rest waits (alike_touched (touched_bucket r (instr.Read k l)) rest) m there)

    found_in : (n : ℕ) (w : HomeWasRead r st n) → bucket_named n (items_of ((left_by.instances f.of).brigades w.b)) ≡ Some (record w.x { bucket = (read_of w.bytes w.x.bucket).0 })
    unfolding proceeds stepped_in put_back
    found_in n w =
        subst (λ (t : Bool). bucket_named n (items_of ((cond t st.instance (touched_instance (touched_var r (instr.Read k l)) (c.instances f.of))).brigades w.b)) ≡ Some
        (record w.x { bucket = (read_of w.bytes w.x.bucket).0 })) (sym (eq-eqb f.of f.of refl)) w.after

    read_so : (n : ℕ) (w : HomeWasRead r st n) → Lasts (IsCalled (v ∷ waits)) (read_of w.bytes w.x.bucket).0
    unfolding configuration
    read_so n w =
        lasts_more (IsCalled c.stack) (IsCalled (v ∷ waits)) still_called (read_of w.bytes w.x.bucket).0
        (read_lasts (IsCalled c.stack) (λ m. is_live (pools_of g c) m ≡ true) w.bytes w.x.bucket w.x.bucket.content refl
        (of_named (λ y. FitsKind y.bucket) w.x.name w.x (items_at r w.b) w.there (sound.buckets.brigades f.of w.b)) w.live
        (of_named (HomeIsAlive g c) w.x.name w.x (items_at r w.b) w.there (homes.brigades f.of w.b)))

    at_bucket : (n : ℕ) → HomeWasRead r st n → OfEachBucket (NamedLasts n (IsCalled (v ∷ waits))) left_by
    at_bucket n w =
        let z : NamedBucket = record w.x { bucket = (read_of w.bytes w.x.bucket).0 } in
        each_bucket_so (λ y. y.name ≡ n → y ≡ z) (NamedLasts n (IsCalled (v ∷ waits)))
        (λ y only is. subst (λ (q : NamedBucket). Lasts (IsCalled (v ∷ waits)) q.bucket) (sym (only is)) (read_so n w)) left_by
        (only_here chain (proceeds chain reads (instr.Read k l) f rest (g, c)).1.0 left_by new none f.of w.b n z placed (found_in n w))

    read_leaves : HomesLeft (instr.Read k l)
    unfolding proceeds stepped_in put_back StackReads
    read_leaves = (
      λ n e. at_bucket n (read_sets (reads 0) (at_cursor r k) r (stands r (r.call.cursors k)) (first_none (cursor_fault r InBrigade (at_cursor r k)) _ may.faultless)
          (first_none (home_fault (bucket_at (at_cursor r k))) None (second_none (cursor_fault r InBrigade (at_cursor r k)) _ may.faultless)) n e),
      rest_stays chain reads g c f rest (instr.Read k l) may top placed named given homes stack waits (alike_touched (touched_bucket r (instr.Read k l)) rest),
    )

  -- To the next filter, or to the end of the chain.
  pass_leaves : (b l : ℕ) → MayExecute (module_at chain f.of) (configuration g c f) (instr.Pass b l) → (t : Bool) → is_last chain c f.of ≡ t → HomesLeft (instr.Pass b l)
  unfolding proceeds delivered_by passed_to stepped_in put_back
  pass_leaves b l may true last =
      let choice : Choice = record { answer = answer_to (delivered c.out (items_of ((c.instances f.of).brigades b)) reads).1; given = None } in
      let i : Instr = instr.Pass b l in
      subst (StackReads (proceeds chain reads i f rest (g, c)).1.1)
      (sym (ap (λ (x : Bool). (cond x (delivered_by (module_at chain f.of) reads b i f rest (g, c)) (passed_to (module_at chain (next_place chain c f.of)) (next_place chain c f.of) b f rest (g, c))).1.stack) last))
      (in_place chain reads g c f rest i may top placed named given homes stack choice refl refl)
  pass_leaves b l may false last =
      let i : Instr = instr.Pass b l in
      subst (StackReads (proceeds chain reads i f rest (g, c)).1.1)
      (sym (ap (λ (x : Bool). (cond x (delivered_by (module_at chain f.of) reads b i f rest (g, c)) (passed_to (module_at chain (next_place chain c f.of)) (next_place chain c f.of) b f rest (g, c))).1.stack) last))
      (fresh_top chain reads g c f rest i may top placed named given homes stack (record { of = next_place chain c f.of; call = fresh_call g.next; pc = (module_at chain (next_place chain c f.of)).main }) (f ∷ rest) refl
      (passed_stays chain reads g c f rest i may top placed named given homes stack (f ∷ rest) refl (alike_same (f ∷ rest))))

-- Whatever the instruction.

same_each : (T : NamedBucket → Type 0) (c d : Connection) → d.instances ≡ c.instances → d.stack ≡ c.stack → OfEachBucket T c → OfEachBucket T d
same_each T c d instances stack h = record {
  brigades = λ k b. subst (λ (g : ℕ → Instance). All T (items_of ((g k).brigades b))) (sym instances) (h.brigades k b);
  loose = subst (LooseOf T) (sym stack) h.loose;
}

same_reads : (c d : Connection) → d.instances ≡ c.instances → d.stack ≡ c.stack → (fs : List Frame) → StackReads c fs → StackReads d fs
unfolding StackReads
same_reads c d instances stack [] h = tt
same_reads c d instances stack (w ∷ more) h = (λ n e. same_each (NamedLasts n (IsCalled (w ∷ more))) c d instances stack (h.0 n e), same_reads c d instances stack more h.1)

first_leaves : (chain : List Program) (g : Common) (c : Connection) (f : Frame) (s : Status) (queue : List ℕ)
    → (let left = (next_called chain s queue (put_back (instr.Ret s) f (do_return (configuration g c f)) [] [] (g, c))).1.1 in StackReads left left.stack)
unfolding put_back StackReads
first_leaves chain g c f s [] = tt
first_leaves chain g c f s (k ∷ ks) = (λ n e. absurd (unset_at n cursor.Unset refl e), tt)

top_leaves : (chain : List Program) (reads : Reads) (g : Common) (c : Connection) (f : Frame) (rest : List Frame) (i : Instr) → MayExecute (module_at chain f.of) (configuration g c f) i
    → c.stack ≡ f ∷ rest → f.of < places chain
    → AreNamed g.next (f ∷ rest) → All (λ w. HoldsGiven g.next w.call) (f ∷ rest) → ChainHomes g c → ChainSound chain g c → StackReads c (f ∷ rest)
    → ChainNames chain (proceeds chain reads i f rest (g, c)).1.0 (proceeds chain reads i f rest (g, c)).1.1 → NoneBeyond chain (proceeds chain reads i f rest (g, c)).1.1
    → StackReads (proceeds chain reads i f rest (g, c)).1.1 (proceeds chain reads i f rest (g, c)).1.1.stack
unfolding proceeds stepped_in put_back returned_from returned_to AreAlike
top_leaves chain reads g c f rest (instr.Pass b l) may top placed named given homes sound stack new none =
    pass_leaves chain reads g c f rest top placed named given homes sound stack b l may (is_last chain c f.of) refl
top_leaves chain reads g c f [] (instr.Ret s) may top placed named given homes sound stack new none =
    same_reads (returned_from chain s f (g, c)).1.1 _ refl refl (returned_from chain s f (g, c)).1.1.stack (first_leaves chain g c f s c.queue)
top_leaves chain reads g c f (w ∷ more) (instr.Ret s) may top placed named given homes sound stack new none =
    rest_stays chain reads g c f (w ∷ more) (instr.Ret s) may top placed named given homes stack (proceeds chain reads (instr.Ret s) f (w ∷ more) (g, c)).1.1.stack
    (refl, refl, alike_touched (touched_bucket (configuration g c f) (instr.Ret s)) more)
top_leaves chain reads g c f rest (instr.Read k l) may top placed named given homes sound stack new none = read_leaves chain reads g c f rest top placed named given homes sound stack k l may new none
top_leaves chain reads g c f rest i may top placed named given homes sound stack new none =
    in_place chain reads g c f rest i may top placed named given homes stack (record { answer = answer_to true; given = reads 0 }) refl refl

-- Turns.

-- what is kept of a connection: besides what its calls read, that homes are alive, cursors hold names that were given out, and nothing
-- is beyond the chain
record ReadsKept (chain : List Program) (g : Common) (c : Connection) : Type 0 where
  homes : ChainHomes g c
  cursors : CursorsGiven g c
  beyond : NoneBeyond chain c
  reads : StackReads c c.stack

no_reads : (d : Connection) (fs : List Frame) → fs ≡ [] → StackReads d fs
unfolding StackReads
no_reads d fs idle = subst (StackReads d) (sym idle) tt

fresh_reads : (d : Connection) (v : Frame) → v.call.cursors read_cursor ≡ cursor.Unset → StackReads d (v ∷ [])
unfolding StackReads
fresh_reads d v unset = (λ n e. absurd (unset_at n (v.call.cursors read_cursor) unset e), tt)

turn_reads : (chain : List Program) (g : Common) (c : Connection) (v : Linked) → EventTurn chain AnyLength g c v → ChainSound chain g c → NoneBeyond chain v.1 → ReadsKept chain g c
    → StackReads v.1 v.1.stack
unfolding begun all_called
turn_reads chain g c v (Stood out broken still) s none h = same_reads c _ refl refl c.stack h.reads
turn_reads chain g c v (Went reads f rest whole may) s none h =
    let left : Linked = after_top chain reads g c f rest in
    same_reads left.1 _ refl refl left.1.stack
    (top_leaves chain reads g c f rest (current (module_at chain f.of) f.pc) (may_step chain g c f rest may s) may.on_top
    (All-head (IsFramePlaced chain c.req) f rest (subst (All (IsFramePlaced chain c.req)) may.on_top s.calls.placed)).of
    (subst (AreNamed g.next) may.on_top s.calls.named) (subst (λ (fs : List Frame). All (λ w. HoldsGiven g.next w.call) fs) may.on_top h.cursors) h.homes s (subst (StackReads c) may.on_top h.reads)
    (top_keeps_names chain reads g c f rest may s) none)
turn_reads chain g c v (Begun whole idle no_request pools next) s none h = fresh_reads _ _ refl
turn_reads chain g c v (Brought pieces req whole idle is there next late) s none h = fresh_reads _ _ refl
turn_reads chain g c v (FileTaken req file bytes whole idle is short newer last) s none h = no_reads _ c.stack idle
turn_reads chain g c v (Ended req whole idle is) s none h = no_reads _ c.stack idle

reads_kept : (chain : List Program) → IsChain chain → TurnsKeep chain AnyLength (ReadsKept chain)
unfolding opened all_called
reads_kept chain chained =
    let homes = homes_kept chain in
    let cursors = each_call_kept HoldsGiven cursors_keep chain in
    record {
      rising = λ g new c rises s h. record { homes = homes.rising g new c rises s h.homes; cursors = cursors.rising g new c rises s h.cursors; beyond = h.beyond; reads = h.reads };
      opening = λ g has s. record { homes = homes.opening g has s; cursors = cursors.opening g has s; beyond = λ k b past. refl; reads = fresh_reads _ _ refl };
      turns = λ g c v has t s new h.
          let none = turn_beyond chain g c v t s h.beyond in
          record { homes = homes.turns g c v has t s new h.homes; cursors = cursors.turns g c v has t s new h.cursors; beyond = none; reads = turn_reads chain g c v t s none h };
    }

-- What a read cursor stands at.

below_of : (c : Connection) (above : List Frame) (f : Frame) (below : List Frame) → StackReads c (above ++ f ∷ below) → (n : ℕ) → f.call.cursors read_cursor ≡ cursor.At n
    → OfEachBucket (NamedLasts n (IsCalled (f ∷ below))) c
unfolding StackReads
below_of c [] f below h = h.0
below_of c (w ∷ above) f below h = below_of c above f below h.1

none_is : (x : NamedBucket) → None ≡ Some x → ⊥
none_is x e = cc

module _ (r : Configuration) (C : ℕ → Type 0) (n : ℕ) (brigades : (b : ℕ) → All (NamedLasts n C) (items_of (r.instance.brigades b))) (loose : All (NamedLasts n C) r.call.loose) (x : NamedBucket) where
  in_list : (xs : List NamedBucket) → All (NamedLasts n C) xs → bucket_named n xs ≡ Some x → IsNoPool C x.bucket.home
  in_list xs all is = (of_named (NamedLasts n C) n x xs is all (named_is n xs x is)).home

  in_loose : (o : Option NamedBucket) → bucket_named n r.call.loose ≡ o → bucket_at (place_of_loose o) ≡ Some x → IsNoPool C x.bucket.home
  in_loose None is e = absurd (none_is x e)
  in_loose (Some y) is e = in_list r.call.loose loose (is ∙ e)

  in_brigade : (b : ℕ) (o : Option NamedBucket) → bucket_named n (items_of (r.instance.brigades b)) ≡ o → bucket_at (place_in_brigade b o) ≡ Some x → IsNoPool C x.bucket.home
  in_brigade b None is e = absurd (none_is x e)
  in_brigade b (Some y) is e = in_list (items_of (r.instance.brigades b)) (brigades b) (is ∙ e)

  at_name : (o : Option ℕ) → bucket_at (place_of_bucket r n o) ≡ Some x → IsNoPool C x.bucket.home
  at_name None e = in_loose (bucket_named n r.call.loose) refl e
  at_name (Some b) e = in_brigade b (bucket_named n (items_of (r.instance.brigades b))) refl e

end_at : (o : Option ℕ) (x : NamedBucket) → bucket_at (place_of_end o) ≡ Some x → ⊥
end_at None x e = none_is x e
end_at (Some b) x e = none_is x e

place_lasts : (r : Configuration) (C : ℕ → Type 0) (v : Cursor) (x : NamedBucket)
    → ((n : ℕ) → v ≡ cursor.At n → ((b : ℕ) → All (NamedLasts n C) (items_of (r.instance.brigades b))) × All (NamedLasts n C) r.call.loose)
    → bucket_at (place_of_cursor r v) ≡ Some x → IsNoPool C x.bucket.home
unfolding place_of_cursor
place_lasts r C cursor.Unset x all e = absurd (none_is x e)
place_lasts r C (cursor.At n) x all e = (let here = all n refl in at_name r C n here.0 here.1 x (holder_of r n) e)
place_lasts r C (cursor.End n) x all e = absurd (end_at (variable_of r n) x e)

reads_last : (chain : List Program) (g : Common) (c : Connection) → ReadsKept chain g c → ReadsLast g c
unfolding configuration
reads_last chain g c h above below f x is at =
    place_lasts (configuration g c f) (IsCalled (f ∷ below)) (f.call.cursors read_cursor) x
    (λ n e. let all = below_of c above f below (subst (StackReads c) is h.reads) n e in
    (λ b. all.brigades f.of b, all_within (λ w. All (NamedLasts n (IsCalled (f ∷ below))) w.call.loose) above f below (subst (LooseOf (NamedLasts n (IsCalled (f ∷ below)))) is all.loose))) at

pub run_keeps_reads : RunKeepsReads
run_keeps_reads budget chain es answers w chained run k c at =
    reads_last chain w.common c ((whole_run_kept chain chained AnyLength (ReadsKept chain) (reads_kept chain chained) budget es answers w run (any_lengths answers)).kept k c at)

-- The test of its home.

passes_test : (C : ℕ → Type 0) (o : Option NamedBucket) → ((x : NamedBucket) → o ≡ Some x → IsNoPool C x.bucket.home) → home_fault o ≡ None
passes_test C None all = refl
passes_test C (Some x) all = by_home x.bucket.home (all x refl) where
  by_home : (h : Home) → IsNoPool C h → cond (is_ended h) (Some F5) None ≡ None
  by_home home.Free h = refl
  by_home (home.Call n) h = refl
  by_home (home.Pool n) h = absurd h
  by_home home.Ended h = absurd h

pub reads_pass_the_test : ReadsPassTheTest
reads_pass_the_test budget chain es answers w chained run k c at above below f is =
    passes_test (IsCalled (f ∷ below)) (bucket_at (at_cursor (configuration w.common c f) read_cursor)) (λ x e. run_keeps_reads budget chain es answers w chained run k c at above below f x is e)
