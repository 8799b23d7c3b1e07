-- Numbers and buffers stay in range in each connection with a chain, and what is held stays bytes.
use Rattle.std.proofs.Common.{◌≡◌, ℕ, ◌+◌, ◌≤◌, Bool, true, false, cond, List, [], ◌∷◌, map, Option, Some, None, All, inl, inr, sym, ◌∙◌, ap, subst, arith}
use Rattle.std.proofs.lemmas.List.Elements.{All-head, All-tail}
use Rattle.module_code.specs.declared.instr.Instr.{Instr}
use Rattle.module_code.specs.declared.instr.Instr.TheVariants as instr
use Rattle.module_code.specs.declared.instr.Status.{Status}
use Rattle.module_code.specs.Program.{Program, fits}
use Rattle.run_model.specs.declared.bucket.NamedBucket.{NamedBucket}
use Rattle.run_model.specs.declared.event.Event.{Event}
use Rattle.run_model.specs.declared.event.Piece.{Piece}
use Rattle.run_model.specs.Indexed.{upd}
use Rattle.run_model.specs.Pools.{destroyed, is_under}
use Rattle.run_model.specs.Buckets.{returned_bucket}
use Rattle.run_model.specs.State.{Out, Instance, Configuration, items_of, fresh_call, set_brigade}
use Rattle.run_model.specs.Effects.{do_pass, do_return}
use Rattle.run_model.specs.Steps.{Choice, answer_to, current, step}
use Rattle.model_laws.specs.Ranges.{AreBytes, HoldsBytes, BufferInRange, InRange, GivesBytes, IsOfBytes, BringsBytes}
use Rattle.run_model.specs.Chains.{Frame, Connection, Common, Linked, module_at, is_last, next_place, configuration, pools_of, touched_bucket, touched_var, touched_instance, touched_frame, led_to, put_back, place_from}
use Rattle.run_model.specs.Chains.{stepped_in, IsChain}
use Rattle.run_model.specs.Passing.{Reads, passed_to, passed_by, returned_to, called, delivered, delivered_by, next_called, returned_from, proceeds}
use Rattle.run_model.specs.Turns.{file_taken, steps, all_called, opened, begun, begins, opens_file, brought, brings, ended, ends}
use Rattle.run_model.specs.Worlds.{World, Told, Answer, new_world, IsRun}
use Rattle.model_laws.specs.ChainFiles.{OfEachBucket}
use Rattle.model_laws.specs.ChainRanges.{BuffersInRange, ChainInRange, WorldInRange, TellsBytes, EventKeepsWorldInRange, IsRunOfBytes, RunsOfBytesAreRuns, RunIsInRangeWorld}
use Rattle.run_model.proofs.Updates.{upd_either}
use Rattle.model_laws.proofs.EventAnswers.{unless_so, answer_so}
use Rattle.model_laws.proofs.InRange.{emptied_files, step_in_range}
use Rattle.model_laws.proofs.HeldBytes.{named_bytes}
use Rattle.model_laws.proofs.EventsKeep.{current_fits}
use Rattle.model_laws.proofs.chains.CallBuffers.{made_buffers, opened_buffers}
use Rattle.model_laws.proofs.chains.Modules.{module_at_proper}
use Rattle.model_laws.proofs.chains.Names.{left_either}
use Rattle.model_laws.proofs.EachItem.{mapped_each, cleared_each}
use Rattle.model_laws.proofs.chains.EachBucket.{touched_so, LooseOf, no_calls, one_call, seen_each, passed_to_each, given_each, called_each, put_back_each}
use Rattle.model_laws.proofs.chains.EachEvent.{opened_each, begun_each, brought_in_each}
use Rattle.model_laws.proofs.chains.EventCases.{Made, OnOpening, OnBegin, OnBring, OnStep, OnEnd, OnTake}
use Rattle.model_laws.proofs.chains.EachConnection.{event_each}
use Rattle.model_laws.proofs.chains.StepCases.{steps_so}

abbrev OfNamed : NamedBucket → Type 0
OfNamed x = HoldsBytes x.bucket.content

-- Numbers.

abbrev Small : (ℕ → Instance) → Type 0
Small h = (k n : ℕ) → (h k).numbers n ≤ 4294967295

written_numbers : (h : ℕ → Instance) (i : ℕ) (v : Instance) → Small h → ((n : ℕ) → v.numbers n ≤ 4294967295) → Small (upd h i v)
written_numbers h i v all new k n = elim (upd_either h i k v) [
  | inl p ↦ subst (λ (x : Instance). x.numbers n ≤ 4294967295) (sym p.1) (new n)
  | inr p ↦ subst (λ (x : Instance). x.numbers n ≤ 4294967295) (sym p.1) (all k n)
]

-- in range, but for the buffers
record BytesInRange (c : Connection) : Type 0 where
  numbers : Small c.instances
  held : OfEachBucket OfNamed c
  opened : (file : ℕ) (bytes : List ℕ) → c.opened file ≡ Some bytes → AreBytes bytes

-- The instruction of the call on top.

seen_range : (g : Common) (c : Connection) (f : Frame) (rest : List Frame) → c.stack ≡ f ∷ rest → BufferInRange f.call.buffer → BytesInRange c → InRange (configuration g c f)
unfolding configuration
seen_range g c f rest is buffer h =
    let seen = seen_each OfNamed g c f rest is h.held in record {
      numbers = h.numbers f.of;
      buffer = buffer;
      brigades = seen.brigades;
      loose = seen.loose;
      files = record { named = λ name bytes e. absurd (cc); opened = h.opened };
    }

put_back_range : (i : Instr) (f : Frame) (s : Configuration) (top rest : List Frame) (g : Common) (c : Connection) → c.stack ≡ f ∷ rest → InRange s → LooseOf OfNamed top → BytesInRange c
    → BytesInRange (put_back i f s top rest (g, c)).1
unfolding put_back
put_back_range i f s top rest g c is left loose old = record {
  numbers = λ k n. elim (left_either f.of s.instance (touched_instance (touched_var (configuration g c f) i)) c.instances k) [
    | inl p ↦ subst (λ (x : Instance). x.numbers n ≤ 4294967295) (sym p.1) (left.numbers n)
    | inr p ↦ subst (λ (x : Instance). x.numbers n ≤ 4294967295) (sym p.1) (old.numbers k n)
  ];
  held =
      put_back_each OfNamed OfNamed i f s top rest g c is (touched_so OfNamed (configuration g c f) i (λ reached x e. e) (λ on x e. e))
      (record { brigades = left.brigades; loose = left.loose }) loose old.held;
  opened = left.files.opened;
}

called_range : (chain : List Program) (k : ℕ) (queue : List ℕ) (g : Common) (c : Connection) → BytesInRange c → BytesInRange (called chain k queue (g, c)).1
called_range chain k queue g c h = record { numbers = h.numbers; held = called_each OfNamed chain k queue g c h.held; opened = h.opened }

passed_to_range : (callee : Program) (to b : ℕ) (f : Frame) (rest : List Frame) (g : Common) (c : Connection) → c.stack ≡ f ∷ rest → BytesInRange c → BytesInRange (passed_to callee to b f rest (g, c)).1
unfolding passed_to configuration set_brigade
passed_to_range callee to b f rest g c is h =
    let held = passed_to_each OfNamed callee to b f rest g c is h.held in record {
      numbers = written_numbers _ to _ here (here to);
      held = record { brigades = held.brigades; loose = held.loose };
      opened = h.opened;
    } where
      here : Small (upd c.instances f.of (do_pass b (configuration g c f)).instance)
      here = written_numbers c.instances f.of (do_pass b (configuration g c f)).instance h.numbers (h.numbers f.of)

module _ (chain : List Program) (chained : IsChain chain) (g : Common) (c : Connection) (f : Frame) (rest : List Frame) (is : c.stack ≡ f ∷ rest)
    (i : Instr) (fit : fits (module_at chain f.of) i ≡ true) (buffer : BufferInRange f.call.buffer) (h : BytesInRange c) where
  left_range : (choice : Choice) → GivesBytes choice → InRange (step (module_at chain f.of) choice i (configuration g c f)).state
  left_range choice gives = step_in_range (module_at chain f.of) choice i (configuration g c f) (module_at_proper chain chained f.of) fit gives (seen_range g c f rest is buffer h)

  stepped_range : (choice : Choice) → GivesBytes choice → BytesInRange (stepped_in (module_at chain f.of) choice i f rest (g, c)).1
  unfolding stepped_in
  stepped_range choice gives =
      let o = step (module_at chain f.of) choice i (configuration g c f) in
      let left = left_range choice gives in
      put_back_range i f o.state (record f { call = o.state.call; pc = led_to o.exit i f.pc } ∷ []) rest g c is left (one_call OfNamed _ [] left.loose (no_calls OfNamed)) h

  delivered_range : (reads : Reads) (b : ℕ) → BytesInRange (delivered_by (module_at chain f.of) reads b i f rest (g, c)).1
  unfolding delivered_by
  delivered_range reads b =
      let left = stepped_range (record { answer = answer_to (delivered c.out (items_of ((c.instances f.of).brigades b)) reads).1; given = None }) (λ bytes e. absurd (cc)) in
      record { numbers = left.numbers; held = record { brigades = left.held.brigades; loose = left.held.loose }; opened = left.opened }

back_range : (chain : List Program) (chained : IsChain chain) (s : Status) (f : Frame) (rest : List Frame) (g : Common) (c : Connection)
    → c.stack ≡ f ∷ rest → fits (module_at chain f.of) (instr.Ret s) ≡ true → BufferInRange f.call.buffer → BytesInRange c
    → BytesInRange (put_back (instr.Ret s) f (do_return (configuration g c f)) [] rest (g, c)).1
back_range chain chained s f rest g c is fit buffer h =
    put_back_range (instr.Ret s) f (do_return (configuration g c f)) [] rest g c is
    (left_range chain chained g c f rest is (instr.Ret s) fit buffer h (record { answer = answer_to true; given = None }) (λ bytes e. absurd (cc))) (no_calls OfNamed) h

returned_to_range : (chain : List Program) (chained : IsChain chain) (s : Status) (f w : Frame) (rest : List Frame) (g : Common) (c : Connection)
    → c.stack ≡ f ∷ (w ∷ rest) → fits (module_at chain f.of) (instr.Ret s) ≡ true → BufferInRange f.call.buffer → BytesInRange c
    → BytesInRange (returned_to (module_at chain w.of) s f w rest (g, c)).1
unfolding returned_to put_back configuration
returned_to_range chain chained s f w rest g c is fit buffer h =
    let left = back_range chain chained s f (w ∷ rest) g c is fit buffer h in
    let there : All OfNamed (map (returned_bucket f.call.name) (items_of ((c.instances f.of).brigades 8))) =
    mapped_each OfNamed OfNamed (returned_bucket f.call.name) (λ x e. e) (items_of ((c.instances f.of).brigades 8)) (h.held.brigades f.of 8) in
    record {
      numbers = written_numbers _ w.of _ left.numbers (left.numbers w.of);
      held = record {
        brigades = given_each OfNamed (passed_by (current (module_at chain w.of) w.pc)) _ w.of _ left.held.brigades there;
        loose = one_call OfNamed _ (map (touched_frame (touched_bucket (configuration g c f) (instr.Ret s))) rest) (All-head (λ v. All OfNamed v.call.loose) _ _ left.held.loose)
            (All-tail (λ v. All OfNamed v.call.loose) _ _ left.held.loose);
      };
      opened = left.opened;
    }

-- the output is no bucket
out_range : (c : Connection) (out : Out) → BytesInRange c → BytesInRange (record c { out = out })
out_range c out h = record { numbers = h.numbers; held = record { brigades = h.held.brigades; loose = h.held.loose }; opened = h.opened }

proceeds_range : (chain : List Program) (chained : IsChain chain) (reads : Reads) → ((k : ℕ) (bytes : List ℕ) → reads k ≡ Some bytes → AreBytes bytes)
    → (i : Instr) (f : Frame) (rest : List Frame) (g : Common) (c : Connection)
    → c.stack ≡ f ∷ rest → fits (module_at chain f.of) i ≡ true → BufferInRange f.call.buffer → BytesInRange c → BytesInRange (proceeds chain reads i f rest (g, c)).1.1
unfolding proceeds returned_from
proceeds_range chain chained reads gives (instr.Pass b l) f rest g c is fit buffer h = by_last (is_last chain c f.of) where
  by_last : (t : Bool) → BytesInRange (cond t (delivered_by (module_at chain f.of) reads b (instr.Pass b l) f rest (g, c)) (passed_to (module_at chain (next_place chain c f.of)) (next_place chain c f.of) b f rest (g, c))).1
  by_last true = delivered_range chain chained g c f rest is (instr.Pass b l) fit buffer h reads b
  by_last false = passed_to_range (module_at chain (next_place chain c f.of)) (next_place chain c f.of) b f rest g c is h
proceeds_range chain chained reads gives (instr.Ret s) f [] g c is fit buffer h = out_range (next_called chain s c.queue back).1.1 _ (by_queue c.queue) where
  back : Linked
  back = put_back (instr.Ret s) f (do_return (configuration g c f)) [] [] (g, c)

  by_queue : (queue : List ℕ) → BytesInRange (next_called chain s queue back).1.1
  by_queue [] = back_range chain chained s f [] g c is fit buffer h
  by_queue (k ∷ ks) = called_range chain k ks back.0 back.1 (back_range chain chained s f [] g c is fit buffer h)
proceeds_range chain chained reads gives (instr.Ret s) f (w ∷ rest) g c is fit buffer h = out_range (returned_to (module_at chain w.of) s f w rest (g, c)).1 _ (returned_to_range chain chained s f w rest g c is fit buffer h)
proceeds_range chain chained reads gives i f rest g c is fit buffer h = stepped_range chain chained g c f rest is i fit buffer h _ (λ bytes e. gives 0 bytes e)

-- Events.

module _ (chain : List Program) (g : Common) (c : Connection) (buffers : BuffersInRange c) (h : BytesInRange c) where
  abbrev Left : Linked → Type 0
  Left v = BytesInRange v.1

  begins_range : (memory : Bool) → BytesInRange (begins memory chain (g, c)).1.1
  unfolding begins begun all_called
  begins_range memory = unless_so Left _ (g, c) (begun chain (g, c)) h (λ none. record { numbers = h.numbers; held = begun_each OfNamed chain g c h.held; opened = h.opened })

  brought_range : (pieces : List Piece) (req : Option ℕ) → All IsOfBytes pieces → BytesInRange (brought chain pieces req (g, c)).1
  brought_range pieces None all = h
  brought_range pieces (Some req) all = record {
    numbers = written_numbers c.instances (place_from chain c.instances 0) _ h.numbers (h.numbers (place_from chain c.instances 0));
    held = brought_in_each OfNamed chain pieces req g c (named_bytes g.next req (g.next + 2) pieces all) h.held;
    opened = h.opened;
  }

  brings_range : (memory : Bool) (pieces : List Piece) → All IsOfBytes pieces → BytesInRange (brings memory chain pieces (g, c)).1.1
  unfolding brings
  brings_range memory pieces all = unless_so Left _ (g, c) (brought chain pieces c.req (g, c)) h (λ none. brought_range pieces c.req all)

  taken_range : (req file : ℕ) (bytes : List ℕ) → AreBytes bytes → Left (file_taken req file bytes (g, c))
  taken_range req new bytes are = record {
    numbers = h.numbers;
    held = record { brigades = h.held.brigades; loose = h.held.loose };
    opened = λ file found is. elim (upd_either c.opened new file (Some bytes)) [
      | inl at ↦ subst AreBytes (same_bytes bytes found (sym at.1 ∙ is)) are
      | inr off ↦ h.opened file found (sym off.1 ∙ is)
    ];
  } where
    same_bytes : (a b : List ℕ) → Some a ≡ Some b → a ≡ b
    same_bytes a b e = cc

  ended_range : (req : Option ℕ) → BytesInRange (ended req (g, c)).1
  unfolding configuration
  ended_range None = h
  ended_range (Some req) = record {
    numbers = h.numbers;
    held = record { brigades = λ k b. cleared_each OfNamed OfNamed (is_under (pools_of g c) req) (λ x e. e) ((c.instances k).brigades b) (h.held.brigades k b); loose = h.held.loose };
    opened =
        (emptied_files (destroyed req (pools_of g c)) req (configuration g c (record { of = 0; call = fresh_call 0; pc = 0 }))
        (record { named = λ name bytes e. absurd (cc); opened = h.opened })).opened;
  }

  ends_range : (memory : Bool) → BytesInRange (ends memory (g, c)).1.1
  unfolding ends
  ends_range memory = unless_so Left _ (g, c) (ended c.req (g, c)) h (λ none. ended_range c.req)

  steps_range : IsChain chain → (memory : Bool) (budget : ℕ) (reads : Reads) → ((k : ℕ) (bytes : List ℕ) → reads k ≡ Some bytes → AreBytes bytes)
      → BytesInRange (steps memory budget chain reads (g, c)).1.1
  steps_range chained memory budget reads gives = steps_so (λ v. BytesInRange v.1) memory budget chain reads g c h
      (λ k. record { numbers = h.numbers; held = record { brigades = h.held.brigades; loose = h.held.loose }; opened = h.opened })
      (λ f rest few ready. (let left = proceeds_range chain chained reads gives (current (module_at chain f.of) f.pc) f rest g c ready.on_top
      (current_fits (module_at chain f.of) (module_at_proper chain chained f.of) f.pc)
      (All-head (λ w. BufferInRange w.call.buffer) f rest (subst (λ (fs : List Frame). All (λ w. BufferInRange w.call.buffer) fs) ready.on_top buffers)) h in
      record { numbers = left.numbers; held = record { brigades = left.held.brigades; loose = left.held.loose }; opened = left.opened }))

opened_range : (chain : List Program) (g : Common) → BytesInRange (opened chain g).1
unfolding opened all_called
opened_range chain g = record { numbers = λ k n. omega arith; held = opened_each OfNamed chain g; opened = λ file bytes is. absurd (cc) }

bytes_range : (memory : Bool) (budget : ℕ) (chain : List Program) (told : Told) (g : Common) (c : Connection) (e : Event) (v : Linked) → IsChain chain
    → Made memory budget chain told g c e v → BringsBytes e → TellsBytes told
    → BuffersInRange c → BytesInRange c → BytesInRange v.1
unfolding opens_file
bytes_range memory budget chain told g c e v chained (OnOpening name) brings tells buffers h =
    answer_so (λ v. BytesInRange v.1) _ c.req told.opening (g, c) h (λ n skipped bytes is. taken_range chain g c buffers h n (g.file + skipped) bytes (tells.opening skipped bytes is))
bytes_range memory budget chain told g c e v chained OnBegin brings tells buffers h = begins_range chain g c buffers h memory
bytes_range memory budget chain told g c e v chained (OnBring pieces) brings tells buffers h = brings_range chain g c buffers h memory pieces brings
bytes_range memory budget chain told g c e v chained OnStep brings tells buffers h = steps_range chain g c buffers h chained memory budget told.reads tells.reads
bytes_range memory budget chain told g c e v chained OnEnd brings tells buffers h = ends_range chain g c buffers h memory
bytes_range memory budget chain told g c e v chained OnTake brings tells buffers h =
    record { numbers = h.numbers; held = record { brigades = h.held.brigades; loose = h.held.loose }; opened = h.opened }

made_range : (memory : Bool) (budget : ℕ) (chain : List Program) (told : Told) (g : Common) (c : Connection) (e : Event) (v : Linked) → IsChain chain → Made memory budget chain told g c e v
    → BringsBytes e → TellsBytes told
    → ChainInRange c → ChainInRange v.1
made_range memory budget chain told g c e v chained made brings tells h =
    let bytes = bytes_range memory budget chain told g c e v chained made brings tells h.buffers (record { numbers = h.numbers; held = h.held; opened = h.opened }) in
    record { numbers = bytes.numbers; buffers = made_buffers memory budget chain told g c e v made h.buffers; held = bytes.held; opened = bytes.opened }

abbrev RangeIn : Common → Connection → Type 0
RangeIn g c = ChainInRange c

pub event_in_range : EventKeepsWorldInRange
event_in_range memory budget chain told k e w chained brings tells h = event_each RangeIn memory budget chain told w h k e (record {
  made = λ j c v at made. made_range memory budget chain told w.common c e v chained made brings tells (h j c at);
  opening = (let bytes = opened_range chain w.common in record { numbers = bytes.numbers; buffers = opened_buffers chain w.common; held = bytes.held; opened = bytes.opened });
  beside = λ c v made x there. there;
  unopened = λ x there. there;
})

from_world : (budget : ℕ) (chain : List Program) (es : List (ℕ × Event)) (answers : List Answer) (old new : World) → IsChain chain → IsRunOfBytes budget chain old es answers new → WorldInRange old
    → WorldInRange new
unfolding IsRunOfBytes
from_world budget chain [] [] old new chained run h = subst WorldInRange (sym run) h
from_world budget chain [] (a ∷ answers) old new chained run h = absurd run
from_world budget chain (e ∷ es) [] old new chained run h = absurd run
from_world budget chain (e ∷ es) (a ∷ answers) old new chained run h =
    from_world budget chain es answers run.2 new chained run.6
    (subst WorldInRange (ap (λ (x : Answer × World). x.1) run.5) (event_in_range run.0 budget chain run.1 e.0 e.1 old chained run.3 run.4 h))

pub run_of_bytes : RunsOfBytesAreRuns
unfolding IsRunOfBytes IsRun
run_of_bytes budget chain [] [] old new run = run
run_of_bytes budget chain [] (a ∷ answers) old new run = absurd run
run_of_bytes budget chain (e ∷ es) [] old new run = absurd run
run_of_bytes budget chain (e ∷ es) (a ∷ answers) old new run = (run.0, run.1, run.2, run.5, run_of_bytes budget chain es answers run.2 new run.6)

pub run_in_range : RunIsInRangeWorld
run_in_range first budget chain es answers w chained run = from_world budget chain es answers (new_world first) w chained run (λ k c e. absurd (cc))
