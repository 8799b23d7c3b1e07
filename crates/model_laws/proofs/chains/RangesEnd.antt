-- Ranges end below 2^64 in each connection with a chain, where opened files are shorter than that.
use Rattle.std.proofs.Common.{◌≡◌, ℕ, ◌+◌, Bool, List, [], ◌∷◌, length, sym, subst}
use Rattle.std.proofs.lemmas.List.Elements.{All-nil, All-cons, All-append}
use Rattle.module_code.specs.declared.instr.Instr.{Instr}
use Rattle.module_code.specs.declared.instr.Instr.TheVariants as instr
use Rattle.module_code.specs.Program.{Program}
use Rattle.run_model.specs.declared.bucket.NamedBucket.{NamedBucket}
use Rattle.run_model.specs.declared.event.Event.{Event}
use Rattle.run_model.specs.declared.payload.Payload.{Payload}
use Rattle.run_model.specs.Pools.{Pools}
use Rattle.run_model.specs.Cutting.{EndsInFile}
use Rattle.run_model.specs.State.{Configuration}
use Rattle.model_laws.specs.RangesEnd.{LengthsEnd}
use Rattle.run_model.specs.Steps.{current}
use Rattle.run_model.specs.Chains.{Frame, Connection, Common, Linked, module_at, configuration, touched_bucket}
use Rattle.run_model.specs.Passing.{Reads, proceeds}
use Rattle.run_model.specs.Turns.{all_called, opened, begun}
use Rattle.run_model.specs.Worlds.{Told}
use Rattle.model_laws.specs.ChainFiles.{OfEachBucket, IsShortLength, BucketsEnd, ConnectionStepKeepsEnds, BringKeepsEnds, ChainEnds, EventKeepsBucketsEnd, EventKeepsWorldEnds, RunEndsWorld}
use Rattle.model_laws.proofs.RangesEnd.{pieces_end, told_end, step_ends}
use Rattle.model_laws.proofs.chains.EachBucket.{Steps, seen_each, proceeds_each}
use Rattle.model_laws.proofs.chains.EachEvent.{opened_each, begun_each, brought_in_each, request_over_each}
use Rattle.model_laws.proofs.chains.EventCases.{Made, OnOpening, OnBegin, OnBring, OnStep, OnEnd, OnTake}
use Rattle.model_laws.proofs.chains.EachConnection.{opening_turn, event_each}
use Rattle.model_laws.proofs.chains.StepCases.{steps_so}
use Rattle.model_laws.proofs.chains.EventTurns.{EventTurn, Drained, Stood, Went, Begun, Brought, FileTaken, Ended, begins_turn, brings_turn, ends_turn}
use Rattle.model_laws.proofs.chains.Proceeds.{proceeds_files}
use Rattle.model_laws.proofs.chains.WorldKept.{AnyLength, TurnsKeep, event_kept, whole_run_kept}

abbrev Ends : Pools Payload → NamedBucket → Type 0
Ends ps x = EndsInFile x.bucket.content

touched_ends : (r : Configuration) (i : Instr) (x : NamedBucket) → EndsInFile x.bucket.content → EndsInFile (touched_bucket r i x).bucket.content
touched_ends r (instr.PClear q) x h = h
touched_ends r (instr.PDestroy q) x h = h
touched_ends r (instr.Ret s) x h = h
touched_ends r i x h = h

steps_end : (chain : List Program) (g : Common) (c : Connection) (f : Frame) (rest : List Frame) (i : Instr) → c.stack ≡ f ∷ rest → OfEachBucket (λ x. EndsInFile x.bucket.content) c
    → Steps Ends Ends chain g c f i
steps_end chain g c f rest i is h = record {
  held = λ choice.
      let seen = seen_each (λ x. EndsInFile x.bucket.content) g c f rest is h in
      let left = step_ends (module_at chain f.of) choice i (configuration g c f) (record { brigades = seen.brigades; loose = seen.loose }) in
      record { brigades = left.brigades; loose = left.loose };
  touched = λ choice x e. touched_ends (configuration g c f) i x e;
}

abbrev EndsIn : Common → Connection → Type 0
EndsIn g c = ChainEnds c

proceeds_end : (chain : List Program) (reads : Reads) (f : Frame) (rest : List Frame) (i : Instr) (g : Common) (c : Connection) → c.stack ≡ f ∷ rest → BucketsEnd c
    → BucketsEnd (proceeds chain reads i f rest (g, c)).1.1
proceeds_end chain reads f rest i g c is h = proceeds_each Ends Ends chain g c f reads i rest is (steps_end chain g c f rest i is h) h

pub connection_step_ends : ConnectionStepKeepsEnds
connection_step_ends memory budget chain reads g c h = steps_so (λ v. BucketsEnd v.1) memory budget chain reads g c h (λ k. record { brigades = h.brigades; loose = h.loose })
    (λ f rest few ready. (let left = proceeds_end chain reads f rest (current (module_at chain f.of) f.pc) g c ready.on_top h in record { brigades = left.brigades; loose = left.loose }))

pub bring_ends : BringKeepsEnds
bring_ends chain pieces req g c all h = brought_in_each (λ x. EndsInFile x.bucket.content) chain pieces req g c (pieces_end g.next req (g.next + 2) pieces all) h

opened_ends : (chain : List Program) (g : Common) → BucketsEnd (opened chain g).1
opened_ends chain g = opened_each (λ x. EndsInFile x.bucket.content) chain g

no_lengths : (chain : List Program) (g : Common) → LengthsEnd (opened chain g).1.files
unfolding opened all_called
no_lengths chain g = All-nil (λ f. IsShortLength f.1)

turn_ends : (chain : List Program) (Lengths : ℕ → Type 0) (g : Common) (c : Connection) (v : Linked) → EventTurn chain Lengths g c v → ChainEnds c → BucketsEnd v.1
turn_ends chain Lengths g c v (Stood out broken still) h = record { brigades = h.ends.brigades; loose = h.ends.loose }
turn_ends chain Lengths g c v (Went reads f rest whole may) h =
    (let left = proceeds_end chain reads f rest (current (module_at chain f.of) f.pc) g c may.on_top h.ends in record { brigades = left.brigades; loose = left.loose })
turn_ends chain Lengths g c v (Begun whole idle none pools next) h = begun_each (λ x. EndsInFile x.bucket.content) chain g c h.ends
turn_ends chain Lengths g c v (Brought pieces req whole idle is there next late) h = bring_ends chain pieces req g c (told_end c.files pieces h.lengths there) h.ends
turn_ends chain Lengths g c v (FileTaken req file bytes whole idle is short newer last) h = record { brigades = h.ends.brigades; loose = h.ends.loose }
turn_ends chain Lengths g c v (Ended req whole idle is) h = request_over_each (λ x. EndsInFile x.bucket.content) (λ x. EndsInFile x.bucket.content) req g c idle (λ x e. e) h.ends

turn_lengths : (chain : List Program) (g : Common) (c : Connection) (v : Linked) → EventTurn chain IsShortLength g c v → LengthsEnd c.files → LengthsEnd v.1.files
unfolding begun all_called
turn_lengths chain g c v (Stood out broken still) h = h
turn_lengths chain g c v (Went reads f rest whole may) h = subst LengthsEnd (sym (proceeds_files chain reads (current (module_at chain f.of) f.pc) f rest g c)) h
turn_lengths chain g c v (Begun whole idle none pools next) h = h
turn_lengths chain g c v (Brought pieces req whole idle is there next late) h = h
turn_lengths chain g c v (FileTaken req file bytes whole idle is short newer last) h =
    All-append (λ f. IsShortLength f.1) c.files ((file, length bytes) ∷ []) h (All-cons (λ f. IsShortLength f.1) (file, length bytes) [] short (All-nil (λ f. IsShortLength f.1)))
turn_lengths chain g c v (Ended req whole idle is) h = All-nil (λ f. IsShortLength f.1)

abbrev EndIn : Common → Connection → Type 0
EndIn g c = BucketsEnd c

made_ends : (memory : Bool) (budget : ℕ) (chain : List Program) (told : Told) (g : Common) (c : Connection) (e : Event) (v : Linked) → Made memory budget chain told g c e v → ChainEnds c
    → BucketsEnd v.1
made_ends memory budget chain told g c e v (OnOpening name) h = turn_ends chain AnyLength g c v (opening_turn chain g c memory told.opening) h
made_ends memory budget chain told g c e v OnBegin h = turn_ends chain AnyLength g c v (begins_turn chain AnyLength g c memory) h
made_ends memory budget chain told g c e v (OnBring pieces) h = turn_ends chain AnyLength g c v (brings_turn chain AnyLength g c memory pieces) h
made_ends memory budget chain told g c e v OnStep h = connection_step_ends memory budget chain told.reads g c h.ends
made_ends memory budget chain told g c e v OnEnd h = turn_ends chain AnyLength g c v (ends_turn chain AnyLength g c memory) h
made_ends memory budget chain told g c e v OnTake h = turn_ends chain AnyLength g c v Drained h

pub event_buckets_end : EventKeepsBucketsEnd
event_buckets_end memory budget chain told k e w h = event_each EndIn memory budget chain told w (λ j c at. (h j c at).ends) k e (record {
  made = λ j c v at made. made_ends memory budget chain told w.common c e v made (h j c at);
  opening = opened_ends chain w.common;
  beside = λ c v made x there. there;
  unopened = λ x there. there;
})

ends_kept : (chain : List Program) → TurnsKeep chain IsShortLength EndsIn
ends_kept chain = record {
  rising = λ g new c rises s h. h;
  opening = λ g has s. record { ends = opened_ends chain g; lengths = no_lengths chain g };
  turns = λ g c v has t s new h. record { ends = turn_ends chain IsShortLength g c v t h; lengths = turn_lengths chain g c v t h.lengths };
}

pub event_keeps_ends : EventKeepsWorldEnds
event_keeps_ends memory budget chain told k e w chained s short h =
    (event_kept chain chained IsShortLength EndsIn (ends_kept chain) memory budget told k e w short (record { sound = s; kept = h })).kept

pub run_ends_world : RunEndsWorld
run_ends_world budget chain es answers w chained run short = (whole_run_kept chain chained IsShortLength EndsIn (ends_kept chain) budget es answers w run short).kept
