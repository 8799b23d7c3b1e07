-- Where no call of its files is to fail, no event of a host changes that, and none is told that they failed.
use Rattle.std.proofs.Common.{◌≡◌, ◌≢◌, ℕ, zero, suc, Bool, true, List, Option, Some, None, Result, Ok, Err, inl, inr, refl, sym, ap, subst, ◌∙◌}
use Rattle.std.proofs.lemmas.Bool.{false≢true}
use Rattle.module_code.specs.Program.{Program}
use Rattle.run_model.specs.declared.event.Event.{Event}
use Rattle.run_model.specs.declared.event.Event.TheVariants as event
use Rattle.run_model.specs.declared.event.Refusal.{Refusal}
use Rattle.run_model.specs.declared.event.Refusal.TheVariants as refusal
use Rattle.run_model.specs.declared.event.Stepped.{Stepped}
use Rattle.run_model.specs.declared.event.Stepped.TheVariants as stepped
use Rattle.run_model.specs.Chains.{Connection, Linked}
use Rattle.run_model.specs.Passing.{Reads}
use Rattle.model_laws.specs.RefusalOrder.{fails_to_open}
use Rattle.run_model.specs.Turns.{Opening, Found, Missing, Failing, is_failing, steps}
use Rattle.run_model.specs.Worlds.{World, Answer, Done, Refused, Step, Told, happens_on, step_answered}
use Rattle.model_laws.proofs.RefusalOrder.{first_is_told}
use Rattle.model_laws.proofs.Refusals.{refused_step_breaks}
use Rattle.bucket_kinds.specs.Device.{Device, MayFail, Sound}
use Rattle.module_run.specs.OpenedFile.{MayTell}
use Rattle.filter_chain.specs.Running.{HostGoesOn}
use Rattle.module_run.proofs.FileOpens.{keeps_files}
use Rattle.filter_chain.specs.HostViews.{HostView, Answers, ClosesFiles, HasAdded, TellsEvent, StepTellsReads, refusal_in}
use Rattle.filter_chain.proofs.FilesSpared.{step_spares}

-- It stays as it is.

same_kind : (d e : Device) → e ≡ d → d.plan ≡ Sound → e.plan ≡ Sound
same_kind d e is sound = ap (λ (x : Device). x.plan) is ∙ sound

added_kind : (name bytes : List ℕ) (d e : Device) (answer : Answer) → HasAdded name bytes d answer e → d.plan ≡ Sound → e.plan ≡ Sound
added_kind name bytes d e Done (free, is) sound = ap (λ (x : Device). x.plan) is ∙ sound
added_kind name bytes d e answer is sound = same_kind d e is sound

reads_kind : (chain : List Program) (s : HostView) (c : Option Connection) (answer : Answer) (reads : Reads) (e : Device) → StepTellsReads chain s c answer reads e → s.device.plan ≡ Sound
    → e.plan ≡ Sound
reads_kind chain s None answer reads e is = same_kind s.device e is
reads_kind chain s (Some c) (Step t) reads e told = (step_spares s.device e chain (Ok t) (s.world.common, c) reads told).sound
reads_kind chain s (Some c) (Refused r) reads e told = (step_spares s.device e chain (Err r) (s.world.common, c) reads told).sound
reads_kind chain s (Some c) answer reads e is = same_kind s.device e is

tells_kind : (chain : List Program) (k : ℕ) (what : Event) (s : HostView) (answer : Answer) (told : Told) (e : Device) → TellsEvent chain k what s answer told e → s.device.plan ≡ Sound
    → e.plan ≡ Sound
unfolding TellsEvent
tells_kind chain k (event.AddFile name bytes) s answer told e tells sound = added_kind name bytes s.device e answer tells sound
tells_kind chain k (event.OpenFile name) s answer told e tells sound = (keeps_files name s.device e (refusal_in answer) tells.1).sound sound
tells_kind chain k event.Step s answer told e tells sound = reads_kind chain s (s.world.conns k) answer told.reads e tells sound
tells_kind chain k event.End s answer told e tells sound = tells.1 ∙ sound
tells_kind chain k event.Close s answer told e tells sound = tells.1 ∙ sound
tells_kind chain k what s answer told e tells sound = same_kind s.device e tells sound

module _ (budget : ℕ) (chain : List Program) (number : ℕ) where
  pub acts_kind : (what : Event) (old new : HostView) (answer : Answer) → Answers budget chain number what old answer new → old.device.plan ≡ Sound → new.device.plan ≡ Sound
  acts_kind what old new answer acts = tells_kind chain number what old answer acts.told new.device acts.tells

  pub goes_kind : (n : ℕ) (old new : HostView) → HostGoesOn budget chain number n old new → old.device.plan ≡ Sound → new.device.plan ≡ Sound
  unfolding HostGoesOn
  goes_kind zero old new same sound = ap (λ (s : HostView). s.device.plan) same ∙ sound
  goes_kind (suc n) old new (mid, acts, rest) sound = goes_kind n mid new rest (acts_kind event.Step old mid (Step stepped.Went) acts sound)

-- A step tells no failure of a device.
module _ (memory : Bool) (budget : ℕ) (chain : List Program) (told : Told) (k : ℕ) (w to : World) where
  by_result : (c : Connection) (x : Result Stepped Refusal × Linked) → steps memory budget chain told.reads (w.common, c) ≡ x → step_answered k w x ≡ (Refused refusal.FileFailed, to) → ⊥
  by_result c (Ok s, v) from is = (let never : Step s ≡ Refused refusal.FileFailed = ap (λ (a : Answer × World). a.0) is in cc)
  by_result c (Err r, v) from is =
      let answered : Refused r ≡ Refused refusal.FileFailed = ap (λ (a : Answer × World). a.0) is in
      let failed : r ≡ refusal.FileFailed = cc in
      elim (refused_step_breaks memory budget chain told.reads (w.common, c) v r from) [
        | inl idle ↦ (let never : refusal.Idle ≡ refusal.FileFailed = sym idle.0 ∙ failed in cc)
        | inr broken ↦ (let never : refusal.Broken broken.0 ≡ refusal.FileFailed = sym broken.1.0 ∙ failed in cc)
      ]

  step_unfailing : (c : Option Connection) → happens_on memory budget chain told event.Step k c w ≡ (Refused refusal.FileFailed, to) → ⊥
  unfolding happens_on
  step_unfailing None is = (let never : Refused refusal.NoSuchConn ≡ Refused refusal.FileFailed = ap (λ (a : Answer × World). a.0) is in cc)
  step_unfailing (Some c) is = by_result c (steps memory budget chain told.reads (w.common, c)) refl is

-- An opening that is told to fail is one that may.
by_opening : (next : ℕ) (d : Device) (name : List ℕ) (o : Opening) → is_failing o ≡ true → MayTell next d name o → MayFail d.plan
by_opening next d name (Found skipped bytes) fails tells = absurd (false≢true fails)
by_opening next d name Missing fails tells = absurd (false≢true fails)
by_opening next d name Failing fails tells = tells

by_event : (chain : List Program) (k : ℕ) (what : Event) (s : HostView) (answer : Answer) (told : Told) (e : Device) → fails_to_open what told ≡ true → TellsEvent chain k what s answer told e
    → MayFail s.device.plan
unfolding TellsEvent
by_event chain k (event.OpenFile name) s answer told e fails tells = by_opening s.world.common.file s.device name told.opening fails tells.0
by_event chain k what s answer told e fails tells = absurd (false≢true fails)

module _ (budget : ℕ) (chain : List Program) (number : ℕ) (old new : HostView) (sound : old.device.plan ≡ Sound) where
  other : (what : Event) → what ≢ event.Step → Answers budget chain number what old (Refused refusal.FileFailed) new → ⊥
  other what apart acts =
      let first = (first_is_told acts.memory budget chain acts.told number what old.world refusal.FileFailed apart).0 (ap (λ (a : Answer × World). a.0) acts.is) in
      subst MayFail sound (by_event chain number what old (Refused refusal.FileFailed) acts.told new.device first.holds acts.tells)

  failed_never : (what : Event) → Answers budget chain number what old (Refused refusal.FileFailed) new → ⊥
  failed_never event.Step acts = step_unfailing acts.memory budget chain acts.told number old.world new.world (old.world.conns number) acts.is
  failed_never what acts = other what (λ q. cc) acts

  -- No event answers that the device failed.
  pub acts_unfailing : (what : Event) (answer : Answer) → Answers budget chain number what old answer new → answer ≢ Refused refusal.FileFailed
  acts_unfailing what answer acts is =
      failed_never what (record { memory = acts.memory; told = acts.told; is = acts.is ∙ ap (λ (a : Answer). (a, new.world)) is; tells = tells; closes = closes }) where
        tells : TellsEvent chain number what old (Refused refusal.FileFailed) acts.told new.device
        tells = subst (λ (a : Answer). TellsEvent chain number what old a acts.told new.device) is acts.tells

        closes : ClosesFiles old.device new.device chain what (Refused refusal.FileFailed) old.world.common (old.world.conns number) new.world.common (new.world.conns number)
        closes = subst (λ (a : Answer). ClosesFiles old.device new.device chain what a old.world.common (old.world.conns number) new.world.common (new.world.conns number)) is acts.closes
