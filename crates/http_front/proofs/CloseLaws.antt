-- The close of a connection that was served by turns.
use Rattle.std.proofs.Common.{◌≡◌, ℕ, Bool, true, false, not, List, Option, Some, None, refl, sym, subst, ap, ◌∙◌, inl, inr}
use Rattle.module_code.specs.Program.{Program}
use Rattle.run_model.specs.declared.event.Event.TheVariants as event
use Rattle.run_model.specs.declared.event.Refusal.{Refusal}
use Rattle.run_model.specs.declared.event.Refusal.TheVariants as refusal
use Rattle.run_model.specs.Chains.{Connection}
use Rattle.run_model.specs.Worlds.{World, Told, Answer, Labels, Refused, closes, happens_on}
use Rattle.run_model.proofs.Updates.{upd_at}
use Rattle.bucket_kinds.specs.Device.{Device}
use Rattle.filter_chain.specs.declared.host.Host.{Host}
use Rattle.filter_chain.specs.Hosting.{Ghosts, Stored}
use Rattle.filter_chain.specs.HostViews.{Answers}
use Rattle.http_front.specs.Connecting.{ClosesTurns}
use Rattle.http_front.specs.Driven.{Refines}
use Rattle.filter_chain.proofs.Driving.{HappenedInAny, by_event, leads_as}

module _ (k : ℕ) (w v : World) where
  closed_none : (memory : Bool) (c : Connection) (labels : List (List ℕ)) → closes memory k c w ≡ (Labels labels, v) → v.conns k ≡ None
  closed_none true c labels is = sym (ap (λ (p : Answer × World). p.1.conns k) is) ∙ upd_at w.conns k None
  closed_none false c labels is = let told = ap (λ (p : Answer × World). p.0) is in absurd (cc)

  refused_so : (memory : Bool) (c : Connection) (why : Refusal) → closes memory k c w ≡ (Refused why, v) → why ≡ refusal.NoMemory
  refused_so true c why is = let told = ap (λ (p : Answer × World). p.0) is in absurd (cc)
  refused_so false c why is = let told = ap (λ (p : Answer × World). p.0) is in cc

  module _ (memory : Bool) (budget : ℕ) (chain : List Program) (told : Told) where
    labels_none : (at : Option Connection) (labels : List (List ℕ)) → happens_on memory budget chain told event.Close k at w ≡ (Labels labels, v) → v.conns k ≡ None
    unfolding happens_on
    labels_none (Some c) labels is = closed_none memory c labels is
    labels_none None labels is = let told = ap (λ (p : Answer × World). p.0) is in absurd (cc)

    -- it was refused, and not for lack of memory
    not_there : (at : Option Connection) (why : Refusal) → w.conns k ≡ at → ¬ (why ≡ refusal.NoMemory)
        → happens_on memory budget chain told event.Close k at w ≡ (Refused why, v) → (why ≡ refusal.NoSuchConn) × (v.conns k ≡ None)
    unfolding happens_on
    not_there (Some c) why at not is = absurd (not (refused_so memory c why is))
    not_there None why at not is =
        let answer : Refused refusal.NoSuchConn ≡ Refused why = ap (λ (p : Answer × World). p.0) is in
        let same : refusal.NoSuchConn ≡ why = cc in
        (sym same, sym (ap (λ (p : Answer × World). p.1.conns k) is) ∙ at)

module _ {F R : Type 0} {g : Ghosts R Stored} (device : F → Device) (number : ℕ) (old new : Host F R g) (result : Bool) where
  pub turns_closed : (labels : List (List ℕ)) → result ≡ true → HappenedInAny device old new number event.Close (Labels labels) → Refines device old new (λ b c s t. ClosesTurns b c number result s t)
  turns_closed labels is h =
      subst (λ (r : Bool). Refines device old new (λ b c s t. ClosesTurns b c number r s t)) (sym is)
      (leads_as device old new (λ b c s t. Answers b c number event.Close s (Labels labels) t) (λ b c s t. ClosesTurns b c number true s t)
      (λ b c s t a. (inl (labels, a), labels_none number s.world t.world a.memory b c a.told (s.world.conns number) labels a.is)) (by_event device old new number event.Close (Labels labels) h))

  pub turns_kept : (why : Refusal) → result ≡ false → why ≡ refusal.NoMemory → HappenedInAny device old new number event.Close (Refused why)
      → Refines device old new (λ b c s t. ClosesTurns b c number result s t)
  turns_kept why is lacks h =
      subst (λ (r : Bool). Refines device old new (λ b c s t. ClosesTurns b c number r s t)) (sym is)
      (leads_as device old new (λ b c s t. Answers b c number event.Close s (Refused why) t) (λ b c s t. ClosesTurns b c number false s t)
      (λ b c s t a. subst (λ (r : Refusal). Answers b c number event.Close s (Refused r) t) lacks a) (by_event device old new number event.Close (Refused why) h))

  pub turns_gone : (why : Refusal) → result ≡ true → ¬ (why ≡ refusal.NoMemory) → HappenedInAny device old new number event.Close (Refused why)
      → Refines device old new (λ b c s t. ClosesTurns b c number result s t)
  turns_gone why is not h =
      subst (λ (r : Bool). Refines device old new (λ b c s t. ClosesTurns b c number r s t)) (sym is)
      (leads_as device old new (λ b c s t. Answers b c number event.Close s (Refused why) t) (λ b c s t. ClosesTurns b c number true s t)
      (λ b c s t a. (let gone = not_there number s.world t.world a.memory b c a.told (s.world.conns number) why refl not a.is in
      (inr (subst (λ (r : Refusal). Answers b c number event.Close s (Refused r) t) gone.0 a), gone.1)))
      (by_event device old new number event.Close (Refused why) h))

  -- by whether memory was lacking
  pub turns_refused : (why : Refusal) (lacks : Bool) → result ≡ not lacks → ((lacks ≡ true → why ≡ refusal.NoMemory) × (why ≡ refusal.NoMemory → lacks ≡ true))
      → HappenedInAny device old new number event.Close (Refused why) → Refines device old new (λ b c s t. ClosesTurns b c number result s t)
  turns_refused why true is by h = turns_kept why is (by.0 refl) h
  turns_refused why false is by h = turns_gone why is (λ lacks. let clash : false ≡ true = by.1 lacks in absurd (cc)) h
