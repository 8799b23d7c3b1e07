-- What others leave as it was for an instance: moves that change nothing of what it holds.
use Rattle.std.proofs.Common.{◌≡◌, ℕ, ◌^◌, ◌<◌, ◌≤◌, List, map, inl, refl, sym, ◌∙◌, ap}
use Rattle.std.proofs.lemmas.List.{map-id}
use Rattle.std.proofs.Math.Path.{fun_ext}
use Rattle.module_code.specs.Program.{Program}
use Rattle.run_model.specs.declared.bucket.BrigadeVar.{BrigadeVar}
use Rattle.run_model.specs.declared.bucket.BrigadeVar.TheVariants as var
use Rattle.run_model.specs.declared.bucket.Kind.{Kind}
use Rattle.run_model.specs.declared.bucket.Kind.TheVariants as kind
use Rattle.run_model.specs.declared.bucket.NamedBucket.{NamedBucket}
use Rattle.run_model.specs.Chains.{touched_instance}
use Rattle.run_model.specs.State.{Configuration, Instance, Call}
use Rattle.model_laws.specs.OpenRuns.{Phase, Runs, Lasting, Others, Elsewhere, Done, IsLeftAlone, MayTurn, Becomes, LeaveShared, changed_var, gone_on, gone_elsewhere, IsMove}
use Rattle.model_laws.proofs.seen.Reach.{ReachedAlone, go}

abbrev pub same_bucket : NamedBucket → NamedBucket
same_bucket x = x

same_var : (v : BrigadeVar) → changed_var same_bucket v ≡ v
same_var var.Null = refl
same_var var.Gone = refl
same_var (var.Live v) = ap (λ (items : List NamedBucket). var.Live (record v { items = items })) (map-id v.items)

pub same_instance : (i : Instance) → touched_instance (changed_var same_bucket) i ≡ i
same_instance i = ap (λ (bs : ℕ → BrigadeVar). record i { brigades = bs }) (fun_ext (λ b. same_var (i.brigades b)))

same_call : (c : Call) → record c { loose = map same_bucket c.loose } ≡ c
same_call c = ap (λ (items : List NamedBucket). record c { loose = items }) (map-id c.loose)

pub same_turn : (r : Configuration) (k : Kind) → MayTurn r k k
same_turn r kind.Heap = refl
same_turn r kind.Transient = refl
same_turn r kind.Immortal = refl
same_turn r (kind.Pool n) = inl refl
same_turn r kind.File = refl
same_turn r kind.Flush = refl
same_turn r kind.Eos = refl

pub becomes_same : (l : Lasting) (r : Configuration) (x : NamedBucket) → Becomes l r x x
becomes_same l r x = record { name = refl; content = refl; kind = same_turn r x.bucket.kind; home = inl refl }

-- the parts of a configuration
abbrev pub made_of_parts : Configuration → Instance → Call → ℕ → Configuration
made_of_parts new i c pc = record new { instance = i; call = c; pc = pc }

-- Others leave what is shared so, where they may.
pub settle : (p : Program) (phase : Phase) (l : Lasting) (r new : Configuration) → IsLeftAlone phase → new.instance ≡ r.instance → new.call ≡ r.call → new.pc ≡ r.pc → LeaveShared l r new.shared
    → ReachedAlone p (record { phase = phase; lasting = l; now = r }) → ReachedAlone p (record { phase = phase; lasting = l; now = new })
unfolding IsMove
settle p phase l r new alone instance call pc left h =
    go p (record { phase = phase; lasting = l; now = r }) (record { phase = phase; lasting = l; now = new }) Others Done h (
      refl,
      record {
        phase = alone;
        change = same_bucket;
        becomes = becomes_same l r;
        shared = new.shared;
        left = left;
        out = new.out;
        is = ap (λ (x : Configuration). record { phase = phase; lasting = l; now = x }) is;
      },
    ) where
      is : new ≡ gone_on same_bucket new.shared new.out r
      is =
          ap (λ (i : Instance). made_of_parts new i new.call new.pc) (instance ∙ sym (same_instance r.instance))
          ∙ (ap (λ (c : Call). made_of_parts new (touched_instance (changed_var same_bucket) r.instance) c new.pc) (call ∙ sym (same_call r.call))
          ∙ ap (λ (n : ℕ). made_of_parts new (touched_instance (changed_var same_bucket) r.instance) (record r.call { loose = map same_bucket r.call.loose }) n) pc)

-- The same while a call runs, where pools stay, but for their next name.
pub settle_running : (p : Program) (l : Lasting) (r new : Configuration) → new ≡ gone_elsewhere new.shared.next new.shared.pools.next new.shared.files new.out r
    → (r.shared.next ≤ new.shared.next) × (r.shared.pools.next ≤ new.shared.pools.next) → (new.shared.next < 2 ^ 64) × (new.shared.pools.next < 2 ^ 64)
    → ReachedAlone p (record { phase = Runs; lasting = l; now = r }) → ReachedAlone p (record { phase = Runs; lasting = l; now = new })
unfolding IsMove
settle_running p l r new is rises limits h =
    go p (record { phase = Runs; lasting = l; now = r }) (record { phase = Runs; lasting = l; now = new }) Elsewhere Done h (
      refl,
      record {
        phase = refl;
        next = new.shared.next;
        pools = new.shared.pools.next;
        files = new.shared.files;
        out = new.out;
        rises = rises;
        limits = limits;
        is = ap (λ (x : Configuration). record { phase = Runs; lasting = l; now = x }) is;
      },
    )
