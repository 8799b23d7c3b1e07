-- What stands under the numbers of open files, after a file is opened or closed.
use Rattle.std.proofs.Common.{◌≡◌, ℕ, ◌+◌, ◌<◌, Bool, true, false, ◌==◌, cond, List, Option, Some, None, IsSome, refl, ◌∙◌, ap, arith}
use Rattle.std.proofs.Math.Path.{fun_ext}
use Rattle.std.specs.Prelude.{nat_eq}
use Rattle.std.specs.HashMap.{HashMap, get}
use Rattle.run_model.specs.Indexed.{upd}
use Rattle.bucket_kinds.specs.Device.{Device, Held, Missing, Untold, Holds, is_there, opened}
use Rattle.bucket_kinds.specs.Answers.{MayHave}
use Rattle.run_model.proofs.Updates.{upd_at}

abbrev pub renumbered : Device → (ℕ → Held) → Device
renumbered d f = record d { numbered = f }

abbrev pub numbered_on : Device → (ℕ → Held) → Device
numbered_on d f = record d { numbered = f; next = d.next + 1 }

held_choice : {V X : Type 0} (held : Option V → X) (b : Bool) (x y : Option V) → held (cond b x y) ≡ cond b (held x) (held y)
held_choice held true x y = refl
held_choice held false x y = refl

-- What stands under one number is changed.
pub numbered_after : {V X S : Type 0} (held : Option V → X) (old new : HashMap ℕ V S) (k : ℕ) (w : Option V)
    → ((n : ℕ) → get nat_eq new n ≡ cond (n == k) w (get nat_eq old n))
    → (λ n. held (get nat_eq new n)) ≡ upd (λ n. held (get nat_eq old n)) k (held w)
unfolding upd
numbered_after held old new k w h =
    fun_ext (λ n. ap held (h n) ∙ held_choice held (n == k) w (get nat_eq old n))

nothing_held : {V X : Type 0} (held : Option V → X) (o : Option V) → (IsSome o → ⊥) → held o ≡ held None
nothing_held held None h = refl
nothing_held held (Some b) h = absurd (h refl)

-- The next number is free.
pub next_is_free : {V X S : Type 0} (held : Option V → X) (opened : HashMap ℕ V S) (next : ℕ)
    → ((n : ℕ) → IsSome (get nat_eq opened n) → n < next) → held (get nat_eq opened next) ≡ held None
next_is_free held opened next given =
    nothing_held held (get nat_eq opened next) (λ some. omega (arith, given next some))

there : (h : Held) (len : ℕ) → MayHave len h → is_there h ≡ true
there Missing len has = absurd has
there Untold len has = refl
there (Holds bytes) len has = refl

-- A file that was opened is open.
pub open_after : (d e : Device) (name : List ℕ) (len : ℕ) → MayHave len (d.named name) → e ≡ opened name d
    → is_there (e.numbered d.next) ≡ true
open_after d e name len has after =
    ap (λ f. is_there (f.numbered d.next)) after
    ∙ (ap is_there (upd_at d.numbered d.next (d.named name)) ∙ there (d.named name) len has)
