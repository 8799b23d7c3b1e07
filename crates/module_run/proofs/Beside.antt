-- Faults do not depend on labels, files and output.
use Rattle.std.proofs.Common.{◌≡◌, ℕ, List, [], ◌∷◌, refl, ap₂}
use Rattle.module_code.specs.Program.{Program}
use Rattle.module_code.specs.declared.instr.Instr.{Instr}
use Rattle.run_model.specs.Cursors.{place_of_cursor, holder_of, variable_of}
use Rattle.run_model.specs.Faults.{Want, fault, fault_want, first_fault, or_else, wants, has_pool_at, cursor_fault, is_stray, keeps_stray}
use Rattle.run_model.specs.Files.{Files}
use Rattle.run_model.specs.State.{Configuration, Out, named_at, is_own_at}

-- with other labels, files and output
abbrev pub beside : List (List ℕ) → Files → Out → Configuration → Configuration
beside labels files out r = record r { shared = record r.shared { labels = labels; files = files }; out = out }

want_beside : (labels : List (List ℕ)) (files : Files) (out : Out) (r : Configuration) (w : Want) → fault_want (beside labels files out r) w ≡ fault_want r w
unfolding has_pool_at named_at cursor_fault place_of_cursor holder_of variable_of keeps_stray is_stray is_own_at
want_beside labels files out r w = refl

first_beside : (labels : List (List ℕ)) (files : Files) (out : Out) (r : Configuration) (ws : List Want) → first_fault (beside labels files out r) ws ≡ first_fault r ws
first_beside labels files out r [] = refl
first_beside labels files out r (w ∷ ws) = ap₂ or_else (want_beside labels files out r w) (first_beside labels files out r ws)

pub fault_beside : (labels : List (List ℕ)) (files : Files) (out : Out) (p : Program) (r : Configuration) (i : Instr) → fault p (beside labels files out r) i ≡ fault p r i
fault_beside labels files out p r i = first_beside labels files out r (wants p i)
