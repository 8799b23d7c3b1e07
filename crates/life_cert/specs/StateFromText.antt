-- How the text of a state is read: from its front, part by part, in the order in which they are written. Of any other text
-- something is read, too.
use Rattle.std.specs.Prelude.{ℕ, zero, suc, ◌+◌, ◌-◌, Bool, true, false, ◌&&◌, ◌==◌, if◌then◌else◌, List, [], ◌∷◌, ◌++◌, codes}
use Rattle.module_code.specs.declared.instr.PoolRef.{PoolRef}
use Rattle.module_code.specs.declared.instr.PoolRef.TheVariants as pool
use Rattle.life_state.specs.declared.parts.Classes.{Classes}
use Rattle.life_state.specs.declared.parts.Contents.{Contents}
use Rattle.life_state.specs.declared.parts.Contents.TheVariants.{Empty, Flushes, NoEos, NoLateData, Any}
use Rattle.life_state.specs.declared.parts.PoolState.{PoolState}
use Rattle.life_state.specs.States.{Homes, no_homes, BrigadeKnown, never_made, CursorKnown, Unset, Loose, In, End, InOrEnd, State, set_pool, set_brigade}
use Rattle.life_state.specs.Build.{with_cursor, with_fact}
use Rattle.life_cert.specs.declared.print_state.HomeWord.{HomeWord}
use Rattle.life_cert.specs.StateText.{homes, home_text, cursor_name}

-- whether a text begins with a word, and what stands behind a word as long
abbrev pub starts : List ℕ → List ℕ → Bool
starts [] t = true
starts (x ∷ xs) [] = false
starts (x ∷ xs) (y ∷ ys) = y == x && starts xs ys

abbrev pub behind : List ℕ → List ℕ → List ℕ
behind [] t = t
behind (x ∷ xs) [] = []
behind (x ∷ xs) (y ∷ ys) = behind xs ys

-- what is left behind a word, where it stands there
unfoldable pub past : List ℕ → List ℕ → List ℕ
past w t = if starts w t then behind w t else t

-- what is left behind n texts from number k on
unfoldable pub past_each : (ℕ → List ℕ → List ℕ) → ℕ → ℕ → List ℕ → List ℕ
past_each p k zero t = t
past_each p k (suc n) t = past_each p (k + 1) n (p k t)

-- what n texts from number k on make of a state, in turn
unfoldable pub fold_each : (ℕ → List ℕ → State → State) → (ℕ → List ℕ → List ℕ) → ℕ → ℕ → List ℕ → State → State
fold_each step p k zero t s = s
fold_each step p k (suc n) t s = fold_each step p (k + 1) n (p k t) (step k t s)

-- how many texts stand there that begin so, up to a number
unfoldable pub count_each : List ℕ → (List ℕ → List ℕ) → ℕ → List ℕ → ℕ
count_each w p zero t = 0
count_each w p (suc most) t = if starts w t then suc (count_each w p most (p t)) else 0

-- Homes: which of these are written, each behind a comma, and what is left behind them.
abbrev pub more_there : List HomeWord → List ℕ → List Bool
more_there [] t = []
more_there (x ∷ xs) t = starts (44 ∷ home_text x) t ∷ more_there xs (past (44 ∷ home_text x) t)

abbrev pub past_more : List HomeWord → List ℕ → List ℕ
past_more [] t = t
past_more (x ∷ xs) t = past_more xs (past (44 ∷ home_text x) t)

-- the same, without a comma before the first; a dash for none
abbrev pub some_there : List HomeWord → List ℕ → List Bool
some_there [] t = []
some_there (x ∷ xs) t =
    if starts (home_text x) t then true ∷ more_there xs (behind (home_text x) t) else false ∷ some_there xs t

abbrev pub past_some : List HomeWord → List ℕ → List ℕ
past_some [] t = behind (codes "-") t
past_some (x ∷ xs) t = if starts (home_text x) t then past_more xs (behind (home_text x) t) else past_some xs t

-- homes, from what is said of each in turn
abbrev pub own_from : List Bool → ℕ → Bool
own_from [] q = false
own_from (b ∷ []) q = false
own_from (b ∷ (c ∷ bs)) zero = b
own_from (b ∷ (c ∷ bs)) (suc q) = own_from (c ∷ bs) q

abbrev pub dead_from : List Bool → Bool
dead_from [] = false
dead_from (b ∷ []) = b
dead_from (b ∷ (c ∷ bs)) = dead_from (c ∷ bs)

abbrev pub at_from : Bool → List Bool → PoolRef → Bool
at_from r bs pool.Conn = false
at_from r bs pool.Req = r
at_from r bs (pool.Own q) = own_from bs q

abbrev pub homes_from : List Bool → Homes
homes_from [] = no_homes
homes_from (a ∷ []) = no_homes
homes_from (a ∷ (r ∷ bs)) = record { call = a; dead = dead_from bs; at = at_from r bs }

unfoldable pub homes_read : List ℕ → Homes
homes_read t = homes_from (some_there homes t)

unfoldable pub homes_past : List ℕ → List ℕ
homes_past t = past_some homes t

-- three words, each of which may stand there, and what is left behind them
abbrev pub three_there : List ℕ → List ℕ → List ℕ → List ℕ → Bool × Bool × Bool
three_there a b c t = (starts a t, starts b (past a t), starts c (past b (past a t)))

abbrev pub past_three : List ℕ → List ℕ → List ℕ → List ℕ → List ℕ
past_three a b c t = past c (past b (past a t))

-- `dfe` and `ngl`
abbrev pub classes_read : List ℕ → Classes
classes_read t = let m = three_there (codes "d") (codes "f") (codes "e") t in record { bytes = m.0; flush = m.1; eos = m.2 }

abbrev pub classes_past : List ℕ → List ℕ
classes_past t = past_three (codes "d") (codes "f") (codes "e") t

abbrev pub set_read : List ℕ → PoolState
set_read t = let m = three_there (codes "n") (codes "g") (codes "l") t in record { null = m.0; gone = m.1; live = m.2 }

abbrev pub set_past : List ℕ → List ℕ
set_past t = past_three (codes "n") (codes "g") (codes "l") t

-- A pool.
abbrev pub pool_read : List ℕ → PoolState
pool_read t = set_read (behind (codes " p0=") t)

abbrev pub pool_past : List ℕ → List ℕ
pool_past t = set_past (behind (codes " p0=") t)

-- A brigade.
abbrev pub content_read : List ℕ → Contents
content_read [] = Empty
content_read (b ∷ m) =
    if b == 102 then Flushes else (if b == 110 then NoEos else (if b == 111 then NoLateData else (if b == 97 then Any else Empty)))

abbrev pub known_live : Bool → Bool → Bool → Bool → Contents → Homes → BrigadeKnown
known_live null gone usable passed content homes =
    record { null = null; gone = gone; live = true; usable = usable; passed = passed; content = content; homes = homes }

abbrev pub known_dead : Bool → Bool → BrigadeKnown
known_dead null gone =
    record { null = null; gone = gone; live = false; usable = false; passed = false; content = Empty; homes = no_homes }

abbrev pub behind_marks : List ℕ → List ℕ
behind_marks t = past (codes "p") (past (codes "u") t)

abbrev pub homes_at : List ℕ → List ℕ
homes_at t = behind (codes "/") (behind (codes "e") (behind (codes "/") t))

unfoldable pub live_read : Bool → Bool → List ℕ → BrigadeKnown
live_read null gone t = known_live null gone (starts (codes "u") t) (starts (codes "p") (past (codes "u") t))
    (if starts (codes "u") t then content_read (behind (codes "/") (behind_marks t)) else Empty)
    (if starts (codes "u") t then homes_read (homes_at (behind_marks t)) else no_homes)

unfoldable pub live_past : List ℕ → List ℕ
live_past t = if starts (codes "u") t then homes_past (homes_at (behind_marks t)) else behind_marks t

-- where a set says that it may be live, what stands behind that
abbrev pub own_of : PoolState → List ℕ → BrigadeKnown
own_of s t = if s.live then live_read s.null s.gone (behind (codes "/") t) else known_dead s.null s.gone

abbrev pub own_left : PoolState → List ℕ → List ℕ
own_left s t = if s.live then live_past (behind (codes "/") t) else t

unfoldable pub own_read : List ℕ → BrigadeKnown
own_read t = own_of (set_read (behind (codes " b0=") t)) (set_past (behind (codes " b0=") t))

unfoldable pub own_past : List ℕ → List ℕ
own_past t = own_left (set_read (behind (codes " b0=") t)) (set_past (behind (codes " b0=") t))

abbrev pub in_read : List ℕ → BrigadeKnown
in_read t = if starts (codes " in=") t then live_read false false (behind (codes " in=") t) else never_made

abbrev pub in_past : List ℕ → List ℕ
in_past t = if starts (codes " in=") t then live_past (behind (codes " in=") t) else t

-- The number that the second byte of a name tells, and what is left behind the name.
abbrev pub number_in : ℕ → List ℕ → ℕ
number_in eight [] = 0
number_in eight (a ∷ []) = 0
number_in eight (a ∷ (b ∷ m)) = if b == eight then 8 else b - 48

abbrev pub behind_name : List ℕ → List ℕ
behind_name [] = []
behind_name (a ∷ []) = []
behind_name (a ∷ (b ∷ m)) = m

-- Where a cursor is.
unfoldable pub at_read : ℕ → List ℕ → CursorKnown
at_read b t =
    if starts (codes "$") t then End b
    else (if starts (codes "?/") t then InOrEnd b (classes_read (behind (codes "?/") t)) else In b (classes_read (behind (codes "/") t)))

unfoldable pub at_past : List ℕ → List ℕ
at_past t =
    if starts (codes "$") t then behind (codes "$") t
    else (if starts (codes "?/") t then classes_past (behind (codes "?/") t) else classes_past (behind (codes "/") t))

abbrev pub loose_read : List ℕ → CursorKnown
loose_read t = Loose (classes_read t) (homes_read (behind (codes "/") (classes_past t)))

abbrev pub loose_past : List ℕ → List ℕ
loose_past t = homes_past (behind (codes "/") (classes_past t))

unfoldable pub place_read : List ℕ → CursorKnown
place_read t = if starts (codes "loose/") t then loose_read (behind (codes "loose/") t) else at_read (number_in 110 t) (behind_name t)

unfoldable pub place_past : List ℕ → List ℕ
place_past t = if starts (codes "loose/") t then loose_past (behind (codes "loose/") t) else at_past (behind_name t)

-- a cursor's word begins so
abbrev pub key : ℕ → List ℕ
key c = 32 ∷ (cursor_name c ++ codes "=")

abbrev pub cursor_read : ℕ → List ℕ → CursorKnown
cursor_read c t = if starts (key c) t then place_read (behind (key c) t) else Unset

abbrev pub cursor_past : ℕ → List ℕ → List ℕ
cursor_past c t = if starts (key c) t then place_past (behind (key c) t) else t

-- The word of a fact.
abbrev pub fact_word : ℕ → ℕ → List ℕ
fact_word c d = 32 ∷ (cursor_name c ++ (33 ∷ cursor_name d))

abbrev pub fact_past : ℕ → ℕ → List ℕ → List ℕ
fact_past c d t = past (fact_word c d) t

abbrev pub row_past : ℕ → List ℕ → List ℕ
row_past c t = past_each (fact_past c) 0 9 t

-- What a text in front says of a state.
abbrev pub told_pool : ℕ → List ℕ → State → State
told_pool q t s = set_pool q (pool_read t) s

abbrev pub told_brigade : ℕ → List ℕ → State → State
told_brigade b t s = set_brigade b (own_read t) s

abbrev pub told_cursor : ℕ → List ℕ → State → State
told_cursor c t s = with_cursor c (cursor_read c t) s

abbrev pub told_fact : ℕ → ℕ → List ℕ → State → State
told_fact c d t s = if starts (fact_word c d) t then with_fact d c (with_fact c d s) else s

abbrev pub told_row : ℕ → List ℕ → State → State
told_row c t s = fold_each (told_fact c) (fact_past c) 0 9 t s

-- the pools, the brigades, the cursors and the facts
abbrev pub told_pools : List ℕ → State → State
told_pools t s = fold_each told_pool (λ q. pool_past) 0 s.pool_count t s

abbrev pub told_brigades : List ℕ → State → State
told_brigades t s = fold_each told_brigade (λ b. own_past) 0 s.brigade_count t s

abbrev pub told_cursors : List ℕ → State → State
told_cursors t s = fold_each told_cursor cursor_past 0 9 t s

abbrev pub told_facts : List ℕ → State → State
told_facts t s = fold_each told_row row_past 0 9 t s

-- Where each part of a state begins, and how many pools and brigades there are.
abbrev pub at_pools : List ℕ → List ℕ
at_pools t = if starts (codes "sent=maybe") t then behind (codes "sent=maybe") t else behind (codes "sent=no") t

abbrev pub pools_there : List ℕ → ℕ
pools_there t = count_each (codes " p") pool_past 8 t

abbrev pub past_pools : List ℕ → List ℕ
past_pools t = past_each (λ q. pool_past) 0 (pools_there t) t

abbrev pub brigades_there : List ℕ → ℕ
brigades_there t = count_each (codes " b") own_past 8 t

abbrev pub past_brigades : List ℕ → List ℕ
past_brigades t = past_each (λ b. own_past) 0 (brigades_there t) t

abbrev pub past_cursors : List ℕ → List ℕ
past_cursors t = past_each cursor_past 0 9 t
