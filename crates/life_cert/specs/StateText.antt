-- How a state is written: words with one space between them.
use Rattle.std.specs.Prelude.{ℕ, zero, suc, ◌+◌, Bool, ◌&&◌, nat_lt, ◌==◌, if◌then◌else◌, List, [], ◌∷◌, ◌++◌, codes, decimal}
use Rattle.module_code.specs.declared.instr.PoolRef.TheVariants as pool
use Rattle.life_state.specs.declared.parts.Classes.{Classes}
use Rattle.life_state.specs.declared.parts.Contents.{Contents}
use Rattle.life_state.specs.declared.parts.Contents.TheVariants.{Empty, Flushes, NoEos, NoLateData, Any}
use Rattle.life_state.specs.declared.parts.PoolState.{PoolState}
use Rattle.life_state.specs.States.{Homes, BrigadeKnown, CursorKnown, Unset, Loose, In, End, InOrEnd, State}
use Rattle.life_state.specs.Facts.{is_set}
use Rattle.life_cert.specs.declared.print_state.HomeWord.{HomeWord}
use Rattle.life_cert.specs.declared.print_state.HomeWord.TheVariants as home

-- a text, where this holds
abbrev pub where_holds : Bool → List ℕ → List ℕ
where_holds b text = if b then text else []

-- the texts of n numbers from k on, in turn
unfoldable pub each : ℕ → ℕ → (ℕ → List ℕ) → List ℕ
each k zero text = []
each k (suc n) text = text k ++ each (k + 1) n text

-- `ngl`, as far as they hold
abbrev pub set_text : Bool → Bool → Bool → List ℕ
set_text null gone live = where_holds null (codes "n") ++ (where_holds gone (codes "g") ++ where_holds live (codes "l"))

-- `dfe`: data, FLUSH, EOS
abbrev pub classes_text : Classes → List ℕ
classes_text s = where_holds s.bytes (codes "d") ++ (where_holds s.flush (codes "f") ++ where_holds s.eos (codes "e"))

abbrev pub content_text : Contents → List ℕ
content_text Empty = codes "e"
content_text Flushes = codes "f"
content_text NoEos = codes "n"
content_text NoLateData = codes "o"
content_text Any = codes "a"

-- a letter and a number
abbrev pub numbered : List ℕ → ℕ → List ℕ
numbered letter k = letter ++ decimal k

-- homes, in the order in which they are written
abbrev pub homes : List HomeWord
homes =
    home.Call ∷ (home.Req ∷ (home.Own 0 ∷ (home.Own 1 ∷ (home.Own 2 ∷ (home.Own 3
    ∷ (home.Own 4 ∷ (home.Own 5 ∷ (home.Own 6 ∷ (home.Own 7 ∷ (home.Dead ∷ []))))))))))

abbrev pub home_text : HomeWord → List ℕ
home_text home.Call = codes "call"
home_text home.Req = codes "req"
home_text (home.Own q) = numbered (codes "p") q
home_text home.Dead = codes "dead"

abbrev pub has_home : Homes → HomeWord → Bool
has_home h home.Call = h.call
has_home h home.Req = h.at pool.Req
has_home h (home.Own q) = h.at (pool.Own q)
has_home h home.Dead = h.dead

-- those of these homes that are meant, each behind a comma
abbrev pub more_homes : Homes → List HomeWord → List ℕ
more_homes h [] = []
more_homes h (x ∷ xs) = where_holds (has_home h x) (codes "," ++ home_text x) ++ more_homes h xs

-- the same, without a comma before the first; a dash for none
abbrev pub some_homes : Homes → List HomeWord → List ℕ
some_homes h [] = codes "-"
some_homes h (x ∷ xs) = if has_home h x then home_text x ++ more_homes h xs else some_homes h xs

unfoldable pub homes_text : Homes → List ℕ
homes_text h = some_homes h homes

-- /CONTENT/HOMES, where it may be usable
abbrev pub usable_text : BrigadeKnown → List ℕ
usable_text v = where_holds v.usable (codes "/" ++ (content_text v.content ++ (codes "/" ++ homes_text v.homes)))

-- a sign, MARKS of `up`, and so on, where it may be live
abbrev pub live_text : List ℕ → BrigadeKnown → List ℕ
live_text sign v = where_holds v.live (sign ++ (where_holds v.usable (codes "u") ++ (where_holds v.passed (codes "p") ++ usable_text v)))

-- pN=SET
abbrev pub pool_text : ℕ → PoolState → List ℕ
pool_text q v = numbered (codes " p") q ++ (codes "=" ++ set_text v.null v.gone v.live)

-- bN=SET/MARKS/CONTENT/HOMES
abbrev pub brigade_text : ℕ → BrigadeKnown → List ℕ
brigade_text b v = numbered (codes " b") b ++ (codes "=" ++ (set_text v.null v.gone v.live ++ live_text (codes "/") v))

-- `in`, where it is given
abbrev pub in_text : BrigadeKnown → List ℕ
in_text v = live_text (codes " in=") v

abbrev pub brigade_name : ℕ → List ℕ
brigade_name b = if b == 8 then codes "in" else numbered (codes "b") b

abbrev pub cursor_name : ℕ → List ℕ
cursor_name c = if c == 8 then codes "rd" else numbered (codes "c") c

-- a loose bucket, a bucket of a brigade, the end of one, or either
abbrev pub place_text_of : CursorKnown → List ℕ
place_text_of Unset = []
place_text_of (Loose s h) = codes "loose/" ++ (classes_text s ++ (codes "/" ++ homes_text h))
place_text_of (In b s) = brigade_name b ++ (codes "/" ++ classes_text s)
place_text_of (End b) = brigade_name b ++ codes "$"
place_text_of (InOrEnd b s) = brigade_name b ++ (codes "?/" ++ classes_text s)

abbrev pub cursor_text : ℕ → CursorKnown → List ℕ
cursor_text c v = where_holds (is_set v) (codes " " ++ (cursor_name c ++ (codes "=" ++ place_text_of v)))

-- a fact, by the pair that rises
abbrev pub fact_text : State → ℕ → ℕ → List ℕ
fact_text s c d = where_holds (nat_lt c d && s.facts c d) (codes " " ++ (cursor_name c ++ (codes "!" ++ cursor_name d)))

abbrev pub facts_text : State → ℕ → List ℕ
facts_text s c = each 0 9 (fact_text s c)

abbrev pub sent_text : Bool → List ℕ
sent_text sent = if sent then codes "sent=maybe" else codes "sent=no"

-- whether an EOS was passed, the pools, the brigades, `in`, the cursors, the facts
unfoldable pub state_text : State → List ℕ
state_text s =
    sent_text s.sent ++ (each 0 s.pool_count (λ q. pool_text q (s.pools q))
    ++ (each 0 s.brigade_count (λ b. brigade_text b (s.brigades b))
    ++ (in_text (s.brigades 8) ++ (each 0 9 (λ c. cursor_text c (s.cursors c)) ++ each 0 9 (facts_text s)))))
