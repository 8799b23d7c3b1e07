-- How a play goes on, from a reader to a writer.
use Rattle.std.proofs.Common.{◌≡◌, ℕ, ◌+◌, ◌≤◌, ◌⊎◌, inl, inr, Bool, true, false, List, [], ◌++◌, length, take, Option, Some, None, IfSome, Result, Ok, Err, IfOk, refl, ap, sym, subst, ◌∙◌, arith}
use Rattle.std.proofs.lemmas.List.{append_assoc, append-nil, length-append}
use Rattle.std.proofs.lemmas.Result.{err_from_is_err_and}
use Rattle.std.specs.Result.{IsErrAnd}
use Rattle.std.proofs.KnownBytes.{Appends-nil, Appends-trans, Consumes-nil, Consumes-trans, Consumes-kept}
use Rattle.std.specs.Io.KnownBytes.{Appends, Consumes, Keeps, IsAtEnd}
use Rattle.byte_streams.specs.Counted.{IsCounted}
use Rattle.byte_streams.specs.declared.counted.CountedFault.{CountedFault}
use Rattle.byte_streams.specs.declared.counted.CountedFault.TheVariants as counted
use Rattle.byte_text.specs.TextLines.{RawLine, lines_of}
use Rattle.module_commands.specs.declared.ended.Ended.{Ended}
use Rattle.module_commands.specs.declared.ended.Ended.TheVariants as ended
use Rattle.module_commands.specs.declared.fault.PlayFault.{PlayFault}
use Rattle.module_commands.specs.declared.fault.PlayFault.TheVariants as fault
use Rattle.filter_chain.specs.Hosting.{Ghosts, Stored}
use Rattle.script_play.specs.declared.player.Player.{Player}
use Rattle.script_text.specs.Heads.{no_head}
use Rattle.module_commands.specs.Streams.{Writes}
use Rattle.script_play.specs.Playing.{IsEndFrom, IsCutOfSome, IsCutOfEnd, PlaysOn, PlaysBytes, PlaysEnd}
use Rattle.script_play.specs.Sessions.{IsAt}
use Rattle.script_play.specs.Written.{Stage, Reading, Serving, Over, is_over, TakesAll, IsSomeOf, IsWhole, HasNoLf, AnswersLinesRead, LastRead, TellsSome, IsWrittenFor, IsFrontOf, IsCutOf}
use Rattle.script_play.proofs.ScriptLines.{lines_append, lines_few, whole_append}
use Rattle.script_play.proofs.TakenLaws.{taken_append, taken_over}

-- How far a play is: whole lines were taken, and their answers written; a part of a line is held back.
pub record Going {R : Type 0} {i : Ghosts R Stored} (from to before after : Option (List ℕ)) (p : Player R i) (held : List ℕ) (bound : ℕ) : Type 0 where
  pub whole : List ℕ
  pub is_whole : IsWhole whole
  pub told : List ℕ
  pub stage : Stage
  pub takes : TakesAll 1 (lines_of whole) (Reading no_head) told stage
  pub at : IsAt p stage
  pub running : is_over stage ≡ false
  pub unended : HasNoLf held
  pub lines : p.lines ≡ length (lines_of whole)
  pub read : Consumes from to (whole ++ held)
  pub wrote : Appends before after told
  pub few : p.lines + length held ≤ bound

pub going_first : {R : Type 0} {i : Ghosts R Stored} (r w : Option (List ℕ)) (p : Player R i) (held : List ℕ) → IsAt p (Reading no_head) → p.lines ≡ 0 → held ≡ [] → Going r r w w p held 0
unfolding lines_of TakesAll
going_first r w p held at none empty =
    record {
      whole = [];
      is_whole = inl refl;
      told = [];
      stage = Reading no_head;
      takes = (refl, refl);
      at = at;
      running = refl;
      unended = subst HasNoLf (sym empty) (λ k d less. absurd (omega (arith, less)));
      lines = none;
      read = subst (Consumes r r) (sym empty) (Consumes-nil r);
      wrote = Appends-nil w;
      few = let long = ap length empty in omega (arith, long, none);
    }

-- what is true of what was read and of what is left is true of what the reader had
of_left : (from to : Option (List ℕ)) (text : List ℕ) (P : List ℕ → Type 0) → Consumes from to text → ((rest : List ℕ) → to ≡ Some rest → P (text ++ rest)) → IfSome from P
of_left None to text P read all = tt
of_left (Some x) None text P read all = absurd read
of_left (Some x) (Some y) text P read all = subst P (sym read) (all y refl)

-- the lines of what was held back and of more bytes
lines_split : (held bytes whole rest unread : List ℕ) → IsWhole whole → held ++ bytes ≡ whole ++ rest → lines_of (held ++ (bytes ++ unread)) ≡ lines_of whole ++ lines_of (rest ++ unread)
lines_split held bytes whole rest unread is split =
    ap lines_of (sym (append_assoc held bytes unread) ∙ ap (λ l. l ++ unread) split ∙ append_assoc whole rest unread) ∙ lines_append whole (rest ++ unread) is

-- More was read: what was read by then.
read_more : (from to next : Option (List ℕ)) (whole held bytes : List ℕ) → Consumes from to (whole ++ held) → Consumes to next bytes → Consumes from next (whole ++ (held ++ bytes))
read_more from to next whole held bytes first second = subst (Consumes from next) (append_assoc whole held bytes) (Consumes-trans from to next (whole ++ held) bytes first second)

-- What is written of a script of which these bytes were read next, and these are left.
module _ {R : Type 0} {i : Ghosts R Stored} (from to before mid : Option (List ℕ)) (p : Player R i) (held bytes unread : List ℕ) (bound : ℕ) (g : Going from to before mid p held bound) where
  abbrev WholeScript : List ℕ
  WholeScript = g.whole ++ (held ++ bytes) ++ unread

  splits : WholeScript ≡ g.whole ++ (held ++ (bytes ++ unread))
  splits = append_assoc g.whole (held ++ bytes) unread ∙ ap (λ l. g.whole ++ l) (append_assoc held bytes unread)

  number : p.lines + 1 ≡ 1 + length (lines_of g.whole)
  number = let c = g.lines in omega (arith, c)

  written_behind : (ls : List RawLine) (text : List ℕ) (e : Ended) → lines_of (held ++ (bytes ++ unread)) ≡ ls → IsEndFrom (p.lines + 1) ls g.stage text e → IsWrittenFor WholeScript (g.told ++ text) e
  written_behind ls text e lines k =
      let all : lines_of WholeScript ≡ lines_of g.whole ++ ls = ap lines_of splits ∙ lines_append g.whole (held ++ (bytes ++ unread)) g.is_whole ∙ ap (λ l. lines_of g.whole ++ l) lines in
      let takes = taken_append 1 (lines_of g.whole) ls (Reading no_head) g.stage k.stage g.told k.answers g.takes (subst (λ n. TakesAll n ls g.stage k.answers k.stage) number k.takes) in
      record {
        stage = k.stage;
        answers = g.told ++ k.answers;
        last = k.last;
        takes = subst (λ l. TakesAll 1 l (Reading no_head) (g.told ++ k.answers) k.stage) (sym all) takes;
        ends = k.ends;
        written = ap (λ l. g.told ++ l) k.written ∙ sym (append_assoc g.told k.answers k.last);
      }

  abbrev last_bytes : (next : Option (List ℕ)) → length bytes ≤ 8192 → next ≡ Some unread → LastRead WholeScript next
  last_bytes next few leaves = record {
    whole = g.whole;
    held = held;
    last = bytes;
    unread = unread;
    mid = g.stage;
    told = g.told;
    splits = splits;
    is_whole = g.is_whole;
    unended = g.unended;
    few = few;
    takes = g.takes;
    running = g.running;
    leaves = leaves;
  }

  -- these bytes are whole lines, or all that there are
  abbrev LineParts : List ℕ → List ℕ → Type 0
  LineParts seen rest = (held ++ bytes ≡ seen ++ rest) × (IsWhole seen ⊎ ((bytes ≡ []) × (rest ≡ [])))

  module _ (next : Option (List ℕ)) (few : length bytes ≤ 8192) (leaves : next ≡ Some unread) (seen rest : List ℕ) (parts : LineParts seen rest) (text : List ℕ) where
    some_behind : (more : List ℕ) → IsSomeOf (p.lines + 1) (lines_of seen) g.stage more → TellsSome (last_bytes next few leaves) more
    some_behind more k =
        record {
          seen = seen;
          rest = rest;
          parts = parts.0;
          whole = parts.1;
          tells = record { count = k.count; stage = k.stage; takes = subst (λ n. TakesAll n (take k.count (lines_of seen)) g.stage more k.stage) number k.takes };
        }

    front_behind : IsSomeOf (p.lines + 1) (lines_of seen) g.stage text → IsFrontOf WholeScript (g.told ++ text) next
    front_behind k = record { read = last_bytes next few leaves; more = text; tells = some_behind text k; written = refl }

    cut_behind : IsCutOfSome (p.lines + 1) (lines_of seen) g.stage text → IsCutOf WholeScript (g.told ++ text) next
    cut_behind (tail, some, k) =
        record { read = last_bytes next few leaves; part = text; rest = tail; some = some; written = refl; next = inl (some_behind (text ++ tail) k) }

    cut_end_behind : lines_of (held ++ (bytes ++ unread)) ≡ lines_of seen → IsCutOfEnd (p.lines + 1) (lines_of seen) g.stage text → IsCutOf WholeScript (g.told ++ text) next
    cut_end_behind lines (tail, some, inl k) = cut_behind (tail, some, k)
    cut_end_behind lines (tail, some, inr (e, k)) =
        record {
          read = last_bytes next few leaves;
          part = text;
          rest = tail;
          some = some;
          written = refl;
          next = inr (e, subst (λ t. IsWrittenFor WholeScript t e) (sym (append_assoc g.told text tail)) (written_behind (lines_of seen) (text ++ tail) e lines k));
        }

-- Where no memory was left or the writer failed.
pub going_failed : {R : Type 0} {i : Ghosts R Stored} (from to next before mid after : Option (List ℕ)) (p new : Player R i) (held bytes left : List ℕ) (bound : ℕ)
    (g : Going from to before mid p held bound) → Consumes to next bytes
    → length bytes ≤ 8192 → PlaysBytes p new mid after (held ++ bytes) left g.stage (Err fault.NoMemory) → Writes from before after (λ script text. IsFrontOf script text next)
going_failed from to next before mid after p new held bytes left bound g second few (whole, rest, is, split, (text, k, added)) =
    let wrote = Appends-trans before mid after g.told text g.wrote added in
    of_left from next (g.whole ++ (held ++ bytes)) (λ script. (t : List ℕ) × IsFrontOf script t next × Appends before after t) (read_more from to next g.whole held bytes g.read second)
    (λ unread leaves. (g.told ++ text, front_behind from to before mid p held bytes unread bound g next few leaves whole rest (split, inl is) text k, wrote))

pub going_cut : {R : Type 0} {i : Ghosts R Stored} (from to next before mid after : Option (List ℕ)) (p new : Player R i) (held bytes left : List ℕ) (bound : ℕ)
    (g : Going from to before mid p held bound) → Consumes to next bytes
    → length bytes ≤ 8192 → PlaysBytes p new mid after (held ++ bytes) left g.stage (Err fault.Write) → Writes from before after (λ script text. IsCutOf script text next)
going_cut from to next before mid after p new held bytes left bound g second few (whole, rest, is, split, (text, k, added)) =
    let wrote = Appends-trans before mid after g.told text g.wrote added in
    of_left from next (g.whole ++ (held ++ bytes)) (λ script. (t : List ℕ) × IsCutOf script t next × Appends before after t) (read_more from to next g.whole held bytes g.read second)
    (λ unread leaves. (g.told ++ text, cut_behind from to before mid p held bytes unread bound g next few leaves whole rest (split, inl is) text k, wrote))

-- The reader failed, or was read too often. Its last reads gave nothing more.
pub going_read : {R : Type 0} {i : Ghosts R Stored} (from to next before after : Option (List ℕ)) (p : Player R i) (held : List ℕ) (bound : ℕ) (g : Going from to before after p held bound)
    → Consumes from next (g.whole ++ held) → Writes from before after (λ script text. AnswersLinesRead script text next)
going_read from to next before after p held bound g read =
    of_left from next (g.whole ++ held) (λ script. (t : List ℕ) × AnswersLinesRead script t next × Appends before after t) read
    (λ rest leaves. (
      g.told,
      record {
        whole = g.whole;
        seen = held;
        unread = rest;
        stage = g.stage;
        splits = append_assoc g.whole held rest;
        is_whole = g.is_whole;
        unended = g.unended;
        takes = g.takes;
        running = g.running;
        leaves = leaves;
      },
      g.wrote,
    ))

-- A read that gave no answer left the bytes as they were.
pub refused_kept : (left rest : ℕ) (before after : Option (List ℕ)) (was is : Bool) (buffer : List ℕ) (e : CountedFault) → IsCounted left rest before after was is buffer (Err e) → Keeps before after
refused_kept left rest before after was is buffer counted.Failed (one, kept, failed) = kept
refused_kept left rest before after was is buffer counted.TooManyReads (none, still, kept, same) = kept

-- A read that failed gave nothing.
pub going_kept : {R : Type 0} {i : Ghosts R Stored} (from to next before after : Option (List ℕ)) (p : Player R i) (held : List ℕ) (bound : ℕ) → Going from to before after p held bound → Keeps to next
    → Writes from before after (λ script text. AnswersLinesRead script text next)
going_kept from to next before after p held bound g kept = going_read from to next before after p held bound g (Consumes-kept from to next (g.whole ++ held) g.read kept)

-- The reader is at its end, behind these last bytes.
pub record Last {R : Type 0} {i : Ghosts R Stored} (from next before mid : Option (List ℕ)) (p : Player R i) (last : List ℕ) : Type 0 where
  pub to : Option (List ℕ)
  pub bound : ℕ
  pub going : Going from to before mid p last bound
  pub read : Consumes from next (going.whole ++ last)
  pub end : IsAtEnd next

pub going_last : {R : Type 0} {i : Ghosts R Stored} (from to next before mid : Option (List ℕ)) (p : Player R i) (held last : List ℕ) (bound : ℕ) → Going from to before mid p held bound
    → Keeps to next × IsAtEnd next → last ≡ held → Last from next before mid p last
going_last from to next before mid p held last bound g (kept, end) is =
    subst (Last from next before mid p) (sym is) (record { to = to; bound = bound; going = g; read = Consumes-kept from to next (g.whole ++ held) g.read kept; end = end })

module _ {R : Type 0} {i : Ghosts R Stored} (from next before mid after : Option (List ℕ)) (p : Player R i) (last : List ℕ) where
  -- the play ends so, at whatever stage the player is
  abbrev PlayEnds : Result Ended PlayFault → Type 0
  PlayEnds r = (s : Stage) → IsAt p s → PlaysEnd (p.lines + 1) mid after (lines_of last) s r

  -- what is true of what was read, and of nothing behind it, is true of what the reader had
  of_end : (k : Last from next before mid p last) (P : List ℕ → Type 0)
      → ((unread : List ℕ) → next ≡ Some unread → lines_of (last ++ ([] ++ unread)) ≡ lines_of last → P (k.going.whole ++ (last ++ []) ++ unread)) → IfSome from P
  of_end k P all =
      of_left from next (k.going.whole ++ (last ++ [])) P (subst (λ l. Consumes from next (k.going.whole ++ l)) (sym (append-nil last)) k.read)
      (λ unread leaves.
      let none : unread ≡ [] = subst IsAtEnd leaves k.end in
      all unread leaves (ap (λ l. lines_of (last ++ l)) none ∙ ap lines_of (append-nil last)))

  pub last_ok : (r : Result Ended PlayFault) → Last from next before mid p last → PlayEnds r → IfOk r (λ e. Writes from before after (λ script text. IsWrittenFor script text e))
  last_ok (Err f) k ends = tt
  last_ok (Ok e) k ends =
      let x = ends k.going.stage k.going.at in
      of_end k (λ script. (t : List ℕ) × IsWrittenFor script t e × Appends before after t)
      (λ unread leaves lines. (
        k.going.told ++ x.0,
        written_behind from k.to before mid p last [] unread k.bound k.going (lines_of last) x.0 e lines x.1,
        Appends-trans before mid after k.going.told x.0 k.going.wrote x.2,
      ))

  -- it ends by this fault
  ends_by : (r : Result Ended PlayFault) (f : PlayFault) (k : Last from next before mid p last) → PlayEnds r → r ≡ Err f → PlaysEnd (p.lines + 1) mid after (lines_of last) k.going.stage (Err f)
  ends_by r f k ends is = subst (λ x. PlaysEnd (p.lines + 1) mid after (lines_of last) k.going.stage x) is (ends k.going.stage k.going.at)

  pub last_read : (r : Result Ended PlayFault) → Last from next before mid p last → PlayEnds r → r ≡ Err fault.Read → (P : List ℕ → List ℕ → Type 0) → Writes from before after P
  last_read r k ends is P = absurd (ends_by r fault.Read k ends is)

  memory_by : (k : Last from next before mid p last) → PlaysEnd (p.lines + 1) mid after (lines_of last) k.going.stage (Err fault.NoMemory)
      → Writes from before after (λ script text. IsFrontOf script text next)
  memory_by k (text, some, added) =
      of_end k (λ script. (t : List ℕ) × IsFrontOf script t next × Appends before after t)
      (λ unread leaves lines. (
        k.going.told ++ text,
        front_behind from k.to before mid p last [] unread k.bound k.going next (omega arith) leaves last [] (refl, inr (refl, refl)) text some,
        Appends-trans before mid after k.going.told text k.going.wrote added,
      ))

  pub last_memory : (r : Result Ended PlayFault) → Last from next before mid p last → PlayEnds r → r ≡ Err fault.NoMemory → Writes from before after (λ script text. IsFrontOf script text next)
  last_memory r k ends is = memory_by k (ends_by r fault.NoMemory k ends is)

  write_by : (k : Last from next before mid p last) → PlaysEnd (p.lines + 1) mid after (lines_of last) k.going.stage (Err fault.Write)
      → Writes from before after (λ script text. IsCutOf script text next)
  write_by k (text, cut, added) =
      of_end k (λ script. (t : List ℕ) × IsCutOf script t next × Appends before after t)
      (λ unread leaves lines. (
        k.going.told ++ text,
        cut_end_behind from k.to before mid p last [] unread k.bound k.going next
            (omega arith) leaves last [] (refl, inr (refl, refl)) text lines cut,
        Appends-trans before mid after k.going.told text k.going.wrote added,
      ))

  pub last_write : (r : Result Ended PlayFault) → Last from next before mid p last → PlayEnds r → r ≡ Err fault.Write → Writes from before after (λ script text. IsCutOf script text next)
  last_write r k ends is = write_by k (ends_by r fault.Write k ends is)

-- the fault that a `?` hands on
same_fault : (r : Result Ended PlayFault) (e f : PlayFault) → IsErrAnd r (λ y. y ≡ e) → r ≡ Err f → e ≡ f
same_fault r e f left told = let p = err_from_is_err_and r left in let is = p.1 in let same = p.2 in cc

module _ {R : Type 0} {i : Ghosts R Stored} (from to next before mid after : Option (List ℕ)) (p new : Player R i) (held bytes left : List ℕ) (bound : ℕ) (g : Going from to before mid p held bound)
    (second : Consumes to next bytes)
    (r : Result Ended PlayFault) (e : PlayFault) (handed : IsErrAnd r (λ y. y ≡ e)) (plays : (s : Stage) → IsAt p s → PlaysBytes p new mid after (held ++ bytes) left s (Err e)) where
  -- the bytes are taken until this fault
  taken_until : (f : PlayFault) → r ≡ Err f → PlaysBytes p new mid after (held ++ bytes) left g.stage (Err f)
  taken_until f told = subst (λ x. PlaysBytes p new mid after (held ++ bytes) left g.stage (Err x)) (same_fault r e f handed told) (plays g.stage g.at)

  pub bytes_read : r ≡ Err fault.Read → (P : List ℕ → List ℕ → Type 0) → Writes from before after P
  bytes_read told P = absurd (taken_until fault.Read told)

  pub bytes_memory : length bytes ≤ 8192 → r ≡ Err fault.NoMemory → Writes from before after (λ script text. IsFrontOf script text next)
  bytes_memory few told = going_failed from to next before mid after p new held bytes left bound g second few (taken_until fault.NoMemory told)

  pub bytes_write : length bytes ≤ 8192 → r ≡ Err fault.Write → Writes from before after (λ script text. IsCutOf script text next)
  bytes_write few told = going_cut from to next before mid after p new held bytes left bound g second few (taken_until fault.Write told)

whole_more : (a b : List ℕ) → IsWhole a → IsWhole b → IsWhole (a ++ b)
whole_more a b is (inl none) = subst IsWhole (sym (append-nil a) ∙ ap (λ l. a ++ l) (sym none)) is
whole_more a b is (inr ends) = inr (whole_append a b ends)

-- The bytes were taken, and the play goes on.
pub going_on : {R : Type 0} {i : Ghosts R Stored} (from to next before mid after : Option (List ℕ)) (p new : Player R i) (held bytes left : List ℕ) (bound more : ℕ)
    (g : Going from to before mid p held bound) → Consumes to next bytes
    → bound + length bytes ≤ more → (whole : List ℕ) → IsWhole whole → held ++ bytes ≡ whole ++ left → (k : PlaysOn p new mid after (lines_of whole) g.stage) → HasNoLf left
    → is_over k.stage ≡ false → Going from next before after new left more
going_on from to next before mid after p new held bytes left bound more g second wide whole is split k unended running =
    let lines : lines_of (g.whole ++ whole) ≡ lines_of g.whole ++ lines_of whole = lines_append g.whole whole g.is_whole in
    let count : new.lines ≡ p.lines + length (lines_of whole) = k.lines running in
    let takes = taken_append 1 (lines_of g.whole) (lines_of whole) (Reading no_head) g.stage k.stage g.told k.told g.takes
    (subst (λ n. TakesAll n (lines_of whole) g.stage k.told k.stage) (let c = g.lines in let e : p.lines + 1 ≡ 1 + length (lines_of g.whole) = omega (arith, c) in e) k.takes) in
    let few = lines_few whole in
    let both = length-append held bytes in
    let parts = length-append whole left in
    let cut = ap length split in
    record {
      whole = g.whole ++ whole;
      is_whole = whole_more g.whole whole g.is_whole is;
      told = g.told ++ k.told;
      stage = k.stage;
      takes = subst (λ ls. TakesAll 1 ls (Reading no_head) (g.told ++ k.told) k.stage) (sym lines) takes;
      at = k.at;
      running = running;
      unended = unended;
      lines = let c = g.lines in let long = length-append (lines_of g.whole) (lines_of whole) in let all = ap length lines in omega (arith, c, long, all, count);
      read = subst (Consumes from next) (ap (λ l. g.whole ++ l) split ∙ sym (append_assoc g.whole whole left)) (read_more from to next g.whole held bytes g.read second);
      wrote = Appends-trans before mid after g.told k.told g.wrote k.added;
      few = let f = g.few in omega (arith, f, few, both, parts, cut, count, wide);
    }

-- A fault was told, and what is left of the script is not looked at.
pub going_over : {R : Type 0} {i : Ghosts R Stored} (from to next before mid after : Option (List ℕ)) (p new : Player R i) (held bytes left : List ℕ) (bound : ℕ)
    (g : Going from to before mid p held bound) → Consumes to next bytes
    → (whole : List ℕ) → IsWhole whole → held ++ bytes ≡ whole ++ left → (k : PlaysOn p new mid after (lines_of whole) g.stage) → is_over k.stage ≡ true
    → Writes from before after (λ script text. IsWrittenFor script text ended.Refused)
going_over from to next before mid after p new held bytes left bound g second whole is split k over = by k.stage k.takes over
  where
    by : (t : Stage) → TakesAll (p.lines + 1) (lines_of whole) g.stage k.told t → is_over t ≡ true → Writes from before after (λ script text. IsWrittenFor script text ended.Refused)
    by (Reading h) takes e = absurd (cc e)
    by (Serving v) takes e = absurd (cc e)
    by Over takes e =
        of_left from next (g.whole ++ (held ++ bytes)) (λ script. (t : List ℕ) × IsWrittenFor script t ended.Refused × Appends before after t) (read_more from to next g.whole held bytes g.read second)
        (λ unread _.
        let ms : List RawLine = lines_of (left ++ unread) in
        let all : List RawLine = lines_of whole ++ ms in
        let lines = lines_split held bytes whole left unread is split in
        let ends : IsEndFrom (p.lines + 1) all g.stage (k.told ++ []) ended.Refused = record {
          stage = Over;
          answers = k.told ++ [];
          last = [];
          takes = taken_append (p.lines + 1) (lines_of whole) ms g.stage Over Over k.told [] takes (taken_over (p.lines + 1 + length (lines_of whole)) ms);
          ends = (refl, refl);
          written = sym (append-nil (k.told ++ []));
        } in (
          g.told ++ (k.told ++ []),
          written_behind from to before mid p held bytes unread bound g all (k.told ++ []) ended.Refused lines ends,
          subst (λ t. Appends before after (g.told ++ t)) (sym (append-nil k.told)) (Appends-trans before mid after g.told k.told g.wrote k.added),
        ))
