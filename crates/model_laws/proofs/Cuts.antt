-- Brigades passed one after the other, and in one.
use Rattle.std.proofs.Common.{◌≡◌, Bool, true, false, ◌&&◌, ◌||◌, cond, ℕ, zero, suc, ◌+◌, ◌<◌, ◌≤◌, List, [], ◌∷◌, ◌++◌, Option, Some, None, append_assoc, refl, sym, ◌∙◌, ap, arith}
use Rattle.std.proofs.Math.Path.{fun_ext}
use Rattle.std.proofs.lemmas.List.Folds.{list_any-append}
use Rattle.run_model.specs.declared.fault.FaultKind.{FaultKind}
use Rattle.run_model.specs.declared.fault.FaultKind.TheVariants.{F8}
use Rattle.run_model.specs.declared.bucket.Content.{Content}
use Rattle.run_model.specs.declared.bucket.Content.TheVariants as content
use Rattle.run_model.specs.declared.bucket.NamedBucket.{NamedBucket}
use Rattle.run_model.specs.Buckets.{is_data, is_eos, has_data, has_eos, data_after_eos}
use Rattle.run_model.specs.Faults.{or_else}
use Rattle.run_model.specs.Files.{parts_of}
use Rattle.run_model.specs.State.{Out}
use Rattle.run_model.specs.Passing.{Reads, Taken, taken_whole, and_taken, unless_unread, parts_taken, content_taken, followed, taken, delivered}
use Rattle.model_laws.specs.Laws.{FaultOfCuts}
use Rattle.model_laws.specs.ChainBodies.{reads_made, OutputOfCuts}

-- The reads of a list that is taken later.

-- the reads that are left after so many
abbrev reads_after : ℕ → Reads → Reads
reads_after n reads k = reads (n + k)

-- as many reads were made before
abbrev later : ℕ → Taken → Taken
later n t = record t { reads = n + t.reads }

later_parts : (parts n k : ℕ) (reads : Reads) → parts_taken parts (n + k) reads ≡ later n (parts_taken parts k (reads_after n reads))
unfolding parts_taken
later_parts zero n k reads = refl
later_parts (suc parts) n k reads = by_read (later_parts parts n (k + 1) reads) (reads (n + k)) where
  by_read : parts_taken parts (n + (k + 1)) reads ≡ later n (parts_taken parts (k + 1) (reads_after n reads)) → (o : Option (List ℕ))
      → unless_unread o (n + k) (parts_taken parts ((n + k) + 1) reads) ≡ later n (unless_unread o k (parts_taken parts (k + 1) (reads_after n reads)))
  by_read rest None = (let same : (n + k) + 1 ≡ n + (k + 1) = omega arith in ap (λ (m : ℕ). let t : Taken = record { bytes = []; whole = false; reads = m } in t) same)
  by_read rest (Some bytes) = (let same : (n + k) + 1 ≡ n + (k + 1) = omega arith in
      ap (λ (m : ℕ). and_taken bytes (parts_taken parts m reads)) same ∙ ap (and_taken bytes) rest)

later_content : (c : Content) (n k : ℕ) (reads : Reads) → content_taken c (n + k) reads ≡ later n (content_taken c k (reads_after n reads))
later_content (content.Bytes bs) n k reads = refl
later_content (content.Range file start len) n k reads = later_parts (parts_of len) n k reads
later_content content.Nothing n k reads = refl

later_taken : (xs : List NamedBucket) (n k : ℕ) (reads : Reads) → taken xs (n + k) reads ≡ later n (taken xs k (reads_after n reads))
unfolding taken
later_taken [] n k reads = refl
later_taken (x ∷ xs) n k reads = by_eos (λ m. later_taken xs n m reads) (is_eos x) where
  by_whole : ((m : ℕ) → taken xs (n + m) reads ≡ later n (taken xs m (reads_after n reads))) → (t : Taken) (b : Bool)
      → cond b (and_taken t.bytes (taken xs (n + t.reads) reads)) (later n t) ≡ later n (cond b (and_taken t.bytes (taken xs t.reads (reads_after n reads))) t)
  by_whole rest t true = ap (and_taken t.bytes) (rest t.reads)
  by_whole rest t false = refl

  by_eos : ((m : ℕ) → taken xs (n + m) reads ≡ later n (taken xs m (reads_after n reads))) → (b : Bool)
      → cond b (taken_whole [] (n + k)) (followed (content_taken x.bucket.content (n + k) reads) (λ j. taken xs j reads))
      ≡ later n (cond b (taken_whole [] k) (followed (content_taken x.bucket.content k (reads_after n reads)) (λ j. taken xs j (reads_after n reads))))
  by_eos rest true = refl
  by_eos rest false =
      let t : Taken = content_taken x.bucket.content k (reads_after n reads) in
      ap (λ (u : Taken). followed u (λ j. taken xs j reads)) (later_content x.bucket.content n k reads) ∙ by_whole rest t t.whole

-- The output.

-- bytes before what was taken, and before that again
regrouped_bytes : (m : Bool) (bs : List ℕ) (t u : Taken) → and_taken bs (cond m t (and_taken t.bytes u)) ≡ cond m (and_taken bs t) (and_taken (bs ++ t.bytes) u)
regrouped_bytes true bs t u = refl
regrouped_bytes false bs t u = ap (λ (b : List ℕ). record u { bytes = b }) (sym (append_assoc bs t.bytes u.bytes))

-- What is taken of two lists, where no read of the first failed.
Joined : List NamedBucket → List NamedBucket → ℕ → Reads → Type 0
Joined xs ys k reads = (taken xs k reads).whole ≡ true → taken (xs ++ ys) k reads ≡ cond (has_eos xs) (taken xs k reads) (and_taken (taken xs k reads).bytes (taken ys (taken xs k reads).reads reads))

-- the same of what follows a bucket of which t was taken
behind : (t : Taken) (xs ys : List NamedBucket) (reads : Reads) → Joined xs ys t.reads reads → (followed t (λ j. taken xs j reads)).whole ≡ true
    → followed t (λ j. taken (xs ++ ys) j reads)
    ≡ cond (has_eos xs) (followed t (λ j. taken xs j reads)) (and_taken (followed t (λ j. taken xs j reads)).bytes (taken ys (followed t (λ j. taken xs j reads)).reads reads))
unfolding Joined
behind t xs ys reads rest = by_whole t.whole refl where
  by_whole : (b : Bool) → t.whole ≡ b → (cond b (and_taken t.bytes (taken xs t.reads reads)) t).whole ≡ true
      → cond b (and_taken t.bytes (taken (xs ++ ys) t.reads reads)) t
      ≡ cond (has_eos xs) (cond b (and_taken t.bytes (taken xs t.reads reads)) t)
      (and_taken (cond b (and_taken t.bytes (taken xs t.reads reads)) t).bytes (taken ys (cond b (and_taken t.bytes (taken xs t.reads reads)) t).reads reads))
  by_whole true is whole = ap (and_taken t.bytes) (rest whole) ∙ regrouped_bytes (has_eos xs) t.bytes (taken xs t.reads reads) (taken ys (taken xs t.reads reads).reads reads)
  by_whole false is whole = absurd (let both : false ≡ true = sym is ∙ whole in cc)

taken_append : (xs ys : List NamedBucket) (k : ℕ) (reads : Reads) → Joined xs ys k reads
unfolding Joined taken
taken_append [] ys k reads whole = refl
taken_append (x ∷ xs) ys k reads whole = by_eos (taken_append xs ys (content_taken x.bucket.content k reads).reads reads) (is_eos x) whole where
  by_eos : Joined xs ys (content_taken x.bucket.content k reads).reads reads → (eos : Bool)
      → (cond eos (taken_whole [] k) (followed (content_taken x.bucket.content k reads) (λ j. taken xs j reads))).whole ≡ true
      → cond eos (taken_whole [] k) (followed (content_taken x.bucket.content k reads) (λ j. taken (xs ++ ys) j reads))
      ≡ cond (eos || has_eos xs) (cond eos (taken_whole [] k) (followed (content_taken x.bucket.content k reads) (λ j. taken xs j reads)))
      (and_taken (cond eos (taken_whole [] k) (followed (content_taken x.bucket.content k reads) (λ j. taken xs j reads))).bytes
      (taken ys (cond eos (taken_whole [] k) (followed (content_taken x.bucket.content k reads) (λ j. taken xs j reads))).reads reads))
  by_eos rest true whole = refl
  by_eos rest false whole = behind (content_taken x.bucket.content k reads) xs ys reads rest whole

-- what the end of the chain has put out, of an output that did not end
abbrev put_behind : List ℕ → Bool → Taken → Out × Bool
put_behind bs ended t = (record { bytes = bs ++ t.bytes; ended = ended }, t.whole)

joined : (bs : List ℕ) (m n : Bool) (t u : Taken) → t.whole ≡ true
    → cond m (record { bytes = bs ++ t.bytes; ended = m }, true) (put_behind (bs ++ t.bytes) n u) ≡ put_behind bs (m || n) (cond m t (and_taken t.bytes u))
joined bs true n t u whole = ap (λ (w : Bool). let d : Out × Bool = (record { bytes = bs ++ t.bytes; ended = true }, w) in d) (sym whole)
joined bs false n t u whole = ap (λ (b : List ℕ). let d : Out × Bool = (record { bytes = b; ended = n }, u.whole) in d) (append_assoc bs t.bytes u.bytes)

-- what the second list gives is what it gives after the reads of the first
second_taken : (ys : List NamedBucket) (n : ℕ) (reads : Reads) → ((taken ys 0 (reads_after n reads)).bytes ≡ (taken ys n reads).bytes)
    × ((taken ys 0 (reads_after n reads)).whole ≡ (taken ys n reads).whole)
second_taken ys n reads =
    let same : n + 0 ≡ n = omega arith in
    let all : later n (taken ys 0 (reads_after n reads)) ≡ taken ys n reads = sym (later_taken ys n 0 reads) ∙ ap (λ (k : ℕ). taken ys k reads) same in
    (ap (λ (t : Taken). t.bytes) all, ap (λ (t : Taken). t.whole) all)

-- where the second brigade is given the reads that follow
follows_on : (out : Out) (xs ys : List NamedBucket) (reads : Reads) → (delivered out xs reads).1 ≡ true
    → delivered (delivered out xs reads).0 ys (reads_after (reads_made out xs reads) reads) ≡ delivered out (xs ++ ys) reads
unfolding delivered Joined
follows_on out xs ys reads = by_ended out.bytes out.ended where
  put_second : (bs : List ℕ) (n : ℕ) → put_behind bs (has_eos ys) (taken ys 0 (reads_after n reads)) ≡ put_behind bs (has_eos ys) (taken ys n reads)
  put_second bs n =
      let same = second_taken ys n reads in
      ap (λ (b : List ℕ). let d : Out × Bool = (record { bytes = bs ++ b; ended = has_eos ys }, (taken ys 0 (reads_after n reads)).whole) in d) same.0
      ∙ ap (λ (w : Bool). let d : Out × Bool = (record { bytes = bs ++ (taken ys n reads).bytes; ended = has_eos ys }, w) in d) same.1

  by_ended : (bs : List ℕ) (e : Bool) → (delivered (record { bytes = bs; ended = e }) xs reads).1 ≡ true
      → delivered (delivered (record { bytes = bs; ended = e }) xs reads).0 ys (reads_after (reads_made (record { bytes = bs; ended = e }) xs reads) reads) ≡ delivered
      (record { bytes = bs; ended = e }) (xs ++ ys) reads
  by_ended bs true well = refl
  by_ended bs false well =
      let t : Taken = taken xs 0 reads in
      let u : Taken = taken ys t.reads reads in
      ap (λ (d : Out × Bool). cond (has_eos xs) (record { bytes = bs ++ t.bytes; ended = has_eos xs }, true) d) (put_second (bs ++ t.bytes) t.reads)
      ∙ (joined bs (has_eos xs) (has_eos ys) t u well
      ∙ (ap (λ (e : Bool). put_behind bs e (cond (has_eos xs) t (and_taken t.bytes u))) (sym (list_any-append is_eos xs ys))
      ∙ ap (put_behind bs (has_eos (xs ++ ys))) (sym (taken_append xs ys 0 reads well))))

-- Reads that are not made do not matter.

parts_later : (parts k : ℕ) (reads : Reads) → k ≤ (parts_taken parts k reads).reads
unfolding parts_taken
parts_later zero k reads = (let same : k ≤ k = omega arith in same)
parts_later (suc parts) k reads = by_read (parts_later parts (k + 1) reads) (reads k) where
  by_read : k + 1 ≤ (parts_taken parts (k + 1) reads).reads → (o : Option (List ℕ)) → k ≤ (unless_unread o k (parts_taken parts (k + 1) reads)).reads
  by_read rest None = (let le : k ≤ k + 1 = omega arith in le)
  by_read rest (Some bytes) = (let le : k ≤ (parts_taken parts (k + 1) reads).reads = omega (arith, rest) in le)

content_later : (c : Content) (k : ℕ) (reads : Reads) → k ≤ (content_taken c k reads).reads
content_later (content.Bytes bs) k reads = (let same : k ≤ k = omega arith in same)
content_later (content.Range file start len) k reads = parts_later (parts_of len) k reads
content_later content.Nothing k reads = (let same : k ≤ k = omega arith in same)

taken_later : (xs : List NamedBucket) (k : ℕ) (reads : Reads) → k ≤ (taken xs k reads).reads
unfolding taken
taken_later [] k reads = (let same : k ≤ k = omega arith in same)
taken_later (x ∷ xs) k reads = by_eos (λ m. taken_later xs m reads) (is_eos x) where
  by_whole : ((m : ℕ) → m ≤ (taken xs m reads).reads) → (t : Taken) → k ≤ t.reads → (b : Bool) → k ≤ (cond b (and_taken t.bytes (taken xs t.reads reads)) t).reads
  by_whole rest t le true = (let more : t.reads ≤ (taken xs t.reads reads).reads = rest t.reads in let all : k ≤ (taken xs t.reads reads).reads = omega (arith, le, more) in all)
  by_whole rest t le false = le

  by_eos : ((m : ℕ) → m ≤ (taken xs m reads).reads) → (b : Bool) → k ≤ (cond b (taken_whole [] k) (followed (content_taken x.bucket.content k reads) (λ j. taken xs j reads))).reads
  by_eos rest true = (let same : k ≤ k = omega arith in same)
  by_eos rest false = by_whole rest (content_taken x.bucket.content k reads) (content_later x.bucket.content k reads) (content_taken x.bucket.content k reads).whole

-- from one number on, and below another
abbrev Agree : ℕ → ℕ → Reads → Reads → Type 0
Agree from to first all = (j : ℕ) → from ≤ j → j < to → all j ≡ first j

same_parts : (parts k : ℕ) (first all : Reads) → Agree k (parts_taken parts k first).reads first all → parts_taken parts k all ≡ parts_taken parts k first
unfolding parts_taken
same_parts zero k first all agree = refl
same_parts (suc parts) k first all agree = by_read (same_parts parts (k + 1) first all) (parts_later parts (k + 1) first) (first k) refl agree where
  by_read : (Agree (k + 1) (parts_taken parts (k + 1) first).reads first all → parts_taken parts (k + 1) all ≡ parts_taken parts (k + 1) first) → k + 1 ≤ (parts_taken parts (k + 1) first).reads
      → (o : Option (List ℕ)) → first k ≡ o → Agree k (unless_unread o k (parts_taken parts (k + 1) first)).reads first all
      → unless_unread (all k) k (parts_taken parts (k + 1) all) ≡ unless_unread o k (parts_taken parts (k + 1) first)
  by_read rest le None is agree =
      let low : k ≤ k = omega arith in
      let lt : k < k + 1 = omega arith in
      ap (λ (q : Option (List ℕ)). unless_unread q k (parts_taken parts (k + 1) all)) (agree k low lt ∙ is)
  by_read rest le (Some bytes) is agree =
      let low : k ≤ k = omega arith in
      let lt : k < (parts_taken parts (k + 1) first).reads = omega (arith, le) in
      ap (λ (q : Option (List ℕ)). unless_unread q k (parts_taken parts (k + 1) all)) (agree k low lt ∙ is) ∙ ap (and_taken bytes) (rest (λ j from to. agree j (omega (arith, from)) to))

same_content : (c : Content) (k : ℕ) (first all : Reads) → Agree k (content_taken c k first).reads first all → content_taken c k all ≡ content_taken c k first
same_content (content.Bytes bs) k first all agree = refl
same_content (content.Range file start len) k first all agree = same_parts (parts_of len) k first all agree
same_content content.Nothing k first all agree = refl

same_taken : (xs : List NamedBucket) (k : ℕ) (first all : Reads) → Agree k (taken xs k first).reads first all → taken xs k all ≡ taken xs k first
unfolding taken
same_taken [] k first all agree = refl
same_taken (x ∷ xs) k first all agree = by_eos (λ m. same_taken xs m first all) (is_eos x) agree where
  by_whole : ((m : ℕ) → Agree m (taken xs m first).reads first all → taken xs m all ≡ taken xs m first) → (t : Taken) → k ≤ t.reads
      → (Agree k t.reads first all → content_taken x.bucket.content k all ≡ t)
      → (b : Bool) → t.whole ≡ b → Agree k (cond b (and_taken t.bytes (taken xs t.reads first)) t).reads first all
      → followed (content_taken x.bucket.content k all) (λ j. taken xs j all) ≡ cond b (and_taken t.bytes (taken xs t.reads first)) t
  by_whole rest t le same true is agree =
      let more : t.reads ≤ (taken xs t.reads first).reads = taken_later xs t.reads first in
      ap (λ (u : Taken). followed u (λ j. taken xs j all)) (same (λ j from to. agree j from (omega (arith, to, more))))
      ∙ (ap (λ (w : Bool). cond w (and_taken t.bytes (taken xs t.reads all)) t) is ∙ ap (and_taken t.bytes) (rest t.reads (λ j from to. agree j (omega (arith, le, from)) to)))
  by_whole rest t le same false is agree = ap (λ (u : Taken). followed u (λ j. taken xs j all)) (same agree) ∙ ap (λ (w : Bool). cond w (and_taken t.bytes (taken xs t.reads all)) t) is

  by_eos : ((m : ℕ) → Agree m (taken xs m first).reads first all → taken xs m all ≡ taken xs m first) → (b : Bool)
      → Agree k (cond b (taken_whole [] k) (followed (content_taken x.bucket.content k first) (λ j. taken xs j first))).reads first all
      → cond b (taken_whole [] k) (followed (content_taken x.bucket.content k all) (λ j. taken xs j all)) ≡ cond b (taken_whole [] k)
      (followed (content_taken x.bucket.content k first) (λ j. taken xs j first))
  by_eos rest true agree = refl
  by_eos rest false agree =
      by_whole rest (content_taken x.bucket.content k first) (content_later x.bucket.content k first) (same_content x.bucket.content k first all)
      (content_taken x.bucket.content k first).whole refl agree

same_delivered : (out : Out) (xs : List NamedBucket) (first all : Reads) → Agree 0 (reads_made out xs first) first all → (delivered out xs all ≡ delivered out xs first)
    × (reads_made out xs all ≡ reads_made out xs first)
unfolding delivered
same_delivered out xs first all agree = by_ended out.ended agree where
  put : Taken → Out × Bool
  put t = (record { bytes = out.bytes ++ t.bytes; ended = has_eos xs }, t.whole)

  by_ended : (e : Bool) → Agree 0 (cond e 0 (taken xs 0 first).reads) first all
      → (cond e (out, true) (put (taken xs 0 all)) ≡ cond e (out, true) (put (taken xs 0 first))) × (cond e 0 (taken xs 0 all).reads ≡ cond e 0 (taken xs 0 first).reads)
  by_ended true agree = (refl, refl)
  by_ended false agree = (let same = same_taken xs 0 first all agree in (ap put same, ap (λ (t : Taken). t.reads) same))

pub output_of_cuts : OutputOfCuts
output_of_cuts out xs ys first second all well front back =
    let same = same_delivered out xs first all (λ j from to. front j to) in
    let rest : reads_after (reads_made out xs first) all ≡ second = fun_ext back in
    ap (λ (d : Out × Bool). delivered d.0 ys second) (sym same.0)
    ∙ (ap (λ (reads : Reads). delivered (delivered out xs all).0 ys reads) (sym rest)
    ∙ (ap (λ (n : ℕ). delivered (delivered out xs all).0 ys (reads_after n all)) (sym same.1)
    ∙ follows_on out xs ys all (ap (λ (d : Out × Bool). d.1) same.0 ∙ well)))

-- The fault.

or_false : (b : Bool) → b ≡ (b || false)
or_false true = refl
or_false false = refl

after_append : (xs ys : List NamedBucket) → data_after_eos (xs ++ ys) ≡ (data_after_eos xs || data_after_eos ys || (has_eos xs && has_data ys))
after_append [] ys = or_false (data_after_eos ys)
after_append (x ∷ xs) ys =
    ap (λ b. (is_eos x && b) || data_after_eos (xs ++ ys)) (list_any-append is_data xs ys)
    ∙ (ap (λ b. (is_eos x && (has_data xs || has_data ys)) || b) (after_append xs ys)
    ∙ regrouped (is_eos x) (has_data xs) (has_data ys) (data_after_eos xs) (data_after_eos ys) (has_eos xs)) where
      regrouped : (a dx dy ax ay e : Bool) → ((a && (dx || dy)) || (ax || ay || (e && dy))) ≡ (((a && dx) || ax) || ay || ((a || e) && dy))
      regrouped false dx dy ax ay e = refl
      regrouped true true dy ax ay e = refl
      regrouped true false true true ay e = refl
      regrouped true false true false true e = refl
      regrouped true false true false false e = refl
      regrouped true false false true ay e = refl
      regrouped true false false false true e = refl
      regrouped true false false false false true = refl
      regrouped true false false false false false = refl

pub fault_of_cuts : FaultOfCuts
fault_of_cuts sent xs ys =
    either_fault (data_after_eos xs || (sent && has_data xs)) (data_after_eos ys || ((sent || has_eos xs) && has_data ys))
    ∙ (ap (λ (b : Bool). told b) (regrouped sent (has_eos xs) (has_data xs) (has_data ys) (data_after_eos xs) (data_after_eos ys))
    ∙ sym (ap (λ b. told (b || (sent && has_data (xs ++ ys)))) (after_append xs ys)
    ∙ ap (λ b. told ((data_after_eos xs || data_after_eos ys || (has_eos xs && has_data ys)) || (sent && b))) (list_any-append is_data xs ys))) where
      told : Bool → Option FaultKind
      told b = cond b (Some F8) None

      either_fault : (x y : Bool) → or_else (cond x (Some F8) None) (cond y (Some F8) None) ≡ cond (x || y) (Some F8) None
      either_fault true y = refl
      either_fault false y = refl

      regrouped : (s e dx dy ax ay : Bool) → ((ax || (s && dx)) || (ay || ((s || e) && dy))) ≡ ((ax || ay || (e && dy)) || (s && (dx || dy)))
      regrouped s e dx dy true ay = refl
      regrouped false e dx dy false true = refl
      regrouped false true dx true false false = refl
      regrouped false true dx false false false = refl
      regrouped false false dx dy false false = refl
      regrouped true e true dy false true = refl
      regrouped true true true true false false = refl
      regrouped true true true false false false = refl
      regrouped true false true dy false false = refl
      regrouped true e false dy false true = refl
      regrouped true true false true false false = refl
      regrouped true true false false false false = refl
      regrouped true false false dy false false = refl
