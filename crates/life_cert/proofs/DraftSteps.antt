-- What holds of a draft holds of it with one line more.
use Rattle.std.proofs.Common.{◌≡◌, ℕ, zero, suc, ◌+◌, ◌-◌, ◌<◌, ◌≤◌, Bool, true, false, ◌&&◌, List, [], ◌∷◌, ◌++◌, length, replicate, Option, Some, None, refl, sym, ap, ap₂, subst, ◌∙◌, arith, length-append, ⊎_elim}
use Rattle.std.specs.Prelude.{nat_le, slice_get, slice_index_or, IfSome, IsSome}
use Rattle.std.proofs.lemmas.Bool.{cases_lt, le-leb}
use Rattle.std.proofs.lemmas.List.{length-replicate}
use Rattle.life_state.specs.declared.state.State as code
use Rattle.life_state.specs.Form.{IsFormed}
use Rattle.life_state.specs.Seen.{seen}
use Rattle.life_state.specs.States.{State}
use Rattle.life_state.proofs.Tests.{and2, and3}
use Rattle.life_check.specs.declared.version.CertVersion.{CertVersion}
use Rattle.life_check.specs.declared.version.CertVersion.TheVariants as version
use Rattle.life_check.specs.Seen.{seen_line}
use Rattle.life_check.specs.Versions.{is_in_range}
use Rattle.life_cert.specs.declared.draft.CertDraft.{CertDraft}
use Rattle.life_cert.specs.declared.due.Due.{Due}
use Rattle.life_cert.specs.declared.due.Due.TheVariants as due
use Rattle.life_cert.specs.declared.due.CertLine.TheVariants as line
use Rattle.life_cert.specs.CertText.{is_two}
use Rattle.life_cert.specs.Reading.{due_after}
use Rattle.life_cert.specs.Drafts.{Counts, HaveSums, IsCertDraft, Names, begun_version, with_count, with_vars}
use Rattle.life_cert.specs.StateSums.{line_sum, state_sum}
use Rattle.life_cert.proofs.DraftLaws.{IsAdded, counts_at, names_at, count_new}
use Rattle.life_cert.proofs.Lines.{all_formed, formed_at, formed_more, last_some, more_before, more_last, more_none}
use Rattle.life_cert.proofs.TextLengths.{range_there}

-- no line is there yet
none_sums : (n : ℕ) (at : List (Option code.State)) (sums : List ℕ) → n ≡ 0 → HaveSums n at sums
none_sums n at sums none = λ k low short. absurd (omega (arith, low, none))

pub header_draft : (d : CertDraft) (two slim : Bool) → IsCertDraft d → d.due ≡ due.Header
    → IsCertDraft (record d { due = due_after (line.Header two slim); version = begun_version two; slim = slim })
header_draft d two slim h at = by two
  where
    empty : length d.sums.items ≡ 0
    empty = sized (is_two d.version) refl
      where
        sized : (b : Bool) → is_two d.version ≡ b → length d.sums.items ≡ 0
        sized true two = h.summed two ∙ counts_at d due.Header h at
        sized false one = h.empty one

    none : length d.at.items ≡ 0
    none = counts_at d due.Header h at

    by : (b : Bool) → IsCertDraft (record d { due = due_after (line.Header b slim); version = begun_version b; slim = slim })
    by true = record {
      idle = h.idle;
      ready = h.ready;
      at = h.at;
      counts = none;
      last = h.last;
      named = refl;
      names = refl;
      empty = λ one. cc one;
      summed = λ two. empty ∙ sym none;
      sums = λ two. none_sums (length d.at.items) d.at.items d.sums.items none;
    }
    by false = record {
      idle = h.idle;
      ready = h.ready;
      at = h.at;
      counts = none;
      last = h.last;
      named = refl;
      names = tt;
      empty = λ one. empty;
      summed = λ two. cc two;
      sums = λ two. cc two;
    }

in_range : (p b n : ℕ) → p ≤ 8 → b ≤ 8 → 1 ≤ n → n ≤ 1024 → is_in_range (version.Two p b n) ≡ true
in_range p b n low few some many =
    and2 (nat_le p 8 && nat_le b 8 && nat_le 1 n) (nat_le n 1024)
    (and3 (nat_le p 8) (nat_le b 8) (nat_le 1 n) (le-leb p 8 low) (le-leb b 8 few) (le-leb 1 n some)) (le-leb n 1024 many)

pub vars_draft : (d : CertDraft) (p b : ℕ) → IsCertDraft d → d.due ≡ due.Vars → p ≤ 8 → b ≤ 8 → IsCertDraft (record d { due = due.Code; version = with_vars p b })
vars_draft d p b h at low few =
    let two = names_at d due.Vars h at in
    record {
      idle = h.idle;
      ready = h.ready;
      at = h.at;
      counts = counts_at d due.Vars h at;
      last = h.last;
      named = in_range p b 1 low few (omega arith) (omega arith);
      names = refl;
      empty = λ one. cc one;
      summed = λ is. h.summed two;
      sums = λ is. h.sums two;
    }

count_named : (v : CertVersion) (n : ℕ) → is_in_range v ≡ true → 1 ≤ n → n ≤ 1024 → is_in_range (with_count v n) ≡ true
count_named version.One n named some many = refl
count_named (version.Two p b m) n named some many = let low = range_there p b m named in in_range p b n low.0 low.1 some many

pub two_counted : (v : CertVersion) (n : ℕ) → is_two (with_count v n) ≡ is_two v
two_counted version.One n = refl
two_counted (version.Two p b m) n = refl

pub count_draft : (d : CertDraft) (n : ℕ) → IsCertDraft d → d.due ≡ due.Code → 1 ≤ n → n ≤ 1024 → IsCertDraft (record d { due = due.Idle; version = with_count d.version n })
count_draft d n h at some many =
    let two = names_at d due.Code h at in
    record {
      idle = h.idle;
      ready = h.ready;
      at = h.at;
      counts = counts_at d due.Code h at;
      last = h.last;
      named = count_named d.version n h.named some many;
      names = tt;
      empty = λ one. (let same = two_counted d.version n in cc (one, two, same));
      summed = λ is. h.summed two;
      sums = λ is. h.sums two;
    }

-- Sums.

get_before : (xs ys : List ℕ) (k : ℕ) → k < length xs → slice_index_or (xs ++ ys) k 0 ≡ slice_index_or xs k 0
get_before [] ys k low = absurd (omega (arith, low))
get_before (x ∷ xs) ys zero low = refl
get_before (x ∷ xs) ys (suc k) low = get_before xs ys k (omega (arith, low))

get_behind : (xs ys : List ℕ) (k : ℕ) → slice_index_or (xs ++ ys) (length xs + k) 0 ≡ slice_index_or ys k 0
get_behind [] ys k = let same : 0 + k ≡ k = omega arith in ap (λ (i : ℕ). slice_index_or ys i 0) same
get_behind (x ∷ xs) ys k = let less : suc (length xs) + k ≡ suc (length xs + k) = omega arith in ap (λ (i : ℕ). slice_index_or (x ∷ (xs ++ ys)) i 0) less ∙ get_behind xs ys k

get_none : (m k : ℕ) → ◌≡◌ {A = ℕ} (slice_index_or (replicate m 0) k 0) 0
get_none zero k = refl
get_none (suc m) zero = refl
get_none (suc m) (suc k) = get_none m k

-- one sum more, behind some of lines that have no state
more_sums : (xs : List (Option code.State)) (ss : List ℕ) (m : ℕ) (s : code.State) → length ss ≡ length xs → HaveSums (length xs) xs ss
    → HaveSums (length xs + m + 1) ((xs ++ replicate m None) ++ Some s ∷ []) ((ss ++ replicate m 0) ++ state_sum (seen s) ∷ [])
more_sums xs ss m s size have k low short = ⊎_elim (λ (below : k < length xs). old below) (λ (past : length xs ≤ k). new past) (cases_lt k (length xs))
  where
    long : length (ss ++ replicate m 0) ≡ length xs + m
    long = let none : ℕ = 0 in length-append ss (replicate m none) ∙ ap₂ (λ (i j : ℕ). i + j) size (length-replicate m none)

    old : k < length xs → slice_index_or ((ss ++ replicate m 0) ++ state_sum (seen s) ∷ []) k 0 ≡ line_sum (seen_line (slice_get ((xs ++ replicate m None) ++ Some s ∷ []) k))
    old below =
        let count = long in
        get_before (ss ++ replicate m 0) (state_sum (seen s) ∷ []) k (omega (arith, below, count))
        ∙ get_before ss (replicate m 0) k (omega (arith, below, size))
        ∙ have k below (omega (arith, below, size))
        ∙ ap line_sum (sym (more_before xs m s k below))

    new : length xs ≤ k → slice_index_or ((ss ++ replicate m 0) ++ state_sum (seen s) ∷ []) k 0 ≡ line_sum (seen_line (slice_get ((xs ++ replicate m None) ++ Some s ∷ []) k))
    new past = ⊎_elim (λ (below : k < length xs + m). none past below) (λ (last : length xs + m ≤ k). here (omega (arith, low, last))) (cases_lt k (length xs + m))
      where
        none : length xs ≤ k → k < length xs + m → slice_index_or ((ss ++ replicate m 0) ++ state_sum (seen s) ∷ []) k 0 ≡ line_sum (seen_line (slice_get ((xs ++ replicate m None) ++ Some s ∷ []) k))
        none from below =
            let count = long in
            let at : k ≡ length ss + (k - length ss) = omega (arith, from, size) in
            get_before (ss ++ replicate m 0) (state_sum (seen s) ∷ []) k (omega (arith, below, count))
            ∙ ap (λ (i : ℕ). slice_index_or (ss ++ replicate m 0) i 0) at
            ∙ get_behind ss (replicate m 0) (k - length ss)
            ∙ get_none m (k - length ss)
            ∙ sym (ap line_sum (more_none xs m s k from below))

        here : k ≡ length xs + m → slice_index_or ((ss ++ replicate m 0) ++ state_sum (seen s) ∷ []) k 0 ≡ line_sum (seen_line (slice_get ((xs ++ replicate m None) ++ Some s ∷ []) k))
        here is =
            let count = long in
            let at : k ≡ length (ss ++ replicate m 0) + 0 = omega (arith, is, count) in
            ap (λ (i : ℕ). slice_index_or ((ss ++ replicate m 0) ++ state_sum (seen s) ∷ []) i 0) at
            ∙ get_behind (ss ++ replicate m 0) (state_sum (seen s) ∷ []) 0
            ∙ sym (ap line_sum (more_last xs m s k is))

-- a state is added behind instructions that have none
pub pc_draft : (d e : CertDraft) (next pc m : ℕ) (s : code.State) → IsCertDraft d → IsAdded d e pc m s → d.due ≡ due.States next → e.due ≡ due.States (pc + 1) → pc < 1024 → IsFormed (seen s)
    → (is_two d.version ≡ true → e.sums.items ≡ (d.sums.items ++ replicate m 0) ++ state_sum (seen s) ∷ []) → (is_two d.version ≡ false → e.sums.items ≡ d.sums.items) → IsCertDraft e
pc_draft d e next pc m s h a at due few formed sums kept =
    let none : Option code.State = None in
    let before = d.at.items ++ replicate m none in
    let long = a.long in
    let size : length before ≡ pc = length-append d.at.items (replicate m none) ∙ omega (arith, length-replicate m none, long) in
    let all : length e.at.items ≡ pc + 1 = count_new d e pc m s a in
    record {
      idle = subst (λ (o : Option State). IfSome o IsFormed) (sym a.idle) h.idle;
      ready = subst (λ (o : Option State). IfSome o IsFormed) (sym a.ready) h.ready;
      at = λ k. subst (λ (xs : List (Option code.State)). IfSome (seen_line (slice_get xs k)) IsFormed) (sym a.items)
          (formed_at (before ++ Some s ∷ []) (formed_more d.at.items m s (all_formed d.at.items h.at) formed) k);
      counts = subst (λ (u : Due). Counts u (length e.at.items)) (sym due) (all, omega arith);
      last = λ k is. subst (λ (xs : List (Option code.State)). IsSome (seen_line (slice_get xs k))) (sym a.items) (last_some before s k (omega (arith, size, all, is)));
      named = subst (λ (v : CertVersion). is_in_range v ≡ true) (sym a.version) h.named;
      names = subst (λ (u : Due). Names u (is_two e.version)) (sym due) tt;
      empty = λ is. (let one : is_two d.version ≡ false = ap is_two (sym a.version) ∙ is in ap length (kept one) ∙ h.empty one);
      summed = λ is.
          let two : is_two d.version ≡ true = ap is_two (sym a.version) ∙ is in
          let old = h.summed two in
          ap length (sums two) ∙ length-append (d.sums.items ++ replicate m 0) (state_sum (seen s) ∷ [])
          ∙ ap (λ (n : ℕ). n + 1) (length-append d.sums.items (replicate m 0)) ∙ (let none : ℕ = 0 in let count = length-replicate m none in omega (arith, count, old, long, all));
      sums = λ is.
          let two : is_two d.version ≡ true = ap is_two (sym a.version) ∙ is in
          let count : length d.at.items + m + 1 ≡ length e.at.items = omega (arith, all, long) in
          subst (λ (n : ℕ). HaveSums n e.at.items e.sums.items) count
          (subst (λ (xs : List (Option code.State)). HaveSums (length d.at.items + m + 1) xs e.sums.items) (sym a.items)
          (subst (λ (ss : List ℕ). HaveSums (length d.at.items + m + 1) ((d.at.items ++ replicate m None) ++ Some s ∷ []) ss) (sym (sums two))
          (more_sums d.at.items d.sums.items m s (h.summed two) (h.sums two))));
    }
