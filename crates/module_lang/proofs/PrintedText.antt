-- The text that a module is printed as is one of it.
use Rattle.std.proofs.Common.{◌≡◌, ℕ, suc, ◌+◌, ◌-◌, ◌*◌, ◌<◌, ◌≤◌, Bool, true, false, cond, List, [], ◌∷◌, ◌++◌, length, map, take, drop, Option, Some, None, refl, sym, ◌∙◌, ap, subst, arith}
use Rattle.std.proofs.Common.{append_assoc, append-nil, length-append}
use Rattle.std.specs.Prelude.{All, IfSome, codes, filter_map, slice_get, slice_index_or, slice_range}
use Rattle.std.proofs.lemmas.Bool.{lt-ltb, ltb-true}
use Rattle.std.proofs.Math.Seq.{take-add, take-length}
use Rattle.std.proofs.lemmas.List.{take-append-drop, length-take-le, length-drop}
use Rattle.std.proofs.lemmas.List.Elements.{filter_map-append}
use Rattle.std.proofs.lemmas.List.FromFn.{length-range_with_len}
use Rattle.std.proofs.lemmas.Option.{slice_get_within}
use Rattle.module_lang.specs.Lines.{place_is_declared}
use Rattle.module_lang.specs.Printing.{aim, is_target, printed, printed_code, printed_handler, quoted_text, target_name}
use Rattle.module_code.specs.Program.{Program, IsModule, IsHandler, fits, target, text_at, text_of_instr}
use Rattle.module_lang.specs.Texts.{AreDistinct, AreSpelled, CodeLine, IsCode, IsLabel, IsTextOf, joined, label, step, brigade_texts, code_text, labels_from, module_texts, pool_texts}
use Rattle.byte_text.specs.QuotedTexts.{Spells}
use Rattle.module_code.specs.declared.part.Part.{Part}
use Rattle.module_code.specs.declared.part.Part.TheVariants as part
use Rattle.module_code.specs.declared.instr.Instr.{Instr}
use Rattle.module_code.specs.declared.instr.PoolRef.{PoolRef}
use Rattle.module_code.specs.declared.instr.PoolRef.TheVariants as pool
use Rattle.byte_text.proofs.ListLaws.{all_cons}
use Rattle.module_lang.proofs.PrintedLabels.{aimed_printed, instrs_printed, is_target_of, labels_printed, marked, marks, marks-append, marks_distinct, marks_named}
use Rattle.module_lang.proofs.PrintedLines.{IsFew, IsPlain, IsPrintable, QuotedShown, brigades_plain, code_plain, plain-append, plain_clean, plain_statements, pools_plain}
use Rattle.module_lang.proofs.ShownLaws.{joined-append, text_there}
use Rattle.byte_text.proofs.SpelledLaws.{spelling_clean, spelling_short, spelling_spells}
use Rattle.module_lang.proofs.SliceLaws.{back_item, front_item}

-- what is true of each item that is got is true of all
all_of : {X : Type 0} (P : X → Type 0) (xs : List X) → ((k : ℕ) (x : X) → slice_get xs k ≡ Some x → P x) → All P xs
all_of P [] h = λ k d low. absurd (omega arith)
all_of P (x ∷ xs) h = all_cons P x xs (h 0 x refl) (all_of P xs (λ k y e. h (suc k) y e))

item_inside : {X : Type 0} (fs bs cs : List X) (k : ℕ) (x : X) → slice_get bs k ≡ Some x → slice_get (fs ++ (bs ++ cs)) (length fs + k) ≡ Some x
item_inside fs bs cs k x e =
    let back : slice_get (fs ++ (bs ++ cs)) (length fs + k) ≡ slice_get (bs ++ cs) (length fs + k - length fs) = back_item fs (bs ++ cs) (length fs + k) (omega arith) in
    let same : length fs + k - length fs ≡ k = omega arith in
    back ∙ ap (slice_get (bs ++ cs)) same ∙ front_item bs cs k (slice_get_within bs k x e) ∙ e

-- code is cut into its handlers

cut_front : {X : Type 0} (code : List X) (a b : ℕ) → a ≤ b → slice_range code 0 a ++ slice_range code a b ≡ take b code
cut_front code a b low =
    let all : a - 0 ≡ a = omega arith in
    let sum : a + (b - a) ≡ b = omega arith in
    rw all (sym (take-add a (b - a) code) ∙ ap (λ k. take k code) sum)

cut_back : {X : Type 0} (code : List X) (b : ℕ) → slice_range code b (length code) ≡ drop b code
cut_back code b = ap (λ k. take k (drop b code)) (sym (length-drop b code)) ∙ take-length (drop b code)

pub cuts : {X : Type 0} (code : List X) (a b : ℕ) → a ≤ b → slice_range code 0 a ++ slice_range code a b ++ slice_range code b (length code) ≡ code
cuts code a b low = rw (cut_front code a b low, cut_back code b) (take-append-drop b code)

cut_length : {X : Type 0} (code : List X) (a b : ℕ) → a ≤ b → b ≤ length code → length (slice_range code a b) ≡ b - a
cut_length code a b low high = length-take-le (b - a) (drop a code) (omega (arith, length-drop a code))

-- the text of an instruction as it is printed

text_bytes : (p : Program) (i : Instr) (t : ℕ) → IsModule p → fits p i ≡ true → text_of_instr i ≡ Some t → t < length p.texts
text_bytes p i t s h e = let there = text_there p i h in rw e at there

text_printed : (p : Program) (i : Instr) → IsModule p → fits p i ≡ true → IfSome (text_of_instr i) (λ t. Spells (quoted_text p.texts (text_of_instr i)) (text_at p t))
unfolding text_at
text_printed p i s h = at (text_of_instr i) refl
  where
    at : (o : Option ℕ) → text_of_instr i ≡ o → IfSome o (λ t. Spells (quoted_text p.texts o) (text_at p t))
    at None e = tt
    at (Some t) e = spelling_spells (slice_index_or p.texts t []) (s.bytes t [] (text_bytes p i t s h e))

text_quoted : (p : Program) (i : Instr) → IsModule p → fits p i ≡ true → QuotedShown (text_of_instr i) (quoted_text p.texts (text_of_instr i))
text_quoted p i s h = at (text_of_instr i) refl
  where
    at : (o : Option ℕ) → text_of_instr i ≡ o → QuotedShown o (quoted_text p.texts o)
    at None e = tt
    at (Some t) e =
        let low = text_bytes p i t s h e in
        let bytes = s.bytes t [] low in
        (spelling_clean (slice_index_or p.texts t []) bytes, omega (arith, spelling_short (slice_index_or p.texts t []) bytes, s.short t [] low))

line_spelled : (b : Bool) (p : Program) (x : List ℕ) (i : Instr) (y w : List ℕ) (ls : List CodeLine) → IfSome (text_of_instr i) (λ t. Spells w (text_at p t)) → AreSpelled p ls
    → AreSpelled p (cond b (label x ∷ []) [] ++ step i y w ∷ ls)
line_spelled true p x i y w ls h j = (h, j)
line_spelled false p x i y w ls h j = (h, j)

spelled_printed : (p : Program) (n : ℕ) (is : List Instr)
    → ((k : ℕ) (i : Instr) → slice_get is k ≡ Some i → IfSome (text_of_instr i) (λ t. Spells (quoted_text p.texts (text_of_instr i)) (text_at p t))) → AreSpelled p (printed_code p.texts p.code n is)
spelled_printed p n [] h = tt
spelled_printed p n (i ∷ is) h =
    line_spelled (is_target p.code n) p (target_name n) i (aim (target i)) (quoted_text p.texts (text_of_instr i)) (printed_code p.texts p.code (n + 1) is) (h 0 i refl)
    (spelled_printed p (n + 1) is (λ k j e. h (suc k) j e))

-- a handler

module _ (p : Program) (q : Part) (from to : ℕ) (fs bs cs : List Instr) (s : IsModule p) (h : IsHandler p q from to) (whole : p.code ≡ fs ++ (bs ++ cs)) (front : length fs ≡ from)
    (end : from + length bs ≡ to) where
  inside : (k : ℕ) (i : Instr) → slice_get bs k ≡ Some i → (slice_get p.code (from + k) ≡ Some i) × IfSome (target i) (λ t. (from ≤ t) × (t < to))
  inside k i e =
      let at : slice_get p.code (from + k) ≡ Some i = rw (whole, sym front) (item_inside fs bs cs k i e) in
      let low = slice_get_within bs k i e in
      let there = h.inside (from + k) i (omega arith) (omega (arith, end, low)) at in
      (at, there.target)

  aimed : (k : ℕ) (i : Instr) → slice_get bs k ≡ Some i → IfSome (target i) (λ t. IsLabel (target_name t) t (labels_from from (printed_code p.texts p.code from bs)))
  aimed k i e = let there = inside k i e in at (target i) refl there.1
    where
      at : (o : Option ℕ) → target i ≡ o → IfSome o (λ t. (from ≤ t) × (t < to)) → IfSome o (λ t. IsLabel (target_name t) t (labels_from from (printed_code p.texts p.code from bs)))
      at None same there = tt
      at (Some t) same there =
          rw (labels_printed p.texts p.code from bs) (marked p.code t from bs (is_target_of p.code (from + k) t i (inside k i e).0 same) there.0 (omega (arith, end, there.1)))

  pub handler_code : length p.code ≤ 1024 → to ≤ length p.code → IsCode p from (printed_code p.texts p.code from bs)
  handler_code few high = record {
    labels = rw (labels_printed p.texts p.code from bs, instrs_printed p.texts p.code from bs) (marks_named p.code (from + length bs) from bs (omega arith) (omega (arith, end)));
    aimed = aimed_printed p.texts p.code (labels_from from (printed_code p.texts p.code from bs)) from bs aimed;
    texts = spelled_printed p from bs (λ k i e. text_printed p i s (s.placed (from + k) i (inside k i e).0).fit);
  }

-- plain lines of so many bytes at most

few-append : (m n : ℕ) (xs ys : List (List ℕ)) → IsFew m xs → IsFew n ys → IsFew (m + n) (xs ++ ys)
few-append m n xs ys h j =
    let size = ap length (joined-append xs ys) ∙ length-append (joined xs) (joined ys) in
    (plain-append xs ys h.0 j.0, omega (arith, h.1, j.1, size))

few_word : (l : List ℕ) → IsPlain l → length l ≤ 40 → IsFew 41 (l ∷ [])
few_word l h low = let size = length-append l (10 ∷ []) in ((h, tt), omega (arith, size))

module_few : (m : Program) (first second third : List CodeLine) (i j k : ℕ) → IsFew 448 (pool_texts 0 m.pools) → IsFew 448 (brigade_texts 0 m.brigades) → IsFew i (map code_text first)
    → IsFew j (map code_text second) → IsFew k (map code_text third) → IsFew (1101 + i + j + k) (module_texts m first second third)
module_few m first second third i j k ps bs x y z =
    let end = few_word (codes "end") (refl, refl, refl) (omega arith) in
    let main = few_word (codes "main") (refl, refl, refl) (omega arith) in
    let init = few_word (codes "init") (refl, refl, refl) (omega arith) in
    let begin = few_word (codes "open") (refl, refl, refl) (omega arith) in
    let head = few_word (codes "module 1") (refl, refl, refl) (omega arith) in
    let as1 = map code_text first in
    let bs1 = map code_text second in
    let cs1 = map code_text third in
    let end_l = codes "end" ∷ [] in
    let third_l = codes "main" ∷ (cs1 ++ end_l) in
    let second_l = codes "init" ∷ (bs1 ++ third_l) in
    let first_l = codes "open" ∷ (as1 ++ second_l) in
    let pools = pool_texts 0 m.pools in
    let brigades = brigade_texts 0 m.brigades in
    let serving = few-append 41 (k + 41) (codes "main" ∷ []) (cs1 ++ end_l) main (few-append k 41 cs1 end_l z end) in
    let initial = few-append 41 (j + (41 + (k + 41))) (codes "init" ∷ []) (bs1 ++ third_l) init (few-append j (41 + (k + 41)) bs1 third_l y serving) in
    let opening = few-append 41 (i + (41 + (j + (41 + (k + 41))))) (codes "open" ∷ []) (as1 ++ second_l) begin (few-append i (41 + (j + (41 + (k + 41)))) as1 second_l x initial) in
    let code = 41 + (i + (41 + (j + (41 + (k + 41))))) in
    let all = few-append 41 (448 + (448 + code)) (codes "module 1" ∷ []) (pools ++ (brigades ++ first_l)) head
    (few-append 448 (448 + code) pools (brigades ++ first_l) ps (few-append 448 code brigades first_l bs opening)) in
    (all.0, omega (arith, all.1))

-- the whole

declared_below : (n k : ℕ) (q : PoolRef) → n ≤ k → k ≤ 8 → place_is_declared n q ≡ true → place_is_declared 8 q ≡ true
declared_below n k pool.Conn low high h = refl
declared_below n k pool.Req low high h = refl
declared_below n k (pool.Own i) low high h = let b = ltb-true i n h in lt-ltb i 8 (omega arith)

pub pools_declared : (m : Program) → IsModule m → All (λ q. place_is_declared 8 q ≡ true) m.pools
pools_declared m s =
    all_of (λ q. place_is_declared 8 q ≡ true) m.pools (λ k q e. declared_below k (length m.pools) q (let l = slice_get_within m.pools k q e in omega arith) s.pools (s.parents k q e))

pub homes_declared : (m : Program) → IsModule m → All (λ q. place_is_declared 8 q ≡ true) m.brigades
homes_declared m s =
    all_of (λ q. place_is_declared 8 q ≡ true) m.brigades (λ k q e. declared_below (length m.pools) (length m.pools) q (omega arith) s.pools (s.homes k q e))

below_1024 : (n : ℕ) (o : Option ℕ) → n ≤ 1024 → IfSome o (λ t. t < n) → IfSome o (λ t. t < 1024)
below_1024 n None few h = tt
below_1024 n (Some t) few h = omega arith

abbrev room_of : List Instr → ℕ
room_of is = 97 * length is + 1022 * length (filter_map text_of_instr is)

handler_plain : (m : Program) (from : ℕ) (is : List Instr) → IsModule m → from + length is ≤ length m.code → ((k : ℕ) (i : Instr) → slice_get is k ≡ Some i → slice_get m.code (from + k) ≡ Some i)
    → IsFew (room_of is) (map code_text (printed_code m.texts m.code from is))
handler_plain m from is s low at =
    let printable = all_of (IsPrintable m) is (λ k i e. record {
      fit = (s.placed (from + k) i (at k i e)).fit;
      low = below_1024 (length m.code) (target i) s.size (s.placed (from + k) i (at k i e)).jump;
      text = text_quoted m i s (s.placed (from + k) i (at k i e)).fit;
    }) in
    code_plain m from is s.pools s.brigades (omega (arith, s.size)) printable

pub printed_is_text : (m : Program) → IsModule m → IsTextOf (printed m) m
unfolding printed
printed_is_text m s =
    let code = m.code in
    let as1 = slice_range code 0 m.init in
    let bs1 = slice_range code m.init m.main in
    let cs1 = slice_range code m.main (length code) in
    let low = s.opening.some in
    let mid = s.initial.some in
    let high = s.serving.some in
    let all : as1 ++ bs1 ++ cs1 ≡ code = cuts code m.init m.main (omega arith) in
    let len_a : length as1 ≡ m.init = cut_length code 0 m.init (omega arith) (omega arith) ∙ (let z : m.init - 0 ≡ m.init = omega arith in z) in
    let len_b : length bs1 ≡ m.main - m.init = cut_length code m.init m.main (omega arith) (omega arith) in
    let len_c : length cs1 ≡ length code - m.main = cut_length code m.main (length code) (omega arith) (omega arith) in
    let whole_a : code ≡ [] ++ (as1 ++ (bs1 ++ cs1)) = sym all ∙ append_assoc as1 bs1 cs1 in
    let whole_c : code ≡ (as1 ++ bs1) ++ (cs1 ++ []) = sym all ∙ ap (λ x. (as1 ++ bs1) ++ x) (sym (append-nil cs1)) in
    let front : length (as1 ++ bs1) ≡ m.main = omega (arith, length-append as1 bs1, len_a, len_b) in
    let front_at : 0 + length (as1 ++ bs1) ≡ m.main = omega (arith, front) in
    let end_a : 0 + length as1 ≡ m.init = omega (arith, len_a) in
    let end_b : m.init + length bs1 ≡ m.main = omega (arith, len_b) in
    let end_c : m.main + length cs1 ≡ length code = omega (arith, len_c) in
    let plain_a = handler_plain m 0 as1 s (omega (arith, end_a)) (λ k i e. (inside m part.Open 0 m.init [] as1 (bs1 ++ cs1) s s.opening whole_a refl end_a k i e).0) in
    let plain_b = handler_plain m m.init bs1 s (omega (arith, end_b)) (λ k i e. (inside m part.Init m.init m.main as1 bs1 cs1 s s.initial whole_a len_a end_b k i e).0) in
    let plain_c = handler_plain m m.main cs1 s (omega (arith, end_c)) (λ k i e. (inside m part.Main m.main (length code) (as1 ++ bs1) cs1 [] s s.serving whole_c front end_c k i e).0) in
    let first = printed_handler m.texts code 0 m.init in
    let second = printed_handler m.texts code m.init m.main in
    let third = printed_handler m.texts code m.main (length code) in
    let pools = pools_declared m s in
    let homes = homes_declared m s in
    let ps = pools_plain 0 m.pools (omega (arith, s.pools)) pools in
    let bs = brigades_plain 0 m.brigades (omega (arith, s.brigades)) homes in
    let few_pools : IsFew 448 (pool_texts 0 m.pools) = (ps.0, omega (arith, ps.1, s.pools)) in
    let few_brigades : IsFew 448 (brigade_texts 0 m.brigades) = (bs.0, omega (arith, bs.1, s.brigades)) in
    let plain = module_few m first second third (room_of as1) (room_of bs1) (room_of cs1) few_pools few_brigades plain_a plain_b plain_c in
    let numbers : List Instr → List ℕ = λ is. filter_map text_of_instr is in
    let cut : numbers code ≡ (numbers as1 ++ numbers bs1) ++ numbers cs1 =
    ap numbers (sym all) ∙ filter_map-append text_of_instr (as1 ++ bs1) cs1 ∙ ap (λ x. x ++ numbers cs1) (filter_map-append text_of_instr as1 bs1) in
    let texts : length (numbers as1) + length (numbers bs1) + length (numbers cs1) ≡ length m.texts = sym (ap length cut ∙ length-append (numbers as1 ++ numbers bs1) (numbers cs1)
    ∙ ap (λ k. k + length (numbers cs1)) (length-append (numbers as1) (numbers bs1))) ∙ ap length s.texts ∙ length-range_with_len 0 (length m.texts) in
    let lines = module_texts m first second third in
    let named : marks code 0 (as1 ++ bs1 ++ cs1) ≡ marks code 0 as1 ++ marks code m.init bs1 ++ marks code m.main cs1 =
    marks-append code 0 (as1 ++ bs1) cs1 ∙ rw (marks-append code 0 as1 bs1, end_a, front_at) refl in
    record {
      sound = s;
      lines = lines;
      whole = refl;
      small = omega (arith, plain.1, texts, s.few, len_a, len_b, len_c, s.size);
      clean = plain_clean lines plain.0;
      first = first;
      second = second;
      third = third;
      spelled = plain_statements lines plain.0;
      code = rw (instrs_printed m.texts code 0 as1, instrs_printed m.texts code m.init bs1, instrs_printed m.texts code m.main cs1) (sym all);
      inits = rw (instrs_printed m.texts code 0 as1) (sym len_a);
      mains = rw (instrs_printed m.texts code m.init bs1) (sym end_b);
      opening = handler_code m part.Open 0 m.init [] as1 (bs1 ++ cs1) s s.opening whole_a refl end_a s.size (omega arith);
      initial = handler_code m part.Init m.init m.main as1 bs1 cs1 s s.initial whole_a len_a end_b s.size (omega arith);
      serving = handler_code m part.Main m.main (length code) (as1 ++ bs1) cs1 [] s s.serving whole_c front end_c s.size (omega arith);
      distinct = rw (labels_printed m.texts code 0 as1, labels_printed m.texts code m.init bs1, labels_printed m.texts code m.main cs1)
          (subst AreDistinct named (marks_distinct code 0 (as1 ++ bs1 ++ cs1) (omega (arith, ap length all, s.size))));
    }
