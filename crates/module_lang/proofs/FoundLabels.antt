-- Labels without a fault are distinct, and each target that is not lost has its label.
use Rattle.std.proofs.Common.{◌≡◌, ◌≢◌, ℕ, ◌+◌, Bool, true, false, not, cond, leb, nat_eq, List, [], ◌∷◌, ◌++◌, Option, Some, None, inl, inr, ◌⊎◌, refl, sym, ◌∙◌, ap, subst, append_assoc, append-nil}
use Rattle.std.specs.Prelude.{IfSome, is_some, map, option_map, unwrap_or}
use Rattle.std.specs.Cmp.Lexicographic.{pointwise, same_text}
use Rattle.module_lang.specs.Handlers.{is_named, is_lost, is_missing, jump_fault, label_fault, label_of, op_instr, fault, place_from, step_code, target_place}
use Rattle.module_lang.specs.Labels.{place_of}
use Rattle.module_code.specs.Names.{is_name}
use Rattle.module_code.specs.Program.{target}
use Rattle.module_code.specs.Spelling.{operands_of}
use Rattle.module_lang.specs.Texts.{AreDistinct, IsAimed, IsApart, IsLabel}
use Rattle.module_lang.specs.declared.draft.Label.{Label}
use Rattle.module_code.specs.declared.operand.Operands.{Operands}
use Rattle.module_lang.specs.declared.refusal.Code.TheVariants as code
use Rattle.module_code.specs.declared.word.Op.{Op}
use Rattle.module_lang.proofs.ArgLaws.{label_target, target_moved}
use Rattle.module_lang.proofs.RawLines.{AreBuilt, Raw, marked, did, raw_steps}
use Rattle.module_lang.proofs.FoundModule.{line_of, unnamed_apart}
use Rattle.module_lang.proofs.LabelLaws.{HaveLabelNames, Marked, HaveThoseNames, name_stripped, named-append, stripped}
use Rattle.module_lang.proofs.SpellingLaws.{padded}

apart_push : (n : List ℕ) (bs : List (List ℕ × ℕ)) (x : List ℕ × ℕ) → IsApart n bs → n ≢ x.0 → IsApart n (bs ++ x ∷ [])
apart_push n [] x a h = (h, tt)
apart_push n (b ∷ bs) x a h = (a.0, apart_push n bs x a.1 h)

distinct_push : (bs : List (List ℕ × ℕ)) (x : List ℕ × ℕ) → AreDistinct bs → IsApart x.0 bs → AreDistinct (bs ++ x ∷ [])
distinct_push [] x d a = (tt, tt)
distinct_push (b ∷ bs) x d a = (apart_push b.0 bs x d.0 (λ e. a.0 (sym e)), distinct_push bs x d.1 a.1)

-- labels without a fault differ from those before them, and from one another
pub labels_distinct : (before ls : List Label) (bs xs : List (List ℕ × ℕ)) (count : ℕ) → HaveThoseNames before bs → HaveThoseNames ls xs → AreDistinct bs → label_fault before count ls ≡ None
    → AreDistinct (bs ++ xs)
labels_distinct before [] bs [] count b n d h = rw (append-nil bs) d
labels_distinct before [] bs (x ∷ xs) count b n d h = absurd n
labels_distinct before (l ∷ ls) bs [] count b n d h = absurd n
labels_distinct before (l ∷ ls) bs (x ∷ xs) count b n d h =
    named (is_named l.name before) refl (λ a e. subst AreDistinct (append_assoc bs (x ∷ []) xs)
    (labels_distinct (before ++ l ∷ []) ls (bs ++ x ∷ []) xs count (named-append before (l ∷ []) bs (x ∷ []) b (n.0, tt)) n.1 (distinct_push bs x d a) e)) h
  where
    new : is_named l.name before ≡ false → IsApart x.0 bs
    new q = unnamed_apart x.0 before bs b (ap (λ y. is_named y before) (sym n.0) ∙ q)

    lost : (y : Bool) → (label_fault (before ++ l ∷ []) count ls ≡ None → AreDistinct (bs ++ x ∷ xs)) → cond y (fault l.line code.LostLabel) (label_fault (before ++ l ∷ []) count ls) ≡ None
        → AreDistinct (bs ++ x ∷ xs)
    lost true more e = absurd (cc e)
    lost false more e = more e

    named : (y : Bool) → is_named l.name before ≡ y → (IsApart x.0 bs → label_fault (before ++ l ∷ []) count ls ≡ None → AreDistinct (bs ++ x ∷ xs))
        → cond y (fault l.line code.DoubledLabel) (cond (leb count l.place) (fault l.line code.LostLabel) (label_fault (before ++ l ∷ []) count ls)) ≡ None → AreDistinct (bs ++ x ∷ xs)
    named true q more e = absurd (cc e)
    named false q more e = lost (leb count l.place) (more (new q)) e

-- where a name is found, there is a label of that name
found_label : (base : ℕ) (name : List ℕ) (k : ℕ) (f : Option ℕ) (ls : List Label) (xs : List (List ℕ × ℕ)) → is_name name ≡ true → Marked base ls xs → HaveLabelNames xs
    → place_from f (padded name) ls ≡ Some k → (f ≡ Some k) ⊎ IsLabel name (base + k) xs
found_label base name k f [] [] v m r h = inl h
found_label base name k f [] (x ∷ xs) v m r h = absurd m
found_label base name k f (l ∷ ls) [] v m r h = absurd m
found_label base name k f (l ∷ ls) (x ∷ xs) v m r h = here (pointwise nat_eq l.name (padded name)) refl (λ g e. found_label base name k g ls xs v m.2 r.1 e) h
  where
    same : pointwise nat_eq l.name (padded name) ≡ true → x.0 ≡ name
    same q = sym (name_stripped x.0 r.0) ∙ ap stripped (sym m.0 ∙ same_text l.name (padded name) (sym q)) ∙ name_stripped name v

    first : pointwise nat_eq l.name (padded name) ≡ true → (Some l.place ≡ Some k) ⊎ IsLabel name (base + k) xs → (f ≡ Some k) ⊎ IsLabel name (base + k) (x ∷ xs)
    first q (inl e) = let p : l.place ≡ k = cc e in inr (inl (same q, sym m.1 ∙ ap (λ j. base + j) p))
    first q (inr e) = inr (inr e)

    later : (f ≡ Some k) ⊎ IsLabel name (base + k) xs → (f ≡ Some k) ⊎ IsLabel name (base + k) (x ∷ xs)
    later (inl e) = inl e
    later (inr e) = inr (inr e)

    here : (b : Bool) → pointwise nat_eq l.name (padded name) ≡ b → ((g : Option ℕ) → place_from g (padded name) ls ≡ Some k → (g ≡ Some k) ⊎ IsLabel name (base + k) xs)
        → place_from (cond b (Some l.place) f) (padded name) ls ≡ Some k → (f ≡ Some k) ⊎ IsLabel name (base + k) (x ∷ xs)
    here true q more e = first q (more (Some l.place) e)
    here false q more e = later (more f e)

-- a name that is not lost has a label at its target
label_there : (base : ℕ) (name : List ℕ) (r : Option (List ℕ)) (ls : List Label) (xs : List (List ℕ × ℕ)) → r ≡ Some (padded name) → is_name name ≡ true → Marked base ls xs → HaveLabelNames xs
    → is_missing ls r ≡ false → IsLabel name (base + target_place ls r) xs
unfolding place_of
label_there base name None ls xs e v m n h = absurd (cc e)
label_there base name (Some y) ls xs e v m n h = at (place_from None y ls) refl h
  where
    only : (k : ℕ) → (None ≡ Some k) ⊎ IsLabel name (base + k) xs → IsLabel name (base + k) xs
    only k (inl e) = absurd (cc e)
    only k (inr e) = e

    at : (o : Option ℕ) → place_from None y ls ≡ o → not (is_some o) ≡ false → IsLabel name (base + unwrap_or o 0) xs
    at None q h = absurd (cc h)
    at (Some k) q h = let s : y ≡ padded name = cc e in only k (found_label base name k None ls xs v m n (ap (λ z. place_from None z ls) (sym s) ∙ q))

-- an instruction that names no lost label is aimed at a label of that name
op_aimed : (base : ℕ) (i : Op) (o : Operands) (x k : ℕ) (name : List ℕ) (ls : List Label) (xs : List (List ℕ × ℕ)) → o ≡ operands_of (op_instr i o x 0) (padded name) k → IfSome (target (op_instr i
    o x 0)) (λ _. is_name name ≡ true) → Marked base ls xs → HaveLabelNames xs → is_lost ls o ≡ false → IfSome (target (op_instr i o x (base + target_place ls (label_of o)))) (λ t. IsLabel name t xs)
op_aimed base i o x k name ls xs e v m n h = subst (λ y. IfSome y (λ t. IsLabel name t xs)) (sym (target_moved i o x (base + target_place ls (label_of o))))
    (by_target (target (op_instr i o x 0)) (ap label_of e ∙ label_target (op_instr i o x 0) (padded name) k) v)
  where
    by_target : (y : Option ℕ) → label_of o ≡ option_map (λ _. padded name) y → IfSome y (λ _. is_name name ≡ true)
        → IfSome (option_map (λ _. base + target_place ls (label_of o)) y) (λ t. IsLabel name t xs)
    by_target None q w = tt
    by_target (Some u) q w = label_there base name (label_of o) ls xs q w m n h

-- instructions without a lost label are aimed
pub lines_aimed : (base n : ℕ) (ls : List Label) (xs : List (List ℕ × ℕ)) (rs : List Raw) → Marked base ls xs → HaveLabelNames xs → AreBuilt n rs → jump_fault ls (raw_steps rs) ≡ None
    → IsAimed xs (map (line_of base ls) rs)
unfolding step_code
lines_aimed base n ls xs [] m v b h = tt
lines_aimed base n ls xs (marked l name ∷ rs) m v b h = lines_aimed base n ls xs rs m v b.3 h
lines_aimed base n ls xs (did s name w ∷ rs) m v b h = here (is_lost ls s.operands) refl (lines_aimed base (n + 1) ls xs rs m v b.2) h
  where
    here : (y : Bool) → is_lost ls s.operands ≡ y → (jump_fault ls (raw_steps rs) ≡ None → IsAimed xs (map (line_of base ls) rs))
        → cond y (fault s.line code.LostLabel) (jump_fault ls (raw_steps rs)) ≡ None → IsAimed xs (map (line_of base ls) (did s name w ∷ rs))
    here true q more e = absurd (cc e)
    here false q more e = (op_aimed base s.op s.operands s.text b.0.0 name ls xs b.0.1 b.1 m v q, more e)
