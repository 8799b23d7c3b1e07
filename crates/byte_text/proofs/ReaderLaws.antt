-- A loop over the bytes of a text takes its lines in turn.
use Rattle.std.proofs.Common.{◌≡◌, ℕ, ◌+◌, ◌-◌, ◌<◌, ◌≤◌, true, false, eqb, List, [], ◌∷◌, ◌++◌, length, get_or, take, drop, Ok, refl, sym, ◌∙◌, ap, subst, arith, append_assoc, length-append}
use Rattle.std.proofs.Common.{length-drop, get_or-drop}
use Rattle.std.proofs.lemmas.List.{take_more}
use Rattle.byte_text.specs.LineReading.{AreTaken, LineTakes}
use Rattle.byte_text.specs.TextLines.{lines_from, rest_from}
use Rattle.byte_text.proofs.ListLaws.{drop_here}

-- the line that has begun
abbrev pub begun : List ℕ → ℕ → ℕ → List ℕ
begun text start i = take (i - start) (drop start text)

-- the lines so far are taken, and the others are those of the rest
pub record SoFar {S E : Type 0} (takes : LineTakes S E) (old : S) (text : List ℕ) (s : S) (number start i : ℕ) : Type 0 where
  pub within : start ≤ i
  pub few : number ≤ i + 1
  pub done : List (List ℕ)
  pub counted : number ≡ length done + 1
  pub taken : AreTaken takes old 1 done s
  pub lines : lines_from [] text ≡ done ++ lines_from (begun text start i) (drop i text)
  pub rest : rest_from [] text ≡ rest_from (begun text start i) (drop i text)

-- the line grows by one byte
grown : (text : List ℕ) (start i : ℕ) → start ≤ i → i < length text → begun text start (i + 1) ≡ begun text start i ++ get_or text i 0 ∷ []
grown text start i low high =
    let k : i + 1 - start ≡ i - start + 1 = omega arith in
    let at : get_or (drop start text) (i - start) 0 ≡ get_or text (start + (i - start)) 0 = get_or-drop start text (i - start) 0 in
    let same : start + (i - start) ≡ i = omega arith in
    rw (k, take_more (drop start text) (i - start) 0 (omega (arith, length-drop start text)), at, same) refl

push : {S E : Type 0} (takes : LineTakes S E) (s : S) (n m : ℕ) (ls : List (List ℕ)) (l : List ℕ) (t u : S) → m ≡ n + length ls → AreTaken takes s n ls t → takes t m l (Ok tt) u
    → AreTaken takes s n (ls ++ l ∷ []) u
push takes s n m [] l t u e a h = let k : m ≡ n = omega (arith, e) in (u, subst (λ x. takes s x l (Ok tt) u) k (subst (λ x. takes x m l (Ok tt) u) (sym a) h), refl)
push takes s n m (x ∷ ls) l t u e a h = (a.0, a.1, push takes a.0 (n + 1) m ls l t u (omega (arith, e)) a.2 h)

module _ {S E : Type 0} (takes : LineTakes S E) (old s : S) (text : List ℕ) (number start i : ℕ) (o : SoFar takes old text s number start i) where
  module _ (high : i < length text) where
    pub so_far_on : eqb (get_or text i 0) 10 ≡ false → SoFar takes old text s number start (i + 1)
    so_far_on e =
        let few = o.few in
        let low = o.within in
        record {
          within = omega (arith, low);
          few = omega (arith, few);
          done = o.done;
          counted = o.counted;
          taken = o.taken;
          lines = o.lines ∙ ap (λ x. o.done ++ x) (rw (grown text start i low high, drop_here text i 0 high, e) refl);
          rest = o.rest ∙ rw (grown text start i low high, drop_here text i 0 high, e) refl;
        }

    module _ (e : eqb (get_or text i 0) 10 ≡ true) where
      cut : lines_from [] text ≡ o.done ++ begun text start i ∷ lines_from [] (drop (i + 1) text)
      cut = o.lines ∙ ap (λ x. o.done ++ x) (rw (drop_here text i 0 high, e) refl)

      pub so_far_line : (next : S) → takes s number (begun text start i) (Ok tt) next → SoFar takes old text next (number + 1) (i + 1) (i + 1)
      so_far_line next h =
          let few = o.few in
          let count = o.counted in
          let none : i + 1 - (i + 1) ≡ 0 = omega arith in
          let size = length-append o.done (begun text start i ∷ []) in
          record {
            within = omega arith;
            few = omega (arith, few);
            done = o.done ++ begun text start i ∷ [];
            counted = omega (arith, count, size);
            taken = push takes old 1 number o.done (begun text start i) s next (omega (arith, count)) o.taken h;
            lines = cut ∙ rw none (sym (append_assoc o.done (begun text start i ∷ []) (lines_from [] (drop (i + 1) text))));
            rest = o.rest ∙ rw (none, drop_here text i 0 high, e) refl;
          }
