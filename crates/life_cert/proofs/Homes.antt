-- Homes that are written one after another.
use Rattle.std.proofs.Common.{◌≡◌, ℕ, ◌+◌, ◌<◌, Bool, true, false, not, List, [], ◌∷◌, ◌++◌, length, get_or, drop, codes, Option, refl, ap, subst, ◌∙◌, add-one, drop-cons}
use Rattle.std.specs.Prelude.{Result, is_err, if◌then◌else◌}
use Rattle.byte_text.specs.Writes.{AppendsText, WriterState, Wrote}
use Rattle.byte_text.proofs.WritingLaws.{Leaves, leaves_all, leaves_fault, leaves_last, leaves_less}
use Rattle.life_state.specs.States.{Homes}
use Rattle.life_cert.proofs.Writing.{Front}
use Rattle.life_cert.specs.declared.print_state.HomeWord.{HomeWord}
use Rattle.life_cert.specs.declared.print_state.HomeWord.TheVariants as home
use Rattle.life_cert.specs.StateText.{where_holds, homes, home_text, has_home, more_homes, some_homes, homes_text}

-- what is left to be written of these homes, by whether one was written
abbrev pub rest_homes : Bool → Homes → List HomeWord → List ℕ
rest_homes true h xs = more_homes h xs
rest_homes false h xs = some_homes h xs

-- the homes from number i on are left
pub record LeavesHomes (a b : WriterState) (any : Bool) (h : Homes) (i : ℕ) : Type 0 where
  pub left : Leaves a b (homes_text h) (rest_homes any h (drop i homes))

pub homes_begin : (a : WriterState) (h : Homes) → LeavesHomes a a false h 0
unfolding homes_text
homes_begin a h = record { left = leaves_all a (homes_text h) }

rest_has : (any : Bool) (h : Homes) (x : HomeWord) (xs : List HomeWord) → has_home h x ≡ true → rest_homes any h (x ∷ xs) ≡ where_holds any (codes ",") ++ (home_text x ++ more_homes h xs)
rest_has true h x xs has = ap (λ (b : Bool). where_holds b (codes "," ++ home_text x) ++ more_homes h xs) has
rest_has false h x xs has = ap (λ (b : Bool). if b then home_text x ++ more_homes h xs else some_homes h xs) has

rest_lacks : (any : Bool) (h : Homes) (x : HomeWord) (xs : List HomeWord) → has_home h x ≡ false → rest_homes any h (x ∷ xs) ≡ rest_homes any h xs
rest_lacks true h x xs has = ap (λ (b : Bool). where_holds b (codes "," ++ home_text x) ++ more_homes h xs) has
rest_lacks false h x xs has = ap (λ (b : Bool). if b then home_text x ++ more_homes h xs else some_homes h xs) has

rest_none : (any : Bool) (h : Homes) → rest_homes any h [] ≡ where_holds (not any) (codes "-")
rest_none true h = refl
rest_none false h = refl

next_home : (i : ℕ) → i < 11 → drop i homes ≡ get_or homes i home.Call ∷ drop (i + 1) homes
next_home i below = let inside : i < length homes = below in rw (add-one, drop-cons homes i home.Call) refl

module _ (a b : WriterState) (any : Bool) (h : Homes) (i : ℕ) (l : LeavesHomes a b any h i) (below : i < 11) where
  -- one that is not meant is left out
  pub home_lacks : has_home h (get_or homes i home.Call) ≡ false → LeavesHomes a b any h (i + 1)
  home_lacks has = record {
    left = subst (Leaves a b (homes_text h)) (ap (λ xs. rest_homes any h xs) (next_home i below) ∙ rest_lacks any h (get_or homes i home.Call) (drop (i + 1) homes) has) l.left;
  }

  -- before one that is meant a comma is left
  pub comma_left : has_home h (get_or homes i home.Call) ≡ true → Leaves a b (homes_text h) (where_holds any (codes ",") ++ (home_text (get_or homes i home.Call) ++ more_homes h (drop (i + 1) homes)))
  comma_left has = subst (Leaves a b (homes_text h)) (ap (λ xs. rest_homes any h xs) (next_home i below) ∙ rest_has any h (get_or homes i home.Call) (drop (i + 1) homes) has) l.left

  pub name_left : (c : WriterState) → has_home h (get_or homes i home.Call) ≡ true → AppendsText b c (where_holds any (codes ","))
      → Leaves a c (homes_text h) (home_text (get_or homes i home.Call) ++ more_homes h (drop (i + 1) homes))
  name_left c has k = leaves_less a b c (homes_text h) (where_holds any (codes ",")) (home_text (get_or homes i home.Call) ++ more_homes h (drop (i + 1) homes)) (comma_left has) k

  pub home_written : (c d : WriterState) → has_home h (get_or homes i home.Call) ≡ true → AppendsText b c (where_holds any (codes ",")) → AppendsText c d (home_text (get_or homes i home.Call))
      → LeavesHomes a d true h (i + 1)
  home_written c d has k m = record { left = leaves_less a c d (homes_text h) (home_text (get_or homes i home.Call)) (more_homes h (drop (i + 1) homes)) (name_left c has k) m }

  pub comma_fault : {F : Type 0} (c : WriterState) (r : Result (Unit {0}) F) → has_home h (get_or homes i home.Call) ≡ true → is_err r ≡ true → Front b c (where_holds any (codes ","))
      → Wrote r a c (homes_text h)
  comma_fault c r has fault k =
      leaves_fault {E = ℕ} a b c (homes_text h) (where_holds any (codes ",")) (home_text (get_or homes i home.Call) ++ more_homes h (drop (i + 1) homes)) 0 r fault (comma_left has) k

  pub name_fault : {F : Type 0} (c d : WriterState) (r : Result (Unit {0}) F) → has_home h (get_or homes i home.Call) ≡ true → is_err r ≡ true → AppendsText b c (where_holds any (codes ","))
      → Front c d (home_text (get_or homes i home.Call)) → Wrote r a d (homes_text h)
  name_fault c d r has fault k m = leaves_fault {E = ℕ} a c d (homes_text h) (home_text (get_or homes i home.Call)) (more_homes h (drop (i + 1) homes)) 0 r fault (name_left c has k) m

pub homes_end : {E : Type 0} (a b c : WriterState) (any : Bool) (h : Homes) (r : Result (Unit {0}) E) → LeavesHomes a b any h 11 → Wrote r b c (where_holds (not any) (codes "-"))
    → Wrote r a c (homes_text h)
homes_end a b c any h r l k = leaves_last a b c (homes_text h) (where_holds (not any) (codes "-")) r (subst (Leaves a b (homes_text h)) (rest_none any h) l.left) k
