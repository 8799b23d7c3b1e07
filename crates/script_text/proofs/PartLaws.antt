-- Laws on the modules of a script, one after another.
use Rattle.std.proofs.Common.{◌≡◌, ◌==◌, Bool, true, false, ◌&&◌, ℕ, zero, suc, ◌+◌, List, [], ◌∷◌, ◌++◌, All, length, map, take, Option, Some, None, slice_get, refl, ap, sym, subst, ◌∙◌, append_assoc, arith}
use Rattle.std.proofs.lemmas.Bool.{eq-eqb}
use Rattle.std.proofs.lemmas.List.{length-append, map-append, append-nil}
use Rattle.std.proofs.lemmas.List.Elements.{All-head, All-tail, All-push}
use Rattle.module_code.specs.Program.{Program}
use Rattle.life_check.specs.Accepted.{CertifiedModule as Pair, modules_of, IsAccepted, IsChainRefusal}
use Rattle.life_check.specs.Certificates.{Certificate}
use Rattle.life_check.specs.Seen.{seen_cert}
use Rattle.life_check.specs.Versions.{names_shape, version_two}
use Rattle.life_check.specs.Typed.{IsTyped, first_refusal}
use Rattle.life_check.specs.declared.cert.Cert.{Cert}
use Rattle.life_check.specs.declared.refusal.CheckRefusal.{CheckRefusal}
use Rattle.life_check.specs.declared.refusal.ChainRefusal.TheVariants as chain
use Rattle.life_check.specs.Slim.{cert_refusal}
use Rattle.life_check.proofs.Meant.{none_accepts, whole_refusal}
use Rattle.life_check.proofs.TypedLaws.{none_typed}
use Rattle.life_cert.specs.Rounds.{made}
use Rattle.script_text.specs.declared.part.ScriptModule.{ScriptModule}
use Rattle.script_text.specs.Heads.{ScriptPart, seen_part}
use Rattle.script_text.specs.Certified.{AreCertified, refusal_with}
use Rattle.script_text.specs.Parts.{codes_of, first_from, refusal_of, refused_in, unless_first, unmade}

abbrev pub given : Program → Option Cert → ScriptPart
given p o = record { code = p; cert = o }

-- What is made is not refused.
made_none : (p : Program) (m : Certificate) → IsTyped p m → m ≡ made p → first_refusal p (made p) ≡ None
made_none p m typed is = none_typed p (made p) (subst (IsTyped p) is typed)

all_three : (a b c : Bool) → a ≡ true → b ≡ true → c ≡ true → (a && b && c) ≡ true
all_three a b c first second third = rw first (rw second (rw third refl))

-- a module has the shape that its own certificate of version 2 names
own_shape : (p : Program) → names_shape p (version_two p) ≡ true
own_shape p =
    all_three (length p.pools == length p.pools) (length p.brigades == length p.brigades) (length p.code == length p.code) (eq-eqb (length p.pools) (length p.pools) refl)
    (eq-eqb (length p.brigades) (length p.brigades) refl) (eq-eqb (length p.code) (length p.code) refl)

pub made_certified : (p : Program) (o : Option Cert) (c : Cert) → o ≡ None → c.version ≡ version_two p → c.slim ≡ false → IsTyped p (seen_cert c) → seen_cert c ≡ made p
    → (unmade (given p o) ≡ None) × (cert_refusal p c ≡ refusal_of (given p o))
made_certified p o c none named whole typed is =
    (ap (λ x. unmade (given p x)) none ∙ made_none p (seen_cert c) typed is, whole_refusal p c (ap (names_shape p) named ∙ own_shape p) whole ∙ (ap (first_refusal p) is ∙ ap (λ x. refusal_of (given p x)) (sym none)))

-- The first of some refusals.

goes_on : (k : ℕ) (o : Option CheckRefusal) (os : List (Option CheckRefusal)) → o ≡ None → first_from k (o ∷ os) ≡ first_from (k + 1) os
unfolding first_from
goes_on k o os none = rw none refl

stops : (k : ℕ) (o : Option CheckRefusal) (os : List (Option CheckRefusal)) (r : CheckRefusal) → o ≡ Some r → first_from k (o ∷ os) ≡ Some (k, r)
unfolding first_from
stops k o os r refused = rw refused refl

none_left : (k : ℕ) → first_from k [] ≡ None
unfolding first_from
none_left k = refl

-- One part more is taken from those that are left.

pub maps_on : {X Y : Type 0} (f : X → Y) (g : ScriptPart → Y) (xs new : List X) (left rest all : List ScriptModule) (p : ScriptModule) (x : X)
    → map f xs ++ map g (map seen_part left) ≡ map g (map seen_part all)
    → left ≡ p ∷ rest → new ≡ xs ++ x ∷ [] → f x ≡ g (seen_part p)
    → map f new ++ map g (map seen_part rest) ≡ map g (map seen_part all)
maps_on f g xs new left rest all p x so_far steps pushed same =
    ap (λ l. l ++ map g (map seen_part rest)) (ap (map f) pushed ∙ map-append f xs (x ∷ [])) ∙ append_assoc (map f xs) (f x ∷ []) (map g (map seen_part rest))
    ∙ ap (λ y. map f xs ++ (y ∷ map g (map seen_part rest))) same ∙ ap (λ l. map f xs ++ map g (map seen_part l)) (sym steps) ∙ so_far

pub codes_on : (mods new : List Program) (left rest all : List ScriptModule) (p : ScriptModule) (m : Program) → mods ++ codes_of (map seen_part left) ≡ codes_of (map seen_part all) → left ≡ p ∷ rest
    → new ≡ mods ++ m ∷ [] → m ≡ p.code
    → new ++ codes_of (map seen_part rest) ≡ codes_of (map seen_part all)
codes_on mods new left rest all p m so_far steps pushed same =
    ap (λ l. l ++ codes_of (map seen_part rest)) pushed ∙ append_assoc mods (m ∷ []) (codes_of (map seen_part rest))
    ∙ ap (λ y. mods ++ (y ∷ codes_of (map seen_part rest))) same ∙ ap (λ l. mods ++ codes_of (map seen_part l)) (sym steps) ∙ so_far

pub all_on : {X : Type 0} (P : X → Type 0) (xs new : List X) (x : X) → All P xs → new ≡ xs ++ x ∷ [] → P x → All P new
all_on P xs new x all pushed here = subst (All P) (sym pushed) (All-push P xs x all here)

-- A certificate was made or given: the others decide.
pub unmade_on : (pairs new : List Pair) (left rest all : List ScriptModule) (p : ScriptModule) (x : Pair)
    → first_from (length pairs) (map unmade (map seen_part left)) ≡ first_from 0 (map unmade (map seen_part all)) → left ≡ p ∷ rest → new ≡ pairs ++ x ∷ []
    → unmade (seen_part p) ≡ None → first_from (length new) (map unmade (map seen_part rest)) ≡ first_from 0 (map unmade (map seen_part all))
unmade_on pairs new left rest all p x so_far steps pushed none =
    let longer : length new ≡ length pairs + 1 = ap length pushed ∙ length-append pairs (x ∷ []) in
    ap (λ n. first_from n (map unmade (map seen_part rest))) longer ∙ sym (goes_on (length pairs) (unmade (seen_part p)) (map unmade (map seen_part rest)) none)
    ∙ ap (λ l. first_from (length pairs) (map unmade (map seen_part l))) (sym steps) ∙ so_far

pub unmade_at : (pairs : List Pair) (left rest all : List ScriptModule) (p : ScriptModule) (index : ℕ) (r : CheckRefusal)
    → first_from (length pairs) (map unmade (map seen_part left)) ≡ first_from 0 (map unmade (map seen_part all)) → left ≡ p ∷ rest → unmade (seen_part p) ≡ Some r
    → index ≡ length pairs → first_from 0 (map unmade (map seen_part all)) ≡ Some (index, r)
unmade_at pairs left rest all p index r so_far steps refused is =
    sym so_far ∙ ap (λ l. first_from (length pairs) (map unmade (map seen_part l))) steps ∙ stops (length pairs) (unmade (seen_part p)) (map unmade (map seen_part rest)) r refused
    ∙ ap (λ n. Some (n, r)) (sym is)

-- None is left.

pub nothing_left : (left : List ScriptModule) (n : ℕ) → n ≡ length left → n ≡ 0 → left ≡ []
nothing_left [] n is none = refl
nothing_left (p ∷ ps) n is none = absurd (omega arith)

whole : {X Y : Type 0} (f : X → Y) (g : ScriptPart → Y) (xs : List X) (left all : List ScriptModule) → left ≡ [] → map f xs ++ map g (map seen_part left) ≡ map g (map seen_part all)
    → map f xs ≡ map g (map seen_part all)
whole f g xs left all none so_far = sym (append-nil (map f xs)) ∙ ap (λ l. map f xs ++ map g (map seen_part l)) (sym none) ∙ so_far

pub all_certified : (pairs : List Pair) (left all : List ScriptModule) → left ≡ [] → modules_of pairs ++ codes_of (map seen_part left) ≡ codes_of (map seen_part all)
    → map refusal_with pairs ++ map refusal_of (map seen_part left) ≡ map refusal_of (map seen_part all)
    → first_from (length pairs) (map unmade (map seen_part left)) ≡ first_from 0 (map unmade (map seen_part all))
    → AreCertified pairs (map seen_part all)
all_certified pairs left all none codes refusals made = record {
  codes = whole (λ (x : Pair). x.0) (λ (x : ScriptPart). x.code) pairs left all none codes;
  refusals = whole refusal_with refusal_of pairs left all none refusals;
  made = sym made ∙ ap (λ l. first_from (length pairs) (map unmade (map seen_part l))) none ∙ none_left (length pairs);
}

-- The first refusal in a chain.

first_at : (k : ℕ) (pairs : List Pair) (index n : ℕ) (x : Pair) (r : CheckRefusal) → n ≡ k + index → slice_get pairs index ≡ Some x → refusal_with x ≡ Some r → All IsAccepted (take index pairs)
    → first_from k (map refusal_with pairs) ≡ Some (n, r)
first_at k [] index n x r is at refused before = cc
first_at k (y ∷ ys) zero n x r is at refused before =
    let here : y ≡ x = cc in
    stops k (refusal_with y) (map refusal_with ys) r (ap refusal_with here ∙ refused) ∙ ap (λ m. Some (m, r)) (omega (arith, is))
first_at k (y ∷ ys) (suc index) n x r is at refused before =
    goes_on k (refusal_with y) (map refusal_with ys) (none_accepts y.0 y.1 (All-head IsAccepted y (take index ys) before))
    ∙ first_at (k + 1) ys index n x r (omega (arith, is)) at refused (All-tail IsAccepted y (take index ys) before)

none_at : (k : ℕ) (pairs : List Pair) → All IsAccepted pairs → first_from k (map refusal_with pairs) ≡ None
none_at k [] all = none_left k
none_at k (y ∷ ys) all =
    goes_on k (refusal_with y) (map refusal_with ys) (none_accepts y.0 y.1 (All-head IsAccepted y ys all)) ∙ none_at (k + 1) ys (All-tail IsAccepted y ys all)

-- A certificate is missing, and none can be made.
pub refused_unmade : (xs : List ScriptPart) (index : ℕ) (r : CheckRefusal) → first_from 0 (map unmade xs) ≡ Some (index, r) → refused_in xs ≡ Some (index, r)
refused_unmade xs index r refused = ap (λ o. unless_first o (first_from 0 (map refusal_of xs))) refused

judged : (pairs : List Pair) (xs : List ScriptPart) → AreCertified pairs xs → refused_in xs ≡ first_from 0 (map refusal_with pairs)
judged pairs xs are = ap (λ o. unless_first o (first_from 0 (map refusal_of xs))) are.made ∙ ap (first_from 0) (sym are.refusals)

-- A module is refused with its certificate.
pub refused_with : (pairs : List Pair) (xs : List ScriptPart) (index : ℕ) (r : CheckRefusal) → AreCertified pairs xs → IsChainRefusal pairs (chain.At index r) → refused_in xs ≡ Some (index, r)
refused_with pairs xs index r are (x, at, refused, before) = judged pairs xs are ∙ first_at 0 pairs index index x r (omega arith) at refused before

-- Each is accepted.
pub none_refused : (pairs : List Pair) (xs : List ScriptPart) → AreCertified pairs xs → All IsAccepted pairs → refused_in xs ≡ None
none_refused pairs xs are all = judged pairs xs are ∙ none_at 0 pairs all
