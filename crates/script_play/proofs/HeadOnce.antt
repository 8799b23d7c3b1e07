-- What a script says before its commands is read in one way. (A certificate of the code is known by what it stands for.)
use Rattle.std.proofs.Common.{◌≡◌, ◌≢◌, ℕ, zero, suc, ◌+◌, ◌≤◌, Bool, true, false, ◌&&◌, ◌||◌, not, nat_le, nat_lt, if◌then◌else◌, List, [], ◌∷◌, ◌++◌, length, map, Option, Some, None, is_some, Result, Ok, Err, MatchBool, refl, sym, ap, ap₂, subst, ◌∙◌, arith, slice_get}
use Rattle.std.proofs.Math.Path.{fun_ext}
use Rattle.std.proofs.lemmas.Bool.{leb-true, leb-false}
use Rattle.std.proofs.lemmas.Option.{slice_get_past}
use Rattle.module_code.specs.Program.{Program}
use Rattle.byte_text.specs.TextLines.{RawLine}
use Rattle.module_lang.specs.Codes.{code_number}
use Rattle.module_lang.specs.FirstFault.{IsReadAs}
use Rattle.module_lang.specs.declared.refusal.AsmRefusal.{AsmRefusal}
use Rattle.module_lang.specs.declared.refusal.AsmRefusal.TheVariants as asm
use Rattle.module_lang.proofs.FirstLaws.{reads_once}
use Rattle.life_state.specs.States.{State}
use Rattle.life_check.specs.Certificates.{Certificate}
use Rattle.life_check.specs.Seen.{seen_cert, seen_line}
use Rattle.life_check.specs.Slim.{at_leaders, cert_refusal, completion}
use Rattle.life_check.specs.Typed.{first_refusal, has_shape, or_else, unless}
use Rattle.life_check.specs.Versions.{names_shape}
use Rattle.life_check.specs.declared.cert.Cert.{Cert}
use Rattle.life_check.specs.declared.refusal.CheckRefusal.{CheckRefusal}
use Rattle.life_check.specs.declared.refusal.Rule.TheVariants.{Shape}
use Rattle.life_check.specs.declared.version.CertVersion.{CertVersion}
use Rattle.life_cert.specs.Codes.{code_number as cert_number}
use Rattle.life_cert.specs.Reading.{HasCertLineCode, HaveSameStates, IsCertText, IsCertificate, IsPrinted, IsReported, IsWritable}
use Rattle.life_cert.specs.declared.refusal.CertCode.{CertCode}
use Rattle.life_cert.specs.declared.refusal.CertCode.TheVariants as code
use Rattle.life_cert.specs.declared.refusal.CertRefusal.{CertRefusal}
use Rattle.life_cert.specs.declared.refusal.CertRefusal.TheVariants as cert
use Rattle.life_cert.proofs.OneCert.{read_again}
use Rattle.life_cert.proofs.OneState.{one_state}
use Rattle.life_cert.proofs.PrintedCert.{no_fault}
use Rattle.script_text.specs.declared.texts.HeadPlace.{HeadPlace}
use Rattle.script_text.specs.declared.texts.HeadPlace.TheVariants as place
use Rattle.script_text.specs.declared.texts.LineTaken.{LineTaken}
use Rattle.script_text.specs.declared.texts.LineTaken.TheVariants as taken
use Rattle.script_text.specs.Heads.{EndsCert, EndsHead, EndsHeadAt, EndsModule, IsCertRead, IsModuleRead, LineMoves, ReadsCertText, ScriptHead, ScriptPart, TakesBehind, TakesBehindModule, TakesBehindSkipped}
use Rattle.script_text.specs.Heads.{TakesChecked, TakesHeading, TakesInCert, TakesInModule, TakesLine, TakesLineAt, at_line, begins_module, goes_on, is_skipped, line_bytes, more, over, with_cert, with_line}
use Rattle.script_text.specs.Lines.{begins_cert, is_end}
use Rattle.script_text.specs.Parts.{codes_of, first_from, made_refusal, refusal_by, refusal_of, refused_in, unless_first, unmade, unmade_by}
use Rattle.script_text.specs.Refusals.{cert_line}
use Rattle.script_text.specs.Replies.{asm_line, script_line}
use Rattle.script_text.specs.Scripts.{budget_at}

-- Two certificates that stand for the same.
abbrev pub AlikeCert : Option Cert → Option Cert → Type 0
AlikeCert None None = Unit {0}
AlikeCert None (Some d) = ⊥
AlikeCert (Some c) None = ⊥
AlikeCert (Some c) (Some d) = (c.version ≡ d.version) × (c.slim ≡ d.slim) × (seen_cert c ≡ seen_cert d)

-- Two lists of modules, with certificates that stand for the same.
abbrev pub AlikeParts : List ScriptPart → List ScriptPart → Type 0
AlikeParts [] [] = Unit {0}
AlikeParts [] (y ∷ ys) = ⊥
AlikeParts (x ∷ xs) [] = ⊥
AlikeParts (x ∷ xs) (y ∷ ys) = (x.code ≡ y.code) × AlikeCert x.cert y.cert × AlikeParts xs ys

pub record AlikeHeads (h k : ScriptHead) : Type 0 where
  pub parts : AlikeParts h.parts k.parts
  pub budget : h.budget ≡ k.budget
  pub place : h.place ≡ k.place
  pub text : h.text ≡ k.text
  pub before : h.before ≡ k.before

-- Of lists.

pub alike_length : (xs ys : List ScriptPart) → AlikeParts xs ys → length xs ≡ length ys
alike_length [] [] a = refl
alike_length [] (y ∷ ys) a = absurd a
alike_length (x ∷ xs) [] a = absurd a
alike_length (x ∷ xs) (y ∷ ys) a = ap (λ (n : ℕ). suc n) (alike_length xs ys a.2)

alike_added : (xs ys : List ScriptPart) (x y : ScriptPart) → AlikeParts xs ys → (x.code ≡ y.code) → AlikeCert x.cert y.cert → AlikeParts (xs ++ x ∷ []) (ys ++ y ∷ [])
alike_added [] [] x y a same alike = (same, alike, tt)
alike_added [] (z ∷ ys) x y a same alike = absurd a
alike_added (w ∷ xs) [] x y a same alike = absurd a
alike_added (w ∷ xs) (z ∷ ys) x y a same alike = (a.0, a.1, alike_added xs ys x y a.2 same alike)

alike_certified : (c d : Cert) → AlikeCert (Some c) (Some d) → (xs ys : List ScriptPart) → AlikeParts xs ys → AlikeParts (with_cert c xs) (with_cert d ys)
unfolding with_cert
alike_certified c d same [] [] a = tt
alike_certified c d same [] (y ∷ ys) a = absurd a
alike_certified c d same (x ∷ xs) [] a = absurd a
alike_certified c d same (x ∷ []) (y ∷ []) a = (a.0, same, tt)
alike_certified c d same (x ∷ []) (y ∷ (z ∷ zs)) a = absurd a.2
alike_certified c d same (x ∷ (w ∷ ws)) (y ∷ []) a = absurd a.2
alike_certified c d same (x ∷ (w ∷ ws)) (y ∷ (z ∷ zs)) a = (a.0, a.1, alike_certified c d same (w ∷ ws) (z ∷ zs) a.2)

pub alike_codes : (xs ys : List ScriptPart) → AlikeParts xs ys → codes_of xs ≡ codes_of ys
alike_codes [] [] a = refl
alike_codes [] (y ∷ ys) a = absurd a
alike_codes (x ∷ xs) [] a = absurd a
alike_codes (x ∷ xs) (y ∷ ys) a = ap₂ (λ (p : Program) (ps : List Program). p ∷ ps) a.0 (alike_codes xs ys a.2)

-- Of what is refused.

cert_refused : (p : Program) (c d : Cert) → AlikeCert (Some c) (Some d) → cert_refusal p c ≡ cert_refusal p d
cert_refused p c d a =
    ap (λ (v : CertVersion). by v c.slim (seen_cert c)) a.0 ∙ ap (λ (b : Bool). by d.version b (seen_cert c)) a.1 ∙ ap (λ (s : Certificate). by d.version d.slim s) a.2 where
      by : CertVersion → Bool → Certificate → Option CheckRefusal
      by v slim s =
          or_else (unless (names_shape p v) 0 Shape)
          (or_else (unless (not slim || (has_shape p s && at_leaders p s)) 0 Shape) (first_refusal p (if slim then completion p s else s)))

refused_part : (x y : ScriptPart) (c d : Option Cert) → x.code ≡ y.code → AlikeCert c d → refusal_by x.code c ≡ refusal_by y.code d
refused_part x y None None same a = ap made_refusal same
refused_part x y None (Some d) same a = absurd a
refused_part x y (Some c) None same a = absurd a
refused_part x y (Some c) (Some d) same a = cert_refused x.code c d a ∙ ap (λ (p : Program). cert_refusal p d) same

unmade_part : (x y : ScriptPart) (c d : Option Cert) → x.code ≡ y.code → AlikeCert c d → unmade_by x c ≡ unmade_by y d
unmade_part x y None None same a = ap made_refusal same
unmade_part x y None (Some d) same a = absurd a
unmade_part x y (Some c) None same a = absurd a
unmade_part x y (Some c) (Some d) same a = refl

refused_parts : (xs ys : List ScriptPart) → AlikeParts xs ys → map refusal_of xs ≡ map refusal_of ys
refused_parts [] [] a = refl
refused_parts [] (y ∷ ys) a = absurd a
refused_parts (x ∷ xs) [] a = absurd a
refused_parts (x ∷ xs) (y ∷ ys) a = ap₂ (λ (o : Option CheckRefusal) (os : List (Option CheckRefusal)). o ∷ os) (refused_part x y x.cert y.cert a.0 a.1) (refused_parts xs ys a.2)

unmade_parts : (xs ys : List ScriptPart) → AlikeParts xs ys → map unmade xs ≡ map unmade ys
unmade_parts [] [] a = refl
unmade_parts [] (y ∷ ys) a = absurd a
unmade_parts (x ∷ xs) [] a = absurd a
unmade_parts (x ∷ xs) (y ∷ ys) a = ap₂ (λ (o : Option CheckRefusal) (os : List (Option CheckRefusal)). o ∷ os) (unmade_part x y x.cert y.cert a.0 a.1) (unmade_parts xs ys a.2)

pub alike_refused : (xs ys : List ScriptPart) → AlikeParts xs ys → refused_in xs ≡ refused_in ys
alike_refused xs ys a =
    ap₂ (λ (os ps : List (Option CheckRefusal)). unless_first (first_from 0 os) (first_from 0 ps)) (unmade_parts xs ys a) (refused_parts xs ys a)

-- A certificate text is read in one way.

writable : (c : Cert) → IsCertificate (seen_cert c) → IsWritable (seen_cert c)
writable c h =
    let gone : (pc : ℕ) → length c.at.items ≤ pc → seen_line (slice_get c.at.items pc) ≡ None = λ pc past. ap seen_line (slice_get_past c.at.items pc past) in
    let few = h.few in
    record { idle = h.idle; ready = h.ready; at = h.at; none = gone; few = λ pc high. gone pc (omega (arith, few, high)) }

lines_low : (c d : Certificate) (n : ℕ) → c.lines ≡ n → IsCertificate c → IsWritable d → ((pc : ℕ) → c.at pc ≡ d.at pc) → n ≤ d.lines
lines_low c d zero is sound other same = omega (arith)
lines_low c d (suc n) is sound other same = by (nat_le d.lines n) refl where
  by : (b : Bool) → nat_le d.lines n ≡ b → suc n ≤ d.lines
  by true low =
      let few = leb-true d.lines n low in
      let some : is_some (c.at n) ≡ true = sound.last n (omega (arith, is)) in
      let none : is_some (c.at n) ≡ false = ap is_some (same n ∙ other.none n few) in
      absurd (cc)
  by false high = omega (arith, leb-false d.lines n high)

same_seen : (c d : Certificate) → IsCertificate c → IsWritable c → IsCertificate d → IsWritable d → HaveSameStates c d → c ≡ d
same_seen c d sound one other two same =
    let low = lines_low c d c.lines refl sound two same.at in
    let high = lines_low d c d.lines refl other one (λ pc. sym (same.at pc)) in
    let lines : c.lines ≡ d.lines = omega (arith, low, high) in
    ap (λ (o : Option State). record c { idle = o }) same.idle ∙ ap (λ (o : Option State). record c { idle = d.idle; ready = o }) same.ready
    ∙ ap (λ (f : ℕ → Option State). record c { idle = d.idle; ready = d.ready; at = f }) (fun_ext same.at)
    ∙ ap (λ (n : ℕ). record d { lines = n }) lines

module _ (text : List ℕ) where
  printed_so : (c : Cert) → IsCertText text c.version c.slim (seen_cert c) → IsPrinted text c.version c.slim (seen_cert c)
  printed_so c x = record { writable = writable c x.sound; named = x.named; whole = x.whole }

  certs_once : (c d : Cert) → IsCertText text c.version c.slim (seen_cert c) → IsCertText text d.version d.slim (seen_cert d) → AlikeCert (Some c) (Some d)
  certs_once c d x y =
      let again = read_again one_state text (Ok c) x tt d.version d.slim (seen_cert d) (printed_so d y) in
      (again.0, again.1, same_seen (seen_cert c) (seen_cert d) x.sound (writable c x.sound) y.sound (writable d y.sound) again.2)

  not_both : (c : Cert) (n : ℕ) (k : CertCode) → IsCertText text c.version c.slim (seen_cert c) → IsReported text (cert.Fault n k) → ⊥
  not_both c n k x told = no_fault one_state text c.version c.slim (seen_cert c) n k (printed_so c x) told.fits

  same_code : (c d : CertCode) → cert_number c ≡ cert_number d → c ≡ d
  same_code code.BadByte code.BadByte is = refl
  same_code code.BadByte code.NotDue is = absurd (cc)
  same_code code.BadByte code.NotState is = absurd (cc)
  same_code code.NotDue code.BadByte is = absurd (cc)
  same_code code.NotDue code.NotDue is = refl
  same_code code.NotDue code.NotState is = absurd (cc)
  same_code code.NotState code.BadByte is = absurd (cc)
  same_code code.NotState code.NotDue is = absurd (cc)
  same_code code.NotState code.NotState is = refl

  faults_once : (n m : ℕ) (c d : CertCode) → IsReported text (cert.Fault n c) → IsReported text (cert.Fault m d) → (n ≡ m) × (c ≡ d)
  faults_once n m c d x y =
      let low = x.line m d y.fits in
      let high = y.line n c x.fits in
      let same : n ≡ m = omega (arith, low, high) in
      let one = x.lowest d (subst (λ (k : ℕ). HasCertLineCode text k d) (sym same) y.fits) in
      let two = y.lowest c (subst (λ (k : ℕ). HasCertLineCode text k c) same x.fits) in
      (same, same_code c d (omega (arith, one, two)))

-- Of one line.

-- What follows a line is the same, and so is what is told of it; and what is read by then, but behind a fault.
pub record TakenAlike (t u : LineTaken) (out other : List ℕ) (new next : ScriptHead) : Type 0 where
  pub follows : t ≡ u
  pub told : out ≡ other
  pub heads : t ≢ taken.Over → AlikeHeads new next

abbrev Once : LineMoves → LineMoves → Type 0
Once A B = (t u : LineTaken) (out other : List ℕ) (new next : ScriptHead) → A t out new → B u other next → TakenAlike t u out other new next

more_once : (h k : ScriptHead) → AlikeHeads h k → Once (more h) (more k)
more_once h k alike t u out other new next x y = record {
  follows = x.0 ∙ sym y.0;
  told = x.1 ∙ sym y.1;
  heads = λ _. subst (λ (z : ScriptHead). AlikeHeads z next) (sym x.2) (subst (λ (z : ScriptHead). AlikeHeads h z) (sym y.2) alike);
}

over_once : (line same : List ℕ) → line ≡ same → Once (over line) (over same)
over_once line same is t u out other new next x y = record { follows = x.0 ∙ sym y.0; told = x.1 ∙ is ∙ sym y.1; heads = λ gone. absurd (gone x.0) }

by_bool : (b : Bool) (A B C D : LineMoves) → Once A C → Once B D → Once (λ t out new. MatchBool b (A t out new) (B t out new)) (λ t out new. MatchBool b (C t out new) (D t out new))
by_bool true A B C D first second t u out other new next x y = first t u out other new next x y
by_bool false A B C D first second t u out other new next x y = second t u out other new next x y

module _ (h k : ScriptHead) (alike : AlikeHeads h k) where
  module_once : (m : Result Program AsmRefusal) → Once (IsModuleRead m h) (IsModuleRead m k)
  module_once (Ok p) =
      more_once _ _ (record {
        parts = alike_added h.parts k.parts (record { code = p; cert = None }) (record { code = p; cert = None }) alike.parts refl tt;
        budget = alike.budget;
        place = refl;
        text = refl;
        before = alike.before;
      })
  module_once (Err (asm.Fault n c)) = over_once _ _ (ap (λ (b : ℕ). asm_line (b + n) (code_number c)) alike.before)
  module_once (Err asm.NoMemory) = λ t u out other new next x y. absurd x

  ends_module_once : Once (EndsModule h) (EndsModule k)
  ends_module_once t u out other new next (m, read, x) (n, again, y) =
      let same = reads_once k.text m n (subst (λ (s : List ℕ). IsReadAs s m) alike.text read) again in
      module_once m t u out other new next x (subst (λ (r : Result Program AsmRefusal). IsModuleRead r k u other next) (sym same) y)

  cert_once : (c d : Result Cert CertRefusal) → ReadsCertText k.text c → ReadsCertText k.text d → Once (IsCertRead c h) (IsCertRead d k)
  cert_once (Ok c) (Ok d) r s =
      more_once _ _ (record {
        parts = alike_certified c d (certs_once k.text c d r s) h.parts k.parts alike.parts;
        budget = alike.budget;
        place = refl;
        text = refl;
        before = alike.before;
      })
  cert_once (Ok c) (Err (cert.Fault n e)) r s = absurd (not_both k.text c n e r s)
  cert_once (Ok c) (Err cert.NoMemory) r s = λ t u out other new next x y. absurd y
  cert_once (Err (cert.Fault n e)) (Ok d) r s = absurd (not_both k.text d n e s r)
  cert_once (Err (cert.Fault n e)) (Err (cert.Fault m f)) r s =
      let same = faults_once k.text n m e f r s in
      over_once _ _ (ap₂ (λ (b j : ℕ). cert_line (b + j) (cert_number e)) alike.before same.0 ∙ ap (λ (c : CertCode). cert_line (k.before + m) (cert_number c)) same.1)
  cert_once (Err (cert.Fault n e)) (Err cert.NoMemory) r s = λ t u out other new next x y. absurd y
  cert_once (Err cert.NoMemory) d r s = λ t u out other new next x y. absurd x

  ends_cert_once : Once (EndsCert h) (EndsCert k)
  ends_cert_once t u out other new next (c, read, x) (d, again, y) =
      cert_once c d (subst (λ (s : List ℕ). ReadsCertText s c) alike.text read) again t u out other new next x y

  with_line_alike : (l : RawLine) (p : HeadPlace) → AlikeHeads (with_line l p h) (with_line l p k)
  with_line_alike l p = record { parts = alike.parts; budget = alike.budget; place = refl; text = ap (λ (s : List ℕ). s ++ line_bytes l) alike.text; before = alike.before }

  at_line_alike : (number : ℕ) → AlikeHeads (at_line number h) (at_line number k)
  at_line_alike number = record { parts = alike.parts; budget = alike.budget; place = alike.place; text = alike.text; before = refl }

  checked_once : (l : RawLine) → Once (TakesChecked l h) (TakesChecked l k)
  checked_once l t u out other new next x y = record {
    follows = x.0 ∙ sym y.0;
    told = x.1 ∙ sym y.1;
    heads = λ _. subst (λ (z : ScriptHead). AlikeHeads z next) (sym x.2) (subst (λ (z : ScriptHead). AlikeHeads h z) (sym y.2) alike);
  }

in_module_once : (l : RawLine) (h k : ScriptHead) → AlikeHeads h k → Once (TakesInModule l h) (TakesInModule l k)
in_module_once l h k alike =
    let next = with_line_alike h k alike l place.InModule in
    by_bool (is_end l) _ _ _ _ (ends_module_once _ _ next) (more_once _ _ next)

in_cert_once : (l : RawLine) (h k : ScriptHead) → AlikeHeads h k → Once (TakesInCert l h) (TakesInCert l k)
in_cert_once l h k alike =
    let next = with_line_alike h k alike l place.InCert in
    by_bool (is_end l) _ _ _ _ (ends_cert_once _ _ next) (more_once _ _ next)

heading_once : (o : Option ℕ) (l : RawLine) (h k : ScriptHead) → AlikeHeads h k → Once (TakesHeading o l h) (TakesHeading o l k)
heading_once None l h k alike = checked_once h k alike l
heading_once (Some n) l h k alike = more_once _ _ (record { parts = alike.parts; budget = refl; place = refl; text = alike.text; before = alike.before })

goes_once : (l : RawLine) (h k : ScriptHead) → AlikeHeads h k → goes_on l h ≡ goes_on l k
goes_once l h k alike = ap (λ (n : ℕ). nat_lt n 16 && begins_module l) (alike_length h.parts k.parts alike.parts)

behind_once : (l : RawLine) (h k : ScriptHead) → AlikeHeads h k → Once (TakesBehind l h) (TakesBehind l k)
behind_once l h k alike t u out other new next x y =
    by_bool (is_skipped l) _ _ _ _ (more_once _ _ (with_line_alike h k alike l place.BehindSkipped))
    (by_bool (goes_on l h) _ _ _ _ (in_module_once l h k alike) (heading_once (budget_at l) l h k alike)) t u out other new next x
    (subst (λ (b : Bool). MatchBool (is_skipped l) (more (with_line l place.BehindSkipped k) u other next)
    (MatchBool b (TakesInModule l k u other next) (TakesHeading (budget_at l) l k u other next))) (sym (goes_once l h k alike)) y)

behind_module_once : (l : RawLine) (h k : ScriptHead) → AlikeHeads h k → Once (TakesBehindModule l h) (TakesBehindModule l k)
behind_module_once l h k alike = by_bool (begins_cert l) _ _ _ _ (in_cert_once l h k alike) (behind_once l h k alike)

behind_skipped_once : (l : RawLine) (h k : ScriptHead) → AlikeHeads h k → Once (TakesBehindSkipped l h) (TakesBehindSkipped l k)
behind_skipped_once l h k alike t u out other new next x y =
    by_bool (is_skipped l) _ _ _ _ (more_once _ _ (with_line_alike h k alike l place.BehindSkipped))
    (by_bool (goes_on l h) _ _ _ _ (in_module_once l h k alike) (over_once _ _ (ap (λ (b : ℕ). script_line (b + 1)) alike.before))) t u out other new next x
    (subst (λ (b : Bool). MatchBool (is_skipped l) (more (with_line l place.BehindSkipped k) u other next)
    (MatchBool b (TakesInModule l k u other next) (over (script_line (k.before + 1)) u other next))) (sym (goes_once l h k alike)) y)

line_at_once : (p : HeadPlace) (number : ℕ) (l : RawLine) (h k : ScriptHead) → AlikeHeads h k → Once (TakesLineAt p number l h) (TakesLineAt p number l k)
line_at_once place.InModule number l h k alike = in_module_once l h k alike
line_at_once place.InCert number l h k alike = in_cert_once l h k alike
line_at_once place.BehindModule number l h k alike = behind_module_once l _ _ (at_line_alike h k alike number)
line_at_once place.BehindCert number l h k alike = behind_once l _ _ (at_line_alike h k alike number)
line_at_once place.BehindSkipped number l h k alike = behind_skipped_once l h k alike
line_at_once place.BehindBudget number l h k alike = checked_once h k alike l

-- A line before the commands is taken in one way.
pub line_once : (number : ℕ) (l : RawLine) (h k : ScriptHead) → AlikeHeads h k → (t u : LineTaken) (out other : List ℕ) (new next : ScriptHead) → TakesLine number l h t out new
    → TakesLine number l k u other next
    → TakenAlike t u out other new next
unfolding TakesLine
line_once number l h k alike t u out other new next x y =
    line_at_once h.place number l h k alike t u out other new next x (subst (λ (p : HeadPlace). TakesLineAt p number l k u other next) (sym alike.place) y)

end_at_once : (p : HeadPlace) (h k : ScriptHead) → AlikeHeads h k → Once (EndsHeadAt p h) (EndsHeadAt p k)
end_at_once place.InModule h k alike = ends_module_once h k alike
end_at_once place.InCert h k alike = ends_cert_once h k alike
end_at_once place.BehindSkipped h k alike = over_once _ _ (ap (λ (b : ℕ). script_line (b + 1)) alike.before)
end_at_once place.BehindModule h k alike = more_once h k alike
end_at_once place.BehindCert h k alike = more_once h k alike
end_at_once place.BehindBudget h k alike = more_once h k alike

-- So does a script end that has no commands.
pub end_once : (h k : ScriptHead) → AlikeHeads h k → (t u : LineTaken) (out other : List ℕ) (new next : ScriptHead) → EndsHead h t out new → EndsHead k u other next
    → TakenAlike t u out other new next
unfolding EndsHead
end_once h k alike t u out other new next x y =
    end_at_once h.place h k alike t u out other new next x (subst (λ (p : HeadPlace). EndsHeadAt p k u other next) (sym alike.place) y)
