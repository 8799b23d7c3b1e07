-- What is left of a file.
use Rattle.std.proofs.Common.{◌≡◌, ℕ, zero, suc, ◌+◌, ◌-◌, ◌/◌, ◌<◌, ◌≤◌, ◌^◌, List, [], ◌∷◌, length, refl, ap, sym, subst, ◌∙◌, arith}
use Rattle.std.proofs.Math.Nat.{div-mul-le_self}
use Rattle.run_model.specs.declared.event.Piece.{Piece}
use Rattle.run_model.specs.declared.event.Piece.TheVariants as piece
use Rattle.http_message.specs.declared.reply.Method.{Method}
use Rattle.http_message.specs.declared.reply.Method.TheVariants.{Get}
use Rattle.http_front.specs.RequestEvents as by
use Rattle.http_front.specs.RequestEvents.{brigades_for}

pub wanted_all : (method : Method) (file : ℕ × ℕ) (less : ℕ) → method ≡ Get → less ≡ file.1 - 1
    → by.brigades_from file.0 file.1 0 (less / 65536) ≡ brigades_for method file
unfolding by.brigades_of
wanted_all method file less get is =
    subst (λ (m : Method). by.brigades_from file.0 file.1 0 (less / 65536) ≡ brigades_for m file) (sym get)
    (ap (λ (n : ℕ). by.brigades_from file.0 file.1 0 (n / 65536)) is)

pub last_left : (file len start left : ℕ) (pieces : List Piece) → left ≡ 0 → pieces ≡ by.last_brigade file start (len - start)
    → by.brigades_from file len start left ≡ pieces ∷ []
unfolding by.brigades_from
last_left file len start left pieces none is = subst (λ (n : ℕ). by.brigades_from file len start n ≡ pieces ∷ []) (sym none) (ap (λ (p : List Piece). p ∷ []) (sym is))

pub more_left : (file len start left : ℕ) (pieces : List Piece) → 0 < left → pieces ≡ piece.File file start 65536 ∷ []
    → by.brigades_from file len start left ≡ pieces ∷ by.brigades_from file len (start + 65536) (left - 1)
unfolding by.brigades_from
more_left file len start zero pieces some is = absurd (omega (arith, some))
more_left file len start (suc n) pieces some is =
    let back : n ≡ suc n - 1 = omega arith in
    ap (λ (p : List Piece). p ∷ by.brigades_from file len (start + 65536) n) (sym is)
    ∙ ap (λ (k : ℕ). pieces ∷ by.brigades_from file len (start + 65536) k) back

-- how many there are
brigades_count : (file len start left : ℕ) → length (by.brigades_from file len start left) ≡ left + 1
unfolding by.brigades_from
brigades_count file len start zero = refl
brigades_count file len start (suc n) = (let rest = brigades_count file len (start + 65536) n in omega (arith, rest))

pub few_wanted : (file len less : ℕ) → less < 2 ^ 64 → length (by.brigades_from file len 0 (less / 65536)) ≤ 2 ^ 48
few_wanted file len less small =
    let count = brigades_count file len 0 (less / 65536) in
    let most = div-mul-le_self less 65536 in
    omega (arith, count, most, small)
