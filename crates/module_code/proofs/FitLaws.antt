-- What fits, operand by operand.
use Rattle.std.proofs.Common.{◌≡◌, Bool, true, ◌&&◌, List, [], ◌∷◌, ◌++◌, refl}
use Rattle.std.proofs.lemmas.Bool.{and_parts}
use Rattle.module_code.specs.Args.{args}
use Rattle.module_code.specs.Program.{Program, all_of, and_all, apart, fit_tests, fits, tests}
use Rattle.module_code.specs.declared.arg.Args.{Args}
use Rattle.module_code.specs.declared.instr.Instr.{Instr}

abbrev pub Every : List Bool → Type 0
Every [] = Unit {0}
Every (b ∷ bs) = (b ≡ true) × Every bs

and_every : (a : Bool) (bs : List Bool) → and_all a bs ≡ true → (a ≡ true) × Every bs
and_every a [] h = (h, tt)
and_every a (b ∷ bs) h =
    let more = and_every (a && b) bs h in
    let both = and_parts a b more.0 in
    (both.0, (both.1, more.1))

all_every : (bs : List Bool) → all_of bs ≡ true → Every bs
all_every [] h = tt
all_every (b ∷ bs) h = and_every b bs h

every_and : (a : Bool) (bs : List Bool) → a ≡ true → Every bs → and_all a bs ≡ true
every_and a [] h e = h
every_and a (b ∷ bs) h e = every_and (a && b) bs (rw (h, e.0) refl) e.1

every_all : (bs : List Bool) → Every bs → all_of bs ≡ true
every_all [] e = refl
every_all (b ∷ bs) e = every_and b bs e.0 e.1

every_parts : (xs ys : List Bool) → Every (xs ++ ys) → Every xs × Every ys
every_parts [] ys e = (tt, e)
every_parts (x ∷ xs) ys e = let more = every_parts xs ys e.1 in ((e.0, more.0), more.1)

every_join : (xs ys : List Bool) → Every xs → Every ys → Every (xs ++ ys)
every_join [] ys e f = f
every_join (x ∷ xs) ys e f = (e.0, every_join xs ys e.1 f)

-- each operand passes its tests, and each two brigades differ
pub record AreFit (p : Program) (a : Args) : Type 0 where
  pub first : Every (tests p a.first)
  pub second : Every (tests p a.second)
  pub third : Every (tests p a.third)
  pub fourth : Every (tests p a.fourth)
  pub one_two : Every (apart a.first a.second)
  pub one_three : Every (apart a.first a.third)
  pub two_three : Every (apart a.second a.third)

pub fits_parts : (p : Program) (i : Instr) → fits p i ≡ true → AreFit p (args i)
fits_parts p i h =
    let a = args i in
    let x = every_parts (tests p a.first) _ (all_every (fit_tests p a) h) in
    let y = every_parts (tests p a.second) _ x.1 in
    let z = every_parts (tests p a.third) _ y.1 in
    let w = every_parts (tests p a.fourth) _ z.1 in
    let u = every_parts (apart a.first a.second) _ w.1 in
    let v = every_parts (apart a.first a.third) _ u.1 in
    record { first = x.0; second = y.0; third = z.0; fourth = w.0; one_two = u.0; one_three = v.0; two_three = v.1 }

pub parts_fit : (p : Program) (a : Args) → AreFit p a → all_of (fit_tests p a) ≡ true
parts_fit p a f =
    every_all (fit_tests p a) (every_join (tests p a.first) _ f.first (every_join (tests p a.second) _ f.second (every_join (tests p a.third) _ f.third
    (every_join (tests p a.fourth) _ f.fourth (every_join (apart a.first a.second) _ f.one_two (every_join (apart a.first a.third) _ f.one_three f.two_three))))))
