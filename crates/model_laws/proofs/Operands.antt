-- What an instruction that fits its module says of its operands.
use Rattle.std.proofs.Common.{◌≡◌, ◌≢◌, ℕ, ◌<◌, ◌≤◌, Bool, true, false, ◌&&◌, ◌||◌, not, ◌==◌, nat_lt, length, arith}
use Rattle.std.proofs.lemmas.Bool.{and_parts}
use Rattle.std.proofs.lemmas.Bool.Decides.{nat_tests}
use Rattle.module_code.specs.declared.instr.Instr.TheVariants as instr
use Rattle.module_code.specs.declared.instr.Value.{Value}
use Rattle.module_code.specs.Args.{is_value}
use Rattle.module_code.specs.Program.{Program, IsModule, fits, is_brigade}

-- a brigade operand is one of nine
pub brigade_below : (p : Program) → IsModule p → (b : ℕ) → is_brigade p b ≡ true → b < 9
brigade_below p m b h = small b (length p.brigades) m.brigades h where
  small : (b n : ℕ) → n ≤ 8 → (nat_lt b n || (b == 8)) ≡ true → b < 9
  small b n le h = grind (arith, nat_tests)

small : (o n : ℕ) → n ≤ 8 → nat_lt o n ≡ true → o < 9
small o n le h = grind (arith, nat_tests)

pub created_below : (p : Program) → IsModule p → (o : ℕ) → fits p (instr.BCreate o) ≡ true → o < 9
created_below p m o h = small o (length p.brigades) m.brigades h

-- the two brigades of one instruction
pub record TwoBrigades (a b : ℕ) : Type 0 where
  pub first : a < 9
  pub second : b < 9
  pub differ : a ≢ b

parts : (x y z : Bool) → (x && y && z) ≡ true → (x ≡ true) × (y ≡ true) × (z ≡ true)
parts true true true h = (h, h, h)
parts true true false h = absurd (cc)
parts true false z h = absurd (cc)
parts false y z h = absurd (cc)

unequal : (a b : ℕ) → not (a == b) ≡ true → a ≡ b → ⊥
unequal a b h e = grind (arith, nat_tests)

pub two_brigades : (p : Program) → IsModule p → (a b : ℕ) → fits p (instr.BConcat a b) ≡ true → TwoBrigades a b
two_brigades p m a b h = record {
  first = brigade_below p m a (parts (is_brigade p a) (is_brigade p b) (not (a == b)) h).0;
  second = brigade_below p m b (parts (is_brigade p a) (is_brigade p b) (not (a == b)) h).1;
  differ = λ e. unequal a b (parts (is_brigade p a) (is_brigade p b) (not (a == b)) h).2 e;
}

pub saved_brigades : (p : Program) → IsModule p → (o b : ℕ) → fits p (instr.BSave o b) ≡ true → TwoBrigades o b
saved_brigades p m o b h = record {
  first = small o (length p.brigades) m.brigades (parts (nat_lt o (length p.brigades)) (is_brigade p b) (not (o == b)) h).0;
  second = brigade_below p m b (parts (nat_lt o (length p.brigades)) (is_brigade p b) (not (o == b)) h).1;
  differ = λ e. unequal o b (parts (nat_lt o (length p.brigades)) (is_brigade p b) (not (o == b)) h).2 e;
}

-- the two brigades of a split, which names a cursor between them
pub split_brigades : (p : Program) → IsModule p → (b c a : ℕ) → fits p (instr.BSplit b c a) ≡ true → TwoBrigades b a
split_brigades p m b c a h =
    let all = and_parts (is_brigade p b && nat_lt c 8 && is_brigade p a) (not (b == a)) h in
    let three = and_parts (is_brigade p b && nat_lt c 8) (is_brigade p a) all.0 in
    record { first = brigade_below p m b (and_parts (is_brigade p b) (nat_lt c 8) three.0).0; second = brigade_below p m a three.1; differ = λ e. unequal b a all.1 e }

-- the brigade of a partition, before a point and a cursor
pub parted_below : (p : Program) → IsModule p → (b : ℕ) (x : Value) (c l : ℕ) → fits p (instr.BPart b x c l) ≡ true → b < 9
parted_below p m b x c l h = brigade_below p m b (and_parts (is_brigade p b) (is_value x) (and_parts (is_brigade p b && is_value x) (nat_lt c 8) h).0).0

-- a brigade before one other operand
pub source_below : (p : Program) → IsModule p → (b : ℕ) (rest : Bool) → (is_brigade p b && rest) ≡ true → b < 9
source_below p m b rest h = brigade_below p m b (and_parts (is_brigade p b) rest h).0
