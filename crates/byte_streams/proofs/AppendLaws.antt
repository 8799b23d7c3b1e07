-- Parts of a text that are taken one after another.
use Rattle.std.proofs.Common.{◌≡◌, ℕ, ◌+◌, ◌-◌, ◌<◌, List, length, take, drop, Option, arith}
use Rattle.std.proofs.lemmas.Grind.{common_steps}
use Rattle.std.proofs.Math.Seq.{take-add}
use Rattle.std.proofs.KnownBytes.{Appends-trans}
use Rattle.std.specs.Io.KnownBytes.{Appends}

-- a text of which n bytes were taken, and then m bytes of the rest
pub appends_take : (a b c : Option (List ℕ)) (text : List ℕ) (n m : ℕ) → Appends a b (take n text) → Appends b c (take m (drop n text)) → Appends a c (take (n + m) text)
appends_take a b c text n m p q =
    let all = Appends-trans a b c (take n text) (take m (drop n text)) p q in
    rw take-add all

-- and of the rest up to the end of the text
pub appends_rest : (a b c : Option (List ℕ)) (text : List ℕ) (n m : ℕ) → n < length text → Appends a b (take n text) → Appends b c (take m (take (length text - n) (drop n text)))
    → Appends a c (take (n + m) text)
appends_rest a b c text n m within p q =
    let rest : take (length text - n) (drop n text) ≡ drop n text = grind (arith, common_steps) in
    appends_take a b c text n m p (rw rest at q)
