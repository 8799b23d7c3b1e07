-- What a printer adds to its text.
use Rattle.std.specs.Prelude.{◌≡◌, ℕ, List, ◌++◌, IsTrue}
use Rattle.author_text.specs.declared.print.Printer.{Printer}

-- where there was memory for all that was written, so there was before, and this text came behind what was there
pub record AddsText (old new : Printer) (text : List ℕ) : Type 0 where
  pub added : IsTrue new.is_whole → new.out.items ≡ old.out.items ++ text
  pub whole : IsTrue new.is_whole → IsTrue old.is_whole
