-- What an error prints.
use Rattle.std.specs.Prelude.{ℕ, List, codes}
use Rattle.field.specs.Refusals.{message_of}
use Rattle.sheet.specs.declared.error.SheetError.{SheetError}
use Rattle.sheet.specs.declared.error.SheetError.TheVariants.{Refused, Memory}

abbrev pub error_text : SheetError → List ℕ
error_text (Refused q) = message_of q
error_text (Memory a) = codes "memory is wanting"
