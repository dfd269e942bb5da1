use Rattle.std.proofs.Common.{◌≡◌, map, take, string_bytes}
use Rattle.folding.specs.Columns.{rows_of}
use Rattle.folding.proofs.columns.rows_text.Given as goal

-- the first k elements are written
abbrev pub invariant-loop-k : goal.invariant-loop-k
invariant-loop-k g l = string_bytes l.text ≡ rows_of l.width 0 (map (λ x. x.value) (take l.k l.elements))
