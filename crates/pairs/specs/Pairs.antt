-- What the two parts of a pair mean.
use Rattle.pairs.specs.declared.Pair.{Pair}

-- the meaning of each part
abbrev pub parts : {T V : Type 0} → (T → V) → Pair T → V × V
parts value x = (value x.a, value x.b)
