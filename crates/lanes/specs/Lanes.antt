-- What the four lanes mean.
use Rattle.lanes.specs.declared.Lanes.{Lanes}

-- the meaning of each lane
abbrev pub lanes : {T V : Type 0} → (T → V) → Lanes T → V × V × V × V
lanes value x = (value x.a, value x.b, value x.c, value x.d)
