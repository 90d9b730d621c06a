-- What a fault code holds.
use Rattle.std.specs.Prelude.{ℕ, List, take}
use Rattle.codes.specs.declared.code.FaultCode.{FaultCode}

-- its characters, in order
abbrev pub bytes_of : FaultCode → List ℕ
bytes_of c = take c.len c.bytes
