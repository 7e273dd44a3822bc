-- What a list of bytes holds.
use Rattle.std.specs.Prelude.{ℕ, List}
use Rattle.smt_script.specs.declared.bytes.Bytes.{Bytes}

-- the bytes of a list, in order
abbrev pub bytes_in : Bytes → List ℕ
bytes_in b = b.items.items
