-- What a sink that counts was given.
use Rattle.std.specs.Prelude.{ℕ, List, Option, Some}
use Rattle.smt_script.specs.declared.count.CountSink.{CountSink}

-- all bytes put, a list that exists in proofs alone
abbrev pub count_bytes : CountSink → List ℕ
count_bytes s = s.told.bytes

-- It tells all bytes put.
abbrev pub count_contents : CountSink → Option (List ℕ)
count_contents s = Some (count_bytes s)
