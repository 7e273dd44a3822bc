-- Links in memory on which no call was made.
use Rattle.std.specs.Prelude.{List, All}
use Rattle.smt_solve.specs.MemoryLink.{IsUntouched}
use Rattle.smt_solve.specs.declared.memory.MemoryLink.{MemoryLink}

-- No call was made on any of these links in memory.
abbrev pub AreUntouched : List MemoryLink → Type 0
AreUntouched links = All IsUntouched links
