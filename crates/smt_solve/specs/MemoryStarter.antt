-- What a starter in memory tells, which of its starts fail, and what they give, exactly.
use Rattle.std.specs.Prelude.{ℕ, ◌≡◌, ◌⊎◌, ⊤, map, List, [], ◌∷◌, Contains, IfOk, IsErr, IsErrOf, OnErr, Some, Result}
use Rattle.smt_script.specs.Memory.{counted}
use Rattle.smt_solve.specs.Starter.{Command, StarterState, command_of}
use Rattle.smt_solve.specs.declared.list.LinkList.{LinkList}
use Rattle.smt_solve.specs.declared.memory.MemoryLink.{MemoryLink}
use Rattle.smt_solve.specs.declared.memory_starter.MemoryStarter.{MemoryStarter}
use Rattle.smt_solve.specs.declared.starter.StartError.{StartError}
use Rattle.smt_solve.specs.declared.starter.StartError.TheVariants.{Fault, Memory}

-- the links of a list, in order
abbrev pub links_in : LinkList → List MemoryLink
links_in list = list.links.items

-- the commands that a starter in memory was asked for, in order
abbrev pub asked : MemoryStarter → List Command
asked s = map command_of s.asked.items

-- the links that a starter in memory has still to give, in order
abbrev pub links_left : MemoryStarter → List MemoryLink
links_left s = links_in s.links

-- the links that came back to a starter in memory, in order
abbrev pub links_back : MemoryStarter → List MemoryLink
links_back s = s.returned.items

-- What a starter in memory tells of itself: all.
abbrev pub memory_starter_state : MemoryStarter → StarterState MemoryLink
memory_starter_state s = record {
  commands = Some (asked s);
  returned = Some (links_back s);
  failed_starts = s.failed_starts;
  link_faults = s.link_faults;
}

-- Any line may follow on the links of a starter in memory.
abbrev pub memory_starter_allows : MemoryStarter → List ℕ → List ℕ → List ℕ → Type 0
memory_starter_allows s text earlier line = ⊤

-- the numbers, from 1, of the starts of a starter in memory that are to fail
abbrev pub start_fails : MemoryStarter → List ℕ
start_fails s = s.fails.items

-- how many starts a starter in memory has made; the count stands still at 2^64 - 1
abbrev pub starts_made : MemoryStarter → ℕ
starts_made s = s.starts

-- A starter in memory was just made: no start was asked for, and it has these links to give and these starts to fail.
pub record IsIdle (s : MemoryStarter) (links : List MemoryLink) (fails : List ℕ) : Type 0 where
  pub state : memory_starter_state s ≡ record { commands = Some []; returned = Some []; failed_starts = 0; link_faults = 0 }
  pub links_given : links_left s ≡ links
  pub fails_given : start_fails s ≡ fails
  pub starts : starts_made s ≡ 0

-- The next start of a starter in memory is to fail.
abbrev pub NextStartFails : MemoryStarter → Type 0
NextStartFails s = Contains (start_fails s) (counted (starts_made s))

-- The starter in memory after it counted a start, with these links left to give.
abbrev pub counts_start : MemoryStarter → LinkList → MemoryStarter
counts_start s links = record s { links = links; starts = counted (starts_made s) }

-- A start of a starter in memory that is to fail fails, as does one where no link is left. Any other gives the first link,
-- unless there is no memory.
pub record StartsAsTold (old new : MemoryStarter) (result : Result MemoryLink StartError) : Type 0 where
  pub gives : IfOk result (λ link. links_left old ≡ link ∷ links_left new)
  pub kept : OnErr result (links_left new ≡ links_left old)
  pub to_fail : NextStartFails old → IsErr result
  pub only : IsErrOf result Fault → NextStartFails old ⊎ (links_left old ≡ [])
  pub same_fails : start_fails new ≡ start_fails old
  pub counts : IsErrOf result Memory ⊎ (starts_made new ≡ counted (starts_made old))
