-- What a starter of small solvers tells.
use Rattle.std.specs.Prelude.{ℕ, map, List, Some}
use Rattle.smt_solve.specs.Starter.{Command, StarterState, command_of}
use Rattle.law_verdicts.specs.Streams.{MayBeHeard}
use Rattle.smt_stream.specs.declared.link.MiniLink.{MiniLink}
use Rattle.smt_stream.specs.declared.starter.MiniStarter.{MiniStarter}

-- the commands that it was asked for, in order
abbrev pub mini_commands : MiniStarter → List Command
mini_commands s = map command_of s.commands.items

-- the links that came back to it, in order
abbrev pub links_back : MiniStarter → List MiniLink
links_back s = s.returned.items

-- What it tells of itself: all. No start of it fails.
abbrev pub mini_starter_state : MiniStarter → StarterState MiniLink
mini_starter_state s =
    record { commands = Some (mini_commands s); returned = Some (links_back s); failed_starts = 0; link_faults = s.link_faults }

-- A line may follow on its links where it is the next of what is put for the bytes that were sent.
abbrev pub mini_starter_allows : MiniStarter → List ℕ → List ℕ → List ℕ → Type 0
mini_starter_allows s sent was_read line = MayBeHeard sent was_read line
