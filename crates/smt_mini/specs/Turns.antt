-- What a feed answers, by the turn of the machine.
use Rattle.std.specs.Prelude.{◌≡◌, ⊤, true, Some, None, Result, Ok, Err}
use Rattle.law_texts.specs.Reading.{Expression}
use Rattle.law_scripts.specs.Script.{Command, obey}
use Rattle.law_verdicts.specs.Fragment.{is_within}
use Rattle.law_verdicts.specs.Machine.{Machine, then_replied, turn}
use Rattle.smt_mini.specs.declared.error.MiniError.{MiniError}
use Rattle.smt_mini.specs.declared.mini.Mini.{Mini}
use Rattle.smt_mini.specs.declared.reply.Reply.{Reply}
use Rattle.smt_mini.specs.Levels.{IsRefused}
use Rattle.smt_mini.specs.Replies.{plain_reply}
use Rattle.smt_mini.specs.Stands.{Stands}
use Rattle.smt_mini.specs.declared.error.MiniError.TheVariants.{NotScript, Spent, Memory}

-- The machine takes no turn where an expression is refused as no script; want of memory is free, and no machine is spent.
abbrev pub Refuses : Machine → Expression → MiniError → Type 0
Refuses m e NotScript = turn m e ≡ None
Refuses m e Spent = ⊥
Refuses m e Memory = ⊤

-- What a turn replies, for every state that the value stood for.
abbrev pub Turns : Mini → Mini → Expression → Result Reply MiniError → Type 0
Turns old new e (Ok reply) = (m : Machine) → Stands old m → (next : Machine) × (turn m e ≡ Some (plain_reply reply, next)) × Stands new next
Turns old new e (Err error) = (m : Machine) → Stands old m → Refuses m e error

-- So it is for a command that lies in the fragment.
abbrev pub Replies : Mini → Mini → Command → Result Reply MiniError → Type 0
Replies old new c (Ok reply) =
    (m : Machine) → Stands old m → is_within m.state c ≡ true →
    (next : Machine) × (then_replied m.shown c (obey c m.state) ≡ Some (plain_reply reply, next)) × Stands new next
Replies old new c (Err error) = (m : Machine) → Stands old m → is_within m.state c ≡ true → IsRefused error (obey c m.state)
