-- What the solver replies, and for which state it stands then.
use Rattle.std.proofs.Common.{◌≡◌, ℕ, Bool, true, false, cond, List, Option, Some, None, Result, Ok, Err, refl, sym, ap, ◌∙◌, subst}
use Rattle.std.specs.Prelude.{IfOk, IsOkUnless}
use Rattle.std.proofs.lemmas.Bool.{cond-false, cond-true, false≢true}
use Rattle.law_texts.specs.Reading.{Expression}
use Rattle.law_scripts.specs.Script as script
use Rattle.law_scripts.specs.Script.{Command as Stated, State, obey}
use Rattle.law_verdicts.specs.Fragment.{command_in, command_of, if_within, is_within}
use Rattle.law_verdicts.specs.Machine as machine
use Rattle.law_verdicts.specs.Machine.{Machine, blind, quiet, replied, replied_blindly, taken, then_replied, turn}
use Rattle.smt_mini.specs.Commands.{plain_command}
use Rattle.smt_mini.specs.Levels.{IsRefused, Leaves, StandFor, is_silent}
use Rattle.smt_mini.specs.Replies.{plain_reply}
use Rattle.smt_mini.specs.Stands.{IsShown, Stands, StandsIn, model_or_none}
use Rattle.smt_mini.specs.Turns.{Refuses, Replies, Turns}
use Rattle.smt_mini.specs.declared.command.Command.{Command}
use Rattle.smt_mini.specs.declared.command.Command.TheVariants.{DeclareOption, DeclareConst, DefineFun, Assert, SetLogic, SetOption, CheckSat, GetModel, Reset, Exit, Push, Pop}
use Rattle.smt_mini.specs.declared.error.MiniError.{MiniError}
use Rattle.smt_mini.specs.declared.error.MiniError.TheVariants.{NotScript, Spent, Memory}
use Rattle.smt_mini.specs.declared.mini.Mini.{Mini}
use Rattle.smt_mini.specs.declared.mini.Phase.TheVariants.{Inside, Outside}
use Rattle.smt_mini.specs.declared.reply.Reply.{Reply}

pub stands_inside : (mini : Mini) (m : Machine) → mini.phase ≡ Inside → Stands mini m → StandsIn Inside mini m
stands_inside mini m e h = subst (λ p. StandsIn p mini m) e h

stands_quiet : (mini : Mini) (s : State) → mini.phase ≡ Inside → mini.shown ≡ None → s.ended ≡ false → StandFor mini.levels s → Stands mini (quiet s)
stands_quiet mini s p o e h = subst (λ x. StandsIn x mini (quiet s)) (sym p) (refl, e, subst (λ x. IsShown x false s) (sym o) refl, h)

-- ---- commands to which nothing is replied

silently : (shown : Bool) (c : Stated) (s : State) → is_silent c ≡ true → replied shown c s ≡ (machine.Nothing, quiet s)
silently true script.CheckSat s h = absurd (false≢true h)
silently true script.GetModel s h = absurd (false≢true h)
silently true script.Exit s h = absurd (false≢true h)
silently true c s h = refl
silently false script.CheckSat s h = absurd (false≢true h)
silently false script.GetModel s h = absurd (false≢true h)
silently false script.Exit s h = absurd (false≢true h)
silently false c s h = refl

pub silent_replied : (new : Mini) (shown : Bool) (c : Stated) (o : Option State) → is_silent c ≡ true → new.phase ≡ Inside → new.shown ≡ None → Leaves new.levels o
    → (x : Machine) × (then_replied shown c o ≡ Some (machine.Nothing, x)) × Stands new x
silent_replied new shown c None h p o l = absurd l
silent_replied new shown c (Some s) h p o l = (quiet s, ap Some (silently shown c s h), stands_quiet new s p o l.0 l.1)

pub is_silent_else : (c : Command) → (c ≡ CheckSat → ⊥) → (c ≡ GetModel → ⊥) → (c ≡ Exit → ⊥) → is_silent (plain_command c) ≡ true
is_silent_else DeclareOption a b d = refl
is_silent_else (DeclareConst n sort) a b d = refl
is_silent_else (DefineFun n sort body) a b d = refl
is_silent_else (Assert e) a b d = refl
is_silent_else (SetLogic l) a b d = refl
is_silent_else (SetOption o v) a b d = refl
is_silent_else CheckSat a b d = absurd (a refl)
is_silent_else GetModel a b d = absurd (b refl)
is_silent_else Reset a b d = refl
is_silent_else Exit a b d = absurd (d refl)
is_silent_else Push a b d = refl
is_silent_else Pop a b d = refl

-- ---- `get-model` and `exit`

model_by : (was : Bool) (s : State) → replied was script.GetModel s ≡ (model_or_none was s, quiet s)
model_by true s = refl
model_by false s = refl

memory_alone : (o : Option State) (e : MiniError) → e ≡ Memory → IsRefused e o
memory_alone o e h = subst (λ x. IsRefused x o) (sym h) tt

pub got_model : (old new : Mini) (r : Result Reply MiniError) → old.phase ≡ Inside → new.phase ≡ Inside → new.levels ≡ old.levels → new.shown ≡ None
    → ((s : State) (was : Bool) → StandFor old.levels s → IsShown old.shown was s → IfOk r (λ reply. plain_reply reply ≡ model_or_none was s)) → IsOkUnless r Memory → Replies old new script.GetModel r
got_model old new (Ok reply) p q l o k u = λ m h w.
    let i = stands_inside old m p h in
    (quiet m.state, ap Some (model_by m.shown m.state ∙ ap (λ x. (x, quiet m.state)) (sym (k m.state m.shown i.3 i.2))), stands_quiet new m.state q o i.1 (subst (λ x. StandFor x m.state) (sym l) i.3))
got_model old new (Err e) p q l o k u = λ m h w. memory_alone (Some m.state) e u

exit_by : (shown : Bool) (s : State) → replied shown script.Exit s ≡ (machine.Ended, quiet s)
exit_by true s = refl
exit_by false s = refl

pub exited : (m : Machine) → (x : Machine) × (then_replied m.shown script.Exit (obey script.Exit m.state) ≡ Some (machine.Ended, x)) × (x.state.ended ≡ true)
exited m = let t = record m.state { ended = true } in (quiet t, ap Some (exit_by m.shown t), refl)

-- ---- behind a command that was outside

pub stands_outside : (mini : Mini) (m : Machine) → mini.phase ≡ Outside → Stands mini m → StandsIn Outside mini m
stands_outside mini m e h = subst (λ p. StandsIn p mini m) e h

stands_blind : (mini : Mini) (s : State) → mini.phase ≡ Outside → s.ended ≡ false → Stands mini (blind s)
stands_blind mini s p e = subst (λ x. StandsIn x mini (blind s)) (sym p) (refl, e)

blind_turn : (m : Machine) (e : Expression) → m.outside ≡ true → m.state.ended ≡ false → turn m e ≡ Some (replied_blindly (command_of e) m.state)
blind_turn m e o k =
    cond-false m.state.ended None (cond m.outside (Some (replied_blindly (command_of e) m.state)) (taken (command_in m.state e) m.shown m.state)) k
    ∙ cond-true m.outside (Some (replied_blindly (command_of e) m.state)) (taken (command_in m.state e) m.shown m.state) o

blindly : (m : Machine) (e : Expression) (c : Stated) → m.outside ≡ true → m.state.ended ≡ false → command_of e ≡ Some c → turn m e ≡ Some (replied_blindly (Some c) m.state)
blindly m e c o k f = blind_turn m e o k ∙ ap (λ x. Some (replied_blindly x m.state)) f

-- want of memory refuses nothing
memory_refuses : (m : Machine) (e : Expression) (error : MiniError) → error ≡ Memory → Refuses m e error
memory_refuses m e error h = subst (Refuses m e) (sym h) tt

pub line_blindly : (mini : Mini) (r : Result Reply MiniError) (e : Expression) (c : Stated) (text : List ℕ) → mini.phase ≡ Outside → command_of e ≡ Some c → ((s : State) → replied_blindly (Some c) s ≡ (machine.Line text, blind s))
    → IfOk r (λ reply. plain_reply reply ≡ machine.Line text) → IsOkUnless r Memory → Turns mini mini e r
line_blindly mini (Ok reply) e c text p f g k u = λ m h.
    let i = stands_outside mini m p h in
    (blind m.state, blindly m e c i.0 i.1 f ∙ ap Some (g m.state ∙ ap (λ x. (x, blind m.state)) (sym k)), stands_blind mini m.state p i.1)
line_blindly mini (Err error) e c text p f g k u = λ m h. memory_refuses m e error u

pub exit_blindly : (mini : Mini) (m : Machine) (e : Expression) → mini.phase ≡ Outside → command_of e ≡ Some script.Exit → Stands mini m → (x : Machine) × (turn m e ≡ Some (machine.Ended, x)) × (x.state.ended ≡ true)
exit_blindly mini m e p f h = let i = stands_outside mini m p h in (blind (record m.state { ended = true }), blindly m e script.Exit i.0 i.1 f, refl)

silently_blind : (c : Stated) (s : State) → is_silent c ≡ true → replied_blindly (Some c) s ≡ (machine.Nothing, blind s)
silently_blind script.CheckSat s h = absurd (false≢true h)
silently_blind script.GetModel s h = absurd (false≢true h)
silently_blind script.Exit s h = absurd (false≢true h)
silently_blind c s h = refl

pub silent_blindly : (mini : Mini) (m : Machine) (e : Expression) (c : Stated) → mini.phase ≡ Outside → command_of e ≡ Some c → is_silent c ≡ true → Stands mini m → (x : Machine) × (turn m e ≡ Some (machine.Nothing, x)) × Stands mini x
silent_blindly mini m e c p f q h = let i = stands_outside mini m p h in (blind m.state, blindly m e c i.0 i.1 f ∙ ap Some (silently_blind c m.state q), stands_blind mini m.state p i.1)

pub none_blindly : (mini : Mini) (m : Machine) (e : Expression) → mini.phase ≡ Outside → command_of e ≡ None → Stands mini m → (x : Machine) × (turn m e ≡ Some (machine.Nothing, x)) × Stands mini x
none_blindly mini m e p f h = let i = stands_outside mini m p h in (blind m.state, blind_turn m e i.0 i.1 ∙ ap (λ x. Some (replied_blindly x m.state)) f, stands_blind mini m.state p i.1)

-- ---- before any command was outside

clear_turn : (m : Machine) (e : Expression) → m.outside ≡ false → m.state.ended ≡ false → turn m e ≡ taken (command_in m.state e) m.shown m.state
clear_turn m e o k =
    cond-false m.state.ended None (cond m.outside (Some (replied_blindly (command_of e) m.state)) (taken (command_in m.state e) m.shown m.state)) k
    ∙ cond-false m.outside (Some (replied_blindly (command_of e) m.state)) (taken (command_in m.state e) m.shown m.state) o

taken_turn : (m : Machine) (e : Expression) (c : Stated) → m.outside ≡ false → m.state.ended ≡ false → command_of e ≡ Some c → is_within m.state c ≡ true → turn m e ≡ then_replied m.shown c (obey c m.state)
taken_turn m e c o k f w = clear_turn m e o k ∙ ap (λ x. taken x m.shown m.state) (ap (if_within m.state) f ∙ cond-true (is_within m.state c) (Some c) None w)

refused_turn : (m : Machine) (e : Expression) (c : Stated) (error : MiniError) (o : Option State) → turn m e ≡ then_replied m.shown c o → IsRefused error o → Refuses m e error
refused_turn m e c NotScript o h k = h ∙ ap (then_replied m.shown c) k
refused_turn m e c Spent o h k = k
refused_turn m e c Memory o h k = tt

pub replies_turn : (old new : Mini) (e : Expression) (c : Stated) (r : Result Reply MiniError) → old.phase ≡ Inside → command_of e ≡ Some c → ((s : State) → StandFor old.levels s → is_within s c ≡ true) → Replies old new c r → Turns old new e r
replies_turn old new e c (Ok reply) p f w k = λ m h.
    let i = stands_inside old m p h in
    let x = k m h (w m.state i.3) in
    (x.0, taken_turn m e c i.0 i.1 f (w m.state i.3) ∙ x.1, x.2)
replies_turn old new e c (Err error) p f w k = λ m h.
    let i = stands_inside old m p h in
    refused_turn m e c error (obey c m.state) (taken_turn m e c i.0 i.1 f (w m.state i.3)) (k m h (w m.state i.3))

-- a command that is outside
outside_turn : (old : Mini) (m : Machine) (e : Expression) (i : StandsIn Inside old m) → command_in m.state e ≡ None → (x : Machine) × (turn m e ≡ Some (machine.Nothing, x)) × ((x.outside ≡ true) × (x.state.ended ≡ false))
outside_turn old m e i h = (blind m.state, clear_turn m e i.0 i.1 ∙ ap (λ x. taken x m.shown m.state) h, (refl, i.1))

pub not_within : (old : Mini) (m : Machine) (e : Expression) (c : Stated) → old.phase ≡ Inside → command_of e ≡ Some c → ((s : State) → StandFor old.levels s → is_within s c ≡ false) → Stands old m
    → (x : Machine) × (turn m e ≡ Some (machine.Nothing, x)) × ((x.outside ≡ true) × (x.state.ended ≡ false))
not_within old m e c p f w h =
    let i = stands_inside old m p h in
    outside_turn old m e i (ap (if_within m.state) f ∙ cond-false (is_within m.state c) (Some c) None (w m.state i.3))

pub no_command : (old : Mini) (m : Machine) (e : Expression) → old.phase ≡ Inside → command_of e ≡ None → Stands old m → (x : Machine) × (turn m e ≡ Some (machine.Nothing, x)) × ((x.outside ≡ true) × (x.state.ended ≡ false))
no_command old m e p f h = outside_turn old m e (stands_inside old m p h) (ap (if_within m.state) f)
