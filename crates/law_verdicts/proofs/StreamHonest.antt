-- A link that gives what a stream puts is honest, and what a stream puts are whole lines.
use Rattle.std.proofs.Common.{◌≡◌, ℕ, Bool, true, false, cond, List, [], ◌∷◌, ◌++◌, refl, sym, ap, ◌∙◌, subst, inl, inr, append_assoc, Option, Some, None}
use Rattle.std.specs.Prelude.{codes}
use Rattle.std.proofs.lemmas.List.{append-nil}
use mathlib.Core.HLevel.{⊥_prop}
use mathlib.Core.Logic.{∥∥₁_elim}
use Rattle.law_texts.specs.Reading.{Expression}
use Rattle.law_scripts.specs.Script.{Command, CheckSat, Exit, GetModel, HasWholeLines, Holds, Script, State, obey, run, start}
use Rattle.law_scripts.specs.Value.{IsModel, IsScriptInterpretation}
use Rattle.law_scripts.proofs.Append.{holds_append}
use Rattle.law_scripts.proofs.Commands.{one_list_of_commands, one_state}
use Rattle.smt_script.specs.CommandTexts.{check_sat_text}
use Rattle.law_verdicts.specs.FirstModel.{constants_of, first_model}
use Rattle.law_verdicts.specs.Fragment.{command_in, command_of}
use Rattle.law_verdicts.specs.Honest.{MayBeRead}
use Rattle.law_verdicts.specs.Honesty.{HasNoModel, IsHonest}
use Rattle.law_verdicts.specs.Machine.{Machine, Reply, model_reply, model_text, put_at, quiet, replied, replied_blindly, taken, then_replied, truth_lines, turn}
use Rattle.law_verdicts.specs.Streams.{Course, Exited, IsAnswered, IsPutAt, MayBeHeard, NotScript, Standing, Stop, Stopped, Takes, TakesAll, TooDeep, TooLong, Waiting, asked, breach, stop_line, with_byte}
use Rattle.law_verdicts.specs.Scan.{ends_command}
use Rattle.law_verdicts.proofs.Honest.{asks, machines_are_honest}

-- ---- honesty

pub heard_is_honest : IsHonest MayBeHeard
heard_is_honest sent was_read line may says turns = by (run cs start) refl
  where
    cs : List Command
    cs = turns.commands ++ CheckSat ∷ []

    holds : Holds sent cs
    holds = subst (λ t. Holds t cs) (sym turns.asked) (holds_append turns.before check_sat_text turns.commands (CheckSat ∷ []) turns.whole turns.holds asks)

    true_of : MayBeRead sent was_read line → HasNoModel sent
    true_of m = machines_are_honest sent was_read line m says turns

    some : (s : State) → None ≡ Some s → ⊥
    some s e = cc

    by : (o : Option State) → run cs start ≡ o → HasNoModel sent
    by None e = absurd (∥∥₁_elim may ⊥_prop (λ m.
        let n = true_of m in
        some n.state (sym e ∙ ap (λ x. run x start) (one_list_of_commands sent cs n.script.commands holds n.script.holds) ∙ n.script.runs)))
    by (Some s) e =
        let script : Script sent s = record { commands = cs; holds = holds; runs = e } in
        record {
          state = s;
          script = script;
          no_model = λ J is model. ∥∥₁_elim may ⊥_prop (λ m.
              let n = true_of m in
              let same = one_state sent s n.state script n.script in
              n.no_model J (subst (IsScriptInterpretation J) same is) (subst (IsModel J) same model));
        }

-- ---- whole lines

line_end : (text : List ℕ) → HasWholeLines (text ++ 10 ∷ [])
line_end [] = ([], refl)
line_end (b ∷ text) = (b ∷ text, refl)

lines_are : (a b : List ℕ) → a ≡ b → HasWholeLines a → HasWholeLines b
lines_are a b e h = subst HasWholeLines e h

-- lines behind lines
lines_then : (a b : List ℕ) → HasWholeLines a → HasWholeLines b → HasWholeLines (a ++ b)
lines_then a [] h k = lines_are a (a ++ []) (sym (append-nil a)) h
lines_then [] (x ∷ b) h k = k
lines_then (y ∷ a) (x ∷ b) h k = (y ∷ (a ++ k.0), ap (λ (t : List ℕ). y ∷ (a ++ t)) k.1 ∙ ap (λ (t : List ℕ). y ∷ t) (sym (append_assoc a k.0 (10 ∷ []))))

abbrev Lined : Option (Reply × Machine) → Type 0
Lined x = HasWholeLines (put_at x (λ m. []))

model_lines : (ns : List (List ℕ)) (bs : List Bool) → HasWholeLines (model_text ns bs ++ [])
model_lines ns bs =
    let inner = truth_lines ns bs in
    let e : (codes "(\n" ++ (inner ++ codes ")")) ++ 10 ∷ [] ≡ model_text ns bs = ap (λ (t : List ℕ). codes "(\n" ++ t) (append_assoc inner (codes ")") (10 ∷ [])) in
    lines_are (model_text ns bs) (model_text ns bs ++ []) (sym (append-nil (model_text ns bs))) (lines_are ((codes "(\n" ++ (inner ++ codes ")")) ++ 10 ∷ []) (model_text ns bs) e (line_end (codes "(\n" ++ (inner ++ codes ")"))))

model_lined : (s : State) (o : Option (List Bool)) (m : Machine) → Lined (Some (model_reply s o, m))
model_lined s (Some bs) m = model_lines (constants_of s) bs
model_lined s None m = line_end (codes "(error \"no model\")")

replied_lined : (shown : Bool) (c : Command) (s : State) → Lined (Some (replied shown c s))
replied_lined shown CheckSat s = line_end _
replied_lined true GetModel s = model_lined s (first_model s) (quiet s)
replied_lined false GetModel s = line_end (codes "(error \"no model\")")
replied_lined shown Exit s = tt
replied_lined shown c s = tt

blindly_lined : (o : Option Command) (s : State) → Lined (Some (replied_blindly o s))
blindly_lined (Some CheckSat) s = line_end (codes "unknown")
blindly_lined (Some GetModel) s = line_end (codes "(error \"no model\")")
blindly_lined (Some Exit) s = tt
blindly_lined o s = tt

taken_lined : (o : Option Command) (shown : Bool) (s : State) → Lined (taken o shown s)
taken_lined (Some c) shown s = by (obey c s)
  where
    by : (p : Option State) → Lined (then_replied shown c p)
    by (Some t) = replied_lined shown c t
    by None = line_end (codes "(error \"not a script\")")
taken_lined None shown s = tt

turn_lined : (m : Machine) (e : Expression) → Lined (turn m e)
turn_lined m e = by m.state.ended m.outside
  where
    by : (x y : Bool) → Lined (cond x None (cond y (Some (replied_blindly (command_of e) m.state)) (taken (command_in m.state e) m.shown m.state)))
    by true y = line_end (codes "(error \"not a script\")")
    by false true = blindly_lined (command_of e) m.state
    by false false = taken_lined (command_in m.state e) m.shown m.state

stop_lined : (stop : Stop) → HasWholeLines (stop_line stop)
stop_lined NotScript = line_end (codes "(error \"not a script\")")
stop_lined TooLong = line_end (codes "(error \"too long\")")
stop_lined TooDeep = line_end (codes "(error \"too deep\")")

answer_lined : (c : Course) (out : List ℕ) (last : Standing) → IsAnswered c out last → HasWholeLines out
answer_lined c out last (inl (none, put, stops)) = lines_are (stop_line NotScript) out (sym put) (stop_lined NotScript)
answer_lined c out last (inr (e, r, put, stands)) = lines_are _ out (sym put) (turn_lined (asked c.odd c.machine) e)

byte_lined : (first : Standing) (b : ℕ) (out : List ℕ) (last : Standing) → Takes first b out last → HasWholeLines out
byte_lined (Waiting c) b out last h = by (breach c b) (ends_command c.scan b) h
  where
    by : (o : Option Stop) (ends : Bool) → IsPutAt o ends (with_byte c b) out last → HasWholeLines out
    by (Some stop) ends k = lines_are (stop_line stop) out (sym k.0) (stop_lined stop)
    by None true k = answer_lined (with_byte c b) out last k
    by None false k = lines_are [] out (sym k.0) tt
byte_lined Exited b out last h = lines_are [] out (sym h.0) tt
byte_lined Stopped b out last h = lines_are [] out (sym h.0) tt

pub stream_lines : (bs : List ℕ) (first : Standing) (out : List ℕ) (last : Standing) → TakesAll first bs out last → HasWholeLines out
stream_lines [] first out last h = lines_are [] out (sym h.0) tt
stream_lines (b ∷ bs) first out last (now, later, next, t, rest, e) =
    lines_are (now ++ later) out (sym e) (lines_then now later (byte_lined first b now next t) (stream_lines bs next later last rest))
