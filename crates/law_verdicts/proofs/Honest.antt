-- Whoever puts what the machine puts is honest.
use Rattle.std.proofs.Common.{◌≡◌, ℕ, Bool, true, false, cond, List, [], ◌∷◌, ◌++◌, map, length, refl, sym, ap, ◌∙◌, subst, inl, inr, append_assoc, Option, Some, None}
use Rattle.std.specs.Prelude.{IsTrue, codes, nat_le}
use Rattle.std.specs.List.{concat}
use Rattle.std.proofs.lemmas.Bool.{cases_Bool, false≢true}
use Rattle.std.proofs.lemmas.List.Elements.{recursion_from_All}
use Rattle.law_texts.specs.Reading.{Expression, expressions}
use Rattle.law_scripts.specs.Script.{Command, DeclareDatatype, CheckSat, GetModel, Exit, Holds, State, obey, operands, start, stated, step}
use Rattle.law_scripts.specs.Sorts.{same_sorts}
use Rattle.law_scripts.specs.Written.{option_command}
use Rattle.law_scripts.proofs.Append.{holds_append, runs_then}
use Rattle.law_scripts.proofs.CommandInduction.{steps_to}
use Rattle.law_scripts.proofs.Laid.{plain_lines}
use Rattle.law_verdicts.specs.Fragment.{IsSmall, Lead, command_in, command_of, is_within}
use Rattle.law_verdicts.specs.FirstModel.{constants_of, first_model}
use Rattle.law_verdicts.specs.Honest.{MachinesAreHonest, MachinesMayPut, MayPut, PutsAt, Stops}
use Rattle.law_verdicts.specs.Machine.{Ended, Line, Machine, Model, Nothing, Reply, blind, model_reply, model_text, most_constants, new, no_model, put_at, put_for, quiet, refusal_line, replied, replied_blindly, taken, then_replied, turn, verdict, word_for}
use Rattle.smt_script.specs.CommandTexts.{check_sat_text}
use Rattle.smt_solve.specs.Answers.{error_line}
use Rattle.smt_solve.specs.Link.{IsLine}
use Rattle.law_verdicts.specs.Honesty.{AreAnswersTo}
use Rattle.law_verdicts.proofs.Bytes.{Anything, NoneIsFeed, Says, free, free_parts, is_free, line_is, not_bracket, not_nothing, not_sat, not_unknown, says}
use Rattle.law_verdicts.proofs.Commands.{same_statement, within_gives}
use Rattle.law_verdicts.proofs.Found.{models_are_found}
use Rattle.law_verdicts.proofs.ModelLines.{not_a_model, same_model}
use Rattle.law_verdicts.proofs.Small.{HasTruths, small_has_truths}
use Rattle.law_verdicts.proofs.Turns.{after_checked, checked, lead_runs, turn_blind, turn_clear}
use Rattle.law_verdicts.proofs.Believing.{check_runs}

-- what is sent: commands, and a check behind them
abbrev asked : List Command → List Expression
asked cs = map stated (cs ++ CheckSat ∷ [])

-- What is put behind these answers says `unsat`.
record Hears (cs : List Command) (was_read out : List ℕ) : Type 0 where
  behind : List ℕ
  answers : AreAnswersTo cs was_read
  whole : out ≡ was_read ++ behind
  says_unsat : Says Anything behind (codes "unsat")

-- without commands what is put says so itself
at_end : (was_read out : List ℕ) → Hears [] was_read out → Says Anything out (codes "unsat")
at_end was_read out h = subst (λ t. Says Anything t (codes "unsat")) (sym (h.whole ∙ ap (λ t. t ++ h.behind) h.answers)) h.says_unsat

-- behind the answer to a check
after_check : (cs : List Command) (was_read text next : List ℕ) → is_free text ≡ true → Hears (CheckSat ∷ cs) was_read (text ++ 10 ∷ next) → (rest : List ℕ) × Hears cs rest next
after_check cs was_read text next f h =
    let line = h.answers.0 in
    let rest = h.answers.1 in
    let p = line_is line text (rest ++ h.behind) next h.answers.3 (free text f) (h.whole ∙ ap (λ t. t ++ h.behind) h.answers.2 ∙ append_assoc line rest h.behind) in
    (rest, record { behind = h.behind; answers = h.answers.4; whole = p.1; says_unsat = h.says_unsat })

-- the line that no model is to be had is no answer to `get-model`
no_model_answers : (cs : List Command) (was_read next : List ℕ) → Hears (GetModel ∷ cs) was_read (codes "(error \"no model\")" ++ 10 ∷ next) → ⊥
no_model_answers cs was_read next h =
    not_a_model h.answers.0 (h.answers.1 ++ h.behind) next h.answers.3 (h.whole ∙ ap (λ t. t ++ h.behind) h.answers.2 ∙ append_assoc h.answers.0 h.answers.1 h.behind)

-- behind a model
after_model : (cs : List Command) (s : State) (bs : List Bool) (was_read next : List ℕ) → HasTruths s → Hears (GetModel ∷ cs) was_read (model_text (constants_of s) bs ++ next) → (rest : List ℕ) × Hears cs rest next
after_model cs s bs was_read next t h =
    let model = h.answers.0 in
    let rest = h.answers.1 in
    let e = same_model s bs model (rest ++ h.behind) next t h.answers.3 (h.whole ∙ ap (λ x. x ++ h.behind) h.answers.2 ∙ append_assoc model rest h.behind) in
    (rest, record { behind = h.behind; answers = h.answers.4; whole = e; says_unsat = h.says_unsat })

nothing_behind : (a b : List ℕ) → [] ≡ a ++ b → b ≡ []
nothing_behind [] b h = sym h
nothing_behind (x ∷ a) b h = absurd cc

-- nothing says nothing
nothing_says : (cs : List Command) (was_read : List ℕ) → Hears cs was_read [] → ⊥
nothing_says cs was_read h = not_nothing (subst (λ t. Says Anything t (codes "unsat")) (nothing_behind was_read h.behind h.whole) h.says_unsat)

-- a line that tells of an error has no line feed within
error_free : (message : List ℕ) → NoneIsFeed message → NoneIsFeed (error_line message)
error_free message f = free_parts (codes "(error \"") (message ++ codes "\")") (free (codes "(error \"") refl) (free_parts message (codes "\")") f (free (codes "\")") refl))

-- the first line is the only one that is put, so that nothing is behind it
error_first : (message line rest behind : List ℕ) → NoneIsFeed message → IsLine line → error_line message ++ 10 ∷ [] ≡ line ++ (rest ++ behind) → Says Anything behind (codes "unsat") → ⊥
error_first message line rest behind f l h s =
    let p = line_is line (error_line message) (rest ++ behind) [] l (error_free message f) h in
    not_nothing (subst (λ t. Says Anything t (codes "unsat")) (nothing_behind rest behind p.1) s)

-- An error is no answer, and nothing is put behind it.
error_says : (cs : List Command) (was_read message : List ℕ) → NoneIsFeed message → Hears cs was_read (error_line message ++ 10 ∷ []) → ⊥
error_says [] was_read message f h = not_bracket _ (at_end was_read (error_line message ++ 10 ∷ []) h)
error_says (CheckSat ∷ cs) was_read message f h =
    error_first message h.answers.0 h.answers.1 h.behind f h.answers.3 (h.whole ∙ ap (λ t. t ++ h.behind) h.answers.2 ∙ append_assoc h.answers.0 h.answers.1 h.behind) h.says_unsat
error_says (GetModel ∷ cs) was_read message f h =
    let m = h.answers.3 in
    let lines = concat (m.inner ++ m.last ∷ []) in
    error_first message m.first (lines ++ h.answers.1) h.behind f m.lines.0
    (h.whole ∙ ap (λ t. t ++ h.behind) (h.answers.2 ∙ ap (λ t. t ++ h.answers.1) m.whole ∙ append_assoc m.first lines h.answers.1) ∙ append_assoc m.first (lines ++ h.answers.1) h.behind) h.says_unsat
error_says (c ∷ cs) was_read message f h = error_says cs was_read message f (record { behind = h.behind; answers = h.answers; whole = h.whole; says_unsat = h.says_unsat })

hears_so : (cs : List Command) (was_read out text : List ℕ) → out ≡ text → Hears cs was_read out → Hears cs was_read text
hears_so cs was_read out text e h = subst (Hears cs was_read) e h

stopped : (cs : List Command) (was_read out : List ℕ) → Stops out → Hears cs was_read out → ⊥
stopped cs was_read out (inl e) h = nothing_says cs was_read (hears_so cs was_read out [] e h)
stopped cs was_read out (inr (message, f, e)) h = error_says cs was_read message (recursion_from_All (λ b. b ≡ 10 → ⊥) message f) (hears_so cs was_read out (error_line message ++ 10 ∷ []) e h)

refused : (cs : List Command) (was_read out : List ℕ) → out ≡ refusal_line → Hears cs was_read out → ⊥
refused cs was_read out e h = error_says cs was_read (codes "not a script") (free (codes "not a script") refl) (hears_so cs was_read out refusal_line e h)

-- ---- what is put

-- what is put at the turn of the first expression
abbrev Put : Option (Reply × Machine) → List Command → List ℕ → Type 0
Put x cs out = PutsAt x (λ next rest. MayPut next (asked cs) rest) out

put_by : (x y : Option (Reply × Machine)) (cs : List Command) (out : List ℕ) → x ≡ y → Put x cs out → Put y cs out
put_by x y cs out e p = subst (λ z. Put z cs out) e p

-- behind `exit` everything is refused
ended_turn : (m : Machine) (e : Expression) → m.state.ended ≡ true → turn m e ≡ None
ended_turn m e h = rw h refl

-- commands that are answered, and `exit`
abbrev is_asking : Command → Bool
is_asking CheckSat = true
is_asking GetModel = true
is_asking Exit = true
is_asking c = false

-- ---- behind a command that was outside

option_blindly : (b : Bool) (s : State) → replied_blindly (cond b (Some option_command) None) s ≡ (Nothing, blind s)
option_blindly true s = refl
option_blindly false s = refl

blindly : (c : Command) (s : State) → is_asking c ≡ false → replied_blindly (command_of (stated c)) s ≡ (Nothing, blind s)
blindly (DeclareDatatype d ps cs) s h = option_blindly (same_sorts (expressions (operands (DeclareDatatype d ps cs))) (expressions (operands option_command))) s
blindly CheckSat s h = absurd (false≢true (sym h))
blindly GetModel s h = absurd (false≢true (sym h))
blindly Exit s h = absurd (false≢true (sym h))
blindly c s h = refl

-- no `unsat` comes then
blinded : (cs : List Command) (s : State) (was_read out : List ℕ) → MayPut (blind s) (asked cs) out → Hears cs was_read out → ⊥
blinded [] s was_read out (inl stops) h = stopped [] was_read out stops h
blinded [] s was_read out (inr put) h = elim (cases_Bool s.ended) [
  | inl e ↦ refused [] was_read out (subst (λ x. PutsAt x (λ next rest. MayPut next [] rest) out) (ended_turn (blind s) (stated CheckSat) e) put) h
  | inr e ↦ (let p = subst (λ x. PutsAt x (λ next rest. MayPut next [] rest) out) (turn_blind (blind s) (stated CheckSat) e refl) put in
      not_unknown (10 ∷ p.0) (at_end was_read (codes "unknown" ++ 10 ∷ p.0) (hears_so [] was_read out _ p.1 h)))
]
blinded (c ∷ cs) s was_read out (inl stops) h = stopped (c ∷ cs) was_read out stops h
blinded (CheckSat ∷ cs) s was_read out (inr put) h = elim (cases_Bool s.ended) [
  | inl e ↦ refused (CheckSat ∷ cs) was_read out (put_by _ None cs out (ended_turn (blind s) (stated CheckSat) e) put) h
  | inr e ↦ (let p = put_by _ (Some (Line (codes "unknown"), blind s)) cs out (turn_blind (blind s) (stated CheckSat) e refl) put in
      let x = after_check cs was_read (codes "unknown") p.0 refl (hears_so (CheckSat ∷ cs) was_read out _ p.1 h) in
      blinded cs s x.0 p.0 p.2 x.1)
]
blinded (GetModel ∷ cs) s was_read out (inr put) h = elim (cases_Bool s.ended) [
  | inl e ↦ refused (GetModel ∷ cs) was_read out (put_by _ None cs out (ended_turn (blind s) (stated GetModel) e) put) h
  | inr e ↦ (let p = put_by _ (Some (no_model, blind s)) cs out (turn_blind (blind s) (stated GetModel) e refl) put in
      no_model_answers cs was_read p.0 (hears_so (GetModel ∷ cs) was_read out _ p.1 h))
]
blinded (Exit ∷ cs) s was_read out (inr put) h = elim (cases_Bool s.ended) [
  | inl e ↦ refused (Exit ∷ cs) was_read out (put_by _ None cs out (ended_turn (blind s) (stated Exit) e) put) h
  | inr e ↦ nothing_says (Exit ∷ cs) was_read (hears_so (Exit ∷ cs) was_read out [] (put_by _ (Some (Ended, blind (record s { ended = true }))) cs out (turn_blind (blind s) (stated Exit) e refl) put) h)
]
blinded (c ∷ cs) s was_read out (inr put) h = elim (cases_Bool s.ended) [
  | inl e ↦ refused cs was_read out (put_by _ None cs out (ended_turn (blind s) (stated c) e) put) (record { behind = h.behind; answers = h.answers; whole = h.whole; says_unsat = h.says_unsat })
  | inr e ↦ blinded cs s was_read out (put_by _ (Some (Nothing, blind s)) cs out (turn_blind (blind s) (stated c) e refl ∙ ap Some (blindly c s refl)) put)
      (record { behind = h.behind; answers = h.answers; whole = h.whole; says_unsat = h.says_unsat })
]

-- ---- where nothing was outside

-- the answer to a check
verdict_free : (s : State) → is_free (verdict s) ≡ true
verdict_free s = by (nat_le (length (constants_of s)) most_constants) (first_model s)
  where
    by : (few : Bool) (o : Option (List Bool)) → is_free (cond few (word_for o) (codes "unknown")) ≡ true
    by true None = refl
    by true (Some bs) = refl
    by false o = refl

verdict_says : (s : State) (rest : List ℕ) → Says Anything (verdict s ++ rest) (codes "unsat") → first_model s ≡ None
verdict_says s rest h = by (nat_le (length (constants_of s)) most_constants) (first_model s) h
  where
    by : (few : Bool) (o : Option (List Bool)) → Says Anything (cond few (word_for o) (codes "unknown") ++ rest) (codes "unsat") → o ≡ None
    by true None k = refl
    by true (Some bs) k = absurd (not_sat rest k)
    by false o k = absurd (not_unknown rest k)

-- a script of the fragment goes on
lead_on : (cs : List Command) (s t u : State) (c : Command) → Lead cs s t → IsTrue (is_within t c) → step c t ≡ Some u → Lead (cs ++ c ∷ []) s u
lead_on [] s t u c h w e = (subst (λ x. IsTrue (is_within x c)) (sym h) w, u, ap (step c) h ∙ e, refl)
lead_on (d ∷ cs) s t u c h w e = (h.0, h.1, h.2, lead_on cs h.1 t u c h.3 w e)

small_on : (s t : State) (c : Command) → IsSmall s → IsTrue (is_within s c) → step c s ≡ Some t → IsSmall t
small_on s t c small w e = (small.0 ++ c ∷ [], lead_on small.0 start s t c small.1 w e)

-- what a command leaves that is neither answered nor `exit`
quietly : (shown : Bool) (c : Command) (t : State) → is_asking c ≡ false → replied shown c t ≡ (Nothing, quiet t)
quietly shown CheckSat t h = absurd (false≢true (sym h))
quietly shown GetModel t h = absurd (false≢true (sym h))
quietly shown Exit t h = absurd (false≢true (sym h))
quietly true c t h = refl
quietly false c t h = refl

-- So it lies in the fragment, and goes on to a state.
record GoesOn (c : Command) (cs : List Command) (s : State) (out : List ℕ) : Type 0 where
  next : State
  within : IsTrue (is_within s c)
  steps : step c s ≡ Some next
  put : MayPut (quiet next) (asked cs) out

goes_on : (c : Command) (cs : List Command) (m : Machine) (was_read out : List ℕ) → is_asking c ≡ false → m.outside ≡ false → m.state.ended ≡ false → Put (turn m (stated c)) cs out → Hears cs was_read out → GoesOn c cs m.state out
goes_on c cs m was_read out quiet_one clear running put h = found (command_in m.state (stated c)) refl
  where
    turns : (o : Option Command) → command_in m.state (stated c) ≡ o → turn m (stated c) ≡ taken o m.shown m.state
    turns o e = turn_clear m (stated c) running clear ∙ ap (λ x. taken x m.shown m.state) e

    obeyed : IsTrue (is_within m.state c) → turn m (stated c) ≡ then_replied m.shown c (obey c m.state) → (o : Option State) → obey c m.state ≡ o → GoesOn c cs m.state out
    obeyed w k None e = absurd (refused cs was_read out (put_by (turn m (stated c)) None cs out (k ∙ ap (then_replied m.shown c) e) put) h)
    obeyed w k (Some t) e = record {
      next = t;
      within = w;
      steps = steps_to c m.state t running e;
      put = put_by (turn m (stated c)) (Some (Nothing, quiet t)) cs out (k ∙ ap (then_replied m.shown c) e ∙ ap Some (quietly m.shown c t quiet_one)) put;
    }

    found : (o : Option Command) → command_in m.state (stated c) ≡ o → GoesOn c cs m.state out
    found None e = absurd (blinded cs m.state was_read out (put_by (turn m (stated c)) (Some (Nothing, blind m.state)) cs out (turns None e) put) h)
    found (Some d) e =
        let g = within_gives m.state (command_of (stated c)) d e in
        let same = same_statement c d g.0 in
        obeyed (subst (λ x. IsTrue (is_within m.state x)) same g.1) (turns (Some d) e ∙ ap (λ x. then_replied m.shown x (obey x m.state)) same) (obey c m.state) refl

-- behind `get-model`
model_shown : (cs : List Command) (s : State) (was_read out : List ℕ) → HasTruths s → (shown : Bool) → Put (Some (replied shown GetModel s)) cs out → Hears (GetModel ∷ cs) was_read out → (rest next : List ℕ) × MayPut (quiet s) (asked cs) next × Hears cs rest next
model_shown cs s was_read out t false put h = absurd (no_model_answers cs was_read put.0 (hears_so (GetModel ∷ cs) was_read out _ put.1 h))
model_shown cs s was_read out t true put h = by (first_model s) put
  where
    by : (o : Option (List Bool)) → Put (Some (model_reply s o, quiet s)) cs out → (rest next : List ℕ) × MayPut (quiet s) (asked cs) next × Hears cs rest next
    by None p = absurd (no_model_answers cs was_read p.0 (hears_so (GetModel ∷ cs) was_read out _ p.1 h))
    by (Some bs) p = let x = after_model cs s bs was_read p.0 t (hears_so (GetModel ∷ cs) was_read out _ p.1 h) in (x.0, p.0, p.2, x.1)

-- The commands lead to a state in which the search finds nothing.
record FindsNone (cs : List Command) (s : State) : Type 0 where
  state : State
  lead : Lead cs s state
  none : first_model state ≡ None

one_more : (c : Command) (cs : List Command) (s t : State) → IsTrue (is_within s c) → step c s ≡ Some t → FindsNone cs t → FindsNone (c ∷ cs) s
one_more c cs s t w e f = record { state = f.state; lead = (w, t, e, f.lead); none = f.none }

-- It did not stop, and did not end before.
put_there : (c : Command) (cs ds : List Command) (m : Machine) (was_read out : List ℕ) → MayPut m (stated c ∷ asked cs) out → Hears ds was_read out → (m.state.ended ≡ false) × Put (turn m (stated c)) cs out
put_there c cs ds m was_read out (inl stops) h = absurd (stopped ds was_read out stops h)
put_there c cs ds m was_read out (inr put) h = elim (cases_Bool m.state.ended) [
  | inl e ↦ absurd (refused ds was_read out (put_by (turn m (stated c)) None cs out (ended_turn m (stated c) e) put) h)
  | inr e ↦ (e, put)
]

last_there : (m : Machine) (was_read out : List ℕ) → m.outside ≡ false → MayPut m (asked []) out → Hears [] was_read out → first_model m.state ≡ None
last_there m was_read out clear (inl stops) h = absurd (stopped [] was_read out stops h)
last_there m was_read out clear (inr put) h = elim (cases_Bool m.state.ended) [
  | inl e ↦ absurd (refused [] was_read out (subst (λ x. PutsAt x (λ next rest. MayPut next [] rest) out) (ended_turn m (stated CheckSat) e) put) h)
  | inr e ↦ (let p = subst (λ x. PutsAt x (λ next rest. MayPut next [] rest) out) (checked m clear e) put in
      verdict_says m.state (10 ∷ p.0) (at_end was_read (verdict m.state ++ 10 ∷ p.0) (hears_so [] was_read out _ p.1 h)))
]

heard : (cs : List Command) (m : Machine) (was_read out : List ℕ) → IsSmall m.state → m.outside ≡ false → MayPut m (asked cs) out → Hears cs was_read out → FindsNone cs m.state
heard [] m was_read out small clear put h = record { state = m.state; lead = refl; none = last_there m was_read out clear put h }
heard (CheckSat ∷ cs) m was_read out small clear put h =
    let q = put_there CheckSat cs (CheckSat ∷ cs) m was_read out put h in
    let p = put_by _ (Some (Line (verdict m.state), after_checked m.state)) cs out (checked m clear q.0) q.1 in
    let x = after_check cs was_read (verdict m.state) p.0 (verdict_free m.state) (hears_so (CheckSat ∷ cs) was_read out _ p.1 h) in
    one_more CheckSat cs m.state m.state refl (steps_to CheckSat m.state m.state q.0 refl) (heard cs (after_checked m.state) x.0 p.0 small refl p.2 x.1)
heard (GetModel ∷ cs) m was_read out small clear put h =
    let q = put_there GetModel cs (GetModel ∷ cs) m was_read out put h in
    let p = put_by _ (Some (replied m.shown GetModel m.state)) cs out (turn_clear m (stated GetModel) q.0 clear) q.1 in
    let x = model_shown cs m.state was_read out (small_has_truths m.state small) m.shown p h in
    one_more GetModel cs m.state m.state refl (steps_to GetModel m.state m.state q.0 refl) (heard cs (quiet m.state) x.0 x.1 small refl x.2 x.3)
heard (Exit ∷ cs) m was_read out small clear put h =
    let q = put_there Exit cs (Exit ∷ cs) m was_read out put h in
    absurd (nothing_says (Exit ∷ cs) was_read (hears_so (Exit ∷ cs) was_read out [] (exit_puts m.shown (put_by _ (then_replied m.shown Exit (obey Exit m.state)) cs out (turn_clear m (stated Exit) q.0 clear) q.1)) h))
  where
    exit_puts : (shown : Bool) → Put (then_replied shown Exit (obey Exit m.state)) cs out → out ≡ []
    exit_puts true p = p
    exit_puts false p = p
heard (c ∷ cs) m was_read out small clear put h =
    let less : Hears cs was_read out = record { behind = h.behind; answers = h.answers; whole = h.whole; says_unsat = h.says_unsat } in
    let q = put_there c cs cs m was_read out put less in
    let x = goes_on c cs m was_read out refl clear q.0 q.1 less in
    one_more c cs m.state x.next x.within x.steps (heard cs (quiet x.next) was_read out (small_on m.state x.next c small x.within x.steps) refl x.put less)

-- ---- honesty

pub asks : Holds check_sat_text (CheckSat ∷ [])
asks = plain_lines.0.holds

pub machines_are_honest : MachinesAreHonest
machines_are_honest sent was_read line may s turn =
    let holds = subst (λ t. Holds t (turn.commands ++ CheckSat ∷ [])) (sym turn.asked) (holds_append turn.before check_sat_text turn.commands (CheckSat ∷ []) turn.whole turn.holds asks) in
    let f = heard turn.commands new was_read may.out ([], refl) refl (may.put (turn.commands ++ CheckSat ∷ []) holds) (record { behind = line ++ may.rest; answers = turn.answered; whole = may.reads; says_unsat = says line (codes "unsat") may.rest s }) in
    record {
      state = f.state;
      script = record { commands = turn.commands ++ CheckSat ∷ []; holds = holds; runs = runs_then turn.commands (CheckSat ∷ []) start f.state f.state (lead_runs turn.commands start f.state f.lead) (check_runs f.state) };
      no_model = (models_are_found f.state (turn.commands, f.lead)).0 f.none;
    }

-- what the machine puts may be put
may_put_at : (es : List Expression) → ((n : Machine) → MayPut n es (put_for n es)) → (x : Option (Reply × Machine)) → PutsAt x (λ next rest. MayPut next es rest) (put_at x (λ n. put_for n es))
may_put_at es f None = refl
may_put_at es f (Some (Nothing, next)) = f next
may_put_at es f (Some (Line text, next)) = (put_for next es, refl, f next)
may_put_at es f (Some (Model text, next)) = (put_for next es, refl, f next)
may_put_at es f (Some (Ended, next)) = refl

pub machines_may_put : MachinesMayPut
machines_may_put m [] = inl refl
machines_may_put m (e ∷ es) = inr (may_put_at es (λ n. machines_may_put n es) (turn m e))
