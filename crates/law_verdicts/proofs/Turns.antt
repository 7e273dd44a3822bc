-- What the turns of the machine come to.
use Rattle.std.proofs.Common.{◌≡◌, ◌⊎◌, ℕ, Bool, true, false, cond, eqb, List, [], ◌∷◌, map, length, refl, sym, ap, ap₂, ◌∙◌, subst, inl, inr, Option, Some, None}
use Rattle.std.specs.Prelude.{codes, nat_le}
use Rattle.std.proofs.lemmas.Bool.{cases_Bool, cond-false, false≢true}
use Rattle.law_texts.specs.Reading.{Expression}
use Rattle.law_scripts.specs.Script.{Command, CheckSat, GetModel, Exit, State, obey, run, start, stated, step}
use Rattle.law_texts.specs.Options.{◌>>=◌}
use Rattle.law_scripts.proofs.CommandInduction.{steps_to}
use Rattle.law_verdicts.specs.Fragment.{IsSmall, Lead, command_in, command_of}
use Rattle.law_verdicts.specs.FirstModel.{IsFirst, constants_of, first_model}
use Rattle.law_verdicts.specs.Machine.{AddsNoScript, AreTurns, ChecksAreAnswered, IsTrueWord, Line, Machine, Model, ModelsAreShown, Nothing, RefusalsAreMeant, Reply, TurnsAreScripts, blind, is_found, model_reply, model_text, most_constants, new, no_model, quiet, replied, replied_blindly, shows, taken, then_replied, turn, verdict, word_for}
use Rattle.law_verdicts.proofs.Commands.{commands_are_found, found_is}
use Rattle.law_verdicts.proofs.Found.{models_are_found}

abbrev Turn : Type 0
Turn = Reply × Machine

abbrev nowhere : Option Turn
nowhere = None

-- What a turn came of.
pub turned : (m : Machine) (e : Expression) (x : Turn) → turn m e ≡ Some x
    → (m.state.ended ≡ false) × (((m.outside ≡ true) × (Some (replied_blindly (command_of e) m.state) ≡ Some x)) ⊎ ((m.outside ≡ false) × (taken (command_in m.state e) m.shown m.state ≡ Some x)))
turned m e x h = at m.state.ended m.outside h
  where
    at : (ended outside : Bool) → cond ended None (cond outside (Some (replied_blindly (command_of e) m.state)) (taken (command_in m.state e) m.shown m.state)) ≡ Some x
        → (ended ≡ false) × (((outside ≡ true) × (Some (replied_blindly (command_of e) m.state) ≡ Some x)) ⊎ ((outside ≡ false) × (taken (command_in m.state e) m.shown m.state ≡ Some x)))
    at true outside k = absurd cc
    at false true k = (refl, inl (refl, k))
    at false false k = (refl, inr (refl, k))

-- once blind, always blind
still_blind : (o : Option Command) (s : State) → (replied_blindly o s).1.outside ≡ true
still_blind None s = refl
still_blind (Some CheckSat) s = refl
still_blind (Some GetModel) s = refl
still_blind (Some Exit) s = refl
still_blind (Some c) s = refl

some_turn : (x y : Turn) → Some x ≡ Some y → x ≡ y
some_turn x y h = cc

-- what a command leaves, and that nothing was outside
replied_leaves : (shown : Bool) (c : Command) (s : State) → ((replied shown c s).1.state ≡ s) × ((replied shown c s).1.outside ≡ false)
replied_leaves true CheckSat s = (refl, refl)
replied_leaves false CheckSat s = (refl, refl)
replied_leaves true GetModel s = (refl, refl)
replied_leaves false GetModel s = (refl, refl)
replied_leaves true Exit s = (refl, refl)
replied_leaves false Exit s = (refl, refl)
replied_leaves true c s = (refl, refl)
replied_leaves false c s = (refl, refl)

-- A command was taken, or it was outside.
taken_gives : (o : Option Command) (shown : Bool) (s : State) (x : Turn) → taken o shown s ≡ Some x
    → ((c : Command) × (o ≡ Some c) × (t : State) × (obey c s ≡ Some t) × (replied shown c t ≡ x)) ⊎ ((o ≡ None) × ((Nothing, blind s) ≡ x))
taken_gives None shown s x h = inr (refl, some_turn (Nothing, blind s) x h)
taken_gives (Some c) shown s x h = inl (at (obey c s) refl h)
  where
    at : (o : Option State) → obey c s ≡ o → then_replied shown c o ≡ Some x → (d : Command) × (Some c ≡ Some d) × (t : State) × (obey d s ≡ Some t) × (replied shown d t ≡ x)
    at None e k = absurd cc
    at (Some t) e k = (c, refl, t, e, some_turn (replied shown c t) x k)

-- Where nothing is outside behind a turn, it was a command of the fragment, and nothing was outside before.
pub taken_one : (m : Machine) (e : Expression) (r : Reply) (next : Machine) → turn m e ≡ Some (r, next) → next.outside ≡ false
    → (m.outside ≡ false) × (m.state.ended ≡ false) × (c : Command) × (command_in m.state e ≡ Some c) × (obey c m.state ≡ Some next.state)
taken_one m e r next h clear =
    let p = turned m e (r, next) h in
    elim p.1 [
      | inl q ↦ absurd (false≢true (sym clear ∙ ap (λ (x : Turn). x.1.outside) (sym (some_turn (replied_blindly (command_of e) m.state) (r, next) q.1)) ∙ still_blind (command_of e) m.state))
      | inr q ↦ elim (taken_gives (command_in m.state e) m.shown m.state (r, next) q.1) [
        | inl z ↦ (q.0, p.0, z.0, z.1, z.3 ∙ ap Some (sym (replied_leaves m.shown z.0 z.2).0 ∙ ap (λ (x : Turn). x.1.state) z.4))
        | inr z ↦ absurd (false≢true (sym clear ∙ ap (λ (x : Turn). x.1.outside) (sym z.1)))
      ]
    ]

-- The commands of such turns.
pub record Came (m last : Machine) (es : List Expression) : Type 0 where
  pub clear : m.outside ≡ false
  pub commands : List Command
  pub states : map stated commands ≡ es
  pub lead : Lead commands m.state last.state

pub came : (es : List Expression) (rs : List Reply) (m last : Machine) → AreTurns m es rs last → last.outside ≡ false → Came m last es
came [] [] m last h clear = record { clear = ap (λ (x : Machine). x.outside) h ∙ clear; commands = []; states = refl; lead = ap (λ (x : Machine). x.state) h }
came [] (r ∷ rs) m last h clear = absurd h
came (e ∷ es) [] m last h clear = absurd h
came (e ∷ es) (r ∷ rs) m last h clear =
    let rest = came es rs h.0 last h.2 clear in
    let one = taken_one m e r h.0 h.1 rest.clear in
    let found = found_is m.state one.2 e one.3 in
    record {
      clear = one.0;
      commands = one.2 ∷ rest.commands;
      states = ap₂ (λ (x : Expression) (xs : List Expression). x ∷ xs) found.0 rest.states;
      lead = (found.1, h.0.state, steps_to one.2 m.state h.0.state one.1 one.4, rest.lead);
    }

-- what leads from one state to another runs so
pub lead_runs : (cs : List Command) (s t : State) → Lead cs s t → run cs s ≡ Some t
lead_runs [] s t h = ap Some h
lead_runs (c ∷ cs) s t h = ap (λ (o : Option State). o >>= run cs) h.2 ∙ lead_runs cs h.1 t h.3

pub turns_are_scripts : TurnsAreScripts
turns_are_scripts es rs m h clear = let x = came es rs new m h clear in (x.commands, x.states, x.lead, lead_runs x.commands start m.state x.lead)

-- ---- checks

-- what the answer is worth
pub answered : (s : State) → IsSmall s → IsTrueWord s (verdict s)
answered s small = at (nat_le (length (constants_of s)) most_constants) refl (first_model s) refl
  where
    at : (few : Bool) → nat_le (length (constants_of s)) most_constants ≡ few → (o : Option (List Bool)) → first_model s ≡ o → IsTrueWord s (cond few (word_for o) (codes "unknown"))
    at false e o f = record { few = λ few. absurd (false≢true (sym e ∙ few)); many = λ many. refl }
    at true e None f = record { few = λ few. inr (refl, (models_are_found s small).0 f); many = λ many. absurd (false≢true (sym many ∙ e)) }
    at true e (Some bs) f = record { few = λ few. inl (refl, bs, f, (models_are_found s small).2 bs f); many = λ many. absurd (false≢true (sym many ∙ e)) }

-- a turn where nothing was outside and nothing ended
pub turn_clear : (m : Machine) (e : Expression) → m.state.ended ≡ false → m.outside ≡ false → turn m e ≡ taken (command_in m.state e) m.shown m.state
turn_clear m e running clear = rw (running, clear) refl

pub turn_blind : (m : Machine) (e : Expression) → m.state.ended ≡ false → m.outside ≡ true → turn m e ≡ Some (replied_blindly (command_of e) m.state)
turn_blind m e running outside = rw (running, outside) refl

-- behind a check
abbrev pub after_checked : State → Machine
after_checked s = record { state = s; outside = false; shown = shows s }

pub checked : (m : Machine) → m.outside ≡ false → m.state.ended ≡ false → turn m (stated CheckSat) ≡ Some (Line (verdict m.state), after_checked m.state)
checked m clear running = turn_clear m (stated CheckSat) running clear

-- once a command was outside, this stays
stays_outside : (es : List Expression) (rs : List Reply) (m last : Machine) → m.outside ≡ true → AreTurns m es rs last → last.outside ≡ true
stays_outside [] [] m last o h = subst (λ (x : Machine). x.outside ≡ true) h o
stays_outside [] (r ∷ rs) m last o h = absurd h
stays_outside (e ∷ es) [] m last o h = absurd h
stays_outside (e ∷ es) (r ∷ rs) m last o h = stays_outside es rs h.0 last (elim (turned m e (r, h.0) h.1).1 [
  | inl q ↦ ap (λ (x : Turn). x.1.outside) (sym (some_turn (replied_blindly (command_of e) m.state) (r, h.0) q.1)) ∙ still_blind (command_of e) m.state
  | inr q ↦ absurd (false≢true (sym q.0 ∙ o))
]) h.2

pub checks_are_answered : ChecksAreAnswered
checks_are_answered = record {
  decided = λ es rs m h clear running. let x = came es rs new m h clear in (verdict m.state, after_checked m.state, checked m clear running, answered m.state (x.commands, x.lead));
  outside = λ m e clear running none. turn_clear m e running clear ∙ ap (λ o. taken o m.shown m.state) none;
  undecided = λ m es rs last outside h running. (blind last.state, turn_blind last (stated CheckSat) running (stays_outside es rs m last outside h));
}

-- ---- models

abbrev starts_with : ℕ → Option Turn → Bool
starts_with c (Some (Line (b ∷ text), next)) = eqb b c
starts_with c x = false

-- `sat` is answered where nothing was outside, and where a model is found
sat_shows : (s : State) → Line (verdict s) ≡ Line (codes "sat") → (shows s ≡ true) × (bs : List Bool) × (first_model s ≡ Some bs)
sat_shows s h = at (nat_le (length (constants_of s)) most_constants) (first_model s) refl (ap (λ r. starts_with 115 (Some (r, new))) h)
  where
    at : (few : Bool) (o : Option (List Bool)) → first_model s ≡ o → starts_with 115 (Some (Line (cond few (word_for o) (codes "unknown")), new)) ≡ true → (cond few (is_found o) false ≡ true) × (bs : List Bool) × (first_model s ≡ Some bs)
    at true (Some bs) f k = (refl, bs, f)
    at true None f k = absurd (false≢true k)
    at false o f k = absurd (false≢true k)

-- what is shown behind it
shown_then : (s : State) (bs : List Bool) → s.ended ≡ false → shows s ≡ true → first_model s ≡ Some bs → turn (after_checked s) (stated GetModel) ≡ Some (Model (model_text (constants_of s) bs), quiet s)
shown_then s bs running shown found =
    turn_clear (after_checked s) (stated GetModel) running refl
    ∙ ap (λ b. then_replied b GetModel (Some s)) shown
    ∙ ap (λ o. Some (model_reply s o, quiet s)) found

model_shown : (es : List Expression) (rs : List Reply) (m next : Machine) → AreTurns new es rs m → turn m (stated CheckSat) ≡ Some (Line (codes "sat"), next)
    → (bs : List Bool) × IsFirst m.state bs × (turn next (stated GetModel) ≡ Some (Model (model_text (constants_of m.state) bs), quiet m.state))
model_shown es rs m next h t =
    let p = turned m (stated CheckSat) (Line (codes "sat"), next) t in
    elim p.1 [
      | inl q ↦ absurd (false≢true (ap (starts_with 115) q.1))
      | inr q ↦ (let x = came es rs new m h q.0 in
          let same = some_turn (Line (verdict m.state), after_checked m.state) (Line (codes "sat"), next) (sym (checked m q.0 p.0) ∙ t) in
          let found = sat_shows m.state (ap (λ (y : Turn). y.0) same) in
          (found.1, (models_are_found m.state (x.commands, x.lead)).2 found.1 found.2, subst (λ n. turn n (stated GetModel) ≡ Some (Model (model_text (constants_of m.state) found.1), quiet m.state)) (ap (λ (y : Turn). y.1) same) (shown_then m.state found.1 p.0 found.0 found.2)))
    ]

model_hidden : (m : Machine) → m.state.ended ≡ false → m.shown ≡ false → (next : Machine) × (turn m (stated GetModel) ≡ Some (no_model, next))
model_hidden m running hidden = elim (cases_Bool m.outside) [
  | inl e ↦ (blind m.state, turn_blind m (stated GetModel) running e)
  | inr e ↦ (quiet m.state, turn_clear m (stated GetModel) running e ∙ ap (λ b. then_replied b GetModel (Some m.state)) hidden)
]

pub models_are_shown : ModelsAreShown
models_are_shown = record { shown = model_shown; hidden = model_hidden }

-- ---- refusals

none_taken : (o : Option Command) (shown : Bool) (s : State) → taken o shown s ≡ nowhere → (c : Command) × (o ≡ Some c) × (obey c s ≡ None)
none_taken None shown s h = absurd cc
none_taken (Some c) shown s h = (c, refl, at (obey c s) refl h)
  where
    at : (o : Option State) → obey c s ≡ o → then_replied shown c o ≡ nowhere → obey c s ≡ None
    at None e k = e
    at (Some t) e k = absurd cc

refused_by : (m : Machine) (e : Expression) → turn m e ≡ None → (m.state.ended ≡ true) ⊎ AddsNoScript m e
refused_by m e h = elim (cases_Bool m.state.ended) [
  | inl ended ↦ inl ended
  | inr running ↦ elim (cases_Bool m.outside) [
    | inl outside ↦ absurd (something (replied_blindly (command_of e) m.state) (sym (turn_blind m e running outside) ∙ h))
    | inr clear ↦ (let p = none_taken (command_in m.state e) m.shown m.state (sym (turn_clear m e running clear) ∙ h) in
        let f = found_is m.state p.0 e p.1 in
        inr (record { command = p.0; states = f.0; clear = clear; within = f.1; no_script = cond-false m.state.ended (Some m.state) (obey p.0 m.state) running ∙ p.2 }))
  ]
]
  where
    something : (x : Turn) → Some x ≡ None → ⊥
    something x k = cc

-- a command that is not obeyed, where nothing ended
not_obeyed : (c : Command) (s : State) → step c s ≡ None → (s.ended ≡ false) × (obey c s ≡ None)
not_obeyed c s h = at s.ended h
  where
    at : (b : Bool) → cond b (Some s) (obey c s) ≡ None → (b ≡ false) × (obey c s ≡ None)
    at true k = absurd cc
    at false k = (refl, k)

refused_so : (m : Machine) (e : Expression) → (m.state.ended ≡ true) ⊎ AddsNoScript m e → turn m e ≡ None
refused_so m e (inl ended) = rw ended refl
refused_so m e (inr a) =
    let p = not_obeyed a.command m.state a.no_script in
    turn_clear m e p.0 a.clear
    ∙ ap (λ o. taken o m.shown m.state) ((commands_are_found m.state a.command e).1 a.states a.within)
    ∙ ap (then_replied m.shown a.command) p.1

pub refusals_are_meant : RefusalsAreMeant
refusals_are_meant m e = (refused_by m e, refused_so m e)
