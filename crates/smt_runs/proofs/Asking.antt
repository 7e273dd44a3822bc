-- Checks of steps that stand behind one another.
use Rattle.std.proofs.Common.{◌≡◌, ℕ, zero, List, [], ◌∷◌, ◌++◌, sym, ap, ◌∙◌, subst, append_assoc, append-nil}
use Rattle.law_terms.specs.TypeValues.{Enums}
use Rattle.law_theorem.specs.Fits.{Stages}
use Rattle.law_jobs.specs.Steps.{PlainStep, AssertStep, CheckStep, PopStep, PushStep}
use Rattle.smt_script.specs.CommandTexts.{check_sat_text}
use Rattle.law_verdicts.specs.Dialogues.{AnsweredCheck, sent_for}
use Rattle.smt_runs.specs.Asked.{AreAsked}
use Rattle.smt_runs.specs.JobTexts.{checks_in, stages_behind, stages_of_step, text_behind, text_of_step}

module _ (enums : Enums) where
  -- The checks of steps, and those of steps behind them, are the checks of both.
  pub asked_then : (before behind : List PlainStep) (x : Stages) (lines : List ℕ) (cs ds : List AnsweredCheck) (between rest : List ℕ) → AreAsked enums before x lines cs between → AreAsked enums behind (stages_behind enums before x) between ds rest
      → AreAsked enums (before ++ behind) x lines (cs ++ ds) rest
  asked_then [] behind x lines [] ds between rest a b = subst (λ (l : List ℕ). AreAsked enums behind x l ds rest) a b
  asked_then [] behind x lines (c ∷ cs) ds between rest a b = absurd a
  asked_then (AssertStep ts ∷ before) behind x lines cs ds between rest a b = asked_then before behind (stages_of_step enums (AssertStep ts) x) (lines ++ text_of_step enums (AssertStep ts) x) cs ds between rest a b
  asked_then (PushStep ∷ before) behind x lines cs ds between rest a b = asked_then before behind (stages_of_step enums PushStep x) (lines ++ text_of_step enums PushStep x) cs ds between rest a b
  asked_then (PopStep ∷ before) behind x lines cs ds between rest a b = asked_then before behind (stages_of_step enums PopStep x) (lines ++ text_of_step enums PopStep x) cs ds between rest a b
  asked_then (CheckStep ∷ before) behind x lines [] ds between rest a b = absurd a
  asked_then (CheckStep ∷ before) behind x lines (c ∷ cs) ds between rest a b = (a.0, asked_then before behind x [] cs ds between rest a.1 b)

  -- steps without checks ask nothing
  pub asked_nothing : (steps : List PlainStep) (x : Stages) (lines : List ℕ) → checks_in steps ≡ zero → AreAsked enums steps x lines [] (lines ++ text_behind enums steps x)
  asked_nothing [] x lines h = append-nil lines
  asked_nothing (AssertStep ts ∷ steps) x lines h =
      let one = text_of_step enums (AssertStep ts) x in
      let y = stages_of_step enums (AssertStep ts) x in
      subst (λ (l : List ℕ). AreAsked enums steps y (lines ++ one) [] l) (append_assoc lines one (text_behind enums steps y)) (asked_nothing steps y (lines ++ one) h)
  asked_nothing (PushStep ∷ steps) x lines h =
      let one = text_of_step enums PushStep x in
      let y = stages_of_step enums PushStep x in
      subst (λ (l : List ℕ). AreAsked enums steps y (lines ++ one) [] l) (append_assoc lines one (text_behind enums steps y)) (asked_nothing steps y (lines ++ one) h)
  asked_nothing (PopStep ∷ steps) x lines h =
      let one = text_of_step enums PopStep x in
      let y = stages_of_step enums PopStep x in
      subst (λ (l : List ℕ). AreAsked enums steps y (lines ++ one) [] l) (append_assoc lines one (text_behind enums steps y)) (asked_nothing steps y (lines ++ one) h)
  asked_nothing (CheckStep ∷ steps) x lines h = absurd (cc)

  -- What was sent for the checks of steps is their text, with a line for each check.
  pub asked_text : (steps : List PlainStep) (x : Stages) (lines : List ℕ) (cs : List AnsweredCheck) (rest : List ℕ) → AreAsked enums steps x lines cs rest → sent_for cs ++ rest ≡ lines ++ text_behind enums steps x
  asked_text [] x lines [] rest a = a ∙ sym (append-nil lines)
  asked_text [] x lines (c ∷ cs) rest a = absurd a
  asked_text (AssertStep ts ∷ steps) x lines cs rest a =
      let y = stages_of_step enums (AssertStep ts) x in
      asked_text steps y (lines ++ text_of_step enums (AssertStep ts) x) cs rest a ∙ append_assoc lines (text_of_step enums (AssertStep ts) x) (text_behind enums steps y)
  asked_text (PushStep ∷ steps) x lines cs rest a =
      let y = stages_of_step enums PushStep x in
      asked_text steps y (lines ++ text_of_step enums PushStep x) cs rest a ∙ append_assoc lines (text_of_step enums PushStep x) (text_behind enums steps y)
  asked_text (PopStep ∷ steps) x lines cs rest a =
      let y = stages_of_step enums PopStep x in
      asked_text steps y (lines ++ text_of_step enums PopStep x) cs rest a ∙ append_assoc lines (text_of_step enums PopStep x) (text_behind enums steps y)
  asked_text (CheckStep ∷ steps) x lines [] rest a = absurd a
  asked_text (CheckStep ∷ steps) x lines (c ∷ cs) rest a =
      append_assoc c.lines (check_sat_text ++ sent_for cs) rest
      ∙ ap (λ (l : List ℕ). l ++ ((check_sat_text ++ sent_for cs) ++ rest)) a.0
      ∙ ap (λ (l : List ℕ). lines ++ l) (append_assoc check_sat_text (sent_for cs) rest ∙ ap (λ (l : List ℕ). check_sat_text ++ l) (asked_text steps x [] cs rest a.1))
