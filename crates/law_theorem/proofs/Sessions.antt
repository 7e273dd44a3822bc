-- Sessions keep that a text and stages fit, and what fits has the main theorem.
use Rattle.std.proofs.Common.{ℕ, Bool, true, false, List, [], ◌∷◌, ◌++◌, inl, inr, sym, subst, append_assoc}
use Rattle.std.proofs.lemmas.List.{append-nil}
use Rattle.law_terms.specs.TypeValues.{Enums}
use Rattle.law_terms.specs.Defaults.{default_interpretation}
use Rattle.law_terms.specs.Interpretations.{IsInterpretation}
use Rattle.law_terms.proofs.Defaults.{interpreted}
use Rattle.law_scripts.specs.Script.{State}
use Rattle.law_lines.specs.Line.{spelled_lines}
use Rattle.law_lines.specs.Lines.{lines_of_call}
use Rattle.law_theorem.specs.Fits.{Stage, Stages, Fits, FitsNow, encoding_of, stages_after}
use Rattle.law_theorem.specs.Sessions.{CallStep, LineStep, ChangesNothing, SessionsKeepFit, FittingTextsAreScripts, stages_after_steps, text_of_steps}
use Rattle.law_theorem.proofs.FineTerms.{parts_typed}
use Rattle.law_theorem.proofs.FitKept.{calls_keep_fit, comments_keep_fit, fitting_texts_represent, idle_lines_keep_fit}

idle_line : (enums : Enums) (text line : List ℕ) (x : Stages) → Fits enums text x → ChangesNothing line → Fits enums (text ++ line) x
idle_line enums text line x f (inl comment) = comments_keep_fit enums text line x f comment
idle_line enums text line x f (inr (c, idle, is)) = idle_lines_keep_fit enums text line x c f idle is

behind : (enums : Enums) (text one more : List ℕ) (x : Stages) → Fits enums ((text ++ one) ++ more) x → Fits enums (text ++ (one ++ more)) x
behind enums text one more x f = subst (λ (bytes : List ℕ). Fits enums bytes x) (append_assoc text one more) f

pub sessions_keep_fit : SessionsKeepFit
sessions_keep_fit enums text x [] f s = subst (λ (bytes : List ℕ). Fits enums bytes x) (sym (append-nil text)) f
sessions_keep_fit enums text x (CallStep c ∷ steps) f s =
    let one = spelled_lines (lines_of_call enums c (encoding_of x)) in
    let y = stages_after enums c x in
    behind enums text one (text_of_steps enums steps y) (stages_after_steps enums steps y) (sessions_keep_fit enums (text ++ one) y steps (calls_keep_fit enums text x c f s.0) s.1)
sessions_keep_fit enums text x (LineStep line ∷ steps) f s =
    behind enums text line (text_of_steps enums steps x) (stages_after_steps enums steps x) (sessions_keep_fit enums (text ++ line) x steps (idle_line enums text line x f s.0) s.1)

-- the terms have an interpretation, since they are typed and have no fault
have_interpretation : (enums : Enums) (b : Bool) (x : Stage) (state : State) → FitsNow enums b x state → IsInterpretation enums x.terms (default_interpretation enums)
have_interpretation enums true x state f = interpreted enums x.terms (parts_typed x.terms f.conditions.are_typed) f.conditions.have_no_fault
have_interpretation enums false x state f = subst (λ (y : Stage). IsInterpretation enums y.terms (default_interpretation enums)) (sym f.0) tt

pub fitting_texts_are_scripts : FittingTextsAreScripts
fitting_texts_are_scripts enums text x f = record {
  state = f.state;
  script = f.script;
  represents = fitting_texts_represent enums text x f;
  interpreted = have_interpretation enums x.begun x.now f.state f.now;
}
