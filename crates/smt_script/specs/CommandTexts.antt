-- The bytes of the lines by which a script speaks to a solver, as SMT-LIB 2.7 spells these commands (chapter 3, Scripts).
use Rattle.std.specs.Prelude.{ℕ, codes, List, ◌++◌}

-- `(set-logic LOGIC)`, which names the logic of the script
abbrev pub set_logic_text : (logic : List ℕ) → List ℕ
set_logic_text logic = codes "(set-logic " ++ (logic ++ codes ")\n")

-- `(set-option :OPTION VALUE)`, which gives an option of the solver a value
abbrev pub set_option_text : (option value : List ℕ) → List ℕ
set_option_text option value = codes "(set-option :" ++ (option ++ (codes " " ++ (value ++ codes ")\n")))

-- `(check-sat)`, which asks whether the assertions have a model
abbrev pub check_sat_text : List ℕ
check_sat_text = codes "(check-sat)\n"

-- `(get-model)`, which asks for a model of the assertions
abbrev pub get_model_text : List ℕ
get_model_text = codes "(get-model)\n"

-- `(reset)`, which brings the solver back to its first state
abbrev pub reset_text : List ℕ
reset_text = codes "(reset)\n"

-- `(exit)`, which ends the session
abbrev pub exit_text : List ℕ
exit_text = codes "(exit)\n"
