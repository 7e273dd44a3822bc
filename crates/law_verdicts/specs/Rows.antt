-- Worked examples: texts, and what the machine puts for them.
use Rattle.std.specs.Prelude.{◌≡◌, ℕ, codes, map, List, [], ◌∷◌, ◌++◌}
use Rattle.law_scripts.specs.Script.{CheckSat, Command, DeclareConst, Holds, stated}
use Rattle.law_scripts.specs.Rows.{sample}
use Rattle.law_scripts.specs.Sorts.{bool_sort}
use Rattle.law_verdicts.specs.Machine.{new, put_for}

-- The text is commands, and these bytes are put for them.
pub record PutsFor (text out : List ℕ) : Type 0 where
  pub commands : List Command
  pub holds : Holds text commands
  pub put : put_for new (map stated commands) ≡ out

-- twenty-one names of one letter each, one more than the constants that are tried
abbrev pub letters : List (List ℕ)
letters = map (λ b. b ∷ []) (codes "abcdefghijklmnopqrstu")

-- one constant of each of these names, and a check
abbrev pub declared_and_checked : List (List ℕ) → List Command
declared_and_checked [] = CheckSat ∷ []
declared_and_checked (n ∷ ns) = DeclareConst n bool_sort ∷ declared_and_checked ns

-- texts with what is put for them: a model that is shown, a script without one, refusals, and what lies outside the fragment
pub record SmallSamples : Type 0 where
  -- a script with one model, which is shown
  pub shown : PutsFor (sample ++ (codes "(check-sat)\n" ++ codes "(get-model)\n")) (codes "sat\n(\n  (define-fun t0 () Bool false)\n)\n")
  -- a script without one
  pub without : PutsFor (codes "(assert false)\n" ++ codes "(check-sat)\n") (codes "unsat\n")
  -- a name that nothing declares
  pub refused : PutsFor (codes "(assert x)\n") (codes "(error \"not a script\")\n")
  -- one constant too many
  pub many : put_for new (map stated (declared_and_checked letters)) ≡ codes "unknown\n"
  -- a model is shown directly behind `sat` alone
  pub late : PutsFor (codes "(check-sat)\n" ++ (codes "(assert true)\n" ++ codes "(get-model)\n")) (codes "sat\n(error \"no model\")\n")
  -- a constant of another sort, and an operator in place of a formula, are outside, and `reset` does not help
  pub outside : PutsFor (codes "(declare-const x String)\n" ++ (codes "(reset)\n" ++ codes "(check-sat)\n")) (codes "unknown\n")
  pub operator : PutsFor (codes "(assert bvadd)\n" ++ codes "(check-sat)\n") (codes "unknown\n")
  -- the first of three models
  pub first :
      PutsFor
      (codes "(declare-const x Bool)\n"
      ++ (codes "(declare-const y Bool)\n" ++ (codes "(assert (or x y))\n" ++ (codes "(check-sat)\n" ++ codes "(get-model)\n"))))
      (codes "sat\n(\n  (define-fun x () Bool false)\n  (define-fun y () Bool true)\n)\n")
  -- nothing is put behind `exit`
  pub ended : PutsFor (codes "(exit)\n" ++ codes "(check-sat)\n") []
