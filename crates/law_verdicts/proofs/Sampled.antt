-- The worked examples.
use Rattle.std.proofs.Common.{ℕ, List, [], ◌∷◌, ◌++◌, refl, codes}
use Rattle.law_scripts.specs.Script.{Assert, CheckSat, Command, DeclareConst, DefineFun, Exit, GetModel, HasWholeLines, Holds, Reset, group, name}
use Rattle.law_scripts.specs.Sorts.{bool_sort, string_sort}
use Rattle.law_scripts.specs.Written.{IsLine, option_command, option_lines}
use Rattle.law_scripts.proofs.First.{applied_text, assert_line, declare_const_line, define_fun_line, option_is_line}
use Rattle.law_scripts.proofs.Laid.{groups_write, plain_lines}
use Rattle.law_scripts.proofs.Lines.{comments_are_lines, names_write}
use Rattle.law_lines.proofs.Spelled.{one_holds}
use Rattle.law_verdicts.specs.Rows.{SmallSamples}

-- whole lines that are these commands
abbrev Reads : List ℕ → List Command → Type 0
Reads text cs = Holds text cs × HasWholeLines text

none : Reads [] []
none = (record { reads = record { pieces = []; cut = record { spelled = refl; longest = refl }; tokens_are = refl }; plain = refl }, tt)

behind : (line rest : List ℕ) (cs ds : List Command) → IsLine line cs → Reads rest ds → Reads (line ++ rest) (cs ++ ds)
behind line rest cs ds l r = one_holds line rest cs ds l r

check_line : IsLine (codes "(check-sat)\n") (CheckSat ∷ [])
check_line = plain_lines.0

model_line : IsLine (codes "(get-model)\n") (GetModel ∷ [])
model_line = plain_lines.1

pub small_samples : SmallSamples
small_samples = record {
  shown = record {
    commands = _;
    holds = (behind option_lines _ (option_command ∷ []) _ option_is_line
        (behind (codes "; \"b\"\n") _ [] _ (comments_are_lines (codes " \"b\"") refl)
        (behind (codes "(declare-const t0 Bool)\n") _ (DeclareConst (codes "t0") bool_sort ∷ []) _ (declare_const_line (codes "t0") (codes "Bool") bool_sort refl (names_write (codes "Bool") refl))
        (behind (codes "(define-fun t1 () Bool (not t0))\n") _ (DefineFun (codes "t1") bool_sort (group (name (codes "not") ∷ name (codes "t0") ∷ [])) ∷ []) _
        (define_fun_line (codes "t1") (codes "Bool") (codes "(not t0)") bool_sort (group (name (codes "not") ∷ name (codes "t0") ∷ [])) refl (names_write (codes "Bool") refl) (applied_text (codes "not") (codes "t0") (name (codes "t0")) refl (names_write (codes "t0") refl)))
        (behind (codes "(assert t1)\n") _ (Assert (name (codes "t1")) ∷ []) _ (assert_line (codes "t1") (name (codes "t1")) (names_write (codes "t1") refl))
        (behind (codes "(check-sat)\n") _ (CheckSat ∷ []) _ check_line (behind (codes "(get-model)\n") [] (GetModel ∷ []) [] model_line none))))))).0;
    put = refl;
  };
  without = record {
    commands = _;
    holds = (behind (codes "(assert false)\n") _ (Assert (name (codes "false")) ∷ []) _ (assert_line (codes "false") (name (codes "false")) (names_write (codes "false") refl)) (behind (codes "(check-sat)\n") [] (CheckSat ∷ []) [] check_line none)).0;
    put = refl;
  };
  refused = record { commands = _; holds = (behind (codes "(assert x)\n") [] (Assert (name (codes "x")) ∷ []) [] (assert_line (codes "x") (name (codes "x")) (names_write (codes "x") refl)) none).0; put = refl };
  many = refl;
  late = record {
    commands = _;
    holds = (behind (codes "(check-sat)\n") _ (CheckSat ∷ []) _ check_line
        (behind (codes "(assert true)\n") _ (Assert (name (codes "true")) ∷ []) _ (assert_line (codes "true") (name (codes "true")) (names_write (codes "true") refl)) (behind (codes "(get-model)\n") [] (GetModel ∷ []) [] model_line none))).0;
    put = refl;
  };
  outside = record {
    commands = _;
    holds = (behind (codes "(declare-const x String)\n") _ (DeclareConst (codes "x") string_sort ∷ []) _ (declare_const_line (codes "x") (codes "String") string_sort refl (names_write (codes "String") refl))
        (behind (codes "(reset)\n") _ (Reset ∷ []) _ plain_lines.2 (behind (codes "(check-sat)\n") [] (CheckSat ∷ []) [] check_line none))).0;
    put = refl;
  };
  operator = record {
    commands = _;
    holds = (behind (codes "(assert bvadd)\n") _ (Assert (name (codes "bvadd")) ∷ []) _ (assert_line (codes "bvadd") (name (codes "bvadd")) (names_write (codes "bvadd") refl)) (behind (codes "(check-sat)\n") [] (CheckSat ∷ []) [] check_line none)).0;
    put = refl;
  };
  first = record {
    commands = _;
    holds = (behind (codes "(declare-const x Bool)\n") _ (DeclareConst (codes "x") bool_sort ∷ []) _ (declare_const_line (codes "x") (codes "Bool") bool_sort refl (names_write (codes "Bool") refl))
        (behind (codes "(declare-const y Bool)\n") _ (DeclareConst (codes "y") bool_sort ∷ []) _ (declare_const_line (codes "y") (codes "Bool") bool_sort refl (names_write (codes "Bool") refl))
        (behind (codes "(assert (or x y))\n") _ (Assert (group (name (codes "or") ∷ name (codes "x") ∷ name (codes "y") ∷ [])) ∷ []) _
        (assert_line (codes "(or x y)") (group (name (codes "or") ∷ name (codes "x") ∷ name (codes "y") ∷ []))
        (groups_write (codes "or") (name (codes "or")) (record { text = codes "x"; expr = name (codes "x") } ∷ record { text = codes "y"; expr = name (codes "y") } ∷ []) [] (names_write (codes "or") refl) (names_write (codes "x") refl, (names_write (codes "y") refl, tt)) refl))
        (behind (codes "(check-sat)\n") _ (CheckSat ∷ []) _ check_line (behind (codes "(get-model)\n") [] (GetModel ∷ []) [] model_line none))))).0;
    put = refl;
  };
  ended = record { commands = _; holds = (behind (codes "(exit)\n") _ (Exit ∷ []) _ plain_lines.3 (behind (codes "(check-sat)\n") [] (CheckSat ∷ []) [] check_line none)).0; put = refl };
}
