-- Lists of expressions with too few parts, or too many, and the sections of an input together.
use Rattle.std.proofs.Common.{◌≡◌, ℕ, ◌<◌, ◌≤◌, List, [], ◌∷◌, Option, Some, None, Ok, Err, codes, get_or, length, option_map, refl, sym, ap, ◌∙◌, arith}
use Rattle.std.specs.Option.{option_and_then}
use Rattle.law_assignments.specs.Outcomes.{InputFault, FormlessInput}
use Rattle.law_assignments.specs.Written.{WrittenInput, WrittenTable, entries_in, get_written, sections_written, table_inside, table_written, variable_written}
use Rattle.law_terms.specs.Plain.{PlainType}
use Rattle.law_texts.specs.Outcomes.{demanded}
use Rattle.law_texts.specs.Reading.{Expression}
use Rattle.smt_sexpr.specs.View.{plain, plain_list}
use Rattle.smt_sexpr.specs.declared.expression.SExpr.{SExpr}
use Rattle.smt_eval.proofs.InputReading.{not_there, there}

pub few_in_table : (xs : List SExpr) → length xs < 2 → table_inside (plain_list xs) ≡ None
few_in_table [] l = refl
few_in_table (x ∷ []) l = refl
few_in_table (x ∷ y ∷ xs) l = absurd (omega (arith, l))

pub few_sections : (xs : List SExpr) → length xs < 5 → sections_written (plain_list xs) ≡ None
few_sections [] l = refl
few_sections (a ∷ []) l = refl
few_sections (a ∷ b ∷ []) l = refl
few_sections (a ∷ b ∷ c ∷ []) l = refl
few_sections (a ∷ b ∷ c ∷ d ∷ []) l = refl
few_sections (a ∷ b ∷ c ∷ d ∷ e ∷ xs) l = absurd (omega (arith, l))

pub many_sections : (xs : List SExpr) → 6 ≤ length xs → sections_written (plain_list xs) ≡ None
many_sections (a ∷ b ∷ c ∷ d ∷ e ∷ f ∷ xs) l = refl
many_sections [] l = absurd (omega (arith, l))
many_sections (a ∷ []) l = absurd (omega (arith, l))
many_sections (a ∷ b ∷ []) l = absurd (omega (arith, l))
many_sections (a ∷ b ∷ c ∷ []) l = absurd (omega (arith, l))
many_sections (a ∷ b ∷ c ∷ d ∷ []) l = absurd (omega (arith, l))
many_sections (a ∷ b ∷ c ∷ d ∷ e ∷ []) l = absurd (omega (arith, l))

-- ---- the sections together

module _ (j : Expression) (V : Option (List (List ℕ × Expression))) (F : Option (List WrittenTable)) (G : Option (List (PlainType × Expression))) (S : Option (List WrittenTable)) where
  abbrev pub together : Option WrittenInput
  together = option_and_then (λ vs. option_and_then (λ fs. option_and_then (λ gs. option_map (λ ss. record { job = j; variables = vs; functions = fs; gets = gs; selectors = ss }) S) G) F) V

module _ (xs : List SExpr) (a b c d e : SExpr) (l : 5 ≤ length xs) (m : length xs < 6) (is_a : a ≡ get_or xs 0 a) (is_b : b ≡ get_or xs 1 b) (is_c : c ≡ get_or xs 2 c) (is_d : d ≡ get_or xs 3 d) (is_e : e ≡ get_or xs 4 e) where
  abbrev V : Option (List (List ℕ × Expression))
  V = entries_in (codes "vars") variable_written (plain b)

  abbrev F : Option (List WrittenTable)
  F = entries_in (codes "funs") table_written (plain c)

  abbrev G : Option (List (PlainType × Expression))
  G = entries_in (codes "gets") get_written (plain d)

  abbrev S : Option (List WrittenTable)
  S = entries_in (codes "selectors") table_written (plain e)

  five : sections_written (plain_list xs) ≡ together (plain a) V F G S
  five = go xs l m is_a is_b is_c is_d is_e
    where
      go : (ys : List SExpr) → 5 ≤ length ys → length ys < 6 → a ≡ get_or ys 0 a → b ≡ get_or ys 1 b → c ≡ get_or ys 2 c → d ≡ get_or ys 3 d → e ≡ get_or ys 4 e → sections_written (plain_list ys) ≡ together (plain a) V F G S
      go (p ∷ q ∷ r ∷ s ∷ t ∷ []) l m x y z u v = λ i. sections_written (plain_list (sym x i ∷ sym y i ∷ sym z i ∷ sym u i ∷ sym v i ∷ []))
      go [] l m x y z u v = absurd (omega (arith, l))
      go (p ∷ []) l m x y z u v = absurd (omega (arith, l))
      go (p ∷ q ∷ []) l m x y z u v = absurd (omega (arith, l))
      go (p ∷ q ∷ r ∷ []) l m x y z u v = absurd (omega (arith, l))
      go (p ∷ q ∷ r ∷ s ∷ []) l m x y z u v = absurd (omega (arith, l))
      go (p ∷ q ∷ r ∷ s ∷ t ∷ w ∷ ys) l m x y z u v = absurd (omega (arith, m))

  module _ (vs : List (List ℕ × Expression)) (is_v : demanded FormlessInput V ≡ Ok vs) where
    pub no_functions : (f : InputFault) → demanded FormlessInput F ≡ Err f → demanded FormlessInput (sections_written (plain_list xs)) ≡ Err f
    no_functions f h =
        let n = not_there F f h in
        ap (demanded FormlessInput) (five ∙ ap (λ o. together (plain a) o F G S) (there V vs is_v) ∙ ap (λ o. together (plain a) (Some vs) o G S) n.0) ∙ ap Err n.1

    module _ (fs : List WrittenTable) (is_f : demanded FormlessInput F ≡ Ok fs) where
      pub no_gets : (f : InputFault) → demanded FormlessInput G ≡ Err f → demanded FormlessInput (sections_written (plain_list xs)) ≡ Err f
      no_gets f h =
          let n = not_there G f h in
          ap (demanded FormlessInput)
          (five ∙ ap (λ o. together (plain a) o F G S) (there V vs is_v) ∙ ap (λ o. together (plain a) (Some vs) o G S) (there F fs is_f) ∙ ap (λ o. together (plain a) (Some vs) (Some fs) o S) n.0)
          ∙ ap Err n.1

      module _ (gs : List (PlainType × Expression)) (is_g : demanded FormlessInput G ≡ Ok gs) where
        three_there : sections_written (plain_list xs) ≡ together (plain a) (Some vs) (Some fs) (Some gs) S
        three_there =
            five ∙ ap (λ o. together (plain a) o F G S) (there V vs is_v) ∙ ap (λ o. together (plain a) (Some vs) o G S) (there F fs is_f) ∙ ap (λ o. together (plain a) (Some vs) (Some fs) o S) (there G gs is_g)

        pub no_selectors : (f : InputFault) → demanded FormlessInput S ≡ Err f → demanded FormlessInput (sections_written (plain_list xs)) ≡ Err f
        no_selectors f h = (let n = not_there S f h in ap (demanded FormlessInput) (three_there ∙ ap (together (plain a) (Some vs) (Some fs) (Some gs)) n.0) ∙ ap Err n.1)

        pub all_sections : (ss : List WrittenTable) → demanded FormlessInput S ≡ Ok ss → demanded FormlessInput (sections_written (plain_list xs)) ≡ Ok (record { job = plain a; variables = vs; functions = fs; gets = gs; selectors = ss })
        all_sections ss h = ap (demanded FormlessInput) (three_there ∙ ap (together (plain a) (Some vs) (Some fs) (Some gs)) (there S ss h))
