-- An application to literals evaluates to a literal with its value.
use Rattle.std.proofs.Common.{◌≡◌, ℕ, ◌<◌, ◌≤◌, ◌^◌, true, false, cond, List, [], ◌∷◌, refl, ap, ◌∙◌, sym, subst, arith}
use Rattle.std.specs.Prelude.{Option, Some, None, IfSome}
use Rattle.std.specs.List.{AllByRecursion}
use Rattle.std.specs.Map.{lookup}
use Rattle.std.specs.Option.{unwrap_or}
use Rattle.std.proofs.Math.Nat.{zero-mod}
use Rattle.std.proofs.lemmas.Bool.{leb-false}
use Rattle.law_numbers.specs.BitOperators.{BitsOperator, BvshlOp, BvlshrOp, bits_entry}
use Rattle.law_numbers.specs.Shifts.{greatest_shift}
use Rattle.law_numbers.proofs.Moved.{left_far, right_far}
use Rattle.law_assignments.specs.Assignments.{is_of_other_family, table_of_literals, value_of_literal}
use Rattle.law_assignments.specs.Sound.{IsSoundTable, IsValueTerm}
use Rattle.law_assignments.proofs.FoldedLiterals.{IsLiteral}
use Rattle.law_assignments.proofs.Given.{found}
use Rattle.law_assignments.proofs.Literals.{all_given, literal_given, steady}
use Rattle.law_folding.specs.Built.{folded}
use Rattle.law_folding.specs.Builder.{folding}
use Rattle.law_folding.specs.FoldBits.{takes_right}
use Rattle.law_folding.specs.FoldFunctions.{choice_by, entry_at, folded_app}
use Rattle.law_folding.specs.AppOf.{IsAppOf}
use Rattle.law_folding.specs.Refinement.{Refines}
use Rattle.law_folding.proofs.BuiltTerms.{folded_stands}
use Rattle.law_folding.proofs.FunctionsStand.{app_valued}
use Rattle.law_folding.proofs.Standing.{same_meaning, same_type, valued}
use Rattle.law_terms.specs.Defaults.{default_interpretation}
use Rattle.law_terms.specs.Formed.{IsFormed}
use Rattle.law_terms.specs.Functions.{PlainDefinition, Defined, defining_terms, entry_terms}
use Rattle.law_terms.specs.Interpretations.{IsGiven, IsGivenOp}
use Rattle.law_terms.specs.Literals.{is_literal, are_literals}
use Rattle.law_terms.specs.Meaning.{meaning, term_value}
use Rattle.law_terms.specs.Operators.{apply_extension}
use Rattle.law_terms.specs.Plain.{PlainType, ExtensionOp, IpAddrV4Op, IpAddrV6Op, IpPrefixV4Op, IpPrefixV6Op, Ipv4Of, Ipv6Of, PlainOp, ExtensionLiteral, PlainTerm, Application, LiteralTerm, terms}
use Rattle.law_terms.specs.Reached.{reached_terms, selector_of_extension, subterms, subterms_of_all}
use Rattle.law_terms.specs.Tables.{Interpretation, value_at}
use Rattle.law_terms.specs.TermOrder.{term_eq}
use Rattle.law_terms.specs.Types.{type_of}
use Rattle.law_terms.specs.TypeValues.{Enums}
use Rattle.law_terms.specs.Typing.{Typed, typed}
use Rattle.law_terms.proofs.Defaults.{all-join}
use Rattle.law_terms.proofs.Shapes.{all-become}

-- r is a literal of the type of t, with the value that t has in I
pub record IsAnswer (I : Interpretation) (t r : PlainTerm) : Type 0 where
  pub literal : is_literal r ≡ true
  pub parts : typed r ≡ true
  pub type : type_of r ≡ type_of t
  pub formed : IsFormed r
  pub value : (J : Interpretation) → meaning J r ≡ meaning I t

-- the value of a literal is its value in the one interpretation
pub literal_meant : (J : Interpretation) (t : PlainTerm) → is_literal t ≡ true → typed t ≡ true → meaning J t ≡ value_of_literal t
literal_meant J t h y = steady J (default_interpretation []) t h ∙ sym (valued (default_interpretation []) t y)

-- ---- the operator's folding

pub folded_answers : (enums : Enums) (I : Interpretation) (o : PlainOp) (ts : List PlainTerm) (ty : PlainType) → are_literals (terms ts) ≡ true → typed (Application o (terms ts) ty) ≡ true → IsFormed (Application o (terms ts) ty) → IsGivenOp enums I o ty → IsLiteral (folded o ts ty) → IsAnswer I (Application o (terms ts) ty) (folded o ts ty)
folded_answers enums I o ts ty k h f g l =
    let u : PlainTerm = Application o (terms ts) ty in
    let s : Refines (folded o ts ty) u = folded_stands o ts ty h in
    record {
      literal = l;
      parts = (same_type (folded o ts ty) u s h).0;
      type = (same_type (folded o ts ty) u s h).1;
      formed = s.formed f;
      value = λ J. steady J I (folded o ts ty) l ∙ same_meaning (folded o ts ty) u s enums I h f (all-join (IsGiven enums I) (subterms_of_all (terms ts)) (u ∷ []) (all_given enums I (terms ts) k) (g, tt));
    }

-- ---- tables

each_given : (enums : Enums) (I : Interpretation) (ts : List PlainTerm) → AllByRecursion IsLiteral ts → AllByRecursion (IsGiven enums I) (reached_terms ts)
each_given enums I [] h = tt
each_given enums I (t ∷ ts) h = all-join (IsGiven enums I) (subterms t) (reached_terms ts) (literal_given enums I t h.0) (each_given enums I ts h.1)

of_entries : (P : PlainTerm → Type 0) (es : List (PlainTerm × PlainTerm)) → AllByRecursion (λ e. P e.0) es → AllByRecursion (λ e. P e.1) es → AllByRecursion P (entry_terms es)
of_entries P [] h k = tt
of_entries P (e ∷ es) h k = (h.0, (k.0, of_entries P es h.1 k.1))

module _ (enums : Enums) where
  or_else : (ty : PlainType) (o : Option PlainTerm) (t : PlainTerm) → IfSome o (IsValueTerm enums ty) → IsValueTerm enums ty t → IsValueTerm enums ty (unwrap_or o t)
  or_else ty (Some u) t h k = h
  or_else ty None t h k = k

  entry_found : (d : PlainDefinition) (t : PlainTerm) → IsSoundTable enums d → IsValueTerm enums d.output (entry_at d t)
  entry_found d t s = or_else d.output (lookup (term_eq t) d.entries) d.elsewhere (found (term_eq t) (λ k v. IsValueTerm enums d.output v) (IsValueTerm enums d.output) (λ k v e g. g) d.entries s.answers) s.elsewhere

  entry_valued : (d : PlainDefinition) (t : PlainTerm) → IsSoundTable enums d → IsLiteral t → Typed t d.argument → IsFormed t → value_of_literal (entry_at d t) ≡ value_at (table_of_literals d) (value_of_literal t)
  entry_valued d t s h y f =
      let D : Interpretation = default_interpretation [] in
      let keys : AllByRecursion (λ e. IsLiteral e.0) d.entries = all-become (λ e. IsValueTerm enums d.argument e.0) (λ e. IsLiteral e.0) (λ e g. g.literal) d.entries s.keys in
      let answers : AllByRecursion (λ e. IsLiteral e.1) d.entries = all-become (λ e. IsValueTerm enums d.output e.1) (λ e. IsLiteral e.1) (λ e g. g.literal) d.entries s.answers in
      let formed : AllByRecursion IsFormed (t ∷ defining_terms (Defined d)) = (
        f,
        (s.elsewhere.formed, of_entries IsFormed d.entries (all-become (λ e. IsValueTerm enums d.argument e.0) (λ e. IsFormed e.0) (λ e g. g.formed) d.entries s.keys) (all-become (λ e. IsValueTerm enums d.output e.1) (λ e. IsFormed e.1) (λ e g. g.formed) d.entries s.answers)),
      ) in
      let v : IsAppOf (Defined d) t (folded_app (Defined d) t) = app_valued (Defined d) t keys (record {
        keys = all-become (λ e. IsValueTerm enums d.argument e.0) (λ e. Typed e.0 d.argument) (λ e g. g.type) d.entries s.keys;
        answers = all-become (λ e. IsValueTerm enums d.output e.1) (λ e. Typed e.1 d.output) (λ e g. g.type) d.entries s.answers;
        elsewhere = s.elsewhere.type;
      }) y formed in
      subst (λ b. term_value D (cond b (entry_at d t) (choice_by folding d t)) ≡ value_at (table_of_literals d) (value_of_literal t)) h
      (v.value [] D (each_given [] D (t ∷ defining_terms (Defined d)) (h, (s.elsewhere.literal, of_entries IsLiteral d.entries keys answers))))

  -- an entry of the table, where the term has the table's value
  pub entry_answers : (I : Interpretation) (d : PlainDefinition) (t u : PlainTerm) → IsSoundTable enums d → IsLiteral t → Typed t d.argument → IsFormed t → d.output ≡ type_of u → meaning I u ≡ value_at (table_of_literals d) (meaning I t) → IsAnswer I u (entry_at d t)
  entry_answers I d t u s h y f p e =
      let g : IsValueTerm enums d.output (entry_at d t) = entry_found d t s in
      record {
        literal = g.literal;
        parts = g.type.parts;
        type = g.type.type ∙ p;
        formed = g.formed;
        value = λ J. literal_meant J (entry_at d t) g.literal g.type.parts ∙ (entry_valued d t s h y f ∙ (ap (value_at (table_of_literals d)) (sym (literal_meant I t h y.parts)) ∙ sym e));
      }

-- ---- shifts by too many places

pub far_is_zero : (o : BitsOperator) (n x y : ℕ) → n ≤ 128 → takes_right o y ≡ false → 0 ≡ (bits_entry o).function n x y
far_is_zero BvshlOp n x y h e = let k : greatest_shift < y = leb-false y greatest_shift e in left_far n x y 0 (omega arith) (sym (zero-mod (2 ^ n)))
far_is_zero BvlshrOp n x y h e = let k : greatest_shift < y = leb-false y greatest_shift e in right_far n x y 0 (omega arith) (sym (zero-mod (2 ^ n)))
far_is_zero o n x y h e = cc

-- ---- selectors at the other family

pub other_selector : (o : ExtensionOp) (t : PlainTerm) → is_of_other_family o t ≡ true → selector_of_extension o ≡ Some o
other_selector IpAddrV4Op t h = refl
other_selector IpAddrV6Op t h = refl
other_selector IpPrefixV4Op t h = refl
other_selector IpPrefixV6Op t h = refl
other_selector o t h = cc

pub other_value : (I : Interpretation) (o : ExtensionOp) (t : PlainTerm) → is_of_other_family o t ≡ true → apply_extension I o (meaning I t) ≡ value_at (I.other_family o) (meaning I t)
other_value I IpAddrV4Op (LiteralTerm (ExtensionLiteral (Ipv6Of x p))) h = refl
other_value I IpPrefixV4Op (LiteralTerm (ExtensionLiteral (Ipv6Of x p))) h = refl
other_value I IpAddrV6Op (LiteralTerm (ExtensionLiteral (Ipv4Of x p))) h = refl
other_value I IpPrefixV6Op (LiteralTerm (ExtensionLiteral (Ipv4Of x p))) h = refl
other_value I o t h = cc
