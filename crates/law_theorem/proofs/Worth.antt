-- What texts are worth in a script, where names keep what their lines give them.
use Rattle.std.proofs.Common.{◌≡◌, ℕ, true, List, ◌∷◌, refl, ap₂, ◌∙◌, Option, Some, None}
use Rattle.std.specs.Prelude.{IsSome, nat_lt, ◌^◌, ◌<◌}
use Rattle.std.proofs.lemmas.Bool.{false≢true, and_from, lt-ltb}
use Rattle.law_terms.specs.Plain.{ExtensionKind, PlainType, OptionType, ExtensionType, PlainOp, BitVecLiteral, BoolLiteral, EntityLiteral, ExtensionLiteral, StringLiteral, PlainTerm, Application, NoneTerm, LiteralTerm, RecordTerm, SetTerm, SomeTerm, VariableTerm, PlainTerms, no_terms, one_term}
use Rattle.law_terms.specs.Meaning.{meaning, meanings}
use Rattle.law_terms.specs.Tables.{Interpretation}
use Rattle.law_terms.specs.Types.{type_of, types_of}
use Rattle.law_terms.specs.Values.{Value}
use Rattle.law_terms.specs.TypeValues.{Enums, AreEnums}
use Rattle.law_terms.specs.TermOrder.{term_eq}
use Rattle.law_terms.proofs.TermTotal.{terms_decided}
use Rattle.law_scripts.specs.ScriptValues.{ScriptValue, BitsOf}
use Rattle.law_texts.specs.Reading.{Expression}
use Rattle.law_numbers.specs.Widths.{are_bits, is_width}
use Rattle.law_scripts.specs.Script.{State, Defined, name, names_of}
use Rattle.law_texts.specs.Options.{◌>>=◌}
use Rattle.law_scripts.specs.Sorts as sorts
use Rattle.law_scripts.specs.Sorts.{entries}
use Rattle.law_scripts.specs.Value as script
use Rattle.law_scripts.specs.Value.{ScriptInterpretation, expression_value}
use Rattle.law_scripts.specs.Meanings.{argument_values}
use Rattle.law_scripts.proofs.Laid.{bits_have_values}
use Rattle.law_lines.specs.EntryNames.{kind_name}
use Rattle.law_lines.specs.Lines.{bits, Rendering, AsApplication, AsEqualsIntMin, AsFalse, application_rendering}
use Rattle.law_lines.specs.NameTables.{Tables, name_of_term}
use Rattle.law_lines.specs.Naming.{IsOneToOne, type_sort, type_name}
use Rattle.law_lines.specs.Entries.{EachEntry, TypeHasEntries, text_or_nothing, texts_of, application_lines}
use Rattle.law_lines.specs.TermTexts.{named_text, text_of}
use Rattle.law_lines.specs.Fit.{Fit, EachLine, LineIsDeclared}
use Rattle.law_lines.proofs.Declared.{terms_are_declared}
use Rattle.law_lines.proofs.Known.{each_found}
use Rattle.law_theorem.specs.Carry.{carry}
use Rattle.law_theorem.specs.CarriedInterpretations.{carry_interpretation}
use Rattle.law_theorem.specs.CarriedOperators.{carry_each}
use Rattle.law_theorem.specs.Fits.{IsNamedRightly}
use Rattle.law_theorem.specs.TextValues.{NamesLast}

-- What the values of texts follow from: tables and a state that fit, and names that differ and last.
pub record Follows (enums : Enums) (s : Tables) (state : State) (I : Interpretation) : Type 0 where
  pub fit : Fit enums s state
  pub one_to_one : IsOneToOne s
  pub enum_types : AreEnums enums
  pub named : EachEntry (IsNamedRightly enums s) s.terms
  pub last : NamesLast (carry_interpretation enums s I) state
  pub kinds : (kind : ExtensionKind) → TypeHasEntries s (ExtensionType kind) → type_name s (ExtensionType kind) ≡ kind_name kind

module _ (enums : Enums) (s : Tables) (state : State) (I : Interpretation) where
  abbrev pub carried : ScriptInterpretation
  carried = carry_interpretation enums s I

  -- an expression has the carried value
  abbrev pub Worth : Expression → PlainType → Value → Type 0
  Worth e ty v = expression_value carried state e ≡ Some (carry enums s ty v)

  -- the texts of terms have their values
  abbrev pub AreWorth : PlainTerms → Type 0
  AreWorth no_terms = Unit {0}
  AreWorth (one_term t ts) = Worth (text_or_nothing (text_of s t)) (type_of t) (meaning I t) × AreWorth ts

  pub arguments : (ts : PlainTerms) → AreWorth ts → argument_values carried state (texts_of s ts) ≡ Some (carry_each enums s (types_of ts) (meanings I ts))
  arguments no_terms h = refl
  arguments (one_term t ts) h = ap₂ (λ (o : Option ScriptValue) (p : Option (List ScriptValue)). o >>= λ v. p >>= λ vs. Some (v ∷ vs)) h.0 (arguments ts h.1)

  pub bits_worth : (width number : ℕ) → are_bits width number ≡ true → expression_value carried state (bits width number) ≡ Some (BitsOf width number)
  bits_worth width number h = bits_have_values (entries state) (script.meaning carried (names_of state)) width number h

pub bits_fit : (width number : ℕ) → is_width width ≡ true → number < 2 ^ width → are_bits width number ≡ true
bits_fit width number w h = and_from (is_width width) (nat_lt number (2 ^ width)) w (lt-ltb number (2 ^ width) h)

pub some_text : (o : Option Expression) → IsSome o → o ≡ Some (text_or_nothing o)
some_text (Some e) h = refl
some_text None h = absurd (false≢true h)

-- types of which each term has an entry, with its sort
abbrev pub IsEntered : PlainType → Type 0
IsEntered (OptionType t) = Unit {0}
IsEntered (ExtensionType kind) = Unit {0}
IsEntered t = ⊥

module _ (enums : Enums) (s : Tables) (state : State) (I : Interpretation) (x : Follows enums s state I) where
  pub from_body : (n : List ℕ) (sort body : Expression) (o : Option ScriptValue) → entries state n ≡ Some (Defined sort body) → expression_value (carried enums s state I) state body ≡ o → expression_value (carried enums s state I) state (name n) ≡ o
  from_body n sort body o h k = (x.last.bodies n sort body h).1 ∙ k

  pub name_good : (t : PlainTerm) (n : List ℕ) → name_of_term s t ≡ Some n → IsNamedRightly enums s t n
  name_good t n h = each_found (IsNamedRightly enums s) (term_eq t) t (λ l q. (terms_decided t l).0 q) s.terms n h x.named

  -- an entry's text is its name
  pub by_name : (P : Expression → Type 0) (t : PlainTerm) (o : Option (List ℕ)) → name_of_term s t ≡ o → IsSome (named_text o) → ((n : List ℕ) → name_of_term s t ≡ Some n → P (name n)) → P (text_or_nothing (named_text o))
  by_name P t (Some n) e h f = f n e
  by_name P t None e h f = absurd (false≢true h)

  pub application_sorted : (m : Rendering) (op : PlainOp) (ts : PlainTerms) (type : PlainType) (n : List ℕ) → (m ≡ AsFalse → ⊥) → EachLine (LineIsDeclared state) (application_lines enums s m op ts type n) → sorts.expression_sort state (name n) ≡ Some (type_sort s type)
  application_sorted AsApplication op ts type n k h = (x.last.bodies n _ _ h.0).2
  application_sorted (AsEqualsIntMin w) op ts type n k h = (x.last.bodies n _ _ h.0).2
  application_sorted AsFalse op ts type n k h = absurd (k refl)

  -- The text of a term of such a type has the type's sort.
  pub text_sorted : (t : PlainTerm) → IsEntered (type_of t) → IsSome (text_of s t) → sorts.expression_sort state (text_or_nothing (text_of s t)) ≡ Some (type_sort s (type_of t))
  text_sorted (LiteralTerm (BitVecLiteral w n)) k h = absurd k
  text_sorted (LiteralTerm (BoolLiteral b)) k h = absurd k
  text_sorted (LiteralTerm (StringLiteral y)) k h = absurd k
  text_sorted (LiteralTerm (EntityLiteral type id)) k h = absurd k
  text_sorted (LiteralTerm (ExtensionLiteral y)) k h =
      let t = LiteralTerm (ExtensionLiteral y) in
      by_name (λ e. sorts.expression_sort state e ≡ Some (type_sort s (type_of t))) t _ refl h (λ n q. (x.last.bodies n _ _ (terms_are_declared enums s state t n x.fit q).0.0).2)
  text_sorted (Application op ts type) k h =
      let t = Application op ts type in
      by_name (λ e. sorts.expression_sort state e ≡ Some (type_sort s type)) t _ refl h (λ n q. application_sorted (application_rendering op ts type) op ts type n (name_good t n q) (terms_are_declared enums s state t n x.fit q).0)
  text_sorted (NoneTerm type) k h =
      by_name (λ e. sorts.expression_sort state e ≡ Some (type_sort s (OptionType type))) (NoneTerm type) _ refl h (λ n q. (x.last.bodies n _ _ (terms_are_declared enums s state (NoneTerm type) n x.fit q).0.0).2)
  text_sorted (RecordTerm fs) k h = absurd k
  text_sorted (SetTerm element ts) k h = absurd k
  text_sorted (SomeTerm u) k h =
      by_name (λ e. sorts.expression_sort state e ≡ Some (type_sort s (type_of (SomeTerm u)))) (SomeTerm u) _ refl h (λ n q. (x.last.bodies n _ _ (terms_are_declared enums s state (SomeTerm u) n x.fit q).0.0).2)
  text_sorted (VariableTerm id type) k h =
      by_name (λ e. sorts.expression_sort state e ≡ Some (type_sort s type)) (VariableTerm id type) _ refl h (λ n q. (x.last.constants n _ (terms_are_declared enums s state (VariableTerm id type) n x.fit q).0.1.0).1)
