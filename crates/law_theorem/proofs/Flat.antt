-- What is live is defined once, from the names and the inline texts of its parts.
use Rattle.std.proofs.Common.{◌≡◌, ℕ, Bool, true, false, List, [], ◌∷◌, refl, sym, ap, ◌∙◌, subst, inl, inr, Option, Some, None}
use Rattle.std.specs.Prelude.{IsSome}
use Rattle.std.specs.List.{AllByRecursion}
use Rattle.law_terms.specs.Plain.{BitVecLiteral, BoolLiteral, EntityLiteral, ExtensionLiteral, StringLiteral, PlainOp, PlainType, EntityType, PlainTerm, Application, NoneTerm, LiteralTerm, RecordTerm, SetTerm, SomeTerm, VariableTerm, PlainTerms, no_terms, one_term, PlainFields, no_fields, one_field, list_of_terms}
use Rattle.law_terms.specs.Reached.{reached_terms}
use Rattle.law_terms.specs.TypeValues.{Enums, members_of}
use Rattle.law_texts.specs.Reading.{Expression}
use Rattle.law_scripts.specs.Script.{Entry, Defined, State, start, names_of}
use Rattle.law_scripts.specs.Sorts.{entries}
use Rattle.law_lines.specs.Entries.{HaveTexts, HaveFieldTexts, term_lines, text_or_nothing, application_lines, entity_literal_lines}
use Rattle.law_lines.specs.Fit.{EachLine, LineIsDeclared, PartsHaveEntries}
use Rattle.law_lines.specs.Line.{Line, DefineFun}
use Rattle.law_lines.specs.Lines.{Rendering, AsApplication, AsEqualsIntMin, AsFalse, application_rendering}
use Rattle.law_lines.specs.NameTables.{Tables, name_of_term}
use Rattle.law_lines.specs.Naming.{type_name}
use Rattle.law_lines.specs.TermTexts.{text_of, named_text}
use Rattle.law_lines.proofs.Declared.{terms_are_declared}
use Rattle.law_theorem.proofs.Standing.{of_entry}
use Rattle.law_theorem.specs.Fits.{HasDefinition, BelongsToAnEntry, DefinitionOrigin, Stage, FitsAt, FitsNow}
use Rattle.law_theorem.specs.FlatScripts.{parts_of, parts_of_fields, IsFlatText, IsDefinitionOf, IsFlatState, FittingStatesAreFlat}

-- ---- the texts of parts

named_flat : (s : Tables) (t : PlainTerm) (o : Option (List ℕ)) → name_of_term s t ≡ o → IsSome (named_text o) → IsFlatText s t (text_or_nothing (named_text o))
named_flat s t (Some n) e h = inl (n, e, refl)
named_flat s t None e h = absurd cc

text_flat : (s : Tables) (t : PlainTerm) → IsSome (text_of s t) → IsFlatText s t (text_or_nothing (text_of s t))
text_flat s (LiteralTerm (BitVecLiteral w n)) h = inr (BitVecLiteral w n, refl, refl)
text_flat s (LiteralTerm (BoolLiteral b)) h = inr (BoolLiteral b, refl, refl)
text_flat s (LiteralTerm (StringLiteral x)) h = inr (StringLiteral x, refl, refl)
text_flat s (LiteralTerm (EntityLiteral type id)) h = named_flat s (LiteralTerm (EntityLiteral type id)) (name_of_term s (LiteralTerm (EntityLiteral type id))) refl h
text_flat s (LiteralTerm (ExtensionLiteral x)) h = named_flat s (LiteralTerm (ExtensionLiteral x)) (name_of_term s (LiteralTerm (ExtensionLiteral x))) refl h
text_flat s (Application op ts type) h = named_flat s (Application op ts type) (name_of_term s (Application op ts type)) refl h
text_flat s (NoneTerm type) h = named_flat s (NoneTerm type) (name_of_term s (NoneTerm type)) refl h
text_flat s (RecordTerm fs) h = named_flat s (RecordTerm fs) (name_of_term s (RecordTerm fs)) refl h
text_flat s (SetTerm u ts) h = named_flat s (SetTerm u ts) (name_of_term s (SetTerm u ts)) refl h
text_flat s (SomeTerm t) h = named_flat s (SomeTerm t) (name_of_term s (SomeTerm t)) refl h
text_flat s (VariableTerm id type) h = named_flat s (VariableTerm id type) (name_of_term s (VariableTerm id type)) refl h

abbrev AreFlat : Tables → List PlainTerm → Type 0
AreFlat s ts = AllByRecursion (λ t. IsFlatText s t (text_or_nothing (text_of s t))) ts

texts_flat : (s : Tables) (ts : PlainTerms) → HaveTexts s ts → AreFlat s (list_of_terms ts)
texts_flat s no_terms h = tt
texts_flat s (one_term t ts) h = (text_flat s t h.0, texts_flat s ts h.1)

fields_flat : (s : Tables) (fs : PlainFields) → HaveFieldTexts s fs → AreFlat s (parts_of_fields fs)
fields_flat s no_fields h = tt
fields_flat s (one_field a t fs) h = (text_flat s t h.0, fields_flat s fs h.1)

parts_flat : (s : Tables) (t : PlainTerm) → PartsHaveEntries s t → AreFlat s (parts_of t)
parts_flat s (Application op ts type) h = texts_flat s ts h.0.0
parts_flat s (NoneTerm type) h = tt
parts_flat s (LiteralTerm l) h = tt
parts_flat s (RecordTerm fs) h = fields_flat s fs h.0
parts_flat s (SetTerm u ts) h = texts_flat s ts h.0
parts_flat s (SomeTerm t) h = (text_flat s t h.0, tt)
parts_flat s (VariableTerm id type) h = tt

-- ---- the line of a definition

-- one line, which defines the name
abbrev IsDefinition : List ℕ → List Line → Type 0
IsDefinition n ls = (sort : Expression) × (body : Expression) × (ls ≡ DefineFun n sort body ∷ [])

application_defined : (enums : Enums) (s : Tables) (m : Rendering) (op : PlainOp) (ts : PlainTerms) (type : PlainType) (n : List ℕ) → (m ≡ AsFalse → ⊥) → IsDefinition n (application_lines enums s m op ts type n)
application_defined enums s AsApplication op ts type n f = (_, _, refl)
application_defined enums s (AsEqualsIntMin w) op ts type n f = (_, _, refl)
application_defined enums s AsFalse op ts type n f = absurd (f refl)

entity_defined : (o : Option (List (List ℕ))) (sort id n : List ℕ) → o ≡ None → IsDefinition n (entity_literal_lines o sort id n)
entity_defined None sort id n e = (_, _, refl)
entity_defined (Some ms) sort id n e = absurd cc

term_defined : (enums : Enums) (s : Tables) (t : PlainTerm) (n : List ℕ) → HasDefinition enums t → IsDefinition n (term_lines enums s t n)
term_defined enums s (Application op ts type) n f = application_defined enums s (application_rendering op ts type) op ts type n f
term_defined enums s (NoneTerm type) n f = (_, _, refl)
term_defined enums s (LiteralTerm (EntityLiteral type id)) n f = entity_defined (members_of enums type) (type_name s (EntityType type)) id n f
term_defined enums s (LiteralTerm (ExtensionLiteral x)) n f = (_, _, refl)
term_defined enums s (LiteralTerm (BitVecLiteral w m)) n f = absurd f
term_defined enums s (LiteralTerm (BoolLiteral b)) n f = absurd f
term_defined enums s (LiteralTerm (StringLiteral x)) n f = absurd f
term_defined enums s (RecordTerm fs) n f = (_, _, refl)
term_defined enums s (SetTerm u ts) n f = (_, _, refl)
term_defined enums s (SomeTerm t) n f = (_, _, refl)
term_defined enums s (VariableTerm id type) n f = absurd f

-- ---- a state that fits

same_line : (n : List ℕ) (a b c d : Expression) → ◌≡◌ {A = Option Entry} (Some (Defined a b)) (Some (Defined c d)) → DefineFun n a b ∷ [] ≡ DefineFun n c d ∷ []
same_line n a b c d h = cc

module _ (enums : Enums) (x : Stage) (state : State) (f : FitsAt enums x state) where
  stated : (n : List ℕ) (sort body : Expression) → entries state n ≡ Some (Defined sort body) → (o : DefinitionOrigin enums (reached_terms x.terms) x.tables n) → IsDefinitionOf enums (reached_terms x.terms) x.tables state o.term n
  stated n sort body e o =
      let d = terms_are_declared enums x.tables state o.term n f.declared o.named in
      let l = term_defined enums x.tables o.term n o.defined in
      let there : entries state n ≡ Some (Defined l.0 l.1) = (subst (EachLine (LineIsDeclared state)) l.2 d.0).0 in
      record { sort = sort; body = body; live = e; reached = o.reached; named = o.named; line = l.2 ∙ same_line n l.0 l.1 sort body (sym there ∙ e); parts = parts_flat x.tables o.term d.1 }

  definition : (n : List ℕ) (sort body : Expression) → entries state n ≡ Some (Defined sort body) → (t : PlainTerm) × IsDefinitionOf enums (reached_terms x.terms) x.tables state t n
  definition n sort body e =
      let o = of_entry (BelongsToAnEntry enums (reached_terms x.terms) x.tables) (names_of state) f.only n (Defined sort body) e in
      (o.term, stated n sort body e o)

one_name : (o : Option (List ℕ)) (n m : List ℕ) → o ≡ Some n → o ≡ Some m → n ≡ m
one_name o n m h k = some_name (sym h ∙ k)
  where
    some_name : Some n ≡ Some m → n ≡ m
    some_name e = cc

once : (enums : Enums) (ts : List PlainTerm) (s : Tables) (state : State) (t : PlainTerm) (n m : List ℕ) → IsDefinitionOf enums (reached_terms ts) s state t n → IsDefinitionOf enums (reached_terms ts) s state t m → n ≡ m
once enums ts s state t n m d e = one_name (name_of_term s t) n m d.named e.named

pub fitting_states_are_flat : FittingStatesAreFlat
fitting_states_are_flat enums x state f = record { defines = definition enums x state f; once = once enums x.terms x.tables state }

-- ---- before and behind the first line

nothing_defined : (n : List ℕ) (y : Entry) → entries start n ≡ Some y → ⊥
nothing_defined n y h = cc

pub now_flat : (enums : Enums) (b : Bool) (x : Stage) (state : State) → FitsNow enums b x state → IsFlatState enums x.terms x.tables state
now_flat enums true x state f = fitting_states_are_flat enums x state f
now_flat enums false x state f = record {
  defines = λ n sort body e. absurd (nothing_defined n (Defined sort body) (ap (λ (u : State). entries u n) (sym f.1) ∙ e));
  once = once enums x.terms x.tables state;
}
